-- How a script is run, and ends, early or at its end.
use Rattle.std.proofs.Common.{string_bytes, ◌≡◌, ◌⊎◌, ℕ, ◌+◌, ◌<◌, Bool, true, false, List, [], ◌++◌, length, Option, None, Some, MatchOption, Result, Ok, Err, IfErr, IfOk, OnOk, inl, inr, refl, sym, ◌∙◌, subst, length-append, arith}
use Rattle.std.specs.List.{AllByRecursion}
use Rattle.std.specs.Io.KnownBytes.{Appends, Consumes, IsAtEnd}
use Rattle.ft_transfer.specs.Disk.{FileTold}
use Rattle.ft_names.specs.Names.{Moment}
use Rattle.ft_script.specs.declared.playing.PlayFault.{PlayFault}
use Rattle.ft_script.specs.declared.playing.PlayFault.TheVariants.{Memory, Read, Write, TooLong, Turns}
use Rattle.ft_script.specs.declared.strictly.FailedLine.{FailedLine}
use Rattle.ft_script.specs.declared.strictly.StrictFault.{StrictFault}
use Rattle.ft_script.specs.declared.strictly.StrictFault.TheVariants.{Play, Line}
use Rattle.ft_words.specs.Spelling.{IsFreeOf}
use Rattle.ft_strict.specs.Strict.{AnswersStrictly}
use Rattle.ft_script.specs.Cutting.{Cuts, Fits, IsNext}
use Rattle.ft_script.specs.Reading.{GivesLine, StopsCutting, StopsReading}
use Rattle.ft_names.specs.Lines.{GivesText}
use Rattle.ft_script.specs.Gathering.{FailsGathering, Gathers, GathersLines, StopsAnswering, StopsGathering, StopsLastStrictly}
use Rattle.ft_script.specs.Runs.{Answers, AnswersFreely, IsTextOfRun, LosesReplies, MayAnswer, Plays, PlaysAll, StopsAt, StopsIn, StopsLine, StopsStrictly, WritesPart}
use Rattle.ft_script.proofs.Cutting.{cuts_none, cuts_read, cuts_more, all_ended, all_but_last_ended, fits_more}
use Rattle.ft_script.proofs.Gathered.{gathered}
use Rattle.ft_script.proofs.Running.{appends_apart, consumes_none, consumes_more, keeps_refl, no_part, part_more, plays_more, plays_none, plays_one}

-- So many lines were cut from what was read, and taken, and their replies written.
pub record Taken (answers : Answers) (left left_now : Option (List ℕ)) (uncut : List ℕ) (count : ℕ) (held held_now : Option (List ℕ)) (old now : Moment) : Type 0 where
  pub bytes : List ℕ
  pub lines : List (List ℕ)
  pub read : Consumes left left_now bytes
  pub cuts : Cuts bytes lines uncut
  pub counted : count ≡ length lines
  pub plays : Plays answers lines held held_now old now

pub taken_none : (answers : Answers) (left held : Option (List ℕ)) (old : Moment) (uncut : List ℕ) (count : ℕ) → uncut ≡ [] → count ≡ 0 → Taken answers left left uncut count held held old old
taken_none answers left held old uncut count none zero = record {
  bytes = [];
  lines = [];
  read = consumes_none left;
  cuts = subst (λ (rest : List ℕ). Cuts [] [] rest) (sym none) (cuts_none []);
  counted = zero;
  plays = plays_none answers held held old (keeps_refl held);
}

-- there was no memory before the first read
pub stops_at_first : (answers : Answers) (left held : Option (List ℕ)) (old : Moment) → StopsAt answers Memory left left held held old old
stops_at_first answers left held old =
    ([], consumes_none left, record { lines = []; rest = []; cuts = cuts_none []; held = held; state = old; taken = plays_none answers held held old (keeps_refl held); stopped = inl (keeps_refl held, refl) })

-- a fault, by why no line could be cut
stops_uncut : (answers : Answers) (fault : PlayFault) (ends : Type 0) (rest : List ℕ) (a : Option (List ℕ)) (old : Moment) → StopsCutting fault rest → StopsIn answers fault ends rest a a old old
stops_uncut answers Memory ends rest a old h = inl (keeps_refl a, refl)
stops_uncut answers Write ends rest a old h = absurd h
stops_uncut answers Read ends rest a old h = (h, (keeps_refl a, refl))
stops_uncut answers TooLong ends rest a old h = (h, (keeps_refl a, refl))
stops_uncut answers Turns ends rest a old h = (h, (keeps_refl a, refl))

-- a line that was cut comes next
next_of : (ends : Type 0) (bytes rest line : List ℕ) → GivesLine bytes rest line → IsNext ends bytes line
next_of ends bytes rest line given = record { free = given.free; fits = given.fits; ended = inl (rest, given.ended) }

-- a fault, by what became of the bytes behind the lines that were carried out
stops_answering : (answers : Answers) (fault : PlayFault) (ends : Type 0) (rest : List ℕ) (a : Option (List ℕ)) (old new : Moment) → StopsAnswering answers fault rest old new → StopsIn answers fault ends rest a a old new
stops_answering answers Memory ends rest a old new (inl h) = inl (keeps_refl a, h)
stops_answering answers Memory ends rest a old new (inr (behind, line, given, may)) = inr (line, next_of ends rest behind line given, keeps_refl a, may)
stops_answering answers TooLong ends rest a old new h = (h.0, (keeps_refl a, h.1))
stops_answering answers Read ends rest a old new h = absurd h
stops_answering answers Turns ends rest a old new h = absurd h
stops_answering answers Write ends rest a old new h = absurd h

-- ---- replies that are lost

module _ (answers : Answers) (ends : Type 0) (bytes rest : List ℕ) (a b : Option (List ℕ)) (old new : Moment) where
  -- those to lines, and to one more
  pub loses_lines : (on : Bool) (count count_after : ℕ) (line reply text : List ℕ) → GathersLines answers on bytes rest count count_after line reply text old new → WritesPart a b text → LosesReplies answers ends bytes a b old new
  loses_lines on count count_after line reply text h part = record {
    lines = h.lines;
    rest = h.behind;
    cuts = h.cuts;
    line = line;
    next = next_of ends h.behind rest line h.given;
    state = h.state;
    text = h.before;
    run = h.run;
    few = h.few;
    on = on;
    reply = reply;
    answered = h.answered;
    wrote = subst (WritesPart a b) h.whole part;
  }

  pub loses_gathered : (count count_after : ℕ) (text : List ℕ) → Gathers answers bytes rest count count_after text old new → WritesPart a b text → LosesReplies answers ends bytes a b old new
  loses_gathered count count_after text (inl h) part = absurd (no_part a b (subst (WritesPart a b) h.2 part))
  loses_gathered count count_after text (inr (line, reply, h)) part = loses_lines true count count_after line reply text h part

-- behind them a fault came
pub loses_stopped : (answers : Answers) (fault : PlayFault) (ends : Type 0) (bytes text : List ℕ) (a b : Option (List ℕ)) (old new : Moment) → StopsGathering answers fault bytes text old new → WritesPart a b text → LosesReplies answers ends bytes a b old new
loses_stopped answers fault ends bytes text a b old new h part = by_fault fault h.stops
  where
    as_gathered : new ≡ h.state → LosesReplies answers ends bytes a b old new
    as_gathered is = loses_gathered answers ends bytes h.rest a b old new h.count h.count_after text (subst (Gathers answers bytes h.rest h.count h.count_after text old) (sym is) h.gathers) part

    by_line : (behind line : List ℕ) → GivesLine h.rest behind line → MayAnswer answers line h.state new → LosesReplies answers ends bytes a b old new
    by_line behind line given (inl is) = as_gathered is
    by_line behind line given (inr (on, reply, answered)) =
        let all = gathered answers bytes h.rest h.count h.count_after text old h.state h.gathers in
        record {
          lines = all.lines;
          rest = h.rest;
          cuts = all.cuts;
          line = line;
          next = next_of ends h.rest behind line given;
          state = h.state;
          text = text;
          run = all.run;
          few = h.few;
          on = on;
          reply = reply;
          answered = answered;
          wrote = part_more a b text reply part;
        }

    by_fault : (f : PlayFault) → StopsAnswering answers f h.rest h.state new → LosesReplies answers ends bytes a b old new
    by_fault Memory (inl is) = as_gathered is
    by_fault Memory (inr (behind, line, given, may)) = by_line behind line given may
    by_fault TooLong k = as_gathered k.1
    by_fault Read k = absurd k
    by_fault Turns k = absurd k
    by_fault Write k = absurd k

-- what was gathered, however that ended
pub loses_any : {T : Type 0} (answers : Answers) (r : Result T PlayFault) (ends : Type 0) (bytes rest text : List ℕ) (count count_after : ℕ) (a b : Option (List ℕ)) (old new : Moment)
    → OnOk r (Gathers answers bytes rest count count_after text old new) → IfErr r (λ fault. StopsGathering answers fault bytes text old new) → WritesPart a b text → LosesReplies answers ends bytes a b old new
loses_any answers (Ok x) ends bytes rest text count count_after a b old new h k part = loses_gathered answers ends bytes rest a b old new count count_after text h part
loses_any answers (Err fault) ends bytes rest text count count_after a b old new h k part = loses_stopped answers fault ends bytes text a b old new k part

pub loses_any_strictly : {S : Type 0} (tells : FileTold → Type 0) (told : S → List ℕ) (r : Result (Option S) PlayFault) (ends : Type 0) (bytes rest line text : List ℕ) (count count_after : ℕ) (a b : Option (List ℕ)) (old new : Moment)
    → IfOk r (λ failed. MatchOption failed (Gathers (AnswersStrictly tells) bytes rest count count_after text old new) (λ reply. FailsGathering tells bytes count count_after line (told reply) text old new)) → IfErr r (λ fault. StopsGathering (AnswersStrictly tells) fault bytes text old new) → WritesPart a b text → LosesReplies (AnswersStrictly tells) ends bytes a b old new
loses_any_strictly tells told (Ok None) ends bytes rest line text count count_after a b old new h k part = loses_gathered (AnswersStrictly tells) ends bytes rest a b old new count count_after text h part
loses_any_strictly tells told (Ok (Some reply)) ends bytes rest line text count count_after a b old new h k part = loses_lines (AnswersStrictly tells) ends bytes h.0 a b old new false count count_after line (told reply) text h.1 part
loses_any_strictly tells told (Err fault) ends bytes rest line text count count_after a b old new h k part = loses_stopped (AnswersStrictly tells) fault ends bytes text a b old new k part

-- ---- behind lines that were taken

module _ (answers : Answers) (left left_now : Option (List ℕ)) (uncut : List ℕ) (count : ℕ) (held held_now : Option (List ℕ)) (old now : Moment) (taken : Taken answers left left_now uncut count held held_now old now) where
  -- more is read
  pub taken_read : (left_after : Option (List ℕ)) (uncut_after : List ℕ) (count_after : ℕ) → (read : List ℕ) × Consumes left_now left_after read × (uncut_after ≡ uncut ++ read) → count_after ≡ count → Taken answers left left_after uncut_after count_after held held_now old now
  taken_read left_after uncut_after count_after (more, consumes, is) same = record {
    bytes = taken.bytes ++ more;
    lines = taken.lines;
    read = consumes_more left left_now left_after taken.bytes more taken.read consumes;
    cuts = subst (Cuts (taken.bytes ++ more) taken.lines) (sym is) (cuts_read taken.bytes taken.lines uncut more taken.cuts);
    counted = same ∙ taken.counted;
    plays = taken.plays;
  }

  -- no line can be cut any more
  pub stops_at_read : (fault : PlayFault) (left_after : Option (List ℕ)) → StopsReading fault left_now left_after uncut → StopsAt answers fault left left_after held held_now old now
  stops_at_read fault left_after stops = (
    taken.bytes ++ stops.0,
    consumes_more left left_now left_after taken.bytes stops.0 taken.read stops.1,
    record {
      lines = taken.lines;
      rest = uncut ++ stops.0;
      cuts = cuts_read taken.bytes taken.lines uncut stops.0 taken.cuts;
      held = held_now;
      state = now;
      taken = taken.plays;
      stopped = stops_uncut answers fault (IsAtEnd left_after) (uncut ++ stops.0) held_now now stops.2;
    },
  )

  -- more lines are taken
  taken_lines : (lines : List (List ℕ)) (uncut_after : List ℕ) (count_after : ℕ) (text : List ℕ) (held_after : Option (List ℕ)) (new : Moment) → Cuts uncut lines uncut_after → IsTextOfRun answers now lines text new → count_after ≡ count + length lines → Appends held_now held_after text → Taken answers left left_now uncut_after count_after held held_after old new
  taken_lines lines uncut_after count_after text held_after new cuts run counted wrote = record {
    bytes = taken.bytes;
    lines = taken.lines ++ lines;
    read = taken.read;
    cuts = cuts_more taken.bytes taken.lines uncut lines uncut_after taken.cuts cuts;
    counted = omega (arith, taken.counted, counted, length-append taken.lines lines);
    plays = plays_more answers taken.lines lines text held held_now held_after old now new taken.plays run wrote;
  }

  pub taken_more : (uncut_after : List ℕ) (count_after : ℕ) (text : List ℕ) (held_after : Option (List ℕ)) (new : Moment) → Gathers answers uncut uncut_after count count_after text now new → Appends held_now held_after text → Taken answers left left_now uncut_after count_after held held_after old new
  taken_more uncut_after count_after text held_after new gathers wrote =
      let more = gathered answers uncut uncut_after count count_after text now new gathers in
      taken_lines more.lines uncut_after count_after text held_after new more.cuts more.run more.counted wrote

  -- a fault came behind the lines that were taken
  pub stops_here : (fault : PlayFault) (held_after : Option (List ℕ)) (new : Moment) → StopsIn answers fault (IsAtEnd left_now) uncut held_now held_after now new → StopsAt answers fault left left_now held held_after old new
  stops_here fault held_after new stops = (
    taken.bytes,
    taken.read,
    record {
      lines = taken.lines;
      rest = uncut;
      cuts = taken.cuts;
      held = held_now;
      state = now;
      taken = taken.plays;
      stopped = stops;
    },
  )

  -- replies were lost
  pub stops_lost : (held_after : Option (List ℕ)) (new : Moment) → LosesReplies answers (IsAtEnd left_now) uncut held_now held_after now new → StopsAt answers Write left left_now held held_after old new
  stops_lost held_after new lost = stops_here Write held_after new lost

  -- the script ends behind a line feed
  pub ends_here : IsAtEnd left_now → uncut ≡ [] → PlaysAll answers left left_now held held_now old now
  ends_here at_end none =
      let cuts = subst (Cuts taken.bytes taken.lines) none taken.cuts in
      let whole = sym (all_ended taken.bytes taken.lines cuts) in (
        taken.bytes,
        taken.read,
        at_end,
        subst (AllByRecursion Fits) whole cuts.fits,
        subst (λ lines. Plays answers lines held held_now old now) whole taken.plays,
      )

  -- the script ends with a line that has no line feed
  pub ends_with : (line text : List ℕ) (held_after : Option (List ℕ)) (new : Moment) → IsAtEnd left_now → (uncut ≡ line) × (0 < length line) × IsFreeOf 10 line × Fits line → answers true now line text new → Appends held_now held_after text → PlaysAll answers left left_now held held_after old new
  ends_with line text held_after new at_end last answered wrote =
      let cuts = subst (Cuts taken.bytes taken.lines) last.0 taken.cuts in
      let whole = sym (all_but_last_ended taken.bytes taken.lines line cuts last.2 last.1) in (
        taken.bytes,
        taken.read,
        at_end,
        subst (AllByRecursion Fits) whole (fits_more taken.lines line cuts.fits last.3),
        subst (λ lines. Plays answers lines held held_after old new) whole (plays_one answers taken.lines line text held held_now held_after old now new taken.plays answered wrote),
      )

-- the last line comes next
last_next : (ends : Type 0) (uncut line : List ℕ) → ends → (uncut ≡ line) × (0 < length line) × IsFreeOf 10 line × Fits line → IsNext ends uncut line
last_next ends uncut line at_end last = record { free = last.2; fits = last.3; ended = inr (at_end, last.0) }

-- a fault at the last line
pub stops_at_last : (answers : Answers) (fault : PlayFault) (ends : Type 0) (uncut line : List ℕ) (a b : Option (List ℕ)) (old new : Moment) → ends → (uncut ≡ line) × (0 < length line) × IsFreeOf 10 line × Fits line → StopsLine answers fault line a b old new → StopsIn answers fault ends uncut a b old new
stops_at_last answers Memory ends uncut line a b old new at_end last h = inr (line, last_next ends uncut line at_end last, h.0, h.1)
stops_at_last answers Write ends uncut line a b old new at_end last h = record {
  lines = [];
  rest = uncut;
  cuts = cuts_none uncut;
  line = line;
  next = last_next ends uncut line at_end last;
  state = old;
  text = [];
  run = (refl, refl);
  few = omega arith;
  on = h.0;
  reply = h.1;
  answered = h.2;
  wrote = h.3;
}
stops_at_last answers Read ends uncut line a b old new at_end last h = absurd h
stops_at_last answers TooLong ends uncut line a b old new at_end last h = absurd h
stops_at_last answers Turns ends uncut line a b old new at_end last h = absurd h

-- a fault came behind lines that were carried out, and the replies to them were written
pub stops_behind : (answers : Answers) (left left_now : Option (List ℕ)) (uncut : List ℕ) (count : ℕ) (held held_now held_after : Option (List ℕ)) (old now new : Moment) → Taken answers left left_now uncut count held held_now old now
    → (fault : PlayFault) (text : List ℕ) → StopsGathering answers fault uncut text now new → Appends held_now held_after text → StopsAt answers fault left left_now held held_after old new
stops_behind answers left left_now uncut count held held_now held_after old now new taken fault text h wrote =
    let more = gathered answers uncut h.rest h.count h.count_after text now h.state h.gathers in
    let all = taken_lines answers left left_now uncut count held held_now old now taken more.lines h.rest (count + length more.lines) text held_after h.state more.cuts more.run refl wrote in
    stops_here answers left left_now h.rest (count + length more.lines) held held_after old h.state all fault held_after new (stops_answering answers fault (IsAtEnd left_now) h.rest held_after h.state new h.stops)

-- ---- strict runs

-- a line is answered, and the run does not go on
pub fails_behind : (tells : FileTold → Type 0) (left left_now : Option (List ℕ)) (uncut rest : List ℕ) (count count_after : ℕ) (held held_now held_after : Option (List ℕ)) (old now new : Moment) → Taken (AnswersStrictly tells) left left_now uncut count held held_now old now
    → (line text : List ℕ) (failed : FailedLine) → GathersLines (AnswersStrictly tells) false uncut rest count count_after line (string_bytes failed.reply) text now new → Appends held_now held_after text → failed.number ≡ count_after → failed.line.items ≡ line
    → StopsStrictly tells (Line failed) left left_now held held_after old new
fails_behind tells left left_now uncut rest count count_after held held_now held_after old now new taken line text failed h wrote number bytes =
    let apart = appends_apart held_now held_after h.before (string_bytes failed.reply) (subst (Appends held_now held_after) h.whole wrote) in (
      taken.bytes,
      taken.read,
      record {
        lines = taken.lines ++ h.lines;
        rest = h.behind;
        cuts = cuts_more taken.bytes taken.lines uncut h.lines h.behind taken.cuts h.cuts;
        held = apart.0;
        state = h.state;
        taken = plays_more (AnswersStrictly tells) taken.lines h.lines h.before held held_now apart.0 old now h.state taken.plays h.run apart.1;
        stopped = (
          line,
          next_of (IsAtEnd left_now) h.behind rest line h.given,
          (h.answered, apart.2, omega (arith, number, h.counted, taken.counted, length-append taken.lines h.lines), bytes),
        );
      },
    )

-- a fault at the last line
pub stops_at_last_strictly : (tells : FileTold → Type 0) (left left_now : Option (List ℕ)) (uncut : List ℕ) (count : ℕ) (held held_now held_after : Option (List ℕ)) (old now new : Moment) → Taken (AnswersStrictly tells) left left_now uncut count held held_now old now
    → (fault : StrictFault) (line : List ℕ) (count_after : ℕ) → IsAtEnd left_now → (uncut ≡ line) × (0 < length line) × IsFreeOf 10 line × Fits line → count_after ≡ count + 1 → StopsLastStrictly tells fault count_after line held_now held_after now new
    → StopsStrictly tells fault left left_now held held_after old new
stops_at_last_strictly tells left left_now uncut count held held_now held_after old now new taken (Play fault) line count_after at_end last one_more h =
    stops_here (AnswersStrictly tells) left left_now uncut count held held_now old now taken fault held_after new
    (stops_at_last (AnswersStrictly tells) fault (IsAtEnd left_now) uncut line held_now held_after now new at_end last h)
stops_at_last_strictly tells left left_now uncut count held held_now held_after old now new taken (Line failed) line count_after at_end last one_more (answered, wrote, number, bytes) = (
  taken.bytes,
  taken.read,
  record {
    lines = taken.lines;
    rest = uncut;
    cuts = taken.cuts;
    held = held_now;
    state = now;
    taken = taken.plays;
    stopped = (line, last_next (IsAtEnd left_now) uncut line at_end last, (answered, wrote, omega (arith, number, one_more, taken.counted), bytes));
  },
)

-- ---- what became of a line

-- there was no memory for a line or its reply
pub wants_memory : (tells : FileTold → Type 0) (bytes : List ℕ) (old new : Moment) → (new ≡ old) ⊎ ((text : List ℕ) × GivesText tells old bytes text new) → MayAnswer (AnswersFreely tells) bytes old new
wants_memory tells bytes old new (inl h) = inl h
wants_memory tells bytes old new (inr h) = inr (true, h.0, (refl, h.1))

-- the reply was not written, or a part of it
pub part_written : (answers : Answers) (on : Bool) (fault : PlayFault) (bytes text : List ℕ) (a b : Option (List ℕ)) (old new : Moment) → answers on old bytes text new → WritesPart a b text → fault ≡ Write → StopsLine answers fault bytes a b old new
part_written answers on fault bytes text a b old new answered part is = subst (λ f. StopsLine answers f bytes a b old new) (sym is) (on, text, answered, part)

-- ---- what follows for an outcome

pub on_fault : {T E : Type 0} (P Q : E → Type 0) (r : Result T E) → ((e : E) → P e → Q e) → IfErr r P → IfErr r Q
on_fault P Q (Ok x) f h = tt
on_fault P Q (Err e) f h = f e h

pub on_done : {T E P Q : Type 0} (r : Result T E) → (P → Q) → OnOk r P → OnOk r Q
on_done (Ok x) f h = f h
on_done (Err e) f h = tt

pub of_none : {A : Type 0} (P : Type 0) (Q : A → Type 0) (o : Option A) → o ≡ None → MatchOption o P Q → P
of_none P Q None is h = h
of_none P Q (Some x) is h = cc

same_some : {A : Type 0} (x y : A) → Some y ≡ Some x → y ≡ x
same_some x y is = cc

pub of_some : {A : Type 0} (P : Type 0) (Q : A → Type 0) (o : Option A) (x : A) → o ≡ Some x → MatchOption o P Q → Q x
of_some P Q None x is h = cc
of_some P Q (Some y) x is h = subst Q (same_some x y is) h
