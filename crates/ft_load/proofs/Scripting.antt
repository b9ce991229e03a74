-- The text of a script, line by line.
use Rattle.std.proofs.Common.{arith, ◌≡◌, ◌⊎◌, ℕ, suc, Bool, true, false, List, [], ◌∷◌, ◌++◌, codes, Option, None, Some, IfSome, cond, inl, inr, refl, sym, ap, ◌∙◌, subst, append-nil, append_assoc}
use Rattle.std.proofs.lemmas.List.Concat.{flat_map-append}
use Rattle.std.specs.Io.KnownBytes.{Appends, Keeps}
use Rattle.std.specs.Option.{option_to_list}
use Rattle.ft_script.specs.Runs.{WritesPart}
use Rattle.ft_script.proofs.Running.{appends_more, appends_none, keeps_refl}
use Rattle.std.specs.List.{AllByRecursion, flat_map}
use Rattle.ft_copy.specs.declared.copy_fault.CopyStop.{CopyStop}
use Rattle.ft_cells.specs.declared.attributes.Attributes.{Attributes}
use Rattle.ft_cells.specs.declared.attributes.Timestamp.{Timestamp}
use Rattle.ft_copy.specs.declared.copy_fault.CopyFault.{CopyFault}
use Rattle.ft_copy.specs.declared.copy_fault.CopyFault.TheVariants.{Memory, Full}
use Rattle.ft_copy.specs.Asked.{Asked, Start, Folder, Open, Close, Finish, GiveUp, DoesAll}
use Rattle.ft_copy.specs.Kept.{kept_attributes}
use Rattle.ft_copy.specs.Told.{Told}
use Rattle.ft_copy.specs.Runs.{Copies, asked_of}
use Rattle.ft_copy.specs.Stops.{FailsAt, IsCause, StopsCopy, asked_before, asked_then}
use Rattle.ft_copy.proofs.Doing.{does_more}
use Rattle.ft_posix.specs.declared.call.Call.{Call}
use Rattle.ft_posix.specs.declared.call.Call.TheVariants as calls
use Rattle.ft_load.specs.declared.spelling.Form.{Form}
use Rattle.ft_load.specs.declared.spelling.Spelling.{Spelling}
use Rattle.ft_load.specs.Spellings.{PathFits, begin_line, below, call_line, commit_line}
use Rattle.ft_load.specs.Scripts.{AskedFits, AsksFor, AsksForAll, BreaksOff, BreaksOffAmid, CallFits, FailsToAsk, FailsToAskAll, FailsToSay, HasBadPath, IsFull, IsWithinCalls, Says, Scripts, calls_at, calls_text, fd_after, fd_of, futime_of, has_owners, next_after, next_of, stamp_behind, text_at, text_of, top_chmod, top_chown, top_mkdir}
use Rattle.ft_needs.specs.Lines.{needs_text}
use Rattle.ft_load.specs.Loads.{BreaksOffAt, Loads, StopsLoad, copy_limits, whole}
use Rattle.ft_copy.proofs.Stopping.{after_all}

-- what was kept is kept by what writes nothing
kept_still : (a b c : Option (List ℕ)) → Keeps a b → Appends b c [] → Keeps a c
kept_still None b c h k = tt
kept_still (Some x) None c h k = absurd h
kept_still (Some x) (Some y) None h k = absurd k
kept_still (Some x) (Some y) (Some z) h k = k ∙ append-nil y ∙ h

appended_still : (a b c : Option (List ℕ)) (text : List ℕ) → Appends a b text → Appends b c [] → Appends a c text
appended_still a b c text h k = subst (Appends a c) (append-nil text) (appends_more a b c text [] h k)

part_still : (a b c : Option (List ℕ)) (text : List ℕ) → WritesPart a b text → Appends b c [] → WritesPart a c text
part_still a b c text h k = (h.0, h.1, h.2, h.3, appended_still a b c h.0 h.4 k)

amid_still : (form : Form) (trouble : CopyFault) (asked : Asked) (next fd : ℕ) (a b c : Option (List ℕ)) → BreaksOffAmid form trouble asked next fd a b → Appends b c [] → BreaksOffAmid form trouble asked next fd a c
amid_still form trouble asked next fd a b c (inl h) k = inl (h.0, part_still a b c (text_at form asked next fd) h.1 k)
amid_still form trouble asked next fd a b c (inr h) k = inr (h.0, h.1, h.2, appended_still a b c (calls_text form.spelling h.0) h.3 k, h.4)

broken_still : (form : Form) (trouble : CopyFault) (rest : List Asked) (next fd : ℕ) (a b c : Option (List ℕ)) → BreaksOffAt form trouble rest next fd a b → Appends b c [] → BreaksOffAt form trouble rest next fd a c
broken_still form trouble [] next fd a b c h k = h
broken_still form trouble (first ∷ more) next fd a b c (inl h) k = inl (kept_still a b c h.0 k, h.1)
broken_still form trouble (first ∷ more) next fd a b c (inr h) k = inr (h.0, amid_still form trouble first next fd a b c h.1 k)

-- ---- calls whose paths fit

maybe_fits : (call : Option Call) → IfSome call CallFits → AllByRecursion CallFits (option_to_list call)
maybe_fits None fit = tt
maybe_fits (Some call) fit = (fit, tt)

both_fit : (some others : List Call) → AllByRecursion CallFits some → AllByRecursion CallFits others → AllByRecursion CallFits (some ++ others)
both_fit [] others h k = k
both_fit (call ∷ some) others h k = (h.0, both_fit some others h.1 k)

where_fits : (b : Bool) (call : Call) → CallFits call → AllByRecursion CallFits (option_to_list (cond b (Some call) None))
where_fits true call fit = (fit, tt)
where_fits false call fit = tt

pub folder_fits : (spelling : Spelling) (path : List ℕ) (a : Attributes) → PathFits (below spelling path) → AskedFits spelling (Folder path a)
folder_fits spelling path a fit next fd = (fit, where_fits (has_owners a) (calls.Chown (Some a.owner) (Some a.group) (below spelling path)) fit)

pub open_fits : (spelling : Spelling) (path : List ℕ) (a : Attributes) → PathFits (below spelling path) → AskedFits spelling (Open path a)
open_fits spelling path a fit next fd = (fit, where_fits (has_owners a) (calls.Fchown next (Some a.owner) (Some a.group)) tt)

close_fits : (spelling : Spelling) (time : Option Timestamp) → AskedFits spelling (Close time)
close_fits spelling None next fd = (tt, tt)
close_fits spelling (Some time) next fd = (tt, (tt, tt))

-- ---- calls, one after another

calls_more : (form : Form) (some others : List Call) → calls_text form.spelling (some ++ others) ≡ calls_text form.spelling some ++ calls_text form.spelling others
calls_more form some others = flat_map-append (call_line form.spelling) some others

-- a part of the text behind other text is a part of both
part_behind : (a b c : Option (List ℕ)) (front text : List ℕ) → Appends a b front → WritesPart b c text → WritesPart a c (front ++ text)
part_behind a b c front text h k =
    (front ++ k.0, k.1, k.2, ap (λ l. front ++ l) k.3 ∙ sym (append_assoc front k.0 (k.1 ∷ k.2)), appends_more a b c front k.0 h k.4)

-- a part of the text before other text is a part of both
part_before : (a b : Option (List ℕ)) (text back : List ℕ) → WritesPart a b text → WritesPart a b (text ++ back)
part_before a b text back k = (k.0, k.1, k.2 ++ back, ap (λ l. l ++ back) k.3 ∙ append_assoc k.0 (k.1 ∷ k.2) back, k.4)

stamps_more : (some others : List Call) (next : ℕ) → stamp_behind (some ++ others) next ≡ stamp_behind others (stamp_behind some next)
stamps_more [] others next = refl
stamps_more (call ∷ some) others next = stamps_more some others (suc next)

module _ (form : Form) where
  pub asks_none : (next : ℕ) (a : Option (List ℕ)) → AsksForAll form [] next a next a
  asks_none next a = (appends_none a a (keeps_refl a), refl, inl refl)

  pub asks_one : (call : Call) (next next_now : ℕ) (a b : Option (List ℕ)) → AsksFor form call next a next_now b → AsksForAll form (call ∷ []) next a next_now b
  asks_one call next next_now a b h = (subst (Appends a b) (sym (append-nil (call_line form.spelling call))) h.0, h.1, inr h.2)

  pub asks_more : (some others : List Call) (next middle_next next_now : ℕ) (a b c : Option (List ℕ)) → AsksForAll form some next a middle_next b → AsksForAll form others middle_next b next_now c
      → AsksForAll form (some ++ others) next a next_now c
  asks_more some others next middle_next next_now a b c h k = (
    subst (Appends a c) (sym (calls_more form some others)) (appends_more a b c (calls_text form.spelling some) (calls_text form.spelling others) h.0 k.0),
    counted,
    either h.2 k.2,
  )
    where
      counted : next_now ≡ stamp_behind (some ++ others) next
      counted = k.1 ∙ ap (stamp_behind others) h.1 ∙ sym (stamps_more some others next)

      either : (middle_next ≡ next) ⊎ IsWithinCalls form middle_next → (next_now ≡ middle_next) ⊎ IsWithinCalls form next_now → (next_now ≡ next) ⊎ IsWithinCalls form next_now
      either first (inr within) = inr within
      either (inl same) (inl still) = inl (still ∙ same)
      either (inr within) (inl still) = inr (subst (IsWithinCalls form) (sym still) within)

  pub fails_one : (trouble : CopyFault) (call : Call) (next : ℕ) (a b : Option (List ℕ)) → FailsToAsk form trouble call next a b → FailsToAskAll form trouble (call ∷ []) next a b
  fails_one trouble call next a b (inl h) = inl (h.0, subst (WritesPart a b) (sym (append-nil (call_line form.spelling call))) h.1)
  fails_one trouble call next a b (inr h) = inr ([], call ∷ [], refl, appends_none a b h.0, h.1)

  -- the first of them failed
  pub fails_first : (trouble : CopyFault) (some others : List Call) (next : ℕ) (a b : Option (List ℕ)) → FailsToAskAll form trouble some next a b → FailsToAskAll form trouble (some ++ others) next a b
  fails_first trouble some others next a b (inl h) = inl (h.0, subst (WritesPart a b) (sym (calls_more form some others)) (part_before a b (calls_text form.spelling some) (calls_text form.spelling others) h.1))
  fails_first trouble some others next a b (inr h) = inr (h.0, h.1 ++ others, ap (λ l. l ++ others) h.2 ∙ append_assoc h.0 h.1 others, h.3, h.4)

  -- those behind them failed
  pub fails_then : (trouble : CopyFault) (some others : List Call) (next middle_next : ℕ) (a b c : Option (List ℕ)) → AsksForAll form some next a middle_next b → FailsToAskAll form trouble others middle_next b c
      → FailsToAskAll form trouble (some ++ others) next a c
  fails_then trouble some others next middle_next a b c h (inl k) =
      inl (k.0, subst (WritesPart a c) (sym (calls_more form some others)) (part_behind a b c (calls_text form.spelling some) (calls_text form.spelling others) h.0 k.1))
  fails_then trouble some others next middle_next a b c h (inr k) = inr (
    some ++ k.0,
    k.1,
    ap (λ l. some ++ l) k.2 ∙ sym (append_assoc some k.0 k.1),
    subst (Appends a c) (sym (calls_more form some k.0)) (appends_more a b c (calls_text form.spelling some) (calls_text form.spelling k.0) h.0 k.3),
    either k.4,
  )
    where
      counted : stamp_behind k.0 middle_next ≡ stamp_behind (some ++ k.0) next
      counted = ap (stamp_behind k.0) h.1 ∙ sym (stamps_more some k.0 next)

      either : (trouble ≡ Memory) ⊎ ((trouble ≡ Full) × IsFull form (stamp_behind k.0 middle_next)) → (trouble ≡ Memory) ⊎ ((trouble ≡ Full) × IsFull form (stamp_behind (some ++ k.0) next))
      either (inl memory) = inl memory
      either (inr full) = inr (full.0, subst (IsFull form) counted full.1)

  -- the calls of what is asked for failed
  pub breaks_calls : (trouble : CopyFault) (asked : Asked) (next fd : ℕ) (a b : Option (List ℕ)) → text_at form asked next fd ≡ calls_text form.spelling (calls_at form.spelling asked next fd)
      → AskedFits form.spelling asked → FailsToAskAll form trouble (calls_at form.spelling asked next fd) next a b → BreaksOff form trouble asked next fd a b
  breaks_calls trouble asked next fd a b is fit (inl h) = inr (fit, inl (h.0, subst (WritesPart a b) (sym is) h.1))
  breaks_calls trouble asked next fd a b is fit (inr h) = inr (fit, inr h)

  -- nothing was written
  pub breaks_before : (trouble other : CopyFault) (asked : Asked) (next fd : ℕ) (a : Option (List ℕ)) → trouble ≡ other → (other ≡ Memory) ⊎ HasBadPath form.spelling other asked → BreaksOff form trouble asked next fd a a
  breaks_before trouble other asked next fd a is h = inl (keeps_refl a, subst (λ t. (t ≡ Memory) ⊎ HasBadPath form.spelling t asked) (sym is) h)

  -- the calls of the end failed
  pub breaks_finish : (trouble : CopyFault) (kept : Attributes) (next fd : ℕ) (a b : Option (List ℕ)) → AskedFits form.spelling (Finish kept) → FailsToAskAll form trouble (calls_at form.spelling (Finish kept) next fd) next a b
      → BreaksOff form trouble (Finish kept) next fd a b
  breaks_finish trouble kept next fd a b fit (inl h) = inr (fit, inl (h.0, part_before a b (calls_text form.spelling (calls_at form.spelling (Finish kept) next fd)) (commit_line form.spelling) h.1))
  breaks_finish trouble kept next fd a b fit (inr h) = inr (fit, inr h)

-- ---- what is asked for, as calls

-- the time of a file takes as many stamps whatever its descriptor
close_stamps : (form : Form) (time : Option Timestamp) (next fd : ℕ) → stamp_behind (calls_at form.spelling (Close time) next fd) next ≡ next_after form.spelling (Close time) next
close_stamps form None next fd = refl
close_stamps form (Some time) next fd = refl

-- the first lines, if no directory is made
module _ (form : Form) (next fd : ℕ) (none : top_mkdir form.spelling ≡ None) (front : List ℕ) (front_is : front ≡ needs_text form.limits ++ begin_line form.spelling) where
  start_text : front ≡ text_at form Start next fd
  start_text =
      let needs = needs_text form.limits in
      let begin = begin_line form.spelling in
      let made : needs ++ begin ++ [] ≡ text_at form Start next fd = ap (λ (o : Option Call). needs ++ begin ++ calls_text form.spelling (option_to_list o)) (sym none) in
      front_is ∙ sym (append-nil (needs ++ begin)) ∙ made

  none_fit : AskedFits form.spelling Start
  none_fit next_now fd_now = subst (λ (o : Option Call). AllByRecursion CallFits (option_to_list o)) (sym none) tt

  pub start_done : (a b : Option (List ℕ)) (next_now fd_now : ℕ) → Says front a b → next_now ≡ next → fd_now ≡ fd → Scripts form Start next fd a next_now fd_now b
  start_done a b next_now fd_now said next_is fd_is =
      (subst (Appends a b) start_text said, next_is ∙ ap (λ (made : Option Call). stamp_behind (option_to_list made) next) (sym none), fd_is, inl next_is, none_fit)

  pub start_breaks : (trouble : CopyFault) (a b : Option (List ℕ)) → FailsToSay trouble front a b → BreaksOff form trouble Start next fd a b
  start_breaks trouble a b failed = inr (none_fit, inl (failed.0, subst (WritesPart a b) start_text failed.1))

module _ (form : Form) (asked : Asked) (next fd : ℕ) (text_is : text_at form asked next fd ≡ calls_text form.spelling (calls_at form.spelling asked next fd)) (fit : AskedFits form.spelling asked) where
  -- one call, and then maybe another
  module _ (call wanted : Call) (second wanted_second : Option Call) (call_is : call ≡ wanted) (second_is : second ≡ wanted_second)
      (calls_are : calls_at form.spelling asked next fd ≡ wanted ∷ option_to_list wanted_second) where
    pub two_done : (stamps : stamp_behind (calls_at form.spelling asked next fd) next ≡ next_after form.spelling asked next) (form_then : Form) (then last fd_now : ℕ) (a b c : Option (List ℕ)) → form_then ≡ form → fd_now ≡ fd_after asked next fd
        → AsksFor form call next a then b → AsksForAll form_then (option_to_list second) then b last c → Scripts form asked next fd a last fd_now c
    two_done stamps form_then then last fd_now a b c same fd_is first others =
        let one = asks_one form wanted next then a b (subst (λ k. AsksFor form k next a then b) call_is first) in
        let two = subst (λ o. AsksForAll form (option_to_list o) then b last c) second_is (subst (λ l. AsksForAll l (option_to_list second) then b last c) same others) in
        let all = subst (λ l. AsksForAll form l next a last c) (sym calls_are) (asks_more form (wanted ∷ []) (option_to_list wanted_second) next then last a b c one two) in
        (subst (Appends a c) (sym text_is) all.0, all.1 ∙ stamps, fd_is, all.2, fit)

    pub first_breaks : (trouble other : CopyFault) (a b : Option (List ℕ)) → trouble ≡ other → FailsToAsk form other call next a b → BreaksOff form trouble asked next fd a b
    first_breaks trouble other a b is failed =
        let one = fails_one form trouble wanted next a b (subst (λ t. FailsToAsk form t wanted next a b) (sym is) (subst (λ k. FailsToAsk form other k next a b) call_is failed)) in
        breaks_calls form trouble asked next fd a b text_is fit (subst (λ l. FailsToAskAll form trouble l next a b) (sym calls_are) (fails_first form trouble (wanted ∷ []) (option_to_list wanted_second) next a b one))

    pub second_breaks : (trouble : CopyFault) (form_then : Form) (then : ℕ) (a b c : Option (List ℕ)) → form_then ≡ form → AsksFor form call next a then b → FailsToAskAll form_then trouble (option_to_list second) then b c
        → BreaksOff form trouble asked next fd a c
    second_breaks trouble form_then then a b c same first failed =
        let one = asks_one form wanted next then a b (subst (λ k. AsksFor form k next a then b) call_is first) in
        let two = subst (λ o. FailsToAskAll form trouble (option_to_list o) then b c) second_is (subst (λ l. FailsToAskAll l trouble (option_to_list second) then b c) same failed) in
        breaks_calls form trouble asked next fd a c text_is fit (subst (λ l. FailsToAskAll form trouble l next a c) (sym calls_are) (fails_then form trouble (wanted ∷ []) (option_to_list wanted_second) next then a b c one two))

  -- one call and no other
  pub one_done : (call wanted : Call) → call ≡ wanted → calls_at form.spelling asked next fd ≡ wanted ∷ [] → stamp_behind (calls_at form.spelling asked next fd) next ≡ next_after form.spelling asked next
      → (last fd_now : ℕ) (a b : Option (List ℕ)) → fd_now ≡ fd_after asked next fd → AsksFor form call next a last b → Scripts form asked next fd a last fd_now b
  one_done call wanted call_is calls_are stamps last fd_now a b fd_is first = two_done call wanted None None call_is refl calls_are stamps form last last fd_now a b b refl fd_is first (asks_none form last b)

module _ (form : Form) (time : Option Timestamp) (first : Option Call) (next fd : ℕ) (first_is : first ≡ futime_of fd time) where
  -- the time, if there is one, and then the close
  pub close_done : (form_then : Form) (then last fd_now : ℕ) (a b c : Option (List ℕ)) → form_then ≡ form → fd_now ≡ fd → AsksForAll form (option_to_list first) next a then b → AsksFor form_then (calls.Close fd) then b last c
      → Scripts form (Close time) next fd a last fd_now c
  close_done form_then then last fd_now a b c same fd_is timed closed =
      let one = subst (λ o. AsksForAll form (option_to_list o) next a then b) first_is timed in
      let two = asks_one form (calls.Close fd) then last b c (subst (λ l. AsksFor l (calls.Close fd) then b last c) same closed) in
      let all = asks_more form (option_to_list (futime_of fd time)) (calls.Close fd ∷ []) next then last a b c one two in
      (all.0, all.1 ∙ close_stamps form time next fd, fd_is, all.2, close_fits form.spelling time)

  pub time_breaks : (trouble other : CopyFault) (a b : Option (List ℕ)) → trouble ≡ other → FailsToAskAll form other (option_to_list first) next a b → BreaksOff form trouble (Close time) next fd a b
  time_breaks trouble other a b is failed =
      let one = subst (λ t. FailsToAskAll form t (option_to_list (futime_of fd time)) next a b) (sym is) (subst (λ o. FailsToAskAll form other (option_to_list o) next a b) first_is failed) in
      breaks_calls form trouble (Close time) next fd a b refl (close_fits form.spelling time) (fails_first form trouble (option_to_list (futime_of fd time)) (calls.Close fd ∷ []) next a b one)

  pub close_breaks : (trouble : CopyFault) (form_then : Form) (then : ℕ) (a b c : Option (List ℕ)) → form_then ≡ form → AsksForAll form (option_to_list first) next a then b → FailsToAsk form_then trouble (calls.Close fd) then b c
      → BreaksOff form trouble (Close time) next fd a c
  close_breaks trouble form_then then a b c same timed failed =
      let one = subst (λ o. AsksForAll form (option_to_list o) next a then b) first_is timed in
      let two = fails_one form trouble (calls.Close fd) then b c (subst (λ l. FailsToAsk l trouble (calls.Close fd) then b c) same failed) in
      breaks_calls form trouble (Close time) next fd a c refl (close_fits form.spelling time) (fails_then form trouble (option_to_list (futime_of fd time)) (calls.Close fd ∷ []) next then a b c one two)

module _ (form : Form) (kept : Attributes) (chmod chown : Option Call) (next fd : ℕ) (chmod_is : chmod ≡ top_chmod form.spelling kept) (chown_is : chown ≡ top_chown form.spelling kept)
    (chmod_fits : IfSome (top_chmod form.spelling kept) CallFits) (chown_fits : IfSome (top_chown form.spelling kept) CallFits) where
  finish_fits : AskedFits form.spelling (Finish kept)
  finish_fits next_now fd_now =
      both_fit (option_to_list (top_chmod form.spelling kept)) (option_to_list (top_chown form.spelling kept)) (maybe_fits (top_chmod form.spelling kept) chmod_fits) (maybe_fits (top_chown form.spelling kept) chown_fits)

  -- the mode and the owners of the root, if they have to be said, and then the end
  moded : (then : ℕ) (a b : Option (List ℕ)) → AsksForAll form (option_to_list chmod) next a then b → AsksForAll form (option_to_list (top_chmod form.spelling kept)) next a then b
  moded then a b h = subst (λ o. AsksForAll form (option_to_list o) next a then b) chmod_is h

  both : (form_then : Form) (then last : ℕ) (a b c : Option (List ℕ)) → form_then ≡ form → AsksForAll form (option_to_list chmod) next a then b → AsksForAll form_then (option_to_list chown) then b last c
      → AsksForAll form (calls_at form.spelling (Finish kept) next fd) next a last c
  both form_then then last a b c same first second =
      asks_more form (option_to_list (top_chmod form.spelling kept)) (option_to_list (top_chown form.spelling kept)) next then last a b c (moded then a b first)
      (subst (λ o. AsksForAll form (option_to_list o) then b last c) chown_is (subst (λ l. AsksForAll l (option_to_list chown) then b last c) same second))

  pub finish_done : (form_then : Form) (then last next_now fd_now : ℕ) (a b c d : Option (List ℕ)) → form_then ≡ form → next_now ≡ last → fd_now ≡ fd → AsksForAll form (option_to_list chmod) next a then b
      → AsksForAll form_then (option_to_list chown) then b last c → Says (commit_line form.spelling) c d → Scripts form (Finish kept) next fd a next_now fd_now d
  finish_done form_then then last next_now fd_now a b c d same next_is fd_is first second said =
      let all = both form_then then last a b c same first second in
      (appends_more a c d (calls_text form.spelling (calls_at form.spelling (Finish kept) next fd)) (commit_line form.spelling) all.0 said, next_is ∙ all.1, fd_is, either all.2, finish_fits)
    where
      either : (last ≡ next) ⊎ IsWithinCalls form last → (next_now ≡ next) ⊎ IsWithinCalls form next_now
      either (inl still) = inl (next_is ∙ still)
      either (inr within) = inr (subst (IsWithinCalls form) (sym next_is) within)

  pub chmod_breaks : (trouble other : CopyFault) (a b : Option (List ℕ)) → trouble ≡ other → FailsToAskAll form other (option_to_list chmod) next a b → BreaksOff form trouble (Finish kept) next fd a b
  chmod_breaks trouble other a b is failed =
      let one = subst (λ t. FailsToAskAll form t (option_to_list (top_chmod form.spelling kept)) next a b) (sym is) (subst (λ o. FailsToAskAll form other (option_to_list o) next a b) chmod_is failed) in
      breaks_finish form trouble kept next fd a b finish_fits (fails_first form trouble (option_to_list (top_chmod form.spelling kept)) (option_to_list (top_chown form.spelling kept)) next a b one)

  pub chown_breaks : (trouble other : CopyFault) (form_then : Form) (then : ℕ) (a b c : Option (List ℕ)) → form_then ≡ form → trouble ≡ other → AsksForAll form (option_to_list chmod) next a then b
      → FailsToAskAll form_then other (option_to_list chown) then b c → BreaksOff form trouble (Finish kept) next fd a c
  chown_breaks trouble other form_then then a b c same is first failed =
      let two = subst (λ o. FailsToAskAll form trouble (option_to_list o) then b c) chown_is (subst (λ l. FailsToAskAll l trouble (option_to_list chown) then b c) same (subst (λ t. FailsToAskAll form_then t (option_to_list chown) then b c) (sym is) failed)) in
      breaks_finish form trouble kept next fd a c finish_fits
      (fails_then form trouble (option_to_list (top_chmod form.spelling kept)) (option_to_list (top_chown form.spelling kept)) next then a b c (moded then a b first) two)

  pub commit_breaks : (trouble : CopyFault) (form_then : Form) (then last : ℕ) (a b c d : Option (List ℕ)) → form_then ≡ form → AsksForAll form (option_to_list chmod) next a then b
      → AsksForAll form_then (option_to_list chown) then b last c → FailsToSay trouble (commit_line form.spelling) c d → BreaksOff form trouble (Finish kept) next fd a d
  commit_breaks trouble form_then then last a b c d same first second failed =
      inr (finish_fits, inl (failed.0, part_behind a c d (calls_text form.spelling (calls_at form.spelling (Finish kept) next fd)) (commit_line form.spelling) (both form_then then last a b c same first second).0 failed.1))

module _ {T : Type 0} (held : T → Option (List ℕ)) (next fd : T → ℕ) (form : T → Form) where
  abbrev pub scripts : T → Asked → T → Type 0
  scripts old asked new = Scripts (form old) asked (next old) (fd old) (held old) (next new) (fd new) (held new) × (form new ≡ form old)

  abbrev pub breaks : T → Asked → CopyFault → T → Type 0
  breaks old asked trouble new = BreaksOff (form old) trouble asked (next old) (fd old) (held old) (held new)

  -- all that was asked for is written
  all_text : (old new : T) (asked : List Asked) → DoesAll scripts old asked new → Appends (held old) (held new) (text_of (form old) asked (next old) (fd old))
  all_text old new [] h = subst (λ t. Appends (held old) (held t) []) (sym h) (appends_none (held old) (held old) (keeps_refl (held old)))
  all_text old new (first ∷ more) h =
      let middle = h.0 in
      let step = h.1.0 in
      let rest = all_text middle new more h.2 in
      let within = subst (λ l. Appends (held middle) (held new) (text_of l more (next middle) (fd middle))) h.1.1 rest in
      let at_next = subst (λ n. Appends (held middle) (held new) (text_of (form old) more n (fd middle))) step.1 within in
      let at_fd = subst (λ f. Appends (held middle) (held new) (text_of (form old) more (next_after (form old).spelling first (next old)) f)) step.2 at_next in
      appends_more (held old) (held middle) (held new) (text_at (form old) first (next old) (fd old)) (text_of (form old) more (next_after (form old).spelling first (next old)) (fd_after first (next old) (fd old))) step.0 at_fd

  -- and the next stamp and the descriptor are those behind it
  all_next : (old new : T) (asked : List Asked) → DoesAll scripts old asked new → next new ≡ next_of (form old).spelling asked (next old)
  all_next old new [] h = ap next h
  all_next old new (first ∷ more) h = all_next h.0 new more h.2 ∙ ap (λ l. next_of l.spelling more (next h.0)) h.1.1 ∙ ap (next_of (form old).spelling more) h.1.0.1

  all_fd : (old new : T) (asked : List Asked) → DoesAll scripts old asked new → fd new ≡ fd_of (form old).spelling asked (next old) (fd old)
  all_fd old new [] h = ap fd h
  all_fd old new (first ∷ more) h =
      all_fd h.0 new more h.2 ∙ ap (λ l. fd_of l.spelling more (next h.0) (fd h.0)) h.1.1 ∙ ap (λ n. fd_of (form old).spelling more n (fd h.0)) h.1.0.1
      ∙ ap (fd_of (form old).spelling more (next_after (form old).spelling first (next old))) h.1.0.2

  -- the form stays
  all_form : (old new : T) (asked : List Asked) → DoesAll scripts old asked new → form new ≡ form old
  all_form old new [] h = ap form h
  all_form old new (first ∷ more) h = all_form h.0 new more h.2 ∙ h.1.1

  -- and there are no more calls than they allow
  all_few : (old new : T) (asked : List Asked) → IsWithinCalls (form old) (next old) → DoesAll scripts old asked new → IsWithinCalls (form old) (next new)
  all_few old new [] few h = subst (λ t. IsWithinCalls (form old) (next t)) (sym h) few
  all_few old new (first ∷ more) few h =
      let middle = h.0 in
      subst (λ l. IsWithinCalls l (next new)) h.1.1 (all_few middle new more (subst (λ l. IsWithinCalls l (next middle)) (sym h.1.1) (either h.1.0.3)) h.2)
    where
      either : (next h.0 ≡ next old) ⊎ IsWithinCalls (form old) (next h.0) → IsWithinCalls (form old) (next h.0)
      either (inl same) = subst (IsWithinCalls (form old)) (sym same) few
      either (inr k) = k

  -- and the paths of its calls fit
  all_fit : (old new : T) (asked : List Asked) → DoesAll scripts old asked new → AllByRecursion (AskedFits (form old).spelling) asked
  all_fit old new [] h = tt
  all_fit old new (first ∷ more) h = (h.1.0.4, subst (λ l. AllByRecursion (AskedFits l.spelling) more) h.1.1 (all_fit h.0 new more h.2))

  -- a copy to a script that begins is a load
  pub loads : (set_id : Bool) (tells : Told → Type 0) (old new : T) → next old ≡ 2 → fd old ≡ 0 → Copies (copy_limits (form old).limits set_id) tells scripts old new → Loads (form old) set_id tells (held old) (held new)
  loads set_id tells old new two none h =
      let asked = whole h.visits h.links (kept_attributes (copy_limits (form old).limits set_id) h.top.attributes) in
      let wrote = all_text old new asked h.did in
      let at_two = subst (λ n. Appends (held old) (held new) (text_of (form old) asked n (fd old))) two wrote in
      let first : IsWithinCalls (form old) (next old) = omega (arith, two) in
      record {
        top = h.top;
        folder = h.folder;
        begun = h.begun;
        visits = h.visits;
        walked = h.walked;
        links = h.links;
        done = h.done;
        root = h.root;
        walk = h.walk;
        all = h.all;
        last = h.last;
        all_links = h.all_links;
        few = subst (IsWithinCalls (form old)) (all_next old new asked h.did ∙ ap (next_of (form old).spelling asked) two) (all_few old new asked first h.did);
        fit = all_fit old new asked h.did;
        wrote = subst (λ f. Appends (held old) (held new) (text_of (form old) asked 2 f)) none at_two;
      }

  -- what a copy that stops has written
  pub stops_load : (set_id : Bool) (tells : Told → Type 0) (stopped : CopyStop) (old new : T) → next old ≡ 2 → fd old ≡ 0 → StopsCopy (copy_limits (form old).limits set_id) tells scripts breaks stopped old new
      → StopsLoad (form old) set_id tells stopped (held old) (held new)
  stops_load set_id tells stopped old new two none h =
      let ended = h.0 in
      let stops = h.1 in
      let reached = stops.0 in
      let last = stops.5 in
      let done = asked_before reached ++ last.0 in
      let did = does_more scripts old stops.1 last.2 (asked_before reached) last.0 stops.4 last.4 in
      let at_two = subst (λ n. Appends (held old) (held last.2) (text_of (form old) done n (fd old))) two (all_text old last.2 done did) in
      let next_is = all_next old last.2 done did ∙ ap (next_of (form old).spelling done) two in
      let fd_is = all_fd old last.2 done did ∙ ap (λ n. fd_of (form old).spelling done n (fd old)) two ∙ ap (fd_of (form old).spelling done 2) none in
      record {
        reached = reached;
        told = stops.2;
        path = stops.3;
        done = done;
        rest = last.1;
        asked = after_all (asked_before reached) (asked_then reached) last.0 last.1 last.3;
        middle = held last.2;
        fit = all_fit old last.2 done did;
        wrote = subst (λ f. Appends (held old) (held last.2) (text_of (form old) done 2 f)) none at_two;
        ended = at_end last.2 ended last.1 (next_of (form old).spelling done 2) (fd_of (form old).spelling done 2 0) next_is fd_is (all_form old last.2 done did) h.2.0.0 last.5;
      }
    where
      at_end : (middle ended : T) (rest : List Asked) (n f : ℕ) → next middle ≡ n → fd middle ≡ f → form middle ≡ form old → Appends (held ended) (held new) []
          → ((ended ≡ middle) × IsCause (copy_limits (form old).limits set_id) tells stopped.trouble h.1.0) ⊎ FailsAt scripts breaks stopped.trouble rest middle ended
          → (Keeps (held middle) (held new) × IsCause (copy_limits (form old).limits set_id) tells stopped.trouble h.1.0) ⊎ BreaksOffAt (form old) stopped.trouble rest n f (held middle) (held new)
      at_end middle ended rest n f is_next is_fd is_form nothing (inl k) =
          inl (kept_still (held middle) (held ended) (held new) (subst (λ t. Keeps (held middle) (held t)) (sym k.0) (keeps_refl (held middle))) nothing, k.1)
      at_end middle ended [] n f is_next is_fd is_form nothing (inr k) = absurd k
      at_end middle ended (first ∷ more) n f is_next is_fd is_form nothing (inr k) =
          let at_form = subst (λ l. BreaksOff l stopped.trouble first (next middle) (fd middle) (held middle) (held ended)) is_form k in
          inr (broken_still (form old) stopped.trouble (first ∷ more) n f (held middle) (held ended) (held new)
          (subst (λ m. BreaksOff (form old) stopped.trouble first m f (held middle) (held ended)) is_next (subst (λ d. BreaksOff (form old) stopped.trouble first (next middle) d (held middle) (held ended)) is_fd at_form)) nothing)
