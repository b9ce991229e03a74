-- How replies are gathered.
use Rattle.std.proofs.Common.{◌≡◌, ◌⊎◌, ℕ, ◌+◌, ◌*◌, ◌<◌, Bool, List, [], ◌∷◌, ◌++◌, length, inl, inr, refl, sym, subst, length-append, arith}
use Rattle.ft_names.specs.Names.{Moment}
use Rattle.ft_script.specs.declared.gathering.TheConstants.{MOST_GATHERED}
use Rattle.ft_script.specs.declared.playing.PlayFault.{PlayFault}
use Rattle.ft_script.specs.declared.playing.PlayFault.TheVariants.{Memory, Read, Write, TooLong, Turns}
use Rattle.ft_script.specs.Cutting.{Cuts}
use Rattle.ft_script.specs.Reading.{GivesLine, StopsCutting}
use Rattle.ft_script.specs.Gathering.{Gathers, GathersLines, StopsAnswering}
use Rattle.ft_script.specs.Runs.{Answers, IsTextOfRun}
use Rattle.ft_script.proofs.Cutting.{cuts_line, cuts_none}
use Rattle.ft_script.proofs.Running.{run_more, run_one}

-- All lines that were carried out, and what was gathered for them.
pub record Gathered (answers : Answers) (bytes rest : List ℕ) (count count_after : ℕ) (text : List ℕ) (old new : Moment) : Type 0 where
  pub lines : List (List ℕ)
  pub cuts : Cuts bytes lines rest
  pub run : IsTextOfRun answers old lines text new
  pub counted : count_after ≡ count + length lines

pub gathers_none : (answers : Answers) (bytes : List ℕ) (count : ℕ) (text : List ℕ) (old : Moment) → text ≡ [] → Gathers answers bytes bytes count count text old old
gathers_none answers bytes count text old none = inl (refl, refl, none, refl)

pub gathered : (answers : Answers) (bytes rest : List ℕ) (count count_after : ℕ) (text : List ℕ) (old new : Moment) → Gathers answers bytes rest count count_after text old new → Gathered answers bytes rest count count_after text old new
gathered answers bytes rest count count_after text old new (inl h) = record {
  lines = [];
  cuts = subst (Cuts bytes []) (sym h.0) (cuts_none bytes);
  run = (h.2, h.3);
  counted = omega (arith, h.1);
}
gathered answers bytes rest count count_after text old new (inr (line, reply, h)) = record {
  lines = h.lines ++ line ∷ [];
  cuts = cuts_line bytes h.lines line rest (subst (Cuts bytes h.lines) h.given.ended h.cuts) h.given.free h.given.fits;
  run = subst (λ t. IsTextOfRun answers old (h.lines ++ line ∷ []) t new) (sym h.whole) (run_more answers old h.state new h.lines (line ∷ []) h.before reply h.run (run_one answers h.state new line reply h.answered));
  counted = omega (arith, h.counted, length-append h.lines (line ∷ []));
}

-- one more line is carried out
pub gathers_line : (answers : Answers) (on : Bool) (bytes rest behind : List ℕ) (count count_now count_after : ℕ) (line reply text text_after : List ℕ) (old now new : Moment)
    → Gathers answers bytes rest count count_now text old now → length text < MOST_GATHERED → GivesLine rest behind line → count_after ≡ count_now + 1 → answers on now line reply new → text_after ≡ text ++ reply
    → GathersLines answers on bytes behind count count_after line reply text_after old new
gathers_line answers on bytes rest behind count count_now count_after line reply text text_after old now new h few given one_more answered whole =
    let all = gathered answers bytes rest count count_now text old now h in
    record {
      lines = all.lines;
      behind = rest;
      cuts = all.cuts;
      given = given;
      state = now;
      before = text;
      run = all.run;
      few = few;
      answered = answered;
      whole = whole;
      counted = omega (arith, one_more, all.counted);
    }

-- the next line can't be cut
pub stops_cut : (answers : Answers) (fault : PlayFault) (bytes : List ℕ) (old : Moment) → (fault ≡ TooLong) ⊎ (fault ≡ Memory) → StopsCutting fault bytes → StopsAnswering answers fault bytes old old
stops_cut answers Memory bytes old cause h = inl refl
stops_cut answers TooLong bytes old cause h = (h, refl)
stops_cut answers Read bytes old (inl is) h = cc
stops_cut answers Read bytes old (inr is) h = cc
stops_cut answers Turns bytes old (inl is) h = cc
stops_cut answers Turns bytes old (inr is) h = cc
stops_cut answers Write bytes old cause h = absurd h

-- with as many reads left, fewer bytes are left
pub less_to_read : (a b r s n : ℕ) → a < b → r ≡ s → a + n * r < b + n * s
less_to_read a b r s n less same = subst (λ m. a + n * r < b + n * m) same (omega arith)
