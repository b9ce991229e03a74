-- A transaction that was aborted to break a deadlock, once it is noted.
use Rattle.std.proofs.Common.{◌≡◌, refl, sym, subst, ℕ, Bool, true, false, List, [], ◌∷◌, ◌++◌, All, Option}
use Rattle.std.specs.Prelude.{if◌then◌else◌}
use Rattle.std.proofs.lemmas.List.Elements.{All-push}
use Rattle.ft_core.specs.declared.request.Request.TheVariants.{Abort}
use Rattle.ft_core.specs.declared.request.Answer.TheVariants.{Aborted}
use Rattle.ft_core.specs.States.{State}
use Rattle.ft_shared.specs.Publishing.{Publishing, IsBehind}
use Rattle.ft_shared.specs.Origins.{Origin}
use Rattle.ft_shared.specs.Victims.{IsBrokenBy, WasVictim}
use Rattle.ft_shared.proofs.Staying.{goes_nowhere, still}

noted : (P : ℕ → Type 0) (ok : Bool) (victims new : List ℕ) (t : ℕ) → new ≡ (if ok then victims ++ t ∷ [] else victims) → All P victims → P t → All P new
noted P true victims new t is were one = subst (All P) (sym is) (All-push P victims t were one)
noted P false victims new t is were one = subst (All P) (sym is) were

-- what is behind the lock once the victim on a cycle was aborted, and noted if there was a place
pub still-noted : (origin : Origin) (s new : State) (now later : Option ℕ) (publisher : Option Publishing) (victims noted_are : List ℕ) (ok : Bool) (t : ℕ) → IsBrokenBy t s new
    → later ≡ now → noted_are ≡ (if ok then victims ++ t ∷ [] else victims) → IsBehind origin s now publisher victims → IsBehind origin new later publisher noted_are
still-noted origin s new now later publisher victims noted_are ok t broken same noted_is kept =
    let is = kept.from.of_core in
    let stays = still origin s new (Abort t) (Aborted broken.undone) now later publisher victims refl broken.aborted same kept in
    record {
      from = stays.from;
      views = stays.views;
      victims_are = noted (WasVictim new) ok victims noted_are t noted_is stays.victims_are
          (record { before = record { state = s; cells = is.0 }; after = new; reached = is.1; broken = broken; goes_on = goes_nowhere new });
    }
