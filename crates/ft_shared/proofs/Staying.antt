-- What is published stays with the core, whatever is requested of it but a checkpoint.
use Rattle.std.proofs.Common.{◌≡◌, ◌==◌, ◌||◌, ◌∙◌, sym, subst, ℕ, Bool, true, false, List, [], ◌∷◌, All, Option, Some, None, IfSome, refl}
use Rattle.std.specs.Prelude.{Result, Ok, Err, IfOk}
use Rattle.std.specs.List.{list_any}
use Rattle.std.proofs.lemmas.Bool.{eqb-true, false≢true}
use Rattle.std.proofs.lemmas.List.Elements.{All-head, All-tail, All-weaker}
use mathlib.Core.List.{IsPrefix}
use Rattle.ft_core.specs.States.{State, StoredState}
use Rattle.ft_core.specs.Reached.{IsReached}
use Rattle.ft_core.specs.declared.request.Request.{Request}
use Rattle.ft_core.specs.declared.request.Answer.{Answer}
use Rattle.ft_core.specs.Steps.{IsStep, exact_rule}
use Rattle.ft_core.proofs.Known.{call_laws, lock_laws}
use Rattle.ft_core.specs.declared.fault.Fault.{Fault}
use Rattle.ft_view.proofs.Prefixes.{prefix_self, prefix_trans}
use Rattle.ft_record.specs.Going.{GoesOn}
use Rattle.ft_record.proofs.Moving.{goes-on, is_checkpoint}
use Rattle.ft_serial.proofs.Moving.{first-committed}
use Rattle.ft_serial.specs.Serials.{committed_in, committed_calls}
use Rattle.ft_shared.specs.Publishing.{Calls, Publishing, published_in, IsPublisherOf, HasPublisher, IsBehind}
use Rattle.ft_shared.specs.Guarded.{InCoreFrom, OfCoreFrom, IsOfCore, IsOfCoreFrom}
use Rattle.ft_shared.specs.Origins.{Origin}
use Rattle.ft_shared.specs.Victims.{Breaks, WasVictim}
use Rattle.ft_shared.proofs.OfCores.{of-core-step}

-- each state goes on from itself, and so on
pub goes_nowhere : (s : State) → GoesOn s s
goes_nowhere s = record { base = refl; rule = refl; limits = refl; events = prefix_self s.events }

pub goes_far : (first s s' : State) → GoesOn first s → GoesOn s s' → GoesOn first s'
goes_far first s s' before goes = record {
  base = goes.base ∙ before.base;
  rule = goes.rule ∙ before.rule;
  limits = goes.limits ∙ before.limits;
  events = prefix_trans first.events s.events s'.events before.events goes.events;
}

-- what was shared goes on from itself, by its name
pub goes_from : (origin : Origin) (s : State) → origin.from ≡ s → GoesOn origin.from s
goes_from origin s is = subst (λ (x : State). GoesOn x s) (sym is) (goes_nowhere s)

pub publishes : (shown : Bool) (s s' : State) (now then : Option ℕ) (publisher : Option Publishing) → GoesOn s s' → then ≡ now → HasPublisher shown s now publisher → HasPublisher shown s' then publisher
publishes shown s s' now then None goes same kept = kept
publishes shown s s' now then (Some p) goes same kept = (
  kept.0,
  record {
    passed = prefix_trans p.commits.events s.events s'.events kept.1.passed goes.events;
    forgotten_is = same ∙ kept.1.forgotten_is;
  },
)

-- a victim stays one
pub still-victim : (s s' : State) → GoesOn s s' → (t : ℕ) → WasVictim s t → WasVictim s' t
still-victim s s' goes t was = record {
  before = was.before;
  after = was.after;
  reached = was.reached;
  broken = was.broken;
  goes_on = goes_far was.after s s' was.goes_on goes;
}

pub still-victims : (s s' : State) (victims : List ℕ) → GoesOn s s' → All (WasVictim s) victims → All (WasVictim s') victims
still-victims s s' victims goes were = All-weaker (WasVictim s) (WasVictim s') (still-victim s s' goes) victims were

-- one that is found among victims is one
pub victim-of : (s : State) (victims : List ℕ) (t : ℕ) → All (WasVictim s) victims → list_any (λ u. u == t) victims ≡ true → WasVictim s t
victim-of s [] t were found = absurd (false≢true found)
victim-of s (u ∷ victims) t were found = by_test (u == t) refl found (victim-of s victims t (All-tail (WasVictim s) u victims were)) where
  by_test : (b : Bool) → (u == t) ≡ b → (b || list_any (λ x. x == t) victims) ≡ true → (list_any (λ x. x == t) victims ≡ true → WasVictim s t) → WasVictim s t
  by_test true same any later = subst (WasVictim s) (eqb-true u t same) (All-head (WasVictim s) u victims were)
  by_test false other any later = later any

pub still : (origin : Origin) (s s' : State) (r : Request) (a : Answer) (now then : Option ℕ) (publisher : Option Publishing) (victims : List ℕ) → is_checkpoint r ≡ false → IsStep exact_rule s r a s' → then ≡ now → IsBehind origin s now publisher victims → IsBehind origin s' then publisher victims
still origin s s' r a now then publisher victims kind step same kept =
    let goes = goes-on s s' r a kind step in
    record {
      from = record { of_core = of-core-step call_laws lock_laws s s' r a kept.from.of_core step; goes_on = goes_far origin.from s s' kept.from.goes_on goes };
      views = publishes origin.shown s s' now then publisher goes same kept.views;
      victims_are = still-victims s s' victims goes kept.victims_are;
    }

-- a core that can be reached is some core
pub of-reached : (core : StoredState) → IsReached core → IsOfCore core.state
of-reached core reached = (core.cells, reached)

-- such a core is one for which this holds
pub some-core : {from s : State} (P : State → Type 0) → IsOfCoreFrom from s → P s → OfCoreFrom from P
some-core {from} {s} P is holds = (record { state = s; cells = is.of_core.0 }, is.of_core.1, is.goes_on, holds)

-- what is published has committed
stands-in : (core : StoredState) (now : Option ℕ) (p : Publishing) → IsReached core → IsPublisherOf core.state now p → IsPrefix p.published (committed_in p.commits.events) → IsPrefix p.published (committed_calls core.state)
stands-in core now p reached kept stands = prefix_trans p.published (committed_in p.commits.events) (committed_calls core.state) stands (first-committed core reached p.commits.events kept.passed)

pub stands-on : (shown : Bool) (core : StoredState) (now : Option ℕ) (publisher : Option Publishing) (p : Publishing) → publisher ≡ Some p → IsReached core → HasPublisher shown core.state now publisher → IsPrefix p.published (committed_in p.commits.events)
    → IfSome (published_in publisher) (λ (calls : Calls). IsPrefix calls (committed_calls core.state))
stands-on shown core now publisher p is reached kept stands =
    let views : HasPublisher shown core.state now (Some p) = subst (λ (o : Option Publishing). HasPublisher shown core.state now o) is kept in
    subst (λ (o : Option Publishing). IfSome (published_in o) (λ (calls : Calls). IsPrefix calls (committed_calls core.state))) (sym is)
    (stands-in core now p reached views.1 stands)

-- and a receipt of it is of the core's committed calls
pub told_of : (from s : State) (result : Result (ℕ × Calls) Fault) → IsOfCoreFrom from s → IfOk result (λ told. told.1 ≡ committed_calls s)
    → IfOk result (λ told. OfCoreFrom from (λ state. told.1 ≡ committed_calls state))
told_of from s (Ok told) is same = some-core (λ state. told.1 ≡ committed_calls state) is same
told_of from s (Err fault) is same = tt

-- what was done about a deadlock was done on a core that went on from what was shared
pub broke_in : (from s new : State) (result : Result (Option ℕ) Fault) → IsOfCoreFrom from s → IfOk result (λ victim. Breaks victim s new)
    → IfOk result (λ victim. InCoreFrom from (λ before after. Breaks victim before after))
broke_in from s new (Ok victim) is breaks = (record { state = s; cells = is.of_core.0 }, is.of_core.1, is.goes_on, (new, breaks))
broke_in from s new (Err fault) is breaks = tt
