use Rattle.std.proofs.Common.{◌≡◌, ◌==◌, ℕ, Bool, true, false, cond, Option, None, eqb-true, refl, sym, ap, ◌∙◌}
use Rattle.std.specs.Ordering.{nat_cmp}
use Rattle.std.specs.Cmp.{nat_cmp_total}
use Rattle.std.specs.FinMap as finite
use Rattle.ft_posix.specs.declared.call.Call.{Call}
use Rattle.ft_core.specs.States.{Asks}
use Rattle.ft_core.specs.Journals.{Journaled}
use Rattle.ft_core.proofs.journal.Journal.take_ask.Goals as goal

none-at : (b : Bool) (o : Option Call) → o ≡ None → o ≡ cond b None o
none-at true o h = h
none-at false o h = refl

-- where nobody waits nothing is to be taken out
none-removed : (asks : Asks) (t : ℕ) → finite.len asks ≡ 0 → asks ≡ finite.remove asks t
none-removed asks t none = finite.same_map nat_cmp_total finite.nat_cmp-IsAntisymmetric asks (finite.remove asks t) (λ q.
    none-at _ (finite.get asks q) (ap (λ (m : Asks). finite.get m q) (finite.empty_of_len asks none) ∙ finite.get-empty nat_cmp q) ∙ sym (finite.get-remove nat_cmp_total asks t q))

pub returns-then-is_empty-clause-taken : goal.returns-then-is_empty-clause-taken
returns-then-is_empty-clause-taken c =
    let asks = c.args.self.now.asks in
    sym (ap (λ (m : Asks). finite.get m c.args.txn) (finite.empty_of_len asks (eqb-true (finite.len asks) 0 (sym (c.is_empty.ensures ∙ ap (λ (j : Journaled). finite.len j.asks == 0) c.self.view_is) ∙ c.if-is_empty.true))) ∙ finite.get-empty nat_cmp c.args.txn)

pub returns-then-is_empty-clause-left : goal.returns-then-is_empty-clause-left
returns-then-is_empty-clause-left c =
    ap (λ asks. record c.args.self.now { asks = asks }) (none-removed c.args.self.now.asks c.args.txn
    (eqb-true (finite.len c.args.self.now.asks) 0 (sym (c.is_empty.ensures ∙ ap (λ (j : Journaled). finite.len j.asks == 0) c.self.view_is) ∙ c.if-is_empty.true)))
