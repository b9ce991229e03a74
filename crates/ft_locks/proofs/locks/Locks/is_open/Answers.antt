use Rattle.std.proofs.Common.{not, ◌&&◌, refl, ap, sym, ◌∙◌}
use Rattle.std.proofs.lemmas.Bool.{eq-eqb}
use Rattle.std.specs.FinMap as finite
use Rattle.ft_lock_rules.specs.Locks.{is_opened}
use Rattle.ft_lock_rules.specs.Seen.{table_of}
use Rattle.ft_lock_rules.proofs.Joining.{apart_test}
use Rattle.ft_lock_rules.proofs.Handing.{opened_is}
use Rattle.ft_locks.proofs.locks.Locks.is_open.Goals as goal

pub returns-then-txn-ne-RELEASED : goal.returns-then-txn-ne-RELEASED
returns-then-txn-ne-RELEASED c =
    c.is_open.ensures
    ∙ sym (sym (ap (λ x. is_opened x c.args.txn) c.self.view_is) ∙ opened_is (table_of c.self.inside.holdings.cells c.self.inside.holdings.lists) c.self.inside.holdings.cells c.self.inside.holdings.lists refl c.args.txn c.txn.inside.0 c.txn.view_is
    ∙ ap (λ b. not b && finite.contains_key c.self.inside.holdings.lists c.txn.inside.0) (apart_test c.txn.inside.0 0 c.if-txn-ne-RELEASED.true))

pub returns-else-txn-ne-RELEASED : goal.returns-else-txn-ne-RELEASED
returns-else-txn-ne-RELEASED c =
    let none = eq-eqb c.txn.inside.0 0 c.if-txn-ne-RELEASED.false in
    ap (λ b. not b) none
    ∙ sym (sym (ap (λ x. is_opened x c.args.txn) c.self.view_is) ∙ opened_is (table_of c.self.inside.holdings.cells c.self.inside.holdings.lists) c.self.inside.holdings.cells c.self.inside.holdings.lists refl c.args.txn c.txn.inside.0 c.txn.view_is
    ∙ ap (λ b. not b && finite.contains_key c.self.inside.holdings.lists c.txn.inside.0) none)
