use Rattle.std.proofs.Common.{ℕ, cond, None, IsSome, is_some, ◌∷◌, ap, sym, ◌∙◌, drop}
use Rattle.std.specs.FinMap as finite
use Rattle.std.proofs.lemmas.Option.{IfSome_then}
use Rattle.ft_owned_lists.specs.OwnedLists.{list_in}
use Rattle.ft_lock_rules.specs.Cells.{is_at, marks_at}
use Rattle.ft_lock_rules.specs.Holdings.{Held, has_place, cells_under, lists_under}
use Rattle.ft_lock_rules.proofs.Cases.{none_any, none_then}
use Rattle.ft_locks.proofs.Slots.{if_known, and_some}
use Rattle.ft_lock_rules.proofs.Paired.{the_one}
use Rattle.ft_lock_rules.proofs.Joining.{first_is, none_first, none_placed, joined-drop, placed-out, list-insert, list_there}
use Rattle.ft_lock_rules.proofs.Under.{list-under, insert-under, front, kept-under, joined-kept, used-same, used-insert}
use Rattle.ft_locks.proofs.holdings.Holdings.drop_front.Goals as goal

pub take_out-freed-requires : goal.take_out-freed-requires
take_out-freed-requires c =
    let first = first_is (list_in c.self.inside.chains c.args.owner) c.in_ok-key.key c.in_ok-key.ensures.value in
    let newest = front c.self.inside.cells c.self.inside.chains c.self.invariant c.args.owner c.in_ok-key.key _ first in
    and_some (finite.get c.self.inside.cells.at c.in_ok-key.key) newest.cell (λ d. IsSome (marks_at c.self.inside.cells.cells d c.args.owner)) newest.is newest.placed

pub invariant_of-self-2 : goal.invariant_of-self-2
invariant_of-self-2 c =
    let rest = drop 1 (list_in c.self.inside.chains c.args.owner) in
    let lists = lists_under c.self.inside.cells.at c.self.inside.chains in
    let first = first_is (list_in c.self.inside.chains c.args.owner) c.in_ok-key.key c.in_ok-key.ensures.value in
    let newest = front c.self.inside.cells c.self.inside.chains c.self.invariant c.args.owner c.in_ok-key.key _ first in
    let after = if_known (finite.get c.self.inside.cells.at c.in_ok-key.key) newest.cell _ newest.is c.take_out-freed.ensures.after in
    let left = ap (lists_under c.self.inside.cells.at) c.in_ok-key.ensures.some ∙ insert-under c.self.inside.cells.at c.self.inside.chains c.args.owner rest in
    joined-kept c.self.inside.cells.at c.take_out-freed.new.self c.pop_front.new.self
    (joined-drop (has_place c.self.inside.cells.cells) lists c.self.invariant.joined _ (lists_under c.self.inside.cells.at c.pop_front.new.self) newest.cell c.args.owner (cells_under c.self.inside.cells.at rest) newest.list
    (λ d u. ap (λ o. is_some o) (after d u) ∙ placed-out (is_at newest.cell c.args.owner d u) (marks_at c.self.inside.cells.cells d u))
    (λ u. ap (λ m. list_in m u) left ∙ list-insert lists c.args.owner (cells_under c.self.inside.cells.at rest) u))
    (used-same c.self.inside.cells.at _ c.pop_front.new.self c.in_ok-key.ensures.some (used-insert c.self.inside.cells.at c.self.inside.chains c.args.owner rest c.self.invariant.used newest.used))
    c.take_out-freed.ensures.keys

pub returns-clause-dropped : goal.returns-clause-dropped
returns-clause-dropped c =
    let at = c.self.inside.cells.at in
    let rest = drop 1 (list_in c.self.inside.chains c.args.owner) in
    let lists = lists_under c.self.inside.cells.at c.self.inside.chains in
    let cells = cells_under c.self.inside.cells.at rest in
    let first = first_is (list_in c.self.inside.chains c.args.owner) c.in_ok-key.key c.in_ok-key.ensures.value in
    let newest = front c.self.inside.cells c.self.inside.chains c.self.invariant c.args.owner c.in_ok-key.key _ first in
    let after = if_known (finite.get c.self.inside.cells.at c.in_ok-key.key) newest.cell _ newest.is c.take_out-freed.ensures.after in
    let left = ap (lists_under c.self.inside.cells.at) c.in_ok-key.ensures.some ∙ insert-under c.self.inside.cells.at c.self.inside.chains c.args.owner rest in
    let joined = joined-drop (has_place c.self.inside.cells.cells) lists c.self.invariant.joined (has_place c.take_out-freed.new.self.cells) (lists_under c.self.inside.cells.at c.pop_front.new.self) newest.cell c.args.owner cells newest.list
    (λ d u. ap (λ o. is_some o) (after d u) ∙ placed-out (is_at newest.cell c.args.owner d u) (marks_at c.self.inside.cells.cells d u))
    (λ u. ap (λ m. list_in m u) left ∙ list-insert lists c.args.owner cells u) in
    let used = used-same c.self.inside.cells.at _ c.pop_front.new.self c.in_ok-key.ensures.some (used-insert c.self.inside.cells.at c.self.inside.chains c.args.owner rest c.self.invariant.used newest.used) in
    let seen = kept-under c.self.inside.cells.at c.take_out-freed.new.self.at c.pop_front.new.self (has_place c.take_out-freed.new.self.cells) joined used c.take_out-freed.ensures.keys ∙ left in
    let short = ap (λ m. list_in m c.args.owner) seen ∙ list_there lists c.args.owner cells in
    record {
      cell = newest.cell;
      there = sym (ap (λ (h : Held). is_some (marks_at h.cells newest.cell c.args.owner)) c.self.view_is) ∙ newest.placed;
      list = sym (ap (λ (h : Held). list_in h.lists c.args.owner) c.self.view_is) ∙ newest.list ∙ ap (λ l. newest.cell ∷ l) (sym short);
      lists = seen ∙ ap (λ l. finite.insert lists c.args.owner l) (sym short)
          ∙ ap (λ (h : Held). finite.insert h.lists c.args.owner (list_in (lists_under c.take_out-freed.new.self.at c.pop_front.new.self) c.args.owner)) c.self.view_is;
      marks = λ d u. after d u ∙ ap (λ (h : Held). cond (is_at newest.cell c.args.owner d u) None (marks_at h.cells d u)) c.self.view_is;
      free = IfSome_then c.take_out-freed.result c.take_out-freed.ensures.cell (λ d e. the_one d newest.cell (sym e ∙ newest.is));
      gone = c.take_out-freed.ensures.gone;
      more = none_then c.take_out-freed.result _ _
          (λ other. if_known (finite.get c.self.inside.cells.at c.in_ok-key.key) newest.cell (λ d. (u : ℕ) × IsSome (marks_at c.take_out-freed.new.self.cells d u)) newest.is other) c.take_out-freed.ensures.more;
    }

pub returns-in_err-key-clause-none : goal.returns-in_err-key-clause-none
returns-in_err-key-clause-none c = none_any c.from_residual.result _ (
  (λ d. sym (ap (λ (h : Held). marks_at h.cells d c.args.owner) c.self.view_is)
      ∙ none_placed c.self.inside.cells.cells (lists_under c.self.inside.cells.at c.self.inside.chains) c.self.invariant.joined c.args.owner
      (list-under c.self.inside.cells.at c.self.inside.chains c.args.owner ∙ ap (cells_under c.self.inside.cells.at) (none_first (list_in c.self.inside.chains c.args.owner) c.in_err-key.ensures.value)) d),
  (λ i. record { cells = c.self.inside.cells.cells; lists = lists_under c.self.inside.cells.at (c.in_err-key.ensures.none i) }) ∙ c.self.view_is,
)
