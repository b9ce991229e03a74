use Rattle.std.proofs.Common.{IsSome, is_some, ◌∷◌, ap, sym, ◌∙◌}
use Rattle.std.specs.FinMap as finite
use Rattle.ft_owned_lists.specs.OwnedLists.{list_in}
use Rattle.ft_lock_rules.specs.Cells.{is_at, marks_at}
use Rattle.ft_lock_rules.specs.Holdings.{Held, has_place, lists_under}
use Rattle.ft_locks.proofs.Slots.{if_known, and_some}
use Rattle.ft_lock_rules.proofs.Joining.{joined-same, joined-add, placed-put, placed_there, placed_back, none_had, list-insert, ok_if, err_if}
use Rattle.ft_lock_rules.proofs.Under.{open-under, added-under, kept-under, kept-used, joined-kept, used-same, used-insert}
use Rattle.ft_locks.proofs.holdings.Holdings.place.Goals as goal

pub push_front-requires : goal.push_front-requires
push_front-requires c =
    sym (open-under c.self.inside.cells.at c.self.inside.chains c.args.owner) ∙ ap (λ (h : Held). is_some (finite.get h.lists c.args.owner)) c.self.view_is ∙ c.requires

pub take_out-requires : goal.take_out-requires
take_out-requires c =
    let none = none_had c.in_ok-place.place.had (sym c.is_some.ensures ∙ c.if-is_some.false) in
    and_some (finite.get c.place.new.self.at c.in_ok-place.place.key) c.args.cell.now (λ d. IsSome (marks_at c.place.new.self.cells d c.args.owner)) c.in_ok-place.ensures.key
    (placed_there c.self.inside.cells.cells c.place.new.self.cells c.args.cell.now c.args.owner c.args.marks (c.in_ok-place.ensures.placed none))

pub invariant_of-self-then-is_err : goal.invariant_of-self-then-is_err
invariant_of-self-then-is_err c =
    let none = none_had c.in_ok-place.place.had (sym c.is_some.ensures ∙ c.if-is_some.false) in
    let after = if_known (finite.get c.place.new.self.at c.in_ok-place.place.key) c.args.cell.now _ c.in_ok-place.ensures.key c.take_out.ensures.after in
    let back = placed_back c.self.inside.cells.cells c.place.new.self.cells c.take_out.new.self.cells c.args.cell.now c.args.owner c.args.marks (sym c.in_ok-place.ensures.had ∙ none) (c.in_ok-place.ensures.placed none) after in
    let same = err_if c.push_front.result _ (sym c.is_err.ensures.value ∙ c.if-is_err.true) c.push_front.ensures.err in
    let joined = joined-same _ _ c.self.invariant.joined (has_place c.take_out.new.self.cells) (lists_under c.self.inside.cells.at c.push_front.new.self) (λ d u. ap (λ o. is_some o) (back d u)) (λ u. ap (λ m. list_in (lists_under c.self.inside.cells.at m) u) same) in
    let used = used-same c.self.inside.cells.at c.self.inside.chains c.push_front.new.self same c.self.invariant.used in
    joined-kept c.self.inside.cells.at c.take_out.new.self c.push_front.new.self joined used
    (λ k d u is has. c.take_out.ensures.keys k d u (c.in_ok-place.ensures.others k (ap (λ o. is_some o) is) ∙ is) has)

pub returns-then-is_err-clause-err : goal.returns-then-is_err-clause-err
returns-then-is_err-clause-err c = λ d u.
    let none = none_had c.in_ok-place.place.had (sym c.is_some.ensures ∙ c.if-is_some.false) in
    let after = if_known (finite.get c.place.new.self.at c.in_ok-place.place.key) c.args.cell.now _ c.in_ok-place.ensures.key c.take_out.ensures.after in
    let back = placed_back c.self.inside.cells.cells c.place.new.self.cells c.take_out.new.self.cells c.args.cell.now c.args.owner c.args.marks (sym c.in_ok-place.ensures.had ∙ none) (c.in_ok-place.ensures.placed none) after in
    back d u ∙ ap (λ (h : Held). marks_at h.cells d u) c.self.view_is

pub returns-then-is_err-clause-lists : goal.returns-then-is_err-clause-lists
returns-then-is_err-clause-lists c =
    let none = none_had c.in_ok-place.place.had (sym c.is_some.ensures ∙ c.if-is_some.false) in
    let after = if_known (finite.get c.place.new.self.at c.in_ok-place.place.key) c.args.cell.now _ c.in_ok-place.ensures.key c.take_out.ensures.after in
    let back = placed_back c.self.inside.cells.cells c.place.new.self.cells c.take_out.new.self.cells c.args.cell.now c.args.owner c.args.marks (sym c.in_ok-place.ensures.had ∙ none) (c.in_ok-place.ensures.placed none) after in
    let same = err_if c.push_front.result _ (sym c.is_err.ensures.value ∙ c.if-is_err.true) c.push_front.ensures.err in
    let joined = joined-same _ _ c.self.invariant.joined (has_place c.take_out.new.self.cells) (lists_under c.self.inside.cells.at c.push_front.new.self) (λ d u. ap (λ o. is_some o) (back d u)) (λ u. ap (λ m. list_in (lists_under c.self.inside.cells.at m) u) same) in
    let used = used-same c.self.inside.cells.at c.self.inside.chains c.push_front.new.self same c.self.invariant.used in
    kept-under c.self.inside.cells.at c.take_out.new.self.at c.push_front.new.self (has_place c.take_out.new.self.cells) joined used
    (λ k d u is has. c.take_out.ensures.keys k d u (c.in_ok-place.ensures.others k (ap (λ o. is_some o) is) ∙ is) has)
    ∙ ap (lists_under c.self.inside.cells.at) same ∙ ap (λ (h : Held). h.lists) c.self.view_is

pub invariant_of-self-else-is_err : goal.invariant_of-self-else-is_err
invariant_of-self-else-is_err c =
    let none = none_had c.in_ok-place.place.had (sym c.is_some.ensures ∙ c.if-is_some.false) in
    let added = ok_if c.push_front.result _ (sym c.is_err.ensures.value ∙ c.if-is_err.false) c.push_front.ensures.ok in
    let lists = lists_under c.self.inside.cells.at c.self.inside.chains in
    let seen = ap (lists_under c.place.new.self.at) added ∙ added-under c.place.new.self.at c.self.inside.chains c.args.owner c.in_ok-place.place.key c.args.cell.now c.in_ok-place.ensures.key
    ∙ ap (λ l. finite.insert l c.args.owner (c.args.cell.now ∷ list_in l c.args.owner))
    (kept-under c.self.inside.cells.at c.place.new.self.at c.self.inside.chains (has_place c.self.inside.cells.cells) c.self.invariant.joined c.self.invariant.used (λ k d u is has. c.in_ok-place.ensures.others k (ap (λ o. is_some o) is) ∙ is)) in
    let used = kept-used c.self.inside.cells.at c.place.new.self.at c.self.inside.chains (has_place c.self.inside.cells.cells) c.self.invariant.joined c.self.invariant.used (λ k d u is has. c.in_ok-place.ensures.others k (ap (λ o. is_some o) is) ∙ is) in
    record {
      joined = joined-add (has_place c.self.inside.cells.cells) lists c.self.invariant.joined (has_place c.place.new.self.cells) (lists_under c.place.new.self.at c.push_front.new.self) c.args.cell.now c.args.owner
          (ap (λ o. is_some o) (sym c.in_ok-place.ensures.had ∙ none))
          (λ d u. ap (λ o. is_some o) (c.in_ok-place.ensures.placed none d u) ∙ placed-put (is_at c.args.cell.now c.args.owner d u) c.args.marks (marks_at c.self.inside.cells.cells d u))
          (λ u. ap (λ m. list_in m u) seen ∙ list-insert lists c.args.owner _ u);
      used = used-same c.place.new.self.at _ c.push_front.new.self added
          (used-insert c.place.new.self.at c.self.inside.chains c.args.owner _ used (ap (λ o. is_some o) c.in_ok-place.ensures.key, used c.args.owner));
    }

pub returns-clause-list : goal.returns-clause-list
returns-clause-list c = λ _.
    let added = ok_if c.push_front.result _ (sym c.is_err.ensures.value ∙ c.if-is_err.false) c.push_front.ensures.ok in
    let lists = lists_under c.self.inside.cells.at c.self.inside.chains in
    let seen = ap (lists_under c.place.new.self.at) added ∙ added-under c.place.new.self.at c.self.inside.chains c.args.owner c.in_ok-place.place.key c.args.cell.now c.in_ok-place.ensures.key
    ∙ ap (λ l. finite.insert l c.args.owner (c.args.cell.now ∷ list_in l c.args.owner))
    (kept-under c.self.inside.cells.at c.place.new.self.at c.self.inside.chains (has_place c.self.inside.cells.cells) c.self.invariant.joined c.self.invariant.used (λ k d u is has. c.in_ok-place.ensures.others k (ap (λ o. is_some o) is) ∙ is)) in
    seen ∙ ap (λ (h : Held). finite.insert h.lists c.args.owner (c.args.cell.now ∷ list_in h.lists c.args.owner)) c.self.view_is
