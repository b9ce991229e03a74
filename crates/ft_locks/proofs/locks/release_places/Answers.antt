use Rattle.std.proofs.Common.{◌≡◌, true, false, refl, sym, subst, ◌∙◌}
use Rattle.std.specs.FinMap as finite
use Rattle.std.proofs.lemmas.Bool.{false≢true}
use Rattle.ft_lock_rules.specs.Locks.{AreFreed}
use Rattle.ft_lock_rules.specs.Seen.{table_of}
use Rattle.ft_lock_rules.proofs.Joining.{apart_test}
use Rattle.ft_lock_rules.specs.Holdings.{AreSingle}
use Rattle.ft_locks.specs.BulkReleased.{left_in, with_bulk}
use Rattle.ft_locks.proofs.GivenUp.{given-kept, given-free, given-released, listed-kept, listed-released}
use Rattle.ft_locks.proofs.locks.release_places.Goals.{else-is_empty-via-then-is_empty+else-give_up, else-is_empty-via-else-is_empty}
use Rattle.ft_locks.proofs.locks.release_places.Goals as goal

pub returns-then-give_up-clause-kept : goal.returns-then-give_up-clause-kept
returns-then-give_up-clause-kept c =
    given-kept c.args.holdings.now.cells c.give_up.new.self.cells c.args.owner (apart_test c.args.owner 0 c.requires.apart) (c.give_up.ensures.alone c.if-give_up.true) (c.give_up.ensures.cells c.if-give_up.true)
    c.args.holdings.now.lists c.give_up.new.self.lists c.requires.kept c.give_up.ensures.still

pub returns-then-give_up-clause-single : goal.returns-then-give_up-clause-single
returns-then-give_up-clause-single c = λ all _. c.give_up.ensures.single c.if-give_up.true all

pub returns-then-give_up-clause-none_left : goal.returns-then-give_up-clause-none_left
returns-then-give_up-clause-none_left c = λ _.
    given-free c.args.holdings.now.cells c.give_up.new.self.cells c.args.owner (apart_test c.args.owner 0 c.requires.apart) (c.give_up.ensures.alone c.if-give_up.true) (c.give_up.ensures.cells c.if-give_up.true)
    c.args.holdings.now.lists c.give_up.new.self.lists c.requires.kept c.give_up.ensures.still

pub returns-then-give_up-clause-at_once : goal.returns-then-give_up-clause-at_once
returns-then-give_up-clause-at_once c = λ _ was all.
    given-released c.args.holdings.now.cells c.give_up.new.self.cells c.args.owner (apart_test c.args.owner 0 c.requires.apart) (c.give_up.ensures.alone c.if-give_up.true) (c.give_up.ensures.cells c.if-give_up.true)
    c.args.holdings.now.lists c.give_up.new.self.lists c.requires.kept c.give_up.ensures.still
    was all c.args.bulk.now c.give_up.new.bulk (c.is_empty.ensures c.if-is_empty.true) (c.give_up.ensures.given c.if-give_up.true all)

pub returns-then-give_up-clause-one_by_one : goal.returns-then-give_up-clause-one_by_one
returns-then-give_up-clause-one_by_one c = λ no. absurd (false≢true (sym no))

pub returns-clause-kept : goal.returns-clause-kept
returns-clause-kept c =
    let same : c.else-is_empty.holdings ≡ c.args.holdings.now = elim c.else-is_empty.branch [
      | else-is_empty-via-then-is_empty+else-give_up w ↦ w.holdings-is ∙ (w.give_up.ensures.kept w.if-give_up.false).0
      | else-is_empty-via-else-is_empty w ↦ w.holdings-is
    ] in
    listed-kept true c.args.holdings.now c.else-is_empty.holdings c.hand_over.new.self c.args.bulk.now c.args.owner c.requires.apart c.requires.kept same c.hand_over.ensures.marks c.hand_over.ensures.still

pub returns-clause-single : goal.returns-clause-single
returns-clause-single c = λ all single. elim c.else-is_empty.branch [
  | else-is_empty-via-then-is_empty+else-give_up w ↦ subst (λ g. AreSingle (left_in all g)) (sym (w.bulk-is ∙ (w.give_up.ensures.kept w.if-give_up.false).1)) (single refl)
  | else-is_empty-via-else-is_empty w ↦ subst (λ g. AreSingle (left_in all g)) (sym w.bulk-is) (single refl)
]

pub returns-clause-one_by_one : goal.returns-clause-one_by_one
returns-clause-one_by_one c = λ _ all.
    let same : c.else-is_empty.holdings ≡ c.args.holdings.now = elim c.else-is_empty.branch [
      | else-is_empty-via-then-is_empty+else-give_up w ↦ w.holdings-is ∙ (w.give_up.ensures.kept w.if-give_up.false).0
      | else-is_empty-via-else-is_empty w ↦ w.holdings-is
    ] in
    let gone_same : c.else-is_empty.bulk ≡ c.args.bulk.now = elim c.else-is_empty.branch [
      | else-is_empty-via-then-is_empty+else-give_up w ↦ w.bulk-is ∙ (w.give_up.ensures.kept w.if-give_up.false).1
      | else-is_empty-via-else-is_empty w ↦ w.bulk-is
    ] in
    subst (λ g. AreFreed true (with_bulk all c.args.bulk.now (table_of c.args.holdings.now.cells c.args.holdings.now.lists)) (with_bulk all g (table_of c.hand_over.new.self.cells (finite.remove c.hand_over.new.self.lists c.args.owner))) c.args.owner) (sym gone_same)
    (listed-released all c.args.holdings.now c.else-is_empty.holdings c.hand_over.new.self c.args.bulk.now c.args.owner c.requires.apart c.requires.kept same c.hand_over.ensures.marks c.hand_over.ensures.still)
