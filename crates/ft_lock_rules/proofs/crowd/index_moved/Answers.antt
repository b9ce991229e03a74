use Rattle.std.proofs.Common.{◌≤◌, subst, ap, ◌∙◌}
use Rattle.std.specs.FinMap as finite
use Rattle.ft_lock_rules.specs.CellLocks.{Indexed, IsIndexIf}
use Rattle.ft_lock_rules.proofs.HolderReaders.{index_other}
use Rattle.ft_lock_rules.proofs.crowd.index_moved.Goals as goal

pub returns-else-not-put_in_room : goal.returns-else-not-put_in_room
returns-else-not-put_in_room c = λ list apart at none is.
    index_other c.in-Some.kept c.put_in_room.new.self list (subst (λ x. IsIndexIf x list) c.in-Some.is is) apart c.args.place c.args.from at c.args.to none
    (c.put_in_room.ensures.places c.if-not-put_in_room.false ∙ ap (λ (x : Indexed). finite.insert x.places c.args.to.owner c.args.place) c.remove.ensures)
    (subst (λ (x : Indexed). x.last_writer ≤ c.put_in_room.new.self.last_writer) c.remove.ensures c.put_in_room.ensures.later)
    (c.put_in_room.ensures.writer c.if-not-put_in_room.false)
