use Rattle.ft_lock_rules.proofs.HolderLists.{none_at, never_none, place_read, absent_read, absent_in, apart-other, seen-other}
use Rattle.std.proofs.Common.{refl}
use Rattle.ft_lock_rules.proofs.crowd.Crowd.rename.Goals as goal

pub invariant_of-self : goal.invariant_of-self
invariant_of-self c =
    let at = place_read c.self.inside.list.items c.as_slice.result.now c.in-Some.place c.args.from c.in-Some.ensures.some c.as_slice.ensures in (
      apart-other c.args.self.now c.self.inside.list.items c.self.view_is c.self.invariant.0 c.in-Some.place c.args.from at (record { owner = c.args.to; marks = c.args.marks }) c.requires.absent,
      c.index_moved.ensures c.self.inside.list.items c.self.invariant.0 at (absent_in c.args.self.now c.self.inside.list.items c.self.inside.list.items c.self.view_is refl c.args.to c.requires.absent) c.self.invariant.1,
    )

pub returns-in-Some : goal.returns-in-Some
returns-in-Some c =
    let at = place_read c.self.inside.list.items c.as_slice.result.now c.in-Some.place c.args.from c.in-Some.ensures.some c.as_slice.ensures in
    seen-other c.args.self.now c.self.inside.list.items c.self.view_is c.self.invariant.0 c.in-Some.place c.args.from at (record { owner = c.args.to; marks = c.args.marks }) c.requires.absent

pub returns-in_default : goal.returns-in_default
returns-in_default c =
    never_none _ (none_at c.args.self.now c.self.inside.list.items c.args.from c.self.view_is (absent_read _ c.as_slice.result.now c.args.from c.in_default.ensures.none c.as_slice.ensures)) c.requires.there
