use Rattle.std.proofs.Common.{arith, ◌≤◌, set}
use Rattle.ft_index.specs.Slots.{slot_at, free}
use Rattle.ft_index.specs.Probing.{home_of}
use Rattle.ft_index.proofs.Probes.{moved_same, moves-set, same_keys}
use Rattle.ft_index.proofs.probe.move_into.Goals as goal

pub returns-clause-same : goal.returns-clause-same
returns-clause-same c =
    let old = c.args.slots.now in
    let before = c.requires.closing.before in
    let within = c.requires.within in
    let home : home_of c.args.homes (slot_at old c.args.at).hash ≤ c.args.gap = omega (arith, c.home.ensures.home) in
    same_keys old (set (set old c.args.gap (slot_at old c.args.at)) c.args.at free)
    (moved_same c.args.homes old (set (set old c.args.gap (slot_at old c.args.at)) c.args.at free) c.args.gap c.args.at c.requires.closing c.requires.full home within
    (moves-set old c.args.gap c.args.at (λ e. omega arith) (omega arith) within)).listed
