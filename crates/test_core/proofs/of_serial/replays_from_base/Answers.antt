use Rattle.std.proofs.Common.{◌∙◌}
use Rattle.ft_laws.proofs.Lists.{Each-map}
use Rattle.ft_tree.specs.Sound.{IsFree}
use Rattle.test_core.proofs.Stamps.{each_stamp, distinct_stamps}
use Rattle.test_core.proofs.of_serial.replays_from_base.Goals as goal

pub replays-requires-clause-free : goal.replays-requires-clause-free
replays-requires-clause-free c =
    let fresh = c.reached.ensures.started.fresh in
    let free = c.base.ensures.base.free in
    rw (c.as_slice.ensures.value ∙ c.in_ok-calls.ensures) (each_stamp (λ stamp. IsFree c.base.result.now stamp) _ (Each-map _ _ (λ call newer. free call.call.stamp newer) _ c.serial_runs.ensures.since))

pub replays-requires-clause-distinct : goal.replays-requires-clause-distinct
replays-requires-clause-distinct c = rw (c.as_slice.ensures.value ∙ c.in_ok-calls.ensures) (distinct_stamps _ c.serial_runs.ensures.distinct)
