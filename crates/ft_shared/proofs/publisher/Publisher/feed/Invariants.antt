use Rattle.std.proofs.Common.{◌≡◌, ◌-◌, None, length}
use mathlib.Core.List.{IsPrefix}
use Rattle.ft_serial.specs.Serials.{committed_calls}
use Rattle.ft_shared.proofs.publisher.Publisher.feed.Given as goal

abbrev pub invariant-loop-self : goal.invariant-loop-self
invariant-loop-self g l = (l.self.published ≡ l.initial.self.published) × (l.self.held ≡ None) × (l.self.commits.forgotten ≡ l.initial.self.commits.forgotten) × IsPrefix l.self.commits.events l.core.state.events

abbrev pub decreases-loop-self : goal.decreases-loop-self
decreases-loop-self g l = length (committed_calls l.core.state) - length l.self.commits.given
