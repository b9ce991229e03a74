use Rattle.ft_shared.proofs.shared.Shared.retry.Goals as goal

pub returns : goal.returns
returns g c = record { some_core = (record { state = c.deref_mut.result.now.core.state; cells = c.retry-answer.ensures.from.of_core.0 }, c.retry-answer.ensures.from.of_core.1, c.retry-answer.ensures.from.goes_on, (c.retry-answer.new.self.core.state, c.retry-answer.ensures.step)) }
