use Rattle.ft_shared.proofs.shared.Shared.sub.Goals as goal

pub returns : goal.returns
returns g c = record { some_core = (record { state = c.deref_mut.result.now.core.state; cells = c.sub-answer.ensures.from.of_core.0 }, c.sub-answer.ensures.from.of_core.1, c.sub-answer.ensures.from.goes_on, (c.sub-answer.new.self.core.state, c.sub-answer.ensures.step)) }
