use Rattle.ft_shared.proofs.shared.Shared.begin.Goals as goal

pub returns : goal.returns
returns g c = record { some_core = (record { state = c.deref_mut.result.now.core.state; cells = c.begin-answer.ensures.from.of_core.0 }, c.begin-answer.ensures.from.of_core.1, c.begin-answer.ensures.from.goes_on, (c.begin-answer.new.self.core.state, c.begin-answer.ensures.step)) }
