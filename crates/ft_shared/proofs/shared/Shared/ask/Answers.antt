use Rattle.ft_shared.proofs.shared.Shared.ask.Goals as goal

pub returns : goal.returns
returns g c = record { some_core = (record { state = c.deref_mut.result.now.core.state; cells = c.ask-answer.ensures.from.of_core.0 }, c.ask-answer.ensures.from.of_core.1, c.ask-answer.ensures.from.goes_on, (c.ask-answer.new.self.core.state, c.ask-answer.ensures.step)) }
