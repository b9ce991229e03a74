use Rattle.ft_shared.proofs.shared.Shared.drop_ask.Goals as goal

pub returns : goal.returns
returns g c = record { some_core = (record { state = c.deref_mut.result.now.core.state; cells = c.drop_ask-answer.ensures.from.of_core.0 }, c.drop_ask-answer.ensures.from.of_core.1, c.drop_ask-answer.ensures.from.goes_on, (c.drop_ask-answer.new.self.core.state, c.drop_ask-answer.ensures.step)) }
