use Rattle.ft_shared.proofs.shared.Shared.ask_copy.Goals as goal

pub returns : goal.returns
returns g c = record { some_core = (record { state = c.deref_mut.result.now.core.state; cells = c.ask_copy-answer.ensures.from.of_core.0 }, c.ask_copy-answer.ensures.from.of_core.1, c.ask_copy-answer.ensures.from.goes_on, (c.ask_copy-answer.new.self.core.state, c.ask_copy-answer.ensures.step)) }
