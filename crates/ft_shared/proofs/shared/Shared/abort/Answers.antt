use Rattle.ft_shared.proofs.shared.Shared.abort.Goals as goal

pub returns-then-is_ok : goal.returns-then-is_ok
returns-then-is_ok g c = record { some_core = (record { state = c.deref_mut.result.now.core.state; cells = c.abort-answer.ensures.from.of_core.0 }, c.abort-answer.ensures.from.of_core.1, c.abort-answer.ensures.from.goes_on, (c.abort-answer.new.self.core.state, c.abort-answer.ensures.step)) }

pub returns-else-is_ok : goal.returns-else-is_ok
returns-else-is_ok g c = record { some_core = (record { state = c.deref_mut.result.now.core.state; cells = c.abort-answer.ensures.from.of_core.0 }, c.abort-answer.ensures.from.of_core.1, c.abort-answer.ensures.from.goes_on, (c.abort-answer.new.self.core.state, c.abort-answer.ensures.step)) }
