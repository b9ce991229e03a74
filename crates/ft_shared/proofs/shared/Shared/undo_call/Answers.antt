use Rattle.ft_shared.proofs.shared.Shared.undo_call.Goals as goal

pub returns : goal.returns
returns g c = record { some_core = (record { state = c.deref_mut.result.now.core.state; cells = c.undo_call-answer.ensures.from.of_core.0 }, c.undo_call-answer.ensures.from.of_core.1, c.undo_call-answer.ensures.from.goes_on, (c.undo_call-answer.new.self.core.state, c.undo_call-answer.ensures.step)) }
