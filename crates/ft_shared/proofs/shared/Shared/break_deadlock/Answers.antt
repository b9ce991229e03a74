use Rattle.ft_shared.proofs.Staying.{broke_in}
use Rattle.ft_shared.proofs.shared.Shared.break_deadlock.Goals as goal

pub returns-then-is_broken : goal.returns-then-is_broken
returns-then-is_broken g c = record {
  some_core = broke_in g.J.Sharing.origin.from c.deref_mut.result.now.core.state c.break_deadlock-answer.new.self.core.state c.break_deadlock-answer.result
      c.break_deadlock-answer.ensures.from c.break_deadlock-answer.ensures.broken;
}

pub returns-else-is_broken : goal.returns-else-is_broken
returns-else-is_broken g c = record {
  some_core = broke_in g.J.Sharing.origin.from c.deref_mut.result.now.core.state c.break_deadlock-answer.new.self.core.state c.break_deadlock-answer.result
      c.break_deadlock-answer.ensures.from c.break_deadlock-answer.ensures.broken;
}
