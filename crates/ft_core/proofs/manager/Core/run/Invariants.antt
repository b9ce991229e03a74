use Rattle.std.proofs.Common.{◌≡◌, ◌≤◌, ◌+◌, ◌++◌, vec_len, vec_capacity, length}
use Rattle.std.specs.Vec.Iter.{into_iter_items}
use Rattle.ft_core.specs.Steps.{IsRun, exact_rule}
use Rattle.ft_core.proofs.manager.Core.run.Given as goal

-- the answers so far are those of a run of the requests so far, and there is room for the others
abbrev pub invariant-loop-request : goal.invariant-loop-request
invariant-loop-request l = record {
  ran : IsRun exact_rule l.initial.self.state l.yielded l.answers.items l.self.state;
  rest : l.yielded ++ into_iter_items l.request-iterator ≡ l.fn.requests.items;
  room : vec_len l.answers + length (into_iter_items l.request-iterator) ≤ vec_capacity l.answers;
}
