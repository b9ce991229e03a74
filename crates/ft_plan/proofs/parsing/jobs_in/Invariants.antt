use Rattle.std.proofs.Common.{◌≡◌}
use Rattle.ft_plan.specs.Plans.{said}
use Rattle.ft_plan.specs.Parsing.{behind_all}
use Rattle.ft_plan.proofs.parsing.jobs_in.Given as goal

-- what all lines say is what the lines so far say, and then what those say that are left
abbrev pub invariant-loop-line : goal.invariant-loop-line
invariant-loop-line l = record {
  able : (goal.iterator-loop-line).can_next l.line-iterator;
  finite : (goal.iterator-loop-line).is_finite l.line-iterator;
  said : said l.strict l.fn.lines ≡ behind_all l.jobs (said l.strict l.line-iterator);
}
