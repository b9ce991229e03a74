use Rattle.std.proofs.Common.{◌≡◌}
use Rattle.ft_plan.specs.Lines.{names_of}
use Rattle.ft_plan.proofs.Names.{behind_names}
use Rattle.ft_plan.proofs.line.names_of.Given as goal

-- the names of all words are those so far, and then those of the words that are left
abbrev pub invariant-loop-word : goal.invariant-loop-word
invariant-loop-word l = record {
  able : (goal.iterator-loop-word).can_next l.word-iterator;
  finite : (goal.iterator-loop-word).is_finite l.word-iterator;
  read : names_of l.fn.words ≡ behind_names l.names.items (names_of l.word-iterator);
}
