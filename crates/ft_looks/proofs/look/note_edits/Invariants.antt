use Rattle.std.proofs.Common.{◌≡◌, drop}
use Rattle.ft_posix.specs.Edits.{with_edits}
use Rattle.ft_looks.proofs.look.note_edits.Given as goal

-- with the edits that are left, all are noted
abbrev pub invariant-loop-edit : goal.invariant-loop-edit
invariant-loop-edit l = with_edits l.touched (drop l.edit-index (drop 2 l.edits)) ≡ with_edits l.fn.touched l.edits
