use Rattle.std.proofs.Common.{◌≡◌, ◌++◌, take}
use Rattle.std.specs.Prelude.{string_bytes}
use Rattle.ft_run.specs.SavesInto.{left_lines}
use Rattle.ft_run.proofs.into.add_left.Given as goal

-- the text so far has the line of each path so far
abbrev pub invariant-loop-path : goal.invariant-loop-path
invariant-loop-path l = string_bytes l.text ≡ string_bytes l.initial.text ++ left_lines (take l.path-index l.left)
