use Rattle.std.proofs.Common.{◌≡◌, ◌++◌, ℕ, List, length}
use Rattle.ft_words.specs.Spelling.{lines_of}
use Rattle.ft_names.specs.Names.{moment, no_names}
use Rattle.ft_script.specs.Setup.{PlaysWell}
use Rattle.ft_script.proofs.setup.play_all.Given as goal

-- the lines that were played so far, and those that are left, are all
abbrev pub invariant-loop-line : goal.invariant-loop-line
invariant-loop-line g l = (played : List (List ℕ)) × (lines_of l.script ≡ played ++ l.rest) × PlaysWell (g.F.DiskFiles.tells l.files) (l.initial.core.state, no_names) played (moment l.core l.names) × (l.number ≡ length played)

abbrev pub decreases-loop-line : goal.decreases-loop-line
decreases-loop-line g l = length l.rest
