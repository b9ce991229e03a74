use Rattle.std.proofs.Common.{◌≡◌, filter}
use Rattle.ft_path.specs.FilePath.{is_component, last_of}
use Rattle.ft_path.proofs.Lasting.{after}
use Rattle.ft_path.proofs.judged.JudgedPath.last.Given as goal

-- the last component so far, or one of those that are left, is the last of all
abbrev pub invariant-loop-piece : goal.invariant-loop-piece
invariant-loop-piece l = after l.last (filter is_component l.piece-iterator) ≡ last_of l.fn.self.names
