use Rattle.std.proofs.Common.{◌≡◌, ◌+◌, ℕ, List, length, map}
use Rattle.std.specs.List.{concat}
use Rattle.std.specs.Io.KnownBytes.{Consumes}
use Rattle.ft_copy.specs.Asked.{Piece, DoesAll}
use Rattle.ft_copy.specs.declared.file.TheConstants.{PIECE}
use Rattle.ft_copy.proofs.file.pour.Given as goal

-- what was read so far was put behind the bytes of the open file
abbrev pub invariant-loop-room : goal.invariant-loop-room
invariant-loop-room g l = record {
  room : length l.piece ≡ PIECE;
  taken : (pieces : List (List ℕ)) × Consumes (g.R.Read.remaining l.initial.file) (g.R.Read.remaining l.file) (concat pieces)
      × DoesAll g.T.Target.does l.initial.target (map Piece pieces) l.target × (l.left + length (concat pieces) ≡ l.most);
}

abbrev pub decreases-loop-room : goal.decreases-loop-room
decreases-loop-room g l = l.left
