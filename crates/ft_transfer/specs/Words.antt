-- The words of a transfer. (The format is this project's own: docs/SCRIPT.md.)
use Rattle.std.specs.Prelude.{ℕ, List, [], ◌∷◌, codes, ◌==◌, if◌then◌else◌, Option, None, option_map}
use Rattle.ft_words.specs.Spelling.{parse_path, parse_u64}
use Rattle.ft_words.specs.Calls.{both, look_up, only}
use Rattle.ft_transfer.specs.declared.transfer.Direction.{Direction}
use Rattle.ft_transfer.specs.declared.transfer.Direction.TheVariants.{Get, Put}
use Rattle.ft_transfer.specs.declared.transfer.Transfer.{Transfer}

-- the words for the directions
abbrev pub direction_words : List (List ℕ × Direction)
direction_words = (codes "put", Put) ∷ (codes "get", Get) ∷ []

-- the name of a file of the disk: `@` and a path that is not empty
abbrev pub parse_file : List ℕ → Option (List ℕ)
parse_file (at ∷ b ∷ bs) = if at == 64 then parse_path (b ∷ bs) else None
parse_file short = None

-- a transaction, a direction, the path of a file of the tree and the name of a file of the disk
abbrev pub transfer_of : List (List ℕ) → Option Transfer
transfer_of words = option_map (λ t. record { txn = t.0; direction = t.1.0; path = t.1.1.0; file = t.1.1.1 }) (both parse_u64 (both (look_up direction_words) (both parse_path (only parse_file))) words)
