-- The requests to a target, one after another.
use Rattle.std.specs.Prelude.{◌≡◌, ℕ, Bool, true, false, List, [], ◌∷◌, Option}
use Rattle.std.specs.List.{list_any}
use Rattle.ft_cells.specs.declared.attributes.Attributes.{Attributes}
use Rattle.ft_cells.specs.declared.attributes.Timestamp.{Timestamp}

-- One request to a target: to start; to make a directory with attributes; to make a file with
-- attributes, which is open; to append bytes to the open file; to close it, with the time of its
-- bytes, if there is one; to give a further name to a file or a symbolic link; to make a symbolic
-- link with a target; to finish, with attributes of the root; to give up.
pub data Asked : Type 0 where
  Start : Asked
  Folder : (path : List ℕ) → (attributes : Attributes) → Asked
  Open : (path : List ℕ) → (attributes : Attributes) → Asked
  Piece : (bytes : List ℕ) → Asked
  Close : (time : Option Timestamp) → Asked
  Link : (first : List ℕ) → (path : List ℕ) → Asked
  Symlink : (to : List ℕ) → (path : List ℕ) → Asked
  Finish : (attributes : Attributes) → Asked
  GiveUp : Asked

-- the request is to finish
abbrev pub is_finish : Asked → Bool
is_finish Start = false
is_finish (Folder path attributes) = false
is_finish (Open path attributes) = false
is_finish (Piece bytes) = false
is_finish (Close time) = false
is_finish (Link first path) = false
is_finish (Symlink to path) = false
is_finish (Finish attributes) = true
is_finish GiveUp = false

-- the target was not asked to finish
abbrev pub IsUnfinished : List Asked → Type 0
IsUnfinished asked = list_any is_finish asked ≡ false

module _ {T : Type 0} (does : T → Asked → T → Type 0) where
  -- The target did all of this, from one state to the next.
  abbrev pub DoesAll : T → List Asked → T → Type 0
  DoesAll old [] new = new ≡ old
  DoesAll old (first ∷ more) new = (middle : T) × does old first middle × DoesAll middle more new
