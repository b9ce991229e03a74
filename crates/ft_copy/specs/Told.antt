-- The reports of a source on a tree of directories.
use Rattle.std.specs.Prelude.{◌≡◌, ◌==◌, ◌&&◌, ◌⊎◌, ℕ, Bool, false, List, ◌∷◌, ◌++◌, Option}
use Rattle.ft_path.specs.Name.{IsName}
use Rattle.ft_copy.specs.declared.found.FileId.{FileId}
use Rattle.ft_copy.specs.declared.found.Found.{Found}
use Rattle.ft_copy.specs.declared.found.FolderEntry.{FolderEntry}
use Rattle.ft_copy.specs.declared.copy_fault.CopyFault.{CopyFault}

-- two files are one if their device and their number are the same
abbrev pub same_file : FileId → FileId → Bool
same_file one other = (one.device == other.device) && (one.number == other.number)

-- A report: the names in the directory that was listed at a place; what is there; what can be read
-- from the file that was opened there, if that is known; the target of the symbolic link that was
-- read there; that what is there is to be left out, or is not; or the fault that replaced a report.
pub data Told : Type 0 where
  Lists : (path : List ℕ) → (node : ℕ) → (id : FileId) → (names : List FolderEntry) → Told
  Finds : (path : List ℕ) → (node : ℕ) → (found : Found) → Told
  Holds : (path : List ℕ) → (node : ℕ) → (id : FileId) → (bytes : Option (List ℕ)) → Told
  Leads : (path : List ℕ) → (node : ℕ) → (id : FileId) → (to : List ℕ) → Told
  Omits : (path : List ℕ) → Told
  Keeps : (path : List ℕ) → Told
  Refuses : (path : List ℕ) → (node : ℕ) → (trouble : CopyFault) → Told

-- one of these entries has bytes that are no name
abbrev pub HasNoName : List FolderEntry → Type 0
HasNoName names = (front : List FolderEntry) × (one : FolderEntry) × (back : List FolderEntry) × (names ≡ front ++ one ∷ back) × ¬ IsName one.name

module _ (tells : Told → Type 0) where
  -- what the source listed, opened or read at a place is something else than this
  abbrev pub IsAnother : List ℕ → ℕ → FileId → Type 0
  IsAnother path node id =
      (other : FileId) × (same_file other id ≡ false)
      × (((names : List FolderEntry) × tells (Lists path node other names)) ⊎ ((bytes : Option (List ℕ)) × tells (Holds path node other bytes))
      ⊎ ((to : List ℕ) × tells (Leads path node other to)))
