-- The walk over the reports of a source: the order in which places are visited.
use Rattle.std.specs.Prelude.{◌≡◌, ◌||◌, nat_eq, ℕ, Bool, List, [], ◌∷◌, ◌++◌, codes, Option, None, Some, if◌then◌else◌}
use Rattle.std.specs.List.{concat, ends_with}
use Rattle.std.specs.List.Sorted.{IsPermutation, IsSorted}
use Rattle.std.specs.Ordering.{nat_cmp, ordering_then}
use Rattle.std.specs.declared.cmp.Ordering.{Ordering}
use Rattle.std.specs.Cmp.Lexicographic.{slice_cmp}
use Rattle.std.specs.Map.{lookup}
use Rattle.std.specs.Io.KnownBytes.{Consumes, IsAtEnd}
use Rattle.ft_copy.specs.declared.firsts.Firsts.{Firsts}
use Rattle.ft_copy.specs.declared.found.FileFacts.{FileFacts}
use Rattle.ft_copy.specs.declared.found.FileId.{FileId}
use Rattle.ft_copy.specs.declared.found.FolderEntry.{FolderEntry}
use Rattle.ft_copy.specs.declared.found.MetLink.{MetLink}
use Rattle.ft_copy.specs.declared.found.CopyPath.{CopyPath}
use Rattle.ft_copy.specs.declared.walk.Walk.{Walk}
use Rattle.ft_copy.specs.Told.{Told, Lists, Holds, same_file}

-- ---- files that were met

-- the path at which each file with more than one name was met first, if it was
abbrev pub FirstPaths : Type 0
FirstPaths = FileId → Option (List ℕ)

-- the paths with that of one more file
abbrev pub with_first : FileId → List ℕ → FirstPaths → FirstPaths
with_first id path firsts other = if same_file id other then Some path else firsts other

-- the paths that a walk has noted
abbrev pub firsts_of : Firsts → FirstPaths
firsts_of firsts id = lookup (same_file id) firsts.paths.entries

-- ---- what is still to be visited

-- The places that are left, the last of which is visited next; the symbolic links that were met,
-- the first of which is made next; and the files and links that were met.
pub record Standing : Type 0 where
  pub left : List CopyPath
  pub links : List MetLink
  pub firsts : FirstPaths

-- the state of a walk
abbrev pub standing : Walk → Standing
standing walk = record { left = walk.left.items; links = walk.links.items; firsts = firsts_of walk.firsts }

-- nothing is left to be visited, and no link and no file was met
abbrev pub nothing : Standing
nothing = record { left = []; links = []; firsts = λ _. None }

-- a symbolic link is put off, after those that were met before
abbrev pub PutsOff : CopyPath → FileFacts → Standing → Standing → Type 0
PutsOff place facts old new = new ≡ record { left = old.left; links = old.links ++ record { place = place; facts = facts } ∷ []; firsts = old.firsts }

-- the place to which a name of a directory leads
abbrev pub child : List ℕ → FolderEntry → CopyPath
child path listed = record { path = path ++ 47 ∷ listed.name; node = listed.node }

-- the places to which the names of a directory lead, that of the first name as the last
abbrev pub above : List ℕ → List FolderEntry → List CopyPath
above path [] = []
above path (listed ∷ more) = above path more ++ child path listed ∷ []

-- the order of names: by their bytes, then by the number of what they lead to
abbrev pub name_order : FolderEntry → FolderEntry → Ordering
name_order one other = ordering_then (slice_cmp nat_cmp one.name other.name) (nat_cmp one.node other.node)

-- the last name is `.` or `..`
abbrev pub is_dotted : List ℕ → Bool
is_dotted path = ends_with nat_eq path (codes "/.") || ends_with nat_eq path (codes "/..")

-- these pieces are what a reader had left
abbrev pub ArePieces : Option (List ℕ) → List (List ℕ) → Type 0
ArePieces left pieces = (after : Option (List ℕ)) × Consumes left after (concat pieces) × IsAtEnd after

module _ (tells : Told → Type 0) where
  -- The names of this directory, in the order of their bytes, come before all that was left.
  abbrev pub Enters : List ℕ → ℕ → FileId → Standing → Standing → Type 0
  Enters path node id old new =
      (told : List FolderEntry) × (names : List FolderEntry) × tells (Lists path node id told) × IsPermutation told names × IsSorted name_order names
      × (new ≡ record { left = old.left ++ above path names; links = old.links; firsts = old.firsts })

  -- the bytes of this file, in pieces
  abbrev pub IsRead : List ℕ → ℕ → FileId → List (List ℕ) → Type 0
  IsRead path node id pieces = (opened : Option (List ℕ)) × tells (Holds path node id opened) × ArePieces opened pieces
