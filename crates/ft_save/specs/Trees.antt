-- The tree that the rows of a report describe.
use Rattle.std.specs.Prelude.{◌≡◌, ◌⊎◌, ◌==◌, ℕ, Bool, true, false, not, List, [], ◌∷◌, ◌++◌, is_some, length, map, if◌then◌else◌, Option, None, Some, option_map}
use Rattle.std.specs.Option.{option_map_or, unwrap_or}
use Rattle.std.specs.FinMap as finite
use Rattle.ft_cells.specs.declared.TheConstants.{DEFAULT_LINKS}
use Rattle.ft_cells.specs.Attributes.{attributes_from}
use Rattle.ft_cells.specs.declared.attributes.Attributes.{Attributes as CellAttributes}
use Rattle.ft_cells.specs.declared.attributes.Timestamp.{Timestamp}
use Rattle.ft_cells.specs.declared.node.Kind.TheVariants as kinds
use Rattle.ft_cells.specs.declared.node.Form.{Form}
use Rattle.ft_cells.specs.declared.node.Form.TheVariants as forms
use Rattle.ft_copy.specs.declared.found.TheConstants.{ROOT}
use Rattle.ft_copy.specs.declared.found.FileFacts.{FileFacts}
use Rattle.ft_copy.specs.declared.found.FileId.{FileId}
use Rattle.ft_copy.specs.declared.found.FoundFile.{FoundFile}
use Rattle.ft_copy.specs.declared.found.Given.{Given}
use Rattle.ft_copy.specs.declared.found.Found.{Found}
use Rattle.ft_copy.specs.declared.found.Found.TheVariants as found
use Rattle.ft_copy.specs.declared.found.FolderEntry.{FolderEntry}
use Rattle.ft_copy.specs.declared.copy_fault.CopyFault.{CopyFault}
use Rattle.ft_copy.specs.declared.copy_fault.CopyFault.TheVariants.{Memory, Read, BadName, BadTree}
use Rattle.ft_copy.specs.Told.{Told, Lists, Finds, Holds, Leads, Omits, Keeps, Refuses, HasNoName}
use Rattle.ft_save.specs.declared.row.Row.{Row}
use Rattle.ft_save.specs.declared.row.Row.TheVariants.{Folder, Edge, File, Attributes, Time, Descriptor}
use Rattle.ft_save.specs.declared.index.Content.{Content}
use Rattle.ft_save.specs.declared.index.Edge.{Edge as IndexEdge}
use Rattle.ft_save.specs.declared.index.Index.{Index}

-- ---- what rows tell of a number

-- whether something has a row of its own, of a directory or a file, and whether more than one
abbrev pub own_in : List Row → ℕ → Option Bool
own_in [] node = None
own_in (Folder other ∷ rows) node = if other == node then Some (is_some (own_in rows node)) else own_in rows node
own_in (Edge folder name other ∷ rows) node = own_in rows node
own_in (File other form bytes ∷ rows) node = if other == node then Some (is_some (own_in rows node)) else own_in rows node
own_in (Attributes other attributes ∷ rows) node = own_in rows node
own_in (Time other time ∷ rows) node = own_in rows node
own_in (Descriptor ∷ rows) node = own_in rows node

-- there is exactly one row of it, of a directory or a file
abbrev pub has_one_row : List Row → ℕ → Bool
has_one_row rows node = option_map_or not (own_in rows node) false

-- what a file holds, by the first row of it
abbrev pub file_in : List Row → ℕ → Option Content
file_in [] node = None
file_in (Folder other ∷ rows) node = file_in rows node
file_in (Edge folder name other ∷ rows) node = file_in rows node
file_in (File other form bytes ∷ rows) node = if other == node then Some (record { form = form; bytes = bytes }) else file_in rows node
file_in (Attributes other attributes ∷ rows) node = file_in rows node
file_in (Time other time ∷ rows) node = file_in rows node
file_in (Descriptor ∷ rows) node = file_in rows node

-- the bytes of a file: of a symbolic link, where it leads
abbrev pub bytes_in : List Row → ℕ → Option (List ℕ)
bytes_in rows node = option_map (λ (content : Content). content.bytes) (file_in rows node)

-- the names in a directory, those of later rows first
abbrev pub edges_in : List Row → ℕ → List FolderEntry
edges_in [] node = []
edges_in (Folder other ∷ rows) node = edges_in rows node
edges_in (Edge folder name other ∷ rows) node = if folder == node then edges_in rows node ++ record { name = name; node = other } ∷ [] else edges_in rows node
edges_in (File other form bytes ∷ rows) node = edges_in rows node
edges_in (Attributes other attributes ∷ rows) node = edges_in rows node
edges_in (Time other time ∷ rows) node = edges_in rows node
edges_in (Descriptor ∷ rows) node = edges_in rows node

-- there are names in it
abbrev pub has_names : List Row → ℕ → Bool
has_names rows node = not (length (edges_in rows node) == 0)

-- whether something has a name, and whether it has more than one
abbrev pub named_in : List Row → ℕ → Option Bool
named_in [] node = None
named_in (Folder other ∷ rows) node = named_in rows node
named_in (Edge folder name other ∷ rows) node = if other == node then Some (is_some (named_in rows node)) else named_in rows node
named_in (File other form bytes ∷ rows) node = named_in rows node
named_in (Attributes other attributes ∷ rows) node = named_in rows node
named_in (Time other time ∷ rows) node = named_in rows node
named_in (Descriptor ∷ rows) node = named_in rows node

-- there is more than one name
abbrev pub has_more : List Row → ℕ → Bool
has_more rows node = unwrap_or (named_in rows node) false

-- the attributes of something, by the first row of them
abbrev pub attributes_in : List Row → ℕ → Option CellAttributes
attributes_in [] node = None
attributes_in (Folder other ∷ rows) node = attributes_in rows node
attributes_in (Edge folder name other ∷ rows) node = attributes_in rows node
attributes_in (File other form bytes ∷ rows) node = attributes_in rows node
attributes_in (Attributes other attributes ∷ rows) node = if other == node then Some attributes else attributes_in rows node
attributes_in (Time other time ∷ rows) node = attributes_in rows node
attributes_in (Descriptor ∷ rows) node = attributes_in rows node

-- the time of a file, by the first row of it
abbrev pub time_in : List Row → ℕ → Option Timestamp
time_in [] node = None
time_in (Folder other ∷ rows) node = time_in rows node
time_in (Edge folder name other ∷ rows) node = time_in rows node
time_in (File other form bytes ∷ rows) node = time_in rows node
time_in (Attributes other attributes ∷ rows) node = time_in rows node
time_in (Time other time ∷ rows) node = if other == node then Some time else time_in rows node
time_in (Descriptor ∷ rows) node = time_in rows node

-- ---- what they tell of a tree

-- what distinguishes something from all else: its number
abbrev pub row_id : ℕ → FileId
row_id node = record { device = 0; number = node }

-- a file, with its number, its size, and how many names it has at most
abbrev pub file_facts : ℕ → Bool → List ℕ → FileFacts
file_facts node more bytes = record { id = row_id node; links = if more then DEFAULT_LINKS else 1; size = length bytes }

-- what a file is given: the attributes and the time of its rows, or the default attributes and none
abbrev pub given_in : List Row → ℕ → Given
given_in rows node = record { attributes = attributes_from kinds.File (attributes_in rows node); time = time_in rows node }

-- a file as it is found, by its form; a symbolic link is given nothing
abbrev pub found_as : Form → FoundFile → Found
found_as forms.Regular file = found.File file
found_as forms.Link file = found.Symlink file.facts

-- the path of the root: no name leads there
abbrev pub is_top : List ℕ → Bool
is_top path = length path == 0

-- A directory has one row of its own and at most one name, and is the root exactly if no name leads
-- to it. Therefore, no directory is in itself, or in two places.
abbrev pub IsPlainFolder : List Row → List ℕ → ℕ → Type 0
IsPlainFolder rows path node = (has_one_row rows node ≡ true) × (has_more rows node ≡ false) × ((node == ROOT) ≡ is_top path)

-- A file has one row of its own, no names in it, and a name that leads to it.
abbrev pub IsPlainFile : List Row → List ℕ → ℕ → Type 0
IsPlainFile rows path node = (has_one_row rows node ≡ true) × (has_names rows node ≡ false) × (is_top path ≡ false)

-- A plain file of this form, of which this is known.
abbrev pub IsFile : List Row → List ℕ → ℕ → Form → FileFacts → Type 0
IsFile rows path node form facts =
    (bytes : List ℕ) × (file_in rows node ≡ Some (record { form = form; bytes = bytes })) × IsPlainFile rows path node × (facts ≡ file_facts node (has_more rows node) bytes)

-- The thing at a path, by its number: a plain file if there is a row of a file, or of a symbolic
-- link, or else a plain directory; with the attributes of their rows, or the default ones.
abbrev pub IsFound : List Row → List ℕ → ℕ → Found → Type 0
IsFound rows path node (found.Folder folder) =
    (file_in rows node ≡ None) × IsPlainFolder rows path node
    × (folder ≡ record { id = row_id node; attributes = attributes_from kinds.Dir (attributes_in rows node) })
IsFound rows path node (found.File file) = IsFile rows path node forms.Regular file.facts × (file.given ≡ given_in rows node)
IsFound rows path node (found.Symlink facts) = IsFile rows path node forms.Link facts
IsFound rows path node found.Special = ⊥

-- a file with names in it or with no name that leads to it; or a directory that has more than one
-- name, and the root if a name leads to it, or something else at the root
abbrev pub IsMisplaced : Option Content → List Row → List ℕ → ℕ → Type 0
IsMisplaced None rows path node = (has_more rows node ≡ true) ⊎ ((node == ROOT) ≡ not (is_top path))
IsMisplaced (Some content) rows path node = (has_names rows node ≡ true) ⊎ (is_top path ≡ true)

-- neither a plain file nor a plain directory
abbrev pub IsNothing : List Row → List ℕ → ℕ → Type 0
IsNothing rows path node = (has_one_row rows node ≡ false) ⊎ IsMisplaced (file_in rows node) rows path node

-- The reasons why the thing at a path, or its names, can't be found: which trouble comes when.
abbrev pub IsRefused : List Row → List ℕ → ℕ → CopyFault → Type 0
IsRefused rows path node Memory = Unit {0}
IsRefused rows path node Read = file_in rows node ≡ None
IsRefused rows path node BadName = HasNoName (edges_in rows node)
IsRefused rows path node BadTree = IsNothing rows path node
IsRefused rows path node other = ⊥

-- The answers of the rows of a report, as a source. Nothing is to be left out.
abbrev pub Tells : List Row → Told → Type 0
Tells rows (Lists path node id names) = (id ≡ row_id node) × (names ≡ edges_in rows node)
Tells rows (Finds path node found) = IsFound rows path node found
Tells rows (Holds path node id bytes) = (id ≡ row_id node) × (bytes ≡ bytes_in rows node)
Tells rows (Leads path node id to) = (id ≡ row_id node) × (bytes_in rows node ≡ Some to)
Tells rows (Omits path) = ⊥
Tells rows (Keeps path) = Unit {0}
Tells rows (Refuses path node trouble) = IsRefused rows path node trouble

-- ---- the index

-- a name of the index, as it is listed
abbrev pub listed : IndexEdge → FolderEntry
listed edge = record { name = edge.name; node = edge.node }

-- the names that the index has in a directory
abbrev pub names_at : Index → ℕ → List FolderEntry
names_at index node = map listed (unwrap_or (finite.get index.edges node) [])

-- The index has what the rows say of each number.
pub record Indexes (index : Index) (rows : List Row) : Type 0 where
  pub own : (node : ℕ) → finite.get index.own node ≡ own_in rows node
  pub files : (node : ℕ) → finite.get index.files node ≡ file_in rows node
  pub names : (node : ℕ) → names_at index node ≡ edges_in rows node
  pub named : (node : ℕ) → finite.get index.named node ≡ named_in rows node
  pub attributes : (node : ℕ) → finite.get index.attributes node ≡ attributes_in rows node
  pub times : (node : ℕ) → finite.get index.times node ≡ time_in rows node

-- a name was put after those of its directory, and all else stays
pub record PutsName (old : Index) (folder : ℕ) (edge : IndexEdge) (new : Index) : Type 0 where
  pub names : (node : ℕ) → names_at new node ≡ (if folder == node then names_at old node ++ listed edge ∷ [] else names_at old node)
  pub own : new.own ≡ old.own
  pub files : new.files ≡ old.files
  pub named : new.named ≡ old.named
  pub attributes : new.attributes ≡ old.attributes
  pub times : new.times ≡ old.times
