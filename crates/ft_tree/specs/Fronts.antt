-- Where the front of a path leads. The front is the text of the path up to and including the slash
-- before the last component.
use Rattle.std.specs.Prelude.{◌≡◌, ℕ, false, List, [], ◌∷◌, Option, None, Some}
use Rattle.ft_path.specs.Name.{is_dot, is_dot_dot}
use Rattle.ft_path.specs.FilePath.{components}
use Rattle.ft_path.specs.Judged.{EndsInSlash}
use Rattle.ft_cells.specs.Entries.{entry_at}
use Rattle.ft_cells.specs.declared.cell.Cell.{Cell}
use Rattle.ft_cells.specs.declared.cell.Cell.TheVariants.{Entry}
use Rattle.ft_cells.specs.declared.node.Node.TheVariants.{Dir as DirNode}
use Rattle.ft_cells.specs.Looks.{View}
use Rattle.ft_tree.specs.declared.front.Front.{Front}

-- Each name leads from a directory to the next of these directories, and is neither `.` nor `..`.
-- No symbolic link is on the way.
abbrev pub LeadAlong : View → ℕ → List (List ℕ) → List ℕ → Type 0
LeadAlong v dir [] [] = Unit {0}
LeadAlong v dir [] (next ∷ dirs) = ⊥
LeadAlong v dir (name ∷ names) [] = ⊥
LeadAlong v dir (name ∷ names) (next ∷ dirs) = (is_dot name ≡ false) × (is_dot_dot name ≡ false) × (v (Entry (entry_at dir name)) ≡ Some (DirNode next)) × LeadAlong v next names dirs

-- the entries on the way of the names
abbrev pub entries_along : ℕ → List (List ℕ) → List ℕ → List Cell
entries_along dir [] dirs = []
entries_along dir (name ∷ names) [] = []
entries_along dir (name ∷ names) (next ∷ dirs) = Entry (entry_at dir name) ∷ entries_along next names dirs

-- the directory where the way ends
abbrev pub end_along : ℕ → List ℕ → ℕ
end_along dir [] = dir
end_along dir (next ∷ dirs) = end_along next dirs

-- The text of the front ends in a slash, and its components lead from the root to these
-- directories.
pub record Leads (v : View) (front : Front) : Type 0 where
  pub slashed : EndsInSlash front.text.items
  pub way : LeadAlong v 1 (components front.text.items) front.dirs.items

-- the entries on the way of the front
abbrev pub front_entries : Front → List Cell
front_entries front = entries_along 1 (components front.text.items) front.dirs.items

-- the directory to which the front leads
abbrev pub front_end : Front → ℕ
front_end front = end_along 1 front.dirs.items

-- the front, if there is one, leads to its directories
abbrev pub LeadsIfAny : View → Option Front → Type 0
LeadsIfAny v None = Unit {0}
LeadsIfAny v (Some front) = Leads v front

-- the entries on the way of the front, or none if there is no front
abbrev pub entries_of : Option Front → List Cell
entries_of None = []
entries_of (Some front) = front_entries front
