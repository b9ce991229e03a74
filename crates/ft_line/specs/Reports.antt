-- The text of a report: how many lines it has, and the lines. (The format is this project's own:
-- docs/SCRIPT.md.)
use Rattle.std.specs.Prelude.{ℕ, Bool, true, false, List, ◌∷◌, ◌++◌, length, codes}
use Rattle.std.specs.Bool.{beq}
use Rattle.std.specs.Fmt.{decimal}
use Rattle.std.specs.List.{flat_map, filter}
use Rattle.ft_cells.specs.declared.cell.Cell.{Cell}
use Rattle.ft_cells.specs.declared.cell.Cell.TheVariants.{Entry, Names, Parent, Links, Bytes, Fd, DirAttributes, FileAttributes}
use Rattle.ft_posix.specs.declared.call.Mode.{Mode}
use Rattle.ft_posix.specs.declared.call.Mode.TheVariants as modes
use Rattle.ft_lock_rules.specs.declared.line.LockKind.{LockKind}
use Rattle.ft_lock_rules.specs.declared.line.LockKind.TheVariants.{Held, Retained}
use Rattle.ft_lock_rules.specs.declared.line.LockLine.{LockLine}
use Rattle.ft_waits.specs.Kinds.{kind_name}
use Rattle.ft_waits.specs.declared.edge.Edge.{Edge}
use Rattle.ft_waits.specs.declared.verdict.Verdict.{Verdict}
use Rattle.ft_waits.specs.declared.verdict.Verdict.TheVariants.{Cycle, Ranked}
use Rattle.ft_words.specs.Texts.{coded, lines_text}
use Rattle.ft_line.specs.Texts.{txn_list}

-- ---- the locks

-- what is locked: the kind of the cell, its number, and the name of an entry
abbrev pub cell_text : Cell → List ℕ
cell_text (Entry entry) = codes "entry " ++ decimal entry.dir ++ codes " " ++ coded entry.name
cell_text (Names dir) = codes "names " ++ decimal dir
cell_text (Parent dir) = codes "parent " ++ decimal dir
cell_text (Links file) = codes "links " ++ decimal file
cell_text (Bytes file) = codes "bytes " ++ decimal file
cell_text (Fd fd) = codes "fd " ++ decimal fd
cell_text (DirAttributes dir) = codes "attributes " ++ decimal dir
cell_text (FileAttributes file) = codes "attributes " ++ decimal file

-- `read` or `write`
abbrev pub mode_text : Mode → List ℕ
mode_text modes.Read = codes "read"
mode_text modes.Write = codes "write"

-- `held` or `retained`
abbrev pub kind_text : LockKind → List ℕ
kind_text Held = codes "held"
kind_text Retained = codes "retained"

-- `lock CELL MODE OWNER KIND`
abbrev pub lock_text : LockLine → List ℕ
lock_text lock = codes "lock " ++ cell_text lock.cell ++ codes " " ++ mode_text lock.mode ++ codes " " ++ decimal lock.owner ++ codes " " ++ kind_text lock.kind

-- the cell is the mode and the owners of a directory or of a file
abbrev pub is_attributes : Cell → Bool
is_attributes (Entry entry) = false
is_attributes (Names dir) = false
is_attributes (Parent dir) = false
is_attributes (Links file) = false
is_attributes (Bytes file) = false
is_attributes (Fd fd) = false
is_attributes (DirAttributes dir) = true
is_attributes (FileAttributes file) = true

-- the lock is one of attributes, or one of all else
abbrev pub is_told : Bool → LockLine → Bool
is_told of_attributes lock = beq (is_attributes lock.cell) of_attributes

-- how many locks there are, and the locks
abbrev pub counted_locks : List LockLine → List ℕ
counted_locks locks = decimal (length locks) ++ lines_text lock_text locks

-- `locks N`, and the locks of all but attributes
abbrev pub locks_text : List LockLine → List ℕ
locks_text locks = codes "locks " ++ counted_locks (filter (is_told false) locks)

-- `attributes N`, and the locks of attributes
abbrev pub attribute_locks_text : List LockLine → List ℕ
attribute_locks_text locks = codes "attributes " ++ counted_locks (filter (is_told true) locks)

-- ---- who waits for whom

-- `edge FROM TO KIND`
abbrev pub edge_text : Edge → List ℕ
edge_text edge = codes "edge " ++ decimal edge.from ++ codes " " ++ decimal edge.to ++ codes " " ++ kind_name edge.kind

-- each transaction and its rank, after a space
abbrev pub rank_list : List (ℕ × ℕ) → List ℕ
rank_list ranks = flat_map (λ entry. 32 ∷ decimal entry.0 ++ codes ":" ++ decimal entry.1) ranks

-- `cycle` and its members, or `ranks` and the transactions with theirs
abbrev pub verdict_text : Verdict → List ℕ
verdict_text (Cycle members) = codes "cycle" ++ txn_list members
verdict_text (Ranked ranks) = codes "ranks" ++ rank_list ranks

-- `edges N`, the edges, and the verdict
abbrev pub waits_text : List Edge → Verdict → List ℕ
waits_text edges verdict = codes "edges " ++ decimal (length edges) ++ lines_text edge_text edges ++ 10 ∷ verdict_text verdict
