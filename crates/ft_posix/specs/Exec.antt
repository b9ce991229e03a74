-- The execution of a call on the plain tree: its effect for an observer who sees only the tree.
use Rattle.std.specs.Prelude.{ℕ, Bool, cond, ◌==◌, ◌||◌, List, [], ◌∷◌, Option, Some, None}
use Rattle.std.specs.List.{list_any}
use Rattle.std.specs.Option.{option_flatten}
use Rattle.std.specs.Ordering.{nat_cmp}
use Rattle.std.specs.FinMap as finite
use Rattle.ft_cells.specs.declared.entry.Entry.{Entry as DirEntry}
use Rattle.ft_cells.specs.Entries.{entry_cmp}
use Rattle.ft_cells.specs.declared.node.Node.{Node}
use Rattle.ft_cells.specs.declared.open_file.OpenFile.{OpenFile}
use Rattle.ft_cells.specs.Nodes.{number_of}
use Rattle.ft_cells.specs.declared.cell.Cell.{Cell}
use Rattle.ft_cells.specs.declared.cell.Cell.TheVariants.{Entry, Names, Parent, Links, Bytes, Fd, DirAttributes, FileAttributes}
use Rattle.ft_tree.specs.Held.{Holds}
use Rattle.ft_cells.specs.Looks.{answer}
use Rattle.ft_cells.specs.declared.attributes.Attributes.{Attributes}
use Rattle.ft_cells.specs.Plain.{PlainTree, PlainDirs, view_in}
use Rattle.ft_posix.specs.declared.call.Call.{Call}
use Rattle.ft_posix.specs.declared.call.Reply.{Reply}
use Rattle.ft_posix.specs.Outcomes.{Write}
use Rattle.ft_posix.specs.Steps.{steps}

-- an edge is set, or removed
abbrev pub set_edge : finite.FinMap entry_cmp Node → DirEntry → Option Node → finite.FinMap entry_cmp Node
set_edge edges e (Some x) = finite.insert edges e x
set_edge edges e None = finite.remove edges e

-- a directory is added or removed with its parent, and the root is never removed; a directory that
-- is moved keeps its attributes
abbrev pub set_dir : PlainDirs → ℕ → Option ℕ → PlainDirs
set_dir dirs d (Some p) = finite.insert dirs d (option_flatten (finite.get dirs d))
set_dir dirs d None = cond (d == 1) dirs (finite.remove dirs d)

-- the attributes of a directory that is there are set
abbrev pub set_dir_attributes : PlainDirs → ℕ → Option Attributes → PlainDirs
set_dir_attributes dirs d to = cond (finite.contains_key dirs d) (finite.insert dirs d to) dirs

-- a description is set, or removed
abbrev pub set_open : finite.FinMap nat_cmp OpenFile → ℕ → Option OpenFile → finite.FinMap nat_cmp OpenFile
set_open opens f (Some o) = finite.insert opens f o
set_open opens f None = finite.remove opens f

-- a cell is set in a plain tree. Links are not kept: they are the count of the edges. The
-- attributes of a file stay if its contents are set, and its contents stay if its attributes are
-- set.
abbrev pub set_plain : PlainTree → (c : Cell) → Holds c → PlainTree
set_plain p (Entry entry) to = record p { edges = set_edge p.edges entry to }
set_plain p (Names d) to = p
set_plain p (Parent d) parent = record p { dirs = set_dir p.dirs d parent }
set_plain p (Links i) links = p
set_plain p (Bytes i) contents = record p { files = finite.insert p.files i (record { attributes = view_in p (FileAttributes i); contents = contents }) }
set_plain p (Fd f) to = record p { opens = set_open p.opens f to }
set_plain p (DirAttributes d) to = record p { dirs = set_dir_attributes p.dirs d to }
set_plain p (FileAttributes i) to = record p { files = finite.insert p.files i (record { attributes = to; contents = view_in p (Bytes i) }) }

-- the cell of a write is set in a plain tree
abbrev pub put_plain : PlainTree → Write → PlainTree
put_plain p w = set_plain p w.cell w.value

-- one write after another
abbrev pub put_all_plain : PlainTree → List Write → PlainTree
put_all_plain p [] = p
put_all_plain p (w ∷ ws) = put_all_plain (put_plain p w) ws

-- an edge or a description names the file
abbrev pub is_named_in : PlainTree → ℕ → Bool
is_named_in p i = list_any (λ e. number_of e.1 == i) (finite.entries p.edges) || list_any (λ e. e.1.file == i) (finite.entries p.opens)

-- the tree without the files that nothing names (POSIX.1-2017, System Interfaces, unlink and close)
abbrev pub without_dead_files : PlainTree → PlainTree
without_dead_files p = record p { files = finite.retain_keys p.files (is_named_in p) }

-- the call with this stamp: the tree after it, without files that nothing names any more, and its
-- reply
abbrev pub exec : PlainTree → ℕ → Call → PlainTree × Reply
exec p stamp call = let outcome = answer (steps p.limits (finite.len p.dirs) stamp call) (view_in p) in (without_dead_files (put_all_plain p outcome.writes), outcome.reply)
