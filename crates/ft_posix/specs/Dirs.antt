-- The looks and the outcomes of the calls on directories. The order of their errors is a rule of
-- this project. XBD and XSH are the Base Definitions and the System Interfaces of POSIX.1-2017.
use Rattle.std.specs.Prelude.{ℕ, false, List, [], ◌∷◌, Option, Some, None, Result, Ok, Err}
use Rattle.ft_path.specs.FilePath.{last_of}
use Rattle.ft_path.specs.declared.path.LastName.{LastName}
use Rattle.ft_path.specs.declared.path.LastName.TheVariants.{Absent, Dot, DotDot, Plain}
use Rattle.ft_path.specs.declared.path.Parts.{Parts}
use Rattle.ft_path.specs.declared.errno.Errno.{Errno}
use Rattle.ft_path.specs.declared.errno.Errno.TheVariants.{ENOENT, ENOTDIR, EEXIST, EINVAL, EBUSY, ENOTEMPTY}
use Rattle.ft_cells.specs.declared.entry.Entry.{Entry as DirEntry}
use Rattle.ft_cells.specs.declared.cell.Cell.TheVariants.{Entry, Names, Parent, DirAttributes}
use Rattle.ft_cells.specs.declared.node.Node.{Node}
use Rattle.ft_cells.specs.declared.node.Node.TheVariants.{Dir as DirNode, File as FileNode}
use Rattle.ft_cells.specs.Nodes.{with_kinds}
use Rattle.ft_cells.specs.Looks.{Looks, Answer, Look}
use Rattle.ft_cells.specs.declared.node.PathEnd.{PathEnd}
use Rattle.ft_cells.specs.declared.node.PathEnd.TheVariants.{Named, Itself}
use Rattle.ft_posix.specs.declared.call.Reply.TheVariants.{Done, Names as NamesReply}
use Rattle.ft_posix.specs.Outcomes.{sets, Outcome, failed, told, from_parts, unless}
use Rattle.ft_posix.specs.Attributes.{dir_mode}

-- a new directory, whose number is the call's stamp, with the given mode (XSH mkdir)
abbrev pub makes_dir : ℕ → Option ℕ → DirEntry → Outcome
makes_dir stamp mode entry = record {
  reply = Done;
  writes = sets (Parent stamp) (Some entry.dir) ∷ sets (Entry entry) (Some (DirNode stamp)) ∷ dir_mode stamp mode;
}

-- mkdir at the end of the walk (XSH mkdir): a missing name becomes the directory. Anything that is
-- there, including a directory itself or a symbolic link, is EEXIST. A slash after a missing name
-- is no fault (XBD 4.13); a slash after a file's name was ENOTDIR in the walk.
abbrev pub make_dir : ℕ → Option ℕ → PathEnd → Looks Outcome
make_dir stamp mode (Named entry None slash) = Answer (makes_dir stamp mode entry)
make_dir stamp mode (Named entry (Some x) slash) = Answer (failed EEXIST)
make_dir stamp mode (Itself dir) = Answer (failed EEXIST)

-- rmdir of a directory with these names (XSH rmdir): if there are any it is ENOTEMPTY, for which
-- POSIX allows EEXIST too; else the directory is removed with its entry and its attributes
abbrev pub if_empty : DirEntry → ℕ → List (List ℕ × Node) → Outcome
if_empty entry number [] = record { reply = Done; writes = sets (DirAttributes number) None ∷ sets (Parent number) None ∷ sets (Entry entry) None ∷ [] }
if_empty entry number (name ∷ names) = failed ENOTEMPTY

-- rmdir at the end of the walk: a missing name is ENOENT, and a file ENOTDIR. A directory itself,
-- to which only a link with a slash after it leads, is EBUSY.
abbrev pub remove_dir : PathEnd → Looks Outcome
remove_dir (Named entry None slash) = Answer (failed ENOENT)
remove_dir (Named entry (Some (FileNode form number)) slash) = Answer (failed ENOTDIR)
remove_dir (Named entry (Some (DirNode number)) slash) = Look (Names number) (λ names. Answer (if_empty entry number names))
remove_dir (Itself dir) = Answer (failed EBUSY)

-- rmdir judges the last component before any look-up: no component (the root) is EBUSY, `.` is
-- EINVAL (XSH rmdir), and `..` is ENOTEMPTY. EBUSY and ENOTEMPTY are choices of this project.
abbrev pub last_fault : LastName → Option Errno
last_fault Absent = Some EBUSY
last_fault Dot = Some EINVAL
last_fault DotDot = Some ENOTEMPTY
last_fault Plain = None

-- rmdir from the parts of its path on: the fault of the text, the last component, the walk, and the
-- removal
abbrev pub remove_parts : Result Parts Errno → Looks Outcome
remove_parts (Err e) = Answer (failed e)
remove_parts (Ok parts) = unless (last_fault (last_of parts.names)) (from_parts false (Ok parts) remove_dir)

-- list: all names of a directory at once with their kinds, in order, without `.` and `..`. It is
-- not a call of POSIX, which has opendir and readdir.
abbrev pub list_names : ℕ → Looks Outcome
list_names dir = Look (Names dir) (λ names. Answer (told (NamesReply (with_kinds names))))

-- list at the end of the walk, which follows links: a missing name is ENOENT, and a file ENOTDIR
-- (XSH opendir)
abbrev pub list_dir : PathEnd → Looks Outcome
list_dir (Named entry None slash) = Answer (failed ENOENT)
list_dir (Named entry (Some (FileNode form number)) slash) = Answer (failed ENOTDIR)
list_dir (Named entry (Some (DirNode number)) slash) = list_names number
list_dir (Itself dir) = list_names dir
