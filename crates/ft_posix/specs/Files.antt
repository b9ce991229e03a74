-- The looks and the outcomes of the calls on files. The order of their errors is a rule of this
-- project.
use Rattle.std.specs.Prelude.{ℕ, Bool, true, cond, not, ◌&&◌, nat_le, ℤ, pos, negsuc, length, [], ◌∷◌, Option, Some, None, Result, Ok, Err}
use Rattle.ft_body.specs.Bytes.{resized}
use Rattle.ft_path.specs.declared.path.Parts.{Parts}
use Rattle.ft_path.specs.declared.errno.Errno.{Errno}
use Rattle.ft_path.specs.declared.errno.Errno.TheVariants.{ENOENT, EEXIST, EINVAL, EISDIR, EFBIG, ELOOP}
use Rattle.ft_cells.specs.declared.limits.TreeLimits.{TreeLimits}
use Rattle.ft_cells.specs.declared.entry.Entry.{Entry as DirEntry}
use Rattle.ft_cells.specs.declared.cell.Cell.TheVariants.{Entry, Links, Bytes, Fd, DirAttributes, FileAttributes}
use Rattle.ft_cells.specs.declared.node.Kind.TheVariants.{Dir as DirKind}
use Rattle.ft_cells.specs.declared.node.Node.{Node}
use Rattle.ft_cells.specs.declared.node.Node.TheVariants.{Dir as DirNode, File as FileNode}
use Rattle.ft_cells.specs.declared.node.Form.{Form}
use Rattle.ft_cells.specs.declared.node.Form.TheVariants.{Regular, Link as LinkForm}
use Rattle.ft_cells.specs.Nodes.{kind_of_node}
use Rattle.ft_cells.specs.declared.open_file.OpenFile.{OpenFile}
use Rattle.ft_cells.specs.Modes.{can_write}
use Rattle.ft_cells.specs.declared.attributes.Attributes.{Attributes}
use Rattle.ft_cells.specs.Cells.{untimed, no_contents}
use Rattle.ft_cells.specs.Looks.{Looks, Answer, Look, then, or_else}
use Rattle.ft_cells.specs.declared.node.PathEnd.{PathEnd}
use Rattle.ft_cells.specs.declared.node.PathEnd.TheVariants.{Named, Itself}
use Rattle.ft_posix.specs.declared.call.OpenFlags.{OpenFlags}
use Rattle.ft_posix.specs.declared.call.Reply.TheVariants.{Done, Number, Info}
use Rattle.ft_posix.specs.Outcomes.{sets, Outcome, failed, told, from_parts, from_judged}
use Rattle.ft_posix.specs.Attributes.{mode_fault, file_mode}

-- open (POSIX.1-2017, System Interfaces, open)

-- a new description: at offset 0, with the access and the append flag of the call
abbrev pub description : OpenFlags → ℕ → OpenFile
description flags file = record { file = file; access = flags.access; append = flags.append; offset = 0 }

-- a missing file is made (O_CREAT), with one link, no bytes and the given mode: its number is the
-- call's stamp, and so is the descriptor's (a rule of this project)
abbrev pub creates : ℕ → OpenFlags → DirEntry → Outcome
creates stamp flags entry = record {
  reply = Number stamp;
  writes = sets (Links stamp) 1 ∷ sets (Bytes stamp) no_contents ∷ sets (Fd stamp) (Some (description flags stamp)) ∷ sets (Entry entry) (Some (FileNode Regular stamp)) ∷ file_mode stamp flags.mode;
}

-- a descriptor for an existing file, which is cut to size 0 with trunc (O_TRUNC)
abbrev pub opens : ℕ → OpenFlags → ℕ → Outcome
opens stamp flags file = record {
  reply = Number stamp;
  writes = sets (Fd stamp) (Some (description flags file)) ∷ cond flags.trunc (sets (Bytes file) no_contents ∷ []) [];
}

-- a directory is EISDIR, in every mode: for reading this is a choice of this project. A link is
-- ELOOP, which no call reaches, since the walk has followed it.
abbrev pub open_node : ℕ → OpenFlags → Node → Outcome
open_node stamp flags (DirNode file) = failed EISDIR
open_node stamp flags (FileNode Regular file) = opens stamp flags file
open_node stamp flags (FileNode LinkForm file) = failed ELOOP

-- with create and excl together an existing name is refused (O_EXCL). excl has no effect without
-- create, a choice of this project, since POSIX leaves it undefined without O_CREAT
abbrev pub is_exclusive : OpenFlags → Bool
is_exclusive flags = flags.create && flags.excl

-- open at the end of the walk: a missing name without create, or with a slash after it, is ENOENT;
-- an existing one with create and excl is EEXIST; a directory is EISDIR
abbrev pub open_spot : ℕ → OpenFlags → PathEnd → Outcome
open_spot stamp flags (Named entry None slash) = cond (flags.create && not slash) (creates stamp flags entry) (failed ENOENT)
open_spot stamp flags (Named entry (Some x) slash) = cond (is_exclusive flags) (failed EEXIST) (open_node stamp flags x)
open_spot stamp flags (Itself dir) = cond (is_exclusive flags) (failed EEXIST) (failed EISDIR)

-- trunc without writing is EINVAL (a choice of this project, since POSIX leaves it undefined), and
-- so is a mode above 07777, whether a file is made or not
abbrev pub open_fault : OpenFlags → Option Errno
open_fault flags = cond (flags.trunc && not (can_write flags.access)) (Some EINVAL) (mode_fault flags.mode)

-- open from the parts of its path on: the fault of the text, the fault of the arguments, and the
-- end of the walk. It follows a last link, except with create and excl, which refuse any name that
-- is there (XSH open, O_EXCL).
abbrev pub open_parts : ℕ → OpenFlags → Result Parts Errno → Looks Outcome
open_parts stamp flags parts = from_judged (open_fault flags) (not (is_exclusive flags)) parts (λ spot. Answer (open_spot stamp flags spot))

-- truncate (POSIX.1-2017, System Interfaces, truncate)

-- a length up to the largest that the tree allows; above it EFBIG
abbrev pub size_within : TreeLimits → ℕ → Result ℕ Errno
size_within limits n = cond (nat_le n limits.file_size) (Ok n) (Err EFBIG)

-- a length that a file may have: a length below zero is EINVAL, and one above the limit EFBIG
abbrev pub to_size : TreeLimits → ℤ → Result ℕ Errno
to_size limits (pos n) = size_within limits n
to_size limits (negsuc n) = Err EINVAL

-- the file is cut to a length, or zeros are added up to it; it loses its time
abbrev pub cut_file : ℕ → ℕ → Looks Outcome
cut_file file size = Look (Bytes file) (λ contents. Answer (record { reply = Done; writes = sets (Bytes file) (untimed (resized contents.bytes size)) ∷ [] }))

-- truncate at the end of the walk, which follows links: a missing name is ENOENT, and a directory
-- EISDIR. A link is ELOOP, which no call reaches.
abbrev pub truncate_spot : ℕ → PathEnd → Looks Outcome
truncate_spot size (Named entry None slash) = Answer (failed ENOENT)
truncate_spot size (Named entry (Some (DirNode file)) slash) = Answer (failed EISDIR)
truncate_spot size (Named entry (Some (FileNode Regular file)) slash) = cut_file file size
truncate_spot size (Named entry (Some (FileNode LinkForm file)) slash) = Answer (failed ELOOP)
truncate_spot size (Itself dir) = Answer (failed EISDIR)

-- truncate from the parts of its path on: the fault of the text, the fault of the length, and the
-- end of the walk
abbrev pub truncate_parts : TreeLimits → ℤ → Result Parts Errno → Looks Outcome
truncate_parts limits len (Err e) = Answer (failed e)
truncate_parts limits len (Ok parts) = or_else failed (λ size. from_parts true (Ok parts) (truncate_spot size)) (to_size limits len)

-- stat and lstat (POSIX.1-2017, System Interfaces, stat, lstat): stat follows a last link

-- a directory, with its attributes: it has one link and size 0 (a choice of this project), and no
-- time
abbrev pub dir_info : ℕ → Looks Outcome
dir_info dir = Look (DirAttributes dir) (λ attributes. Answer (told (Info (record { kind = DirKind; number = dir; links = 1; size = 0; attributes = attributes; time = None }))))

-- the attributes of a file; a link has the default ones, and no cell for them
abbrev pub attributes_at : Form → ℕ → Looks (Option Attributes)
attributes_at Regular file = Look (FileAttributes file) (λ attributes. Answer attributes)
attributes_at LinkForm file = Answer None

-- a file or a link, with its links, its size, its attributes and its time: the size of a link is
-- that of its target (XSH lstat)
abbrev pub file_info : Form → ℕ → Looks Outcome
file_info form file =
    Look (Links file) (λ links. Look (Bytes file) (λ contents. then (attributes_at form file) (λ attributes. Answer (told (Info (record { kind = kind_of_node (FileNode form file); number = file; links = links; size = length contents.bytes; attributes = attributes; time = contents.time }))))))

-- stat and lstat at the end of the walk: a missing name is ENOENT
abbrev pub stat_spot : PathEnd → Looks Outcome
stat_spot (Named entry None slash) = Answer (failed ENOENT)
stat_spot (Named entry (Some (DirNode dir)) slash) = dir_info dir
stat_spot (Named entry (Some (FileNode form file)) slash) = file_info form file
stat_spot (Itself dir) = dir_info dir
