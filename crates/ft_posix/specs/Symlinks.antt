-- The looks and the outcomes of symlink and readlink. The order of their errors is a rule of this
-- project.
use Rattle.std.specs.Prelude.{ℕ, false, cond, length, [], ◌∷◌, List, Some, None, Option, Result, ◌==◌, nat_lt}
use Rattle.ft_path.specs.declared.TheConstants.{LONGEST_PATH}
use Rattle.ft_path.specs.declared.path.Parts.{Parts}
use Rattle.ft_path.specs.declared.errno.Errno.{Errno}
use Rattle.ft_path.specs.declared.errno.Errno.TheVariants.{ENOENT, EEXIST, EINVAL, ENAMETOOLONG}
use Rattle.ft_cells.specs.declared.entry.Entry.{Entry as DirEntry}
use Rattle.ft_cells.specs.declared.cell.Cell.TheVariants.{Entry, Links, Bytes}
use Rattle.ft_cells.specs.declared.node.Node.TheVariants.{Dir as DirNode, File as FileNode}
use Rattle.ft_cells.specs.declared.node.Form.TheVariants.{Regular, Link as LinkForm}
use Rattle.ft_cells.specs.declared.node.PathEnd.{PathEnd}
use Rattle.ft_cells.specs.declared.node.PathEnd.TheVariants.{Named, Itself}
use Rattle.ft_cells.specs.Cells.{untimed}
use Rattle.ft_cells.specs.Looks.{Looks, Answer, Look}
use Rattle.ft_posix.specs.declared.call.Reply.TheVariants.{Done, Bytes as BytesReply}
use Rattle.ft_posix.specs.Outcomes.{sets, Outcome, failed, told, from_judged}

-- symlink (POSIX.1-2017, System Interfaces, symlink)

-- a target of no bytes is ENOENT, where POSIX leaves it open, and one of more than 4,095 bytes is
-- ENAMETOOLONG ({SYMLINK_MAX}). Nothing else is required of it (XSH symlink: it is no more than a
-- string).
abbrev pub target_fault : List ℕ → Option Errno
target_fault target = cond (length target == 0) (Some ENOENT) (cond (nat_lt LONGEST_PATH (length target)) (Some ENAMETOOLONG) None)

-- the new link has one link, and the target for its bytes; its number is the call's stamp
abbrev pub makes_link : ℕ → List ℕ → DirEntry → Outcome
makes_link stamp target entry = record {
  reply = Done;
  writes = sets (Links stamp) 1 ∷ sets (Bytes stamp) (untimed target) ∷ sets (Entry entry) (Some (FileNode LinkForm stamp)) ∷ [];
}

-- symlink at the end of the walk: anything that is there, including a link, is EEXIST, and a
-- missing name with a slash after it ENOENT
abbrev pub make_link : ℕ → List ℕ → PathEnd → Looks Outcome
make_link stamp target (Named entry None slash) = Answer (cond slash (failed ENOENT) (makes_link stamp target entry))
make_link stamp target (Named entry (Some x) slash) = Answer (failed EEXIST)
make_link stamp target (Itself dir) = Answer (failed EEXIST)

-- symlink from the parts of its path on: the fault of the text, the fault of the target, and the
-- walk
abbrev pub symlink_parts : ℕ → List ℕ → Result Parts Errno → Looks Outcome
symlink_parts stamp target parts = from_judged (target_fault target) false parts (make_link stamp target)

-- readlink (POSIX.1-2017, System Interfaces, readlink)

-- readlink at the end of the walk: a missing name is ENOENT, and anything but a link is EINVAL. The
-- target is returned whole, since its caller gives no size.
abbrev pub read_link : PathEnd → Looks Outcome
read_link (Named entry None slash) = Answer (failed ENOENT)
read_link (Named entry (Some (DirNode file)) slash) = Answer (failed EINVAL)
read_link (Named entry (Some (FileNode Regular file)) slash) = Answer (failed EINVAL)
read_link (Named entry (Some (FileNode LinkForm file)) slash) = Look (Bytes file) (λ contents. Answer (told (BytesReply contents.bytes)))
read_link (Itself dir) = Answer (failed EINVAL)
