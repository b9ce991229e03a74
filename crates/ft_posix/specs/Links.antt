-- The looks and the outcomes of link, unlink and rename. The order of their errors is a rule of
-- this project.
use Rattle.std.specs.Prelude.{ℕ, zero, suc, Bool, true, false, cond, ◌==◌, ◌||◌, ◌-◌, nat_lt, List, [], ◌∷◌, Option, Some, None, unwrap_or, Result, Ok, Err}
use Rattle.ft_path.specs.FilePath.{last_of}
use Rattle.ft_path.specs.declared.path.LastName.{LastName}
use Rattle.ft_path.specs.declared.path.LastName.TheVariants.{Absent, Dot, DotDot, Plain}
use Rattle.ft_path.specs.declared.path.Parts.{Parts}
use Rattle.ft_path.specs.declared.errno.Errno.{Errno}
use Rattle.ft_path.specs.declared.errno.Errno.TheVariants.{ENOENT, ENOTDIR, EEXIST, EISDIR, ENOTEMPTY, EINVAL, EPERM, EBUSY, EMLINK}
use Rattle.ft_cells.specs.declared.entry.Entry.{Entry as DirEntry}
use Rattle.ft_cells.specs.declared.limits.TreeLimits.{TreeLimits}
use Rattle.ft_cells.specs.declared.cell.Cell.TheVariants.{Entry, Names, Parent, Links, DirAttributes}
use Rattle.ft_cells.specs.declared.node.Node.{Node}
use Rattle.ft_cells.specs.declared.node.Node.TheVariants.{Dir as DirNode, File as FileNode}
use Rattle.ft_cells.specs.declared.node.Form.{Form}
use Rattle.ft_cells.specs.Looks.{Looks, Answer, Look, then}
use Rattle.ft_cells.specs.declared.node.PathEnd.{PathEnd}
use Rattle.ft_cells.specs.declared.node.PathEnd.TheVariants.{Named, Itself}
use Rattle.ft_posix.specs.declared.call.Reply.TheVariants.{Done}
use Rattle.ft_posix.specs.Outcomes.{Write, sets, Outcome, failed, told, from_parts, unless}

-- link (POSIX.1-2017, System Interfaces, link)

-- the file has the new entry, and one link more
abbrev pub linked : Form → ℕ → DirEntry → ℕ → Outcome
linked form file new links = record { reply = Done; writes = sets (Entry new) (Some (FileNode form file)) ∷ sets (Links file) (suc links) ∷ [] }

-- a file with as many links as the tree allows has no room for another: EMLINK ({LINK_MAX})
abbrev pub link_at : TreeLimits → Form → ℕ → DirEntry → ℕ → Outcome
link_at limits form file new links = cond (nat_lt links limits.links) (linked form file new links) (failed EMLINK)

-- the end of the walk of the new path: a name that is there is EEXIST, and a missing name with a
-- slash after it is ENOENT. A file with a slash after its name was ENOTDIR in the walk; Linux has
-- EEXIST.
abbrev pub link_new : TreeLimits → Form → ℕ → PathEnd → Looks Outcome
link_new limits form file (Named new None slash) = cond slash (Answer (failed ENOENT)) (Look (Links file) (λ links. Answer (link_at limits form file new links)))
link_new limits form file (Named new (Some x) slash) = Answer (failed EEXIST)
link_new limits form file (Itself dir) = Answer (failed EEXIST)

-- the end of the walk of the old path: a missing name is ENOENT, and a directory EPERM. A link
-- itself gets the new entry, which XSH link leaves open.
abbrev pub link_old : TreeLimits → Parts → PathEnd → Looks Outcome
link_old limits new (Named old None slash) = Answer (failed ENOENT)
link_old limits new (Named old (Some (DirNode file)) slash) = Answer (failed EPERM)
link_old limits new (Named old (Some (FileNode form file)) slash) = from_parts false (Ok new) (link_new limits form file)
link_old limits new (Itself dir) = Answer (failed EPERM)

-- link from the parts of its paths on: the fault of the text of old, that of new, the walk of old,
-- and the walk of new
abbrev pub link_parts : TreeLimits → Result Parts Errno → Result Parts Errno → Looks Outcome
link_parts limits (Err e) new = Answer (failed e)
link_parts limits (Ok old) (Err e) = Answer (failed e)
link_parts limits (Ok old) (Ok new) = from_parts false (Ok old) (link_old limits new)

-- unlink (POSIX.1-2017, System Interfaces, unlink)

-- the entry is removed, and the file has one link less. The file stays stored: its links and its
-- descriptions decide whether it is there.
abbrev pub unlinked : DirEntry → ℕ → ℕ → Outcome
unlinked entry file links = record { reply = Done; writes = sets (Links file) (links - 1) ∷ sets (Entry entry) None ∷ [] }

-- unlink at the end of the walk: a missing name is ENOENT, and a directory EPERM
abbrev pub unlink_spot : PathEnd → Looks Outcome
unlink_spot (Named entry None slash) = Answer (failed ENOENT)
unlink_spot (Named entry (Some (DirNode file)) slash) = Answer (failed EPERM)
unlink_spot (Named entry (Some (FileNode form file)) slash) = Look (Links file) (λ links. Answer (unlinked entry file links))
unlink_spot (Itself dir) = Answer (failed EPERM)

-- rename (POSIX.1-2017, System Interfaces, rename)

-- the last component is `.` or `..`
abbrev pub is_dots : LastName → Bool
is_dots Absent = false
is_dots Dot = true
is_dots DotDot = true
is_dots Plain = false

-- there is no last component: the path leads to the root
abbrev pub is_absent : LastName → Bool
is_absent Absent = true
is_absent Dot = false
is_absent DotDot = false
is_absent Plain = false

-- rename judges both last components before any look-up: `.` or `..` is EINVAL, and no component
-- (the root) is EBUSY, a choice of this project
abbrev pub rename_fault : LastName → LastName → Option Errno
rename_fault old new = cond (is_dots old || is_dots new) (Some EINVAL) (cond (is_absent old || is_absent new) (Some EBUSY) None)

-- the climb from a directory, from parent to parent, reading each: whether it meets the moved one
-- before the root, in at most so many steps
abbrev pub climb : ℕ → ℕ → ℕ → Looks Bool
climb zero moved dir = Answer (dir == moved)
climb (suc most) moved dir = cond (dir == moved) (Answer true) (cond (dir == 1) (Answer false) (Look (Parent dir) (λ p. climb most moved (unwrap_or p 1))))

-- a directory that would come to be below itself is EINVAL
abbrev pub unless_below : ℕ → ℕ → ℕ → Looks Outcome → Looks Outcome
unless_below most moved into go = then (climb most moved into) (λ met. cond met (Answer (failed EINVAL)) go)

-- the old entry is removed, and the new one names what the old one named
abbrev pub renamed : DirEntry → Node → DirEntry → List Write → Outcome
renamed old node new more = record { reply = Done; writes = sets (Entry new) (Some node) ∷ sets (Entry old) None ∷ more }

-- a directory that is moved to another directory has it as its parent
abbrev pub with_parent : ℕ → ℕ → ℕ → List Write
with_parent moved dir into = cond (dir == into) [] (sets (Parent moved) (Some into) ∷ [])

-- the file that the new name led to has one link less
abbrev pub replace_file : DirEntry → Node → DirEntry → ℕ → Looks Outcome
replace_file old moved new replaced = Look (Links replaced) (λ links. Answer (renamed old moved new (sets (Links replaced) (links - 1) ∷ [])))

-- the directory that the new name led to is removed with its attributes, if it has none of these
-- names; else it is ENOTEMPTY, for which POSIX allows EEXIST too
abbrev pub if_bare : DirEntry → ℕ → DirEntry → ℕ → List (List ℕ × Node) → Outcome
if_bare old moved new replaced [] = renamed old (DirNode moved) new (sets (DirAttributes replaced) None ∷ sets (Parent replaced) None ∷ with_parent moved old.dir new.dir)
if_bare old moved new replaced (name ∷ names) = failed ENOTEMPTY

-- the names of that directory are looked at
abbrev pub replace_dir : DirEntry → ℕ → DirEntry → ℕ → Looks Outcome
replace_dir old moved new replaced = Look (Names replaced) (λ names. Answer (if_bare old moved new replaced names))

-- rename of a file or a link, at the end of the walk of the new path: a missing name with a slash
-- after it is ENOTDIR, and a directory EISDIR; the same file stays as it is. A directory itself, to
-- which only a link with a slash after it leads, is EBUSY, a choice of this project.
abbrev pub rename_file : DirEntry → Form → ℕ → PathEnd → Looks Outcome
rename_file old form moved (Named new None slash) = Answer (cond slash (failed ENOTDIR) (renamed old (FileNode form moved) new []))
rename_file old form moved (Named new (Some (FileNode other replaced)) slash) = cond (moved == replaced) (Answer (told Done)) (replace_file old (FileNode form moved) new replaced)
rename_file old form moved (Named new (Some (DirNode replaced)) slash) = Answer (failed EISDIR)
rename_file old form moved (Itself into) = Answer (failed EBUSY)

-- rename of a directory, at the end of the walk of the new path: a file is ENOTDIR; the same
-- directory stays as it is
abbrev pub rename_dir : ℕ → DirEntry → ℕ → PathEnd → Looks Outcome
rename_dir most old moved (Named new None slash) = unless_below most moved new.dir (Answer (renamed old (DirNode moved) new (with_parent moved old.dir new.dir)))
rename_dir most old moved (Named new (Some (FileNode form replaced)) slash) = Answer (failed ENOTDIR)
rename_dir most old moved (Named new (Some (DirNode replaced)) slash) = cond (moved == replaced) (Answer (told Done)) (unless_below most moved new.dir (replace_dir old moved new replaced))
rename_dir most old moved (Itself into) = Answer (failed EBUSY)

-- the end of the walk of the old path: a missing name is ENOENT. A link itself is moved (XSH
-- rename).
abbrev pub rename_old : ℕ → Parts → PathEnd → Looks Outcome
rename_old most new (Named old None slash) = Answer (failed ENOENT)
rename_old most new (Named old (Some (FileNode form moved)) slash) = from_parts false (Ok new) (rename_file old form moved)
rename_old most new (Named old (Some (DirNode moved)) slash) = from_parts false (Ok new) (rename_dir most old moved)
rename_old most new (Itself dir) = Answer (failed EBUSY)

-- rename from the parts of its paths on: the fault of the text of old, that of new, the last
-- components, the walk of old, and the walk of new
abbrev pub rename_parts : ℕ → Result Parts Errno → Result Parts Errno → Looks Outcome
rename_parts most (Err e) new = Answer (failed e)
rename_parts most (Ok old) (Err e) = Answer (failed e)
rename_parts most (Ok old) (Ok new) = unless (rename_fault (last_of old.names) (last_of new.names)) (from_parts false (Ok old) (rename_old most new))
