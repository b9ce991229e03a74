-- The looks and the outcomes of the calls on attributes and times: chmod, chown, utime and their
-- variants. The order of their errors is a rule of this project. XBD and XSH are the Base
-- Definitions and the System Interfaces of POSIX.1-2017.
-- No call depends on its caller: it has appropriate privileges (XBD 4.5). Any open descriptor is
-- therefore accepted.
use Rattle.std.specs.Prelude.{ℕ, cond, ◌==◌, ◌&&◌, nat_lt, List, [], ◌∷◌, Option, Some, None, unwrap_or}
use Rattle.ft_path.specs.declared.errno.Errno.{Errno}
use Rattle.ft_path.specs.declared.errno.Errno.TheVariants.{ENOENT, EINVAL, ELOOP}
use Rattle.ft_cells.specs.declared.attributes.TheConstants.{MOST_MODE, MOST_NANOSECONDS}
use Rattle.ft_cells.specs.declared.attributes.Attributes.{Attributes}
use Rattle.ft_cells.specs.declared.attributes.Timestamp.{Timestamp}
use Rattle.ft_cells.specs.Attributes.{kept_attributes, attributes_from}
use Rattle.ft_cells.specs.declared.cell.Cell.TheVariants.{Bytes, DirAttributes, FileAttributes}
use Rattle.ft_cells.specs.declared.node.Kind.{Kind}
use Rattle.ft_cells.specs.declared.node.Kind.TheVariants.{Dir as DirKind, File as FileKind}
use Rattle.ft_cells.specs.declared.node.Node.TheVariants.{Dir as DirNode, File as FileNode}
use Rattle.ft_cells.specs.declared.node.Form.TheVariants.{Regular, Link as LinkForm}
use Rattle.ft_cells.specs.declared.node.PathEnd.{PathEnd}
use Rattle.ft_cells.specs.declared.node.PathEnd.TheVariants.{Named, Itself}
use Rattle.ft_cells.specs.declared.open_file.OpenFile.{OpenFile}
use Rattle.ft_cells.specs.Cells.{timed}
use Rattle.ft_cells.specs.Looks.{Looks, Answer, Look}
use Rattle.ft_posix.specs.declared.call.Reply.TheVariants.{Done}
use Rattle.ft_posix.specs.Outcomes.{Write, sets, Outcome, failed, told, unless}

-- Arguments.

-- a mode above 07777 is EINVAL (a rule of this project, since XSH chmod leaves other bits open)
abbrev pub mode_fault : Option ℕ → Option Errno
mode_fault None = None
mode_fault (Some mode) = cond (nat_lt MOST_MODE mode) (Some EINVAL) None

-- 1,000,000,000 nanoseconds or more are EINVAL (XSH utimensat)
abbrev pub time_fault : Timestamp → Option Errno
time_fault time = cond (nat_lt MOST_NANOSECONDS time.nanoseconds) (Some EINVAL) None

-- Attributes.

-- with another mode; owner and group stay (XSH chmod)
abbrev pub with_mode : ℕ → Attributes → Attributes
with_mode mode a = record { mode = mode; owner = a.owner; group = a.group }

-- with another owner and another group, if they are given; else they stay (XSH chown, of -1). The
-- bits S_ISUID and S_ISGID stay: POSIX leaves that open for a process with appropriate privileges.
abbrev pub with_owner : Option ℕ → Option ℕ → Attributes → Attributes
with_owner owner group a = record { mode = a.mode; owner = unwrap_or owner a.owner; group = unwrap_or group a.group }

-- the stored attributes after a change; attributes that are the default ones are not stored
abbrev pub changed : Kind → (Attributes → Attributes) → Option Attributes → Option Attributes
changed kind change was = kept_attributes kind (change (attributes_from kind was))

-- a new directory has the given mode, or else the default one (XSH mkdir; no file mode creation
-- mask is kept)
abbrev pub dir_mode : ℕ → Option ℕ → List Write
dir_mode dir None = []
dir_mode dir (Some mode) = sets (DirAttributes dir) (changed DirKind (with_mode mode) None) ∷ []

-- a new file has the given mode, or else the default one (XSH open, O_CREAT)
abbrev pub file_mode : ℕ → Option ℕ → List Write
file_mode file None = []
file_mode file (Some mode) = sets (FileAttributes file) (changed FileKind (with_mode mode) None) ∷ []

-- chmod and chown (XSH chmod, fchmod, chown, lchown, fchown)

-- the attributes of a directory are changed
abbrev pub change_dir : (Attributes → Attributes) → ℕ → Looks Outcome
change_dir change dir = Look (DirAttributes dir) (λ was. Answer (record { reply = Done; writes = sets (DirAttributes dir) (changed DirKind change was) ∷ [] }))

-- the attributes of a file are changed
abbrev pub change_file : (Attributes → Attributes) → ℕ → Looks Outcome
change_file change file = Look (FileAttributes file) (λ was. Answer (record { reply = Done; writes = sets (FileAttributes file) (changed FileKind change was) ∷ [] }))

-- chmod and chown at the end of the walk, with the outcome at a link: a missing name is ENOENT
abbrev pub change_spot : (Attributes → Attributes) → Outcome → PathEnd → Looks Outcome
change_spot change at_link (Named entry None slash) = Answer (failed ENOENT)
change_spot change at_link (Named entry (Some (DirNode dir)) slash) = change_dir change dir
change_spot change at_link (Named entry (Some (FileNode Regular file)) slash) = change_file change file
change_spot change at_link (Named entry (Some (FileNode LinkForm file)) slash) = Answer at_link
change_spot change at_link (Itself dir) = change_dir change dir

-- chmod follows links, so the walk does not end at one: a link is ELOOP, which no call reaches
abbrev pub chmod_spot : ℕ → PathEnd → Looks Outcome
chmod_spot mode spot = change_spot (with_mode mode) (failed ELOOP) spot

-- chown follows links, so the walk does not end at one: a link is ELOOP, which no call reaches
abbrev pub chown_spot : Option ℕ → Option ℕ → PathEnd → Looks Outcome
chown_spot owner group spot = change_spot (with_owner owner group) (failed ELOOP) spot

-- lchown of a link, whose owner and group are 0 and stay so: others are EINVAL (XSH lchown)
abbrev pub chown_link : Option ℕ → Option ℕ → Outcome
chown_link owner group = cond ((unwrap_or owner 0 == 0) && (unwrap_or group 0 == 0)) (told Done) (failed EINVAL)

-- lchown, which does not follow a last link
abbrev pub lchown_spot : Option ℕ → Option ℕ → PathEnd → Looks Outcome
lchown_spot owner group spot = change_spot (with_owner owner group) (chown_link owner group) spot

-- fchmod: the mode is judged after the descriptor
abbrev pub fchmod_open : ℕ → OpenFile → Looks Outcome
fchmod_open mode description = unless (mode_fault (Some mode)) (change_file (with_mode mode) description.file)

-- fchown
abbrev pub fchown_open : Option ℕ → Option ℕ → OpenFile → Looks Outcome
fchown_open owner group description = change_file (with_owner owner group) description.file

-- utime and its variants (XSH utimensat, futimens, only for the last data modification)

-- the time of a file's bytes is set, and the bytes stay
abbrev pub set_time : Timestamp → ℕ → Looks Outcome
set_time time file = Look (Bytes file) (λ contents. Answer (record { reply = Done; writes = sets (Bytes file) (timed contents (Some time)) ∷ [] }))

-- utime at the end of the walk, with the error at a link: a missing name is ENOENT; a directory is
-- EINVAL, since its time is not kept (a rule of this project)
abbrev pub time_spot : Errno → Timestamp → PathEnd → Looks Outcome
time_spot fault time (Named entry None slash) = Answer (failed ENOENT)
time_spot fault time (Named entry (Some (DirNode dir)) slash) = Answer (failed EINVAL)
time_spot fault time (Named entry (Some (FileNode Regular file)) slash) = set_time time file
time_spot fault time (Named entry (Some (FileNode LinkForm file)) slash) = Answer (failed fault)
time_spot fault time (Itself dir) = Answer (failed EINVAL)

-- utime follows links, so the walk does not end at one: a link is ELOOP, which no call reaches
abbrev pub utime_spot : Timestamp → PathEnd → Looks Outcome
utime_spot time spot = time_spot ELOOP time spot

-- lutime does not follow a last link, which is EINVAL, since its time is not kept (a rule of this
-- project)
abbrev pub lutime_spot : Timestamp → PathEnd → Looks Outcome
lutime_spot time spot = time_spot EINVAL time spot

-- futime: the time is judged after the descriptor
abbrev pub futime_open : Timestamp → OpenFile → Looks Outcome
futime_open time description = unless (time_fault time) (set_time time description.file)
