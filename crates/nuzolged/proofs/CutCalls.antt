-- A call and its cut are one and the same.
use Rattle.std.proofs.Common.{◌≡◌, ◌<◌, ◌≤◌, ◌↔◌, ◌∙◌, ⊎_elim, ℕ, ℤ, pos, negsuc, Bool, cond, ◌&&◌, not, nat_le, false, true, List, [], ◌∷◌, length, take, Option, Some, None, option_map, Result, Ok, Err, ap, sym, refl, arith, length-take, take_all, take-take}
use Rattle.std.proofs.lemmas.Bool.{cases_lt}
use Rattle.std.proofs.lemmas.Bool.Decides.{nat_tests}
use Rattle.ft_path.specs.declared.errno.Errno.{Errno}
use Rattle.ft_path.specs.declared.errno.Errno.TheVariants.{ENAMETOOLONG, EFBIG, EINVAL}
use Rattle.ft_path.specs.declared.path.Parts.{Parts}
use Rattle.ft_path.specs.FilePath.{parts_of}
use Rattle.ft_body.specs.Bytes.{fitting, room_at}
use Rattle.ft_cells.specs.declared.cell.Cell.TheVariants.{Bytes}
use Rattle.ft_cells.specs.declared.limits.TreeLimits.{TreeLimits}
use Rattle.ft_cells.specs.declared.node.PathEnd.{PathEnd}
use Rattle.ft_cells.specs.declared.open_file.OpenFile.{OpenFile}
use Rattle.ft_cells.specs.Looks.{Looks, Answer, Look, then}
use Rattle.ft_cells.specs.Modes.{can_write}
use Rattle.ft_posix.specs.declared.call.Call.{Call}
use Rattle.ft_posix.specs.declared.call.OpenFlags.{OpenFlags}
use Rattle.ft_posix.specs.declared.call.Call.TheVariants.{Mkdir, Rmdir, List as ListDir, Open, Close, Read, Write, Pread, Pwrite, Lseek, Truncate, Ftruncate, Stat, Fstat, Link, Unlink, Rename, Symlink, Readlink, Lstat, Chmod, Fchmod, Chown, Lchown, Fchown, Utime, Lutime, Futime}
use Rattle.ft_posix.specs.Attributes.{mode_fault, time_fault, with_mode, change_file, chmod_spot, chown_spot, lchown_spot, fchmod_open, utime_spot, lutime_spot}
use Rattle.ft_posix.specs.Outcomes.{Outcome, failed, from_judged, from_parts, unless}
use Rattle.ft_posix.specs.Dirs.{make_dir, remove_parts, list_dir}
use Rattle.ft_posix.specs.Links.{link_parts, unlink_spot, rename_parts}
use Rattle.ft_posix.specs.Symlinks.{target_fault, make_link, symlink_parts, read_link}
use Rattle.ft_posix.specs.Files.{is_exclusive, open_parts, open_spot, truncate_parts, stat_spot}
use Rattle.ft_posix.specs.Descriptors.{with_open, any_open, is_writable, write_place, write_open, has_written, pwrite_at, pwrite_open, has_pwritten}
use Rattle.ft_posix.specs.Steps.{steps}
use Prim.Native.Nat.{max}
use Rattle.nuzolged.specs.Cuts.{cut_path, cut_bytes, cut_mode, most_at, cut_of}

some_of : (x : ℕ) (xs : List ℕ) → 0 < length (x ∷ xs)
some_of x xs = omega arith

no_less : 0 < 0 → ⊥
no_less h = omega arith

too_long : (path : List ℕ) → 4095 < length path → parts_of path ≡ Err ENAMETOOLONG
too_long path h = grind (arith, nat_tests)

pub parts_of_cut : (path : List ℕ) → parts_of (cut_path path) ≡ parts_of path
parts_of_cut path = ⊎_elim
    (λ (h : 4096 < length path). too_long (cut_path path) (omega (arith, length-take 4096 path)) ∙ sym (too_long path (omega arith)))
    (λ (h : length path ≤ 4096). ap parts_of (take_all 4096 path h)) (cases_lt 4096 (length path))

-- ---- the target of a symbolic link

long_target : (target : List ℕ) → 4095 < length target → target_fault target ≡ Some ENAMETOOLONG
long_target target h = grind (arith, nat_tests)

symlink_parts-cut : (stamp : ℕ) (target : List ℕ) (parts : Result Parts Errno) → symlink_parts stamp (cut_path target) parts ≡ symlink_parts stamp target parts
symlink_parts-cut stamp target (Err e) = refl
symlink_parts-cut stamp target (Ok parts) = ⊎_elim
    (λ (h : 4096 < length target). ap (λ (o : Option Errno). unless o (from_parts false (Ok parts) (make_link stamp (cut_path target)))) (long_target (cut_path target) (omega (arith, length-take 4096 target)))
    ∙ sym (ap (λ (o : Option Errno). unless o (from_parts false (Ok parts) (make_link stamp target))) (long_target target (omega arith))))
    (λ (h : length target ≤ 4096). ap (λ t. symlink_parts stamp t (Ok parts)) (take_all 4096 target h)) (cases_lt 4096 (length target))

-- ---- modes

too_large : (mode : ℕ) → 4095 < mode → mode_fault (Some mode) ≡ Some EINVAL
too_large mode h = grind (arith, nat_tests)

-- what is the same of all modes that are too large is that of a mode and of what is left of it
by_mode : {A : Type 0} (of : ℕ → A) (all : A) → ((mode : ℕ) → 4095 < mode → of mode ≡ all) → (mode : ℕ) → of (cut_mode mode) ≡ of mode
by_mode of all same mode = ⊎_elim
    (λ (h : 4095 < mode). same (cut_mode mode) (omega arith) ∙ sym (same mode h))
    (λ (h : mode ≤ 4095). ap of (omega arith)) (cases_lt 4095 mode)

-- with a fault it does not count where the call would go on
judged_fault : (follow : Bool) (parts : Result Parts Errno) (go : PathEnd → Looks Outcome) → from_judged (Some EINVAL) follow parts go ≡ from_judged (Some EINVAL) follow parts (λ spot. Answer (failed EINVAL))
judged_fault follow (Err e) go = refl
judged_fault follow (Ok parts) go = refl

judged-cut : (follow : Bool) (parts : Result Parts Errno) (go : ℕ → PathEnd → Looks Outcome) (mode : ℕ) → from_judged (mode_fault (Some (cut_mode mode))) follow parts (go (cut_mode mode)) ≡ from_judged (mode_fault (Some mode)) follow parts (go mode)
judged-cut follow parts go = by_mode (λ mode. from_judged (mode_fault (Some mode)) follow parts (go mode)) (from_judged (Some EINVAL) follow parts (λ spot. Answer (failed EINVAL)))
    (λ mode h. ap (λ (o : Option Errno). from_judged o follow parts (go mode)) (too_large mode h) ∙ judged_fault follow parts (go mode))

make_dir-cut : (stamp : ℕ) (parts : Result Parts Errno) (mode : Option ℕ) → from_judged (mode_fault (option_map cut_mode mode)) false parts (make_dir stamp (option_map cut_mode mode)) ≡ from_judged (mode_fault mode) false parts (make_dir stamp mode)
make_dir-cut stamp parts None = refl
make_dir-cut stamp parts (Some mode) = judged-cut false parts (λ m. make_dir stamp (Some m)) mode

-- how a file is opened, with another mode
abbrev opening : OpenFlags → Option ℕ → OpenFlags
opening flags mode = record flags { mode = mode }

either_fault : (b : Bool) → cond b (Some EINVAL) (Some EINVAL) ≡ Some EINVAL
either_fault true = refl
either_fault false = refl

open-cut : (stamp : ℕ) (flags : OpenFlags) (mode : Option ℕ) (parts : Result Parts Errno) → open_parts stamp (opening flags (option_map cut_mode mode)) parts ≡ open_parts stamp (opening flags mode) parts
open-cut stamp flags None parts = refl
open-cut stamp flags (Some mode) parts =
    let go : ℕ → PathEnd → Looks Outcome = λ m spot. Answer (open_spot stamp (opening flags (Some m)) spot) in
    by_mode (λ m. open_parts stamp (opening flags (Some m)) parts) (from_judged (Some EINVAL) (not (is_exclusive flags)) parts (λ spot. Answer (failed EINVAL)))
    (λ m h. ap (λ (o : Option Errno). from_judged (cond (flags.trunc && not (can_write flags.access)) (Some EINVAL) o) (not (is_exclusive flags)) parts (go m)) (too_large m h)
    ∙ ap (λ (o : Option Errno). from_judged o (not (is_exclusive flags)) parts (go m)) (either_fault (flags.trunc && not (can_write flags.access)))
    ∙ judged_fault (not (is_exclusive flags)) parts (go m)) mode

fchmod_open-cut : (mode : ℕ) (d : OpenFile) → fchmod_open (cut_mode mode) d ≡ fchmod_open mode d
fchmod_open-cut mode d = by_mode (λ m. fchmod_open m d) (Answer (failed EINVAL)) (λ m h. ap (λ (o : Option Errno). unless o (change_file (with_mode m) d.file)) (too_large m h)) mode

-- ---- bytes

-- what is kept of some bytes is as much as has room at a place, and not nothing
record IsCut (limits : TreeLimits) (bytes kept : List ℕ) (at : ℕ) : Type 0 where
  pub some : (0 < length kept) ↔ (0 < length bytes)
  pub fits : fitting limits.file_size kept at ≡ fitting limits.file_size bytes at

of_room : (limits : TreeLimits) (bytes : List ℕ) (most at : ℕ) → 0 < most → room_at limits.file_size at ≤ most → IsCut limits bytes (take most bytes) at
of_room limits bytes most at some h = record { some = (λ g. omega (arith, length-take most bytes), λ g. omega (arith, length-take most bytes)); fits = take-take (room_at limits.file_size at) most bytes h }

write_open-cut : (limits : TreeLimits) (fd : ℕ) (bytes kept : List ℕ) → ((at : ℕ) → IsCut limits bytes kept at) → (d : OpenFile) → write_open limits fd kept d ≡ write_open limits fd bytes d
write_open-cut limits fd [] [] cut d = refl
write_open-cut limits fd [] (y ∷ ys) cut d = absurd (no_less ((cut 0).some.0 (some_of y ys)))
write_open-cut limits fd (x ∷ xs) [] cut d = absurd (no_less ((cut 0).some.1 (some_of x xs)))
write_open-cut limits fd (x ∷ xs) (y ∷ ys) cut d = λ i. then (write_place d) (λ at. cond (nat_le limits.file_size at) (Answer (failed EFBIG)) (Look (Bytes d.file) (λ old. Answer (has_written fd d at ((cut at).fits i) old.bytes))))

pwrite_at-cut : (limits : TreeLimits) (d : OpenFile) (bytes kept : List ℕ) (at : ℕ) → IsCut limits bytes kept at → pwrite_at limits d kept at ≡ pwrite_at limits d bytes at
pwrite_at-cut limits d [] [] at cut = refl
pwrite_at-cut limits d [] (y ∷ ys) at cut = absurd (no_less (cut.some.0 (some_of y ys)))
pwrite_at-cut limits d (x ∷ xs) [] at cut = absurd (no_less (cut.some.1 (some_of x xs)))
pwrite_at-cut limits d (x ∷ xs) (y ∷ ys) at cut = λ i. cond (nat_le limits.file_size at) (Answer (failed EFBIG)) (Look (Bytes d.file) (λ old. Answer (has_pwritten d at (cut.fits i) old.bytes)))

pwrite_open-cut : (limits : TreeLimits) (off : ℤ) (bytes : List ℕ) (d : OpenFile) → pwrite_open limits off (take (most_at limits off) bytes) d ≡ pwrite_open limits off bytes d
pwrite_open-cut limits (pos n) bytes d = pwrite_at-cut limits d bytes (take (max 1 (room_at limits.file_size n)) bytes) n (of_room limits bytes (max 1 (room_at limits.file_size n)) n (omega arith) (omega arith))
pwrite_open-cut limits (negsuc n) bytes d = refl

-- a call looks at the same as its cut, and comes to the same
pub steps_of_cut : (limits : TreeLimits) (most stamp : ℕ) (call : Call) → steps limits most stamp (cut_of limits call) ≡ steps limits most stamp call
steps_of_cut limits most stamp (Mkdir path mode) = (λ i. from_judged (mode_fault (option_map cut_mode mode)) false (parts_of_cut path i) (make_dir stamp (option_map cut_mode mode))) ∙ make_dir-cut stamp (parts_of path) mode
steps_of_cut limits most stamp (Rmdir path) = λ i. remove_parts (parts_of_cut path i)
steps_of_cut limits most stamp (ListDir path) = λ i. from_parts true (parts_of_cut path i) list_dir
steps_of_cut limits most stamp (Open path flags) = (λ i. open_parts stamp (opening flags (option_map cut_mode flags.mode)) (parts_of_cut path i)) ∙ open-cut stamp flags flags.mode (parts_of path)
steps_of_cut limits most stamp (Close fd) = refl
steps_of_cut limits most stamp (Read fd len) = refl
steps_of_cut limits most stamp (Write fd bytes) =
    λ i. with_open fd is_writable (λ d. write_open-cut limits fd bytes (cut_bytes limits bytes) (λ at. of_room limits bytes (max 1 limits.file_size) at (omega arith) (omega arith)) d i)
steps_of_cut limits most stamp (Pread fd off len) = refl
steps_of_cut limits most stamp (Pwrite fd off bytes) = λ i. with_open fd is_writable (λ d. pwrite_open-cut limits off bytes d i)
steps_of_cut limits most stamp (Lseek fd whence off) = refl
steps_of_cut limits most stamp (Truncate len path) = λ i. truncate_parts limits len (parts_of_cut path i)
steps_of_cut limits most stamp (Ftruncate fd len) = refl
steps_of_cut limits most stamp (Stat path) = λ i. from_parts true (parts_of_cut path i) stat_spot
steps_of_cut limits most stamp (Fstat fd) = refl
steps_of_cut limits most stamp (Link old new) = λ i. link_parts limits (parts_of_cut old i) (parts_of_cut new i)
steps_of_cut limits most stamp (Unlink path) = λ i. from_parts false (parts_of_cut path i) unlink_spot
steps_of_cut limits most stamp (Rename old new) = λ i. rename_parts most (parts_of_cut old i) (parts_of_cut new i)
steps_of_cut limits most stamp (Symlink target path) = (λ i. symlink_parts stamp (cut_path target) (parts_of_cut path i)) ∙ symlink_parts-cut stamp target (parts_of path)
steps_of_cut limits most stamp (Readlink path) = λ i. from_parts false (parts_of_cut path i) read_link
steps_of_cut limits most stamp (Lstat path) = λ i. from_parts false (parts_of_cut path i) stat_spot
steps_of_cut limits most stamp (Chmod mode path) = (λ i. from_judged (mode_fault (Some (cut_mode mode))) true (parts_of_cut path i) (chmod_spot (cut_mode mode))) ∙ judged-cut true (parts_of path) chmod_spot mode
steps_of_cut limits most stamp (Fchmod fd mode) = λ i. with_open fd any_open (λ d. fchmod_open-cut mode d i)
steps_of_cut limits most stamp (Chown owner group path) = λ i. from_parts true (parts_of_cut path i) (chown_spot owner group)
steps_of_cut limits most stamp (Lchown owner group path) = λ i. from_parts false (parts_of_cut path i) (lchown_spot owner group)
steps_of_cut limits most stamp (Fchown fd owner group) = refl
steps_of_cut limits most stamp (Utime time path) = λ i. from_judged (time_fault time) true (parts_of_cut path i) (utime_spot time)
steps_of_cut limits most stamp (Lutime time path) = λ i. from_judged (time_fault time) false (parts_of_cut path i) (lutime_spot time)
steps_of_cut limits most stamp (Futime fd time) = refl
