-- The looks and the outcomes of the calls on descriptors. The order of their errors is a rule of
-- this project.
use Rattle.std.specs.Prelude.{ℕ, Bool, true, cond, ◌+◌, ◌-◌, suc, nat_le, ℤ, pos, negsuc, length, List, [], ◌∷◌, Option, Some, None, Result, Ok, Err}
use Rattle.ft_body.specs.Bytes.{bytes_at, fitting, written}
use Rattle.ft_path.specs.declared.errno.Errno.{Errno}
use Rattle.ft_path.specs.declared.errno.Errno.TheVariants.{EINVAL, EBADF, EFBIG, EOVERFLOW}
use Rattle.ft_cells.specs.declared.cell.Cell.TheVariants.{Links, Bytes, Fd}
use Rattle.ft_cells.specs.declared.open_file.OpenFile.{OpenFile}
use Rattle.ft_cells.specs.declared.limits.TreeLimits.{TreeLimits}
use Rattle.ft_cells.specs.declared.node.Form.TheVariants.{Regular}
use Rattle.ft_cells.specs.Modes.{can_read, can_write}
use Rattle.ft_cells.specs.Cells.{untimed}
use Rattle.ft_cells.specs.Looks.{Looks, Answer, Look, then, or_else}
use Rattle.ft_posix.specs.declared.TheConstants.{LAST_OFFSET}
use Rattle.ft_posix.specs.declared.call.Whence.{Whence}
use Rattle.ft_posix.specs.declared.call.Whence.TheVariants.{Set, Cur, End}
use Rattle.ft_posix.specs.declared.call.Reply.TheVariants.{Done, Number, Bytes as BytesReply}
use Rattle.ft_posix.specs.Outcomes.{sets, Outcome, failed, told}
use Rattle.ft_posix.specs.Files.{to_size, cut_file, file_info}

-- Calls on a descriptor: one that is not open, or not open for the call, is EBADF.

-- the call continues if the descriptor is open and fits
abbrev pub on_open : (OpenFile → Bool) → (OpenFile → Looks Outcome) → Option OpenFile → Looks Outcome
on_open fits go None = Answer (failed EBADF)
on_open fits go (Some description) = cond (fits description) (go description) (Answer (failed EBADF))

-- a call on a descriptor looks at its description first
abbrev pub with_open : ℕ → (OpenFile → Bool) → (OpenFile → Looks Outcome) → Looks Outcome
with_open fd fits go = Look (Fd fd) (λ place. on_open fits go place)

-- any open description fits
abbrev pub any_open : OpenFile → Bool
any_open description = true

-- the description is open for reading
abbrev pub is_readable : OpenFile → Bool
is_readable description = can_read description.access

-- the description is open for writing
abbrev pub is_writable : OpenFile → Bool
is_writable description = can_write description.access

-- a description with another offset
abbrev pub at_offset : OpenFile → ℕ → OpenFile
at_offset description offset = record { file = description.file; access = description.access; append = description.append; offset = offset }

-- close (POSIX.1-2017, System Interfaces, close): the descriptor is removed. The call looks at
-- whether entries name the file, a rule of this project.
abbrev pub close_open : ℕ → OpenFile → Looks Outcome
close_open fd description = Look (Links description.file) (λ _. Answer (record { reply = Done; writes = sets (Fd fd) None ∷ [] }))

-- read (POSIX.1-2017, System Interfaces, read): the offset moves by the count of the bytes that are
-- read
abbrev pub has_read : ℕ → OpenFile → List ℕ → Outcome
has_read fd description bytes = record { reply = BytesReply bytes; writes = sets (Fd fd) (Some (at_offset description (description.offset + length bytes))) ∷ [] }

-- at most so many bytes are read from the offset on
abbrev pub read_open : ℕ → ℕ → OpenFile → Looks Outcome
read_open fd len description = Look (Bytes description.file) (λ contents. Answer (has_read fd description (bytes_at contents.bytes description.offset len)))

-- an offset or a length below zero is EINVAL
abbrev pub not_negative : ℤ → Result ℕ Errno
not_negative (pos n) = Ok n
not_negative (negsuc n) = Err EINVAL

-- pread (POSIX.1-2017, System Interfaces, pread): at most so many bytes are read at an offset of
-- the call, and the offset of the description stays
abbrev pub pread_at : ℕ → OpenFile → ℕ → Looks Outcome
pread_at len description at = Look (Bytes description.file) (λ contents. Answer (told (BytesReply (bytes_at contents.bytes at len))))

-- pread, once its offset is judged
abbrev pub pread_open : ℤ → ℕ → OpenFile → Looks Outcome
pread_open off len description = or_else failed (pread_at len description) (not_negative off)

-- write (POSIX.1-2017, System Interfaces, write): with append the offset is first the size

-- where a write begins: at the offset, or with append at the end
abbrev pub write_place : OpenFile → Looks ℕ
write_place description = cond description.append (Look (Bytes description.file) (λ contents. Answer (length contents.bytes))) (Answer description.offset)

-- the bytes that have room are written, and the file loses its time; the offset becomes their end,
-- and the reply is their count
abbrev pub has_written : ℕ → OpenFile → ℕ → List ℕ → List ℕ → Outcome
has_written fd description at taken bytes = record {
  reply = Number (length taken);
  writes = sets (Bytes description.file) (untimed (written bytes at taken)) ∷ sets (Fd fd) (Some (at_offset description (at + length taken))) ∷ [];
}

-- write at a place: a place at or past the size limit of the tree is EFBIG; else as many bytes as
-- have room are written, and zeros fill a gap before them
abbrev pub write_at : TreeLimits → ℕ → OpenFile → List ℕ → ℕ → Looks Outcome
write_at limits fd description bytes at =
    cond (nat_le limits.file_size at) (Answer (failed EFBIG)) (Look (Bytes description.file) (λ old. Answer (has_written fd description at (fitting limits.file_size bytes at) old.bytes)))

-- a write of no bytes changes nothing, and looks only at the description, even with append
abbrev pub write_open : TreeLimits → ℕ → List ℕ → OpenFile → Looks Outcome
write_open limits fd [] description = Answer (told (Number 0))
write_open limits fd (first ∷ more) description = then (write_place description) (write_at limits fd description (first ∷ more))

-- pwrite (POSIX.1-2017, System Interfaces, pwrite): the offset of the description stays, and append
-- has no effect, as in POSIX; Linux appends

-- the bytes that have room are written, the file loses its time, and the reply is their count
abbrev pub has_pwritten : OpenFile → ℕ → List ℕ → List ℕ → Outcome
has_pwritten description at taken bytes = record { reply = Number (length taken); writes = sets (Bytes description.file) (untimed (written bytes at taken)) ∷ [] }

-- pwrite at a place: a write of no bytes changes nothing; else a place at or past the size limit of
-- the tree is EFBIG
abbrev pub pwrite_at : TreeLimits → OpenFile → List ℕ → ℕ → Looks Outcome
pwrite_at limits description [] at = Answer (told (Number 0))
pwrite_at limits description (first ∷ more) at =
    cond (nat_le limits.file_size at) (Answer (failed EFBIG)) (Look (Bytes description.file) (λ old. Answer (has_pwritten description at (fitting limits.file_size (first ∷ more) at) old.bytes)))

-- pwrite, once its offset is judged
abbrev pub pwrite_open : TreeLimits → ℤ → List ℕ → OpenFile → Looks Outcome
pwrite_open limits off bytes description = or_else failed (pwrite_at limits description bytes) (not_negative off)

-- lseek (POSIX.1-2017, System Interfaces, lseek)

-- the point from which an offset counts: the start, the offset of the description, or the end
abbrev pub seek_from : Whence → OpenFile → Looks ℕ
seek_from Set description = Answer 0
seek_from Cur description = Answer description.offset
seek_from End description = Look (Bytes description.file) (λ contents. Answer (length contents.bytes))

-- an offset moved from a place, unless the result is below zero
abbrev pub moved : ℕ → ℤ → Option ℕ
moved from (pos n) = Some (from + n)
moved from (negsuc n) = cond (nat_le (suc n) from) (Some (from - suc n)) None

-- an offset that a description may have: below zero it is EINVAL, and above 2^63 - 1 EOVERFLOW
abbrev pub offset_within : Option ℕ → Result ℕ Errno
offset_within None = Err EINVAL
offset_within (Some at) = cond (nat_le at LAST_OFFSET) (Ok at) (Err EOVERFLOW)

-- the offset is set and returned; below zero it is EINVAL, and above 2^63 - 1 EOVERFLOW
abbrev pub sought : ℕ → OpenFile → Option ℕ → Outcome
sought fd description None = failed EINVAL
sought fd description (Some at) = cond (nat_le at LAST_OFFSET) (record { reply = Number at; writes = sets (Fd fd) (Some (at_offset description at)) ∷ [] }) (failed EOVERFLOW)

-- lseek on an open descriptor
abbrev pub seek_open : ℕ → Whence → ℤ → OpenFile → Looks Outcome
seek_open fd whence off description = then (seek_from whence description) (λ from. Answer (sought fd description (moved from off)))

-- ftruncate and fstat (POSIX.1-2017, System Interfaces, ftruncate, fstat)

-- the file is cut to a length as by truncate. A descriptor that is not open for writing was EBADF
-- before; POSIX allows EINVAL too.
abbrev pub ftruncate_open : TreeLimits → ℤ → OpenFile → Looks Outcome
ftruncate_open limits len description = or_else failed (cut_file description.file) (to_size limits len)

-- the reply of stat for a file
abbrev pub fstat_open : OpenFile → Looks Outcome
fstat_open description = file_info Regular description.file
