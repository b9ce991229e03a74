-- The owners that have locks on one cell, and their locks.
use Rattle.std.specs.Prelude.{◌≡◌, ℕ, List, [], ◌∷◌, map, ◌<◌, length, get_or, position, ◌==◌, Option, Some, None, unwrap_or, true, false, drop, slice_set, ◌+◌, refl}
use Rattle.std.specs.Ordering.{nat_cmp}
use Rattle.std.specs.Coded.{Coded, code_by, coded×, coded_ℕ}
use Rattle.std.specs.List.{list_any}
use Rattle.std.specs.FinMap as finite
use Rattle.ft_lock_rules.specs.declared.lock_modes.LockModes.{LockModes}
use Rattle.ft_lock_rules.specs.contracts.lock_modes.LockModes as marks
use Rattle.ft_posix.specs.declared.call.Mode.{Mode}
use Rattle.ft_posix.specs.declared.call.Mode.TheVariants.{Read as ReadMode}
use Rattle.ft_lock_rules.specs.LockModes.{no_marks, with_marks, conflicts_with}
use Rattle.ft_lock_rules.specs.declared.cell_locks.OwnerLocks.{OwnerLocks}

-- the locks of each owner that has a place there
abbrev pub Owners : Type 0
Owners = finite.FinMap nat_cmp LockModes

-- a code of them, which a model needs
abbrev pub coded_owners : Coded Owners
coded_owners = finite.code coded_ℕ marks.the_row.coded

-- one owner with its locks, and no other owner
abbrev pub alone : OwnerLocks → Owners
alone h = finite.insert finite.empty h.owner h.marks

-- the list as owners with their locks
abbrev pub as_entries : List OwnerLocks → List (ℕ × LockModes)
as_entries list = map (λ h. (h.owner, h.marks)) list

-- the locks of an owner in a list
abbrev pub marks_in : List OwnerLocks → ℕ → Option LockModes
marks_in list owner = finite.find nat_cmp owner (as_entries list)

-- the place of an owner in a list
abbrev pub place_in : List OwnerLocks → ℕ → Option ℕ
place_in list owner = position (λ h. h.owner == owner) list

-- the owner is at this place of the list
pub record IsPlaceOf (list : List OwnerLocks) (place owner : ℕ) : Type 0 where
  pub within : place < length list
  pub owned : (d : OwnerLocks) → (get_or list place d).owner ≡ owner

-- no owner is in the list twice
abbrev pub AreApart : List OwnerLocks → Type 0
AreApart [] = Unit {0}
AreApart (h ∷ more) = (marks_in more h.owner ≡ None) × AreApart more

-- each owner whose locks conflict with an access in this mode is in the list with its locks
abbrev pub HasConflicting : Owners → List OwnerLocks → Mode → Type 0
HasConflicting owners list mode = (u : ℕ) (marks : LockModes) → finite.get owners u ≡ Some marks → conflicts_with marks mode ≡ true → marks_in list u ≡ Some marks

-- the owners after one adds more locks to its own, if it has a place
abbrev pub marked_at : Owners → ℕ → LockModes → Option LockModes → Owners
marked_at owners owner marks None = owners
marked_at owners owner marks (Some own) = finite.insert owners owner (with_marks own marks)

-- the owners after one that has a place adds these locks to its own
abbrev pub marked : Owners → ℕ → LockModes → Owners
marked owners owner marks = marked_at owners owner marks (finite.get owners owner)

-- the owners after one gives its place to another, which keeps its own locks and gets these
abbrev pub handed : Owners → ℕ → ℕ → LockModes → Owners
handed owners from to marks = finite.insert (finite.remove owners from) to (with_marks (unwrap_or (finite.get owners to) no_marks) marks)

-- the places of owners in a list, by their numbers
abbrev pub Places : Type 0
Places = finite.FinMap nat_cmp ℕ

-- what is kept for a list: the place of each owner, and a place after which none may write
pub record Indexed : Type 0 where
  pub places : Places
  pub last_writer : ℕ

-- a code of it, which a model needs
abbrev pub coded_indexed : Coded Indexed
coded_indexed = code_by (Places × ℕ) (coded× (finite.code coded_ℕ coded_ℕ) coded_ℕ) (λ k. (k.places, k.last_writer)) (λ p. record { places = p.0; last_writer = p.1 }) (λ _. refl)

-- each owner in the list has its place here, and no other owner has one
pub record AreFound (t : Places) (list : List OwnerLocks) : Type 0 where
  pub there : (u i : ℕ) → finite.get t u ≡ Some i → IsPlaceOf list i u
  pub missing : (u : ℕ) → finite.get t u ≡ None → marks_in list u ≡ None

-- from this place on, no owner in the list conflicts with a read
abbrev pub ReadFrom : ℕ → List OwnerLocks → Type 0
ReadFrom place list = list_any (λ h. conflicts_with h.marks ReadMode) (drop place list) ≡ false

-- it is the index of this list
pub record IsIndexOf (x : Indexed) (list : List OwnerLocks) : Type 0 where
  pub found : AreFound x.places list
  pub readers : ReadFrom (x.last_writer + 1) list

-- it is the index of this list, if there is an index
abbrev pub IsIndexIf : Option Indexed → List OwnerLocks → Type 0
IsIndexIf None list = Unit {0}
IsIndexIf (Some x) list = IsIndexOf x list

-- the index of a list becomes the index of the list in which the owner at a place has these locks
abbrev pub FollowsMarks : Option Indexed → Option Indexed → ℕ → LockModes → Type 0
FollowsMarks old new place marks =
    (list : List OwnerLocks) (owner : ℕ) → AreApart list → IsPlaceOf list place owner → IsIndexIf old list → IsIndexIf new (slice_set list place (record { owner = owner; marks = marks }))

-- the index of a list becomes the index of the list in which an owner at a place has given it to
-- one that had none
abbrev pub FollowsMove : Option Indexed → Option Indexed → ℕ → ℕ → OwnerLocks → Type 0
FollowsMove old new place from to =
    (list : List OwnerLocks) → AreApart list → IsPlaceOf list place from → marks_in list to.owner ≡ None → IsIndexIf old list → IsIndexIf new (slice_set list place to)
