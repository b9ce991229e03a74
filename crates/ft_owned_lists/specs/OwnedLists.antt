-- Lists of values by their owners, and what the calls of `OwnedLists` do to them. (Rules of this
-- project.) What `Values` has left of a list is also seen as a list.
use Rattle.std.specs.Prelude.{ℕ, List, [], ◌∷◌, ◌++◌, IsSome}
use Rattle.std.specs.Option.{unwrap_or}
use Rattle.std.specs.Coded.{Coded, coded_ℕ, coded_list}
use Rattle.std.specs.Ordering.{nat_cmp}
use Rattle.std.specs.FinMap as finite

-- the list of each open owner, its newest value first
abbrev pub Lists : Type 0 → Type 0
Lists T = finite.FinMap nat_cmp (List T)

-- how such lists are coded, by the code of their values; no reader needs to know this
abbrev pub coded_lists : {T : Type 0} → Coded T → Coded (Lists T)
coded_lists code = finite.code coded_ℕ (coded_list code)

module _ {T : Type 0} where
  -- an owner's list; it is empty if the owner is not open
  abbrev pub list_in : Lists T → ℕ → List T
  list_in m owner = unwrap_or (finite.get m owner) []

  -- an owner has a list, which may be empty
  abbrev pub IsOpen : Lists T → ℕ → Type 0
  IsOpen m owner = IsSome (finite.get m owner)

  -- the newest value of this list, which is the source's, becomes the newest of the target's list;
  -- if the list is empty, nothing changes
  abbrev pub first_moved : Lists T → ℕ → ℕ → List T → Lists T
  first_moved m source target [] = m
  first_moved m source target (x ∷ xs) = finite.insert (finite.insert m source xs) target (x ∷ list_in m target)

  -- the newest value of the source's list becomes the newest of the target's; if there is none,
  -- nothing changes
  abbrev pub moved : Lists T → ℕ → ℕ → Lists T
  moved m source target = first_moved m source target (list_in m source)

  -- the source's whole list is put in front of the target's, and is empty afterwards
  abbrev pub spliced : Lists T → ℕ → ℕ → Lists T
  spliced m source target = finite.insert (finite.insert m source []) target (list_in m source ++ list_in m target)
