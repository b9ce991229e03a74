-- Hidden files: the files that a sweep has dropped, because nothing names them any more
-- (POSIX.1-2017, close and unlink: the space of such a file is freed, and it is no longer
-- accessible). The run of the calls still has them, but the store does not. (A rule of this
-- project: a file is dropped only if no undo needs it.)
use Rattle.std.specs.Prelude.{◌≡◌, ◌≢◌, Bool, true, false, ◌||◌, Some, List, ◌∷◌, ◌++◌}
use Rattle.ft_laws.specs.Lists.{Each}
use Rattle.ft_laws.specs.Calls.{Calls, Reverts, Done, Fits}
use Rattle.ft_laws.specs.Laws.{is_hidden, Hides}
use Rattle.ft_laws.specs.Runs.{run, Faithful, Able, Clear}

module _ (C : Calls) where
  -- The stores are equal in each cell that belongs to no hidden file.
  abbrev pub AgreeOff : (C.File → Bool) → C.Store → C.Store → Type 0
  AgreeOff hidden s t = (x : C.Cell) → is_hidden C hidden x ≡ false → C.cell s x ≡ C.cell t x

  -- The accesses touch no cell of a hidden file.
  abbrev pub Unseen : (C.File → Bool) → C.Accesses → Type 0
  Unseen hidden f = (x : C.Cell) → is_hidden C hidden x ≡ true → C.touches f x ≡ false

  -- Calls that touch nothing hidden run alike: in two stores that are equal elsewhere they do the
  -- same.
  abbrev pub RunAlike : Type 0
  RunAlike = (hidden : C.File → Bool) (s t : C.Store) (cs : List (Done C)) → Able C s cs → Able C t cs → AgreeOff hidden s t → Each (λ c. Unseen hidden c.accesses) cs → Faithful C s cs
      → Faithful C t cs × AgreeOff hidden (run C s cs) (run C t cs)

  -- A call whose own file is not hidden does the same in the run and in the store without the
  -- hidden files. It touches none of their cells, and they stay hidden.
  abbrev pub StaysHidden : Type 0
  StaysHidden = (hidden : C.File → Bool) (r s : C.Store) (c : Done C) → Hides C hidden r s → C.IsSound r → C.IsReady c.call r → hidden (C.own c.call) ≡ false → Fits C s c
      → Fits C r c × Unseen hidden c.accesses × Hides C hidden (C.act r c.call) (C.act s c.call)

  -- The inverse of a call that touches nothing hidden and conflicts with no later one is a
  -- deletion, even in a store without the hidden files. It may be put there, and brings none of
  -- their names back.
  abbrev pub UndoingHidden : Type 0
  UndoingHidden = (hidden : C.File → Bool) (s : C.Store) (xs : List (Done C)) (a : Done C) (ys : List (Done C)) (u : C.Inverse) (t : C.Store) → Able C s (xs ++ a ∷ ys) → Faithful C s (xs ++ a ∷ ys)
      → Clear C a ys → Unseen hidden a.accesses → Reverts C (run C s xs) a.call a.accesses u → Hides C hidden (run C s (xs ++ a ∷ ys)) t
      → Faithful C s (xs ++ ys) × C.MayRevert t u × Hides C hidden (run C s (xs ++ ys)) (C.revert t u)

  -- Files hidden from what is left are hidden from the whole: a sweep adds to the hidden files.
  abbrev pub HidesMore : Type 0
  HidesMore = (hidden more : C.File → Bool) (r s t : C.Store) → Hides C hidden r s → Hides C more s t → Hides C (λ i. hidden i || more i) r t

  -- A file that has something stored is not the own file of a later call.
  abbrev pub NotOwn : Type 0
  NotOwn = (s : C.Store) (a : C.Call) → C.IsSound s → C.IsReady a s → (x : C.Cell) (i : C.File) → C.file_of x ≡ Some i → C.cell s x ≢ C.blank x → C.own a ≢ i
