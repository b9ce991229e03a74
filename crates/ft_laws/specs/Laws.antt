-- The laws that calls must meet. Everything else in this crate follows for any calls that meet
-- them. (Rules of this project. Those of files state what POSIX.1-2017 has in close and unlink: a
-- file is there as long as an entry or an open file description leads to it.)
use Rattle.std.specs.Prelude.{◌≡◌, ◌≢◌, Bool, true, false, Option, Some, None, ◌⊎◌}
use Rattle.ft_laws.specs.Calls.{Calls, Agree, Reverts}

-- a test of an option's value
abbrev pub holds : {A : Type 0} → (A → Bool) → Option A → Bool
holds p None = false
holds p (Some x) = p x

module _ (C : Calls) where
  -- The call does the same in both stores: it has the same accesses, the same reply, and the same
  -- values in the written cells after it.
  pub record Alike (s t : C.Store) (a : C.Call) : Type 0 where
    pub accesses : C.accesses t a ≡ C.accesses s a
    pub reply : C.reply t a ≡ C.reply s a
    pub written : (x : C.Cell) → C.changes (C.accesses s a) x ≡ true → C.cell (C.act t a) x ≡ C.cell (C.act s a) x

  -- Some cell of the file i is touched.
  abbrev pub TouchesFile : C.Accesses → C.File → Type 0
  TouchesFile f i = (x : C.Cell) × (C.file_of x ≡ Some i) × (C.touches f x ≡ true)

  -- Made in s, the call comes upon the file i: the file is its own, or a touched cell names it.
  abbrev pub Knows : C.Store → C.Call → C.File → Type 0
  Knows s a i = (C.own a ≡ i) ⊎ ((y : C.Cell) × (C.touches (C.accesses s a) y ≡ true) × (C.names y (C.cell s y) i ≡ true))

  -- Made in s, the call leaves the file's name in a cell that it writes.
  abbrev pub LeavesName : C.Store → C.Call → C.File → Type 0
  LeavesName s a i = (y : C.Cell) × (C.changes (C.accesses s a) y ≡ true) × (C.names y (C.cell (C.act s a) y) i ≡ true)

  -- The cell belongs to one of the hidden files.
  abbrev pub is_hidden : (C.File → Bool) → C.Cell → Bool
  is_hidden hidden x = holds hidden (C.file_of x)

  -- s is r without the hidden files: their cells are blank, and nothing that
  -- is stored names one of them.
  pub record Hides (hidden : C.File → Bool) (r s : C.Store) : Type 0 where
    pub others : (x : C.Cell) → is_hidden hidden x ≡ false → C.cell r x ≡ C.cell s x
    pub gone : (x : C.Cell) → is_hidden hidden x ≡ true → C.cell s x ≡ C.blank x
    pub unnamed : (x : C.Cell) (i : C.File) → hidden i ≡ true → C.names x (C.cell s x) i ≡ false

  -- The laws of each kind of call, among stores that are akin, as two that come from one beginning
  -- are.
  pub record LawfulAmong (Akin : C.Store → C.Store → Type 0) : Type 0 where
    -- A cell that is written is touched.
    pub changes_touch : (f : C.Accesses) (x : C.Cell) → C.changes f x ≡ true → C.touches f x ≡ true
    -- If there is no conflict, there is none the other way round, and neither touches what the
    -- other writes.
    pub conflict_sym : (f g : C.Accesses) → C.conflict f g ≡ false → C.conflict g f ≡ false
    pub apart : (f g : C.Accesses) (x : C.Cell) → C.conflict f g ≡ false → C.changes f x ≡ true → C.touches g x ≡ false
    -- The frame law: a call does the same in stores that agree on the cells that it touches in one
    -- of them.
    pub frame : (s t : C.Store) (a : C.Call) → C.IsSound s → C.IsSound t → C.IsReady a s → C.IsReady a t → Akin s t → Agree C (C.accesses s a) s t → Alike s t a
    -- Nothing else changes: a cell that a call does not write keeps its value.
    pub kept : (s : C.Store) (a : C.Call) → C.IsSound s → C.IsReady a s → (x : C.Cell) → C.changes (C.accesses s a) x ≡ false → C.cell (C.act s a) x ≡ C.cell s x
    -- A sound store stays sound.
    pub stays_sound : (s : C.Store) (a : C.Call) → C.IsSound s → C.IsReady a s → C.IsSound (C.act s a)
    -- Freshness: a call with another stamp may be made after the call.
    pub stays_ready : (s : C.Store) (a b : C.Call) → C.IsSound s → C.IsReady a s → C.IsReady b s → C.stamp a ≢ C.stamp b → C.IsReady b (C.act s a)
    -- The inverse law: a call's inverse reverts it.
    pub inverts : (s : C.Store) (a : C.Call) → C.IsSound s → C.IsReady a s → Reverts C s a (C.accesses s a) (C.inverse s a)
    -- A file's cells name no file.
    pub nameless : (x : C.Cell) (v : C.Value x) (i j : C.File) → C.file_of x ≡ Some i → C.names x v j ≡ false
    -- Before the call nothing is stored of its own file.
    pub own_blank : (s : C.Store) (a : C.Call) → C.IsSound s → C.IsReady a s → (x : C.Cell) → C.file_of x ≡ Some (C.own a) → C.cell s x ≡ C.blank x
    -- A call touches a file's cells only if it comes upon the file.
    pub comes_upon : (s : C.Store) (a : C.Call) → C.IsSound s → C.IsReady a s → (x : C.Cell) (i : C.File) → C.file_of x ≡ Some i → C.touches (C.accesses s a) x ≡ true → Knows s a i
    -- A call writes names only of files that it comes upon.
    pub names_known : (s : C.Store) (a : C.Call) → C.IsSound s → C.IsReady a s → (x : C.Cell) (i : C.File) → C.changes (C.accesses s a) x ≡ true → C.names x (C.cell (C.act s a) x) i ≡ true → Knows s a i
    -- A call that removes a file's name touches the file, unless it leaves the name in another
    -- cell, as a rename does.
    pub lets_go : (s : C.Store) (a : C.Call) → C.IsSound s → C.IsReady a s → (x : C.Cell) (i : C.File) → C.names x (C.cell s x) i ≡ true → C.names x (C.cell (C.act s a) x) i ≡ false
        → TouchesFile (C.accesses s a) i ⊎ LeavesName s a i
    -- A sound store without the hidden files is sound, and a call that may be made with them may be
    -- made without them.
    pub hides_sound : (hidden : C.File → Bool) (r s : C.Store) → Hides hidden r s → C.IsSound r → C.IsSound s
    pub hides_ready : (hidden : C.File → Bool) (r s : C.Store) (a : C.Call) → Hides hidden r s → C.IsReady a r → C.IsReady a s

  -- The laws for any two stores.
  abbrev pub Lawful : Type 0
  Lawful = LawfulAmong (λ s t. Unit {0})
