-- Tidying: a file that nothing names any more is dead, and what is stored of it may be removed
-- (POSIX.1-2017, close and unlink: the space is freed and the file is no longer accessible).
use Rattle.std.specs.Prelude.{◌≡◌, ◌≢◌, Bool, true, false, Some, List, [], ◌∷◌, ◌⊎◌}
use Rattle.ft_laws.specs.Calls.{Calls, Same, Done, Fits}
use Rattle.ft_laws.specs.Laws.{Hides}
use Rattle.ft_laws.specs.Runs.{run, Faithful, Able}

module _ (C : Calls) where
  -- Something is stored of the file.
  abbrev pub IsStored : C.Store → C.File → Type 0
  IsStored s i = (x : C.Cell) × (C.file_of x ≡ Some i) × (C.cell s x ≢ C.blank x)

  -- Nothing is stored of the file.
  abbrev pub IsBlank : C.Store → C.File → Type 0
  IsBlank s i = (x : C.Cell) → C.file_of x ≡ Some i → C.cell s x ≡ C.blank x

  -- Something that is stored names the file.
  abbrev pub IsNamed : C.Store → C.File → Type 0
  IsNamed s i = (x : C.Cell) × (C.names x (C.cell s x) i ≡ true)

  -- The dead files of a sound store are those that are stored and that nothing names. Tidying
  -- removes them.
  pub record IsTidying (tidy : C.Store → C.Store) (dead : C.Store → C.File → Bool) : Type 0 where
    pub hides : (s : C.Store) → C.IsSound s → Hides C (dead s) s (tidy s)
    pub stored : (s : C.Store) (i : C.File) → C.IsSound s → dead s i ≡ true → IsStored s i
    pub others : (s : C.Store) (i : C.File) → C.IsSound s → dead s i ≡ false → IsBlank s i ⊎ IsNamed s i

  module _ (tidy : C.Store → C.Store) where
    -- the store after the calls, tidied after each
    abbrev pub tidied : C.Store → List (Done C) → C.Store
    tidied s [] = s
    tidied s (c ∷ cs) = tidied (tidy (C.act s c.call)) cs

    -- Each call, made in its turn, has the accesses and the reply that are kept of it, if the store
    -- is tidied after each.
    abbrev pub TidiedFaithful : C.Store → List (Done C) → Type 0
    TidiedFaithful s [] = Unit {0}
    TidiedFaithful s (c ∷ cs) = Fits C s c × TidiedFaithful (tidy (C.act s c.call)) cs

  -- The tidying law: tidying after each call, or once at the end, gives the same store and the same
  -- replies.
  abbrev pub TidyingLaw : Type 0
  TidyingLaw = (tidy : C.Store → C.Store) (dead : C.Store → C.File → Bool) → IsTidying tidy dead → (s : C.Store) (cs : List (Done C)) → Able C s cs → Faithful C s cs
      → TidiedFaithful tidy s cs × Same C (tidy (run C s cs)) (tidy (tidied tidy s cs))
