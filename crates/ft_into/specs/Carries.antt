-- How steps are carried out.
use Rattle.std.specs.Prelude.{◌≡◌, ◌⊎◌, Bool, true, false, List, [], ◌∷◌, ◌++◌, map, if◌then◌else◌}
use Rattle.std.specs.List.{All, flat_map}
use Rattle.ft_copy.specs.declared.limits.CopyLimits.{CopyLimits}
use Rattle.ft_copy.specs.Asked.{Asked}
use Rattle.ft_copy.specs.Asked as asks
use Rattle.ft_copy.specs.Told.{Told}
use Rattle.ft_copy.specs.Runs.{Copies}
use Rattle.ft_into.specs.declared.step.Act.{Act}
use Rattle.ft_into.specs.declared.step.Act.TheVariants as acts
use Rattle.ft_into.specs.declared.step.Step.{Step}
use Rattle.ft_into.specs.Makes.{Making, Folder, Open, Piece, Close, Link, Symlink, Remove, Finish, GiveUp, MakesAll, steps_of}

-- How far steps were carried out: the maker, the steps that are left, and whether the file is made
-- that is open.
pub record Carrying (M : Type 0) : Type 0 where
  pub maker : M
  pub rest : List Step
  pub is_open : Bool

-- a step removes something
abbrev pub IsRemoving : Step → Type 0
IsRemoving step = step.act ≡ acts.Remove

-- each of these does
abbrev pub AreRemovals : List Step → Type 0
AreRemovals removed = All IsRemoving removed

-- what such a step comes to
abbrev pub removing : Step → Making
removing step = Remove step.thing step.path

-- What is made of something that the tree has, where a step names it. The bytes and the time of a
-- file are made where the file is.
abbrev pub making : Act → Asked → List Making
making act asks.Start = []
making act (asks.Folder path attributes) = Folder act path attributes ∷ []
making act (asks.Open path attributes) = Open act path attributes ∷ []
making act (asks.Piece bytes) = Piece bytes ∷ []
making act (asks.Close time) = Close time ∷ []
making act (asks.Link first path) = Link act first path ∷ []
making act (asks.Symlink to path) = Symlink act to path ∷ []
making act (asks.Finish attributes) = Folder act [] attributes ∷ []
making act asks.GiveUp = []

-- what is made at the end
abbrev pub ending : Asked → List Making
ending (asks.Finish attributes) = Finish ∷ []
ending asks.GiveUp = GiveUp ∷ []
ending other = []

-- it is made, or it is left as it is
abbrev pub IsMadeOf : Asked → List Making → Type 0
IsMadeOf asked made = (made ≡ []) ⊎ ((act : Act) × (made ≡ making act asked))

-- whether the file is made that is open behind it
abbrev pub IsOpenAfter : Asked → Bool → List Making → Bool → Type 0
IsOpenAfter (asks.Open path attributes) old own new = (new ≡ false) × (own ≡ []) ⊎ (new ≡ true) × ((act : Act) × (own ≡ Open act path attributes ∷ []))
IsOpenAfter (asks.Piece bytes) old own new = (new ≡ old) × (own ≡ (if old then Piece bytes ∷ [] else []))
IsOpenAfter (asks.Close time) old own new = (new ≡ false) × (own ≡ (if old then Close time ∷ [] else []))
IsOpenAfter other old own new = new ≡ old

-- no step is left at the end
abbrev pub IsDone : Asked → List Step → Type 0
IsDone (asks.Finish attributes) rest = rest ≡ []
IsDone other rest = Unit {0}

module _ {M : Type 0} (does : M → Making → M → Type 0) where
  -- Steps that remove something were carried out, and then what is asked for was made, or left as it
  -- is. Just the steps of that were taken from those that were left.
  pub record Carries (old : Carrying M) (asked : Asked) (new : Carrying M) : Type 0 where
    pub removed : List Step
    pub own : List Making
    pub is_own : IsMadeOf asked own
    pub did : MakesAll does old.maker (map removing removed ++ (own ++ ending asked)) new.maker
    pub taken : old.rest ≡ flat_map steps_of (map removing removed ++ (own ++ ending asked)) ++ new.rest
    pub opened : IsOpenAfter asked old.is_open own new.is_open
    pub done : IsDone asked new.rest

  -- The maker was asked for something, and did it; and the steps of that are just these.
  abbrev pub CarriesOut : List Step → M → M → Type 0
  CarriesOut steps old new = (made : List Making) × MakesAll does old made new × (flat_map steps_of made ≡ steps)

  -- What was made is what the tree has that a source tells of, and removals.
  abbrev pub CarriesTree : CopyLimits → (Told → Type 0) → List Step → M → M → Type 0
  CarriesTree limits tells steps old new =
      (last : Carrying M) × (last.maker ≡ new) × Copies limits tells Carries (record { maker = old; rest = steps; is_open = false }) last
