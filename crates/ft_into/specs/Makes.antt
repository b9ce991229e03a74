-- What a maker is asked for, one thing after another.
use Rattle.std.specs.Prelude.{◌≡◌, ℕ, List, [], ◌∷◌, Option}
use Rattle.ft_cells.specs.declared.attributes.Attributes.{Attributes}
use Rattle.ft_cells.specs.declared.attributes.Timestamp.{Timestamp}
use Rattle.ft_into.specs.declared.step.Act.{Act}
use Rattle.ft_into.specs.declared.step.Act.TheVariants as acts
use Rattle.ft_into.specs.declared.step.Step.{Step}
use Rattle.ft_into.specs.declared.step.Thing.{Thing}
use Rattle.ft_into.specs.declared.step.Thing.TheVariants as things

-- One thing that a maker is asked for: a directory with attributes, to be made or to be given them; a
-- file with attributes that is open; bytes behind those of the open file; to close it, with the time
-- of its bytes, if there is one; a further name of a file or of a symbolic link; a symbolic link that
-- leads somewhere; to remove something; to finish; to give up.
pub data Making : Type 0 where
  Folder : (act : Act) → (path : List ℕ) → (attributes : Attributes) → Making
  Open : (act : Act) → (path : List ℕ) → (attributes : Attributes) → Making
  Piece : (bytes : List ℕ) → Making
  Close : (time : Option Timestamp) → Making
  Link : (act : Act) → (first : List ℕ) → (path : List ℕ) → Making
  Symlink : (act : Act) → (to : List ℕ) → (path : List ℕ) → Making
  Remove : (thing : Thing) → (path : List ℕ) → Making
  Finish : Making
  GiveUp : Making

-- the step that it is, if it is one
abbrev pub steps_of : Making → List Step
steps_of (Folder act path attributes) = record { act = act; thing = things.Folder; path = path } ∷ []
steps_of (Open act path attributes) = record { act = act; thing = things.File; path = path } ∷ []
steps_of (Piece bytes) = []
steps_of (Close time) = []
steps_of (Link act first path) = record { act = act; thing = things.Link; path = path } ∷ []
steps_of (Symlink act to path) = record { act = act; thing = things.Symlink; path = path } ∷ []
steps_of (Remove thing path) = record { act = acts.Remove; thing = thing; path = path } ∷ []
steps_of Finish = []
steps_of GiveUp = []

module _ {M : Type 0} (does : M → Making → M → Type 0) where
  -- the maker did all of this, from one state to the next
  abbrev pub MakesAll : M → List Making → M → Type 0
  MakesAll old [] new = new ≡ old
  MakesAll old (first ∷ more) new = (middle : M) × does old first middle × MakesAll middle more new
