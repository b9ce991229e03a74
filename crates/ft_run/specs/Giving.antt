-- The files of the disk that are given what the `get`s of a plan got. (The rules are this project's
-- own: docs/SCRIPT.md, Plans.)
use Rattle.std.specs.Prelude.{◌≡◌, ◌&&◌, Bool, true, false, ℕ, List, [], ◌∷◌, Option, None, Some}
use Rattle.ft_transfer.specs.Disk.{FileTold, Writes, Fails}
use Rattle.ft_plan_files.specs.declared.places.GetPlace.{GetPlace}
use Rattle.ft_run.specs.FaultLines.{TellsLine, unwritten_line}

module _ (tells : FileTold → Type 0) where
  -- A file of the disk gets the bytes of a `get`, if it got any; or it could not be written, and this
  -- is told. What was told before and after is given last.
  abbrev pub GivesOne : GetPlace → Option (List ℕ) → Bool → Option (List ℕ) → Option (List ℕ) → Type 0
  GivesOne get None given before after = (given ≡ true) × (after ≡ before)
  GivesOne get (Some bytes) true before after = tells (Writes get.file bytes) × (after ≡ before)
  GivesOne get (Some bytes) false before after = tells (Fails get.file) × TellsLine before after (unwritten_line get.file)

  -- each file, in order; all were given what they were to get, or one could not be written
  abbrev pub GivesAll : List (GetPlace × Option (List ℕ)) → Bool → Option (List ℕ) → Option (List ℕ) → Type 0
  GivesAll [] given before after = (given ≡ true) × (after ≡ before)
  GivesAll (get ∷ gets) given before after =
      (first : Bool) × (others : Bool) × (between : Option (List ℕ)) × GivesOne get.0 get.1 first before between × GivesAll gets others between after × (given ≡ (first && others))
