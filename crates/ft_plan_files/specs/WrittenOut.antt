-- A plan in which steps stand in place of the lines that carry files of the disk. (The format is this
-- project's own: docs/SCRIPT.md, Plans.)
use Rattle.std.specs.Prelude.{◌≡◌, ℕ, List, [], ◌∷◌, ◌++◌, MatchOption}
use Rattle.std.specs.List.{join_with_byte}
use Rattle.ft_transfer.specs.declared.transfer.Direction.{Direction}
use Rattle.ft_transfer.specs.declared.transfer.Direction.TheVariants.{Put, Get}
use Rattle.ft_transfer.specs.Disk.{FileTold, Reads, Fails}
use Rattle.ft_plan_names.specs.Numbers.{all_lines, line_end}
use Rattle.ft_plan_files.specs.declared.file_line.FileLine.{FileLine}
use Rattle.ft_plan_files.specs.FileLines.{file_line_of, get_text, put_text}

module _ (tells : FileTold → Type 0) where
  -- the steps of a line in this direction; a `put` has the bytes that its file had when it was read
  abbrev pub AreStepsTo : Direction → FileLine → List ℕ → Type 0
  AreStepsTo Put line text = (bytes : List ℕ) × tells (Reads line.file bytes) × (text ≡ put_text line.tried line.path bytes)
  AreStepsTo Get line text = text ≡ get_text line.tried line.path

  -- the steps for which a line that carries a file stands
  abbrev pub AreStepsOf : FileLine → List ℕ → Type 0
  AreStepsOf line text = AreStepsTo line.direction line text

  -- Its steps stand in place of a line that carries a file, with the carriage return that ends it, if
  -- one does. Any other line stays, byte for byte.
  abbrev pub IsWrittenLine : List ℕ → List ℕ → Type 0
  IsWrittenLine line text =
      MatchOption (file_line_of line) (text ≡ line) (λ carrying. (steps : List ℕ) × AreStepsOf carrying steps × (text ≡ steps ++ line_end line))

  -- lines, one after another
  abbrev pub AreWrittenLines : List (List ℕ) → List (List ℕ) → Type 0
  AreWrittenLines [] [] = Unit {0}
  AreWrittenLines [] (text ∷ texts) = ⊥
  AreWrittenLines (line ∷ lines) [] = ⊥
  AreWrittenLines (line ∷ lines) (text ∷ texts) = IsWrittenLine line text × AreWrittenLines lines texts

  -- a plan, line for line
  abbrev pub IsWrittenOut : List ℕ → List ℕ → Type 0
  IsWrittenOut text made = (texts : List (List ℕ)) × AreWrittenLines (all_lines text) texts × (made ≡ join_with_byte 10 texts)

  -- The file that a line puts could not be read.
  abbrev pub IsUnreadable : List ℕ → Type 0
  IsUnreadable line = MatchOption (file_line_of line) ⊥ (λ carrying. (carrying.direction ≡ Put) × tells (Fails carrying.file))

  -- This is so of one of the lines, and the lines before it were written out.
  abbrev pub IsNotWrittenOut : List ℕ → Type 0
  IsNotWrittenOut text =
      (before : List (List ℕ)) × (line : List ℕ) × (others : List (List ℕ)) × (texts : List (List ℕ))
      × (all_lines text ≡ before ++ line ∷ others) × AreWrittenLines before texts × IsUnreadable line
