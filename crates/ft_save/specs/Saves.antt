-- The tree that a save makes.
use Rattle.std.specs.Prelude.{◌≡◌, ◌⊎◌, ℕ, List, Option, None, Some}
use Rattle.std.specs.Io.KnownBytes.{Consumes, IsAtEnd}
use Rattle.ft_copy.specs.declared.limits.CopyLimits.{CopyLimits}
use Rattle.ft_copy.specs.declared.copy_fault.CopyFault.{CopyFault}
use Rattle.ft_copy.specs.Asked.{Asked}
use Rattle.ft_copy.specs.Runs.{Copies, GivesUp}
use Rattle.ft_copy.specs.Stops.{StopsCopy}
use Rattle.ft_script.specs.declared.playing.PlayFault.{PlayFault}
use Rattle.ft_script.specs.declared.playing.PlayFault.TheVariants.{Memory, Read}
use Rattle.ft_save.specs.declared.row.Row.{Row}
use Rattle.ft_save.specs.declared.saving.SaveFault.{SaveFault}
use Rattle.ft_save.specs.declared.saving.SaveFault.TheVariants.{Replies, NoTree, CopyStop}
use Rattle.ft_save.specs.Reading.{tree_told}
use Rattle.ft_save.specs.Trees.{Tells}

-- The replies were read to their end, and these are the rows of the report with which they end.
abbrev pub IsLast : Option (List ℕ) → Option (List ℕ) → List Row → Type 0
IsLast left left_after rows = (bytes : List ℕ) × Consumes left left_after bytes × IsAtEnd left_after × (tree_told bytes ≡ Some rows)

-- The same, and the tree that they describe was copied.
abbrev pub Saves : {T : Type 0} → CopyLimits → Option (List ℕ) → Option (List ℕ) → (T → Asked → T → Type 0) → T → T → Type 0
Saves limits left left_after does old new = (rows : List Row) × IsLast left left_after rows × Copies limits (Tells rows) does old new

-- ---- faults

-- The replies could not be read to their end, or there was no memory for them.
abbrev pub IsUnread : PlayFault → Option (List ℕ) → Option (List ℕ) → Type 0
IsUnread fault left left_after = ((fault ≡ Memory) ⊎ (fault ≡ Read)) × ((bytes : List ℕ) × Consumes left left_after bytes)

-- The replies were read to their end, and do not end with a whole report.
abbrev pub HasNoTree : Option (List ℕ) → Option (List ℕ) → Type 0
HasNoTree left left_after = (bytes : List ℕ) × Consumes left left_after bytes × IsAtEnd left_after × (tree_told bytes ≡ None)

-- No report was found.
abbrev pub FindsNone : SaveFault → Option (List ℕ) → Option (List ℕ) → Type 0
FindsNone (Replies fault) left left_after = IsUnread fault left left_after
FindsNone NoTree left left_after = HasNoTree left left_after
FindsNone (CopyStop stopped) left left_after = ⊥

module _ {T : Type 0} (limits : CopyLimits) (does : T → Asked → T → Type 0) (fails : T → Asked → CopyFault → T → Type 0) where
  -- The tree that rows describe was not copied: there was no memory for it, or the copy stopped.
  abbrev pub StopsRows : SaveFault → List Row → T → T → Type 0
  StopsRows (Replies fault) rows old new = (fault ≡ Memory) × (new ≡ old)
  StopsRows NoTree rows old new = ⊥
  StopsRows (CopyStop stopped) rows old new = StopsCopy limits (Tells rows) does fails stopped old new

  -- Nothing was saved: no report was found, and the target was asked for nothing; or the tree that
  -- it describes was not copied.
  abbrev pub StopsSave : SaveFault → Option (List ℕ) → Option (List ℕ) → T → T → Type 0
  StopsSave fault left left_after old new =
      (FindsNone fault left left_after × (new ≡ old)) ⊎ ((rows : List Row) × IsLast left left_after rows × StopsRows fault rows old new)

module _ {T : Type 0} (does : T → Asked → T → Type 0) (fails : T → Asked → CopyFault → T → Type 0) where
  -- The target was asked for nothing; or it did some things, has not finished, and has given up.
  abbrev pub IsLeft : T → T → Type 0
  IsLeft old new = (new ≡ old) ⊎ GivesUp does fails old new
