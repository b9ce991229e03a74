-- The steps to a tree that was read are those to the tree of its rows.
use Rattle.std.proofs.Common.{List, sym, subst}
use Rattle.ft_copy.specs.declared.limits.CopyLimits.{CopyLimits}
use Rattle.ft_copy.specs.Told.{Told}
use Rattle.ft_copy.proofs.Telling.{copies}
use Rattle.ft_into.specs.declared.step.Step.{Step}
use Rattle.ft_into.specs.declared.wishes.Wishes.{Wishes}
use Rattle.ft_into.specs.Compares.{Compares, ComparesTree}
use Rattle.ft_into.specs.Knows.{fresh}
use Rattle.ft_save.specs.declared.reported.Reported.{Reported}
use Rattle.ft_save.specs.declared.row.Row.{Row}
use Rattle.ft_save.specs.declared.saving.SavedTree.{SavedTree}
use Rattle.ft_save.specs.Sources.{IsSourceOf, IsTreeOf}
use Rattle.ft_save.specs.Trees.{Indexes, Tells}

-- what the source of a tree reports, by its rows
abbrev pub TellsAll : Reported → Told → Type 0
TellsAll source told = (all : List Row) → Indexes source.index.now all → Tells all told

pub compared : (disk : Told → Type 0) (wishes : Wishes) (limits : CopyLimits) (rows : List Row) (tree : SavedTree) (source : Reported) (steps : List Step) → IsTreeOf rows tree → IsSourceOf tree source
    → ComparesTree disk wishes limits (TellsAll source) steps → ComparesTree disk wishes limits (Tells rows) steps
compared disk wishes limits rows tree source steps of is h =
    (h.0, h.1, copies limits (TellsAll source) (Tells rows) (λ told tells. tells rows (subst (λ index. Indexes index rows) (sym is) of)) (Compares disk wishes) fresh h.0 h.2)
