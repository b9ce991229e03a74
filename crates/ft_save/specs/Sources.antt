-- A tree that was read, and its source.
use Rattle.std.specs.Prelude.{◌≡◌, List}
use Rattle.ft_save.specs.declared.reported.Reported.{Reported}
use Rattle.ft_save.specs.declared.row.Row.{Row}
use Rattle.ft_save.specs.declared.saving.SavedTree.{SavedTree}
use Rattle.ft_save.specs.Trees.{Indexes}

-- these rows describe the tree
abbrev pub IsTreeOf : List Row → SavedTree → Type 0
IsTreeOf rows tree = Indexes tree.index rows

-- the source reports this tree
abbrev pub IsSourceOf : SavedTree → Reported → Type 0
IsSourceOf tree source = source.index.now ≡ tree.index
