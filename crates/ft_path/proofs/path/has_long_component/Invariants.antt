use Rattle.std.proofs.Common.{◌≡◌, filter}
use Rattle.std.specs.List.{list_any}
use Rattle.ft_path.specs.FilePath.{components, is_component, is_long}
use Rattle.ft_path.proofs.path.has_long_component.Given as goal

-- if there is a long component, it is among those left
abbrev pub invariant-loop-piece : goal.invariant-loop-piece
invariant-loop-piece l = list_any is_long (filter is_component l.piece-iterator) ≡ list_any is_long (components l.fn.bytes)
