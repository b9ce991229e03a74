use Rattle.std.proofs.Common.{◌≡◌, false, filter, ◌++◌}
use Rattle.std.specs.List.{list_any, AllByRecursion}
use Rattle.ft_path.specs.FilePath.{components, is_component, is_long}
use Rattle.ft_path.proofs.Pieces.{IsPlain}
use Rattle.ft_path.proofs.path.component_names.Given as goal

-- the names so far and the components left are all; those left can be names
abbrev pub invariant-loop-piece : goal.invariant-loop-piece
invariant-loop-piece l = record {
  told : l.names ++ filter is_component l.piece-iterator ≡ components l.fn.bytes;
  short : list_any is_long (filter is_component l.piece-iterator) ≡ false;
  plain : AllByRecursion IsPlain l.piece-iterator;
}
