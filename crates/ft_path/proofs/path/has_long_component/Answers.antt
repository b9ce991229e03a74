use Rattle.std.proofs.Common.{ap, sym, arith, filter, ◌∙◌}
use Rattle.ft_path.proofs.Pieces.{none_long}
use Rattle.std.specs.List.{list_any}
use Rattle.ft_path.specs.FilePath.{is_component, is_long}
use Rattle.ft_path.proofs.path.has_long_component.Goals as goal

pub loop-piece-init : goal.loop-piece-init
loop-piece-init c =
    ap (λ ps. list_any is_long (filter is_component ps))
    (c.into_iter-piece-iterator.ensures.into_iter_gives ∙ c.of-piece-items.ensures)

-- a short text has no long component
pub returns-then-bytes-le-LONGEST_NAME : goal.returns-then-bytes-le-LONGEST_NAME
returns-then-bytes-le-LONGEST_NAME c = sym (none_long _ c.args.bytes.now (omega (arith, c.if-bytes-le-LONGEST_NAME.true)))
