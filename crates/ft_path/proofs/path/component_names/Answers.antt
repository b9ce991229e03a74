use Rattle.std.proofs.Common.{◌≡◌, ◌++◌, ap, sym, subst, filter, ◌∙◌}
use Rattle.std.specs.Prelude.{◌==◌}
use Rattle.std.specs.List.{slice_split, list_any, AllByRecursion}
use Rattle.ft_path.specs.Name.{slash}
use Rattle.ft_path.specs.FilePath.{is_component, is_long}
use Rattle.ft_path.proofs.Pieces.{IsPlain, pieces_plain}
use Rattle.ft_path.proofs.path.component_names.Goals as goal

pub loop-piece-init : goal.loop-piece-init
loop-piece-init c =
    let pieces : c.into_iter-piece-iterator.result ≡ slice_split (λ b. b == slash) c.args.bytes.now =
    c.into_iter-piece-iterator.ensures.into_iter_gives ∙ c.of-piece-items.ensures in
    record {
      told = λ i. c.new-names.ensures i ++ filter is_component (pieces i);
      short = ap (λ ps. list_any is_long (filter is_component ps)) pieces ∙ c.requires.short;
      plain = subst (AllByRecursion IsPlain) (sym pieces) (pieces_plain c.args.bytes.now c.requires.nul_free);
    }
