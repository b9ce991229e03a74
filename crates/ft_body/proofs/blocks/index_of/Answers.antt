use Rattle.std.proofs.Common.{◌∙◌, ap, arith}
use Rattle.std.proofs.lemmas.List.{get_or_default}
use Rattle.ft_body.specs.Blocks.{no_block}
use Rattle.ft_body.proofs.BlockLists.{place_free}
use Rattle.ft_body.proofs.blocks.index_of.Goals as goal
use Rattle.ft_body.proofs.blocks.index_of.Goals.{else-index-blocks-via-then-index-blocks+else-blocks-index, else-index-blocks-via-else-index-blocks}

pub returns-else-index-blocks-clause-absent : goal.returns-else-index-blocks-clause-absent
returns-else-index-blocks-clause-absent c =
    place_free c.args.blocks.now c.args.at c.place_of-index.result c.requires c.place_of-index.ensures (λ h e. elim c.else-index-blocks.branch [
      | else-index-blocks-via-then-index-blocks+else-blocks-index w ↦
          w.if-blocks-index.false (ap (λ p. p.at) (get_or_default c.args.blocks.now c.place_of-index.result w.index-blocks-index.result no_block h) ∙ e)
      | else-index-blocks-via-else-index-blocks w ↦ omega arith
    ])
