use Rattle.std.proofs.Common.{◌∙◌}
use Rattle.ft_path.proofs.Compared.{short_cmp}
use Rattle.ft_path.proofs.bytes.Bytes.order.Goals as goal

pub returns-in-Short-Short : goal.returns-in-Short-Short
returns-in-Short-Short c =
    c.order.ensures
    ∙ short_cmp c.in-Short-Short.is-0 c.in-Short-Short.is-1 c.requires.fits c.requires.other_fits c.requires.nul_free c.requires.other_nul_free
