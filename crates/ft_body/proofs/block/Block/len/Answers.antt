use Rattle.std.proofs.Common.{◌∙◌, sym, ap, length}
use Rattle.ft_body.proofs.Paged.{length-bytes_in}
use Rattle.ft_body.proofs.block.Block.len.Goals as goal

pub returns-clause-count : goal.returns-clause-count
returns-clause-count c = sym (length-bytes_in c.self.inside.size c.self.inside.pages.items) ∙ ap length c.self.view_is
