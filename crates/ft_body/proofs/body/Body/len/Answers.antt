use Rattle.std.proofs.Common.{◌∙◌, sym, ap, length}
use Rattle.ft_body.proofs.Blocked.{length-bytes_of}
use Rattle.ft_body.proofs.body.Body.len.Goals as goal

pub returns-clause-count : goal.returns-clause-count
returns-clause-count c = sym (length-bytes_of c.self.inside.size c.self.inside.blocks.items) ∙ ap length c.self.view_is
