use Rattle.std.proofs.Common.{◌≡◌, ◌∙◌, ap, length, rules}
use Rattle.std.specs.Prelude.{count_by, nat_lt}
use Rattle.ft_body.specs.Paging.{made_pages}
use Rattle.ft_body.proofs.Made.{kept_pages}
use Rattle.ft_body.proofs.block.Block.pages.Goals as goal

pub returns : goal.returns
returns c =
    let counted : c.count.result ≡ count_by (λ page. nat_lt 0 (length page)) c.self.inside.pages.items = search rules in
    counted ∙ kept_pages c.self.inside.size c.self.inside.pages.items c.self.invariant ∙ ap made_pages c.self.view_is
