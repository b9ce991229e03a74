use Rattle.std.proofs.Common.{◌∙◌, ◌+◌, ◌++◌, ap, take, drop, arith}
use Rattle.std.proofs.lemmas.Result.{on_ok_weaker}
use Rattle.ft_body.specs.Paging.{byte_in}
use Rattle.ft_body.proofs.Paged.{read_bytes}
use Rattle.ft_body.proofs.block.Block.read_at.Goals as goal

pub returns : goal.returns
returns c =
    on_ok_weaker c.read.result (λ r.
    r.1 ∙ ap (λ zs. c.args.read.now.items ++ zs)
    (read_bytes c.self.inside.size c.args.offset c.args.count c.min-start.result c.min-count.result c.self.inside.pages.items r.0 c.self.invariant c.min-start.ensures c.min-count.ensures r.2
    (λ k h. r.3 k (omega (arith, r.2, h)) ∙ ap (λ pages. byte_in pages (c.min-start.result + k)) c.deref.ensures.value)
    ∙ ap (λ xs. take c.args.count (drop c.args.offset xs)) c.self.view_is))
    c.read.ensures
