use Rattle.std.proofs.Common.{◌≡◌, ◌<◌, ◌∙◌, ◌+◌, ap, length, arith}
use Prim.Native.Nat.{max}
use Rattle.std.proofs.lemmas.Grind.{common_steps}
use Rattle.ft_body.specs.Bytes.{written}
use Rattle.ft_body.proofs.Paged.{written_paged, written_bytes}
use Rattle.ft_body.proofs.block.Block.write_at.Goals as goal

pub returns-clause-after : goal.returns-clause-after
returns-clause-after c =
    let some : 0 < length c.args.bytes.now = grind (arith, common_steps) in
    let is : c.max-self-inside.result ≡ max c.self.inside.size (c.args.offset + length c.args.bytes.now) = omega arith in
    written_bytes c.self.inside.size c.max-self-inside.result c.args.offset c.self.inside.pages.items c.write.new.pages.items c.args.bytes.now c.self.invariant
    (written_paged c.self.inside.size c.max-self-inside.result c.args.offset c.self.inside.pages.items c.write.new.pages.items c.args.bytes.now c.self.invariant
    some c.requires is (grind (arith, common_steps)) c.in_ok-lost.ensures.pages c.in_ok-lost.ensures.after)
    some is c.in_ok-lost.ensures.after ∙ ap (λ xs. written xs c.args.offset c.args.bytes.now) c.self.view_is
