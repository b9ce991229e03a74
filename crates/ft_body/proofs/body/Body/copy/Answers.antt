use Rattle.std.proofs.Common.{◌≡◌, ◌∙◌, [], sym, ap, length, arith}
use Rattle.ft_body.proofs.Blocked.{length-bytes_of, empty_blocks}
use Rattle.ft_body.proofs.body.Body.copy.Goals as goal

pub returns-in_err-blocks-clause-nothing : goal.returns-in_err-blocks-clause-nothing
returns-in_err-blocks-clause-nothing c = λ e.
    let size : c.self.inside.size ≡ 0 = sym (length-bytes_of c.self.inside.size c.self.inside.blocks.items) ∙ ap length (c.self.view_is ∙ e) in
    let none : c.self.inside.blocks.items ≡ [] = empty_blocks c.self.inside.size c.self.inside.blocks.items c.self.invariant size in
    let never = c.in_err-blocks.ensures.nothing (ap length (c.deref.ensures.value ∙ none)) in absurd (grind (arith, never))
