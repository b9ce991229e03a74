use Rattle.std.proofs.Common.{◌≡◌, ◌++◌, ◌≤◌, List, ℕ, ◌∙◌, arith, length, take}
use Rattle.std.proofs.lemmas.List.{places}
use Rattle.std.proofs.lemmas.Grind.{common_steps}
use Rattle.ft_body.proofs.PageWrites.{front-at}
use Rattle.ft_body.proofs.page.shorten.Goals as goal

pub returns-clause-before : goal.returns-clause-before
returns-clause-before c = λ k h.
    let all : List ℕ = take c.args.start c.args.buffer.now.items ++ c.args.bytes.now in
    let is : c.extend_from_slice.new.self.items ≡ all = grind (arith, common_steps) in
    front-at all c.replace.new.dest.items (length c.without_end_zeros-end.result.now) k (grind (arith, common_steps)) (λ j g. rw (← is) (grind (arith, common_steps, c.without_end_zeros-end.ensures.zeros j)))
    ∙ (let long : c.args.start ≤ length c.args.buffer.now.items = omega arith in grind (arith, places))
