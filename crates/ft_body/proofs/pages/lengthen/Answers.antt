use Rattle.std.proofs.Common.{of_calls, ◌≡◌, ◌∙◌, ◌++◌, arith, [], length, replicate, take, ap}
use Rattle.std.proofs.lemmas.Grind.{common_steps}
use Rattle.ft_body.proofs.PageLists.{all_same, lengthened}
use Rattle.ft_body.proofs.pages.lengthen.Goals as goal
use Rattle.ft_body.proofs.pages.lengthen.Goals.{then-is_empty+in_ok-reserve_exact, else-is_empty}

pub returns-clause-after : goal.returns-clause-after
returns-clause-after c =
    let made = c.in_ok-resize_with.ensures.items in
    let holes : made.0 ≡ replicate (length made.0) [] = all_same _ [] (λ p x q step. search (of_calls, step)) made.0 _ _ made.3 in
    let same : c.if-is_empty.pages.items ≡ c.args.pages.now.items = elim c.if-is_empty.branch [
      | then-is_empty+in_ok-reserve_exact w ↦ grind (arith, common_steps)
      | else-is_empty w ↦ grind (arith, common_steps)
    ] in
    lengthened c.args.pages.now.items made.0 _ [] _ _ (made.2 ∙ ap (λ pages. take c.args.count pages ++ made.0) same) holes (grind (arith, common_steps)) (grind (arith, common_steps)) c.requires
