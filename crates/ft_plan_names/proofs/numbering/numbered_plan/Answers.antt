use Rattle.std.proofs.Common.{◌≡◌, [], ◌∷◌, ◌++◌, sym, ap, ◌∙◌, arith, rules}
use Rattle.ft_words.specs.Spelling.{IsFreeOf}
use Rattle.ft_plan_names.specs.Numbers.{Numbering, after_line, all_lines, numbered_line, numbering_of}
use Rattle.ft_plan_names.proofs.Lining.{cut_shorter, lines_last, lines_next, text_of}
use Rattle.ft_plan_names.proofs.numbering.numbered_plan.Goals as goal

pub loop-line-preserved : goal.loop-line-preserved
loop-line-preserved c =
    let made = c.loop-line.made.items in
    let steps = numbering_of c.loop-line.steps in
    let rest = c.loop-line.rest.now in
    let line = c.in-Some.line.now in
    let more = c.in-Some.more.now in
    let put = c.extend_from_slice.new.self.items in
    let next = numbering_of c.put_line.new.steps in
    let free : IsFreeOf 10 line = search rules in
    let is : rest ≡ line ++ 10 ∷ more = search rules in
    let put_is : put ≡ (made ++ numbered_line steps line) ++ 10 ∷ [] = search rules in
    let next_is : next ≡ after_line steps line = search rules in
    let few = c.in_ok-put_line.ensures.few in
    let left = c.loop-line.invariant.1 in
    let shorter = cut_shorter rest line more is in (
      c.loop-line.invariant.0 ∙ lines_next steps made rest line more free is ∙ ap (λ m. m ++ text_of (after_line steps line) (all_lines more)) (sym put_is) ∙ ap (λ (s : Numbering). put ++ text_of s (all_lines more)) (sym next_is),
      omega (arith, few, left, shorter),
    )

pub returns : goal.returns
returns c =
    let made = c.loop-line.made.items in
    let steps = numbering_of c.loop-line.steps in
    let rest = c.loop-line.rest.now in
    let free : IsFreeOf 10 rest = search rules in
    let put : c.put_line-2.new.made.items ≡ made ++ numbered_line steps rest = search rules in
    put ∙ ap (λ t. made ++ t) (sym (lines_last steps rest free)) ∙ sym c.loop-line.invariant.0
