use Rattle.std.proofs.Common.{◌≡◌, false, ◌++◌, sym, ap, ◌∙◌, rules}
use Rattle.ft_words.specs.Spelling.{words_of}
use Rattle.ft_plan_names.specs.Numbers.{is_step, numbering_of}
use Rattle.ft_plan_names.proofs.Spacing.{text_kept}
use Rattle.ft_plan_names.proofs.numbering.put_text.Goals as goal

-- a line that is no step is put as it is
pub returns-clause-made : goal.returns-clause-made
returns-clause-made c =
    let made = c.args.made.now.items in
    let text = c.args.text.now in
    let put : c.extend_from_slice-2.new.self.items ≡ made ++ text = search rules in
    let none : is_step (words_of text) ≡ false = search rules in
    put ∙ ap (λ t. made ++ t) (sym (text_kept (numbering_of c.args.steps.now) text none))
