use Rattle.std.proofs.Common.{◌≡◌, Some, ◌++◌, sym, ap, ◌∙◌, rules}
use Rattle.ft_words.specs.Spelling.{words_of}
use Rattle.ft_names.specs.Names.{names_of}
use Rattle.ft_plan_names.specs.Numbers.{name_given}
use Rattle.ft_plan_names.proofs.Spacing.{given_step, on_ok}
use Rattle.ft_plan_names.proofs.numbering.put_step.Goals as goal

pub returns-in_ok-extend_from_slice-in-Some-clause-made : goal.returns-in_ok-extend_from_slice-in-Some-clause-made
returns-in_ok-extend_from_slice-in-Some-clause-made c =
    let made = c.args.made.now.items in
    let text = c.args.text.now in
    let front = c.in-Some.front.now in
    let put : c.extend_from_slice.new.self.items ≡ made ++ front = search rules in
    let given : name_given (words_of text) ≡ Some (words_of front, c.in-Some.name.now) = search rules in
    on_ok c.add.result (put ∙ ap (λ t. made ++ t) (sym (given_step (names_of c.args.steps.now.names) text front c.in-Some.name.now given)))
