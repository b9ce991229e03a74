use Rattle.std.proofs.Common.{◌≡◌, [], ◌∷◌, ◌++◌, sym, ap, ◌∙◌, append_assoc, rules}
use Rattle.ft_words.specs.Spelling.{words_left, words_of}
use Rattle.ft_plan_names.specs.Numbers.{words_behind}
use Rattle.ft_plan_names.proofs.Spacing.{behind_text}
use Rattle.ft_plan_names.proofs.numbering.put_rest.Goals as goal

pub returns-in_ok-extend_from_slice-2 : goal.returns-in_ok-extend_from_slice-2
returns-in_ok-extend_from_slice-2 c =
    let made = c.args.made.now.items in
    let text = c.in-Some.text.now in
    let put : c.extend_from_slice-in-Some.new.self.items ≡ (made ++ 32 ∷ []) ++ text = search rules in
    let left : words_left c.args.rest ≡ words_of text = search rules in
    put ∙ append_assoc made (32 ∷ []) text ∙ ap (λ t. made ++ t) (sym (behind_text text)) ∙ ap (λ words. made ++ words_behind words) (sym left)
