use Rattle.std.proofs.Common.{◌≡◌, ℕ, List, [], ◌∷◌, ◌++◌, OnOk, sym, ap, subst, ◌∙◌, append_assoc, rules}
use Rattle.ft_words.specs.Spelling.{words_left, words_of}
use Rattle.ft_names.specs.Names.{names_of}
use Rattle.ft_plan_names.specs.Numbers.{numbered_call, spaced, words_behind}
use Rattle.ft_plan_names.proofs.Spacing.{behind_call}
use Rattle.ft_plan_names.proofs.numbering.put_call_behind.Goals as goal

pub returns : goal.returns
returns c =
    let made = c.args.made.now.items in
    let names = names_of c.args.names.now in
    let call = c.in-Some.call.now in
    let text = spaced (numbered_call names (words_of call)) in
    let put : c.extend_from_slice.new.self.items ≡ made ++ 32 ∷ [] = search rules in
    let left : words_left c.args.rest ≡ words_of call = search rules in
    let all : c.extend_from_slice.new.self.items ++ text ≡ made ++ words_behind (numbered_call names (words_left c.args.rest)) = ap (λ m. m ++ text) put ∙ append_assoc made (32 ∷ []) text ∙ ap (λ t. made ++ t) (sym (behind_call names call)) ∙ ap (λ words. made ++ words_behind (numbered_call names words)) (sym left) in
    subst (λ (m : List ℕ). OnOk c.put_call.result (c.put_call.new.made.items ≡ m)) all c.put_call.ensures
