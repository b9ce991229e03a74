use Rattle.std.proofs.Common.{◌≡◌, ℕ, true, List, ◌++◌, OnOk, sym, ap, subst, ◌∙◌, append_assoc, rules}
use Rattle.std.specs.Prelude.{codes}
use Rattle.std.specs.Str.{bytes_eq}
use Rattle.ft_words.specs.Spelling.{words_left, words_of}
use Rattle.ft_names.specs.Names.{names_of}
use Rattle.ft_plan_names.specs.Numbers.{numbered_call, numbered_tried, spaced, words_behind}
use Rattle.ft_plan_names.proofs.Spacing.{tried_put}
use Rattle.ft_plan_names.proofs.numbering.put_tried.Goals as goal

pub returns : goal.returns
returns c =
    let made = c.args.made.now.items in
    let names = names_of c.args.names.now in
    let first = c.split_first.result.0.now in
    let words = words_left c.split_first.result.1 in
    let rest = words_behind (numbered_call names words) in
    let put : c.extend_from_slice.new.self.items ≡ made ++ first = search rules in
    let is : bytes_eq first (codes "try") ≡ true = search rules in
    let all : c.extend_from_slice.new.self.items ++ rest ≡ made ++ spaced (numbered_tried names (words_of c.args.text.now)) = ap (λ m. m ++ rest) put ∙ append_assoc made first rest ∙ ap (λ t. made ++ t) (sym (tried_put names first words is)) ∙ ap (λ ws. made ++ spaced (numbered_tried names ws)) (sym c.split_first.ensures.words) in
    subst (λ (m : List ℕ). OnOk c.put_call_behind.result (c.put_call_behind.new.made.items ≡ m)) all c.put_call_behind.ensures
