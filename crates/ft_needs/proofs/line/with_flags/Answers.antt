use Rattle.std.proofs.Common.{◌≡◌, ◌∷◌, ℕ, List, Option, Some, sym, ap, ◌∙◌, rules}
use Rattle.std.specs.Prelude.{option_and_then}
use Rattle.ft_core.specs.declared.limits.Limits.{Limits}
use Rattle.ft_needs.specs.Lines.{with_flag, with_flags}
use Rattle.ft_needs.proofs.line.with_flags.Goals as goal

-- one flag more
one_more : (all : Option Limits) (words behind rest : List (List ℕ)) (flag value : List ℕ) (limits next : Limits) → all ≡ with_flags words limits → words ≡ flag ∷ behind → behind ≡ value ∷ rest
    → with_flag flag value limits ≡ Some next → all ≡ with_flags rest next
one_more all words behind rest flag value limits next is first second raised =
    is ∙ ap (λ w. with_flags w limits) (first ∙ ap (λ w. flag ∷ w) second) ∙ ap (option_and_then (with_flags rest)) raised

pub loop-flag-preserved : goal.loop-flag-preserved
loop-flag-preserved c =
    let first : c.loop-flag.words ≡ c.in-Some.flag.now ∷ c.next.new.self = search rules in
    let second : c.next.new.self ≡ c.in_ok-value.value.now ∷ c.next-in-Some.new.self = search rules in
    let raised : with_flag c.in-Some.flag.now c.in_ok-value.value.now c.loop-flag.limits ≡ Some c.in_ok-limits.limits = search rules in
    one_more _ c.loop-flag.words c.next.new.self c.next-in-Some.new.self c.in-Some.flag.now c.in_ok-value.value.now c.loop-flag.limits c.in_ok-limits.limits c.loop-flag.invariant first second raised
