-- Tests of each value with those before it, and of the last.
use Rattle.std.proofs.Common.{◌≡◌, ℕ, ◌+◌, ◌<◌, Bool, true, false, ◌&&◌, ◌||◌, not, List, [], ◌∷◌, ◌++◌, length, get_or, take, drop, refl, sym, ap, ◌∙◌}
use Rattle.std.proofs.lemmas.List.{take_more, drop_more}
use Rattle.std.specs.List.{list_any}
use Rattle.ft_plan.specs.declared.job.Step.{Step}
use Rattle.ft_plan.specs.Plans.{all_behind, ends_last, is_end}

-- one value more
pub behind_next : {A : Type 0} (test : List A → A → Bool) (xs : List A) (i : ℕ) (d : A) → i < length xs → all_behind test (take i xs) (drop i xs) ≡ (test (take i xs) (get_or xs i d) && all_behind test (take (i + 1) xs) (drop (i + 1) xs))
behind_next test xs i d h =
    ap (all_behind test (take i xs)) (drop_more xs i d h) ∙ ap (λ before. test (take i xs) (get_or xs i d) && all_behind test before (drop (i + 1) xs)) (sym (take_more xs i d h))

-- the last step alone
pub ends_last_is : (others : List Step) (last : Step) → ends_last (others ++ last ∷ []) ≡ (is_end last && not (list_any is_end others))
ends_last_is [] last = and_true (is_end last)
  where
    and_true : (b : Bool) → b ≡ (b && true)
    and_true true = refl
    and_true false = refl
ends_last_is (s ∷ []) last = first (is_end s) (is_end last)
  where
    first : (b c : Bool) → (not b && c) ≡ (c && not (b || false))
    first true true = refl
    first true false = refl
    first false true = refl
    first false false = refl
ends_last_is (s ∷ t ∷ others) last = ap (λ b. not (is_end s) && b) (ends_last_is (t ∷ others) last) ∙ later (is_end s) (is_end last) (list_any is_end (t ∷ others))
  where
    later : (b c d : Bool) → (not b && (c && not d)) ≡ (c && not (b || d))
    later true true d = refl
    later true false d = refl
    later false c d = refl
