-- Maps whose entries are clones, one by one, are clones.
use Rattle.std.proofs.Common.{◌≡◌, ◌==◌, ℕ, Bool, true, false, cond, List, [], ◌∷◌, Some, sym, subst}
use Rattle.std.specs.List.{AllZip}
use Rattle.std.specs.Map.{lookup}
use Rattle.ft_base.specs.Copies.{Both}

module _ {V : Type 0} (C : V → V → Type 0) where
  -- what the entries have at a key
  pub clones_at : (es fs : List (ℕ × V)) → AllZip (λ e f. (f.0 ≡ e.0) × C e.1 f.1) es fs → (q : ℕ) → Both C (lookup (λ n. q == n) es) (lookup (λ n. q == n) fs)
  clones_at [] [] h q = tt
  clones_at [] (f ∷ fs) h q = absurd h
  clones_at (e ∷ es) [] h q = absurd h
  clones_at (e ∷ es) (f ∷ fs) h q =
      subst (λ k. Both C (cond (q == e.0) (Some e.1) (lookup (λ n. q == n) es)) (cond (q == k) (Some f.1) (lookup (λ n. q == n) fs))) (sym h.0.0)
      (by_test (q == e.0) (clones_at es fs h.1 q))
    where
      by_test : (b : Bool) → Both C (lookup (λ n. q == n) es) (lookup (λ n. q == n) fs) → Both C (cond b (Some e.1) (lookup (λ n. q == n) es)) (cond b (Some f.1) (lookup (λ n. q == n) fs))
      by_test true rest = h.0.1
      by_test false rest = rest
