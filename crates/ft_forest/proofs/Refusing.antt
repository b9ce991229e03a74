-- The refusals of a live transaction.
use Rattle.std.proofs.Common.{◌≡◌, ◌<◌, ◌∙◌, ℕ, true, false, Option, Some, None, IsSome, refl, sym, ap}
use Rattle.std.specs.Prelude.{nat_le}
use Rattle.std.proofs.lemmas.Bool.{false≢true, leb-false}
use Rattle.ft_laws.proofs.Tests.{by_test}
use Rattle.ft_forest.specs.declared.fault.ForestFault.{ForestFault}
use Rattle.ft_forest.specs.declared.fault.ForestFault.TheVariants.{Ended, Deep, Full}
use Rattle.ft_forest.specs.declared.state.State.{State}
use Rattle.ft_forest.specs.declared.state.State.TheVariants.{Live, Committed, Aborted}
use Rattle.ft_forest.specs.Transactions.{Transactions, state_in, depth_in, is_live}
use Rattle.ft_forest.specs.Refusals.{refusal_of, fault_if, is_full, begin_refusal, sub_refusal}

-- where nothing is refused there is room
pub not_full : (m : Transactions) → begin_refusal m ≡ None → is_full m ≡ false
not_full m e = by_test (is_full m) (λ k. absurd (full_not (sym (ap (λ b. fault_if b Full None) k) ∙ e))) (λ k. k)
  where
    full_not : Some Full ≡ None → ⊥
    full_not e = cc

module _ (m : Transactions) (t : ℕ) (live : state_in m t ≡ Some Live) where
  -- it stands too deep, or does not
  by_depth : sub_refusal m t ≡ fault_if (nat_le m.limits.depth (depth_in m t)) Deep (begin_refusal m)
  by_depth = ap (λ o. refusal_of o (fault_if (nat_le m.limits.depth (depth_in m t)) Deep (begin_refusal m))) live

  pub too_deep : nat_le m.limits.depth (depth_in m t) ≡ true → sub_refusal m t ≡ Some Deep
  too_deep deep = by_depth ∙ ap (λ b. fault_if b Deep (begin_refusal m)) deep

  pub not_deep : nat_le m.limits.depth (depth_in m t) ≡ false → sub_refusal m t ≡ begin_refusal m
  not_deep deep = by_depth ∙ ap (λ b. fault_if b Deep (begin_refusal m)) deep

  pub shallow : sub_refusal m t ≡ None → depth_in m t < m.limits.depth
  shallow free = by_test (nat_le m.limits.depth (depth_in m t))
      (λ deep. absurd (deep_not (sym (too_deep deep) ∙ free)))
      (λ deep. leb-false m.limits.depth (depth_in m t) deep)
    where
      deep_not : Some Deep ≡ None → ⊥
      deep_not e = cc

-- one that has begun and is not live has ended
pub ended_refused : (o : Option State) → IsSome o → is_live o ≡ false → (later : Option ForestFault) → refusal_of o later ≡ Some Ended
ended_refused None there dead later = absurd (false≢true there)
ended_refused (Some Live) there dead later = absurd (false≢true (sym dead))
ended_refused (Some Committed) there dead later = refl
ended_refused (Some Aborted) there dead later = refl
