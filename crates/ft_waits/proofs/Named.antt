-- The transactions that the edges so far name.
use Rattle.std.proofs.Common.{◌≡◌, ◌+◌, ◌<◌, ◌⊎◌, ℕ, true, List, length, get_or, is_some, nat_cmp, inl, inr, arith, sym, ap, ◌∙◌}
use Rattle.std.specs.FinMap as finite
use Rattle.std.proofs.lemmas.Bool.{cases_lt}
use Rattle.std.proofs.lemmas.List.{get_or_default}
use Rattle.ft_waits.specs.declared.edge.Edge.{Edge}
use Rattle.ft_waits.specs.Waits.{IsNamed}
use Rattle.ft_waits.specs.Walk.{Txns}
use Rattle.ft_waits.proofs.Maps.{put-keys}

abbrev pub OnlyNamed : List Edge → Txns → Type 0
OnlyNamed edges txns = (txn : ℕ) → finite.contains_key txns txn ≡ true → IsNamed edges txn

abbrev pub AllNamed : List Edge → ℕ → Txns → Type 0
AllNamed edges n txns = (k : ℕ) (e : Edge) → k < n → (finite.contains_key txns (get_or edges k e).from ≡ true) × (finite.contains_key txns (get_or edges k e).to ≡ true)

pub none-named : (edges : List Edge) (txns : Txns) → txns ≡ finite.empty → OnlyNamed edges txns
none-named edges txns none txn there =
    let nowhere = ap (λ (m : Txns). finite.contains_key m txn) none ∙ ap (λ o. is_some o) (finite.get-empty nat_cmp txn) in
    cc

module _ (edges : List Edge) (n : ℕ) (edge : Edge) (before between after : Txns) (inside : n < length edges) (is : get_or edges n edge ≡ edge) (first : between ≡ finite.insert before edge.from tt) (second : after ≡ finite.insert between edge.to tt) where
  pub only-more : OnlyNamed edges before → OnlyNamed edges after
  only-more only txn there = last ((put-keys between edge.to after tt second).2 txn there) where
    middle : (txn ≡ edge.from) ⊎ (finite.contains_key before txn ≡ true) → IsNamed edges txn
    middle (inl same) = (n, edge, inside, is, inl (sym same))
    middle (inr old) = only txn old

    last : (txn ≡ edge.to) ⊎ (finite.contains_key between txn ≡ true) → IsNamed edges txn
    last (inl same) = (n, edge, inside, is, inr (sym same))
    last (inr old) = middle ((put-keys before edge.from between tt first).2 txn old)

  kept : (txn : ℕ) → finite.contains_key before txn ≡ true → finite.contains_key after txn ≡ true
  kept txn there = (put-keys between edge.to after tt second).1 txn ((put-keys before edge.from between tt first).1 txn there)

  pub all-more : AllNamed edges n before → AllNamed edges (n + 1) after
  all-more all k e lt = elim (cases_lt k n) [
    | inl earlier ↦ (kept (get_or edges k e).from (all k e earlier).0, kept (get_or edges k e).to (all k e earlier).1)
    | inr not_earlier ↦
        let same : n ≡ k = omega arith in
        let here : get_or edges k e ≡ edge = ap (λ j. get_or edges j e) (sym same) ∙ get_or-any e edge ∙ is in (
          ap (λ (x : Edge). finite.contains_key after x.from) here ∙ (put-keys between edge.to after tt second).1 edge.from (put-keys before edge.from between tt first).0,
          ap (λ (x : Edge). finite.contains_key after x.to) here ∙ (put-keys between edge.to after tt second).0,
        )
  ] where
    get_or-any : (d e : Edge) → get_or edges n d ≡ get_or edges n e
    get_or-any d e = get_or_default edges n d e inside
