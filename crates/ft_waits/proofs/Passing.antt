-- A pass over edges, and what passes come to.
use Rattle.std.proofs.Common.{◌≡◌, ◌≤◌, ◌+◌, ◌⊎◌, ℕ, Bool, true, false, List, [], ◌∷◌, ◌++◌, length, length-append, is_some, nat_cmp, inl, inr, arith, refl, sym, ap, subst, ◌∙◌}
use Rattle.std.specs.FinMap as finite
use Rattle.std.proofs.lemmas.Bool.{false≢true}
use Rattle.ft_laws.specs.Lists.{In}
use Rattle.ft_laws.proofs.Tests.{by_test}
use Rattle.ft_waits.specs.declared.edge.Edge.{Edge}
use Rattle.ft_waits.specs.Behind.{AreWhoWait, IsClosedAlong, IsPass}
use Rattle.ft_waits.specs.Walk.{Txns}
use Rattle.ft_waits.proofs.Maps.{put-keys}
use Rattle.ft_waits.proofs.Waiting.{in_append, in_left, in_right}

-- what a pass over edges has come to where some are to come: those that are left, and who is found
pub record IsSoFar (rest to_come left : List Edge) (old new : ℕ → Bool) : Type 0 where
  pub kept : (e : Edge) → In e rest → In e to_come ⊎ (In e left ⊎ (new e.from ≡ true))
  pub part : (e : Edge) → In e left → In e rest
  pub inside : (e : Edge) → In e to_come → In e rest
  pub grows : (u : ℕ) → old u ≡ true → new u ≡ true
  pub least : (among : ℕ → Bool) → IsClosedAlong rest among → ((u : ℕ) → old u ≡ true → among u ≡ true) → (u : ℕ) → new u ≡ true → among u ≡ true
  pub fewer : length left + length to_come ≤ length rest
  pub same : length left + length to_come ≡ length rest → (u : ℕ) → new u ≡ true → old u ≡ true
  pub done : length left + length to_come ≡ length rest → (e : Edge) → In e left → old e.to ≡ false

-- at first
pub none-passed : (rest left : List Edge) (old : ℕ → Bool) → left ≡ [] → IsSoFar rest rest left old old
none-passed rest left old none = record {
  kept = λ e i. inl i;
  part = λ e i. absurd (subst (In e) none i);
  inside = λ e i. i;
  grows = λ u is. is;
  least = λ among closed has u is. has u is;
  fewer = let count = ap (λ (es : List Edge). length es) none in omega arith;
  same = λ all u is. is;
  done = λ all e i. absurd (subst (In e) none i);
}

module _ (rest more : List Edge) (edge : Edge) (left : List Edge) (old new : ℕ → Bool) (so_far : IsSoFar rest (edge ∷ more) left old new) where
  -- one leads to one that is found
  pub found-passed : (m n : Txns) → ((u : ℕ) → finite.contains_key m u ≡ new u) → n ≡ finite.insert m edge.from tt → new edge.to ≡ true → IsSoFar rest more left old (λ u. finite.contains_key n u)
  found-passed m n are put leads =
      let keys = put-keys m edge.from n tt put in
      let still : (u : ℕ) → new u ≡ true → finite.contains_key n u ≡ true = λ u is. keys.1 u (are u ∙ is) in
      record {
        kept = λ e i. by_kept e (so_far.kept e i) keys.0 still;
        part = so_far.part;
        inside = λ e i. so_far.inside e (inr i);
        grows = λ u is. still u (so_far.grows u is);
        least = λ among closed has u is. by_new among closed has u (keys.2 u is);
        fewer = let fewer = so_far.fewer in omega arith;
        same = λ all. let fewer = so_far.fewer in absurd (omega arith);
        done = λ all. let fewer = so_far.fewer in absurd (omega arith);
      }
    where
      by_kept : (e : Edge) → In e (edge ∷ more) ⊎ (In e left ⊎ (new e.from ≡ true)) → finite.contains_key n edge.from ≡ true → ((u : ℕ) → new u ≡ true → finite.contains_key n u ≡ true) → In e more ⊎ (In e left ⊎ (finite.contains_key n e.from ≡ true))
      by_kept e (inl (inl is)) here still = inr (inr (ap (λ (x : Edge). finite.contains_key n x.from) is ∙ here))
      by_kept e (inl (inr i)) here still = inl i
      by_kept e (inr (inl i)) here still = inr (inl i)
      by_kept e (inr (inr is)) here still = inr (inr (still e.from is))

      by_new : (among : ℕ → Bool) → IsClosedAlong rest among → ((u : ℕ) → old u ≡ true → among u ≡ true) → (u : ℕ) → (u ≡ edge.from) ⊎ (finite.contains_key m u ≡ true) → among u ≡ true
      by_new among closed has u (inl is) = ap among is ∙ closed edge (so_far.inside edge (inl refl)) (so_far.least among closed has edge.to leads)
      by_new among closed has u (inr is) = so_far.least among closed has u (sym (are u) ∙ is)

  -- one does not
  pub left-passed : (more_left : List Edge) → more_left ≡ left ++ edge ∷ [] → new edge.to ≡ false → IsSoFar rest more more_left old new
  left-passed more_left pushed leads = record {
    kept = λ e i. by_kept e (so_far.kept e i);
    part = λ e i. by_part e (in_append left (edge ∷ []) e (subst (In e) pushed i));
    inside = λ e i. so_far.inside e (inr i);
    grows = so_far.grows;
    least = so_far.least;
    fewer = let fewer = so_far.fewer in let count = counted in omega arith;
    same = λ all. let count = counted in so_far.same (omega arith);
    done = λ all e i. let count = counted in by_done (omega arith) e (in_append left (edge ∷ []) e (subst (In e) pushed i));
  }
    where
      counted : length more_left ≡ length left + 1
      counted = ap (λ (es : List Edge). length es) pushed ∙ length-append left (edge ∷ [])

      by_kept : (e : Edge) → In e (edge ∷ more) ⊎ (In e left ⊎ (new e.from ≡ true)) → In e more ⊎ (In e more_left ⊎ (new e.from ≡ true))
      by_kept e (inl (inl is)) = inr (inl (subst (In e) (sym pushed) (in_right left (edge ∷ []) e (inl is))))
      by_kept e (inl (inr i)) = inl i
      by_kept e (inr (inl i)) = inr (inl (subst (In e) (sym pushed) (in_left left (edge ∷ []) e i)))
      by_kept e (inr (inr is)) = inr (inr is)

      by_part : (e : Edge) → In e left ⊎ In e (edge ∷ []) → In e rest
      by_part e (inl i) = so_far.part e i
      by_part e (inr (inl is)) = so_far.inside e (inl is)
      by_part e (inr (inr i)) = absurd i

      unfound : (u : ℕ) → new u ≡ false → old u ≡ false
      unfound u not = by_test (old u) (λ is. absurd (false≢true (sym not ∙ so_far.grows u is))) (λ is. is)

      by_done : length left + length (edge ∷ more) ≡ length rest → (e : Edge) → In e left ⊎ In e (edge ∷ []) → old e.to ≡ false
      by_done all e (inl i) = so_far.done all e i
      by_done all e (inr (inl is)) = ap (λ (x : Edge). old x.to) is ∙ unfound edge.to leads
      by_done all e (inr (inr i)) = absurd i

-- at the end
pub all-passed : (rest to_come left : List Edge) (old new : ℕ → Bool) → to_come ≡ [] → IsSoFar rest to_come left old new → IsPass rest left old new
all-passed rest to_come left old new none so_far = record {
  kept = λ e i. by_kept e (so_far.kept e i);
  part = so_far.part;
  grows = so_far.grows;
  least = so_far.least;
  fewer = let fewer = so_far.fewer in omega arith;
  done = λ all e i. by_test (new e.to)
      (λ is. absurd (false≢true (sym (so_far.done (whole all) e i) ∙ so_far.same (whole all) e.to is)))
      (λ is. is);
}
  where
    whole : length left ≡ length rest → length left + length to_come ≡ length rest
    whole all = let count = ap (λ (es : List Edge). length es) none in omega arith

    by_kept : (e : Edge) → In e to_come ⊎ (In e left ⊎ (new e.from ≡ true)) → In e left ⊎ (new e.from ≡ true)
    by_kept e (inl i) = absurd (subst (In e) none i)
    by_kept e (inr rest) = rest

-- ---- passes

-- what passes have come to: the edges that are left, and who is found
pub record AreSoFar (edges rest : List Edge) (t : ℕ) (found : ℕ → Bool) : Type 0 where
  pub own : found t ≡ true
  pub kept : (e : Edge) → In e edges → In e rest ⊎ (found e.from ≡ true)
  pub part : (e : Edge) → In e rest → In e edges
  pub least : (among : ℕ → Bool) → IsClosedAlong edges among → among t ≡ true → (u : ℕ) → found u ≡ true → among u ≡ true

-- at first it is t alone
pub t-alone : (edges : List Edge) (t : ℕ) (m n : Txns) → m ≡ finite.empty → n ≡ finite.insert m t tt → AreSoFar edges edges t (λ u. finite.contains_key n u)
t-alone edges t m n none put =
    let keys = put-keys m t n tt put in
    record { own = keys.0; kept = λ e i. inl i; part = λ e i. i; least = λ among closed has u is. by_new among has u (keys.2 u is) }
  where
    by_new : (among : ℕ → Bool) → among t ≡ true → (u : ℕ) → (u ≡ t) ⊎ (finite.contains_key m u ≡ true) → among u ≡ true
    by_new among has u (inl is) = ap among is ∙ has
    by_new among has u (inr is) = let nowhere = ap (λ (k : Txns). finite.contains_key k u) none ∙ ap (λ o. is_some o) (finite.get-empty nat_cmp u) in absurd (false≢true (sym nowhere ∙ is))

module _ (edges rest left : List Edge) (t : ℕ) (old new : ℕ → Bool) (so_far : AreSoFar edges rest t old) (is : IsPass rest left old new) where
  -- one pass more
  pub pass-more : AreSoFar edges left t new
  pass-more = record {
    own = is.grows t so_far.own;
    kept = λ e i. by_kept e (so_far.kept e i);
    part = λ e i. so_far.part e (is.part e i);
    least = λ among closed has. is.least among (λ e i. closed e (so_far.part e i)) (so_far.least among closed has);
  }
    where
      by_kept : (e : Edge) → In e rest ⊎ (old e.from ≡ true) → In e left ⊎ (new e.from ≡ true)
      by_kept e (inl i) = is.kept e i
      by_kept e (inr found) = inr (is.grows e.from found)

  -- and the last one
  pub pass-last : length left ≡ length rest → AreWhoWait edges t new
  pass-last all = record {
    own = pass-more.own;
    all = λ e i leads. by_kept e leads (pass-more.kept e i);
    least = pass-more.least;
  }
    where
      by_kept : (e : Edge) → new e.to ≡ true → In e left ⊎ (new e.from ≡ true) → new e.from ≡ true
      by_kept e leads (inl i) = absurd (false≢true (sym (is.done all e i) ∙ leads))
      by_kept e leads (inr found) = found
