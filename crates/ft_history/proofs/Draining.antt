-- Lists that are taken one after another, each before that of its parent, from its newest on.
use Rattle.std.proofs.Common.{◌≡◌, ◌≢◌, ℕ, Bool, true, false, Option, List, [], ◌∷◌, ◌++◌, ◌⊎◌, inl, inr, sym, refl, ap, ◌∙◌, subst, append_assoc, append-nil}
use Rattle.std.proofs.lemmas.Bool.{false≢true}
use Rattle.ft_laws.specs.Lists.{Each, Pairs, In}
use Rattle.ft_laws.proofs.Lists.{Each-at}
use Rattle.ft_laws.proofs.Tests.{by_number}
use Rattle.ft_history.specs.Logs.{put, joined}
use Rattle.ft_history.proofs.Words.{put_same, put_other}
use Rattle.ft_history.proofs.Forest.{ForestLaws}

-- The lists at or below t may be taken in this order: those that aren't among them are empty.
pub record IsOrder (above : ℕ → ℕ → Bool) (t : ℕ) {A : Type 0} (log : ℕ → List A) (xs : List ℕ) : Type 0 where
  pub below : Each (λ x. above t x ≡ true) xs
  pub before : Pairs (λ x y. above x y ≡ false) xs
  pub others : (y : ℕ) → above t y ≡ true → (In y xs → ⊥) → log y ≡ []

module _ (parent : ℕ → Option ℕ) (above : ℕ → ℕ → Bool) (forest : ForestLaws parent above) (t : ℕ) {A S : Type 0} (log : S → ℕ → List A) (Good : List A → S → Type 0) where
  -- the newest of a list is taken, where all lists strictly below it are empty
  abbrev pub Step : Type 0
  Step = (es : List A) (s : S) (x : ℕ) (e : A) (more : List A) → above t x ≡ true → log s x ≡ e ∷ more → ((y : ℕ) → above x y ≡ true → y ≢ x → log s y ≡ []) → Good es s
      → (s' : S) × Good (es ++ e ∷ []) s' × ((y : ℕ) → log s' y ≡ put (log s) x more y)

  -- what is left of a list is taken
  abbrev Emptied : List A → List A → S → ℕ → Type 0
  Emptied es more s x = (s' : S) × Good (es ++ more) s' × (log s' x ≡ []) × ((y : ℕ) → y ≢ x → log s' y ≡ log s y)

  emptied : Step → (es more : List A) (s : S) (x : ℕ) → above t x ≡ true → log s x ≡ more → ((y : ℕ) → above x y ≡ true → y ≢ x → log s y ≡ []) → Good es s → Emptied es more s x
  emptied step es [] s x under is below good = (s, subst (λ fs. Good fs s) (sym (append-nil es)) good, is, λ y ne. refl)
  emptied step es (e ∷ more) s x under is below good =
      let next = step es s x e more under is below good in
      let end = emptied step (es ++ e ∷ []) more next.0 x under (next.2 x ∙ put_same (log s) x more x refl) (λ y a ne. next.2 y ∙ put_other (log s) x more y ne ∙ below y a ne) next.1 in
      (end.0, subst (λ fs. Good fs end.0) (append_assoc es (e ∷ []) more) end.1, end.2, λ y ne. end.3 y ne ∙ next.2 y ∙ put_other (log s) x more y ne)

  -- all of them are
  abbrev Drained : List A → (ℕ → List A) → List ℕ → Type 0
  Drained es first xs = (s' : S) × Good (es ++ joined first xs) s' × ((y : ℕ) → above t y ≡ true → log s' y ≡ [])

  drained_rest : Step → (first : ℕ → List A) (xs : List ℕ) (es : List A) (s : S) → IsOrder above t (log s) xs → ((y : ℕ) → In y xs → log s y ≡ first y) → Good es s → Drained es first xs
  drained_rest step first [] es s order same good = (s, subst (λ fs. Good fs s) (sym (append-nil es)) good, λ y a. order.others y a (λ i. i))
  drained_rest step first (x ∷ xs) es s order same good =
      let apart : (y : ℕ) → In y xs → y ≢ x = λ y i is. false≢true (sym (Each-at (λ z. above x z ≡ false) xs y order.before.0 i) ∙ ap (above x) is ∙ forest.itself x) in
      let one = emptied step es (log s x) s x order.below.0 refl
      (λ y a ne. order.others y (forest.along t x y order.below.0 a) (λ i. elim (cased y i) [
        | inl is ↦ ne is
        | inr j ↦ false≢true (sym (Each-at (λ z. above x z ≡ false) xs y order.before.0 j) ∙ a)
      ])) good in
      let rest = drained_rest step first xs (es ++ log s x) one.0
      (record {
        below = order.below.1;
        before = order.before.1;
        others = λ y a out. by_number y x
            (λ is. ap (log one.0) is ∙ one.2)
            (λ ne. one.3 y ne ∙ order.others y a (λ i. elim (cased y i) [ inl is ↦ ne is | inr j ↦ out j ]));
      })
      (λ y i. one.3 y (apart y i) ∙ same y (inr i)) one.1 in
      (rest.0, subst (λ fs. Good fs rest.0) (append_assoc es (log s x) (joined first xs) ∙ ap (λ l. es ++ (l ++ joined first xs)) (same x (inl refl))) rest.1, rest.2)
    where
      cased : (y : ℕ) → In y (x ∷ xs) → (y ≡ x) ⊎ In y xs
      cased y i = i

  pub drained : Step → (xs : List ℕ) (s : S) → IsOrder above t (log s) xs → Good [] s → Drained [] (log s) xs
  drained step xs s order good = drained_rest step (log s) xs [] s order (λ y i. refl) good
