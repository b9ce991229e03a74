-- Steps that remove something.
use Rattle.std.proofs.Common.{◌≡◌, List, [], ◌∷◌, ◌++◌, refl, sym, ap, ◌∙◌, subst}
use Rattle.std.specs.Prelude.{reverse}
use Rattle.std.specs.List.{All}
use Rattle.std.proofs.lemmas.List.{reverse-append}
use Rattle.std.proofs.lemmas.List.Elements.{All-nil, All-cons, All-head, All-tail, All-push, All-append}
use Rattle.ft_copy.specs.declared.found.CopyPath.{CopyPath}
use Rattle.ft_copy.specs.Told.{Told}
use Rattle.ft_into.specs.declared.step.Step.{Step}
use Rattle.ft_into.specs.Allows.{IsRemoval}
use Rattle.ft_into.specs.Knows.{Names}
use Rattle.ft_into.specs.Removes.{Removes, RemovesNames, TakesAll, TakesNext}

pub all_reverse : {X : Type 0} (P : X → Type 0) (l : List X) → All P l → All P (reverse l)
all_reverse P [] h = All-nil P
all_reverse P (x ∷ l) h = subst (All P) (sym (reverse-append (x ∷ []) l)) (All-push P (reverse l) x (all_reverse P l (All-tail P x l h)) (All-head P x l h))

-- one more is turned round
pub turned : {X : Type 0} (to back rest : List X) (x : X) → back ≡ rest ++ x ∷ [] → (to ++ x ∷ []) ++ reverse rest ≡ to ++ reverse back
turned [] back rest x is = sym (ap reverse is ∙ reverse-append rest (x ∷ []))
turned (y ∷ to) back rest x is = ap (λ l. y ∷ l) (turned to back rest x is)

module _ (tells : Told → Type 0) where
  -- one more place
  pub takes_more : (left : List CopyPath) (steps : List Step) (middle : List CopyPath) (step : Step) (new : List CopyPath)
      → TakesAll tells left steps middle → TakesNext tells middle step new → TakesAll tells left (steps ++ step ∷ []) new
  takes_more left [] middle step new h k = (new, subst (λ (l : List CopyPath). TakesNext tells l step new) h k, refl)
  takes_more left (first ∷ steps) middle step new h k = (h.0, h.1, takes_more h.0 steps middle step new h.2 k)

  taken_are : (left : List CopyPath) (steps : List Step) (new : List CopyPath) → TakesAll tells left steps new → All (IsRemoval tells) steps
  taken_are left [] new h = All-nil (IsRemoval tells)
  taken_are left (step ∷ more) new h =
      let k = h.1 in
      All-cons (IsRemoval tells) step more
      (subst (IsRemoval tells) (sym k.7) (refl, (k.1.node, k.2, k.5, refl)))
      (taken_are h.0 more new h.2)

  -- each step of a removal removes what the source reports
  pub removals : (place : CopyPath) (steps : List Step) → Removes tells place steps → All (IsRemoval tells) steps
  removals place steps h = subst (All (IsRemoval tells)) (sym h.2) (all_reverse (IsRemoval tells) h.0 (taken_are (place ∷ []) h.0 [] h.1))

  pub name_removals : (names : Names) (steps : List Step) → RemovesNames tells names steps → All (IsRemoval tells) steps
  name_removals [] steps h = subst (All (IsRemoval tells)) (sym h) (All-nil (IsRemoval tells))
  name_removals (name ∷ more) steps h =
      subst (All (IsRemoval tells)) (sym h.4)
      (All-append (IsRemoval tells) h.0 h.1 (name_removals more h.0 h.2) (removals (record { path = name.0; node = name.1 }) h.1 h.3))
