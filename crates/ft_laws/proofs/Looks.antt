-- What is true of each way that a tree of looks may end is true of the way that it goes; and it
-- goes alike where what it looks at is alike.
use Rattle.std.proofs.Common.{◌≡◌, List, ◌∷◌, inl, inr, sym, refl, ap, ◌∙◌}
use Rattle.ft_laws.specs.Lists.{In}
use Rattle.ft_laws.specs.Looks.{Looks, follow}
use Rattle.ft_laws.specs.Looks.Looks.{Answer, Look}

module _ (Place : Type 0) (Shown : Place → Type 0) (A : Type 0) where
  -- P holds of each answer that may come, with what is seen up to then.
  abbrev pub Ends : ((p : Place) → Shown p) → (A → List Place → Type 0) → List Place → Looks Place Shown A → Type 0
  Ends view P seen (Answer x) = P x seen
  Ends view P seen (Look p next) = (v : Shown p) → view p ≡ v → Ends view P (p ∷ seen) (next v)

  pub ends : (view : (p : Place) → Shown p) (P : A → List Place → Type 0) (t : Looks Place Shown A) (seen : List Place) → Ends view P seen t
      → P (follow Place Shown A t view seen).answer (follow Place Shown A t view seen).seen
  ends view P (Answer x) seen h = h
  ends view P (Look p next) seen h = ends view P (next (view p)) (p ∷ seen) (h (view p) refl)

  pub seen_stays : (view : (p : Place) → Shown p) (t : Looks Place Shown A) (seen : List Place) (p : Place) → In p seen → In p (follow Place Shown A t view seen).seen
  seen_stays view (Answer x) seen p i = i
  seen_stays view (Look q next) seen p i = seen_stays view (next (view q)) (q ∷ seen) p (inr i)

  pub follow_alike : (v w : (p : Place) → Shown p) (t : Looks Place Shown A) (seen : List Place) → ((p : Place) → In p (follow Place Shown A t v seen).seen → v p ≡ w p)
      → follow Place Shown A t w seen ≡ follow Place Shown A t v seen
  follow_alike v w (Answer x) seen same = refl
  follow_alike v w (Look p next) seen same =
      ap (λ z. follow Place Shown A (next z) w (p ∷ seen)) (sym (same p (seen_stays v (next (v p)) (p ∷ seen) p (inl refl))))
      ∙ follow_alike v w (next (v p)) (p ∷ seen) same
