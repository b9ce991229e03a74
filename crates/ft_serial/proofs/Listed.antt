-- The granted calls that pass a test, with their stamps and askers alone.
use Rattle.std.proofs.Common.{◌≡◌, ◌<◌, Bool, true, false, cond, List, [], ◌∷◌, ◌++◌, map, inl, inr, refl, sym, ap, ◌∙◌}
use Rattle.ft_laws.specs.Lists.{Each, Pairs, In}
use Rattle.ft_laws.proofs.Lists.{Each-at}
use Rattle.ft_posix.specs.Posix.{posix_calls}
use Rattle.ft_history.specs.Logs.{passing, joined}
use Rattle.ft_history.specs.History.{is_standing}
use Rattle.ft_core.specs.Histories.{History, Granted}
use Rattle.ft_serial.specs.declared.asked.Asked.{Asked}
use Rattle.ft_serial.specs.Serials.{stamped}
use Rattle.ft_serial.specs.Asked.{asked}
use Rattle.ft_serial.specs.Walks.{standing_call}

pub passing-agree : (p q : Granted → Bool) (xs : List Granted) → ((c : Granted) → In c xs → p c ≡ q c) → passing p xs ≡ passing q xs
passing-agree p q [] same = refl
passing-agree p q (x ∷ xs) same =
    ap (λ b. cond b (x ∷ passing p xs) (passing p xs)) (same x (inl refl))
    ∙ ap (λ ys. cond (q x) (x ∷ ys) ys) (passing-agree p q xs (λ c i. same c (inr i)))

-- one call more
pub listed-push : (p : Granted → Bool) (xs : List Granted) (c : Granted) → map asked (passing p (xs ++ c ∷ [])) ≡ map asked (passing p xs) ++ cond (p c) (asked c ∷ []) []
listed-push p [] c = out (p c)
  where
    out : (b : Bool) → map asked (cond b (c ∷ []) []) ≡ cond b (asked c ∷ []) []
    out true = refl
    out false = refl
listed-push p (x ∷ xs) c = out (p x) (listed-push p xs c)
  where
    out : (b : Bool) → map asked (passing p (xs ++ c ∷ [])) ≡ map asked (passing p xs) ++ cond (p c) (asked c ∷ []) []
        → map asked (cond b (x ∷ passing p (xs ++ c ∷ [])) (passing p (xs ++ c ∷ []))) ≡ map asked (cond b (x ∷ passing p xs) (passing p xs)) ++ cond (p c) (asked c ∷ []) []
    out true ih = ap (λ ys. asked x ∷ ys) ih
    out false ih = ih

-- what is true of each that passes
pub each-listed : (P : Asked → Type 0) (p : Granted → Bool) (xs : List Granted) → ((c : Granted) → In c xs → p c ≡ true → P (asked c)) → Each P (map asked (passing p xs))
each-listed P p [] h = tt
each-listed P p (x ∷ xs) h = out (p x) (h x (inl refl)) (each-listed P p xs (λ c i. h c (inr i)))
  where
    out : (b : Bool) → (b ≡ true → P (asked x)) → Each P (map asked (passing p xs)) → Each P (map asked (cond b (x ∷ passing p xs) (passing p xs)))
    out true one others = (one refl, others)
    out false one others = others

-- Their stamps rise where those of all do.
pub rising-listed : (p : Granted → Bool) (xs : List Granted) → Pairs (λ b a. b.call.stamp < a.call.stamp) xs → Pairs (λ x y. x.call.stamp < y.call.stamp) (map asked (passing p xs))
rising-listed p [] rising = tt
rising-listed p (x ∷ xs) rising = out (p x)
    (each-listed (λ a. x.call.stamp < a.call.stamp) p xs (λ c i k. Each-at (λ (d : Granted). x.call.stamp < d.call.stamp) xs c rising.0 i))
    (rising-listed p xs rising.1)
  where
    out : (b : Bool) → Each (λ a. x.call.stamp < a.call.stamp) (map asked (passing p xs)) → Pairs (λ u v. u.call.stamp < v.call.stamp) (map asked (passing p xs)) → Pairs (λ u v. u.call.stamp < v.call.stamp) (map asked (cond b (x ∷ passing p xs) (passing p xs)))
    out true all others = (all, others)
    out false all others = others

-- those of them that stand
pub standing-listed : (h : History) (p : Granted → Bool) (xs : List Granted) → joined (standing_call h) (map asked (passing p xs)) ≡ map stamped (passing p (passing (is_standing posix_calls h) xs))
standing-listed h p [] = refl
standing-listed h p (x ∷ xs) = out (p x) (is_standing posix_calls h x) refl refl (standing-listed h p xs)
  where
    found : (b s : Bool) → Type 0
    found b s = joined (standing_call h) (map asked (cond b (x ∷ passing p xs) (passing p xs))) ≡ map stamped (passing p (cond s (x ∷ passing (is_standing posix_calls h) xs) (passing (is_standing posix_calls h) xs)))

    out : (b s : Bool) → p x ≡ b → is_standing posix_calls h x ≡ s → joined (standing_call h) (map asked (passing p xs)) ≡ map stamped (passing p (passing (is_standing posix_calls h) xs)) → found b s
    out true true is stands ih =
        ap (λ c. cond c (stamped x ∷ []) [] ++ joined (standing_call h) (map asked (passing p xs))) stands ∙ ap (λ ys. stamped x ∷ ys) ih
        ∙ sym (ap (λ c. map stamped (cond c (x ∷ passing p (passing (is_standing posix_calls h) xs)) (passing p (passing (is_standing posix_calls h) xs)))) is)
    out true false is stands ih = ap (λ c. cond c (stamped x ∷ []) [] ++ joined (standing_call h) (map asked (passing p xs))) stands ∙ ih
    out false true is stands ih = ih ∙ sym (ap (λ c. map stamped (cond c (x ∷ passing p (passing (is_standing posix_calls h) xs)) (passing p (passing (is_standing posix_calls h) xs)))) is)
    out false false is stands ih = ih
