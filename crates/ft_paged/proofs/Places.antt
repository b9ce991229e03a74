-- The finite map that a list of places makes: what it has at a number, and what a change of one
-- place leaves.
use Rattle.std.proofs.Common.{IsSome, ◌≤◌, ◌≡◌, ◌==◌, ◌<◌, ◌+◌, ℕ, zero, suc, List, [], ◌∷◌, ◌++◌, length, Option, Some, None, Bool, true, false, cond, set, get_or, replicate, ltb, arith, refl, sym, ap, subst, ◌∙◌}
use Rattle.std.proofs.lemmas.Bool.{false≢true, ne_eqb, eq-eqb, eqb-true, ltb-true, ltb-false}
use Rattle.std.proofs.lemmas.List.{append_assoc, get_or-set_same, get_or-set_other, replicate-append-replicate}
use Rattle.std.proofs.lemmas.Option.{slice_get_past, slice_get-get_or, unwrap_or-slice_get}
use Rattle.std.specs.Prelude.{slice_get, is_some, IfSome}
use Rattle.std.specs.Slice.{IsItemAt}
use Rattle.std.specs.Borrow.{Bor}
use Rattle.std.specs.Option.{option_flatten, option_copied, unwrap_or}
use Rattle.std.specs.Ordering.{nat_cmp}
use Rattle.std.specs.Cmp.{nat_cmp_total}
use Rattle.std.specs.FinMap.{FinMap, get, insert, remove, same_map, nat_cmp-IsAntisymmetric}
use Rattle.ft_paged.specs.Paged.{numbered, dense}
use Rattle.ft_base.proofs.Views.{at, get-view, view-put, view-remove}

module _ {V : Type 0} where
  below : (xs : List (Option V)) (k q : ℕ) → q < k → at (numbered k xs) q ≡ None
  below [] k q lt = refl
  below (None ∷ xs) k q lt = below xs (suc k) q (omega arith)
  below (Some v ∷ xs) k q lt = ap (λ b. cond b (Some v) (at (numbered (suc k) xs) q)) (ne_eqb q k (λ is. omega arith)) ∙ below xs (suc k) q (omega arith)

  from : (xs : List (Option V)) (k d q : ℕ) → q ≡ k + d → at (numbered k xs) q ≡ get_or xs d None
  from [] k d q is = refl
  from (None ∷ xs) k zero q is = below xs (suc k) q (omega arith)
  from (Some v ∷ xs) k zero q is = ap (λ b. cond b (Some v) (at (numbered (suc k) xs) q)) (eq-eqb q k (omega arith))
  from (None ∷ xs) k (suc d) q is = from xs (suc k) d q (omega arith)
  from (Some v ∷ xs) k (suc d) q is = ap (λ b. cond b (Some v) (at (numbered (suc k) xs) q)) (ne_eqb q k (λ e. omega arith)) ∙ from xs (suc k) d q (omega arith)

  -- what stands at a number is what its place has
  at-place : (xs : List (Option V)) (q : ℕ) → at (numbered 0 xs) q ≡ get_or xs q None
  at-place xs q = from xs 0 q q (omega arith)

  pub get-place : (xs : List (Option V)) (q : ℕ) → get (dense xs) q ≡ get_or xs q None
  get-place xs q = get-view (numbered 0 xs) q ∙ at-place xs q

  set-place : (xs : List (Option V)) (k q : ℕ) (o : Option V) → k < length xs → get_or (set xs k o) q None ≡ cond (k == q) o (get_or xs q None)
  set-place xs k q o within = by_test (k == q) refl
    where
      by_test : (b : Bool) → (k == q) ≡ b → get_or (set xs k o) q None ≡ cond b o (get_or xs q None)
      by_test true e = ap (λ n. get_or (set xs k o) n None) (sym (eqb-true k q e)) ∙ get_or-set_same xs k o None within
      by_test false e = get_or-set_other xs k q o None (λ is. false≢true (sym e ∙ eq-eqb k q (sym is)))

  -- a place that gets a value, and one that loses its own
  pub place-put : (xs : List (Option V)) (k : ℕ) (v : V) → k < length xs → dense (set xs k (Some v)) ≡ insert (dense xs) k v
  place-put xs k v within = view-put (numbered 0 xs) (numbered 0 (set xs k (Some v))) (dense xs) k v refl
      (λ q. at-place (set xs k (Some v)) q ∙ set-place xs k q (Some v) within ∙ ap (cond (k == q) (Some v)) (sym (at-place xs q)))

  pub place-taken : (xs : List (Option V)) (k : ℕ) → k < length xs → dense (set xs k None) ≡ remove (dense xs) k
  place-taken xs k within = view-remove (numbered 0 xs) (numbered 0 (set xs k None)) (dense xs) k refl
      (λ q. at-place (set xs k None) q ∙ set-place xs k q None within ∙ ap (cond (k == q) None) (sym (at-place xs q)))

  -- Places behind that of 0 and so many that nobody has.
  abbrev pub laid : Option V → ℕ → List (Option V) → List (Option V)
  laid z skipped places = z ∷ (replicate skipped None ++ places)

  within : (skipped : ℕ) (ys : List (Option V)) (d p : ℕ) → d ≡ skipped + p → get_or (replicate skipped None ++ ys) d None ≡ get_or ys p None
  within zero ys d p is = let same : d ≡ p = omega arith in ap (λ n. get_or ys n None) same
  within (suc skipped) ys zero p is = absurd (omega arith)
  within (suc skipped) ys (suc d) p is = within skipped ys d p (omega arith)

  among : (skipped : ℕ) (ys : List (Option V)) (d : ℕ) → d < skipped → get_or (replicate skipped None ++ ys) d None ≡ None
  among zero ys d lt = absurd (omega arith)
  among (suc skipped) ys zero lt = refl
  among (suc skipped) ys (suc d) lt = among skipped ys d (omega arith)

  pub laid-at : (o : Option V) (skipped : ℕ) (xs : List (Option V)) (q p : ℕ) → q ≡ skipped + p + 1 → get_or (laid o skipped xs) q None ≡ get_or xs p None
  laid-at o skipped xs zero p is = absurd (omega arith)
  laid-at o skipped xs (suc q) p is = within skipped xs q p (omega arith)

  -- a number that is skipped has no value
  laid-none : (o : Option V) (skipped : ℕ) (xs : List (Option V)) (q : ℕ) → 0 < q → q ≤ skipped → get_or (laid o skipped xs) q None ≡ None
  laid-none o skipped xs zero least most = absurd (omega arith)
  laid-none o skipped xs (suc q) least most = among skipped xs q (omega arith)

  put-within : (skipped : ℕ) (ys : List (Option V)) (d p : ℕ) (o : Option V) → d ≡ skipped + p → (replicate skipped None ++ set ys p o) ≡ set (replicate skipped None ++ ys) d o
  put-within zero ys d p o is = let same : p ≡ d = omega arith in ap (λ n. set ys n o) same
  put-within (suc skipped) ys zero p o is = absurd (omega arith)
  put-within (suc skipped) ys (suc d) p o is = ap (λ zs. None ∷ zs) (put-within skipped ys d p o (omega arith))

  laid-set : (z : Option V) (skipped : ℕ) (xs : List (Option V)) (q p : ℕ) (o : Option V) → q ≡ skipped + p + 1 → laid z skipped (set xs p o) ≡ set (laid z skipped xs) q o
  laid-set z skipped xs zero p o is = absurd (omega arith)
  laid-set z skipped xs (suc q) p o is = ap (λ zs. z ∷ zs) (put-within skipped xs q p o (omega arith))

  longer : (skipped : ℕ) (ys : List (Option V)) → length (replicate skipped None ++ ys) ≡ skipped + length ys
  longer zero ys = omega arith
  longer (suc skipped) ys = let more = longer skipped ys in omega arith

  laid-long : (z : Option V) (skipped : ℕ) (xs : List (Option V)) (q p : ℕ) → q ≡ skipped + p + 1 → p < length xs → q < length (laid z skipped xs)
  laid-long z skipped xs q p is lt = let long = longer skipped xs in omega arith

  -- a place that gets a value, and one that loses its own
  pub laid-put : (z : Option V) (skipped : ℕ) (xs : List (Option V)) (q p : ℕ) (v : V) → q ≡ skipped + p + 1 → p < length xs → dense (laid z skipped (set xs p (Some v))) ≡ insert (dense (laid z skipped xs)) q v
  laid-put z skipped xs q p v is lt = ap dense (laid-set z skipped xs q p (Some v) is) ∙ place-put (laid z skipped xs) q v (laid-long z skipped xs q p is lt)

  pub laid-taken : (z : Option V) (skipped : ℕ) (xs : List (Option V)) (q p : ℕ) → q ≡ skipped + p + 1 → p < length xs → dense (laid z skipped (set xs p None)) ≡ remove (dense (laid z skipped xs)) q
  laid-taken z skipped xs q p is lt = ap dense (laid-set z skipped xs q p None is) ∙ place-taken (laid z skipped xs) q (laid-long z skipped xs q p is lt)

  -- the same of the place of 0
  pub zero-put : (z : Option V) (skipped : ℕ) (xs : List (Option V)) (v : V) → dense (laid (Some v) skipped xs) ≡ insert (dense (laid z skipped xs)) 0 v
  zero-put z skipped xs v = place-put (laid z skipped xs) 0 v (omega arith)

  pub zero-taken : (z : Option V) (skipped : ℕ) (xs : List (Option V)) → dense (laid None skipped xs) ≡ remove (dense (laid z skipped xs)) 0
  zero-taken z skipped xs = place-taken (laid z skipped xs) 0 (omega arith)

  -- Lists of places that have the same values.

  alike : (xs ys : List (Option V)) → ((q : ℕ) → get_or xs q None ≡ get_or ys q None) → dense xs ≡ dense ys
  alike xs ys each = same_map nat_cmp_total nat_cmp-IsAntisymmetric _ _ (λ q. get-place xs q ∙ each q ∙ sym (get-place ys q))

  nothing : (q : ℕ) → get_or {A = Option V} [] q None ≡ None
  nothing zero = refl
  nothing (suc q) = refl

  nowhere : (n q : ℕ) → get_or {A = Option V} (replicate n None) q None ≡ None
  nowhere zero q = nothing q
  nowhere (suc n) zero = refl
  nowhere (suc n) (suc q) = nowhere n q

  pub behind : (xs : List (Option V)) (n q : ℕ) → get_or (xs ++ replicate n None) q None ≡ get_or xs q None
  behind [] n q = nowhere n q ∙ sym (nothing q)
  behind (x ∷ xs) n zero = refl
  behind (x ∷ xs) n (suc q) = behind xs n q

  -- places more without values
  pub laid-more : (z : Option V) (skipped : ℕ) (xs : List (Option V)) (n : ℕ) → dense (laid z skipped (xs ++ replicate n None)) ≡ dense (laid z skipped xs)
  laid-more z skipped xs n =
      ap (λ zs. dense (z ∷ zs)) (sym (append_assoc (replicate skipped None) xs (replicate n None))) ∙ alike (laid z skipped xs ++ replicate n None) (laid z skipped xs) (behind (laid z skipped xs) n)

  -- as many places more in front as are skipped less
  pub laid-front : (z : Option V) (less n skipped : ℕ) (xs : List (Option V)) → skipped ≡ less + n → dense (laid z less (replicate n None ++ xs)) ≡ dense (laid z skipped xs)
  laid-front z less n skipped xs is =
      ap (λ zs. dense (z ∷ zs)) (sym (append_assoc (replicate less None) (replicate n None) xs) ∙ ap (λ ys. ys ++ xs) (replicate-append-replicate less n None ∙ ap (λ k. replicate k None) (sym is)))

  -- where there are no places it is not seen how many are skipped
  pub laid-empty : (z : Option V) (skipped skipped' : ℕ) (xs : List (Option V)) → xs ≡ [] → dense (laid z skipped xs) ≡ dense (laid z skipped' xs)
  laid-empty z skipped skipped' xs is = subst (λ (ys : List (Option V)). dense (laid z skipped ys) ≡ dense (laid z skipped' ys)) (sym is) (alike (laid z skipped []) (laid z skipped' []) each)
    where
      each : (q : ℕ) → get_or (laid z skipped []) q None ≡ get_or (laid z skipped' []) q None
      each zero = refl
      each (suc q) = behind-none skipped q ∙ sym (behind-none skipped' q)
        where
          behind-none : (n q : ℕ) → get_or {A = Option V} (replicate n None ++ []) q None ≡ None
          behind-none zero q = nothing q
          behind-none (suc n) zero = refl
          behind-none (suc n) (suc q) = behind-none n q

  flat : (o : Option (Option V)) → option_flatten o ≡ unwrap_or o None
  flat None = refl
  flat (Some x) = refl

  read-place : (xs : List (Option V)) (q : ℕ) → option_flatten (slice_get xs q) ≡ get_or xs q None
  read-place xs q = flat (slice_get xs q) ∙ unwrap_or-slice_get xs q None

  found : (xs : List (Option V)) (q : ℕ) (r : Option (Bor (Option V))) → IsItemAt xs q r → option_copied r ≡ slice_get xs q
  found xs q r is = by_place r is.0 is.1
    where
      by_place : (r : Option (Bor (Option V))) → is_some r ≡ ltb q (length xs) → IfSome r (λ x. x.now ≡ get_or xs q x.now) → option_copied r ≡ slice_get xs q
      by_place (Some x) there is = ap Some is ∙ sym (slice_get-get_or xs q x.now (ltb-true q (length xs) (sym there)))
      by_place None there is = sym (slice_get_past xs q (ltb-false q (length xs) (sym there)))

  -- what a look at a place finds
  pub found-at : (xs : List (Option V)) (q : ℕ) (r : Option (Bor (Option V))) → IsItemAt xs q r → option_flatten (option_copied r) ≡ get_or xs q None
  found-at xs q r is = ap option_flatten (found xs q r is) ∙ read-place xs q

  pub found-place : (z : Option V) (skipped : ℕ) (xs : List (Option V)) (q p : ℕ) (r : Option (Bor (Option V))) → q ≡ skipped + p + 1 → IsItemAt xs p r → option_flatten (option_copied r) ≡ get (dense (laid z skipped xs)) q
  found-place z skipped xs q p r stands is = ap option_flatten (found xs p r is) ∙ read-place xs p ∙ sym (get-place (laid z skipped xs) q ∙ laid-at z skipped xs q p stands)

  -- and where there is no place
  pub found-none : (z : Option V) (skipped : ℕ) (xs : List (Option V)) (q : ℕ) → 0 < q → q ≤ skipped → get (dense (laid z skipped xs)) q ≡ None
  found-none z skipped xs q least most = get-place (laid z skipped xs) q ∙ laid-none z skipped xs q least most

  pub found-zero : (z : Option V) (skipped : ℕ) (xs : List (Option V)) → z ≡ get (dense (laid z skipped xs)) 0
  found-zero z skipped xs = sym (get-place (laid z skipped xs) 0)

  pub inside : (xs : List (Option V)) (q : ℕ) → IsSome (get_or xs q None) → q < length xs
  inside [] q some = absurd (false≢true some)
  inside (x ∷ xs) zero some = omega arith
  inside (x ∷ xs) (suc q) some = let le = inside xs q some in omega arith

  -- what has a value has a place
  pub has-place : (z : Option V) (skipped : ℕ) (xs : List (Option V)) (m : FinMap nat_cmp V) (q p : ℕ) → q ≡ skipped + p + 1 → dense (laid z skipped xs) ≡ m → IsSome (get m q) → p < length xs
  has-place z skipped xs m q p stands is some = inside xs p (subst IsSome (sym (ap (λ n. get n q) is) ∙ get-place (laid z skipped xs) q ∙ laid-at z skipped xs q p stands) some)

  pub is-past : (z : Option V) (skipped : ℕ) (xs : List (Option V)) (m : FinMap nat_cmp V) (q : ℕ) → 0 < q → dense (laid z skipped xs) ≡ m → IsSome (get m q) → skipped < q
  is-past z skipped xs m q least is some = by_test (ltb skipped q) refl
    where
      by_test : (b : Bool) → ltb skipped q ≡ b → skipped < q
      by_test true e = ltb-true skipped q e
      by_test false e = absurd (false≢true (subst IsSome (sym (ap (λ n. get n q) is) ∙ found-none z skipped xs q least (ltb-false skipped q e)) some))

  -- a number that has no value loses none
  pub absent : (xs : List (Option V)) (k : ℕ) → get_or xs k None ≡ None → dense xs ≡ remove (dense xs) k
  absent xs k none = view-remove (numbered 0 xs) (numbered 0 xs) (dense xs) k refl (λ q. by_test (k == q) q refl)
    where
      by_test : (b : Bool) (q : ℕ) → (k == q) ≡ b → at (numbered 0 xs) q ≡ cond b None (at (numbered 0 xs) q)
      by_test true q e = at-place xs q ∙ ap (λ n. get_or xs n None) (sym (eqb-true k q e)) ∙ none
      by_test false q e = refl

  pub no-place : (z : Option V) (skipped : ℕ) (xs : List (Option V)) (q p : ℕ) → q ≡ skipped + p + 1 → length xs ≤ p → dense (laid z skipped xs) ≡ remove (dense (laid z skipped xs)) q
  no-place z skipped xs q p stands past = absent (laid z skipped xs) q (laid-at z skipped xs q p stands ∙ sym (unwrap_or-slice_get xs p None) ∙ ap (λ o. unwrap_or o None) (slice_get_past xs p past))

  pub no-number : (z : Option V) (skipped : ℕ) (xs : List (Option V)) (q : ℕ) → 0 < q → q ≤ skipped → dense (laid z skipped xs) ≡ remove (dense (laid z skipped xs)) q
  no-number z skipped xs q least most = absent (laid z skipped xs) q (laid-none z skipped xs q least most)
