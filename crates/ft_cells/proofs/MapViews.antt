-- The finite map that a `BTreeMap`'s entries make: what it has at a key, and what a write leaves.
use Rattle.std.proofs.Common.{◌≡◌, ◌+◌, ◌==◌, length, arith, eqb-true, ne_eqb, is_some, List, [], ◌∷◌, Some, None, IsSome, Bool, true, false, cond, subst, refl, sym, ap, ◌∙◌, Ordering}
use Rattle.std.proofs.lemmas.Bool.{false≢true}
use Rattle.std.specs.Ordering.{is_eq}
use Rattle.std.specs.declared.cmp.Ordering.TheVariants.{Less, Equal, Greater}
use Rattle.std.specs.Cmp.{IsTotalOrder, eq_by_cmp_equiv}
use Rattle.std.specs.BTreeMap.{is_at}
use Rattle.std.specs.Map.{lookup}
use Rattle.std.specs.FinMap.{FinMap, find, get, insert, remove, from_entries, get-insert, get-remove, get_tied, get-from_entries, same_map, len, contains_key, get-empty, len-empty, len-insert, empty_of_len}
use Rattle.std.proofs.lemmas.Map.Lookups.{CmpEqualImpliesEq}

eq_from_is_eq : (r : Ordering) → is_eq r ≡ true → r ≡ Equal
eq_from_is_eq Less h = absurd (false≢true h)
eq_from_is_eq Equal h = refl
eq_from_is_eq Greater h = absurd (false≢true h)

module _ {K X : Type 0} {R : K → K → Ordering} (o : IsTotalOrder R) where
  find_lookup : (es : List (K × X)) (q : K) → find R q es ≡ lookup (is_at (R q)) es
  find_lookup [] q = refl
  find_lookup (e ∷ es) q = ap (cond (is_at (R q) e.0) (Some e.1)) (find_lookup es q)

  -- what the map has at a key
  pub get-view : (es : List (K × X)) (q : K) → get (from_entries {R = R} es) q ≡ lookup (is_at (R q)) es
  get-view es q = get-from_entries o es q ∙ find_lookup es q

  -- entries that differ at one key make maps that differ there
  pub view-put : CmpEqualImpliesEq R → (es fs : List (K × X)) (k : K) (v : X)
      → ((q : K) → lookup (is_at (R q)) fs ≡ cond (is_at (R k) q) (Some v) (lookup (is_at (R q)) es)) → from_entries {R = R} fs ≡ insert (from_entries es) k v
  view-put exact es fs k v h = same_map o exact _ _ (λ q.
      get-view fs q ∙ h q ∙ ap (λ b. cond b (Some v) (lookup (is_at (R q)) es)) ((eq_by_cmp_equiv o).symm k q)
      ∙ sym (get-insert o (from_entries es) k v q ∙ ap (cond (is_at (R q) k) (Some v)) (get-view es q)))

  -- entries that have nothing at one key make a map without it
  pub view-remove : CmpEqualImpliesEq R → (es fs : List (K × X)) (k : K)
      → ((q : K) → lookup (is_at (R q)) fs ≡ cond (is_at (R k) q) None (lookup (is_at (R q)) es)) → from_entries {R = R} fs ≡ remove (from_entries es) k
  view-remove exact es fs k h = same_map o exact _ _ (λ q.
      get-view fs q ∙ h q ∙ ap (λ b. cond b None (lookup (is_at (R q)) es)) ((eq_by_cmp_equiv o).symm k q)
      ∙ sym (get-remove o (from_entries es) k q ∙ ap (cond (is_at (R q) k) None) (get-view es q)))

  -- where the entries have nothing at a key, the map has no place there
  pub no_place : (es : List (K × X)) (q : K) (m : FinMap R X) → from_entries es ≡ m → lookup (is_at (R q)) es ≡ None → IsSome (get m q) → ⊥
  no_place es q m is none place = false≢true (subst IsSome (ap (λ n. get n q) (sym is) ∙ get-view es q ∙ none) place)

  set_again : (m : FinMap R X) (k q : K) (v : X) → Some v ≡ get m k → (b : Bool) → is_eq (R q k) ≡ b → cond b (Some v) (get m q) ≡ get m q
  set_again m k q v is true e = is ∙ get_tied o m q k (eq_from_is_eq _ e)
  set_again m k q v is false e = refl

  -- to set what is there changes nothing
  pub insert-same : CmpEqualImpliesEq R → (m : FinMap R X) (k : K) (v : X) → Some v ≡ get m k → insert m k v ≡ m
  insert-same exact m k v is = same_map o exact _ _ (λ q. get-insert o m k v q ∙ set_again m k q v is _ refl)

  -- a key that is there makes it no empty map
  pub some_len : (m : FinMap R X) (k : K) → (b : Bool) → contains_key m k ≡ b → (cond b (len m) (len m + 1) == 0) ≡ false
  some_len m k true there = by_none (len m == 0) refl
    where
      by_none : (b : Bool) → (len m == 0) ≡ b → b ≡ false
      by_none true none = absurd (false≢true (sym (ap is_some (get-empty {X = X} R k)) ∙ sym (ap (λ n. contains_key n k) (empty_of_len m (eqb-true (len m) 0 none))) ∙ there))
      by_none false none = refl
  some_len m k false there = ne_eqb (len m + 1) 0 (λ e. absurd (omega arith))

  -- whether the map has no place
  pub none-view : (es : List (K × X)) → (length es == 0) ≡ (len (from_entries {R = R} es) == 0)
  none-view [] = sym (ap (λ n. n == 0) (len-empty R X))
  none-view (e ∷ es) = ne_eqb (length (e ∷ es)) 0 (λ h. absurd (omega arith)) ∙ sym (ap (λ n. n == 0) (len-insert o (from_entries es) e.0 e.1) ∙ some_len (from_entries es) e.0 _ refl)
