-- What is gathered from the entries of a finite map, and what they weigh, where one place is set
-- or taken away.
use Rattle.std.proofs.Common.{◌≡◌, ℕ, ◌+◌, true, cond, List, [], ◌∷◌, Option, Some, None, Ordering, arith, zero-add, refl, sym, ap, ◌∙◌}
use Rattle.std.specs.Prelude.{T}
use Rattle.std.specs.declared.cmp.Ordering.TheVariants.{Less, Equal, Greater}
use Rattle.std.specs.Ordering.{is_eq, is_lt, eq_by_cmp}
use Rattle.std.specs.Option.{option_map_or}
use Rattle.std.specs.Cmp.{IsTotalOrder}
use Rattle.std.specs.FinMap.{FinMap, find, get, insert, remove, entries, entries_sorted, is_sorted, get-entries, get-insert, get-remove, get_tied, entries-insert, same_map}
use Rattle.std.specs.FinMap.Entries.{put, by_order, below_all}
use Rattle.std.proofs.lemmas.Map.Lookups.{CmpEqualImpliesEq}
use Rattle.ft_cells.proofs.Conjunction.{first, second}
use Rattle.ft_cells.proofs.Splits.{by_test, tied_from}

lesser : (r : Ordering) → T (is_lt r) → r ≡ Less
lesser Less h = refl
lesser Equal h = absurd h
lesser Greater h = absurd h

module _ {K X : Type 0} {R : K → K → Ordering} (o : IsTotalOrder R) (exact : CmpEqualImpliesEq R) where
  -- a key that is below all of a list is not found in it
  find-below : (k x : K) (es : List (K × X)) → R k x ≡ Less → T (below_all R x es) → find R k es ≡ None
  find-below k x [] h b = refl
  find-below k x (e ∷ es) h b =
      ap (λ r. cond (is_eq r) (Some e.1) (find R k es)) (o.trans k x e.0 h (lesser _ (first _ _ b))) ∙ find-below k x es h (second _ _ b)

  -- to take a place away and set it again changes nothing
  pub put_back : (m : FinMap R X) (k : K) (x : X) → get m k ≡ Some x → m ≡ insert (remove m k) k x
  put_back m k x is = same_map o exact m (insert (remove m k) k x) (λ q.
      by_test (eq_by_cmp R q k)
      (λ t. get_tied o m k q (tied_from _ (tied_back q t)) ∙ is ∙ sym (get-insert o (remove m k) k x q ∙ ap (λ b. cond b (Some x) (get (remove m k) q)) t))
      (λ f. sym (get-insert o (remove m k) k x q ∙ ap (λ b. cond b (Some x) (get (remove m k) q)) f ∙ get-remove o m k q ∙ ap (λ b. cond b None (get m q)) f)))
    where
      tied_back : (q : K) → eq_by_cmp R q k ≡ true → eq_by_cmp R k q ≡ true
      tied_back q t = ap (λ x. eq_by_cmp R x q) (sym (exact q k (tied_from _ t))) ∙ ap (λ x. eq_by_cmp R q x) (exact q k (tied_from _ t)) ∙ t

  -- where there is no place, none is taken away
  pub remove_none : (m : FinMap R X) (k : K) → get m k ≡ None → remove m k ≡ m
  remove_none m k is = same_map o exact (remove m k) m (λ q.
      get-remove o m k q ∙ by_test (eq_by_cmp R q k)
      (λ t. ap (λ b. cond b None (get m q)) t ∙ sym is ∙ ap (get m) (sym (exact q k (tied_from _ t))))
      (λ f. ap (λ b. cond b None (get m q)) f))

  gone : (m : FinMap R X) (k : K) → eq_by_cmp R k k ≡ true → get (remove m k) k ≡ None
  gone m k t = get-remove o m k k ∙ ap (λ b. cond b None (get m k)) t

  module _ {A : Type 0} (h : K × X → A → A) (z : A) where
    abbrev pub gather : List (K × X) → A
    gather [] = z
    gather (e ∷ es) = h e (gather es)

    -- what the value at a key adds, if there is one
    abbrev pub part : K → Option X → A → A
    part k None r = r
    part k (Some x) r = h (k, x) r

    gather-put : (k : K) (v : X) (es : List (K × X)) → T (is_sorted R es) → ((r : A) → part k (find R k es) r ≡ h (k, v) r) → gather (put R k v es) ≡ gather es
    gather-put k v [] up same = sym (same z)
    gather-put k v (e ∷ es) up same = by_cmp (R k e.0) refl (gather-put k v es (second _ _ up)) same
      where
        by_cmp : (r : Ordering) → R k e.0 ≡ r → (((a : A) → part k (find R k es) a ≡ h (k, v) a) → gather (put R k v es) ≡ gather es) → ((a : A) → part k (cond (is_eq r) (Some e.1) (find R k es)) a ≡ h (k, v) a)
            → gather (by_order r ((k, v) ∷ e ∷ es) ((e.0, v) ∷ es) (e ∷ put R k v es)) ≡ h e (gather es)
        by_cmp Less is rest same = sym (same (h e (gather es))) ∙ ap (λ x. part k x (h e (gather es))) (find-below k e.0 es is (first _ _ up))
        by_cmp Equal is rest same = ap (λ q. h (q, v) (gather es)) (sym (exact k e.0 is)) ∙ sym (same (gather es)) ∙ ap (λ q. h (q, e.1) (gather es)) (exact k e.0 is)
        by_cmp Greater is rest same = ap (h e) (rest same)

    -- a value that adds as much as the one before
    pub gather-insert : (m : FinMap R X) (k : K) (v : X) → ((r : A) → part k (get m k) r ≡ h (k, v) r) → gather (entries (insert m k v)) ≡ gather (entries m)
    gather-insert m k v same =
        ap gather (entries-insert o m k v) ∙ gather-put k v (entries m) (entries_sorted m) (λ r. ap (λ x. part k x r) (sym (get-entries m k)) ∙ same r)

    -- a place that adds nothing
    pub gather-remove : (m : FinMap R X) (k : K) (x : X) → eq_by_cmp R k k ≡ true → get m k ≡ Some x → ((r : A) → h (k, x) r ≡ r) → gather (entries (remove m k)) ≡ gather (entries m)
    gather-remove m k x t is nothing =
        sym (ap (λ n. gather (entries n)) (put_back m k x is) ∙ gather-insert (remove m k) k x (λ r. ap (λ y. part k y r) (gone m k t) ∙ sym (nothing r)))

  module _ (w : X → ℕ) where
    -- what all values weigh together
    abbrev pub weight : List (K × X) → ℕ
    weight [] = 0
    weight (e ∷ es) = w e.1 + weight es

    abbrev pub weight_at : Option X → ℕ
    weight_at x = option_map_or w x 0

    swap : (a b c : ℕ) → a + (b + c) ≡ b + (a + c)
    swap a b c = omega arith

    later : (a b c d x : ℕ) → a + b ≡ c + d → a + (x + b) ≡ c + (x + d)
    later a b c d x h = omega arith

    weight-put : (k : K) (v : X) (es : List (K × X)) → T (is_sorted R es) → weight_at (find R k es) + weight (put R k v es) ≡ w v + weight es
    weight-put k v [] up = zero-add _
    weight-put k v (e ∷ es) up = by_cmp (R k e.0) refl (weight-put k v es (second _ _ up))
      where
        by_cmp : (r : Ordering) → R k e.0 ≡ r → weight_at (find R k es) + weight (put R k v es) ≡ w v + weight es
            → weight_at (cond (is_eq r) (Some e.1) (find R k es)) + weight (by_order r ((k, v) ∷ e ∷ es) ((e.0, v) ∷ es) (e ∷ put R k v es)) ≡ w v + (w e.1 + weight es)
        by_cmp Less is rest = ap (λ x. weight_at x + (w v + (w e.1 + weight es))) (find-below k e.0 es is (first _ _ up)) ∙ zero-add _
        by_cmp Equal is rest = swap (w e.1) (w v) (weight es)
        by_cmp Greater is rest = later (weight_at (find R k es)) (weight (put R k v es)) (w v) (weight es) (w e.1) rest

    -- a place that is set: the value before went, and the new one came
    pub weight-insert : (m : FinMap R X) (k : K) (v : X) → weight_at (get m k) + weight (entries (insert m k v)) ≡ w v + weight (entries m)
    weight-insert m k v =
        (λ i. weight_at (get-entries m k i) + weight (entries-insert o m k v i)) ∙ weight-put k v (entries m) (entries_sorted m)

    -- a place that is taken away
    pub weight-remove : (m : FinMap R X) (k : K) → eq_by_cmp R k k ≡ true → weight_at (get m k) + weight (entries (remove m k)) ≡ weight (entries m)
    weight-remove m k t = by_place (get m k) refl
      where
        by_place : (x : Option X) → get m k ≡ x → weight_at x + weight (entries (remove m k)) ≡ weight (entries m)
        by_place None is = zero-add _ ∙ ap (λ n. weight (entries n)) (remove_none m k is)
        by_place (Some x) is =
            sym (ap (λ n. weight (entries n)) (put_back m k x is) ∙ sym (zero-add _) ∙ (ap (λ y. weight_at y + weight (entries (insert (remove m k) k x))) (sym (gone m k t)) ∙ weight-insert (remove m k) k x))
