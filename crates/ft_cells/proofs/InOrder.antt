-- The entries of the finite map that entries in order make are these entries, in their order.
use Rattle.std.proofs.Common.{◌≡◌, List, [], ◌∷◌, sym, ap, subst, ◌∙◌, Ordering, Result, Ok, Err, IfOk, OnOk}
use Rattle.std.specs.Prelude.{T}
use Rattle.std.specs.declared.cmp.Ordering.TheVariants.{Less}
use Rattle.std.specs.Ordering.{is_lt}
use Rattle.std.specs.Cmp.{IsTotalOrder}
use Rattle.std.specs.List.{AllByRecursion}
use Rattle.std.specs.List.Sorted.{IsStrictlySortedBy}
use Rattle.std.specs.Map.{keys_of}
use Rattle.std.specs.FinMap.{is_sorted, entries, from_entries, from_sorted, get-from_entries, get-from_sorted, entries-from_sorted, same_map}
use Rattle.std.specs.FinMap.Entries.{below_all}
use Rattle.std.proofs.lemmas.Map.Keys.{sorted_head, sorted_tail}
use Rattle.std.proofs.lemmas.Map.Lookups.{CmpEqualImpliesEq}
use Rattle.ft_cells.proofs.Conjunction.{both}

module _ {K X : Type 0} (R : K → K → Ordering) where
  below_each : (k : K) (es : List (K × X)) → AllByRecursion (λ y. R k y ≡ Less) (keys_of es) → T (below_all R k es)
  below_each k [] h = tt
  below_each k (e ∷ es) h = both _ _ (subst (λ r. T (is_lt r)) (sym h.0) tt) (below_each k es h.1)

  rising : (es : List (K × X)) → IsStrictlySortedBy R (keys_of es) → T (is_sorted R es)
  rising [] h = tt
  rising (e ∷ es) h = both _ _ (below_each e.0 es (sorted_head R e.0 (keys_of es) h)) (rising es (sorted_tail R e.0 (keys_of es) h))

  -- entries in order are those of the map that they make
  pub entries-in_order : IsTotalOrder R → CmpEqualImpliesEq R → (es : List (K × X)) → T (is_sorted R es) → entries (from_entries {R = R} es) ≡ es
  entries-in_order o exact es up =
      ap entries (same_map o exact (from_entries es) (from_sorted es) (λ q. get-from_entries o es q ∙ sym (get-from_sorted R es q up))) ∙ entries-from_sorted R es up

  -- as those of a `BTreeMap` are
  pub entries-view : IsTotalOrder R → CmpEqualImpliesEq R → (es : List (K × X)) → IsStrictlySortedBy R (keys_of es) → entries (from_entries {R = R} es) ≡ es
  entries-view o exact es h = entries-in_order o exact es (rising es h)

-- two facts of the value that there is
pub if_ok_with : {T E Q : Type 0} {P S : T → Type 0} (r : Result T E) → ((x : T) → P x → Q → S x) → IfOk r P → OnOk r Q → IfOk r S
if_ok_with (Ok x) f p q = f x p q
if_ok_with (Err e) f p q = p

-- one fact of two, where there is a value
pub on_ok_with : {T E P Q S : Type 0} (r : Result T E) → (P → Q → S) → OnOk r P → OnOk r Q → OnOk r S
on_ok_with (Ok x) f p q = f p q
on_ok_with (Err e) f p q = p
