-- What stands in a directory's list of names.
use Rattle.std.proofs.Common.{◌≡◌, ℕ, true, false, cond, List, [], ◌∷◌, Option, Some, None, Ordering, refl, ap, ◌∙◌}
use Rattle.std.specs.Prelude.{T}
use Rattle.std.specs.declared.cmp.Ordering.TheVariants.{Less, Equal, Greater}
use Rattle.std.specs.Ordering.{nat_cmp, is_lt, is_eq, eq_by_cmp, ordering_reverse}
use Rattle.std.specs.Cmp.{IsTotalOrder, tied_itself}
use Rattle.std.specs.Cmp.Lexicographic.{slice_cmp, nat_list_cmp_total}
use Rattle.std.specs.Option.{option_flatten}
use Rattle.std.specs.List.{AllByRecursion, filter_map}
use Rattle.std.specs.FinMap.{FinMap, find, get, entries, entries_sorted, get-entries, is_sorted}
use Rattle.std.specs.FinMap.Entries.{below_all}
use Rattle.ft_cells.specs.declared.node.Node.{Node}
use Rattle.ft_cells.specs.Cells.{DirCells, filled, dir_names, dir_entry}
use Rattle.ft_cells.proofs.Conjunction.{both, first, second}

-- what tests as less is Less
pub lesser : (r : Ordering) → T (is_lt r) → r ≡ Less
lesser Less p = refl
lesser Equal p = absurd p
lesser Greater p = absurd p

-- a key above another does not tie with it
not_tied : {K : Type 0} {R : K → K → Ordering} → IsTotalOrder R → (x y : K) → T (is_lt (R x y)) → eq_by_cmp R y x ≡ false
not_tied {R = R} o x y p = ap is_eq (o.antisymm y x ∙ ap ordering_reverse (lesser (R x y) p))

-- what holds of each element is weakened at each
weaker : {A : Type 0} (P Q : A → Type 0) → ((e : A) → P e → Q e) → (es : List A) → AllByRecursion P es → AllByRecursion Q es
weaker P Q f [] h = tt
weaker P Q f (e ∷ es) h = (f e h.0, weaker P Q f es h.1)

module _ {K X : Type 0} (R : K → K → Ordering) (o : IsTotalOrder R) where
  -- each of these is found in a longer list, whose head is below them
  lifted : (e : K × X) (all es : List (K × X)) → T (below_all R e.0 es) → AllByRecursion (λ f. find R f.0 all ≡ Some f.1) es → AllByRecursion (λ f. find R f.0 (e ∷ all) ≡ Some f.1) es
  lifted e all [] b h = tt
  lifted e all (f ∷ fs) b h = (ap (λ t. cond t (Some e.1) (find R f.0 all)) (not_tied o e.0 f.0 (first _ _ b)) ∙ h.0, lifted e all fs (second _ _ b) h.1)

  -- each of a list in order is found in it
  each_found : (es : List (K × X)) → T (is_sorted R es) → AllByRecursion (λ f. find R f.0 es ≡ Some f.1) es
  each_found [] h = tt
  each_found (e ∷ es) h = (ap (λ r. cond (is_eq r) (Some e.1) (find R e.0 es)) (tied_itself o e.0), lifted e es es (first _ _ h) (each_found es (second _ _ h)))

  -- each entry is what `get` gives at its key
  pub entries-get : (m : FinMap R X) → AllByRecursion (λ e. get m e.0 ≡ Some e.1) (entries m)
  entries-get m = weaker _ _ (λ e h. get-entries m e.0 ∙ h) (entries m) (each_found (entries m) (entries_sorted m))

-- so each place that is not empty is an entry
filled-entry : (x : DirCells) (es : List (List ℕ × Option Node)) → AllByRecursion (λ e. get x.entries e.0 ≡ Some e.1) es → AllByRecursion (λ e. dir_entry x e.0 ≡ Some e.1) (filter_map filled es)
filled-entry x [] h = tt
filled-entry x ((name, None) ∷ es) h = filled-entry x es h.1
filled-entry x ((name, Some i) ∷ es) h = (ap option_flatten h.0, filled-entry x es h.1)

-- each name in a directory's list is an entry
pub dir_names-entry : (x : DirCells) → AllByRecursion (λ e. dir_entry x e.0 ≡ Some e.1) (dir_names x)
dir_names-entry x = filled-entry x _ (entries-get (slice_cmp nat_cmp) nat_list_cmp_total x.entries)

-- where each place is empty, none is found that is not
none_filled : (name : List ℕ) (es : List (List ℕ × Option Node)) → filter_map filled es ≡ [] → option_flatten (find (slice_cmp nat_cmp) name es) ≡ None
none_filled name [] h = refl
none_filled name ((other, None) ∷ es) h =
    elim (eq_by_cmp (slice_cmp nat_cmp) name other) as (λ b. option_flatten (cond b (Some None) (find (slice_cmp nat_cmp) name es)) ≡ None) [ true ↦ refl | false ↦ none_filled name es h ]
none_filled name ((other, Some i) ∷ es) h = cc

-- a directory whose list of names is empty has no entry
pub dir_entry-none : (x : DirCells) → dir_names x ≡ [] → (name : List ℕ) → dir_entry x name ≡ None
dir_entry-none x h name = ap option_flatten (get-entries x.entries name) ∙ none_filled name (entries x.entries) h

-- names are in order without the empty places too
below_filled : (name : List ℕ) (es : List (List ℕ × Option Node)) → T (below_all (slice_cmp nat_cmp) name es) → T (below_all (slice_cmp nat_cmp) name (filter_map filled es))
below_filled name [] h = tt
below_filled name ((other, None) ∷ es) h = below_filled name es (second _ _ h)
below_filled name ((other, Some x) ∷ es) h = both _ _ (first _ _ h) (below_filled name es (second _ _ h))

-- so they stay in order
pub sorted_filled : (es : List (List ℕ × Option Node)) → T (is_sorted (slice_cmp nat_cmp) es) → T (is_sorted (slice_cmp nat_cmp) (filter_map filled es))
sorted_filled [] h = tt
sorted_filled ((name, None) ∷ es) h = sorted_filled es (second _ _ h)
sorted_filled ((name, Some x) ∷ es) h = both _ _ (below_filled name es (first _ _ h)) (sorted_filled es (second _ _ h))
