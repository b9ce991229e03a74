-- How many edges lead to a number.
use Rattle.std.proofs.Common.{◌≡◌, ◌≢◌, ℕ, ◌+◌, Bool, true, false, cond, ◌||◌, List, [], ◌∷◌, filter, length, Some, None, Ordering, arith, eqb-true, eq-eqb, refl, sym, ap, ◌∙◌}
use Rattle.std.specs.Prelude.{◌==◌, nat_lt}
use Rattle.std.proofs.lemmas.Bool.{false≢true, lt-ltb}
use Rattle.std.specs.declared.cmp.Ordering.TheVariants.{Less, Equal, Greater}
use Rattle.std.specs.Ordering.{is_eq, eq_by_cmp}
use Rattle.std.specs.Cmp.{tied_itself}
use Rattle.std.specs.List.{AllByRecursion, list_any}
use Rattle.std.specs.FinMap.{FinMap, find, put, get, insert, remove, entries, entries-insert, get-entries, get-insert, get-remove, same_map}
use Rattle.std.specs.FinMap.Entries.{by_order}
use Rattle.ft_cells.specs.Entries.{entry_cmp, entry_cmp_total, entry_cmp_exact}
use Rattle.ft_cells.specs.declared.entry.Entry.{Entry as DirEntry}
use Rattle.ft_cells.specs.declared.node.Node.{Node}
use Rattle.ft_cells.specs.Nodes.{number_of}
use Rattle.ft_posix.proofs.Listed.{entries-get}

abbrev pub count_edges : FinMap entry_cmp Node → ℕ → ℕ
count_edges m i = length (filter (λ e. number_of e.1 == i) (entries m))

-- of a list
abbrev counted : ℕ → List (DirEntry × Node) → ℕ
counted i es = length (filter (λ e. number_of e.1 == i) es)

-- one more, or not
length-cond : {A : Type 0} (b : Bool) (x : A) (xs : List A) → length (cond b (x ∷ xs) xs) ≡ cond b 1 0 + length xs
length-cond true x xs = omega arith
length-cond false x xs = omega arith

counted-cons : (i : ℕ) (e : DirEntry × Node) (es : List (DirEntry × Node)) → counted i (e ∷ es) ≡ cond (number_of e.1 == i) 1 0 + counted i es
counted-cons i e es = length-cond (number_of e.1 == i) e (filter (λ x. number_of x.1 == i) es)

later : (a b c d e : ℕ) → a ≡ b + c → c ≡ d + e → (f : ℕ) → f ≡ b + e → a ≡ d + f
later a b c d e p q f r = omega arith

-- one more, where the key is new
counted-put : (i : ℕ) (q : DirEntry) (j : Node) (es : List (DirEntry × Node)) → find entry_cmp q es ≡ None → counted i (put entry_cmp q j es) ≡ cond (number_of j == i) 1 0 + counted i es
counted-put i q j [] h = counted-cons i (q, j) []
counted-put i q j (e ∷ es) h = by_place (entry_cmp q e.0) h (counted-put i q j es)
  where
    by_place : (r : Ordering) → cond (is_eq r) (Some e.1) (find entry_cmp q es) ≡ None → (find entry_cmp q es ≡ None → counted i (put entry_cmp q j es) ≡ cond (number_of j == i) 1 0 + counted i es)
        → counted i (by_order r ((q, j) ∷ e ∷ es) ((e.0, j) ∷ es) (e ∷ put entry_cmp q j es)) ≡ cond (number_of j == i) 1 0 + counted i (e ∷ es)
    by_place Less none rest = counted-cons i (q, j) (e ∷ es)
    by_place Equal none rest = cc
    by_place Greater none rest = later _ (cond (number_of e.1 == i) 1 0) _ (cond (number_of j == i) 1 0) _ (counted-cons i e (put entry_cmp q j es)) (rest none) _ (counted-cons i e es)

pub count-insert : (m : FinMap entry_cmp Node) (e : DirEntry) (j : Node) (i : ℕ) → get m e ≡ None → count_edges (insert m e j) i ≡ cond (number_of j == i) 1 0 + count_edges m i
count-insert m e j i h = ap (counted i) (entries-insert entry_cmp_total m e j) ∙ counted-put i e j (entries m) (sym (get-entries m e) ∙ h)

-- what is taken away and put back
put_back : (m : FinMap entry_cmp Node) (e : DirEntry) (j : Node) → get m e ≡ Some j → insert (remove m e) e j ≡ m
put_back m e j h = same_map entry_cmp_total entry_cmp_exact _ _ (λ q. get-insert entry_cmp_total (remove m e) e j q ∙ ap (cond (eq_by_cmp entry_cmp q e) (Some j)) (get-remove entry_cmp_total m e q) ∙ by_tie q (eq_by_cmp entry_cmp q e) refl)
  where
    tied_from : (r : Ordering) → is_eq r ≡ true → r ≡ Equal
    tied_from Less is = absurd (false≢true is)
    tied_from Equal is = refl
    tied_from Greater is = absurd (false≢true is)

    by_tie : (q : DirEntry) (b : Bool) → eq_by_cmp entry_cmp q e ≡ b → cond b (Some j) (cond b None (get m q)) ≡ get m q
    by_tie q true is = sym (ap (get m) (entry_cmp_exact q e (tied_from _ is)) ∙ h)
    by_tie q false is = refl

pub count-remove : (m : FinMap entry_cmp Node) (e : DirEntry) (j : Node) (i : ℕ) → get m e ≡ Some j → cond (number_of j == i) 1 0 + count_edges (remove m e) i ≡ count_edges m i
count-remove m e j i h =
    sym (count-insert (remove m e) e j i (get-remove entry_cmp_total m e e ∙ ap (λ r. cond (is_eq r) None (get m e)) (tied_itself entry_cmp_total e))) ∙ ap (λ n. count_edges n i) (put_back m e j h)

-- where none is there, none is counted
counted-none : (m : FinMap entry_cmp Node) (i : ℕ) (es : List (DirEntry × Node)) → AllByRecursion (λ e. get m e.0 ≡ Some e.1) es → ((e : DirEntry) (x : Node) → get m e ≡ Some x → number_of x ≢ i) → counted i es ≡ 0
counted-none m i [] h none = refl
counted-none m i (e ∷ es) h none = by_number (number_of e.1 == i) refl (counted-none m i es h.1 none)
  where
    by_number : (b : Bool) → (number_of e.1 == i) ≡ b → counted i es ≡ 0 → length (cond b (e ∷ filter (λ x. number_of x.1 == i) es) (filter (λ x. number_of x.1 == i) es)) ≡ 0
    by_number true is rest = absurd (none e.0 e.1 h.0 (eqb-true (number_of e.1) i is))
    by_number false is rest = rest

pub count-none : (m : FinMap entry_cmp Node) (i : ℕ) → ((e : DirEntry) (x : Node) → get m e ≡ Some x → number_of x ≢ i) → count_edges m i ≡ 0
count-none m i none = counted-none m i (entries m) (entries-get entry_cmp entry_cmp_total m) none

-- one that is there is counted
pub count-some : (m : FinMap entry_cmp Node) (e : DirEntry) (x : Node) → get m e ≡ Some x → count_edges m (number_of x) ≢ 0
count-some m e x h none =
    let one : ◌≡◌ {A = ℕ} (cond (number_of x == number_of x) 1 0) 1 = ap (λ (b : Bool). cond {A = ℕ} b 1 0) (eq-eqb (number_of x) (number_of x) refl) in
    let sum = count-remove m e x (number_of x) h in absurd (omega arith)

-- some edge leads to a number where the count is not none
any-counted : (i : ℕ) (es : List (DirEntry × Node)) → list_any (λ e. number_of e.1 == i) es ≡ nat_lt 0 (counted i es)
any-counted i [] = refl
any-counted i (e ∷ es) = by_number (number_of e.1 == i) (any-counted i es)
  where
    by_number : (b : Bool) → list_any (λ x. number_of x.1 == i) es ≡ nat_lt 0 (counted i es)
        → (b || list_any (λ x. number_of x.1 == i) es) ≡ nat_lt 0 (length (cond b (e ∷ filter (λ x. number_of x.1 == i) es) (filter (λ x. number_of x.1 == i) es)))
    by_number true rest = sym (lt-ltb 0 (length (e ∷ filter (λ x. number_of x.1 == i) es)) (omega arith))
    by_number false rest = rest

pub any-count : (m : FinMap entry_cmp Node) (i : ℕ) → list_any (λ e. number_of e.1 == i) (entries m) ≡ nat_lt 0 (count_edges m i)
any-count m i = any-counted i (entries m)
