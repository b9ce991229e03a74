-- How many descriptions a file has, where a place is set or taken away.
use Rattle.std.proofs.Common.{◌≡◌, ℕ, ◌+◌, ◌-◌, suc, Bool, true, false, cond, ◌==◌, ◌||◌, List, [], ◌∷◌, filter, length, Option, Some, None, unwrap_or, arith, zero-add, lt-ltb, nat_lt, Result, Ok, Err, is_ok, OnOk, eq-eqb, eqb-true, refl, sym, ap, ◌∙◌}
use Rattle.std.proofs.lemmas.Bool.{false≢true}
use Rattle.std.proofs.Math.Bool.{or-true}
use Rattle.std.specs.Ordering.{nat_cmp, eq_by_cmp}
use Rattle.std.specs.Cmp.{nat_cmp_total, unsigned_tied}
use Rattle.std.specs.Option.{option_flatten, option_map, option_map_or}
use Rattle.std.specs.List.{list_any}
use Rattle.std.specs.FinMap.{FinMap, find, get, insert, remove, empty, entries, get-empty, get-entries, get-insert, get-remove}
use Rattle.std.proofs.lemmas.Map.Lookups.{exact_unsigned}
use Rattle.ft_cells.specs.declared.open_file.OpenFile.{OpenFile}
use Rattle.ft_cells.specs.Cells.{Opens, is_of_file, is_open}
use Rattle.ft_open_files.specs.Openings.{openings, described, AreCounts, one_of}
use Rattle.ft_cells.proofs.CellViews.{entries-empty}
use Rattle.ft_cells.proofs.Splits.{by_test, tied-itself}
use Rattle.ft_cells.proofs.Gathered.{weight, weight_at, weight-insert, weight-remove}

-- the description in a place is one of file i
abbrev names : ℕ → Option OpenFile → Bool
names i place = option_map_or (λ (x : OpenFile). x.file == i) place false

abbrev once : ℕ → Option OpenFile → ℕ
once i place = cond (names i place) 1 0

abbrev file_in : Option OpenFile → Option ℕ
file_in place = option_map (λ (x : OpenFile). x.file) place

one_more : (a b : ℕ) → a ≡ b → suc a ≡ 1 + b
one_more a b h = omega arith

none_less : (a : ℕ) → nat_lt 0 (suc a) ≡ true
none_less a = lt-ltb 0 (suc a) (omega arith)

counted-list : (i : ℕ) (es : List (ℕ × Option OpenFile)) → length (filter (is_of_file i) es) ≡ weight nat_cmp_total exact_unsigned (once i) es
counted-list i [] = refl
counted-list i (e ∷ es) = by_file (names i e.1) (counted-list i es)
  where
    by_file : (b : Bool) → length (filter (is_of_file i) es) ≡ weight nat_cmp_total exact_unsigned (once i) es → length (cond b (e ∷ filter (is_of_file i) es) (filter (is_of_file i) es)) ≡ cond b 1 0 + weight nat_cmp_total exact_unsigned (once i) es
    by_file true h = one_more _ _ h
    by_file false h = h ∙ sym (zero-add _)

-- a place names a file once, or not
one-place : (i : ℕ) (place : Option (Option OpenFile)) → weight_at nat_cmp_total exact_unsigned (once i) place ≡ one_of (file_in (option_flatten place)) i
one-place i None = refl
one-place i (Some None) = refl
one-place i (Some (Some o)) = refl

-- what goes and what comes, where a place is set
pub openings-insert : (m : Opens) (f : ℕ) (to : Option OpenFile) (i : ℕ) → one_of (file_in (option_flatten (get m f))) i + openings (insert m f to) i ≡ one_of (file_in to) i + openings m i
openings-insert m f to i =
    (λ j. sym (one-place i (get m f)) j + counted-list i (entries (insert m f to)) j)
    ∙ weight-insert nat_cmp_total exact_unsigned (once i) m f to
    ∙ (λ j. one-place i (Some to) j + sym (counted-list i (entries m)) j)

-- and where it is taken away
pub openings-remove : (m : Opens) (f : ℕ) (i : ℕ) → one_of (file_in (option_flatten (get m f))) i + openings (remove m f) i ≡ openings m i
openings-remove m f i =
    (λ j. sym (one-place i (get m f)) j + counted-list i (entries (remove m f)) j)
    ∙ weight-remove nat_cmp_total exact_unsigned (once i) m f (tied-itself nat_cmp_total f)
    ∙ sym (counted-list i (entries m))

pub openings-empty : (i : ℕ) → openings empty i ≡ 0
openings-empty i = ap (λ es. length (filter (is_of_file i) es)) (entries-empty nat_cmp (Option OpenFile))

-- a file is open where it has a description
any-list : (i : ℕ) (es : List (ℕ × Option OpenFile)) → nat_lt 0 (length (filter (is_of_file i) es)) ≡ list_any (is_of_file i) es
any-list i [] = refl
any-list i (e ∷ es) = by_file (names i e.1) (any-list i es)
  where
    by_file : (b : Bool) → nat_lt 0 (length (filter (is_of_file i) es)) ≡ list_any (is_of_file i) es → nat_lt 0 (length (cond b (e ∷ filter (is_of_file i) es) (filter (is_of_file i) es))) ≡ (b || list_any (is_of_file i) es)
    by_file true h = none_less _
    by_file false h = h

pub open-openings : (m : Opens) (i : ℕ) → nat_lt 0 (openings m i) ≡ is_open m i
open-openings m i = any-list i (entries m)

-- an empty place that goes leaves each file as open as it was
pub is_open-remove : (m : Opens) (f : ℕ) → option_flatten (get m f) ≡ None → (i : ℕ) → is_open (remove m f) i ≡ is_open m i
is_open-remove m f none i =
    sym (open-openings (remove m f) i)
    ∙ ap (nat_lt 0) (sym (zero-add _) ∙ sym (ap (λ o. one_of (file_in o) i + openings (remove m f) i) none) ∙ openings-remove m f i)
    ∙ open-openings m i

-- a description of a file has it open
found-open : (f : ℕ) (o : OpenFile) (es : List (ℕ × Option OpenFile)) → option_flatten (find nat_cmp f es) ≡ Some o → list_any (is_of_file o.file) es ≡ true
found-open f o [] h = cc
found-open f o (e ∷ es) h = by_tie (eq_by_cmp nat_cmp f e.0) (found-open f o es) h
  where
    by_tie : (b : Bool) → (option_flatten (find nat_cmp f es) ≡ Some o → list_any (is_of_file o.file) es ≡ true) → option_flatten (cond b (Some e.1) (find nat_cmp f es)) ≡ Some o → (is_of_file o.file e || list_any (is_of_file o.file) es) ≡ true
    by_tie true rest is = ap (λ p. option_map_or (λ (x : OpenFile). x.file == o.file) p false || list_any (is_of_file o.file) es) is ∙ ap (λ b. b || list_any (is_of_file o.file) es) (eq-eqb o.file o.file refl)
    by_tie false rest is = ap (λ b. is_of_file o.file e || b) (rest is) ∙ or-true (is_of_file o.file e)

pub described-open : (m : Opens) (f : ℕ) (o : OpenFile) → option_flatten (get m f) ≡ Some o → is_open m o.file ≡ true
described-open m f o h = found-open f o (entries m) (ap option_flatten (sym (get-entries m f)) ∙ h)

-- The counts.

pub described-empty : (i : ℕ) → described empty i ≡ 0
described-empty i = ap (λ o. unwrap_or o 0) (get-empty nat_cmp i)

pub described-insert : (counts : FinMap nat_cmp ℕ) (j n i : ℕ) → described (insert counts j n) i ≡ cond (j == i) n (described counts i)
described-insert counts j n i =
    ap (λ o. unwrap_or o 0) (get-insert nat_cmp_total counts j n i) ∙ by_test (j == i)
    (λ t. ap (λ b. unwrap_or (cond b (Some n) (get counts i)) 0) (unsigned_tied i j ∙ eq-eqb i j (sym (eqb-true j i t))) ∙ sym (ap (λ b. cond b n (described counts i)) t))
    (λ f. ap (λ b. unwrap_or (cond b (Some n) (get counts i)) 0) (unsigned_tied i j ∙ apart f) ∙ sym (ap (λ b. cond b n (described counts i)) f))
  where
    apart : (j == i) ≡ false → (i == j) ≡ false
    apart f = by_test (i == j) (λ t. absurd (false≢true (sym f ∙ eq-eqb j i (sym (eqb-true i j t))))) (λ g. g)

pub described-add : (counts new : FinMap nat_cmp ℕ) (j n : ℕ) → new ≡ insert counts j n → n ≡ described counts j + 1 → (i : ℕ) → described new i ≡ one_of (Some j) i + described counts i
described-add counts new j n is more i =
    ap (λ m. described m i) is ∙ described-insert counts j n i ∙ by_test (j == i)
    (λ t. ap (λ b. cond b n (described counts i)) t ∙ more ∙ ap (λ k. described counts k + 1) (eqb-true j i t) ∙ turned (described counts i) ∙ sym (ap (λ b. cond b 1 0 + described counts i) t))
    (λ f. ap (λ b. cond b n (described counts i)) f ∙ sym (zero-add _) ∙ sym (ap (λ b. cond b 1 0 + described counts i) f))
  where
    turned : (a : ℕ) → a + 1 ≡ 1 + a
    turned a = omega arith

pub described-take : (counts new : FinMap nat_cmp ℕ) (j n : ℕ) → new ≡ insert counts j n → n ≡ described counts j - 1 → (i : ℕ) → described new i ≡ described counts i - one_of (Some j) i
described-take counts new j n is less i =
    ap (λ m. described m i) is ∙ described-insert counts j n i ∙ by_test (j == i)
    (λ t. ap (λ b. cond b n (described counts i)) t ∙ less ∙ ap (λ k. described counts k - 1) (eqb-true j i t) ∙ sym (ap (λ b. described counts i - cond b 1 0) t))
    (λ f. ap (λ b. cond b n (described counts i)) f ∙ nothing (described counts i) ∙ sym (ap (λ b. described counts i - cond b 1 0) f))
  where
    nothing : (a : ℕ) → a ≡ a - 0
    nothing a = omega arith

-- a count that is none may go
pub described-forget : (counts : FinMap nat_cmp ℕ) (j : ℕ) → described counts j ≡ 0 → (i : ℕ) → described (remove counts j) i ≡ described counts i
described-forget counts j none i =
    ap (λ o. unwrap_or o 0) (get-remove nat_cmp_total counts j i) ∙ by_test (eq_by_cmp nat_cmp i j)
    (λ t. ap (λ b. unwrap_or (cond b None (get counts i)) 0) t ∙ sym none ∙ ap (described counts) (sym (eqb-true i j (sym (unsigned_tied i j) ∙ t))))
    (λ f. ap (λ b. unwrap_or (cond b None (get counts i)) 0) f)

-- one came and one went
pub counts-moved : (come gone : Option ℕ) (n m : ℕ → ℕ) (old mid new : FinMap nat_cmp ℕ) → AreCounts old n → ((i : ℕ) → described mid i ≡ one_of come i + described old i) → ((i : ℕ) → described new i ≡ described mid i - one_of gone i)
    → ((i : ℕ) → one_of gone i + m i ≡ one_of come i + n i) → AreCounts new m
counts-moved come gone n m old mid new were came went same i =
    went i ∙ ap (λ x. x - one_of gone i) (came i ∙ ap (λ x. one_of come i + x) (were i)) ∙ left (one_of gone i) (one_of come i) (n i) (m i) (same i)
  where
    left : (g c a b : ℕ) → g + b ≡ c + a → (c + a) - g ≡ b
    left g c a b h = omega arith

-- the same went and came
pub counts-same : (come gone : Option ℕ) (n m : ℕ → ℕ) (old : FinMap nat_cmp ℕ) → gone ≡ come → AreCounts old n → ((i : ℕ) → one_of gone i + m i ≡ one_of come i + n i) → AreCounts old m
counts-same come gone n m old is were same i = were i ∙ sym (left (one_of come i) (n i) (m i) (sym (ap (λ o. one_of o i + m i) is) ∙ same i))
  where
    left : (c a b : ℕ) → c + b ≡ c + a → b ≡ a
    left c a b h = omega arith

-- what is so where a result is there
pub where_ok : {T E P : Type 0} (r : Result T E) → is_ok r ≡ true → OnOk r P → P
where_ok (Ok x) is p = p
where_ok (Err e) is p = absurd (false≢true is)
