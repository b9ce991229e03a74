-- Which files the descriptions name.
use Rattle.std.proofs.Common.{◌≡◌, ℕ, Bool, true, false, cond, ◌||◌, List, [], ◌∷◌, Option, Some, None, eqb-true, eq-eqb, refl, sym, ap, ◌∙◌}
use Rattle.std.specs.Prelude.{◌==◌}
use Rattle.std.proofs.lemmas.Bool.{false≢true}
use Rattle.std.proofs.Math.Bool.{or-true}
use Rattle.std.specs.Ordering.{nat_cmp, eq_by_cmp}
use Rattle.std.specs.Cmp.{nat_cmp_total}
use Rattle.std.specs.Option.{option_flatten, option_map_or}
use Rattle.std.specs.List.{AllByRecursion, list_any}
use Rattle.std.specs.FinMap.{find, get, entries, get-entries}
use Rattle.ft_cells.specs.declared.open_file.OpenFile.{OpenFile}
use Rattle.ft_cells.specs.Cells.{Cells, Opens, open_of, is_of_file, is_open}
use Rattle.ft_posix.proofs.Listed.{entries-get}

-- some description names file i
abbrev pub HasDescription : (ℕ → Option OpenFile) → ℕ → Type 0
HasDescription open_at i = (f : ℕ) × (o : OpenFile) × (open_at f ≡ Some o) × (o.file ≡ i)

-- what is found is one of the list
found-any : (f : ℕ) (o : OpenFile) (es : List (ℕ × Option OpenFile)) → option_flatten (find nat_cmp f es) ≡ Some o → list_any (is_of_file o.file) es ≡ true
found-any f o [] h = cc
found-any f o (e ∷ es) h = by_tie (eq_by_cmp nat_cmp f e.0) (found-any f o es) h
  where
    by_place : (p : Option OpenFile) → p ≡ Some o → (option_map_or (λ (x : OpenFile). x.file == o.file) p false || list_any (is_of_file o.file) es) ≡ true
    by_place None is = cc
    by_place (Some x) is = ap (λ p. option_map_or (λ (x : OpenFile). x.file == o.file) p false || list_any (is_of_file o.file) es) is ∙ ap (λ b. b || list_any (is_of_file o.file) es) (eq-eqb o.file o.file refl)

    by_tie : (b : Bool) → (option_flatten (find nat_cmp f es) ≡ Some o → list_any (is_of_file o.file) es ≡ true) → option_flatten (cond b (Some e.1) (find nat_cmp f es)) ≡ Some o → (is_of_file o.file e || list_any (is_of_file o.file) es) ≡ true
    by_tie true rest is = by_place e.1 is
    by_tie false rest is = ap (λ b. is_of_file o.file e || b) (rest is) ∙ or-true (is_of_file o.file e)

-- one of the list is found
any-found : (m : Opens) (i : ℕ) (es : List (ℕ × Option OpenFile)) → AllByRecursion (λ e. get m e.0 ≡ Some e.1) es → list_any (is_of_file i) es ≡ true → HasDescription (λ f. option_flatten (get m f)) i
any-found m i [] h any = absurd (false≢true any)
any-found m i ((f, None) ∷ es) h any = any-found m i es h.1 any
any-found m i ((f, Some o) ∷ es) h any = by_file (o.file == i) refl (any-found m i es h.1) any
  where
    by_file : (b : Bool) → (o.file == i) ≡ b → (list_any (is_of_file i) es ≡ true → HasDescription (λ f. option_flatten (get m f)) i) → (b || list_any (is_of_file i) es) ≡ true → HasDescription (λ f. option_flatten (get m f)) i
    by_file true is rest any = (f, o, ap option_flatten h.0, eqb-true o.file i is)
    by_file false is rest any = rest any

-- a file that a description names is open
pub get-is_open : (m : Opens) (f : ℕ) (o : OpenFile) → option_flatten (get m f) ≡ Some o → is_open m o.file ≡ true
get-is_open m f o h = found-any f o (entries m) (ap option_flatten (sym (get-entries m f)) ∙ h)

-- and a file that is open is named by one
pub is_open-get : (m : Opens) (i : ℕ) → is_open m i ≡ true → HasDescription (λ f. option_flatten (get m f)) i
is_open-get m i h = any-found m i (entries m) (entries-get nat_cmp nat_cmp_total m) h

pub open-named : (cells : Cells) (f : ℕ) (o : OpenFile) → open_of cells f ≡ Some o → is_open cells.opens o.file ≡ true
open-named cells f o h = get-is_open cells.opens f o h

pub named-open : (cells : Cells) (i : ℕ) → is_open cells.opens i ≡ true → (f : ℕ) × (o : OpenFile) × (open_of cells f ≡ Some o) × (o.file ≡ i)
named-open cells i h = is_open-get cells.opens i h

-- the same descriptions have the same files open
pub is_open-alike : (m n : Opens) → ((f : ℕ) → option_flatten (get m f) ≡ option_flatten (get n f)) → (i : ℕ) → is_open m i ≡ is_open n i
is_open-alike m n same i = by_both (is_open m i) (is_open n i) refl refl
  where
    over : (m n : Opens) → ((f : ℕ) → option_flatten (get m f) ≡ option_flatten (get n f)) → is_open m i ≡ true → is_open n i ≡ true
    over m n same is = let x = is_open-get m i is in ap (is_open n) (sym x.3) ∙ get-is_open n x.0 x.1 (sym (same x.0) ∙ x.2)

    by_both : (a b : Bool) → is_open m i ≡ a → is_open n i ≡ b → is_open m i ≡ is_open n i
    by_both true b p q = p ∙ sym (over m n same p)
    by_both false true p q = over n m (λ f. sym (same f)) q ∙ sym q
    by_both false false p q = p ∙ sym q
