-- The symbolic links to which edges lead, as a loop over rows gathers their numbers.
use Rattle.std.proofs.Common.{◌≡◌, ℕ, ◌+◌, ◌<◌, Bool, true, false, cond, Some, None, Option, List, [], ◌∷◌, take, length, get_or, refl, ap, sym, ◌∙◌}
use Rattle.std.specs.Prelude.{◌==◌, ◌||◌, is_some}
use Rattle.std.specs.Ordering.{nat_cmp, eq_by_cmp}
use Rattle.std.specs.Cmp.{nat_cmp_total, unsigned_tied}
use Rattle.std.specs.FinMap.{FinMap, contains_key, empty, get, insert, get-empty, get-insert}
use Rattle.std.specs.List.{cons_option, filter_map, list_any}
use Rattle.std.proofs.lemmas.List.{take_more}
use Rattle.std.proofs.lemmas.List.Elements.{filter_map-append}
use Rattle.std.proofs.lemmas.List.Folds.{list_any-append}
use Rattle.ft_cells.specs.declared.row.TreeRow.{TreeRow}
use Rattle.ft_words.specs.Texts.{link_in, is_link}

-- the numbers are those of the links to which these rows lead
abbrev pub Gathers : FinMap nat_cmp (Unit {0}) → List TreeRow → Type 0
Gathers links rows = (number : ℕ) → contains_key links number ≡ is_link rows number

pub none_yet : Gathers empty []
none_yet = λ number. ap is_some (get-empty nat_cmp number)

or_none : (b : Bool) → b ≡ (b || false)
or_none true = refl
or_none false = refl

by_test : (b : Bool) (found : Option (Unit {0})) → is_some (cond b (Some tt) found) ≡ (is_some found || (b || false))
by_test true None = refl
by_test true (Some x) = refl
by_test false None = refl
by_test false (Some x) = refl

-- whether one of these is the link of that number
abbrev Is : ℕ → List ℕ → Bool
Is number links = list_any (λ link. number == link) links

module _ (rows : List TreeRow) (i : ℕ) (d : TreeRow) (below : i < length rows) (number : ℕ) where
  one_more : is_link (take (i + 1) rows) number ≡ (is_link (take i rows) number || Is number (cons_option (link_in (get_or rows i d)) []))
  one_more =
      ap (λ few. is_link few number) (take_more rows i d below)
      ∙ ap (Is number) (filter_map-append link_in (take i rows) (get_or rows i d ∷ []))
      ∙ list_any-append (λ link. number == link) (filter_map link_in (take i rows)) (cons_option (link_in (get_or rows i d)) [])

-- a row that leads to no link
pub passed : (links : FinMap nat_cmp (Unit {0})) (rows : List TreeRow) (i : ℕ) (d : TreeRow) → i < length rows → Gathers links (take i rows) → link_in (get_or rows i d) ≡ None → Gathers links (take (i + 1) rows)
passed links rows i d below so_far none = λ number.
    so_far number ∙ or_none _ ∙ ap (λ (led : Option ℕ). is_link (take i rows) number || Is number (cons_option led [])) (sym none) ∙ sym (one_more rows i d below number)

-- a row that leads to one
pub gathered : (links : FinMap nat_cmp (Unit {0})) (rows : List TreeRow) (i : ℕ) (d : TreeRow) (link : ℕ) → i < length rows → Gathers links (take i rows) → link_in (get_or rows i d) ≡ Some link → Gathers (insert links link tt) (take (i + 1) rows)
gathered links rows i d link below so_far some = λ number.
    ap is_some (get-insert nat_cmp_total links link tt number)
    ∙ by_test (eq_by_cmp nat_cmp number link) (get links number)
    ∙ ap (λ b. contains_key links number || (b || false)) (unsigned_tied number link)
    ∙ ap (λ b. b || ((number == link) || false)) (so_far number)
    ∙ ap (λ (led : Option ℕ). is_link (take i rows) number || Is number (cons_option led [])) (sym some)
    ∙ sym (one_more rows i d below number)
