-- What stands in a directory that is not stored, and what is set as it was.
use Rattle.std.proofs.Common.{◌≡◌, ℕ, Bool, true, false, Result, Ok, Err, List, [], ◌∷◌, length, arith, Some, None, cond, unwrap_or, refl, sym, ap, eq-eqb, subst, IsSome, ◌∙◌, Ordering}
use Rattle.std.specs.Prelude.{OnOk, IsOk}
use Rattle.std.proofs.lemmas.Bool.{false≢true}
use Rattle.ft_base.specs.declared.memory.Memory.{Memory}
use Rattle.std.specs.Ordering.{nat_cmp, eq_by_cmp}
use Rattle.std.specs.Cmp.{nat_cmp_total, unsigned_tied}
use Rattle.std.specs.Cmp.Lexicographic.{slice_cmp}
use Rattle.std.specs.Option.{option_flatten}
use Rattle.std.specs.List.{filter_map}
use Rattle.std.specs.FinMap.{FinMap, same_map, get, insert, empty, entries, get-empty, get-insert, len-empty, len-entries}
use Rattle.std.proofs.lemmas.Map.Lookups.{exact_unsigned}
use Rattle.ft_cells.specs.Cells.{Cells, no_dir, dir_entry, dir_names, entry_of, names_of, filled}
use Rattle.ft_cells.proofs.MapViews.{insert-same}

no_items : {A : Type 0} (xs : List A) → 0 ≡ length xs → xs ≡ []
no_items [] h = refl
no_items (x ∷ xs) h = absurd (omega arith)

pub entries-empty : {K : Type 0} (R : K → K → Ordering) (X : Type 0) → entries (empty {X = X} {R = R}) ≡ []
entries-empty R X = no_items _ (sym (len-empty R X) ∙ len-entries empty)

-- a directory that is not stored has no entry and no name
pub entry-not_stored : (cells : Cells) (d : ℕ) (name : List ℕ) → None ≡ get cells.directories d → None ≡ entry_of cells d name
entry-not_stored cells d name is =
    sym (ap option_flatten (get-empty (slice_cmp nat_cmp) name)) ∙ ap (λ o. dir_entry (unwrap_or o no_dir) name) is

pub names-not_stored : (cells : Cells) (d : ℕ) → None ≡ get cells.directories d → [] ≡ names_of cells d
names-not_stored cells d is =
    sym (ap (filter_map filled) (entries-empty (slice_cmp nat_cmp) _)) ∙ ap (λ o. dir_names (unwrap_or o no_dir)) is

-- a directory or file that is written as it was
pub put-same : {X : Type 0} (m : FinMap nat_cmp X) (d : ℕ) (x y : X) → Some x ≡ get m d → y ≡ x → insert m d y ≡ m
put-same m d x y is same = ap (insert m d) same ∙ insert-same nat_cmp_total exact_unsigned m d x is

shadowed : {A : Type 0} (b : Bool) (x y z : A) → cond b x (cond b y z) ≡ cond b x z
shadowed true x y z = refl
shadowed false x y z = refl

-- what is set at a key that was just set
pub put-twice : {X : Type 0} (old mid new : FinMap nat_cmp X) (d : ℕ) (x y : X) (r : Result (Unit {0}) Memory)
    → mid ≡ insert old d x → OnOk r (new ≡ insert mid d y) → (IsSome (get mid d) → IsOk r) → new ≡ insert old d y
put-twice old mid new d x y (Ok done) is put place =
    put ∙ ap (λ m. insert m d y) is
    ∙ same_map nat_cmp_total exact_unsigned _ _ (λ q.
    get-insert nat_cmp_total (insert old d x) d y q
    ∙ ap (cond (eq_by_cmp nat_cmp q d) (Some y)) (get-insert nat_cmp_total old d x q)
    ∙ shadowed (eq_by_cmp nat_cmp q d) (Some y) (Some x) (get old q)
    ∙ sym (get-insert nat_cmp_total old d y q))
put-twice old mid new d x y (Err memory) is put place =
    let there : get mid d ≡ Some x =
    ap (λ m. get m d) is ∙ get-insert nat_cmp_total old d x d ∙ ap (λ b. cond b (Some x) (get old d)) (unsigned_tied d d ∙ eq-eqb d d refl) in
    absurd (false≢true (place (subst IsSome (sym there) refl)))
