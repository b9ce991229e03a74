-- The change of what a stored file holds is that of the cells.
use Rattle.std.proofs.Common.{◌≡◌, ℕ, Some, cond, unwrap_or, refl, sym, ap, eq-eqb, ◌∙◌}
use Rattle.std.specs.Cmp.{nat_cmp_total, unsigned_tied}
use Rattle.std.specs.FinMap.{get, get-insert}
use Rattle.ft_cells.specs.Cells.{Cells, Contents, ContentsChange, FileCells, no_file, contents_of, put_file}

abbrev pub change : Contents → Contents → ContentsChange
change before after = record { before = before; after = after }

-- what is stored of a file that is set
get-put_file : (cells : Cells) (i : ℕ) (x : FileCells) → get (put_file cells i x).files i ≡ Some x
get-put_file cells i x =
    get-insert nat_cmp_total cells.files i x i ∙ ap (λ b. cond b (Some x) (get cells.files i)) (unsigned_tied i i ∙ eq-eqb i i refl)

-- the change of what a stored file holds is that of the cells
pub change-put : (cells now : Cells) (i : ℕ) (x y : FileCells) → cells ≡ now → Some x ≡ get cells.files i
    → change x.contents y.contents ≡ change (contents_of now i) (contents_of (put_file cells i y) i)
change-put cells now i x y same is =
    let before : x.contents ≡ contents_of now i = ap (λ o. (unwrap_or o no_file).contents) is ∙ ap (λ (c : Cells). contents_of c i) same in
    let after : y.contents ≡ contents_of (put_file cells i y) i = ap (λ o. (unwrap_or o no_file).contents) (sym (get-put_file cells i y)) in
    (λ j. change (before j) (after j))
