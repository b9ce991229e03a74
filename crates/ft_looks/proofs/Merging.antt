-- What is noted of cells, sorted and merged, is each cell once, as it was noted last.
use Rattle.std.proofs.Common.{◌≡◌, ℕ, suc, Bool, true, false, cond, not, ◌&&◌, ◌+◌, List, [], ◌∷◌, get_or, Option, Some, refl, sym, ap, ◌∙◌, subst, arith}
use Rattle.std.specs.Prelude.{T, filter}
use Rattle.std.specs.Bool.{MatchBool}
use Rattle.std.specs.declared.cmp.Ordering.{Ordering}
use Rattle.std.specs.declared.cmp.Ordering.TheVariants.{Less, Equal, Greater}
use Rattle.std.specs.Ordering.{is_lt, is_eq, eq_by_cmp, ordering_reverse}
use Rattle.std.specs.Cmp.{Equal-is, IsStrictWeakOrder}
use Rattle.std.proofs.lemmas.List.Sorted.{ranks_by}
use Rattle.std.specs.List.Sorted.{IsSortedBy, IsStableBy, ties}
use Rattle.std.specs.List.Retain.{DedupsFrom, IsDeduped}
use Rattle.std.specs.FinMap as finite
use Rattle.std.specs.FinMap.Entries.{below_all}
use Rattle.ft_cells.specs.declared.cell.Cell.{Cell}
use Rattle.ft_cells.specs.CellOrder.{cell_cmp, cell_cmp_total, cell_cmp_exact}
use Rattle.ft_posix.specs.declared.call.Mode.{Mode}
use Rattle.ft_posix.specs.declared.call.Mode.TheVariants.{Read}
use Rattle.ft_posix.specs.declared.call.Access.{Access}
use Rattle.ft_posix.specs.Accesses.{Modes, listed, as_entries, AreInOrder}
use Rattle.ft_cells.proofs.Conjunction.{both}
use Rattle.ft_posix.proofs.Placing.{access}
use Rattle.ft_looks.specs.Notes.{with_notes}
use Rattle.ft_looks.proofs.Noted.{in_order-listed}

-- the order in which they are sorted
abbrev pub stands_before : Access → Access → Bool
stands_before x y = is_lt (cell_cmp x.cell y.cell)

pub sorts_by_cell : IsStrictWeakOrder stands_before
sorts_by_cell = ranks_by cell_cmp_total (λ (a : Access). a.cell)

neither : (o : Ordering) → (not (is_lt o) && not (is_lt (ordering_reverse o))) ≡ is_eq o
neither Less = refl
neither Equal = refl
neither Greater = refl

-- two accesses tie where they are of one cell
tied : (x y : Access) → ties stands_before x y ≡ eq_by_cmp cell_cmp x.cell y.cell
tied x y = ap (λ o. not (is_lt (cell_cmp x.cell y.cell)) && not (is_lt o)) (cell_cmp_total.antisymm y.cell x.cell) ∙ neither (cell_cmp x.cell y.cell)

-- of a cell only its own notes count
own_notes : (q : Access) (xs : List Access) (m n : Modes) → finite.get m q.cell ≡ finite.get n q.cell
    → finite.get (with_notes m xs) q.cell ≡ finite.get (with_notes n (filter (ties stands_before q) xs)) q.cell
own_notes q [] m n same = same
own_notes q (a ∷ more) m n same =
    elim (ties stands_before q a) as (λ b. ties stands_before q a ≡ b → finite.get (with_notes m (a ∷ more)) q.cell ≡ finite.get (with_notes n (cond b (a ∷ filter (ties stands_before q) more) (filter (ties stands_before q) more))) q.cell) [
      | true ↦ λ t. own_notes q more _ _ (finite.get-insert cell_cmp_total m a.cell a.mode q.cell ∙ ap (cond (eq_by_cmp cell_cmp q.cell a.cell) (Some a.mode)) same ∙ sym (finite.get-insert cell_cmp_total n a.cell a.mode q.cell))
      | false ↦ λ t. own_notes q more _ n (finite.get-insert cell_cmp_total m a.cell a.mode q.cell ∙ ap (λ b. cond b (Some a.mode) (finite.get m q.cell)) (sym (tied q a) ∙ t) ∙ same)
    ] refl

-- what is sorted so that the notes of one cell keep their order is what it was
pub sorted-same : (xs ys : List Access) → IsStableBy stands_before xs ys → with_notes finite.empty ys ≡ with_notes finite.empty xs
sorted-same xs ys stable = finite.same_map cell_cmp_total cell_cmp_exact _ _ (λ c.
    own_notes (access c Read) ys finite.empty finite.empty refl
    ∙ ap (λ own. finite.get (with_notes finite.empty own) c) (stable (access c Read))
    ∙ sym (own_notes (access c Read) xs finite.empty finite.empty refl))

-- a note of a cell takes the place of the one before
again : (b : Bool) (x y : Mode) (o : Option Mode) → cond b (Some y) (cond b (Some x) o) ≡ cond b (Some y) o
again true x y o = refl
again false x y o = refl

noted-twice : (m : Modes) (c : Cell) (x y : Mode) → finite.insert (finite.insert m c x) c y ≡ finite.insert m c y
noted-twice m c x y = finite.same_map cell_cmp_total cell_cmp_exact _ _ (λ q.
    finite.get-insert cell_cmp_total _ c y q ∙ ap (cond (eq_by_cmp cell_cmp q c) (Some y)) (finite.get-insert cell_cmp_total m c x q)
    ∙ again (eq_by_cmp cell_cmp q c) x y (finite.get m q) ∙ sym (finite.get-insert cell_cmp_total m c y q))

next : (k : ℕ) → suc k + 1 ≡ suc (k + 1)
next k = omega arith

-- none stands before the one before it
abbrev AreRising : Access → List Access → Type 0
AreRising a [] = Unit {0}
AreRising a (b ∷ more) = (stands_before b a ≡ false) × AreRising b more

rising : (a : Access) (more : List Access) → IsSortedBy stands_before (a ∷ more) → AreRising a more
rising a [] up = tt
rising a (b ∷ more) up = (
  up 0 a (omega arith) (omega arith),
  rising b more (λ k d low within. subst (λ n. stands_before (get_or (a ∷ b ∷ more) n d) (get_or (b ∷ more) k d) ≡ false) (next k) (up (suc k) d (omega arith) (omega (arith, within)))),
)

-- a call of the merge: of the same cell the later mode is kept
abbrev pub Merges : Access → Access → Bool → Access → Access → Type 0
Merges x k b x' k' = (b ≡ eq_by_cmp cell_cmp x.cell k.cell) × (k' ≡ cond b (access k.cell x.mode) k) × (x' ≡ x)

-- what the merge leaves of accesses in rising order
record IsMerged (a : Access) (more ys : List Access) : Type 0 where
  order : AreInOrder ys
  same : (m : Modes) → with_notes m ys ≡ with_notes m (a ∷ more)
  below : (c : Cell) → cell_cmp c a.cell ≡ Less → T (below_all cell_cmp c (as_entries ys))

above : (o : Ordering) → is_lt o ≡ false → is_eq o ≡ false → ordering_reverse o ≡ Less
above Less h g = absurd (subst T h tt)
above Equal h g = absurd (subst T g tt)
above Greater h g = refl

module _ {S : Type 0} (R : S → Access → Access → Bool → S → Access → Access → Type 0) (merges : (s : S) (x k : Access) (b : Bool) (t : S) (x' k' : Access) → R s x k b t x' k' → Merges x k b x' k') where
  merged : (s : S) (a : Access) (more ys : List Access) → DedupsFrom R s a more ys → AreRising a more → IsMerged a more ys
  merged s a [] ys is up = subst (IsMerged a []) (sym is) (record { order = tt; same = λ m. refl; below = λ c h. both _ _ (subst (λ o. T (is_lt o)) (sym h) tt) tt })
  merged s a (x ∷ more) ys steps up =
      let b = steps.0 in
      let t = steps.1 in
      let x' = steps.2 in
      let k' = steps.3 in
      let call = merges s x a b t x' k' steps.4 in
      elim b as (λ b. b ≡ eq_by_cmp cell_cmp x.cell a.cell → k' ≡ cond b (access a.cell x.mode) a
      → MatchBool b (DedupsFrom R t k' more ys) ((zs : List Access) × DedupsFrom R t x' more zs × (ys ≡ k' ∷ zs)) → IsMerged a (x ∷ more) ys) [
        | true ↦ λ e k rest.
            let same : x.cell ≡ a.cell = cell_cmp_exact x.cell a.cell ((Equal-is _).0 (sym e)) in
            let left : IsMerged x more ys = merged t x more ys (subst (λ l. DedupsFrom R t l more ys) (k ∙ ap (λ c. access c x.mode) (sym same)) rest) up.1 in
            record {
              order = left.order;
              same = λ m. left.same m ∙ ap (λ n. with_notes n more) (sym (noted-twice m x.cell a.mode x.mode) ∙ ap (λ c. finite.insert (finite.insert m c a.mode) x.cell x.mode) same);
              below = λ c h. left.below c (ap (cell_cmp c) same ∙ h);
            }
        | false ↦ λ e kept rest.
            let left : IsMerged x more rest.0 = merged t x more rest.0 (subst (λ l. DedupsFrom R t l more rest.0) call.2 rest.1) up.1 in
            let before : cell_cmp a.cell x.cell ≡ Less = cell_cmp_total.antisymm a.cell x.cell ∙ above (cell_cmp x.cell a.cell) up.0 (sym e) in
            subst (IsMerged a (x ∷ more)) (sym (rest.2 ∙ ap (λ k. k ∷ rest.0) kept)) (record {
              order = both _ _ (left.below a.cell before) left.order;
              same = λ m. left.same (finite.insert m a.cell a.mode);
              below = λ c h. both _ _ (subst (λ o. T (is_lt o)) (sym h) tt) (left.below c (cell_cmp_total.trans c a.cell x.cell h before));
            })
      ] call.0 call.1 steps.5

  -- the merge of what was sorted lists what is noted
  pub merged-listed : (s : S) (xs ys zs : List Access) → IsSortedBy stands_before ys → IsStableBy stands_before xs ys → IsDeduped R s ys zs → zs ≡ listed (with_notes finite.empty xs)
  merged-listed s xs [] zs up stable steps = steps.told ∙ in_order-listed [] tt ∙ ap listed (sorted-same xs [] stable)
  merged-listed s xs (a ∷ more) zs up stable steps =
      let left = merged s a more zs steps.told (rising a more up) in
      in_order-listed zs left.order ∙ ap listed (left.same finite.empty ∙ sorted-same xs (a ∷ more) stable)
