-- What is noted of cells by accesses in order, and with one more.
use Rattle.std.proofs.Common.{◌≡◌, ℕ, Bool, true, false, cond, List, [], ◌∷◌, ◌++◌, Option, None, Some, refl, sym, ap, ◌∙◌, subst}
use Rattle.std.specs.Prelude.{T, slice_set, slice_index_or}
use Rattle.std.specs.List.{insert}
use Rattle.std.specs.Option.{option_or}
use Rattle.std.specs.declared.cmp.Ordering.TheVariants.{Equal}
use Rattle.std.specs.Ordering.{is_eq, eq_by_cmp}
use Rattle.std.specs.Cmp.{Equal-is}
use Rattle.std.specs.FinMap as finite
use Rattle.std.specs.FinMap.Entries.{below_all, find}
use Rattle.ft_cells.specs.declared.cell.Cell.{Cell}
use Rattle.ft_cells.specs.CellOrder.{cell_cmp, cell_cmp_total, cell_cmp_exact}
use Rattle.ft_posix.specs.declared.call.Mode.{Mode}
use Rattle.ft_posix.specs.declared.call.Access.{Access}
use Rattle.ft_posix.specs.Accesses.{Modes, listed, as_entries, AreInOrder, place_in, is_noted}
use Rattle.ft_cells.proofs.Conjunction.{first, second}
use Rattle.ft_posix.proofs.Placing.{access, told, IsFoundAt, note-again, note-new}
use Rattle.ft_looks.specs.Notes.{with_notes, AreInOrderIf}
use Rattle.ft_looks.proofs.Searching.{less}

with_notes-append : (m : Modes) (xs ys : List Access) → with_notes m (xs ++ ys) ≡ with_notes (with_notes m xs) ys
with_notes-append m [] ys = refl
with_notes-append m (a ∷ more) ys = with_notes-append (finite.insert m a.cell a.mode) more ys

-- a cell that ties with one before each of these has no note among them
not_found : (q c : Cell) (list : List Access) → cell_cmp q c ≡ Equal → T (below_all cell_cmp c (as_entries list)) → find cell_cmp q (as_entries list) ≡ None
not_found q c [] ties h = refl
not_found q c (a ∷ more) ties h = ap (λ o. cond (is_eq o) (Some a.mode) (find cell_cmp q (as_entries more))) (cell_cmp_total.congr q c a.cell ties ∙ less _ (first _ _ h)) ∙ not_found q c more ties (second _ _ h)

either : (b : Bool) (x : Mode) (found o : Option Mode) → (b ≡ true → found ≡ None) → option_or found (cond b (Some x) o) ≡ option_or (cond b (Some x) found) o
either true x found o none = ap (λ f. option_or f (Some x)) (none refl)
either false x found o none = refl

in_order-get : (q : Cell) (list : List Access) (m : Modes) → AreInOrder list → finite.get (with_notes m list) q ≡ option_or (find cell_cmp q (as_entries list)) (finite.get m q)
in_order-get q [] m order = refl
in_order-get q (a ∷ more) m order =
    in_order-get q more (finite.insert m a.cell a.mode) (second _ _ order)
    ∙ ap (option_or (find cell_cmp q (as_entries more))) (finite.get-insert cell_cmp_total m a.cell a.mode q)
    ∙ either (eq_by_cmp cell_cmp q a.cell) a.mode _ _ (λ e. not_found q a.cell more ((Equal-is _).0 e) (first _ _ order))

nothing_else : (o : Option Mode) → option_or o None ≡ o
nothing_else None = refl
nothing_else (Some x) = refl

-- accesses in order are what is noted of their cells
in_order-map : (list : List Access) → AreInOrder list → with_notes finite.empty list ≡ finite.from_sorted (as_entries list)
in_order-map list order = finite.same_map cell_cmp_total cell_cmp_exact _ _ (λ q.
    in_order-get q list finite.empty order ∙ ap (option_or (find cell_cmp q (as_entries list))) (finite.get-empty cell_cmp q) ∙ nothing_else _ ∙ sym (finite.get-from_sorted cell_cmp (as_entries list) q order))

pub in_order-listed : (list : List Access) → AreInOrder list → list ≡ listed (with_notes finite.empty list)
in_order-listed list order = told list order ∙ ap listed (sym (in_order-map list order))

-- they are in order where they are said to be
pub in_order-said : (b : Bool) (list : List Access) → b ≡ true → AreInOrderIf b list → AreInOrder list
in_order-said b list said = subst (λ b. AreInOrderIf b list → AreInOrder list) (sym said) (λ h. h)

pub said-in_order : (b : Bool) (list : List Access) → AreInOrder list → AreInOrderIf b list
said-in_order true list h = h
said-in_order false list h = tt

abbrev map_of : List Access → Modes
map_of list = finite.from_sorted (as_entries list)

still-noted : (c : Cell) (x : Mode) (old : Modes) (items new : List Access) → AreInOrder items → with_notes finite.empty items ≡ old
    → AreInOrder new × (map_of new ≡ finite.insert (map_of items) c x) → AreInOrder new × (with_notes finite.empty new ≡ finite.insert old c x)
still-noted c x old items new order view h = (h.0, in_order-map new h.0 ∙ h.1 ∙ ap (λ m. finite.insert m c x) (sym (in_order-map items order) ∙ view))

-- one that is put in where it belongs is noted
pub put-noted : (c : Cell) (x : Mode) (items new : List Access) (at : ℕ) → AreInOrder items → at ≡ place_in c items → is_noted c items ≡ false → new ≡ insert items at (access c x)
    → AreInOrder new × (with_notes finite.empty new ≡ finite.insert (with_notes finite.empty items) c x)
put-noted c x items new at order place none is =
    still-noted c x _ items new order refl (note-new c items items at false (record { seen_is = refl; place = place; noted = sym none }) x (map_of items) order refl refl new is)

-- one that gets another mode is noted so
pub set-noted : (c : Cell) (x : Mode) (old : Modes) (items seen : List Access) (at : ℕ) (b : Bool) → IsFoundAt c items seen at b → AreInOrder items → with_notes finite.empty items ≡ old → b ≡ true
    → (there d : Access) → there ≡ slice_index_or items at d → AreInOrder (slice_set items at (access there.cell x)) × (with_notes finite.empty (slice_set items at (access there.cell x)) ≡ finite.insert old c x)
set-noted c x old items seen at b found order view sure there d is =
    still-noted c x old items _ order view (note-again c items seen at b found x (map_of items) order refl sure there d is)

-- one that is pushed is noted
pub push-noted : (m : Modes) (c : Cell) (x : Mode) (old new : List Access) → new ≡ old ++ access c x ∷ [] → with_notes m new ≡ finite.insert (with_notes m old) c x
push-noted m c x old new is = ap (with_notes m) is ∙ with_notes-append m old (access c x ∷ [])
