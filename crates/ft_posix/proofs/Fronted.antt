-- What is noted where reads of a front are known in advance.
use Rattle.std.proofs.Common.{◌≡◌, ◌≢◌, ℕ, Bool, true, false, cond, List, [], ◌∷◌, ◌++◌, ◌⊎◌, inl, inr, Option, Some, None, refl, sym, ap, subst, ◌∙◌}
use Rattle.std.proofs.lemmas.Bool.{false≢true}
use Rattle.std.proofs.lemmas.Option.{none-some, same_Some}
use Rattle.std.specs.FinMap as finite
use Rattle.ft_laws.specs.Lists.{In, any}
use Rattle.ft_cells.specs.declared.cell.Cell.{Cell}
use Rattle.ft_cells.specs.CellOrder.{cell_cmp, cell_cmp_total, cell_cmp_exact, same_cell}
use Rattle.ft_cells.specs.Cells.{Cells, directory_count}
use Rattle.ft_cells.specs.Looks.{Looks, View, answer, looked_at}
use Rattle.ft_tree.specs.Views.{view_of}
use Rattle.ft_posix.specs.declared.call.Call.{Call}
use Rattle.ft_posix.specs.declared.call.Mode.{Mode}
use Rattle.ft_posix.specs.declared.call.Mode.TheVariants.{Read as ReadMode, Write as WriteMode}
use Rattle.ft_posix.specs.declared.call.Access.{Access}
use Rattle.ft_posix.specs.declared.intent.Edit.{Edit}
use Rattle.ft_posix.specs.declared.intent.Intent.{Intent}
use Rattle.ft_posix.specs.Outcomes.{Write, Outcome}
use Rattle.ft_posix.specs.Steps.{steps}
use Rattle.ft_posix.specs.Stored.{outcome}
use Rattle.ft_posix.specs.Accesses.{Modes, with_looks, with_writes, with_accesses, written_cell, listed, accesses_of}
use Rattle.ft_posix.specs.Looking.{Looking, noted}
use Rattle.ft_posix.specs.Computes.{writes_of, outcome_of}
use Rattle.ft_posix.specs.Edits.{edit_cell, with_edits}
use Rattle.ft_posix.specs.Besides.{AreBut, AreListedBut, IsReadOf, AreAlikeBut, AreReads}
use Rattle.ft_posix.proofs.Accessed.{access, cells-in, get-with_looks, listed-at, at-listed, with_accesses-parts}
use Rattle.ft_posix.proofs.Noting.{with_edits-writes}

-- Reads that are noted in another order, or again.

swapped : (a b : Bool) (o : Option Mode) → cond a (Some ReadMode) (cond b (Some ReadMode) o) ≡ cond b (Some ReadMode) (cond a (Some ReadMode) o)
swapped true true o = refl
swapped true false o = refl
swapped false b o = refl

twice : (a : Bool) (o : Option Mode) → cond a (Some ReadMode) (cond a (Some ReadMode) o) ≡ cond a (Some ReadMode) o
twice true o = refl
twice false o = refl

-- a look more below those of the front
pub looks-insert : (m : Modes) (front : List Cell) (c : Cell) → with_looks (finite.insert m c ReadMode) front ≡ finite.insert (with_looks m front) c ReadMode
looks-insert m front c = finite.same_map cell_cmp_total cell_cmp_exact _ _ (λ q.
    get-with_looks front (finite.insert m c ReadMode) q
    ∙ ap (cond (any (same_cell q) front) (Some ReadMode)) (finite.get-insert cell_cmp_total m c ReadMode q)
    ∙ swapped (any (same_cell q) front) (same_cell q c) (finite.get m q)
    ∙ ap (cond (same_cell q c) (Some ReadMode)) (sym (get-with_looks front m q))
    ∙ sym (finite.get-insert cell_cmp_total (with_looks m front) c ReadMode q))

looks-again : (m : Modes) (front : List Cell) → with_looks (with_looks m front) front ≡ with_looks m front
looks-again m front = finite.same_map cell_cmp_total cell_cmp_exact _ _ (λ q.
    get-with_looks front (with_looks m front) q
    ∙ ap (cond (any (same_cell q) front) (Some ReadMode)) (get-with_looks front m q)
    ∙ twice (any (same_cell q) front) (finite.get m q)
    ∙ sym (get-with_looks front m q))

looks-append : (m : Modes) (xs ys : List Cell) → with_looks m (xs ++ ys) ≡ with_looks (with_looks m xs) ys
looks-append m [] ys = refl
looks-append m (x ∷ xs) ys = looks-append (finite.insert m x ReadMode) xs ys

-- looks at the front first are not seen
pub looks-behind : (m : Modes) (front more : List Cell) → with_looks (with_looks m front) (front ++ more) ≡ with_looks (with_looks m front) more
looks-behind m front more = looks-append (with_looks m front) front more ∙ ap (λ n. with_looks n more) (looks-again m front)

-- Modes that lack some reads of the front.

pub reads-insert : (m : Modes) (c : Cell) → AreReads m → AreReads (finite.insert m c ReadMode)
reads-insert m c reads q is = by_test (same_cell q c) (sym (finite.get-insert cell_cmp_total m c ReadMode q) ∙ is)
  where
    by_test : (b : Bool) → cond b (Some ReadMode) (finite.get m q) ≡ Some WriteMode → ⊥
    by_test true e = absurd (cc)
    by_test false e = reads q e

pub reads-none : AreReads finite.empty
reads-none c is = none-some WriteMode (sym (finite.get-empty cell_cmp c) ∙ is)

-- those of the front are there when it is noted
pub but-front : (front : List Cell) (m : Modes) → AreReads m → AreBut front m (with_looks m front)
but-front front m reads c = by_test (any (same_cell c) front) refl (finite.get m c) refl
  where
    by_test : (b : Bool) → any (same_cell c) front ≡ b → (o : Option Mode) → finite.get m c ≡ o → (finite.get m c ≡ finite.get (with_looks m front) c) ⊎ (In c front × (finite.get m c ≡ None) × (finite.get (with_looks m front) c ≡ Some ReadMode))
    by_test false e o is = inl (sym (get-with_looks front m c ∙ ap (λ b. cond b (Some ReadMode) (finite.get m c)) e))
    by_test true e None is = inr (cells-in c front e, is, get-with_looks front m c ∙ ap (λ b. cond b (Some ReadMode) (finite.get m c)) e)
    by_test true e (Some ReadMode) is = inl (is ∙ sym (get-with_looks front m c ∙ ap (λ b. cond b (Some ReadMode) (finite.get m c)) e))
    by_test true e (Some WriteMode) is = absurd (reads c is)

module _ (front : List Cell) where
  but-insert : (m n : Modes) (c : Cell) (x : Mode) → AreBut front m n → AreBut front (finite.insert m c x) (finite.insert n c x)
  but-insert m n c x but q = by_test (same_cell q c) (finite.get-insert cell_cmp_total m c x q) (finite.get-insert cell_cmp_total n c x q) (but q)
    where
      by_test : (b : Bool) → finite.get (finite.insert m c x) q ≡ cond b (Some x) (finite.get m q) → finite.get (finite.insert n c x) q ≡ cond b (Some x) (finite.get n q)
          → (finite.get m q ≡ finite.get n q) ⊎ (In q front × (finite.get m q ≡ None) × (finite.get n q ≡ Some ReadMode))
          → (finite.get (finite.insert m c x) q ≡ finite.get (finite.insert n c x) q) ⊎ (In q front × (finite.get (finite.insert m c x) q ≡ None) × (finite.get (finite.insert n c x) q ≡ Some ReadMode))
      by_test true e f h = inl (e ∙ sym f)
      by_test false e f (inl same) = inl (e ∙ same ∙ sym f)
      by_test false e f (inr h) = inr (h.0, e ∙ h.1, f ∙ h.2)

  but-looks : (cs : List Cell) (m n : Modes) → AreBut front m n → AreBut front (with_looks m cs) (with_looks n cs)
  but-looks [] m n but = but
  but-looks (c ∷ cs) m n but = but-looks cs _ _ (but-insert m n c ReadMode but)

  but-writes : (ws : List Write) (m n : Modes) → AreBut front m n → AreBut front (with_writes m ws) (with_writes n ws)
  but-writes [] m n but = but
  but-writes (w ∷ ws) m n but = but-writes ws _ _ (but-insert m n (written_cell w) WriteMode but)

  pub but-edits : (es : List Edit) (m n : Modes) → AreBut front m n → AreBut front (with_edits m es) (with_edits n es)
  but-edits [] m n but = but
  but-edits (e ∷ es) m n but = but-edits es _ _ (but-insert m n (edit_cell e) WriteMode but)

  -- the accesses of two such
  one-of : (m n all : Modes) → AreBut front m all → AreBut front n all → (a : Access) → In a (listed m) → In a (listed n) ⊎ IsReadOf front a
  one-of m n all but other a i = elim (but a.cell) [
    | inl same ↦ elim (other a.cell) [
      | inl is ↦ inl (listed-at n a.cell a.mode (is ∙ sym same ∙ at-listed m a i))
      | inr h ↦ inr (h.0, sym (same_Some ReadMode a.mode (sym h.2 ∙ sym same ∙ at-listed m a i)))
    ]
    | inr h ↦ absurd (none-some a.mode (sym h.1 ∙ at-listed m a i))
  ]

  alike : (m n all : Modes) → AreBut front m all → AreBut front n all → AreAlikeBut front (listed m) (listed n)
  alike m n all but other = record { one = one-of m n all but other; other = one-of n m all other but }

-- with no front they are the same
pub but-none : (m n : Modes) → AreBut [] m n → m ≡ n
but-none m n but = finite.same_map cell_cmp_total cell_cmp_exact m n (λ q. elim (but q) [ inl same ↦ same | inr h ↦ absurd h.0 ])

pub listed-none : (front : List Cell) (modes : Modes) → front ≡ [] → (list : List Access) → AreListedBut front modes list → list ≡ listed modes
listed-none front modes is list l = l.list_is ∙ ap listed (but-none l.some modes (subst (λ f. AreBut f l.some modes) is l.are))

-- What is noted of a call whose front is known in advance, and edited, is what it accesses, but for
-- reads of the front.
pub accesses-fronted : (front : List Cell) (cells : Cells) (old mid : Looking) (k : ℕ) (call : Call) (x : Intent) → old ≡ record { cells = cells; modes = with_looks finite.empty front; front = front } → outcome_of old.cells x ≡ outcome old.cells k call → mid ≡ noted old (steps old.cells.limits (directory_count old.cells) k call)
    → (list : List Access) → AreListedBut mid.front (with_edits mid.modes x.edits) list → AreAlikeBut front list (accesses_of cells k call)
accesses-fronted front cells old mid k call x start comes looks list listed_but =
    let s = steps old.cells.limits (directory_count old.cells) k call in
    let v = view_of old.cells in
    let all : with_edits mid.modes x.edits ≡ with_writes (with_looks old.modes (looked_at s v)) (answer s v).writes =
    ap (λ (l : Looking). with_edits l.modes x.edits) looks ∙ with_edits-writes old.cells x.edits (with_looks old.modes (looked_at s v)) ∙ ap (λ (o : Outcome). with_writes (with_looks old.modes (looked_at s v)) o.writes) comes in
    let same : mid.front ≡ front = ap (λ (l : Looking). l.front) looks ∙ ap (λ (l : Looking). l.front) start in
    let begins : AreBut front finite.empty old.modes = subst (λ (l : Looking). AreBut front finite.empty l.modes) (sym start) (but-front front finite.empty reads-none) in
    let whole : AreBut front (with_accesses finite.empty s v) (with_edits mid.modes x.edits) =
    subst (λ m. AreBut front m (with_edits mid.modes x.edits)) (sym (with_accesses-parts s finite.empty v))
    (subst (AreBut front (with_writes (with_looks finite.empty (looked_at s v)) (answer s v).writes)) (sym all)
    (but-writes front (answer s v).writes _ _ (but-looks front (looked_at s v) finite.empty old.modes begins))) in
    let some : AreBut front listed_but.some (with_edits mid.modes x.edits) = subst (λ f. AreBut f listed_but.some (with_edits mid.modes x.edits)) same listed_but.are in
    subst (λ xs. AreAlikeBut front xs (accesses_of cells k call)) (sym listed_but.list_is)
    (subst (λ (l : Looking). AreAlikeBut front (listed listed_but.some) (accesses_of l.cells k call)) start
    (alike front listed_but.some (with_accesses finite.empty s v) (with_edits mid.modes x.edits) some whole))
