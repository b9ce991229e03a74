-- Which cells a call accesses, and which of them it writes.
use Rattle.std.proofs.Common.{◌≡◌, Bool, true, false, cond, ◌||◌, List, [], ◌∷◌, map, ◌⊎◌, inl, inr, Option, Some, None, refl, sym, ap, subst, ◌∙◌}
use Rattle.std.proofs.lemmas.Bool.{false≢true, or_cases, or_left, or_right}
use Rattle.std.proofs.lemmas.Option.{none-some, same_Some}
use Rattle.std.specs.List.{AllByRecursion}
use Rattle.std.specs.FinMap.{find, get, insert, empty, entries, get-entries, get-empty, get-insert}
use Rattle.ft_laws.specs.Lists.{In, any}
use Rattle.ft_cells.specs.declared.cell.Cell.{Cell}
use Rattle.ft_cells.specs.CellOrder.{cell_cmp, cell_cmp_total, same_cell, same_cell-refl, same_cell-is}
use Rattle.ft_cells.specs.Looks.{Looks, Answer, Look, View, answer, looked_at}
use Rattle.ft_posix.specs.declared.call.Mode.{Mode}
use Rattle.ft_posix.specs.declared.call.Mode.TheVariants.{Read as ReadMode, Write as WriteMode}
use Rattle.ft_posix.specs.declared.call.Access.{Access}
use Rattle.ft_posix.specs.Outcomes.{Write, Outcome}
use Rattle.ft_posix.specs.Accesses.{Modes, with_looks, written_cell, with_writes, with_accesses, listed, is_write}
use Rattle.ft_posix.proofs.Listed.{entries-get}

-- Members of lists.

-- where a member passes the test, some element does
pub in-any : {A : Type 0} (p : A → Bool) (x : A) (xs : List A) → In x xs → p x ≡ true → any p xs ≡ true
in-any p x [] i h = absurd i
in-any p x (y ∷ ys) (inl e) h = or_left (p y) (any p ys) (ap p (sym e) ∙ h)
in-any p x (y ∷ ys) (inr i) h = or_right (p y) (any p ys) (in-any p x ys i h)

-- and that element is a member
pub any-in : {A : Type 0} (p : A → Bool) (xs : List A) → any p xs ≡ true → (x : A) × In x xs × (p x ≡ true)
any-in p [] h = absurd (false≢true h)
any-in p (y ∷ ys) h = elim (or_cases (p y) (any p ys) h) [
  | inl e ↦ (y, inl refl, e)
  | inr r ↦ let found = any-in p ys r in (found.0, inr found.1, found.2)
]

-- the members of a list under a function
pub in-map : {A B : Type 0} (f : A → B) (x : A) (xs : List A) → In x xs → In (f x) (map f xs)
in-map f x [] i = absurd i
in-map f x (y ∷ ys) (inl e) = inl (ap f e)
in-map f x (y ∷ ys) (inr i) = inr (in-map f x ys i)

-- and each is of a member of the list
pub map-in : {A B : Type 0} (f : A → B) (xs : List A) (y : B) → In y (map f xs) → (x : A) × In x xs × (y ≡ f x)
map-in f [] y i = absurd i
map-in f (x ∷ xs) y (inl e) = (x, inl refl, e)
map-in f (x ∷ xs) y (inr i) = let found = map-in f xs y i in (found.0, inr found.1, found.2)

-- what holds of each holds of a member
all-at : {A : Type 0} (P : A → Type 0) (xs : List A) (x : A) → AllByRecursion P xs → In x xs → P x
all-at P [] x h i = absurd i
all-at P (y ∷ ys) x h (inl e) = subst P (sym e) h.0
all-at P (y ∷ ys) x h (inr i) = all-at P ys x h.1 i

-- Cells in a list, by the test of cells.

-- a member passes it somewhere
in-cells : (c : Cell) (cs : List Cell) → In c cs → any (same_cell c) cs ≡ true
in-cells c cs i = in-any (same_cell c) c cs i (same_cell-refl c)

-- and what passes it somewhere is a member
pub cells-in : (c : Cell) (cs : List Cell) → any (same_cell c) cs ≡ true → In c cs
cells-in c cs h = let found = any-in (same_cell c) cs h in subst (λ x. In x cs) (sym (same_cell-is c found.0 found.2)) found.1

-- The map of modes.

-- what is found at a cell is an entry
found-in : (c : Cell) (x : Mode) (es : List (Cell × Mode)) → find cell_cmp c es ≡ Some x → In (c, x) es
found-in c x [] h = absurd (none-some x h)
found-in c x (e ∷ es) h = by_tie (same_cell c e.0) refl h (found-in c x es)
  where
    by_tie : (b : Bool) → same_cell c e.0 ≡ b → cond b (Some e.1) (find cell_cmp c es) ≡ Some x → (find cell_cmp c es ≡ Some x → In (c, x) es) → In (c, x) (e ∷ es)
    by_tie true is h rest = inl (λ i. (same_cell-is c e.0 is i, sym (same_Some e.1 x h) i))
    by_tie false is h rest = inr (rest h)

-- an access to a cell
abbrev pub access : Cell → Mode → Access
access c x = record { cell = c; mode = x }

-- what the map has at a cell is listed
pub listed-at : (m : Modes) (c : Cell) (x : Mode) → get m c ≡ Some x → In (access c x) (listed m)
listed-at m c x h = in-map (λ (e : Cell × Mode). access e.0 e.1) (c, x) (entries m) (found-in c x (entries m) (sym (get-entries m c) ∙ h))

-- and what is listed is what the map has there
pub at-listed : (m : Modes) (a : Access) → In a (listed m) → get m a.cell ≡ Some a.mode
at-listed m a i =
    let found = map-in (λ (e : Cell × Mode). access e.0 e.1) (entries m) a i in
    subst (λ (b : Access). get m b.cell ≡ Some b.mode) (sym found.2) (all-at (λ (e : Cell × Mode). get m e.0 ≡ Some e.1) (entries m) found.0 (entries-get cell_cmp cell_cmp_total m) found.1)

-- what is chosen twice is chosen where either test passes
either : {A : Type 0} (a b : Bool) (x y : A) → cond b x (cond a x y) ≡ cond (a || b) x y
either true true x y = refl
either true false x y = refl
either false b x y = refl

-- the map with cells that are looked at has them to be read
pub get-with_looks : (cs : List Cell) (m : Modes) (c : Cell) → get (with_looks m cs) c ≡ cond (any (same_cell c) cs) (Some ReadMode) (get m c)
get-with_looks [] m c = refl
get-with_looks (d ∷ cs) m c =
    get-with_looks cs (insert m d ReadMode) c ∙ ap (cond (any (same_cell c) cs) (Some ReadMode)) (get-insert cell_cmp_total m d ReadMode c)
    ∙ either (same_cell c d) (any (same_cell c) cs) (Some ReadMode) (get m c)

-- and with writes it has their cells to be written
get-with_writes : (ws : List Write) (m : Modes) (c : Cell) → get (with_writes m ws) c ≡ cond (any (same_cell c) (map written_cell ws)) (Some WriteMode) (get m c)
get-with_writes [] m c = refl
get-with_writes (w ∷ ws) m c =
    get-with_writes ws (insert m (written_cell w) WriteMode) c ∙ ap (cond (any (same_cell c) (map written_cell ws)) (Some WriteMode)) (get-insert cell_cmp_total m (written_cell w) WriteMode c)
    ∙ either (same_cell c (written_cell w)) (any (same_cell c) (map written_cell ws)) (Some WriteMode) (get m c)

-- the accesses are to what is looked at, and then to what is written
pub with_accesses-parts : (s : Looks Outcome) (m : Modes) (v : View) → with_accesses m s v ≡ with_writes (with_looks m (looked_at s v)) (answer s v).writes
with_accesses-parts (Answer o) m v = refl
with_accesses-parts (Look c next) m v = with_accesses-parts (next (v c)) (insert m c ReadMode) v

-- The mode of a cell that is written, or looked at, or neither.
abbrev mode_by : Bool → Bool → Option Mode
mode_by written looked = cond written (Some WriteMode) (cond looked (Some ReadMode) None)

-- what is looked at has a mode
mode-looked : (a b : Bool) (o : Option Mode) → o ≡ mode_by a b → b ≡ true → (x : Mode) × (o ≡ Some x)
mode-looked true b o h is = (WriteMode, h)
mode-looked false true o h is = (ReadMode, h)
mode-looked false false o h is = absurd (false≢true is)

-- what has a mode is written or looked at
mode-cases : (a b : Bool) (x : Mode) → mode_by a b ≡ Some x → (a ≡ true) ⊎ (b ≡ true)
mode-cases true b x h = inl refl
mode-cases false true x h = inr refl
mode-cases false false x h = absurd (none-some x h)

-- and what has the mode of writing is written
mode-written : (a b : Bool) (x : Mode) → mode_by a b ≡ Some x → is_write x ≡ true → a ≡ true
mode-written true b x h is = refl
mode-written false true x h is = absurd (false≢true (ap is_write (same_Some ReadMode x h) ∙ is))
mode-written false false x h is = absurd (none-some x h)

module _ (s : Looks Outcome) (v : View) where
  -- the modes of its accesses, and the cells that it writes
  abbrev modes : Modes
  modes = with_accesses empty s v

  abbrev written : List Cell
  written = map written_cell (answer s v).writes

  -- what the map of a call's accesses has at a cell
  get-accesses : (c : Cell) → get modes c ≡ mode_by (any (same_cell c) written) (any (same_cell c) (looked_at s v))
  get-accesses c =
      ap (λ m. get m c) (with_accesses-parts s empty v) ∙ get-with_writes (answer s v).writes (with_looks empty (looked_at s v)) c
      ∙ ap (cond (any (same_cell c) written) (Some WriteMode)) (get-with_looks (looked_at s v) empty c ∙ ap (cond (any (same_cell c) (looked_at s v)) (Some ReadMode)) (get-empty cell_cmp c))

  -- a cell that is looked at is accessed
  pub looked-accessed : (c : Cell) → In c (looked_at s v) → (x : Mode) × In (access c x) (listed modes)
  looked-accessed c i =
      let has = mode-looked (any (same_cell c) written) _ (get modes c) (get-accesses c) (in-cells c (looked_at s v) i) in
      (has.0, listed-at modes c has.0 has.1)

  -- a cell that is written is accessed to be written
  pub written-accessed : (c : Cell) → In c written → In (access c WriteMode) (listed modes)
  written-accessed c i = listed-at modes c WriteMode (get-accesses c ∙ ap (λ b. mode_by b (any (same_cell c) (looked_at s v))) (in-cells c written i))

  -- a cell that is accessed is written or looked at
  pub accessed-cases : (a : Access) → In a (listed modes) → In a.cell written ⊎ In a.cell (looked_at s v)
  accessed-cases a i = elim (mode-cases _ _ a.mode (sym (get-accesses a.cell) ∙ at-listed modes a i)) [
    | inl is ↦ inl (cells-in a.cell written is)
    | inr is ↦ inr (cells-in a.cell (looked_at s v) is)
  ]

  -- and one that is accessed to be written is written
  pub accessed-written : (a : Access) → In a (listed modes) → is_write a.mode ≡ true → In a.cell written
  accessed-written a i is = cells-in a.cell written (mode-written _ _ a.mode (sym (get-accesses a.cell) ∙ at-listed modes a i) is)
