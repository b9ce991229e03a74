-- Accesses that lack reads of a front which the asker holds: who is in the way, and what is granted.
use Rattle.std.proofs.Common.{◌≡◌, ◌&&◌, ◌||◌, ◌==◌, ◌⊎◌, inl, inr, ℕ, Bool, true, false, not, List, [], ◌∷◌, arith, refl, sym, ap, subst, ◌∙◌}
use Rattle.std.proofs.lemmas.Bool.{false≢true, or_right, or_cases, and_parts}
use Rattle.std.proofs.lemmas.Bool.Decides.{nat_tests}
use Rattle.ft_laws.specs.Lists.{In}
use Rattle.ft_cells.specs.declared.cell.Cell.{Cell}
use Rattle.ft_cells.specs.CellOrder.{same_cell, same_cell-refl}
use Rattle.ft_posix.specs.declared.call.Mode.{Mode}
use Rattle.ft_posix.specs.declared.call.Mode.TheVariants.{Read as ReadMode, Write as WriteMode}
use Rattle.ft_posix.specs.declared.call.Access.{Access}
use Rattle.ft_posix.specs.Accesses.{conflict}
use Rattle.ft_posix.specs.Besides.{IsReadOf, AreAlikeBut, reads_of}
use Rattle.ft_posix.proofs.Accessed.{in-any, any-in}
use Rattle.ft_forest.specs.Transactions.{Transactions, over_in}
use Rattle.ft_lock_rules.specs.declared.rule.Rule.{Rule}
use Rattle.ft_lock_rules.specs.declared.line.LockKind.TheVariants.{Held}
use Rattle.ft_lock_rules.specs.declared.line.LockLine.{LockLine}
use Rattle.ft_lock_rules.specs.Rules.{is_strict}
use Rattle.ft_lock_rules.specs.Locks.{LockTable, has_lock, is_released, is_held, same_mode, has_access, is_accessed, is_given, line_access, counts, AreGranted, IsInTheWay, AreBlockers}
use Rattle.ft_lock_rules.specs.Surveys.{HasItsCellsAlone, HasNoHolderAbove}

-- the access of a read
abbrev read : Cell → Access
read c = record { cell = c; mode = ReadMode }

read-in : (c : Cell) (cs : List Cell) → In c cs → In (read c) (reads_of cs)
read-in c [] i = absurd i
read-in c (d ∷ cs) (inl e) = inl (ap read e)
read-in c (d ∷ cs) (inr i) = inr (read-in c cs i)

-- an access that is a read of the front, as one of its reads
of-read : (front : List Cell) (a : Access) → IsReadOf front a → In a (reads_of front)
of-read front a h = subst (λ b. In b (reads_of front)) (λ i. record { cell = a.cell; mode = sym h.1 i }) (read-in a.cell front h.0)

same_mode-refl : (m : Mode) → same_mode m m ≡ true
same_mode-refl ReadMode = refl
same_mode-refl WriteMode = refl

module _ (table : LockTable) (t : ℕ) (front : List Cell) (held : AreGranted table table t (reads_of front)) where
  -- the lock of a read of the front
  abbrev own : Cell → LockLine
  own c = record { cell = c; owner = t; mode = ReadMode; kind = Held }

  owner-is : (t == t) ≡ true
  owner-is = grind (arith, nat_tests)

  has-own : (c : Cell) → In c front → has_lock table (own c) ≡ true
  has-own c i =
      let given : has_access (reads_of front) c ReadMode ≡ true =
      in-any (λ a. same_cell a.cell c && same_mode a.mode ReadMode) (read c) (reads_of front) (read-in c front i) (ap (λ b. b && true) (same_cell-refl c)) in
      held.given.lines (own c) ∙ ap (λ b. has_lock table (own c) || (b && has_access (reads_of front) c ReadMode)) owner-is ∙ ap (λ b. has_lock table (own c) || b) given ∙ or_right (has_lock table (own c)) true refl

  -- nobody is in the way of it
  module _ (rule : Rule) (forest : Transactions) (alone : HasItsCellsAlone table forest t) (no_holder : is_strict rule ≡ true → HasNoHolderAbove table forest) where
    strictly : (line : LockLine) → has_lock table line ≡ true → (c : Cell) → conflict (line_access line) (read c) ≡ true → over_in forest line.owner t ≡ true → (is_strict rule && is_held line.kind && not (line.owner == t)) ≡ true → In c front → ⊥
    strictly line there c conflicts over h i =
        let both = and_parts (is_strict rule && is_held line.kind) (not (line.owner == t)) h in
        let first = and_parts (is_strict rule) (is_held line.kind) both.0 in
        let same : line.owner ≡ t = no_holder first.0 (own c) line (has-own c i) there first.1 conflicts over in
        false≢true (sym (ap not (ap (λ o. o == t) same ∙ owner-is)) ∙ both.1)

    not-in-the-way : (c : Cell) → In c front → (line : LockLine) → has_lock table line ≡ true → conflict (line_access line) (read c) ≡ true → counts rule forest t line ≡ true → ⊥
    not-in-the-way c i line there conflicts counted =
        let over : over_in forest line.owner t ≡ true = alone (own c) line (has-own c i) refl there conflicts in
        elim (or_cases (not (over_in forest line.owner t)) (is_strict rule && is_held line.kind && not (line.owner == t)) counted) [
          | inl h ↦ false≢true (ap not (sym over) ∙ h)
          | inr h ↦ strictly line there c conflicts over h i
        ]

    in-the-way : (xs ys : List Access) → ((a : Access) → In a xs → In a ys ⊎ IsReadOf front a) → (y : ℕ) → IsInTheWay rule table forest t xs y → IsInTheWay rule table forest t ys y
    in-the-way xs ys alike y way =
        let found = any-in (λ a. conflict (line_access way.line) a) xs way.conflicts in
        elim (alike found.0 found.1) [
          | inl i ↦ record { line = way.line; there = way.there; owner = way.owner; conflicts = in-any (λ a. conflict (line_access way.line) a) found.0 ys i found.2; counted = way.counted }
          | inr h ↦ absurd (not-in-the-way found.0.cell h.0 way.line way.there (subst (λ m. conflict (line_access way.line) (record { cell = found.0.cell; mode = m }) ≡ true) h.1 found.2) way.counted)
        ]

    -- who is in the way of some of the accesses is so of all
    pub alike-blockers : (xs ys : List Access) → AreAlikeBut front xs ys → (found : List ℕ) → AreBlockers rule table forest t xs found → AreBlockers rule table forest t ys found
    alike-blockers xs ys alike found are = record {
      rising = are.rising;
      sound = λ y i. in-the-way xs ys alike.one y (are.sound y i);
      all = λ y way. are.all y (in-the-way ys xs alike.other y way);
    }

  -- what is granted with some of the accesses is with all
  either-way : (o p q : Bool) → (p ≡ true → q ≡ true ⊎ (o ≡ true)) → (q ≡ true → p ≡ true ⊎ (o ≡ true)) → (o || p) ≡ (o || q)
  either-way true p q f g = refl
  either-way false true true f g = refl
  either-way false false false f g = refl
  either-way false true false f g = elim (f refl) [ inl e ↦ sym e | inr e ↦ absurd (false≢true e) ]
  either-way false false true f g = elim (g refl) [ inl e ↦ e | inr e ↦ absurd (false≢true e) ]

  given-in : (xs ys : List Access) → ((a : Access) → In a xs → In a ys ⊎ IsReadOf front a) → (l : LockLine) → is_given t xs l ≡ true → (is_given t ys l ≡ true) ⊎ (has_lock table l ≡ true)
  given-in xs ys alike l given =
      let both = and_parts (is_held l.kind && (l.owner == t)) (has_access xs l.cell l.mode) given in
      let first = and_parts (is_held l.kind) (l.owner == t) both.0 in
      let found = any-in (λ a. same_cell a.cell l.cell && same_mode a.mode l.mode) xs both.1 in
      let all : (zs : List Access) → In found.0 zs → is_given t zs l ≡ true = λ zs i.
      ap (λ b. (b && (l.owner == t)) && has_access zs l.cell l.mode) first.0 ∙ ap (λ b. b && has_access zs l.cell l.mode) first.1
      ∙ in-any (λ a. same_cell a.cell l.cell && same_mode a.mode l.mode) found.0 zs i found.2 in
      elim (alike found.0 found.1) [
        | inl i ↦ inl (all ys i)
        | inr h ↦ inr (held.given.lines l ∙ ap (λ b. has_lock table l || b) (all (reads_of front) (of-read front found.0 h)) ∙ or_right (has_lock table l) true refl)
      ]

  stays-or-goes : (o p q : Bool) → (p ≡ true → q ≡ true ⊎ (o ≡ false)) → (q ≡ true → p ≡ true ⊎ (o ≡ false)) → (o && not p) ≡ (o && not q)
  stays-or-goes false p q f g = refl
  stays-or-goes true true true f g = refl
  stays-or-goes true false false f g = refl
  stays-or-goes true true false f g = elim (f refl) [ inl e ↦ e | inr e ↦ absurd (false≢true (sym e)) ]
  stays-or-goes true false true f g = elim (g refl) [ inl e ↦ sym e | inr e ↦ absurd (false≢true (sym e)) ]

  gone : (o : Bool) → o ≡ (o && not true) → o ≡ false
  gone true e = e
  gone false e = refl

  accessed-in : (xs ys : List Access) → ((a : Access) → In a xs → In a ys ⊎ IsReadOf front a) → (c : Cell) → is_accessed xs c ≡ true → (is_accessed ys c ≡ true) ⊎ (is_released table c ≡ false)
  accessed-in xs ys alike c accessed =
      let found = any-in (λ a. same_cell a.cell c) xs accessed in
      elim (alike found.0 found.1) [
        | inl i ↦ inl (in-any (λ a. same_cell a.cell c) found.0 ys i found.2)
        | inr h ↦ inr (gone (is_released table c) (held.given.released_cells c ∙ ap (λ b. is_released table c && not b) (in-any (λ a. same_cell a.cell c) found.0 (reads_of front) (of-read front found.0 h) found.2)))
      ]

  pub alike-granted : (new : LockTable) (xs ys : List Access) → AreAlikeBut front xs ys → AreGranted table new t xs → AreGranted table new t ys
  alike-granted new xs ys alike granted = record {
    given = record {
      lines = λ l. granted.given.lines l ∙ either-way (has_lock table l) (is_given t xs l) (is_given t ys l) (given-in xs ys alike.one l) (given-in ys xs alike.other l);
      released_cells = λ c. granted.given.released_cells c ∙ stays-or-goes (is_released table c) (is_accessed xs c) (is_accessed ys c) (accessed-in xs ys alike.one c) (accessed-in ys xs alike.other c);
      opened = granted.given.opened;
    };
    useless = granted.useless;
  }

-- What is held stays held when others are granted too.

still-there : (o n g h : Bool) → o ≡ (o || g) → n ≡ (o || h) → n ≡ (n || g)
still-there true n g h was is = is ∙ ap (λ b. b || g) (sym is)
still-there false n true h was is = absurd (false≢true was)
still-there false true false h was is = refl
still-there false false false h was is = refl

still-gone : (o n r a : Bool) → o ≡ (o && not r) → n ≡ (o && not a) → n ≡ (n && not r)
still-gone false n r a was is = is ∙ ap (λ b. b && not r) (sym is)
still-gone true n true a was is = absurd (false≢true (sym was))
still-gone true true false a was is = refl
still-gone true false false a was is = refl

pub still-held : (old new : LockTable) (t u : ℕ) (reads accesses : List Access) → AreGranted old old t reads → AreGranted old new u accesses → AreGranted new new t reads
still-held old new t u reads accesses held granted = record {
  given = record {
    lines = λ l. still-there (has_lock old l) (has_lock new l) (is_given t reads l) (is_given u accesses l) (held.given.lines l) (granted.given.lines l);
    released_cells = λ c. still-gone (is_released old c) (is_released new c) (is_accessed reads c) (is_accessed accesses c) (held.given.released_cells c) (granted.given.released_cells c);
    opened = refl;
  };
  useless = λ c h. h;
}
