-- That no strict ancestor of an owner holds a conflicting lock is kept.
use Rattle.std.proofs.Common.{◌≡◌, ℕ, Bool, true, false, not, ◌&&◌, ◌||◌, ◌==◌, List, [], ◌∷◌, inl, inr, Some, refl, sym, ap, ◌∙◌, arith, eqb-true, eq-eqb, ne_eqb}
use Rattle.std.proofs.lemmas.Bool.{false≢true, and_parts, or_cases, or_left, or_right}
use Rattle.std.specs.List.{list_any}
use Rattle.std.specs.FinSet as set
use Rattle.ft_laws.specs.Laws.{Lawful}
use Rattle.ft_laws.proofs.Tests.{by_test}
use Rattle.ft_history.specs.Forest.{above}
use Rattle.ft_history.specs.History.{Base, parent, over}
use Rattle.ft_history.specs.Legal.{Legal}
use Rattle.ft_history.proofs.Words.{by_number}
use Rattle.ft_history.proofs.Forest.{above_through}
use Rattle.ft_history.proofs.Living.{lived}
use Rattle.ft_history.proofs.History.{Sound, laws, begin_over}
use Rattle.ft_history.proofs.Legal.{sound_all}
use Rattle.ft_history.proofs.Sharing.{conflict_back}
use Rattle.ft_cells.specs.declared.cell.Cell.{Cell}
use Rattle.ft_cells.specs.CellOrder.{same_cell, same_cell-is, overlap}
use Rattle.ft_posix.specs.declared.call.Mode.{Mode}
use Rattle.ft_posix.specs.declared.call.Mode.TheVariants.{Read as ReadMode, Write as WriteMode}
use Rattle.ft_posix.specs.declared.call.Access.{Access}
use Rattle.ft_posix.specs.Accesses.{is_write, conflict}
use Rattle.ft_posix.specs.Posix.{as_place, posix_calls}
use Rattle.ft_forest.specs.Transactions.{Transactions, over_in}
use Rattle.ft_lock_rules.specs.declared.line.LockKind.TheVariants.{Held, Retained}
use Rattle.ft_lock_rules.specs.declared.line.LockLine.{LockLine}
use Rattle.ft_lock_rules.specs.declared.rule.Rule.{Rule}
use Rattle.ft_lock_rules.specs.Rules.{is_strict}
use Rattle.ft_lock_rules.specs.Locks.{LockTable, line_cmp, has_lock, is_held, same_mode, owns_lock, has_access, is_given, line_access, AreGranted, AreInherited, AreBlockers}
use Rattle.ft_lock_rules.specs.Law.{History, HasParentsOf, HolderLaw}
use Rattle.ft_lock_rules.specs.Surveys.{HasNoHolderAbove}
use Rattle.ft_lock_rules.proofs.Following.{owner_law}

-- Accesses that conflict.

same_write : (m n : Mode) → same_mode m n ≡ true → is_write m ≡ is_write n
same_write ReadMode ReadMode e = refl
same_write ReadMode WriteMode e = absurd (false≢true e)
same_write WriteMode ReadMode e = absurd (false≢true e)
same_write WriteMode WriteMode e = refl

-- what conflicts with a lock that is given conflicts with one of the accesses
given_conflicts : (x : Access) (c : Cell) (m : Mode) (xs : List Access) → has_access xs c m ≡ true → conflict x (record { cell = c; mode = m }) ≡ true → list_any (λ a. conflict x a) xs ≡ true
given_conflicts x c m [] has k = absurd (false≢true has)
given_conflicts x c m (a ∷ xs) has k = elim (or_cases (same_cell a.cell c && same_mode a.mode m) (has_access xs c m) has) [
  | inl e ↦
      let same = and_parts (same_cell a.cell c) (same_mode a.mode m) e in
      or_left (conflict x a) (list_any (λ b. conflict x b) xs) ((λ i. overlap x.cell (same_cell-is a.cell c same.0 i) && (is_write x.mode || same_write a.mode m same.1 i)) ∙ k)
  | inr e ↦ or_right (conflict x a) (list_any (λ b. conflict x b) xs) (given_conflicts x c m xs e k)
]

module _ (L : Lawful posix_calls) where
  turned : (x y : Access) → conflict x y ≡ true → conflict y x ≡ true
  turned x y k = sym (alone (conflict y x)) ∙ conflict_back posix_calls L (as_place x ∷ []) (as_place y ∷ []) (alone (conflict x y) ∙ k)
    where
      alone : (b : Bool) → ((b || false) || false) ≡ b
      alone true = refl
      alone false = refl

  -- The forest's parents are those of a legal history.
  module _ (base : Base posix_calls) (base_sound : posix_calls.IsSound base.store) (h : History) (legal : Legal posix_calls base h) (forest : Transactions) (parents : HasParentsOf h forest) where
    sound : Sound posix_calls L base h
    sound = sound_all posix_calls L base base_sound h legal

    over_is : (y x : ℕ) → over_in forest y x ≡ over posix_calls h y x
    over_is y x i = above (λ z. parents z i) y x

    module _ (t new : LockTable) (before : HasNoHolderAbove t forest) where
      module _ (rule : Rule) (strict : is_strict rule ≡ true) (txn : ℕ) (xs : List Access) (free : AreBlockers rule t forest txn xs []) where
        -- whose lock is given
        given_to : (l : LockLine) → is_given txn xs l ≡ true → (l.owner ≡ txn) × (has_access xs l.cell l.mode ≡ true)
        given_to l e =
            let both = and_parts (is_held l.kind && (l.owner == txn)) (has_access xs l.cell l.mode) e in
            (eqb-true l.owner txn (and_parts (is_held l.kind) (l.owner == txn) both.0).1, both.1)

        -- Nobody above txn holds a lock that conflicts with a new one.
        old_above : (own other : LockLine) → is_given txn xs own ≡ true → has_lock t other ≡ true → is_held other.kind ≡ true → conflict (line_access other) (line_access own) ≡ true → other.owner ≡ own.owner
        old_above own other given there held conflicts =
            let to = given_to own given in
            by_number other.owner txn
            (λ same. same ∙ sym to.0)
            (λ ne. absurd (free.all other.owner (record {
              line = other;
              there = there;
              owner = refl;
              conflicts = given_conflicts (line_access other) own.cell own.mode xs to.1 conflicts;
              counted = or_right (not (over_in forest other.owner txn)) (is_strict rule && is_held other.kind && not (other.owner == txn))
                  (λ i. strict i && held i && not (ne_eqb other.owner txn ne i));
            })))

        -- Who is below txn has no lock that conflicts with a new one.
        new_above : (own other : LockLine) → has_lock t own ≡ true → is_given txn xs other ≡ true → conflict (line_access other) (line_access own) ≡ true → over_in forest other.owner own.owner ≡ true → other.owner ≡ own.owner
        new_above own other mine given conflicts over =
            let to = given_to other given in
            by_number other.owner own.owner
            (λ same. same)
            (λ ne. absurd (free.all own.owner (record {
              line = own;
              there = mine;
              owner = refl;
              conflicts = given_conflicts (line_access own) other.cell other.mode xs to.1 (turned (line_access other) (line_access own) conflicts);
              counted = or_left (not (over_in forest own.owner txn)) (is_strict rule && is_held own.kind && not (own.owner == txn)) (ap not (not_back own.owner other.owner txn to.0 ne over));
            })))
          where
            not_back : (x y z : ℕ) → y ≡ z → (y ≡ x → ⊥) → over_in forest y x ≡ true → over_in forest x z ≡ false
            not_back x y z same ne over = by_test (over_in forest x z)
                (λ back.
                let down = (laws posix_calls L base h sound).falls y x (sym (over_is y x) ∙ over) in
                let up = (laws posix_calls L base h sound).falls x z (sym (over_is x z) ∙ back) in
                absurd (ne (omega arith)))
                (λ none. none)

        granted_kept : AreGranted t new txn xs → HasNoHolderAbove new forest
        granted_kept granted own other mine there held conflicts over =
            elim (or_cases (has_lock t own) (is_given txn xs own) (sym (granted.given.lines own) ∙ mine)) [
              | inl was ↦ elim (or_cases (has_lock t other) (is_given txn xs other) (sym (granted.given.lines other) ∙ there)) [
                | inl had ↦ before own other was had held conflicts over
                | inr given ↦ new_above own other was given conflicts over
              ]
              | inr new_one ↦ elim (or_cases (has_lock t other) (is_given txn xs other) (sym (granted.given.lines other) ∙ there)) [
                | inl had ↦ old_above own other new_one had held conflicts
                | inr given ↦ (given_to other given).0 ∙ sym (given_to own new_one).0
              ]
            ]

      module _ (child up : ℕ) (is : parent posix_calls h child ≡ Some up) (inherited : AreInherited t new child up) where
        -- a held lock is none that is inherited
        held_was : (l : LockLine) → has_lock new l ≡ true → is_held l.kind ≡ true → has_lock t l ≡ true
        held_was l e held =
            let parts = and_parts (not (l.owner == child)) (has_lock t l || ((l.owner == up) && not (is_held l.kind) && owns_lock t child l.cell l.mode)) (sym (inherited.lines l) ∙ e) in
            sym (none (has_lock t l) (l.owner == up) (owns_lock t child l.cell l.mode)) ∙ (λ i. has_lock t l || ((l.owner == up) && not (sym held i) && owns_lock t child l.cell l.mode)) ∙ parts.1
          where
            none : (a b c : Bool) → (a || (b && false && c)) ≡ a
            none true b c = refl
            none false true c = refl
            none false false c = refl

        not_child : (l : LockLine) → has_lock new l ≡ true → l.owner ≡ child → ⊥
        not_child l e same =
            let parts = and_parts (not (l.owner == child)) (has_lock t l || ((l.owner == up) && not (is_held l.kind) && owns_lock t child l.cell l.mode)) (sym (inherited.lines l) ∙ e) in
            false≢true (sym (ap not (eq-eqb l.owner child same)) ∙ parts.0)

        -- a lock of the child's, which the parent has now
        of_child : (own other : LockLine) → own.owner ≡ up → owns_lock t child own.cell own.mode ≡ true → has_lock new other ≡ true → is_held other.kind ≡ true → conflict (line_access other) (line_access own) ≡ true
            → over_in forest other.owner own.owner ≡ true → other.owner ≡ child
        of_child own other at owns there held conflicts over =
            let above_child : over_in forest other.owner child ≡ true = over_is other.owner child ∙ above_through (parent posix_calls h) sound.forest other.owner child up is (sym (over_is other.owner up) ∙ ap (over_in forest other.owner) (sym at) ∙ over) in
            elim (or_cases (has_lock t (record { cell = own.cell; owner = child; mode = own.mode; kind = Held })) (has_lock t (record { cell = own.cell; owner = child; mode = own.mode; kind = Retained })) owns) [
              | inl had ↦ before (record { cell = own.cell; owner = child; mode = own.mode; kind = Held }) other had (held_was other there held) held conflicts above_child
              | inr had ↦ before (record { cell = own.cell; owner = child; mode = own.mode; kind = Retained }) other had (held_was other there held) held conflicts above_child
            ]

        inherited_kept : HasNoHolderAbove new forest
        inherited_kept own other mine there held conflicts over =
            let parts = and_parts (not (own.owner == child)) (has_lock t own || ((own.owner == up) && not (is_held own.kind) && owns_lock t child own.cell own.mode)) (sym (inherited.lines own) ∙ mine) in
            elim (or_cases (has_lock t own) ((own.owner == up) && not (is_held own.kind) && owns_lock t child own.cell own.mode) parts.1) [
              | inl was ↦ before own other was (held_was other there held) held conflicts over
              | inr got ↦
                  let both = and_parts ((own.owner == up) && not (is_held own.kind)) (owns_lock t child own.cell own.mode) got in
                  let at = eqb-true own.owner up (and_parts (own.owner == up) (not (is_held own.kind)) both.0).0 in
                  absurd (not_child other there (of_child own other at both.1 there held conflicts over))
            ]

  pub holder_law : HolderLaw
  holder_law = record {
    first = λ forest own other mine there held conflicts over. absurd (false≢true (sym (set.contains-empty line_cmp own) ∙ mine));
    begun = λ base base_sound h t locks n up legal old new parents now before own other mine there held conflicts over.
        let known = (lived posix_calls base.transaction h own.owner (owner_law L base base_sound h t locks legal.1 own mine)).begun in
        before own other mine there held conflicts
        (over_is base base_sound h legal.1 old parents other.owner own.owner
        ∙ sym (begin_over posix_calls L base h (sound base base_sound h legal.1 old parents) n up legal.0 other.owner own.owner known)
        ∙ sym (λ i. above (λ z. now z i) other.owner own.owner) ∙ over);
    granted = λ base base_sound h t locks legal forest parents rule strict txn xs new free granted before. granted_kept base base_sound h legal forest parents t new before rule strict txn xs free granted;
    inherited = λ base base_sound h t locks legal forest parents child up is new inherited before. inherited_kept base base_sound h legal forest parents t new before child up is inherited;
    fewer = λ old new less forest now parents before own other mine there held conflicts over.
        before own other (less own mine) (less other there) held conflicts (sym (λ i. above (λ z. parents z i) other.owner own.owner) ∙ over);
  }
