-- That the names of no directory are in the table, as cells come and go.
use Rattle.std.proofs.Common.{◌≡◌, ℕ, Bool, true, false, cond, not, ◌&&◌, ◌||◌, ◌==◌, List, [], get_or, Option, Some, None, is_some, refl, sym, ap, subst, ◌∙◌}
use Rattle.std.proofs.lemmas.Bool.{false≢true, eqb-true}
use Rattle.std.specs.Ordering.{nat_cmp, eq_by_cmp}
use Rattle.std.specs.Cmp.{nat_cmp_total}
use Rattle.std.specs.FinMap as finite
use Rattle.slab.specs.Slab.{Slab, slab_len}
use Rattle.ft_cells.specs.declared.cell.Cell.{Cell}
use Rattle.ft_cells.specs.declared.cell.Cell.TheVariants.{Names}
use Rattle.ft_posix.specs.declared.call.Mode.{Mode}
use Rattle.ft_locks.specs.declared.cells.Locked.{Locked}
use Rattle.ft_lock_rules.specs.Cells.{Cells, CellKeys, Keyed}
use Rattle.ft_locks.specs.Slots.{cells_of, at_of, AreKeyed, is_names, HaveNoNames}
use Rattle.ft_lock_rules.specs.Blocking.{Found, AreNoted, Counted, is_in_way, way}
use Rattle.ft_lock_rules.proofs.CellViews.{key_in}
use Rattle.ft_lock_rules.proofs.Paired.{the_one}
use Rattle.ft_lock_rules.proofs.Places.{marks-missing}
use Rattle.ft_locks.proofs.Slots.{at-none, seen-key}
use Rattle.ft_locks.proofs.Hashed.{nothing_in}

pub nameless-none : (s : Slab Locked) → s.slots ≡ [] → HaveNoNames (at_of s)
nameless-none s empty k c is = absurd (false≢true (ap is_some (sym (at-none s k (ap (λ slots. get_or slots k None) empty)) ∙ is)))

pub nameless-same : (at at' : CellKeys) → at' ≡ at → HaveNoNames at → HaveNoNames at'
nameless-same at at' same none = subst HaveNoNames (sym same) none

pub nameless-put : (at at' : CellKeys) (k : ℕ) (new : Cell) → at' ≡ finite.insert at k new → is_names new ≡ false → HaveNoNames at → HaveNoNames at'
nameless-put at at' k new is other none j c there = by_key (eq_by_cmp nat_cmp j k) refl
  where
    stands : finite.get at' j ≡ cond (eq_by_cmp nat_cmp j k) (Some new) (finite.get at j)
    stands = ap (λ m. finite.get m j) is ∙ finite.get-insert nat_cmp_total at k new j

    by_key : (b : Bool) → eq_by_cmp nat_cmp j k ≡ b → is_names c ≡ false
    by_key true e = ap is_names (sym (the_one new c (sym (stands ∙ ap (λ b. cond b (Some new) (finite.get at j)) e) ∙ there))) ∙ other
    by_key false e = none j c (sym (stands ∙ ap (λ b. cond b (Some new) (finite.get at j)) e) ∙ there)

pub nameless-out : (at at' : CellKeys) (k : ℕ) → at' ≡ finite.remove at k → HaveNoNames at → HaveNoNames at'
nameless-out at at' k is none j c there = by_key (eq_by_cmp nat_cmp j k) refl
  where
    stands : finite.get at' j ≡ cond (eq_by_cmp nat_cmp j k) None (finite.get at j)
    stands = ap (λ m. finite.get m j) is ∙ finite.get-remove nat_cmp_total at k j

    by_key : (b : Bool) → eq_by_cmp nat_cmp j k ≡ b → is_names c ≡ false
    by_key true e = absurd (false≢true (ap is_some (sym (stands ∙ ap (λ b. cond b None (finite.get at j)) e) ∙ there)))
    by_key false e = none j c (sym (stands ∙ ap (λ b. cond b None (finite.get at j)) e) ∙ there)

-- a cell goes, and it is noted where it was the last
pub nameless-left : (at at' : CellKeys) (k : ℕ) (has is_last : Bool) → at' ≡ finite.remove at k → (is_last ≡ true → HaveNoNames at') → (has ≡ false → HaveNoNames at)
    → (has && not is_last) ≡ false → HaveNoNames at'
nameless-left at at' k false is_last gone last none has_none = nameless-out at at' k gone (none refl)
nameless-left at at' k true true gone last none has_none = last refl
nameless-left at at' k true false gone last none has_none = absurd (false≢true (sym has_none))

-- nothing stands in the slab
pub nameless-empty : (s : Slab Locked) → (slab_len s == 0) ≡ true → HaveNoNames (at_of s)
nameless-empty s empty k c there = absurd (false≢true (ap is_some (sym (at-none s k (nothing_in s k (eqb-true (slab_len s) 0 empty))) ∙ there)))

pub no-left : (a b : Bool) → (a || b) ≡ false → a ≡ false
no-left false b h = refl
no-left true b h = h

pub no-right : (a b : Bool) → (a || b) ≡ false → b ≡ false
no-right false b h = h
no-right true b h = absurd (false≢true (sym h))

nothing : {A : Type 0} (o : Option A) → is_some o ≡ false → o ≡ None
nothing None h = refl
nothing (Some x) h = absurd (false≢true (sym h))

-- so callers see none
pub no_names : (s : Slab Locked) (index : List (Cell × ℕ)) (seen : Keyed) → record { cells = cells_of s index; at = at_of s } ≡ seen → AreKeyed (at_of s) index → HaveNoNames (at_of s)
    → (d : ℕ) → finite.get seen.cells (Names d) ≡ None
no_names s index seen is keyed none d = by_key (key_in index (Names d)) refl
  where
    by_key : (o : Option ℕ) → key_in index (Names d) ≡ o → finite.get seen.cells (Names d) ≡ None
    by_key None e = nothing (finite.get seen.cells (Names d)) (sym (seen-key s index seen is (Names d)) ∙ ap is_some e)
    by_key (Some k) e = absurd (false≢true (sym (none k (Names d) ((keyed (Names d) k).0 e))))

-- and nobody is in the way by them
pub none_beside : (found : Found) (m : Cells) (d : ℕ) (mode : Mode) (counted : Counted) → finite.get m (Names d) ≡ None → AreNoted found found (way counted m (Names d) mode)
none_beside found m d mode counted none u =
    unnoted (finite.contains_key found u) ∙ ap (λ o. finite.contains_key found u || is_in_way counted u o mode) (sym (marks-missing m (Names d) (sym none) u))
  where
    unnoted : (a : Bool) → a ≡ (a || false)
    unnoted true = refl
    unnoted false = refl
