-- What each owner has on each cell, after the owners of one cell have changed.
use Rattle.std.proofs.Common.{◌≡◌, ℕ, Bool, true, false, cond, ◌&&◌, ◌==◌, Option, Some, None, IsSome, is_some, unwrap_or, refl, sym, ap, ◌∙◌}
use Rattle.std.proofs.lemmas.Bool.{false≢true, eqb-true}
use Rattle.std.specs.Option.{option_map}
use Rattle.std.specs.Ordering.{nat_cmp}
use Rattle.std.specs.Cmp.{nat_cmp_total, eq_by_cmp_equiv, unsigned_tied}
use Rattle.std.specs.FinMap as finite
use Rattle.ft_cells.specs.declared.cell.Cell.{Cell}
use Rattle.ft_cells.specs.CellOrder.{cell_cmp_total, same_cell, same_cell-is}
use Rattle.ft_lock_rules.specs.declared.lock_modes.LockModes.{LockModes}
use Rattle.ft_lock_rules.specs.LockModes.{no_marks, with_marks}
use Rattle.ft_lock_rules.specs.CellLocks.{Owners, marked, marked_at, handed}
use Rattle.ft_lock_rules.proofs.CellViews.{same_cells}
use Rattle.ft_lock_rules.specs.Cells.{Cells, marks_at, is_at, joined_marks, passed_to, after_hand}

-- the owners of a cell; of one that is not in the table, none
abbrev pub owners_at : Cells → Cell → Owners
owners_at m c = unwrap_or (finite.get m c) finite.empty

read_put : (b : Bool) (o : Owners) (x : Option Owners) (u : ℕ) → finite.get (unwrap_or (cond b (Some o) x) finite.empty) u ≡ cond b (finite.get o u) (finite.get (unwrap_or x finite.empty) u)
read_put true o x u = refl
read_put false o x u = refl

read_out : (b : Bool) (x : Option Owners) (u : ℕ) → finite.get (unwrap_or (cond b None x) finite.empty) u ≡ cond b None (finite.get (unwrap_or x finite.empty) u)
read_out true x u = finite.get-empty nat_cmp u
read_out false x u = refl

-- one cell has other owners
pub marks-insert : (m : Cells) (k : Cell) (o : Owners) (c : Cell) (u : ℕ) → marks_at (finite.insert m k o) c u ≡ cond (same_cell c k) (finite.get o u) (marks_at m c u)
marks-insert m k o c u = ap (λ x. finite.get (unwrap_or x finite.empty) u) (finite.get-insert cell_cmp_total m k o c) ∙ read_put (same_cell c k) o (finite.get m c) u

pub marks-remove : (m : Cells) (k : Cell) (c : Cell) (u : ℕ) → marks_at (finite.remove m k) c u ≡ cond (same_cell c k) None (marks_at m c u)
marks-remove m k c u = ap (λ x. finite.get (unwrap_or x finite.empty) u) (finite.get-remove cell_cmp_total m k c) ∙ read_out (same_cell c k) (finite.get m c) u

-- what is found at a cell
pub marks-found : (m : Cells) (k : Cell) (o : Owners) → Some o ≡ finite.get m k → (u : ℕ) → finite.get o u ≡ marks_at m k u
marks-found m k o is u = ap (λ x. finite.get (unwrap_or x finite.empty) u) is

pub marks-missing : (m : Cells) (k : Cell) → None ≡ finite.get m k → (u : ℕ) → marks_at m k u ≡ None
marks-missing m k is u = ap (λ x. finite.get (unwrap_or x finite.empty) u) (sym is) ∙ finite.get-empty nat_cmp u

-- where two cells are the same, what holds of one may be read at the other
under_same : (P : Cell → Option LockModes) (c k : Cell) (x : Option LockModes) → cond (same_cell c k) (P k) x ≡ cond (same_cell c k) (P c) x
under_same P c k x = by_test (same_cell c k) refl
  where
    by_test : (b : Bool) → same_cell c k ≡ b → cond (same_cell c k) (P k) x ≡ cond (same_cell c k) (P c) x
    by_test true e = ap (λ b. cond b (P k) x) e ∙ ap P (sym (same_cell-is c k e)) ∙ sym (ap (λ b. cond b (P c) x) e)
    by_test false e = ap (λ b. cond b (P k) x) e ∙ sym (ap (λ b. cond b (P c) x) e)

both_tests : (a b : Bool) (x y : Option LockModes) → cond a (cond b x y) y ≡ cond (a && b) x y
both_tests true b x y = refl
both_tests false b x y = refl

-- the owners of a cell have changed at one owner
pub changed_at : (m : Cells) (k : Cell) (o : Owners) (owner : ℕ) (f : Option LockModes → Option LockModes)
    → ((u : ℕ) → finite.get o u ≡ cond (u == owner) (f (marks_at m k u)) (marks_at m k u))
    → (c : Cell) (u : ℕ) → marks_at (finite.insert m k o) c u ≡ cond (is_at k owner c u) (f (marks_at m c u)) (marks_at m c u)
changed_at m k o owner f is c u =
    marks-insert m k o c u ∙ ap (λ x. cond (same_cell c k) x (marks_at m c u)) (is u)
    ∙ under_same (λ d. cond (u == owner) (f (marks_at m d u)) (marks_at m d u)) c k (marks_at m c u)
    ∙ both_tests (same_cell c k) (u == owner) (f (marks_at m c u)) (marks_at m c u)

-- What one change of the owners says of each of them.
pub got-inserted : (o : Owners) (owner : ℕ) (x : LockModes) (u : ℕ) → finite.get (finite.insert o owner x) u ≡ cond (u == owner) (Some x) (finite.get o u)
got-inserted o owner x u = finite.get-insert nat_cmp_total o owner x u ∙ ap (λ b. cond b (Some x) (finite.get o u)) (unsigned_tied u owner)

pub got-removed : (o : Owners) (owner : ℕ) (u : ℕ) → finite.get (finite.remove o owner) u ≡ cond (u == owner) None (finite.get o u)
got-removed o owner u = finite.get-remove nat_cmp_total o owner u ∙ ap (λ b. cond b None (finite.get o u)) (unsigned_tied u owner)

at_owner : (P : ℕ → Option LockModes) (u owner : ℕ) (y : Option LockModes) → cond (u == owner) (P owner) y ≡ cond (u == owner) (P u) y
at_owner P u owner y = by_test (u == owner) refl
  where
    by_test : (b : Bool) → (u == owner) ≡ b → cond (u == owner) (P owner) y ≡ cond (u == owner) (P u) y
    by_test true e = ap (λ b. cond b (P owner) y) e ∙ ap P (sym (eqb-true u owner e)) ∙ sym (ap (λ b. cond b (P u) y) e)
    by_test false e = ap (λ b. cond b (P owner) y) e ∙ sym (ap (λ b. cond b (P u) y) e)

pub got-marked : (o : Owners) (owner : ℕ) (marks : LockModes) (u : ℕ) → finite.get (marked o owner marks) u ≡ cond (u == owner) (option_map (λ own. with_marks own marks) (finite.get o u)) (finite.get o u)
got-marked o owner marks u =
    by_own (finite.get o owner) refl ∙ at_owner (λ v. option_map (λ own. with_marks own marks) (finite.get o v)) u owner (finite.get o u)
  where
    no_change : (b : Bool) (x : Option LockModes) → (b ≡ true → x ≡ None) → x ≡ cond b None x
    no_change true x h = h refl
    no_change false x h = refl

    by_own : (own : Option LockModes) → finite.get o owner ≡ own → finite.get (marked o owner marks) u ≡ cond (u == owner) (option_map (λ own. with_marks own marks) (finite.get o owner)) (finite.get o u)
    by_own None e =
        ap (λ x. finite.get (marked_at o owner marks x) u) e
        ∙ no_change (u == owner) (finite.get o u) (λ tied. ap (finite.get o) (eqb-true u owner tied) ∙ e)
        ∙ sym (ap (λ x. cond (u == owner) (option_map (λ own. with_marks own marks) x) (finite.get o u)) e)
    by_own (Some own) e =
        ap (λ x. finite.get (marked_at o owner marks x) u) e ∙ got-inserted o owner (with_marks own marks) u
        ∙ sym (ap (λ x. cond (u == owner) (option_map (λ own. with_marks own marks) x) (finite.get o u)) e)

-- one owner's place is another's
pub got-handed : (o : Owners) (from to : ℕ) (own : LockModes) → finite.get o from ≡ Some own → (from ≡ to → ⊥)
    → (u : ℕ) → finite.get (handed o from to (passed_to to own)) u ≡ after_hand from to (finite.get o) u
got-handed o from to own is apart u =
    got-inserted (finite.remove o from) to (with_marks (unwrap_or (finite.get o to) no_marks) (passed_to to own)) u
    ∙ ap (cond (u == to) (Some (with_marks (unwrap_or (finite.get o to) no_marks) (passed_to to own)))) (got-removed o from u)
    ∙ first_from (u == from) (u == to) (Some (with_marks (unwrap_or (finite.get o to) no_marks) (passed_to to own))) (finite.get o u) (λ a b. apart (sym (eqb-true u from a) ∙ eqb-true u to b))
    ∙ ap (λ x. cond (u == from) None (cond (u == to) x (finite.get o u))) (joins (finite.get o to) (passed_to to own) ∙ sym (ap (λ x. joined_marks (finite.get o to) (option_map (passed_to to) x)) is))
  where
    first_from : (a b : Bool) (x y : Option LockModes) → (a ≡ true → b ≡ true → ⊥) → cond b x (cond a None y) ≡ cond a None (cond b x y)
    first_from true true x y no_both = absurd (no_both refl refl)
    first_from true false x y no_both = refl
    first_from false b x y no_both = refl

    joins : (x : Option LockModes) (y : LockModes) → Some (with_marks (unwrap_or x no_marks) y) ≡ joined_marks x (Some y)
    joins None y = refl
    joins (Some x) y = refl

-- the marks of a whole cell are others
pub changed_cell : (m : Cells) (k : Cell) (o : Owners) (f : (ℕ → Option LockModes) → ℕ → Option LockModes)
    → ((u : ℕ) → finite.get o u ≡ f (marks_at m k) u)
    → (c : Cell) (u : ℕ) → marks_at (finite.insert m k o) c u ≡ cond (same_cell c k) (f (marks_at m c) u) (marks_at m c u)
changed_cell m k o f is c u =
    marks-insert m k o c u ∙ ap (λ x. cond (same_cell c k) x (marks_at m c u)) (is u) ∙ under_same (λ d. f (marks_at m d) u) c k (marks_at m c u)

-- an equation of the marks, carried to a hand-over
pub hand_same : (from to : ℕ) (f g : ℕ → Option LockModes) → ((u : ℕ) → f u ≡ g u) → (u : ℕ) → after_hand from to f u ≡ after_hand from to g u
hand_same from to f g is u = λ i. cond (u == from) None (cond (u == to) (joined_marks (is to i) (option_map (passed_to to) (is from i))) (is u i))

-- nobody has a place on a cell that is not in the table
pub unchanged_at : (m : Cells) (k : Cell) (owner : ℕ) (f : Option LockModes → Option LockModes) → None ≡ finite.get m k → f None ≡ None
    → (c : Cell) (u : ℕ) → marks_at m c u ≡ cond (is_at k owner c u) (f (marks_at m c u)) (marks_at m c u)
unchanged_at m k owner f gone none c u = by_cell (same_cell c k) refl
  where
    alike : (b : Bool) (x : Option LockModes) → f x ≡ x → x ≡ cond b (f x) x
    alike true x e = sym e
    alike false x e = refl

    by_cell : (b : Bool) → same_cell c k ≡ b → marks_at m c u ≡ cond (is_at k owner c u) (f (marks_at m c u)) (marks_at m c u)
    by_cell true e =
        let nothing = ap (λ d. marks_at m d u) (same_cell-is c k e) ∙ marks-missing m k gone u in
        alike (is_at k owner c u) (marks_at m c u) (ap f nothing ∙ none ∙ sym nothing)
    by_cell false e = sym (ap (λ b. cond (b && (u == owner)) (f (marks_at m c u)) (marks_at m c u)) e)

-- a cell whose last owner goes leaves the table
pub last_out : (m : Cells) (k : Cell) (o : Owners) (owner : ℕ) → Some o ≡ finite.get m k → ((u : ℕ) → finite.get (finite.remove o owner) u ≡ None)
    → (c : Cell) (u : ℕ) → marks_at (finite.remove m k) c u ≡ cond (is_at k owner c u) None (marks_at m c u)
last_out m k o owner there alone c u = marks-remove m k c u ∙ by_cell (same_cell c k) refl
  where
    by_cell : (b : Bool) → same_cell c k ≡ b → cond (same_cell c k) None (marks_at m c u) ≡ cond (is_at k owner c u) None (marks_at m c u)
    by_cell true e =
        ap (λ b. cond b None (marks_at m c u)) e
        ∙ sym (ap (λ b. cond (b && (u == owner)) None (marks_at m c u)) e
        ∙ ap (cond (u == owner) None) (ap (λ d. marks_at m d u) (same_cell-is c k e) ∙ sym (marks-found m k o there u))
        ∙ sym (got-removed o owner u) ∙ alone u)
    by_cell false e = ap (λ b. cond b None (marks_at m c u)) e ∙ sym (ap (λ b. cond (b && (u == owner)) None (marks_at m c u)) e)

pub last_gone : (m : Cells) (k : Cell) (u : ℕ) → marks_at (finite.remove m k) k u ≡ None
last_gone m k u = marks-remove m k k u ∙ ap (λ b. cond b None (marks_at m k u)) ((eq_by_cmp_equiv cell_cmp_total).refl k)

pub at_itself : (m : Cells) (k : Cell) (o : Owners) (u : ℕ) → marks_at (finite.insert m k o) k u ≡ finite.get o u
at_itself m k o u = marks-insert m k o k u ∙ ap (λ b. cond b (finite.get o u) (marks_at m k u)) ((eq_by_cmp_equiv cell_cmp_total).refl k)

-- a place shows that the cell is in the table
pub in_table : (m : Cells) (k : Cell) (u : ℕ) (r : Option Owners) → r ≡ finite.get m k → IsSome (marks_at m k u) → IsSome r
in_table m k u None is some = absurd (false≢true (sym (ap is_some (marks-missing m k is u)) ∙ some))
in_table m k u (Some o) is some = refl

-- what was there is there again
pub put_back : (m : Cells) (k : Cell) (o : Owners) → Some o ≡ finite.get m k → finite.insert m k o ≡ m
put_back m k o is = same_cells _ _ (λ q. finite.get-insert cell_cmp_total m k o q ∙ by_cell q (same_cell q k) refl)
  where
    by_cell : (q : Cell) (b : Bool) → same_cell q k ≡ b → cond (same_cell q k) (Some o) (finite.get m q) ≡ finite.get m q
    by_cell q true e = ap (λ b. cond b (Some o) (finite.get m q)) e ∙ is ∙ ap (finite.get m) (sym (same_cell-is q k e))
    by_cell q false e = ap (λ b. cond b (Some o) (finite.get m q)) e
