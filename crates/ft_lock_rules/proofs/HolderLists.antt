-- A list of holdings in which no owner stands twice: what stands in its middle decides what it has
-- for one owner.
use Rattle.std.proofs.Common.{◌≡◌, ℕ, suc, ◌<◌, Bool, true, false, cond, not, ◌&&◌, ◌||◌, List, [], ◌∷◌, ◌++◌, Option, Some, None, refl, sym, ap, subst, ◌∙◌, set, take, drop, length, get_or, is_some, IsSome, unwrap_or, ◌==◌}
use Rattle.std.proofs.lemmas.Bool.{false≢true}
use Rattle.std.specs.Ordering.{nat_cmp, eq_by_cmp}
use Rattle.std.specs.Cmp.{nat_cmp_total, nat_eq_equiv, eq_by_cmp_equiv, unsigned_tied, Equal-is}
use Rattle.std.proofs.lemmas.List.{set_split, take-append-drop, append-nil}
use Rattle.std.proofs.Math.Seq.{drop-cons}
use Rattle.std.specs.List.{find, position, position_or_len, list_any}
use Rattle.std.proofs.lemmas.List.Folds.{find_at}
use Rattle.std.proofs.lemmas.List.Quantifiers.{position-Some}
use Rattle.std.proofs.lemmas.Option.{slice_get_past}
use Rattle.std.proofs.lemmas.Bool.{ltb-false, eqb-true}
use Rattle.std.proofs.Math.Dec.{ltb}
use Rattle.std.specs.FinMap as finite
use Rattle.ft_lock_rules.specs.declared.lock_modes.LockModes.{LockModes}
use Rattle.ft_lock_rules.specs.declared.cell_locks.OwnerLocks.{OwnerLocks}
use Rattle.ft_lock_rules.specs.LockModes.{no_marks, with_marks, is_marked, is_marked_of}
use Rattle.ft_lock_rules.specs.CellLocks.{Owners, as_entries, marks_in, place_in, AreApart, IsPlaceOf, marked, marked_at, handed}

abbrev pub blank : OwnerLocks
blank = record { owner = 0; marks = no_marks }

abbrev pub ties : ℕ → ℕ → Bool
ties = eq_by_cmp nat_cmp

none_either : (b : Bool) (o : Option LockModes) → cond b o o ≡ o
none_either true o = refl
none_either false o = refl

either_first : (a b : Bool) (x : LockModes) (more : Option LockModes) → (a ≡ true → b ≡ true → ⊥) → cond a None (cond b (Some x) more) ≡ cond b (Some x) (cond a None more)
either_first true true x more apart = absurd (apart refl refl)
either_first true false x more apart = refl
either_first false b x more apart = refl

pub tied_same : (a b : ℕ) → ties a b ≡ true → a ≡ b
tied_same a b e = finite.nat_cmp-IsAntisymmetric a b ((Equal-is (nat_cmp a b)).0 e)

none_of : (b : Bool) (n : ℕ) → None ≡ cond b (Some n) None → b ≡ false
none_of true n e = absurd (false≢true (ap is_some e))
none_of false n e = refl

missed_head : (b : Bool) (h : OwnerLocks) (more : Option OwnerLocks) → cond b (Some h) more ≡ None → (b ≡ false) × (more ≡ None)
missed_head true h more e = absurd (false≢true (sym (ap is_some e)))
missed_head false h more e = (refl, e)

-- a first entry that leaves nothing: it is another's
pub not_first : (b : Bool) (m : LockModes) (more : Option LockModes) → cond b (Some m) more ≡ None → (b ≡ false) × (more ≡ None)
not_first true m more e = absurd (false≢true (sym (ap is_some e)))
not_first false m more e = (refl, e)

first_other : (b : Bool) (m : LockModes) (more : Option LockModes) → b ≡ false → more ≡ None → cond b (Some m) more ≡ None
first_other b m more e none = ap (λ c. cond c (Some m) more) e ∙ none

swap_tests : (a b : Bool) (m n : LockModes) (more : Option LockModes) → (a ≡ true → b ≡ true → ⊥) → cond a (Some m) (cond b (Some n) more) ≡ cond b (Some n) (cond a (Some m) more)
swap_tests true true m n more apart = absurd (apart refl refl)
swap_tests true false m n more apart = refl
swap_tests false b m n more apart = refl

not_both : (q a b : ℕ) → ties a b ≡ false → ties q b ≡ true → ties q a ≡ true → ⊥
not_both q a b apart with_b with_a =
    let laws = eq_by_cmp_equiv nat_cmp_total in
    false≢true (sym apart ∙ sym (laws.congr q a b with_a) ∙ with_b)

-- what an owner has, where the one in the middle stands nowhere else
pub at-middle : (p s : List OwnerLocks) (x : OwnerLocks) (q : ℕ) → marks_in (p ++ s) x.owner ≡ None → marks_in (p ++ x ∷ s) q ≡ cond (ties q x.owner) (Some x.marks) (marks_in (p ++ s) q)
at-middle [] s x q none = refl
at-middle (h ∷ p) s x q none =
    let here = not_first (ties x.owner h.owner) h.marks (marks_in (p ++ s) x.owner) none in
    ap (cond (ties q h.owner) (Some h.marks)) (at-middle p s x q here.1)
    ∙ swap_tests (ties q h.owner) (ties q x.owner) h.marks x.marks (marks_in (p ++ s) q) (not_both q x.owner h.owner here.0)

pub apart-middle : (p s : List OwnerLocks) (x : OwnerLocks) → AreApart (p ++ x ∷ s) → AreApart (p ++ s) × (marks_in (p ++ s) x.owner ≡ None)
apart-middle [] s x h = (h.1, h.0)
apart-middle (y ∷ p) s x h =
    let later = apart-middle p s x h.1 in
    let here = not_first (ties y.owner x.owner) x.marks (marks_in (p ++ s) y.owner) (sym (at-middle p s x y.owner later.1) ∙ h.0) in
    ((here.1, later.0), first_other (ties x.owner y.owner) y.marks (marks_in (p ++ s) x.owner) ((eq_by_cmp_equiv nat_cmp_total).symm x.owner y.owner ∙ here.0) later.1)

pub middle-apart : (p s : List OwnerLocks) (x : OwnerLocks) → AreApart (p ++ s) → marks_in (p ++ s) x.owner ≡ None → AreApart (p ++ x ∷ s)
middle-apart [] s x h none = (none, h)
middle-apart (y ∷ p) s x h none =
    let here = not_first (ties x.owner y.owner) y.marks (marks_in (p ++ s) x.owner) none in
    (at-middle p s x y.owner here.1 ∙ first_other (ties y.owner x.owner) x.marks (marks_in (p ++ s) y.owner) ((eq_by_cmp_equiv nat_cmp_total).symm y.owner x.owner ∙ here.0) h.0, middle-apart p s x h.1 here.1)

-- What the list is seen as.
abbrev pub seen : List OwnerLocks → Owners
seen list = finite.from_entries (as_entries list)

pub get-seen : (list : List OwnerLocks) (q : ℕ) → finite.get (seen list) q ≡ marks_in list q
get-seen list q = finite.get-from_entries nat_cmp_total (as_entries list) q

pub same_owners : (m n : Owners) → ((q : ℕ) → finite.get m q ≡ finite.get n q) → m ≡ n
same_owners m n is = finite.same_map nat_cmp_total finite.nat_cmp-IsAntisymmetric m n is

-- a list is what stands before a place, what stands there, and what stands behind it
pub split_at : (list : List OwnerLocks) (i : ℕ) (d : OwnerLocks) → i < length list → list ≡ take i list ++ get_or list i d ∷ drop (suc i) list
split_at list i d within = sym (take-append-drop i list) ∙ ap (λ (more : List OwnerLocks). take i list ++ more) (drop-cons list i d within)

-- the rest of a list, with one place left out
abbrev pub others : List OwnerLocks → ℕ → List OwnerLocks
others list i = take i list ++ drop (suc i) list

-- at this place stands x, and its owner nowhere else
pub record IsPlaced (list : List OwnerLocks) (i : ℕ) (x : OwnerLocks) : Type 0 where
  pub apart : AreApart (others list i)
  pub absent : marks_in (others list i) x.owner ≡ None
  pub at : (q : ℕ) → marks_in list q ≡ cond (ties q x.owner) (Some x.marks) (marks_in (others list i) q)

pub placed : (list : List OwnerLocks) (i : ℕ) (d : OwnerLocks) → AreApart list → i < length list → IsPlaced list i (get_or list i d)
placed list i d apart within =
    let split = split_at list i d within in
    let rest = apart-middle (take i list) (drop (suc i) list) (get_or list i d) (subst AreApart split apart) in
    record {
      apart = rest.0;
      absent = rest.1;
      at = λ q. ap (λ l. marks_in l q) split ∙ at-middle (take i list) (drop (suc i) list) (get_or list i d) q rest.1;
    }

module _ (m : Owners) (list : List OwnerLocks) (is : seen list ≡ m) where
  -- what the map has, by the list
  pub get-list : (q : ℕ) → finite.get m q ≡ marks_in list q
  get-list q = ap (λ (n : Owners). finite.get n q) (sym is) ∙ get-seen list q

  module _ (i : ℕ) (d : OwnerLocks) (apart : AreApart list) (within : i < length list) where
    here : IsPlaced list i (get_or list i d)
    here = placed list i d apart within

    -- the owner at the place has what stands there
    pub get-here : finite.get m (get_or list i d).owner ≡ Some (get_or list i d).marks
    get-here = get-list (get_or list i d).owner ∙ here.at (get_or list i d).owner ∙ ap (λ b. cond b (Some (get_or list i d).marks) (marks_in (others list i) (get_or list i d).owner)) ((eq_by_cmp_equiv nat_cmp_total).refl (get_or list i d).owner)

    -- without it, its owner has nothing, and the others have what they had
    pub get-others : (q : ℕ) → marks_in (others list i) q ≡ finite.get (finite.remove m (get_or list i d).owner) q
    get-others q =
        left_out (ties q (get_or list i d).owner) refl
        ∙ ap (cond (ties q (get_or list i d).owner) None) (sym (get-list q))
        ∙ sym (finite.get-remove nat_cmp_total m (get_or list i d).owner q)
      where
        left_out : (b : Bool) → ties q (get_or list i d).owner ≡ b → marks_in (others list i) q ≡ cond (ties q (get_or list i d).owner) None (marks_in list q)
        left_out true tied = ap (marks_in (others list i)) (tied_same q (get_or list i d).owner tied) ∙ here.absent ∙ sym (ap (λ b. cond b None (marks_in list q)) tied)
        left_out false tied =
            sym (here.at q ∙ ap (λ b. cond b (Some (get_or list i d).marks) (marks_in (others list i) q)) tied)
            ∙ sym (ap (λ b. cond b None (marks_in list q)) tied)

    -- another place in its stead
    pub apart-set : (y : OwnerLocks) → marks_in (others list i) y.owner ≡ None → AreApart (set list i y)
    apart-set y none = subst AreApart (sym (set_split list i y within)) (middle-apart (take i list) (drop (suc i) list) y here.apart none)

    pub seen-set : (y : OwnerLocks) → marks_in (others list i) y.owner ≡ None → seen (set list i y) ≡ finite.insert (finite.remove m (get_or list i d).owner) y.owner y.marks
    seen-set y none = same_owners _ _ (λ q. get-seen (set list i y) q ∙ ap (λ l. marks_in l q) (set_split list i y within)
        ∙ at-middle (take i list) (drop (suc i) list) y q none
        ∙ ap (cond (ties q y.owner) (Some y.marks)) (get-others q)
        ∙ sym (finite.get-insert nat_cmp_total (finite.remove m (get_or list i d).owner) y.owner y.marks q))

  -- a place behind all others
  pub seen-push : (x : OwnerLocks) → marks_in list x.owner ≡ None → seen (list ++ x ∷ []) ≡ finite.insert m x.owner x.marks
  seen-push x none = same_owners _ _ (λ q. get-seen (list ++ x ∷ []) q
      ∙ at-middle list [] x q (ap (λ l. marks_in l x.owner) (append-nil list) ∙ none)
      ∙ ap (cond (ties q x.owner) (Some x.marks)) (ap (λ l. marks_in l q) (append-nil list) ∙ sym (get-list q))
      ∙ sym (finite.get-insert nat_cmp_total m x.owner x.marks q))

pub apart-push : (list : List OwnerLocks) (x : OwnerLocks) → AreApart list → marks_in list x.owner ≡ None → AreApart (list ++ x ∷ [])
apart-push list x apart none = middle-apart list [] x (subst AreApart (sym (append-nil list)) apart) (ap (λ l. marks_in l x.owner) (append-nil list) ∙ none)

-- to put what an owner has again, without first taking it out
pub put_again : (m : Owners) (u : ℕ) (x : LockModes) → finite.insert (finite.remove m u) u x ≡ finite.insert m u x
put_again m u x = same_owners _ _ (λ q.
    finite.get-insert nat_cmp_total (finite.remove m u) u x q
    ∙ covered (ties q u) q refl
    ∙ sym (finite.get-insert nat_cmp_total m u x q))
  where
    covered : (b : Bool) (q : ℕ) → ties q u ≡ b → cond (ties q u) (Some x) (finite.get (finite.remove m u) q) ≡ cond (ties q u) (Some x) (finite.get m q)
    covered true q e = ap (λ b. cond b (Some x) (finite.get (finite.remove m u) q)) e ∙ sym (ap (λ b. cond b (Some x) (finite.get m q)) e)
    covered false q e = ap (cond (ties q u) (Some x)) (finite.get-remove nat_cmp_total m u q ∙ ap (λ b. cond b None (finite.get m q)) e)

-- where a search finds no place, the owner has nothing
pub none_there : (list : List OwnerLocks) (q : ℕ) → None ≡ place_in list q → marks_in list q ≡ None
none_there list q e = nothing list q (missed list (λ h. h.owner == q) e)
  where
    missed : (hs : List OwnerLocks) (p : OwnerLocks → Bool) → None ≡ position p hs → find p hs ≡ None
    missed hs p e = find_at p hs ∙ slice_get_past hs (position_or_len p hs) (ltb-false (position_or_len p hs) (length hs) (none_of (ltb (position_or_len p hs) (length hs)) (position_or_len p hs) e))

    nothing : (hs : List OwnerLocks) (u : ℕ) → find (λ h. h.owner == u) hs ≡ None → marks_in hs u ≡ None
    nothing [] u none = refl
    nothing (h ∷ more) u none =
        let later = missed_head (h.owner == u) h (find (λ x. x.owner == u) more) none in
        first_other (ties u h.owner) h.marks (marks_in more u) (unsigned_tied u h.owner ∙ nat_eq_equiv.symm u h.owner ∙ later.0) (nothing more u later.1)

-- where it finds one, the owner stands there
pub found_at : (list : List OwnerLocks) (q i : ℕ) → Some i ≡ place_in list q → IsPlaceOf list i q
found_at list q i e = record {
  within = (position-Some (λ (h : OwnerLocks). h.owner == q) list i blank (sym e)).0;
  owned = λ d. eqb-true (get_or list i d).owner q (position-Some (λ (h : OwnerLocks). h.owner == q) list i d (sym e)).1;
}

pub none_at : (m : Owners) (list : List OwnerLocks) (q : ℕ) → seen list ≡ m → marks_in list q ≡ None → finite.get m q ≡ None
none_at m list q is none = get-list m list is q ∙ none

-- A list in which the owner q stands at a place.
module _ (m : Owners) (list : List OwnerLocks) (is : seen list ≡ m) (apart : AreApart list) (i q : ℕ) (at : IsPlaceOf list i q) where
  pub got : (d : OwnerLocks) → finite.get m q ≡ Some (get_or list i d).marks
  got d = ap (finite.get m) (sym (at.owned d)) ∙ get-here m list is i d apart at.within

  own : (d y : OwnerLocks) → y.owner ≡ q → marks_in (others list i) y.owner ≡ None
  own d y same = ap (marks_in (others list i)) (same ∙ sym (at.owned d)) ∙ (placed list i d apart at.within).absent

  pub apart-own : (y : OwnerLocks) → y.owner ≡ q → AreApart (set list i y)
  apart-own y same = apart-set m list is i blank apart at.within y (own blank y same)

  -- the owner's place with more in it
  pub seen-own : (h : OwnerLocks) (x marks : LockModes) → h ≡ get_or list i h → x ≡ with_marks h.marks marks → seen (set list i (record { owner = h.owner; marks = x })) ≡ marked m q marks
  seen-own h x marks read more =
      let owned : h.owner ≡ q = ap (λ (k : OwnerLocks). k.owner) read ∙ at.owned h in
      seen-set m list is i blank apart at.within (record { owner = h.owner; marks = x }) (own blank (record { owner = h.owner; marks = x }) owned)
      ∙ ap (λ u. finite.insert (finite.remove m u) h.owner x) (at.owned blank)
      ∙ ap (λ u. finite.insert (finite.remove m q) u x) owned
      ∙ put_again m q x
      ∙ ap (finite.insert m q) more
      ∙ sym (ap (marked_at m q marks) (got h ∙ ap (λ (k : OwnerLocks). Some k.marks) (sym read)))

  absent_too : (u : ℕ) → finite.get m u ≡ None → marks_in (others list i) u ≡ None
  absent_too u none =
      get-others m list is i blank apart at.within u ∙ finite.get-remove nat_cmp_total m (get_or list i blank).owner u
      ∙ ap (cond (ties u (get_or list i blank).owner) None) none ∙ none_either (ties u (get_or list i blank).owner) None

  pub apart-other : (y : OwnerLocks) → finite.get m y.owner ≡ None → AreApart (set list i y)
  apart-other y none = apart-set m list is i blank apart at.within y (absent_too y.owner none)

  -- another owner in its place
  pub seen-other : (y : OwnerLocks) → finite.get m y.owner ≡ None → seen (set list i y) ≡ finite.insert (finite.remove m q) y.owner y.marks
  seen-other y none = seen-set m list is i blank apart at.within y (absent_too y.owner none) ∙ ap (λ u. finite.insert (finite.remove m u) y.owner y.marks) (at.owned blank)

-- an owner that has nothing loses nothing
pub remove_none : (m : Owners) (q : ℕ) → finite.get m q ≡ None → finite.remove m q ≡ m
remove_none m q none = same_owners _ _ (λ u. finite.get-remove nat_cmp_total m q u ∙ unchanged u (ties u q) refl)
  where
    unchanged : (u : ℕ) (b : Bool) → ties u q ≡ b → cond (ties u q) None (finite.get m u) ≡ finite.get m u
    unchanged u true e = ap (λ b. cond b None (finite.get m u)) e ∙ sym (ap (finite.get m) (tied_same u q e) ∙ none)
    unchanged u false e = ap (λ b. cond b None (finite.get m u)) e

-- to take an owner out before or after another is put
pub remove_after : (m : Owners) (from to : ℕ) (x : LockModes) → (from ≡ to → ⊥) → finite.remove (finite.insert m to x) from ≡ finite.insert (finite.remove m from) to x
remove_after m from to x apart = same_owners _ _ (λ u.
    finite.get-remove nat_cmp_total (finite.insert m to x) from u ∙ ap (cond (ties u from) None) (finite.get-insert nat_cmp_total m to x u)
    ∙ either_first (ties u from) (ties u to) x (finite.get m u) (λ a b. apart (sym (tied_same u from a) ∙ tied_same u to b))
    ∙ sym (finite.get-insert nat_cmp_total (finite.remove m from) to x u ∙ ap (cond (ties u to) (Some x)) (finite.get-remove nat_cmp_total m from u)))

pub nothing_marked : (m : Owners) (q : ℕ) (marks : LockModes) → finite.get m q ≡ None → m ≡ marked m q marks
nothing_marked m q marks none = sym (ap (marked_at m q marks) none)

pub turned : (b : Bool) {x : Bool} → not b ≡ x → b ≡ not x
turned true e = ap not e
turned false e = ap not e

-- where nobody else stands in the list, nobody is left without the owner
pub others_missing : (m : Owners) (list : List OwnerLocks) (q : ℕ) → seen list ≡ m → list_any (λ h. not (h.owner == q)) list ≡ false → (u : ℕ) → finite.get (finite.remove m q) u ≡ None
others_missing m list q is none u =
    finite.get-remove nat_cmp_total m q u ∙ ap (cond (ties u q) None) (get-list m list is u) ∙ by_list list none
  where
    twice : (b : Bool) (x : LockModes) (o : Option LockModes) → cond b None o ≡ None → cond b None (cond b (Some x) o) ≡ None
    twice true x o e = refl
    twice false x o e = e

    by_list : (l : List OwnerLocks) → list_any (λ h. not (h.owner == q)) l ≡ false → cond (ties u q) None (marks_in l u) ≡ None
    by_list [] e = none_either (ties u q) None
    by_list (h ∷ more) e = by_test (h.owner == q) refl e (λ rest. by_list more rest)
      where
        by_test : (b : Bool) → (h.owner == q) ≡ b → (not b || list_any (λ h. not (h.owner == q)) more) ≡ false
            → (list_any (λ h. not (h.owner == q)) more ≡ false → cond (ties u q) None (marks_in more u) ≡ None) → cond (ties u q) None (marks_in (h ∷ more) u) ≡ None
        by_test true same e rest = ap (λ v. cond (ties u q) None (cond (ties u v) (Some h.marks) (marks_in more u))) (eqb-true h.owner q same) ∙ twice (ties u q) h.marks (marks_in more u) (rest e)
        by_test false same e rest = absurd (false≢true (sym e))

pub others_found : (m : Owners) (list : List OwnerLocks) (q : ℕ) → seen list ≡ m → list_any (λ h. not (h.owner == q)) list ≡ true → (u : ℕ) × IsSome (finite.get (finite.remove m q) u)
others_found m list q is some =
    let found = by_list list some in
    (found.0, ap is_some (finite.get-remove nat_cmp_total m q found.0 ∙ ap (cond (ties found.0 q) None) (get-list m list is found.0) ∙ ap (λ b. cond b None (marks_in list found.0)) found.1) ∙ found.2)
  where
    either : (b : Bool) (x : LockModes) (o : Option LockModes) → is_some o ≡ true → is_some (cond b (Some x) o) ≡ true
    either true x o e = refl
    either false x o e = e

    by_list : (l : List OwnerLocks) → list_any (λ h. not (h.owner == q)) l ≡ true → (u : ℕ) × (ties u q ≡ false) × (is_some (marks_in l u) ≡ true)
    by_list [] e = absurd (false≢true e)
    by_list (h ∷ more) e = by_test (h.owner == q) refl e (λ rest. by_list more rest)
      where
        by_test : (b : Bool) → (h.owner == q) ≡ b → (not b || list_any (λ h. not (h.owner == q)) more) ≡ true
            → (list_any (λ h. not (h.owner == q)) more ≡ true → (u : ℕ) × (ties u q ≡ false) × (is_some (marks_in more u) ≡ true))
            → (u : ℕ) × (ties u q ≡ false) × (is_some (marks_in (h ∷ more) u) ≡ true)
        by_test true same e more_some = let rest = more_some e in (rest.0, rest.1, either (ties rest.0 h.owner) h.marks (marks_in more rest.0) rest.2)
        by_test false same e more_some = (h.owner, unsigned_tied h.owner q ∙ same, ap (λ b. is_some (cond b (Some h.marks) (marks_in more h.owner))) ((eq_by_cmp_equiv nat_cmp_total).refl h.owner))

-- a place whose marks grow, and another that goes
pub handed-marked : (m : Owners) (from to : ℕ) (marks : LockModes) → (from ≡ to → ⊥) → IsSome (finite.get m to) → finite.remove (marked m to marks) from ≡ handed m from to marks
handed-marked m from to marks apart some = by_own (finite.get m to) refl some
  where
    by_own : (own : Option LockModes) → finite.get m to ≡ own → IsSome own → finite.remove (marked m to marks) from ≡ handed m from to marks
    by_own None e some = absurd (false≢true some)
    by_own (Some own) e some =
        ap (λ o. finite.remove (marked_at m to marks o) from) e
        ∙ remove_after m from to (with_marks own marks) apart
        ∙ sym (ap (λ o. finite.insert (finite.remove m from) to (with_marks (unwrap_or o no_marks) marks)) e)

pub with_none : (marks : LockModes) → with_marks no_marks marks ≡ marks
with_none marks = refl

-- Whether somebody in a list has a lock.
pub marked_in_list : (list : List OwnerLocks) → AreApart list → list_any (λ h. is_marked h.marks) list ≡ true → (owner : ℕ) × (is_marked_of (marks_in list owner) ≡ true)
marked_in_list [] apart e = absurd (false≢true e)
marked_in_list (h ∷ more) apart e = by_head (is_marked h.marks) refl e (marked_in_list more apart.1)
  where
    by_owner : (u : ℕ) (b : Bool) → ties u h.owner ≡ b → is_marked_of (marks_in more u) ≡ true → is_marked_of (cond (ties u h.owner) (Some h.marks) (marks_in more u)) ≡ true
    by_owner u true d marked = absurd (false≢true (sym (ap is_marked_of (ap (marks_in more) (tied_same u h.owner d) ∙ apart.0)) ∙ marked))
    by_owner u false d marked = ap (λ b. is_marked_of (cond b (Some h.marks) (marks_in more u))) d ∙ marked

    by_head : (b : Bool) → is_marked h.marks ≡ b → (b || list_any (λ x. is_marked x.marks) more) ≡ true
        → (list_any (λ x. is_marked x.marks) more ≡ true → (owner : ℕ) × (is_marked_of (marks_in more owner) ≡ true)) → (owner : ℕ) × (is_marked_of (marks_in (h ∷ more) owner) ≡ true)
    by_head true d e later = (h.owner, ap (λ b. is_marked_of (cond b (Some h.marks) (marks_in more h.owner))) ((eq_by_cmp_equiv nat_cmp_total).refl h.owner) ∙ d)
    by_head false d e later = let found = later e in (found.0, by_owner found.0 (ties found.0 h.owner) refl found.1)

pub unmarked_in_list : (list : List OwnerLocks) → list_any (λ h. is_marked h.marks) list ≡ false → (owner : ℕ) → is_marked_of (marks_in list owner) ≡ false
unmarked_in_list [] e owner = refl
unmarked_in_list (h ∷ more) e owner =
    let both = neither (is_marked h.marks) (list_any (λ x. is_marked x.marks) more) e in
    by_owner (ties owner h.owner) both.0 (unmarked_in_list more both.1 owner)
  where
    neither : (a b : Bool) → (a || b) ≡ false → (a ≡ false) × (b ≡ false)
    neither true b d = absurd (false≢true (sym d))
    neither false b d = (refl, d)

    by_owner : (b : Bool) → is_marked h.marks ≡ false → is_marked_of (marks_in more owner) ≡ false → is_marked_of (cond b (Some h.marks) (marks_in more owner)) ≡ false
    by_owner true marked later = marked
    by_owner false marked later = later

-- a list in which no owner stands twice, read one owner at a time
pub owner_passes : (p : Option LockModes → Bool) → p None ≡ false → (list : List OwnerLocks) → AreApart list → (u : ℕ) → list_any (λ h. (h.owner == u) && p (Some h.marks)) list ≡ p (marks_in list u)
owner_passes p none [] apart u = sym none
owner_passes p none (h ∷ more) apart u = by_owner (h.owner == u) refl (owner_passes p none more apart.1)
  where
    ties_are : eq_by_cmp nat_cmp u h.owner ≡ (h.owner == u)
    ties_are = unsigned_tied u h.owner ∙ nat_eq_equiv.symm u h.owner

    or_none : (b : Bool) → (b || false) ≡ b
    or_none true = refl
    or_none false = refl

    by_owner : (b : Bool) → (h.owner == u) ≡ b → ((v : ℕ) → list_any (λ x. (x.owner == v) && p (Some x.marks)) more ≡ p (marks_in more v))
        → ((h.owner == u) && p (Some h.marks) || list_any (λ x. (x.owner == u) && p (Some x.marks)) more) ≡ p (cond (eq_by_cmp nat_cmp u h.owner) (Some h.marks) (marks_in more u))
    by_owner true e later =
        (λ j. e j && p (Some h.marks) || later u j)
        ∙ ap (λ o. p (Some h.marks) || p o) (ap (marks_in more) (sym (eqb-true h.owner u e)) ∙ apart.0)
        ∙ ap (λ b. p (Some h.marks) || b) none ∙ or_none (p (Some h.marks))
        ∙ sym (ap (λ b. p (cond b (Some h.marks) (marks_in more u))) (ties_are ∙ e))
    by_owner false e later =
        (λ j. e j && p (Some h.marks) || later u j)
        ∙ sym (ap (λ b. p (cond b (Some h.marks) (marks_in more u))) (ties_are ∙ e))

-- A list whose last one goes.
pub front_apart : (rest : List OwnerLocks) (h : OwnerLocks) → AreApart (rest ++ h ∷ []) → AreApart rest
front_apart rest h apart = subst AreApart (append-nil rest) (apart-middle rest [] h apart).0

module _ (m : Owners) (rest : List OwnerLocks) (h : OwnerLocks) (is : seen (rest ++ h ∷ []) ≡ m) (apart : AreApart (rest ++ h ∷ [])) where
  last_none : marks_in rest h.owner ≡ None
  last_none = ap (λ l. marks_in l h.owner) (sym (append-nil rest)) ∙ (apart-middle rest [] h apart).1

  pushed : m ≡ finite.insert (seen rest) h.owner h.marks
  pushed = sym is ∙ seen-push (seen rest) rest refl h last_none

  pub last_had : finite.get m h.owner ≡ Some h.marks
  last_had = ap (λ n. finite.get n h.owner) pushed ∙ finite.get-insert nat_cmp_total (seen rest) h.owner h.marks h.owner
      ∙ ap (λ b. cond b (Some h.marks) (finite.get (seen rest) h.owner)) ((eq_by_cmp_equiv nat_cmp_total).refl h.owner)

  pub last_taken : seen rest ≡ finite.remove m h.owner
  last_taken = same_owners _ _ (λ q.
      by_owner q (ties q h.owner) refl
      ∙ sym (ap (cond (ties q h.owner) None) (ap (λ n. finite.get n q) pushed ∙ finite.get-insert nat_cmp_total (seen rest) h.owner h.marks q))
      ∙ sym (finite.get-remove nat_cmp_total m h.owner q))
    where
      by_owner : (q : ℕ) (b : Bool) → ties q h.owner ≡ b → finite.get (seen rest) q ≡ cond (ties q h.owner) None (cond (ties q h.owner) (Some h.marks) (finite.get (seen rest) q))
      by_owner q true e = get-seen rest q ∙ ap (marks_in rest) (tied_same q h.owner e) ∙ last_none ∙ sym (ap (λ b. cond b None (cond (ties q h.owner) (Some h.marks) (finite.get (seen rest) q))) e)
      by_owner q false e = sym (ap (λ b. cond b None (cond b (Some h.marks) (finite.get (seen rest) q))) e)

-- one that goes, and the last one that comes in its place
pub refilled : (m : Owners) (q u : ℕ) (x : LockModes) → finite.get m u ≡ Some x → (u ≡ q → ⊥) → finite.insert (finite.remove (finite.remove m u) q) u x ≡ finite.remove m q
refilled m q u x had apart = same_owners _ _ (λ k.
    finite.get-insert nat_cmp_total (finite.remove (finite.remove m u) q) u x k
    ∙ ap (cond (ties k u) (Some x)) (finite.get-remove nat_cmp_total (finite.remove m u) q k ∙ ap (cond (ties k q) None) (finite.get-remove nat_cmp_total m u k))
    ∙ by_owner k (ties k u) refl (ties k q) refl
    ∙ sym (finite.get-remove nat_cmp_total m q k))
  where
    by_owner : (k : ℕ) (a : Bool) → ties k u ≡ a → (b : Bool) → ties k q ≡ b → cond (ties k u) (Some x) (cond (ties k q) None (cond (ties k u) None (finite.get m k))) ≡ cond (ties k q) None (finite.get m k)
    by_owner k true e true f = absurd (apart (sym (tied_same k u e) ∙ tied_same k q f))
    by_owner k true e false f =
        ap (λ b. cond b (Some x) (cond (ties k q) None (cond (ties k u) None (finite.get m k)))) e
        ∙ sym had ∙ ap (finite.get m) (sym (tied_same k u e)) ∙ sym (ap (λ b. cond b None (finite.get m k)) f)
    by_owner k false e b f = ap (λ d. cond d (Some x) (cond (ties k q) None (cond d None (finite.get m k)))) e

-- what a list as the code reads it tells
pub place_read : (list ys : List OwnerLocks) (i q : ℕ) → IsPlaceOf ys i q → ys ≡ list → IsPlaceOf list i q
place_read list ys i q at same = subst (λ l. IsPlaceOf l i q) same at

pub absent_read : (list ys : List OwnerLocks) (q : ℕ) → marks_in ys q ≡ None → ys ≡ list → marks_in list q ≡ None
absent_read list ys q none same = subst (λ l. marks_in l q ≡ None) same none

-- an owner that the map does not have stands not in the list
pub absent_in : (m : Owners) (list ys : List OwnerLocks) → seen list ≡ m → ys ≡ list → (q : ℕ) → finite.get m q ≡ None → marks_in ys q ≡ None
absent_in m list ys is same q none = ap (λ l. marks_in l q) same ∙ sym (get-list m list is q) ∙ none

pub none_is : (o : Option LockModes) → is_some o ≡ false → o ≡ None
none_is None e = refl
none_is (Some x) e = absurd (false≢true (sym e))

pub never_none : {P : Type 0} (o : Option LockModes) → o ≡ None → IsSome o → P
never_none o none some = absurd (false≢true (sym (ap is_some none) ∙ some))

-- what is left when one goes
pub gone_itself : (m : Owners) (u : ℕ) → finite.get (finite.remove m u) u ≡ None
gone_itself m u = finite.get-remove nat_cmp_total m u u ∙ ap (λ b. cond b None (finite.get m u)) ((eq_by_cmp_equiv nat_cmp_total).refl u)

pub there_still : (m : Owners) (q u : ℕ) → IsSome (finite.get m q) → (u ≡ q → ⊥) → IsSome (finite.get (finite.remove m u) q)
there_still m q u some apart = by_owner (ties q u) refl
  where
    by_owner : (b : Bool) → ties q u ≡ b → is_some (finite.get (finite.remove m u) q) ≡ true
    by_owner true e = absurd (apart (sym (tied_same q u e)))
    by_owner false e = ap is_some (finite.get-remove nat_cmp_total m u q ∙ ap (λ b. cond b None (finite.get m q)) e) ∙ some
