-- Up to which place there are writers in a list, and its index, as the list changes.
use Rattle.std.proofs.Common.{◌≡◌, ℕ, zero, suc, ◌<◌, ◌≤◌, ◌+◌, ◌||◌, Bool, true, false, cond, List, [], ◌∷◌, ◌++◌, Some, None, refl, sym, ap, subst, ◌∙◌, set, take, drop, length, get_or, arith}
use Rattle.std.proofs.lemmas.Bool.{false≢true}
use Rattle.std.proofs.lemmas.List.{length-take, take_more, take-append-drop}
use Rattle.std.specs.List.{list_any}
use Rattle.std.specs.FinMap as finite
use Rattle.ft_posix.specs.declared.call.Mode.TheVariants.{Read as ReadMode}
use Rattle.ft_lock_rules.specs.declared.lock_modes.LockModes.{LockModes}
use Rattle.ft_lock_rules.specs.declared.cell_locks.OwnerLocks.{OwnerLocks}
use Rattle.ft_lock_rules.specs.LockModes.{conflicts_with}
use Rattle.ft_lock_rules.specs.CellLocks.{marks_in, AreApart, IsPlaceOf, Indexed, AreFound, ReadFrom, IsIndexOf}
use Rattle.ft_lock_rules.proofs.HolderPlaces.{some_same, some_none, front_none, found_none, found_push, found_own, found_other, found_pop}
use Rattle.ft_lock_rules.proofs.HolderLists.{ties, apart-middle, split_at}

-- whether one is in the way of one that reads
abbrev pub writes : OwnerLocks → Bool
writes h = conflicts_with h.marks ReadMode

neither : (a b : Bool) → (a || b) ≡ false → (a ≡ false) × (b ≡ false)
neither true b d = absurd (false≢true (sym d))
neither false b d = (refl, d)

both_false : (a b : Bool) → a ≡ false → b ≡ false → (a || b) ≡ false
both_false a b p q = ap (λ c. c || b) p ∙ q

never : (b : Bool) → (b ≡ true → ⊥) → b ≡ false
never true not_so = absurd (not_so refl)
never false not_so = refl

nobody : (n : ℕ) → ReadFrom n []
nobody zero = refl
nobody (suc n) = refl

later : (n m : ℕ) (list : List OwnerLocks) → n ≤ m → ReadFrom n list → ReadFrom m list
later n m [] le h = nobody m
later zero zero (x ∷ xs) le h = h
later (suc n) zero (x ∷ xs) le h = absurd (omega (arith, le))
later zero (suc m) (x ∷ xs) le h = later zero m xs (omega arith) (neither (writes x) (list_any writes xs) h).1
later (suc n) (suc m) (x ∷ xs) le h = later n m xs (omega (arith, le)) h

-- one comes behind the others: before that place, if it writes
read_push : (n : ℕ) (list : List OwnerLocks) (h : OwnerLocks) → ReadFrom n list → (writes h ≡ true → length list < n) → ReadFrom n (list ++ h ∷ [])
read_push zero [] h r before = both_false _ _ (never (writes h) (λ e. let within = before e in omega (arith, within))) refl
read_push (suc n) [] h r before = nobody n
read_push zero (x ∷ xs) h r before =
    let both = neither (writes x) (list_any writes xs) r in
    both_false _ _ both.0 (read_push zero xs h both.1 (λ e. let within = before e in absurd (omega (arith, within))))
read_push (suc n) (x ∷ xs) h r before = read_push n xs h r (λ e. let within = before e in omega (arith, within))

-- another comes to a place: before that place, if it writes
read_set : (n : ℕ) (list : List OwnerLocks) (i : ℕ) (y : OwnerLocks) → ReadFrom n list → (writes y ≡ true → i < n) → ReadFrom n (set list i y)
read_set n [] i y r before = nobody n
read_set zero (x ∷ xs) zero y r before = both_false _ _ (never (writes y) (λ e. let within = before e in omega (arith, within))) (neither (writes x) (list_any writes xs) r).1
read_set zero (x ∷ xs) (suc i) y r before =
    let both = neither (writes x) (list_any writes xs) r in
    both_false _ _ both.0 (read_set zero xs i y both.1 (λ e. let within = before e in absurd (omega (arith, within))))
read_set (suc n) (x ∷ xs) zero y r before = r
read_set (suc n) (x ∷ xs) (suc i) y r before = read_set n xs i y r (λ e. let within = before e in omega (arith, within))

-- the last one goes
read_pop : (n : ℕ) (list : List OwnerLocks) (h : OwnerLocks) → ReadFrom n (list ++ h ∷ []) → ReadFrom n list
read_pop n [] h r = nobody n
read_pop zero (x ∷ xs) h r =
    let both = neither (writes x) (list_any writes (xs ++ h ∷ [])) r in
    both_false _ _ both.0 (read_pop zero xs h both.1)
read_pop (suc n) (x ∷ xs) h r = read_pop n xs h r

-- The index of a list.
pub index_new : (x : Indexed) → x.places ≡ finite.empty → IsIndexOf x []
index_new x none = record { found = subst (λ t. AreFound t []) (sym none) found_none; readers = nobody (x.last_writer + 1) }

-- one comes behind the others
pub index_push : (x new : Indexed) (list : List OwnerLocks) (h : OwnerLocks) → IsIndexOf x list → marks_in list h.owner ≡ None
    → new.places ≡ finite.insert x.places h.owner (length list) → x.last_writer ≤ new.last_writer → (writes h ≡ true → length list ≤ new.last_writer) → IsIndexOf new (list ++ h ∷ [])
index_push x new list h is none places more writer = record {
  found = subst (λ t. AreFound t (list ++ h ∷ [])) (sym places) (found_push x.places list h is.found none);
  readers = read_push (new.last_writer + 1) list h (later (x.last_writer + 1) (new.last_writer + 1) list (omega (arith, more)) is.readers)
      (λ e. let within = writer e in omega (arith, within));
}

take_length : (list : List OwnerLocks) (i : ℕ) → i < length list → length (take i list) ≡ i
take_length list i within = omega (arith, length-take i list)

-- one more of a list
pub index_more : (x new : Indexed) (list : List OwnerLocks) (i : ℕ) (d : OwnerLocks) → IsIndexOf x (take i list) → AreApart list → i < length list
    → new.places ≡ finite.insert x.places (get_or list i d).owner i → x.last_writer ≤ new.last_writer → (writes (get_or list i d) ≡ true → i ≤ new.last_writer) → IsIndexOf new (take (i + 1) list)
index_more x new list i d is apart within places more writer =
    let h = get_or list i d in
    let none : marks_in (take i list) h.owner ≡ None = front_none (take i list) (drop (suc i) list) h.owner (apart-middle (take i list) (drop (suc i) list) h (subst AreApart (split_at list i d within) apart)).1 in
    let long = take_length list i within in
    subst (IsIndexOf new) (sym (take_more list i d within))
    (index_push x new (take i list) h is none (places ∙ ap (finite.insert x.places h.owner) (sym long)) more (λ e. let before = writer e in omega (arith, before, long)))

-- the owner at a place has other locks
pub index_own : (x new : Indexed) (list : List OwnerLocks) → IsIndexOf x list → AreApart list → (i q : ℕ) → IsPlaceOf list i q → (y : OwnerLocks) → y.owner ≡ q
    → new.places ≡ x.places → x.last_writer ≤ new.last_writer → (writes y ≡ true → i ≤ new.last_writer) → IsIndexOf new (set list i y)
index_own x new list is apart i q at y own places more writer = record {
  found = subst (λ t. AreFound t (set list i y)) (sym places) (found_own x.places list is.found apart i q at y own);
  readers = read_set (new.last_writer + 1) list i y (later (x.last_writer + 1) (new.last_writer + 1) list (omega (arith, more)) is.readers)
      (λ e. let within = writer e in omega (arith, within));
}

-- another owner comes to a place
pub index_other : (x new : Indexed) (list : List OwnerLocks) → IsIndexOf x list → AreApart list → (i q : ℕ) → IsPlaceOf list i q → (y : OwnerLocks) → marks_in list y.owner ≡ None
    → new.places ≡ finite.insert (finite.remove x.places q) y.owner i → x.last_writer ≤ new.last_writer → (writes y ≡ true → i ≤ new.last_writer) → IsIndexOf new (set list i y)
index_other x new list is apart i q at y none places more writer = record {
  found = subst (λ t. AreFound t (set list i y)) (sym places) (found_other x.places list is.found apart i q at y y.owner refl none);
  readers = read_set (new.last_writer + 1) list i y (later (x.last_writer + 1) (new.last_writer + 1) list (omega (arith, more)) is.readers)
      (λ e. let within = writer e in omega (arith, within));
}

-- the last one goes
pub index_pop : (x : Indexed) (rest : List OwnerLocks) (h : OwnerLocks) → IsIndexOf x (rest ++ h ∷ []) → AreApart (rest ++ h ∷ []) → IsIndexOf (record x { places = finite.remove x.places h.owner }) rest
index_pop x rest h is apart = record { found = found_pop x.places rest h is.found apart; readers = read_pop (x.last_writer + 1) rest h is.readers }

-- The first of a list.
-- who stands among the first has the same in the whole
pub first_had : (n : ℕ) (list : List OwnerLocks) (u : ℕ) (m : LockModes) → marks_in (take n list) u ≡ Some m → marks_in list u ≡ Some m
first_had zero list u m e = some_none m (sym e)
first_had (suc n) [] u m e = e
first_had (suc n) (x ∷ xs) u m e = by_owner (ties u x.owner) e (first_had n xs u m)
  where
    by_owner : (b : Bool) → cond b (Some x.marks) (marks_in (take n xs) u) ≡ Some m → (marks_in (take n xs) u ≡ Some m → marks_in xs u ≡ Some m) → cond b (Some x.marks) (marks_in xs u) ≡ Some m
    by_owner true e rest = e
    by_owner false e rest = rest e

-- who is missing in the whole is missing among the first
first_none : (n : ℕ) (list : List OwnerLocks) (u : ℕ) → marks_in list u ≡ None → marks_in (take n list) u ≡ None
first_none n list u e = front_none (take n list) (drop n list) u (ap (λ l. marks_in l u) (take-append-drop n list) ∙ e)

pub first_apart : (n : ℕ) (list : List OwnerLocks) → AreApart list → AreApart (take n list)
first_apart zero list apart = tt
first_apart (suc n) [] apart = tt
first_apart (suc n) (x ∷ xs) apart = (first_none n xs x.owner apart.0, first_apart n xs apart.1)

-- behind the last that may write nobody is in the way
none_writes : (list : List OwnerLocks) (u : ℕ) (m : LockModes) → ReadFrom 0 list → marks_in list u ≡ Some m → conflicts_with m ReadMode ≡ true → ⊥
none_writes [] u m r e way = some_none m (sym e)
none_writes (x ∷ xs) u m r e way =
    let both = neither (writes x) (list_any writes xs) r in
    by_owner (ties u x.owner) e both.0 (λ later. none_writes xs u m both.1 later way)
  where
    by_owner : (b : Bool) → cond b (Some x.marks) (marks_in xs u) ≡ Some m → writes x ≡ false → (marks_in xs u ≡ Some m → ⊥) → ⊥
    by_owner true e reads rest = false≢true (sym reads ∙ ap (λ k. conflicts_with k ReadMode) (some_same x.marks m e) ∙ way)
    by_owner false e reads rest = rest e

-- who is in the way stands among the first
pub first_all : (n : ℕ) (list : List OwnerLocks) (u : ℕ) (m : LockModes) → ReadFrom n list → marks_in list u ≡ Some m → conflicts_with m ReadMode ≡ true → marks_in (take n list) u ≡ Some m
first_all zero list u m r e way = absurd (none_writes list u m r e way)
first_all (suc n) [] u m r e way = e
first_all (suc n) (x ∷ xs) u m r e way = by_owner (ties u x.owner) e (λ e. first_all n xs u m r e way)
  where
    by_owner : (b : Bool) → cond b (Some x.marks) (marks_in xs u) ≡ Some m → (marks_in xs u ≡ Some m → marks_in (take n xs) u ≡ Some m) → cond b (Some x.marks) (marks_in (take n xs) u) ≡ Some m
    by_owner true e rest = e
    by_owner false e rest = rest e
