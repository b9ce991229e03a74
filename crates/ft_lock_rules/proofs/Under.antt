-- The owners' lists, with the cells in place of their keys.
use Rattle.std.proofs.Common.{◌≡◌, ℕ, Bool, true, false, cond, ◌||◌, ◌==◌, List, [], ◌∷◌, ◌++◌, map, Option, Some, None, IsSome, is_some, unwrap_or, refl, sym, ap, subst, ◌∙◌}
use Rattle.std.proofs.lemmas.Bool.{false≢true}
use Rattle.std.specs.List.{list_any, cons_option}
use Rattle.std.specs.Option.{option_map}
use Rattle.std.specs.Ordering.{nat_cmp, eq_by_cmp}
use Rattle.std.specs.Cmp.{nat_cmp_total, eq_by_cmp_equiv}
use Rattle.std.specs.FinMap as finite
use Rattle.ft_owned_lists.specs.OwnedLists.{Lists, list_in, moved, spliced}
use Rattle.ft_cells.specs.declared.cell.Cell.{Cell}
use Rattle.ft_cells.specs.CellOrder.{cell_cmp_total, same_cell}
use Rattle.ft_lock_rules.specs.Cells.{CellKeys, Keyed}
use Rattle.ft_lock_rules.specs.Holdings.{IsJoined, AreJoined, AreUsed, cells_under, lists_under, has_place, popped}
use Rattle.ft_lock_rules.proofs.Joining.{list-insert, list-remove, front_there, popped_is, moved_is}

find-mapped : {A B : Type 0} (f : A → B) (es : List (ℕ × A)) (u : ℕ) → finite.find nat_cmp u (map (λ e. (e.0, f e.1)) es) ≡ option_map f (finite.find nat_cmp u es)
find-mapped f [] u = refl
find-mapped f (e ∷ es) u = by_test (eq_by_cmp nat_cmp u e.0) (find-mapped f es u)
  where
    by_test : (b : Bool) → finite.find nat_cmp u (map (λ e. (e.0, f e.1)) es) ≡ option_map f (finite.find nat_cmp u es)
        → cond b (Some (f e.1)) (finite.find nat_cmp u (map (λ e. (e.0, f e.1)) es)) ≡ option_map f (cond b (Some e.1) (finite.find nat_cmp u es))
    by_test true later = refl
    by_test false later = later

get-under : (at : CellKeys) (m : Lists ℕ) (u : ℕ) → finite.get (lists_under at m) u ≡ option_map (cells_under at) (finite.get m u)
get-under at m u =
    finite.get-from_entries nat_cmp_total (map (λ e. (e.0, cells_under at e.1)) (finite.entries m)) u
    ∙ find-mapped (cells_under at) (finite.entries m) u ∙ ap (option_map (cells_under at)) (sym (finite.get-entries m u))

pub open-under : (at : CellKeys) (m : Lists ℕ) (u : ℕ) → finite.contains_key (lists_under at m) u ≡ finite.contains_key m u
open-under at m u = ap is_some (get-under at m u) ∙ kept (finite.get m u)
  where
    kept : (o : Option (List ℕ)) → is_some (option_map (cells_under at) o) ≡ is_some o
    kept None = refl
    kept (Some l) = refl

-- an owner's list
pub list-under : (at : CellKeys) (m : Lists ℕ) (u : ℕ) → list_in (lists_under at m) u ≡ cells_under at (list_in m u)
list-under at m u = ap (λ o. unwrap_or o []) (get-under at m u) ∙ read (finite.get m u)
  where
    read : (o : Option (List ℕ)) → unwrap_or (option_map (cells_under at) o) [] ≡ cells_under at (unwrap_or o [])
    read None = refl
    read (Some l) = refl

same_lists : (m n : Lists Cell) → ((u : ℕ) → finite.get m u ≡ finite.get n u) → m ≡ n
same_lists m n is = finite.same_map nat_cmp_total finite.nat_cmp-IsAntisymmetric m n is

option_cond : {A B : Type 0} (f : A → B) (b : Bool) (x y : Option A) → option_map f (cond b x y) ≡ cond b (option_map f x) (option_map f y)
option_cond f true x y = refl
option_cond f false x y = refl

pub insert-under : (at : CellKeys) (m : Lists ℕ) (u : ℕ) (keys : List ℕ) → lists_under at (finite.insert m u keys) ≡ finite.insert (lists_under at m) u (cells_under at keys)
insert-under at m u keys = same_lists _ _ (λ v.
    get-under at (finite.insert m u keys) v ∙ ap (option_map (cells_under at)) (finite.get-insert nat_cmp_total m u keys v)
    ∙ option_cond (cells_under at) (eq_by_cmp nat_cmp v u) (Some keys) (finite.get m v)
    ∙ ap (cond (eq_by_cmp nat_cmp v u) (Some (cells_under at keys))) (sym (get-under at m v)) ∙ sym (finite.get-insert nat_cmp_total (lists_under at m) u (cells_under at keys) v))

pub remove-under : (at : CellKeys) (m : Lists ℕ) (u : ℕ) → lists_under at (finite.remove m u) ≡ finite.remove (lists_under at m) u
remove-under at m u = same_lists _ _ (λ v.
    get-under at (finite.remove m u) v ∙ ap (option_map (cells_under at)) (finite.get-remove nat_cmp_total m u v)
    ∙ option_cond (cells_under at) (eq_by_cmp nat_cmp v u) None (finite.get m v)
    ∙ ap (cond (eq_by_cmp nat_cmp v u) None) (sym (get-under at m v)) ∙ sym (finite.get-remove nat_cmp_total (lists_under at m) u v))

pub empty-under : (at : CellKeys) (m : Lists ℕ) → m ≡ finite.empty → lists_under at m ≡ finite.empty
empty-under at m none = same_lists _ _ (λ u.
    get-under at m u ∙ ap (λ n. option_map (cells_under at) (finite.get n u)) none ∙ ap (option_map (cells_under at)) (finite.get-empty nat_cmp u) ∙ sym (finite.get-empty nat_cmp u))

append-under : (at : CellKeys) (ks ls : List ℕ) → cells_under at (ks ++ ls) ≡ cells_under at ks ++ cells_under at ls
append-under at [] ls = refl
append-under at (k ∷ ks) ls = ap (cons_option (finite.get at k)) (append-under at ks ls) ∙ moved (finite.get at k)
  where
    moved : (o : Option Cell) → cons_option o (cells_under at ks ++ cells_under at ls) ≡ cons_option o (cells_under at ks) ++ cells_under at ls
    moved None = refl
    moved (Some c) = refl

pub spliced-under : (at : CellKeys) (m : Lists ℕ) (source target : ℕ) → lists_under at (spliced m source target) ≡ spliced (lists_under at m) source target
spliced-under at m source target =
    insert-under at (finite.insert m source []) target (list_in m source ++ list_in m target)
    ∙ ap (λ l. finite.insert (lists_under at (finite.insert m source [])) target l)
    (append-under at (list_in m source) (list_in m target) ∙ sym (λ i. list-under at m source i ++ list-under at m target i))
    ∙ ap (λ l. finite.insert l target (list_in (lists_under at m) source ++ list_in (lists_under at m) target)) (insert-under at m source [])

-- the cell under the first of these keys, and those under the others
pub first-under : (at : CellKeys) (k : ℕ) (c : Cell) (ks : List ℕ) → finite.get at k ≡ Some c → cells_under at (k ∷ ks) ≡ c ∷ cells_under at ks
first-under at k c ks is = ap (λ o. cons_option o (cells_under at ks)) is

pub under-used : (at : CellKeys) (k : ℕ) → IsSome (finite.get at k) → (c : Cell) × (finite.get at k ≡ Some c)
under-used at k some = by_cell (finite.get at k) refl some
  where
    by_cell : (o : Option Cell) → finite.get at k ≡ o → IsSome o → (c : Cell) × (finite.get at k ≡ Some c)
    by_cell None e some = absurd (false≢true some)
    by_cell (Some c) e some = (c, e)

-- where a list has a key, the cell under it is among the cells
in-both : (at at' : CellKeys) (has : Cell → Bool) → ((k : ℕ) (c : Cell) → finite.get at k ≡ Some c → has c ≡ true → finite.get at' k ≡ Some c)
    → (ks : List ℕ) → AreUsed at ks → ((c : Cell) → list_any (same_cell c) (cells_under at ks) ≡ true → has c ≡ true) → (cells_under at' ks ≡ cells_under at ks) × AreUsed at' ks
in-both at at' has still [] used all = (refl, tt)
in-both at at' has still (k ∷ ks) used all =
    let one = under-used at k used.0 in
    let here = still k one.0 one.1 (all one.0 (ap (list_any (same_cell one.0)) (first-under at k one.0 ks one.1) ∙ ap (λ b. b || list_any (same_cell one.0) (cells_under at ks)) ((eq_by_cmp_equiv cell_cmp_total).refl one.0))) in
    let more = in-both at at' has still ks used.1 (λ c is. all c (ap (list_any (same_cell c)) (first-under at k one.0 ks one.1) ∙ ap (λ b. same_cell c one.0 || b) is ∙ or_true (same_cell c one.0))) in
    (first-under at' k one.0 ks here ∙ ap (λ l. one.0 ∷ l) more.0 ∙ sym (first-under at k one.0 ks one.1), (ap is_some here, more.1))
  where
    or_true : (b : Bool) → (b || true) ≡ true
    or_true true = refl
    or_true false = refl

-- Keys that keep the cells on which somebody has a place show the same lists.
module _ (at at' : CellKeys) (chains : Lists ℕ) (has : Cell → ℕ → Bool) (joined : IsJoined has (lists_under at chains)) (used : (u : ℕ) → AreUsed at (list_in chains u))
    (still : (k : ℕ) (c : Cell) (u : ℕ) → finite.get at k ≡ Some c → has c u ≡ true → finite.get at' k ≡ Some c) where
  kept-list : (u : ℕ) → (cells_under at' (list_in chains u) ≡ cells_under at (list_in chains u)) × AreUsed at' (list_in chains u)
  kept-list u = in-both at at' (λ c. has c u) (λ k c. still k c u) (list_in chains u) (used u) (λ c is. sym (joined.listed u c) ∙ ap (list_any (same_cell c)) (list-under at chains u) ∙ is)

  pub kept-under : lists_under at' chains ≡ lists_under at chains
  kept-under = same_lists _ _ (λ u. get-under at' chains u ∙ by_list u (finite.get chains u) refl ∙ sym (get-under at chains u))
    where
      by_list : (u : ℕ) (o : Option (List ℕ)) → finite.get chains u ≡ o → option_map (cells_under at') o ≡ option_map (cells_under at) o
      by_list u None e = refl
      by_list u (Some l) e = ap Some (subst (λ o. cells_under at' (unwrap_or o []) ≡ cells_under at (unwrap_or o [])) e (kept-list u).0)

  pub kept-used : (u : ℕ) → AreUsed at' (list_in chains u)
  kept-used u = (kept-list u).1

pub used-insert : (at : CellKeys) (m : Lists ℕ) (owner : ℕ) (ks : List ℕ) → ((u : ℕ) → AreUsed at (list_in m u)) → AreUsed at ks → (u : ℕ) → AreUsed at (list_in (finite.insert m owner ks) u)
used-insert at m owner ks used more u = subst (AreUsed at) (sym (list-insert m owner ks u)) (by_test (u == owner))
  where
    by_test : (b : Bool) → AreUsed at (cond b ks (list_in m u))
    by_test true = more
    by_test false = used u

pub used-append : (at : CellKeys) (ks ls : List ℕ) → AreUsed at ks → AreUsed at ls → AreUsed at (ks ++ ls)
used-append at [] ls here there = there
used-append at (k ∷ ks) ls here there = (here.0, used-append at ks ls here.1 there)

pub used-none : (at : CellKeys) (m : Lists ℕ) → m ≡ finite.empty → (u : ℕ) → AreUsed at (list_in m u)
used-none at m none u = subst (AreUsed at) (sym (ap (λ n. list_in n u) none ∙ ap (λ o. unwrap_or o []) (finite.get-empty nat_cmp u))) tt

pub none-under : (at : CellKeys) (ks : List ℕ) → AreUsed at ks → cells_under at ks ≡ [] → ks ≡ []
none-under at [] used none = refl
none-under at (k ∷ ks) used none =
    let one = under-used at k used.0 in
    absurd (false≢true (sym (ap is_any (sym (first-under at k one.0 ks one.1) ∙ none))))
  where
    is_any : List Cell → Bool
    is_any [] = false
    is_any (c ∷ cs) = true

-- a key more in front of a list
pub added-under : (at : CellKeys) (m : Lists ℕ) (owner key : ℕ) (c : Cell) → finite.get at key ≡ Some c
    → lists_under at (finite.insert m owner (key ∷ list_in m owner)) ≡ finite.insert (lists_under at m) owner (c ∷ list_in (lists_under at m) owner)
added-under at m owner key c is =
    insert-under at m owner (key ∷ list_in m owner)
    ∙ ap (λ l. finite.insert (lists_under at m) owner l) (first-under at key c (list_in m owner) is ∙ ap (λ l. c ∷ l) (sym (list-under at m owner)))

-- the newest of a list moves to another
pub moved-under : (at : CellKeys) (m : Lists ℕ) (from to key : ℕ) (rest : List ℕ) (c : Cell) → finite.get at key ≡ Some c → list_in m from ≡ key ∷ rest
    → lists_under at (moved m from to) ≡ finite.insert (finite.insert (lists_under at m) from (cells_under at rest)) to (c ∷ list_in (lists_under at m) to)
moved-under at m from to key rest c is first =
    ap (lists_under at) (moved_is m from to key rest first) ∙ insert-under at (finite.insert m from rest) to (key ∷ list_in m to)
    ∙ (λ i. finite.insert (insert-under at m from rest i) to ((first-under at key c (list_in m to) is ∙ ap (λ l. c ∷ l) (sym (list-under at m to))) i))

pub popped-under : (at : CellKeys) (m : Lists ℕ) (owner key : ℕ) (rest : List ℕ) → list_in m owner ≡ key ∷ rest
    → lists_under at (popped m owner) ≡ finite.insert (lists_under at m) owner (cells_under at rest)
popped-under at m owner key rest first = ap (lists_under at) (popped_is m owner key rest first) ∙ insert-under at m owner rest

-- The newest of an owner's list: its cell, and that the owner has a place there.
pub record Front (k : Keyed) (chains : Lists ℕ) (owner key : ℕ) (rest : List ℕ) : Type 0 where
  pub cell : Cell
  pub is : finite.get k.at key ≡ Some cell
  pub list : list_in (lists_under k.at chains) owner ≡ cell ∷ cells_under k.at rest
  pub placed : has_place k.cells cell owner ≡ true
  pub used : AreUsed k.at rest

pub front : (k : Keyed) (chains : Lists ℕ) → AreJoined k chains → (owner key : ℕ) (rest : List ℕ) → list_in chains owner ≡ key ∷ rest → Front k chains owner key rest
front k chains joined owner key rest first =
    let used = subst (AreUsed k.at) first (joined.used owner) in
    let one = under-used k.at key used.0 in
    let list = list-under k.at chains owner ∙ ap (cells_under k.at) first ∙ first-under k.at key one.0 rest one.1 in
    record { cell = one.0; is = one.1; list = list; placed = front_there (has_place k.cells) (lists_under k.at chains) joined.joined one.0 owner (cells_under k.at rest) list; used = used.1 }

-- Keys that keep the cells on which somebody has a place keep the lists joined.
pub joined-kept : (at : CellKeys) (new : Keyed) (chains : Lists ℕ) → IsJoined (has_place new.cells) (lists_under at chains) → ((u : ℕ) → AreUsed at (list_in chains u))
    → ((k : ℕ) (c : Cell) (u : ℕ) → finite.get at k ≡ Some c → has_place new.cells c u ≡ true → finite.get new.at k ≡ Some c) → AreJoined new chains
joined-kept at new chains joined used still = record {
  joined = subst (IsJoined (has_place new.cells)) (sym (kept-under at new.at chains (has_place new.cells) joined used still)) joined;
  used = kept-used at new.at chains (has_place new.cells) joined used still;
}

-- and the same keys do so
pub joined-with : (at : CellKeys) (new : Keyed) (chains : Lists ℕ) (lists : Lists Cell) → new.at ≡ at → lists_under at chains ≡ lists → IsJoined (has_place new.cells) lists → ((u : ℕ) → AreUsed at (list_in chains u)) → AreJoined new chains
joined-with at new chains lists same is joined used = record {
  joined = subst (IsJoined (has_place new.cells)) (sym (ap (λ a. lists_under a chains) same ∙ is)) joined;
  used = λ u. subst (λ a. AreUsed a (list_in chains u)) (sym same) (used u);
}

pub used-same : (at : CellKeys) (m n : Lists ℕ) → n ≡ m → ((u : ℕ) → AreUsed at (list_in m u)) → (u : ℕ) → AreUsed at (list_in n u)
used-same at m n same used u = subst (λ l. AreUsed at (list_in l u)) (sym same) (used u)

pub used-spliced : (at : CellKeys) (m : Lists ℕ) (source target : ℕ) → ((u : ℕ) → AreUsed at (list_in m u)) → (u : ℕ) → AreUsed at (list_in (spliced m source target) u)
used-spliced at m source target used =
    used-insert at (finite.insert m source []) target (list_in m source ++ list_in m target) (used-insert at m source [] used tt) (used-append at (list_in m source) (list_in m target) (used source) (used target))

pub used-closed : (at : CellKeys) (m n : Lists ℕ) (owner : ℕ) → n ≡ finite.remove m owner → ((u : ℕ) → AreUsed at (list_in m u)) → (u : ℕ) → AreUsed at (list_in n u)
used-closed at m n owner closed used u = subst (AreUsed at) (sym (ap (λ l. list_in l u) closed ∙ list-remove m owner u)) (by_test (u == owner))
  where
    by_test : (b : Bool) → AreUsed at (cond b [] (list_in m u))
    by_test true = tt
    by_test false = used u

-- The first of these keys.
pub record FirstKey (at : CellKeys) (keys : List ℕ) (key : ℕ) (rest : List ℕ) : Type 0 where
  pub cell : Cell
  pub is : finite.get at key ≡ Some cell
  pub list : cells_under at keys ≡ cell ∷ cells_under at rest
  pub used : AreUsed at rest

pub first_key : (at : CellKeys) (keys : List ℕ) (key : ℕ) (rest : List ℕ) → keys ≡ key ∷ rest → AreUsed at keys → FirstKey at keys key rest
first_key at keys key rest first used =
    let all = subst (AreUsed at) first used in
    let one = under-used at key all.0 in
    record { cell = one.0; is = one.1; list = ap (cells_under at) first ∙ first-under at key one.0 rest one.1; used = all.1 }
