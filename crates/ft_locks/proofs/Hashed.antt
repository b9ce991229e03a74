-- The cells in their slab, each under one key, and the index of their hashes.
use Rattle.std.proofs.Common.{◌≡◌, ◌↔◌, ◌⊎◌, inl, inr, arith, get_or, ◌==◌, ℕ, Bool, true, false, cond, List, [], ◌∷◌, map, Option, Some, None, is_some, refl, sym, ap, subst, ◌∙◌}
use Rattle.std.proofs.lemmas.Bool.{false≢true, eqb-true}
use Rattle.std.specs.Option.{option_map, IfSome, IfNone}
use Rattle.std.specs.List.{AllByRecursion, Contains}
use Rattle.std.specs.Ordering.{nat_cmp, eq_by_cmp}
use Rattle.std.specs.Cmp.{nat_cmp_total}
use Rattle.std.specs.FinMap as finite
use Rattle.slab.proofs.SlabLemmas.{Contains-cons_cases, Contains-entries, length-entries}
use Rattle.ft_posix.proofs.Listed.{entries-get}
use Rattle.ft_cells.specs.declared.cell.Cell.{Cell}
use Rattle.ft_cells.specs.CellOrder.{cell_cmp, same_cell, same_cell-is}
use Rattle.ft_locks.specs.declared.cells.Locked.{Locked}
use Rattle.ft_lock_rules.specs.Cells.{CellKeys}
use Rattle.ft_lock_rules.proofs.CellViews.{key_in, same_cells}
use Rattle.ft_lock_rules.proofs.Paired.{IsPaired, the_one, tie, tied, paired-put, paired-out}
use Rattle.ft_locks.specs.Hashes.{cell_hash, AreHashed}
use Rattle.ft_locks.specs.Slots.{owners_of, cells_of, at_of, keys_in, AreKeyed}
use Rattle.slab.specs.Slab.{Slab, get, slab_len}
use Rattle.ft_locks.proofs.Slots.{cells-some, same_itself, at-none, get-cells}

-- no cell stands under two keys
abbrev pub AreApart : CellKeys → Type 0
AreApart at = (c : Cell) (j k : ℕ) → finite.get at j ≡ Some c → finite.get at k ≡ Some c → j ≡ k

abbrev swapped : List (ℕ × Cell) → List (Cell × ℕ)
swapped es = map (λ e. (e.1, e.0)) es

some_key : (es : List (ℕ × Cell)) (key : ℕ) (c : Cell) → finite.find nat_cmp key es ≡ Some c → (j : ℕ) × (key_in (swapped es) c ≡ Some j)
some_key [] key c is = absurd (false≢true (ap is_some is))
some_key (e ∷ es) key c is = by_key (eq_by_cmp nat_cmp key e.0) refl (some_key es key c)
  where
    here : (b : Bool) (o : Option ℕ) → b ≡ true → cond b (Some e.0) o ≡ Some e.0
    here true o so = refl
    here false o so = absurd (false≢true so)

    later : (b : Bool) (o : Option ℕ) → ((j : ℕ) × (o ≡ Some j)) → (j : ℕ) × (cond b (Some e.0) o ≡ Some j)
    later true o found = (e.0, refl)
    later false o found = found

    by_key : (b : Bool) → eq_by_cmp nat_cmp key e.0 ≡ b → (finite.find nat_cmp key es ≡ Some c → (j : ℕ) × (key_in (swapped es) c ≡ Some j)) → (j : ℕ) × (key_in (swapped (e ∷ es)) c ≡ Some j)
    by_key true t rest =
        let one : e.1 ≡ c = the_one e.1 c (sym (ap (λ b. cond b (Some e.1) (finite.find nat_cmp key es)) t) ∙ is) in
        (e.0, here (same_cell c e.1) (key_in (swapped es) c) (ap (same_cell c) one ∙ same_itself c))
    by_key false t rest = later (same_cell c e.1) (key_in (swapped es) c) (rest (sym (ap (λ b. cond b (Some e.1) (finite.find nat_cmp key es)) t) ∙ is))

key_stands : (at : CellKeys) (es : List (ℕ × Cell)) → AllByRecursion (λ (e : ℕ × Cell). finite.get at e.0 ≡ Some e.1) es → (c : Cell) (key : ℕ) → key_in (swapped es) c ≡ Some key → finite.get at key ≡ Some c
key_stands at [] all c key is = absurd (false≢true (ap is_some is))
key_stands at (e ∷ es) all c key is = by_cell (same_cell c e.1) refl (key_stands at es all.1 c key)
  where
    by_cell : (b : Bool) → same_cell c e.1 ≡ b → (key_in (swapped es) c ≡ Some key → finite.get at key ≡ Some c) → finite.get at key ≡ Some c
    by_cell true t rest =
        let one : e.0 ≡ key = the_one e.0 key (sym (ap (λ b. cond b (Some e.0) (key_in (swapped es) c)) t) ∙ is) in
        ap (finite.get at) (sym one) ∙ all.0 ∙ ap Some (sym (same_cell-is c e.1 t))
    by_cell false t rest = rest (sym (ap (λ b. cond b (Some e.0) (key_in (swapped es) c)) t) ∙ is)

pub keyed-apart : (at : CellKeys) → AreApart at → AreKeyed at (keys_in at)
keyed-apart at apart c key = (there c key, λ is. found is (some_key (finite.entries at) key c (sym (finite.get-entries at key) ∙ is)))
  where
    there : (q : Cell) (k : ℕ) → key_in (keys_in at) q ≡ Some k → finite.get at k ≡ Some q
    there q k is = key_stands at (finite.entries at) (entries-get nat_cmp nat_cmp_total at) q k is

    found : finite.get at key ≡ Some c → ((j : ℕ) × (key_in (keys_in at) c ≡ Some j)) → key_in (keys_in at) c ≡ Some key
    found is some = some.1 ∙ ap Some (apart c some.0 key (there c some.0 some.1) is)

-- a table that reads another backwards is the only one
the_same : {P : Type 0} (f f' : P → Option ℕ) (g : ℕ → Option P) → IsPaired f g → IsPaired f' g → (x : P) → f' x ≡ f x
the_same f f' g paired paired' x = by_key (f' x) refl (f x) refl
  where
    by_key : (a : Option ℕ) → f' x ≡ a → (b : Option ℕ) → f x ≡ b → f' x ≡ f x
    by_key (Some k) e b d = e ∙ sym ((paired x k).1 ((paired' x k).0 e))
    by_key None e None d = e ∙ sym d
    by_key None e (Some k) d = absurd (false≢true (ap is_some (sym e ∙ (paired' x k).1 ((paired x k).0 d))))

-- A cell comes under a key, and goes.
module _ (at at' : CellKeys) (k : ℕ) (c : Cell) (keyed : AreKeyed at (keys_in at)) where
  module _ (is : at' ≡ finite.insert at k c) (free : finite.get at k ≡ None) (absent : key_in (keys_in at) c ≡ None) where
    abbrev with_key : Cell → Option ℕ
    with_key q = cond (same_cell c q) (Some k) (key_in (keys_in at) q)

    put_paired : IsPaired with_key (finite.get at')
    put_paired =
        paired-put same_cell same_cell-is same_itself (key_in (keys_in at)) with_key (finite.get at) (finite.get at') c k keyed free absent (λ q. refl)
        (λ j. ap (λ (m : CellKeys). finite.get m j) is ∙ finite.get-insert nat_cmp_total at k c j)

    pub keyed-come : AreKeyed at' (keys_in at')
    keyed-come = keyed-apart at' (λ q i j one other. the_one i j (sym ((put_paired q i).1 one) ∙ (put_paired q j).1 other))

    pub keys-come : (q : Cell) → key_in (keys_in at') q ≡ cond (same_cell c q) (Some k) (key_in (keys_in at) q)
    keys-come = the_same with_key (key_in (keys_in at')) (finite.get at') put_paired keyed-come

  module _ (is : at' ≡ finite.remove at k) (there : finite.get at k ≡ Some c) where
    abbrev without_key : Cell → Option ℕ
    without_key q = cond (same_cell c q) None (key_in (keys_in at) q)

    out_paired : IsPaired without_key (finite.get at')
    out_paired =
        paired-out same_cell same_cell-is same_itself (key_in (keys_in at)) without_key (finite.get at) (finite.get at') c k keyed there (λ q. refl)
        (λ j. ap (λ (m : CellKeys). finite.get m j) is ∙ finite.get-remove nat_cmp_total at k j)

    pub keyed-gone : AreKeyed at' (keys_in at')
    keyed-gone = keyed-apart at' (λ q i j one other. the_one i j (sym ((out_paired q i).1 one) ∙ (out_paired q j).1 other))

    pub keys-gone : (q : Cell) → key_in (keys_in at') q ≡ cond (same_cell c q) None (key_in (keys_in at) q)
    keys-gone = the_same without_key (key_in (keys_in at')) (finite.get at') out_paired keyed-gone

-- The index, as a cell comes, and goes.
module _ (index : finite.FinMap nat_cmp ℕ) (seed : ℕ) (at at' : CellKeys) (k : ℕ) (c : Cell) (hashed : AreHashed index seed at) where
  pub hash-free : finite.get at k ≡ None → finite.get index k ≡ None
  hash-free free = hashed k ∙ ap (option_map (cell_hash seed)) free

  pub hash-there : finite.get at k ≡ Some c → finite.get index k ≡ Some (cell_hash seed c)
  hash-there there = hashed k ∙ ap (option_map (cell_hash seed)) there

  pub hashed-come : at' ≡ finite.insert at k c → AreHashed (finite.insert index k (cell_hash seed c)) seed at'
  hashed-come is j =
      finite.get-insert nat_cmp_total index k (cell_hash seed c) j ∙ ap (cond (eq_by_cmp nat_cmp j k) (Some (cell_hash seed c))) (hashed j)
      ∙ through (eq_by_cmp nat_cmp j k) (finite.get at j)
      ∙ sym (ap (option_map (cell_hash seed)) (ap (λ (m : CellKeys). finite.get m j) is ∙ finite.get-insert nat_cmp_total at k c j))
    where
      through : (b : Bool) (o : Option Cell) → cond b (Some (cell_hash seed c)) (option_map (cell_hash seed) o) ≡ option_map (cell_hash seed) (cond b (Some c) o)
      through true o = refl
      through false o = refl

pub hashed-gone : (index : finite.FinMap nat_cmp ℕ) (seed : ℕ) (at at' : CellKeys) (k : ℕ) → AreHashed index seed at → at' ≡ finite.remove at k → AreHashed (finite.remove index k) seed at'
hashed-gone index seed at at' k hashed is j =
    finite.get-remove nat_cmp_total index k j ∙ ap (cond (eq_by_cmp nat_cmp j k) None) (hashed j)
    ∙ through (eq_by_cmp nat_cmp j k) (finite.get at j)
    ∙ sym (ap (option_map (cell_hash seed)) (ap (λ (m : CellKeys). finite.get m j) is ∙ finite.get-remove nat_cmp_total at k j))
  where
    through : (b : Bool) (o : Option Cell) → cond b None (option_map (cell_hash seed) o) ≡ option_map (cell_hash seed) (cond b None o)
    through true o = refl
    through false o = refl

-- a hash that was added for nothing is taken out again
pub hash-back : (index : finite.FinMap nat_cmp ℕ) (k h : ℕ) → finite.get index k ≡ None → finite.remove (finite.insert index k h) k ≡ index
hash-back index k h none = finite.same_map nat_cmp_total finite.nat_cmp-IsAntisymmetric _ _ (λ j.
    finite.get-remove nat_cmp_total (finite.insert index k h) k j ∙ ap (cond (eq_by_cmp nat_cmp j k) None) (finite.get-insert nat_cmp_total index k h j)
    ∙ by_key j (eq_by_cmp nat_cmp j k) refl)
  where
    by_key : (j : ℕ) (b : Bool) → eq_by_cmp nat_cmp j k ≡ b → cond (eq_by_cmp nat_cmp j k) None (cond (eq_by_cmp nat_cmp j k) (Some h) (finite.get index j)) ≡ finite.get index j
    by_key j true e = ap (λ b. cond b None (cond b (Some h) (finite.get index j))) e ∙ sym (ap (finite.get index) (tied j k e) ∙ none)
    by_key j false e = ap (λ b. cond b None (cond b (Some h) (finite.get index j))) e

-- the index of the cells before, and what is added
pub hashed_put : (index index' : finite.FinMap nat_cmp ℕ) (seed seed' : ℕ) (at at' : CellKeys) (k : ℕ) (c : Cell) (key : ℕ) (d : Cell) → AreHashed index seed at → at' ≡ finite.insert at k c → key ≡ k → d ≡ c
    → index' ≡ finite.insert index key (cell_hash seed d) → seed' ≡ seed → AreHashed index' seed' at'
hashed_put index index' seed seed' at at' k c key d hashed is same_key same_cell added same_seed j =
    ap (λ (m : finite.FinMap nat_cmp ℕ). finite.get m j) (added ∙ (λ i. finite.insert index (same_key i) (cell_hash seed (same_cell i))))
    ∙ hashed-come index seed at at' k c hashed is j ∙ ap (λ s. option_map (cell_hash s) (finite.get at' j)) (sym same_seed)

pub hashed_out : (index index' : finite.FinMap nat_cmp ℕ) (seed seed' : ℕ) (at at' : CellKeys) (k : ℕ) → AreHashed index seed at → at' ≡ finite.remove at k
    → index' ≡ finite.remove index k → seed' ≡ seed → AreHashed index' seed' at'
hashed_out index index' seed seed' at at' k hashed is out same_seed j =
    ap (λ (m : finite.FinMap nat_cmp ℕ). finite.get m j) out ∙ hashed-gone index seed at at' k hashed is j ∙ ap (λ s. option_map (cell_hash s) (finite.get at' j)) (sym same_seed)

pub hashed_same : (index index' : finite.FinMap nat_cmp ℕ) (seed seed' : ℕ) (at at' : CellKeys) → AreHashed index seed at → at' ≡ at → index' ≡ index → seed' ≡ seed → AreHashed index' seed' at'
hashed_same index index' seed seed' at at' hashed is same same_seed j =
    ap (λ (m : finite.FinMap nat_cmp ℕ). finite.get m j) same ∙ hashed j ∙ (λ i. option_map (cell_hash (sym same_seed i)) (finite.get (sym is i) j))

-- what was added is there, and without it the index is as it was
pub added_there : (index index' : finite.FinMap nat_cmp ℕ) (seed seed' k : ℕ) (d : Cell) → index' ≡ finite.insert index k (cell_hash seed d) → seed' ≡ seed → finite.get index' k ≡ Some (cell_hash seed' d)
added_there index index' seed seed' k d added same_seed =
    ap (λ (m : finite.FinMap nat_cmp ℕ). finite.get m k) added ∙ finite.get-insert nat_cmp_total index k (cell_hash seed d) k
    ∙ ap (λ b. cond b (Some (cell_hash seed d)) (finite.get index k)) (tie k k refl) ∙ ap (λ s. Some (cell_hash s d)) (sym same_seed)

pub taken_back : (index index' index'' : finite.FinMap nat_cmp ℕ) (k h : ℕ) → finite.get index k ≡ None → index' ≡ finite.insert index k h → index'' ≡ finite.remove index' k → index'' ≡ index
taken_back index index' index'' k h none added out = out ∙ ap (λ (m : finite.FinMap nat_cmp ℕ). finite.remove m k) added ∙ hash-back index k h none

-- A search among the keys of a hash.
pub passed_over : (at : CellKeys) (ks rest : List ℕ) (key k : ℕ) (c : Cell) (b : Bool) → ks ≡ key ∷ rest → Contains ks k → ((b ≡ true) ↔ (finite.get at key ≡ Some c)) → b ≡ false → finite.get at k ≡ Some c → Contains rest k
passed_over at ks rest key k c b first listed stands not_here is = by_case (Contains-cons_cases key k rest (subst (λ l. Contains l k) first listed))
  where
    by_case : (key ≡ k) ⊎ Contains rest k → Contains rest k
    by_case (inl here) = absurd (false≢true (sym not_here ∙ stands.1 (ap (finite.get at) here ∙ is)))
    by_case (inr later) = later

pub none_left : (ks : List ℕ) (k : ℕ) → ks ≡ [] → Contains ks k → ⊥
none_left ks k none listed = by_place (subst (λ l. Contains l k) none listed)
  where
    by_place : Contains [] k → ⊥
    by_place at = omega (arith, at.1)

pub none_found : (index : finite.FinMap nat_cmp ℕ) (seed : ℕ) (at : CellKeys) (c : Cell) (keys : List ℕ) (h : ℕ) (r : Option ℕ) → AreHashed index seed at
    → ((key : ℕ) → Contains keys key ↔ (finite.get index key ≡ Some h)) → h ≡ cell_hash seed c → IfNone r ((key : ℕ) → Contains keys key → finite.get at key ≡ Some c → ⊥) → IfNone r ((key : ℕ) → finite.get at key ≡ Some c → ⊥)
none_found index seed at c keys h (Some k) hashed listed is none = tt
none_found index seed at c keys h None hashed listed is none =
    λ key stands. none key ((listed key).1 (hash-there index seed at at key c hashed stands ∙ ap Some (sym is))) stands

pub found_there : (at : CellKeys) (c : Cell) (r : Option ℕ) → AreKeyed at (keys_in at) → IfSome r (λ key. finite.get at key ≡ Some c) → IfNone r ((key : ℕ) → finite.get at key ≡ Some c → ⊥)
    → is_some r ≡ is_some (key_in (keys_in at) c)
found_there at c (Some k) keyed some none = sym (ap is_some ((keyed c k).1 some))
found_there at c None keyed some none = by_key (key_in (keys_in at) c) refl
  where
    by_key : (o : Option ℕ) → key_in (keys_in at) c ≡ o → false ≡ is_some (key_in (keys_in at) c)
    by_key None e = sym (ap is_some e)
    by_key (Some k) e = absurd (none k ((keyed c k).0 e))

-- A slab in which nothing stands.
pub nothing_in : (s : Slab Locked) (k : ℕ) → slab_len s ≡ 0 → get s k ≡ None
nothing_in s k none = by_slot (get s k) refl
  where
    by_slot : (o : Option Locked) → get s k ≡ o → get s k ≡ None
    by_slot None e = e
    by_slot (Some l) e = let listed = (Contains-entries s k l).1 e in absurd (omega (arith, listed.1, length-entries s, none))

-- and so no cell
pub nothing-there : (s : Slab Locked) → AreKeyed (at_of s) (keys_in (at_of s)) → (slab_len s == 0) ≡ true → (c : Cell) → finite.contains_key (cells_of s (keys_in (at_of s))) c ≡ false
nothing-there s keyed empty c = cells-some s (keys_in (at_of s)) c ∙ by_key (key_in (keys_in (at_of s)) c) refl
  where
    by_key : (o : Option ℕ) → key_in (keys_in (at_of s)) c ≡ o → is_some (key_in (keys_in (at_of s)) c) ≡ false
    by_key None e = ap is_some e
    by_key (Some k) e = absurd (false≢true (ap is_some (sym (at-none s k (nothing_in s k (eqb-true (slab_len s) 0 empty))) ∙ (keyed c k).0 e)))

-- an empty slab
pub keyed-empty : (s : Slab Locked) → s.slots ≡ [] → AreKeyed (at_of s) (keys_in (at_of s))
keyed-empty s empty = keyed-apart (at_of s) (λ c j k here _. absurd (false≢true (ap is_some (sym (at-none s j (ap (λ slots. get_or slots j None) empty)) ∙ here))))

pub cells-empty : (s : Slab Locked) → s.slots ≡ [] → cells_of s (keys_in (at_of s)) ≡ finite.empty
cells-empty s empty = same_cells _ _ (λ q. get-cells s (keys_in (at_of s)) q ∙ by_key q (key_in (keys_in (at_of s)) q) refl ∙ sym (finite.get-empty cell_cmp q))
  where
    by_key : (q : Cell) (o : Option ℕ) → key_in (keys_in (at_of s)) q ≡ o → option_map (λ k. owners_of (get s k)) (key_in (keys_in (at_of s)) q) ≡ None
    by_key q None e = ap (option_map (λ k. owners_of (get s k))) e
    by_key q (Some k) e = absurd (false≢true (ap is_some (sym (at-none s k (ap (λ slots. get_or slots k None) empty)) ∙ (keyed-empty s empty q k).0 e)))

pub hashed-empty : (s : Slab Locked) → s.slots ≡ [] → (index : finite.FinMap nat_cmp ℕ) (seed : ℕ) → index ≡ finite.empty → AreHashed index seed (at_of s)
hashed-empty s empty index seed none key =
    ap (λ (m : finite.FinMap nat_cmp ℕ). finite.get m key) none ∙ finite.get-empty nat_cmp key
    ∙ sym (ap (option_map (cell_hash seed)) (at-none s key (ap (λ slots. get_or slots key None) empty)))

pub keyed-same : (at at' : CellKeys) → at' ≡ at → AreKeyed at (keys_in at) → AreKeyed at' (keys_in at')
keyed-same at at' same keyed = subst (λ m. AreKeyed m (keys_in m)) (sym same) keyed

-- where nothing stands, any seed is as good
pub hashed-nothing : (s : Slab Locked) (index : finite.FinMap nat_cmp ℕ) (seed seed' : ℕ) → (slab_len s == 0) ≡ true → AreHashed index seed (at_of s) → AreHashed index seed' (at_of s)
hashed-nothing s index seed seed' empty hashed key =
    let none = at-none s key (nothing_in s key (eqb-true (slab_len s) 0 empty)) in
    hashed key ∙ ap (option_map (cell_hash seed)) none ∙ sym (ap (option_map (cell_hash seed')) none)
