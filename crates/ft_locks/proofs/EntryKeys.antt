-- The keys of the entries, as one comes and as one goes.
use Rattle.std.proofs.Common.{◌≡◌, ◌≢◌, ◌==◌, ◌&&◌, ◌<◌, ◌+◌, ◌-◌, ltb, inl, inr, ℕ, zero, suc, Bool, true, false, cond, List, [], ◌∷◌, ◌++◌, length, get_or, Vec, Global, Option, Some, None, IsSome, is_some, refl, sym, ap, ◌∙◌, arith}
use Rattle.std.proofs.lemmas.Bool.{false≢true, and_parts, eqb-true, eq-eqb, ne_eqb, ltb-true, ltb-false}
use Rattle.std.specs.List.{slice_get}
use Rattle.std.specs.Prelude.{vec_len}
use Rattle.std.specs.Slice.{IsItemAt}
use Rattle.std.specs.Borrow.{Bor}
use Rattle.std.specs.Option.{option_copied}
use Rattle.std.proofs.lemmas.Option.{slice_get_past, slice_get-get_or}
use Rattle.std.specs.Ordering.{nat_cmp, eq_by_cmp}
use Rattle.std.specs.Cmp.{nat_cmp_total, unsigned_tied}
use Rattle.std.specs.FinMap as finite
use Rattle.slab.specs.Slab.{Slab, get, with_value, Updates}
use Rattle.slab.proofs.SlabLemmas.{Updates-with_value}
use Rattle.ft_laws.specs.Lists.{In}
use Rattle.ft_cells.specs.declared.entry.Entry.{Entry as EntryOf}
use Rattle.ft_cells.specs.declared.cell.Cell.{Cell}
use Rattle.ft_cells.specs.declared.cell.Cell.TheVariants.{Entry, Names, Parent, Links, Bytes, Fd, DirAttributes, FileAttributes}
use Rattle.ft_locks.specs.declared.cells.Locked.{Locked}
use Rattle.ft_locks.specs.EntryKeys.{EntryKeys, listed_keys, key_at, spot_of, same_spot, is_spot, IsMoved}
use Rattle.ft_lock_rules.specs.CellLocks.{Owners}
use Rattle.ft_lock_rules.specs.Cells.{Keyed}
use Rattle.ft_locks.specs.Slots.{cells_of, at_of, AreKeyed, spot_in, shown, with_place, ArePlaced, HaveGap, ShowSame}
use Rattle.ft_lock_rules.specs.Blocking.{is_entry_of, AreEntriesOf}
use Rattle.ft_lock_rules.proofs.Joining.{itself}
use Rattle.ft_lock_rules.proofs.CellViews.{key_in}
use Rattle.ft_locks.proofs.Slots.{seen-at, seen-key, at-there, at-none}
use Rattle.ft_lock_rules.proofs.Paired.{IsPaired, the_one, tie, tied, untied, paired-put, paired-out, paired-same}

pub same_spot-is : (s t : ℕ × ℕ) → same_spot s t ≡ true → s ≡ t
same_spot-is s t e =
    let both = and_parts (t.0 == s.0) (t.1 == s.1) e in
    let first : s.0 ≡ t.0 = sym (eqb-true t.0 s.0 both.0) in
    let second : s.1 ≡ t.1 = sym (eqb-true t.1 s.1 both.1) in
    λ i. (first i, second i)

pub same_spot-itself : (s : ℕ × ℕ) → same_spot s s ≡ true
same_spot-itself s = λ i. itself s.0 i && itself s.1 i

-- a directory has another list
pub key-insert : (m : EntryKeys) (dir : ℕ) (keys : Vec ℕ Global) (t : ℕ × ℕ) → key_at (finite.insert m dir keys) t.0 t.1 ≡ cond (t.0 == dir) (slice_get keys.items t.1) (key_at m t.0 t.1)
key-insert m dir keys t =
    ap (λ o. slice_get (listed_keys o) t.1) (finite.get-insert nat_cmp_total m dir keys t.0)
    ∙ read (eq_by_cmp nat_cmp t.0 dir) (finite.get m t.0) ∙ ap (λ b. cond b (slice_get keys.items t.1) (key_at m t.0 t.1)) (unsigned_tied t.0 dir)
  where
    read : (b : Bool) (o : Option (Vec ℕ Global)) → slice_get (listed_keys (cond b (Some keys) o)) t.1 ≡ cond b (slice_get keys.items t.1) (slice_get (listed_keys o) t.1)
    read true o = refl
    read false o = refl

pub key-remove : (m : EntryKeys) (dir : ℕ) (t : ℕ × ℕ) → key_at (finite.remove m dir) t.0 t.1 ≡ cond (t.0 == dir) None (key_at m t.0 t.1)
key-remove m dir t =
    ap (λ o. slice_get (listed_keys o) t.1) (finite.get-remove nat_cmp_total m dir t.0)
    ∙ read (eq_by_cmp nat_cmp t.0 dir) (finite.get m t.0) ∙ ap (λ b. cond b None (key_at m t.0 t.1)) (unsigned_tied t.0 dir)
  where
    read : (b : Bool) (o : Option (Vec ℕ Global)) → slice_get (listed_keys (cond b None o)) t.1 ≡ cond b None (slice_get (listed_keys o) t.1)
    read true o = refl
    read false o = refl

-- what a change of one list leaves at each spot
pub list-changed : (m : EntryKeys) (dir : ℕ) (keys : Vec ℕ Global) (o : Option (Vec ℕ Global)) (f : ℕ → Option ℕ → Option ℕ) → o ≡ finite.get m dir
    → ((p : ℕ) → slice_get keys.items p ≡ f p (slice_get (listed_keys o) p)) → (t : ℕ × ℕ) → key_at (finite.insert m dir keys) t.0 t.1 ≡ cond (t.0 == dir) (f t.1 (key_at m t.0 t.1)) (key_at m t.0 t.1)
list-changed m dir keys o f was is t = key-insert m dir keys t ∙ by_dir (t.0 == dir) refl
  where
    by_dir : (b : Bool) → (t.0 == dir) ≡ b → cond (t.0 == dir) (slice_get keys.items t.1) (key_at m t.0 t.1) ≡ cond (t.0 == dir) (f t.1 (key_at m t.0 t.1)) (key_at m t.0 t.1)
    by_dir true e =
        ap (λ b. cond b (slice_get keys.items t.1) (key_at m t.0 t.1)) e ∙ is t.1 ∙ ap (λ x. f t.1 (slice_get (listed_keys x) t.1)) (was ∙ ap (finite.get m) (sym (eqb-true t.0 dir e)))
        ∙ sym (ap (λ b. cond b (f t.1 (key_at m t.0 t.1)) (key_at m t.0 t.1)) e)
    by_dir false e = ap (λ b. cond b (slice_get keys.items t.1) (key_at m t.0 t.1)) e ∙ sym (ap (λ b. cond b (f t.1 (key_at m t.0 t.1)) (key_at m t.0 t.1)) e)

pub both_tests : {A : Type 0} (a b : Bool) (x y : A) → cond a (cond b x y) y ≡ cond (a && b) x y
both_tests true b x y = refl
both_tests false b x y = refl

-- a key at the end
suc_test : (p n : ℕ) → (p == n) ≡ (suc p == suc n)
suc_test p n = by_test (p == n) refl
  where
    by_test : (b : Bool) → (p == n) ≡ b → (p == n) ≡ (suc p == suc n)
    by_test true e = e ∙ sym (eq-eqb (suc p) (suc n) (ap suc (eqb-true p n e)))
    by_test false e = e ∙ sym (ne_eqb (suc p) (suc n) (λ is. false≢true (sym e ∙ eq-eqb p n (omega (arith, is)))))

pub get-pushed : (xs : List ℕ) (k p : ℕ) → slice_get (xs ++ k ∷ []) p ≡ cond (p == length xs) (Some k) (slice_get xs p)
get-pushed [] k zero = refl
get-pushed [] k (suc p) = sym (ap (λ b. cond b (Some k) None) (ne_eqb (suc p) 0 (λ is. omega (arith, is))))
get-pushed (x ∷ xs) k zero = sym (ap (λ b. cond b (Some k) (Some x)) (ne_eqb 0 (suc (length xs)) (λ is. omega (arith, is))))
get-pushed (x ∷ xs) k (suc p) = get-pushed xs k p ∙ ap (λ b. cond b (Some k) (slice_get xs p)) (suc_test p (length xs))

pub get-past : (xs : List ℕ) → slice_get xs (length xs) ≡ None
get-past [] = refl
get-past (x ∷ xs) = get-past xs

-- a cell that comes knows its place
pub placed-put : (s s' : Slab Locked) (m m' : EntryKeys) (k : ℕ) (l : Locked) → ArePlaced (get s) m → get s k ≡ None → Updates s s' k (Some l)
    → ((t : ℕ × ℕ) → is_spot (spot_of l.cell l.place) t ≡ true → key_at m t.0 t.1 ≡ None)
    → ((t : ℕ × ℕ) → key_at m' t.0 t.1 ≡ cond (is_spot (spot_of l.cell l.place) t) (Some k) (key_at m t.0 t.1)) → ArePlaced (get s') m'
placed-put s s' m m' k l placed vacant changes free put = by_spot (spot_of l.cell l.place) refl free put
  where
    stand : (j : ℕ) → spot_in (get s' j) ≡ cond (eq_by_cmp nat_cmp j k) (spot_of l.cell l.place) (spot_in (get s j))
    stand j = by_key (eq_by_cmp nat_cmp j k) refl
      where
        by_key : (b : Bool) → eq_by_cmp nat_cmp j k ≡ b → spot_in (get s' j) ≡ cond (eq_by_cmp nat_cmp j k) (spot_of l.cell l.place) (spot_in (get s j))
        by_key true e = ap (λ i. spot_in (get s' i)) (tied j k e) ∙ ap spot_in changes.changed ∙ sym (ap (λ b. cond b (spot_of l.cell l.place) (spot_in (get s j))) e)
        by_key false e = ap spot_in (changes.others j (untied j k e)) ∙ sym (ap (λ b. cond b (spot_of l.cell l.place) (spot_in (get s j))) e)

    none_there : (j : ℕ) (b : Bool) → eq_by_cmp nat_cmp j k ≡ b → cond (eq_by_cmp nat_cmp j k) None (spot_in (get s j)) ≡ spot_in (get s j)
    none_there j true e = ap (λ b. cond b None (spot_in (get s j))) e ∙ sym (ap spot_in (ap (get s) (tied j k e) ∙ vacant))
    none_there j false e = ap (λ b. cond b None (spot_in (get s j))) e

    by_spot : (o : Option (ℕ × ℕ)) → spot_of l.cell l.place ≡ o → ((t : ℕ × ℕ) → is_spot o t ≡ true → key_at m t.0 t.1 ≡ None)
        → ((t : ℕ × ℕ) → key_at m' t.0 t.1 ≡ cond (is_spot o t) (Some k) (key_at m t.0 t.1)) → ArePlaced (get s') m'
    by_spot None e free put =
        paired-same (λ t. key_at m t.0 t.1) (λ t. key_at m' t.0 t.1) (λ j. spot_in (get s j)) (λ j. spot_in (get s' j)) placed put
        (λ j. stand j ∙ ap (λ o. cond (eq_by_cmp nat_cmp j k) o (spot_in (get s j))) e ∙ none_there j (eq_by_cmp nat_cmp j k) refl)
    by_spot (Some t) e free put =
        paired-put same_spot same_spot-is same_spot-itself (λ t. key_at m t.0 t.1) (λ t. key_at m' t.0 t.1) (λ j. spot_in (get s j)) (λ j. spot_in (get s' j)) t k placed
        (ap spot_in vacant) (free t (same_spot-itself t)) put (λ j. stand j ∙ ap (λ o. cond (eq_by_cmp nat_cmp j k) o (spot_in (get s j))) e)

-- a cell that goes
module _ (s s' : Slab Locked) (m : EntryKeys) (k : ℕ) (l : Locked) (placed : ArePlaced (get s) m) (there : get s k ≡ Some l) (changes : Updates s s' k None) where
  leave : (j : ℕ) → spot_in (get s' j) ≡ cond (eq_by_cmp nat_cmp j k) None (spot_in (get s j))
  leave j = by_key (eq_by_cmp nat_cmp j k) refl
    where
      by_key : (b : Bool) → eq_by_cmp nat_cmp j k ≡ b → spot_in (get s' j) ≡ cond (eq_by_cmp nat_cmp j k) None (spot_in (get s j))
      by_key true e = ap (λ i. spot_in (get s' i)) (tied j k e) ∙ ap spot_in changes.changed ∙ sym (ap (λ b. cond b None (spot_in (get s j))) e)
      by_key false e = ap spot_in (changes.others j (untied j k e)) ∙ sym (ap (λ b. cond b None (spot_in (get s j))) e)

  -- leaves its key behind, if it is an entry
  pub gap-left : (dir place : ℕ) → spot_of l.cell l.place ≡ Some (dir, place) → HaveGap (get s') m dir place
  gap-left dir place is =
      paired-out same_spot same_spot-is same_spot-itself (λ t. key_at m t.0 t.1) (λ t. cond (same_spot (dir, place) t) None (key_at m t.0 t.1)) (λ j. spot_in (get s j)) (λ j. spot_in (get s' j)) (dir, place) k placed
      (ap spot_in there ∙ is) (λ t. refl) leave

  pub key-left : (dir place : ℕ) → spot_of l.cell l.place ≡ Some (dir, place) → IsSome (key_at m dir place)
  key-left dir place is = ap is_some ((placed (dir, place) k).1 (ap spot_in there ∙ is))

  pub placed-left : spot_of l.cell l.place ≡ None → ArePlaced (get s') m
  placed-left is =
      paired-same (λ t. key_at m t.0 t.1) (λ t. key_at m t.0 t.1) (λ j. spot_in (get s j)) (λ j. spot_in (get s' j)) placed (λ t. refl) (λ j. leave j ∙ by_key j (eq_by_cmp nat_cmp j k) refl)
    where
      by_key : (j : ℕ) (b : Bool) → eq_by_cmp nat_cmp j k ≡ b → cond (eq_by_cmp nat_cmp j k) None (spot_in (get s j)) ≡ spot_in (get s j)
      by_key j true e = ap (λ b. cond b None (spot_in (get s j))) e ∙ sym (ap (λ i. spot_in (get s i)) (tied j k e) ∙ ap spot_in there ∙ is)
      by_key j false e = ap (λ b. cond b None (spot_in (get s j))) e

-- an entry that is told another place stands there
spot-moved : (o : Option Locked) (dir last place : ℕ) → spot_in o ≡ Some (dir, last) → spot_in (with_place place o) ≡ Some (dir, place)
spot-moved None dir last place e = absurd (false≢true (ap is_some e))
spot-moved (Some l) dir last place e = by_cell l.cell l.place e
  where
    by_cell : (c : Cell) (p : ℕ) → spot_of c p ≡ Some (dir, last) → spot_of c place ≡ Some (dir, place)
    by_cell (Entry entry) p e = ap (λ (t : ℕ × ℕ). Some (t.0, place)) (the_one (entry.dir, p) (dir, last) e)
    by_cell (Names d) p e = absurd (false≢true (ap is_some e))
    by_cell (Parent d) p e = absurd (false≢true (ap is_some e))
    by_cell (Links i) p e = absurd (false≢true (ap is_some e))
    by_cell (Bytes i) p e = absurd (false≢true (ap is_some e))
    by_cell (Fd f) p e = absurd (false≢true (ap is_some e))
    by_cell (DirAttributes d) p e = absurd (false≢true (ap is_some e))
    by_cell (FileAttributes i) p e = absurd (false≢true (ap is_some e))

-- the gap is closed
pub gap-closed : (s s' : Slab Locked) (m m' : EntryKeys) (dir place moved : ℕ) → HaveGap (get s) m dir place → IsMoved m m' dir place moved
    → ((k : ℕ) → get s' k ≡ cond (k == moved) (with_place place (get s k)) (get s k)) → ArePlaced (get s') m'
gap-closed s s' m m' dir place moved gap is told =
    paired-same f2 (λ t. key_at m' t.0 t.1) g2 (λ j. spot_in (get s' j)) put (λ t. is.keys t ∙ by_spot (same_spot (dir, place) t) (same_spot (dir, is.last) t) (key_at m t.0 t.1)) (λ j. by_key j (eq_by_cmp nat_cmp j moved) refl)
  where
    f0 : ℕ × ℕ → Option ℕ
    f0 t = cond (same_spot (dir, place) t) None (key_at m t.0 t.1)

    g0 : ℕ → Option (ℕ × ℕ)
    g0 j = spot_in (get s j)

    f1 : ℕ × ℕ → Option ℕ
    f1 t = cond (same_spot (dir, is.last) t) None (f0 t)

    g1 : ℕ → Option (ℕ × ℕ)
    g1 j = cond (eq_by_cmp nat_cmp j moved) None (g0 j)

    f2 : ℕ × ℕ → Option ℕ
    f2 t = cond (same_spot (dir, place) t) (Some moved) (f1 t)

    g2 : ℕ → Option (ℕ × ℕ)
    g2 j = cond (eq_by_cmp nat_cmp j moved) (Some (dir, place)) (g1 j)

    here : g0 moved ≡ Some (dir, is.last)
    here = (gap (dir, is.last) moved).0 ((λ i. cond (itself dir i && ne_eqb is.last place is.apart i) None (key_at m dir is.last)) ∙ is.was)

    out : IsPaired f1 g1
    out = paired-out same_spot same_spot-is same_spot-itself f0 f1 g0 g1 (dir, is.last) moved gap here (λ t. refl) (λ j. refl)

    none_there : (b : Bool) → cond b None (f0 (dir, place)) ≡ None
    none_there true = refl
    none_there false = ap (λ b. cond b None (key_at m dir place)) (same_spot-itself (dir, place))

    put : IsPaired f2 g2
    put = paired-put same_spot same_spot-is same_spot-itself f1 f2 g1 g2 (dir, place) moved out (ap (λ b. cond b None (g0 moved)) (tie moved moved refl)) (none_there (same_spot (dir, is.last) (dir, place))) (λ t. refl) (λ j. refl)

    by_spot : (a b : Bool) (x : Option ℕ) → cond a (Some moved) (cond b None x) ≡ cond a (Some moved) (cond b None (cond a None x))
    by_spot true b x = refl
    by_spot false b x = refl

    by_key : (j : ℕ) (b : Bool) → eq_by_cmp nat_cmp j moved ≡ b → spot_in (get s' j) ≡ g2 j
    by_key j true e =
        ap spot_in (told j ∙ ap (λ b. cond b (with_place place (get s j)) (get s j)) (sym (unsigned_tied j moved) ∙ e))
        ∙ spot-moved (get s j) dir is.last place (ap (λ i. spot_in (get s i)) (tied j moved e) ∙ here) ∙ sym (ap (λ b. cond b (Some (dir, place)) (g1 j)) e)
    by_key j false e =
        ap spot_in (told j ∙ ap (λ b. cond b (with_place place (get s j)) (get s j)) (sym (unsigned_tied j moved) ∙ e))
        ∙ sym (ap (λ b. cond b (Some (dir, place)) (g1 j)) e ∙ ap (λ b. cond b None (g0 j)) e)

pub told-same : (s s' : Slab Locked) (moved place : ℕ) → ((k : ℕ) → get s' k ≡ cond (k == moved) (with_place place (get s k)) (get s k)) → ShowSame (get s) (get s')
told-same s s' moved place told k = ap shown (told k) ∙ by_key (k == moved) (get s k)
  where
    by_key : (b : Bool) (o : Option Locked) → shown (cond b (with_place place o) o) ≡ shown o
    by_key true None = refl
    by_key true (Some l) = refl
    by_key false o = refl

pub gap-gone : (s s' : Slab Locked) (m m' : EntryKeys) (dir place : ℕ) → HaveGap (get s) m dir place → s' ≡ s
    → ((t : ℕ × ℕ) → key_at m' t.0 t.1 ≡ cond (same_spot (dir, place) t) None (key_at m t.0 t.1)) → ArePlaced (get s') m'
gap-gone s s' m m' dir place gap same out = paired-same _ (λ t. key_at m' t.0 t.1) (λ j. spot_in (get s j)) (λ j. spot_in (get s' j)) gap out (λ j. ap (λ (t : Slab Locked). spot_in (get t j)) same)

-- a cell that is told its place
pub told-set : (s : Slab Locked) (key place : ℕ) (l : Locked) → get s key ≡ Some l
    → (k : ℕ) → get (with_value s key (record l { place = place })) k ≡ cond (k == key) (with_place place (get s k)) (get s k)
told-set s key place l there k = by_key (k == key) refl
  where
    changes : Updates s (with_value s key (record l { place = place })) key (Some (record l { place = place }))
    changes = Updates-with_value s key (record l { place = place }) (ap is_some there)

    by_key : (b : Bool) → (k == key) ≡ b → get (with_value s key (record l { place = place })) k ≡ cond (k == key) (with_place place (get s k)) (get s k)
    by_key true e =
        ap (get (with_value s key (record l { place = place }))) (eqb-true k key e) ∙ changes.changed
        ∙ sym (ap (λ b. cond b (with_place place (get s k)) (get s k)) e ∙ ap (with_place place) (ap (get s) (eqb-true k key e) ∙ there))
    by_key false e = changes.others k (λ is. false≢true (sym e ∙ eq-eqb k key is)) ∙ sym (ap (λ b. cond b (with_place place (get s k)) (get s k)) e)

pub told-none : (s : Slab Locked) (key place : ℕ) → get s key ≡ None → (k : ℕ) → get s k ≡ cond (k == key) (with_place place (get s k)) (get s k)
told-none s key place none k = by_key (k == key) refl
  where
    by_key : (b : Bool) → (k == key) ≡ b → get s k ≡ cond (k == key) (with_place place (get s k)) (get s k)
    by_key true e =
        ap (get s) (eqb-true k key e) ∙ none
        ∙ sym (ap (λ b. cond b (with_place place (get s k)) (get s k)) e ∙ ap (with_place place) (ap (get s) (eqb-true k key e) ∙ none))
    by_key false e = sym (ap (λ b. cond b (with_place place (get s k)) (get s k)) e)

pub placed-none : (s : Slab Locked) (m : EntryKeys) → s.slots ≡ [] → m ≡ finite.empty → ArePlaced (get s) m
placed-none s m empty none t k = (
  λ is. absurd (false≢true (ap is_some (sym (ap (λ n. key_at n t.0 t.1) none ∙ ap (λ o. slice_get (listed_keys o) t.1) (finite.get-empty nat_cmp t.0)) ∙ is))),
  λ is. absurd (false≢true (ap is_some (sym (ap (λ slots. spot_in (get_or slots k None)) empty) ∙ is))),
)

-- keys and slots that stay leave each its place
pub placed-same : (s s' : Slab Locked) (m m' : EntryKeys) → ArePlaced (get s) m → ((k : ℕ) → get s' k ≡ get s k) → ((t : ℕ × ℕ) → key_at m' t.0 t.1 ≡ key_at m t.0 t.1) → ArePlaced (get s') m'
placed-same s s' m m' placed slots keys =
    paired-same (λ t. key_at m t.0 t.1) (λ t. key_at m' t.0 t.1) (λ j. spot_in (get s j)) (λ j. spot_in (get s' j)) placed keys (λ j. ap spot_in (slots j))

-- so do other holders
pub placed-lent : (s : Slab Locked) (m : EntryKeys) (k : ℕ) (l : Locked) (holders : Owners) → get s k ≡ Some l → ArePlaced (get s) m → ArePlaced (get (with_value s k (record l { holders = holders }))) m
placed-lent s m k l holders there placed =
    paired-same (λ t. key_at m t.0 t.1) (λ t. key_at m t.0 t.1) (λ j. spot_in (get s j)) (λ j. spot_in (get (with_value s k (record l { holders = holders })) j)) placed (λ t. refl) (λ j. by_key j (eq_by_cmp nat_cmp j k) refl)
  where
    changes : Updates s (with_value s k (record l { holders = holders })) k (Some (record l { holders = holders }))
    changes = Updates-with_value s k (record l { holders = holders }) (ap is_some there)

    by_key : (j : ℕ) (b : Bool) → eq_by_cmp nat_cmp j k ≡ b → spot_in (get (with_value s k (record l { holders = holders })) j) ≡ spot_in (get s j)
    by_key j true e = ap (λ i. spot_in (get (with_value s k (record l { holders = holders })) i)) (tied j k e) ∙ ap spot_in changes.changed ∙ sym (ap (λ i. spot_in (get s i)) (tied j k e) ∙ ap spot_in there)
    by_key j false e = ap spot_in (changes.others j (untied j k e))

in_slice : (keys : List ℕ) (key : ℕ) → In key keys → (p : ℕ) × (slice_get keys p ≡ Some key)
in_slice [] key i = absurd i
in_slice (x ∷ xs) key (inl is) = (0, ap Some (sym is))
in_slice (x ∷ xs) key (inr i) = let found = in_slice xs key i in (suc found.0, found.1)

slice_in : (keys : List ℕ) (p key : ℕ) → slice_get keys p ≡ Some key → In key keys
slice_in [] p key e = absurd (false≢true (ap is_some e))
slice_in (x ∷ xs) zero key e = inl (sym (the_one x key e))
slice_in (x ∷ xs) (suc p) key e = inr (slice_in xs p key e)

-- what a spot says of the cell that has it
spot_entry : (c : Cell) (place : ℕ) (t : ℕ × ℕ) → spot_of c place ≡ Some t → is_entry_of t.0 c ≡ true
spot_entry (Entry entry) place t e = ap (λ (x : ℕ × ℕ). t.0 == x.0) (the_one (entry.dir, place) t e) ∙ itself t.0
spot_entry (Names d) place t e = absurd (false≢true (ap is_some e))
spot_entry (Parent d) place t e = absurd (false≢true (ap is_some e))
spot_entry (Links i) place t e = absurd (false≢true (ap is_some e))
spot_entry (Bytes i) place t e = absurd (false≢true (ap is_some e))
spot_entry (Fd f) place t e = absurd (false≢true (ap is_some e))
spot_entry (DirAttributes d) place t e = absurd (false≢true (ap is_some e))
spot_entry (FileAttributes i) place t e = absurd (false≢true (ap is_some e))

entry_spot : (c : Cell) (place d : ℕ) → is_entry_of d c ≡ true → spot_of c place ≡ Some (d, place)
entry_spot (Entry entry) place d e = ap (λ x. Some (x, place)) (sym (eqb-true d entry.dir e))
entry_spot (Names e) place d is = absurd (false≢true is)
entry_spot (Parent e) place d is = absurd (false≢true is)
entry_spot (Links i) place d is = absurd (false≢true is)
entry_spot (Bytes i) place d is = absurd (false≢true is)
entry_spot (Fd f) place d is = absurd (false≢true is)
entry_spot (DirAttributes e) place d is = absurd (false≢true is)
entry_spot (FileAttributes i) place d is = absurd (false≢true is)

-- the keys of a directory's list are those of its entries
pub entries-listed : (s : Slab Locked) (index : List (Cell × ℕ)) (seen : Keyed) → record { cells = cells_of s index; at = at_of s } ≡ seen → AreKeyed (at_of s) index
    → (m : EntryKeys) → ArePlaced (get s) m → (d : ℕ) (o : Option (Vec ℕ Global)) → o ≡ finite.get m d → AreEntriesOf seen d (listed_keys o)
entries-listed s index seen is keyed m placed d o was = record { each = each; all = all }
  where
    listed : (p : ℕ) → slice_get (listed_keys o) p ≡ key_at m d p
    listed p = ap (λ x. slice_get (listed_keys x) p) was

    each : (key : ℕ) → In key (listed_keys o) → (c : Cell) × (finite.get seen.at key ≡ Some c) × (is_entry_of d c ≡ true)
    each key i =
        let place = in_slice (listed_keys o) key i in
        by_slot (get s key) refl ((placed (d, place.0) key).0 (sym (listed place.0) ∙ place.1))
      where
        by_slot : {p : ℕ} (x : Option Locked) → get s key ≡ x → spot_in (get s key) ≡ Some (d, p) → (c : Cell) × (finite.get seen.at key ≡ Some c) × (is_entry_of d c ≡ true)
        by_slot None e spot = absurd (false≢true (ap is_some (sym (ap spot_in e) ∙ spot)))
        by_slot {p} (Some l) e spot = (l.cell, sym (seen-at s index seen is key (Some l) e), spot_entry l.cell l.place (d, p) (sym (ap spot_in e) ∙ spot))

    all : (c : Cell) → finite.contains_key seen.cells c ≡ true → is_entry_of d c ≡ true → (key : ℕ) × (finite.get seen.at key ≡ Some c) × In key (listed_keys o)
    all c there entry = by_key (key_in index c) refl (seen-key s index seen is c ∙ there)
      where
        by_key : (x : Option ℕ) → key_in index c ≡ x → is_some (key_in index c) ≡ true → (key : ℕ) × (finite.get seen.at key ≡ Some c) × In key (listed_keys o)
        by_key None e some = absurd (false≢true (sym (ap is_some e) ∙ some))
        by_key (Some key) e some = (key, sym (ap (λ (k : Keyed). finite.get k.at key) is) ∙ stands, by_slot (get s key) refl)
          where
            stands : finite.get (at_of s) key ≡ Some c
            stands = (keyed c key).0 e

            by_slot : (x : Option Locked) → get s key ≡ x → In key (listed_keys o)
            by_slot None f = absurd (false≢true (ap is_some (sym (at-none s key f) ∙ stands)))
            by_slot (Some l) f =
                let same : l.cell ≡ c = the_one l.cell c (sym (at-there s key l f) ∙ stands) in
                slice_in (listed_keys o) l.place key (listed l.place ∙ (placed (d, l.place) key).1 (ap spot_in f ∙ ap (λ x. spot_of x l.place) same ∙ entry_spot c l.place d entry))

pub both_same : {A : Type 0} (b : Bool) (x : A) → cond b x x ≡ x
both_same true x = refl
both_same false x = refl

-- what a look at a place finds
pub found-at : (xs : List ℕ) (p : ℕ) (r : Option (Bor ℕ)) → IsItemAt xs p r → option_copied r ≡ slice_get xs p
found-at xs p (Some x) is = ap Some is.1 ∙ sym (slice_get-get_or xs p x.now (ltb-true p (length xs) (sym is.0)))
found-at xs p None is = sym (slice_get_past xs p (ltb-false p (length xs) (sym is.0)))

empty_list : (xs : List ℕ) → length xs ≡ 0 → xs ≡ []
empty_list [] e = refl
empty_list (x ∷ xs) e = absurd (omega (arith, e))

-- an empty list that is dropped
pub list-dropped : (m : EntryKeys) (dir : ℕ) (keys : Vec ℕ Global) → vec_len keys ≡ 0 → (t : ℕ × ℕ) → key_at (finite.remove (finite.insert m dir keys) dir) t.0 t.1 ≡ key_at (finite.insert m dir keys) t.0 t.1
list-dropped m dir keys none t = key-remove (finite.insert m dir keys) dir t ∙ by_dir (t.0 == dir) refl
  where
    by_dir : (b : Bool) → (t.0 == dir) ≡ b → cond (t.0 == dir) None (key_at (finite.insert m dir keys) t.0 t.1) ≡ key_at (finite.insert m dir keys) t.0 t.1
    by_dir true e =
        ap (λ b. cond b None (key_at (finite.insert m dir keys) t.0 t.1)) e
        ∙ sym (key-insert m dir keys t ∙ ap (λ b. cond b (slice_get keys.items t.1) (key_at m t.0 t.1)) e ∙ ap (λ xs. slice_get xs t.1) (empty_list keys.items (sym keys.ok.0 ∙ none)))
    by_dir false e = ap (λ b. cond b None (key_at (finite.insert m dir keys) t.0 t.1)) e

-- The last key of a list takes the place of one that is taken out.
module _ (xs ys : List ℕ) (i : ℕ) (within : i < length xs) (shorter : length ys + 1 ≡ length xs)
    (swapped : ((d : ℕ) → i + 1 < length xs → get_or ys i d ≡ get_or xs (length xs - 1) d) × ((k d : ℕ) → k ≢ i → k + 1 < length xs → get_or ys k d ≡ get_or xs k d)) where
  got : (p : ℕ) → slice_get ys p ≡ cond (p == i) (slice_get ys i) (cond (p == length xs - 1) None (slice_get xs p))
  got p = by_place (p == i) refl (p == length xs - 1) refl (ltb p (length ys)) refl
    where
      by_place : (a : Bool) → (p == i) ≡ a → (b : Bool) → (p == length xs - 1) ≡ b → (c : Bool) → ltb p (length ys) ≡ c → slice_get ys p ≡ cond (p == i) (slice_get ys i) (cond (p == length xs - 1) None (slice_get xs p))
      by_place true e b f c g = ap (slice_get ys) (eqb-true p i e) ∙ sym (ap (λ x. cond x (slice_get ys i) (cond (p == length xs - 1) None (slice_get xs p))) e)
      by_place false e true f c g =
          let last = eqb-true p (length xs - 1) f in
          slice_get_past ys p (omega (arith, last, shorter)) ∙ sym (λ j. cond (e j) (slice_get ys i) (cond (f j) None (slice_get xs p)))
      by_place false e false f true g =
          let lt = ltb-true p (length ys) g in
          slice_get-get_or ys p 0 lt ∙ ap Some (swapped.1 p 0 (λ is. false≢true (sym e ∙ eq-eqb p i is)) (omega (arith, lt, shorter)))
          ∙ sym (slice_get-get_or xs p 0 (omega (arith, lt, shorter))) ∙ sym (λ j. cond (e j) (slice_get ys i) (cond (f j) None (slice_get xs p)))
      by_place false e false f false g =
          let past = ltb-false p (length ys) g in
          let apart : p ≢ length xs - 1 = λ is. false≢true (sym f ∙ eq-eqb p (length xs - 1) is) in
          slice_get_past ys p past ∙ sym (slice_get_past xs p (omega (arith, past, shorter, apart))) ∙ sym (λ j. cond (e j) (slice_get ys i) (cond (f j) None (slice_get xs p)))

  pub got-last : slice_get ys i ≡ None → (p : ℕ) → slice_get ys p ≡ cond (p == i) None (slice_get xs p)
  got-last none p = got p ∙ (λ j. cond (p == i) (none j) (cond (p == last j) None (slice_get xs p))) ∙ twice (p == i) (slice_get xs p)
    where
      twice : (b : Bool) (x : Option ℕ) → cond b None (cond b None x) ≡ cond b None x
      twice true x = refl
      twice false x = refl

      by_length : (b : Bool) → ltb i (length ys) ≡ b → length xs - 1 ≡ i
      by_length true g = absurd (false≢true (sym (ap is_some none) ∙ ap is_some (slice_get-get_or ys i 0 (ltb-true i (length ys) g))))
      by_length false g = let past = ltb-false i (length ys) g in omega (arith, past, shorter, within)

      last : length xs - 1 ≡ i
      last = by_length (ltb i (length ys)) refl

  -- the place of the last key, which has moved
  pub got-moved : (moved : ℕ) → slice_get ys i ≡ Some moved → (length xs - 1 ≢ i) × (slice_get xs (length xs - 1) ≡ Some moved)
  got-moved moved is = by_length (ltb i (length ys)) refl
    where
      by_length : (b : Bool) → ltb i (length ys) ≡ b → (length xs - 1 ≢ i) × (slice_get xs (length xs - 1) ≡ Some moved)
      by_length false g = absurd (false≢true (sym (ap is_some (slice_get_past ys i (ltb-false i (length ys) g))) ∙ ap is_some is))
      by_length true g =
          let lt = ltb-true i (length ys) g in (
            λ e. omega (arith, lt, shorter, e),
            slice_get-get_or xs (length xs - 1) moved (omega (arith, within)) ∙ ap Some (sym (swapped.0 moved (omega (arith, lt, shorter)))) ∙ sym (slice_get-get_or ys i moved lt) ∙ is,
          )

  pub got-others : (moved : ℕ) → slice_get ys i ≡ Some moved → (p : ℕ) → slice_get ys p ≡ cond (p == i) (Some moved) (cond (p == length xs - 1) None (slice_get xs p))
  got-others moved is p = got p ∙ ap (λ o. cond (p == i) o (cond (p == length xs - 1) None (slice_get xs p))) is

pub nested_tests : {A : Type 0} (a b c : Bool) (x y z : A) → cond a (cond b x (cond c y z)) z ≡ cond (a && b) x (cond (a && c) y z)
nested_tests true b c x y z = refl
nested_tests false b c x y z = refl

pub slice_within : (xs : List ℕ) (p : ℕ) → IsSome (slice_get xs p) → p < length xs
slice_within xs p some = by_length (ltb p (length xs)) refl
  where
    by_length : (b : Bool) → ltb p (length xs) ≡ b → p < length xs
    by_length true g = ltb-true p (length xs) g
    by_length false g = absurd (false≢true (sym (ap is_some (slice_get_past xs p (ltb-false p (length xs) g))) ∙ some))

-- a cell that is no entry has no spot
pub no_spot : (c : Cell) (place : ℕ) → ((entry : EntryOf) → c ≡ Entry entry → ⊥) → spot_of c place ≡ None
no_spot (Entry entry) place none = absurd (none entry refl)
no_spot (Names d) place none = refl
no_spot (Parent d) place none = refl
no_spot (Links i) place none = refl
no_spot (Bytes i) place none = refl
no_spot (Fd f) place none = refl
no_spot (DirAttributes d) place none = refl
no_spot (FileAttributes i) place none = refl
