-- The directories, or the files, as callers see them through their index, as an inode comes, is
-- written and goes.
use Rattle.std.proofs.Common.{◌≡◌, ◌≢◌, ℕ, Bool, true, false, cond, ◌==◌, List, [], ◌∷◌, Option, Some, None, eqb-true, eq-eqb, refl, sym, ap, ◌∙◌}
use Rattle.std.proofs.lemmas.Bool.{false≢true}
use Rattle.std.specs.Option.{option_map}
use Rattle.std.specs.Ordering.{nat_cmp, eq_by_cmp}
use Rattle.std.specs.Cmp.{nat_cmp_total, eq_by_cmp_equiv}
use Rattle.std.specs.BTreeMap.{is_at}
use Rattle.std.specs.Map.{lookup}
use Rattle.std.specs.FinMap as finite
use Rattle.std.proofs.lemmas.Map.Lookups.{exact_unsigned}
use Rattle.std.proofs.lemmas.Map.Made.{lookup-map_values}
use Rattle.slab.specs.Slab.{Slab, get}
use Rattle.ft_cells.proofs.MapViews.{get-view}
use Rattle.ft_cells.proofs.Splits.{by_test, unlike, tied-is}
use Rattle.ft_inodes.specs.declared.inode.Inode.{Inode}
use Rattle.ft_inodes.specs.Keyed.{Index, key_in, listed_by, shown_by, Leads}

-- two indices that have the same key for each number, but for one, which has this key, or none, in
-- the second
abbrev pub PutsKey : ℕ → Option ℕ → Index → Index → Type 0
PutsKey n key index index' = (q : ℕ) → key_in index' q ≡ cond (is_at (nat_cmp n) q) key (key_in index q)

-- what the numbers of an index lead to is the same in both, but for one number
abbrev pub KeepsRest : ℕ → Index → Slab Inode → Slab Inode → Type 0
KeepsRest n index s s' = (q key : ℕ) → is_at (nat_cmp n) q ≡ false → key_in index q ≡ Some key → get s' key ≡ get s key

abbrev pub KeepsAll : Index → Slab Inode → Slab Inode → Type 0
KeepsAll index s s' = (q key : ℕ) → key_in index q ≡ Some key → get s' key ≡ get s key

same_number : (n q : ℕ) → is_at (nat_cmp n) q ≡ true → n ≡ q
same_number n q t = tied-is exact_unsigned n q t

turned : (n q : ℕ) → eq_by_cmp nat_cmp q n ≡ is_at (nat_cmp n) q
turned n q = (eq_by_cmp_equiv nat_cmp_total).symm q n

pub itself : (n : ℕ) → is_at (nat_cmp n) n ≡ true
itself n = (eq_by_cmp_equiv nat_cmp_total).refl n

-- a number has the key that it has
pub puts-same : (n key : ℕ) (index : Index) → key_in index n ≡ Some key → PutsKey n (Some key) index index
puts-same n key index there q = by_tie (is_at (nat_cmp n) q) refl
  where
    by_tie : (b : Bool) → is_at (nat_cmp n) q ≡ b → key_in index q ≡ cond (is_at (nat_cmp n) q) (Some key) (key_in index q)
    by_tie true e = ap (key_in index) (sym (same_number n q e)) ∙ there ∙ sym (ap (λ b. cond b (Some key) (key_in index q)) e)
    by_tie false e = sym (ap (λ b. cond b (Some key) (key_in index q)) e)

found-lookup : (es : List (ℕ × ℕ)) (q : ℕ) → finite.find nat_cmp q es ≡ lookup (is_at (nat_cmp q)) es
found-lookup [] q = refl
found-lookup (e ∷ es) q = ap (cond (is_at (nat_cmp q) e.0) (Some e.1)) (found-lookup es q)

-- the index has one key more, or one less
pub puts-key : (n k : ℕ) (index index' : Index) → index' ≡ finite.insert index n k → PutsKey n (Some k) index index'
puts-key n k index index' is q =
    ap (λ m. finite.get m q) is ∙ finite.get-insert nat_cmp_total index n k q ∙ ap (λ b. cond b (Some k) (key_in index q)) (turned n q)

pub takes-key : (n : ℕ) (index index' : Index) → index' ≡ finite.remove index n → PutsKey n None index index'
takes-key n index index' is q =
    ap (λ m. finite.get m q) is ∙ finite.get-remove nat_cmp_total index n q ∙ ap (λ b. cond b None (key_in index q)) (turned n q)

module _ {X : Type 0} (seen : Option Inode → X) where
  -- what is seen at a number
  pub get-shown : (s : Slab Inode) (index : Index) (q : ℕ) → finite.get (shown_by seen s index) q ≡ option_map (λ key. seen (get s key)) (key_in index q)
  get-shown s index q =
      get-view nat_cmp_total (listed_by seen s (finite.entries index)) q ∙ lookup-map_values (λ key. seen (get s key)) (is_at (nat_cmp q)) (finite.entries index)
      ∙ ap (option_map (λ key. seen (get s key))) (sym (found-lookup (finite.entries index) q) ∙ sym (finite.get-entries index q))

  -- no number, and nothing seen
  pub shown-empty : (s : Slab Inode) (index : Index) → index ≡ finite.empty → shown_by seen s index ≡ finite.empty
  shown-empty s index is = finite.same_map nat_cmp_total exact_unsigned _ _ (λ q.
      get-shown s index q ∙ ap (option_map (λ key. seen (get s key))) (ap (λ m. finite.get m q) is ∙ finite.get-empty nat_cmp q) ∙ sym (finite.get-empty nat_cmp q))

  same-slot : (s s' : Slab Inode) (o : Option ℕ) → ((key : ℕ) → o ≡ Some key → get s' key ≡ get s key) → option_map (λ key. seen (get s' key)) o ≡ option_map (λ key. seen (get s key)) o
  same-slot s s' None same = refl
  same-slot s s' (Some key) same = ap (λ x. Some (seen x)) (same key refl)

  -- nothing changed
  pub shown-same : (s s' : Slab Inode) (index index' : Index) → ((q : ℕ) → key_in index' q ≡ key_in index q) → KeepsAll index s s' → shown_by seen s' index' ≡ shown_by seen s index
  shown-same s s' index index' keys slots = finite.same_map nat_cmp_total exact_unsigned _ _ (λ q.
      get-shown s' index' q ∙ ap (option_map (λ key. seen (get s' key))) (keys q) ∙ same-slot s s' (key_in index q) (slots q) ∙ sym (get-shown s index q))

  -- one number leads to something new
  pub shown-put : (s s' : Slab Inode) (index index' : Index) (n k : ℕ) → PutsKey n (Some k) index index' → KeepsRest n index s s'
      → shown_by seen s' index' ≡ finite.insert (shown_by seen s index) n (seen (get s' k))
  shown-put s s' index index' n k keys slots = finite.same_map nat_cmp_total exact_unsigned _ _ (λ q.
      get-shown s' index' q ∙ ap (option_map (λ key. seen (get s' key))) (keys q) ∙ by_tie q (is_at (nat_cmp n) q) refl
      ∙ sym (finite.get-insert nat_cmp_total (shown_by seen s index) n (seen (get s' k)) q ∙ ap (λ b. cond b (Some (seen (get s' k))) (finite.get (shown_by seen s index) q)) (turned n q)))
    where
      by_tie : (q : ℕ) (b : Bool) → is_at (nat_cmp n) q ≡ b
          → option_map (λ key. seen (get s' key)) (cond (is_at (nat_cmp n) q) (Some k) (key_in index q)) ≡ cond (is_at (nat_cmp n) q) (Some (seen (get s' k))) (finite.get (shown_by seen s index) q)
      by_tie q true e =
          ap (λ b. option_map (λ key. seen (get s' key)) (cond b (Some k) (key_in index q))) e
          ∙ sym (ap (λ b. cond b (Some (seen (get s' k))) (finite.get (shown_by seen s index) q)) e)
      by_tie q false e =
          ap (λ b. option_map (λ key. seen (get s' key)) (cond b (Some k) (key_in index q))) e
          ∙ same-slot s s' (key_in index q) (λ key. slots q key e) ∙ sym (get-shown s index q)
          ∙ sym (ap (λ b. cond b (Some (seen (get s' k))) (finite.get (shown_by seen s index) q)) e)

  -- one number leads nowhere any more
  pub shown-out : (s s' : Slab Inode) (index index' : Index) (n : ℕ) → PutsKey n None index index' → KeepsRest n index s s'
      → shown_by seen s' index' ≡ finite.remove (shown_by seen s index) n
  shown-out s s' index index' n keys slots = finite.same_map nat_cmp_total exact_unsigned _ _ (λ q.
      get-shown s' index' q ∙ ap (option_map (λ key. seen (get s' key))) (keys q) ∙ by_tie q (is_at (nat_cmp n) q) refl
      ∙ sym (finite.get-remove nat_cmp_total (shown_by seen s index) n q ∙ ap (λ b. cond b None (finite.get (shown_by seen s index) q)) (turned n q)))
    where
      by_tie : (q : ℕ) (b : Bool) → is_at (nat_cmp n) q ≡ b
          → option_map (λ key. seen (get s' key)) (cond (is_at (nat_cmp n) q) None (key_in index q)) ≡ cond (is_at (nat_cmp n) q) None (finite.get (shown_by seen s index) q)
      by_tie q true e =
          ap (λ b. option_map (λ key. seen (get s' key)) (cond b None (key_in index q))) e
          ∙ sym (ap (λ b. cond b None (finite.get (shown_by seen s index) q)) e)
      by_tie q false e =
          ap (λ b. option_map (λ key. seen (get s' key)) (cond b None (key_in index q))) e
          ∙ same-slot s s' (key_in index q) (λ key. slots q key e) ∙ sym (get-shown s index q)
          ∙ sym (ap (λ b. cond b None (finite.get (shown_by seen s index) q)) e)

the_key : (a b : ℕ) → Some a ≡ Some b → a ≡ b
the_key a b h = cc

pub one_key : (index : Index) (n a b : ℕ) → key_in index n ≡ Some a → key_in index n ≡ Some b → a ≡ b
one_key index n a b p q = the_key a b (sym p ∙ q)

pub nowhere : {P : Type 0} (a : ℕ) → None ≡ Some a → P
nowhere a h = absurd (cc)

module _ (is_own : ℕ → Option Inode → Bool) where
  -- where a slot is not a number's own, the number does not lead there, and keeps what it leads to
  pub kept-slot : (s s' : Slab Inode) (index : Index) (k q key : ℕ) → Leads is_own s index → ((other : ℕ) → other ≢ k → get s' other ≡ get s other) → (is_own q (get s k) ≡ true → ⊥) → key_in index q ≡ Some key → get s' key ≡ get s key
  kept-slot s s' index k q key lead others apart at = others key (λ is. apart (ap (λ i. is_own q (get s i)) (sym is) ∙ (lead q key).0 at))

  -- nothing that is of a number changed
  pub leads-same : (s s' : Slab Inode) (index index' : Index) → Leads is_own s index → ((q : ℕ) → key_in index' q ≡ key_in index q) → KeepsAll index s s' → ((q key : ℕ) → is_own q (get s' key) ≡ true → get s' key ≡ get s key)
      → Leads is_own s' index'
  leads-same s s' index index' lead keys slots back q key = (
    λ at. let was = sym (keys q) ∙ at in ap (is_own q) (slots q key was) ∙ (lead q key).0 was,
    λ own. keys q ∙ (lead q key).1 (ap (is_own q) (sym (back q key own)) ∙ own),
  )

  -- what leads to each slot when a number has left
  module _ (s s' : Slab Inode) (index index' : Index) (n : ℕ) (lead : Leads is_own s index) (keys : PutsKey n None index index') (rest : KeepsRest n index s s')
      (slots : (key : ℕ) → (key_in index n ≡ Some key → ⊥) → get s' key ≡ get s key) (emptied : (key : ℕ) → key_in index n ≡ Some key → get s' key ≡ None) (no_own : (q : ℕ) → is_own q None ≡ false) where
    pub leads-out : Leads is_own s' index'
    leads-out q key = (
      λ at. by_test (is_at (nat_cmp n) q)
          (λ t. nowhere key (sym (keys q ∙ ap (λ b. cond b None (key_in index q)) t) ∙ at))
          (λ f. let was = sym (keys q ∙ ap (λ b. cond b None (key_in index q)) f) ∙ at in ap (is_own q) (rest q key f was) ∙ (lead q key).0 was),
      λ own.
          let not_n : key_in index n ≡ Some key → ⊥ = λ at. false≢true (sym (no_own q) ∙ ap (is_own q) (sym (emptied key at)) ∙ own) in
          let at = (lead q key).1 (ap (is_own q) (sym (slots key not_n)) ∙ own) in
          by_test (is_at (nat_cmp n) q)
          (λ t. absurd (not_n (ap (key_in index) (same_number n q t) ∙ at)))
          (λ f. keys q ∙ ap (λ b. cond b None (key_in index q)) f ∙ at),
    )

  -- numbers that are told apart do not lead to one slot
  module _ (one : (n m : ℕ) (o : Option Inode) → is_own n o ≡ true → is_own m o ≡ true → n ≡ m) where
    pub alone : (n q : ℕ) (o : Option Inode) → is_at (nat_cmp n) q ≡ false → is_own n o ≡ true → is_own q o ≡ true → ⊥
    alone n q o apart own other = false≢true (sym apart ∙ ap (is_at (nat_cmp n)) (sym (one n q o own other)) ∙ itself n)

    -- what leads to each slot when a number leads to one
    pub leads-put : (s s' : Slab Inode) (index index' : Index) (n k : ℕ) → Leads is_own s index → PutsKey n (Some k) index index' → KeepsRest n index s s' → ((other : ℕ) → other ≢ k → get s' other ≡ get s other)
        → ((key : ℕ) → key_in index n ≡ Some key → key ≡ k) → is_own n (get s' k) ≡ true → Leads is_own s' index'
    leads-put s s' index index' n k lead keys rest others was own q key = (
      λ at. by_test (is_at (nat_cmp n) q)
          (λ t.
          let is = the_key k key (sym (keys q ∙ ap (λ b. cond b (Some k) (key_in index q)) t) ∙ at) in
          ap (λ i. is_own q (get s' i)) (sym is) ∙ ap (λ m. is_own m (get s' k)) (sym (same_number n q t)) ∙ own)
          (λ f.
          let before = sym (keys q ∙ ap (λ b. cond b (Some k) (key_in index q)) f) ∙ at in
          ap (is_own q) (rest q key f before) ∙ (lead q key).0 before),
      λ here. by_test (key == k)
          (λ t.
          let is : key ≡ k = eqb-true key k t in
          let same : n ≡ q = one n q (get s' k) own (ap (λ i. is_own q (get s' i)) (sym is) ∙ here) in
          ap (key_in index') (sym same) ∙ keys n ∙ ap (λ b. cond b (Some k) (key_in index n)) (itself n) ∙ ap Some (sym is))
          (λ f.
          let at = (lead q key).1 (ap (is_own q) (sym (others key (λ is. unlike (eq-eqb key k is) f))) ∙ here) in
          by_test (is_at (nat_cmp n) q)
          (λ t. unlike (eq-eqb key k (was key (ap (key_in index) (same_number n q t) ∙ at))) f)
          (λ g. keys q ∙ ap (λ b. cond b (Some k) (key_in index q)) g ∙ at)),
    )
