-- The tiny tree meets the laws of effects.
use Rattle.std.proofs.Common.{◌≡◌, ◌≢◌, ◌<◌, ℕ, Bool, true, false, not, cond, ◌||◌, ◌&&◌, ◌==◌, Option, Some, None, is_some, List, [], ◌∷◌, ◌++◌, map, ◌⊎◌, inl, inr, sym, refl, ap, ap₂, ◌∙◌, subst, arith, eqb-true, eq-eqb, ne_eqb}
use Rattle.std.proofs.lemmas.Bool.{false≢true, or_cases, or_left, or_right, and_parts, and_from}
use Rattle.ft_laws.specs.Lists.{Each, In}
use Rattle.ft_laws.specs.Laws.{Lawful, Hides, Knows, TouchesFile, LeavesName, is_hidden}
use Rattle.ft_laws.specs.Effects.{Access, Write, SetsCells, EffectLaws, is_written, write_all, touch, change}
use Rattle.ft_laws.specs.Tidying.{IsTidying}
use Rattle.ft_laws.specs.Looks.{follow}
use Rattle.ft_laws.specs.Looks.Looks.{Look}
use Rattle.ft_laws.specs.Tiny.{Node, Cell, Shows, Store, Place, Shown, is_empty, view, same_cell, in_names, covers, overlap, write, What, Call, Reply, Outcome, Steps, replies, enter, inside, mkdir_at, create_at, rmdir_if, rmdir_at, unlink_at, rename_to, rename_at, fill_at, stat_at, steps, reads, wrote, does, IsThere, HasEntry, IsSound, HasSmallNames, IsReady, empty, file_of, is_file, names, blank, tiny, tiny_calls, is_zero, is_dead, tidy}
use Rattle.ft_laws.specs.Tiny.Node.{DirNode, FileNode}
use Rattle.ft_laws.specs.Tiny.Cell.{Entry, Parent, Links, Bytes}
use Rattle.ft_laws.specs.Tiny.Place.{One, Names}
use Rattle.ft_laws.specs.Tiny.What.{Mkdir, Rmdir, Create, Unlink, Rename, Fill, Stat}
use Rattle.ft_laws.proofs.Tests.{by_test, by_option, by_number, none_some}
use Rattle.ft_laws.proofs.Lists.{Each-map}
use Rattle.ft_laws.proofs.Looks.{Ends, ends, follow_alike}
use Rattle.ft_laws.proofs.Writing.{write_kept, written_all}
use Rattle.ft_laws.proofs.Effects.{effects_lawful}

-- Cells and places.

eqb_sym : (a b : ℕ) → (a == b) ≡ (b == a)
eqb_sym a b = by_number a b (λ e. eq-eqb a b e ∙ sym (eq-eqb b a (sym e))) (λ ne. ne_eqb a b ne ∙ sym (ne_eqb b a (λ e. ne (sym e))))

same_refl : (x : Cell) → same_cell x x ≡ true
same_refl (Entry d n) = and_from (d == d) (n == n) (eq-eqb d d refl) (eq-eqb n n refl)
same_refl (Parent i) = eq-eqb i i refl
same_refl (Links i) = eq-eqb i i refl
same_refl (Bytes i) = eq-eqb i i refl

same_is : (x y : Cell) → same_cell x y ≡ true → x ≡ y
same_is (Entry d n) (Entry e m) h = let p = and_parts (d == e) (n == m) h in ap₂ Entry (eqb-true d e p.0) (eqb-true n m p.1)
same_is (Parent i) (Parent j) h = ap Parent (eqb-true i j h)
same_is (Links i) (Links j) h = ap Links (eqb-true i j h)
same_is (Bytes i) (Bytes j) h = ap Bytes (eqb-true i j h)
same_is x y h = absurd (false≢true h)

same_sym : (x y : Cell) → same_cell x y ≡ same_cell y x
same_sym (Entry d n) (Entry e m) = ap₂ (λ a b. a && b) (eqb_sym d e) (eqb_sym n m)
same_sym (Parent i) (Parent j) = eqb_sym i j
same_sym (Links i) (Links j) = eqb_sym i j
same_sym (Bytes i) (Bytes j) = eqb_sym i j
same_sym x y = refl

cell_written : (s : Store) (x : Cell) (v : Shows x) → write s x v x ≡ v
cell_written s (Entry d n) v = ap (λ b. cond b v (s (Entry d n))) (same_refl (Entry d n))
cell_written s (Parent i) v = ap (λ b. cond b v (s (Parent i))) (eq-eqb i i refl)
cell_written s (Links i) v = ap (λ b. cond b v (s (Links i))) (eq-eqb i i refl)
cell_written s (Bytes i) v = ap (λ b. cond b v (s (Bytes i))) (eq-eqb i i refl)

cell_kept : (s : Store) (x : Cell) (v : Shows x) (y : Cell) → same_cell x y ≡ false → write s x v y ≡ s y
cell_kept s (Entry d n) v (Entry e m) h = ap (λ b. cond b v (s (Entry e m))) h
cell_kept s (Parent i) v (Parent j) h = ap (λ b. cond b v (s (Parent j))) h
cell_kept s (Links i) v (Links j) h = ap (λ b. cond b v (s (Links j))) h
cell_kept s (Bytes i) v (Bytes j) h = ap (λ b. cond b v (s (Bytes j))) h
cell_kept s x v y h = refl

sets : SetsCells tiny
sets = record { same_is = same_is; cell_written = cell_written; cell_kept = cell_kept }

overlaps : (p q : Place) (x : Cell) → covers p x ≡ true → covers q x ≡ true → overlap p q ≡ true
overlaps (One c) (One e) x h k = ap₂ same_cell (same_is c x h) (same_is e x k) ∙ same_refl x
overlaps (One c) (Names d) x h k = ap (in_names d) (same_is c x h) ∙ k
overlaps (Names d) (One c) x h k = ap (in_names d) (same_is c x k) ∙ h
overlaps (Names d) (Names e) (Entry f n) h k = eq-eqb d e (eqb-true d f h ∙ sym (eqb-true e f k))
overlaps (Names d) (Names e) x h k = absurd (false≢true h)

overlap_sym : (p q : Place) → overlap p q ≡ overlap q p
overlap_sym (One c) (One e) = same_sym c e
overlap_sym (One c) (Names d) = refl
overlap_sym (Names d) (One c) = refl
overlap_sym (Names d) (Names e) = eqb_sym d e

view_alike : (s t : Store) (p : Place) → ((x : Cell) → covers p x ≡ true → s x ≡ t x) → view s p ≡ view t p
view_alike s t (One x) same = same x (same_refl x)
view_alike s t (Names d) same =
    let there : (m : ℕ) → s (Entry d m) ≡ t (Entry d m) = λ m. same (Entry d m) (eq-eqb d d refl) in
    λ j. not (is_some (there 0 j) || is_some (there 1 j) || is_some (there 2 j))

-- The accesses of what is written and of what is looked at.
abbrev accesses_of : List (Write Cell Shows) → List Place → List (Access Place)
accesses_of ws seen = map wrote ws ++ map reads seen

changes_written : (ws : List (Write Cell Shows)) (seen : List Place) (x : Cell) → change tiny (accesses_of ws seen) x ≡ is_written tiny ws x
changes_written [] [] x = refl
changes_written [] (p ∷ seen) x = changes_written [] seen x
changes_written (w ∷ ws) seen x = ap (λ b. same_cell w.cell x || b) (changes_written ws seen x)

touches_seen : (ws : List (Write Cell Shows)) (seen : List Place) (p : Place) (x : Cell) → In p seen → covers p x ≡ true → touch tiny (accesses_of ws seen) x ≡ true
touches_seen [] [] p x i h = absurd i
touches_seen [] (q ∷ seen) p x (inl e) h = or_left (covers q x) (touch tiny (map reads seen) x) (subst (λ r. covers r x ≡ true) e h)
touches_seen [] (q ∷ seen) p x (inr i) h = or_right (covers q x) (touch tiny (map reads seen) x) (touches_seen [] seen p x i h)
touches_seen (w ∷ ws) seen p x i h = or_right (same_cell w.cell x) (touch tiny (accesses_of ws seen) x) (touches_seen ws seen p x i h)

touches_written : (ws : List (Write Cell Shows)) (seen : List Place) (x : Cell) → is_written tiny ws x ≡ true → touch tiny (accesses_of ws seen) x ≡ true
touches_written [] seen x h = absurd (false≢true h)
touches_written (w ∷ ws) seen x h = elim (or_cases (same_cell w.cell x) (is_written tiny ws x) h) [
  | inl e ↦ or_left (same_cell w.cell x) (touch tiny (accesses_of ws seen) x) e
  | inr e ↦ or_right (same_cell w.cell x) (touch tiny (accesses_of ws seen) x) (touches_written ws seen x e)
]

-- the file of which a place is a cell
abbrev place_file : Place → Option ℕ
place_file (One x) = file_of x
place_file (Names d) = None

covered_file : (p : Place) (x : Cell) (i : ℕ) → covers p x ≡ true → file_of x ≡ Some i → place_file p ≡ Some i
covered_file (One c) x i h e = ap file_of (same_is c x h) ∙ e
covered_file (Names d) (Entry f n) i h e = e
covered_file (Names d) x i h e = absurd (false≢true h)

-- What is true of each file of which a cell is written or looked at is true of each of which a
-- cell is touched.
touched_file : (F : Type 0) (ws : List (Write Cell Shows)) (seen : List Place) (x : Cell) (i : ℕ) → Each (λ w. file_of w.cell ≡ Some i → F) ws → Each (λ p. place_file p ≡ Some i → F) seen
    → file_of x ≡ Some i → touch tiny (accesses_of ws seen) x ≡ true → F
touched_file F [] [] x i hw hs e t = absurd (false≢true t)
touched_file F [] (p ∷ seen) x i hw hs e t = elim (or_cases (covers p x) (touch tiny (map reads seen) x) t) [
  | inl c ↦ hs.0 (covered_file p x i c e)
  | inr r ↦ touched_file F [] seen x i hw hs.1 e r
]
touched_file F (w ∷ ws) seen x i hw hs e t = elim (or_cases (same_cell w.cell x) (touch tiny (accesses_of ws seen) x) t) [
  | inl c ↦ hw.0 (ap file_of (same_is w.cell x c) ∙ e)
  | inr r ↦ touched_file F ws seen x i hw.1 hs e r
]

-- Entries after a new one, and after one less.

same_some : {A : Type 0} (x y : A) → Some x ≡ Some y → x ≡ y
same_some x y e = cc

dir_is : (i j : ℕ) → DirNode i ≡ DirNode j → i ≡ j
dir_is i j e = cc

file_is : (i j : ℕ) → FileNode i ≡ FileNode j → i ≡ j
file_is i j e = cc

dir_file : (i j : ℕ) → DirNode i ≡ FileNode j → ⊥
dir_file i j e = cc

module _ (s : Store) (d n : ℕ) where
  new_entry : (y : Node) (e m : ℕ) (x : Node) → write s (Entry d n) (Some y) (Entry e m) ≡ Some x → ((d ≡ e) × (n ≡ m) × (x ≡ y)) ⊎ (s (Entry e m) ≡ Some x)
  new_entry y e m x h = by_test (same_cell (Entry d n) (Entry e m))
      (λ k. let p = and_parts (d == e) (n == m) k in inl (eqb-true d e p.0, eqb-true n m p.1, same_some x y (sym h ∙ ap (λ b. cond b (Some y) (s (Entry e m))) k)))
      (λ k. inr (sym (ap (λ b. cond b (Some y) (s (Entry e m))) k) ∙ h))

  less_entry : (e m : ℕ) (x : Node) → write s (Entry d n) None (Entry e m) ≡ Some x → (s (Entry e m) ≡ Some x) × (((d ≡ e) × (n ≡ m)) → ⊥)
  less_entry e m x h = by_test (same_cell (Entry d n) (Entry e m))
      (λ k. absurd (none_some x (sym (ap (λ b. cond b None (s (Entry e m))) k) ∙ h)))
      (λ k. (sym (ap (λ b. cond b None (s (Entry e m))) k) ∙ h, λ p. absurd (false≢true (sym k ∙ and_from (d == e) (n == m) (eq-eqb d e p.0) (eq-eqb n m p.1)))))

  -- an entry by another name stays
  other_entry : (v : Option Node) (e m : ℕ) → (((d ≡ e) × (n ≡ m)) → ⊥) → write s (Entry d n) v (Entry e m) ≡ s (Entry e m)
  other_entry v e m ne = cell_kept s (Entry d n) v (Entry e m)
      (by_test (same_cell (Entry d n) (Entry e m)) (λ k. let p = and_parts (d == e) (n == m) k in absurd (ne (eqb-true d e p.0, eqb-true n m p.1))) (λ k. k))

  -- the file's entry stays where what is written had none or led elsewhere
  still_entry : (v : Option Node) (i : ℕ) → (s (Entry d n) ≡ Some (FileNode i) → ⊥) → HasEntry s i → HasEntry (write s (Entry d n) v) i
  still_entry v i ne has =
      let place : ((d ≡ has.0) × (n ≡ has.1)) → ⊥ = λ p. ne (ap₂ (λ a b. s (Entry a b)) p.0 p.1 ∙ has.2) in
      (has.0, has.1, other_entry v has.0 has.1 place ∙ has.2)

at_own : {A : Type 0} (k i : ℕ) (v w : A) → k ≡ i → cond (k == i) v w ≡ v
at_own k i v w e = ap (λ b. cond b v w) (eq-eqb k i e)

at_other : {A : Type 0} (k i : ℕ) (v w : A) → (k ≡ i → ⊥) → cond (k == i) v w ≡ w
at_other k i v w ne = ap (λ b. cond b v w) (ne_eqb k i ne)

-- What is true of each outcome of a call with the stamp k: the store after it, and the files that
-- it comes upon.

-- the file is the call's own, or an entry that was looked at names it
abbrev Found : Store → ℕ → List Place → ℕ → Type 0
Found s k seen i = (k ≡ i) ⊎ ((d : ℕ) × (n : ℕ) × In (One (Entry d n)) seen × (s (Entry d n) ≡ Some (FileNode i)))

-- a cell of the file is written, or its name in an entry
abbrev Held : Store → List (Write Cell Shows) → ℕ → Type 0
Held s ws i = ((x : Cell) × (file_of x ≡ Some i) × (is_written tiny ws x ≡ true)) ⊎ ((y : Cell) × (is_written tiny ws y ≡ true) × (names y (write_all tiny s ws y) i ≡ true))

record Fine (s : Store) (k : ℕ) (o : Outcome) (seen : List Place) : Type 0 where
  sound : IsSound (write_all tiny s o.writes)
  ready : (b : Call) → k ≢ b.stamp → IsReady b s → IsReady b (write_all tiny s o.writes)
  looked : (i : ℕ) → Each (λ p. place_file p ≡ Some i → Found s k seen i) seen
  touched : (i : ℕ) → Each (λ w. file_of w.cell ≡ Some i → Found s k seen i) o.writes
  named : (i : ℕ) → Each (λ w. names w.cell w.value i ≡ true → Found s k seen i) o.writes
  lost : (i : ℕ) → Each (λ w. names w.cell (s w.cell) i ≡ true → Held s o.writes i) o.writes

abbrev FineEnds : Store → ℕ → List Place → Steps → Type 0
FineEnds s k seen t = Ends Place Shown Outcome (view s) (Fine s k) seen t

-- the places of a walk are no file's
abbrev Plain : List Place → Type 0
Plain = Each (λ p. place_file p ≡ None)

plain_any : (F : ℕ → Type 0) (i : ℕ) (seen : List Place) → Plain seen → Each (λ p. place_file p ≡ Some i → F i) seen
plain_any F i seen h = Each-map (λ p. place_file p ≡ None) (λ p. place_file p ≡ Some i → F i) (λ p e k. absurd (none_some i (sym e ∙ k))) seen h

module _ (s : Store) (k : ℕ) (so : IsSound s) where
  only_replies : (r : Reply) (seen : List Place) → ((i : ℕ) → Each (λ p. place_file p ≡ Some i → Found s k seen i) seen) → FineEnds s k seen (replies r)
  only_replies r seen looked = record { sound = so; ready = λ b ne re. re; looked = looked; touched = λ i. tt; named = λ i. tt; lost = λ i. tt }

  -- a reply after an entry was looked at, behind a walk
  refuses : (r : Reply) (d n : ℕ) (seen : List Place) → Plain seen → FineEnds s k (One (Entry d n) ∷ seen) (replies r)
  refuses r d n seen plain = only_replies r (One (Entry d n) ∷ seen) (λ i. plain_any (Found s k (One (Entry d n) ∷ seen)) i (One (Entry d n) ∷ seen) (refl, plain))

  inside_ends : (p : Option ℕ) (go : ℕ → Steps) → ((d : ℕ) (seen : List Place) → IsThere s d → Plain seen → FineEnds s k seen (go d)) → FineEnds s k [] (inside p go)
  inside_ends None go f = f 1 [] (inl refl) tt
  inside_ends (Some q) go f = enters
    where
      enters : (v : Option Node) → s (Entry 1 q) ≡ v → FineEnds s k (One (Entry 1 q) ∷ []) (enter go v)
      enters None e = refuses Reply.NoEntry 1 q [] tt
      enters (Some (FileNode i)) e = refuses Reply.NotDirectory 1 q [] tt
      enters (Some (DirNode d)) e = f d (One (Entry 1 q) ∷ []) (inr (ap is_some (so.dir_there 1 q d e))) (refl, tt)

  -- mkdir
  module _ (d n : ℕ) (there : IsThere s d) (none : s (Entry d n) ≡ None) where
    there_after : (e : ℕ) → IsThere s e → (e ≡ 1) ⊎ (is_some (cond (k == e) (Some d) (s (Parent e))) ≡ true)
    there_after e (inl r) = inl r
    there_after e (inr r) = inr (by_number k e (λ is. ap is_some (at_own k e (Some d) (s (Parent e)) is)) (λ ne. ap is_some (at_other k e (Some d) (s (Parent e)) ne) ∙ r))

    mkdir_sound : (w : What) → IsReady (record { stamp = k; what = w }) s → n < 3 → IsSound (write (write s (Entry d n) (Some (DirNode k))) (Parent k) (Some d))
    mkdir_sound w re short = record {
      in_dir = λ e m x h. elim (new_entry s d n (DirNode k) e m x h) [ inl p ↦ there_after e (subst (IsThere s) p.0 there) | inr o ↦ there_after e (so.in_dir e m x o) ];
      small = λ e m x h. elim (new_entry s d n (DirNode k) e m x h) [ inl p ↦ subst (λ z. z < 3) p.1 short | inr o ↦ so.small e m x o ];
      dir_there = λ e m i h. elim (new_entry s d n (DirNode k) e m (DirNode i) h) [
        | inl p ↦ at_own k i (Some d) (s (Parent i)) (sym (dir_is i k p.2)) ∙ ap Some p.0
        | inr o ↦ at_other k i (Some d) (s (Parent i)) (λ is. re.no_dir e m (o ∙ ap (λ z. Some (DirNode z)) (sym is))) ∙ so.dir_there e m i o
      ];
      file_there = λ e m i h. elim (new_entry s d n (DirNode k) e m (FileNode i) h) [ inl p ↦ absurd (dir_file k i (sym p.2)) | inr o ↦ so.file_there e m i o ];
      one_entry = λ e m f l x h g. elim (new_entry s d n (DirNode k) e m x h) [
        | inl p ↦ elim (new_entry s d n (DirNode k) f l x g) [
          | inl q ↦ (sym p.0 ∙ q.0, sym p.1 ∙ q.1)
          | inr o ↦ absurd (re.no_dir f l (o ∙ ap Some p.2))
        ]
        | inr o ↦ elim (new_entry s d n (DirNode k) f l x g) [ inl q ↦ absurd (re.no_dir e m (o ∙ ap Some q.2)) | inr r ↦ so.one_entry e m f l x o r ]
      ];
      counted = λ i l h. elim (so.counted i l h) [ inl z ↦ inl z | inr has ↦ inr (still_entry s d n (Some (DirNode k)) i (λ e. absurd (none_some (FileNode i) (sym none ∙ e))) has) ];
      with_links = so.with_links;
      no_root = λ e m h. elim (new_entry s d n (DirNode k) e m (DirNode 1) h) [ inl p ↦ (let two = re.from_two in let one = dir_is 1 k p.2 in omega arith) | inr o ↦ so.no_root e m o ];
    }

    mkdir_ready : (b : Call) → k ≢ b.stamp → IsReady b s → IsReady b (write (write s (Entry d n) (Some (DirNode k))) (Parent k) (Some d))
    mkdir_ready b ne re = record {
      from_two = re.from_two;
      names = re.names;
      no_dir = λ e m h. elim (new_entry s d n (DirNode k) e m (DirNode b.stamp) h) [ inl p ↦ ne (sym (dir_is b.stamp k p.2)) | inr o ↦ re.no_dir e m o ];
      no_file = λ e m h. elim (new_entry s d n (DirNode k) e m (FileNode b.stamp) h) [ inl p ↦ dir_file k b.stamp (sym p.2) | inr o ↦ re.no_file e m o ];
      no_parent = at_other k b.stamp (Some d) (s (Parent b.stamp)) ne ∙ re.no_parent;
      no_links = re.no_links;
      no_bytes = re.no_bytes;
    }

    create_sound : (w : What) → IsReady (record { stamp = k; what = w }) s → n < 3 → IsSound (write (write (write s (Entry d n) (Some (FileNode k))) (Links k) (Some 1)) (Bytes k) (Some 0))
    create_sound w re short = record {
      in_dir = λ e m x h. elim (new_entry s d n (FileNode k) e m x h) [ inl p ↦ subst (IsThere s) p.0 there | inr o ↦ so.in_dir e m x o ];
      small = λ e m x h. elim (new_entry s d n (FileNode k) e m x h) [ inl p ↦ subst (λ z. z < 3) p.1 short | inr o ↦ so.small e m x o ];
      dir_there = λ e m i h. elim (new_entry s d n (FileNode k) e m (DirNode i) h) [ inl p ↦ absurd (dir_file i k p.2) | inr o ↦ so.dir_there e m i o ];
      file_there = λ e m i h. elim (new_entry s d n (FileNode k) e m (FileNode i) h) [
        | inl p ↦ at_own k i (Some 1) (s (Links i)) (sym (file_is i k p.2))
        | inr o ↦ at_other k i (Some 1) (s (Links i)) (λ is. re.no_file e m (o ∙ ap (λ z. Some (FileNode z)) (sym is))) ∙ so.file_there e m i o
      ];
      one_entry = λ e m f l x h g. elim (new_entry s d n (FileNode k) e m x h) [
        | inl p ↦ elim (new_entry s d n (FileNode k) f l x g) [
          | inl q ↦ (sym p.0 ∙ q.0, sym p.1 ∙ q.1)
          | inr o ↦ absurd (re.no_file f l (o ∙ ap Some p.2))
        ]
        | inr o ↦ elim (new_entry s d n (FileNode k) f l x g) [ inl q ↦ absurd (re.no_file e m (o ∙ ap Some q.2)) | inr r ↦ so.one_entry e m f l x o r ]
      ];
      counted = λ i l h.
          by_number k i
          (λ is. inr (d, n, cell_written s (Entry d n) (Some (FileNode k)) ∙ ap (λ z. Some (FileNode z)) is))
          (λ ne. elim (so.counted i l (sym (at_other k i (Some 1) (s (Links i)) ne) ∙ h)) [
            | inl z ↦ inl z
            | inr has ↦ inr (still_entry s d n (Some (FileNode k)) i (λ e. absurd (none_some (FileNode i) (sym none ∙ e))) has)
          ]);
      with_links = λ i h.
          by_number k i
          (λ is. absurd (none_some 1 (sym h ∙ at_own k i (Some 1) (s (Links i)) is)))
          (λ ne. at_other k i (Some 0) (s (Bytes i)) ne ∙ so.with_links i (sym (at_other k i (Some 1) (s (Links i)) ne) ∙ h));
      no_root = λ e m h. elim (new_entry s d n (FileNode k) e m (DirNode 1) h) [ inl p ↦ dir_file 1 k p.2 | inr o ↦ so.no_root e m o ];
    }

    create_ready : (b : Call) → k ≢ b.stamp → IsReady b s → IsReady b (write (write (write s (Entry d n) (Some (FileNode k))) (Links k) (Some 1)) (Bytes k) (Some 0))
    create_ready b ne re = record {
      from_two = re.from_two;
      names = re.names;
      no_dir = λ e m h. elim (new_entry s d n (FileNode k) e m (DirNode b.stamp) h) [ inl p ↦ dir_file b.stamp k p.2 | inr o ↦ re.no_dir e m o ];
      no_file = λ e m h. elim (new_entry s d n (FileNode k) e m (FileNode b.stamp) h) [ inl p ↦ ne (sym (file_is b.stamp k p.2)) | inr o ↦ re.no_file e m o ];
      no_parent = re.no_parent;
      no_links = at_other k b.stamp (Some 1) (s (Links b.stamp)) ne ∙ re.no_links;
      no_bytes = at_other k b.stamp (Some 0) (s (Bytes b.stamp)) ne ∙ re.no_bytes;
    }

  mkdir_ends : (w : What) → IsReady (record { stamp = k; what = w }) s → (d n : ℕ) (seen : List Place) → n < 3 → IsThere s d → Plain seen
      → (v : Option Node) → s (Entry d n) ≡ v → FineEnds s k (One (Entry d n) ∷ seen) (mkdir_at k d n v)
  mkdir_ends w re d n seen short there plain (Some x) e = refuses Reply.Exists d n seen plain
  mkdir_ends w re d n seen short there plain None e = record {
    sound = mkdir_sound d n there e w re short;
    ready = mkdir_ready d n there e;
    looked = λ i. plain_any (Found s k (One (Entry d n) ∷ seen)) i (One (Entry d n) ∷ seen) (refl, plain);
    touched = λ i. ((λ h. absurd (none_some i h)), ((λ h. absurd (none_some i h)), tt));
    named = λ i. ((λ h. absurd (false≢true h)), ((λ h. absurd (false≢true h)), tt));
    lost = λ i. ((λ h. absurd (false≢true (sym (ap (is_file i) e) ∙ h))), ((λ h. absurd (false≢true h)), tt));
  }

  create_ends : (w : What) → IsReady (record { stamp = k; what = w }) s → (d n : ℕ) (seen : List Place) → n < 3 → IsThere s d → Plain seen
      → (v : Option Node) → s (Entry d n) ≡ v → FineEnds s k (One (Entry d n) ∷ seen) (create_at k d n v)
  create_ends w re d n seen short there plain (Some x) e = refuses Reply.Exists d n seen plain
  create_ends w re d n seen short there plain None e = record {
    sound = create_sound d n there e w re short;
    ready = create_ready d n there e;
    looked = λ i. plain_any (Found s k (One (Entry d n) ∷ seen)) i (One (Entry d n) ∷ seen) (refl, plain);
    touched = λ i. ((λ h. absurd (none_some i h)), ((λ h. inl (same_some k i h)), ((λ h. inl (same_some k i h)), tt)));
    named = λ i. ((λ h. inl (eqb-true k i h)), ((λ h. absurd (false≢true h)), ((λ h. absurd (false≢true h)), tt)));
    lost = λ i. ((λ h. absurd (false≢true (sym (ap (is_file i) e) ∙ h))), ((λ h. absurd (false≢true h)), ((λ h. absurd (false≢true h)), tt)));
  }

  -- rmdir: the directory i, which has no entries
  module _ (d n i : ℕ) (here : s (Entry d n) ≡ Some (DirNode i)) (empty : is_empty s i ≡ true) where
    none_of : (a b c : Bool) → not (a || b || c) ≡ true → (a ≡ false) × (b ≡ false) × (c ≡ false)
    none_of true b c h = absurd (false≢true h)
    none_of false true c h = absurd (false≢true h)
    none_of false false true h = absurd (false≢true h)
    none_of false false false h = (refl, refl, refl)

    not_some : (o : Option Node) (x : Node) → is_some o ≡ false → o ≡ Some x → ⊥
    not_some o x f e = false≢true (sym f ∙ ap is_some e)

    nothing : (m : ℕ) (x : Node) → s (Entry i m) ≡ Some x → ⊥
    nothing m x e =
        let all = none_of (is_some (s (Entry i 0))) (is_some (s (Entry i 1))) (is_some (s (Entry i 2))) empty in
        let short : m < 3 = so.small i m x e in
        by_number m 0 (λ z. not_some (s (Entry i 0)) x all.0 (ap (λ v. s (Entry i v)) (sym z) ∙ e))
        (λ a. by_number m 1 (λ z. not_some (s (Entry i 1)) x all.1 (ap (λ v. s (Entry i v)) (sym z) ∙ e))
        (λ b. let two : m ≡ 2 = omega arith in not_some (s (Entry i 2)) x all.2 (ap (λ v. s (Entry i v)) (sym two) ∙ e)))

    rmdir_sound : IsSound (write (write s (Entry d n) None) (Parent i) None)
    rmdir_sound = record {
      in_dir = λ e m x h. let o = less_entry s d n e m x h in elim (so.in_dir e m x o.0) [
        | inl r ↦ inl r
        | inr r ↦ inr (ap is_some (at_other i e None (s (Parent e)) (λ is. nothing m x (ap (λ z. s (Entry z m)) is ∙ o.0))) ∙ r)
      ];
      small = λ e m x h. so.small e m x (less_entry s d n e m x h).0;
      dir_there = λ e m j h. let o = less_entry s d n e m (DirNode j) h in
          at_other i j None (s (Parent j)) (λ is. o.1 (so.one_entry d n e m (DirNode i) here (o.0 ∙ ap (λ z. Some (DirNode z)) (sym is)))) ∙ so.dir_there e m j o.0;
      file_there = λ e m j h. so.file_there e m j (less_entry s d n e m (FileNode j) h).0;
      one_entry = λ e m f l x h g. so.one_entry e m f l x (less_entry s d n e m x h).0 (less_entry s d n f l x g).0;
      counted = λ j l h. elim (so.counted j l h) [ inl z ↦ inl z | inr has ↦ inr (still_entry s d n None j (λ e. dir_file i j (same_some (DirNode i) (FileNode j) (sym here ∙ e))) has) ];
      with_links = so.with_links;
      no_root = λ e m h. so.no_root e m (less_entry s d n e m (DirNode 1) h).0;
    }

    rmdir_ready : (b : Call) → IsReady b s → IsReady b (write (write s (Entry d n) None) (Parent i) None)
    rmdir_ready b re = record {
      from_two = re.from_two;
      names = re.names;
      no_dir = λ e m h. re.no_dir e m (less_entry s d n e m (DirNode b.stamp) h).0;
      no_file = λ e m h. re.no_file e m (less_entry s d n e m (FileNode b.stamp) h).0;
      no_parent = by_number i b.stamp (λ is. at_own i b.stamp None (s (Parent b.stamp)) is) (λ ne. at_other i b.stamp None (s (Parent b.stamp)) ne ∙ re.no_parent);
      no_links = re.no_links;
      no_bytes = re.no_bytes;
    }

  rmdir_ends : (d n : ℕ) (seen : List Place) → Plain seen → (v : Option Node) → s (Entry d n) ≡ v → FineEnds s k (One (Entry d n) ∷ seen) (rmdir_at d n v)
  rmdir_ends d n seen plain None e = refuses Reply.NoEntry d n seen plain
  rmdir_ends d n seen plain (Some (FileNode i)) e = refuses Reply.NotDirectory d n seen plain
  rmdir_ends d n seen plain (Some (DirNode i)) e = empties
    where
      all : List Place
      all = Names i ∷ One (Entry d n) ∷ seen

      looks : (j : ℕ) → Each (λ p. place_file p ≡ Some j → Found s k (Names i ∷ One (Entry d n) ∷ seen) j) (Names i ∷ One (Entry d n) ∷ seen)
      looks j = plain_any (Found s k (Names i ∷ One (Entry d n) ∷ seen)) j (Names i ∷ One (Entry d n) ∷ seen) (refl, (refl, plain))

      empties : (b : Bool) → is_empty s i ≡ b → FineEnds s k (Names i ∷ One (Entry d n) ∷ seen) (rmdir_if d n i b)
      empties false em = only_replies Reply.NotEmpty (Names i ∷ One (Entry d n) ∷ seen) looks
      empties true em = record {
        sound = rmdir_sound d n i e em;
        ready = λ b ne re. rmdir_ready d n i e em b re;
        looked = looks;
        touched = λ j. ((λ h. absurd (none_some j h)), ((λ h. absurd (none_some j h)), tt));
        named = λ j. ((λ h. absurd (false≢true h)), ((λ h. absurd (false≢true h)), tt));
        lost = λ j. ((λ h. absurd (false≢true (sym (ap (is_file j) e) ∙ h))), ((λ h. absurd (false≢true h)), tt));
      }

  -- The file i, named by the entry that was looked at last but for other places.
  found_here : (d n i j : ℕ) (seen : List Place) → In (One (Entry d n)) seen → s (Entry d n) ≡ Some (FileNode i) → i ≡ j → Found s k seen j
  found_here d n i j seen at e is = inr (d, n, at, e ∙ ap (λ z. Some (FileNode z)) is)

  names_here : (d n i j : ℕ) → s (Entry d n) ≡ Some (FileNode i) → is_file j (s (Entry d n)) ≡ true → i ≡ j
  names_here d n i j e h = eqb-true i j (sym (ap (is_file j) e) ∙ h)

  -- unlink
  unlink_ends : (d n : ℕ) (seen : List Place) → Plain seen → (v : Option Node) → s (Entry d n) ≡ v → FineEnds s k (One (Entry d n) ∷ seen) (unlink_at d n v)
  unlink_ends d n seen plain None e = refuses Reply.NoEntry d n seen plain
  unlink_ends d n seen plain (Some (DirNode i)) e = refuses Reply.IsDirectory d n seen plain
  unlink_ends d n seen plain (Some (FileNode i)) e = record {
    sound = record {
      in_dir = λ f m x h. so.in_dir f m x (less_entry s d n f m x h).0;
      small = λ f m x h. so.small f m x (less_entry s d n f m x h).0;
      dir_there = λ f m j h. so.dir_there f m j (less_entry s d n f m (DirNode j) h).0;
      file_there = λ f m j h. let o = less_entry s d n f m (FileNode j) h in
          at_other i j (Some 0) (s (Links j)) (λ is. o.1 (so.one_entry d n f m (FileNode i) e (o.0 ∙ ap (λ z. Some (FileNode z)) (sym is)))) ∙ so.file_there f m j o.0;
      one_entry = λ f m g l x h q. so.one_entry f m g l x (less_entry s d n f m x h).0 (less_entry s d n g l x q).0;
      counted = λ j l h.
          by_number i j
          (λ is. inl (sym (same_some 0 l (sym (at_own i j (Some 0) (s (Links j)) is) ∙ h))))
          (λ ne. elim (so.counted j l (sym (at_other i j (Some 0) (s (Links j)) ne) ∙ h)) [
            | inl z ↦ inl z
            | inr has ↦ inr (still_entry s d n None j (λ f. ne (file_is i j (same_some (FileNode i) (FileNode j) (sym e ∙ f)))) has)
          ]);
      with_links = λ j h.
          by_number i j (λ is. absurd (none_some 0 (sym h ∙ at_own i j (Some 0) (s (Links j)) is))) (λ ne. so.with_links j (sym (at_other i j (Some 0) (s (Links j)) ne) ∙ h));
      no_root = λ f m h. so.no_root f m (less_entry s d n f m (DirNode 1) h).0;
    };
    ready = λ b ne re. record {
      from_two = re.from_two;
      names = re.names;
      no_dir = λ f m h. re.no_dir f m (less_entry s d n f m (DirNode b.stamp) h).0;
      no_file = λ f m h. re.no_file f m (less_entry s d n f m (FileNode b.stamp) h).0;
      no_parent = re.no_parent;
      no_links = at_other i b.stamp (Some 0) (s (Links b.stamp)) (λ is. re.no_file d n (e ∙ ap (λ z. Some (FileNode z)) is)) ∙ re.no_links;
      no_bytes = re.no_bytes;
    };
    looked = λ j. plain_any (Found s k (One (Entry d n) ∷ seen)) j (One (Entry d n) ∷ seen) (refl, plain);
    touched = λ j. ((λ h. absurd (none_some j h)), ((λ h. found_here d n i j (One (Entry d n) ∷ seen) (inl refl) e (same_some i j h)), tt));
    named = λ j. ((λ h. absurd (false≢true h)), ((λ h. absurd (false≢true h)), tt));
    lost = λ j. (
      (λ h. inl (Links i, ap Some (names_here d n i j e h), or_left (same_cell (Links i) (Links i)) false (same_refl (Links i)))),
      ((λ h. absurd (false≢true h)), tt),
    );
  }

  -- rename, which leaves the file's name in the other entry
  module _ (d n m i : ℕ) (here : s (Entry d n) ≡ Some (FileNode i)) (none : s (Entry d m) ≡ None) where
    abbrev less : Store
    less = write s (Entry d n) None

    moved : (e l : ℕ) (x : Node) → write less (Entry d m) (Some (FileNode i)) (Entry e l) ≡ Some x → ((d ≡ e) × (m ≡ l) × (x ≡ FileNode i)) ⊎ ((s (Entry e l) ≡ Some x) × (((d ≡ e) × (n ≡ l)) → ⊥))
    moved e l x h = elim (new_entry less d m (FileNode i) e l x h) [ inl p ↦ inl p | inr o ↦ inr (less_entry s d n e l x o) ]

    -- no other entry leads to the file
    only_here : (e l : ℕ) (x : Node) → (s (Entry e l) ≡ Some x) × (((d ≡ e) × (n ≡ l)) → ⊥) → x ≡ FileNode i → ⊥
    only_here e l x o is = o.1 (so.one_entry d n e l (FileNode i) here (o.0 ∙ ap Some is))

    rename_sound : m < 3 → IsSound (write less (Entry d m) (Some (FileNode i)))
    rename_sound short = record {
      in_dir = λ e l x h. elim (moved e l x h) [ inl p ↦ subst (IsThere s) p.0 (so.in_dir d n (FileNode i) here) | inr o ↦ so.in_dir e l x o.0 ];
      small = λ e l x h. elim (moved e l x h) [ inl p ↦ subst (λ z. z < 3) p.1 short | inr o ↦ so.small e l x o.0 ];
      dir_there = λ e l j h. elim (moved e l (DirNode j) h) [ inl p ↦ absurd (dir_file j i p.2) | inr o ↦ so.dir_there e l j o.0 ];
      file_there = λ e l j h. elim (moved e l (FileNode j) h) [ inl p ↦ so.file_there d n j (here ∙ ap Some (sym p.2)) | inr o ↦ so.file_there e l j o.0 ];
      one_entry = λ e l f g x h q. elim (moved e l x h) [
        | inl p ↦ elim (moved f g x q) [ inl r ↦ (sym p.0 ∙ r.0, sym p.1 ∙ r.1) | inr o ↦ absurd (only_here f g x o p.2) ]
        | inr o ↦ elim (moved f g x q) [ inl r ↦ absurd (only_here e l x o r.2) | inr r ↦ so.one_entry e l f g x o.0 r.0 ]
      ];
      counted = λ j l h. elim (so.counted j l h) [
        | inl z ↦ inl z
        | inr has ↦ inr (by_number i j
            (λ is. (d, m, cell_written less (Entry d m) (Some (FileNode i)) ∙ ap (λ z. Some (FileNode z)) is))
            (λ ne. still_entry less d m (Some (FileNode i)) j (λ e. none_some (FileNode j) (sym none ∙ (less_entry s d n d m (FileNode j) e).0))
            (still_entry s d n None j (λ e. ne (file_is i j (same_some (FileNode i) (FileNode j) (sym here ∙ e)))) has)))
      ];
      with_links = so.with_links;
      no_root = λ e l h. elim (moved e l (DirNode 1) h) [ inl p ↦ dir_file 1 i p.2 | inr o ↦ so.no_root e l o.0 ];
    }

    rename_ready : (b : Call) → IsReady b s → IsReady b (write less (Entry d m) (Some (FileNode i)))
    rename_ready b re = record {
      from_two = re.from_two;
      names = re.names;
      no_dir = λ e l h. elim (moved e l (DirNode b.stamp) h) [ inl p ↦ dir_file b.stamp i p.2 | inr o ↦ re.no_dir e l o.0 ];
      no_file = λ e l h. elim (moved e l (FileNode b.stamp) h) [ inl p ↦ re.no_file d n (here ∙ ap Some (sym p.2)) | inr o ↦ re.no_file e l o.0 ];
      no_parent = re.no_parent;
      no_links = re.no_links;
      no_bytes = re.no_bytes;
    }

  rename_ends : (d n m : ℕ) (seen : List Place) → m < 3 → Plain seen → (v : Option Node) → s (Entry d n) ≡ v → FineEnds s k (One (Entry d n) ∷ seen) (rename_at d n m v)
  rename_ends d n m seen short plain None e = refuses Reply.NoEntry d n seen plain
  rename_ends d n m seen short plain (Some (DirNode i)) e = refuses Reply.IsDirectory d n seen plain
  rename_ends d n m seen short plain (Some (FileNode i)) e = to
    where
      to : (v : Option Node) → s (Entry d m) ≡ v → FineEnds s k (One (Entry d m) ∷ One (Entry d n) ∷ seen) (rename_to d n m i v)
      to (Some x) f = refuses Reply.Exists d m (One (Entry d n) ∷ seen) (refl, plain)
      to None f = record {
        sound = rename_sound d n m i e f short;
        ready = λ b ne re. rename_ready d n m i e f b re;
        looked = λ j. plain_any (Found s k (One (Entry d m) ∷ One (Entry d n) ∷ seen)) j (One (Entry d m) ∷ One (Entry d n) ∷ seen) (refl, (refl, plain));
        touched = λ j. ((λ h. absurd (none_some j h)), ((λ h. absurd (none_some j h)), tt));
        named = λ j. ((λ h. absurd (false≢true h)), ((λ h. found_here d n i j (One (Entry d m) ∷ One (Entry d n) ∷ seen) (inr (inl refl)) e (eqb-true i j h)), tt));
        lost = λ j. (
          (λ h. inr (
            Entry d m,
            or_right (same_cell (Entry d n) (Entry d m)) (same_cell (Entry d m) (Entry d m) || false) (or_left (same_cell (Entry d m) (Entry d m)) false (same_refl (Entry d m))),
            ap (is_file j) (cell_written (write s (Entry d n) None) (Entry d m) (Some (FileNode i))) ∙ eq-eqb i j (names_here d n i j e h),
          )),
          ((λ h. absurd (false≢true (sym (ap (is_file j) f) ∙ h))), tt),
        );
      }

  fill_ends : (d n c : ℕ) (seen : List Place) → Plain seen → (v : Option Node) → s (Entry d n) ≡ v → FineEnds s k (One (Entry d n) ∷ seen) (fill_at c v)
  fill_ends d n c seen plain None e = refuses Reply.NoEntry d n seen plain
  fill_ends d n c seen plain (Some (DirNode i)) e = refuses Reply.IsDirectory d n seen plain
  fill_ends d n c seen plain (Some (FileNode i)) e = record {
    sound = record {
      in_dir = so.in_dir;
      small = so.small;
      dir_there = so.dir_there;
      file_there = so.file_there;
      one_entry = so.one_entry;
      counted = so.counted;
      no_root = so.no_root;
      with_links = λ j h. by_number i j
          (λ is. absurd (none_some 1 (sym h ∙ so.file_there d n j (e ∙ ap (λ z. Some (FileNode z)) is))))
          (λ ne. at_other i j (Some c) (s (Bytes j)) ne ∙ so.with_links j h);
    };
    ready = λ b ne re. record {
      from_two = re.from_two;
      names = re.names;
      no_dir = re.no_dir;
      no_file = re.no_file;
      no_parent = re.no_parent;
      no_links = re.no_links;
      no_bytes = at_other i b.stamp (Some c) (s (Bytes b.stamp)) (λ is. re.no_file d n (e ∙ ap (λ z. Some (FileNode z)) is)) ∙ re.no_bytes;
    };
    looked = λ j. plain_any (Found s k (One (Entry d n) ∷ seen)) j (One (Entry d n) ∷ seen) (refl, plain);
    touched = λ j. ((λ h. found_here d n i j (One (Entry d n) ∷ seen) (inl refl) e (same_some i j h)), tt);
    named = λ j. ((λ h. absurd (false≢true h)), tt);
    lost = λ j. ((λ h. absurd (false≢true h)), tt);
  }

  stat_ends : (d n : ℕ) (seen : List Place) → Plain seen → (v : Option Node) → s (Entry d n) ≡ v → FineEnds s k (One (Entry d n) ∷ seen) (stat_at v)
  stat_ends d n seen plain None e = refuses Reply.NoEntry d n seen plain
  stat_ends d n seen plain (Some (DirNode i)) e = refuses (Reply.DirectoryInfo i) d n seen plain
  stat_ends d n seen plain (Some (FileNode i)) e = λ l el b eb.
      let all = One (Bytes i) ∷ One (Links i) ∷ One (Entry d n) ∷ seen in
      only_replies (Reply.FileInfo i l b) all (λ j. (
        (λ h. found_here d n i j all (inr (inr (inl refl))) e (same_some i j h)),
        (
          (λ h. found_here d n i j all (inr (inr (inl refl))) e (same_some i j h)),
          plain_any (Found s k all) j (One (Entry d n) ∷ seen) (refl, plain),
        ),
      ))

  all_end : (w : What) → IsReady (record { stamp = k; what = w }) s → FineEnds s k [] (steps k w)
  all_end (Mkdir p n) re = inside_ends p (λ d. Look (One (Entry d n)) (mkdir_at k d n)) (λ d seen there plain. mkdir_ends (Mkdir p n) re d n seen re.names there plain)
  all_end (Rmdir p n) re = inside_ends p (λ d. Look (One (Entry d n)) (rmdir_at d n)) (λ d seen there plain. rmdir_ends d n seen plain)
  all_end (Create p n) re = inside_ends p (λ d. Look (One (Entry d n)) (create_at k d n)) (λ d seen there plain. create_ends (Create p n) re d n seen re.names there plain)
  all_end (Unlink p n) re = inside_ends p (λ d. Look (One (Entry d n)) (unlink_at d n)) (λ d seen there plain. unlink_ends d n seen plain)
  all_end (Rename p n m) re = inside_ends p (λ d. Look (One (Entry d n)) (rename_at d n m)) (λ d seen there plain. rename_ends d n m seen re.names plain)
  all_end (Fill p n c) re = inside_ends p (λ d. Look (One (Entry d n)) (fill_at c)) (λ d seen there plain. fill_ends d n c seen plain)
  all_end (Stat p n) re = inside_ends p (λ d. Look (One (Entry d n)) stat_at) (λ d seen there plain. stat_ends d n seen plain)

-- The way that a call goes.
abbrev gone_way : Store → Call → List Place
gone_way s a = (follow Place Shown Outcome (steps a.stamp a.what) (view s) []).seen

abbrev outcome : Store → Call → Outcome
outcome s a = (follow Place Shown Outcome (steps a.stamp a.what) (view s) []).answer

fine : (s : Store) (a : Call) → IsSound s → IsReady a s → Fine s a.stamp (outcome s a) (gone_way s a)
fine s a so re = ends Place Shown Outcome (view s) (Fine s a.stamp) (steps a.stamp a.what) [] (all_end s a.stamp so a.what re)

local : (s t : Store) (a : Call) → ((x : Cell) → touch tiny (does s a).accesses x ≡ true → s x ≡ t x) → does t a ≡ does s a
local s t a same =
    ap (λ end. record { accesses = accesses_of end.answer.writes end.seen; writes = end.answer.writes; reply = end.answer.reply })
    (follow_alike Place Shown Outcome (view s) (view t) (steps a.stamp a.what) []
    (λ p i. view_alike s t p (λ x c. same x (touches_seen (outcome s a).writes (gone_way s a) p x i c))))

knows : (s : Store) (a : Call) (i : ℕ) → Found s a.stamp (gone_way s a) i → Knows tiny_calls s a i
knows s a i (inl e) = inl e
knows s a i (inr f) = inr (Entry f.0 f.1, touches_seen (outcome s a).writes (gone_way s a) (One (Entry f.0 f.1)) (Entry f.0 f.1) f.2 (same_refl (Entry f.0 f.1)), ap (is_file i) f.3 ∙ eq-eqb i i refl)

nameless : (x : Cell) (v : Shows x) (i j : ℕ) → file_of x ≡ Some i → names x v j ≡ false
nameless (Entry d n) v i j e = absurd (none_some i e)
nameless (Parent d) v i j e = refl
nameless (Links d) v i j e = refl
nameless (Bytes d) v i j e = refl

own_blank : (s : Store) (a : Call) → IsReady a s → (x : Cell) → file_of x ≡ Some a.stamp → s x ≡ blank x
own_blank s a re (Entry d n) e = absurd (none_some a.stamp e)
own_blank s a re (Parent d) e = absurd (none_some a.stamp e)
own_blank s a re (Links i) e = ap (λ z. s (Links z)) (same_some i a.stamp e) ∙ re.no_links ∙ refl
own_blank s a re (Bytes i) e = ap (λ z. s (Bytes z)) (same_some i a.stamp e) ∙ re.no_bytes

lets_go : (s : Store) (a : Call) → IsSound s → IsReady a s → (x : Cell) (i : ℕ) → names x (s x) i ≡ true → names x (write_all tiny s (does s a).writes x) i ≡ false
    → TouchesFile tiny_calls (does s a).accesses i ⊎ LeavesName tiny_calls s a i
lets_go s a so re x i had lost =
    let ws = (outcome s a).writes in
    by_test (is_written tiny ws x)
    (λ w. elim (written_all tiny sets (λ y v. names y (s y) i ≡ true → Held s ws i) ws s x ((fine s a so re).lost i) w had) [
      | inl t ↦ inl (t.0, t.1, touches_written ws (gone_way s a) t.0 t.2)
      | inr l ↦ inr (l.0, changes_written ws (gone_way s a) l.0 ∙ l.1, l.2)
    ])
    (λ w. absurd (false≢true (sym lost ∙ ap (λ v. names x v i) (write_kept tiny sets ws s x w) ∙ had)))

module _ (hidden : ℕ → Bool) (r s : Store) (hides : Hides tiny_calls hidden r s) where
  entry_same : (d n : ℕ) → r (Entry d n) ≡ s (Entry d n)
  entry_same d n = hides.others (Entry d n) refl

  -- a hidden cell is blank, and each other is the same
  still_blank : (x : Cell) → r x ≡ blank x → s x ≡ blank x
  still_blank x e = by_test (is_hidden tiny_calls hidden x) (λ k. hides.gone x k) (λ k. sym (hides.others x k) ∙ e)

  hides_sound : IsSound r → IsSound s
  hides_sound so = record {
    in_dir = λ d n x h. elim (so.in_dir d n x (entry_same d n ∙ h)) [ inl e ↦ inl e | inr e ↦ inr (ap is_some (sym (hides.others (Parent d) refl)) ∙ e) ];
    small = λ d n x h. so.small d n x (entry_same d n ∙ h);
    dir_there = λ d n i h. sym (hides.others (Parent i) refl) ∙ so.dir_there d n i (entry_same d n ∙ h);
    file_there = λ d n i h.
        let seen : hidden i ≡ false = by_test (hidden i) (λ k. absurd (false≢true (sym (hides.unnamed (Entry d n) i k) ∙ ap (is_file i) h ∙ eq-eqb i i refl))) (λ no. no) in
        sym (hides.others (Links i) seen) ∙ so.file_there d n i (entry_same d n ∙ h);
    one_entry = λ d n e m x h g. so.one_entry d n e m x (entry_same d n ∙ h) (entry_same e m ∙ g);
    counted = λ i l h.
        by_test (hidden i)
        (λ k. absurd (none_some l (sym (hides.gone (Links i) k) ∙ h)))
        (λ k. elim (so.counted i l (hides.others (Links i) k ∙ h)) [ inl z ↦ inl z | inr has ↦ inr (has.0, has.1, sym (entry_same has.0 has.1) ∙ has.2) ]);
    with_links = λ i h. by_test (hidden i) (λ k. hides.gone (Bytes i) k) (λ k. sym (hides.others (Bytes i) k) ∙ so.with_links i (hides.others (Links i) k ∙ h));
    no_root = λ d n h. so.no_root d n (entry_same d n ∙ h);
  }

  hides_ready : (a : Call) → IsReady a r → IsReady a s
  hides_ready a re = record {
    from_two = re.from_two;
    names = re.names;
    no_dir = λ d n h. re.no_dir d n (entry_same d n ∙ h);
    no_file = λ d n h. re.no_file d n (entry_same d n ∙ h);
    no_parent = still_blank (Parent a.stamp) re.no_parent;
    no_links = still_blank (Links a.stamp) re.no_links;
    no_bytes = still_blank (Bytes a.stamp) re.no_bytes;
  }

tiny_laws : EffectLaws tiny (λ s t. Unit {0})
tiny_laws = record {
  sets = sets;
  overlaps = overlaps;
  overlap_sym = overlap_sym;
  told = λ s a x. changes_written (outcome s a).writes (gone_way s a) x;
  local = λ s t a gs gt rs rt akin same. local s t a same;
  stays_sound = λ s a so re. (fine s a so re).sound;
  stays_ready = λ s a b so ra rb ne. (fine s a so ra).ready b ne rb;
  nameless = nameless;
  own_blank = λ s a so re. own_blank s a re;
  comes_upon = λ s a so re x i e touched.
      let f = fine s a so re in
      knows s a i (touched_file (Found s a.stamp (gone_way s a) i) (outcome s a).writes (gone_way s a) x i (f.touched i) (f.looked i) e touched);
  names_known = λ s a so re x i changed named.
      let f = fine s a so re in
      let ws = (outcome s a).writes in
      knows s a i (written_all tiny sets (λ y v. names y v i ≡ true → Found s a.stamp (gone_way s a) i) ws s x (f.named i) (sym (changes_written ws (gone_way s a) x) ∙ changed) named);
  lets_go = lets_go;
  hides_sound = hides_sound;
  hides_ready = λ hidden r s a hides re. hides_ready hidden r s hides a re;
}

pub tiny_lawful : Lawful tiny_calls
tiny_lawful = effects_lawful tiny (λ s t. Unit {0}) tiny_laws

-- Runs can start: the empty tree is sound, and each call whose names are small may be made there.
pub empty_sound : IsSound empty
empty_sound = record {
  in_dir = λ d n x h. absurd (none_some x h);
  small = λ d n x h. absurd (none_some x h);
  dir_there = λ d n i h. absurd (none_some (DirNode i) h);
  file_there = λ d n i h. absurd (none_some (FileNode i) h);
  one_entry = λ d n e m x h g. absurd (none_some x h);
  counted = λ i l h. absurd (none_some l h);
  with_links = λ i h. refl;
  no_root = λ d n h. none_some (DirNode 1) h;
}

pub empty_ready : (k : ℕ) (w : What) → 1 < k → HasSmallNames w → IsReady (record { stamp = k; what = w }) empty
empty_ready k w two short = record {
  from_two = two;
  names = short;
  no_dir = λ d n h. none_some (DirNode k) h;
  no_file = λ d n h. none_some (FileNode k) h;
  no_parent = refl;
  no_links = refl;
  no_bytes = refl;
}

-- The tiny tree can be tidied.
zero_some : (o : Option ℕ) → is_zero o ≡ true → o ≡ Some 0
zero_some None h = absurd (false≢true h)
zero_some (Some l) h = ap Some (eqb-true l 0 h)

pub tiny_tidying : IsTidying tiny_calls tidy is_dead
tiny_tidying = record {
  hides = λ s so. record { others = others s; gone = gone s; unnamed = unnamed s so };
  stored = λ s i so h. (Links i, refl, λ e. absurd (none_some 0 (sym e ∙ zero_some (s (Links i)) h)));
  others = λ s i so h. by_option (s (Links i))
      (λ none. inl (blank_all s i none (so.with_links i none)))
      (λ l some. elim (so.counted i l some) [
        | inl z ↦ absurd (false≢true (sym h ∙ ap is_zero (some ∙ ap Some z)))
        | inr has ↦ inr (Entry has.0 has.1, ap (is_file i) has.2 ∙ eq-eqb i i refl)
      ]);
}
  where
    others : (s : Store) (x : Cell) → is_hidden tiny_calls (is_dead s) x ≡ false → s x ≡ tidy s x
    others s (Entry d n) k = refl
    others s (Parent d) k = refl
    others s (Links i) k = sym (ap (λ b. cond b None (s (Links i))) k)
    others s (Bytes i) k = sym (ap (λ b. cond b None (s (Bytes i))) k)

    gone : (s : Store) (x : Cell) → is_hidden tiny_calls (is_dead s) x ≡ true → tidy s x ≡ blank x
    gone s (Entry d n) k = absurd (false≢true k)
    gone s (Parent d) k = absurd (false≢true k)
    gone s (Links i) k = ap (λ b. cond b None (s (Links i))) k
    gone s (Bytes i) k = ap (λ b. cond b None (s (Bytes i))) k

    one_none : (o : Option ℕ) → o ≡ Some 1 → o ≡ Some 0 → ⊥
    one_none o e f = let same : ◌≡◌ {A = ℕ} 1 0 = same_some 1 0 (sym e ∙ f) in omega arith

    unnamed : (s : Store) → IsSound s → (x : Cell) (i : ℕ) → is_dead s i ≡ true → names x (tidy s x) i ≡ false
    unnamed s so (Entry d n) i k = by_test (is_file i (s (Entry d n)))
        (λ h. absurd (one_none (s (Links i)) (so.file_there d n i (leads (s (Entry d n)) h)) (zero_some (s (Links i)) k)))
        (λ h. h)
      where
        leads : (v : Option Node) → is_file i v ≡ true → v ≡ Some (FileNode i)
        leads None h = absurd (false≢true h)
        leads (Some (DirNode j)) h = absurd (false≢true h)
        leads (Some (FileNode j)) h = ap (λ z. Some (FileNode z)) (eqb-true j i h)
    unnamed s so (Parent d) i k = refl
    unnamed s so (Links j) i k = refl
    unnamed s so (Bytes j) i k = refl

    blank_all : (s : Store) (i : ℕ) → s (Links i) ≡ None → s (Bytes i) ≡ None → (x : Cell) → file_of x ≡ Some i → s x ≡ blank x
    blank_all s i l b (Entry d n) e = absurd (none_some i e)
    blank_all s i l b (Parent d) e = absurd (none_some i e)
    blank_all s i l b (Links j) e = ap (λ z. s (Links z)) (same_some j i e) ∙ l
    blank_all s i l b (Bytes j) e = ap (λ z. s (Bytes z)) (same_some j i e) ∙ b
