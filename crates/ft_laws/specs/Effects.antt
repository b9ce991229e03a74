-- Calls that are given by their effects: what they access, write and reply in a store. The laws of
-- calls follow from fewer laws of these effects. (A rule of this project.)
use Rattle.std.specs.Prelude.{◌≡◌, ◌≢◌, ℕ, Bool, true, false, ◌||◌, ◌&&◌, Option, Some, List, [], ◌∷◌, map, ◌⊎◌}
use Rattle.ft_laws.specs.Lists.{Each, any}
use Rattle.ft_laws.specs.Calls.{Calls}
use Rattle.ft_laws.specs.Laws.{Knows, TouchesFile, LeavesName, Hides}

-- a place, and whether it is written; a place may cover several cells, as the names of a directory
-- cover its entries
pub record Access (Place : Type 0) : Type 0 where
  pub place : Place
  pub writes : Bool

-- a cell and its new value
pub record Write (Cell : Type 0) (Value : Cell → Type 0) : Type 0 where
  pub cell : Cell
  pub value : Value cell

-- undoes writes: the written cells with their values from before and from after
pub record Reversal (Cell : Type 0) (Value : Cell → Type 0) : Type 0 where
  pub before : List (Write Cell Value)
  pub after : List (Write Cell Value)

-- what a call does in a store: what it accesses, what it writes, and what it replies
pub record Effect (Place Cell : Type 0) (Value : Cell → Type 0) (Reply : Type 0) : Type 0 where
  pub accesses : List (Access Place)
  pub writes : List (Write Cell Value)
  pub reply : Reply

-- a store, its cells and its places, and the calls on it by their effects
pub record Effects : Type 1 where
  pub Store : Type 0
  pub Cell : Type 0
  pub Value : Cell → Type 0
  pub Place : Type 0
  pub Call : Type 0
  pub Reply : Type 0
  pub File : Type 0
  pub cell : Store → (x : Cell) → Value x
  -- the store with one cell set
  pub write : Store → (x : Cell) → Value x → Store
  -- the two cells are the same; the place covers the cell; the two places have something in common
  pub same_cell : Cell → Cell → Bool
  pub covers : Place → Cell → Bool
  pub overlap : Place → Place → Bool
  pub stamp : Call → ℕ
  -- what the call does in the store
  pub does : Store → Call → Effect Place Cell Value Reply
  pub IsSound : Store → Type 0
  pub IsReady : Call → Store → Type 0
  pub file_of : Cell → Option File
  pub names : (x : Cell) → Value x → File → Bool
  pub blank : (x : Cell) → Value x
  pub own : Call → File

module _ (E : Effects) where
  -- the cell is among those written
  abbrev pub is_written : List (Write E.Cell E.Value) → E.Cell → Bool
  is_written ws x = any (λ w. E.same_cell w.cell x) ws

  -- the store after the writes, in their order
  abbrev pub write_all : E.Store → List (Write E.Cell E.Value) → E.Store
  write_all s [] = s
  write_all s (w ∷ ws) = write_all (E.write s w.cell w.value) ws

  -- the written cells with their values from before
  abbrev pub before : E.Store → List (Write E.Cell E.Value) → List (Write E.Cell E.Value)
  before s ws = map (λ w. record { cell = w.cell; value = E.cell s w.cell }) ws

  -- the store has these values in these cells
  abbrev pub Has : E.Store → List (Write E.Cell E.Value) → Type 0
  Has s ws = Each (λ w. E.cell s w.cell ≡ w.value) ws

  -- the reversal of the writes, made in s
  abbrev pub reversal_of : E.Store → List (Write E.Cell E.Value) → Reversal E.Cell E.Value
  reversal_of s ws = record { before = before s ws; after = before (write_all s ws) ws }

  -- the accesses cover the cell
  abbrev pub touch : List (Access E.Place) → E.Cell → Bool
  touch f x = any (λ a. E.covers a.place x) f

  -- the accesses that write cover the cell
  abbrev pub change : List (Access E.Place) → E.Cell → Bool
  change f x = any (λ a. a.writes && E.covers a.place x) f

  -- Two accesses conflict if they overlap and one of them writes (Moss 1981, the locking rules).
  abbrev pub conflict : Access E.Place → Access E.Place → Bool
  conflict a b = E.overlap a.place b.place && (a.writes || b.writes)

  -- an access of the first list conflicts with an access of the second
  abbrev pub some_conflict : List (Access E.Place) → List (Access E.Place) → Bool
  some_conflict f g = any (λ a. any (conflict a) g) f

  -- The calls: each written cell is set. The inverse sets the values from before, in a store that
  -- has what the call left.
  abbrev pub calls_of : Calls
  calls_of = record {
    Store = E.Store;
    Cell = E.Cell;
    Value = E.Value;
    Call = E.Call;
    Reply = E.Reply;
    Accesses = List (Access E.Place);
    Inverse = Reversal E.Cell E.Value;
    File = E.File;
    cell = E.cell;
    stamp = E.stamp;
    act = λ s a. write_all s (E.does s a).writes;
    reply = λ s a. (E.does s a).reply;
    accesses = λ s a. (E.does s a).accesses;
    inverse = λ s a. reversal_of s (E.does s a).writes;
    revert = λ s u. write_all s u.before;
    MayRevert = λ s u. Has s u.after;
    touches = touch;
    changes = change;
    conflict = some_conflict;
    IsSound = E.IsSound;
    IsReady = E.IsReady;
    file_of = E.file_of;
    names = E.names;
    blank = E.blank;
    own = E.own;
  }

  -- A write sets its cell and no other.
  pub record SetsCells : Type 0 where
    pub same_is : (x y : E.Cell) → E.same_cell x y ≡ true → x ≡ y
    pub cell_written : (s : E.Store) (x : E.Cell) (v : E.Value x) → E.cell (E.write s x v) x ≡ v
    pub cell_kept : (s : E.Store) (x : E.Cell) (v : E.Value x) (y : E.Cell) → E.same_cell x y ≡ false → E.cell (E.write s x v) y ≡ E.cell s y

  -- The laws left to prove for each kind of call, among stores that are akin.
  pub record EffectLaws (Akin : E.Store → E.Store → Type 0) : Type 0 where
    pub sets : SetsCells
    -- Places that cover a cell in common overlap, and overlapping is symmetric.
    pub overlaps : (p q : E.Place) (x : E.Cell) → E.covers p x ≡ true → E.covers q x ≡ true → E.overlap p q ≡ true
    pub overlap_sym : (p q : E.Place) → E.overlap p q ≡ E.overlap q p
    -- The accesses that write cover exactly the cells that are written.
    pub told : (s : E.Store) (a : E.Call) (x : E.Cell) → change (E.does s a).accesses x ≡ is_written (E.does s a).writes x
    -- The effect depends only on the cells that the call touches.
    pub local : (s t : E.Store) (a : E.Call) → E.IsSound s → E.IsSound t → E.IsReady a s → E.IsReady a t → Akin s t
        → ((x : E.Cell) → touch (E.does s a).accesses x ≡ true → E.cell s x ≡ E.cell t x) → E.does t a ≡ E.does s a
    pub stays_sound : (s : E.Store) (a : E.Call) → E.IsSound s → E.IsReady a s → E.IsSound (write_all s (E.does s a).writes)
    pub stays_ready : (s : E.Store) (a b : E.Call) → E.IsSound s → E.IsReady a s → E.IsReady b s → E.stamp a ≢ E.stamp b → E.IsReady b (write_all s (E.does s a).writes)
    pub nameless : (x : E.Cell) (v : E.Value x) (i j : E.File) → E.file_of x ≡ Some i → E.names x v j ≡ false
    pub own_blank : (s : E.Store) (a : E.Call) → E.IsSound s → E.IsReady a s → (x : E.Cell) → E.file_of x ≡ Some (E.own a) → E.cell s x ≡ E.blank x
    pub comes_upon : (s : E.Store) (a : E.Call) → E.IsSound s → E.IsReady a s → (x : E.Cell) (i : E.File) → E.file_of x ≡ Some i → touch (E.does s a).accesses x ≡ true → Knows calls_of s a i
    pub names_known : (s : E.Store) (a : E.Call) → E.IsSound s → E.IsReady a s → (x : E.Cell) (i : E.File)
        → change (E.does s a).accesses x ≡ true → E.names x (E.cell (write_all s (E.does s a).writes) x) i ≡ true → Knows calls_of s a i
    pub lets_go : (s : E.Store) (a : E.Call) → E.IsSound s → E.IsReady a s → (x : E.Cell) (i : E.File)
        → E.names x (E.cell s x) i ≡ true → E.names x (E.cell (write_all s (E.does s a).writes) x) i ≡ false → TouchesFile calls_of (E.does s a).accesses i ⊎ LeavesName calls_of s a i
    pub hides_sound : (hidden : E.File → Bool) (r s : E.Store) → Hides calls_of hidden r s → E.IsSound r → E.IsSound s
    pub hides_ready : (hidden : E.File → Bool) (r s : E.Store) (a : E.Call) → Hides calls_of hidden r s → E.IsReady a r → E.IsReady a s
