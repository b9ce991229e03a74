-- Calls on a store with a setting that none of them changes, as a file system has limits. The
-- setting counts as a cell of its own, which each call reads and none writes. Theorems on stores by
-- their cells therefore hold of stores with settings. (A rule of this project.)
use Rattle.std.specs.Prelude.{◌≡◌, Bool, true, false, Option, Some, None}
use Rattle.ft_laws.specs.Calls.{Calls}

module _ (C : Calls) (Setting : Type 0) (setting : C.Store → Setting) (first : Setting) where
  -- the values that a cell may hold; `None` is the cell of the setting
  abbrev pub Value : Option C.Cell → Type 0
  Value None = Setting
  Value (Some x) = C.Value x

  -- what a cell of the store holds
  abbrev pub cell : C.Store → (x : Option C.Cell) → Value x
  cell s None = setting s
  cell s (Some x) = C.cell s x

  -- each call reads the setting
  abbrev pub touches : C.Accesses → Option C.Cell → Bool
  touches f None = true
  touches f (Some x) = C.touches f x

  -- no call writes the setting
  abbrev pub changes : C.Accesses → Option C.Cell → Bool
  changes f None = false
  changes f (Some x) = C.changes f x

  -- the setting belongs to no file
  abbrev pub file_of : Option C.Cell → Option C.File
  file_of None = None
  file_of (Some x) = C.file_of x

  -- the setting names no file
  abbrev pub names : (x : Option C.Cell) → Value x → C.File → Bool
  names None v i = false
  names (Some x) v i = C.names x v i

  -- if nothing is stored, the setting is the first one
  abbrev pub blank : (x : Option C.Cell) → Value x
  blank None = first
  blank (Some x) = C.blank x

  -- the calls, with the setting as a cell among the others
  abbrev pub settled : Calls
  settled = record {
    Store = C.Store;
    Cell = Option C.Cell;
    Value = Value;
    Call = C.Call;
    Reply = C.Reply;
    Accesses = C.Accesses;
    Inverse = C.Inverse;
    File = C.File;
    cell = cell;
    stamp = C.stamp;
    act = C.act;
    reply = C.reply;
    accesses = C.accesses;
    inverse = C.inverse;
    revert = C.revert;
    MayRevert = C.MayRevert;
    touches = touches;
    changes = changes;
    conflict = C.conflict;
    IsSound = C.IsSound;
    IsReady = C.IsReady;
    file_of = file_of;
    names = names;
    blank = blank;
    own = C.own;
  }

  -- two stores have the same setting
  abbrev pub AreSet : C.Store → C.Store → Type 0
  AreSet s t = setting s ≡ setting t

  -- neither a call nor an inverse changes the setting
  pub record KeepsSetting : Type 0 where
    pub act : (s : C.Store) (a : C.Call) → setting (C.act s a) ≡ setting s
    pub revert : (s : C.Store) (u : C.Inverse) → setting (C.revert s u) ≡ setting s
