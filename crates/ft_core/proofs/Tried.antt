-- A call that begins behind a front which its asker holds.
use Rattle.std.proofs.Common.{◌≡◌, ◌≢◌, ℕ, true, false, List, [], ◌∷◌, Option, Some, None, refl, sym, ap, subst, ◌∙◌}
use Rattle.std.specs.Borrow.{Bor}
use Rattle.std.specs.Option.{IfSome, option_copied}
use Rattle.ft_laws.specs.Lists.{In}
use Rattle.ft_laws.proofs.Tests.{by_test}
use Rattle.ft_cells.specs.declared.cell.Cell.{Cell}
use Rattle.ft_cells.specs.declared.cell.Cell.TheVariants.{Entry as EntryCell}
use Rattle.ft_cells.specs.declared.entry.Entry.{Entry as EntryOf}
use Rattle.ft_cells.specs.CellOrder.{same_cell, same_cell-is}
use Rattle.ft_cells.specs.Cells.{Cells}
use Rattle.ft_tree.specs.declared.front.Front.{Front}
use Rattle.ft_tree.specs.Views.{view_of}
use Rattle.ft_tree.specs.Fronts.{LeadsIfAny, front_entries, entries_of}
use Rattle.ft_posix.specs.CellLaws.{SettingLaw}
use Rattle.ft_posix.specs.declared.call.Access.{Access}
use Rattle.ft_posix.specs.declared.intent.Edit.{Edit}
use Rattle.ft_posix.specs.declared.intent.Edit.TheVariants.{Entry, Parent, Links, Overwrite, Resize, Open, DirAttributes, FileAttributes, Time}
use Rattle.ft_posix.specs.Computes.{writes_of}
use Rattle.ft_posix.specs.Outcomes.{Write}
use Rattle.ft_posix.specs.Besides.{AreAlikeBut, reads_of}
use Rattle.ft_forest.specs.Transactions.{Transactions}
use Rattle.ft_lock_rules.specs.declared.rule.Rule.{Rule}
use Rattle.ft_lock_rules.specs.Rules.{is_strict}
use Rattle.ft_lock_rules.specs.Locks.{LockTable, AreGranted, AreBlockers}
use Rattle.ft_lock_rules.specs.Surveys.{HasItsCellsAlone, HasNoHolderAbove}
use Rattle.ft_core.specs.declared.memo.Memo.{Memo}
use Rattle.ft_core.specs.declared.parts.Parts.{Parts}
use Rattle.ft_core.specs.Makes.{IsMadeOn, IsUnmade}
use Rattle.ft_core.specs.Memos.{IsHeld, IsHeldIfAny, IsAloneIfAny, IsTrueOf, AreElsewhere}
use Rattle.ft_core.proofs.Fronts.{alike-blockers, alike-granted, still-held}
use Rattle.ft_core.proofs.Memos.{front-leads, keeps-value, IsNotWritten}

pub leads-of : (cells : Cells) (table : LockTable) (t : ℕ) (front : Option Front) → IsHeldIfAny cells table t front → LeadsIfAny (view_of cells) front
leads-of cells table t None held = tt
leads-of cells table t (Some front) held = held.leads

-- the front that a memo knows is held
pub front-held : (memo : Memo) (cells : Cells) (table : LockTable) (t : ℕ) → IsTrueOf memo cells table → (found : Option (Bor Front)) → IfSome found (λ front. (memo.txn ≡ Some t) × (front.now ≡ memo.front)) → IsHeldIfAny cells table t (option_copied found)
front-held memo cells table t known None is = tt
front-held memo cells table t known (Some front) is = subst (IsHeld cells table t) (sym is.1) (known t is.0)

pub front-alone : (table : LockTable) (forest : Transactions) (t : ℕ) (front : Option Front) → HasItsCellsAlone table forest t → IsAloneIfAny table forest t front
front-alone table forest t None alone = tt
front-alone table forest t (Some front) alone = alone

module _ (cells : Cells) (table : LockTable) (forest : Transactions) (t : ℕ) (xs ys : List Access) where
  -- who is in the way of what was noted is so of all accesses
  pub all-blockers : (rule : Rule) → (is_strict rule ≡ true → HasNoHolderAbove table forest) → (front : Option Front) → IsHeldIfAny cells table t front → IsAloneIfAny table forest t front → AreAlikeBut (entries_of front) xs ys → (front ≡ None → xs ≡ ys)
      → (found : List ℕ) → AreBlockers rule table forest t xs found → AreBlockers rule table forest t ys found
  all-blockers rule no_holder None held alone alike exact found are = subst (λ zs. AreBlockers rule table forest t zs found) (exact refl) are
  all-blockers rule no_holder (Some front) held alone alike exact found are = alike-blockers table t (front_entries front) held.held rule forest alone no_holder xs ys alike found are

  -- and to grant it is to grant them all
  pub all-granted : (front : Option Front) → IsHeldIfAny cells table t front → AreAlikeBut (entries_of front) xs ys → (front ≡ None → xs ≡ ys) → (new : LockTable) → AreGranted table new t xs → AreGranted table new t ys
  all-granted None held alike exact new granted = subst (AreGranted table new t) (exact refl) granted
  all-granted (Some front) held alike exact new granted = alike-granted table t (front_entries front) held.held new xs ys alike granted

pub made-with : (old new : Parts) (writes : List Write) (t k : ℕ) (xs ys : List Access) → IsMadeOn old new writes t k xs → AreGranted old.locks new.locks t ys → IsMadeOn old new writes t k ys
made-with old new writes t k xs ys made granted = record {
  forest = made.forest;
  cells = made.cells;
  undo = made.undo;
  left = made.left;
  inverse = made.inverse;
  may = made.may;
  granted = granted;
  listed = made.listed;
  open_still = made.open_still;
}

-- What is known stays true.

-- an entry that stands elsewhere is not the one
apart : (e f : EntryOf) → e.dir ≢ f.dir → same_cell (EntryCell f) (EntryCell e) ≡ false
apart e f differs = by_test (same_cell (EntryCell f) (EntryCell e)) (λ same. absurd (differs (let is : EntryCell f ≡ EntryCell e = same_cell-is (EntryCell f) (EntryCell e) same in cc))) (λ other. other)

not-written : (cells : Cells) (entries : List Cell) (es : List Edit) → AreElsewhere entries es → (e : EntryOf) → In (EntryCell e) entries → IsNotWritten (EntryCell e) (writes_of cells es)
not-written cells entries [] there e i = tt
not-written cells entries (Entry entry to ∷ es) there e i = (apart e entry (there.0 e i), not-written cells entries es there.1 e i)
not-written cells entries (Parent d to ∷ es) there e i = (refl, not-written cells entries es there e i)
not-written cells entries (Links n to ∷ es) there e i = (refl, not-written cells entries es there e i)
not-written cells entries (Overwrite n at bytes ∷ es) there e i = (refl, not-written cells entries es there e i)
not-written cells entries (Resize n size ∷ es) there e i = (refl, not-written cells entries es there e i)
not-written cells entries (Open f to ∷ es) there e i = (refl, not-written cells entries es there e i)
not-written cells entries (DirAttributes d to ∷ es) there e i = (refl, not-written cells entries es there e i)
not-written cells entries (FileAttributes n to ∷ es) there e i = (refl, not-written cells entries es there e i)
not-written cells entries (Time n to ∷ es) there e i = (refl, not-written cells entries es there e i)

-- what is left of a memo when these edits are made
abbrev pub IsLeftBy : Memo → Memo → List Edit → Type 0
IsLeftBy old new es = (t : ℕ) → new.txn ≡ Some t → (old.txn ≡ Some t) × (new.front ≡ old.front) × AreElsewhere (front_entries old.front) es

module _ (setting : SettingLaw) (old new : Parts) (memo left : Memo) (known : IsTrueOf memo old.tree old.locks) (es : List Edit) (forgot : IsLeftBy memo left es) where
  pub known-made : (t k : ℕ) (xs : List Access) → IsMadeOn old new (writes_of old.tree es) t k xs → IsTrueOf left new.tree new.locks
  known-made t k xs made = λ u is.
      let f = forgot u is in
      let was : IsHeld old.tree old.locks u memo.front = known u f.0 in
      subst (λ front. IsHeld new.tree new.locks u front) (sym f.1) (record {
        leads = front-leads (view_of old.tree) (view_of new.tree) memo.front
            (λ e i. sym (ap (λ (cells : Cells). view_of cells (EntryCell e)) made.cells ∙ keeps-value setting old.tree (writes_of old.tree es) e (not-written old.tree (front_entries memo.front) es f.2 e i))) was.leads;
        held = still-held old.locks new.locks u t (reads_of (front_entries memo.front)) xs was.held made.granted;
      })

  pub known-unmade : IsUnmade old new → IsTrueOf left new.tree new.locks
  known-unmade un = λ u is.
      let f = forgot u is in
      subst (λ front. IsHeld new.tree new.locks u front) (sym f.1) (subst (λ (cells : Cells). IsHeld cells new.locks u memo.front) (sym un.cells) (subst (λ (table : LockTable). IsHeld old.tree table u memo.front) (sym un.locks) (known u f.0)))
