-- A transaction's list is taken back in an abort, as ft_history has it.
use Rattle.std.proofs.Common.{◌≡◌, ◌≢◌, ◌+◌, ℕ, suc, true, List, [], ◌∷◌, inl, inr, length, map, arith, refl, sym, subst, ◌∙◌}
use Rattle.ft_laws.specs.Lists.{In}
use Rattle.ft_cells.specs.declared.cell.Cell.{Cell}
use Rattle.ft_cells.specs.Cells.{Cells}
use Rattle.ft_tree.specs.Sound.{AreSoundCells}
use Rattle.ft_tree.specs.Sweep.{IsAccounted}
use Rattle.ft_posix.specs.Posix.{posix_calls}
use Rattle.ft_posix.specs.RunLaws.{HasNamedPlaces, writes_cell}
use Rattle.ft_posix.specs.Stored.{put_all}
use Rattle.ft_history.specs.History.{over}
use Rattle.ft_history.specs.Logs.{put}
use Rattle.ft_history.proofs.Losing.{LosesOwn, abort_loses, abort_sound}
use Rattle.ft_history.proofs.Methods.{IsTakingBack, abort_step}
use Rattle.ft_history.proofs.Words.{put_same, put_other, by_list}
use Rattle.ft_lock_rules.specs.Locks.{LockTable, is_kept, is_released}
use Rattle.ft_undo.specs.declared.logs.LogRecord.{LogRecord}
use Rattle.ft_undo.specs.Undone.{given_back}
use Rattle.ft_core.specs.Histories.{History}
use Rattle.ft_core.specs.States.{Base}
use Rattle.ft_core.specs.Kept.{Item, ArePlaced, TakesBack, AreLogged, IsKept}
use Rattle.ft_core.specs.Laws.{CallLaws}
use Rattle.ft_core.specs.Taking.{taken_back, CanTakeBack}
use Rattle.ft_core.proofs.Accounts.{reverted-accounted}
use Rattle.ft_core.proofs.Joining.{start, values}
use Rattle.ft_core.proofs.Reverting.{StayPlaces, placed-stays, is_taken_back}

module _ (W : CallLaws) {base : Base} {h : History} {last_txn last_number : ℕ} {cells : Cells} {log : ℕ → List Item} (kept : IsKept base h last_txn last_number cells log) where
  -- m inverses are put to the cells on the way of an abort of t, and the cells and the lists are
  -- now these
  abbrev pub IsTaking : ℕ → ℕ → Cells → (ℕ → List Item) → Type 0
  IsTaking t m now left = IsTakingBack posix_calls (start W kept) h kept.hidden log t m now left

  -- The list of x, which is this one, is taken back.
  pub record IsListTaken (table : LockTable) (t x m : ℕ) (now : Cells) (lists : ℕ → List Item) (ys : List LogRecord) : Type 0 where
    pub can : CanTakeBack ys now
    pub left : ℕ → List Item
    pub taking : IsTaking t (m + length ys) (taken_back ys now) left
    pub empty : left x ≡ []
    pub others : (y : ℕ) → y ≢ x → left y ≡ lists y
    pub stay : StayPlaces now (taken_back ys now)
    pub named : HasNamedPlaces (taken_back ys now)
    pub accounted : IsAccounted (is_kept table) (is_released table) (taken_back ys now)

  -- Where x is at or below t, and the lists strictly below x are empty, it can be taken back. What
  -- its calls wrote is locked.
  pub list-taken : (table : LockTable) (t x : ℕ) → over posix_calls h t x ≡ true → (ys : List LogRecord) (m : ℕ) (now : Cells) (lists : ℕ → List Item) → AreLogged (lists x) ys → ((y : ℕ) → over posix_calls h x y ≡ true → y ≢ x → lists y ≡ [])
      → ((e : Item) → In e (lists x) → ArePlaced now e) → ((e : Item) → In e (lists x) → (c : Cell) → writes_cell e.done.accesses c ≡ true → is_kept table c ≡ true)
      → HasNamedPlaces now → IsAccounted (is_kept table) (is_released table) now → IsTaking t m now lists → IsListTaken table t x m now lists ys
  list-taken table t x under [] m now lists logged below placed locked named accounted taking = by_list (lists x)
      (λ none. record { can = tt; left = lists; taking = subst (λ n. IsTaking t n now lists) (omega arith) taking; empty = none; others = λ y ne. refl; stay = λ c h. h; named = named; accounted = accounted })
      (λ e es is. absurd (subst (λ l. AreLogged l []) is logged))
  list-taken table t x under (y ∷ ys) m now lists logged below placed locked named accounted taking = by_list (lists x)
      (λ none. absurd (subst (λ l. AreLogged l (y ∷ ys)) none logged))
      (λ e es is.
      let both : TakesBack e y × AreLogged es ys = subst (λ l. AreLogged l (y ∷ ys)) is logged in
      let step = abort_step posix_calls W.lawful (start W kept) (values W kept) h kept.hidden cells log kept.core t x m now lists e es under is below taking in
      let there : In e (lists x) = subst (In e) (sym is) (inl refl) in
      let one = is_taken_back W.setting now e y both.0 (placed e there) named step.0 in
      let from = start W kept in
      let base_sound = values W kept in
      let loses : LosesOwn posix_calls now (posix_calls.revert now e.inverse) e.done = abort_loses posix_calls W.lawful from base_sound h kept.hidden cells log kept.core t x m now lists e es under is below taking in
      let sound : AreSoundCells (posix_calls.revert now e.inverse) = W.placed (posix_calls.revert now e.inverse) (abort_sound posix_calls W.lawful from base_sound h kept.hidden cells log kept.core t (suc m) (posix_calls.revert now e.inverse) (put lists x es) step.1) (subst HasNamedPlaces one.made one.named) in
      let now_accounted = reverted-accounted W now e (placed e there).own table (locked e there) loses sound accounted in
      let new : Cells = put_all now (map given_back y.undo) in
      let left_is : put lists x es x ≡ es = put_same lists x es x refl in
      let older : (d : Item) → In d (put lists x es x) → In d (lists x) = λ d i. subst (In d) (sym is) (inr (subst (In d) left_is i)) in
      let rest = list-taken table t x under ys (suc m) new (put lists x es)
      (subst (λ l. AreLogged l ys) (sym left_is) both.1)
      (λ u a ne. put_other lists x es u ne ∙ below u a ne)
      (λ d i. placed-stays now new one.stay d (placed d (older d i)))
      (λ d i. locked d (older d i))
      one.named
      (subst (IsAccounted (is_kept table) (is_released table)) (sym one.made) now_accounted)
      (subst (λ s. IsTaking t (suc m) s (put lists x es)) (sym one.made) step.1) in
      record {
        can = (one.can, rest.can);
        left = rest.left;
        taking = subst (λ n. IsTaking t n (taken_back ys new) rest.left) (omega arith) rest.taking;
        empty = rest.empty;
        others = λ u ne. rest.others u ne ∙ put_other lists x es u ne;
        stay = λ c h. rest.stay c (one.stay c h);
        named = rest.named;
        accounted = rest.accounted;
      })
