-- What follows from edits of different cells being made.
use Rattle.std.proofs.Common.{◌≡◌, List, [], map, sym, ap, subst, ◌∙◌}
use Rattle.ft_laws.specs.Effects.{before}
use Rattle.ft_cells.specs.Cells.{Cells}
use Rattle.ft_posix.specs.declared.intent.Edit.{Edit}
use Rattle.ft_undo.specs.declared.undo.BeforeImage.{BeforeImage}
use Rattle.ft_posix.specs.Accesses.{written_cell}
use Rattle.ft_posix.specs.Computes.{writes_of}
use Rattle.ft_posix.specs.Posix.{posix}
use Rattle.ft_posix.specs.Stored.{put_all}
use Rattle.ft_posix.specs.Edits.{edit_cell, Apart, EditingLaw, edited, CanEditAll}
use Rattle.ft_undo.specs.Undone.{backs_of, given_back, CanGiveAllBack, AreAsLeft, restored, CanRestoreAll}
use Rattle.ft_posix.specs.CellLaws.{SettingLaw, RestoringLaw}
use Rattle.ft_undo.proofs.Undoing.{left-edited, undo-before, give-all, as-left, written-edits, append-nil, IsUnderWay, under-way-back, under-way-same}

module _ (editing : EditingLaw) (setting : SettingLaw) (old : Cells) (edits : List Edit) (apart : Apart edits) (new : Cells) (undo : List BeforeImage) (cells : new ≡ edited old edits) (backs : undo ≡ backs_of old edits) where
  pub made : new ≡ put_all old (writes_of old edits)
  made = cells ∙ editing.made old edits apart

  -- what takes them back is the inverse
  pub inverse : map given_back undo ≡ before posix old (writes_of old edits)
  inverse = ap (map given_back) backs ∙ undo-before editing old edits apart

  -- wherever the cells that were written are as they were left
  pub may_revert : (at : Cells) → AreAsLeft at new (map written_cell (writes_of old edits)) → CanGiveAllBack at undo
  may_revert at left =
      subst (CanGiveAllBack at) (sym backs)
      (give-all setting at old edits apart (as-left setting at old edits apart (subst (λ (t : Cells). AreAsLeft at t (map edit_cell edits)) cells (subst (AreAsLeft at new) (written-edits old edits) left))))

  -- and in the cells that were left they are so
  pub left : CanEditAll old edits → AreAsLeft new new (map written_cell (writes_of old edits))
  left can =
      subst (λ (t : Cells). AreAsLeft t t (map written_cell (writes_of old edits))) (sym cells)
      (subst (AreAsLeft (edited old edits) (edited old edits)) (sym (written-edits old edits)) (left-edited setting old edits can))

  module _ (restoring : RestoringLaw) (can : CanEditAll old edits) where
    whole : IsUnderWay old edits new undo []
    whole = record { made = edits; split = append-nil edits; cells = cells; backs = backs }

    -- they can be taken back as if they had never been
    pub can_take_back : CanRestoreAll new undo
    can_take_back = under-way-back old edits new undo setting restoring [] can whole

    pub taken_back : restored new undo ≡ old
    taken_back = under-way-same old edits new undo setting restoring [] can whole
