use Rattle.std.proofs.Common.{◌≡◌, ℕ, Option, ap, ◌∙◌}
use Rattle.ft_cells.specs.declared.attributes.Timestamp.{Timestamp}
use Rattle.ft_cells.specs.declared.cell.Cell.TheVariants.{Bytes}
use Rattle.ft_cells.specs.Cells.{Cells, Contents, ContentsChange, contents_of, time_of, timed, put_contents}
use Rattle.ft_posix.proofs.Setting.{setting}
use Rattle.ft_undo.proofs.time_undo.TimeUndo.set.Goals as goal

-- what is left of the file, with the time that was there, is what it held
module _ (old new : Cells) (i : ℕ) (to was : Option Timestamp) (set : new ≡ put_contents old i (timed (contents_of old i) to)) (was_is : was ≡ time_of old i) where
  left : contents_of new i ≡ timed (contents_of old i) to
  left = ap (λ (s : Cells). contents_of s i) set ∙ setting.written old (Bytes i) (timed (contents_of old i) to)

  abbrev change : Contents → Option Timestamp → ContentsChange
  change after time = record { before = timed after time; after = after }

  pub found : change (contents_of new i) was ≡ record { before = contents_of old i; after = timed (contents_of old i) to }
  found = λ j. change (left j) (was_is j)

pub returns-clause-undo : goal.returns-clause-undo
returns-clause-undo c =
    let time = c.set_time-time in
    (λ j. record { before = timed (contents_of (c.of.ensures j) (c.of-number.ensures j)) time.result; after = contents_of (c.of.ensures j) (c.of-number.ensures j) })
    ∙ found c.args.tree.now time.new.self c.args.file c.args.to time.result time.ensures.set time.ensures.was
