use Rattle.std.proofs.Common.{◌≡◌, ℕ, ap, sym, ◌∙◌}
use Rattle.std.proofs.lemmas.Result.{on_ok_weaker}
use Rattle.ft_cells.specs.declared.cell.Cell.TheVariants.{Bytes}
use Rattle.ft_cells.specs.Cells.{Cells, Contents, ContentsChange, contents_of, put_contents}
use Rattle.ft_posix.specs.declared.intent.Edit.{Edit}
use Rattle.ft_posix.specs.CellLaws.{SettingLaw}
use Rattle.ft_posix.specs.Computes.{write_of}
use Rattle.ft_posix.specs.Stored.{put}
use Rattle.ft_undo.specs.declared.undo.BeforeImage.TheVariants as back
use Rattle.ft_undo.specs.Undone.{back_of}
use Rattle.ft_posix.proofs.Setting.{setting}
use Rattle.ft_undo.proofs.undo.set.Goals as goal

-- what is set is what the file holds after the change
abbrev change : Contents → Contents → ContentsChange
change before after = record { before = before; after = after }

after_set : SettingLaw → (old new : Cells) (i : ℕ) (to : Contents) → new ≡ put_contents old i to → change (contents_of old i) (contents_of new i) ≡ change (contents_of old i) to
after_set setting old new i to is = ap (change (contents_of old i)) (ap (λ (s : Cells). contents_of s i) is ∙ setting.written old (Bytes i) to)

pub returns-in_ok-undo-in-Overwrite-clause-back : goal.returns-in_ok-undo-in-Overwrite-clause-back
returns-in_ok-undo-in-Overwrite-clause-back c =
    let done = c.in_ok-undo-in-Overwrite in
    rw (c.number-file.ensures)
    (ap (back.Bytes c.in-Overwrite.file) (done.ensures.undo ∙ after_set setting c.args.tree.now c.write.new.tree c.in-Overwrite.file _ done.ensures.ok) ∙ sym (ap (back_of c.args.tree.now) c.in-Overwrite.is))

pub returns-in_ok-undo-in-Resize-clause-back : goal.returns-in_ok-undo-in-Resize-clause-back
returns-in_ok-undo-in-Resize-clause-back c =
    let done = c.in_ok-undo-in-Resize in
    rw (c.number-file-in-Resize.ensures)
    (ap (back.Bytes c.in-Resize.file) (done.ensures.undo ∙ after_set setting c.args.tree.now c.resize.new.tree c.in-Resize.file _ done.ensures.ok) ∙ sym (ap (back_of c.args.tree.now) c.in-Resize.is))

-- what makes an edit puts what it writes
puts : (cells new : Cells) (edit made : Edit) → edit ≡ made → new ≡ put cells (write_of cells made) → new ≡ put cells (write_of cells edit)
puts cells new edit made is set = set ∙ sym (ap (λ (e : Edit). put cells (write_of cells e)) is)

pub returns-in-Entry-clause-after : goal.returns-in-Entry-clause-after
returns-in-Entry-clause-after c = on_ok_weaker c.set_entry.result (λ set. puts c.args.tree.now _ c.args.edit.now _ c.in-Entry.is set) c.set_entry.ensures.after

pub returns-in_ok-was-in-Parent-clause-after : goal.returns-in_ok-was-in-Parent-clause-after
returns-in_ok-was-in-Parent-clause-after c = puts c.args.tree.now _ c.args.edit.now _ c.in-Parent.is c.in_ok-was-in-Parent.ensures.ok

pub returns-in_ok-was-in-Links-clause-after : goal.returns-in_ok-was-in-Links-clause-after
returns-in_ok-was-in-Links-clause-after c = puts c.args.tree.now _ c.args.edit.now _ c.in-Links.is c.in_ok-was-in-Links.ensures.ok

pub returns-in_ok-undo-in-Overwrite-clause-after : goal.returns-in_ok-undo-in-Overwrite-clause-after
returns-in_ok-undo-in-Overwrite-clause-after c = puts c.args.tree.now _ c.args.edit.now _ c.in-Overwrite.is c.in_ok-undo-in-Overwrite.ensures.ok

pub returns-in_ok-undo-in-Resize-clause-after : goal.returns-in_ok-undo-in-Resize-clause-after
returns-in_ok-undo-in-Resize-clause-after c = puts c.args.tree.now _ c.args.edit.now _ c.in-Resize.is c.in_ok-undo-in-Resize.ensures.ok

pub returns-in_ok-was-in-Open-clause-after : goal.returns-in_ok-was-in-Open-clause-after
returns-in_ok-was-in-Open-clause-after c = puts c.args.tree.now _ c.args.edit.now _ c.in-Open.is c.in_ok-was-in-Open.ensures.ok

pub returns-in-DirAttributes-clause-after : goal.returns-in-DirAttributes-clause-after
returns-in-DirAttributes-clause-after c = on_ok_weaker c.set_dir_attributes.result (λ set. puts c.args.tree.now _ c.args.edit.now _ c.in-DirAttributes.is set) c.set_dir_attributes.ensures.after

pub returns-in-FileAttributes-clause-after : goal.returns-in-FileAttributes-clause-after
returns-in-FileAttributes-clause-after c = on_ok_weaker c.set_file_attributes.result (λ set. puts c.args.tree.now _ c.args.edit.now _ c.in-FileAttributes.is set) c.set_file_attributes.ensures.after

pub returns-in-Time-clause-after : goal.returns-in-Time-clause-after
returns-in-Time-clause-after c = on_ok_weaker c.set_time.result (λ set. puts c.args.tree.now _ c.args.edit.now _ c.in-Time.is set) c.set_time.ensures.after
