use Rattle.std.proofs.Common.{◌≡◌, unwrap_or, sym, ap, ◌∙◌, rules}
use Rattle.std.specs.Option.{option_flatten}
use Rattle.ft_cells.specs.Cells.{Cells, put_entry, put_parent, put_links, put_contents, put_open, put_dir_attributes, put_file_attributes}
use Rattle.ft_posix.specs.Stored.{put}
use Rattle.ft_undo.specs.declared.undo.BeforeImage.{BeforeImage}
use Rattle.ft_undo.specs.Undone.{given_back}
use Rattle.ft_undo.proofs.undo.give_back.Goals as goal
use Rattle.ft_undo.proofs.undo.give_back.Goals.{in-Entry, in-Parent, in-Links, in-Bytes, in-Open, in-DirAttributes, in-FileAttributes, in-Time}

-- what gives back puts what it gives
puts : (cells new : Cells) (back given : BeforeImage) → back ≡ given → new ≡ put cells (given_back given) → new ≡ put cells (given_back back)
puts cells new back given is made = made ∙ sym (ap (λ (b : BeforeImage). put cells (given_back b)) is)

pub returns : goal.returns
returns c =
    let cells = c.args.tree.now in
    let new = c.match-back.tree in
    elim c.match-back.branch [
      | in-Entry w ↦ let made : new ≡ put_entry cells w.in-Entry.entry.dir w.in-Entry.entry.name (option_flatten w.in-Entry.was) = search rules in puts cells new c.args.back _ w.in-Entry.is made
      | in-Parent w ↦ let made : new ≡ put_parent cells w.in-Parent.dir (option_flatten w.in-Parent.was) = search rules in puts cells new c.args.back _ w.in-Parent.is made
      | in-Links w ↦ let made : new ≡ put_links cells w.in-Links.file (unwrap_or w.in-Links.was 0) = search rules in puts cells new c.args.back _ w.in-Links.is made
      | in-Bytes w ↦ let made : new ≡ put_contents cells w.in-Bytes.file w.in-Bytes.undo.before = search rules in puts cells new c.args.back _ w.in-Bytes.is made
      | in-Open w ↦ let made : new ≡ put_open cells w.in-Open.fd (option_flatten w.in-Open.was) = search rules in puts cells new c.args.back _ w.in-Open.is made
      | in-DirAttributes w ↦ let made : new ≡ put_dir_attributes cells w.in-DirAttributes.dir w.in-DirAttributes.was = search rules in puts cells new c.args.back _ w.in-DirAttributes.is made
      | in-FileAttributes w ↦ let made : new ≡ put_file_attributes cells w.in-FileAttributes.file w.in-FileAttributes.was = search rules in puts cells new c.args.back _ w.in-FileAttributes.is made
      | in-Time w ↦ let made : new ≡ put_contents cells w.in-Time.file w.in-Time.undo.before = search rules in puts cells new c.args.back _ w.in-Time.is made
    ]
