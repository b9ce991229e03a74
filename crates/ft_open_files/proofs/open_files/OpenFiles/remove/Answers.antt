use Rattle.std.proofs.Common.{◌+◌, ap, sym, zero-add, ◌∙◌}
use Rattle.std.specs.Option.{option_flatten, option_map}
use Rattle.std.specs.FinMap.{get}
use Rattle.ft_cells.specs.declared.open_file.OpenFile.{OpenFile}
use Rattle.ft_open_files.specs.Openings.{openings, one_of}
use Rattle.ft_open_files.proofs.Opened.{openings-remove}
use Rattle.ft_open_files.proofs.open_files.OpenFiles.remove.Goals as goal

pub invariant_of-self : goal.invariant_of-self
invariant_of-self c = λ yes. c.recount-self-inside.ensures yes (openings c.self.inside.places) (openings c.remove.new.self) (c.self.invariant c.if-self.true) (λ i.
    ap (λ o. one_of o i + openings c.remove.new.self i) (c.file_of.ensures ∙ ap (λ place. option_map (λ (x : OpenFile). x.file) place) (c.flatten.ensures ∙ ap option_flatten (c.value_in-was.ensures ∙ c.remove.ensures.value)))
    ∙ ap (λ m. one_of (option_map (λ (x : OpenFile). x.file) (option_flatten (get c.self.inside.places c.args.fd))) i + openings m i) c.remove.ensures.after
    ∙ openings-remove c.self.inside.places c.args.fd i ∙ sym (zero-add _))
