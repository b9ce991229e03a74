use Rattle.std.proofs.Common.{◌+◌, ap, sym, ◌∙◌}
use Rattle.std.specs.Option.{option_flatten, option_map}
use Rattle.std.specs.FinMap.{get, insert}
use Rattle.ft_cells.specs.declared.open_file.OpenFile.{OpenFile}
use Rattle.ft_open_files.specs.Openings.{openings, one_of}
use Rattle.ft_open_files.proofs.Opened.{openings-insert}
use Rattle.ft_open_files.proofs.open_files.OpenFiles.set.Goals as goal

pub invariant_of-self-then-self : goal.invariant_of-self-then-self
invariant_of-self-then-self c = λ yes. c.recount-self-inside.ensures yes (openings c.self.inside.places) (openings c.insert.new.self) (c.self.invariant c.if-self.true) (λ i.
    ap (λ o. one_of o i + openings c.insert.new.self i) (c.file_of.ensures ∙ ap (λ place. option_map (λ (x : OpenFile). x.file) place) (c.flatten.ensures ∙ ap option_flatten (c.value_in-was.ensures ∙ c.in_ok-insert.ensures.was)))
    ∙ ap (λ m. one_of (option_map (λ (x : OpenFile). x.file) (option_flatten (get c.self.inside.places c.args.fd))) i + openings m i) (c.in_ok-insert.ensures.ok ∙ ap (insert c.self.inside.places c.args.fd) c.with_hint.ensures)
    ∙ openings-insert c.self.inside.places c.args.fd c.args.to i
    ∙ ap (λ o. one_of o i + openings c.self.inside.places i) (sym c.file_of-then-self.ensures))
