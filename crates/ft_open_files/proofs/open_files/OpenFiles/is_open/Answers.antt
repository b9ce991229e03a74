use Rattle.std.proofs.Common.{ap, nat_lt, ◌∙◌}
use Rattle.ft_cells.specs.Cells.{is_open}
use Rattle.ft_open_files.proofs.Opened.{open-openings}
use Rattle.ft_open_files.proofs.open_files.OpenFiles.is_open.Goals as goal

pub returns-then-self : goal.returns-then-self
returns-then-self c =
    ap (nat_lt 0) (c.counted.ensures ∙ c.self.invariant c.if-self.true c.args.file)
    ∙ open-openings c.self.inside.places c.args.file
    ∙ ap (λ m. is_open m c.args.file) c.self.view_is
