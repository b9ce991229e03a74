use Rattle.std.proofs.Common.{ap, sym, is_some, ◌∙◌}
use Rattle.ft_tree.specs.Sweep.{swept_at, dropped_at}
use Rattle.ft_tree.proofs.Spared.{swept-there, none-dropped-there}
use Rattle.ft_tree.proofs.tree.Tree.sweep_cell.Goals as goal

pub returns-then-is_some-clause-cells : goal.returns-then-is_some-clause-cells
returns-then-is_some-clause-cells g c = swept-there (g.K.Keeps.kept c.args.keeps.now) c.args.self.now c.in-Entry.entry (ap is_some (sym c.entry.ensures) ∙ sym c.is_some.ensures ∙ c.if-is_some.true) ∙ ap (swept_at (g.K.Keeps.kept c.args.keeps.now) c.args.self.now) (sym c.in-Entry.is)

pub returns-then-is_some-clause-count : goal.returns-then-is_some-clause-count
returns-then-is_some-clause-count g c = none-dropped-there (g.K.Keeps.kept c.args.keeps.now) c.args.self.now c.in-Entry.entry (ap is_some (sym c.entry.ensures) ∙ sym c.is_some.ensures ∙ c.if-is_some.true) ∙ ap (dropped_at (g.K.Keeps.kept c.args.keeps.now) c.args.self.now) (sym c.in-Entry.is)
