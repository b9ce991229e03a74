use Rattle.std.specs.Option.{option_copied}
use Rattle.std.proofs.lemmas.Result.{on_ok_weaker}
use Rattle.ft_tree.specs.Fronts.{entries_of}
use Rattle.ft_looks.proofs.Resting.{noted-too, reads-after}
use Rattle.ft_looks.proofs.look.Look.note.Goals as goal

pub invariant_of-self : goal.invariant_of-self
invariant_of-self c = (c.self.invariant.0, reads-after c.read.result c.self.inside.touched c.read.new.self c.args.cell c.self.invariant.1 c.read.ensures.noted c.read.ensures.wanting)

pub returns-clause-noted : goal.returns-clause-noted
returns-clause-noted c =
    on_ok_weaker c.read.result (λ is. noted-too c.self.inside.cursor (entries_of (option_copied c.self.inside.front)) c.self.inside.touched c.read.new.self c.args.cell c.args.self.now c.self.view_is is) c.read.ensures.noted
