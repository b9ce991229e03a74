use Rattle.std.proofs.lemmas.Result.{IfOk-weaker}
use Rattle.std.specs.Option.{option_copied}
use Rattle.ft_tree.specs.Fronts.{entries_of}
use Rattle.ft_looks.proofs.Resting.{listed-but}
use Rattle.ft_looks.proofs.look.Look.into_accesses.Goals as goal

pub returns-clause-list : goal.returns-clause-list
returns-clause-list c =
    IfOk-weaker c.into_accesses.result _ _
    (λ list is. listed-but (entries_of (option_copied c.self.inside.front)) c.self.inside.touched c.args.edits.now c.args.self c.self.invariant.1 c.self.inside.cursor c.self.view_is list.items c.note_edits.new.touched is c.in_ok-note_edits.ensures.noted)
    c.into_accesses.ensures
