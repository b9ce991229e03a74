use Rattle.std.proofs.Common.{inl, sym, subst}
use Rattle.ft_save.specs.declared.saving.SaveFault.{SaveFault}
use Rattle.ft_run.specs.FaultLines.{TellsLine, save_line}
use Rattle.ft_run.proofs.status.report_save_fault.Goals as goal

pub returns-in-NoTree-clause-line : goal.returns-in-NoTree-clause-line
returns-in-NoTree-clause-line g c =
    let before = g.E.Write.contents c.args.errors.now in
    let after = g.E.Write.contents c.report_fault-in-NoTree.new.errors in
    subst (λ (fault : SaveFault). TellsLine before after (save_line fault)) (sym c.in-NoTree.is) (inl c.report_fault-in-NoTree.ensures.line)
