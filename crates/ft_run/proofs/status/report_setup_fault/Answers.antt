use Rattle.std.proofs.Common.{rules, ◌≡◌, ◌∷◌, ◌++◌, [], inl, sym, ◌∙◌, subst}
use Rattle.std.specs.Prelude.{codes, string_bytes}
use Rattle.std.specs.Fmt.{decimal}
use Rattle.ft_script.specs.declared.setup_fault.SetupFault.{SetupFault}
use Rattle.ft_script.specs.Runs.{WritesFront}
use Rattle.ft_run.specs.FaultLines.{TellsLine, after_line}
use Rattle.ft_run.proofs.status.report_setup_fault.Goals as goal

pub returns-in-Ok-clause-line : goal.returns-in-Ok-clause-line
returns-in-Ok-clause-line g c =
    let before = g.E.Write.contents c.args.errors.now in
    let after = g.E.Write.contents c.report_fault-in-Ok.new.errors in
    let text : string_bytes c.in-Ok.line ≡ codes "fault: Script " ++ decimal c.in-Script.number ++ 10 ∷ [] = search rules in
    subst (λ (fault : SetupFault). TellsLine before after (after_line fault)) (sym c.in-Script.is)
    (inl (subst (WritesFront before after) (c.as_str.ensures.value ∙ text) c.report_fault-in-Ok.ensures.line))

pub returns-in-BadLimits-clause-line : goal.returns-in-BadLimits-clause-line
returns-in-BadLimits-clause-line g c =
    let before = g.E.Write.contents c.args.errors.now in
    let after = g.E.Write.contents c.report_fault-in-BadLimits.new.errors in
    subst (λ (fault : SetupFault). TellsLine before after (after_line fault)) (sym c.in-BadLimits.is) (inl c.report_fault-in-BadLimits.ensures.line)
