use Rattle.std.proofs.Common.{rules, ◌≡◌, inl, ◌∙◌, subst}
use Rattle.std.specs.Prelude.{string_bytes}
use Rattle.ft_script.specs.Runs.{WritesFront}
use Rattle.ft_run.specs.FaultLines.{unwritten_line}
use Rattle.ft_run.proofs.status.report_unwritten.Goals as goal

pub returns-in-Ok-clause-line : goal.returns-in-Ok-clause-line
returns-in-Ok-clause-line g c =
    let before = g.E.Write.contents c.args.errors.now in
    let after = g.E.Write.contents c.report_fault.new.errors in
    let text : string_bytes c.in-Ok.line ≡ unwritten_line c.args.file.now = search rules in
    inl (subst (WritesFront before after) (c.as_str.ensures.value ∙ text) c.report_fault.ensures.line)
