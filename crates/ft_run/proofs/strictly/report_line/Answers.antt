use Rattle.std.proofs.Common.{rules, ◌≡◌, inl, subst}
use Rattle.ft_script.specs.Runs.{WritesFront}
use Rattle.ft_run.specs.FaultLines.{strict_line}
use Rattle.ft_run.proofs.Fronts.{front_of_write}
use Rattle.ft_run.proofs.strictly.report_line.Goals as goal

pub returns-in-Ok-clause-line : goal.returns-in-Ok-clause-line
returns-in-Ok-clause-line g c =
    let before = g.E.Write.contents c.args.errors.now in
    let after = g.E.Write.contents c.write_out.new.writer in
    let front = front_of_write c.write_out.result before after c.as_slice.result.now c.write_out.ensures.ok c.write_out.ensures.err in
    let text : c.as_slice.result.now ≡ strict_line c.args.failed.now = search rules in
    inl (subst (WritesFront before after) text front)
