use Rattle.std.proofs.Common.{subst}
use Rattle.ft_script.specs.Runs.{WritesFront}
use Rattle.ft_run.proofs.Fronts.{front_of_write}
use Rattle.ft_run.proofs.status.report_fault.Goals as goal

pub returns-clause-line : goal.returns-clause-line
returns-clause-line g c =
    let before = g.E.Write.contents c.args.errors.now in
    let after = g.E.Write.contents c.write_out.new.writer in
    let front = front_of_write c.write_out.result before after c.as_bytes.result.now c.write_out.ensures.ok c.write_out.ensures.err in
    subst (WritesFront before after) c.as_bytes.ensures.value front
