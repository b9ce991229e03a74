use Rattle.std.proofs.Common.{◌≡◌, ◌⊎◌, ℕ, Bool, true, false, inl, inr, refl, sym, ◌∙◌, subst}
use Rattle.std.specs.List.{zip}
use Rattle.ft_script.specs.Runs.{WritesFront}
use Rattle.ft_run.specs.Giving.{GivesAll}
use Rattle.ft_run.proofs.Ends.{given_else, met_at_0, not_given_at_1, one_of, runs, runs_as, unmet_at_3}
use Rattle.ft_run.proofs.GivenFiles.{quiet}
use Rattle.ft_run.proofs.status.jobs_status.Goals as goal

pub returns-in-Err-clause-fault : goal.returns-in-Err-clause-fault
returns-in-Err-clause-fault g c one =
    let before = g.E.Write.contents c.args.errors.now in
    let after = g.E.Write.contents c.report_fault.new.errors in
    inl (c.in-Err.fault, c.in-Err.ensures.fault, subst (WritesFront before after) c.run_fault_line.ensures c.report_fault.ensures.line)

pub returns-in-Ok-clause-status : goal.returns-in-Ok-clause-status
returns-in-Ok-clause-status g c = subst (λ (s : ℕ). (s ≡ 0) ⊎ ((s ≡ 1) ⊎ (s ≡ 3))) (sym c.status_of.ensures) (one_of c.in-Ok.end.met c.give_files-given.result)

pub returns-in-Ok-clause-quiet : goal.returns-in-Ok-clause-quiet
returns-in-Ok-clause-quiet g c either =
    let tells = g.F.DiskFiles.tells c.args.files.now in
    let before = g.E.Write.contents c.args.errors.now in
    let after = g.E.Write.contents c.give_files-given.new.errors in
    let pairs = zip c.as_slice-gets.result.now c.as_slice.result.now in
    let given = given_else c.in-Ok.end.met c.give_files-given.result (subst (λ (s : ℕ). (s ≡ 0) ⊎ (s ≡ 3)) c.status_of.ensures either) in
    quiet tells pairs before after (subst (λ (all : Bool). GivesAll tells pairs all before after) given c.give_files-given.ensures)

pub returns-in-Ok-clause-ok : goal.returns-in-Ok-clause-ok
returns-in-Ok-clause-ok g c zero =
    let tells = g.F.DiskFiles.tells c.args.files.now in
    let all = runs tells c.args.core.state c.args.run.plan.now g.W.Write.contents g.E.Write.contents c.args.writer.now c.run_plan.new.writer c.args.errors.now c.give_files-given.new.errors
    c.in-Ok.end c.give_files-given.result _ _ c.as_slice-gets.ensures.value c.as_slice.ensures.value c.in-Ok.ensures.ok c.give_files-given.ensures in
    let both = met_at_0 c.in-Ok.end.met c.give_files-given.result (sym c.status_of.ensures ∙ zero) in
    runs_as tells c.args.core.state c.args.run.plan.now g.W.Write.contents g.E.Write.contents c.args.writer.now c.run_plan.new.writer c.args.errors.now c.give_files-given.new.errors _ true _ true both.0 both.1 all

pub returns-in-Ok-clause-unmet : goal.returns-in-Ok-clause-unmet
returns-in-Ok-clause-unmet g c three =
    let tells = g.F.DiskFiles.tells c.args.files.now in
    let all = runs tells c.args.core.state c.args.run.plan.now g.W.Write.contents g.E.Write.contents c.args.writer.now c.run_plan.new.writer c.args.errors.now c.give_files-given.new.errors
    c.in-Ok.end c.give_files-given.result _ _ c.as_slice-gets.ensures.value c.as_slice.ensures.value c.in-Ok.ensures.ok c.give_files-given.ensures in
    let both = unmet_at_3 c.in-Ok.end.met c.give_files-given.result (sym c.status_of.ensures ∙ three) in
    runs_as tells c.args.core.state c.args.run.plan.now g.W.Write.contents g.E.Write.contents c.args.writer.now c.run_plan.new.writer c.args.errors.now c.give_files-given.new.errors _ false _ true both.0 both.1 all

pub returns-in-Ok-clause-fault : goal.returns-in-Ok-clause-fault
returns-in-Ok-clause-fault g c one =
    let tells = g.F.DiskFiles.tells c.args.files.now in
    let all = runs tells c.args.core.state c.args.run.plan.now g.W.Write.contents g.E.Write.contents c.args.writer.now c.run_plan.new.writer c.args.errors.now c.give_files-given.new.errors
    c.in-Ok.end c.give_files-given.result _ _ c.as_slice-gets.ensures.value c.as_slice.ensures.value c.in-Ok.ensures.ok c.give_files-given.ensures in
    let given = not_given_at_1 c.in-Ok.end.met c.give_files-given.result (sym c.status_of.ensures ∙ one) in
    inr (c.in-Ok.end.met, runs_as tells c.args.core.state c.args.run.plan.now g.W.Write.contents g.E.Write.contents c.args.writer.now c.run_plan.new.writer c.args.errors.now c.give_files-given.new.errors _ _ _ false refl given all)
