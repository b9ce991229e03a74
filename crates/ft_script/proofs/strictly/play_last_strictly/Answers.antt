use Rattle.std.proofs.Common.{List, ℕ, string_bytes, subst}
use Rattle.ft_script.specs.declared.playing.PlayFault.TheVariants.{Memory}
use Rattle.ft_script.specs.declared.strictly.StrictFault.TheVariants.{Play}
use Rattle.ft_script.specs.Gathering.{StopsLastStrictly}
use Rattle.ft_script.specs.Reading.{cut_count, cut_line}
use Rattle.ft_script.specs.Runs.{Answers, MayAnswer, StopsLine, WritesPart}
use Rattle.ft_strict.specs.Strict.{AnswersStrictly}
use Rattle.ft_script.proofs.Reading.{passed_on}
use Rattle.ft_script.proofs.Running.{keeps_refl}
use Rattle.ft_script.proofs.Stopping.{part_written}
use Rattle.ft_names.specs.Names.{moment}
use Rattle.ft_script.proofs.strictly.play_last_strictly.Goals as goal

pub returns-in_err-reply-clause-fault : goal.returns-in_err-reply-clause-fault
returns-in_err-reply-clause-fault g c =
    let tells = g.F.DiskFiles.tells c.args.files.now in
    let answers : Answers = AnswersStrictly tells in
    let lines = c.args.lines in
    let held = g.W.Write.contents c.args.writer.now in
    let old = moment c.args.core.now c.args.names.now in
    let new = moment c.strict_reply_to.new.core c.strict_reply_to.new.names in
    passed_on c.from_residual.result (λ e. StopsLastStrictly tells e (cut_count lines) (cut_line lines) held held old new) (Play Memory) c.from_residual.ensures
    (keeps_refl held, subst (λ (line : List ℕ). MayAnswer answers line old new) c.line.ensures c.in_err-reply.ensures.err)

pub returns-in_err-write_out-clause-fault : goal.returns-in_err-write_out-clause-fault
returns-in_err-write_out-clause-fault g c =
    let tells = g.F.DiskFiles.tells c.args.files.now in
    let answers : Answers = AnswersStrictly tells in
    let lines = c.args.lines in
    let held = g.W.Write.contents in
    let before = held c.args.writer.now in
    let after = held c.write_out.new.writer in
    let old = moment c.args.core.now c.args.names.now in
    let new = moment c.strict_reply_to.new.core c.strict_reply_to.new.names in
    let reply = c.in_ok-reply.reply in
    let fault = c.in_err-write_out.field-0.0 in
    let part = subst (λ (text : List ℕ). WritesPart before after text) c.as_bytes.ensures.value c.in_err-write_out.ensures.err in
    let stops = part_written answers reply.goes_on fault c.line.result.now (string_bytes reply.text) before after old new c.in_ok-reply.ensures.ok part c.in_err-write_out.ensures.cause in
    passed_on c.from_residual-in_err-write_out.result (λ e. StopsLastStrictly tells e (cut_count lines) (cut_line lines) before after old new) (Play fault) c.from_residual-in_err-write_out.ensures
    (subst (λ (line : List ℕ). StopsLine answers fault line before after old new) c.line.ensures stops)
