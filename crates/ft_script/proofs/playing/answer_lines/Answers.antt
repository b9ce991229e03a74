use Rattle.std.proofs.Common.{◌≡◌, List, ℕ, true, refl, inr, sym, subst, ap, ◌∙◌, ◌++◌, string_bytes, arith, rules}
use Rattle.ft_script.specs.declared.playing.PlayFault.TheVariants.{Memory}
use Rattle.ft_script.specs.declared.lines.ScriptLines.{ScriptLines}
use Rattle.ft_script.specs.Gathering.{Gathers, StopsGathering}
use Rattle.ft_script.specs.Reading.{cut_count, cut_line, uncut, unscanned}
use Rattle.ft_script.specs.Runs.{Answers, AnswersFreely, MayAnswer}
use Rattle.ft_script.proofs.Gathered.{gathers_line, stops_cut}
use Rattle.ft_script.proofs.Reading.{passed_on}
use Rattle.ft_script.proofs.Stopping.{wants_memory}
use Rattle.ft_names.specs.Names.{moment}
use Rattle.ft_script.proofs.playing.answer_lines.Goals as goal

pub returns-in_err-cut-clause-fault : goal.returns-in_err-cut-clause-fault
returns-in_err-cut-clause-fault g c =
    let tells = g.F.DiskFiles.tells c.args.files.now in
    let answers : Answers = AnswersFreely tells in
    let script = c.loop-script.script in
    let now = moment c.loop-script.core c.loop-script.names in
    let fault = c.in_err-cut.field-0.0 in
    passed_on c.from_residual.result
    (λ e. StopsGathering answers e (uncut c.args.script.now.lines) script.replies.items (moment c.args.core.now c.args.names.now) now) fault c.from_residual.ensures
    (record {
      rest = uncut script.lines;
      count = cut_count c.args.script.now.lines;
      count_after = cut_count script.lines;
      state = now;
      gathers = c.loop-script.invariant.gathers;
      few = c.loop-script-test.ensures.yes refl;
      stops = stops_cut answers fault (uncut script.lines) now c.in_err-cut.ensures.cause c.in_err-cut.ensures.fault;
    })

pub returns-in_err-reply_into-clause-fault : goal.returns-in_err-reply_into-clause-fault
returns-in_err-reply_into-clause-fault g c =
    let tells = g.F.DiskFiles.tells c.args.files.now in
    let answers : Answers = AnswersFreely tells in
    let script = c.loop-script.script in
    let cut = c.cut.new.self in
    let now = moment c.loop-script.core c.loop-script.names in
    let new = moment c.reply_into.new.core c.reply_into.new.names in
    let found : c.in_ok-cut.field-0 ≡ true = search rules in
    let may = subst (λ (line : List ℕ). MayAnswer answers line now new) c.line.ensures (wants_memory tells c.line.result.now now new c.in_err-reply_into.ensures.err) in
    passed_on c.from_residual-in_err-reply_into.result
    (λ e. StopsGathering answers e (uncut c.args.script.now.lines) script.replies.items (moment c.args.core.now c.args.names.now) new) Memory c.from_residual-in_err-reply_into.ensures
    (record {
      rest = uncut script.lines;
      state = now;
      count = cut_count c.args.script.now.lines;
      count_after = cut_count script.lines;
      gathers = c.loop-script.invariant.gathers;
      few = c.loop-script-test.ensures.yes refl;
      stops = inr (uncut cut, cut_line cut, c.in_ok-cut.ensures.line found, may);
    })

pub returns-in_err-gather-clause-fault : goal.returns-in_err-gather-clause-fault
returns-in_err-gather-clause-fault g c =
    let tells = g.F.DiskFiles.tells c.args.files.now in
    let answers : Answers = AnswersFreely tells in
    let script = c.loop-script.script in
    let cut = c.cut.new.self in
    let now = moment c.loop-script.core c.loop-script.names in
    let new = moment c.reply_into.new.core c.reply_into.new.names in
    let found : c.in_ok-cut.field-0 ≡ true = search rules in
    let may = subst (λ (line : List ℕ). MayAnswer answers line now new) c.line.ensures (inr (true, string_bytes c.reply_into.new.reply, (refl, c.in_ok-reply_into.ensures.ok))) in
    passed_on c.from_residual-in_err-gather.result
    (λ e. StopsGathering answers e (uncut c.args.script.now.lines) c.gather.new.self.replies.items (moment c.args.core.now c.args.names.now) new) Memory c.from_residual-in_err-gather.ensures
    (subst (λ (text : List ℕ). StopsGathering answers Memory (uncut c.args.script.now.lines) text (moment c.args.core.now c.args.names.now) new) (sym c.in_err-gather.ensures.err)
    (record {
      rest = uncut script.lines;
      state = now;
      count = cut_count c.args.script.now.lines;
      count_after = cut_count script.lines;
      gathers = c.loop-script.invariant.gathers;
      few = c.loop-script-test.ensures.yes refl;
      stops = inr (uncut cut, cut_line cut, c.in_ok-cut.ensures.line found, may);
    }))

pub loop-script-preserved : goal.loop-script-preserved
loop-script-preserved g c =
    let tells = g.F.DiskFiles.tells c.args.files.now in
    let answers : Answers = AnswersFreely tells in
    let script = c.loop-script.script in
    let cut = c.cut.new.self in
    let now = moment c.loop-script.core c.loop-script.names in
    let new = moment c.reply_into.new.core c.reply_into.new.names in
    let so_far = c.loop-script.invariant in
    let reply = string_bytes c.reply_into.new.reply in
    let found : c.in_ok-cut.field-0 ≡ true = search rules in
    let told = c.in_ok-gather.ensures.ok ∙ ap (λ (text : List ℕ). script.replies.items ++ text) c.as_bytes.ensures.value in
    let answered = subst (λ (line : List ℕ). answers true now line reply new) c.line.ensures (refl, c.in_ok-reply_into.ensures.ok) in
    let less = c.in_ok-cut.ensures.scanned found in
    let kept = sym c.in_ok-gather.ensures.lines in
    let left = ap unscanned kept in
    record {
      gathers = subst (λ (done : ScriptLines). Gathers answers (uncut c.args.script.now.lines) (uncut done) (cut_count c.args.script.now.lines) (cut_count done) c.gather.new.self.replies.items (moment c.args.core.now c.args.names.now) new) kept
          (inr (
            cut_line cut,
            reply,
            gathers_line answers true (uncut c.args.script.now.lines) (uncut script.lines) (uncut cut) (cut_count c.args.script.now.lines) (cut_count script.lines) (cut_count cut) (cut_line cut) reply
                script.replies.items c.gather.new.self.replies.items (moment c.args.core.now c.args.names.now) now new so_far.gathers (c.loop-script-test.ensures.yes refl) (c.in_ok-cut.ensures.line found) (c.in_ok-cut.ensures.count found) answered told,
          ));
      reads = ap (λ (done : ScriptLines). done.reads_left) (sym kept) ∙ c.in_ok-cut.ensures.reads ∙ so_far.reads;
      within = omega (arith, left, less, so_far.within);
      less = inr (omega (arith, left, less, so_far.within));
    }
