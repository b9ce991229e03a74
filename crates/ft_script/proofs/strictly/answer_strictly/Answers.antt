use Rattle.std.proofs.Common.{◌≡◌, ◌<◌, ◌+◌, List, ℕ, true, false, refl, inr, sym, subst, ap, ◌∙◌, ◌++◌, string_bytes, arith, rules}
use Rattle.ft_script.specs.declared.playing.PlayFault.TheVariants.{Memory}
use Rattle.ft_script.specs.declared.lines.ScriptLines.{ScriptLines}
use Rattle.ft_script.specs.declared.lines.TheConstants.{CHUNK}
use Rattle.ft_script.specs.Gathering.{FailsGathering, Gathers, StopsGathering}
use Rattle.ft_script.specs.Reading.{cut_count, cut_line, to_read, uncut, unscanned}
use Rattle.ft_script.specs.Runs.{Answers, MayAnswer}
use Rattle.ft_strict.specs.Strict.{AnswersStrictly}
use Rattle.ft_script.proofs.Gathered.{gathers_line, less_to_read, stops_cut}
use Rattle.ft_script.proofs.Reading.{passed_on}
use Rattle.ft_names.specs.Names.{moment}
use Rattle.ft_script.proofs.strictly.answer_strictly.Goals as goal

pub returns-in_err-cut-clause-fault : goal.returns-in_err-cut-clause-fault
returns-in_err-cut-clause-fault g c =
    let tells = g.F.DiskFiles.tells c.args.files.now in
    let answers : Answers = AnswersStrictly tells in
    let script = c.loop-script.script in
    let now = moment c.loop-script.core c.loop-script.names in
    let fault = c.in_err-cut.field-0.0 in
    passed_on c.from_residual.result
    (λ e. StopsGathering answers e (uncut c.args.script.now.lines) script.replies.items (moment c.args.core.now c.args.names.now) now) fault c.from_residual.ensures
    (record {
      rest = uncut script.lines;
      state = now;
      count = cut_count c.args.script.now.lines;
      count_after = cut_count script.lines;
      gathers = c.loop-script.invariant.gathers;
      few = c.loop-script-test.ensures.yes refl;
      stops = stops_cut answers fault (uncut script.lines) now c.in_err-cut.ensures.cause c.in_err-cut.ensures.fault;
    })

pub returns-in_err-reply-clause-fault : goal.returns-in_err-reply-clause-fault
returns-in_err-reply-clause-fault g c =
    let tells = g.F.DiskFiles.tells c.args.files.now in
    let answers : Answers = AnswersStrictly tells in
    let script = c.loop-script.script in
    let cut = c.cut.new.self in
    let now = moment c.loop-script.core c.loop-script.names in
    let new = moment c.strict_reply_to.new.core c.strict_reply_to.new.names in
    let found : c.in_ok-cut.field-0 ≡ true = search rules in
    let may = subst (λ (line : List ℕ). MayAnswer answers line now new) c.line.ensures c.in_err-reply.ensures.err in
    passed_on c.from_residual-in_err-reply.result
    (λ e. StopsGathering answers e (uncut c.args.script.now.lines) script.replies.items (moment c.args.core.now c.args.names.now) new) Memory c.from_residual-in_err-reply.ensures
    (record {
      rest = uncut script.lines;
      state = now;
      count = cut_count c.args.script.now.lines;
      count_after = cut_count script.lines;
      gathers = c.loop-script.invariant.gathers;
      few = c.loop-script-test.ensures.yes refl;
      stops = inr (uncut cut, cut_line cut, c.in_ok-cut.ensures.line found, may);
    })

pub returns-in_err-gather-clause-fault : goal.returns-in_err-gather-clause-fault
returns-in_err-gather-clause-fault g c =
    let tells = g.F.DiskFiles.tells c.args.files.now in
    let answers : Answers = AnswersStrictly tells in
    let script = c.loop-script.script in
    let cut = c.cut.new.self in
    let now = moment c.loop-script.core c.loop-script.names in
    let new = moment c.strict_reply_to.new.core c.strict_reply_to.new.names in
    let reply = c.in_ok-reply.reply in
    let found : c.in_ok-cut.field-0 ≡ true = search rules in
    let may = subst (λ (line : List ℕ). MayAnswer answers line now new) c.line.ensures (inr (reply.goes_on, string_bytes reply.text, c.in_ok-reply.ensures.ok)) in
    passed_on c.from_residual-in_err-gather.result
    (λ e. StopsGathering answers e (uncut c.args.script.now.lines) c.gather.new.self.replies.items (moment c.args.core.now c.args.names.now) new) Memory c.from_residual-in_err-gather.ensures
    (subst (λ (text : List ℕ). StopsGathering answers Memory (uncut c.args.script.now.lines) text (moment c.args.core.now c.args.names.now) new) (sym c.in_err-gather.ensures.err)
    (record {
      rest = uncut script.lines;
      state = now;
      count = cut_count c.args.script.now.lines;
      count_after = cut_count script.lines;
      gathers = c.loop-script.invariant.gathers;
      few = c.loop-script-test.ensures.yes refl;
      stops = inr (uncut cut, cut_line cut, c.in_ok-cut.ensures.line found, may);
    }))

pub loop-script-preserved : goal.loop-script-preserved
loop-script-preserved g c =
    let tells = g.F.DiskFiles.tells c.args.files.now in
    let answers : Answers = AnswersStrictly tells in
    let script = c.loop-script.script in
    let cut = c.cut.new.self in
    let now = moment c.loop-script.core c.loop-script.names in
    let new = moment c.strict_reply_to.new.core c.strict_reply_to.new.names in
    let so_far = c.loop-script.invariant in
    let reply = c.in_ok-reply.reply in
    let found : c.in_ok-cut.field-0 ≡ true = search rules in
    let well : reply.goes_on ≡ true = search rules in
    let told = c.in_ok-gather.ensures.ok ∙ ap (λ (text : List ℕ). script.replies.items ++ text) c.as_bytes.ensures.value in
    let answered = subst (λ (line : List ℕ). answers true now line (string_bytes reply.text) new) c.line.ensures (subst (λ on. answers on now c.line.result.now (string_bytes reply.text) new) well c.in_ok-reply.ensures.ok) in
    let less = c.in_ok-cut.ensures.scanned found in
    let kept = sym c.in_ok-gather.ensures.lines in
    let left = ap unscanned kept in
    record {
      gathers = subst (λ (done : ScriptLines). Gathers answers (uncut c.args.script.now.lines) (uncut done) (cut_count c.args.script.now.lines) (cut_count done) c.gather.new.self.replies.items (moment c.args.core.now c.args.names.now) new) kept
          (inr (
            cut_line cut,
            string_bytes reply.text,
            gathers_line answers true (uncut c.args.script.now.lines) (uncut script.lines) (uncut cut) (cut_count c.args.script.now.lines) (cut_count script.lines) (cut_count cut) (cut_line cut) (string_bytes reply.text)
                script.replies.items c.gather.new.self.replies.items (moment c.args.core.now c.args.names.now) now new so_far.gathers (c.loop-script-test.ensures.yes refl) (c.in_ok-cut.ensures.line found) (c.in_ok-cut.ensures.count found) answered told,
          ));
      reads = ap (λ (done : ScriptLines). done.reads_left) (sym kept) ∙ c.in_ok-cut.ensures.reads ∙ so_far.reads;
      within = omega (arith, left, less, so_far.within);
      less = inr (omega (arith, left, less, so_far.within));
    }

pub returns-then-not-reply-clause-ok : goal.returns-then-not-reply-clause-ok
returns-then-not-reply-clause-ok g c =
    let tells = g.F.DiskFiles.tells c.args.files.now in
    let answers : Answers = AnswersStrictly tells in
    let script = c.loop-script.script in
    let cut = c.cut.new.self in
    let now = moment c.loop-script.core c.loop-script.names in
    let new = moment c.strict_reply_to.new.core c.strict_reply_to.new.names in
    let so_far = c.loop-script.invariant in
    let reply = c.in_ok-reply.reply in
    let found : c.in_ok-cut.field-0 ≡ true = search rules in
    let badly : reply.goes_on ≡ false = search rules in
    let told = c.in_ok-gather.ensures.ok ∙ ap (λ (text : List ℕ). script.replies.items ++ text) c.as_bytes.ensures.value in
    let answered = subst (λ (line : List ℕ). answers false now line (string_bytes reply.text) new) c.line.ensures (subst (λ on. answers on now c.line.result.now (string_bytes reply.text) new) badly c.in_ok-reply.ensures.ok) in
    subst (λ (done : ScriptLines). FailsGathering tells (uncut c.args.script.now.lines) (cut_count c.args.script.now.lines) (cut_count done) (cut_line done) (string_bytes reply.text) c.gather.new.self.replies.items (moment c.args.core.now c.args.names.now) new) (sym c.in_ok-gather.ensures.lines) (
      uncut cut,
      gathers_line answers false (uncut c.args.script.now.lines) (uncut script.lines) (uncut cut) (cut_count c.args.script.now.lines) (cut_count script.lines) (cut_count cut) (cut_line cut) (string_bytes reply.text)
          script.replies.items c.gather.new.self.replies.items (moment c.args.core.now c.args.names.now) now new so_far.gathers (c.loop-script-test.ensures.yes refl) (c.in_ok-cut.ensures.line found) (c.in_ok-cut.ensures.count found) answered told,
    )

pub returns-then-not-reply-clause-less : goal.returns-then-not-reply-clause-less
returns-then-not-reply-clause-less g c =
    let so_far = c.loop-script.invariant in
    let found : c.in_ok-cut.field-0 ≡ true = search rules in
    let less = c.in_ok-cut.ensures.scanned found in
    λ _. subst (λ (done : ScriptLines). to_read done < to_read c.args.script.now.lines) (sym c.in_ok-gather.ensures.lines)
    (less_to_read (unscanned c.cut.new.self) (unscanned c.args.script.now.lines) _ _ (CHUNK + 1) (omega (arith, less, so_far.within)) (c.in_ok-cut.ensures.reads ∙ so_far.reads))
