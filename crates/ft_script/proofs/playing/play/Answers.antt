use Rattle.std.proofs.Common.{◌≡◌, List, ℕ, true, false, sym, subst, rules}
use Rattle.ft_script.specs.declared.playing.PlayFault.{PlayFault}
use Rattle.ft_script.specs.declared.playing.PlayFault.TheVariants.{Memory}
use Rattle.std.specs.Io.KnownBytes.{IsAtEnd}
use Rattle.ft_script.specs.declared.lines.ScriptLines.{ScriptLines}
use Rattle.ft_script.specs.Reading.{cut_count, cut_line, uncut}
use Rattle.ft_script.specs.Runs.{Answers, AnswersFreely, StopsAt, StopsLine}
use Rattle.ft_script.proofs.Reading.{passed_on}
use Rattle.ft_script.proofs.Stopping.{Taken, ends_here, ends_with, loses_any, on_done, on_fault, stops_at_first, stops_at_last, stops_at_read, stops_behind, stops_here, stops_lost, taken_more, taken_none, taken_read}
use Rattle.ft_names.specs.Names.{Moment, Naming, moment, no_names}
use Rattle.ft_script.proofs.playing.play.Goals as goal

pub returns-in_err-script-clause-fault : goal.returns-in_err-script-clause-fault
returns-in_err-script-clause-fault g c =
    let tells = g.F.DiskFiles.tells c.args.files.now in
    let answers : Answers = AnswersFreely tells in
    let left = g.R.Read.remaining c.args.reader.now in
    let held = g.W.Write.contents c.args.writer.now in
    let old : Moment = (c.args.core.now.state, no_names) in
    passed_on c.from_residual.result (λ e. (names : Naming) × StopsAt answers e left left held held old (old.0, names)) Memory c.from_residual.ensures (old.1, stops_at_first answers left held old)

pub loop-script-init : goal.loop-script-init
loop-script-init g c =
    let tells = g.F.DiskFiles.tells c.args.files.now in
    let answers : Answers = AnswersFreely tells in
    let script = c.in_ok-script.script in (
      subst (λ (names : Naming). Taken answers (g.R.Read.remaining c.args.reader.now) (g.R.Read.remaining c.args.reader.now) (uncut script.lines) (cut_count script.lines) (g.W.Write.contents c.args.writer.now) (g.W.Write.contents c.args.writer.now) (c.args.core.now.state, no_names) (c.args.core.now.state, names)) (sym c.new-names.ensures)
          (taken_none answers (g.R.Read.remaining c.args.reader.now) (g.W.Write.contents c.args.writer.now) (c.args.core.now.state, no_names) (uncut script.lines) (cut_count script.lines) c.in_ok-script.ensures.uncut c.in_ok-script.ensures.count),
      c.in_ok-script.ensures.none,
    )

pub returns-in_err-read_more-clause-fault : goal.returns-in_err-read_more-clause-fault
returns-in_err-read_more-clause-fault g c =
    let tells = g.F.DiskFiles.tells c.args.files.now in
    let answers : Answers = AnswersFreely tells in
    let lines = c.loop-script.script.lines in
    let left = g.R.Read.remaining in
    let held = g.W.Write.contents in
    let old : Moment = (c.args.core.now.state, no_names) in
    let now : Moment = moment c.loop-script.core c.loop-script.names in
    let fault = c.in_err-read_more.field-0.0 in
    passed_on c.from_residual-in_err-read_more.result
    (λ e. (names : Naming) × StopsAt answers e (left c.args.reader.now) (left c.read_more.new.reader) (held c.args.writer.now) (held c.loop-script.writer) old (now.0, names)) fault c.from_residual-in_err-read_more.ensures (
      now.1,
      stops_at_read answers (left c.args.reader.now) (left c.loop-script.reader) (uncut lines) (cut_count lines) (held c.args.writer.now) (held c.loop-script.writer) old now c.loop-script.invariant.0
          fault (left c.read_more.new.reader) c.in_err-read_more.ensures.fault,
    )

pub returns-in_err-write_replies-clause-fault : goal.returns-in_err-write_replies-clause-fault
returns-in_err-write_replies-clause-fault g c =
    let tells = g.F.DiskFiles.tells c.args.files.now in
    let answers : Answers = AnswersFreely tells in
    let lines = c.loop-script.script.lines in
    let read = c.read_more.new.self.lines in
    let done = c.answer_lines-answered.new.script in
    let left = g.R.Read.remaining in
    let held = g.W.Write.contents in
    let old : Moment = (c.args.core.now.state, no_names) in
    let now : Moment = moment c.loop-script.core c.loop-script.names in
    let new : Moment = moment c.answer_lines-answered.new.core c.answer_lines-answered.new.names in
    let fault = c.in_err-write_replies.field-0.0 in
    let taken = taken_read answers (left c.args.reader.now) (left c.loop-script.reader) (uncut lines) (cut_count lines) (held c.args.writer.now) (held c.loop-script.writer) old now c.loop-script.invariant.0
    (left c.read_more.new.reader) (uncut read) (cut_count read) c.in_ok-read_more.ensures.bytes c.in_ok-read_more.ensures.count in
    let lost = loses_any answers c.answer_lines-answered.result (IsAtEnd (left c.read_more.new.reader)) (uncut read) (uncut done.lines) done.replies.items (cut_count read) (cut_count done.lines)
    (held c.loop-script.writer) (held c.write_replies.new.writer) now new c.answer_lines-answered.ensures.ok c.answer_lines-answered.ensures.fault c.in_err-write_replies.ensures.err in
    passed_on c.from_residual-in_err-write_replies.result
    (λ e. (names : Naming) × StopsAt answers e (left c.args.reader.now) (left c.read_more.new.reader) (held c.args.writer.now) (held c.write_replies.new.writer) old (new.0, names)) fault c.from_residual-in_err-write_replies.ensures (
      new.1,
      subst (λ (f : PlayFault). StopsAt answers f (left c.args.reader.now) (left c.read_more.new.reader) (held c.args.writer.now) (held c.write_replies.new.writer) old new) (sym c.in_err-write_replies.ensures.cause)
          (stops_lost answers (left c.args.reader.now) (left c.read_more.new.reader) (uncut read) (cut_count read) (held c.args.writer.now) (held c.loop-script.writer) old now taken (held c.write_replies.new.writer) new lost),
    )

pub loop-script-preserved : goal.loop-script-preserved
loop-script-preserved g c =
    let tells = g.F.DiskFiles.tells c.args.files.now in
    let answers : Answers = AnswersFreely tells in
    let lines = c.loop-script.script.lines in
    let read = c.read_more.new.self.lines in
    let done = c.answer_lines-answered.new.script in
    let left = g.R.Read.remaining in
    let held = g.W.Write.contents in
    let old : Moment = (c.args.core.now.state, no_names) in
    let now : Moment = moment c.loop-script.core c.loop-script.names in
    let new : Moment = moment c.answer_lines-answered.new.core c.answer_lines-answered.new.names in
    let taken = taken_read answers (left c.args.reader.now) (left c.loop-script.reader) (uncut lines) (cut_count lines) (held c.args.writer.now) (held c.loop-script.writer) old now c.loop-script.invariant.0
    (left c.read_more.new.reader) (uncut read) (cut_count read) c.in_ok-read_more.ensures.bytes c.in_ok-read_more.ensures.count in
    let more = taken_more answers (left c.args.reader.now) (left c.read_more.new.reader) (uncut read) (cut_count read) (held c.args.writer.now) (held c.loop-script.writer) old now taken
    (uncut done.lines) (cut_count done.lines) done.replies.items (held c.write_replies.new.writer) new c.in_ok-answered.ensures.ok c.in_ok-write_replies.ensures.ok in (
      subst (λ (lines : ScriptLines). Taken answers (left c.args.reader.now) (left c.read_more.new.reader) (uncut lines) (cut_count lines) (held c.args.writer.now) (held c.write_replies.new.writer) old new) (sym c.in_ok-write_replies.ensures.lines) more,
      c.in_ok-write_replies.ensures.written,
    )

pub returns-in_err-answered-clause-fault : goal.returns-in_err-answered-clause-fault
returns-in_err-answered-clause-fault g c =
    let tells = g.F.DiskFiles.tells c.args.files.now in
    let answers : Answers = AnswersFreely tells in
    let lines = c.loop-script.script.lines in
    let read = c.read_more.new.self.lines in
    let done = c.answer_lines-answered.new.script in
    let left = g.R.Read.remaining in
    let held = g.W.Write.contents in
    let old : Moment = (c.args.core.now.state, no_names) in
    let now : Moment = moment c.loop-script.core c.loop-script.names in
    let new : Moment = moment c.answer_lines-answered.new.core c.answer_lines-answered.new.names in
    let fault = c.in_err-answered.field-0.0 in
    let taken = taken_read answers (left c.args.reader.now) (left c.loop-script.reader) (uncut lines) (cut_count lines) (held c.args.writer.now) (held c.loop-script.writer) old now c.loop-script.invariant.0
    (left c.read_more.new.reader) (uncut read) (cut_count read) c.in_ok-read_more.ensures.bytes c.in_ok-read_more.ensures.count in
    passed_on c.from_residual-in_err-answered.result
    (λ e. (names : Naming) × StopsAt answers e (left c.args.reader.now) (left c.read_more.new.reader) (held c.args.writer.now) (held c.write_replies.new.writer) old (new.0, names)) fault c.from_residual-in_err-answered.ensures (
      new.1,
      stops_behind answers (left c.args.reader.now) (left c.read_more.new.reader) (uncut read) (cut_count read) (held c.args.writer.now) (held c.loop-script.writer) (held c.write_replies.new.writer) old now new taken
          fault done.replies.items c.in_err-answered.ensures.fault c.in_ok-write_replies.ensures.ok,
    )

pub returns-then-not-cut_last-clause-ok : goal.returns-then-not-cut_last-clause-ok
returns-then-not-cut_last-clause-ok g c =
    let tells = g.F.DiskFiles.tells c.args.files.now in
    let answers : Answers = AnswersFreely tells in
    let lines = c.loop-script.script.lines in
    let read = c.read_more.new.self.lines in
    let left = g.R.Read.remaining in
    let held = g.W.Write.contents in
    let old : Moment = (c.args.core.now.state, no_names) in
    let now : Moment = moment c.loop-script.core c.loop-script.names in
    let none : c.in_ok-read_more.field-0 ≡ false = search rules in
    let taken = taken_read answers (left c.args.reader.now) (left c.loop-script.reader) (uncut lines) (cut_count lines) (held c.args.writer.now) (held c.loop-script.writer) old now c.loop-script.invariant.0
    (left c.read_more.new.reader) (uncut read) (cut_count read) c.in_ok-read_more.ensures.bytes c.in_ok-read_more.ensures.count in (
      now.1,
      ends_here answers (left c.args.reader.now) (left c.read_more.new.reader) (uncut read) (cut_count read) (held c.args.writer.now) (held c.loop-script.writer) old now taken
          (c.in_ok-read_more.ensures.end none).0 (c.cut_last.ensures.none (search rules)),
    )

pub returns-clause-ok : goal.returns-clause-ok
returns-clause-ok g c =
    let tells = g.F.DiskFiles.tells c.args.files.now in
    let answers : Answers = AnswersFreely tells in
    let lines = c.loop-script.script.lines in
    let read = c.read_more.new.self.lines in
    let last = cut_line c.cut_last.new.self in
    let left = g.R.Read.remaining in
    let held = g.W.Write.contents in
    let old : Moment = (c.args.core.now.state, no_names) in
    let now : Moment = moment c.loop-script.core c.loop-script.names in
    let new : Moment = moment c.play_last.new.core c.play_last.new.names in
    let none : c.in_ok-read_more.field-0 ≡ false = search rules in
    let taken = taken_read answers (left c.args.reader.now) (left c.loop-script.reader) (uncut lines) (cut_count lines) (held c.args.writer.now) (held c.loop-script.writer) old now c.loop-script.invariant.0
    (left c.read_more.new.reader) (uncut read) (cut_count read) c.in_ok-read_more.ensures.bytes c.in_ok-read_more.ensures.count in
    on_done c.play_last.result
    (λ done. (
      new.1,
      ends_with answers (left c.args.reader.now) (left c.read_more.new.reader) (uncut read) (cut_count read) (held c.args.writer.now) (held c.loop-script.writer) old now taken
          last done.0 (held c.play_last.new.writer) new (c.in_ok-read_more.ensures.end none).0 (c.cut_last.ensures.some (search rules))
          (subst (λ (bytes : List ℕ). answers true now bytes done.0 new) c.line.ensures done.1) done.2,
    ))
    c.play_last.ensures.ok

pub returns-clause-fault : goal.returns-clause-fault
returns-clause-fault g c =
    let tells = g.F.DiskFiles.tells c.args.files.now in
    let answers : Answers = AnswersFreely tells in
    let lines = c.loop-script.script.lines in
    let read = c.read_more.new.self.lines in
    let last = cut_line c.cut_last.new.self in
    let left = g.R.Read.remaining in
    let held = g.W.Write.contents in
    let old : Moment = (c.args.core.now.state, no_names) in
    let now : Moment = moment c.loop-script.core c.loop-script.names in
    let new : Moment = moment c.play_last.new.core c.play_last.new.names in
    let none : c.in_ok-read_more.field-0 ≡ false = search rules in
    let at_end = (c.in_ok-read_more.ensures.end none).0 in
    let taken = taken_read answers (left c.args.reader.now) (left c.loop-script.reader) (uncut lines) (cut_count lines) (held c.args.writer.now) (held c.loop-script.writer) old now c.loop-script.invariant.0
    (left c.read_more.new.reader) (uncut read) (cut_count read) c.in_ok-read_more.ensures.bytes c.in_ok-read_more.ensures.count in
    on_fault (λ fault. StopsLine answers fault c.line.result.now (held c.loop-script.writer) (held c.play_last.new.writer) now new)
    (λ fault. (names : Naming) × StopsAt answers fault (left c.args.reader.now) (left c.read_more.new.reader) (held c.args.writer.now) (held c.play_last.new.writer) old (new.0, names))
    c.play_last.result
    (λ fault stops. (
      new.1,
      stops_here answers (left c.args.reader.now) (left c.read_more.new.reader) (uncut read) (cut_count read) (held c.args.writer.now) (held c.loop-script.writer) old now taken
          fault (held c.play_last.new.writer) new
          (stops_at_last answers fault (IsAtEnd (left c.read_more.new.reader)) (uncut read) last (held c.loop-script.writer) (held c.play_last.new.writer) now new at_end
          (c.cut_last.ensures.some (search rules))
          (subst (λ (bytes : List ℕ). StopsLine answers fault bytes (held c.loop-script.writer) (held c.play_last.new.writer) now new) c.line.ensures stops)),
    ))
    c.play_last.ensures.fault
