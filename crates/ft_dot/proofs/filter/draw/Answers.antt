use Rattle.std.proofs.Common.{List, ℕ, ap, ◌∙◌, subst}
use Rattle.std.proofs.lemmas.Result.{on_ok_weaker}
use Rattle.std.specs.Io.KnownBytes.{Appends}
use Rattle.ft_words.specs.Spelling.{lines_of}
use Rattle.ft_dot.specs.Drawing.{dot_of}
use Rattle.ft_dot.proofs.Stopping.{stopped_write}
use Rattle.ft_dot.proofs.filter.draw.Goals as goal

pub returns-clause-ok : goal.returns-clause-ok
returns-clause-ok g c =
    let read = c.in_ok-read_all.ensures.bytes in
    let held = g.W.Write.contents c.args.writer.now in
    let held_after = g.W.Write.contents c.write_out.new.writer in
    let text_is = c.as_bytes.ensures.value ∙ c.in_ok-text.ensures ∙ ap (λ (bytes : List ℕ). dot_of (lines_of bytes)) (c.as_slice.ensures.value ∙ read.2) in
    on_ok_weaker c.write_out.result (λ wrote. (read.0, read.1, c.in_ok-read_all.ensures.end, subst (Appends held held_after) text_is wrote)) c.write_out.ensures.ok

pub returns-clause-fault : goal.returns-clause-fault
returns-clause-fault g c =
    let read = c.in_ok-read_all.ensures.bytes in
    let held = g.W.Write.contents c.args.writer.now in
    let held_after = g.W.Write.contents c.write_out.new.writer in
    let left = g.R.Read.remaining c.args.reader.now in
    let left_after = g.R.Read.remaining c.read_all.new.reader in
    let text_is = c.as_bytes.ensures.value ∙ c.in_ok-text.ensures ∙ ap (λ (bytes : List ℕ). dot_of (lines_of bytes)) (c.as_slice.ensures.value ∙ read.2) in
    stopped_write c.write_out.result left left_after held held_after read.0 c.as_bytes.result.now read.1 c.in_ok-read_all.ensures.end text_is c.write_out.ensures.cause c.write_out.ensures.err
