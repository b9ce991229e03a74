use Rattle.std.proofs.Common.{sym, ap, ◌∙◌, arith}
use Rattle.std.specs.Str.{bytes_eq}
use Rattle.ft_words.proofs.Reading.{spelled_here, spelled_later}
use Rattle.ft_words.proofs.verbs.spelled.Goals as goal

pub returns-then-eq : goal.returns-then-eq
returns-then-eq c =
    let compared = c.eq.ensures ∙ ap (bytes_eq c.args.word.now) (c.as_bytes.ensures.value ∙ c.word.ensures) in
    sym (spelled_here c.args.verbs.now c.args.word.now c.loop-verb.verb-index _ (omega arith) (sym compared ∙ c.if-eq.true)) ∙ c.loop-verb.invariant

pub loop-verb-preserved : goal.loop-verb-preserved
loop-verb-preserved c =
    let compared = c.eq.ensures ∙ ap (bytes_eq c.args.word.now) (c.as_bytes.ensures.value ∙ c.word.ensures) in
    sym (spelled_later c.args.verbs.now c.args.word.now c.loop-verb.verb-index _ (omega arith) (sym compared ∙ c.if-eq.false)) ∙ c.loop-verb.invariant
