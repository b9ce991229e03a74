use Rattle.std.proofs.Common.{◌++◌, take, sym}
use Rattle.ft_into.proofs.Bytes.{goes_further, others_differ, tested_others, tested_same, within}
use Rattle.ft_into.proofs.reading.goes_on.Goals as goal

pub returns-then-ne-clause-no : goal.returns-then-ne-clause-no
returns-then-ne-clause-no g c = λ _.
    let remaining = g.R.Read.remaining in
    let count = c.in_ok-count.count in
    let piece = take count c.read_piece.new.piece in
    let rest = c.loop-rest.rest.now in
    let read = c.loop-rest.invariant in
    let bound = c.in_ok-count.ensures.bound in
    let fits = within count c.min-most.result c.read_piece.new.piece rest c.loop-rest.room bound.0 c.read_piece.auto.piece c.min-most.ensures in
    others_differ (remaining c.args.file.now) (remaining c.loop-rest.file) (remaining c.read_piece.new.file) c.args.bytes.now read.0 rest piece count read.1 fits (sym bound.1)
    (tested_others piece (take count rest) c.ne.result c.ne.ensures c.if-ne.true) read.2 c.in_ok-count.ensures.bytes

pub loop-rest-preserved : goal.loop-rest-preserved
loop-rest-preserved g c =
    let remaining = g.R.Read.remaining in
    let count = c.in_ok-count.count in
    let piece = take count c.read_piece.new.piece in
    let rest = c.loop-rest.rest.now in
    let read = c.loop-rest.invariant in
    let same = tested_same piece (take count rest) c.ne.result c.ne.ensures c.if-ne.false in
    let further = goes_further (remaining c.args.file.now) (remaining c.loop-rest.file) (remaining c.read_piece.new.file) c.args.bytes.now read.0 rest piece count read.1 same read.2 c.in_ok-count.ensures.bytes in
    (read.0 ++ piece, further.0, further.1)
