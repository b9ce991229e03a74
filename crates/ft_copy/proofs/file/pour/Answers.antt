use Rattle.std.proofs.Common.{◌∷◌, ◌++◌, [], ℕ, take, map, length-take-le, inl, inr, refl, sym, subst, ◌∙◌, append-nil, arith, rules}
use Rattle.std.specs.List.{concat}
use Rattle.std.specs.Io.KnownBytes.{Consumes}
use Rattle.ft_copy.specs.Asked.{Piece, DoesAll}
use Rattle.ft_copy.proofs.Doing.{concat_more, consumed_more, consumed_none, does_more, does_one, length_pieces, pieces_more}
use Rattle.ft_copy.proofs.Stopping.{at_fault, stops_all, stops_first, stops_nothing, stops_pieces, unread}
use Rattle.ft_copy.specs.declared.copy_fault.CopyFault.TheVariants.{TooLarge}
use Rattle.ft_copy.specs.Stops.{EndsReading}
use Rattle.ft_copy.proofs.file.pour.Goals as goal

pub loop-room-init : goal.loop-room-init
loop-room-init g c = record {
  room = search rules;
  taken = ([], consumed_none (g.R.Read.remaining c.args.file.now), refl, search rules);
}

pub loop-room-smaller : goal.loop-room-smaller
loop-room-smaller g c = omega arith

pub loop-room-preserved : goal.loop-room-preserved
loop-room-preserved g c =
    let so_far = c.loop-room.invariant.taken in
    let piece = take c.in_ok-count.count c.read_piece.new.piece in
    let left = g.R.Read.remaining in
    record {
      room = c.read_piece.auto.piece ∙ c.loop-room.invariant.room;
      taken = (
        so_far.0 ++ piece ∷ [],
        subst (Consumes (left c.args.file.now) (left c.read_piece.new.file)) (sym (concat_more so_far.0 piece))
            (consumed_more (left c.args.file.now) (left c.loop-room.file) (left c.read_piece.new.file) (concat so_far.0) piece so_far.1 c.in_ok-count.ensures.bytes),
        subst (λ l. DoesAll g.T.Target.does c.args.target.now l c.piece.new.self) (sym (pieces_more so_far.0 piece))
            (does_more g.T.Target.does c.args.target.now c.loop-room.target c.piece.new.self (map Piece so_far.0) (Piece piece ∷ []) so_far.2
            (does_one g.T.Target.does c.loop-room.target c.piece.new.self (Piece piece) c.in_ok-piece.ensures.ok)),
        omega (arith, so_far.3, length_pieces so_far.0 piece, length-take-le c.in_ok-count.count c.read_piece.new.piece c.in_ok-count.ensures.bound.0),
      );
    }

pub returns-then-count-eq0-clause-ok : goal.returns-then-count-eq0-clause-ok
returns-then-count-eq0-clause-ok g c =
    let so_far = c.loop-room.invariant.taken in
    let left = g.R.Read.remaining in
    let last = subst (λ (n : ℕ). Consumes (left c.loop-room.file) (left c.read_piece.new.file) (take n c.read_piece.new.piece)) c.if-count-eq0.true c.in_ok-count.ensures.bytes in
    let end = c.in_ok-count.ensures.end c.if-count-eq0.true (omega (arith, c.loop-room.invariant.room)) in (
      so_far.0,
      (
        left c.read_piece.new.file,
        subst (Consumes (left c.args.file.now) (left c.read_piece.new.file)) (append-nil (concat so_far.0))
            (consumed_more (left c.args.file.now) (left c.loop-room.file) (left c.read_piece.new.file) (concat so_far.0) [] so_far.1 last),
        end,
      ),
      omega (arith, so_far.3),
      so_far.2,
    )

pub returns-then-count-left-clause-err : goal.returns-then-count-left-clause-err
returns-then-count-left-clause-err g c =
    let so_far = c.loop-room.invariant.taken in
    let piece = take c.in_ok-count.count c.read_piece.new.piece in
    let left = g.R.Read.remaining in
    let pieces = so_far.0 ++ piece ∷ [] in
    let target = c.loop-room.target in (
      pieces,
      left c.read_piece.new.file,
      subst (Consumes (left c.args.file.now) (left c.read_piece.new.file)) (sym (concat_more so_far.0 piece))
          (consumed_more (left c.args.file.now) (left c.loop-room.file) (left c.read_piece.new.file) (concat so_far.0) piece so_far.1 c.in_ok-count.ensures.bytes),
      stops_pieces g.T.Target.does g.T.Target.fails (EndsReading c.args.most TooLarge pieces) TooLarge so_far.0 piece c.args.target.now target target so_far.2
          (stops_nothing g.T.Target.does g.T.Target.fails (EndsReading c.args.most TooLarge pieces) TooLarge (Piece piece ∷ []) target
          (inr (inr (refl, omega (arith, so_far.3, length_pieces so_far.0 piece, length-take-le c.in_ok-count.count c.read_piece.new.piece c.in_ok-count.ensures.bound.0, c.if-count-left.true))))),
    )

pub returns-in_err-piece-clause-err : goal.returns-in_err-piece-clause-err
returns-in_err-piece-clause-err g c =
    let so_far = c.loop-room.invariant.taken in
    let piece = take c.in_ok-count.count c.read_piece.new.piece in
    let left = g.R.Read.remaining in
    let does = g.T.Target.does in
    let fails = g.T.Target.fails in
    let pieces = so_far.0 ++ piece ∷ [] in
    let target = c.loop-room.target in
    let new = c.piece.new.self in
    at_fault c.from_residual-in_err-piece.result c.from_residual-in_err-piece.ensures.1
    (λ t is. (
      pieces,
      left c.read_piece.new.file,
      subst (Consumes (left c.args.file.now) (left c.read_piece.new.file)) (sym (concat_more so_far.0 piece))
          (consumed_more (left c.args.file.now) (left c.loop-room.file) (left c.read_piece.new.file) (concat so_far.0) piece so_far.1 c.in_ok-count.ensures.bytes),
      stops_pieces does fails (EndsReading c.args.most t pieces) t so_far.0 piece c.args.target.now target new so_far.2
          (stops_first does fails (EndsReading c.args.most t pieces) t (Piece piece) [] target new (subst (λ e. fails target (Piece piece) e new) (sym is) c.in_err-piece.ensures.err)),
    ))

pub returns-in_err-room-clause-err : goal.returns-in_err-room-clause-err
returns-in_err-room-clause-err g c =
    let left = g.R.Read.remaining c.args.file.now in
    at_fault c.from_residual.result c.from_residual.ensures.1
    (λ t is. ([], left, consumed_none left, stops_nothing g.T.Target.does g.T.Target.fails (EndsReading c.args.most t []) t [] c.args.target.now (inl is)))

pub returns-in_err-count-clause-err : goal.returns-in_err-count-clause-err
returns-in_err-count-clause-err g c =
    let so_far = c.loop-room.invariant.taken in
    let target = c.loop-room.target in
    at_fault c.from_residual-in_err-count.result c.from_residual-in_err-count.ensures.1
    (λ t is. (
      so_far.0,
      g.R.Read.remaining c.loop-room.file,
      so_far.1,
      stops_all g.T.Target.does g.T.Target.fails (EndsReading c.args.most t so_far.0) t (map Piece so_far.0) c.args.target.now target so_far.2 (unread c.args.most t _ so_far.0 is c.in_err-count.ensures.cause),
    ))
