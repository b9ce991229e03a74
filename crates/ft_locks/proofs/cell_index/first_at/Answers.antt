use Rattle.ft_locks.specs.Slots.{at_of}
use Rattle.ft_locks.proofs.Hashed.{passed_over, none_left}
use Rattle.ft_locks.proofs.cell_index.first_at.Goals as goal

pub loop-key-preserved : goal.loop-key-preserved
loop-key-preserved c = λ k listed is.
    passed_over (at_of c.args.locked.now) c.loop-key.key-iterator c.next.new.self c.in-Some.key k c.args.cell.now c.stands_at.result c.in-Some.ensures.steps
    (c.loop-key.invariant k listed is) c.stands_at.ensures c.if-stands_at.false is

pub returns : goal.returns
returns c = record {
  some = tt;
  none = λ key listed is. none_left c.loop-key.key-iterator key c.in-None.ensures.steps.0 (c.loop-key.invariant key listed is);
}
