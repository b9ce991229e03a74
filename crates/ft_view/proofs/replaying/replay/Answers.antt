use Rattle.std.proofs.Common.{refl, drop, ◌+◌}
use Rattle.ft_tree.specs.Tidy.{tidy}
use Rattle.ft_view.proofs.Stepping.{left_at, next_free, stepped}
use Rattle.ft_view.proofs.replaying.replay.Goals as goal

pub loop-stamp-init : goal.loop-stamp-init
loop-stamp-init c = rw (c.in_ok-copy.ensures, c.new-replies.ensures.items) (record { sound = c.requires.sound; free = c.requires.free; distinct = c.requires.distinct; tree = refl; told = refl })

pub perform-requires-clause-free : goal.perform-requires-clause-free
perform-requires-clause-free c =
    next_free (tidy c.args.tree.now) c.args.calls.now c.loop-stamp.copy c.loop-stamp.stamp-index c.loop-stamp.replies.items c.loop-stamp-item.result c.loop-stamp.invariant
    (left_at c.args.calls.now c.loop-stamp.stamp-index c.loop-stamp-item.result c.loop-stamp-test.true c.loop-stamp-item.is)

pub loop-stamp-preserved : goal.loop-stamp-preserved
loop-stamp-preserved c =
    let made = c.in_ok-reply.ensures in
    rw c.in_ok-push.ensures.items
    (stepped (tidy c.args.tree.now) c.args.calls.now c.loop-stamp.copy c.perform.new.tree (drop c.loop-stamp.stamp-index c.args.calls.now) (drop (c.loop-stamp.stamp-index + 1) c.args.calls.now) c.loop-stamp.replies.items c.loop-stamp-item.result c.in_ok-reply.reply c.loop-stamp.invariant
    (left_at c.args.calls.now c.loop-stamp.stamp-index c.loop-stamp-item.result c.loop-stamp-test.true c.loop-stamp-item.is)
    made.stays_sound made.stays_free made.plain)
