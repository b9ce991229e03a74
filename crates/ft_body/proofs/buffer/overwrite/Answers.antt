use Rattle.std.proofs.Common.{◌-◌, ◌∙◌, ap, take, drop, replicate, vec_len, ◌++◌, arith, rules}
use Rattle.std.proofs.lemmas.Grind.{common_steps}
use Rattle.ft_body.proofs.Writes.{padded_then_laid_over, written-back}
use Rattle.ft_body.proofs.buffer.overwrite.Goals as goal

pub returns-clause-after : goal.returns-clause-after
returns-clause-after c =
    padded_then_laid_over c.args.buffer.now.items c.resize.new.self.items c.lay_over.new.buffer.items c.args.start c.args.bytes.now c.max.result (vec_len c.make_room.new.buffer)
    (grind (arith, common_steps)) (search rules) (grind (arith, common_steps))
    (c.in_ok-resize.ensures.items ∙ ap (λ xs. take c.max.result xs ++ replicate (c.max.result - vec_len c.make_room.new.buffer) 0) c.in_ok-make_room.ensures) c.lay_over.ensures

pub returns-clause-lost : goal.returns-clause-lost
returns-clause-lost c =
    written-back c.args.buffer.now.items c.lay_over.new.buffer.items c.in_ok-lost.lost.items c.args.start c.args.bytes.now c.min-from.result c.min.result c.len-size.result
    (grind (arith, common_steps)) (grind (arith, common_steps)) c.min-from.ensures c.min.ensures (c.in_ok-lost.ensures.bytes ∙ ap (λ xs. take (c.min.result - c.min-from.result) (drop c.min-from.result xs)) c.deref.ensures.value) (returns-clause-after c)
