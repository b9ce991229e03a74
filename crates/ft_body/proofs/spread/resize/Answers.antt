use Rattle.std.proofs.Common.{sym, subst, refl}
use Rattle.ft_body.specs.Blocks.{byte_of, Undoes}
use Rattle.ft_body.proofs.Filled.{fill_resized}
use Rattle.ft_body.proofs.Blocked.{longer_front}
use Rattle.ft_body.proofs.spread.resize.Goals as goal

pub returns-then-old_size-size-clause-after : goal.returns-then-old_size-size-clause-after
returns-then-old_size-size-clause-after c =
    fill_resized (byte_of c.args.blocks.now.items) (byte_of c.args.blocks.now.items) c.args.old_size c.args.size c.requires.blocked.past
    (longer_front c.args.old_size c.args.size c.args.blocks.now.items c.requires.blocked c.if-old_size-size.true)

pub returns-in-Ok-clause-after : goal.returns-in-Ok-clause-after
returns-in-Ok-clause-after c = fill_resized (byte_of c.args.blocks.now.items) (byte_of c.cut.new.blocks.items) c.args.old_size c.args.size c.requires.blocked.past c.in-Ok.ensures.after

pub returns-in-Err-clause-err : goal.returns-in-Err-clause-err
returns-in-Err-clause-err c =
    c.put_back.ensures c.args.blocks.now.items
    (c.in-Err.ensures.lost c.args.blocks.now.items (subst (λ steps. Undoes steps c.args.blocks.now.items c.args.blocks.now.items) (sym c.new-steps.ensures.items) refl))
