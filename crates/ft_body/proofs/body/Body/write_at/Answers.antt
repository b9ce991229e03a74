use Rattle.std.proofs.Common.{◌≡◌, ◌<◌, ◌-◌, ◌∙◌, ap, length, take, ◌+◌, length-take, arith}
use Prim.Native.Nat.{max}
use Rattle.ft_body.specs.declared.TheConstants.{LARGEST_SIZE}
use Rattle.ft_body.specs.Bytes.{fitting, written}
use Rattle.ft_body.specs.Blocks.{byte_of, bytes_of}
use Rattle.ft_body.proofs.Filled.{fill_written}
use Rattle.ft_body.proofs.Made.{written_keeps_pages}
use Rattle.ft_body.proofs.Blocked.{written_blocked}
use Rattle.ft_body.proofs.PageLists.{take_enough}
use Rattle.ft_body.proofs.body.Body.write_at.Goals as goal

pub new-undo-requires-clause-after : goal.new-undo-requires-clause-after
new-undo-requires-clause-after c =
    let size : length (take c.min-taken.result c.args.bytes.now) ≡ c.min-taken.result = omega (arith, length-take c.min-taken.result c.args.bytes.now) in
    let is : c.max-self-inside.result ≡ max c.self.inside.size (c.args.offset + length (take c.min-taken.result c.args.bytes.now)) = omega arith in
    rw (c.of-size_after.ensures, ap (λ v. v.items) c.of-after.ensures) (written_blocked c.self.inside.size c.max-self-inside.result c.args.offset c.self.inside.blocks.items c.write.new.blocks.items
    (take c.min-taken.result c.args.bytes.now) c.self.invariant (omega arith) is c.in_ok-lost.ensures.blocks c.in_ok-lost.ensures.after)

pub returns-clause-after : goal.returns-clause-after
returns-clause-after c =
    let fits : take c.min-taken.result c.args.bytes.now ≡ fitting LARGEST_SIZE c.args.bytes.now c.args.offset = take_enough c.args.bytes.now c.min-taken.result (140737488355328 - c.args.offset) (omega arith) in
    let some : 0 < length (take c.min-taken.result c.args.bytes.now) = omega (arith, length-take c.min-taken.result c.args.bytes.now) in
    let is : c.max-self-inside.result ≡ max c.self.inside.size (c.args.offset + length (take c.min-taken.result c.args.bytes.now)) = omega (arith, length-take c.min-taken.result c.args.bytes.now) in
    fill_written (byte_of c.self.inside.blocks.items) (byte_of c.write.new.blocks.items) c.self.inside.size c.max-self-inside.result c.args.offset (take c.min-taken.result c.args.bytes.now)
    c.self.invariant.past some is c.in_ok-lost.ensures.after
    ∙ ap (λ xs. written xs c.args.offset (take c.min-taken.result c.args.bytes.now)) c.self.view_is ∙ ap (written c.args.self.now c.args.offset) fits

pub returns-clause-pages : goal.returns-clause-pages
returns-clause-pages c =
    let is : bytes_of c.max-self-inside.result c.write.new.blocks.items ≡ written c.args.self.now c.args.offset (fitting LARGEST_SIZE c.args.bytes.now c.args.offset) = returns-clause-after c in
    rw is (written_keeps_pages c.args.self.now (fitting LARGEST_SIZE c.args.bytes.now c.args.offset) c.args.offset)
