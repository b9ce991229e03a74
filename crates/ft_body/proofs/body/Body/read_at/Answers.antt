use Rattle.std.proofs.Common.{◌≡◌, ◌∙◌, ◌<◌, ◌+◌, ℕ, sym, ap, length, take, drop, get_or, Vec, Global, arith, length-take, length-drop}
use Rattle.ft_body.specs.Bytes.{bytes_at}
use Rattle.ft_body.specs.Blocks.{byte_of}
use Rattle.ft_body.proofs.PageWrites.{if_ok_both}
use Rattle.ft_body.proofs.Filled.{fill_read}
use Rattle.ft_body.proofs.Blocked.{length-bytes_of}
use Rattle.ft_body.proofs.body.Body.read_at.Goals as goal

pub returns-clause-bytes : goal.returns-clause-bytes
returns-clause-bytes c =
    if_ok_both (λ (read : Vec ℕ Global). length read.items ≡ c.min-count.result)
    (λ read. (k : ℕ) → k < c.min-count.result → get_or read.items k 0 ≡ byte_of c.deref.result.now (c.min-start.result + k))
    (λ read. read.items ≡ bytes_at c.args.self.now c.args.offset c.args.count) c.read.result
    (λ read count bytes.
    fill_read (byte_of c.self.inside.blocks.items) c.self.inside.size c.args.offset c.args.count c.min-start.result c.min-count.result read.items c.self.invariant.past c.min-start.ensures c.min-count.ensures count
    (λ k h. bytes k (omega arith) ∙ ap (λ blocks. byte_of blocks (c.min-start.result + k)) c.deref.ensures.value)
    ∙ ap (λ xs. take c.args.count (drop c.args.offset xs)) c.self.view_is)
    c.read.ensures.count c.read.ensures.bytes

pub returns-clause-nothing : goal.returns-clause-nothing
returns-clause-nothing c = λ e.
    let size : c.self.inside.size ≡ length c.args.self.now = sym (length-bytes_of c.self.inside.size c.self.inside.blocks.items) ∙ ap length c.self.view_is in
    c.read.ensures.nothing (omega (arith, ap length e, length-take c.args.count (drop c.args.offset c.args.self.now), length-drop c.args.offset c.args.self.now))
