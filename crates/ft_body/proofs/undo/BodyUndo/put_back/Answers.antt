use Rattle.std.proofs.Common.{◌≡◌, ◌∙◌, sym, ap}
use Rattle.ft_body.specs.Blocks.{bytes_of}
use Rattle.ft_body.proofs.Blocked.{one_blocking}
use Rattle.ft_body.proofs.undo.BodyUndo.put_back.Goals as goal

pub put_back-requires : goal.put_back-requires
put_back-requires c =
    let left = one_blocking c.args.size.now c.self.inside.size_after.value c.args.blocks.now.items c.self.inside.after.value.items c.requires.blocked c.self.invariant.1
    (c.requires.after ∙ sym (ap (λ change. change.after) c.self.view_is)) in
    (c.self.inside.before.value.items, rw left.1 c.self.invariant.2)

pub returns : goal.returns
returns c =
    let left = one_blocking c.args.size.now c.self.inside.size_after.value c.args.blocks.now.items c.self.inside.after.value.items c.requires.blocked c.self.invariant.1
    (c.requires.after ∙ sym (ap (λ change. change.after) c.self.view_is)) in
    let back : c.put_back.new.blocks.items ≡ c.self.inside.before.value.items = c.put_back.ensures c.self.inside.before.value.items (rw left.1 c.self.invariant.2) in
    record {
      blocked = rw back c.self.invariant.0;
      before = ap (bytes_of c.self.inside.size) back ∙ ap (λ change. change.before) c.self.view_is;
    }
