use Rattle.std.proofs.Common.{◌≡◌, ◌∙◌, sym, ap}
use Rattle.ft_body.specs.Paging.{bytes_in}
use Rattle.ft_body.proofs.Paged.{one_paging}
use Rattle.ft_body.proofs.block_undo.BlockUndo.put_back.Goals as goal

pub put_back-requires : goal.put_back-requires
put_back-requires c =
    let left = one_paging c.args.size.now c.self.inside.size_after.value c.args.pages.now.items c.self.inside.after.value.items c.requires.paged c.self.invariant.1
    (c.requires.after ∙ sym (ap (λ change. change.after) c.self.view_is)) in
    (c.self.inside.before.value.items, rw left.1 c.self.invariant.2)

pub returns : goal.returns
returns c =
    let left = one_paging c.args.size.now c.self.inside.size_after.value c.args.pages.now.items c.self.inside.after.value.items c.requires.paged c.self.invariant.1
    (c.requires.after ∙ sym (ap (λ change. change.after) c.self.view_is)) in
    let back : c.put_back.new.pages.items ≡ c.self.inside.before.value.items = c.put_back.ensures c.self.inside.before.value.items (rw left.1 c.self.invariant.2) in
    record {
      paged = rw back c.self.invariant.0;
      before = ap (bytes_in c.self.inside.size) back ∙ ap (λ change. change.before) c.self.view_is;
    }
