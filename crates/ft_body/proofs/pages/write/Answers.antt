use Rattle.std.proofs.Common.{◌≡◌, ◌∙◌, ◌++◌, ◌-◌, [], arith, replicate}
use Rattle.std.proofs.lemmas.List.{with_items_is}
use Rattle.std.proofs.lemmas.Grind.{common_steps}
use Rattle.ft_body.specs.Paging.{byte_in}
use Rattle.ft_body.proofs.PageLists.{written_same, byte_in-holes}
use Rattle.ft_body.proofs.pages.write.Goals as goal

pub returns-in-Ok-clause-after : goal.returns-in-Ok-clause-after
returns-in-Ok-clause-after c =
    let had : c.deref_mut.result.now ≡ c.args.pages.now.items ++ replicate (c.max.result - c.len-count.result) [] = grind (arith, common_steps) in
    let whole = with_items_is c.lengthen.new.pages c.write_each.new.pages (c.write_each.auto.pages ∙ c.deref_mut.ensures.len) in
    rw whole (written_same (byte_in c.deref_mut.result.now) (byte_in c.args.pages.now.items) (byte_in c.write_each.new.pages) c.args.offset c.args.bytes.now
    (λ k. rw had (byte_in-holes c.args.pages.now.items (c.max.result - c.len-count.result) k)) c.in-Ok.ensures.after)
