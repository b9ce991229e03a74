use Rattle.std.proofs.Common.{◌≡◌, ◌∙◌, ◌<◌, ◌-◌, ◌+◌, ◌/◌, ◌∷◌, [], arith, ap, length, length-append, take, drop, get_or}
use Rattle.std.proofs.Math.ListN.{set}
use Rattle.std.proofs.lemmas.List.{set-get_or, get_or_default}
use Rattle.ft_body.proofs.PageLists.{written_step, pages_set}
use Rattle.ft_body.proofs.PartsBack.{parts_more}
use Rattle.ft_body.proofs.pages.write_each.Goals as goal

pub returns-in-Err-clause-err : goal.returns-in-Err-clause-err
returns-in-Err-clause-err c =
    let same : set c.loop-index.pages c.loop-index.index c.write.new.self ≡ c.loop-index.pages =
    ap (λ page. set c.loop-index.pages c.loop-index.index page) c.in-Err.ensures.err ∙ set-get_or c.loop-index.pages c.loop-index.index c.index-pages-index.result in
    c.put_parts_back.ensures c.args.pages.now (rw same c.loop-index.invariant.back)

pub loop-index-preserved : goal.loop-index-preserved
loop-index-preserved c =
    let inside : c.loop-index.index < length c.loop-index.pages = omega arith in
    let read : get_or c.loop-index.pages c.loop-index.index c.index-pages-index.result ≡ get_or c.loop-index.pages c.loop-index.index [] = get_or_default c.loop-index.pages c.loop-index.index c.index-pages-index.result [] inside in
    let long : length c.push_reserved.new.self.items ≡ length c.loop-index.parts.items + 1 = ap length c.push_reserved.ensures.items ∙ length-append c.loop-index.parts.items (c.in-Ok.lost ∷ []) in
    let same : c.min-to.result - c.args.offset - (c.max-from.result - c.args.offset) ≡ c.min-to.result - c.max-from.result = omega arith in
    record {
      pages_are = pages_set c.loop-index.pages c.loop-index.index c.write.new.self inside c.loop-index.invariant.pages_are c.in-Ok.ensures.page;
      wrote = written_step c.args.pages.now c.loop-index.pages c.write.new.self c.args.offset c.loop-index.index c.max-from.result c.min-to.result c.args.bytes.now _ inside
          c.max-from.ensures c.min-to.ensures (omega arith) (ap (λ n. take n (drop (c.max-from.result - c.args.offset) c.args.bytes.now)) same) c.loop-index.invariant.wrote (rw read at c.in-Ok.ensures.after);
      back = rw c.push_reserved.ensures.items (parts_more (c.args.offset / 4096) c.loop-index.index c.loop-index.parts.items c.in-Ok.lost c.write.new.self c.loop-index.pages c.args.pages.now
          c.loop-index.invariant.count inside (rw (← read) c.in-Ok.ensures.lost) c.loop-index.invariant.back);
      count = omega arith;
      room = omega (arith, c.loop-index.invariant.room, c.push_reserved.ensures.capacity);
    }
