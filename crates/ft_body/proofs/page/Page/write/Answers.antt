use Rattle.std.proofs.Common.{◌≡◌, ◌≤◌, ◌-◌, ◌<◌, ℕ, arith, get_or}
use Rattle.std.proofs.lemmas.Result.{on_ok_weaker}
use Rattle.ft_body.specs.Bytes.{written}
use Rattle.ft_body.specs.Paging.{IsPage}
use Rattle.ft_body.proofs.PageWrites.{written_at, written_with_zeros, written_shorter, written-page_inside, written-page_end, on_ok_both}
use Rattle.ft_body.proofs.page.Page.write.Goals as goal

pub returns-then-start-bytes-clause-page : goal.returns-then-start-bytes-clause-page
returns-then-start-bytes-clause-page c =
    let page : IsPage c.self.inside.bytes.items = rw c.self.view_is c.requires.page in
    on_ok_weaker c.overwrite.result (λ (e : c.overwrite.new.buffer.items ≡ written c.self.inside.bytes.items c.args.start c.args.bytes.now).
    rw e (written-page_inside c.self.inside.bytes.items c.args.start c.args.bytes.now page (omega arith))) c.overwrite.ensures.after

pub returns-then-start-bytes-clause-after : goal.returns-then-start-bytes-clause-after
returns-then-start-bytes-clause-after c =
    on_ok_weaker c.overwrite.result (λ (e : c.overwrite.new.buffer.items ≡ written c.self.inside.bytes.items c.args.start c.args.bytes.now).
    rw (e, ← c.self.view_is) (written_at c.self.inside.bytes.items c.args.start c.args.bytes.now)) c.overwrite.ensures.after

pub returns-then-start-bytes-2-clause-after : goal.returns-then-start-bytes-2-clause-after
returns-then-start-bytes-2-clause-after c =
    on_ok_both c.shorten.result
    (λ (before : (k : ℕ) → k < c.args.start → get_or c.shorten.new.buffer.items k 0 ≡ get_or c.self.inside.bytes.items k 0)
    (there : (k : ℕ) → c.args.start ≤ k → get_or c.shorten.new.buffer.items k 0 ≡ get_or c.without_end_zeros-bytes.result.now (k - c.args.start) 0).
    rw (← c.self.view_is) (written_shorter c.self.inside.bytes.items c.shorten.new.buffer.items c.args.start c.without_end_zeros-bytes.result.now c.args.bytes.now (omega arith)
    c.without_end_zeros-bytes.ensures.front c.without_end_zeros-bytes.ensures.zeros before there))
    c.shorten.ensures.before c.shorten.ensures.there

pub returns-clause-page : goal.returns-clause-page
returns-clause-page c =
    let page : IsPage c.self.inside.bytes.items = rw c.self.view_is c.requires.page in
    on_ok_weaker c.overwrite-2.result (λ (e : c.overwrite-2.new.buffer.items ≡ written c.self.inside.bytes.items c.args.start c.without_end_zeros-bytes.result.now).
    rw e (written-page_end c.self.inside.bytes.items c.args.start c.without_end_zeros-bytes.result.now page (omega (arith, c.without_end_zeros-bytes.ensures.size)) (omega arith) c.without_end_zeros-bytes.ensures.last)) c.overwrite-2.ensures.after

pub returns-clause-after : goal.returns-clause-after
returns-clause-after c =
    on_ok_weaker c.overwrite-2.result (λ (e : c.overwrite-2.new.buffer.items ≡ written c.self.inside.bytes.items c.args.start c.without_end_zeros-bytes.result.now).
    rw (e, ← c.self.view_is) (written_with_zeros c.self.inside.bytes.items _ c.args.start c.without_end_zeros-bytes.result.now c.args.bytes.now (omega arith) c.without_end_zeros-bytes.ensures.size c.without_end_zeros-bytes.ensures.front c.without_end_zeros-bytes.ensures.zeros (written_at c.self.inside.bytes.items c.args.start c.without_end_zeros-bytes.result.now))) c.overwrite-2.ensures.after
