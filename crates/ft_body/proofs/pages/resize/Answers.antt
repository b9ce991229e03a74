use Rattle.std.proofs.Common.{◌≡◌, ◌-◌, arith, length, vec_len}
use Rattle.std.proofs.lemmas.Grind.{common_steps}
use Rattle.ft_body.specs.Paging.{page_count, ArePages, IsPaged, IsFront, byte_in}
use Rattle.ft_body.proofs.PageWrites.{on_ok_both}
use Rattle.ft_body.proofs.Paged.{cut_paged, cut_resized, longer_paged, longer_resized}
use Rattle.ft_body.proofs.pages.resize.Goals as goal

pub returns-then-size-old_size-clause-after : goal.returns-then-size-old_size-clause-after
returns-then-size-old_size-clause-after c =
    on_ok_both c.cut.result
    (λ (paged : IsPaged c.args.size c.cut.new.pages.items) (front : IsFront (byte_in c.args.pages.now.items) (byte_in c.cut.new.pages.items) c.args.size).
    cut_resized c.args.old_size c.args.size c.args.pages.now.items c.cut.new.pages.items c.requires.paged paged front)
    (on_ok_both c.cut.result
    (λ (both : (length c.cut.new.pages.items ≡ page_count c.args.size) × ArePages c.cut.new.pages.items) (front : IsFront (byte_in c.args.pages.now.items) (byte_in c.cut.new.pages.items) c.args.size).
    cut_paged c.args.old_size c.args.size c.args.pages.now.items c.cut.new.pages.items c.requires.paged (omega arith) both.0 both.1 front)
    (on_ok_both c.cut.result (λ (count : vec_len c.cut.new.pages ≡ page_count c.args.size) (pages : ArePages c.cut.new.pages.items). (grind (arith, common_steps), pages))
    c.cut.ensures.count c.cut.ensures.pages)
    c.cut.ensures.after)
    c.cut.ensures.after

pub returns-clause-after : goal.returns-clause-after
returns-clause-after c =
    longer_resized c.args.old_size c.args.size (c.page_count.result - vec_len c.args.pages.now) c.args.pages.now.items c.lengthen.new.pages.items c.requires.paged
    (longer_paged c.args.old_size c.args.size (c.page_count.result - vec_len c.args.pages.now) c.args.pages.now.items c.lengthen.new.pages.items c.requires.paged (omega arith) (omega arith) c.in_ok-lengthen.ensures.after (grind (arith, common_steps)))
    (omega arith) c.in_ok-lengthen.ensures.after
