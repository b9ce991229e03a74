use Rattle.std.proofs.Common.{rules, ◌≡◌, ◌+◌, length, sym, ◌∙◌, ap}
use Rattle.ft_view.proofs.LogAdding.{adds_moves}
use Rattle.ft_view.proofs.publish_log.Prefix.append.Goals as goal

pub compare_exchange-found-requires : goal.compare_exchange-found-requires
compare_exchange-found-requires c =
    let kept = c.book.invariant in
    let seen = c.again-seen.ensures in
    let offer = c.plain-offer.ensures in
    let pen = c.no_pen-pen.ensures in
    let next : c.in_ok-longer.longer ≡ c.self.inside.count + 1 = search rules in
    let count : length c.again-seen.result.log ≡ c.self.inside.count = ap (λ s. length s.log) seen ∙ sym c.self.invariant in
    let book = ap (λ s. s.book) seen ∙ (ap (λ f. f.book) c.self.view_is ∙ (sym c.requires ∙ sym c.book.view_is)) in (
      ap (λ w. w.tracked) kept,
      book,
      pen.0 ∙ book,
      offer.0,
      rw (ap (λ w. w.key) kept, pen.1, offer.1, offer.3, next) (adds_moves c.again-seen.result.log c.args.call.now c.self.inside.count count),
    )
