use Rattle.std.proofs.Common.{◌≡◌, ◌∙◌, ◌*◌, ◌+◌, ◌-◌, ◌/◌, ◌<◌, ◌≤◌, ℕ, [], arith, length, length-take, get_or, ⊎_elim}
use Rattle.std.proofs.lemmas.List.{get_or_read}
use Rattle.std.proofs.lemmas.Bool.{cases_lt}
use Rattle.ft_body.proofs.PageLists.{end_zeros, end_last}
use Rattle.ft_body.proofs.pages.end_below.Goals as goal

pub returns-then-end-gt0 : goal.returns-then-end-gt0
returns-then-end-gt0 c =
    let i : ℕ = c.loop-index.index - 1 in
    let end : ℕ = length c.without_end_zeros-end.result.now in
    let inside : i < length c.args.pages.now = omega (arith, c.loop-index.invariant.within, c.requires.room) in
    let found : c.bytes-bytes.result.now ≡ get_or c.args.pages.now i [] = c.bytes-bytes.ensures ∙ get_or_read c.args.pages.now i c.index-pages-index.result inside c.index-pages-index.is [] in
    let most : c.loop-index.index ≤ (c.args.size + 4095) / 4096 = c.loop-index.invariant.within in
    let fits : length c.bytes-bytes.result.now ≤ 4096 = rw found (c.requires.pages i).fits in record {
      within = omega (arith, c.without_end_zeros-end.ensures.size, length-take c.min.result c.bytes-bytes.result.now);
      zeros = λ k h g. ⊎_elim
          (λ (here : k < (i + 1) * 4096). end_zeros c.args.pages.now c.bytes-bytes.result.now i c.args.size c.min.result end k found (omega arith) c.without_end_zeros-end.ensures.zeros h here g)
          (λ (behind : (i + 1) * 4096 ≤ k). c.loop-index.invariant.zeros k (omega arith) g) (cases_lt k ((i + 1) * 4096));
      last = λ _. end_last c.args.pages.now c.bytes-bytes.result.now c.without_end_zeros-end.result.now i c.min.result found fits
          c.without_end_zeros-end.ensures.front c.without_end_zeros-end.ensures.size c.without_end_zeros-end.ensures.last c.if-end-gt0.true;
    }

pub loop-index-preserved : goal.loop-index-preserved
loop-index-preserved c =
    let i : ℕ = c.loop-index.index - 1 in
    let end : ℕ = length c.without_end_zeros-end.result.now in
    let inside : i < length c.args.pages.now = omega (arith, c.loop-index.invariant.within, c.requires.room) in
    let found : c.bytes-bytes.result.now ≡ get_or c.args.pages.now i [] = c.bytes-bytes.ensures ∙ get_or_read c.args.pages.now i c.index-pages-index.result inside c.index-pages-index.is [] in record {
      within = omega (arith, c.loop-index.invariant.within);
      zeros = λ k h g. ⊎_elim
          (λ (here : k < (i + 1) * 4096).
          end_zeros c.args.pages.now c.bytes-bytes.result.now i c.args.size c.min.result end k found (omega arith) c.without_end_zeros-end.ensures.zeros (omega arith) here g)
          (λ (behind : (i + 1) * 4096 ≤ k). c.loop-index.invariant.zeros k (omega arith) g) (cases_lt k ((i + 1) * 4096));
    }
