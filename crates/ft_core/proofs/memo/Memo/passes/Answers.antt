use Rattle.std.proofs.Common.{◌-◌, ℕ, List, length, take, sym, ap, ◌∙◌}
use Rattle.ft_core.proofs.Memos.{elsewhere-front, not-there}
use Rattle.ft_core.proofs.memo.Memo.passes.Goals as goal

pub returns-else-dir-eq-ROOT : goal.returns-else-dir-eq-ROOT
returns-else-dir-eq-ROOT c = λ none.
    let before = take c.saturating_sub.result c.as_slice-dirs.result.now in
    let is = ap (λ n. take n c.as_slice-dirs.result.now) c.saturating_sub.ensures ∙ ap (λ (ds : List ℕ). take (length ds - 1) ds) c.as_slice-dirs.ensures.value in
    elsewhere-front c.args.self.now.front c.args.dir before is c.if-dir-eq-ROOT.false (not-there c.args.dir before (sym c.contains.ensures.value ∙ none))
