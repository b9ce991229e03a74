use Rattle.std.proofs.Common.{◌≡◌, ◌∙◌, ℕ, ◌-◌, length, List, [], ◌∷◌, ◌++◌, drop, ap, ap₂, sym, append_assoc}
use Rattle.std.specs.Cmp.Lexicographic.{bytes_decides}
use Rattle.std.proofs.lemmas.List.{take-append-drop}
use Rattle.ft_load.proofs.spelling.without_last_slashes.Goals as goal

pub loop-less-preserved : goal.loop-less-preserved
loop-less-preserved c =
    let front = c.loop-less.front.now in
    let slash = c.as_slice.result.now in
    let cut = length front - length slash in
    let cases = c.in-Some.ensures.cases in
    let last : drop cut front ≡ 47 ∷ [] = (bytes_decides (drop cut front) slash).0 cases.0 ∙ c.as_slice.ensures in
    let whole : front ≡ c.in-Some.less.now ++ 47 ∷ [] = sym (take-append-drop cut front) ∙ ap₂ (λ (a b : List ℕ). a ++ b) (sym cases.1) last in
    let before = c.loop-less.invariant in
    (47 ∷ before.0, before.1 ∙ ap (λ l. l ++ before.0) whole ∙ append_assoc c.in-Some.less.now (47 ∷ []) before.0, before.2)
