use Rattle.std.proofs.Common.{arith, ◌≡◌, ap, ◌∙◌, length}
use Rattle.std.proofs.Math.Nat.{min_comm}
use Rattle.std.proofs.lemmas.Grind.{common_steps}
use Rattle.std.proofs.lemmas.List.{take_min}
use Rattle.std.specs.Prelude.{take}
use Rattle.std.specs.Str.Lines.{strip_carriage_return}
use Rattle.ft_run.proofs.strictly.shown.Goals as goal

pub returns : goal.returns
returns c =
    let text = c.unwrap_or-line.result.now in
    let stripped : c.unwrap_or-line.result.now ≡ strip_carriage_return c.args.line.now = grind (arith, common_steps) in
    ap (λ n. take n text) (c.min.ensures ∙ min_comm (length text) 200) ∙ (take_min 200 text ∙ ap (take 200) stripped)
