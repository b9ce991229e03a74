use Rattle.std.proofs.Common.{◌≡◌, ◌∙◌, false, min, take, length, ap, arith}
use Rattle.std.proofs.lemmas.List.{take_min}
use Rattle.std.proofs.lemmas.Grind.{common_steps}
use Rattle.ft_path.specs.Name.{has_nul}
use Rattle.nuzolged.specs.Cuts.{cut_path}
use Rattle.nuzolged.proofs.asking.path_of.Goals as goal

pub returns-in-Ok : goal.returns-in-Ok
returns-in-Ok c =
    let is : c.min.result ≡ min 4096 (length c.args.bytes.now) = omega (arith, c.min.ensures) in
    let front : take c.min.result c.args.bytes.now ≡ cut_path c.args.bytes.now = ap (λ k. take k c.args.bytes.now) is ∙ take_min 4096 c.args.bytes.now in
    let none : has_nul c.args.bytes.now ≡ false = grind (arith, common_steps) in
    (c.in-Ok.ensures.path ∙ c.split_at.ensures.front ∙ front, none)
