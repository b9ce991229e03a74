use Rattle.std.proofs.Common.{◌≡◌, ◌<◌, length, get_or, arith}
use Rattle.std.proofs.lemmas.Bool.Decides.{nat_tests}
use Rattle.ft_path.specs.Name.{slash}
use Rattle.ft_path.proofs.Fronting.{front_judged, front_trails}
use Rattle.ft_path.proofs.judged.JudgedPath.front.Goals as goal

pub invariant_of-result : goal.invariant_of-result
invariant_of-result c =
    let at = c.in_ok-at.ensures in
    let within : c.in_ok-at.at < length c.self.inside.bytes.now = omega (arith, at.0.high) in
    let is : get_or c.self.inside.bytes.now c.in_ok-at.at 0 ≡ slash = grind (arith, nat_tests, at.1) in
    front_judged c.self.inside.bytes.now c.in_ok-at.at within is c.self.invariant.0 c.self.invariant.1

pub returns : goal.returns
returns c =
    let at = c.in_ok-at.ensures in
    let within : c.in_ok-at.at < length c.self.inside.bytes.now = omega (arith, at.0.high) in
    let is : get_or c.self.inside.bytes.now c.in_ok-at.at 0 ≡ slash = grind (arith, nat_tests, at.1) in
    front_trails c.self.inside.bytes.now c.in_ok-at.at within is (omega (arith, c.if-at-lt2.false)) c.if-self-at-eq47.false
