use Rattle.std.proofs.Common.{arith}
use Rattle.ft_path.proofs.FirstSlash.{no_slash, no_slash_before, first_slash}
use Rattle.ft_path.proofs.slashes.cut.Goals as goal

pub returns-in-None : goal.returns-in-None
returns-in-None c = no_slash _ c.in-None.ensures

pub returns-in-Some : goal.returns-in-Some
returns-in-Some c =
    let at = c.in-Some.ensures in
    (no_slash_before _ _ (omega (arith, at.0.high)) at.0.before, first_slash _ _ at.0.high at.1)
