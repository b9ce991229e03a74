use Rattle.std.proofs.Common.{◌≡◌, true, refl, ap, rules}
use Rattle.std.specs.Io.KnownBytes.{IsAtEnd}
use Rattle.ft_into.specs.Knows.{SameFile}
use Rattle.ft_into.specs.Views.{same_of}
use Rattle.ft_into.specs.Wishes.{is_timed}
use Rattle.ft_into.proofs.comparing.staying.Goals as goal

pub returns-clause-some : goal.returns-clause-some
returns-clause-some g c =
    let remaining = g.F.Read.remaining in
    let file : SameFile = record { found = c.in-Some.field-0.found; left = remaining c.in-Some.field-0.file } in
    let timed : is_timed c.args.time c.in-Some.field-0.found.given.time ≡ true = search rules in
    let over : IsAtEnd (remaining c.in-Some.field-0.file) = c.in_ok-is_over.ensures.yes c.if-not-branch.false in
    (file, ap (same_of remaining) c.in-Some.is, refl, timed, over)
