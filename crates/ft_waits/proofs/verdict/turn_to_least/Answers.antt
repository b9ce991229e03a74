use Rattle.ft_waits.proofs.Verdicts.{turned-least}
use Rattle.ft_waits.proofs.verdict.turn_to_least.Goals as goal

pub returns-clause-least : goal.returns-clause-least
returns-clause-least c =
    let place = c.place_of_least-place.ensures in
    let turned = c.rotate_left.ensures in
    turned-least c.args.members.now c.rotate_left.new.self c.place_of_least-place.result turned.after turned.permutation turned.len place.inside place.least
