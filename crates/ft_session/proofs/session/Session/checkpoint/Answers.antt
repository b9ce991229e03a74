use Rattle.std.proofs.Common.{refl}
use Rattle.ft_session.proofs.Turning.{both-ways}
use Rattle.ft_session.proofs.session.Session.checkpoint.Goals as goal

pub returns-clause-asked : goal.returns-clause-asked
returns-clause-asked c =
    let old = c.args.self.now in
    (c.cleared-answer.result, ((both-ways old.is_fair _ (c.cleared-answer.ensures.step, refl), refl), refl))
