use Rattle.std.proofs.Common.{refl}
use Rattle.ft_core.specs.declared.request.Answer.TheVariants.{Refused}
use Rattle.ft_session.proofs.Turning.{both-ways}
use Rattle.ft_session.proofs.session.Session.refuse_ask.Goals as goal

pub returns : goal.returns
returns c = λ call. (Refused c.refusal.result, ((both-ways c.args.self.now.is_fair _ (c.refusal.ensures call, refl), refl), refl))
