use Rattle.std.proofs.Common.{refl}
use Rattle.ft_session.proofs.session.Session.answer.Goals as goal

pub returns : goal.returns
returns c = (c.execute-answered.result, (c.execute-answered.ensures.stepped, refl))
