use Rattle.std.proofs.Common.{ap, sym, ◌∙◌}
use Rattle.ft_cells.specs.Plain.{PlainTree}
use Rattle.ft_view.specs.ViewNames.{SeenPrefix}
use Rattle.ft_view.specs.Replay.{replayed}
use Rattle.ft_view.specs.Reading.{answer_on}
use Rattle.ft_view.proofs.reader.tell.Goals as goal

pub returns-clause-reply : goal.returns-clause-reply
returns-clause-reply g c =
    c.in_ok-reply.ensures ∙ ap (λ (p : PlainTree). answer_on p c.args.question.now) (c.tree.ensures.tree ∙ (c.requires.view.replay.tree ∙ ap (λ (f : SeenPrefix). replayed g.J.ViewsBrand.opened.base f.calls) (sym (c.again.ensures ∙ c.front-shown.ensures))))
