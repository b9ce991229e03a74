use Rattle.std.proofs.Common.{refl, ◌∙◌}
use Rattle.std.proofs.lemmas.Result.{on_ok_weaker}
use Rattle.ft_copy.specs.Asked as asks
use Rattle.ft_into.specs.Makes as makes
use Rattle.ft_into.specs.declared.step.Thing.TheVariants as things
use Rattle.ft_into.proofs.Carried.{leaves, takes}
use Rattle.ft_into.proofs.carrying.CarryingTarget.link.Goals as goal

pub returns-in-None-clause-ok : goal.returns-in-None-clause-ok
returns-in-None-clause-ok g c =
    leaves g.M.Maker.does _ _ (asks.Link c.args.first.now c.args.path.now) c.remove_next.new.self.maker c.remove_next.new.self.rest.now c.in_ok-remove_next.ensures.steps refl c.take_next.ensures.maker c.in-None.ensures.none
    (c.take_next.ensures.is_open ∙ c.remove_next.ensures.is_open) tt

pub returns-in-Some-clause-ok : goal.returns-in-Some-clause-ok
returns-in-Some-clause-ok g c =
    on_ok_weaker c.link.result
    (λ did. takes g.M.Maker.does _ _ (asks.Link c.args.first.now c.args.path.now) c.in-Some.act (makes.Link c.in-Some.act c.args.first.now c.args.path.now) (record { act = c.in-Some.act; thing = things.Link; path = c.args.path.now })
    c.remove_next.new.self.maker c.take_next.new.self.maker c.remove_next.new.self.rest.now c.in_ok-remove_next.ensures.steps refl refl refl c.in-Some.ensures.some c.take_next.ensures.maker did
    (c.take_next.ensures.is_open ∙ c.remove_next.ensures.is_open) tt)
    c.link.ensures
