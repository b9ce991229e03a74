use Rattle.std.proofs.Common.{length, sym, ◌∙◌}
use Rattle.std.proofs.lemmas.Bool.{eqb-true}
use Rattle.std.proofs.lemmas.List.{nil_from_length}
use Rattle.std.proofs.lemmas.Result.{on_ok_weaker}
use Rattle.ft_into.proofs.Carried.{ends}
use Rattle.ft_into.proofs.carrying.CarryingTarget.finish.Goals as goal

pub returns-clause-ok : goal.returns-clause-ok
returns-clause-ok g c =
    let top = c.in_ok-change_top.ensures.own in
    on_ok_weaker c.finish.result
    (λ did. ends g.M.Maker.does _ _ c.args.attributes top.0 c.remove_next.new.self.maker c.change_top.new.self.maker c.remove_next.new.self.rest.now c.in_ok-remove_next.ensures.steps top.1 top.2 top.3 did
    (c.change_top.ensures.is_open ∙ c.remove_next.ensures.is_open) (nil_from_length c.change_top.new.self.rest.now (eqb-true (length c.change_top.new.self.rest.now) 0 (sym c.is_empty.ensures ∙ c.if-not-is_empty.false))))
    c.finish.ensures
