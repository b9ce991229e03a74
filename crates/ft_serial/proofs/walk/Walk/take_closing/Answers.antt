use Rattle.std.proofs.Common.{Bool, cond, [], ◌∷◌, ◌++◌, refl, ap, subst, ◌∙◌}
use Rattle.std.specs.Option.{option_to_list}
use Rattle.ft_serial.specs.declared.asked.Asked.{Asked}
use Rattle.ft_serial.specs.declared.walk.Walk.{Walk}
use Rattle.ft_serial.specs.Walks.{IsWalkOf}
use Rattle.ft_serial.proofs.Taking.{taken, none-taken}
use Rattle.ft_serial.proofs.walk.Walk.take_closing.Goals as goal

pub returns-then-stands-clause-taken : goal.returns-then-stands-clause-taken
returns-then-stands-clause-taken c = λ given n was.
    let core = c.args.core.now in
    let old : Walk = c.loop-asked.self in
    let new : Walk = record old { undone = c.remove.new.self; closing = c.pop.new.self } in
    let a : Asked = c.in-Some.asked in
    subst (λ (does : Bool). IsWalkOf n new core.state (given ++ cond does (a.call ∷ []) [])) c.if-stands.true
    (taken core c.requires n old new given c.pop.new.self.items a c.stands-stands.result (c.loop-asked.invariant.walk given n was)
    (c.pop.ensures.items ∙ ap (λ o. c.pop.new.self.items ++ option_to_list o) c.in-Some.is) refl c.remove.ensures.after refl refl c.stands-stands.ensures)

pub loop-asked-preserved : goal.loop-asked-preserved
loop-asked-preserved c =
    let core = c.args.core.now in
    let old : Walk = c.loop-asked.self in
    let new : Walk = record old { undone = c.remove.new.self; closing = c.pop.new.self } in
    let a : Asked = c.in-Some.asked in
    record {
      walk = λ given n was.
          none-taken n new core.state given
          (subst (λ (does : Bool). IsWalkOf n new core.state (given ++ cond does (a.call ∷ []) [])) c.if-stands.false
          (taken core c.requires n old new given c.pop.new.self.items a c.stands-stands.result (c.loop-asked.invariant.walk given n was)
          (c.pop.ensures.items ∙ ap (λ o. c.pop.new.self.items ++ option_to_list o) c.in-Some.is) refl c.remove.ensures.after refl refl c.stands-stands.ensures));
      passed = c.loop-asked.invariant.passed;
    }
