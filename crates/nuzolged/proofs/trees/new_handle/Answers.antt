use Rattle.std.proofs.Common.{ap, ◌∙◌}
use Rattle.ft_core.specs.declared.manager.Core.{Core}
use Rattle.ft_session.specs.declared.session.Session.{Session}
use Rattle.nuzolged.specs.declared.handle.Handle.{Handle}
use Rattle.nuzolged.proofs.trees.new_handle.Goals as goal

pub returns-clause-new : goal.returns-clause-new
returns-clause-new c =
    let boxed = c.in_ok-session.ensures in (
      c.in_ok-session.session.value,
      ap (λ (h : Handle). h.session) c.in_ok-boxed_handle.ensures ∙ c.put.ensures,
      (
        c.in_ok-core.ensures.within,
        ap (λ (s : Session). s.core.state) boxed ∙ ap (λ (k : Core). k.state) c.new.ensures.core ∙ c.in_ok-core.ensures.state,
        ap (λ (s : Session). s.last) boxed ∙ c.new.ensures.last,
      ),
    )

pub returns-clause-turns : goal.returns-clause-turns
returns-clause-turns c =
    let boxed = c.in_ok-session.ensures in (
      c.in_ok-session.session.value,
      ap (λ (h : Handle). h.session) c.in_ok-boxed_handle.ensures ∙ c.put.ensures,
      ap (λ (s : Session). s.is_fair) boxed ∙ c.new.ensures.fair,
      ap (λ (s : Session). s.turns.items) boxed ∙ c.new.ensures.turns,
    )
