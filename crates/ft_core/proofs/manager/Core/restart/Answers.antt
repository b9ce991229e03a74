use Rattle.std.proofs.Common.{◌≡◌, false, None, refl, sym, subst, ◌∙◌}
use Rattle.ft_core.proofs.Memos.{forgotten}
use Rattle.ft_cells.specs.declared.cell.Cell.{Cell}
use Rattle.ft_tree.specs.Sweep.{is_useless}
use Rattle.ft_core.specs.declared.request.Request.TheVariants.{Checkpoint}
use Rattle.ft_core.specs.Journals.{state_of}
use Rattle.ft_core.specs.Living.{NoneIsLive}
use Rattle.ft_core.specs.States.{State, StoredState, after_checkpoint}
use Rattle.ft_core.specs.Steps.{refusal_of}
use Rattle.ft_core.specs.Sweeps.{HasNoUselessPlace}
use Rattle.ft_core.proofs.Checkpoints.{none-lives, none-in-forest, core-restarted, state-restarted}
use Rattle.ft_core.proofs.Gathered.{state-is}
use Rattle.ft_core.proofs.Known.{call_laws, lock_laws}
use Rattle.ft_core.proofs.manager.Core.restart.Goals as goal

pub restart-requires : goal.restart-requires
restart-requires c =
    let i = c.self.inside in
    let same : state_of i.parts.forest i.journal ≡ c.args.self.now.state = state-is c.self.view_is ∙ c.sweep.ensures.same in
    let none = none-lives call_laws lock_laws i.parts i.journal c.self.invariant.0 (subst (λ (q : State). refusal_of q Checkpoint ≡ None) (sym same) c.requires) in
    none-in-forest call_laws lock_laws i.parts i.journal c.self.invariant.0 none

pub invariant_of-self : goal.invariant_of-self
invariant_of-self c = (
  (let i = c.self.inside in
      let same : state_of i.parts.forest i.journal ≡ c.args.self.now.state = state-is c.self.view_is ∙ c.sweep.ensures.same in
      let none = none-lives call_laws lock_laws i.parts i.journal c.self.invariant.0 (subst (λ (q : State). refusal_of q Checkpoint ≡ None) (sym same) c.requires) in
      let useless : (x : Cell) → is_useless i.parts.tree x ≡ false = subst (λ (v : StoredState). HasNoUselessPlace v.cells) (sym c.self.view_is) (c.sweep.ensures.none_left (subst NoneIsLive same none)) in
      core-restarted call_laws lock_laws i.parts i.journal c.self.invariant.0 none useless
      c.restart.new.self c.restart.ensures i.parts.tree refl c.terms-terms.result.rule c.terms-terms.ensures.rule c.terms-terms.result.calls c.terms-terms.ensures.calls c.last_stamp-stamp.result c.last_stamp-stamp.ensures.stamp
      c.no_locks.result c.no_locks.ensures c.new-2.result c.new-2.ensures.lists c.new.result c.new.ensures),
  forgotten c.forget.new.self _ _ c.forget.ensures,
)

pub returns : goal.returns
returns c =
    let i = c.self.inside in
    let same : state_of i.parts.forest i.journal ≡ c.args.self.now.state = state-is c.self.view_is ∙ c.sweep.ensures.same in
    state-restarted call_laws lock_laws i.parts i.journal c.self.invariant.0 (none-lives call_laws lock_laws i.parts i.journal c.self.invariant.0 (subst (λ (q : State). refusal_of q Checkpoint ≡ None) (sym same) c.requires))
    c.restart.new.self c.restart.ensures i.parts.tree refl c.terms-terms.result.rule c.terms-terms.ensures.rule c.terms-terms.result.calls c.terms-terms.ensures.calls c.last_stamp-stamp.result c.last_stamp-stamp.ensures.stamp c.new.result c.new.ensures
    ∙ (λ x. after_checkpoint (same x))
