use Rattle.std.proofs.Common.{◌||◌, sym, ap, ◌∙◌}
use Rattle.ft_posix.specs.Posix.{posix_calls}
use Rattle.ft_history.specs.History.{is_gone}
use Rattle.ft_core.specs.States.{history}
use Rattle.ft_serial.proofs.Reaching.{is-forest, top-of-child, child-gone, top-gone}
use Rattle.ft_serial.proofs.top_level.find_top.Goals as goal
use Rattle.ft_serial.proofs.top_level.find_top.Goals.{then-is_gone-2, else-is_gone-2}

pub loop-parent-smaller-then-is_gone : goal.loop-parent-smaller-then-is_gone
loop-parent-smaller-then-is_gone c = is-forest c.args.core.now c.requires c.loop-parent.top c.in-Some.parent (sym c.in-Some.ensures)

pub loop-parent-smaller : goal.loop-parent-smaller
loop-parent-smaller c = is-forest c.args.core.now c.requires c.loop-parent.top c.in-Some.parent (sym c.in-Some.ensures)

pub loop-parent-preserved-then-is_gone : goal.loop-parent-preserved-then-is_gone
loop-parent-preserved-then-is_gone c =
    let up = sym c.in-Some.ensures in
    record {
      top = sym (top-of-child c.args.core.now c.requires c.loop-parent.top c.in-Some.parent up) ∙ c.loop-parent.invariant.top;
      gone =
          c.loop-parent.invariant.gone ∙ ap (λ b. b || is_gone posix_calls (history c.args.core.now.state) c.loop-parent.top) c.if-is_gone.true
          ∙ sym (ap (λ b. b || is_gone posix_calls (history c.args.core.now.state) c.in-Some.parent) c.if-is_gone.true);
    }

pub loop-parent-preserved : goal.loop-parent-preserved
loop-parent-preserved c =
    let up = sym c.in-Some.ensures in
    record {
      top = sym (top-of-child c.args.core.now c.requires c.loop-parent.top c.in-Some.parent up) ∙ c.loop-parent.invariant.top;
      gone =
          c.loop-parent.invariant.gone ∙ ap (λ b. b || is_gone posix_calls (history c.args.core.now.state) c.loop-parent.top) c.if-is_gone.false
          ∙ child-gone c.args.core.now c.requires c.loop-parent.top c.in-Some.parent up
          ∙ ap (λ b. b || is_gone posix_calls (history c.args.core.now.state) c.in-Some.parent) (sym c.is_aborted-is_gone.ensures);
    }

pub returns-clause-gone : goal.returns-clause-gone
returns-clause-gone c =
    let h = history c.args.core.now.state in
    elim c.if-is_gone-2.branch [
      | then-is_gone-2 w ↦ (w.is_gone-is ∙ w.if-is_gone-2.true) ∙ sym (c.loop-parent.invariant.gone ∙ ap (λ b. b || is_gone posix_calls h c.loop-parent.top) w.if-is_gone-2.true)
      | else-is_gone-2 w ↦
          (w.is_gone-is ∙ w.is_aborted-is_gone-else-is_gone-2.ensures)
          ∙ sym (c.loop-parent.invariant.gone ∙ ap (λ b. b || is_gone posix_calls h c.loop-parent.top) w.if-is_gone-2.false
          ∙ top-gone c.args.core.now c.requires c.loop-parent.top (sym c.parent.ensures ∙ c.in_default.is))
    ]
