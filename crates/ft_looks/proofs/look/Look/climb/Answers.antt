use Rattle.std.proofs.Common.{◌≡◌, ℕ, suc, ◌+◌, ◌-◌, Bool, true, false, cond, Option, unwrap_or, Ok, sym, ap, ◌∙◌, arith, rules}
use Rattle.std.specs.Prelude.{◌==◌}
use Rattle.ft_cells.specs.declared.cell.Cell.TheVariants.{Parent}
use Rattle.ft_cells.specs.Looks.{Looks, Answer, Look, answer}
use Rattle.ft_tree.specs.Views.{view_of}
use Rattle.ft_posix.specs.Links.{climb}
use Rattle.ft_posix.specs.Looking.{noted, Observes, look_at}
use Rattle.ft_posix.proofs.Looking.{noted-then, answer-on}
use Rattle.ft_looks.proofs.look.Look.climb.Goals as goal

-- a directory that is neither the one that is moved nor the root: the way goes on at its parent
climb-up : (n left i d : ℕ) → left ≡ suc n → (d == i) ≡ false → (d == 1) ≡ false → climb left i d ≡ Look (Parent d) (λ p. climb n i (unwrap_or p 1))
climb-up n left i d is other below =
    let up : Looks Bool = Look (Parent d) (λ p. climb n i (unwrap_or p 1)) in
    ap (λ k. climb k i d) is ∙ ap (λ b. cond b (Answer true) (cond (d == 1) (Answer false) up)) other ∙ ap (λ b. cond b (Answer false) up) below

pub loop-preserved : goal.loop-preserved
loop-preserved c =
    let n = c.directory_count-end.result - (c.loop.counter + 1) in
    let on = climb-up n (c.directory_count-end.result - c.loop.counter) c.args.moved c.loop.at (omega (arith, c.loop-test.true)) (search rules) (search rules) in
    let found : Observes c.loop.self (look_at (Parent c.loop.at)) c.parent.new.self (Ok c.in_ok-parent.field-0) = (c.in_ok-parent.ensures.parent, c.in_ok-parent.ensures.noted) in
    let go : Option ℕ → Looks Bool = λ p. climb n c.args.moved (unwrap_or p 1) in
    record {
      noted =
          ap (λ d. noted c.parent.new.self (climb n c.args.moved d)) c.unwrap_or-at.ensures
          ∙ noted-then c.loop.self (look_at (Parent c.loop.at)) go c.in_ok-parent.field-0 c.parent.new.self found.0 found.1
          ∙ ap (noted c.loop.self) (sym on) ∙ c.loop.invariant.noted;
      met =
          ap (λ d. answer (climb n c.args.moved d) (view_of c.parent.new.self.cells)) c.unwrap_or-at.ensures
          ∙ answer-on c.loop.self (look_at (Parent c.loop.at)) go c.in_ok-parent.field-0 c.parent.new.self found.0 found.1
          ∙ ap (λ s. answer s (view_of c.loop.self.cells)) (sym on) ∙ c.loop.invariant.met;
    }
