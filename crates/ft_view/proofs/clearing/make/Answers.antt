use Rattle.std.proofs.Common.{◌≡◌, ◌≢◌, true, sym, ap, subst, ◌∙◌, arith}
use Rattle.std.proofs.lemmas.Bool.{false≢true}
use Rattle.ft_laws.proofs.Tests.{by_test}
use Rattle.ft_cells.specs.declared.cell.Cell.{Cell}
use Rattle.ft_cells.specs.Cells.{Cells}
use Rattle.ft_tree.specs.Sound.{AreSoundCells, IsFree}
use Rattle.ft_tree.specs.Sweep.{is_useless}
use Rattle.ft_tree.specs.Tidy.{tidy}
use Rattle.ft_posix.specs.Outcomes.{Outcome}
use Rattle.ft_posix.specs.Stored.{after, put_all}
use Rattle.ft_posix.proofs.Executed.{tidying}
use Rattle.ft_posix.proofs.Kept.{soundness, freshness}
use Rattle.ft_undo.proofs.Fresh.{no_bytes}
use Rattle.ft_view.specs.Cleared.{DropsMet}
use Rattle.ft_view.proofs.Useless.{left-by-call}
use Rattle.ft_view.proofs.clearing.make.Goals as goal

-- the number is free, so nothing is stored of it
pub prepare-requires : goal.prepare-requires
prepare-requires c = record { fresh = no_bytes c.requires.free }

pub apply-requires : goal.apply-requires
apply-requires c = record { places = c.in_ok-accesses.ensures.places c.requires.readable.sound; apart = c.in_ok-accesses.ensures.apart c.requires.readable.sound }

-- what the edits make of the tree
made-so : (c : goal.After-clear) → c.apply.new.tree ≡ after c.args.tree.now c.args.stamp c.args.call.now
made-so c = c.in_ok-apply.ensures.made ∙ ap (λ (o : Outcome). put_all c.args.tree.now o.writes) c.in_ok-accesses.ensures.outcome

pub returns-clause-made : goal.returns-clause-made
returns-clause-made c = c.clear.ensures.tidy ∙ ap tidy (made-so c) ∙ sym (ap (λ p. p.0) (tidying c.args.tree.now c.args.stamp c.args.call.now c.requires.readable.sound c.requires.free))

-- what is of no use then was so before
left : (c : goal.After-clear) → (x : Cell) → is_useless c.clear.new.tree x ≡ true → is_useless c.args.tree.now x ≡ true
left c =
    let accesses = c.in_ok-accesses.field-0.accesses.items in
    left-by-call c.args.tree.now c.args.stamp c.args.call.now accesses c.requires.readable.sound c.requires.free c.in_ok-accesses.ensures.accesses
    c.clear.new.tree (subst (λ (cells : Cells). DropsMet accesses cells c.clear.new.tree) (made-so c) c.clear.ensures.dropped)

pub returns-clause-readable : goal.returns-clause-readable
returns-clause-readable c = record {
  sound = c.clear.ensures.sound (subst AreSoundCells (sym (made-so c)) (soundness c.args.tree.now c.args.stamp c.args.call.now c.requires.readable.sound c.requires.free));
  free = λ k above.
      let apart : k ≢ c.args.stamp = omega (arith, above, c.requires.below) in
      c.clear.ensures.free k (subst (λ (cells : Cells). IsFree cells k) (sym (made-so c)) (freshness c.args.tree.now c.args.stamp c.args.call.now c.requires.readable.sound c.requires.free k (c.requires.readable.free k above) apart));
  bare = λ x. by_test (is_useless c.clear.new.tree x) (λ k. absurd (false≢true (sym (c.requires.readable.bare x) ∙ left c x k))) (λ k. k);
}
