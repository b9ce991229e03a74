use Rattle.std.proofs.Common.{◌+◌, ◌-◌, ◌^◌, zero-add, refl, sym, subst, ◌∙◌}
use Rattle.std.specs.FinSet as set
use Rattle.ft_tree.specs.Sweep.{ReleasedCells, places_in}
use Rattle.ft_tree.proofs.Sweeps.{IsSweeping, sweeping-first, sweeping-step, smaller_set, sweeping-clean, clean-none_left, sound-swept, at-count, counted-more}
use Rattle.ft_tree.proofs.tree.Tree.sweep.Goals as goal

pub loop-cell-init : goal.loop-cell-init
loop-cell-init g c = record {
  sweeping = sweeping-first (g.K.Keeps.kept c.args.keeps.now) (g.K.Keeps.released_cells c.args.keeps.now) c.args.self.now;
  kept = refl;
  told = refl;
  count = λ h. sym (zero-add _);
}

pub loop-cell-smaller-in-Some : goal.loop-cell-smaller-in-Some
loop-cell-smaller-in-Some g c = smaller_set (g.K.Keeps.released_cells c.loop-cell.keeps) (g.K.Keeps.released_cells c.take_released.new.self) c.in-Some.cell c.in-Some.ensures.taken c.in-Some.ensures.cell

pub loop-cell-preserved-in-Some : goal.loop-cell-preserved-in-Some
loop-cell-preserved-in-Some g c = record {
  sweeping = sweeping-step (g.K.Keeps.kept c.args.keeps.now) (g.K.Keeps.kept c.take_released.new.self) (g.K.Keeps.released_cells c.args.keeps.now) (g.K.Keeps.released_cells c.loop-cell.keeps) (g.K.Keeps.released_cells c.take_released.new.self) c.args.self.now c.loop-cell.self c.sweep_cell.new.self c.in-Some.cell
      c.loop-cell.invariant.sweeping (c.in-Some.ensures.kept ∙ c.loop-cell.invariant.kept) c.in-Some.ensures.taken c.sweep_cell.ensures.cells;
  kept = c.in-Some.ensures.kept ∙ c.loop-cell.invariant.kept;
  told = c.in-Some.ensures.told ∙ c.loop-cell.invariant.told;
  count = counted-more (2 ^ 64 - 1) c.loop-cell.dropped c.sweep_cell.result c.saturating_add-dropped.result (places_in c.args.self.now) (places_in c.loop-cell.self) (places_in c.sweep_cell.new.self) c.saturating_add-dropped.ensures c.loop-cell.invariant.count
      (at-count (g.K.Keeps.kept c.take_released.new.self) c.loop-cell.self c.in-Some.cell ∙ (λ i. sym c.sweep_cell.ensures.count i + places_in (sym c.sweep_cell.ensures.cells i)));
}

pub loop-cell-smaller-in-Some-2 : goal.loop-cell-smaller-in-Some-2
loop-cell-smaller-in-Some-2 g c = smaller_set (g.K.Keeps.released_cells c.loop-cell.keeps) (g.K.Keeps.released_cells c.take_released.new.self) c.in-Some.cell c.in-Some.ensures.taken c.in-Some.ensures.cell

pub loop-cell-preserved-in-Some-2 : goal.loop-cell-preserved-in-Some-2
loop-cell-preserved-in-Some-2 g c = record {
  sweeping = sweeping-step (g.K.Keeps.kept c.args.keeps.now) (g.K.Keeps.kept c.take_released.new.self) (g.K.Keeps.released_cells c.args.keeps.now) (g.K.Keeps.released_cells c.loop-cell.keeps) (g.K.Keeps.released_cells c.take_released.new.self) c.args.self.now c.loop-cell.self c.sweep_cell.new.self c.in-Some.cell
      c.loop-cell.invariant.sweeping (c.in-Some.ensures.kept ∙ c.loop-cell.invariant.kept) c.in-Some.ensures.taken c.sweep_cell.ensures.cells;
  kept = c.in-Some.ensures.kept ∙ c.loop-cell.invariant.kept;
  told = c.in-Some.ensures.told ∙ c.loop-cell.invariant.told;
  count = counted-more (2 ^ 64 - 1) c.loop-cell.dropped c.sweep_cell.result c.saturating_add-dropped.result (places_in c.args.self.now) (places_in c.loop-cell.self) (places_in c.sweep_cell.new.self) c.saturating_add-dropped.ensures c.loop-cell.invariant.count
      (at-count (g.K.Keeps.kept c.take_released.new.self) c.loop-cell.self c.in-Some.cell ∙ (λ i. sym c.sweep_cell.ensures.count i + places_in (sym c.sweep_cell.ensures.cells i)));
}

pub loop-cell-smaller : goal.loop-cell-smaller
loop-cell-smaller g c = smaller_set (g.K.Keeps.released_cells c.loop-cell.keeps) (g.K.Keeps.released_cells c.take_released.new.self) c.in-Some.cell c.in-Some.ensures.taken c.in-Some.ensures.cell

pub loop-cell-preserved : goal.loop-cell-preserved
loop-cell-preserved g c = record {
  sweeping = sweeping-step (g.K.Keeps.kept c.args.keeps.now) (g.K.Keeps.kept c.take_released.new.self) (g.K.Keeps.released_cells c.args.keeps.now) (g.K.Keeps.released_cells c.loop-cell.keeps) (g.K.Keeps.released_cells c.take_released.new.self) c.args.self.now c.loop-cell.self c.sweep_cell.new.self c.in-Some.cell
      c.loop-cell.invariant.sweeping (c.in-Some.ensures.kept ∙ c.loop-cell.invariant.kept) c.in-Some.ensures.taken c.sweep_cell.ensures.cells;
  kept = c.in-Some.ensures.kept ∙ c.loop-cell.invariant.kept;
  told = c.in-Some.ensures.told ∙ c.loop-cell.invariant.told;
  count = counted-more (2 ^ 64 - 1) c.loop-cell.dropped c.sweep_cell.result c.saturating_add-dropped.result (places_in c.args.self.now) (places_in c.loop-cell.self) (places_in c.sweep_cell.new.self) c.saturating_add-dropped.ensures c.loop-cell.invariant.count
      (at-count (g.K.Keeps.kept c.take_released.new.self) c.loop-cell.self c.in-Some.cell ∙ (λ i. sym c.sweep_cell.ensures.count i + places_in (sym c.sweep_cell.ensures.cells i)));
}

pub returns-clause-swept : goal.returns-clause-swept
returns-clause-swept g c = c.loop-cell.invariant.sweeping.swept

pub returns-clause-clean : goal.returns-clause-clean
returns-clause-clean g c = sweeping-clean (g.K.Keeps.kept c.args.keeps.now) (g.K.Keeps.released_cells c.args.keeps.now) c.args.self.now c.loop-cell.self
    (subst (λ (left : ReleasedCells). IsSweeping (g.K.Keeps.kept c.args.keeps.now) (g.K.Keeps.released_cells c.args.keeps.now) left c.args.self.now c.loop-cell.self) c.in_default.ensures.none.0 c.loop-cell.invariant.sweeping)

pub returns-clause-none_left : goal.returns-clause-none_left
returns-clause-none_left g c = λ all. clean-none_left (g.K.Keeps.kept c.args.keeps.now) (set.contains (g.K.Keeps.released_cells c.args.keeps.now)) c.args.self.now c.loop-cell.self (sweeping-clean (g.K.Keeps.kept c.args.keeps.now) (g.K.Keeps.released_cells c.args.keeps.now) c.args.self.now c.loop-cell.self
    (subst (λ (left : ReleasedCells). IsSweeping (g.K.Keeps.kept c.args.keeps.now) (g.K.Keeps.released_cells c.args.keeps.now) left c.args.self.now c.loop-cell.self) c.in_default.ensures.none.0 c.loop-cell.invariant.sweeping)) all

pub returns-clause-tidy : goal.returns-clause-tidy
returns-clause-tidy g c = c.loop-cell.invariant.sweeping.plain

pub returns-clause-sound : goal.returns-clause-sound
returns-clause-sound g c = sound-swept (g.K.Keeps.kept c.args.keeps.now) c.args.self.now c.loop-cell.self c.loop-cell.invariant.sweeping.swept c.loop-cell.invariant.sweeping.plain

pub returns-clause-told : goal.returns-clause-told
returns-clause-told g c = c.in_default.ensures.none.2 ∙ sym c.in_default.ensures.none.1 ∙ c.loop-cell.invariant.told
