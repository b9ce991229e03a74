use Rattle.std.proofs.Common.{arith, subst, sym, ap, refl, ◌≤◌, ◌∙◌, [], length, replicate}
use Rattle.std.proofs.lemmas.List.{length-replicate}
use Rattle.std.specs.Vec.{vec_len}
use Rattle.ft_index.specs.declared.index.Index.TheInside.{Inside}
use Rattle.ft_index.specs.Slots.{free, map_of}
use Rattle.ft_index.specs.Probing.{IsIndex}
use Rattle.ft_index.proofs.Growths.{blank_same, blank-replicate}
use Rattle.ft_index.proofs.Indexes.{blank_index}
use Rattle.ft_index.proofs.index.Index.clear.Goals as goal
use Rattle.ft_index.proofs.index.Index.clear.Goals.{then-self, else-self}

pub invariant_of-self : goal.invariant_of-self
invariant_of-self c = elim c.if-self.branch [
  | then-self w ↦ subst (λ (x : Inside). IsIndex x.homes 0 x.slots.items) (sym w.self-inside-is)
      (subst (IsIndex 0 0) (sym w.clear.ensures.items) (blank_index 0 [] (λ i. refl) (omega arith) (omega arith)))
  | else-self w ↦
      let count = vec_len c.self.inside.slots in
      let inside : c.self.inside.homes ≤ length (replicate count free) = let l = length-replicate count free in let n = c.self.inside.slots.ok.0 in let h = c.self.invariant.table.within in omega arith in
      subst (λ (x : Inside). IsIndex x.homes 0 x.slots.items) (sym w.self-inside-is)
      (subst (IsIndex c.self.inside.homes 0) (sym (w.fill.ensures.items (λ _ is. is))) (blank_index c.self.inside.homes (replicate count free) (blank-replicate count) inside c.self.invariant.table.few))
]

pub returns : goal.returns
returns c = elim c.if-self.branch [
  | then-self w ↦ ap (λ (x : Inside). map_of x.slots.items) w.self-inside-is ∙ ap (λ xs. map_of xs) w.clear.ensures.items
  | else-self w ↦ ap (λ (x : Inside). map_of x.slots.items) w.self-inside-is ∙ ap (λ xs. map_of xs) (w.fill.ensures.items (λ _ is. is))
      ∙ blank_same (replicate (vec_len c.self.inside.slots) free) (blank-replicate (vec_len c.self.inside.slots))
]
