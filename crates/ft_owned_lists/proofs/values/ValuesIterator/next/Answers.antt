use Rattle.std.proofs.Common.{◌∙◌, sym}
use Rattle.ft_base.proofs.Shorter.{shorter}
use Rattle.ft_owned_lists.proofs.ChainWalks.{walk-next}
use Rattle.ft_owned_lists.proofs.values.ValuesIterator.next.Goals as goal

pub returns-clause-steps : goal.returns-clause-steps
returns-clause-steps g c = sym c.self.view_is ∙ walk-next c.self.inside.nodes.now c.self.inside.at c.in_ok-self.field-0 c.in_ok-node.node.now c.self.invariant c.in_ok-self.was (sym c.in_ok-node.ensures)

pub returns-clause-goes : goal.returns-clause-goes
returns-clause-goes g c = record {
  on = λ _. (tt, tt, shorter c.args.self.now _ c.in_ok-node.node.now.value (sym c.self.view_is ∙ walk-next c.self.inside.nodes.now c.self.inside.at c.in_ok-self.field-0 c.in_ok-node.node.now c.self.invariant c.in_ok-self.was (sym c.in_ok-node.ensures)));
  keeps = tt;
  rests = λ _. tt;
}
