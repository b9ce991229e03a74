use Rattle.std.proofs.Common.{◌∙◌, ap, []}
use Rattle.std.specs.FinMap as finite
use Rattle.ft_owned_lists.specs.OwnedLists.{list_in}
use Rattle.ft_owned_lists.proofs.ChainCalls.{open-ends, cleared, made-in}
use Rattle.ft_owned_lists.proofs.owned_lists.OwnedLists.clear.Goals as goal

pub set-requires : goal.set-requires
set-requires g c = open-ends c.self.inside.nodes c.self.inside.ends c.self.invariant c.args.self.now c.self.view_is c.args.owner c.requires.open

pub invariant_of-self : goal.invariant_of-self
invariant_of-self g c =
    let made = cleared c.self.inside.nodes c.self.inside.ends c.self.invariant c.clear.new.self c.args.owner (λ q ne. ap (λ m. list_in m q) c.self.view_is ∙ c.requires.alone q ne) in
    (made-in _ _ _ _ c.set.ensures made).sound

pub returns : goal.returns
returns g c =
    let made = cleared c.self.inside.nodes c.self.inside.ends c.self.invariant c.clear.new.self c.args.owner (λ q ne. ap (λ m. list_in m q) c.self.view_is ∙ c.requires.alone q ne) in
    (made-in _ _ _ _ c.set.ensures made).is ∙ ap (λ m. finite.insert m c.args.owner []) c.self.view_is
