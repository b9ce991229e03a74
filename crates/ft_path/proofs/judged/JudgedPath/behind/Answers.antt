use Rattle.std.proofs.Common.{subst}
use Rattle.std.proofs.lemmas.Bool.Decides.{Decides-eqb}
use Rattle.std.proofs.lemmas.Slice.Eq.{strip_prefix_is}
use Rattle.std.specs.Prelude.{nat_eq, Some}
use Rattle.ft_path.specs.declared.path.Parts.{Parts}
use Rattle.ft_path.specs.Judged.{IsBehind}
use Rattle.ft_path.proofs.Behind.{parts_at, goes_on, still_judged}
use Rattle.ft_path.proofs.judged.JudgedPath.behind.Goals as goal

pub invariant_of-result : goal.invariant_of-result
invariant_of-result c =
    let whole = strip_prefix_is {E = nat_eq} Decides-eqb c.self.inside.bytes.now c.args.front.now (Some c.in_ok-rest.rest) c.in_ok-rest.ensures.cases in
    still_judged c.args.front.now c.in_ok-rest.rest.now c.self.inside.bytes.now c.in_ok-first.field-0.now c.requires whole c.in_ok-first.ensures.value c.if-branch-eq47.false c.self.invariant.0 c.self.invariant.1

pub returns : goal.returns
returns c =
    let whole = strip_prefix_is {E = nat_eq} Decides-eqb c.self.inside.bytes.now c.args.front.now (Some c.in_ok-rest.rest) c.in_ok-rest.ensures.cases in
    subst (λ (all : Parts). IsBehind c.args.front.now (parts_at c.in_ok-rest.rest.now) all) c.self.view_is
    (goes_on c.args.front.now c.in_ok-rest.rest.now c.self.inside.bytes.now c.in_ok-first.field-0.now c.requires whole c.in_ok-first.ensures.value c.if-branch-eq47.false)
