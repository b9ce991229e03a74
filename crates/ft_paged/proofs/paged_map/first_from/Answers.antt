use Rattle.std.proofs.Common.{◌≡◌, ◌+◌, ◌*◌, [], Some, None, drop, arith, ap, subst, ◌∙◌}
use Rattle.std.proofs.lemmas.List.{get_or_default}
use Rattle.ft_paged.specs.declared.TheConstants.{GROUP_LEN}
use Rattle.ft_paged.specs.Paged.{numbered, joined_places, IsFirstFrom}
use Rattle.ft_paged.proofs.Pages.{joined-length}
use Rattle.ft_paged.proofs.PagedWalks.{group-passed, group-found, none-left}
use Rattle.ft_paged.proofs.paged_map.first_from.Goals as goal

pub returns-in-Some-clause-first : goal.returns-in-Some-clause-first
returns-in-Some-clause-first g c = λ base.
    let groups = c.args.groups.now in
    c.loop-group.invariant.passed base
    ∙ group-found GROUP_LEN groups c.loop-group.group c.loop-group.from c.in-Some.found.0 base c.in-Some.found.1 c.requires.whole c.loop-group-test.true c.loop-group.invariant.within c.in-Some.ensures.place
    (subst (λ xs. IsFirstFrom xs c.loop-group.from (Some c.in-Some.found)) (c.index-groups-group.is ∙ get_or_default groups c.loop-group.group c.index-groups-group.result [] c.loop-group-test.true) c.in-Some.ensures.first)

pub returns-in-Some-clause-number : goal.returns-in-Some-clause-number
returns-in-Some-clause-number g c =
    let few = c.requires.few in let lt = c.loop-group-test.true in let within = c.in-Some.ensures.place in omega arith

pub loop-group-preserved : goal.loop-group-preserved
loop-group-preserved g c = record {
  passed = λ base.
      let groups = c.args.groups.now in
      let next = GROUP_LEN * (c.loop-group.group + 1) in
      let more : next ≡ next + 0 = omega arith in
      c.loop-group.invariant.passed base
      ∙ group-passed GROUP_LEN groups c.loop-group.group c.loop-group.from base c.requires.whole c.loop-group-test.true c.loop-group.invariant.within
      (subst (λ xs. IsFirstFrom xs c.loop-group.from None) (c.index-groups-group.is ∙ get_or_default groups c.loop-group.group c.index-groups-group.result [] c.loop-group-test.true) c.in_default.ensures.first)
      ∙ ap (λ n. numbered (base + n) (drop n (joined_places groups))) more;
  within = omega arith;
}

pub returns-clause-first : goal.returns-clause-first
returns-clause-first g c = λ base.
    let groups = c.args.groups.now in
    let long = joined-length GROUP_LEN groups c.requires.whole in let past = c.loop-group-test.false in
    c.loop-group.invariant.passed base
    ∙ none-left (joined_places groups) (GROUP_LEN * c.loop-group.group + c.loop-group.from) (base + (GROUP_LEN * c.loop-group.group + c.loop-group.from)) (omega arith)
