use Rattle.std.proofs.Common.{arith, sym, ap, subst, ◌∙◌}
use Rattle.std.proofs.lemmas.Bool.{eqb-true}
use Rattle.std.proofs.lemmas.List.{nil_from_length}
use Rattle.ft_paged.specs.Paged.{IsGroup, valued, joined_places, group_places}
use Rattle.ft_paged.proofs.Groups.{group-empty, group-unused}
use Rattle.ft_paged.proofs.group.take_spare.Goals as goal

pub invariant_of-spare : goal.invariant_of-spare
invariant_of-spare g c =
    let none = nil_from_length c.args.pages.now.items (let empty = eqb-true _ 0 (sym c.if-is_empty.ensures) in omega arith) in
    subst (IsGroup c.spare.inside.used) (sym (ap (λ v. v.items) c.swap.ensures.y_after ∙ none))
    (record { whole = tt; few = omega arith; counted = c.spare.invariant.counted ∙ group-unused c.spare.inside.pages.items (c.spare.view_is ∙ c.requires.spare) })

pub returns-then-is_empty-clause-same : goal.returns-then-is_empty-clause-same
returns-then-is_empty-clause-same g c =
    let none = nil_from_length c.args.pages.now.items (let empty = eqb-true _ 0 (sym c.if-is_empty.ensures) in omega arith) in
    ap (λ v. group_places v.items) c.swap.ensures.x_after ∙ c.spare.view_is ∙ c.requires.spare ∙ sym (group-empty c.args.pages.now.items none)

pub returns-then-is_empty-clause-valued : goal.returns-then-is_empty-clause-valued
returns-then-is_empty-clause-valued g c =
    let none = nil_from_length c.args.pages.now.items (let empty = eqb-true _ 0 (sym c.if-is_empty.ensures) in omega arith) in
    ap (λ v. valued (joined_places v.items)) c.swap.ensures.x_after ∙ group-unused c.spare.inside.pages.items (c.spare.view_is ∙ c.requires.spare) ∙ sym (ap (λ ps. valued (joined_places ps)) none)

pub returns-then-is_empty-clause-spare : goal.returns-then-is_empty-clause-spare
returns-then-is_empty-clause-spare g c =
    let none = nil_from_length c.args.pages.now.items (let empty = eqb-true _ 0 (sym c.if-is_empty.ensures) in omega arith) in
    group-empty c.swap.new.y.items (ap (λ v. v.items) c.swap.ensures.y_after ∙ none)
