use Rattle.std.proofs.Common.{◌<◌, refl, sym, ap, subst, arith}
use Rattle.ft_forest.specs.Transactions.{IsYoungestChild}
use Rattle.ft_forest.specs.Records.{number_at}
use Rattle.ft_forest.specs.Places.{number_of}
use Rattle.ft_forest.proofs.Listing.{AreChildrenTo, after_next, first-children, next-children, all-children, older-nearer, youngest-of, older-of, number-fits, pushed-seen}
use Rattle.ft_forest.proofs.forest.Forest.list_children.Goals as goal

pub loop-next-init : goal.loop-next-init
loop-next-init c =
    let m = c.args.self.now in
    let youngest = youngest-of c.self.inside.limits c.self.inside.base c.self.inside.records c.self.invariant m c.self.view_is c.args.parent in
    first-children m (number_of m c.args.parent) (number_of m c.youngest_of-next.result) c.args.live.now.items (subst (λ o. IsYoungestChild m (number_of m c.args.parent) (number_of m o)) (sym c.youngest_of-next.ensures) youngest) c.requires.once

pub overflow_add-self-inside : goal.overflow_add-self-inside
overflow_add-self-inside c =
    let m = c.args.self.now in
    let listed = subst (λ o. AreChildrenTo m (number_of m c.args.parent) (number_of m o) c.args.live.now.items c.loop-next.live.items) c.in-Some.is c.loop-next.invariant in
    let live = (listed.follows (number_at m.base c.in-Some.place) refl).live in
    let fits = number-fits c.self.inside.limits c.self.inside.base c.self.inside.records c.self.invariant m c.self.view_is c.in-Some.place live in
    let same = ap (λ n. number_at n.base c.in-Some.place) c.self.view_is in
    omega arith

pub overflow_add-self-inside-in-Some : goal.overflow_add-self-inside-in-Some
overflow_add-self-inside-in-Some c =
    let m = c.args.self.now in
    let listed = subst (λ o. AreChildrenTo m (number_of m c.args.parent) (number_of m o) c.args.live.now.items c.loop-next.live.items) c.in-Some.is c.loop-next.invariant in
    let live = (listed.follows (number_at m.base c.in-Some.place) refl).live in
    let fits = number-fits c.self.inside.limits c.self.inside.base c.self.inside.records c.self.invariant m c.self.view_is c.in-Some.place live in
    let same = ap (λ n. number_at n.base c.in-Some.place) c.self.view_is in
    omega arith

pub loop-next-smaller : goal.loop-next-smaller
loop-next-smaller c =
    let m = c.args.self.now in
    let listed = subst (λ o. AreChildrenTo m (number_of m c.args.parent) (number_of m o) c.args.live.now.items c.loop-next.live.items) c.in-Some.is c.loop-next.invariant in
    let live = (listed.follows (number_at m.base c.in-Some.place) refl).live in
    let older = older-of c.self.inside.limits c.self.inside.base c.self.inside.records c.self.invariant m c.self.view_is c.in-Some.place live c.older_of-next.result c.older_of-next.ensures in
    subst (λ o. after_next c.older_of-next.result < after_next o) (sym c.in-Some.is) (older-nearer m c.in-Some.place c.older_of-next.result older)

pub loop-next-preserved : goal.loop-next-preserved
loop-next-preserved c =
    let m = c.args.self.now in
    let listed = subst (λ o. AreChildrenTo m (number_of m c.args.parent) (number_of m o) c.args.live.now.items c.loop-next.live.items) c.in-Some.is c.loop-next.invariant in
    let live = (listed.follows (number_at m.base c.in-Some.place) refl).live in
    let xs = c.loop-next.live.items in
    let older = older-of c.self.inside.limits c.self.inside.base c.self.inside.records c.self.invariant m c.self.view_is c.in-Some.place live c.older_of-next.result c.older_of-next.ensures in
    let pushed = pushed-seen c.self.inside.limits c.self.inside.base c.self.inside.records c.self.invariant m c.self.view_is c.in-Some.place xs c.push.new.self.items c.in_ok-push.ensures.items in
    next-children m (number_of m c.args.parent) (number_at m.base c.in-Some.place) c.args.live.now.items xs listed c.requires.fresh (number_of m c.older_of-next.result) c.push.new.self.items pushed older

pub returns : goal.returns
returns c =
    let m = c.args.self.now in
    all-children m (number_of m c.args.parent) c.args.live.now.items c.loop-next.live.items (subst (λ o. AreChildrenTo m (number_of m c.args.parent) (number_of m o) c.args.live.now.items c.loop-next.live.items) c.in_default.is c.loop-next.invariant)
