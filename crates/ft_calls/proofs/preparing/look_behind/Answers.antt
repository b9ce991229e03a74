use Rattle.std.proofs.Common.{◌≡◌, List, [], sym, subst, ap, ◌∙◌, rules}
use Rattle.std.specs.Option.{option_copied}
use Rattle.std.specs.FinMap as finite
use Rattle.ft_posix.specs.declared.intent.Edit.{Edit}
use Rattle.ft_posix.specs.Stored.{outcome}
use Rattle.ft_posix.specs.Accesses.{with_looks}
use Rattle.ft_posix.specs.Edits.{with_edits}
use Rattle.ft_posix.specs.Looking.{Looking}
use Rattle.ft_posix.specs.Computes.{outcome_of}
use Rattle.ft_tree.specs.Fronts.{entries_of}
use Rattle.ft_posix.proofs.Applying.{edits-are-apart, edits-have-places}
use Rattle.ft_posix.proofs.Noting.{accesses-noted}
use Rattle.ft_posix.proofs.Fronted.{accesses-fronted, listed-none}
use Rattle.ft_calls.proofs.preparing.look_behind.Goals as goal

pub returns-clause-accesses : goal.returns-clause-accesses
returns-clause-accesses c =
    let old = c.behind-look.result in
    let mid = c.look-2-1.given.0 in
    let edits = c.edits-1.given.0 in
    let looked : c.plan_or_fail.new.self.look.now ≡ mid = search rules in
    let made : c.plan_or_fail.new.self.edits.now ≡ edits = search rules in
    accesses-fronted (entries_of (option_copied c.args.front)) c.args.tree.now old mid c.args.stamp c.args.call.now (record { told = c.in_ok-told.told; edits = edits }) c.behind-look.ensures
    (subst (λ (es : List Edit). outcome_of old.cells (record { told = c.in_ok-told.told; edits = es }) ≡ outcome old.cells c.args.stamp c.args.call.now) made c.in_ok-told.ensures.outcome)
    (sym looked ∙ c.in_ok-told.ensures.looks)
    c.in_ok-accesses.accesses.items c.in_ok-accesses.ensures.list

pub returns-clause-exact : goal.returns-clause-exact
returns-clause-exact c = λ none.
    let bare = ap entries_of none in
    let old = c.behind-look.result in
    let mid = c.look-2-1.given.0 in
    let edits = c.edits-1.given.0 in
    let looked : c.plan_or_fail.new.self.look.now ≡ mid = search rules in
    let made : c.plan_or_fail.new.self.edits.now ≡ edits = search rules in
    let looks = sym looked ∙ c.in_ok-told.ensures.looks in
    let tree = c.args.tree.now in
    let start : old ≡ record { cells = tree; modes = finite.empty; front = [] } = c.behind-look.ensures ∙ (λ i. record { cells = tree; modes = with_looks finite.empty (bare i); front = bare i }) in
    let same : mid.front ≡ [] = ap (λ (l : Looking). l.front) looks ∙ ap (λ (l : Looking). l.front) start in
    listed-none mid.front (with_edits mid.modes edits) same c.in_ok-accesses.accesses.items c.in_ok-accesses.ensures.list
    ∙ accesses-noted tree old mid c.args.stamp c.args.call.now (record { told = c.in_ok-told.told; edits = edits }) start
    (subst (λ (es : List Edit). outcome_of old.cells (record { told = c.in_ok-told.told; edits = es }) ≡ outcome old.cells c.args.stamp c.args.call.now) made c.in_ok-told.ensures.outcome)
    looks

pub returns-clause-places : goal.returns-clause-places
returns-clause-places c = λ sound.
    let edits = c.edits-1.given.0 in
    let made : c.plan_or_fail.new.self.edits.now ≡ edits = search rules in
    edits-have-places c.args.tree.now c.args.stamp c.args.call.now sound (record { told = c.in_ok-told.told; edits = edits })
    (subst (λ (es : List Edit). outcome_of c.args.tree.now (record { told = c.in_ok-told.told; edits = es }) ≡ outcome c.args.tree.now c.args.stamp c.args.call.now) made
    (subst (λ (l : Looking). outcome_of l.cells (record { told = c.in_ok-told.told; edits = c.plan_or_fail.new.self.edits.now }) ≡ outcome l.cells c.args.stamp c.args.call.now) c.behind-look.ensures c.in_ok-told.ensures.outcome)) c.in_ok-accesses.ensures.within

pub returns-clause-apart : goal.returns-clause-apart
returns-clause-apart c = λ sound.
    let edits = c.edits-1.given.0 in
    let made : c.plan_or_fail.new.self.edits.now ≡ edits = search rules in
    edits-are-apart c.args.tree.now c.args.stamp c.args.call.now sound (record { told = c.in_ok-told.told; edits = edits })
    (subst (λ (es : List Edit). outcome_of c.args.tree.now (record { told = c.in_ok-told.told; edits = es }) ≡ outcome c.args.tree.now c.args.stamp c.args.call.now) made
    (subst (λ (l : Looking). outcome_of l.cells (record { told = c.in_ok-told.told; edits = c.plan_or_fail.new.self.edits.now }) ≡ outcome l.cells c.args.stamp c.args.call.now) c.behind-look.ensures c.in_ok-told.ensures.outcome))
