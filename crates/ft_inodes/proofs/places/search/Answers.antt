use Rattle.std.proofs.Common.{◌≡◌, ◌≢◌, ◌<◌, ℕ, Some, get_or, sym, ap, subst, arith, ◌∙◌}
use Rattle.std.proofs.lemmas.Bool.{false≢true}
use Rattle.std.specs.Prelude.{slice_get}
use Rattle.std.specs.Cmp.Lexicographic.{bytes_decides}
use Rattle.ft_inodes.specs.declared.place.Place.{Place}
use Rattle.ft_inodes.specs.Named.{names_in}
use Rattle.ft_inodes.proofs.Seats.{by_same, seat-within}
use Rattle.ft_inodes.proofs.Indexed.{name_read, names-length}
use Rattle.ft_inodes.proofs.places.search.Goals as goal

pub returns-then-eq : goal.returns-then-eq
returns-then-eq c =
    name_read c.args.places.now c.loop-at.at c.index-places-at.result c.loop-at-test.true
    ∙ ap (λ (p : Place). Some p.name) (sym c.index-places-at.is)
    ∙ ap Some ((bytes_decides c.index-places-at.result.name c.args.name.now).0 (sym c.eq.ensures ∙ c.if-eq.true))

pub loop-at-preserved : goal.loop-at-preserved
loop-at-preserved c i lt is = by_same i c.loop-at.at
    (λ same.
    let name = c.index-places-at.result.name in
    let read : slice_get (names_in c.args.places.now) c.loop-at.at ≡ Some name = name_read c.args.places.now c.loop-at.at c.index-places-at.result c.loop-at-test.true ∙ ap (λ (p : Place). Some p.name) (sym c.index-places-at.is) in
    let both : Some name ≡ Some c.args.name.now = sym read ∙ ap (slice_get (names_in c.args.places.now)) (sym same) ∙ is in
    let e : name ≡ c.args.name.now = cc in
    false≢true (sym c.if-eq.false ∙ c.eq.ensures ∙ (bytes_decides name c.args.name.now).1 e))
    (λ other. c.loop-at.invariant i (omega arith) is)

pub returns : goal.returns
returns c i is =
    let lt = seat-within (names_in c.args.places.now) i c.args.name.now is in
    let long = names-length c.args.places.now in
    let end = c.loop-at-test.false in
    c.loop-at.invariant i (omega arith) is
