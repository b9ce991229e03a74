use Rattle.std.proofs.Common.{◌≡◌, ◌<◌, Some, None, ap, sym, subst, arith, length, get_or, ◌∙◌}
use Rattle.std.specs.Prelude.{slice_get}
use Rattle.std.specs.Option.{option_copied}
use Rattle.ft_inodes.specs.declared.place.Place.{Place}
use Rattle.ft_inodes.specs.Named.{names_in, IsFoundAt}
use Rattle.ft_inodes.proofs.Seats.{seat-within}
use Rattle.ft_inodes.proofs.Indexed.{names-length}
use Rattle.ft_inodes.proofs.Mapped.{was_there, was_not}
use Rattle.ft_inodes.proofs.places.Places.get.Goals as goal

pub returns-in_err-at : goal.returns-in_err-at
returns-in_err-at c =
    ap (λ o. option_copied o) c.from_residual.ensures
    ∙ sym (was_not c.self.inside.places.items c.args.self.now c.self.view_is c.self.invariant.apart c.args.name.now (subst (λ places. IsFoundAt (names_in places) c.args.name.now None) c.deref.ensures.value c.in_err-at.ensures))

pub index-requires : goal.index-requires
index-requires c =
    let is = subst (λ places. slice_get (names_in places) c.in_ok-at.at ≡ Some c.args.name.now) c.deref.ensures.value c.in_ok-at.ensures in
    let lt = seat-within (names_in c.self.inside.places.items) c.in_ok-at.at c.args.name.now is in
    let long = names-length c.self.inside.places.items in
    let count = c.self.inside.places.ok.0 in
    omega arith

pub returns : goal.returns
returns c =
    let is = subst (λ places. slice_get (names_in places) c.in_ok-at.at ≡ Some c.args.name.now) c.deref.ensures.value c.in_ok-at.ensures in
    ap (λ (p : Place). Some p.child) c.index.ensures ∙ sym (was_there c.self.inside.places.items c.args.self.now c.self.view_is c.self.invariant.apart c.args.name.now c.in_ok-at.at c.index.result.now is)
