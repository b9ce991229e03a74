use Rattle.std.proofs.Common.{◌≡◌, ◌<◌, Some, None, ap, sym, subst, arith, length, ◌∙◌}
use Rattle.std.specs.Prelude.{slice_get}
use Rattle.ft_inodes.specs.declared.place.Place.{Place}
use Rattle.ft_inodes.specs.Named.{names_in, entries_in, AreKept, IsFoundAt}
use Rattle.ft_inodes.proofs.Seats.{seat-within}
use Rattle.ft_inodes.proofs.Indexed.{names-length}
use Rattle.ft_inodes.proofs.Mapped.{was_not, map-swapped, swapped-map, apart_less, remove_absent}
use Rattle.ft_inodes.proofs.places.Places.remove.Goals as goal

pub take_out-requires-clause-within : goal.take_out-requires-clause-within
take_out-requires-clause-within c =
    let is = subst (λ places. slice_get (names_in places) c.in-Some.at ≡ Some c.args.name.now) c.deref.ensures.value c.in-Some.ensures in
    let lt = seat-within (names_in c.self.inside.places.items) c.in-Some.at c.args.name.now is in
    let long = names-length c.self.inside.places.items in
    omega arith

pub invariant_of-self : goal.invariant_of-self
invariant_of-self c =
    let old = c.self.inside.places.items in
    let is = subst (λ places. slice_get (names_in places) c.in-Some.at ≡ Some c.args.name.now) c.deref.ensures.value c.in-Some.ensures in
    record {
      apart = apart_less (names_in old) (names_in c.take_out.new.places.items) c.in-Some.at (swapped-map (λ (p : Place). p.name) old c.take_out.new.places.items c.in-Some.at c.take_out.ensures.swapped)
          (seat-within (names_in old) c.in-Some.at c.args.name.now is) c.self.invariant.apart;
      indexed = c.take_out.ensures.kept;
    }

pub returns-in-Some : goal.returns-in-Some
returns-in-Some c =
    let is = subst (λ places. slice_get (names_in places) c.in-Some.at ≡ Some c.args.name.now) c.deref.ensures.value c.in-Some.ensures in
    map-swapped c.self.inside.places.items c.args.self.now c.self.view_is c.self.invariant.apart c.args.name.now c.take_out.new.places.items c.in-Some.at is c.take_out.ensures.swapped

pub returns-in_default : goal.returns-in_default
returns-in_default c =
    let places = c.self.inside.places.items in
    let none = subst (IsFoundAt (names_in places) c.args.name.now) c.in_default.is (subst (λ places. IsFoundAt (names_in places) c.args.name.now c.find.result) c.deref.ensures.value c.find.ensures) in
    remove_absent c.args.self.now c.args.name.now (was_not places c.args.self.now c.self.view_is c.self.invariant.apart c.args.name.now none)
