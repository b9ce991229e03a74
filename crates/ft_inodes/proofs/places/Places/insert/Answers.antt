use Rattle.std.proofs.Common.{◌≡◌, ◌<◌, ◌++◌, ◌∷◌, [], Some, None, IsSome, ap, sym, subst, arith, length, get_or, set, ◌∙◌}
use Rattle.std.proofs.lemmas.Bool.{false≢true}
use Rattle.std.specs.Prelude.{slice_get}
use Rattle.ft_cells.specs.declared.node.Node.{Node}
use Rattle.ft_inodes.specs.declared.place.Place.{Place}
use Rattle.ft_inodes.specs.Named.{Entries, names_in, entries_in, AreKept, AreApart, IsKeptBy, IsFoundAt}
use Rattle.ft_inodes.proofs.Seats.{seat-within}
use Rattle.ft_inodes.proofs.Indexed.{names-length, names-append}
use Rattle.ft_inodes.proofs.Mapped.{was_there, was_not, map-set, map-push, with_child, names-with_child, apart_more}
use Rattle.ft_inodes.proofs.places.Places.insert.Goals as goal

pub invariant_of-self : goal.invariant_of-self
invariant_of-self c =
    let places = c.self.inside.places.items in
    let here = c.index_mut.result.now in
    subst (λ (p : Place). AreKept c.self.inside.index (names_in (set places c.in-Some.at (record { name = p.name; child = c.replace.new.dest })))) (sym c.index_mut.ensures.value)
    (subst (AreKept c.self.inside.index) (sym (names-with_child places c.in-Some.at here c.replace.new.dest)) c.self.invariant)

pub returns-in-Some-clause-was : goal.returns-in-Some-clause-was
returns-in-Some-clause-was c =
    let is = subst (λ places. slice_get (names_in places) c.in-Some.at ≡ Some c.args.name) c.deref.ensures.value c.in-Some.ensures in
    ap (λ o. Some o) c.replace.ensures.value ∙ ap (λ (p : Place). Some p.child) c.index_mut.ensures.value
    ∙ sym (was_there c.self.inside.places.items c.args.self.now c.self.view_is c.self.invariant.apart c.args.name c.in-Some.at c.index_mut.result.now is)

pub returns-in-Some-clause-ok : goal.returns-in-Some-clause-ok
returns-in-Some-clause-ok c =
    let places = c.self.inside.places.items in
    let here = c.index_mut.result.now in
    let is = subst (λ places. slice_get (names_in places) c.in-Some.at ≡ Some c.args.name) c.deref.ensures.value c.in-Some.ensures in
    (λ i. entries_in (set places c.in-Some.at (record { name = (c.index_mut.ensures.value i).name; child = c.replace.ensures.after i })))
    ∙ map-set places c.args.self.now c.self.view_is c.self.invariant.apart c.args.name c.in-Some.at here c.args.child is

-- a name that was not found has no place
pub returns-in_err-reserve-clause-place : goal.returns-in_err-reserve-clause-place
returns-in_err-reserve-clause-place c place =
    let none = subst (IsFoundAt (names_in c.self.inside.places.items) c.args.name) c.in_default.is (subst (λ places. IsFoundAt (names_in places) c.args.name c.find.result) c.deref.ensures.value c.find.ensures) in
    absurd (false≢true (subst IsSome (was_not c.self.inside.places.items c.args.self.now c.self.view_is c.self.invariant.apart c.args.name none) place))

pub returns-in_err-have_index-clause-place : goal.returns-in_err-have_index-clause-place
returns-in_err-have_index-clause-place c place =
    let none = subst (IsFoundAt (names_in c.self.inside.places.items) c.args.name) c.in_default.is (subst (λ places. IsFoundAt (names_in places) c.args.name c.find.result) c.deref.ensures.value c.find.ensures) in
    absurd (false≢true (subst IsSome (was_not c.self.inside.places.items c.args.self.now c.self.view_is c.self.invariant.apart c.args.name none) place))

pub returns-in_err-note_next-clause-place : goal.returns-in_err-note_next-clause-place
returns-in_err-note_next-clause-place c place =
    let none = subst (IsFoundAt (names_in c.self.inside.places.items) c.args.name) c.in_default.is (subst (λ places. IsFoundAt (names_in places) c.args.name c.find.result) c.deref.ensures.value c.find.ensures) in
    absurd (false≢true (subst IsSome (was_not c.self.inside.places.items c.args.self.now c.self.view_is c.self.invariant.apart c.args.name none) place))

pub invariant_of-self-2 : goal.invariant_of-self-2
invariant_of-self-2 c =
    let places = c.self.inside.places.items in
    let place : Place = record { name = c.args.name; child = c.args.child } in
    let none = subst (IsFoundAt (names_in places) c.args.name) c.in_default.is (subst (λ places. IsFoundAt (names_in places) c.args.name c.find.result) c.deref.ensures.value c.find.ensures) in
    let items : c.push_reserved.new.self.items ≡ places ++ place ∷ [] = c.push_reserved.ensures.items ∙ ap (λ xs. xs ++ place ∷ []) c.in_ok-reserve.ensures.items in
    let names : names_in c.push_reserved.new.self.items ≡ names_in places ++ c.args.name ∷ [] = ap (λ xs. names_in xs) items ∙ names-append places (place ∷ []) in
    subst (AreKept c.note_next.new.index) (sym names) (record {
      apart = apart_more (names_in places) c.args.name c.self.invariant.apart none;
      indexed = subst (λ xs. IsKeptBy c.note_next.new.index (names_in xs ++ c.args.name ∷ [])) (c.deref-2.ensures.value ∙ c.in_ok-reserve.ensures.items) c.in_ok-note_next.ensures.ok;
    })

pub returns-clause-was : goal.returns-clause-was
returns-clause-was c =
    let none = subst (IsFoundAt (names_in c.self.inside.places.items) c.args.name) c.in_default.is (subst (λ places. IsFoundAt (names_in places) c.args.name c.find.result) c.deref.ensures.value c.find.ensures) in
    sym (was_not c.self.inside.places.items c.args.self.now c.self.view_is c.self.invariant.apart c.args.name none)

pub returns-clause-ok : goal.returns-clause-ok
returns-clause-ok c =
    let places = c.self.inside.places.items in
    let place : Place = record { name = c.args.name; child = c.args.child } in
    let none = subst (IsFoundAt (names_in places) c.args.name) c.in_default.is (subst (λ places. IsFoundAt (names_in places) c.args.name c.find.result) c.deref.ensures.value c.find.ensures) in
    let items : c.push_reserved.new.self.items ≡ places ++ place ∷ [] = c.push_reserved.ensures.items ∙ ap (λ xs. xs ++ place ∷ []) c.in_ok-reserve.ensures.items in
    ap (λ xs. entries_in xs) items ∙ map-push places c.args.self.now c.self.view_is c.self.invariant.apart c.args.name c.args.child none
