use Rattle.std.proofs.Common.{◌≡◌, ◌≤◌, ◌<◌, ◌+◌, ◌++◌, ◌∷◌, [], ℕ, Some, length, take, get_or, sym, ap, subst, arith, ◌∙◌}
use Rattle.std.proofs.lemmas.List.{length-take-le, take_more}
use Rattle.std.specs.Prelude.{slice_get, option_map}
use Rattle.std.specs.Ordering.{nat_cmp}
use Rattle.std.specs.FinMap.{get, insert, get-empty}
use Rattle.ft_inodes.specs.declared.place.Place.{Place}
use Rattle.ft_inodes.specs.Named.{names_in, short_hash}
use Rattle.ft_inodes.proofs.Seats.{seat-past}
use Rattle.ft_inodes.proofs.Indexed.{Have, pushed, names-append, names-length}
use Rattle.ft_inodes.proofs.name_index.NameIndex.of.Goals as goal

pub loop-key-init : goal.loop-key-init
loop-key-init c i = ap (λ keys. get keys i) c.new-keys.ensures ∙ get-empty nat_cmp i

pub insert-requires : goal.insert-requires
insert-requires c =
    let front = take c.loop-key.key c.args.places.now in
    let long = names-length front in let short = length-take-le c.loop-key.key c.args.places.now (let t = c.loop-key-test.true in omega arith) in
    c.loop-key.invariant c.loop-key.key ∙ ap (option_map (short_hash c.args.seed)) (seat-past (names_in front) c.loop-key.key (omega arith))

pub loop-key-preserved : goal.loop-key-preserved
loop-key-preserved c =
    let at = c.loop-key.key in
    let places = c.args.places.now in
    let front = take at places in
    let place = c.index-places-key.result in
    let lt = c.loop-key-test.true in
    let count : length (names_in front) ≡ at = names-length front ∙ length-take-le at places (omega arith) in
    let more : names_in (take (at + 1) places) ≡ names_in front ++ place.name ∷ [] = ap (λ ps. names_in ps) (take_more places at place lt ∙ ap (λ (p : Place). front ++ p ∷ []) (sym c.index-places-key.is)) ∙ names-append front (place ∷ []) in
    let made : c.insert.new.self ≡ insert c.loop-key.keys (length (names_in front)) (short_hash c.args.seed place.name) =
    c.in_ok-insert.ensures.ok ∙ (λ i. insert c.loop-key.keys (sym count i) (c.hash_of.ensures i)) in
    subst (λ names. Have c.insert.new.self c.args.seed names) (sym more) (subst (λ keys. Have keys c.args.seed (names_in front ++ place.name ∷ [])) (sym made) (pushed c.loop-key.keys c.args.seed (names_in front) c.loop-key.invariant place.name))
