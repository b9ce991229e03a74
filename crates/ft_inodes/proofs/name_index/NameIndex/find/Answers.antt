use Rattle.std.proofs.Common.{◌≡◌, ◌≢◌, ◌∷◌, ◌<◌, ◌⊎◌, ℕ, List, Some, true, nat_eq, length, get_or, sym, ap, subst, arith, ◌∙◌}
use Rattle.std.proofs.Math.Logic.{inl, inr}
use Rattle.std.proofs.lemmas.Bool.{false≢true}
use Rattle.std.specs.Prelude.{slice_get}
use Rattle.std.specs.List.{Contains}
use Rattle.std.specs.Cmp.Lexicographic.{bytes_decides}
use Rattle.std.specs.FinMap.{get}
use Rattle.ft_inodes.specs.Named.{names_in, short_hash}
use Rattle.ft_inodes.proofs.Seats.{first, later, earlier}
use Rattle.ft_inodes.proofs.Indexed.{indexed_name, name_read, names-length}
use Rattle.ft_inodes.proofs.name_index.NameIndex.find.Goals as goal

-- the key has the name's hash
right_key : (c : goal.In-Some) → get c.args.self.now.keys c.in-Some.key ≡ Some (short_hash c.args.self.now.seed c.args.name.now)
right_key c = c.loop-key.invariant.right c.in-Some.key (subst (λ keys. Contains keys c.in-Some.key) (sym c.in-Some.ensures.steps) (first c.in-Some.key c.next.new.self))

pub bounds-places-key : goal.bounds-places-key
bounds-places-key c =
    let lt = indexed_name c.args.self.now.keys c.args.self.now.seed (names_in c.args.places.now) c.in-Some.key (short_hash c.args.self.now.seed c.args.name.now) c.requires (right_key c) in
    let long = names-length c.args.places.now in omega arith

pub offset_bounds-places-key : goal.offset_bounds-places-key
offset_bounds-places-key c =
    let lt = indexed_name c.args.self.now.keys c.args.self.now.seed (names_in c.args.places.now) c.in-Some.key (short_hash c.args.self.now.seed c.args.name.now) c.requires (right_key c) in
    let long = names-length c.args.places.now in omega arith

pub returns-then-eq : goal.returns-then-eq
returns-then-eq c =
    let place = get_or c.args.places.now c.in-Some.key c.index-places-key.result in
    let lt = indexed_name c.args.self.now.keys c.args.self.now.seed (names_in c.args.places.now) c.in-Some.key (short_hash c.args.self.now.seed c.args.name.now) c.requires (c.loop-key.invariant.right c.in-Some.key (subst (λ keys. Contains keys c.in-Some.key) (sym c.in-Some.ensures.steps) (first c.in-Some.key c.next.new.self))) in
    let long = names-length c.args.places.now in
    name_read c.args.places.now c.in-Some.key c.index-places-key.result (omega arith)
    ∙ ap Some ((bytes_decides place.name c.args.name.now).0 (sym c.eq.ensures ∙ c.if-eq.true))

pub loop-key-preserved : goal.loop-key-preserved
loop-key-preserved c =
    let keys = c.args.self.now.keys in
    let hash = short_hash c.args.self.now.seed c.args.name.now in
    let names = names_in c.args.places.now in
    let here = c.in-Some.key in
    let place = get_or c.args.places.now here c.index-places-key.result in
    let long = names-length c.args.places.now in
    let right = c.loop-key.invariant.right here (subst (λ all. Contains all here) (sym c.in-Some.ensures.steps) (first here c.next.new.self)) in
    let lt = indexed_name keys c.args.self.now.seed names here hash c.requires right in
    let read = name_read c.args.places.now here c.index-places-key.result (omega arith) in
    let differs : slice_get names here ≢ Some c.args.name.now = λ same.
    let e : place.name ≡ c.args.name.now = let s : Some place.name ≡ Some c.args.name.now = sym read ∙ same in cc in
    false≢true (sym c.if-eq.false ∙ c.eq.ensures ∙ (bytes_decides place.name c.args.name.now).1 e) in
    record {
      right = λ key has. c.loop-key.invariant.right key (subst (λ all. Contains all key) (sym c.in-Some.ensures.steps) (later here key c.next.new.self has));
      others = λ key is. elim (c.loop-key.invariant.others key is) as (λ _. Contains c.next.new.self key ⊎ (slice_get names key ≢ Some c.args.name.now)) [
        | inl has ↦ earlier here key c.next.new.self (subst (λ all. Contains all key) c.in-Some.ensures.steps has) (λ same. inr (subst (λ k. slice_get names k ≢ Some c.args.name.now) same differs)) (λ there. inl there)
        | inr apart ↦ inr apart
      ];
    }
