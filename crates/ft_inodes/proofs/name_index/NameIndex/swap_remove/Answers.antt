use Rattle.std.proofs.Common.{◌≡◌, ◌-◌, ◌<◌, ◌≤◌, ◌+◌, ℕ, List, Some, length, get_or, sym, ap, subst, arith, ◌∙◌}
use Rattle.std.specs.Prelude.{slice_get}
use Rattle.std.specs.FinMap.{insert, remove, get}
use Rattle.ft_inodes.specs.Named.{names_in, short_hash, IsSwapped}
use Rattle.ft_inodes.proofs.Seats.{gone-here, gone-other}
use Rattle.ft_inodes.proofs.Indexed.{popped, swapped_out, has_hash, name_read, names-length, Have}
use Rattle.ft_inodes.proofs.name_index.NameIndex.swap_remove.Goals as goal

pub remove-requires : goal.remove-requires
remove-requires c =
    has_hash c.args.self.now.keys c.args.self.now.seed (names_in c.args.places.now) c.requires.indexed c.args.at (get_or c.args.places.now c.args.at c.index-places-at.result).name
    (name_read c.args.places.now c.args.at c.index-places-at.result c.requires.within)
    ∙ ap Some (sym c.hash_of.ensures)

pub rekey-requires-clause-from : goal.rekey-requires-clause-from
rekey-requires-clause-from c =
    let last = length c.args.places.now - 1 in
    ap (λ keys. get keys last) c.remove.ensures ∙ gone-other c.args.self.now.keys c.args.at last (λ e. let lt = c.if-at-last.true in omega arith)
    ∙ has_hash c.args.self.now.keys c.args.self.now.seed (names_in c.args.places.now) c.requires.indexed last (get_or c.args.places.now last c.index-places-last.result).name
    (name_read c.args.places.now last c.index-places-last.result (let lt = c.if-at-last.true in omega arith))
    ∙ ap Some (sym c.hash_of-then-at-last.ensures)

pub rekey-requires-clause-to : goal.rekey-requires-clause-to
rekey-requires-clause-to c = ap (λ keys. get keys c.args.at) c.remove.ensures ∙ gone-here c.args.self.now.keys c.args.at

pub returns-then-at-last : goal.returns-then-at-last
returns-then-at-last c names swapped =
    let places = c.args.places.now in
    let last = length places - 1 in
    let name = (get_or places last c.index-places-last.result).name in
    let lt = c.if-at-last.true in
    let long = names-length places in
    subst (λ keys. Have keys c.args.self.now.seed names) (sym (c.rekey.ensures ∙ (λ i. insert (remove (c.remove.ensures i) last) c.args.at (c.hash_of-then-at-last.ensures i))))
    (swapped_out c.args.self.now.keys c.args.self.now.seed (names_in places) c.requires.indexed names c.args.at last name lt (omega arith)
    (name_read places last c.index-places-last.result (omega arith)) swapped)

pub returns-else-at-last : goal.returns-else-at-last
returns-else-at-last c names swapped =
    let long = names-length c.args.places.now in
    subst (λ keys. Have keys c.args.self.now.seed names) (sym c.remove.ensures)
    (popped c.args.self.now.keys c.args.self.now.seed (names_in c.args.places.now) c.requires.indexed names c.args.at (let w = c.requires.within in omega arith) (let f = c.if-at-last.false in omega arith) swapped)
