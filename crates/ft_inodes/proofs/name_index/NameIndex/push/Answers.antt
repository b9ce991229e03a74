use Rattle.std.proofs.Common.{◌≡◌, ◌++◌, ◌∷◌, [], ℕ, length, sym, ap, subst, ◌∙◌}
use Rattle.std.proofs.lemmas.Result.{on_ok_weaker}
use Rattle.std.specs.FinMap.{insert, get}
use Rattle.ft_inodes.specs.Named.{names_in, short_hash, AreIndexed}
use Rattle.ft_inodes.proofs.Indexed.{pushed, next_free, names-length, Have}
use Rattle.ft_inodes.proofs.name_index.NameIndex.push.Goals as goal

pub insert-requires : goal.insert-requires
insert-requires c = ap (get c.args.self.now.keys) (sym (names-length c.args.places.now)) ∙ next_free c.args.self.now.keys c.args.self.now.seed (names_in c.args.places.now) c.requires

pub returns-clause-ok : goal.returns-clause-ok
returns-clause-ok c = on_ok_weaker c.insert.result (λ (is : c.insert.new.self ≡ insert c.args.self.now.keys (length c.args.places.now) c.hash_of-hash.result).
    let made : c.insert.new.self ≡ insert c.args.self.now.keys (length (names_in c.args.places.now)) (short_hash c.args.self.now.seed c.args.name.now) =
    is ∙ (λ i. insert c.args.self.now.keys (sym (names-length c.args.places.now) i) (c.hash_of-hash.ensures i)) in
    subst (λ keys. Have keys c.args.self.now.seed (names_in c.args.places.now ++ c.args.name.now ∷ [])) (sym made) (pushed c.args.self.now.keys c.args.self.now.seed (names_in c.args.places.now) c.requires c.args.name.now))
    c.insert.ensures.ok
