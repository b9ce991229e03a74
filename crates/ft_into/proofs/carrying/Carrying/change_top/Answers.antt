use Rattle.std.proofs.Common.{◌≡◌, ℕ, List, [], ◌∷◌, inl, inr, refl, sym, ap, subst, rules, ◌∙◌}
use Rattle.std.proofs.lemmas.Result.{on_ok_weaker}
use Rattle.ft_into.specs.declared.step.Thing.TheVariants as things
use Rattle.ft_into.specs.Makes as makes
use Rattle.ft_into.proofs.Carried.{makes_one}
use Rattle.ft_into.proofs.carrying.Carrying.change_top.Goals as goal

pub returns-in-None-clause-own : goal.returns-in-None-clause-own
returns-in-None-clause-own g c = ([], inl refl, c.take_next.ensures.maker, sym c.in-None.ensures.none)

pub returns-in-Some-clause-own : goal.returns-in-Some-clause-own
returns-in-Some-clause-own g c =
    let does = g.M.Maker.does in
    let own = makes.Folder c.in-Some.act [] c.args.attributes in
    let root : c.as_slice-path.result.now ≡ [] = search rules in
    on_ok_weaker c.folder.result
    (λ did. (
      own ∷ [],
      inr (c.in-Some.act, refl),
      makes_one does c.args.self.now.maker c.folder.new.self own (subst (λ maker. does maker own c.folder.new.self) c.take_next.ensures.maker (subst (λ (path : List ℕ). does c.take_next.new.self.maker (makes.Folder c.in-Some.act path c.args.attributes) c.folder.new.self) root did)),
      c.in-Some.ensures.some ∙ ap (λ (path : List ℕ). record { act = c.in-Some.act; thing = things.Folder; path = path } ∷ c.take_next.new.self.rest.now) root,
    ))
    c.folder.ensures
