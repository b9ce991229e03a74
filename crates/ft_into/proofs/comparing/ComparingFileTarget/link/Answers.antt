use Rattle.std.proofs.Common.{ℕ, Option, refl, subst}
use Rattle.std.proofs.lemmas.Result.{on_ok_weaker}
use Rattle.ft_copy.specs.declared.found.Found.{Found}
use Rattle.ft_into.specs.Compares.{IsThere}
use Rattle.ft_into.specs.Views.{names_of, seen}
use Rattle.ft_into.proofs.Compared.{link_other}
use Rattle.ft_into.proofs.comparing.ComparingFileTarget.link.Goals as goal

pub returns-in-None-clause-ok : goal.returns-in-None-clause-ok
returns-in-None-clause-ok g c =
    let tells = g.S.Source.tells c.args.self.now.disk.now in
    let wishes = c.args.self.now.wishes in
    let path = c.args.path.now in
    let old = seen g.S.File.Read.remaining c.args.self.now in
    let names = names_of c.find.new.self in
    let there = subst (λ (there : Option (ℕ × Found)). IsThere tells path old.names there names) c.in-Some.is c.in_ok-node.ensures in
    on_ok_weaker c.replace.result
    (λ h. (
      refl,
      refl,
      link_other tells wishes path old names c.args.first.now c.in-Some.node c.in-Some.found h.0 c.replace.new.self.items.items there c.in-None.ensures.none h.1 h.2 h.3,
    ))
    c.replace.ensures
