use Rattle.std.proofs.Common.{ℕ, Option, Some, refl, subst, ap, ◌∙◌}
use Rattle.ft_copy.specs.declared.found.Found.{Found}
use Rattle.ft_into.specs.Compares.{IsThere}
use Rattle.ft_into.specs.Views.{names_of, same_of, seen}
use Rattle.ft_into.proofs.Compared.{file_absent, file_there}
use Rattle.ft_into.proofs.comparing.ComparingFileTarget.open.Goals as goal

pub returns-in_default-clause-ok : goal.returns-in_default-clause-ok
returns-in_default-clause-ok g c =
    let tells = g.S.Source.tells c.args.self.now.disk.now in
    let wishes = c.args.self.now.wishes in
    let path = c.args.path.now in
    let old = seen g.S.File.Read.remaining c.args.self.now in
    let names = names_of c.find.new.self in
    let same = same_of g.S.File.Read.remaining in
    let there = subst (λ (there : Option (ℕ × Found)). IsThere tells path old.names there names) c.in_default.is c.in_ok-node.ensures in (
      refl,
      refl,
      file_absent tells wishes path old names c.args.attributes c.in_ok-opening.field-0.step (same c.in_ok-opening.field-0.same) there c.in_ok-opening.ensures.step (ap same c.in_ok-opening.ensures.same),
    )

pub returns-in_ok-opening-in-File-clause-ok : goal.returns-in_ok-opening-in-File-clause-ok
returns-in_ok-opening-in-File-clause-ok g c =
    let tells = g.S.Source.tells c.args.self.now.disk.now in
    let wishes = c.args.self.now.wishes in
    let path = c.args.path.now in
    let old = seen g.S.File.Read.remaining c.args.self.now in
    let names = names_of c.find.new.self in
    let same = same_of g.S.File.Read.remaining in
    let opened = c.in_ok-opening-in-File in
    let there = subst (λ (there : Option (ℕ × Found)). IsThere tells path old.names there names) (c.in-Some.is ∙ ap (λ (here : Found). Some (c.in-Some.node, here)) c.in-File.is) c.in_ok-node.ensures in (
      refl,
      refl,
      file_there tells wishes path old names c.args.attributes c.in-Some.node c.in-File.found (same c.in_ok-same-in-File.same) opened.field-0.step (same opened.field-0.same) there c.in_ok-same-in-File.ensures
          opened.ensures.step (ap same opened.ensures.same),
    )
