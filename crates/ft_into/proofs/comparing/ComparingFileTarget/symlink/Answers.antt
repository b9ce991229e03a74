use Rattle.std.proofs.Common.{ℕ, Option, Some, refl, subst, ap, ◌∙◌}
use Rattle.std.proofs.lemmas.Result.{on_ok_weaker}
use Rattle.ft_copy.specs.declared.found.Found.{Found}
use Rattle.ft_into.specs.Compares.{IsThere}
use Rattle.ft_into.specs.Views.{names_of, seen}
use Rattle.ft_into.proofs.Compared.{symlink_changes, symlink_other, symlink_same, unstated}
use Rattle.ft_into.proofs.comparing.ComparingFileTarget.symlink.Goals as goal

pub returns-then-branch-clause-ok : goal.returns-then-branch-clause-ok
returns-then-branch-clause-ok g c =
    let tells = g.S.Source.tells c.args.self.now.disk.now in
    let wishes = c.args.self.now.wishes in
    let path = c.args.path.now in
    let old = seen g.S.File.Read.remaining c.args.self.now in
    let names = names_of c.find.new.self in
    let link = c.in_ok-is_same_link-in-Symlink.ensures in
    let there = subst (λ (there : Option (ℕ × Found)). IsThere tells path old.names there names) (c.in-Some.is ∙ ap (λ (here : Found). Some (c.in-Some.node, here)) c.in-Symlink.is) c.in_ok-node.ensures in (
      refl,
      refl,
      symlink_same tells wishes path old names c.args.to.now c.in-Some.node c.in-Symlink.facts link.0 _ there link.1 (link.2 c.if-branch.true) c.in_ok-note-in-Symlink.ensures,
    )

pub returns-else-branch-clause-ok : goal.returns-else-branch-clause-ok
returns-else-branch-clause-ok g c =
    let tells = g.S.Source.tells c.args.self.now.disk.now in
    let wishes = c.args.self.now.wishes in
    let path = c.args.path.now in
    let old = seen g.S.File.Read.remaining c.args.self.now in
    let names = names_of c.find.new.self in
    let link = c.in_ok-is_same_link-in-Symlink.ensures in
    let there = subst (λ (there : Option (ℕ × Found)). IsThere tells path old.names there names) (c.in-Some.is ∙ ap (λ (here : Found). Some (c.in-Some.node, here)) c.in-Symlink.is) c.in_ok-node.ensures in
    on_ok_weaker c.push-in-Symlink.result
    (λ h. (refl, refl, symlink_changes tells wishes path old names c.args.to.now c.in-Some.node c.in-Symlink.facts link.0 c.push-in-Symlink.new.self.items.items there link.1 (link.3 c.if-branch.false) h))
    c.push-in-Symlink.ensures

pub returns-in_default-found : goal.returns-in_default-found
returns-in_default-found g c =
    let tells = g.S.Source.tells c.args.self.now.disk.now in
    let wishes = c.args.self.now.wishes in
    let path = c.args.path.now in
    let old = seen g.S.File.Read.remaining c.args.self.now in
    let names = names_of c.find.new.self in
    let there = subst (λ (there : Option (ℕ × Found)). IsThere tells path old.names there names) c.in-Some.is c.in_ok-node.ensures in
    record {
      ok = on_ok_weaker c.replace.result
          (λ h. (
            refl,
            refl,
            symlink_other tells wishes path old names c.args.to.now c.in-Some.node c.in-Some.found h.0 c.replace.new.self.items.items there c.in_default-found.not-Symlink h.1 h.2 h.3,
          ))
          c.replace.ensures;
      err = unstated c.replace.result;
    }
