use Rattle.std.proofs.Common.{ℕ, Option, refl, subst}
use Rattle.std.proofs.lemmas.Result.{on_ok_weaker}
use Rattle.ft_copy.specs.declared.found.Found.{Found}
use Rattle.ft_into.specs.Compares.{IsThere}
use Rattle.ft_into.specs.Views.{names_of, seen}
use Rattle.ft_into.proofs.Compared.{folder_other, unstated}
use Rattle.ft_into.proofs.comparing.ComparingFileTarget.folder.Goals as goal

pub returns-in_default-found : goal.returns-in_default-found
returns-in_default-found g c =
    let tells = g.S.Source.tells c.args.self.now.disk.now in
    let wishes = c.args.self.now.wishes in
    let path = c.args.path.now in
    let old = seen g.S.File.Read.remaining c.args.self.now in
    let names = names_of c.find.new.self in
    let there = subst (λ (there : Option (ℕ × Found)). IsThere tells path old.names there names) c.in-Some.is c.in_ok-node.ensures in
    record {
      ok = on_ok_weaker c.replace.result
          (λ h. (
            refl,
            refl,
            folder_other tells wishes path old names c.args.attributes c.in-Some.node c.in-Some.found h.0 c.replace.new.self.items.items there c.in_default-found.not-Folder h.1 h.2 h.3,
          ))
          c.replace.ensures;
      err = unstated c.replace.result;
    }
