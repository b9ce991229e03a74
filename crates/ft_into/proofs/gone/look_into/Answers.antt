use Rattle.std.proofs.Common.{ℕ, List, refl, subst}
use Rattle.ft_copy.specs.declared.found.Found.{Found}
use Rattle.ft_copy.specs.Told.{Finds}
use Rattle.ft_into.proofs.gone.look_into.Goals as goal

pub returns-in_ok-add_inside : goal.returns-in_ok-add_inside
returns-in_ok-add_inside g c =
    let tells = g.S.Source.tells c.args.disk.now in
    let inside = c.in_ok-add_inside.ensures c.in-Folder.folder refl in (
      inside.0,
      subst (λ (found : Found). tells (Finds c.args.place.now.path c.args.place.now.node found)) c.in-Folder.is
          (subst (λ (path : List ℕ). tells (Finds path c.args.place.now.node c.in_ok-found.found)) c.as_slice.ensures c.in_ok-found.ensures.ok),
      inside.1,
      inside.2,
    )
