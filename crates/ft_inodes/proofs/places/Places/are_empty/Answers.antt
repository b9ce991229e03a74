use Rattle.std.proofs.Common.{◌≡◌, IsTrue, is_none, subst, sym, ap, ◌∙◌}
use Rattle.std.specs.List.{list_all}
use Rattle.ft_inodes.specs.declared.place.Place.{Place}
use Rattle.ft_inodes.proofs.Ordered.{no_name_in}
use Rattle.ft_inodes.proofs.places.Places.are_empty.Goals as goal

pub returns : goal.returns
returns c =
    let both = no_name_in c.self.inside.places.items c.args.self.now c.self.view_is c.self.invariant.apart in
    let is = c.all_empty.ensures ∙ ap (list_all (λ (place : Place). is_none place.child)) c.deref.ensures.value in
    (λ h. both.0 (subst IsTrue is h), λ h. subst IsTrue (sym is) (both.1 h))
