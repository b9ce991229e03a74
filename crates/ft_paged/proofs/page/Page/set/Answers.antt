use Rattle.std.proofs.Common.{Some, inr, set, arith, ap, sym, ◌∙◌}
use Rattle.std.proofs.lemmas.List.{length-set}
use Rattle.ft_paged.proofs.Pages.{all-set, has-value, has-places, valued-again}
use Rattle.ft_paged.proofs.Places.{inside}
use Rattle.ft_paged.proofs.page.Page.set.Goals as goal

pub index_mut-requires : goal.index_mut-requires
index_mut-requires g c = let within = inside c.self.inside.places.items c.args.place (has-value c.self.inside.places.items c.args.self.now c.args.place c.self.view_is c.requires) in omega arith

pub invariant_of-self : goal.invariant_of-self
invariant_of-self g c =
    let some = has-value c.self.inside.places.items c.args.self.now c.args.place c.self.view_is c.requires in
    record {
      whole = inr (length-set c.self.inside.places.items c.args.place (Some c.args.value) ∙ has-places c.self.inside.places.items c.args.place c.self.invariant.whole some);
      counted = c.self.invariant.counted ∙ sym (valued-again c.self.inside.places.items c.args.place c.args.value some);
    }

pub returns : goal.returns
returns g c =
    let some = has-value c.self.inside.places.items c.args.self.now c.args.place c.self.view_is c.requires in
    all-set c.self.inside.places.items c.args.place (Some c.args.value) (has-places c.self.inside.places.items c.args.place c.self.invariant.whole some)
    ∙ ap (λ xs. set xs c.args.place (Some c.args.value)) c.self.view_is
