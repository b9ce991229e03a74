use Rattle.std.proofs.Common.{Some, inr, set, arith, sym, subst, ◌∙◌}
use Rattle.std.proofs.lemmas.Bool.{false≢true}
use Rattle.std.proofs.lemmas.List.{length-set}
use Rattle.ft_paged.specs.Paged.{IsPage}
use Rattle.ft_paged.proofs.Pages.{has-value, valued-put, valued-again, valued-most, whole-most, none-at, some-at}
use Rattle.ft_paged.proofs.Places.{inside}
use Rattle.ft_paged.proofs.page.Page.insert.Goals as goal
use Rattle.ft_paged.proofs.page.Page.insert.Goals.{then-is_none, else-is_none}

pub returns-in_err-have_places-clause-had : goal.returns-in_err-have_places-clause-had
returns-in_err-have_places-clause-had g c = λ some.
    let within = inside c.self.inside.places.items c.args.place (has-value c.self.inside.places.items c.args.self.now c.args.place c.self.view_is some) in
    absurd (false≢true (c.in_err-have_places.ensures.had (omega arith)))

pub overflow_add-self : goal.overflow_add-self
overflow_add-self g c =
    let counted = c.self.invariant.counted in let most = valued-most c.self.inside.places.items in let whole = whole-most c.self.inside.places.items c.self.invariant.whole in omega arith

pub invariant_of-self-2 : goal.invariant_of-self-2
invariant_of-self-2 g c = let long = c.in_ok-have_places.ensures.there in elim c.if-is_none.branch [
  | then-is_none w ↦ subst (λ s. IsPage s.used (set s.places.items c.args.place (Some c.args.value))) (sym w.self-inside-is)
      (record {
        whole = inr (length-set c.have_places.new.places.items c.args.place (Some c.args.value) ∙ c.in_ok-have_places.ensures.there);
        counted = let more = valued-put c.have_places.new.places.items c.args.place c.args.value (omega arith) (none-at c.have_places.new.places.items c.args.place c.index.result.now (omega arith) c.index.ensures w.if-is_none.ensures) in
            let counted = c.self.invariant.counted in let valued = c.in_ok-have_places.ensures.valued in omega arith;
      })
  | else-is_none w ↦ subst (λ s. IsPage s.used (set s.places.items c.args.place (Some c.args.value))) (sym w.self-inside-is)
      (record {
        whole = inr (length-set c.have_places.new.places.items c.args.place (Some c.args.value) ∙ c.in_ok-have_places.ensures.there);
        counted = let same = valued-again c.have_places.new.places.items c.args.place c.args.value (some-at c.have_places.new.places.items c.args.place c.index.result.now (omega arith) c.index.ensures w.if-is_none.ensures) in
            let counted = c.self.invariant.counted in let valued = c.in_ok-have_places.ensures.valued in omega arith;
      })
]
