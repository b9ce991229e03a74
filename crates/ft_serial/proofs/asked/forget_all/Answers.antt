use Rattle.std.proofs.Common.{◌≡◌, ◌+◌, ℕ, suc, Some, List, [], ◌∷◌, ◌++◌, take, refl, sym, ap, ◌∙◌, arith}
use Rattle.std.specs.Prelude.{slice_get}
use Rattle.std.specs.FinMap as finite
use Rattle.std.proofs.lemmas.Option.{slice_get-get_or}
use Rattle.ft_serial.specs.declared.asked.Asked.{Asked}
use Rattle.ft_serial.specs.Walks.{Stamps, without_calls}
use Rattle.ft_serial.proofs.Listing.{take-next}
use Rattle.ft_serial.proofs.asked.forget_all.Goals as goal

-- one call more
one-more : (undone : Stamps) (calls : List Asked) (a : Asked) → without_calls undone (calls ++ a ∷ []) ≡ finite.remove (without_calls undone calls) a.call.stamp
one-more undone [] a = refl
one-more undone (first ∷ calls) a = one-more (finite.remove undone first.call.stamp) calls a

next : (undone : Stamps) (calls : List Asked) (i : ℕ) (a : Asked) → slice_get calls i ≡ Some a → without_calls undone (take (i + 1) calls) ≡ finite.remove (without_calls undone (take i calls)) a.call.stamp
next undone calls i a at =
    let is : i + 1 ≡ suc i = omega arith in
    ap (λ n. without_calls undone (take n calls)) is ∙ ap (without_calls undone) (take-next calls i a at) ∙ one-more undone (take i calls) a

pub loop-asked-preserved : goal.loop-asked-preserved
loop-asked-preserved c =
    let i = c.loop-asked.asked-index in
    let a : Asked = c.asked-item.result in
    c.remove.ensures.after ∙ ap (λ (m : Stamps). finite.remove m a.call.stamp) c.loop-asked.invariant
    ∙ sym (next c.args.undone.now c.args.calls.now i a (slice_get-get_or c.args.calls.now i a c.loop-asked-test.true ∙ ap Some (sym c.asked-item.is)))
