use Rattle.std.proofs.Common.{sym, subst}
use Rattle.std.proofs.lemmas.Simd.{map-map}
use Rattle.std.proofs.lemmas.List.Sorted.{IsPermutation-trans, IsPermutation-map}
use Rattle.std.specs.List.Sorted.{IsPermutation, IsNonDecreasing}
use Rattle.std.specs.FinMap.{entries}
use Rattle.ft_base.proofs.Orders.{entries-seen, sorted-seen, rising_numbers}
use Rattle.ft_base.proofs.table.Table.sorted.Goals as goal

pub returns : goal.returns
returns g c =
    let here = subst (IsPermutation (entries c.args.self.now)) (sym c.in_ok-pairs.ensures.pairs) (entries-seen c.self.inside.map.entries c.args.self.now c.self.view_is c.in_ok-pairs.ensures.apart) in
    sorted-seen c.args.self.now _
    (IsPermutation-trans _ _ _ here (IsPermutation-map (λ pair. (pair.0, pair.1.now)) _ _ c.sort_by_number.ensures.same))
    (subst IsNonDecreasing (sym (map-map _ _ _)) (rising_numbers (λ pair. pair.0) _ c.sort_by_number.ensures.rising))
