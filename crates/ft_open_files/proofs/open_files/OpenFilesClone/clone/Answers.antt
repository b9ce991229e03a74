use Rattle.std.proofs.Common.{◌≡◌, ap, ◌∙◌, sym}
use Rattle.ft_open_files.specs.Openings.{openings, described}
use Rattle.ft_open_files.proofs.Clones.{clone-same, clone-same_places}
use Rattle.ft_open_files.proofs.open_files.OpenFilesClone.clone.Goals as goal

pub invariant_of-result : goal.invariant_of-result
invariant_of-result c =
    let places : c.in_ok-places.places ≡ c.self.inside.places = clone-same_places _ c.self.inside.places c.in_ok-places.places c.in_ok-places.ensures.cases (λ y h. absurd h) (λ x h. absurd h) (λ x y h. h) in
    let counts : c.in_ok-counts.counts ≡ c.self.inside.counts = clone-same c.self.inside.counts c.in_ok-counts.counts c.in_ok-counts.ensures.cases in
    λ yes i. ap (λ m. described m i) counts ∙ c.self.invariant yes i ∙ sym (ap (λ m. openings m i) places)

pub returns : goal.returns
returns c =
    let places : c.in_ok-places.places ≡ c.self.inside.places = clone-same_places _ c.self.inside.places c.in_ok-places.places c.in_ok-places.ensures.cases (λ y h. absurd h) (λ x h. absurd h) (λ x y h. h) in
    record { cases = places ∙ c.self.view_is }
