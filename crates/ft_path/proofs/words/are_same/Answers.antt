use Rattle.std.proofs.Common.{◌∙◌, sym, ap, drop}
use Rattle.std.proofs.lemmas.Bool.{false≢true}
use Rattle.std.proofs.lemmas.Bool.Decides.{Decides-eqb}
use Rattle.ft_path.specs.Front.{front_of}
use Rattle.ft_path.proofs.Compared.{place_same}
use Rattle.ft_path.proofs.words.are_same.Goals.{then-first_eight, else-first_eight}
use Rattle.ft_path.proofs.words.are_same.Goals as goal

pub returns-then-second_eight : goal.returns-then-second_eight
returns-then-second_eight c = elim c.if-first_eight.branch [
  | then-first_eight w ↦ (
    λ last. place_same _ _ c.told-place c.told-other c.fits-place c.fits-other
        (sym c.first_eight.ensures ∙ w.if-first_eight.true ∙ c.first_eight-2.ensures)
        (sym w.second_eight.ensures ∙ (Decides-eqb _ _).0 (sym w.value-is ∙ c.if-second_eight.true) ∙ w.second_eight-then-first_eight.ensures)
        (sym c.last_eight.ensures ∙ (Decides-eqb _ _).0 last ∙ c.last_eight-then-second_eight.ensures),
    λ same. (Decides-eqb _ _).1 (c.last_eight.ensures ∙ ap (λ place. front_of (drop 14 place)) same ∙ sym c.last_eight-then-second_eight.ensures),
  )
  | else-first_eight w ↦ absurd (w.if-first_eight.false ((Decides-eqb _ _).0 (sym w.value-is ∙ c.if-second_eight.true)))
]

pub returns-else-second_eight : goal.returns-else-second_eight
returns-else-second_eight c = elim c.if-first_eight.branch [
  | then-first_eight w ↦ (
    λ all. absurd (false≢true (sym c.if-second_eight.false ∙ all)),
    λ same. w.value-is ∙ (Decides-eqb _ _).1 (w.second_eight.ensures ∙ ap (λ place. front_of (drop 8 place)) same ∙ sym w.second_eight-then-first_eight.ensures),
  )
  | else-first_eight w ↦ (
    λ all. absurd (false≢true (sym c.if-second_eight.false ∙ all)),
    λ same. absurd (w.if-first_eight.false (c.first_eight.ensures ∙ ap front_of same ∙ sym c.first_eight-2.ensures)),
  )
]
