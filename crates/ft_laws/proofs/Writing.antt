-- What a list of writes leaves.
use Rattle.std.proofs.Common.{◌≡◌, true, false, ◌||◌, List, [], ◌∷◌, inl, inr, sym, refl, ap, ◌∙◌, subst}
use Rattle.std.proofs.lemmas.Bool.{false≢true, or_cases, or_parts}
use Rattle.ft_laws.specs.Lists.{Each}
use Rattle.ft_laws.specs.Effects.{Write, Effects, SetsCells, is_written, write_all, before}
use Rattle.ft_laws.proofs.Tests.{by_test}

module _ (E : Effects) (laws : SetsCells E) where
  pub write_kept : (ws : List (Write E.Cell E.Value)) (s : E.Store) (x : E.Cell) → is_written E ws x ≡ false → E.cell (write_all E s ws) x ≡ E.cell s x
  write_kept [] s x h = refl
  write_kept (w ∷ ws) s x h =
      let parts = or_parts (E.same_cell w.cell x) (is_written E ws x) h in
      write_kept ws (E.write s w.cell w.value) x parts.1 ∙ laws.cell_kept s w.cell w.value x parts.0

  -- What is written last in a cell doesn't depend on the store.
  last_write : (w : Write E.Cell E.Value) (ws : List (Write E.Cell E.Value)) (s t : E.Store) (x : E.Cell) → E.same_cell w.cell x ≡ true → is_written E ws x ≡ false
      → E.cell (write_all E (E.write s w.cell w.value) ws) x ≡ E.cell (write_all E (E.write t w.cell w.value) ws) x
  last_write w ws s t x here k =
      write_kept ws (E.write s w.cell w.value) x k
      ∙ subst (λ y. E.cell (E.write s w.cell w.value) y ≡ E.cell (E.write t w.cell w.value) y) (laws.same_is w.cell x here) (laws.cell_written s w.cell w.value ∙ sym (laws.cell_written t w.cell w.value))
      ∙ sym (write_kept ws (E.write t w.cell w.value) x k)

  pub write_same : (ws : List (Write E.Cell E.Value)) (s t : E.Store) (x : E.Cell) → is_written E ws x ≡ true → E.cell (write_all E t ws) x ≡ E.cell (write_all E s ws) x
  write_same [] s t x h = absurd (false≢true h)
  write_same (w ∷ ws) s t x h = by_test (is_written E ws x)
      (λ k. write_same ws (E.write s w.cell w.value) (E.write t w.cell w.value) x k)
      (λ k. last_write w ws t s x (elim (or_cases (E.same_cell w.cell x) (is_written E ws x) h) [ inl e ↦ e | inr e ↦ absurd (false≢true (sym k ∙ e)) ]) k)

  pub before_written : (ws : List (Write E.Cell E.Value)) (s : E.Store) (x : E.Cell) → is_written E (before E s ws) x ≡ is_written E ws x
  before_written [] s x = refl
  before_written (w ∷ ws) s x = ap (λ b. E.same_cell w.cell x || b) (before_written ws s x)

  pub before_back : (ws : List (Write E.Cell E.Value)) (s t : E.Store) (x : E.Cell) → is_written E (before E s ws) x ≡ true → E.cell (write_all E t (before E s ws)) x ≡ E.cell s x
  before_back [] s t x h = absurd (false≢true h)
  before_back (w ∷ ws) s t x h = by_test (is_written E (before E s ws) x)
      (λ k. before_back ws s (E.write t w.cell (E.cell s w.cell)) x k)
      (λ k.
      let here : E.same_cell w.cell x ≡ true = elim (or_cases (E.same_cell w.cell x) (is_written E (before E s ws) x) h) [ inl e ↦ e | inr e ↦ absurd (false≢true (sym k ∙ e)) ] in
      write_kept (before E s ws) (E.write t w.cell (E.cell s w.cell)) x k
      ∙ subst (λ y. E.cell (E.write t w.cell (E.cell s w.cell)) y ≡ E.cell s y) (laws.same_is w.cell x here) (laws.cell_written t w.cell (E.cell s w.cell)))

  -- What holds of each cell and value that is written holds of a written cell and the value that
  -- it then has.
  pub written_all : (P : (x : E.Cell) → E.Value x → Type 0) (ws : List (Write E.Cell E.Value)) (s : E.Store) (x : E.Cell) → Each (λ w. P w.cell w.value) ws → is_written E ws x ≡ true → P x (E.cell (write_all E s ws) x)
  written_all P [] s x each h = absurd (false≢true h)
  written_all P (w ∷ ws) s x each h = by_test (is_written E ws x)
      (λ k. written_all P ws (E.write s w.cell w.value) x each.1 k)
      (λ k.
      let here : E.same_cell w.cell x ≡ true = elim (or_cases (E.same_cell w.cell x) (is_written E ws x) h) [ inl e ↦ e | inr e ↦ absurd (false≢true (sym k ∙ e)) ] in
      subst (P x) (sym (write_kept ws (E.write s w.cell w.value) x k))
      (subst (λ y. P y (E.cell (E.write s w.cell w.value) y)) (laws.same_is w.cell x here) (subst (P w.cell) (sym (laws.cell_written s w.cell w.value)) each.0)))
