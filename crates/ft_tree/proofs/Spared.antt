-- What an entry that is there spares from a sweep: its own place and its directory.
use Rattle.std.proofs.Common.{◌≡◌, Bool, true, false, cond, ◌&&◌, ◌==◌, ◌+◌, Option, Some, None, is_some, is_none, eqb-true, refl, sym, ap, ◌∙◌}
use Rattle.std.proofs.lemmas.Bool.{false≢true}
use Rattle.std.specs.Option.{option_flatten}
use Rattle.std.specs.Ordering.{nat_cmp}
use Rattle.std.specs.Cmp.Lexicographic.{slice_cmp}
use Rattle.std.specs.FinMap.{get, len, get-empty, empty_of_len}
use Rattle.ft_cells.specs.declared.entry.Entry.{Entry as EntryOf}
use Rattle.ft_cells.specs.declared.cell.Cell.{Cell}
use Rattle.ft_cells.specs.declared.cell.Cell.TheVariants.{Entry, Parent}
use Rattle.ft_cells.specs.Cells.{Cells, dir_of, entry_of}
use Rattle.ft_tree.specs.Sweep.{is_useless, is_spare, one_if, drop_spare, swept_at, dropped_at}
use Rattle.ft_tree.specs.Held.{without_place}
use Rattle.ft_cells.proofs.Splits.{by_test, unlike}

no-none : {A : Type 0} (o : Option A) → is_some o ≡ true → is_none o ≡ false
no-none None h = absurd (false≢true h)
no-none (Some x) h = refl

no-right : (a b : Bool) → b ≡ false → (a && b) ≡ false
no-right true b h = h
no-right false b h = refl

no-left : (a b : Bool) → a ≡ false → (a && b) ≡ false
no-left a b h = ap (λ x. x && b) h

module _ (kept : Cell → Bool) (cells : Cells) (e : EntryOf) (there : is_some (entry_of cells e.dir e.name) ≡ true) where
  entry-used : is_useless cells (Entry e) ≡ false
  entry-used = no-right _ _ (no-none _ there)

  dir-used : is_useless cells (Parent e.dir) ≡ false
  dir-used = no-right _ _ (by_test (len (dir_of cells e.dir).entries == 0)
      (λ t. unlike there (ap (λ m. is_some (option_flatten (get m e.name))) (empty_of_len (dir_of cells e.dir).entries (eqb-true (len (dir_of cells e.dir).entries) 0 t)) ∙ ap (λ o. is_some (option_flatten o)) (get-empty (slice_cmp nat_cmp) e.name)))
      (λ f. f))

  no-spare : (c : Cell) → is_useless cells c ≡ false → is_spare kept cells c ≡ false
  no-spare c h = no-left _ _ h

  stays : (c : Cell) → is_spare kept cells c ≡ false → drop_spare kept cells c ≡ cells
  stays c h = ap (λ b. cond b (without_place cells c) cells) h

  entry-stays : drop_spare kept cells (Entry e) ≡ cells
  entry-stays = stays (Entry e) (no-spare (Entry e) entry-used)

  dir-spare : is_spare kept cells (Parent e.dir) ≡ false
  dir-spare = no-spare (Parent e.dir) dir-used

  -- nothing is swept at an entry that is there
  pub swept-there : cells ≡ swept_at kept cells (Entry e)
  swept-there = sym (stays (Parent e.dir) dir-spare) ∙ sym (ap (λ (x : Cells). drop_spare kept x (Parent e.dir)) entry-stays)

  pub none-dropped-there : 0 ≡ dropped_at kept cells (Entry e)
  none-dropped-there = sym (ap (λ b. one_if b + one_if (is_spare kept (drop_spare kept cells (Entry e)) (Parent e.dir))) (no-spare (Entry e) entry-used)
      ∙ ap (λ (x : Cells). one_if false + one_if (is_spare kept x (Parent e.dir))) entry-stays
      ∙ ap (λ b. one_if false + one_if b) dir-spare)
