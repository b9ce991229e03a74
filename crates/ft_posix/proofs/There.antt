-- Only directories that are there have attributes, and writes leave it so.
use Rattle.std.proofs.Common.{◌≡◌, ℕ, Bool, true, false, cond, ◌||◌, List, [], ◌∷◌, Option, Some, None, is_some, eqb-true, eq-eqb, refl, sym, ap, ◌∙◌}
use Rattle.std.specs.Prelude.{◌==◌}
use Rattle.std.proofs.lemmas.Option.{none-some}
use Rattle.std.proofs.Math.Bool.{or-true}
use Rattle.ft_cells.specs.Entries.{entry_at}
use Rattle.ft_cells.specs.declared.attributes.Attributes.{Attributes}
use Rattle.ft_cells.specs.declared.cell.Cell.TheVariants as cell
use Rattle.ft_cells.specs.Cells.{Cells, parent_of, dir_attributes_of}
use Rattle.ft_tree.specs.Sound.{Hangs, the_root, under, AreSoundCells}
use Rattle.ft_posix.specs.Outcomes.{Write, sets, Outcome}
use Rattle.ft_posix.specs.Attributes.{dir_mode, file_mode}
use Rattle.ft_posix.specs.Links as steps
use Rattle.ft_posix.proofs.Puts.{with_parent, with_value, parent_set, parent_after, dir_attributes_set, dir_attributes_after}
use Rattle.ft_posix.proofs.Free.{has_dir-parent}
use Rattle.ft_posix.proofs.Changes.{FileWrite, AreFileWrites, sets_contents, sets_file_attributes, sets_dir_attributes, closes, sets_open, Change, no_change, makes, removes, creates_file, creates_link, links_file, unlinks, moves_file, replaces_file, moves_dir, replaces_dir, on_files, made, removed}

-- the root is a directory, and so is what has a parent
abbrev pub is_dir : (ℕ → Option ℕ) → ℕ → Bool
is_dir parent d = (d == 1) || is_some (parent d)

-- what hangs below the root is one
pub dir-hangs : (parent : ℕ → Option ℕ) (d : ℕ) → Hangs parent d → is_dir parent d ≡ true
dir-hangs parent _ the_root = refl
dir-hangs parent _ (under d p h up) = ap (λ o. (d == 1) || is_some o) h ∙ or-true (d == 1)

-- a directory that has attributes is there
abbrev pub AreThere : (ℕ → Option ℕ) → (ℕ → Option Attributes) → Type 0
AreThere parent attributes = (d : ℕ) (a : Attributes) → attributes d ≡ Some a → is_dir parent d ≡ true

-- so it is after each of the writes
abbrev pub StayThere : (ℕ → Option ℕ) → (ℕ → Option Attributes) → List Write → Type 0
StayThere parent attributes [] = Unit {0}
StayThere parent attributes (w ∷ ws) =
    AreThere (parent_set parent w.cell w.value) (dir_attributes_set attributes w.cell w.value) × StayThere (parent_set parent w.cell w.value) (dir_attributes_set attributes w.cell w.value) ws

-- and after all of them
pub there-after : (ws : List Write) (parent : ℕ → Option ℕ) (attributes : ℕ → Option Attributes) → AreThere parent attributes → StayThere parent attributes ws → AreThere (parent_after parent ws) (dir_attributes_after attributes ws)
there-after [] parent attributes h stay = h
there-after (w ∷ ws) parent attributes h stay = there-after ws (parent_set parent w.cell w.value) (dir_attributes_set attributes w.cell w.value) stay.0 stay.1

-- so it is in sound cells
pub cells-there : (cells : Cells) → AreSoundCells cells → AreThere (parent_of cells) (dir_attributes_of cells)
cells-there cells sound d a is = sym (has_dir-parent cells sound.root_is d) ∙ sound.attributes d a is

module _ (parent : ℕ → Option ℕ) (attributes : ℕ → Option Attributes) (h : AreThere parent attributes) where
  -- a directory that gets a parent is there
  pub there-parent : (i e : ℕ) → AreThere (with_parent parent i (Some e)) attributes
  there-parent i e d a is = by_number (d == i)
    where
      by_number : (b : Bool) → ((d == 1) || is_some (cond b (Some e) (parent d))) ≡ true
      by_number true = or-true (d == 1)
      by_number false = h d a is

  -- one that has no attributes may go
  pub there-gone : (i : ℕ) → attributes i ≡ None → AreThere (with_parent parent i None) attributes
  there-gone i none d a is = by_number (d == i) refl
    where
      by_number : (b : Bool) → (d == i) ≡ b → ((d == 1) || is_some (cond b None (parent d))) ≡ true
      by_number true at = absurd (none-some a (sym (ap attributes (eqb-true d i at) ∙ none) ∙ is))
      by_number false at = h d a is

  -- the attributes of one that is there may be set
  pub there-set : (i : ℕ) (to : Option Attributes) → is_dir parent i ≡ true → AreThere parent (with_value attributes i to)
  there-set i to there d a is = by_number (d == i) refl is
    where
      by_number : (b : Bool) → (d == i) ≡ b → cond b to (attributes d) ≡ Some a → is_dir parent d ≡ true
      by_number true at is = ap (is_dir parent) (eqb-true d i at) ∙ there
      by_number false at is = h d a is

  -- and those of any may be taken away
  pub there-none : (i : ℕ) → AreThere parent (with_value attributes i None)
  there-none i d a is = by_number (d == i) is
    where
      by_number : (b : Bool) → cond b None (attributes d) ≡ Some a → is_dir parent d ≡ true
      by_number true is = absurd (none-some a is)
      by_number false is = h d a is

-- what is taken away is gone
none-here : (attributes : ℕ → Option Attributes) (i : ℕ) → with_value attributes i None i ≡ None
none-here attributes i = ap (λ b. cond b None (attributes i)) (eq-eqb i i refl)

module _ (parent : ℕ → Option ℕ) (attributes : ℕ → Option Attributes) (h : AreThere parent attributes) where
  -- a directory that is there gets a mode
  pub stay-dir_mode : (k : ℕ) (mode : Option ℕ) → is_dir parent k ≡ true → StayThere parent attributes (dir_mode k mode)
  stay-dir_mode k None there = tt
  stay-dir_mode k (Some mode) there = (there-set parent attributes h k _ there, tt)

  -- a file's is no matter
  pub stay-file_mode : (k : ℕ) (mode : Option ℕ) → StayThere parent attributes (file_mode k mode)
  stay-file_mode k None = tt
  stay-file_mode k (Some mode) = (h, tt)

  -- a directory goes without its attributes
  pub stay-gone : (i : ℕ) (ws : List Write) → (AreThere (with_parent parent i None) (with_value attributes i None) → StayThere (with_parent parent i None) (with_value attributes i None) ws)
      → StayThere parent attributes (sets (cell.DirAttributes i) None ∷ sets (cell.Parent i) None ∷ ws)
  stay-gone i ws more =
      let none = there-none parent attributes h i in
      let gone = there-gone parent (with_value attributes i None) none i (none-here attributes i) in
      (none, (gone, more gone))

  -- one that is moved gets another parent, or none
  pub stay-hung : (i d e : ℕ) → StayThere parent attributes (steps.with_parent i d e)
  stay-hung i d e = elim (d == e) as (λ b. StayThere parent attributes (cond b [] (sets (cell.Parent i) (Some e) ∷ []))) [ true ↦ tt | false ↦ (there-parent parent attributes h i e, tt) ]

-- each of a list of writes that set no parent
pub stay-files : (cells : Cells) (k : ℕ) (ws : List Write) → AreFileWrites cells k ws → (attributes : ℕ → Option Attributes) → AreThere (parent_of cells) attributes → StayThere (parent_of cells) attributes ws
stay-files cells k [] each attributes h = tt
stay-files cells k (w ∷ ws) each attributes h = one w each.0 (λ more there. stay-files cells k ws each.1 more there)
  where
    one : (w : Write) → FileWrite cells k w → ((more : ℕ → Option Attributes) → AreThere (parent_of cells) more → StayThere (parent_of cells) more ws) → StayThere (parent_of cells) attributes (w ∷ ws)
    one _ (sets_contents i contents named) rest = (h, rest attributes h)
    one _ (sets_file_attributes i to named) rest = (h, rest attributes h)
    one _ (sets_dir_attributes d to hangs) rest = let there = there-set (parent_of cells) attributes h d to (dir-hangs (parent_of cells) d hangs) in (there, rest (with_value attributes d to) there)
    one _ (closes f o is) rest = (h, rest attributes h)
    one _ (sets_open f o named at) rest = (h, rest attributes h)

module _ (cells : Cells) (sound : AreSoundCells cells) where
  there : AreThere (parent_of cells) (dir_attributes_of cells)
  there = cells-there cells sound

  -- a directory k that is made
  pub stay-made : (k : ℕ) (mode : Option ℕ) (d : ℕ) (name : List ℕ) → StayThere (parent_of cells) (dir_attributes_of cells) (made k mode d name).writes
  stay-made k mode d name =
      let new = there-parent (parent_of cells) (dir_attributes_of cells) there k d in
      let own : is_dir (with_parent (parent_of cells) k (Some d)) k ≡ true = ap (λ b. (k == 1) || is_some (cond b (Some d) (parent_of cells k))) (eq-eqb k k refl) ∙ or-true (k == 1) in
      (new, (new, stay-dir_mode (with_parent (parent_of cells) k (Some d)) (dir_attributes_of cells) new k mode own))

  -- or removed
  pub stay-removed : (d : ℕ) (name : List ℕ) (i : ℕ) → StayThere (parent_of cells) (dir_attributes_of cells) (removed d name i).writes
  stay-removed d name i = stay-gone (parent_of cells) (dir_attributes_of cells) there i (sets (cell.Entry (entry_at d name)) None ∷ []) (λ gone. (gone, tt))

  -- each change leaves it so
  pub change-stays : (k : ℕ) (reads : Bool) (o : Outcome) → Change cells k reads o → StayThere (parent_of cells) (dir_attributes_of cells) o.writes
  change-stays k reads _ (no_change reply) = tt
  change-stays k reads _ (makes mode d name hangs empty) = stay-made k mode d name
  change-stays k reads _ (removes d name i is bare) = stay-removed d name i
  change-stays k reads _ (creates_file flags d name hangs empty) = (there, (there, (there, (there, stay-file_mode (parent_of cells) (dir_attributes_of cells) there k flags.mode))))
  change-stays k reads _ (creates_link target d name hangs empty) = (there, (there, (there, tt)))
  change-stays k reads _ (links_file i d name named hangs empty) = (there, (there, tt))
  change-stays k reads _ (unlinks d name i is) = (there, (there, tt))
  change-stays k reads _ (moves_file d name i e other is hangs empty) = (there, (there, tt))
  change-stays k reads _ (replaces_file d name i e other j is was apart) = (there, (there, (there, tt)))
  change-stays k reads _ (moves_dir d name i e other is hangs clear empty) = (there, (there, stay-hung (parent_of cells) (dir_attributes_of cells) there i d e))
  change-stays k reads _ (replaces_dir d name i e other j is was apart clear bare) = (
    there,
    (there, stay-gone (parent_of cells) (dir_attributes_of cells) there j (steps.with_parent i d e) (λ gone. stay-hung (with_parent (parent_of cells) j None) (with_value (dir_attributes_of cells) j None) gone i d e)),
  )
  change-stays k reads _ (on_files reply ws each apart acts lists) = stay-files cells k ws each (dir_attributes_of cells) there
