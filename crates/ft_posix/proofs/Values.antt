-- Only the values of the cells count.
use Rattle.std.proofs.Common.{◌≡◌, ℕ, Bool, true, false, cond, ◌||◌, List, Option, Some, None, is_some, refl, sym, ap, subst, ◌∙◌}
use Rattle.std.specs.Prelude.{◌==◌, nat_lt}
use Rattle.ft_cells.specs.Entries.{entry_at}
use Rattle.ft_cells.specs.declared.node.Node.{Node}
use Rattle.std.specs.Option.{option_map}
use Rattle.std.specs.FinMap.{get}
use Rattle.ft_cells.specs.declared.cell.Cell.TheVariants.{Entry, Parent, Links, Bytes, Fd, DirAttributes, FileAttributes}
use Rattle.ft_cells.specs.Cells.{Cells, entry_of, parent_of, has_file, HasDirPlace}
use Rattle.ft_cells.specs.Plain.{view_in}
use Rattle.ft_tree.specs.Sound.{IsTree, IsNoDir, AreSoundCells, KeepsValues}
use Rattle.ft_tree.specs.Tidy.{tidy}
use Rattle.ft_posix.specs.Laws.{ValuesLaw}
use Rattle.ft_posix.proofs.Alike.{same_free}
use Rattle.ft_posix.proofs.Opens.{is_open-alike}
use Rattle.ft_posix.proofs.Free.{has_dir-parent}
use Rattle.ft_posix.proofs.Tidied.{get-tidy, kept_dir, get-dirs, plain_of, get-there, stored-file, get-opens, file_place-there, same_plain}

module _ (old new : Cells) (sound : AreSoundCells old) (keeps : KeepsValues old new) where
  -- the same files are there
  same_file : (i : ℕ) → has_file new i ≡ has_file old i
  same_file i = λ x. nat_lt 0 (keeps.values (Links i) x) || is_open-alike new.opens old.opens (λ f. keeps.values (Fd f)) i x

  -- with the same attributes and contents
  same_there : (i : ℕ) → cond (has_file old i) (option_map plain_of (get new.files i)) None ≡ cond (has_file old i) (option_map plain_of (get old.files i)) None
  same_there i = by_there (has_file old i) refl
    where
      by_there : (b : Bool) → has_file old i ≡ b → cond b (option_map plain_of (get new.files i)) None ≡ cond b (option_map plain_of (get old.files i)) None
      by_there true is =
          let place = file_place-there old sound i is in
          stored-file (get new.files i) (keeps.places (Links i) place)
          ∙ (λ x. Some (record { attributes = keeps.values (FileAttributes i) x; contents = keeps.values (Bytes i) x }))
          ∙ sym (stored-file (get old.files i) place)
      by_there false is = refl

  root_still : HasDirPlace new 1
  root_still = keeps.places (Parent 1) sound.root_is

  one_plain : tidy new ≡ tidy old
  one_plain = same_plain (tidy new) (tidy old) keeps.limits
      (λ d name. get-tidy new d name ∙ keeps.values (Entry (entry_at d name)) ∙ sym (get-tidy old d name))
      (λ d. get-dirs new root_still d ∙ (λ x. kept_dir (λ e. keeps.values (Parent e) x) (λ e. keeps.values (DirAttributes e) x) d) ∙ sym (get-dirs old sound.root_is d))
      (λ i. get-there new i ∙ ap (λ b. cond b (option_map plain_of (get new.files i)) None) (same_file i) ∙ same_there i ∙ sym (get-there old i))
      (λ f. get-opens new f ∙ keeps.values (Fd f) ∙ sym (get-opens old f))

  still_sound : AreSoundCells new
  still_sound =
      let entries : entry_of new ≡ entry_of old = λ i d name. keeps.values (Entry (entry_at d name)) i in
      let parents : parent_of new ≡ parent_of old = λ i d. keeps.values (Parent d) i in
      record {
        root_is = root_still;
        tree = subst (λ (f : ℕ → List ℕ → Option Node). IsTree f (parent_of new)) (sym entries) (subst (λ (f : ℕ → Option ℕ). IsTree (entry_of old) f) (sym parents) sound.tree);
        links = λ i. keeps.values (Links i) ∙ sound.links i ∙ ap (λ p. view_in p (Links i)) (sym one_plain);
        opens = λ f o h. let was = sound.opens f o (sym (keeps.values (Fd f)) ∙ h) in (keeps.places (Links o.file) was.0, subst (λ (g : ℕ → Option ℕ). IsNoDir g o.file) (sym parents) was.1);
        attributes = λ d a h.
            has_dir-parent new root_still d ∙ ap (λ o. (d == 1) || is_some o) (keeps.values (Parent d)) ∙ sym (has_dir-parent old sound.root_is d)
            ∙ sound.attributes d a (sym (keeps.values (DirAttributes d)) ∙ h);
      }

-- cells of equal values are one plain tree, sound alike, with the same numbers free
pub values : ValuesLaw
values old new sound keeps = record { plain = one_plain old new sound keeps; sound = still_sound old new sound keeps; free = same_free old new keeps.values }
