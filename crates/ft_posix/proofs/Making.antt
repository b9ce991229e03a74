-- A call that leaves the name of its own file writes a cell of this file: else the file would have
-- no place.
use Rattle.std.proofs.Common.{◌≡◌, inl, inr, ℕ, true, false, cond, not, ◌||◌, ◌==◌, Option, Some, None, IsSome, eqb-true, eq-eqb, ne_eqb, refl, sym, ap, subst, ◌∙◌}
use Rattle.std.proofs.lemmas.Bool.{false≢true, or_cases}
use Rattle.std.specs.FinMap.{get}
use Rattle.ft_laws.specs.Laws.{Hides, holds}
use Rattle.ft_laws.specs.Effects.{is_written, calls_of}
use Rattle.ft_cells.specs.declared.node.Node.{Node}
use Rattle.ft_cells.specs.declared.node.Node.TheVariants.{Dir as DirNode, File as FileNode}
use Rattle.ft_cells.specs.declared.cell.Cell.{Cell}
use Rattle.ft_cells.specs.declared.cell.Cell.TheVariants.{Entry, Names, Parent, Links, Bytes, Fd, DirAttributes, FileAttributes}
use Rattle.ft_cells.specs.declared.open_file.OpenFile.{OpenFile}
use Rattle.ft_cells.specs.Cells.{Cells, entry_of, open_of, HasFilePlace}
use Rattle.ft_tree.specs.Held.{held}
use Rattle.ft_tree.specs.Sweep.{at_place}
use Rattle.ft_tree.specs.Sound.{IsFree}
use Rattle.ft_posix.specs.Outcomes.{Outcome}
use Rattle.ft_posix.specs.Stored.{outcome, after}
use Rattle.ft_posix.specs.Laws.{SoundnessLaw}
use Rattle.ft_posix.specs.Posix.{Stamped, HasSoundValues, file_of, node_names, description_names, names_file, does, posix, posix_calls}
use Rattle.ft_posix.specs.Leaving.{MakingLaw}
use Rattle.ft_posix.proofs.Alike.{same_back, same_free, does-same}
use Rattle.ft_posix.proofs.Below.{StepsAlike, StoredEnough}
use Rattle.ft_posix.proofs.Free.{no_entry, no_file as names_no_file}
use Rattle.ft_posix.proofs.Lawful.{own_blank, without, get-without, same-without, sound-without, after-places, writes-noted}
use Rattle.ft_posix.proofs.Leaving.{files-kept, all-noted}
use Rattle.ft_posix.proofs.Left.{named-file}
use Rattle.ft_posix.proofs.Nameless.{named}

-- nothing names a number that is free
unnamed : (s : Cells) (k : ℕ) → IsFree s k → (x : Cell) → names_file x (held s x) k ≡ false
unnamed s k free (Entry entry) = by_node (entry_of s entry.dir entry.name) refl
  where
    by_node : (o : Option Node) → entry_of s entry.dir entry.name ≡ o → node_names o k ≡ false
    by_node None is = refl
    by_node (Some (DirNode j)) is = refl
    by_node (Some (FileNode kind j)) is = ne_eqb j k (no_entry free entry.dir entry.name (FileNode kind j) is)
unnamed s k free (Names d) = refl
unnamed s k free (Parent d) = refl
unnamed s k free (Links i) = refl
unnamed s k free (Bytes i) = refl
unnamed s k free (DirAttributes d) = refl
unnamed s k free (FileAttributes i) = refl
unnamed s k free (Fd f) = by_description (open_of s f) refl
  where
    by_description : (o : Option OpenFile) → open_of s f ≡ o → description_names o k ≡ false
    by_description None is = refl
    by_description (Some o) is = ne_eqb o.file k (names_no_file free f o is)

own-file : (k : ℕ) (o : Option ℕ) → holds (λ i. i == k) o ≡ true → o ≡ Some k
own-file k None h = absurd (false≢true h)
own-file k (Some i) h = ap Some (eqb-true i k h)

-- what is stored of a free number may be hidden
hides-free : (s : Cells) (k : ℕ) → IsFree s k → Hides (calls_of posix) (λ i. i == k) s s
hides-free s k free = record {
  others = λ x h. refl;
  gone = λ x h. own_blank s k free x (own-file k (file_of x) h);
  unnamed = λ x i h. ap (names_file x (held s x)) (eqb-true i k h) ∙ unnamed s k free x;
}

no-place : (p q : Cells) (k : ℕ) → get q.files k ≡ get p.files k → get p.files k ≡ None → HasFilePlace q k → false ≡ true
no-place p q k same none place = subst IsSome (same ∙ none) place

module _ (steps-alike : StepsAlike) (stored-enough : StoredEnough) (soundness : SoundnessLaw) where
  -- from cells that have no place of the file
  from-bare : (s : Cells) (a : Stamped) → (bare : HasSoundValues s) → get bare.with_places.files a.stamp ≡ None → IsFree s a.stamp → (x : Cell) → names_file x (held (posix_calls.act s a) x) a.stamp ≡ true
      → at_place (is_written posix (does s a).writes) (Links a.stamp) ≡ true
  from-bare s a bare none free x named_after =
      let p : Cells = bare.with_places in
      let k = a.stamp in
      let values = after-places steps-alike stored-enough s a bare in
      let sound = soundness p k a.call bare.sound (same_free s p (same_back p s bare.same).values k free) in
      let there = (named-file (after p k a.call) sound k (named (after p k a.call) k x (ap (λ v. names_file x v k) (sym (values.values x)) ∙ named_after))).0 in
      let alike = does-same steps-alike stored-enough p s bare.same bare.sound.tree k a.call in
      elim (files-kept (outcome p k a.call).writes p k) [
        | inl same ↦ absurd (false≢true (no-place p (after p k a.call) k same none there))
        | inr written ↦ subst (λ (o : Outcome). at_place (is_written posix o.writes) (Links k) ≡ true) alike.outcomes written
      ]

  pub making : MakingLaw
  making s a has free x named_after =
      let k = a.stamp in
      let p : Cells = has.with_places in
      let hides = hides-free s k free in
      let bare : HasSoundValues s = record {
        with_places = without (λ i. i == k) s.limits p;
        sound = sound-without (λ i. i == k) s s hides p has.sound has.same;
        same = same-without (λ i. i == k) s s hides p has.sound has.same;
      } in
      let none = get-without (λ i. i == k) s.limits p k ∙ ap (λ b. cond (not b) (get p.files k) None) (eq-eqb k k refl) in
      let noted = all-noted (does s a).accesses (does s a).writes (writes-noted s a) in
      let ws = (does s a).writes in
      elim (or_cases (is_written posix ws (Links k) || is_written posix ws (Bytes k)) (is_written posix ws (FileAttributes k)) (from-bare s a bare none free x named_after)) [
        | inl held ↦ elim (or_cases (is_written posix ws (Links k)) (is_written posix ws (Bytes k)) held) [
          | inl links ↦ (Links k, refl, noted (Links k) links)
          | inr bytes ↦ (Bytes k, refl, noted (Bytes k) bytes)
        ]
        | inr attributes ↦ (FileAttributes k, refl, noted (FileAttributes k) attributes)
      ]
