-- Where a walk in sound cells leads.
use Rattle.std.proofs.Common.{◌≡◌, ℕ, zero, suc, Bool, true, false, cond, ◌||◌, List, [], ◌∷◌, Option, Some, None, unwrap_or, Result, Ok, Err, refl, sym, ap, subst}
use Rattle.std.specs.Prelude.{◌==◌}
use Rattle.std.proofs.lemmas.Bool.{false≢true}
use Rattle.ft_path.specs.Name.{is_dot, is_dot_dot}
use Rattle.ft_path.specs.FilePath.{target_parts, begins_with_slash}
use Rattle.ft_path.specs.declared.path.Parts.{Parts}
use Rattle.ft_path.specs.declared.errno.Errno.{Errno}
use Rattle.ft_cells.specs.Entries.{entry_at}
use Rattle.ft_cells.specs.declared.cell.Cell.TheVariants.{Entry, Parent}
use Rattle.ft_cells.specs.declared.node.Node.{Node}
use Rattle.ft_cells.specs.declared.node.Form.TheVariants.{Regular, Link as LinkForm}
use Rattle.ft_cells.specs.declared.node.Node.TheVariants.{Dir as DirNode, File as FileNode}
use Rattle.ft_cells.specs.Cells.{Cells, entry_of, parent_of, bytes_of}
use Rattle.ft_tree.specs.Views.{view_of}
use Rattle.ft_cells.specs.Looks.{Looks, Answer, Look, answer, then, or_else, answer-then}
use Rattle.ft_cells.specs.declared.node.PathEnd.{PathEnd}
use Rattle.ft_cells.specs.declared.node.PathEnd.TheVariants.{Named as AtName, Itself}
use Rattle.ft_tree.specs.declared.reader.Halt.{Halt}
use Rattle.ft_tree.specs.declared.reader.Halt.TheVariants.{Fault, Onto}
use Rattle.ft_tree.specs.declared.reader.Way.{Way}
use Rattle.ft_tree.specs.declared.reader.TheConstants.{MOST_FOLLOWED}
use Rattle.ft_tree.specs.Walk.{Leg, Ends, Meets, up, passed, inner, reached, last, halted, leg_from, leg, start_of, way_of, onward, ended, walk_on, walk}
use Rattle.ft_tree.specs.Sound.{Hangs, the_root, under, IsTree}
use Rattle.ft_posix.proofs.Named.{Named, by_entry}

module _ (cells : Cells) where
  -- a spot as a walk finds it: its directory is in the tree, and a name leads to its entry there
  abbrev pub IsSpot : PathEnd → Type 0
  IsSpot (AtName entry x slash) = Hangs (parent_of cells) entry.dir × (x ≡ entry_of cells entry.dir entry.name)
  IsSpot (Itself d) = Hangs (parent_of cells) d

  -- what a walk answers is such a spot, or an error
  abbrev pub EndsWell : Result PathEnd Errno → Type 0
  EndsWell (Ok spot) = IsSpot spot
  EndsWell (Err e) = Unit {0}

  -- a link that is to be followed is named by an entry
  abbrev pub HaltsWell : Halt → Type 0
  HaltsWell (Fault e) = Unit {0}
  HaltsWell (Onto link) = Named cells link

  -- what a component that is not the last answers is a directory of the tree, or such a link, or an
  -- error
  abbrev GoesWell : Result ℕ Halt → Type 0
  GoesWell (Ok d) = Hangs (parent_of cells) d
  GoesWell (Err halt) = HaltsWell halt

  -- what the last one answers is a spot, or such a link, or an error
  abbrev LastWell : Result PathEnd Halt → Type 0
  LastWell (Ok spot) = IsSpot spot
  LastWell (Err halt) = HaltsWell halt

  -- a leg ends so, or at such a link in a directory of the tree
  abbrev pub LegWell : Leg → Type 0
  LegWell (Ends end) = EndsWell end
  LegWell (Meets link dir names) = Named cells link × Hangs (parent_of cells) dir

  halted-well : (d : ℕ) (names : List (List ℕ)) (halt : Halt) → Hangs (parent_of cells) d → HaltsWell halt → LegWell (halted d names halt)
  halted-well d names (Fault e) h well = tt
  halted-well d names (Onto link) h well = (well, h)

  -- a target starts in a directory of the tree
  pub start-hangs : (d : ℕ) (target : List ℕ) → Hangs (parent_of cells) d → Hangs (parent_of cells) (start_of d target)
  start-hangs d target h = elim (begins_with_slash target) as (λ b. Hangs (parent_of cells) (cond b 1 d)) [ true ↦ the_root | false ↦ h ]

  module _ (tree : IsTree (entry_of cells) (parent_of cells)) where
    -- the parent of a directory of the tree is one
    up-hangs : (d : ℕ) → Hangs (parent_of cells) d → Hangs (parent_of cells) (answer (up d) (view_of cells))
    up-hangs d h = by_root d (d == 1) refl h
      where
        by_root : (d : ℕ) (b : Bool) → (d == 1) ≡ b → Hangs (parent_of cells) d → Hangs (parent_of cells) (answer (cond b (Answer 1) (Look (Parent d) (λ p. Answer (unwrap_or p 1)))) (view_of cells))
        by_root d true is h = the_root
        by_root _ false is the_root = absurd (false≢true (sym is))
        by_root _ false is (under d p h above) = subst (Hangs (parent_of cells)) (ap (λ o. unwrap_or o 1) (sym h)) above

    -- what an entry of the tree leads to is in the tree
    passed-goes : (d : ℕ) (name : List ℕ) (x : Option Node) → entry_of cells d name ≡ x → Hangs (parent_of cells) d → GoesWell (passed x)
    passed-goes d name None is h = tt
    passed-goes d name (Some (DirNode i)) is h = under i d (tree.leads d name i is) h
    passed-goes d name (Some (FileNode Regular i)) is h = tt
    passed-goes d name (Some (FileNode LinkForm i)) is h = by_entry d name i is

    -- a component that is not the last leads to a directory of the tree
    inner-goes : (d : ℕ) (name : List ℕ) → Hangs (parent_of cells) d → GoesWell (answer (inner d name) (view_of cells))
    inner-goes d name h =
        elim (is_dot name) as (λ b. GoesWell (answer (cond b (Answer (Ok d)) (cond (is_dot_dot name) (then (up d) (λ p. Answer (Ok p))) (Look (Entry (entry_at d name)) (λ x. Answer (passed x))))) (view_of cells))) [
          | true ↦ h
          | false ↦ elim (is_dot_dot name) as (λ b. GoesWell (answer (cond b (then (up d) (λ p. Answer (Ok p))) (Look (Entry (entry_at d name)) (λ x. Answer (passed x)))) (view_of cells))) [
            | true ↦ subst GoesWell (sym (answer-then (up d) (λ p. Answer (Ok p)) (view_of cells))) (up-hangs d h)
            | false ↦ passed-goes d name (entry_of cells d name) refl h
          ]
        ]

    -- a last name ends at its entry, or at a link
    reached-ends : (d : ℕ) (name : List ℕ) (follow slash : Bool) (x : Option Node) → x ≡ entry_of cells d name → Hangs (parent_of cells) d → LastWell (reached d name follow slash x)
    reached-ends d name follow slash None is h = (h, is)
    reached-ends d name follow slash (Some (DirNode i)) is h = (h, is)
    reached-ends d name follow slash (Some (FileNode Regular i)) is h =
        elim slash as (λ b. LastWell (cond b (Err (Fault _)) (Ok (AtName (entry_at d name) (Some (FileNode Regular i)) slash)))) [ true ↦ tt | false ↦ (h, is) ]
    reached-ends d name follow slash (Some (FileNode LinkForm i)) is h =
        elim (follow || slash) as (λ b. LastWell (cond b (Err (Onto i)) (Ok (AtName (entry_at d name) (Some (FileNode LinkForm i)) slash)))) [ true ↦ by_entry d name i (sym is) | false ↦ (h, is) ]

    -- the last component ends in the tree
    last-ends : (d : ℕ) (name : List ℕ) (follow slash : Bool) → Hangs (parent_of cells) d → LastWell (answer (last d name follow slash) (view_of cells))
    last-ends d name follow slash h =
        elim (is_dot name) as (λ b. LastWell (answer (cond b (Answer (Ok (Itself d))) (cond (is_dot_dot name) (then (up d) (λ p. Answer (Ok (Itself p)))) (Look (Entry (entry_at d name)) (λ x. Answer (reached d name follow slash x))))) (view_of cells))) [
          | true ↦ h
          | false ↦ elim (is_dot_dot name) as (λ b. LastWell (answer (cond b (then (up d) (λ p. Answer (Ok (Itself p)))) (Look (Entry (entry_at d name)) (λ x. Answer (reached d name follow slash x)))) (view_of cells))) [
            | true ↦ subst LastWell (sym (answer-then (up d) (λ p. Answer (Ok (Itself p))) (view_of cells))) (up-hangs d h)
            | false ↦ reached-ends d name follow slash _ refl h
          ]
        ]

    -- a leg ends where its last component does
    last-leg : (d : ℕ) → Hangs (parent_of cells) d → (r : Result PathEnd Halt) → LastWell r → LegWell (answer (or_else (halted d []) (λ spot. Answer (Ends (Ok spot))) r) (view_of cells))
    last-leg d h (Ok spot) well = well
    last-leg d h (Err halt) well = halted-well d [] halt h well

    -- or goes on in the tree
    inner-leg : (d : ℕ) (names : List (List ℕ)) → Hangs (parent_of cells) d → (go : ℕ → Looks Leg) → ((i : ℕ) → Hangs (parent_of cells) i → LegWell (answer (go i) (view_of cells))) → (r : Result ℕ Halt) → GoesWell r
        → LegWell (answer (or_else (halted d names) go r) (view_of cells))
    inner-leg d names h go each (Ok i) well = each i well
    inner-leg d names h go each (Err halt) well = halted-well d names halt h well

    -- from a directory of the tree a leg ends in the tree
    leg_from-ends : (names : List (List ℕ)) (d : ℕ) (name : List ℕ) (follow slash : Bool) → Hangs (parent_of cells) d → LegWell (answer (leg_from d name names follow slash) (view_of cells))
    leg_from-ends [] d name follow slash h =
        subst LegWell (sym (answer-then (last d name follow slash) (or_else (halted d []) (λ spot. Answer (Ends (Ok spot)))) (view_of cells))) (last-leg d h (answer (last d name follow slash) (view_of cells)) (last-ends d name follow slash h))
    leg_from-ends (m ∷ ms) d name follow slash h =
        let go : ℕ → Looks Leg = λ i. leg_from i m ms follow slash in
        subst LegWell (sym (answer-then (inner d name) (or_else (halted d (m ∷ ms)) go) (view_of cells)))
        (inner-leg d (m ∷ ms) h go (λ i g. leg_from-ends ms i m follow slash g) (answer (inner d name) (view_of cells)) (inner-goes d name h))

    pub leg-ends : (d : ℕ) (names : List (List ℕ)) (follow slash : Bool) → Hangs (parent_of cells) d → LegWell (answer (leg d names follow slash) (view_of cells))
    leg-ends d [] follow slash h = h
    leg-ends d (name ∷ names) follow slash h = leg_from-ends names d name follow slash h

    -- a walk that may follow no link any more
    ended-well : (end : Leg) → LegWell end → EndsWell (ended end)
    ended-well (Ends end) well = well
    ended-well (Meets link dir names) well = tt

    -- behind a link it goes on in the tree
    way-well : (go : ℕ → List (List ℕ) → Bool → Looks (Result PathEnd Errno)) → ((i : ℕ) (names : List (List ℕ)) (slash : Bool) → Hangs (parent_of cells) i → EndsWell (answer (go i names slash) (view_of cells)))
        → (d : ℕ) (names : List (List ℕ)) (slash : Bool) (target : List ℕ) → Hangs (parent_of cells) d → (r : Result Parts Errno) → EndsWell (answer (or_else Err (λ (way : Way). go way.start way.names way.slash) (way_of d names slash target r)) (view_of cells))
    way-well go each d names slash target h (Ok parts) = each _ _ _ (start-hangs d target h)
    way-well go each d names slash target h (Err e) = tt

    onward-well : (go : ℕ → List (List ℕ) → Bool → Looks (Result PathEnd Errno)) → ((i : ℕ) (names : List (List ℕ)) (slash : Bool) → Hangs (parent_of cells) i → EndsWell (answer (go i names slash) (view_of cells)))
        → (slash : Bool) (end : Leg) → LegWell end → EndsWell (answer (onward go slash end) (view_of cells))
    onward-well go each slash (Ends end) well = well
    onward-well go each slash (Meets link dir names) well = way-well go each dir names slash (bytes_of cells link) well.1 (target_parts (bytes_of cells link))

    -- a walk from a directory ends at a spot of the tree, or fails
    walk_on-ends : (left : ℕ) (follow : Bool) (d : ℕ) (names : List (List ℕ)) (slash : Bool) → Hangs (parent_of cells) d → EndsWell (answer (walk_on left follow d names slash) (view_of cells))
    walk_on-ends zero follow d names slash h = subst EndsWell (sym (answer-then (leg d names follow slash) (λ end. Answer (ended end)) (view_of cells))) (ended-well (answer (leg d names follow slash) (view_of cells)) (leg-ends d names follow slash h))
    walk_on-ends (suc left) follow d names slash h =
        subst EndsWell (sym (answer-then (leg d names follow slash) (onward (walk_on left follow) slash) (view_of cells)))
        (onward-well (walk_on left follow) (λ i more after g. walk_on-ends left follow i more after g) slash (answer (leg d names follow slash) (view_of cells)) (leg-ends d names follow slash h))

    -- and so does one from the root
    pub walk-ends : (follow : Bool) (names : List (List ℕ)) (slash : Bool) → EndsWell (answer (walk follow names slash) (view_of cells))
    walk-ends follow names slash = walk_on-ends MOST_FOLLOWED follow 1 names slash the_root
