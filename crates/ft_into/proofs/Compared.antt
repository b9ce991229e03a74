-- What one request adds to a comparison.
use Rattle.std.proofs.Common.{◌≡◌, ◌≢◌, ◌⊎◌, inl, inr, ℕ, true, List, [], ◌∷◌, ◌++◌, Option, None, Some, IsSome, Result, Ok, Err, IfErr, refl, sym, ap, ◌∙◌, subst, append-nil}
use Rattle.std.proofs.Math.Path.{ap₂}
use Rattle.std.specs.Io.KnownBytes.{IsAtEnd}
use Rattle.ft_cells.specs.declared.attributes.Attributes.{Attributes}
use Rattle.ft_cells.specs.declared.attributes.Timestamp.{Timestamp}
use Rattle.ft_copy.specs.declared.found.FileFacts.{FileFacts}
use Rattle.ft_copy.specs.declared.found.FoundFile.{FoundFile}
use Rattle.ft_copy.specs.declared.found.Found.{Found}
use Rattle.ft_copy.specs.declared.found.Found.TheVariants as found
use Rattle.ft_copy.specs.Told.{Told, Leads}
use Rattle.ft_copy.specs.Walks.{FirstPaths}
use Rattle.ft_into.specs.declared.step.Act.TheVariants.{Add, Change}
use Rattle.ft_into.specs.declared.step.Step.{Step}
use Rattle.ft_into.specs.declared.step.Thing.TheVariants as things
use Rattle.ft_into.specs.declared.wishes.Wishes.{Wishes}
use Rattle.ft_into.specs.Compares.{ComparesClose, ComparesFolder, ComparesLink, ComparesOpen, ComparesSymlink, IsAnother, IsNoFolder, IsNoSymlink, IsThere, MayStay, linked, one_step}
use Rattle.ft_into.specs.Knows.{Comparison, Names, Opening, SameFile, with_kept}
use Rattle.ft_into.specs.Removes.{Removes}
use Rattle.ft_into.specs.Wishes.{are_given, is_timed}

-- nothing is said of an error
pub unstated : {T E : Type 0} → (r : Result T E) → IfErr r (λ _. Unit {0})
unstated (Ok x) = tt
unstated (Err e) = tt

-- ---- the end of a file

module _ (tells : Told → Type 0) (wishes : Wishes) (time : Option Timestamp) (old : Comparison) (opening : Opening) (after : Option Opening) where
  -- the file stays
  abbrev pub Stays : FoundFile → Type 0
  Stays found = (file : SameFile) × (opening.same ≡ Some file) × (file.found ≡ found) × (is_timed time found.given.time ≡ true) × IsAtEnd file.left

  pub close_stays : (found : FoundFile) (path : List ℕ) (kept : FirstPaths) → old.opening ≡ Some opening → after ≡ None → Stays found → path ≡ opening.step.path → kept ≡ with_kept found.facts path old.kept
      → ComparesClose tells wishes time old (record old { opening = after; kept = kept })
  close_stays found path kept is gone stays named noted = (
    opening,
    is,
    inl (
      stays.0,
      stays.1,
      subst (λ (f : FoundFile). is_timed time f.given.time ≡ true) (sym stays.2) stays.3,
      stays.4,
      ap₂ (λ (o : Option Opening) (k : FirstPaths). record old { opening = o; kept = k }) gone
          (noted ∙ ap₂ (λ (f : FoundFile) (p : List ℕ). with_kept f.facts p old.kept) (sym stays.2) named),
    ),
  )

  pub close_changes : (steps : List Step) → old.opening ≡ Some opening → after ≡ None → IsAnother time opening.same → steps ≡ old.steps ++ opening.step ∷ []
      → ComparesClose tells wishes time old (record old { opening = after; steps = steps })
  close_changes steps is gone other pushed =
      (opening, is, inr (other, ap₂ (λ (o : Option Opening) (s : List Step). record old { opening = o; steps = s }) gone pushed))

module _ (tells : Told → Type 0) (wishes : Wishes) (path : List ℕ) (old : Comparison) (names : Names) where
  abbrev pub There : Option (ℕ × Found) → Type 0
  There there = IsThere tells path old.names there names

  abbrev pub Cleared : ℕ → List Step → Type 0
  Cleared node removals = Removes tells (record { path = path; node = node }) removals

  -- ---- a directory

  pub folder_other : (wanted : Attributes) (node : ℕ) (here : Found) (removals : List Step) (steps : List Step) → There (Some (node, here)) → IsNoFolder here
      → steps ≡ old.steps ++ (removals ++ one_step Add things.Folder path) → wishes.removes ≡ true → Cleared node removals
      → ComparesFolder tells wishes path wanted old (record old { names = names; steps = steps })
  folder_other wanted node here removals steps there other more removes cleared = (
    Some (node, here),
    names,
    removals ++ one_step Add things.Folder path,
    names,
    there,
    inr ((removals, inr (node, here, refl, other, removes, cleared), refl), refl),
    ap (λ (s : List Step). record old { names = names; steps = s }) more,
  )

  -- ---- a file

  pub file_absent : (wanted : Attributes) (step : Step) (same : Option SameFile) → There None → step ≡ record { act = Add; thing = things.File; path = path } → same ≡ None
      → ComparesOpen tells wishes path wanted old (record old { names = names; opening = Some (record { step = step; same = same }) })
  file_absent wanted step same there step_is same_is =
      let own : Opening = record { step = record { act = Add; thing = things.File; path = path }; same = None } in (
        None,
        names,
        [],
        own,
        there,
        inr (inl (refl, refl), refl),
        ap₂ (λ (s : Step) (m : Option SameFile). record old { names = names; opening = Some (record { step = s; same = m }) }) step_is same_is
            ∙ ap (λ (s : List Step). record old { names = names; steps = s; opening = Some own }) (sym (append-nil old.steps)),
      )

  pub file_there : (wanted : Attributes) (node : ℕ) (file : FoundFile) (known : Option SameFile) (step : Step) (same : Option SameFile) → There (Some (node, found.File file))
      → MayStay tells (are_given wishes wanted file.given.attributes) path node file old.kept known → step ≡ record { act = Change; thing = things.File; path = path } → same ≡ known
      → ComparesOpen tells wishes path wanted old (record old { names = names; opening = Some (record { step = step; same = same }) })
  file_there wanted node file known step same there may step_is same_is =
      let own : Opening = record { step = record { act = Change; thing = things.File; path = path }; same = known } in (
        Some (node, found.File file),
        names,
        [],
        own,
        there,
        inl (node, file, refl, refl, refl, may),
        ap₂ (λ (s : Step) (m : Option SameFile). record old { names = names; opening = Some (record { step = s; same = m }) }) step_is same_is
            ∙ ap (λ (s : List Step). record old { names = names; steps = s; opening = Some own }) (sym (append-nil old.steps)),
      )

  -- ---- a further name

  pub link_other : (first : List ℕ) (node : ℕ) (here : Found) (removals : List Step) (steps : List Step) → There (Some (node, here)) → linked here old.is_linking ≡ None
      → steps ≡ old.steps ++ (removals ++ one_step Add things.Link path) → wishes.removes ≡ true → Cleared node removals
      → ComparesLink tells wishes first path old (record old { names = names; steps = steps })
  link_other first node here removals steps there other more removes cleared = (
    Some (node, here),
    names,
    removals ++ one_step Add things.Link path,
    there,
    inr (removals, inr (node, here, refl, other, removes, cleared), refl),
    ap (λ (s : List Step). record old { names = names; steps = s }) more,
  )

  -- ---- a symbolic link

  pub symlink_same : (to : List ℕ) (node : ℕ) (facts : FileFacts) (held : List ℕ) (kept : FirstPaths) → There (Some (node, found.Symlink facts)) → tells (Leads path node facts.id held)
      → (held ≡ to) × (old.kept facts.id ≡ None) → kept ≡ with_kept facts path old.kept
      → ComparesSymlink tells wishes to path old (record old { names = names; kept = kept; is_linking = true })
  symlink_same to node facts held kept there leads same noted = (
    Some (node, found.Symlink facts),
    names,
    [],
    with_kept facts path old.kept,
    there,
    inl (node, facts, held, refl, leads, inl (same.0, same.1, refl, refl)),
    ap₂ (λ (k : FirstPaths) (s : List Step). record old { names = names; steps = s; kept = k; is_linking = true }) noted (sym (append-nil old.steps)),
  )

  pub symlink_changes : (to : List ℕ) (node : ℕ) (facts : FileFacts) (held : List ℕ) (steps : List Step) → There (Some (node, found.Symlink facts)) → tells (Leads path node facts.id held)
      → (held ≢ to) ⊎ IsSome (old.kept facts.id) → steps ≡ old.steps ++ one_step Change things.Symlink path
      → ComparesSymlink tells wishes to path old (record old { names = names; steps = steps; is_linking = true })
  symlink_changes to node facts held steps there leads other more = (
    Some (node, found.Symlink facts),
    names,
    one_step Change things.Symlink path,
    old.kept,
    there,
    inl (node, facts, held, refl, leads, inr (other, refl, refl)),
    ap (λ (s : List Step). record old { names = names; steps = s; is_linking = true }) more,
  )

  pub symlink_other : (to : List ℕ) (node : ℕ) (here : Found) (removals : List Step) (steps : List Step) → There (Some (node, here)) → IsNoSymlink here
      → steps ≡ old.steps ++ (removals ++ one_step Add things.Symlink path) → wishes.removes ≡ true → Cleared node removals
      → ComparesSymlink tells wishes to path old (record old { names = names; steps = steps; is_linking = true })
  symlink_other to node here removals steps there other more removes cleared = (
    Some (node, here),
    names,
    removals ++ one_step Add things.Symlink path,
    old.kept,
    there,
    inr ((removals, inr (node, here, refl, other, removes, cleared), refl), refl),
    ap (λ (s : List Step). record old { names = names; steps = s; is_linking = true }) more,
  )
