-- The steps of a comparison are allowed.
use Rattle.std.proofs.Common.{◌≡◌, ◌≢◌, ◌⊎◌, inl, inr, ℕ, Bool, true, false, List, [], ◌∷◌, ◌++◌, Option, None, Some, IsSome, IfSome, refl, sym, subst}
use Rattle.std.specs.List.{All, flat_map}
use Rattle.std.proofs.lemmas.List.Elements.{All-nil, All-cons, All-push, All-append, All-weaker}
use Rattle.ft_cells.specs.declared.attributes.Attributes.{Attributes}
use Rattle.ft_copy.specs.declared.limits.CopyLimits.{CopyLimits}
use Rattle.ft_copy.specs.declared.found.TheConstants.{ROOT}
use Rattle.ft_copy.specs.declared.found.FileFacts.{FileFacts}
use Rattle.ft_copy.specs.declared.found.FoundFolder.{FoundFolder}
use Rattle.ft_copy.specs.declared.found.Found.{Found}
use Rattle.ft_copy.specs.declared.found.Found.TheVariants as found
use Rattle.ft_copy.specs.Asked.{Asked, DoesAll, Start, Folder, Open, Piece, Close, Link, Symlink, Finish, GiveUp}
use Rattle.ft_copy.specs.Kept.{kept_attributes}
use Rattle.ft_copy.specs.Runs.{asked_of}
use Rattle.ft_copy.specs.Told.{Told, Finds}
use Rattle.ft_copy.specs.Walks.{FirstPaths}
use Rattle.ft_into.specs.declared.step.Act.{Act}
use Rattle.ft_into.specs.declared.step.Act.TheVariants.{Add, Change}
use Rattle.ft_into.specs.declared.step.Step.{Step}
use Rattle.ft_into.specs.declared.step.Thing.{Thing}
use Rattle.ft_into.specs.declared.step.Thing.TheVariants as things
use Rattle.ft_into.specs.declared.wishes.Wishes.{Wishes}
use Rattle.ft_into.specs.Allows.{AreAllowed, FindsAt, IsAllowed, IsAllowedAs, IsChangedAs, IsRemoval}
use Rattle.ft_into.specs.Compares.{CloseChanges, CloseStays, Compares, ComparesTree, FileMayStay, FolderStays, IsAdded, IsCleared, IsNoFile, IsNoFolder, IsNoSymlink, LinkStays, OpenGoesOn, RemovesRest, SymlinkStays, change_unless, linked, one_step}
use Rattle.ft_into.specs.Knows.{Comparison, Names, Opening, fresh, with_kept}
use Rattle.ft_into.specs.Wishes.{are_given}
use Rattle.ft_into.proofs.Removed.{name_removals, removals}

linked_as : (found : Found) (is_linking : Bool) (facts : FileFacts) → linked found is_linking ≡ Some facts → IsChangedAs things.Link found
linked_as (found.Folder folder) is_linking facts h = cc
linked_as (found.File file) true facts h = cc
linked_as (found.File file) false facts h = inl refl
linked_as (found.Symlink link) true facts h = inr refl
linked_as (found.Symlink link) false facts h = cc
linked_as found.Special is_linking facts h = cc

module _ (tells : Told → Type 0) (wishes : Wishes) where
  one : (step : Step) → IsAllowed tells wishes step → AreAllowed tells wishes (step ∷ [])
  one step h = All-cons (IsAllowed tells wishes) step [] h (All-nil (IsAllowed tells wishes))

  none : AreAllowed tells wishes []
  none = All-nil (IsAllowed tells wishes)

  both : (steps more : List Step) → AreAllowed tells wishes steps → AreAllowed tells wishes more → AreAllowed tells wishes (steps ++ more)
  both = All-append (IsAllowed tells wishes)

  unless : (same : Bool) (thing : Thing) (path : List ℕ) → FindsAt tells path (IsChangedAs thing) → AreAllowed tells wishes (change_unless same thing path)
  unless true thing path h = none
  unless false thing path h = one (record { act = Change; thing = thing; path = path }) h

  removal_allowed : wishes.removes ≡ true → (step : Step) → IsRemoval tells step → IsAllowed tells wishes step
  removal_allowed removes step h = subst (λ (act : Act). IsAllowedAs tells wishes act step) (sym h.0) (removes, h)

  all_removals : wishes.removes ≡ true → (steps : List Step) → All (IsRemoval tells) steps → AreAllowed tells wishes steps
  all_removals removes steps h = All-weaker (IsRemoval tells) (IsAllowed tells wishes) (removal_allowed removes) steps h

  cleared : (IsOther : Found → Type 0) (path : List ℕ) (there : Option (ℕ × Found)) (steps : List Step) → IsCleared tells wishes IsOther path there steps → AreAllowed tells wishes steps
  cleared IsOther path there steps (inl k) = subst (AreAllowed tells wishes) (sym k.1) none
  cleared IsOther path there steps (inr k) = all_removals k.4 steps (removals tells (record { path = path; node = k.0 }) steps k.5)

  added : (IsOther : Found → Type 0) (thing : Thing) (path : List ℕ) (there : Option (ℕ × Found)) (more : List Step) → IsAdded tells wishes IsOther thing path there more → AreAllowed tells wishes more
  added IsOther thing path there more h =
      subst (AreAllowed tells wishes) (sym h.2) (both h.0 (one_step Add thing path) (cleared IsOther path there h.0 h.1) (one (record { act = Add; thing = thing; path = path }) tt))

  at_path : (path : List ℕ) (there : Option (ℕ × Found)) (node : ℕ) (here : Found) → IfSome there (λ it. tells (Finds path it.0 it.1)) → there ≡ Some (node, here) → tells (Finds path node here)
  at_path path there node here h is = subst (λ (t : Option (ℕ × Found)). IfSome t (λ it. tells (Finds path it.0 it.1))) is h

  folder_stays : (path : List ℕ) (wanted : Attributes) (there : Option (ℕ × Found)) (names : Names) (more : List Step) (after : Names) → IfSome there (λ it. tells (Finds path it.0 it.1))
      → FolderStays tells wishes path wanted there names more after → AreAllowed tells wishes more
  folder_stays path wanted there names more after told h =
      subst (AreAllowed tells wishes) (sym h.3) (unless (are_given wishes wanted h.1.attributes) things.Folder path (h.0, found.Folder h.1, at_path path there h.0 (found.Folder h.1) told h.2, refl))

  link_stays : (first path : List ℕ) (there : Option (ℕ × Found)) (is_linking : Bool) (kept : FirstPaths) (more : List Step) → IfSome there (λ it. tells (Finds path it.0 it.1))
      → LinkStays tells wishes first path there is_linking kept more → AreAllowed tells wishes more
  link_stays first path there is_linking kept more told h =
      subst (AreAllowed tells wishes) (sym h.8) (unless h.3 things.Link path (h.0, h.1, at_path path there h.0 h.1 told h.4, linked_as h.1 is_linking h.2 h.5))

  symlink_stays : (to path : List ℕ) (there : Option (ℕ × Found)) (kept : FirstPaths) (more : List Step) (after : FirstPaths) → IfSome there (λ it. tells (Finds path it.0 it.1))
      → SymlinkStays tells wishes to path there kept more after → AreAllowed tells wishes more
  symlink_stays to path there kept more after told h = either h.5
    where
      here : tells (Finds path h.0 (found.Symlink h.1))
      here = at_path path there h.0 (found.Symlink h.1) told h.3

      either : ((h.2 ≡ to) × (kept h.1.id ≡ None) × (more ≡ []) × (after ≡ with_kept h.1 path kept)) ⊎ (((h.2 ≢ to) ⊎ IsSome (kept h.1.id)) × (more ≡ one_step Change things.Symlink path) × (after ≡ kept))
          → AreAllowed tells wishes more
      either (inl k) = subst (AreAllowed tells wishes) (sym k.2) none
      either (inr k) = subst (AreAllowed tells wishes) (sym k.1) (one (record { act = Change; thing = things.Symlink; path = path }) (h.0, found.Symlink h.1, here, refl))

  rest : (old : Names) (steps : List Step) (new : Names) → RemovesRest tells wishes old steps new → AreAllowed tells wishes steps
  rest old steps new (inl k) = all_removals k.0 steps (name_removals tells old steps k.1)
  rest old steps new (inr k) = subst (AreAllowed tells wishes) (sym k.1) none

  -- What a comparison has found so far is sound: steps that are allowed, a step of the open file that
  -- would be, and at the root the directory that the source reports.
  abbrev pub IsSound : Comparison → Type 0
  IsSound m = AreAllowed tells wishes m.steps × IfSome m.opening (λ (opening : Opening). IsAllowed tells wishes opening.step) × IfSome m.top (λ (folder : FoundFolder). tells (Finds [] ROOT (found.Folder folder)))

  opened : (bytes : List ℕ) (old new : Option Opening) → OpenGoesOn bytes old new → IfSome old (λ (opening : Opening). IsAllowed tells wishes opening.step) → IfSome new (λ (opening : Opening). IsAllowed tells wishes opening.step)
  opened bytes None new h k = subst (λ (o : Option Opening). IfSome o (λ (opening : Opening). IsAllowed tells wishes opening.step)) (sym h) tt
  opened bytes (Some opening) new h k = subst (λ (o : Option Opening). IfSome o (λ (opening : Opening). IsAllowed tells wishes opening.step)) (sym h.2) k

  sound : (old new : Comparison) (asked : Asked) → Compares tells wishes old asked new → IsSound old → IsSound new
  sound old new Start h s = subst IsSound (sym h.4) (s.0, s.1, h.2)
  sound old new (Folder path wanted) h s = subst IsSound (sym h.6) (both old.steps h.2 s.0 (either h.5), s.1, s.2)
    where
      either : FolderStays tells wishes path wanted h.0 h.1 h.2 h.3 ⊎ (IsAdded tells wishes IsNoFolder things.Folder path h.0 h.2 × (h.3 ≡ h.1)) → AreAllowed tells wishes h.2
      either (inl k) = folder_stays path wanted h.0 h.1 h.2 h.3 h.4.1 k
      either (inr k) = added IsNoFolder things.Folder path h.0 h.2 k.0
  sound old new (Open path wanted) h s = subst IsSound (sym h.6) (both old.steps h.2 s.0 (more h.5), opening h.5, s.2)
    where
      Either : Type 0
      Either = FileMayStay tells wishes path wanted h.0 old.kept h.2 h.3
          ⊎ (IsCleared tells wishes IsNoFile path h.0 h.2 × (h.3 ≡ record { step = record { act = Add; thing = things.File; path = path }; same = None }))

      more : Either → AreAllowed tells wishes h.2
      more (inl k) = subst (AreAllowed tells wishes) (sym k.3) none
      more (inr k) = cleared IsNoFile path h.0 h.2 k.0

      opening : Either → IsAllowed tells wishes h.3.step
      opening (inl k) = subst (IsAllowed tells wishes) (sym k.4) (k.0, found.File k.1, at_path path h.0 k.0 (found.File k.1) h.4.1 k.2, refl)
      opening (inr k) = subst (λ (o : Opening). IsAllowed tells wishes o.step) (sym k.1) tt
  sound old new (Piece bytes) h s = subst IsSound (sym h.2) (s.0, opened bytes old.opening h.0 h.1 s.1, s.2)
  sound old new (Close time) h s = either h.2
    where
      step : IsAllowed tells wishes h.0.step
      step = subst (λ (o : Option Opening). IfSome o (λ (opening : Opening). IsAllowed tells wishes opening.step)) h.1 s.1

      either : CloseStays tells wishes time h.0 old new ⊎ CloseChanges tells wishes time h.0 old new → IsSound new
      either (inl k) = subst IsSound (sym k.4) (s.0, tt, s.2)
      either (inr k) = subst IsSound (sym k.1) (All-push (IsAllowed tells wishes) old.steps h.0.step s.0 step, tt, s.2)
  sound old new (Link first path) h s = subst IsSound (sym h.5) (both old.steps h.2 s.0 (either h.4), s.1, s.2)
    where
      either : LinkStays tells wishes first path h.0 old.is_linking old.kept h.2 ⊎ IsAdded tells wishes (λ here. linked here old.is_linking ≡ None) things.Link path h.0 h.2 → AreAllowed tells wishes h.2
      either (inl k) = link_stays first path h.0 old.is_linking old.kept h.2 h.3.1 k
      either (inr k) = added (λ here. linked here old.is_linking ≡ None) things.Link path h.0 h.2 k
  sound old new (Symlink to path) h s = subst IsSound (sym h.6) (both old.steps h.2 s.0 (either h.5), s.1, s.2)
    where
      either : SymlinkStays tells wishes to path h.0 old.kept h.2 h.3 ⊎ (IsAdded tells wishes IsNoSymlink things.Symlink path h.0 h.2 × (h.3 ≡ old.kept)) → AreAllowed tells wishes h.2
      either (inl k) = symlink_stays to path h.0 old.kept h.2 h.3 h.4.1 k
      either (inr k) = added IsNoSymlink things.Symlink path h.0 h.2 k.0
  sound old new (Finish wanted) h s =
      let top : tells (Finds [] ROOT (found.Folder h.0)) = subst (λ (o : Option FoundFolder). IfSome o (λ (folder : FoundFolder). tells (Finds [] ROOT (found.Folder folder)))) h.3 s.2 in
      subst IsSound (sym h.5) (
        both old.steps (h.2 ++ change_unless (are_given wishes wanted h.0.attributes) things.Folder []) s.0
            (both h.2 (change_unless (are_given wishes wanted h.0.attributes) things.Folder []) (rest old.names h.2 h.1 h.4)
            (unless (are_given wishes wanted h.0.attributes) things.Folder [] (ROOT, found.Folder h.0, top, refl))),
        s.1,
        s.2,
      )
  sound old new GiveUp h s = subst IsSound (sym h) s

  sound_all : (asked : List Asked) (old new : Comparison) → DoesAll (Compares tells wishes) old asked new → IsSound old → IsSound new
  sound_all [] old new h s = subst IsSound (sym h) s
  sound_all (first ∷ more) old new h s = sound_all more h.0 new h.2 (sound old h.0 first h.1 s)

  -- the steps of a whole comparison are allowed
  pub allowed : (limits : CopyLimits) (tree : Told → Type 0) (steps : List Step) → ComparesTree tells wishes limits tree steps → AreAllowed tells wishes steps
  allowed limits tree steps h = subst (AreAllowed tells wishes) h.1 (sound_all (Start ∷ flat_map asked_of h.2.visits ++ flat_map asked_of h.2.links ++ Finish (kept_attributes limits h.2.top.attributes) ∷ []) fresh h.0 h.2.did (none, tt, tt)).0
