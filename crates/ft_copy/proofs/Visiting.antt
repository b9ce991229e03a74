-- What is done at one place.
use Rattle.std.proofs.Common.{◌≡◌, ◌<◌, ◌≤◌, ℕ, false, List, [], ◌∷◌, length, map, Option, Some, inl, inr, refl, sym, subst}
use Rattle.ft_cells.specs.declared.attributes.Attributes.{Attributes}
use Rattle.ft_path.specs.declared.TheConstants.{LONGEST_PATH}
use Rattle.ft_copy.specs.declared.found.FileId.{FileId}
use Rattle.ft_copy.specs.declared.found.FoundFile.{FoundFile}
use Rattle.ft_copy.specs.declared.found.FoundFolder.{FoundFolder}
use Rattle.ft_copy.specs.declared.found.Found.TheVariants as found
use Rattle.ft_copy.specs.declared.found.MetLink.{MetLink}
use Rattle.ft_copy.specs.declared.found.Given.{Given}
use Rattle.ft_copy.specs.declared.found.CopyPath.{CopyPath}
use Rattle.ft_copy.specs.declared.limits.CopyLimits.{CopyLimits}
use Rattle.ft_copy.specs.Kept.{kept_attributes, kept_given}
use Rattle.ft_copy.specs.Asked.{Asked, Close, Folder, Link, Open, Piece, Symlink}
use Rattle.ft_copy.specs.Told.{Told, Finds, Holds}
use Rattle.ft_copy.specs.Walks.{Enters, Standing, is_dotted}
use Rattle.ft_copy.specs.Runs.{CopiesFile, CopiesLink, IsNoted, MakesLink, OfFile, OfFolder, OfFurther, OfSymlink, Pours, Visits, VisitsFile}
use Rattle.ft_copy.proofs.Doing.{does_more, does_one}

module _ {T : Type 0} (limits : CopyLimits) (tells : Told → Type 0) (does : T → Asked → T → Type 0) (old new : T) where
  pub first_name : (place : CopyPath) (file : FoundFile) (walk next : Standing) → file.facts.links ≤ limits.links → file.facts.size ≤ limits.file_size
      → IsNoted file.facts place.path walk next → CopiesFile limits tells does place file.facts.id (kept_given limits file.given) old new → VisitsFile limits tells does place file walk next old new
  first_name place file walk next few small noted copied =
      (OfFile place.path (kept_given limits file.given) copied.0, (few, small, inl (copied.0, refl, copied.1, copied.2, noted)), copied.3)

  pub further_name : (place : CopyPath) (file : FoundFile) (walk : Standing) (first path : List ℕ) → path ≡ place.path → file.facts.links ≤ limits.links → file.facts.size ≤ limits.file_size
      → 1 < file.facts.links → walk.firsts file.facts.id ≡ Some first → does old (Link first path) new → VisitsFile limits tells does place file walk walk old new
  further_name place file walk first path is few small more met linked =
      (OfFurther first place.path, (few, small, inr (first, refl, more, met, refl)), does_one does old new (Link first place.path) (subst (λ p. does old (Link first p) new) is linked))

  pub folder : (middle : T) (place : CopyPath) (there : FoundFolder) (kept : Attributes) (walk next : Standing) (path : List ℕ) → kept ≡ kept_attributes limits there.attributes → path ≡ place.path → is_dotted path ≡ false → length path ≤ LONGEST_PATH
      → tells (Finds path place.node (found.Folder there)) → Enters tells path place.node there.id walk next → does old (Folder path kept) middle → new ≡ middle → Visits limits tells does place walk next old new
  folder middle place there kept walk next path as_kept is plain short told entered done same = (
    OfFolder place.path (kept_attributes limits there.attributes),
    (
      subst (λ p. is_dotted p ≡ false) is plain,
      subst (λ p. length p ≤ LONGEST_PATH) is short,
      (found.Folder there, subst (λ p. tells (Finds p place.node (found.Folder there))) is told, (refl, subst (λ p. Enters tells p place.node there.id walk next) is entered)),
    ),
    does_one does old new (Folder place.path (kept_attributes limits there.attributes))
        (subst (λ p. does old (Folder p (kept_attributes limits there.attributes)) new) is (subst (λ t. does old (Folder path (kept_attributes limits there.attributes)) t) (sym same) (subst (λ a. does old (Folder path a) middle) as_kept done))),
  )

  pub copied : (opened poured : T) (place : CopyPath) (id : FileId) (given : Given) (left : Option (List ℕ)) → tells (Holds place.path place.node id left) → does old (Open place.path given.attributes) opened
      → Pours does limits.file_size left opened poured → does poured (Close given.time) new → CopiesFile limits tells does place id given old new
  copied opened poured place id given left holds was_opened pours closed =
      (pours.0, (left, holds, pours.1), pours.2, (opened, was_opened, does_more does opened poured new (map Piece pours.0) (Close given.time ∷ []) pours.3 (does_one does poured new (Close given.time) closed)))

  pub first_link : (link : MetLink) (walk next : Standing) → link.facts.links ≤ limits.links
      → IsNoted link.facts link.place.path walk next → CopiesLink tells does link.place.path link.place.node link.facts.id old new → MakesLink limits tells does link walk next old new
  first_link link walk next few noted made =
      (OfSymlink made.0 link.place.path, (few, inl (made.0, refl, made.1, noted)), does_one does old new (Symlink made.0 link.place.path) made.2)

  pub further_link : (link : MetLink) (walk : Standing) (first path : List ℕ) → path ≡ link.place.path → link.facts.links ≤ limits.links
      → 1 < link.facts.links → walk.firsts link.facts.id ≡ Some first → does old (Link first path) new → MakesLink limits tells does link walk walk old new
  further_link link walk first path is few more met linked =
      (OfFurther first link.place.path, (few, inr (first, refl, more, met, refl)), does_one does old new (Link first link.place.path) (subst (λ p. does old (Link first p) new) is linked))
