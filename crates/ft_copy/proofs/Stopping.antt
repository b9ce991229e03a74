-- Where a copy stops.
use Rattle.std.proofs.Common.{◌≡◌, ◌⊎◌, ◌||◌, ℕ, Bool, true, false, List, [], ◌∷◌, ◌++◌, map, Result, Ok, Err, IfErr, IsErrAnd, Option, Some, inl, inr, refl, sym, ap, ◌∙◌, subst, append-nil, append_assoc}
use Rattle.std.proofs.lemmas.List.Folds.{list_any-append}
use Rattle.std.specs.List.{concat, list_any, flat_map}
use Rattle.std.specs.Io.KnownBytes.{Consumes}
use Rattle.ft_cells.specs.declared.attributes.Attributes.{Attributes}
use Rattle.ft_copy.specs.declared.found.TheConstants.{ROOT}
use Rattle.ft_copy.specs.declared.found.FoundFile.{FoundFile}
use Rattle.ft_copy.specs.declared.found.FoundFolder.{FoundFolder}
use Rattle.ft_copy.specs.declared.found.Given.{Given}
use Rattle.ft_copy.specs.declared.found.Found.TheVariants as found
use Rattle.ft_copy.specs.declared.found.MetLink.{MetLink}
use Rattle.ft_copy.specs.declared.found.CopyPath.{CopyPath}
use Rattle.ft_copy.specs.declared.limits.CopyLimits.{CopyLimits}
use Rattle.ft_copy.specs.Kept.{kept_attributes, kept_given}
use Rattle.ft_copy.specs.declared.copy_fault.CopyStop.{CopyStop}
use Rattle.ft_copy.specs.declared.copy_fault.CopyFault.{CopyFault}
use Rattle.ft_copy.specs.declared.copy_fault.CopyFault.TheVariants.{Memory, Read}
use Rattle.ft_copy.specs.Asked.{Asked, Start, Folder, Open, Piece, Link, Symlink, Close, Finish, DoesAll, IsUnfinished, is_finish}
use Rattle.ft_copy.specs.Told.{Told, Finds, Holds, Refuses, IsAnother}
use Rattle.ft_copy.specs.Walks.{Enters, Standing, nothing}
use Rattle.ft_copy.specs.Runs.{GivesUp, LinksTo, Reaches, Visit, OfFolder, OfFile, OfFurther, OfNothing, OfSymlink, WalksTo, asked_of, made}
use Rattle.ft_copy.specs.Stops.{EndsReading, FailsAt, FailsToCopyLink, HasBegun, Hinders, IsCause, IsCauseAt, IsCauseAtLink, IsCauseAtRoot, IsUnread, Reached, Root, Amid, AmidLinks, Behind, Endless, RunsOut, Stops, StopsCopy, StopsIn, StopsLink, StopsLinks, StopsNext, StopsPouring, StopsVisit, StopsVisiting, asked_before, asked_then}
use Rattle.ft_copy.proofs.Doing.{does_more, pieces_more, unfinished_more, unfinished_visit, unfinished_visits}

-- what stands at an error that a `?` hands on
pub at_fault : {V E : Type 0} {P Q : E → Type 0} (r : Result V E) → IsErrAnd r P → ((e : E) → P e → Q e) → IfErr r Q
at_fault (Ok x) h f = tt
at_fault (Err e) h f = f e h

-- what follows from each error
pub if_err : {V E : Type 0} {P Q : E → Type 0} (r : Result V E) → ((e : E) → P e → Q e) → IfErr r P → IfErr r Q
if_err (Ok x) f h = tt
if_err (Err e) f h = f e h

-- a read that failed ends a file
pub unread : (most : ℕ) (trouble other : CopyFault) (pieces : List (List ℕ)) → trouble ≡ other → (other ≡ Memory) ⊎ (other ≡ Read) → EndsReading most trouble pieces
unread most trouble other pieces is (inl memory) = inl (is ∙ memory)
unread most trouble other pieces is (inr read) = inr (inl (is ∙ read))

or_parts : (a b : Bool) → (a || b) ≡ false → a ≡ false
or_parts true b h = h
or_parts false b h = refl

unfinished_front : (front back : List Asked) → IsUnfinished (front ++ back) → IsUnfinished front
unfinished_front front back h = or_parts (list_any is_finish front) (list_any is_finish back) (sym (list_any-append is_finish front back) ∙ h)

two_are_not_one : (last first : Asked) (done : List Asked) (next : Asked) (rest : List Asked) → last ∷ [] ≡ first ∷ (done ++ next ∷ rest) → ⊥
two_are_not_one last first [] next rest is = cc
two_are_not_one last first (d ∷ ds) next rest is = cc

unfinished_both : (visits links : List Visit) → IsUnfinished (flat_map asked_of visits ++ flat_map asked_of links)
unfinished_both visits links = unfinished_more (flat_map asked_of visits) (flat_map asked_of links) (unfinished_visits visits) (unfinished_visits links)

-- all that was asked for, by what was done of it and what was left
pub after_all : (before then done rest : List Asked) → then ≡ done ++ rest → before ++ then ≡ (before ++ done) ++ rest
after_all before then done rest is = ap (λ l. before ++ l) is ∙ sym (append_assoc before done rest)

-- the root could not be entered
pub root_unread : (tells : Told → Type 0) (top : FoundFolder) (path : List ℕ) (trouble other : CopyFault) → path ≡ [] → trouble ≡ other → tells (Finds [] ROOT (found.Folder top)) → (other ≡ Memory) ⊎ IsUnread tells other path ROOT top.id
    → IsCauseAtRoot tells trouble
root_unread tells top path trouble other at is told (inl memory) = inl (is ∙ memory)
root_unread tells top path trouble other at is told (inr (inl h)) = inr (inr (inl (is ∙ h.0, (top, told, subst (λ p. IsAnother tells p ROOT top.id) at h.1))))
root_unread tells top path trouble other at is told (inr (inr refused)) =
    inr (inr (inr (subst (λ t. tells (Refuses [] ROOT t)) (sym is) (subst (λ p. tells (Refuses p ROOT other)) at refused))))

module _ {T : Type 0} (does : T → Asked → T → Type 0) (fails : T → Asked → CopyFault → T → Type 0) where
  -- nothing was done of it
  pub stops_nothing : (cause : Type 0) (trouble : CopyFault) (asked : List Asked) (old : T) → cause → StopsIn does fails cause trouble asked old old
  stops_nothing cause trouble asked old h = ([], asked, old, refl, refl, inl (refl, h))

  -- the first of it failed
  pub stops_first : (cause : Type 0) (trouble : CopyFault) (first : Asked) (more : List Asked) (old new : T) → fails old first trouble new → StopsIn does fails cause trouble (first ∷ more) old new
  stops_first cause trouble first more old new h = ([], first ∷ more, old, refl, refl, inr h)

  -- something was done before it
  pub stops_after : (cause : Type 0) (trouble : CopyFault) (front asked : List Asked) (old middle new : T) → DoesAll does old front middle → StopsIn does fails cause trouble asked middle new
      → StopsIn does fails cause trouble (front ++ asked) old new
  stops_after cause trouble front asked old middle new h k =
      (front ++ k.0, k.1, k.2, ap (λ l. front ++ l) k.3 ∙ sym (append_assoc front k.0 k.1), does_more does old middle k.2 front k.0 h k.4, k.5)

  -- more would have been asked for
  pub stops_before : (cause : Type 0) (trouble : CopyFault) (asked more : List Asked) (old new : T) → StopsIn does fails cause trouble asked old new → StopsIn does fails cause trouble (asked ++ more) old new
  stops_before cause trouble asked more old new k =
      (k.0, k.1 ++ more, k.2, ap (λ l. l ++ more) k.3 ∙ append_assoc k.0 k.1 more, k.4, either k.1 k.5)
    where
      either : (rest : List Asked) → ((new ≡ k.2) × cause) ⊎ FailsAt does fails trouble rest k.2 new → ((new ≡ k.2) × cause) ⊎ FailsAt does fails trouble (rest ++ more) k.2 new
      either rest (inl h) = inl h
      either [] (inr h) = absurd h
      either (next ∷ rest) (inr h) = inr h

  -- all of it was done
  pub stops_all : (cause : Type 0) (trouble : CopyFault) (asked : List Asked) (old new : T) → DoesAll does old asked new → cause → StopsIn does fails cause trouble asked old new
  stops_all cause trouble asked old new h why = (asked, [], new, sym (append-nil asked), h, inl (refl, why))

  -- for another cause
  pub stops_since : (cause cause_now : Type 0) (trouble : CopyFault) (asked : List Asked) (old new : T) → (cause → cause_now) → StopsIn does fails cause trouble asked old new → StopsIn does fails cause_now trouble asked old new
  stops_since cause cause_now trouble asked old new f k = (k.0, k.1, k.2, k.3, k.4, either k.5)
    where
      either : ((new ≡ k.2) × cause) ⊎ FailsAt does fails trouble k.1 k.2 new → ((new ≡ k.2) × cause_now) ⊎ FailsAt does fails trouble k.1 k.2 new
      either (inl h) = inl (h.0, f h.1)
      either (inr h) = inr h

  -- pieces were put before it into the open file
  pub stops_pieces : (cause : Type 0) (trouble : CopyFault) (some : List (List ℕ)) (piece : List ℕ) (old middle new : T) → DoesAll does old (map Piece some) middle
      → StopsIn does fails cause trouble (Piece piece ∷ []) middle new → StopsIn does fails cause trouble (map Piece (some ++ piece ∷ [])) old new
  stops_pieces cause trouble some piece old middle new h k =
      subst (λ l. StopsIn does fails cause trouble l old new) (sym (pieces_more some piece)) (stops_after cause trouble (map Piece some) (Piece piece ∷ []) old middle new h k)

  reaches_in : (cause : Type 0) (trouble : CopyFault) (asked : List Asked) (old middle new : T) (before : List Asked) → IsUnfinished before → IsUnfinished asked → DoesAll does old before middle
      → StopsIn does fails cause trouble asked middle new → Reaches does fails old new
  reaches_in cause trouble asked old middle new before free free_then did k =
      (before ++ k.0, k.2, unfinished_more before k.0 free (unfinished_front k.0 k.1 (subst IsUnfinished k.3 free_then)), does_more does old middle k.2 before k.0 did k.4, either k.1 k.5)
    where
      either : (rest : List Asked) → ((new ≡ k.2) × cause) ⊎ FailsAt does fails trouble rest k.2 new → (new ≡ k.2) ⊎ ((asked : Asked) × (trouble : CopyFault) × fails k.2 asked trouble new)
      either rest (inl h) = inl h.0
      either [] (inr h) = absurd h
      either (next ∷ rest) (inr h) = inr (next, trouble, h)

  -- only the last of it can have failed
  reaches_last : (trouble : CopyFault) (last : Asked) (old middle new : T) (before : List Asked) → IsUnfinished before → DoesAll does old before middle
      → StopsIn does fails ⊥ trouble (last ∷ []) middle new → Reaches does fails old new
  reaches_last trouble last old middle new before free did k = by_parts k.0 k.1 k.3 k.4 k.5
    where
      by_parts : (done rest : List Asked) → last ∷ [] ≡ done ++ rest → DoesAll does middle done k.2 → ((new ≡ k.2) × ⊥) ⊎ FailsAt does fails trouble rest k.2 new → Reaches does fails old new
      by_parts done rest is h (inl none) = absurd none.1
      by_parts done [] is h (inr failed) = absurd failed
      by_parts [] (next ∷ rest) is h (inr failed) = (before, middle, free, did, inr (next, trouble, subst (λ t. fails t next trouble new) h failed))
      by_parts (first ∷ done) (next ∷ rest) is h (inr failed) = absurd (two_are_not_one last first done next rest is)

module _ {T : Type 0} (limits : CopyLimits) (tells : Told → Type 0) (does : T → Asked → T → Type 0) (fails : T → Asked → CopyFault → T → Type 0) where
  -- a copy that stops has not finished
  pub reaches : (stopped : CopyStop) (old new : T) → Stops limits tells does fails stopped old new → Reaches does fails old new
  reaches stopped old new h = so_far h.0 h.4 h.5
    where
      so_far : (reached : Reached) → DoesAll does old (asked_before reached) h.1 → StopsIn does fails (IsCause limits tells stopped.trouble reached) stopped.trouble (asked_then reached) h.1 new → Reaches does fails old new
      so_far Root did k = reaches_in does fails (IsCause limits tells stopped.trouble Root) stopped.trouble (Start ∷ []) old h.1 new [] refl refl did k
      so_far (Amid visits place visit) did k = reaches_in does fails (IsCauseAt limits tells stopped.trouble place visit) stopped.trouble (asked_of visit) old h.1 new (Start ∷ flat_map asked_of visits) (unfinished_visits visits) (unfinished_visit visit) did k
      so_far (AmidLinks visits links link visit) did k =
          reaches_in does fails (IsCauseAtLink limits tells stopped.trouble link) stopped.trouble (asked_of visit) old h.1 new (Start ∷ flat_map asked_of visits ++ flat_map asked_of links) (unfinished_both visits links) (unfinished_visit visit) did k
      so_far (Behind visits links kept) did k = reaches_last does fails stopped.trouble (Finish kept) old h.1 new (Start ∷ flat_map asked_of visits ++ flat_map asked_of links) (unfinished_both visits links) did k
      so_far (Endless visits) did k = reaches_in does fails (IsCause limits tells stopped.trouble (Endless visits)) stopped.trouble [] old h.1 new (Start ∷ flat_map asked_of visits) (unfinished_visits visits) refl did k

  pub gives_up : (stopped : CopyStop) (old new : T) → StopsCopy limits tells does fails stopped old new → GivesUp does fails old new
  gives_up stopped old new h = (h.0, reaches stopped old h.0 h.1, h.2)

  -- ---- files

  reading_hinders : (trouble : CopyFault) (place : CopyPath) (path : List ℕ) (given : Given) (pieces : List (List ℕ)) → EndsReading limits.file_size trouble pieces → IsCauseAt limits tells trouble place (OfFile path given pieces)
  reading_hinders trouble place path given pieces (inl h) = inl (subst (λ t. Hinders limits tells t place (OfFile path given pieces)) (sym h) tt)
  reading_hinders trouble place path given pieces (inr (inl h)) = inl (subst (λ t. Hinders limits tells t place (OfFile path given pieces)) (sym h) (inl refl))
  reading_hinders trouble place path given pieces (inr (inr h)) = inl (subst (λ t. Hinders limits tells t place (OfFile path given pieces)) (sym h.0) (inr h.1))

  module _ (place : CopyPath) (file : FoundFile) (given : Given) (is : given ≡ kept_given limits file.given) (walk : Standing) (told : tells (Finds place.path place.node (found.File file)))
      (left : Option (List ℕ)) (holds : tells (Holds place.path place.node file.facts.id left)) where
    has_begun : (pieces : List (List ℕ)) (after : Option (List ℕ)) → Consumes left after (concat pieces) → HasBegun limits tells place walk (OfFile place.path given pieces)
    has_begun pieces after gave = inr (found.File file, told, inl (pieces, left, after, ap (λ (g : Given). OfFile place.path g pieces) is, holds, gave))

    -- a file could not be opened by the target
    pub stops_open : (trouble : CopyFault) (old new : T) → Consumes left left [] → fails old (Open place.path given.attributes) trouble new → StopsVisit limits tells does fails trouble place walk old new
    stops_open trouble old new none h =
        let visit = OfFile place.path given [] in
        (visit, has_begun [] left none, stops_first does fails (IsCauseAt limits tells trouble place visit) trouble (Open place.path given.attributes) (Close given.time ∷ []) old new h)

    -- its pieces could not be read, or put into it
    pub stops_pour : (trouble : CopyFault) (old opened new : T) → does old (Open place.path given.attributes) opened → StopsPouring does fails limits.file_size trouble left opened new → StopsVisit limits tells does fails trouble place walk old new
    stops_pour trouble old opened new was_opened h =
        let visit = OfFile place.path given h.0 in
        let cause = IsCauseAt limits tells trouble place visit in
        let poured = stops_since does fails (EndsReading limits.file_size trouble h.0) cause trouble (map Piece h.0) opened new (reading_hinders trouble place place.path given h.0) h.3 in
        let closes = stops_before does fails cause trouble (map Piece h.0) (Close given.time ∷ []) opened new poured in
        (visit, has_begun h.0 h.1 h.2, stops_after does fails cause trouble (Open place.path given.attributes ∷ []) (map Piece h.0 ++ Close given.time ∷ []) old opened new (opened, was_opened, refl) closes)

    -- it could not be closed
    pub stops_close : (trouble : CopyFault) (old opened poured new : T) (pieces : List (List ℕ)) (after : Option (List ℕ)) → Consumes left after (concat pieces)
        → does old (Open place.path given.attributes) opened → DoesAll does opened (map Piece pieces) poured → fails poured (Close given.time) trouble new → StopsVisit limits tells does fails trouble place walk old new
    stops_close trouble old opened poured new pieces after gave was_opened pours h =
        let visit = OfFile place.path given pieces in
        let cause = IsCauseAt limits tells trouble place visit in (
          visit,
          has_begun pieces after gave,
          stops_after does fails cause trouble (Open place.path given.attributes ∷ map Piece pieces) (Close given.time ∷ []) old poured new (opened, was_opened, pours)
              (stops_first does fails cause trouble (Close given.time) [] poured new h),
        )

  -- nothing was done at a place
  pub stops_at : (trouble : CopyFault) (place : CopyPath) (walk : Standing) (old : T) → IsCauseAt limits tells trouble place OfNothing → StopsVisit limits tells does fails trouble place walk old old
  stops_at trouble place walk old h = (OfNothing, inl refl, stops_nothing does fails (IsCauseAt limits tells trouble place OfNothing) trouble [] old h)

  -- another file was opened there
  pub stops_another : (place : CopyPath) (file : FoundFile) (walk : Standing) (old : T) → tells (Finds place.path place.node (found.File file)) → IsAnother tells place.path place.node file.facts.id
      → StopsVisit limits tells does fails Read place walk old old
  stops_another place file walk old told another = stops_at Read place walk old (inl (inr (found.File file, told, another)))

  -- a directory was made, and could not be entered
  pub stops_folder : (trouble : CopyFault) (place : CopyPath) (there : FoundFolder) (kept : Attributes) (walk : Standing) (path : List ℕ) (old made : T) → kept ≡ kept_attributes limits there.attributes → path ≡ place.path
      → tells (Finds path place.node (found.Folder there)) → does old (Folder path kept) made → (trouble ≡ Memory) ⊎ IsUnread tells trouble path place.node there.id → StopsVisit limits tells does fails trouble place walk old made
  stops_folder trouble place there kept walk path old made as_kept is told did h =
      let visit = OfFolder place.path kept in (
        visit,
        inr (found.Folder there, subst (λ p. tells (Finds p place.node (found.Folder there))) is told, ap (OfFolder place.path) as_kept),
        stops_after does fails (IsCauseAt limits tells trouble place visit) trouble (Folder place.path kept ∷ []) [] old made made (made, subst (λ p. does old (Folder p kept) made) is did, refl)
            (stops_nothing does fails (IsCauseAt limits tells trouble place visit) trouble [] made (either h)),
      )
    where
      either : (trouble ≡ Memory) ⊎ IsUnread tells trouble path place.node there.id → IsCauseAt limits tells trouble place (OfFolder place.path kept)
      either (inl memory) = inl (subst (λ t. Hinders limits tells t place (OfFolder place.path kept)) (sym memory) tt)
      either (inr (inl k)) =
          inl (subst (λ t. Hinders limits tells t place (OfFolder place.path kept)) (sym k.0)
          (inr (found.Folder there, subst (λ p. tells (Finds p place.node (found.Folder there))) is told, subst (λ p. IsAnother tells p place.node there.id) is k.1)))
      either (inr (inr refused)) = inr (subst (λ p. tells (Refuses p place.node trouble)) is refused)

  -- it could not be made
  pub stops_making : (trouble : CopyFault) (place : CopyPath) (there : FoundFolder) (kept : Attributes) (walk : Standing) (path : List ℕ) (old new : T) → kept ≡ kept_attributes limits there.attributes → path ≡ place.path
      → tells (Finds path place.node (found.Folder there)) → fails old (Folder path kept) trouble new → StopsVisit limits tells does fails trouble place walk old new
  stops_making trouble place there kept walk path old new as_kept is told failed =
      let visit = OfFolder place.path kept in (
        visit,
        inr (found.Folder there, subst (λ p. tells (Finds p place.node (found.Folder there))) is told, ap (OfFolder place.path) as_kept),
        stops_first does fails (IsCauseAt limits tells trouble place visit) trouble (Folder place.path kept) [] old new (subst (λ p. fails old (Folder p kept) trouble new) is failed),
      )

  -- a further name could not be given
  pub stops_link : (trouble : CopyFault) (place : CopyPath) (file : FoundFile) (walk : Standing) (first path : List ℕ) (old new : T) → path ≡ place.path
      → tells (Finds place.path place.node (found.File file)) → walk.firsts file.facts.id ≡ Some first → fails old (Link first path) trouble new → StopsVisit limits tells does fails trouble place walk old new
  stops_link trouble place file walk first path old new is told met failed =
      let visit = OfFurther first place.path in (
        visit,
        inr (found.File file, told, inr (first, refl, met)),
        stops_first does fails (IsCauseAt limits tells trouble place visit) trouble (Link first place.path) [] old new (subst (λ p. fails old (Link first p) trouble new) is failed),
      )

  -- ---- symbolic links

  -- nothing was done at one
  pub stops_at_link : (trouble : CopyFault) (link : MetLink) (walk : Standing) (old : T) → IsCauseAtLink limits tells trouble link → StopsLink limits tells does fails trouble link walk old old
  stops_at_link trouble link walk old h = (OfNothing, inl refl, stops_nothing does fails (IsCauseAtLink limits tells trouble link) trouble [] old h)

  -- it could not be made
  pub stops_copy_link : (trouble : CopyFault) (link : MetLink) (walk : Standing) (old new : T) → FailsToCopyLink tells fails trouble link.place.path link.place.node link.facts.id old new
      → StopsLink limits tells does fails trouble link walk old new
  stops_copy_link trouble link walk old new (inl h) =
      subst (λ t. StopsLink limits tells does fails trouble link walk old t) (sym h.0) (stops_at_link trouble link walk old (inr (inr h.1)))
  stops_copy_link trouble link walk old new (inr h) =
      let visit = OfSymlink h.0 link.place.path in (
        visit,
        inr (inl (h.0, refl, h.1)),
        stops_first does fails (IsCauseAtLink limits tells trouble link) trouble (Symlink h.0 link.place.path) [] old new h.2,
      )

  -- a further name could not be given to it
  pub stops_further_link : (trouble : CopyFault) (link : MetLink) (walk : Standing) (first path : List ℕ) (old new : T) → path ≡ link.place.path
      → walk.firsts link.facts.id ≡ Some first → fails old (Link first path) trouble new → StopsLink limits tells does fails trouble link walk old new
  stops_further_link trouble link walk first path old new is met failed =
      let visit = OfFurther first link.place.path in (
        visit,
        inr (inr (first, refl, met)),
        stops_first does fails (IsCauseAtLink limits tells trouble link) trouble (Link first link.place.path) [] old new (subst (λ p. fails old (Link first p) trouble new) is failed),
      )

  -- ---- the whole copy

  pub stops_root : (stopped : CopyStop) (trouble : CopyFault) (old new : T) → stopped.trouble ≡ trouble → stopped.path ≡ [] → StopsIn does fails (IsCause limits tells trouble Root) trouble (Start ∷ []) old new
      → Stops limits tells does fails stopped old new
  stops_root stopped trouble old new is at h =
      (Root, old, tt, at, refl, subst (λ t. StopsIn does fails (IsCause limits tells t Root) t (Start ∷ []) old new) (sym is) h)

  pub stops_amid : (stopped : CopyStop) (top : FoundFolder) (begun : Standing) (old started new : T) → tells (Finds [] ROOT (found.Folder top)) → Enters tells [] ROOT top.id nothing begun → does old Start started → StopsVisiting limits tells does fails stopped begun started new
      → Stops limits tells does fails stopped old new
  stops_amid stopped top begun old started new told entered did h = either h.5
    where
      either : StopsNext limits tells does fails stopped h.1 h.2 new ⊎ RunsOut limits tells does fails stopped h.0 h.2 new → Stops limits tells does fails stopped old new
      either (inl k) = (Amid h.0 k.1 k.4.0, h.2, (h.1, k.0, (top, begun, told, entered, h.3), k.2, k.4.1), k.3, (started, did, h.4), k.4.2)
      either (inr k) =
          (Endless h.0, h.2, (h.1, (top, begun, told, entered, h.3), k.3), k.1, (started, did, h.4), ([], [], h.2, refl, refl, inl (k.0, k.2)))

  pub stops_linking : (stopped : CopyStop) (top : FoundFolder) (begun walked : Standing) (visits : List Visit) (old started visited new : T) → tells (Finds [] ROOT (found.Folder top)) → Enters tells [] ROOT top.id nothing begun → does old Start started
      → WalksTo limits tells begun visits walked → walked.left ≡ [] → DoesAll does started (flat_map asked_of visits) visited → StopsLinks limits tells does fails stopped walked visited new
      → Stops limits tells does fails stopped old new
  stops_linking stopped top begun walked visits old started visited new told entered did walk all made h = (
    AmidLinks visits h.0 h.5.0 h.5.4.0,
    h.2,
    (h.1, h.5.1, (walked, (top, begun, told, entered, walk), all, h.3), h.5.2, h.5.4.1),
    h.5.3,
    (started, did, does_more does started visited h.2 (flat_map asked_of visits) (flat_map asked_of h.0) made h.4),
    h.5.4.2,
  )

  pub stops_last : (stopped : CopyStop) (trouble : CopyFault) (top : FoundFolder) (kept : Attributes) (begun walked done : Standing) (visits links : List Visit) (old started visited linked new : T) → stopped.trouble ≡ trouble → stopped.path ≡ []
      → tells (Finds [] ROOT (found.Folder top)) → kept ≡ kept_attributes limits top.attributes → Enters tells [] ROOT top.id nothing begun → does old Start started → WalksTo limits tells begun visits walked → walked.left ≡ [] → LinksTo limits tells walked links done → done.links ≡ []
      → DoesAll does started (flat_map asked_of visits) visited → DoesAll does visited (flat_map asked_of links) linked → fails linked (Finish kept) trouble new → Stops limits tells does fails stopped old new
  stops_last stopped trouble top kept begun walked done visits links old started visited linked new is at told as_kept entered did walk all last all_links made made_links failed = (
    Behind visits links kept,
    linked,
    (done, (walked, (top, begun, told, entered, walk), all, last), all_links, (top, told, as_kept)),
    at,
    (started, did, does_more does started visited linked (flat_map asked_of visits) (flat_map asked_of links) made made_links),
    stops_first does fails ⊥ stopped.trouble (Finish kept) [] linked new (subst (λ t. fails linked (Finish kept) t new) (sym is) failed),
  )
