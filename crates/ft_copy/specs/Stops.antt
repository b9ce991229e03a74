-- How a copy stops before its end: how far it came, and why it went no further.
use Rattle.std.specs.Prelude.{◌≡◌, ◌⊎◌, ◌<◌, ◌≤◌, ◌-◌, ◌^◌, ℕ, Bool, true, false, List, [], ◌∷◌, ◌++◌, map, length, IsSome, IsSomeAnd, Option, None, Some}
use Rattle.std.specs.List.{concat, flat_map}
use Rattle.std.specs.Io.KnownBytes.{Consumes}
use Rattle.ft_path.specs.declared.TheConstants.{LONGEST_PATH}
use Rattle.ft_copy.specs.declared.found.TheConstants.{ROOT}
use Rattle.ft_cells.specs.declared.attributes.Attributes.{Attributes}
use Rattle.ft_copy.specs.declared.found.FileFacts.{FileFacts}
use Rattle.ft_copy.specs.declared.found.FileId.{FileId}
use Rattle.ft_copy.specs.declared.found.FoundFile.{FoundFile}
use Rattle.ft_copy.specs.declared.found.FoundFolder.{FoundFolder}
use Rattle.ft_copy.specs.declared.found.Found.{Found}
use Rattle.ft_copy.specs.declared.found.Found.TheVariants as found
use Rattle.ft_copy.specs.declared.found.MetLink.{MetLink}
use Rattle.ft_copy.specs.declared.found.CopyPath.{CopyPath}
use Rattle.ft_copy.specs.declared.limits.CopyLimits.{CopyLimits}
use Rattle.ft_copy.specs.declared.copy_fault.CopyStop.{CopyStop}
use Rattle.ft_copy.specs.declared.copy_fault.CopyFault.{CopyFault}
use Rattle.ft_copy.specs.declared.copy_fault.CopyFault.TheVariants.{Memory, Read, Special, TooLarge, TooManyLinks, PathTooLong, BadName, BadTree, Full}
use Rattle.ft_copy.specs.Kept.{kept_attributes, kept_given}
use Rattle.ft_copy.specs.Told.{Told, Finds, Holds, Keeps, Leads, Refuses, IsAnother}
use Rattle.ft_copy.specs.Asked.{Asked, Start, Piece, Symlink, Finish, GiveUp, DoesAll}
use Rattle.ft_copy.specs.Walks.{Enters, Standing, is_dotted, nothing}
use Rattle.ft_copy.specs.Runs.{Visit, OfFolder, OfFile, OfFurther, OfNothing, OfSymlink, LinksTo, WalksTo, asked_of}

-- ---- the requests up to the stop

module _ {T : Type 0} (does : T → Asked → T → Type 0) (fails : T → Asked → CopyFault → T → Type 0) where
  -- The target failed at the first of the requests that were left.
  abbrev pub FailsAt : CopyFault → List Asked → T → T → Type 0
  FailsAt trouble [] old new = ⊥
  FailsAt trouble (next ∷ more) old new = fails old next trouble new

  -- The target did a prefix of these requests. Then it did nothing more, for a cause that is not
  -- its own, or it failed at the next request.
  abbrev pub StopsIn : Type 0 → CopyFault → List Asked → T → T → Type 0
  StopsIn cause trouble asked old new =
      (done : List Asked) × (rest : List Asked) × (middle : T) × (asked ≡ done ++ rest) × DoesAll does old done middle
      × (((new ≡ middle) × cause) ⊎ FailsAt trouble rest middle new)

-- ---- a visit that is not made, or not to its end

-- The reading of a file ends early if there is no memory for a piece or its reader fails. It also
-- ends early if the reader gives more bytes than the file may have.
abbrev pub EndsReading : ℕ → CopyFault → List (List ℕ) → Type 0
EndsReading most trouble pieces = (trouble ≡ Memory) ⊎ (trouble ≡ Read) ⊎ ((trouble ≡ TooLarge) × (most < length (concat pieces)))

module _ {T : Type 0} (does : T → Asked → T → Type 0) (fails : T → Asked → CopyFault → T → Type 0) where
  -- The target was to append the pieces of a file to the open one. It did so with a prefix of the
  -- pieces.
  abbrev pub StopsPouring : ℕ → CopyFault → Option (List ℕ) → T → T → Type 0
  StopsPouring most trouble left old new =
      (pieces : List (List ℕ)) × (after : Option (List ℕ)) × Consumes left after (concat pieces) × StopsIn does fails (EndsReading most trouble pieces) trouble (map Piece pieces) old new

-- the bytes that were read of a file
abbrev pub read_of : Visit → Option (List ℕ)
read_of (OfFolder path attributes) = None
read_of (OfFile path given pieces) = Some (concat pieces)
read_of (OfFurther first path) = None
read_of (OfSymlink to path) = None
read_of OfNothing = None

-- a file or a symbolic link that was already met is to get a further name
abbrev pub IsLinking : CopyPath → FileFacts → Standing → Visit → Type 0
IsLinking place facts walk visit = (first : List ℕ) × (visit ≡ OfFurther first place.path) × (walk.firsts facts.id ≡ Some first)

module _ (limits : CopyLimits) (tells : Told → Type 0) where
  -- The file was opened, and these pieces of it were read.
  abbrev pub IsReading : CopyPath → FoundFile → Visit → Type 0
  IsReading place file visit =
      (pieces : List (List ℕ)) × (opened : Option (List ℕ)) × (after : Option (List ℕ)) × (visit ≡ OfFile place.path (kept_given limits file.given) pieces)
      × tells (Holds place.path place.node file.facts.id opened) × Consumes opened after (concat pieces)

  -- A visit of what was found has begun.
  abbrev pub HasBegunAs : CopyPath → Found → Standing → Visit → Type 0
  HasBegunAs place (found.Folder folder) walk visit = visit ≡ OfFolder place.path (kept_attributes limits folder.attributes)
  HasBegunAs place (found.File file) walk visit = IsReading place file visit ⊎ IsLinking place file.facts walk visit
  HasBegunAs place (found.Symlink facts) walk visit = ⊥
  HasBegunAs place found.Special walk visit = ⊥

  -- A visit has begun, or nothing was done at the place.
  abbrev pub HasBegun : CopyPath → Standing → Visit → Type 0
  HasBegun place walk visit = (visit ≡ OfNothing) ⊎ ((found : Found) × tells (Finds place.path place.node found) × HasBegunAs place found walk visit)

module _ (tells : Told → Type 0) where
  -- a symbolic link is to be made with the target that the source reports
  abbrev pub IsLeading : MetLink → Visit → Type 0
  IsLeading link visit = (to : List ℕ) × (visit ≡ OfSymlink to link.place.path) × tells (Leads link.place.path link.place.node link.facts.id to)

  -- A symbolic link that was met is to be made, or to get a further name; or nothing was done.
  abbrev pub HasBegunLink : MetLink → Standing → Visit → Type 0
  HasBegunLink link walk visit = (visit ≡ OfNothing) ⊎ IsLeading link visit ⊎ IsLinking link.place link.facts walk visit

  -- the source reported a file at the place, for which this holds
  abbrev pub FindsFile : CopyPath → (FileFacts → Type 0) → Type 0
  FindsFile place holds = (file : FoundFile) × tells (Finds place.path place.node (found.File file)) × holds file.facts

  -- The source did not report the contents of this directory or the target of this symbolic link:
  -- it listed or read another one, or it gave a fault.
  abbrev pub IsUnread : CopyFault → List ℕ → ℕ → FileId → Type 0
  IsUnread trouble path node id = ((trouble ≡ Read) × IsAnother tells path node id) ⊎ tells (Refuses path node trouble)

  -- what was listed or opened at the place is not what was found there
  abbrev pub IsNotFound : CopyPath → Found → Type 0
  IsNotFound place (found.Folder folder) = IsAnother tells place.path place.node folder.id
  IsNotFound place (found.File file) = IsAnother tells place.path place.node file.facts.id
  IsNotFound place (found.Symlink facts) = ⊥
  IsNotFound place found.Special = ⊥

  -- something was found at the place, and what was listed or opened there is something else
  abbrev pub HasChanged : CopyPath → Type 0
  HasChanged place = (there : Found) × tells (Finds place.path place.node there) × IsNotFound place there

module _ (limits : CopyLimits) (tells : Told → Type 0) where
  -- The conditions under which each trouble stops the copy at a place.
  abbrev pub Hinders : CopyFault → CopyPath → Visit → Type 0
  Hinders Memory place visit = Unit {0}
  Hinders Read place visit = IsSome (read_of visit) ⊎ HasChanged tells place
  Hinders Special place visit = tells (Finds place.path place.node found.Special) × tells (Keeps place.path)
  Hinders TooLarge place visit = FindsFile tells place (λ facts. limits.file_size < facts.size) ⊎ IsSomeAnd (read_of visit) (λ bytes. limits.file_size < length bytes)
  Hinders TooManyLinks place visit = FindsFile tells place (λ facts. limits.links < facts.links)
  Hinders PathTooLong place visit = LONGEST_PATH < length place.path
  Hinders BadName place visit = is_dotted place.path ≡ true
  Hinders other place visit = ⊥

  -- The trouble stops the copy at the place, or the source gave it as a fault there.
  abbrev pub IsCauseAt : CopyFault → CopyPath → Visit → Type 0
  IsCauseAt trouble place visit = Hinders trouble place visit ⊎ tells (Refuses place.path place.node trouble)

  -- Why a symbolic link that was met is not made: there was not enough memory, it has too many
  -- names, another one was read, or the source gave a fault.
  abbrev pub IsCauseAtLink : CopyFault → MetLink → Type 0
  IsCauseAtLink trouble link =
      (trouble ≡ Memory) ⊎ ((trouble ≡ TooManyLinks) × (limits.links < link.facts.links))
      ⊎ IsUnread tells trouble link.place.path link.place.node link.facts.id

-- ---- a copy that is not made

-- How far a copy came: to the root; to a place after these visits; to a symbolic link after these
-- visits and links; to its end, where the root is to have these attributes; or to the limit of 2^64
-- - 1 visits.
pub data Reached : Type 0 where
  Root : Reached
  Amid : (visits : List Visit) → (place : CopyPath) → (visit : Visit) → Reached
  AmidLinks : (visits links : List Visit) → (link : MetLink) → (visit : Visit) → Reached
  Behind : (visits links : List Visit) → (kept : Attributes) → Reached
  Endless : (visits : List Visit) → Reached

-- the earlier requests to the target, which it has done
abbrev pub asked_before : Reached → List Asked
asked_before Root = []
asked_before (Amid visits place visit) = Start ∷ flat_map asked_of visits
asked_before (AmidLinks visits links link visit) = Start ∷ flat_map asked_of visits ++ flat_map asked_of links
asked_before (Behind visits links kept) = Start ∷ flat_map asked_of visits ++ flat_map asked_of links
asked_before (Endless visits) = Start ∷ flat_map asked_of visits

-- the requests to the target from then on, a prefix of which it has done at the stop
abbrev pub asked_then : Reached → List Asked
asked_then Root = Start ∷ []
asked_then (Amid visits place visit) = asked_of visit
asked_then (AmidLinks visits links link visit) = asked_of visit
asked_then (Behind visits links kept) = Finish kept ∷ []
asked_then (Endless visits) = []

-- the path at which the copy stops
abbrev pub path_at : Reached → List ℕ
path_at Root = []
path_at (Amid visits place visit) = place.path
path_at (AmidLinks visits links link visit) = link.place.path
path_at (Behind visits links kept) = []
path_at (Endless visits) = []

-- a directory was found
abbrev pub is_folder : Found → Bool
is_folder (found.Folder attributes) = true
is_folder (found.File file) = false
is_folder (found.Symlink facts) = false
is_folder found.Special = false

module _ (tells : Told → Type 0) where
  -- The source reported something at the root that is no directory.
  abbrev pub HasNoFolder : Type 0
  HasNoFolder = (there : Found) × tells (Finds [] ROOT there) × (is_folder there ≡ false)

  -- The directory that was listed at the root is not what was found there.
  abbrev pub HasChangedAtRoot : Type 0
  HasChangedAtRoot = (top : FoundFolder) × tells (Finds [] ROOT (found.Folder top)) × IsAnother tells [] ROOT top.id

  -- Why the root was not entered, if the target has not failed.
  abbrev pub IsCauseAtRoot : CopyFault → Type 0
  IsCauseAtRoot trouble = (trouble ≡ Memory) ⊎ ((trouble ≡ BadTree) × HasNoFolder) ⊎ ((trouble ≡ Read) × HasChangedAtRoot) ⊎ tells (Refuses [] ROOT trouble)

module _ (limits : CopyLimits) (tells : Told → Type 0) where
  -- These visits were made from the root on, each of the place that was next, as the source
  -- reported.
  abbrev pub HasWalked : List Visit → Standing → Type 0
  HasWalked visits now =
      (top : FoundFolder) × (begun : Standing) × tells (Finds [] ROOT (found.Folder top)) × Enters tells [] ROOT top.id nothing begun × WalksTo limits tells begun visits now

  -- These visits were made until no place was left, and then these of the links that were met were
  -- made.
  abbrev pub HasLinked : List Visit → List Visit → Standing → Type 0
  HasLinked visits links now = (walked : Standing) × HasWalked visits walked × (walked.left ≡ []) × LinksTo limits tells walked links now

  -- The copy came this far, by the reports of the source.
  abbrev pub IsReached : Reached → Type 0
  IsReached Root = Unit {0}
  IsReached (Amid visits place visit) =
      (now : Standing) × (rest : List CopyPath) × HasWalked visits now × (now.left ≡ rest ++ place ∷ []) × HasBegun limits tells place (record { left = rest; links = now.links; firsts = now.firsts }) visit
  IsReached (AmidLinks visits links link visit) =
      (now : Standing) × (more : List MetLink) × HasLinked visits links now × (now.links ≡ link ∷ more)
      × HasBegunLink tells link (record { left = now.left; links = more; firsts = now.firsts }) visit
  IsReached (Behind visits links kept) =
      (now : Standing) × HasLinked visits links now × (now.links ≡ []) × ((top : FoundFolder) × tells (Finds [] ROOT (found.Folder top)) × (kept ≡ kept_attributes limits top.attributes))
  IsReached (Endless visits) = (now : Standing) × HasWalked visits now × (2 ^ 64 - 1 ≤ length visits)

  -- Why the copy went no further, if the target has not failed.
  abbrev pub IsCause : CopyFault → Reached → Type 0
  IsCause trouble Root = IsCauseAtRoot tells trouble
  IsCause trouble (Amid visits place visit) = IsCauseAt limits tells trouble place visit
  IsCause trouble (AmidLinks visits links link visit) = IsCauseAtLink limits tells trouble link
  IsCause trouble (Behind visits links kept) = ⊥
  IsCause trouble (Endless visits) = trouble ≡ Full

module _ {T : Type 0} (tells : Told → Type 0) (fails : T → Asked → CopyFault → T → Type 0) where
  -- The target of the symbolic link is not known, or the target of the copy could not make the
  -- link.
  abbrev pub FailsToCopyLink : CopyFault → List ℕ → ℕ → FileId → T → T → Type 0
  FailsToCopyLink trouble path node id old new =
      ((new ≡ old) × IsUnread tells trouble path node id) ⊎ ((to : List ℕ) × tells (Leads path node id to) × fails old (Symlink to path) trouble new)

  -- so it is of a link that was met
  abbrev pub FailsToCopyMet : CopyFault → MetLink → T → T → Type 0
  FailsToCopyMet trouble link old new = FailsToCopyLink trouble link.place.path link.place.node link.facts.id old new

module _ {T : Type 0} (tells : Told → Type 0) (does : T → Asked → T → Type 0) (fails : T → Asked → CopyFault → T → Type 0) where
  -- The target did not start, or the root could not be entered.
  abbrev pub StopsBegin : CopyFault → T → T → Type 0
  StopsBegin trouble old new = StopsIn does fails (IsCauseAtRoot tells trouble) trouble (Start ∷ []) old new

module _ {T : Type 0} (limits : CopyLimits) (tells : Told → Type 0) (does : T → Asked → T → Type 0) (fails : T → Asked → CopyFault → T → Type 0) where
  -- A visit was not made, or not to its end.
  abbrev pub StopsVisit : CopyFault → CopyPath → Standing → T → T → Type 0
  StopsVisit trouble place walk old new =
      (visit : Visit) × HasBegun limits tells place walk visit × StopsIn does fails (IsCauseAt limits tells trouble place visit) trouble (asked_of visit) old new

  -- The visit of the next place was not made, or not to its end.
  abbrev pub StopsNext : CopyStop → Standing → T → T → Type 0
  StopsNext stopped now old new =
      (rest : List CopyPath) × (place : CopyPath) × (now.left ≡ rest ++ place ∷ []) × (stopped.path ≡ place.path)
      × StopsVisit stopped.trouble place (record { left = rest; links = now.links; firsts = now.firsts }) old new

  -- The limit of 2^64 - 1 visits was reached.
  abbrev pub RunsOut : CopyStop → List Visit → T → T → Type 0
  RunsOut stopped visits old new = (new ≡ old) × (stopped.path ≡ []) × (stopped.trouble ≡ Full) × (2 ^ 64 - 1 ≤ length visits)

  -- Places were visited until a visit stopped, or until the limit of visits.
  abbrev pub StopsVisiting : CopyStop → Standing → T → T → Type 0
  StopsVisiting stopped walk old new =
      (visits : List Visit) × (now : Standing) × (middle : T) × WalksTo limits tells walk visits now × DoesAll does old (flat_map asked_of visits) middle
      × (StopsNext stopped now middle new ⊎ RunsOut stopped visits middle new)

  -- A symbolic link was not made.
  abbrev pub StopsLink : CopyFault → MetLink → Standing → T → T → Type 0
  StopsLink trouble link walk old new =
      (visit : Visit) × HasBegunLink tells link walk visit × StopsIn does fails (IsCauseAtLink limits tells trouble link) trouble (asked_of visit) old new

  -- Symbolic links that were met were made, until one was not.
  abbrev pub StopsLinks : CopyStop → Standing → T → T → Type 0
  StopsLinks stopped walk old new =
      (links : List Visit) × (now : Standing) × (middle : T) × LinksTo limits tells walk links now × DoesAll does old (flat_map asked_of links) middle
      × ((link : MetLink) × (more : List MetLink) × (now.links ≡ link ∷ more) × (stopped.path ≡ link.place.path)
      × StopsLink stopped.trouble link (record { left = now.left; links = more; firsts = now.firsts }) middle new)

  -- A copy came this far, and no further: all earlier requests were done, and a prefix of the later
  -- ones.
  abbrev pub Stops : CopyStop → T → T → Type 0
  Stops stopped old new =
      (reached : Reached) × (middle : T) × IsReached limits tells reached × (stopped.path ≡ path_at reached) × DoesAll does old (asked_before reached) middle
      × StopsIn does fails (IsCause limits tells stopped.trouble reached) stopped.trouble (asked_then reached) middle new

  -- A copy came this far, and no further, and then the target gave up.
  abbrev pub StopsCopy : CopyStop → T → T → Type 0
  StopsCopy stopped old new = (middle : T) × Stops stopped old middle × does middle GiveUp new
