-- What is copied from a source that tells something is copied from one that tells what follows
-- from it.
use Rattle.std.proofs.Common.{◌⊎◌, ℕ, List, [], ◌∷◌, Option, inl, inr}
use Rattle.ft_copy.specs.declared.found.FileFacts.{FileFacts}
use Rattle.ft_copy.specs.declared.found.FileId.{FileId}
use Rattle.ft_copy.specs.declared.found.FoundFile.{FoundFile}
use Rattle.ft_copy.specs.declared.found.Found.{Found}
use Rattle.ft_copy.specs.declared.found.Found.TheVariants as found
use Rattle.ft_copy.specs.declared.found.FolderEntry.{FolderEntry}
use Rattle.ft_copy.specs.declared.found.MetLink.{MetLink}
use Rattle.ft_copy.specs.declared.found.CopyPath.{CopyPath}
use Rattle.ft_copy.specs.declared.found.TheConstants.{ROOT}
use Rattle.ft_copy.specs.declared.limits.CopyLimits.{CopyLimits}
use Rattle.ft_copy.specs.declared.copy_fault.CopyStop.{CopyStop}
use Rattle.ft_copy.specs.declared.copy_fault.CopyFault.{CopyFault}
use Rattle.ft_copy.specs.declared.copy_fault.CopyFault.TheVariants as trouble
use Rattle.ft_copy.specs.Asked.{Asked}
use Rattle.ft_copy.specs.Told.{Told, Lists, Finds, Holds, Leads, Omits, Keeps, Refuses, IsAnother}
use Rattle.ft_copy.specs.Walks.{Enters, IsRead, Standing, nothing}
use Rattle.ft_copy.specs.Stops.{FindsFile, HasBegun, HasBegunAs, HasBegunLink, HasLinked, HasWalked, Hinders, IsCause, IsCauseAt, IsCauseAtLink, IsNotFound, IsReached, IsUnread, Reached, Root, Amid, AmidLinks, Behind, Endless, Stops, StopsCopy, asked_then}
use Rattle.ft_copy.proofs.Stopping.{stops_since}
use Rattle.ft_copy.specs.Runs.{Copies, IsFileVisit, IsFirstLink, IsFirstName, IsFurtherName, IsLinkVisit, IsVisit, IsVisitOf, LinksTo, Visit, WalksTo}

module _ (limits : CopyLimits) (P Q : Told → Type 0) (follows : (told : Told) → P told → Q told) where
  entered : (path : List ℕ) (node : ℕ) (id : FileId) (old new : Standing) → Enters P path node id old new → Enters Q path node id old new
  entered path node id old new h = (h.0, h.1, follows (Lists path node id h.0) h.2, h.3, h.4, h.5)

  read : (path : List ℕ) (node : ℕ) (id : FileId) (pieces : List (List ℕ)) → IsRead P path node id pieces → IsRead Q path node id pieces
  read path node id pieces h = (h.0, follows (Holds path node id h.0) h.1, h.2)

  first : (place : CopyPath) (here : FoundFile) (old : Standing) (visit : Visit) (new : Standing) → IsFirstName limits P place here old visit new → IsFirstName limits Q place here old visit new
  first place here old visit new h = (h.0, h.1, read place.path place.node here.facts.id h.0 h.2, h.3, h.4)

  file : (place : CopyPath) (here : FoundFile) (old : Standing) (visit : Visit) (new : Standing) → IsFileVisit limits P place here old visit new → IsFileVisit limits Q place here old visit new
  file place here old visit new h = (h.0, h.1, either h.2)
    where
      either : IsFirstName limits P place here old visit new ⊎ IsFurtherName place here.facts old visit new → IsFirstName limits Q place here old visit new ⊎ IsFurtherName place here.facts old visit new
      either (inl k) = inl (first place here old visit new k)
      either (inr k) = inr k

  found_there : (place : CopyPath) (there : Found) (old : Standing) (visit : Visit) (new : Standing) → IsVisitOf limits P place there old visit new → IsVisitOf limits Q place there old visit new
  found_there place (found.Folder folder) old visit new h = (h.0, entered place.path place.node folder.id old new h.1)
  found_there place (found.File here) old visit new h = file place here old visit new h
  found_there place (found.Symlink facts) old visit new h = h
  found_there place found.Special old visit new h = (h.0, follows (Omits place.path) h.1, h.2)

  visited : (place : CopyPath) (old : Standing) (visit : Visit) (new : Standing) → IsVisit limits P place old visit new → IsVisit limits Q place old visit new
  visited place old visit new h = (h.0, h.1, (h.2.0, follows (Finds place.path place.node h.2.0) h.2.1, found_there place h.2.0 old visit new h.2.2))

  walked : (old : Standing) (visits : List Visit) (new : Standing) → WalksTo limits P old visits new → WalksTo limits Q old visits new
  walked old [] new h = h
  walked old (visit ∷ visits) new h = (h.0, h.1, h.2, h.3, visited h.1 (record { left = h.0; links = old.links; firsts = old.firsts }) visit h.2 h.4, walked h.2 visits new h.5)

  link_visited : (link : MetLink) (old : Standing) (visit : Visit) (new : Standing) → IsLinkVisit limits P link old visit new → IsLinkVisit limits Q link old visit new
  link_visited link old visit new h = (h.0, either h.1)
    where
      either : IsFirstLink limits P link old visit new ⊎ IsFurtherName link.place link.facts old visit new → IsFirstLink limits Q link old visit new ⊎ IsFurtherName link.place link.facts old visit new
      either (inl k) = inl (k.0, k.1, follows (Leads link.place.path link.place.node link.facts.id k.0) k.2, k.3)
      either (inr k) = inr k

  linked : (old : Standing) (visits : List Visit) (new : Standing) → LinksTo limits P old visits new → LinksTo limits Q old visits new
  linked old [] new h = h
  linked old (visit ∷ visits) new h = (h.0, h.1, h.2, h.3, link_visited h.0 (record { left = old.left; links = h.1; firsts = old.firsts }) visit h.2 h.4, linked h.2 visits new h.5)

  pub copies : {T : Type 0} (does : T → Asked → T → Type 0) (old new : T) → Copies limits P does old new → Copies limits Q does old new
  copies does old new h = record {
    top = h.top;
    folder = follows (Finds [] ROOT (found.Folder h.top)) h.folder;
    begun = h.begun;
    visits = h.visits;
    walked = h.walked;
    links = h.links;
    done = h.done;
    root = entered [] ROOT h.top.id nothing h.begun h.root;
    walk = walked h.begun h.visits h.walked h.walk;
    all = h.all;
    last = linked h.walked h.links h.done h.last;
    all_links = h.all_links;
    did = h.did;
  }

  -- ---- where it stops

  found_file : (place : CopyPath) (holds : FileFacts → Type 0) → FindsFile P place holds → FindsFile Q place holds
  found_file place holds h = (h.0, follows (Finds place.path place.node (found.File h.0)) h.1, h.2)

  another : (path : List ℕ) (node : ℕ) (id : FileId) → IsAnother P path node id → IsAnother Q path node id
  another path node id h = (h.0, h.1, either h.2)
    where
      Names : (Told → Type 0) → Type 0
      Names tells = (names : List FolderEntry) × tells (Lists path node h.0 names)

      Bytes : (Told → Type 0) → Type 0
      Bytes tells = (bytes : Option (List ℕ)) × tells (Holds path node h.0 bytes)

      To : (Told → Type 0) → Type 0
      To tells = (to : List ℕ) × tells (Leads path node h.0 to)

      either : Names P ⊎ (Bytes P ⊎ To P) → Names Q ⊎ (Bytes Q ⊎ To Q)
      either (inl k) = inl (k.0, follows (Lists path node h.0 k.0) k.1)
      either (inr (inl k)) = inr (inl (k.0, follows (Holds path node h.0 k.0) k.1))
      either (inr (inr k)) = inr (inr (k.0, follows (Leads path node h.0 k.0) k.1))

  unread : (why : CopyFault) (path : List ℕ) (node : ℕ) (id : FileId) → IsUnread P why path node id → IsUnread Q why path node id
  unread why path node id (inl h) = inl (h.0, another path node id h.1)
  unread why path node id (inr h) = inr (follows (Refuses path node why) h)

  not_found : (place : CopyPath) (there : Found) → IsNotFound P place there → IsNotFound Q place there
  not_found place (found.Folder folder) h = another place.path place.node folder.id h
  not_found place (found.File here) h = another place.path place.node here.facts.id h
  not_found place (found.Symlink facts) h = h
  not_found place found.Special h = h

  hinders : (why : CopyFault) (place : CopyPath) (visit : Visit) → Hinders limits P why place visit → Hinders limits Q why place visit
  hinders trouble.Memory place visit h = h
  hinders trouble.Read place visit (inl h) = inl h
  hinders trouble.Read place visit (inr h) = inr (h.0, follows (Finds place.path place.node h.0) h.1, not_found place h.0 h.2)
  hinders trouble.Write place visit h = h
  hinders trouble.Special place visit h = (follows (Finds place.path place.node found.Special) h.0, follows (Keeps place.path) h.1)
  hinders trouble.TooLarge place visit (inl h) = inl (found_file place _ h)
  hinders trouble.TooLarge place visit (inr h) = inr h
  hinders trouble.TooManyLinks place visit h = found_file place _ h
  hinders trouble.PathTooLong place visit h = h
  hinders trouble.BadName place visit h = h
  hinders trouble.BadTree place visit h = h
  hinders trouble.Exists place visit h = h
  hinders trouble.Full place visit h = h

  cause_at : (why : CopyFault) (place : CopyPath) (visit : Visit) → IsCauseAt limits P why place visit → IsCauseAt limits Q why place visit
  cause_at why place visit (inl h) = inl (hinders why place visit h)
  cause_at why place visit (inr h) = inr (follows (Refuses place.path place.node why) h)

  cause_at_link : (why : CopyFault) (link : MetLink) → IsCauseAtLink limits P why link → IsCauseAtLink limits Q why link
  cause_at_link why link (inl h) = inl h
  cause_at_link why link (inr (inl h)) = inr (inl h)
  cause_at_link why link (inr (inr h)) = inr (inr (unread why link.place.path link.place.node link.facts.id h))

  cause : (why : CopyFault) (reached : Reached) → IsCause limits P why reached → IsCause limits Q why reached
  cause why Root (inl h) = inl h
  cause why Root (inr (inl h)) = inr (inl (h.0, (h.1.0, follows (Finds [] ROOT h.1.0) h.1.1, h.1.2)))
  cause why Root (inr (inr (inl h))) = inr (inr (inl (h.0, (h.1.0, follows (Finds [] ROOT (found.Folder h.1.0)) h.1.1, another [] ROOT h.1.0.id h.1.2))))
  cause why Root (inr (inr (inr h))) = inr (inr (inr (follows (Refuses [] ROOT why) h)))
  cause why (Amid visits place visit) h = cause_at why place visit h
  cause why (AmidLinks visits links link visit) h = cause_at_link why link h
  cause why (Behind visits links kept) h = h
  cause why (Endless visits) h = h

  begun_as : (place : CopyPath) (there : Found) (walk : Standing) (visit : Visit) → HasBegunAs limits P place there walk visit → HasBegunAs limits Q place there walk visit
  begun_as place (found.Folder folder) walk visit h = h
  begun_as place (found.File here) walk visit (inl h) = inl (h.0, h.1, h.2, h.3, follows (Holds place.path place.node here.facts.id h.1) h.4, h.5)
  begun_as place (found.File here) walk visit (inr h) = inr h
  begun_as place (found.Symlink facts) walk visit h = h
  begun_as place found.Special walk visit h = h

  begun : (place : CopyPath) (walk : Standing) (visit : Visit) → HasBegun limits P place walk visit → HasBegun limits Q place walk visit
  begun place walk visit (inl h) = inl h
  begun place walk visit (inr h) = inr (h.0, follows (Finds place.path place.node h.0) h.1, begun_as place h.0 walk visit h.2)

  begun_link : (link : MetLink) (walk : Standing) (visit : Visit) → HasBegunLink P link walk visit → HasBegunLink Q link walk visit
  begun_link link walk visit (inl h) = inl h
  begun_link link walk visit (inr (inl h)) = inr (inl (h.0, h.1, follows (Leads link.place.path link.place.node link.facts.id h.0) h.2))
  begun_link link walk visit (inr (inr h)) = inr (inr h)

  has_walked : (visits : List Visit) (now : Standing) → HasWalked limits P visits now → HasWalked limits Q visits now
  has_walked visits now h = (h.0, h.1, follows (Finds [] ROOT (found.Folder h.0)) h.2, entered [] ROOT h.0.id nothing h.1 h.3, walked h.1 visits now h.4)

  has_linked : (visits links : List Visit) (now : Standing) → HasLinked limits P visits links now → HasLinked limits Q visits links now
  has_linked visits links now h = (h.0, has_walked visits h.0 h.1, h.2, linked h.0 links now h.3)

  is_reached : (reached : Reached) → IsReached limits P reached → IsReached limits Q reached
  is_reached Root h = h
  is_reached (Amid visits place visit) h = (h.0, h.1, has_walked visits h.0 h.2, h.3, begun place (record { left = h.1; links = h.0.links; firsts = h.0.firsts }) visit h.4)
  is_reached (AmidLinks visits links link visit) h =
      (h.0, h.1, has_linked visits links h.0 h.2, h.3, begun_link link (record { left = h.0.left; links = h.1; firsts = h.0.firsts }) visit h.4)
  is_reached (Behind visits links kept) h = (h.0, has_linked visits links h.0 h.1, h.2, (h.3.0, follows (Finds [] ROOT (found.Folder h.3.0)) h.3.1, h.3.2))
  is_reached (Endless visits) h = (h.0, has_walked visits h.0 h.1, h.2)

  stops : {T : Type 0} (does : T → Asked → T → Type 0) (fails : T → Asked → CopyFault → T → Type 0) (stopped : CopyStop) (old new : T) → Stops limits P does fails stopped old new → Stops limits Q does fails stopped old new
  stops does fails stopped old new h =
      (h.0, h.1, is_reached h.0 h.2, h.3, h.4, stops_since does fails (IsCause limits P stopped.trouble h.0) (IsCause limits Q stopped.trouble h.0) stopped.trouble (asked_then h.0) h.1 new (cause stopped.trouble h.0) h.5)

  pub stops_copy : {T : Type 0} (does : T → Asked → T → Type 0) (fails : T → Asked → CopyFault → T → Type 0) (stopped : CopyStop) (old new : T) → StopsCopy limits P does fails stopped old new → StopsCopy limits Q does fails stopped old new
  stops_copy does fails stopped old new h = (h.0, stops does fails stopped old h.0 h.1, h.2)
