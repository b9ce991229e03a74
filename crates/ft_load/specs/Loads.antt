-- The script that a load writes.
use Rattle.std.specs.Prelude.{Bool, ◌≡◌, ◌⊎◌, ℕ, List, [], ◌∷◌, ◌++◌, Option}
use Rattle.std.specs.List.{AllByRecursion, flat_map}
use Rattle.std.specs.Io.KnownBytes.{Appends, Keeps}
use Rattle.ft_cells.specs.declared.attributes.Attributes.{Attributes}
use Rattle.ft_copy.specs.declared.found.Found.TheVariants as found
use Rattle.ft_copy.specs.declared.found.FoundFolder.{FoundFolder}
use Rattle.ft_copy.specs.declared.found.TheConstants.{ROOT}
use Rattle.ft_copy.specs.declared.limits.CopyLimits.{CopyLimits}
use Rattle.ft_copy.specs.declared.copy_fault.CopyStop.{CopyStop}
use Rattle.ft_copy.specs.declared.copy_fault.CopyFault.{CopyFault}
use Rattle.ft_copy.specs.Asked.{Asked, Start, Finish}
use Rattle.ft_copy.specs.Kept.{kept_attributes}
use Rattle.ft_copy.specs.Told.{Told, Finds}
use Rattle.ft_copy.specs.Walks.{Enters, Standing, nothing}
use Rattle.ft_copy.specs.Runs.{LinksTo, Visit, WalksTo, asked_of}
use Rattle.ft_copy.specs.Stops.{IsCause, IsReached, Reached, asked_before, asked_then, path_at}
use Rattle.ft_core.specs.declared.limits.Limits.{Limits}
use Rattle.ft_load.specs.declared.spelling.Form.{Form}
use Rattle.ft_load.specs.Scripts.{AskedFits, BreaksOff, IsWithinCalls, fd_of, next_of, script_text}

-- what may be copied if a core has these limits, with set-id bits or without
abbrev pub copy_limits : Limits → Bool → CopyLimits
copy_limits limits set_id = record { file_size = limits.file_size; links = limits.links; set_id = set_id }

-- all that a script has whose visits and links are these, and whose root is to have these attributes
abbrev pub whole : List Visit → List Visit → Attributes → List Asked
whole visits links kept = Start ∷ flat_map asked_of visits ++ flat_map asked_of links ++ Finish kept ∷ []

-- The places that were visited are those that the source reported, from the root on, each place in
-- its turn, until none was left, and then the symbolic links that were met, until none was left.
-- The script of exactly these was written in this form, with what may be copied of the root's
-- attributes. A core with its limits grants as many calls, and its files may be as large. No path of
-- a call is too long.
pub record Loads (form : Form) (set_id : Bool) (tells : Told → Type 0) (held held_after : Option (List ℕ)) : Type 0 where
  pub top : FoundFolder
  pub begun : Standing
  pub visits : List Visit
  pub walked : Standing
  pub links : List Visit
  pub done : Standing
  pub folder : tells (Finds [] ROOT (found.Folder top))
  pub root : Enters tells [] ROOT top.id nothing begun
  pub walk : WalksTo (copy_limits form.limits set_id) tells begun visits walked
  pub all : walked.left ≡ []
  pub last : LinksTo (copy_limits form.limits set_id) tells walked links done
  pub all_links : done.links ≡ []
  pub few : IsWithinCalls form (next_of form.spelling (whole visits links (kept_attributes (copy_limits form.limits set_id) top.attributes)) 2)
  pub fit : AllByRecursion (AskedFits form.spelling) (whole visits links (kept_attributes (copy_limits form.limits set_id) top.attributes))
  pub wrote : Appends held held_after (script_text form (whole visits links (kept_attributes (copy_limits form.limits set_id) top.attributes)))

-- The first of what is still to be written is not written whole.
abbrev pub BreaksOffAt : Form → CopyFault → List Asked → ℕ → ℕ → Option (List ℕ) → Option (List ℕ) → Type 0
BreaksOffAt form trouble [] next fd held held_after = ⊥
BreaksOffAt form trouble (first ∷ more) next fd held held_after = BreaksOff form trouble first next fd held held_after

-- A load came so far as the source reported, and no further: a beginning of the script up to there
-- was written, whole lines and at most a part of the next one. No path of a call is too long.
pub record StopsLoad (form : Form) (set_id : Bool) (tells : Told → Type 0) (stopped : CopyStop) (held held_after : Option (List ℕ)) : Type 0 where
  pub reached : Reached
  pub told : IsReached (copy_limits form.limits set_id) tells reached
  pub path : stopped.path ≡ path_at reached
  pub done : List Asked
  pub rest : List Asked
  pub asked : asked_before reached ++ asked_then reached ≡ done ++ rest
  pub middle : Option (List ℕ)
  pub fit : AllByRecursion (AskedFits form.spelling) done
  pub wrote : Appends held middle (script_text form done)
  pub ended : (Keeps middle held_after × IsCause (copy_limits form.limits set_id) tells stopped.trouble reached) ⊎ BreaksOffAt form stopped.trouble rest (next_of form.spelling done 2) (fd_of form.spelling done 2 0) middle held_after
