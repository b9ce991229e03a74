-- Laws that relate runs on stored cells to the plain tree.
use Rattle.std.specs.Prelude.{◌≡◌, ◌≢◌, ℕ, Bool, true, false, ◌&&◌, List, [], ◌∷◌, Some}
use Rattle.std.specs.FinMap as finite
use Rattle.ft_laws.specs.Lists.{Each, Pairs, any}
use Rattle.ft_laws.specs.Calls.{Done}
use Rattle.ft_laws.specs.Effects.{Access as PlaceAccess}
use Rattle.ft_laws.specs.Laws.{Hides}
use Rattle.ft_laws.specs.Runs.{run, Faithful}
use Rattle.ft_cells.specs.declared.cell.Cell.{Cell}
use Rattle.ft_cells.specs.declared.open_file.OpenFile.{OpenFile}
use Rattle.ft_cells.specs.CellOrder.{same_cell}
use Rattle.ft_cells.specs.Cells.{Cells, open_of, has_file, HasDirPlace, HasFilePlace}
use Rattle.ft_tree.specs.Held.{held}
use Rattle.ft_cells.specs.Plain.{PlainTree, view_in}
use Rattle.ft_tree.specs.Sound.{AreSoundCells, IsFree}
use Rattle.ft_tree.specs.Tidy.{tidy}
use Rattle.ft_posix.specs.declared.call.Call.{Call}
use Rattle.ft_posix.specs.declared.call.Access.{Access}
use Rattle.ft_posix.specs.Accesses.{listed, with_accesses, accesses_of}
use Rattle.ft_posix.specs.Exec.{exec}
use Rattle.ft_posix.specs.Posix.{Stamped, names_file, does, posix_calls, HasSoundValues}
use Rattle.ft_posix.specs.Steps.{steps}

-- the accesses of the call with this stamp on a plain tree
abbrev pub accesses_in : PlainTree → ℕ → Call → List Access
accesses_in p stamp call = listed (with_accesses finite.empty (steps p.limits (finite.len p.dirs) stamp call) (view_in p))

-- these accesses are the accesses on the sound cells of that tree
abbrev pub PlainAccessesLaw : Type 0
PlainAccessesLaw = (cells : Cells) (stamp : ℕ) (call : Call) → AreSoundCells cells → accesses_in (tidy cells) stamp call ≡ accesses_of cells stamp call

-- hiding files that nothing names does not change the plain tree
abbrev pub HidingLaw : Type 0
HidingLaw = (hidden : ℕ → Bool) (old new : Cells) → AreSoundCells old → AreSoundCells new → Hides posix_calls hidden old new → tidy new ≡ tidy old

-- calls that were made, each with the reply that it got
abbrev pub DoneCalls : Type 0
DoneCalls = List (Done posix_calls)

-- the plain tree after the calls
abbrev pub tree_after : PlainTree → DoneCalls → PlainTree
tree_after p [] = p
tree_after p (done ∷ more) = tree_after (exec p done.call.stamp done.call.call).0 more

-- on a plain tree the calls have their replies
abbrev pub GiveReplies : PlainTree → DoneCalls → Type 0
GiveReplies p [] = Unit {0}
GiveReplies p (done ∷ more) = ((exec p done.call.stamp done.call.call).1 ≡ done.reply) × GiveReplies (exec p done.call.stamp done.call.call).0 more

-- a run on the cells is a run on their plain tree
pub record RunsPlainly (cells : Cells) (calls : DoneCalls) : Type 0 where
  pub sound : AreSoundCells (run posix_calls cells calls)
  pub plain : tidy (run posix_calls cells calls) ≡ tree_after (tidy cells) calls
  pub replies : GiveReplies (tidy cells) calls

-- a run from sound cells is a run on their plain tree, if the calls have their replies in it, and
-- their stamps are distinct and number nothing
abbrev pub RunLaw : Type 0
RunLaw = (cells : Cells) (calls : DoneCalls) → AreSoundCells cells → Each (λ done. IsFree cells done.call.stamp) calls → Pairs (λ a b. a.call.stamp ≢ b.call.stamp) calls → Faithful posix_calls cells calls → RunsPlainly cells calls

-- the root and the file of each description are stored
pub record HasNamedPlaces (cells : Cells) : Type 0 where
  pub root : HasDirPlace cells 1
  pub opens : (f : ℕ) (o : OpenFile) → open_of cells f ≡ Some o → HasFilePlace cells o.file

-- sound values with these places are sound cells
abbrev pub PlacedLaw : Type 0
PlacedLaw = (cells : Cells) → HasSoundValues cells → HasNamedPlaces cells → AreSoundCells cells

-- an access writes this very cell
abbrev pub writes_cell : List (PlaceAccess Cell) → Cell → Bool
writes_cell accesses c = any (λ a. same_cell a.place c && a.writes) accesses

-- each cell that a call writes is among its accesses, for writing
abbrev pub WritesLaw : Type 0
WritesLaw = (cells : Cells) (call : Stamped) → Each (λ w. writes_cell (does cells call).accesses w.cell ≡ true) (does cells call).writes

-- on sound cells, no entry and no description names a file that is not there
abbrev pub NamelessLaw : Type 0
NamelessLaw = (cells : Cells) → AreSoundCells cells → (i : ℕ) → has_file cells i ≡ false → (c : Cell) → names_file c (held cells c) i ≡ false
