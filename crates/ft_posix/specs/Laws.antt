-- Laws of the calls. Each is the contract of a function of `laws`.
use Rattle.std.specs.Prelude.{◌≡◌, ◌≢◌, ℕ, Bool, false, ◌&&◌, List, [], ◌∷◌}
use Rattle.std.specs.List.{list_any}
use Rattle.ft_cells.specs.declared.cell.Cell.{Cell}
use Rattle.ft_cells.specs.CellOrder.{overlap}
use Rattle.ft_tree.specs.Views.{view_of}
use Rattle.ft_cells.specs.Cells.{Cells}
use Rattle.ft_tree.specs.Sound.{AreSoundCells, IsFree, IsSoundTree, SameValues, KeepsValues}
use Rattle.ft_tree.specs.Tidy.{tidy}
use Rattle.ft_posix.specs.declared.call.Call.{Call}
use Rattle.ft_posix.specs.Exec.{exec}
use Rattle.ft_posix.specs.declared.call.Access.{Access}
use Rattle.ft_posix.specs.Perform.{OnlyTells}
use Rattle.ft_posix.specs.Stored.{outcome, after}
use Rattle.ft_posix.specs.Accesses.{is_write, accesses_of, some_conflict}

-- a call whose stamp numbers nothing leaves sound cells sound
abbrev pub SoundnessLaw : Type 0
SoundnessLaw = (cells : Cells) (stamp : ℕ) (call : Call) → AreSoundCells cells → IsFree cells stamp → AreSoundCells (after cells stamp call)

-- a call leaves each free number free, except its own stamp
abbrev pub FreshnessLaw : Type 0
FreshnessLaw = (cells : Cells) (stamp : ℕ) (call : Call) → AreSoundCells cells → IsFree cells stamp → (other : ℕ) → IsFree cells other → other ≢ stamp → IsFree (after cells stamp call) other

-- a call on sound cells, whose stamp numbers nothing, does the same on their plain tree: it leaves
-- the same tree and has the same reply
abbrev pub TidyingLaw : Type 0
TidyingLaw = (cells : Cells) (stamp : ℕ) (call : Call) → AreSoundCells cells → IsFree cells stamp → exec (tidy cells) stamp call ≡ (tidy (after cells stamp call), (outcome cells stamp call).reply)

-- the new cells are the same plain tree as the old ones, are sound, and leave the old free numbers
-- free
pub record MakesNoDifference (old new : Cells) : Type 0 where
  pub plain : tidy new ≡ tidy old
  pub sound : AreSoundCells new
  pub free : (number : ℕ) → IsFree old number → IsFree new number

-- cells with the values and the places of sound ones make no difference: only values count, and not
-- the empty places
abbrev pub ValuesLaw : Type 0
ValuesLaw = (old new : Cells) → AreSoundCells old → KeepsValues old new → MakesNoDifference old new

-- the plain tree of sound cells is sound (`IsSoundTree`)
abbrev pub PlainSoundnessLaw : Type 0
PlainSoundnessLaw = (cells : Cells) → AreSoundCells cells → IsSoundTree (tidy cells)

-- each accessed cell shows the same in both
abbrev pub AgreeOn : Cells → Cells → List Access → Type 0
AgreeOn one other [] = Unit {0}
AgreeOn one other (access ∷ more) = (view_of one access.cell ≡ view_of other access.cell) × AgreeOn one other more

-- one of the accesses writes what the cell shows
abbrev pub is_written : List Access → Cell → Bool
is_written accesses cell = list_any (λ access. is_write access.mode && overlap access.cell cell) accesses

-- the call does the same in both
pub record ActsAlike (one other : Cells) (stamp : ℕ) (call : Call) : Type 0 where
  pub accesses : accesses_of other stamp call ≡ accesses_of one stamp call
  pub reply : (outcome other stamp call).reply ≡ (outcome one stamp call).reply
  pub writes : (outcome other stamp call).writes ≡ (outcome one stamp call).writes

-- the frame law: if sound cells have equal limits, and show the same in each cell that a call
-- accesses in one of them, the call has the same accesses, the same reply and the same writes
abbrev pub FrameLaw : Type 0
FrameLaw = (one other : Cells) (stamp : ℕ) (call : Call) → AreSoundCells one → AreSoundCells other → IsFree one stamp → IsFree other stamp → one.limits ≡ other.limits → AgreeOn one other (accesses_of one stamp call) → ActsAlike one other stamp call

-- only the written cells change: a cell that overlaps none of them shows what it showed before
abbrev pub KeptLaw : Type 0
KeptLaw = (cells : Cells) (stamp : ℕ) (call : Call) (cell : Cell) → is_written (accesses_of cells stamp call) cell ≡ false → view_of (after cells stamp call) cell ≡ view_of cells cell

-- two calls in the other order: their replies are the same, and they leave cells of the same values
pub record AreExchanged (cells : Cells) (stamp : ℕ) (call : Call) (next_stamp : ℕ) (next_call : Call) : Type 0 where
  pub first : (outcome (after cells next_stamp next_call) stamp call).reply ≡ (outcome cells stamp call).reply
  pub second : (outcome cells next_stamp next_call).reply ≡ (outcome (after cells stamp call) next_stamp next_call).reply
  pub values : SameValues (after (after cells stamp call) next_stamp next_call) (after (after cells next_stamp next_call) stamp call)

-- the exchange law: neighbours without conflicting accesses can be made in either order
abbrev pub ExchangeLaw : Type 0
ExchangeLaw = (cells : Cells) (stamp : ℕ) (call : Call) (next_stamp : ℕ) (next_call : Call) → AreSoundCells cells → IsFree cells stamp → IsFree cells next_stamp → stamp ≢ next_stamp
    → some_conflict (accesses_of cells stamp call) (accesses_of (after cells stamp call) next_stamp next_call) ≡ false → AreExchanged cells stamp call next_stamp next_call

-- a call whose reply only reports something writes nothing
abbrev pub TellingLaw : Type 0
TellingLaw = (cells : Cells) (stamp : ℕ) (call : Call) → AreSoundCells cells → OnlyTells (outcome cells stamp call).reply → (outcome cells stamp call).writes ≡ []
