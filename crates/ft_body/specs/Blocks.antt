-- The blocks of a body: which blocks there are, and which bytes they hold. A `Body` and a
-- `BodyUndo` keep this true of their fields, and no public clause cites it.
use Rattle.std.specs.Prelude.{◌≡◌, ◌≢◌, ℕ, ◌+◌, ◌-◌, ◌/◌, ◌%◌, ◌<◌, ◌≤◌, ◌==◌, cond, List, [], ◌∷◌, ◌++◌, length, take, drop, map, slice_index, slice_index_or, slice_set}
use Rattle.std.specs.List.{range_with_len, remove}
use Rattle.ft_body.specs.declared.TheConstants.{LARGEST_SIZE, BLOCK_SIZE}
use Rattle.ft_body.specs.declared.blocks.Placed.{Placed}
use Rattle.ft_body.specs.declared.blocks.LostBlocks.{LostBlocks}
use Rattle.ft_body.specs.declared.blocks.LostBlocks.TheVariants.{Nothing, Made, Changed, Tail, Last}
use Rattle.ft_body.specs.Paging.{EndsWithNoZero, IsWritten, IsFront}

-- a place for a block with no bytes
abbrev pub no_block : Placed
no_block = record { at = 0; block = [] }

-- the block at an index, or one with no bytes past the end
abbrev pub placed_at : List Placed → ℕ → Placed
placed_at blocks i = slice_index_or blocks i no_block

-- the bytes of the block with a number, or none if there is no such block
abbrev pub block_in : List Placed → ℕ → List ℕ
block_in [] at = []
block_in (first ∷ more) at = cond (first.at == at) first.block (block_in more at)

-- the block with a number in its place, or one with no bytes if there is no such block
abbrev pub placed_in : List Placed → ℕ → Placed
placed_in blocks at = record { at = at; block = block_in blocks at }

-- the blocks with the bytes of the one at an index changed
abbrev pub changed_at : List Placed → ℕ → (List ℕ → List ℕ) → List Placed
changed_at blocks index change = slice_set blocks index record { at = (placed_at blocks index).at; block = change (placed_at blocks index).block }

-- the blocks with the last one moved to an index
abbrev pub last_moved_to : List Placed → ℕ → List Placed
last_moved_to blocks index = take index blocks ++ drop (length blocks - 1) blocks ++ take (length blocks - 1 - index) (drop index blocks)

-- the byte at an index of a body, or zero if no byte is kept there
abbrev pub byte_of : List Placed → ℕ → ℕ
byte_of blocks k = slice_index (block_in blocks (k / BLOCK_SIZE)) (k % BLOCK_SIZE)

-- the first `size` bytes of some blocks: this is how a body is seen as a list
abbrev pub bytes_of : ℕ → List Placed → List ℕ
bytes_of size blocks = map (byte_of blocks) (range_with_len 0 size)

-- what is kept of a block: its bytes up to the last one that is not zero, at least one
pub record IsBlock (block : List ℕ) : Type 0 where
  pub fits : length block ≤ BLOCK_SIZE
  pub some : 0 < length block
  pub no_end_zero : EndsWithNoZero block

-- each is a block, and their numbers rise from `least` on
abbrev pub AreBlocks : ℕ → List Placed → Type 0
AreBlocks least [] = Unit {0}
AreBlocks least (first ∷ more) = (least ≤ first.at) × IsBlock first.block × AreBlocks (first.at + 1) more

-- blocks hold `size` bytes: all bytes after them are zeros
pub record IsBlocked (size : ℕ) (blocks : List Placed) : Type 0 where
  pub limit : size ≤ LARGEST_SIZE
  pub blocks_are : AreBlocks 0 blocks
  pub past : (k : ℕ) → size ≤ k → byte_of blocks k ≡ 0

-- the index where a block with a number is or belongs
pub record IsPlace (blocks : List Placed) (at i : ℕ) : Type 0 where
  pub within : i ≤ length blocks
  pub before : (k : ℕ) → k < i → (placed_at blocks k).at < at
  pub behind : (k : ℕ) → i ≤ k → k < length blocks → at ≤ (placed_at blocks k).at

-- the blocks with other numbers are the same
abbrev pub KeepsOthers : List Placed → List Placed → ℕ → Type 0
KeepsOthers old new at = (n : ℕ) → n ≢ at → block_in new n ≡ block_in old n

-- the block with a number became these bytes, and the others are the same
pub record IsReplaced (old new : List Placed) (at : ℕ) (block : List ℕ) : Type 0 where
  pub there : block_in new at ≡ block
  pub others : KeepsOthers old new at

-- the block in this place became what it was with bytes written from `start` on
abbrev pub IsWrittenIn : Placed → List Placed → ℕ → List ℕ → Type 0
IsWrittenIn was blocks start bytes = IsWritten (slice_index was.block) (slice_index (block_in blocks was.at)) start bytes

-- the block in this place became what it was before `size`, with zeros from there on
abbrev pub IsCutIn : Placed → List Placed → ℕ → Type 0
IsCutIn was blocks size = IsFront (slice_index was.block) (slice_index (block_in blocks was.at)) size

-- what a step destroyed can be put back
abbrev pub FitsBack : LostBlocks → List Placed → Type 0
FitsBack Nothing after = Unit {0}
FitsBack (Made index) after = index < length after
FitsBack (Changed index undo) after = (index < length after) × ((placed_at after index).block ≡ undo.after)
FitsBack (Tail kept blocks) after = (kept ≤ length after) × (kept ≤ length blocks.items)
FitsBack (Last index) after = index < length after

-- the blocks after this is put back: a block that was made is removed, and one that was changed is
-- as before; those from an index on come back, and the last one moves back to its place
abbrev pub step_back : LostBlocks → List Placed → List Placed
step_back Nothing after = after
step_back (Made index) after = remove after index
step_back (Changed index undo) after = changed_at after index (λ _. undo.before)
step_back (Tail kept blocks) after = take kept after ++ drop kept blocks.items
step_back (Last index) after = last_moved_to after index

-- steps bring back the blocks from before, the last step first
abbrev pub Undoes : List LostBlocks → List Placed → List Placed → Type 0
Undoes [] after before = before ≡ after
Undoes (first ∷ more) after before = (middle : List Placed) × Undoes more after middle × FitsBack first middle × (before ≡ step_back first middle)

-- whatever the steps up to now bring back, these and the new ones together bring back too
abbrev pub StillUndoes : List LostBlocks → List LostBlocks → List Placed → List Placed → Type 0
StillUndoes steps more was now = (before : List Placed) → Undoes steps was before → Undoes more now before
