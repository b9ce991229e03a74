-- The pages of a body: which pages are made, and which bytes they hold. (Rules of this project.)
use Rattle.std.specs.Prelude.{◌≡◌, ◌≢◌, ℕ, ◌+◌, ◌-◌, ◌*◌, ◌/◌, ◌%◌, ◌<◌, ◌≤◌, ◌==◌, Bool, true, not, ◌⊎◌, List, [], ◌++◌, length, take, drop, map, count_by, slice_index, slice_index_or}
use Rattle.std.specs.List.{list_any, range_with_len}
use Rattle.ft_body.specs.declared.TheConstants.{BLOCK_SIZE, PAGE_SIZE}

-- the bytes of one page: pages count from 0, and the last has as many bytes as there are
abbrev pub page_of : List ℕ → ℕ → List ℕ
page_of bytes page = take PAGE_SIZE (drop (page * PAGE_SIZE) bytes)

-- a page is made if one of its bytes is not zero; any other page is a hole, and reads as zeros
-- (POSIX.1-2017, System Interfaces, lseek and ftruncate: bytes that were never written are zeros)
abbrev pub is_made : List ℕ → ℕ → Bool
is_made bytes page = list_any (λ byte. not (byte == 0)) (page_of bytes page)

-- how many pages `size` bytes take
abbrev pub page_count : ℕ → ℕ
page_count size = (size + (PAGE_SIZE - 1)) / PAGE_SIZE

-- how many of the pages of the bytes are made
unfoldable pub made_pages : List ℕ → ℕ
made_pages bytes = count_by (is_made bytes) (range_with_len 0 (page_count (length bytes)))

-- each page that holds none of the bytes from one index up to another is made in both or in neither
abbrev pub KeepsPagesOutside : List ℕ → List ℕ → ℕ → ℕ → Type 0
KeepsPagesOutside old new from to =
    (page : ℕ) → ((page + 1) * PAGE_SIZE ≤ from) ⊎ (to ≤ page * PAGE_SIZE) → is_made new page ≡ is_made old page

-- each page that is made was made before, and begins below a length
abbrev pub MakesNoPage : List ℕ → List ℕ → ℕ → Type 0
MakesNoPage old new size = (page : ℕ) → is_made new page ≡ true → (is_made old page ≡ true) × (page * PAGE_SIZE < size)

-- A `Block` and a `BlockUndo` keep the following true of their fields. No public clause cites it.

-- a list of bytes is empty, or its last is not zero
abbrev pub EndsWithNoZero : List ℕ → Type 0
EndsWithNoZero bytes = 0 < length bytes → slice_index bytes (length bytes - 1) ≢ 0

-- what is kept of a page: its bytes up to the last one that is not zero, at most 4,096
pub record IsPage (page : List ℕ) : Type 0 where
  pub fits : length page ≤ PAGE_SIZE
  pub no_end_zero : EndsWithNoZero page

-- the byte at an index of some pages, or zero if no byte is kept there
abbrev pub byte_in : List (List ℕ) → ℕ → ℕ
byte_in pages k = slice_index (slice_index_or pages (k / PAGE_SIZE) []) (k % PAGE_SIZE)

-- the first `size` bytes of some pages: this is how a block is seen as a list
abbrev pub bytes_in : ℕ → List (List ℕ) → List ℕ
bytes_in size pages = map (byte_in pages) (range_with_len 0 size)

-- each is a page
abbrev pub ArePages : List (List ℕ) → Type 0
ArePages pages = (i : ℕ) → IsPage (slice_index_or pages i [])

-- pages hold `size` bytes: there are as many pages as these bytes take, and all bytes after them
-- are zeros
pub record IsPaged (size : ℕ) (pages : List (List ℕ)) : Type 0 where
  pub limit : size ≤ BLOCK_SIZE
  pub count : length pages ≡ page_count size
  pub pages_are : ArePages pages
  pub past : (k : ℕ) → size ≤ k → byte_in pages k ≡ 0

-- `old` and `new` give bytes by index: `new` gives these bytes from `start` on, and is the same as
-- `old` elsewhere
pub record IsWritten (old new : ℕ → ℕ) (start : ℕ) (bytes : List ℕ) : Type 0 where
  pub before : (k : ℕ) → k < start → new k ≡ old k
  pub there : (k : ℕ) → k < length bytes → new (start + k) ≡ slice_index bytes k
  pub behind : (k : ℕ) → start + length bytes ≤ k → new k ≡ old k

-- `count` bytes were appended: those that `byte` gives by index from `start` on
abbrev pub AppendsBytes : (ℕ → ℕ) → ℕ → ℕ → List ℕ → List ℕ → Type 0
AppendsBytes byte start count old new =
    (bytes : List ℕ) × (new ≡ old ++ bytes) × (length bytes ≡ count) × ((k : ℕ) → k < count → slice_index bytes k ≡ byte (start + k))

-- `new` gives the bytes of `old` before an index, and zeros from there on
pub record IsFront (old new : ℕ → ℕ) (size : ℕ) : Type 0 where
  pub before : (k : ℕ) → k < size → new k ≡ old k
  pub zeros : (k : ℕ) → size ≤ k → new k ≡ 0

-- the bytes before an index, without the zeros at their end, are `end` bytes
pub record IsFrontEnd (bytes : ℕ → ℕ) (size end : ℕ) : Type 0 where
  pub within : end ≤ size
  pub zeros : (k : ℕ) → end ≤ k → k < size → bytes k ≡ 0
  pub last : 0 < end → bytes (end - 1) ≢ 0
