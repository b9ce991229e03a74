-- Whether what a change destroyed brings back what was there before. A `BodyUndo` keeps this true
-- of its fields, and no public clause cites it. The value of a `BodyUndo` is the bytes before and
-- after the change. It comes from snapshots of the pages and the length (std's `Snapshot`, which
-- has no bytes). Equal bytes are in equal pages, so a body with the bytes that a change left has
-- exactly the pages that the change left. The value by itself binds no code. The contract of `undo`
-- does, because it speaks of the body's own bytes.
use Rattle.std.specs.Prelude.{◌≡◌, ℕ, ◌+◌, ◌<◌, ◌≤◌, List, [], ◌++◌, length, take, drop, slice_index_or}
use Rattle.ft_body.specs.declared.buffer.LostBytes.{LostBytes}
use Rattle.ft_body.specs.declared.buffer.LostBytes.TheVariants as bytes
use Rattle.ft_body.specs.declared.pages.Lost.{Lost}
use Rattle.ft_body.specs.declared.pages.Lost.TheVariants.{Parts, Tail}
use Rattle.ft_body.specs.Bytes.{laid_over}

-- a part that is to be laid over its place does not reach past the end
abbrev pub LiesWithin : LostBytes → List ℕ → Type 0
LiesWithin bytes.Nothing after = Unit {0}
LiesWithin (bytes.Part from size bytes) after = from + length bytes.items ≤ length after
LiesWithin (bytes.Whole bytes) after = Unit {0}

-- the bytes after what was lost is put back: a part is laid over its place and the old length is
-- restored; if all bytes were lost, they are all that is there
abbrev pub bytes_back : LostBytes → List ℕ → List ℕ
bytes_back bytes.Nothing after = after
bytes_back (bytes.Part from size bytes) after = take size (laid_over after from bytes.items)
bytes_back (bytes.Whole bytes) after = bytes.items

-- what a change of a buffer destroyed undoes the change
abbrev pub PutsBytesBack : LostBytes → List ℕ → List ℕ → Type 0
PutsBytesBack lost after before = LiesWithin lost after × (before ≡ bytes_back lost after)

-- the part that was lost in a page, counted from the first page that was written
abbrev pub part_at : List LostBytes → ℕ → LostBytes
part_at parts i = slice_index_or parts i bytes.Nothing

-- the page at an index, or a hole if there is none
abbrev pub page_at : List (List ℕ) → ℕ → List ℕ
page_at pages i = slice_index_or pages i []

-- parts of pages, the first of which was in page `first`, bring back the pages from before
pub record PutPartsBack (first : ℕ) (parts : List LostBytes) (after before : List (List ℕ)) : Type 0 where
  pub count : length after ≡ length before
  pub room : first + length parts ≤ length after
  pub there : (i : ℕ) → i < length parts → PutsBytesBack (part_at parts i) (page_at after (first + i)) (page_at before (first + i))
  pub front : (i : ℕ) → i < first → page_at before i ≡ page_at after i
  pub behind : (i : ℕ) → first + length parts ≤ i → page_at before i ≡ page_at after i

-- what was lost brings back the pages from before: either parts of pages, after which the pages
-- past the old count are removed, or all pages from an index on
abbrev pub PutsBack : Lost → List (List ℕ) → List (List ℕ) → Type 0
PutsBack (Parts count first parts) after before =
    (whole : List (List ℕ)) × PutPartsBack first parts.items after whole × (before ≡ take count whole)
PutsBack (Tail kept pages) after before =
    (kept ≤ length after) × (kept ≤ length pages.items) × (before ≡ take kept after ++ drop kept pages.items)
