-- Bytes that stand in blocks, and what a change of the blocks makes of them.
use Rattle.std.proofs.Common.{refl, ◌≡◌, ◌≢◌, ℕ, ◌+◌, ◌-◌, ◌*◌, ◌/◌, ◌%◌, ◌<◌, ◌≤◌, List, [], ◌∷◌, ◌++◌, length, take, drop, replicate, get_or, arith, ap, sym, ◌∙◌, ⊎_elim, length-append, length-take, length-drop}
use Prim.Native.Nat.{min, max}
use Rattle.std.proofs.lemmas.List.{get_or_past, get_or-take, get_or-drop, get_or_append_left, get_or-append_right, get_or-replicate, take_all}
use Rattle.std.proofs.lemmas.List.FromFn.{length-map-range_with_len}
use Rattle.std.proofs.lemmas.Bool.{cases_lt, cases_eq}
use Rattle.ft_body.specs.declared.TheConstants.{LARGEST_SIZE}
use Rattle.ft_body.specs.declared.blocks.Placed.{Placed}
use Rattle.ft_body.specs.Blocks.{block_in, byte_of, bytes_of, AreBlocks, IsBlocked, IsPlace}
use Rattle.ft_body.specs.Paging.{EndsWithNoZero, IsWritten, IsFront}
use Rattle.ft_body.proofs.BlockLists.{first_in, behind_in, take_others, take_none, same_blocks}
use Rattle.ft_body.proofs.Filled.{fill-at, written_past, same_ends}
use Rattle.ft_body.proofs.PageLists.{written_on, take_enough, read_before}

-- how many bytes blocks hold
pub length-bytes_of : (size : ℕ) (bs : List Placed) → length (bytes_of size bs) ≡ size
length-bytes_of size bs = length-map-range_with_len (byte_of bs) 0 size

-- the byte at a place of a block
pub byte_at : (bs : List Placed) (k i j : ℕ) → k ≡ i * 2097152 + j → j < 2097152 → byte_of bs k ≡ get_or (block_in bs i) j 0
byte_at bs k i j e h =
    let block : k / 2097152 ≡ i = omega arith in
    let place : k % 2097152 ≡ j = omega arith in
    ap (λ p. get_or (block_in bs p) (k % 2097152) 0) block ∙ ap (λ q. get_or (block_in bs i) q 0) place

-- what is kept of a block has its length, and ends with no zero
pub block_fits : (l : ℕ) (bs : List Placed) (n : ℕ) → AreBlocks l bs → (length (block_in bs n) ≤ 2097152) × EndsWithNoZero (block_in bs n)
block_fits l [] n are = (omega arith, λ h. absurd (omega arith))
block_fits l (b ∷ bs) n are = ⊎_elim
    (λ (e : b.at ≡ n). rw (first_in b bs n e) (are.1.fits, are.1.no_end_zero))
    (λ (d : b.at ≢ n). rw (behind_in b bs n d) (block_fits (b.at + 1) bs n are.2)) (cases_eq b.at n)

-- blocks that are cut hold the bytes cut
pub cut_blocked : (size n : ℕ) (bs new : List Placed) → IsBlocked size bs → n ≤ size → AreBlocks 0 new → IsFront (byte_of bs) (byte_of new) n → IsBlocked n new
cut_blocked size n bs new blocked h are front =
    let limit : size ≤ 140737488355328 = blocked.limit in record { limit = omega arith; blocks_are = are; past = front.zeros }

-- and as they are they hold the bytes padded
pub longer_blocked : (size n : ℕ) (bs : List Placed) → IsBlocked size bs → size ≤ n → n ≤ LARGEST_SIZE → IsBlocked n bs
longer_blocked size n bs blocked h limit = record { limit = limit; blocks_are = blocked.blocks_are; past = λ k g. blocked.past k (omega arith) }

pub longer_front : (size n : ℕ) (bs : List Placed) → IsBlocked size bs → size ≤ n → IsFront (byte_of bs) (byte_of bs) n
longer_front size n bs blocked h = record { before = λ k g. refl; zeros = λ k g. blocked.past k (omega arith) }

-- blocks that are written hold the bytes written
pub written_blocked : (size n offset : ℕ) (bs new : List Placed) (bytes : List ℕ) → IsBlocked size bs → offset + length bytes ≤ LARGEST_SIZE → n ≡ max size (offset + length bytes)
    → AreBlocks 0 new → IsWritten (byte_of bs) (byte_of new) offset bytes → IsBlocked n new
written_blocked size n offset bs new bytes blocked limit is are w =
    let least : size ≤ 140737488355328 = blocked.limit in
    let most : offset + length bytes ≤ 140737488355328 = limit in
    record { limit = omega arith; blocks_are = are; past = written_past (byte_of bs) (byte_of new) size n offset bytes blocked.past is w }

-- all blocks are told by their bytes
pub one_blocking : (m n : ℕ) (bs cs : List Placed) → IsBlocked m bs → IsBlocked n cs → bytes_of m bs ≡ bytes_of n cs → (m ≡ n) × (bs ≡ cs)
one_blocking m n bs cs a b e =
    let size : m ≡ n = sym (length-bytes_of m bs) ∙ ap length e ∙ length-bytes_of n cs in
    let same : (k : ℕ) → byte_of bs k ≡ byte_of cs k = λ k. sym (fill-at (byte_of bs) m k a.past) ∙ ap (λ xs. get_or xs k 0) e ∙ fill-at (byte_of cs) n k b.past in (
      size,
      same_blocks 0 bs cs a.blocks_are b.blocks_are (λ i h.
          let p = block_fits 0 bs i a.blocks_are in
          let q = block_fits 0 cs i b.blocks_are in
          same_ends (block_in bs i) (block_in cs i) p.1 q.1 (λ j. ⊎_elim
          (λ (g : j < 2097152). sym (byte_at bs (i * 2097152 + j) i j refl g) ∙ same (i * 2097152 + j) ∙ byte_at cs (i * 2097152 + j) i j refl g)
          (λ (g : 2097152 ≤ j).
          let x : length (block_in bs i) ≤ 2097152 = p.0 in
          let y : length (block_in cs i) ≤ 2097152 = q.0 in
          get_or_past (block_in bs i) j 0 (omega arith) ∙ sym (get_or_past (block_in cs i) j 0 (omega arith)))
          (cases_lt j 2097152))),
    )

-- to write one block is to write the bytes of all
written_block : (old new : List Placed) (at start from : ℕ) (part : List ℕ) → start + length part ≤ 2097152 → from ≡ at * 2097152 + start
    → IsWritten (λ k. get_or (block_in old at) k 0) (λ k. get_or (block_in new at) k 0) start part → ((n : ℕ) → n ≢ at → block_in new n ≡ block_in old n)
    → IsWritten (byte_of old) (byte_of new) from part
written_block old new at start from part fits e w others = record {
  before = λ k g. ⊎_elim
      (λ (here : k / 2097152 ≡ at). there new k here ∙ w.before (k % 2097152) (omega arith) ∙ sym (there old k here))
      (λ (other : k / 2097152 ≢ at). ap (λ b. get_or b (k % 2097152) 0) (others (k / 2097152) other)) (cases_eq (k / 2097152) at);
  there = λ k g. byte_at new (from + k) at (start + k) (omega arith) (omega arith) ∙ w.there k g;
  behind = λ k g. ⊎_elim
      (λ (here : k / 2097152 ≡ at). there new k here ∙ w.behind (k % 2097152) (omega arith) ∙ sym (there old k here))
      (λ (other : k / 2097152 ≢ at). ap (λ b. get_or b (k % 2097152) 0) (others (k / 2097152) other)) (cases_eq (k / 2097152) at);
}
  where
    there : (bs : List Placed) (k : ℕ) → k / 2097152 ≡ at → byte_of bs k ≡ get_or (block_in bs at) (k % 2097152) 0
    there bs k here = ap (λ p. get_or (block_in bs p) (k % 2097152) 0) here

-- a step of a write, block by block
pub written_step : (old now new : List Placed) (at offset from to : ℕ) (bytes part : List ℕ)
    → from ≡ max offset (at * 2097152) → to ≡ min (offset + length bytes) ((at + 1) * 2097152) → from ≤ to → part ≡ take (to - from) (drop (from - offset) bytes)
    → IsWritten (byte_of old) (byte_of now) offset (take (at * 2097152 - offset) bytes)
    → IsWritten (λ k. get_or (block_in now at) k 0) (λ k. get_or (block_in new at) k 0) (from - at * 2097152) part
    → ((n : ℕ) → n ≢ at → block_in new n ≡ block_in now n)
    → IsWritten (byte_of old) (byte_of new) offset (take ((at + 1) * 2097152 - offset) bytes)
written_step old now new at offset from to bytes part starts ends some is first then others =
    let more : length part ≡ min (to - from) (length bytes - (from - offset)) = omega (arith, ap length is, length-take (to - from) (drop (from - offset) bytes), length-drop (from - offset) bytes) in
    let gap : at * 2097152 - offset ≡ from - offset = omega arith in
    let end : min ((from - offset) + (to - from)) (length bytes) ≡ min ((at + 1) * 2097152 - offset) (length bytes) = omega arith in
    let so_far : IsWritten (byte_of old) (byte_of now) offset (take (from - offset) bytes) = rw (← gap) first in
    let done = written_on (byte_of old) (byte_of now) (byte_of new) offset (from - offset) (to - from) from bytes part (omega arith) (omega arith) is so_far
    (written_block now new at (from - at * 2097152) from part (omega arith) (omega arith) then others) in
    rw (take_enough bytes ((at + 1) * 2097152 - offset) ((from - offset) + (to - from)) (sym end)) done

-- the blocks before a place are those with lower numbers
pub kept_blocks : (bs : List Placed) (at i : ℕ) → IsPlace bs at i → (n : ℕ) → n < at → block_in (take i bs) n ≡ block_in bs n
kept_blocks bs at i place n h = take_others bs i n (λ k g f e. omega (arith, place.behind k g f, e))

pub cut_blocks : (bs : List Placed) (at i : ℕ) → IsPlace bs at i → (n : ℕ) → at ≤ n → block_in (take i bs) n ≡ []
cut_blocks bs at i place n h = take_none bs i n (λ k g f e. omega (arith, place.before k g, e))

-- blocks that are cut to so many bytes: those before the last stay, and of the last its front
pub cut_front : (old now new : List Placed) (size past : ℕ) → past ≡ (size + 2097151) / 2097152 → ((n : ℕ) → n < past → block_in now n ≡ block_in old n) → ((n : ℕ) → past ≤ n → block_in now n ≡ [])
    → IsFront (λ k. get_or (block_in now (size / 2097152)) k 0) (λ k. get_or (block_in new (size / 2097152)) k 0) (size % 2097152)
    → ((n : ℕ) → n ≢ size / 2097152 → block_in new n ≡ block_in now n) → IsFront (byte_of old) (byte_of new) size
cut_front old now new size past is kept cut front others = record {
  before = λ k h. ⊎_elim
      (λ (last : k / 2097152 ≡ size / 2097152).
      ap (λ p. get_or (block_in new p) (k % 2097152) 0) last ∙ front.before (k % 2097152) (omega arith) ∙ ap (λ p. get_or (block_in now p) (k % 2097152) 0) (sym last)
      ∙ ap (λ b. get_or b (k % 2097152) 0) (kept (k / 2097152) (omega arith)))
      (λ (early : k / 2097152 ≢ size / 2097152). ap (λ b. get_or b (k % 2097152) 0) (others (k / 2097152) early ∙ kept (k / 2097152) (omega arith)))
      (cases_eq (k / 2097152) (size / 2097152));
  zeros = λ k h. ⊎_elim
      (λ (last : k / 2097152 ≡ size / 2097152). ap (λ p. get_or (block_in new p) (k % 2097152) 0) last ∙ front.zeros (k % 2097152) (omega arith))
      (λ (late : k / 2097152 ≢ size / 2097152). ap (λ b. get_or b (k % 2097152) 0) (others (k / 2097152) late ∙ cut (k / 2097152) (omega arith)))
      (cases_eq (k / 2097152) (size / 2097152));
}

-- where no block is cut
pub no_front : (f : ℕ → ℕ) (size : ℕ) → ((k : ℕ) → f k ≡ 0) → IsFront f f size
no_front f size zeros = record { before = λ k h. refl; zeros = λ k h. zeros k }

-- a step of a read, block by block: the bytes that are kept of a block, and zeros behind them
read_there : (bs : List Placed) (out part new : List ℕ) (start i from to k : ℕ) → to ≤ 2097152 → start + length out ≡ i * 2097152 + from
    → part ≡ take (to - from) (drop from (block_in bs i)) → new ≡ take (i * 2097152 + to - start) (out ++ part) ++ replicate (i * 2097152 + to - start - length (out ++ part)) 0
    → length out ≤ k → k < i * 2097152 + to - start → get_or new k 0 ≡ byte_of bs (start + k)
read_there bs out part new start i from to k fits at is gives late h =
    let block : List ℕ = block_in bs i in
    let j : ℕ = k - length out in
    let n : ℕ = i * 2097152 + to - start in
    let size : length part ≡ min (to - from) (length block - from) = omega (arith, ap length is, length-take (to - from) (drop from block), length-drop from block) in
    let all : length (out ++ part) ≡ length out + length part = length-append out part in
    let whole : take n (out ++ part) ≡ out ++ part = take_all n (out ++ part) (omega arith) in
    let there : byte_of bs (start + k) ≡ get_or block (from + j) 0 = byte_at bs (start + k) i (from + j) (omega arith) (omega arith) in
    let new_at : get_or new k 0 ≡ get_or (out ++ part ++ replicate (n - length (out ++ part)) 0) k 0 =
    ap (λ zs. get_or zs k 0) (gives ∙ ap (λ zs. zs ++ replicate (n - length (out ++ part)) 0) whole) in
    new_at ∙ ⊎_elim
    (λ (kept : j < length part).
    get_or_append_left (out ++ part) (replicate (n - length (out ++ part)) 0) 0 k (omega arith) ∙ get_or-append_right out part (length out) k 0 refl late
    ∙ ap (λ zs. get_or zs j 0) is ∙ get_or-take (to - from) (drop from block) j 0 (omega arith) ∙ get_or-drop from block j 0 ∙ sym there)
    (λ (zero : length part ≤ j).
    get_or-append_right (out ++ part) (replicate (n - length (out ++ part)) 0) (length (out ++ part)) k 0 refl (omega arith)
    ∙ get_or-replicate (n - length (out ++ part)) (k - length (out ++ part)) 0 0 (omega arith)
    ∙ sym (there ∙ get_or_past block (from + j) 0 (omega arith)))
    (cases_lt j (length part))

pub read_step : (bs : List Placed) (out part new : List ℕ) (start i from to : ℕ) → to ≤ 2097152 → from ≤ to → start + length out ≡ i * 2097152 + from
    → part ≡ take (to - from) (drop from (block_in bs i)) → new ≡ take (i * 2097152 + to - start) (out ++ part) ++ replicate (i * 2097152 + to - start - length (out ++ part)) 0
    → ((k : ℕ) → k < length out → get_or out k 0 ≡ byte_of bs (start + k)) → (k : ℕ) → k < i * 2097152 + to - start → get_or new k 0 ≡ byte_of bs (start + k)
read_step bs out part new start i from to fits order at is gives done k h = ⊎_elim
    (λ (early : k < length out). read_before out part new (i * 2097152 + to - start) k gives early (omega arith) ∙ done k early)
    (λ (late : length out ≤ k). read_there bs out part new start i from to k fits at is gives late h)
    (cases_lt k (length out))

-- no bytes stand in no blocks
pub empty_blocks : (size : ℕ) (bs : List Placed) → IsBlocked size bs → size ≡ 0 → bs ≡ []
empty_blocks size bs blocked e =
    (one_blocking size size bs [] blocked record { limit = blocked.limit; blocks_are = tt; past = λ k h. refl } (ap (λ n. bytes_of n bs) e ∙ sym (ap (λ n. bytes_of n []) e))).1
