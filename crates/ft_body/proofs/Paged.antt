-- Bytes that stand in pages, and what a change of the pages makes of them.
use Rattle.std.proofs.Common.{refl, ◌≡◌, ℕ, ◌+◌, ◌-◌, ◌*◌, ◌/◌, ◌<◌, ◌≤◌, List, [], ◌++◌, length, take, drop, replicate, get_or, arith, ap, sym, ◌∙◌, ⊎_elim, length-append}
use Prim.Native.Nat.{min, max}
use Rattle.std.proofs.lemmas.List.{length-replicate, get_or_past}
use Rattle.std.proofs.lemmas.List.FromFn.{length-map-range_with_len}
use Rattle.std.proofs.lemmas.Bool.{cases_lt}
use Rattle.ft_body.specs.declared.TheConstants.{BLOCK_SIZE}
use Rattle.ft_body.specs.Bytes.{resized, written}
use Rattle.ft_body.specs.Paging.{byte_in, bytes_in, page_count, IsPaged, IsWritten, IsFront, IsFrontEnd, ArePages}
use Rattle.ft_body.proofs.Filled.{fill-at, fill_resized, fill_written, fill_read, same_ends}
use Rattle.ft_body.proofs.PageLists.{get_or-holes, byte_in-holes, byte_at}
use Rattle.ft_body.proofs.PartsBack.{same_pages}

-- how many bytes pages hold
pub length-bytes_in : (size : ℕ) (pages : List (List ℕ)) → length (bytes_in size pages) ≡ size
length-bytes_in size pages = length-map-range_with_len (byte_in pages) 0 size

-- and which, with zeros behind them
pub bytes_in-at : (size : ℕ) (pages : List (List ℕ)) (k : ℕ) → IsPaged size pages → get_or (bytes_in size pages) k 0 ≡ byte_in pages k
bytes_in-at size pages k paged = fill-at (byte_in pages) size k paged.past

-- pages that are cut hold the bytes cut
pub cut_paged : (size n : ℕ) (pages new : List (List ℕ)) → IsPaged size pages → n ≤ size → length new ≡ page_count n → ArePages new → IsFront (byte_in pages) (byte_in new) n
    → IsPaged n new
cut_paged size n pages new paged h count each front =
    let limit : size ≤ 2097152 = paged.limit in record { limit = omega arith; count = count; pages_are = each; past = front.zeros }

pub cut_resized : (size n : ℕ) (pages new : List (List ℕ)) → IsPaged size pages → IsPaged n new → IsFront (byte_in pages) (byte_in new) n
    → bytes_in n new ≡ resized (bytes_in size pages) n
cut_resized size n pages new paged cut front = fill_resized (byte_in pages) (byte_in new) size n paged.past front

-- pages that are lengthened by holes hold the bytes padded
pub longer_paged : (size n more : ℕ) (pages new : List (List ℕ)) → IsPaged size pages → size ≤ n → n ≤ BLOCK_SIZE → new ≡ pages ++ replicate more [] → length pages + more ≡ page_count n
    → IsPaged n new
longer_paged size n more pages new paged h limit is count = rw is record {
  limit = limit;
  count = length-append pages (replicate more []) ∙ ap (λ m. length pages + m) (length-replicate more []) ∙ count;
  pages_are = λ i. rw (get_or-holes pages more i) (paged.pages_are i);
  past = λ k g. byte_in-holes pages more k ∙ paged.past k (omega arith);
}

pub longer_resized : (size n more : ℕ) (pages new : List (List ℕ)) → IsPaged size pages → IsPaged n new → size ≤ n → new ≡ pages ++ replicate more []
    → bytes_in n new ≡ resized (bytes_in size pages) n
longer_resized size n more pages new paged longer h is =
    fill_resized (byte_in pages) (byte_in new) size n paged.past record { before = λ k g. ap (λ ps. byte_in ps k) is ∙ byte_in-holes pages more k; zeros = longer.past }

-- pages that are written hold the bytes written
pub written_paged : (size n offset : ℕ) (pages new : List (List ℕ)) (bytes : List ℕ) → IsPaged size pages → 0 < length bytes → offset + length bytes ≤ BLOCK_SIZE
    → n ≡ max size (offset + length bytes) → length new ≡ max (length pages) (page_count (offset + length bytes)) → ArePages new → IsWritten (byte_in pages) (byte_in new) offset bytes
    → IsPaged n new
written_paged size n offset pages new bytes paged some limit is count each w =
    let least : size ≤ 2097152 = paged.limit in
    let most : offset + length bytes ≤ 2097152 = limit in
    let had : length pages ≡ (size + 4095) / 4096 = paged.count in
    record {
      limit = omega arith;
      count = omega arith;
      pages_are = each;
      past = λ k g. w.behind k (omega arith) ∙ paged.past k (omega arith);
    }

pub written_bytes : (size n offset : ℕ) (pages new : List (List ℕ)) (bytes : List ℕ) → IsPaged size pages → IsPaged n new → 0 < length bytes
    → n ≡ max size (offset + length bytes) → IsWritten (byte_in pages) (byte_in new) offset bytes → bytes_in n new ≡ written (bytes_in size pages) offset bytes
written_bytes size n offset pages new bytes paged now some is w = fill_written (byte_in pages) (byte_in new) size n offset bytes paged.past some is w

-- all pages are told by their bytes
pub one_paging : (m n : ℕ) (ps qs : List (List ℕ)) → IsPaged m ps → IsPaged n qs → bytes_in m ps ≡ bytes_in n qs → (m ≡ n) × (ps ≡ qs)
one_paging m n ps qs a b e =
    let size : m ≡ n = sym (length-bytes_in m ps) ∙ ap length e ∙ length-bytes_in n qs in
    let same : (k : ℕ) → byte_in ps k ≡ byte_in qs k = λ k. sym (bytes_in-at m ps k a) ∙ ap (λ xs. get_or xs k 0) e ∙ bytes_in-at n qs k b in (
      size,
      same_pages ps qs (a.count ∙ ap page_count size ∙ sym b.count)
          (λ i. same_ends (get_or ps i []) (get_or qs i []) (a.pages_are i).no_end_zero (b.pages_are i).no_end_zero (λ j. ⊎_elim
          (λ (h : j < 4096). sym (byte_at ps (i * 4096 + j) i j refl h) ∙ same (i * 4096 + j) ∙ byte_at qs (i * 4096 + j) i j refl h)
          (λ (h : 4096 ≤ j).
          let p : length (get_or ps i []) ≤ 4096 = (a.pages_are i).fits in
          let q : length (get_or qs i []) ≤ 4096 = (b.pages_are i).fits in
          get_or_past (get_or ps i []) j 0 (omega arith) ∙ sym (get_or_past (get_or qs i []) j 0 (omega arith)))
          (cases_lt j 4096))),
    )

-- bytes that were read from an index on are those that a read gives
pub read_bytes : (size offset count start n : ℕ) (pages : List (List ℕ)) (out : List ℕ) → IsPaged size pages → start ≡ min offset size → n ≡ min count (size - start) → length out ≡ n
    → ((k : ℕ) → k < length out → get_or out k 0 ≡ byte_in pages (start + k)) → out ≡ take count (drop offset (bytes_in size pages))
read_bytes size offset count start n pages out paged from is long read = fill_read (byte_in pages) size offset count start n out paged.past from is long read

-- where the bytes before an index end
pub front_end : (size n end : ℕ) (pages : List (List ℕ)) → IsPaged n pages → IsFrontEnd (byte_in pages) (min size n) end → IsFrontEnd (λ k. get_or (bytes_in n pages) k 0) size end
front_end size n end pages paged is =
    let within : end ≤ min size n = is.within in record {
      within = omega arith;
      zeros = λ k h g. bytes_in-at n pages k paged ∙ ⊎_elim (λ (below : k < n). is.zeros k h (omega arith)) (λ (past : n ≤ k). paged.past k past) (cases_lt k n);
      last = λ h e. is.last h (sym (bytes_in-at n pages (end - 1) paged) ∙ e);
    }
