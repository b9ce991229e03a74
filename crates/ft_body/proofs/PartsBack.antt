-- What stood in pages that were written, and how it brings the pages from before back.
use Rattle.std.proofs.Common.{refl, ◌≡◌, ◌≢◌, ℕ, ◌+◌, ◌<◌, ◌≤◌, List, [], ◌∷◌, ◌++◌, length, get_or, arith, ap, sym, ◌∙◌, ⊎_elim, length-append}
use Rattle.std.proofs.Math.ListN.{set, length-set}
use Rattle.std.proofs.lemmas.List.{same_lists, get_or_default, get_or-set_same, get_or-set_other, get_or_append_left, get_or_at}
use Rattle.std.proofs.lemmas.Bool.{cases_lt, cases_eq}
use Rattle.ft_body.specs.declared.buffer.LostBytes.{LostBytes}
use Rattle.ft_body.specs.declared.buffer.LostBytes.TheVariants as bytes
use Rattle.ft_body.specs.PutBack.{PutsBytesBack, LiesWithin, bytes_back, part_at, page_at, PutPartsBack}

-- pages are equal where each of them is
pub same_pages : (xs ys : List (List ℕ)) → length xs ≡ length ys → ((i : ℕ) → page_at xs i ≡ page_at ys i) → xs ≡ ys
same_pages xs ys e each = same_lists xs ys e (λ k d h. get_or_default xs k d [] h ∙ each k ∙ get_or_default ys k [] d (omega arith))

-- where nothing was lost the pages are those from before
pub parts_none : (first : ℕ) (after before : List (List ℕ)) → PutPartsBack first [] after before → after ≡ before
parts_none first after before b =
    same_pages after before b.count (λ i. ⊎_elim (λ (h : i < first). sym (b.front i h)) (λ (h : first ≤ i). sym (b.behind i (omega arith))) (cases_lt i first))

-- and the other way round
pub parts_of_none : (first : ℕ) (pages : List (List ℕ)) → first ≤ length pages → PutPartsBack first [] pages pages
parts_of_none first pages h = record { count = refl; room = omega arith; there = λ i g. absurd (omega arith); front = λ i g. refl; behind = λ i g. refl }

-- one more page is written
pub parts_more : (first i : ℕ) (parts : List LostBytes) (lost : LostBytes) (page : List ℕ) (now before : List (List ℕ)) → i ≡ first + length parts → i < length now
    → PutsBytesBack lost page (page_at now i) → PutPartsBack first parts now before → PutPartsBack first (parts ++ lost ∷ []) (set now i page) before
parts_more first i parts lost page now before e h puts b =
    let long : length (parts ++ lost ∷ []) ≡ length parts + 1 = length-append parts (lost ∷ []) in
    let size : length (set now i page) ≡ length now = length-set now i page in record {
      count = size ∙ b.count;
      room = omega arith;
      there = λ j g. ⊎_elim
          (λ (early : j < length parts).
          let other : page_at (set now i page) (first + j) ≡ page_at now (first + j) = get_or-set_other now i (first + j) page [] (omega arith) in
          rw (get_or_append_left parts (lost ∷ []) bytes.Nothing j early, other) (b.there j early))
          (λ (late : length parts ≤ j).
          let is : first + j ≡ i = omega arith in
          let last : part_at (parts ++ lost ∷ []) j ≡ lost = get_or_at parts lost [] bytes.Nothing j (omega arith) in
          let new : page_at (set now i page) (first + j) ≡ page = ap (page_at (set now i page)) is ∙ get_or-set_same now i page [] h in
          let old : page_at before (first + j) ≡ page_at now i = ap (page_at before) is ∙ b.behind i (omega arith) in
          rw (last, new, old) puts)
          (cases_lt j (length parts));
      front = λ j g. b.front j g ∙ sym (get_or-set_other now i j page [] (omega arith));
      behind = λ j g. b.behind j (omega arith) ∙ sym (get_or-set_other now i j page [] (omega arith));
    }

-- one is put back
pub parts_less : (first i : ℕ) (parts : List LostBytes) (lost : LostBytes) (now before : List (List ℕ)) → i ≡ first + length parts
    → PutPartsBack first (parts ++ lost ∷ []) now before → PutPartsBack first parts (set now i (bytes_back lost (page_at now i))) before
parts_less first i parts lost now before e b =
    let long : length (parts ++ lost ∷ []) ≡ length parts + 1 = length-append parts (lost ∷ []) in
    let inside : i < length now = omega (arith, b.room) in
    let page : List ℕ = bytes_back lost (page_at now i) in
    let size : length (set now i page) ≡ length now = length-set now i page in
    let last : part_at (parts ++ lost ∷ []) (length parts) ≡ lost = get_or_at parts lost [] bytes.Nothing (length parts) refl in
    let was : page_at before i ≡ page =
    ap (page_at before) e ∙ (b.there (length parts) (omega arith)).1 ∙ ap (λ l. bytes_back l (page_at now (first + length parts))) last ∙ ap (λ k. bytes_back lost (page_at now k)) (sym e) in record {
      count = size ∙ b.count;
      room = omega (arith, b.room);
      there = λ j g.
          let other : page_at (set now i page) (first + j) ≡ page_at now (first + j) = get_or-set_other now i (first + j) page [] (omega arith) in
          rw (← get_or_append_left parts (lost ∷ []) bytes.Nothing j g, other) (b.there j (omega arith));
      front = λ j g. b.front j g ∙ sym (get_or-set_other now i j page [] (omega arith));
      behind = λ j g. ⊎_elim
          (λ (here : j ≡ i). ap (page_at before) here ∙ was ∙ sym (ap (page_at (set now i page)) here ∙ get_or-set_same now i page [] inside))
          (λ (other : j ≢ i). b.behind j (omega arith) ∙ sym (get_or-set_other now i j page [] other))
          (cases_eq j i);
    }

-- what is put back lies within its page
pub parts_last_within : (first i : ℕ) (parts : List LostBytes) (lost : LostBytes) (now before : List (List ℕ)) → i ≡ first + length parts
    → PutPartsBack first (parts ++ lost ∷ []) now before → (i < length now) × LiesWithin lost (page_at now i)
parts_last_within first i parts lost now before e b =
    let long : length (parts ++ lost ∷ []) ≡ length parts + 1 = length-append parts (lost ∷ []) in
    let last : part_at (parts ++ lost ∷ []) (length parts) ≡ lost = get_or_at parts lost [] bytes.Nothing (length parts) refl in
    (omega (arith, b.room), rw (← last, e) (b.there (length parts) (omega arith)).0)

-- the same of the page as it is read
pub read_page_within : (first i : ℕ) (parts all : List LostBytes) (lost : LostBytes) (d : List ℕ) (now before : List (List ℕ)) → i ≡ first + length parts → all ≡ parts ++ lost ∷ []
    → PutPartsBack first all now before → LiesWithin lost (get_or now i d)
read_page_within first i parts all lost d now before e is b =
    let last = parts_last_within first i parts lost now before e (rw (← is) b) in
    rw (get_or_default now i d [] last.0) last.1

pub read_page_back : (first i : ℕ) (parts all : List LostBytes) (lost : LostBytes) (d new : List ℕ) (now before : List (List ℕ)) → i ≡ first + length parts → all ≡ parts ++ lost ∷ []
    → new ≡ bytes_back lost (get_or now i d) → PutPartsBack first all now before → PutPartsBack first parts (set now i new) before
read_page_back first i parts all lost d new now before e is gives b =
    let last = parts_last_within first i parts lost now before e (rw (← is) b) in
    let back : new ≡ bytes_back lost (page_at now i) = gives ∙ ap (bytes_back lost) (get_or_default now i d [] last.0) in
    rw back (parts_less first i parts lost now before e (rw (← is) b))
