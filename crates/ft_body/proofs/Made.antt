-- How many pages are made.
use Rattle.std.proofs.Common.{refl, ◌≡◌, ◌≢◌, ℕ, ◌+◌, ◌-◌, ◌*◌, ◌<◌, ◌≤◌, Bool, true, false, not, cond, List, [], length, take, drop, map, get_or, arith, ap, sym, ◌∙◌, ⊎_elim, length-take}
use Rattle.std.specs.Prelude.{count_by, sum, nat_lt, nat_eq}
use Rattle.std.specs.List.{range_with_len}
use Rattle.std.proofs.lemmas.List.{length-map, get_or-map, get_or-take, get_or-drop, get_or_past}
use Rattle.std.proofs.lemmas.List.FromFn.{fill_by_all}
use Rattle.std.proofs.lemmas.List.Elements.{All-from_get_or}
use Rattle.std.proofs.lemmas.List.Folds.{list_any_none, list_any_at}
use Rattle.std.proofs.lemmas.List.Sums.{sum-map}
use Rattle.std.proofs.lemmas.Bool.{cases_lt, lt-ltb, le-ltb, cases_eq, cases_Bool, both_ways, eq-eqb, ne_eqb}
use Rattle.ft_body.specs.Bytes.{written, resized}
use Rattle.ft_body.specs.Paging.{bytes_in, is_made, made_pages, page_count, IsPaged, KeepsPagesOutside, MakesNoPage}
use Rattle.ft_body.proofs.PageLists.{byte_at}
use Rattle.ft_body.proofs.Filled.{resized-before, resized-behind}
use Rattle.ft_body.proofs.Paged.{bytes_in-at, length-bytes_in}
use Rattle.ft_body.proofs.PageWrites.{written_at}

-- a count by index is a count of the elements
counted : (p : ℕ → Bool) (q : List ℕ → Bool) (xs : List (List ℕ)) → ((i : ℕ) → i < length xs → q (get_or xs i []) ≡ p i) → count_by q xs ≡ count_by p (range_with_len 0 (length xs))
counted p q xs same =
    sym (sum-map (λ x. cond (q x) 1 0) xs)
    ∙ ap sum (fill_by_all (λ i. cond (p i) 1 0) (map (λ x. cond (q x) 1 0) xs) (length xs) 0 (length-map xs (λ x. cond (q x) 1 0))
    (λ k h. get_or-map (λ x. cond (q x) 1 0) xs k [] 0 h ∙ ap (λ b. cond b 1 0) (same k h)))
    ∙ sum-map (λ i. cond (p i) 1 0) (range_with_len 0 (length xs))

-- the bytes of a page, with zeros behind them
page-at : (size : ℕ) (pages : List (List ℕ)) (i j : ℕ) → IsPaged size pages → j < 4096 → get_or (take 4096 (drop (i * 4096) (bytes_in size pages))) j 0 ≡ get_or (get_or pages i []) j 0
page-at size pages i j paged h =
    get_or-take 4096 (drop (i * 4096) (bytes_in size pages)) j 0 h ∙ get_or-drop (i * 4096) (bytes_in size pages) j 0
    ∙ bytes_in-at size pages (i * 4096 + j) paged ∙ byte_at pages (i * 4096 + j) i j refl h

-- a page of which bytes are kept is made
kept_is_made : (size : ℕ) (pages : List (List ℕ)) (i : ℕ) → IsPaged size pages → 0 < length (get_or pages i []) → is_made (bytes_in size pages) i ≡ true
kept_is_made size pages i paged h =
    let page : List ℕ = get_or pages i [] in
    let part : List ℕ = take 4096 (drop (i * 4096) (bytes_in size pages)) in
    let fits : length page ≤ 4096 = (paged.pages_are i).fits in
    let at : get_or part (length page - 1) 0 ≡ get_or page (length page - 1) 0 = page-at size pages i (length page - 1) paged (omega arith) in
    let some : get_or part (length page - 1) 0 ≢ 0 = λ e. (paged.pages_are i).no_end_zero h (sym at ∙ e) in
    let inside : length page - 1 < length part = ⊎_elim (λ (g : length page - 1 < length part). g) (λ (g : length part ≤ length page - 1). absurd (some (get_or_past part (length page - 1) 0 g))) (cases_lt (length page - 1) (length part)) in
    list_any_at (λ byte. not (nat_eq byte 0)) part (length page - 1) 0 inside (ap not (ne_eqb (get_or part (length page - 1) 0) 0 some))

-- and one of which none is kept is a hole
none_is_hole : (size : ℕ) (pages : List (List ℕ)) (i : ℕ) → IsPaged size pages → length (get_or pages i []) ≡ 0 → is_made (bytes_in size pages) i ≡ false
none_is_hole size pages i paged e =
    let part : List ℕ = take 4096 (drop (i * 4096) (bytes_in size pages)) in
    let short : length part ≤ 4096 = omega (arith, length-take 4096 (drop (i * 4096) (bytes_in size pages))) in
    list_any_none (λ byte. not (nat_eq byte 0)) part (All-from_get_or (λ byte. not (nat_eq byte 0) ≡ false) part 0
    (λ j h.
    let zero : get_or part j 0 ≡ 0 = page-at size pages i j paged (omega arith) ∙ get_or_past (get_or pages i []) j 0 (omega arith) in
    ap not (eq-eqb (get_or part j 0) 0 zero)))

-- so each page is made where bytes of it are kept
made_where_kept : (size : ℕ) (pages : List (List ℕ)) (i : ℕ) → IsPaged size pages → nat_lt 0 (length (get_or pages i [])) ≡ is_made (bytes_in size pages) i
made_where_kept size pages i paged = ⊎_elim
    (λ (h : 0 < length (get_or pages i [])). lt-ltb 0 (length (get_or pages i [])) h ∙ sym (kept_is_made size pages i paged h))
    (λ (h : length (get_or pages i []) ≤ 0). le-ltb 0 (length (get_or pages i [])) h ∙ sym (none_is_hole size pages i paged (omega arith)))
    (cases_lt 0 (length (get_or pages i [])))

-- the pages that are made are those of which bytes are kept
pub kept_pages : (size : ℕ) (pages : List (List ℕ)) → IsPaged size pages → count_by (λ page. nat_lt 0 (length page)) pages ≡ made_pages (bytes_in size pages)
unfolding made_pages
kept_pages size pages paged =
    counted (is_made (bytes_in size pages)) (λ page. nat_lt 0 (length page)) pages (λ i h. made_where_kept size pages i paged)
    ∙ ap (λ n. count_by (is_made (bytes_in size pages)) (range_with_len 0 n)) (paged.count ∙ ap page_count (sym (length-bytes_in size pages)))

-- a page of zeros is a hole
pub zeros_are_hole : (xs : List ℕ) (page : ℕ) → ((k : ℕ) → page * 4096 ≤ k → k < (page + 1) * 4096 → get_or xs k 0 ≡ 0) → is_made xs page ≡ false
zeros_are_hole xs page zeros =
    let part : List ℕ = take 4096 (drop (page * 4096) xs) in
    let short : length part ≤ 4096 = omega (arith, length-take 4096 (drop (page * 4096) xs)) in
    list_any_none (λ byte. not (nat_eq byte 0)) part (All-from_get_or (λ byte. not (nat_eq byte 0) ≡ false) part 0
    (λ j h.
    let zero : get_or part j 0 ≡ 0 = get_or-take 4096 (drop (page * 4096) xs) j 0 (omega arith) ∙ get_or-drop (page * 4096) xs j 0 ∙ zeros (page * 4096 + j) (omega arith) (omega arith) in
    ap not (eq-eqb (get_or part j 0) 0 zero)))

-- and the bytes of a hole are zeros
pub hole_is_zeros : (xs : List ℕ) (page k : ℕ) → is_made xs page ≡ false → page * 4096 ≤ k → k < (page + 1) * 4096 → get_or xs k 0 ≡ 0
hole_is_zeros xs page k hole from to = ⊎_elim
    (λ (e : get_or xs k 0 ≡ 0). e)
    (λ (some : get_or xs k 0 ≢ 0).
    let part : List ℕ = take 4096 (drop (page * 4096) xs) in
    let at : get_or part (k - page * 4096) 0 ≡ get_or xs k 0 =
    get_or-take 4096 (drop (page * 4096) xs) (k - page * 4096) 0 (omega arith) ∙ get_or-drop (page * 4096) xs (k - page * 4096) 0 ∙ ap (λ j. get_or xs j 0) (let same : page * 4096 + (k - page * 4096) ≡ k = omega arith in same) in
    let not_zero : get_or part (k - page * 4096) 0 ≢ 0 = λ e. some (sym at ∙ e) in
    let inside : k - page * 4096 < length part = ⊎_elim (λ (g : k - page * 4096 < length part). g) (λ (g : length part ≤ k - page * 4096). absurd (not_zero (get_or_past part (k - page * 4096) 0 g))) (cases_lt (k - page * 4096) (length part)) in
    absurd (both_ways (is_made xs page) hole (list_any_at (λ byte. not (nat_eq byte 0)) part (k - page * 4096) 0 inside (ap not (ne_eqb (get_or part (k - page * 4096) 0) 0 not_zero)))))
    (cases_eq (get_or xs k 0) 0)

-- where bytes are made, those that are the same are made
pub made_same : (xs ys : List ℕ) (page : ℕ) → ((k : ℕ) → page * 4096 ≤ k → k < (page + 1) * 4096 → get_or ys k 0 ≡ get_or xs k 0) → is_made ys page ≡ is_made xs page
made_same xs ys page same = ⊎_elim
    (λ (x : is_made xs page ≡ true). ⊎_elim
    (λ (y : is_made ys page ≡ true). y ∙ sym x)
    (λ (y : is_made ys page ≡ false). absurd (both_ways (is_made xs page) (zeros_are_hole xs page (λ k g h. sym (same k g h) ∙ hole_is_zeros ys page k y g h)) x))
    (cases_Bool (is_made ys page)))
    (λ (x : is_made xs page ≡ false). zeros_are_hole ys page (λ k g h. same k g h ∙ hole_is_zeros xs page k x g h) ∙ sym x)
    (cases_Bool (is_made xs page))

-- a write keeps the pages that it does not write to
pub written_keeps_pages : (xs ys : List ℕ) (offset : ℕ) → KeepsPagesOutside xs (written xs offset ys) offset (offset + length ys)
written_keeps_pages xs ys offset page outside =
    let w = written_at xs offset ys in
    made_same xs (written xs offset ys) page (λ k g h. ⊎_elim
    (λ (before : (page + 1) * 4096 ≤ offset). w.before k (omega arith))
    (λ (behind : offset + length ys ≤ page * 4096). w.behind k (omega arith)) outside)

-- a change of the length makes no page
pub resized_makes_none : (xs : List ℕ) (size : ℕ) → MakesNoPage xs (resized xs size) size
resized_makes_none xs size page made = (
  ⊎_elim (λ (x : is_made xs page ≡ true). x)
      (λ (x : is_made xs page ≡ false). absurd (both_ways (is_made (resized xs size) page) (zeros_are_hole (resized xs size) page (λ k g h. ⊎_elim
      (λ (before : k < size). resized-before xs size k before ∙ hole_is_zeros xs page k x g h)
      (λ (behind : size ≤ k). resized-behind xs size k behind) (cases_lt k size))) made))
      (cases_Bool (is_made xs page)),
  ⊎_elim (λ (h : page * 4096 < size). h)
      (λ (past : size ≤ page * 4096). absurd (both_ways (is_made (resized xs size) page) (zeros_are_hole (resized xs size) page (λ k g h. resized-behind xs size k (omega arith))) made))
      (cases_lt (page * 4096) size),
)
