-- An index of names, after a change of one of them.
use Rattle.std.proofs.Common.{◌≡◌, ◌≢◌, ◌<◌, ◌≤◌, ◌+◌, ◌-◌, ℕ, zero, suc, List, [], ◌∷◌, ◌++◌, Option, Some, None, map, length, get_or, refl, sym, ap, subst, arith, ◌∙◌}
use Rattle.std.proofs.lemmas.Option.{slice_get-get_or}
use Rattle.std.specs.Prelude.{slice_get, option_map}
use Rattle.std.specs.Ordering.{nat_cmp}
use Rattle.std.specs.FinMap.{FinMap, get, insert, remove}
use Rattle.ft_inodes.specs.declared.place.Place.{Place}
use Rattle.ft_inodes.specs.Named.{names_in, short_hash, IsSwapped}
use Rattle.ft_inodes.proofs.Seats.{by_same, by_order, seat-push_end, seat-push_other, seat-past, seat-within, seat-there, put-here, put-other, gone-here, gone-other}

-- the hash of the name at a place
abbrev pub hash_at : ℕ → List (List ℕ) → ℕ → Option ℕ
hash_at seed names i = option_map (short_hash seed) (slice_get names i)

abbrev pub Have : FinMap nat_cmp ℕ → ℕ → List (List ℕ) → Type 0
Have keys seed names = (i : ℕ) → get keys i ≡ hash_at seed names i

-- the name at a place of places
pub name_there : (places : List Place) (i : ℕ) (place : Place) → slice_get places i ≡ Some place → slice_get (names_in places) i ≡ Some place.name
name_there [] i place is = absurd (cc)
name_there (x ∷ places) zero place is = ap (λ n. Some n) (let e : x ≡ place = cc in ap (λ (p : Place). p.name) e)
name_there (x ∷ places) (suc i) place is = name_there places i place is

pub names-length : (places : List Place) → length (names_in places) ≡ length places
names-length [] = refl
names-length (x ∷ places) = ap suc (names-length places)

pub name_read : (places : List Place) (i : ℕ) (d : Place) → i < length places → slice_get (names_in places) i ≡ Some (get_or places i d).name
name_read places i d lt = name_there places i (get_or places i d) (slice_get-get_or places i d lt)

pub names-append : (places more : List Place) → names_in (places ++ more) ≡ names_in places ++ names_in more
names-append [] more = refl
names-append (x ∷ places) more = ap (λ names. x.name ∷ names) (names-append places more)

-- a hash that the index has is that of a name
pub indexed_name : (keys : FinMap nat_cmp ℕ) (seed : ℕ) (names : List (List ℕ)) (i hash : ℕ) → Have keys seed names → get keys i ≡ Some hash → i < length names
indexed_name keys seed names i hash have is = by_order (length names) i
    (λ past. absurd (let no : Some hash ≡ None = sym is ∙ have i ∙ ap (option_map (short_hash seed)) (seat-past names i past) in cc))
    (λ lt. lt)

module _ (keys : FinMap nat_cmp ℕ) (seed : ℕ) (names : List (List ℕ)) (have : Have keys seed names) where
  pub next_free : get keys (length names) ≡ None
  next_free = have (length names) ∙ ap (option_map (short_hash seed)) (seat-past names (length names) (omega arith))

  pub pushed : (name : List ℕ) → Have (insert keys (length names) (short_hash seed name)) seed (names ++ name ∷ [])
  pushed name i = by_same i (length names)
      (λ same. ap (get (insert keys (length names) (short_hash seed name))) same ∙ put-here keys (length names) (short_hash seed name)
      ∙ sym (ap (hash_at seed (names ++ name ∷ [])) same ∙ ap (option_map (short_hash seed)) (seat-push_end names name)))
      (λ other. put-other keys (length names) (short_hash seed name) i other ∙ have i ∙ ap (option_map (short_hash seed)) (sym (seat-push_other names name i other)))

  pub has_hash : (i : ℕ) (name : List ℕ) → slice_get names i ≡ Some name → get keys i ≡ Some (short_hash seed name)
  has_hash i name is = have i ∙ ap (option_map (short_hash seed)) is

  -- the last name was taken out
  pub popped : (new : List (List ℕ)) (at : ℕ) → at < length names → length names ≤ at + 1 → IsSwapped names new at → Have (remove keys at) seed new
  popped new at within end swapped i = let short = swapped.shorter in by_same i at
      (λ same. ap (get (remove keys at)) same ∙ gone-here keys at ∙ ap (option_map (short_hash seed)) (sym (seat-past new i (omega arith))))
      (λ other. gone-other keys at i other ∙ have i ∙ ap (option_map (short_hash seed)) (by_order (length names) (i + 1)
      (λ le. seat-past names i (omega arith) ∙ sym (seat-past new i (omega arith)))
      (λ lt. sym (swapped.others i other lt))))

  -- another name was taken out, and the last came in its place
  pub swapped_out : (new : List (List ℕ)) (at last : ℕ) (name : List ℕ) → at < last → last + 1 ≡ length names → slice_get names last ≡ Some name → IsSwapped names new at
      → Have (insert (remove (remove keys at) last) at (short_hash seed name)) seed new
  swapped_out new at last name low end is swapped i =
      let short = swapped.shorter in
      let without = remove (remove keys at) last in
      let same_last : length names - 1 ≡ last = omega arith in
      by_same i at
      (λ same. ap (get (insert without at (short_hash seed name))) same ∙ put-here without at (short_hash seed name)
      ∙ sym (ap (hash_at seed new) same ∙ ap (option_map (short_hash seed)) (swapped.last (omega arith) ∙ ap (slice_get names) same_last ∙ is)))
      (λ other. put-other without at (short_hash seed name) i other ∙ by_same i last
      (λ same. ap (get without) same ∙ gone-here (remove keys at) last ∙ ap (option_map (short_hash seed)) (sym (seat-past new i (omega arith))))
      (λ apart. gone-other (remove keys at) last i apart ∙ gone-other keys at i other ∙ have i ∙ ap (option_map (short_hash seed)) (by_order (length names) (i + 1)
      (λ le. seat-past names i (omega arith) ∙ sym (seat-past new i (omega arith)))
      (λ lt. sym (swapped.others i other lt)))))
