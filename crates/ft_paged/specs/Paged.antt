-- A map from numbers with its values in pages, each at the place of its number.
use Rattle.std.specs.Prelude.{◌≡◌, ◌≤◌, ◌⊎◌, ◌+◌, ◌-◌, ◌*◌, ℕ, suc, drop, List, [], ◌∷◌, ◌++◌, length, replicate, Option, Some, None}
use Rattle.std.specs.Ordering.{nat_cmp}
use Rattle.std.specs.List.{AllByRecursion}
use Rattle.std.specs.FinMap as finite
use Rattle.ft_paged.specs.declared.TheConstants.{PAGE_LEN, GROUP_LEN, GROUP_PAGES, MOST_GROUPS}

module _ {V : Type 0} where
  -- the values of the places with their numbers, from this number on
  abbrev pub numbered : ℕ → List (Option V) → List (ℕ × V)
  numbered k [] = []
  numbered k (None ∷ places) = numbered (suc k) places
  numbered k (Some value ∷ places) = (k, value) ∷ numbered (suc k) places

  -- the map that they make: each value at the number of its place
  abbrev pub dense : List (Option V) → finite.FinMap nat_cmp V
  dense places = finite.from_entries (numbered 0 places)

  -- a page without a value
  abbrev pub blank : List (Option V)
  blank = replicate PAGE_LEN None

  -- the places of a page: those that are in memory, or all without a value if none is
  abbrev pub all_places : List (Option V) → List (Option V)
  all_places [] = blank
  all_places (place ∷ places) = place ∷ places

  -- how many places have a value
  abbrev pub valued : List (Option V) → ℕ
  valued [] = 0
  valued (None ∷ places) = valued places
  valued (Some value ∷ places) = suc (valued places)

  -- all places of a page are in memory, or none is
  abbrev pub IsWhole : List (Option V) → Type 0
  IsWhole places = (length places ≡ 0) ⊎ (length places ≡ PAGE_LEN)

  -- all places of a page are in memory, or none is, and `used` of them have a value
  pub record IsPage (used : ℕ) (places : List (Option V)) : Type 0 where
    pub whole : IsWhole places
    pub counted : used ≡ valued places

  -- the places of pages or of groups, one after another
  abbrev pub joined_places : List (List (Option V)) → List (Option V)
  joined_places [] = []
  joined_places (page ∷ pages) = page ++ joined_places pages

  -- each has n places
  abbrev pub HaveLen : ℕ → List (List (Option V)) → Type 0
  HaveLen n = AllByRecursion (λ places. length places ≡ n)

  -- a group without a value
  abbrev pub blank_group : List (Option V)
  blank_group = replicate GROUP_LEN None

  -- the places of a group: those of its pages, and after them others without a value
  abbrev pub group_places : List (List (Option V)) → List (Option V)
  group_places pages = joined_places pages ++ replicate (GROUP_LEN - PAGE_LEN * length pages) None

  -- each page has all its places, no page is past the group, and `used` places have a value
  pub record IsGroup (used : ℕ) (pages : List (List (Option V))) : Type 0 where
    pub whole : HaveLen PAGE_LEN pages
    pub few : length pages ≤ GROUP_PAGES
    pub counted : used ≡ valued (joined_places pages)

  -- all places, if the groups come after the skipped ones: that of 0, those of the skipped groups,
  -- which have no value, and those of the groups
  abbrev pub spread : Option V → ℕ → List (List (Option V)) → List (Option V)
  spread zero skipped groups = zero ∷ (replicate (GROUP_LEN * skipped) None ++ joined_places groups)

  -- the memory that is kept has no value
  pub record IsSpare (page group : List (Option V)) : Type 0 where
    pub no_page : page ≡ blank
    pub no_group : group ≡ blank_group

  -- all groups have all their places, and the spare page and group have no value
  pub record IsPagedTable (groups : List (List (Option V))) (page group : List (Option V)) : Type 0 where
    pub whole : HaveLen GROUP_LEN groups
    pub unused : IsSpare page group

  -- all groups have all their places, and no number has more than 32 bits
  pub record AreGroups (groups : List (List (Option V))) : Type 0 where
    pub whole : HaveLen GROUP_LEN groups
    pub few : length groups ≤ MOST_GROUPS

  -- `count` numbers have a value, and the spare page and group have none
  pub record IsPagedMap (count : ℕ) (groups : List (List (Option V))) (page group : List (Option V)) : Type 0 where
    pub whole : AreGroups groups
    pub counted : count ≡ valued (joined_places groups)
    pub unused : IsSpare page group

  -- the first place with a value, from one on, and its value: it comes before the values of all
  -- later numbers; if there is none, no number is left
  abbrev pub IsFirstFrom : List (Option V) → ℕ → Option (ℕ × V) → Type 0
  IsFirstFrom places from None = (base : ℕ) → numbered (base + from) (drop from places) ≡ []
  IsFirstFrom places from (Some (place, value)) =
      (base : ℕ) → numbered (base + from) (drop from places) ≡ (base + place, value) ∷ numbered (base + place + 1) (drop (place + 1) places)
