-- A list that has room for more, and the pages that hold it.
use Rattle.std.specs.Prelude.{◌≡◌, ◌≤◌, ℕ, List, [], ◌∷◌, ◌++◌, length, vec_capacity, refl}
use Rattle.std.specs.Coded.{Coded, code_by, coded×, coded_ℕ, coded_list}
use Rattle.std.specs.Global.{Vec}
use Rattle.std.specs.List.{AllByRecursion}
use Rattle.ft_paged.specs.declared.TheConstants.{LIST_PAGE_LEN, MOST_LIST_PAGES}

-- a list, and for how many more values it has room
pub record RoomyList : Type 0 where
  pub items : List ℕ
  pub room : ℕ

-- a code for such lists, which a model needs
abbrev pub coded_roomy : Coded RoomyList
coded_roomy = code_by (List ℕ × ℕ) (coded× (coded_list coded_ℕ) coded_ℕ) (λ r. (r.items, r.room)) (λ p. record { items = p.0; room = p.1 }) (λ _. refl)

-- the values of the pages, one after another
abbrev pub joined_items : List (Vec ℕ) → List ℕ
joined_items [] = []
joined_items (page ∷ pages) = page.items ++ joined_items pages

-- each page is full
abbrev pub AreFull : List (Vec ℕ) → Type 0
AreFull = AllByRecursion (λ page. length page.items ≡ LIST_PAGE_LEN)

-- all pages except the last are full, and neither the last nor its memory is longer than a page
pub record IsPagedList (pages : List (Vec ℕ)) (last : Vec ℕ) : Type 0 where
  pub full : AreFull pages
  pub few : length pages ≤ MOST_LIST_PAGES
  pub last_len : length last.items ≤ LIST_PAGE_LEN
  pub last_room : vec_capacity last ≤ LIST_PAGE_LEN
