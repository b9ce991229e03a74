use Rattle.std.proofs.Common.{◌≡◌, ◌∙◌, ◌++◌, ◌-◌, ◌/◌, ◌*◌, ◌<◌, ◌≤◌, [], ℕ, List, arith, refl, ap, length, take, drop, get_or}
use Rattle.std.proofs.Math.ListN.{length-set}
use Rattle.std.proofs.lemmas.List.{get_or-set_same, get_or_read}
use Rattle.std.proofs.lemmas.Grind.{common_steps}
use Rattle.ft_body.specs.Paging.{IsFront, IsPage, page_count}
use Rattle.ft_body.proofs.PageLists.{cut_bytes, cut_pages, cut_count, cut_front, cut_last}
use Rattle.ft_body.proofs.pages.cut.Goals as goal
use Rattle.ft_body.proofs.pages.cut.Goals.{then-kept-len+in_ok-front-2, else-kept-len}

-- the pages that are made for what stays
made : (c : goal.After-replace) → length c.lengthen.new.pages.items ≡ page_count c.args.size
made c = grind (arith, common_steps)

len : (c : goal.After-replace) → c.len.result ≡ page_count c.args.size
len c = grind (arith, common_steps)

-- their count, where the last has the front of the old one
count : (c : goal.After-replace) → length c.if-kept-len.front.items ≡ page_count c.args.size
count c = elim c.if-kept-len.branch [
  | then-kept-len+in_ok-front-2 w ↦ ap (λ v. length v.items) w.front-is ∙ length-set c.lengthen.new.pages.items (c.args.size / 4096) w.in_ok-front-2.field-0 ∙ made c
  | else-kept-len w ↦ ap (λ v. length v.items) w.front-is ∙ made c
]

-- the last of them
last : (c : goal.After-replace) → c.args.size / 4096 < page_count c.args.size → IsPage (get_or c.if-kept-len.front.items (c.args.size / 4096) [])
    × IsFront (λ k. get_or (get_or c.args.pages.now.items (c.args.size / 4096) []) k 0) (λ k. get_or (get_or c.if-kept-len.front.items (c.args.size / 4096) []) k 0) (c.args.size - c.args.size / 4096 * 4096)
last c h = elim c.if-kept-len.branch [
  | then-kept-len+in_ok-front-2 w ↦
      let inside : c.args.size / 4096 < length c.lengthen.new.pages.items = omega (arith, made c) in
      let is : get_or c.if-kept-len.front.items (c.args.size / 4096) [] ≡ w.in_ok-front-2.field-0 =
      ap (λ v. get_or v.items (c.args.size / 4096) []) w.front-is ∙ get_or-set_same c.lengthen.new.pages.items (c.args.size / 4096) w.in_ok-front-2.field-0 [] inside in
      let room : c.args.size / 4096 < length c.args.pages.now.items = grind (arith, common_steps) in
      let was : w.index.result.now ≡ get_or c.args.pages.now.items (c.args.size / 4096) [] = get_or_read c.args.pages.now.items (c.args.size / 4096) w.index.result.now room w.index.ensures [] in
      (rw is w.in_ok-front-2.ensures.page, rw (is, ← was) w.in_ok-front-2.ensures.bytes)
  | else-kept-len w ↦ absurd (omega (arith, len c))
]

-- all of them
new : (c : goal.After-replace) → c.replace.new.dest.items ≡ take (c.args.size / 4096) c.args.pages.now.items ++ drop (c.args.size / 4096) c.if-kept-len.front.items
new c = grind (arith, common_steps)

-- there are as many before it as stay whole
room : (c : goal.After-replace) → (c.args.size / 4096 ≤ length c.args.pages.now.items) × (c.args.size / 4096 ≤ length c.if-kept-len.front.items)
room c = let there : page_count c.args.size ≤ length c.args.pages.now.items = grind (arith, common_steps) in (omega arith, omega (arith, count c))

pub returns-clause-pages : goal.returns-clause-pages
returns-clause-pages c =
    let pages : List (List ℕ) = c.args.pages.now.items in
    let front : List (List ℕ) = c.if-kept-len.front.items in
    let long : length c.replace.new.dest.items ≡ page_count c.args.size = cut_count pages front c.replace.new.dest.items (c.args.size / 4096) (new c) (room c).0 (room c).1 ∙ count c in
    cut_pages pages c.replace.new.dest.items (c.args.size / 4096) (omega arith)
    (λ i h. cut_front pages front c.replace.new.dest.items (c.args.size / 4096) i [] (new c) (room c).0 h) c.requires.pages
    (λ h. rw (cut_last pages front c.replace.new.dest.items (c.args.size / 4096) [] (new c) (room c).0 (omega (arith, count c))) (last c (omega arith)).0)

pub returns-clause-after : goal.returns-clause-after
returns-clause-after c =
    let pages : List (List ℕ) = c.args.pages.now.items in
    let front : List (List ℕ) = c.if-kept-len.front.items in
    let long : length c.replace.new.dest.items ≡ page_count c.args.size = cut_count pages front c.replace.new.dest.items (c.args.size / 4096) (new c) (room c).0 (room c).1 ∙ count c in
    cut_bytes pages c.replace.new.dest.items c.args.size (c.args.size / 4096) refl long
    (λ i h. cut_front pages front c.replace.new.dest.items (c.args.size / 4096) i [] (new c) (room c).0 h)
    (λ h. rw (cut_last pages front c.replace.new.dest.items (c.args.size / 4096) [] (new c) (room c).0 (omega (arith, count c))) (last c (omega arith)).1)
