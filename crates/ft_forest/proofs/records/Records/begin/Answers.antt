use Rattle.std.proofs.Common.{◌≡◌, ◌∙◌, ◌+◌, ◌^◌, ◌<◌, ◌∷◌, ◌++◌, [], ℕ, Bool, true, Option, Some, None, sym, ap, subst, arith}
use Rattle.std.specs.FinMap as finite
use Rattle.ft_paged.specs.Roomy.{RoomyList}
use Rattle.ft_history.specs.Logs.{put}
use Rattle.ft_history.proofs.Words.{put_same, put_other, by_number}
use Rattle.ft_forest.specs.Records.{Links, links_of, links_by, put_at, put_youngest}
use Rattle.ft_forest.proofs.Setting.{pushed_links, live_record, write-push}
use Rattle.ft_forest.proofs.records.Records.begin.Goals as goal
use Rattle.ft_forest.proofs.records.Records.begin.Goals.{After-push_reserved}

-- the links with a new transaction, once its parent knows of it
abbrev half_begun : Links → Option ℕ → ℕ → Option ℕ → ℕ → Links
half_begun s parent depth older place = let l = pushed_links s parent depth older in record l {
  children = put_at l.children parent (λ n. n + 1);
  youngest = put_youngest l.youngest parent (Some place);
}

put_true : (f : ℕ → Bool) (n x : ℕ) → f x ≡ true → put f n true x ≡ true
put_true f n x e = by_number x n (put_same f n true x) (λ ne. put_other f n true x ne ∙ e)

put_zero : (f : ℕ → ℕ) (n x : ℕ) → f x < 2 ^ 63 → put f n 0 x < 2 ^ 63
put_zero f n x lt = by_number x n (λ e. let zero = put_same f n 0 x e in omega arith) (λ ne. let same = put_other f n 0 x ne in omega arith)

-- it stands behind the others
behind : (c : After-push_reserved) → links_by c.args.self.now.youngest c.push_reserved.new.self.items c.insert.new.self ≡ pushed_links (links_of c.args.self.now) c.args.parent c.args.depth c.youngest_of-older.result
behind c =
    let r = c.args.self.now in
    let place_is : c.len-place.result ≡ (links_of r).count = c.len-place.ensures in
    let depth = c.args.depth in
    let older = c.youngest_of-older.result in
    let kept : c.begun.result ≡ live_record depth older = λ i. record {
      depth = c.begun.ensures.depth i;
      children = c.begun.ensures.children i;
      youngest = c.begun.ensures.youngest i;
      older = c.begun.ensures.older i;
      younger = c.begun.ensures.younger i;
    } in
    let items = ap (λ (l : RoomyList). l.items) c.push_reserved.ensures ∙ ap (λ xs. xs ++ c.begun-2.result.0 ∷ []) c.reserve.ensures.same in
    let live = c.in_ok-insert.ensures.ok ∙ (λ i. finite.insert r.live (place_is i) (kept i)) in
    (λ i. links_by r.youngest (items i) (live i)) ∙ write-push r.youngest r.list.items r.live c.begun-2.result.0 c.args.parent depth older c.begun-2.ensures.parent c.begun-2.ensures.live

pub add_child-requires-clause-kept : goal.add_child-requires-clause-kept
add_child-requires-clause-kept c = λ p is. let s = links_of c.args.self.now in ap (λ (l : Links). l.kept p) (behind (goal.at.add_child-requires-clause-kept c).After-push_reserved) ∙ put_true s.kept s.count p (c.requires.kept p is)

pub add_child-requires-clause-few : goal.add_child-requires-clause-few
add_child-requires-clause-few c = λ p. let s = links_of c.args.self.now in subst (λ n. n < 2 ^ 63) (sym (ap (λ (l : Links). l.children p) (behind (goal.at.add_child-requires-clause-few c).After-push_reserved))) (put_zero s.children s.count p (c.requires.children p))

pub set_younger-requires : goal.set_younger-requires
set_younger-requires c =
    let s = links_of c.args.self.now in
    let sibling = c.in-Some.sibling in
    ap (λ (l : Links). l.kept sibling) c.add_child.ensures ∙ ap (λ (l : Links). l.kept sibling) (behind (goal.at.set_younger-requires c).After-push_reserved)
    ∙ put_true s.kept s.count sibling (c.requires.youngest sibling (sym c.youngest_of-older.ensures ∙ c.in-Some.is))

pub returns-in-Some-clause-ok : goal.returns-in-Some-clause-ok
returns-in-Some-clause-ok c =
    let s = links_of c.args.self.now in
    let parent = c.args.parent in
    let depth = c.args.depth in
    let older = c.youngest_of-older.result in
    let place = c.len-place.result in
    let place_is : place ≡ s.count = c.len-place.ensures in
    let knows : links_of c.add_child.new.self ≡ half_begun s parent depth older place =
    c.add_child.ensures ∙ ap (λ (l : Links). record l { children = put_at l.children parent (λ n. n + 1); youngest = put_youngest l.youngest parent (Some place) }) (behind (goal.at.returns-in-Some-clause-ok c).After-push_reserved) in
    c.set_younger.ensures
    ∙ ap (λ (l : Links). record l { younger = put l.younger c.in-Some.sibling (Some place) }) knows
    ∙ ap (λ o. record (half_begun s parent depth older place) { younger = put_at (put s.younger s.count None) o (λ _. Some place) }) (sym c.in-Some.is)
    ∙ (λ i. record (half_begun s parent depth (c.youngest_of-older.ensures i) (place_is i)) { younger = put_at (put s.younger s.count None) (c.youngest_of-older.ensures i) (λ _. Some (place_is i)) })

pub returns-in_default-clause-ok : goal.returns-in_default-clause-ok
returns-in_default-clause-ok c =
    let s = links_of c.args.self.now in
    let parent = c.args.parent in
    let depth = c.args.depth in
    let older = c.youngest_of-older.result in
    let place = c.len-place.result in
    let place_is : place ≡ s.count = c.len-place.ensures in
    let knows : links_of c.add_child.new.self ≡ half_begun s parent depth older place =
    c.add_child.ensures ∙ ap (λ (l : Links). record l { children = put_at l.children parent (λ n. n + 1); youngest = put_youngest l.youngest parent (Some place) }) (behind (goal.at.returns-in_default-clause-ok c).After-push_reserved) in
    knows
    ∙ ap (λ o. record (half_begun s parent depth older place) { younger = put_at (put s.younger s.count None) o (λ _. Some place) }) (sym c.in_default.is)
    ∙ (λ i. record (half_begun s parent depth (c.youngest_of-older.ensures i) (place_is i)) { younger = put_at (put s.younger s.count None) (c.youngest_of-older.ensures i) (λ _. Some (place_is i)) })
