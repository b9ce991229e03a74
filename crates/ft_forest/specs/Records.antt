-- How the records of the transactions are linked, seen as functions of a place. This is the
-- internal state of a forest, and no public contract cites it.
use Rattle.std.specs.Prelude.{◌≡◌, ◌<◌, ◌≤◌, ◌+◌, ◌-◌, ◌/◌, ◌%◌, ◌==◌, ◌&&◌, ◌⊎◌, ℕ, zero, suc, Bool, true, false, Option, Some, None, is_some, List, map, length, slice_get, IsSome}
use Rattle.std.specs.Option.{option_map}
use Rattle.std.specs.Ordering.{nat_cmp}
use Rattle.std.specs.FinMap as finite
use Rattle.ft_history.specs.Forest.{is_some_and}
use Rattle.ft_history.specs.Logs.{put}
use Rattle.ft_forest.specs.declared.TheConstants.{MOST_TRANSACTIONS, LAST_NUMBER}
use Rattle.ft_forest.specs.declared.limits.ForestLimits.{ForestLimits}
use Rattle.ft_forest.specs.declared.state.State.{State}
use Rattle.ft_forest.specs.declared.state.State.TheVariants.{Live, Committed, Aborted}
use Rattle.ft_forest.specs.declared.record.LiveRecord.{LiveRecord}
use Rattle.ft_forest.specs.declared.records.Records.{Records}
use Rattle.ft_forest.specs.Transactions.{Transaction, Transactions, is_live, count_below}

-- The transaction at each place: its parent's place, its state, and whether more is kept for it.
-- The rest is its depth, the number of its live children, the youngest of them, and its next older
-- and next younger live sibling. The youngest child without a parent is the youngest live top-level
-- transaction.
pub record Links : Type 0 where
  pub count : ℕ
  pub parent : ℕ → Option ℕ
  pub state : ℕ → Option State
  pub kept : ℕ → Bool
  pub depth : ℕ → ℕ
  pub children : ℕ → ℕ
  pub youngest : Option ℕ → Option ℕ
  pub older : ℕ → Option ℕ
  pub younger : ℕ → Option ℕ

-- what is kept only for the live transactions, by their places
abbrev pub LiveRecords : Type 0
LiveRecords = finite.FinMap nat_cmp LiveRecord

-- the place before this one, if there is one
abbrev pub place_before : ℕ → Option ℕ
place_before zero = None
place_before (suc p) = Some p

-- the parent's place in a record's number
abbrev pub parent_by : ℕ → Option ℕ
parent_by n = place_before (n / 4)

-- a state by its discriminant
abbrev pub state_at : ℕ → State
state_at zero = Live
state_at (suc zero) = Committed
state_at (suc (suc _)) = Aborted

-- the transaction's state in a record's number
abbrev pub state_by : ℕ → State
state_by n = state_at (n % 4)

-- the parent's place, if there is a record
abbrev pub parent_from : Option ℕ → Option ℕ
parent_from None = None
parent_from (Some n) = parent_by n

-- the state, if there is a record
abbrev pub state_from : Option ℕ → Option State
state_from None = None
state_from (Some n) = Some (state_by n)

-- the depth, or 0
abbrev pub depth_from : Option LiveRecord → ℕ
depth_from None = 0
depth_from (Some r) = r.depth

-- the number of live children, or 0
abbrev pub children_from : Option LiveRecord → ℕ
children_from None = 0
children_from (Some r) = r.children

-- the youngest live child, if there is a record and a child
abbrev pub youngest_from : Option LiveRecord → Option ℕ
youngest_from None = None
youngest_from (Some r) = r.youngest

-- the next older live sibling, if there is a record and a sibling
abbrev pub older_from : Option LiveRecord → Option ℕ
older_from None = None
older_from (Some r) = r.older

-- the next younger live sibling, if there is a record and a sibling
abbrev pub younger_from : Option LiveRecord → Option ℕ
younger_from None = None
younger_from (Some r) = r.younger

-- the youngest live one under a parent, or at the top level
abbrev pub youngest_by : Option ℕ → LiveRecords → Option ℕ → Option ℕ
youngest_by top live None = top
youngest_by top live (Some p) = youngest_from (finite.get live p)

-- the links that these records represent, with the youngest at the top level
abbrev pub links_by : Option ℕ → List ℕ → LiveRecords → Links
links_by top rs live = record {
  count = length rs;
  parent = λ i. parent_from (slice_get rs i);
  state = λ i. state_from (slice_get rs i);
  kept = λ i. is_some (finite.get live i);
  depth = λ i. depth_from (finite.get live i);
  children = λ i. children_from (finite.get live i);
  youngest = youngest_by top live;
  older = λ i. older_from (finite.get live i);
  younger = λ i. younger_from (finite.get live i);
}

-- the links that the records of a forest represent
abbrev pub links_of : Records → Links
links_of r = links_by r.youngest r.list.items r.live

-- the links of no transaction
abbrev pub no_links : Links
no_links = record {
  count = 0;
  parent = λ _. None;
  state = λ _. None;
  kept = λ _. false;
  depth = λ _. 0;
  children = λ _. 0;
  youngest = λ _. None;
  older = λ _. None;
  younger = λ _. None;
}

-- f with a new value for the children of a transaction, or for the top level
abbrev pub put_youngest : (Option ℕ → Option ℕ) → Option ℕ → Option ℕ → Option ℕ → Option ℕ
put_youngest f None new None = new
put_youngest f None new (Some q) = f (Some q)
put_youngest f (Some p) new None = f None
put_youngest f (Some p) new (Some q) = put (λ x. f (Some x)) p new q

-- f changed at a transaction, if there is one
abbrev pub put_at : {A : Type 0} → (ℕ → A) → Option ℕ → (A → A) → ℕ → A
put_at f None g = f
put_at f (Some p) g = put f p (g (f p))

-- the first value if there is something, else the second
abbrev pub where_some : {A B : Type 0} → Option A → B → B → B
where_some None some none = none
where_some (Some x) some none = some

-- the siblings on both sides of a gap are linked to each other
abbrev pub with_gap_closed : Links → Option ℕ → Option ℕ → Links
with_gap_closed s older younger = record s {
  older = put_at s.older younger (λ _. older);
  younger = put_at s.younger older (λ _. younger);
}

-- a parent has one more live child, which is its youngest
abbrev pub with_child : Links → Option ℕ → ℕ → Links
with_child s parent child = record s {
  children = put_at s.children parent (λ n. n + 1);
  youngest = put_youngest s.youngest parent (Some child);
}

-- a parent has one live child less, which was its youngest and had this next older sibling
abbrev pub without_youngest : Links → Option ℕ → Option ℕ → Links
without_youngest s parent older = record s {
  children = put_at s.children parent (λ n. n - 1);
  youngest = put_youngest s.youngest parent older;
}

-- a parent has one live child less, which had these siblings; if there is no younger one, the older
-- one is its youngest
abbrev pub without_child : Links → Option ℕ → Option ℕ → Option ℕ → Links
without_child s parent older younger = record s {
  children = put_at s.children parent (λ n. n - 1);
  youngest = where_some younger s.youngest (put_youngest s.youngest parent older);
}

-- the siblings on both sides of a gap are linked to each other; if there is no younger one, the
-- older one is the youngest of the parent
abbrev pub closed_links : Links → Option ℕ → Option ℕ → Option ℕ → Links
closed_links s parent older younger = record s {
  youngest = where_some younger s.youngest (put_youngest s.youngest parent older);
  older = put_at s.older younger (λ _. older);
  younger = put_at s.younger older (λ _. younger);
}

-- for the transaction at x, only what an ended transaction has is kept
abbrev pub forgotten_links : Links → ℕ → Links
forgotten_links s x = record s {
  kept = put s.kept x false;
  depth = put s.depth x 0;
  children = put s.children x 0;
  youngest = put_youngest s.youngest (Some x) None;
  older = put s.older x None;
  younger = put s.younger x None;
}

-- the transaction at x ends
abbrev pub ended_links : Links → ℕ → State → Links
ended_links s x state = forgotten_links (closed_links (record s {
  state = put s.state x (Some state);
  children = put_at s.children (s.parent x) (λ n. n - 1);
}) (s.parent x) (s.older x) (s.younger x)) x

-- a live transaction is added after all others
abbrev pub begun_links : Links → Option ℕ → ℕ → Links
begun_links s parent depth = record {
  count = s.count + 1;
  parent = put s.parent s.count parent;
  state = put s.state s.count (Some Live);
  kept = put s.kept s.count true;
  depth = put s.depth s.count depth;
  children = put_at (put s.children s.count 0) parent (λ n. n + 1);
  youngest = put_youngest (put_youngest s.youngest (Some s.count) None) parent (Some s.count);
  older = put s.older s.count (s.youngest parent);
  younger = put_at (put s.younger s.count None) (s.youngest parent) (λ _. Some s.count);
}

-- i is live, and a child of p; without p, it is live at the top level
pub record IsSibling (s : Links) (p : Option ℕ) (i : ℕ) : Type 0 where
  pub parent : s.parent i ≡ p
  pub live : s.state i ≡ Some Live

-- the youngest live one under a parent, if there is one
abbrev pub IsYoungest : Links → Option ℕ → Option ℕ → Type 0
IsYoungest s p None = (x : ℕ) → IsSibling s p x → ⊥
IsYoungest s p (Some y) = IsSibling s p y × ((x : ℕ) → IsSibling s p x → x ≤ y)

-- the youngest of i's live siblings that are older, if there is one
abbrev pub IsOlder : Links → Option ℕ → ℕ → Option ℕ → Type 0
IsOlder s p i None = (x : ℕ) → IsSibling s p x → i ≤ x
IsOlder s p i (Some y) = IsSibling s p y × (y < i) × ((x : ℕ) → IsSibling s p x → (x ≤ y) ⊎ (i ≤ x))

-- the oldest of i's live siblings that are younger, if there is one
abbrev pub IsYounger : Links → Option ℕ → ℕ → Option ℕ → Type 0
IsYounger s p i None = (x : ℕ) → IsSibling s p x → x ≤ i
IsYounger s p i (Some y) = IsSibling s p y × (i < y) × ((x : ℕ) → IsSibling s p x → (x ≤ i) ⊎ (y ≤ x))

-- i is a live child of p
abbrev pub is_child_at : Links → ℕ → ℕ → Bool
is_child_at s p i = is_some_and (s.parent i) (λ q. q == p) && is_live (s.state i)

-- one deeper than its parent, or 1 at the top level
abbrev pub DepthIs : Links → Option ℕ → ℕ → Type 0
DepthIs s None d = d ≡ 1
DepthIs s (Some p) d = d ≡ s.depth p + 1

-- The links have the live siblings in order and the depth of each live transaction. For an ended
-- transaction, only the parent and the state are kept.
pub record AreLinked (s : Links) : Type 0 where
  pub begun : (i : ℕ) → i < s.count → IsSome (s.state i)
  pub unbegun : (i : ℕ) → s.count ≤ i → s.state i ≡ None
  pub kept : (i : ℕ) → s.kept i ≡ is_live (s.state i)
  pub lower : (i p : ℕ) → s.parent i ≡ Some p → p < i
  pub live_parent : (i p : ℕ) → s.state i ≡ Some Live → s.parent i ≡ Some p → s.state p ≡ Some Live
  pub youngest : (p : Option ℕ) → IsYoungest s p (s.youngest p)
  pub older : (i : ℕ) → s.state i ≡ Some Live → IsOlder s (s.parent i) i (s.older i)
  pub younger : (i : ℕ) → s.state i ≡ Some Live → IsYounger s (s.parent i) i (s.younger i)
  pub children : (p : ℕ) → s.children p ≡ count_below (is_child_at s p) s.count
  pub depth : (i : ℕ) → s.state i ≡ Some Live → DepthIs s (s.parent i) (s.depth i)

-- the number of the transaction at a place
abbrev pub number_at : ℕ → ℕ → ℕ
number_at base i = base + 1 + i

-- what callers see of a record's number
abbrev pub transaction_from : ℕ → ℕ → Transaction
transaction_from base n = record { parent = option_map (number_at base) (parent_by n); state = state_by n }

-- the transactions that the records represent
abbrev pub transactions_of : ForestLimits → ℕ → Records → Transactions
transactions_of limits base r = record { limits = limits; base = base; list = map (transaction_from base) r.list.items }

-- the invariant of a forest's records: they are linked, and within the limits, which are allowed
pub record AreRecords (limits : ForestLimits) (base : ℕ) (r : Records) : Type 0 where
  pub linked : AreLinked (links_of r)
  pub few : length r.list.items ≤ limits.transactions
  pub sound : limits.transactions ≤ MOST_TRANSACTIONS
  pub numbers : (i : ℕ) → i < length r.list.items → number_at base i ≤ LAST_NUMBER
