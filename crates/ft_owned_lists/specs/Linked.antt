-- How chains of nodes are kept in a slab. No caller needs to know this: `OwnedLists` keeps it true
-- of its fields.
use Rattle.std.specs.Prelude.{◌≡◌, ◌⊎◌, ℕ, zero, suc, List, [], ◌∷◌, length, map, Option, Some, None}
use Rattle.std.specs.Option.{unwrap_or}
use Rattle.std.specs.Ordering.{nat_cmp}
use Rattle.std.specs.FinMap as finite
use Rattle.slab.specs.Slab.{Slab, get}
use Rattle.ft_owned_lists.specs.OwnedLists.{Lists}
use Rattle.ft_owned_lists.specs.declared.node.Node.{Node}
use Rattle.ft_owned_lists.specs.declared.node.Ends.{Ends}

-- for each open owner, the first and the last node of its chain, if it has nodes
abbrev pub AllEnds : Type 0
AllEnds = finite.FinMap nat_cmp (Option Ends)

-- the key of the first node, if there is one
abbrev pub first_of : Option Ends → Option ℕ
first_of None = None
first_of (Some e) = Some e.first

-- the key of the last node, or k if there is none
abbrev pub last_or : ℕ → Option Ends → ℕ
last_or k None = k
last_or k (Some e) = e.last

-- the ends with another first node, which is also the last if there was no node
abbrev pub with_front : ℕ → Option Ends → Option Ends
with_front k e = Some (record { first = k; last = last_or k e })

-- the ends from a node on
abbrev pub ends_from : Option ℕ → ℕ → Option Ends
ends_from None last = None
ends_from (Some k) last = Some (record { first = k; last = last })

-- the ends of one chain in front of another
abbrev pub joined_ends : Ends → Option Ends → Option Ends
joined_ends front e = Some (record { first = front.first; last = last_or front.last e })

-- the ends of an owner's chain: none if it has no node, or if the owner is not open
abbrev pub ends_in : AllEnds → ℕ → Option Ends
ends_in ends owner = unwrap_or (finite.get ends owner) None

module _ {T : Type 0} where
  -- a node with this value, which leads to this key
  abbrev pub node : T → Option ℕ → Node T
  node x next = record { value = x; next = next }

  -- the node, leading to another key
  abbrev pub with_next : Option ℕ → Node T → Node T
  with_next next n = record n { next = next }

  -- the value of the node, and what comes after it
  abbrev pub then_on : (Option ℕ → List T) → Option (Node T) → List T
  then_on more None = []
  then_on more (Some n) = n.value ∷ more n.next

  -- the values from a key on, at most as many as the number allows
  abbrev pub walk : (ℕ → Option (Node T)) → ℕ → Option ℕ → List T
  walk at zero key = []
  walk at (suc n) None = []
  walk at (suc n) (Some key) = then_on (walk at n) (at key)

  -- the list of each owner, walked from the first node of its chain
  abbrev pub walked : (ℕ → Option (Node T)) → ℕ → List (ℕ × Option Ends) → List (ℕ × List T)
  walked at n = map (λ e. (e.0, walk at n (first_of e.1)))

  -- the lists that the chains make
  abbrev pub lists_of : Slab (Node T) → AllEnds → Lists T
  lists_of s ends = finite.from_entries (walked (get s) (length s.slots) (finite.entries ends))

  -- the key of the first of these nodes
  abbrev pub head_key : List (ℕ × T) → Option ℕ
  head_key [] = None
  head_key (p ∷ ps) = Some p.0

  -- the key of the last of these nodes, or k if there is none
  abbrev pub last_key : ℕ → List (ℕ × T) → ℕ
  last_key k [] = k
  last_key k (p ∷ ps) = last_key p.0 ps

  -- the ends of a chain of these nodes
  abbrev pub ends_of : List (ℕ × T) → Option Ends
  ends_of [] = None
  ends_of (p ∷ ps) = Some (record { first = p.0; last = last_key p.0 ps })

  -- each of these nodes is at its key, and leads to the next
  abbrev pub Linked : (ℕ → Option (Node T)) → List (ℕ × T) → Type 0
  Linked at [] = Unit {0}
  Linked at (p ∷ ps) = (at p.0 ≡ Some (node p.1 (head_key ps))) × Linked at ps

  -- one of these nodes has this key
  abbrev pub HasKey : List (ℕ × T) → ℕ → Type 0
  HasKey [] k = ⊥
  HasKey (p ∷ ps) k = (k ≡ p.0) ⊎ HasKey ps k

  -- no key occurs twice
  abbrev pub Single : List (ℕ × T) → Type 0
  Single [] = Unit {0}
  Single (p ∷ ps) = (HasKey ps p.0 → ⊥) × Single ps

  -- each owner's nodes are linked from its first to its last, and no node belongs to two owners
  pub record AreChainedBy (at : ℕ → Option (Node T)) (ends : AllEnds) (chain : ℕ → List (ℕ × T)) : Type 0 where
    pub linked : (u : ℕ) → Linked at (chain u)
    pub ended : (u : ℕ) → ends_in ends u ≡ ends_of (chain u)
    pub single : (u : ℕ) → Single (chain u)
    pub apart : (u v k : ℕ) → HasKey (chain u) k → HasKey (chain v) k → u ≡ v

  -- the nodes and the ends are those of some chains
  abbrev pub AreChained : (ℕ → Option (Node T)) → AllEnds → Type 0
  AreChained at ends = (chain : ℕ → List (ℕ × T)) × AreChainedBy at ends chain

  -- from this key on, there are nodes that lead to each other, each once
  abbrev pub LeadsOn : (ℕ → Option (Node T)) → Option ℕ → Type 0
  LeadsOn at key = (ps : List (ℕ × T)) × (key ≡ head_key ps) × Linked at ps × Single ps
