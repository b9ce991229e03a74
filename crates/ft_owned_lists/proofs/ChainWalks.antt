-- What a walk along the nodes of a list shows.
use Rattle.std.proofs.Common.{◌≡◌, ℕ, List, [], ◌∷◌, length, ◌<◌, arith, Option, Some, None, sym, ap, ◌∙◌}
use Rattle.std.specs.Prelude.{is_some}
use Rattle.std.specs.Option.{unwrap_or}
use Rattle.std.specs.FinMap as finite
use Rattle.std.proofs.lemmas.Bool.{false≢true}
use Rattle.slab.specs.Slab.{Slab, get}
use Rattle.ft_owned_lists.specs.declared.node.Node.{Node}
use Rattle.ft_owned_lists.specs.declared.node.Ends.{Ends}
use Rattle.ft_owned_lists.specs.OwnedLists.{Lists, list_in}
use Rattle.ft_owned_lists.specs.Linked.{AllEnds, first_of, node, walk, lists_of, head_key, Linked, Single, AreChained, LeadsOn}
use Rattle.ft_owned_lists.proofs.ChainShape.{values, first-ends, walk-linked, room, list-seen}

the-one : {A : Type 0} (a b : A) → Some a ≡ Some b → a ≡ b
the-one a b e = ap (λ o. unwrap_or o a) e

module _ {T : Type 0} where
  walked-all : (s : Slab (Node T)) (ps : List (ℕ × T)) → Linked (get s) ps → Single ps → walk (get s) (length s.slots) (head_key ps) ≡ values ps
  walked-all s ps linked single = walk-linked (get s) (length s.slots) ps linked (room s ps linked single)

  -- one value, and those after it
  pub walk-next : (s : Slab (Node T)) (at : Option ℕ) (key : ℕ) (n : Node T) → LeadsOn (get s) at → at ≡ Some key → get s key ≡ Some n
      → walk (get s) (length s.slots) at ≡ n.value ∷ walk (get s) (length s.slots) n.next
  walk-next s at key n h here there = by_nodes h.0 h.1 h.2 h.3
    where
      by_nodes : (ps : List (ℕ × T)) → at ≡ head_key ps → Linked (get s) ps → Single ps → walk (get s) (length s.slots) at ≡ n.value ∷ walk (get s) (length s.slots) n.next
      by_nodes [] e linked single = absurd (false≢true (ap is_some (sym e ∙ here)))
      by_nodes (p ∷ ps) e linked single =
          let same : node p.1 (head_key ps) ≡ n = the-one _ _ (sym linked.0 ∙ ap (get s) (the-one p.0 key (sym e ∙ here)) ∙ there) in
          ap (walk (get s) (length s.slots)) e ∙ walked-all s (p ∷ ps) linked single
          ∙ ap (λ xs. p.1 ∷ xs) (sym (walked-all s ps linked.1 single.1))
          ∙ ap (λ (m : Node T). m.value ∷ walk (get s) (length s.slots) m.next) same

  -- a walk from the first node of an owner shows its list
  pub walk-list : (s : Slab (Node T)) (ends : AllEnds) → (h : AreChained (get s) ends) → (m : Lists T) → lists_of s ends ≡ m → (u : ℕ) (o : Option (Option Ends)) → finite.get ends u ≡ o
      → (at : Option ℕ) → at ≡ first_of (unwrap_or o None) → walk (get s) (length s.slots) at ≡ list_in m u
  walk-list s ends h m is u o there at at_is =
      ap (walk (get s) (length s.slots)) (at_is ∙ ap first_of (ap (λ x. unwrap_or x None) (sym there) ∙ h.1.ended u) ∙ first-ends (h.0 u))
      ∙ walked-all s (h.0 u) (h.1.linked u) (h.1.single u) ∙ sym (list-seen s ends h.0 h.1 u) ∙ ap (λ n. list_in n u) is
