-- One step of a replay.
use Rattle.std.proofs.Common.{◌≡◌, ◌≢◌, ◌<◌, ℕ, suc, ◌+◌, List, [], ◌∷◌, ◌++◌, length, drop, get_or, sym, ap, ◌∙◌, subst, arith, append_assoc, drop-cons}
use Rattle.ft_laws.specs.Lists.{Each, Pairs}
use Rattle.ft_laws.proofs.Lists.{Each-both}
use Rattle.ft_cells.specs.Cells.{Cells}
use Rattle.ft_cells.specs.Plain.{PlainTree}
use Rattle.ft_tree.specs.Sound.{AreSoundCells, IsFree}
use Rattle.ft_tree.specs.Tidy.{tidy}
use Rattle.ft_posix.specs.declared.call.Reply.{Reply}
use Rattle.ft_posix.specs.declared.stamped.StampedCall.{StampedCall}
use Rattle.ft_posix.specs.Exec.{exec}
use Rattle.ft_view.specs.Replay.{replayed, replies_of}

-- what is left of a list begins with the element that comes next
pub left_at : (xs : List StampedCall) (i : ℕ) (x : StampedCall) → i < length xs → x ≡ get_or xs i x → drop i xs ≡ x ∷ drop (i + 1) xs
left_at xs i x less is =
    let next : suc i ≡ i + 1 = omega arith in
    subst (λ (j : ℕ). drop i xs ≡ x ∷ drop j xs) next (drop-cons xs i x less ∙ ap (λ (y : StampedCall). y ∷ drop (suc i) xs) (sym is))

-- What is true between two calls of a replay, of which these are left, and these replies were
-- given.
pub record IsReplaying (base : PlainTree) (calls : List StampedCall) (cells : Cells) (left : List StampedCall) (replies : List Reply) : Type 0 where
  pub sound : AreSoundCells cells
  pub free : Each (λ call. IsFree cells call.stamp) left
  pub distinct : Pairs (λ before after. before.stamp ≢ after.stamp) left
  pub tree : replayed (tidy cells) left ≡ replayed base calls
  pub told : replies ++ replies_of (tidy cells) left ≡ replies_of base calls

pub next_free : (base : PlainTree) (calls : List StampedCall) (cells : Cells) (i : ℕ) (replies : List Reply) (c : StampedCall) → IsReplaying base calls cells (drop i calls) replies → drop i calls ≡ c ∷ drop (i + 1) calls → IsFree cells c.stamp
next_free base calls cells i replies c kept is = (subst (λ (left : List StampedCall). Each (λ call. IsFree cells call.stamp) left) is kept.free).0

pub stepped : (base : PlainTree) (calls : List StampedCall) (old new : Cells) (left more : List StampedCall) (replies : List Reply) (c : StampedCall) (reply : Reply) → IsReplaying base calls old left replies → left ≡ c ∷ more
    → AreSoundCells new → ((k : ℕ) → IsFree old k → k ≢ c.stamp → IsFree new k) → exec (tidy old) c.stamp c.call ≡ (tidy new, reply) → IsReplaying base calls new more (replies ++ reply ∷ [])
stepped base calls old new left more replies c reply kept is sound free plain =
    let now : IsReplaying base calls old (c ∷ more) replies = subst (λ (left : List StampedCall). IsReplaying base calls old left replies) is kept in
    let later = Each-both (λ (call : StampedCall). IsFree old call.stamp) (λ (call : StampedCall). c.stamp ≢ call.stamp) (λ (call : StampedCall). IsFree new call.stamp) (λ call was apart. free call.stamp was (λ e. apart (sym e))) more now.free.1 now.distinct.0 in
    record {
      sound = sound;
      free = later;
      distinct = now.distinct.1;
      tree = sym (ap (λ p. replayed p.0 more) plain) ∙ now.tree;
      told = append_assoc replies (reply ∷ []) (replies_of (tidy new) more) ∙ (sym (ap (λ p. replies ++ p.1 ∷ replies_of p.0 more) plain) ∙ now.told);
    }
