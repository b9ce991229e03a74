use Rattle.std.proofs.Common.{◌≡◌, ◌<◌, ◌≤◌, ◌++◌, ◌⊎◌, length, take}
use Rattle.ft_words.specs.declared.coding.TheConstants.{CODED_PIECE}
use Rattle.ft_words.specs.Texts.{coded}
use Rattle.ft_words.proofs.coding.put_coded.Given as goal

-- at the front is the text of the bytes so far, which are some once anything is put
abbrev pub invariant-loop-place : goal.invariant-loop-place
invariant-loop-place l = record {
  text : take l.end l.place ++ coded l.rest ≡ coded l.fn.bytes;
  within : l.end ≤ CODED_PIECE;
  fewer : (length l.rest < length l.fn.bytes) ⊎ ((l.end ≡ 0) × (length l.rest ≡ length l.fn.bytes));
}

abbrev pub decreases-loop-place : goal.decreases-loop-place
decreases-loop-place l = length l.rest
