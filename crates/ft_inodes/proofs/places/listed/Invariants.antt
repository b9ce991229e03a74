use Rattle.std.proofs.Common.{◌≡◌, length, take, vec_len, vec_capacity}
use Rattle.ft_inodes.specs.Named.{shown, pairs_in}
use Rattle.ft_inodes.proofs.places.listed.Given as goal

-- the places so far, with room for all
abbrev pub invariant-loop-place : goal.invariant-loop-place
invariant-loop-place l = record {
  room : vec_capacity l.listed ≡ length l.places;
  count : vec_len l.listed ≡ l.place-index;
  same : shown l.listed.items ≡ pairs_in (take l.place-index l.places);
}
