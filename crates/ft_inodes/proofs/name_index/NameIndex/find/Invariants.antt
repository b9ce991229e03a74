use Rattle.std.proofs.Common.{◌≡◌, ◌≢◌, ◌⊎◌, ℕ, Some}
use Rattle.std.specs.Prelude.{slice_get}
use Rattle.std.specs.List.{Contains}
use Rattle.std.specs.FinMap.{get}
use Rattle.ft_inodes.specs.Named.{names_in, short_hash}
use Rattle.ft_inodes.proofs.name_index.NameIndex.find.Given as goal

-- the keys that are left are of the name's hash, and the others have other names
abbrev pub invariant-loop-key : goal.invariant-loop-key
invariant-loop-key l = record {
  right : (key : ℕ) → Contains l.key-iterator key → get l.self.keys key ≡ Some (short_hash l.self.seed l.name);
  others : (key : ℕ) → get l.self.keys key ≡ Some (short_hash l.self.seed l.name) → Contains l.key-iterator key ⊎ (slice_get (names_in l.places) key ≢ Some l.name);
}
