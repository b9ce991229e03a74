-- When two files are one.
use Rattle.std.proofs.Common.{◌≡◌, ◌==◌, ◌&&◌, ℕ, Bool, true, false, refl, arith}
use Rattle.std.proofs.lemmas.Bool.Decides.{nat_tests}
use Rattle.ft_copy.specs.declared.found.FileId.{FileId}
use Rattle.ft_copy.specs.Told.{same_file}

is_same : (i j : ℕ) → (i == j) ≡ true → i ≡ j
is_same i j e = grind (arith, nat_tests)

both_left : (a b : Bool) → (a && b) ≡ true → a ≡ true
both_left true b h = refl
both_left false b h = h

both_right : (a b : Bool) → (a && b) ≡ true → b ≡ true
both_right true b h = h
both_right false true h = refl
both_right false false h = h

-- they are told apart by their device and their number
pub is_one : (one other : FileId) → same_file one other ≡ true → one ≡ other
is_one one other h =
    let device = is_same one.device other.device (both_left (one.device == other.device) (one.number == other.number) h) in
    let number = is_same one.number other.number (both_right (one.device == other.device) (one.number == other.number) h) in
    λ i. record { device = device i; number = number i }
