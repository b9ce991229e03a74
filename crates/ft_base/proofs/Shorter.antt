-- A list without its first value is shorter.
use Rattle.std.proofs.Common.{◌≡◌, List, ◌∷◌, length, ◌<◌, arith, ap}

pub shorter : {T : Type 0} (whole rest : List T) (x : T) → whole ≡ x ∷ rest → length rest < length whole
shorter whole rest x is = let e = ap (λ l. length l) is in omega (arith, e)
