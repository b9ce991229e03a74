-- The bytes of a symbolic link that is made.
use Rattle.std.proofs.Common.{◌≡◌, ◌≤◌, ◌+◌, ℕ, List, [], ◌∷◌, ◌++◌, length, refl, ap, ◌∙◌}
use Rattle.std.proofs.Math.Seq.{drop-nil}
use Rattle.std.proofs.lemmas.List.{append-nil, take_all}
use Rattle.ft_body.specs.declared.TheConstants.{LARGEST_SIZE}
use Rattle.ft_body.specs.Bytes.{fitting, written}

-- where nothing stands yet, bytes that are written are all there is
written-alone : (bytes : List ℕ) → written [] 0 bytes ≡ bytes
written-alone [] = refl
written-alone (first ∷ more) = ap (λ (rest : List ℕ). first ∷ (more ++ rest)) (drop-nil (0 + length (first ∷ more))) ∙ ap (λ (rest : List ℕ). first ∷ rest) (append-nil more)

-- a target, which is short, has room
pub written-new : (bytes : List ℕ) → length bytes ≤ LARGEST_SIZE → written [] 0 (fitting LARGEST_SIZE bytes 0) ≡ bytes
written-new bytes short = written-alone (fitting LARGEST_SIZE bytes 0) ∙ take_all LARGEST_SIZE bytes short
