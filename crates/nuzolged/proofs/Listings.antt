-- Bytes that are copied one behind the other.
use Rattle.std.proofs.Common.{◌≡◌, ◌≤◌, ◌<◌, ◌+◌, ◌^◌, ℕ, suc, List, [], ◌∷◌, ◌++◌, length, take, drop, min, refl, ap, sym, ◌∙◌, length-append, arith}
use Rattle.ft_session.specs.Buffers.{filled}
use Rattle.nuzolged.specs.Listing.{size_of}

-- where there is no room, nothing stands
nothing : (bytes : List ℕ) → filled bytes [] ≡ []
nothing [] = refl
nothing (x ∷ bytes) = refl

-- bytes that are copied behind those that have room stand behind them
pub behind : (a b buffer : List ℕ) → take (length a) (filled a buffer) ++ filled b (drop (length a) (filled a buffer)) ≡ filled (a ++ b) buffer
behind [] b [] = refl
behind [] b (y ∷ buffer) = refl
behind (x ∷ a) b [] = nothing b
behind (x ∷ a) b (y ∷ buffer) = ap (λ rest. x ∷ rest) (behind a b buffer)

-- where none has room any more, nothing is copied
pub full : (a b buffer : List ℕ) → length buffer ≤ length a → filled a buffer ≡ filled (a ++ b) buffer
full [] b [] h = sym (nothing b)
full [] b (y ∷ buffer) h = let none : ⊥ = omega (arith, h) in absurd none
full (x ∷ a) b [] h = refl
full (x ∷ a) b (y ∷ buffer) h = ap (λ rest. x ∷ rest) (full a b buffer (omega (arith, h)))

-- a buffer stays as long as it is
pub length_of : (bytes buffer : List ℕ) → length (filled bytes buffer) ≡ length buffer
length_of [] [] = refl
length_of [] (y ∷ buffer) = refl
length_of (x ∷ bytes) [] = refl
length_of (x ∷ bytes) (y ∷ buffer) = ap (λ n. suc n) (length_of bytes buffer)

-- how many bytes there are with those that come behind them
pub more : (at : ℕ) (a b : List ℕ) → at ≡ size_of a → min (at + length b) 18446744073709551615 ≡ size_of (a ++ b)
more at a b is = omega (arith, is, length-append a b)

-- bytes that are copied behind those that have room
pub copied : (at : ℕ) (done bytes buffer old : List ℕ) → at ≡ size_of done → old ≡ filled done buffer → at < length old → length old < 2 ^ 64
    → take at old ++ filled bytes (drop at old) ≡ filled (done ++ bytes) buffer
copied at done bytes buffer old is was less fits =
    let at_is : at ≡ length done = omega (arith, is, less, fits) in
    ap (λ o. take at o ++ filled bytes (drop at o)) was
    ∙ ap (λ n. take n (filled done buffer) ++ filled bytes (drop n (filled done buffer))) at_is
    ∙ behind done bytes buffer

-- bytes of which none has room
pub passed : (at : ℕ) (done bytes buffer old : List ℕ) → at ≡ size_of done → old ≡ filled done buffer → length old ≤ at → old ≡ filled (done ++ bytes) buffer
passed at done bytes buffer old is was none =
    let long : length old ≡ length buffer = ap length was ∙ length_of done buffer in
    was ∙ full done bytes buffer (omega (arith, is, long, none))
