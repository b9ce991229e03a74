-- How a script is cut into lines while it is read.
use Rattle.std.proofs.Common.{Bool, true, false, [], refl, if◌then◌else◌, ◌≡◌, ◌⊎◌, ℕ, ◌+◌, ◌-◌, ◌<◌, ◌≤◌, List, ◌∷◌, ◌++◌, length, take, drop, Result, Ok, Err, IsErr, IfErr, inl, inr, sym, ap, ◌∙◌, subst, append_assoc, length-append, arith}
use Rattle.std.specs.Result.{IsErrAnd}
use Rattle.std.proofs.lemmas.List.{drop-take, drop-drop, length-take, length-drop}
use Rattle.std.proofs.Math.Seq.{drop-append-add}
use Rattle.ft_script.specs.declared.playing.PlayFault.{PlayFault}
use Rattle.ft_script.specs.declared.playing.PlayFault.TheVariants.{Memory, TooLong}
use Rattle.ft_script.specs.declared.playing.TheConstants.{LONGEST_LINE}
use Rattle.ft_script.specs.Reading.{StopsCutting}
use Rattle.ft_words.specs.Spelling.{IsFreeOf}
use Rattle.ft_script.proofs.Cutting.{free-append}

-- a fault that is passed on, or what is made of it
pub passed_on : {T E : Type 0} (r : Result T E) (Q : E → Type 0) (fault : E) → IsErr r × IsErrAnd r (λ e. e ≡ fault) → Q fault → IfErr r Q
passed_on (Ok x) Q fault h q = tt
passed_on (Err e) Q fault h q = subst Q (sym h.1) q

-- what is left behind a line, by its places
pub behind_line : (xs piece behind : List ℕ) (s e : ℕ) → take (e - s) (drop s xs) ≡ piece ++ 10 ∷ behind → s ≤ e → e ≤ length xs → take (e - (e - length behind)) (drop (e - length behind) xs) ≡ behind
behind_line xs piece behind s e h ordered within =
    let k = length piece + 1 in
    let n = length behind in
    let whole : length (take (e - s) (drop s xs)) ≡ length (piece ++ 10 ∷ behind) = ap length h in
    let taken = length-take (e - s) (drop s xs) in
    let dropped = length-drop s xs in
    let parts = length-append piece (10 ∷ behind) in
    let count : e - s ≡ k + n = omega (arith, whole, taken, dropped, parts) in
    let place : e - n ≡ s + k = omega (arith, count) in
    let rest : e - (e - n) ≡ n = omega (arith, count) in
    subst (λ m. take (e - (e - n)) (drop m xs) ≡ behind) (sym place)
    (subst (λ m. take m (drop (s + k) xs) ≡ behind) (sym rest)
    (ap (take n) (sym (drop-drop k s xs)) ∙ sym (drop-take k n (drop s xs)) ∙ ap (λ m. drop k (take m (drop s xs))) (sym count) ∙ ap (drop k) h ∙ drop-append-add piece (10 ∷ behind) 1))

-- a line that has begun can't be lengthened
pub stops_lengthening : (fault : PlayFault) (begun piece behind : List ℕ) → IsFreeOf 10 begun → IsFreeOf 10 piece → (fault ≡ TooLong) ⊎ (fault ≡ Memory) → (fault ≡ TooLong → LONGEST_LINE < length begun + length piece) → StopsCutting fault (begun ++ (piece ++ behind))
stops_lengthening fault begun piece behind h k (inl is) long =
    subst (λ f. StopsCutting f (begun ++ (piece ++ behind))) (sym is)
    (begun ++ piece, behind, sym (append_assoc begun piece behind), free-append 10 begun piece h k, subst (λ n. LONGEST_LINE < n) (sym (length-append begun piece)) (long is))
stops_lengthening fault begun piece behind h k (inr is) long = subst (λ f. StopsCutting f (begun ++ (piece ++ behind))) (sym is) tt

-- a line that has begun has no line feed in it
pub free_begun : (cut : Bool) (line : List ℕ) → IsFreeOf 10 line → IsFreeOf 10 (if cut then [] else line)
free_begun true line h = refl
free_begun false line h = h
