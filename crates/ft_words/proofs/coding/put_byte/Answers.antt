use Rattle.std.proofs.Common.{◌≡◌, ◌∙◌, ◌<◌, ◌++◌, ◌∷◌, [], ℕ, List, cond, length, take, drop, set, refl, sym, ap, arith}
use Rattle.std.proofs.lemmas.List.{length-take-le}
use Rattle.std.proofs.Math.Seq.{take-append_seam}
use Rattle.percent_encoding.specs.Percent.{percent_encode_byte}
use Rattle.ft_words.proofs.coding.put_byte.Goals as goal

put_first : (place : List ℕ) (byte : ℕ) → 0 < length place → take 1 (set place 0 byte) ≡ byte ∷ []
put_first [] byte some = absurd (omega arith)
put_first (x ∷ xs) byte some = refl

take-front : (n : ℕ) (front rest : List ℕ) → length front ≡ n → take n (front ++ rest) ≡ front
take-front n front rest long = ap (λ m. take m (front ++ rest)) (sym long) ∙ take-append_seam front rest

pub returns-then-not-is_coded-clause-text : goal.returns-then-not-is_coded-clause-text
returns-then-not-is_coded-clause-text c =
    put_first c.args.place.now c.args.byte (omega arith) ∙ ap (λ b. cond b (percent_encode_byte c.args.byte) (c.args.byte ∷ [])) (c.if-not-is_coded.ensures)

pub copy_from_slice-requires : goal.copy_from_slice-requires
unfolding percent_encode_byte
copy_from_slice-requires c =
    let three : length c.as_bytes.result.now ≡ 3 = ap length (c.as_bytes.ensures.value ∙ c.percent_encode_byte.ensures) in
    length-take-le 3 c.args.place.now (omega arith) ∙ sym three

pub returns-clause-text : goal.returns-clause-text
returns-clause-text c =
    let text = c.as_bytes.ensures.value ∙ c.percent_encode_byte.ensures in
    take-front 3 c.copy_from_slice.new.self (drop 3 c.args.place.now) (c.copy_from_slice.ensures.len ∙ length-take-le 3 c.args.place.now (omega arith))
    ∙ c.copy_from_slice.ensures.after ∙ text ∙ ap (λ b. cond b (percent_encode_byte c.args.byte) (c.args.byte ∷ [])) (c.if-not-is_coded.ensures)
