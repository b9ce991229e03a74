-- Which words are names of jobs.
use Rattle.std.proofs.Common.{◌≡◌, ℕ, zero, suc, ◌<◌, ◌≤◌, Bool, true, false, cond, ◌&&◌, List, [], ◌∷◌, length, Some, None, refl, sym, ap, ◌∙◌, ⊎_elim, arith, IsUtf8}
use Rattle.std.proofs.lemmas.Bool.{false≢true, cases_lt}
use Rattle.std.proofs.lemmas.Bool.Decides.{nat_tests}
use Rattle.std.proofs.lemmas.Str.{IsUtf8-from_ascii}
use Rattle.std.specs.List.{list_all}
use Rattle.std.specs.Str.{IsAscii}
use Rattle.ft_plan.specs.Lines.{is_name_byte, is_job_name, job_name_of}

both_true : (a b : Bool) → (a && b) ≡ true → (a ≡ true) × (b ≡ true)
both_true true b h = (refl, h)
both_true false b h = absurd (false≢true h)

high : (b : ℕ) → 128 ≤ b → is_name_byte b ≡ false
high b h = grind (arith, nat_tests)

low : (b : ℕ) → is_name_byte b ≡ true → b < 128
low b h = ⊎_elim (λ k. k) (λ k. absurd (false≢true (sym (high b k) ∙ h))) (cases_lt b 128)

ascii : (word : List ℕ) → list_all is_name_byte word ≡ true → IsAscii word
ascii [] h i = omega arith
ascii (b ∷ bs) h zero = low b (both_true (is_name_byte b) _ h).0
ascii (b ∷ bs) h (suc i) = ascii bs (both_true (is_name_byte b) _ h).1 i

pub is_text : (word : List ℕ) → list_all is_name_byte word ≡ true → IsUtf8 word
is_text word h = IsUtf8-from_ascii word (ascii word h)

pub is_name : (word : List ℕ) → 0 < length word → length word ≤ 32 → list_all is_name_byte word ≡ true → job_name_of word ≡ Some word
is_name word some short bytes =
    let is : is_job_name word ≡ true = grind (arith, nat_tests) in
    ap (λ c. cond c (Some word) None) is
