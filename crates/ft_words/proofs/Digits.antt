-- What the digits of a word say of the number that it stands for: a word of digits of a radix, whose
-- number is below a limit.
use Rattle.std.proofs.Common.{◌≡◌, ℕ, ◌+◌, ◌*◌, ◌<◌, ◌≤◌, Bool, true, false, cond, ◌&&◌, List, [], ◌∷◌, length, drop, get_or, nat_lt, nat_le, Option, Some, None, refl, sym, ap, ◌∙◌, arith}
use Rattle.std.proofs.lemmas.Bool.Decides.{nat_tests}
use Rattle.std.proofs.lemmas.List.{at_drop_more, at_drop_all}
use Rattle.std.specs.Prelude.{◌==◌}
use Rattle.std.specs.Char.{digit_value}
use Rattle.std.specs.List.{list_all}
use Rattle.std.specs.Str.Parse.{digits_value, digits_value_after}

-- the digits behind a place go on with a number, and are digits where all of the word are
pub record GoesOn (radix limit : ℕ) (is_digit : ℕ → Bool) (word : List ℕ) (number place : ℕ) : Type 0 where
  pub value : digits_value_after radix number (drop place word) ≡ digits_value radix word
  pub digits : list_all is_digit (drop place word) ≡ list_all is_digit word
  pub small : number < limit

unread : (b : Bool) (n : ℕ) → b ≡ false → None ≡ cond b (Some n) None
unread b n h = ap (λ c. cond c (Some n) None) (sym h)

was_read : (b : Bool) (n m : ℕ) → b ≡ true → n ≡ m → Some m ≡ cond b (Some n) None
was_read b n m h e = ap Some (sym e) ∙ ap (λ c. cond c (Some n) None) (sym h)

some_was : (b : Bool) (m v : ℕ) → Some m ≡ cond b (Some v) None → (b ≡ true) × (m ≡ v)
some_was true m v e = (refl, cc)
some_was false m v e = cc

none_was : (b : Bool) (v : ℕ) → None ≡ cond b (Some v) None → b ≡ false
none_was true v e = cc
none_was false v e = refl

module _ (radix limit : ℕ) (is_digit : ℕ → Bool) (grows : (n : ℕ) → n ≤ n * radix) where
  -- the word has 1 to `most` digits, and its number is below the limit
  abbrev IsNumeral : ℕ → List ℕ → Bool
  IsNumeral most word = nat_lt 0 (length word) && nat_le (length word) most && list_all is_digit word && nat_lt (digits_value radix word) limit

  abbrev Reads : ℕ → List ℕ → Option ℕ
  Reads most word = cond (IsNumeral most word) (Some (digits_value radix word)) None

  -- the number with a digit behind it, where the byte is one
  abbrev with_digit : ℕ → ℕ → Option ℕ
  with_digit number byte = cond (is_digit byte && nat_lt (number * radix + digit_value byte) limit) (Some (number * radix + digit_value byte)) None

  -- more digits make no number smaller
  value_grows : (n : ℕ) (ds : List ℕ) → n ≤ digits_value_after radix n ds
  value_grows n [] = omega arith
  value_grows n (d ∷ ds) = let more = value_grows (n * radix + digit_value d) ds in omega (arith, more, grows n)

  not_number : (most : ℕ) (word rest : List ℕ) (number byte : ℕ) → digits_value_after radix (number * radix + digit_value byte) rest ≡ digits_value radix word → (is_digit byte && list_all is_digit rest) ≡ list_all is_digit word → (is_digit byte && nat_lt (number * radix + digit_value byte) limit) ≡ false → IsNumeral most word ≡ false
  not_number most word rest number byte value digits none =
      let more = value_grows (number * radix + digit_value byte) rest in
      grind (arith, nat_tests)

  pub starts : (word : List ℕ) → 0 < limit → GoesOn radix limit is_digit word 0 0
  starts word some = record { value = refl; digits = refl; small = some }

  pub steps : (word : List ℕ) (number place more : ℕ) → place < length word → Some more ≡ with_digit number (get_or word place 0) → GoesOn radix limit is_digit word number place → GoesOn radix limit is_digit word more (place + 1)
  steps word number place more below is so_far =
      let byte = get_or word place 0 in
      let was = some_was _ more (number * radix + digit_value byte) is in
      let digit : is_digit byte ≡ true = (let test = was.0 in grind (arith, nat_tests)) in
      let fits : number * radix + digit_value byte < limit = (let test = was.0 in grind (arith, nat_tests)) in
      record {
        value = ap (λ n. digits_value_after radix n (drop (place + 1) word)) was.1 ∙ sym (at_drop_more (digits_value_after radix number) word place 0 (omega arith)) ∙ so_far.value;
        digits = sym (ap (λ b. b && list_all is_digit (drop (place + 1) word)) digit) ∙ sym (at_drop_more (list_all is_digit) word place 0 (omega arith)) ∙ so_far.digits;
        small = omega (arith, was.1);
      }

  pub stops : (most : ℕ) (word : List ℕ) (number place : ℕ) → place < length word → None ≡ with_digit number (get_or word place 0) → GoesOn radix limit is_digit word number place → None ≡ Reads most word
  stops most word number place below none so_far =
      let value = sym (at_drop_more (digits_value_after radix number) word place 0 below) ∙ so_far.value in
      let digits = sym (at_drop_more (list_all is_digit) word place 0 below) ∙ so_far.digits in
      unread (IsNumeral most word) _ (not_number most word (drop (place + 1) word) number (get_or word place 0) value digits (none_was _ _ none))

  pub ends : (most : ℕ) (word : List ℕ) (number place : ℕ) → false ≡ (length word == 0) → length word ≤ most → length word ≤ place → GoesOn radix limit is_digit word number place → Some number ≡ Reads most word
  ends most word number place some short all so_far =
      let value : number ≡ digits_value radix word = sym (at_drop_all (digits_value_after radix number) word place all) ∙ so_far.value in
      let digits : true ≡ list_all is_digit word = sym (at_drop_all (list_all is_digit) word place all) ∙ so_far.digits in
      let small = so_far.small in
      was_read (IsNumeral most word) _ number (grind (arith, nat_tests)) (sym value)
