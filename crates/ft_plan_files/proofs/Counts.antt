-- How far jobs and steps are counted.
use Rattle.std.proofs.Common.{◌≡◌, ℕ, suc, ◌+◌, ◌≤◌, Bool, true, false, cond, List, [], ◌∷◌, ◌++◌, length, Option, Some, None, arith, sym, ap, ◌∙◌, append_assoc}
use Rattle.std.specs.Prelude.{◌==◌, codes}
use Rattle.std.specs.List.{onto_first}
use Rattle.std.specs.Option.{option_map_or}
use Rattle.std.specs.Str.Lines.{strip_carriage_return}
use Rattle.ft_words.specs.Spelling.{is_silent, lines_of, words_of}
use Rattle.ft_transfer.specs.declared.transfer.Direction.{Direction}
use Rattle.ft_transfer.specs.declared.transfer.Direction.TheVariants.{Put, Get}
use Rattle.ft_plan_names.specs.Numbers.{begins, is_step}
use Rattle.ft_plan_files.specs.declared.file_line.FileLine.{FileLine}
use Rattle.ft_plan_files.specs.declared.places.GetPlace.{GetPlace}
use Rattle.ft_plan_files.specs.FileLines.{file_line}
use Rattle.ft_plan_files.specs.Places.{Count, get_in, gets_in, line_count, plain_count, steps_to, words_count}

-- a text has no more lines than bytes
pub lines_few : (text : List ℕ) → length (lines_of text) ≤ length text
lines_few [] = omega arith
lines_few (b ∷ bs) = either (b == 10) (lines_of bs) (lines_few bs)
  where
    either : (c : Bool) (lines : List (List ℕ)) → length lines ≤ length bs → length (cond c ([] ∷ lines) (onto_first b lines)) ≤ suc (length bs)
    either true lines few = omega arith
    either false [] few = omega arith
    either false (line ∷ lines) few = omega arith

-- one count is not much above another
pub record IsNear (old new : Count) : Type 0 where
  pub jobs : new.0 ≤ old.0 + 1
  pub steps : new.1 ≤ old.1 + 4

steps_few : (direction : Direction) → steps_to direction ≤ 4
steps_few Put = omega arith
steps_few Get = omega arith

plain_near : (count : Count) (words : List (List ℕ)) → IsNear count (plain_count count words)
plain_near count words = either (begins (codes "job") words) (is_step words)
  where
    either : (job step : Bool) → IsNear count (cond job (suc count.0, 0) (count.0, count.1 + cond step 1 0))
    either true step = record { jobs = omega arith; steps = omega arith }
    either false true = record { jobs = omega arith; steps = omega arith }
    either false false = record { jobs = omega arith; steps = omega arith }

words_near : (count : Count) (words : List (List ℕ)) → IsNear count (words_count count words)
words_near count words = either (file_line words)
  where
    either : (o : Option FileLine) → IsNear count (option_map_or (λ (line : FileLine). (count.0, count.1 + steps_to line.direction)) o (plain_count count words))
    either None = plain_near count words
    either (Some line) = record { jobs = omega arith; steps = omega (arith, steps_few line.direction) }

-- a line begins one job at most, and stands for four steps at most
pub line_near : (count : Count) (line : List ℕ) → IsNear count (line_count count line)
line_near count line = either (is_silent (strip_carriage_return line))
  where
    either : (silent : Bool) → IsNear count (cond silent count (words_count count (words_of (strip_carriage_return line))))
    either true = record { jobs = omega arith; steps = omega arith }
    either false = words_near count (words_of (strip_carriage_return line))

-- the places of a line come before those of the lines after it
pub gets_next : (places more : List GetPlace) (old new : Count) (left lines : List (List ℕ)) (line : List ℕ) → left ≡ line ∷ lines → more ≡ places ++ get_in old line → new ≡ line_count old line → places ++ gets_in old left ≡ more ++ gets_in new lines
gets_next places more old new left lines line is put after =
    ap (λ ls. places ++ gets_in old ls) is
    ∙ sym (append_assoc places (get_in old line) (gets_in (line_count old line) lines))
    ∙ ap (λ m. m ++ gets_in (line_count old line) lines) (sym put)
    ∙ ap (λ (count : Count). more ++ gets_in count lines) (sym after)
