-- The path of a line of bytes that carries a file is of bytes, none of them null.
use Rattle.std.proofs.Common.{◌≡◌, ℕ, ◌-◌, ◌<◌, Bool, true, false, cond, List, [], ◌∷◌, length, take, Option, None, Some, IfSome, refl, subst}
use Rattle.std.proofs.lemmas.List.Elements.{All-cons, All-head, All-nil, All-tail, All-take}
use Rattle.std.specs.Prelude.{◌==◌, codes, option_and_then, option_map}
use Rattle.std.specs.List.{AllByRecursion, onto_first}
use Rattle.std.specs.Str.{bytes_eq}
use Rattle.std.specs.Str.Lines.{strip_carriage_return}
use Rattle.percent_encoding.specs.Percent.{percent_decode}
use Rattle.percent_encoding.proofs.PercentLemmas.{All-percent_decode}
use Rattle.ft_path.specs.Name.{IsNulFree, has_nul}
use Rattle.ft_words.specs.Calls.{both, look_up, only}
use Rattle.ft_words.specs.Spelling.{parse_path, words_of}
use Rattle.ft_transfer.specs.declared.transfer.Direction.{Direction}
use Rattle.ft_transfer.specs.Words.{direction_words, parse_file}
use Rattle.ft_plan_files.specs.declared.file_line.FileLine.{FileLine}
use Rattle.ft_plan_files.specs.FileLines.{carried, file_line, file_line_of, tried_line}
use Rattle.ft_plan_files.specs.Laws.{AreBytes}
use Rattle.ft_plan_files.proofs.Cutting.{cut}

-- ---- the parts of bytes are bytes

abbrev IsByte : ℕ → Type 0
IsByte b = b < 256

onto_bytes : (x : ℕ) (texts : List (List ℕ)) → IsByte x → AllByRecursion AreBytes texts → AllByRecursion AreBytes (onto_first x texts)
onto_bytes x [] byte all = (All-cons IsByte x [] byte (All-nil IsByte), tt)
onto_bytes x (text ∷ texts) byte all = (All-cons IsByte x text byte all.0, all.1)

pub parts_bytes : (byte : ℕ) (text : List ℕ) → AreBytes text → AllByRecursion AreBytes (cut byte text)
parts_bytes byte [] bytes = (bytes, tt)
parts_bytes byte (x ∷ xs) bytes = either (x == byte) (parts_bytes byte xs (All-tail IsByte x xs bytes))
  where
    either : (b : Bool) → AllByRecursion AreBytes (cut byte xs) → AllByRecursion AreBytes (cond b ([] ∷ cut byte xs) (onto_first x (cut byte xs)))
    either true all = (All-nil IsByte, all)
    either false all = onto_bytes x (cut byte xs) (All-head IsByte x xs bytes) all

stripped_bytes : (line : List ℕ) → AreBytes line → AreBytes (strip_carriage_return line)
stripped_bytes line bytes = either _
  where
    either : (b : Bool) → AreBytes (cond b (take (length line - 1) line) line)
    either true = All-take IsByte (length line - 1) line bytes
    either false = bytes

-- ---- the words of a line

abbrev IsBytePath : FileLine → Type 0
IsBytePath line = AreBytes line.path × IsNulFree line.path

made : (tried : Bool) (direction : Direction) (names : Option (List ℕ × List ℕ)) → IfSome names (λ found. AreBytes found.0 × IsNulFree found.0) → IfSome (option_map {U = FileLine} (λ found. record { tried = tried; direction = direction; path = found.0; file = found.1 }) names) IsBytePath
made tried direction None h = tt
made tried direction (Some names) h = h

names_are : (words : List (List ℕ)) → AllByRecursion AreBytes words → IfSome (both parse_path (only parse_file) words) (λ found. AreBytes found.0 × IsNulFree found.0)
names_are [] bytes = tt
names_are (word ∷ words) bytes = either (has_nul (percent_decode word)) refl (only parse_file words)
  where
    either : (b : Bool) → has_nul (percent_decode word) ≡ b → (file : Option (List ℕ)) → IfSome {T = List ℕ × List ℕ} (option_and_then {U = List ℕ × List ℕ} (λ path. option_map {U = List ℕ × List ℕ} (λ f. (path, f)) file) (cond {A = Option (List ℕ)} b None (Some (percent_decode word)))) (λ found. AreBytes found.0 × IsNulFree found.0)
    either true is file = tt
    either false is None = tt
    either false is (Some file) = (All-percent_decode word bytes.0, is)

carried_path : (tried : Bool) (word : List ℕ) (words : List (List ℕ)) → AllByRecursion AreBytes words → IfSome (carried tried word words) IsBytePath
carried_path tried word words bytes = either (look_up direction_words word)
  where
    either : (o : Option Direction) → IfSome (option_and_then (λ direction. option_map {U = FileLine} (λ names. record { tried = tried; direction = direction; path = names.0; file = names.1 }) (both parse_path (only parse_file) words)) o) IsBytePath
    either None = tt
    either (Some direction) = made tried direction (both parse_path (only parse_file) words) (names_are words bytes)

tried_path : (words : List (List ℕ)) → AllByRecursion AreBytes words → IfSome (tried_line words) IsBytePath
tried_path [] bytes = tt
tried_path (word ∷ words) bytes = carried_path true word words bytes.1

words_path : (words : List (List ℕ)) → AllByRecursion AreBytes words → IfSome (file_line words) IsBytePath
words_path [] bytes = tt
words_path (word ∷ words) bytes = either (bytes_eq word (codes "try"))
  where
    either : (b : Bool) → IfSome (cond b (tried_line words) (carried false word words)) IsBytePath
    either true = tried_path words bytes.1
    either false = carried_path false word words bytes.1

pub path_is : (line : List ℕ) (carrying : FileLine) → AreBytes line → file_line_of line ≡ Some carrying → AreBytes carrying.path × IsNulFree carrying.path
path_is line carrying bytes is =
    subst (λ (o : Option FileLine). IfSome o IsBytePath) is (words_path (words_of (strip_carriage_return line)) (parts_bytes 32 (strip_carriage_return line) (stripped_bytes line bytes)))
