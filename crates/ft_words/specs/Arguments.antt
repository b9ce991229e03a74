-- The words of a call, one after another: as they are read, and as they are printed. No public
-- clause cites it.
use Rattle.std.specs.Prelude.{ℕ, List, [], ◌∷◌, ◌++◌, codes, Option, None}
use Rattle.std.specs.Fmt.{decimal, signed_decimal}
use Rattle.ft_words.specs.declared.call_text.Argument.{Argument}
use Rattle.ft_words.specs.declared.call_text.Argument.TheVariants.{Absent, Number, Integer, Whence, Flags, Mode, Owner, Path, Last}
use Rattle.ft_words.specs.Texts.{coded, data_text}
use Rattle.ft_words.specs.Modes.{mode_text, owner_text}
use Rattle.ft_words.specs.CallTexts.{flags_text, whence_text}

-- the first of some words, as a reader of words reads it
abbrev pub first : {A : Type 0} → (List ℕ → Option A) → List (List ℕ) → Option A
first read [] = None
first read (word ∷ words) = read word

-- the words behind the first
abbrev pub others : List (List ℕ) → List (List ℕ)
others [] = []
others (word ∷ words) = words

-- an argument after a space; nothing where a call has no more, or where the last word is empty
abbrev pub argument_text : Argument → List ℕ
argument_text Absent = []
argument_text (Number number) = codes " " ++ decimal number
argument_text (Integer number) = codes " " ++ signed_decimal number
argument_text (Whence whence) = codes " " ++ whence_text whence
argument_text (Flags flags) = codes " " ++ flags_text flags
argument_text (Mode mode) = codes " " ++ mode_text mode
argument_text (Owner owner) = codes " " ++ owner_text owner
argument_text (Path path) = codes " " ++ coded path.now
argument_text (Last bytes) = data_text bytes.now
