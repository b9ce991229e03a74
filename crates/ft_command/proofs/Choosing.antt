-- What the kinds of an error say of the choice.
use Rattle.std.proofs.Common.{◌≡◌, ◌⊎◌, ◌∙◌, ℕ, Bool, true, false, List, [], Option, None, Some, Result, Ok, codes, inl, inr, refl, sym, ap, subst}
use Rattle.std.specs.Prelude.{option_map, Box}
use Rattle.std.specs.Str.Parse.{ParsesUnsigned, digits_value, without_leading_plus}
use Rattle.clap.specs.Matches.{ReadsOne}
use Rattle.clap.specs.declared.parser.matches.Found.{Found}
use Rattle.clap.proofs.WalkLemmas.{one_text-rows}
use Rattle.clap.specs.Words.{HasMatchesOf, IsAmong, Text, fault_of, is_simple, is_simple_and_free, one_of, one_text, rows_of, subcommand_name_of, subcommand_of, subcommand_rows, subcommand_rows_of}
use Rattle.std.specs.Box.{box_value}
use Rattle.clap.specs.declared.parser.matches.ArgMatches.{ArgMatches}
use Rattle.clap.specs.declared.parser.matches.ArgMatches.TheViews.{out-ArgMatches, out-SubCommand}
use Rattle.clap.specs.declared.parser.matches.SubCommand.{SubCommand}
use Rattle.clap.specs.declared.error.kind.ErrorKind.{ErrorKind}
use Rattle.clap.specs.declared.error.kind.ErrorKind.TheVariants.{OutOfMemory}
use Rattle.clap.proofs.OnLiterals.{clap_on_literals}
use Rattle.ft_command.specs.declared.choice.Choice.{Choice}
use Rattle.ft_command.specs.declared.choice.Choice.TheVariants.{Play, Dot, Load, Save, Jobs, Help, Usage, Fault}
use Rattle.ft_command.specs.CommandLine.{ChoiceOf, ErrorChoice, IsFlag, Met, ReadChoice, program}

pub is_free : is_simple_and_free program ≡ true
unfolding clap_on_literals
is_free = refl

is_plain : is_simple program ≡ true
unfolding clap_on_literals
is_plain = refl

pub choice_of_matches : (words : List Text) (m : ArgMatches) (choice : Choice) → fault_of program words ≡ [] → HasMatchesOf program words m → ReadChoice (subcommand_rows_of m) choice → ChoiceOf words choice
choice_of_matches words m choice free rows h = go choice (subst (λ met. ReadChoice met choice) (rows is_plain).1 h)
  where
    go : (choice : Choice) → ReadChoice (subcommand_of program words) choice → ChoiceOf words choice
    go (Play strict rule after limits) h = (free, h)
    go Dot h = (free, h)
    go (Load dir at skip check set_id quiet limits) h = (free, h)
    go (Save dir how limits) h = (free, h)
    go (Jobs file pace quiet rule after limits) h = (free, h)
    go (Help text) h = absurd h
    go (Usage text) h = inr (free, h)
    go Fault h = tt

pub choice_of_error : (words : List Text) (kind : ErrorKind) (choice : Choice) → (kind ≡ OutOfMemory) ⊎ IsAmong kind (fault_of program words) → ErrorChoice kind choice → ChoiceOf words choice
choice_of_error words kind (Play strict rule after limits) among h = absurd h
choice_of_error words kind Dot among h = absurd h
choice_of_error words kind (Load dir at skip check set_id quiet limits) among h = absurd h
choice_of_error words kind (Save dir how limits) among h = absurd h
choice_of_error words kind (Jobs file pace quiet rule after limits) among h = absurd h
choice_of_error words kind (Help text) (inl is) (inl help) = cc
choice_of_error words kind (Help text) (inl is) (inr version) = cc
choice_of_error words kind (Help text) (inr among) h = (kind, among, h)
choice_of_error words kind (Usage text) (inl is) h = absurd (h.1 is)
choice_of_error words kind (Usage text) (inr among) h = inl (kind, among, h.0)
choice_of_error words kind Fault among h = tt

-- ---- how often a call asks, and how many threads there are

-- the number that was read is that of the digits that were found
pub number_read : (name : Text) (E : Type 0) (G : List ℕ → Result ℕ E → Type 0) (f : Found) (read : Option ℕ) (number : ℕ)
    → ((text : List ℕ) (x : Result ℕ E) → G text x → ParsesUnsigned 64 10 text x)
    → (one_text f name ≡ None → read ≡ None) → ((text : List ℕ) → one_text f name ≡ Some text → ReadsOne G text read) → read ≡ Some number
    → (digits : Text) × (one_of name (rows_of f) ≡ Some digits) × (number ≡ digits_value 10 (without_leading_plus digits))
number_read name E G f read number only none some is = go (one_text f name) refl
  where
    go : (text : Option Text) → one_text f name ≡ text → (digits : Text) × (one_of name (rows_of f) ≡ Some digits) × (number ≡ digits_value 10 (without_leading_plus digits))
    go None found = let no = none found in cc
    go (Some text) found = (text, sym (one_text-rows f name) ∙ found, (only text (Ok number) (subst (ReadsOne G text) is (some text found))).1)

-- ---- flags

-- a flag is what was found of it
pub flag_read : (f : Found) (id : Text) (flag : Bool) → (one_text f id ≡ None → flag ≡ false) → (one_text f id ≡ Some (codes "true") → flag ≡ true) → (one_text f id ≡ Some (codes "false") → flag ≡ false)
    → IsFlag (one_of id (rows_of f)) flag
flag_read f id flag none stands falls = subst (λ (found : Option Text). IsFlag found flag) (one_text-rows f id) (go (one_text f id) refl)
  where
    go : (found : Option Text) → one_text f id ≡ found → IsFlag found flag
    go None is = none is
    go (Some text) is = ((λ (same : text ≡ codes "true"). stands (is ∙ ap Some same)), (λ (same : text ≡ codes "false"). falls (is ∙ ap Some same)))
