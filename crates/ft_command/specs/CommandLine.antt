-- The command line of the program, in the words of the crate `clap`, which reads it.
use Rattle.std.specs.Prelude.{◌≡◌, ◌≢◌, ◌≤◌, ◌⊎◌, ℕ, Bool, true, false, List, [], ◌∷◌, codes, Option, None, Some, option_map, string_bytes}
use Rattle.std.specs.Str.Parse.{digits_value, without_leading_plus}
use Rattle.clap.specs.Words.{App, IsAmong, Row, Rule, Text, fault_of, first_of, new_app, new_rule, one_of, subcommand_of, with_rule, with_subcommand}
use Rattle.clap.specs.declared.builder.action.ArgAction.TheVariants.{SetTrue}
use Rattle.clap.specs.declared.builder.command.Command.{Command}
use Rattle.clap.specs.declared.builder.command.Command.TheViews.{out-Command}
use Rattle.clap.specs.declared.builder.value_parser.ValueParser.TheVariants.{Unsigned}
use Rattle.clap.specs.declared.error.kind.ErrorKind.{ErrorKind}
use Rattle.clap.specs.declared.error.kind.ErrorKind.TheVariants.{DisplayHelp, DisplayVersion, OutOfMemory}
use Rattle.ft_lock_rules.specs.declared.rule.Rule.{Rule as LockRule}
use Rattle.ft_lock_rules.specs.Rules.{is_strict}
use Rattle.ft_command.specs.Limits.{HasBadLimit, TellsLimits, limited}
use Rattle.ft_command.specs.Places.{HasBadPlace, TellsPlace}
use Rattle.ft_command.specs.declared.limits.AskedLimits.{AskedLimits}
use Rattle.ft_command.specs.declared.choice.AskedPace.{AskedPace}
use Rattle.ft_command.specs.declared.choice.AskedSave.{AskedSave}
use Rattle.ft_command.specs.declared.choice.Choice.{Choice}
use Rattle.ft_command.specs.declared.choice.Choice.TheVariants.{Play, Dot, Load, Save, Jobs, Help, Usage, Fault}

-- the plan of `jobs` must be named
abbrev pub file_rule : Rule
file_rule = record (new_rule (codes "file")) { required = true; value_names = 1 }

-- how often a call asks at most: `--turns N`, from 1 to 1,000,000, and 10,000 if it is not named
abbrev pub turns_rule : Rule
turns_rule = record (new_rule (codes "turns")) { long = Some (codes "turns"); value_names = 1; parser = Some (Unsigned 1 1000000); defaults = codes "10000" ∷ [] }

-- how often a job is begun again at most: `--retries N`, from 0 to 1,000,000
abbrev pub retries_rule : Rule
retries_rule = record (new_rule (codes "retries")) { long = Some (codes "retries"); value_names = 1; parser = Some (Unsigned 0 1000000) }

-- how many threads run jobs at most: `--threads N`, from 1 to 4,096, and 64 if it is not named
abbrev pub threads_rule : Rule
threads_rule = record (new_rule (codes "threads")) { long = Some (codes "threads"); value_names = 1; parser = Some (Unsigned 1 4096); defaults = codes "64" ∷ [] }

-- `--quiet`: it is not to be shown how far it has come
abbrev pub quiet_rule : Rule
quiet_rule = record (new_rule (codes "quiet")) { long = Some (codes "quiet"); action = Some SetTrue }

-- `--moss`: a lock that an ancestor holds blocks too
abbrev pub moss_rule : Rule
moss_rule = record (new_rule (codes "moss")) { long = Some (codes "moss"); action = Some SetTrue }

-- a directory must be named
abbrev pub dir_rule : Rule
dir_rule = record (new_rule (codes "dir")) { required = true; value_names = 1 }

-- `--at PATH`: a script puts everything into a directory of the tree, and has names
abbrev pub at_rule : Rule
at_rule = record (new_rule (codes "at")) { long = Some (codes "at"); value_names = 1 }

-- `--skip`: what can't be loaded is left out
abbrev pub skip_rule : Rule
skip_rule = record (new_rule (codes "skip")) { long = Some (codes "skip"); action = Some SetTrue }

-- `--check`: that is only listed
abbrev pub check_rule : Rule
check_rule = record (new_rule (codes "check")) { long = Some (codes "check"); action = Some SetTrue }

-- `--set-id`: modes keep their bits S_ISUID and S_ISGID
abbrev pub set_id_rule : Rule
set_id_rule = record (new_rule (codes "set-id")) { long = Some (codes "set-id"); action = Some SetTrue }

-- `--no-owners`: no owner and no group is set
abbrev pub no_owners_rule : Rule
no_owners_rule = record (new_rule (codes "no-owners")) { long = Some (codes "no-owners"); action = Some SetTrue }

-- `--sync`: a save survives a power failure
abbrev pub sync_rule : Rule
sync_rule = record (new_rule (codes "sync")) { long = Some (codes "sync"); action = Some SetTrue }

-- `--into`: a directory that exists is changed
abbrev pub into_rule : Rule
into_rule = record (new_rule (codes "into")) { long = Some (codes "into"); action = Some SetTrue }

-- `--remove`: what the tree does not have is removed
abbrev pub remove_rule : Rule
remove_rule = record (new_rule (codes "remove")) { long = Some (codes "remove"); action = Some SetTrue }

-- `--dry-run`: the steps are listed, and nothing is done
abbrev pub dry_run_rule : Rule
dry_run_rule = record (new_rule (codes "dry-run")) { long = Some (codes "dry-run"); action = Some SetTrue }

-- `--after FILE`: a script is played first
abbrev pub after_rule : Rule
after_rule = record (new_rule (codes "after")) { long = Some (codes "after"); value_names = 1 }

-- `--strict`: each line of a script must do what it requests
abbrev pub strict_rule : Rule
strict_rule = record (new_rule (codes "strict")) { long = Some (codes "strict"); action = Some SetTrue }

-- `play`, which may have `--strict`, `--moss` and `--after FILE`, and as each other the flags for
-- limits
abbrev pub play : App
play = limited (with_rule (with_rule (with_rule (new_app (codes "play")) strict_rule) moss_rule) after_rule)

-- `dot`
abbrev pub dot : App
dot = limited (new_app (codes "dot"))

-- `load`, which needs a directory and may have `--at PATH`, `--skip`, `--check`, `--set-id` and
-- `--quiet`
abbrev pub load : App
load = limited (with_rule (with_rule (with_rule (with_rule (with_rule (with_rule (new_app (codes "load")) dir_rule) at_rule) skip_rule) check_rule) set_id_rule) quiet_rule)

-- `save` to a new directory, which may have `--set-id`, `--no-owners`, `--quiet` and `--sync`
abbrev pub save_new : App
save_new = with_rule (with_rule (with_rule (with_rule (with_rule (new_app (codes "save")) dir_rule) set_id_rule) no_owners_rule) quiet_rule) sync_rule

-- `save`, which may have `--into`, `--remove` and `--dry-run` too
abbrev pub save : App
save = limited (with_rule (with_rule (with_rule save_new into_rule) remove_rule) dry_run_rule)

-- `jobs`, which needs a file and may have `--turns N`, `--quiet`, `--moss`, `--after FILE`,
-- `--threads N` and `--retries N`
abbrev pub jobs : App
jobs = limited (with_rule (with_rule (with_rule (with_rule (with_rule (with_rule (with_rule (new_app (codes "jobs")) file_rule) turns_rule) quiet_rule) moss_rule) after_rule) threads_rule) retries_rule)

-- no argument of the command is one of its subcommands too
abbrev pub HasNoGlobals : Command → Type 0
HasNoGlobals command = (out-Command command).has_globals ≡ false

-- the program `ft` needs a subcommand, and has a version; the words begin after its name
abbrev pub bare : App
bare =
    let named = new_app (codes "ft") in
    record named { top = record named.top { no_binary_name = true; subcommand_required = true; has_version = true } }

-- it has `play` and `dot`
abbrev pub with_filters : App
with_filters = with_subcommand (with_subcommand bare play.top) dot.top

-- `load` and `save`
abbrev pub with_folders : App
with_folders = with_subcommand (with_subcommand with_filters load.top) save.top

-- and `jobs`: the whole command line
abbrev pub program : App
program = with_subcommand with_folders jobs.top

-- a subcommand by its name, with what was found for it (clap's rows)
abbrev pub Met : Type 0
Met = Option (Text × List Row)

-- A flag is given if the text that was found for it is `true`, and is not if that is `false`, or
-- nothing was found.
abbrev pub IsFlag : Option Text → Bool → Type 0
IsFlag None flag = flag ≡ false
IsFlag (Some text) flag = (text ≡ codes "true" → flag ≡ true) × (text ≡ codes "false" → flag ≡ false)

-- the number of this name is that of the digits that were found (clap's `one_of`)
abbrev pub TellsNumber : Text → List Row → ℕ → Type 0
TellsNumber name found number = (digits : Text) × (one_of name found ≡ Some digits) × (number ≡ digits_value 10 (without_leading_plus digits))

-- The number of this name is that of the digits that were found, and there is none if nothing was.
abbrev pub TellsNumberIfAny : Text → List Row → Option ℕ → Type 0
TellsNumberIfAny name found None = first_of name found ≡ None
TellsNumberIfAny name found (Some number) = TellsNumber name found number

-- The file and the pace are those that were found (clap's `first_of`), there is at least one turn,
-- and it is quiet if that flag is given.
abbrev pub TellsJobs : List Row → Text → AskedPace → Bool → Type 0
TellsJobs found file pace quiet =
    (first_of (codes "file") found ≡ Some file) × TellsNumber (codes "turns") found pace.turns × (1 ≤ pace.turns)
    × TellsNumber (codes "threads") found pace.threads × TellsNumberIfAny (codes "retries") found pace.retries × IsFlag (one_of (codes "quiet") found) quiet

-- the rule is `Moss` if the flag `--moss` is given, and else `Profile`
abbrev pub TellsRule : List Row → LockRule → Type 0
TellsRule found rule = IsFlag (one_of (codes "moss") found) (is_strict rule)

-- the file of the script that is played first, if one was found
abbrev pub TellsAfter : List Row → Option Text → Type 0
TellsAfter found after = after ≡ first_of (codes "after") found

-- the directory that was found
abbrev pub TellsDir : List Row → Text → Type 0
TellsDir found dir = first_of (codes "dir") found ≡ Some dir

-- how a directory is to be made: each flag is as it was found
pub record TellsSave (found : List Row) (how : AskedSave) : Type 0 where
  pub set_id : IsFlag (one_of (codes "set-id") found) how.set_id
  pub no_owners : IsFlag (one_of (codes "no-owners") found) how.no_owners
  pub quiet : IsFlag (one_of (codes "quiet") found) how.quiet
  pub sync : IsFlag (one_of (codes "sync") found) how.sync
  pub into : IsFlag (one_of (codes "into") found) how.into
  pub remove : IsFlag (one_of (codes "remove") found) how.remove
  pub dry_run : IsFlag (one_of (codes "dry-run") found) how.dry_run

-- `--remove` or `--dry-run` is given without `--into`
abbrev pub IsWithoutInto : AskedSave → Type 0
IsWithoutInto how = (how.into ≡ false) × ((how.remove ≡ true) ⊎ (how.dry_run ≡ true))

abbrev pub LacksInto : List Row → Type 0
LacksInto found = (how : AskedSave) × TellsSave found how × IsWithoutInto how

-- The choice if the words name this subcommand: a usage text only if the value of a flag is no
-- limit, or if the directory of `load --at` has no path, or if `save` lacks `--into`.
abbrev pub ReadChoice : Met → Choice → Type 0
ReadChoice met (Play strict rule after limits) =
    (found : List Row) × (met ≡ Some (codes "play", found)) × IsFlag (one_of (codes "strict") found) strict × TellsRule found rule × TellsAfter found (option_map string_bytes after) × TellsLimits found limits
ReadChoice met Dot = (found : List Row) × (met ≡ Some (codes "dot", found)) × ((limits : AskedLimits) × TellsLimits found limits)
ReadChoice met (Load dir at skip check set_id quiet limits) =
    (found : List Row) × (met ≡ Some (codes "load", found)) × TellsDir found (string_bytes dir) × TellsPlace found at × IsFlag (one_of (codes "skip") found) skip × IsFlag (one_of (codes "check") found) check
    × IsFlag (one_of (codes "set-id") found) set_id × IsFlag (one_of (codes "quiet") found) quiet × TellsLimits found limits
ReadChoice met (Save dir how limits) =
    (found : List Row) × (met ≡ Some (codes "save", found)) × TellsDir found (string_bytes dir) × TellsSave found how × (¬ IsWithoutInto how) × TellsLimits found limits
ReadChoice met (Jobs file pace quiet rule after limits) =
    (found : List Row) × (met ≡ Some (codes "jobs", found)) × TellsJobs found (string_bytes file) pace quiet × TellsRule found rule × TellsAfter found (option_map string_bytes after) × TellsLimits found limits
ReadChoice met (Help text) = ⊥
ReadChoice met (Usage text) = (name : Text) × (found : List Row) × (met ≡ Some (name, found)) × (HasBadLimit found ⊎ ((name ≡ codes "load") × HasBadPlace found) ⊎ ((name ≡ codes "save") × LacksInto found))
ReadChoice met Fault = Unit {0}

-- help or the version was asked for
abbrev pub IsRequest : ErrorKind → Type 0
IsRequest kind = (kind ≡ DisplayHelp) ⊎ (kind ≡ DisplayVersion)

-- The choice at an error of this kind: a help text exactly at a request of help or of the version,
-- and a usage text at a mistake. Lack of memory may take the place of any.
abbrev pub ErrorChoice : ErrorKind → Choice → Type 0
ErrorChoice kind (Play strict rule after limits) = ⊥
ErrorChoice kind Dot = ⊥
ErrorChoice kind (Load dir at skip check set_id quiet limits) = ⊥
ErrorChoice kind (Save dir how limits) = ⊥
ErrorChoice kind (Jobs file pace quiet rule after limits) = ⊥
ErrorChoice kind (Help text) = IsRequest kind
ErrorChoice kind (Usage text) = (¬ IsRequest kind) × (kind ≢ OutOfMemory)
ErrorChoice kind Fault = Unit {0}

-- the words have no error (clap's `fault_of`), and the subcommand that they name
-- (`subcommand_of`) is read as this choice
abbrev pub IsCommand : List Text → Choice → Type 0
IsCommand words choice = (fault_of program words ≡ []) × ReadChoice (subcommand_of program words) choice

-- The choice that words ask for: a subcommand only if they name just that, a help text only if help
-- or the version was asked for, a usage text only at another error, at a value that is no limit or
-- no path, or if `--into` is lacking.
abbrev pub ChoiceOf : List Text → Choice → Type 0
ChoiceOf words (Play strict rule after limits) = IsCommand words (Play strict rule after limits)
ChoiceOf words Dot = IsCommand words Dot
ChoiceOf words (Load dir at skip check set_id quiet limits) = IsCommand words (Load dir at skip check set_id quiet limits)
ChoiceOf words (Save dir how limits) = IsCommand words (Save dir how limits)
ChoiceOf words (Jobs file pace quiet rule after limits) = IsCommand words (Jobs file pace quiet rule after limits)
ChoiceOf words (Help text) = (kind : ErrorKind) × IsAmong kind (fault_of program words) × IsRequest kind
ChoiceOf words (Usage text) = ((kind : ErrorKind) × IsAmong kind (fault_of program words) × (¬ IsRequest kind)) ⊎ IsCommand words (Usage text)
ChoiceOf words Fault = Unit {0}
