-- What the names of a script stand for.
use Rattle.std.specs.Prelude.{ℕ, Bool, false, List, [], ◌∷◌, if◌then◌else◌, Option, None, Some, option_and_then, IsSome}
use Rattle.std.specs.BTreeMap.{get_by}
use Rattle.std.specs.Char.{is_ascii_alphabetic}
use Rattle.std.specs.Cmp.Lexicographic.{slice_cmp}
use Rattle.std.specs.Ordering.{nat_cmp}
use Rattle.std.specs.Str.{bytes_eq}
use Rattle.ft_posix.specs.declared.call.Reply.TheVariants.{Number}
use Rattle.ft_core.specs.declared.request.Answer.{Answer}
use Rattle.ft_core.specs.declared.request.Answer.TheVariants.{Txn, Granted}
use Rattle.ft_core.specs.States.{State, StoredState}
use Rattle.ft_names.specs.declared.naming.Names.{Names}

-- the number that each name stands for, if it is known
abbrev pub Naming : Type 0
Naming = List ℕ → Option ℕ

-- no name is known
abbrev pub no_names : Naming
no_names name = None

-- a name stands for this number, or is not known if it is none, and all others are as before
abbrev pub with_name : List ℕ → Option ℕ → Naming → Naming
with_name name number names other = if bytes_eq name other then number else names other

-- a core and the names
abbrev pub Moment : Type 0
Moment = State × Naming

-- a name begins with a letter
abbrev pub is_name : List ℕ → Bool
is_name [] = false
is_name (b ∷ bs) = is_ascii_alphabetic b

-- the number in an answer: of the transaction that has begun, or the one that a call has returned,
-- which is a descriptor, a number of bytes or an offset
abbrev pub number_given : Answer → Option ℕ
number_given (Txn txn) = Some txn
number_given (Granted stamp (Number number)) = Some number
number_given other = None

-- The names after a request was answered so. If its line gives a name, this stands for the number
-- in the answer, and is not known if there is none.
abbrev pub names_after : Option (List ℕ) → Answer → Naming → Naming
names_after None answer names = names
names_after (Some name) answer names = with_name name (number_given answer) names

-- what is stored at a name
abbrev pub stored : Names → List ℕ → Option (Option ℕ)
stored names name = get_by (λ key. slice_cmp nat_cmp name key.items) names.numbers

-- what `Names` holds
abbrev pub names_of : Names → Naming
names_of names name = option_and_then (λ number. number) (stored names name)

-- a core and the names of a script
abbrev pub moment : StoredState → Names → Moment
moment core names = (core.state, names_of names)

-- there is room for a name, if one is given
abbrev pub HasRoom : Names → Option (List ℕ) → Type 0
HasRoom names None = Unit {0}
HasRoom names (Some name) = IsSome (stored names name)
