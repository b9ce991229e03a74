-- The outcome of a request through a handle.
use Rattle.std.specs.Prelude.{◌≡◌, ◌⊎◌, ◌||◌, ◌==◌, ℕ, ℤ, Bool, true, false, cond, List, Option, Some, None, MatchOption, Result, Ok, Err, suc, zero}
use Rattle.ft_path.specs.Name.{has_nul}
use Rattle.ft_cells.specs.declared.attributes.Timestamp.{Timestamp}
use Rattle.ft_cells.specs.declared.limits.TreeLimits.{TreeLimits}
use Rattle.ft_cells.specs.Limits.{default_limits}
use Rattle.ft_posix.specs.declared.call.Call.{Call}
use Rattle.ft_posix.specs.declared.call.Call.TheVariants as calls
use Rattle.ft_posix.specs.declared.call.Whence.{Whence}
use Rattle.ft_posix.specs.declared.call.Whence.TheVariants.{Set, Cur, End}
use Rattle.ft_core.specs.declared.request.Answer.{Answer}
use Rattle.ft_core.specs.declared.request.Request.{Request}
use Rattle.ft_core.specs.declared.request.Request.TheVariants.{Ask}
use Rattle.ft_core.specs.States.{State}
use Rattle.ft_core.specs.Steps.{BlockingRule, IsStep}
use Rattle.ft_session.specs.declared.session.Session.{Session}
use Rattle.ft_session.specs.Sessions.{HasAnswered}
use Rattle.nuzolged.specs.declared.nuz_answer.NuzAnswer.{NuzAnswer}
use Rattle.nuzolged.specs.declared.asking.BadArgument.{BadArgument}
use Rattle.nuzolged.specs.declared.asking.BadArgument.TheVariants as unasked
use Rattle.nuzolged.specs.Cuts.{cut_path, cut_of, limits_in, AreAlike}
use Rattle.nuzolged.specs.Flags.{open_call, opening_of}
use Rattle.nuzolged.specs.Numbers.{told_of_answer, closed, bad}

-- The handle is closed, and stays so. Or the core of its session has made one legal step for
-- exactly this request, and what is told is its answer.
abbrev pub IsAsked : Option Session → Request → NuzAnswer → Option Session → Type 0
IsAsked None request told new = (told ≡ closed) × (new ≡ None)
IsAsked (Some old) request told new = (session : Session) × (answer : Answer) × (new ≡ Some session) × HasAnswered old request answer session × (told ≡ told_of_answer answer)

-- the limits of the tree of a handle
abbrev pub limits_of : Option Session → TreeLimits
limits_of None = default_limits
limits_of (Some session) = limits_in session.core.state

-- By whatever rule a step for what is left of a call is legal, one for the call itself has the same
-- answer, and leaves a state that is alike.
abbrev pub IsWholeAsked : Session → ℕ → Call → Answer → Session → Type 0
IsWholeAsked old txn call answer session =
    (rule : BlockingRule) → IsStep rule old.core.state (Ask txn (cut_of (limits_in old.core.state) call)) answer session.core.state
    → (whole : State) × IsStep rule old.core.state (Ask txn call) answer whole × AreAlike session.core.state whole

-- The same of a call that is cut (`Cuts`). The core has made one legal step for what is left of it;
-- and one for the call itself has the same answer, and leaves a state that is alike.
abbrev pub IsCallAsked : Option Session → ℕ → Call → NuzAnswer → Option Session → Type 0
IsCallAsked None txn call told new = (told ≡ closed) × (new ≡ None)
IsCallAsked (Some old) txn call told new =
    (session : Session) × (answer : Answer) × (new ≡ Some session) × HasAnswered old (Ask txn (cut_of (limits_in old.core.state) call)) answer session × (told ≡ told_of_answer answer)
    × IsWholeAsked old txn call answer session

-- An argument is bad: nothing has changed.
abbrev pub IsBad : Option Session → NuzAnswer → Option Session → Type 0
IsBad None told new = (told ≡ closed) × (new ≡ None)
IsBad (Some old) told new = (told ≡ bad) × (new ≡ Some old)

-- a call in a transaction is asked for exactly if no argument is bad
abbrev pub IsCalled : Bool → Option Session → ℕ → Call → NuzAnswer → Option Session → Type 0
IsCalled is_bad old txn call told new = ((is_bad ≡ false) × IsCallAsked old txn call told new) ⊎ ((is_bad ≡ true) × IsBad old told new)

-- ---- arguments

-- it is bad; else there was no memory for a copy of it
abbrev pub is_bad : BadArgument → Bool
is_bad unasked.Memory = false
is_bad unasked.Bad = true

-- what is left of a path of these bytes, or why there is none
abbrev pub IsPath : List ℕ → Result (List ℕ) BadArgument → Type 0
IsPath bytes (Ok path) = (path ≡ cut_path bytes) × (has_nul bytes ≡ false)
IsPath bytes (Err why) = has_nul bytes ≡ is_bad why

-- the same of two
abbrev pub ArePaths : List ℕ → List ℕ → Result (List ℕ × List ℕ) BadArgument → Type 0
ArePaths from to (Ok paths) = (paths.0 ≡ cut_path from) × (paths.1 ≡ cut_path to) × ((has_nul from || has_nul to) ≡ false)
ArePaths from to (Err why) = (has_nul from || has_nul to) ≡ is_bad why

-- the owner, the group or the mode of a number, if one is given: by the greatest none is, as by
-- (uid_t)-1 (POSIX.1-2017, System Interfaces, chown)
abbrev pub given_of : ℕ → Option ℕ
given_of number = cond (number == 4294967295) None (Some number)

-- a time of these seconds and nanoseconds
abbrev pub time_given : ℤ → ℕ → Timestamp
time_given seconds nanoseconds = record { seconds = seconds; nanoseconds = nanoseconds }

-- from where an offset counts, as SEEK_SET, SEEK_CUR and SEEK_END
abbrev pub whence_of : ℕ → Option Whence
whence_of zero = Some Set
whence_of (suc zero) = Some Cur
whence_of (suc (suc zero)) = Some End
whence_of (suc (suc (suc number))) = None

-- ---- a word that has to stand for something

-- An offset is set from the place that `whence` stands for; it is a bad argument if it stands for
-- none.
abbrev pub IsSeekAsked : Option Session → ℕ → ℕ → ℤ → ℕ → NuzAnswer → Option Session → Type 0
IsSeekAsked old txn fd off whence told new = MatchOption (whence_of whence) (IsBad old told new) (λ from. IsAsked old (Ask txn (calls.Lseek fd from off)) told new)

-- A file is opened as the flags of a word say; they are a bad argument if they say nothing.
abbrev pub IsOpenAsked : Option Session → ℕ → List ℕ → ℕ → ℕ → NuzAnswer → Option Session → Type 0
IsOpenAsked old txn path flags mode told new =
    MatchOption (opening_of flags) (IsBad old told new) (λ opening. IsCalled (has_nul path) old txn (open_call path opening (given_of mode)) told new)
