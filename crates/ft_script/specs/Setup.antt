-- A script that is played first, and its effect. `tells` is what the disk reports of its
-- files.
use Rattle.std.specs.Prelude.{◌≡◌, ◌⊎◌, ℕ, suc, true, false, List, [], ◌∷◌, ◌++◌, length, cond, Option, None, Some}
use Rattle.ft_lock_rules.specs.declared.rule.Rule.{Rule}
use Rattle.ft_core.specs.declared.request.Answer.{Answer}
use Rattle.ft_core.specs.declared.limits.Limits.{Limits}
use Rattle.ft_core.specs.Limits.{are_within, greatest_limits}
use Rattle.ft_core.specs.States.{State, after_checkpoint, first_state, has_live}
use Rattle.ft_line.specs.declared.line.ScriptLine.{ScriptLine}
use Rattle.ft_line.specs.declared.line.ScriptLine.TheVariants as line
use Rattle.ft_line.specs.Wells.{IsMet, is_well}
use Rattle.ft_transfer.specs.declared.transfer.TransferAnswer.{TransferAnswer}
use Rattle.ft_transfer.specs.Answers.{did_well}
use Rattle.ft_transfer.specs.Disk.{FileTold}
use Rattle.ft_transfer.specs.Transfers.{IsTransfer}
use Rattle.ft_names.specs.declared.meaning.LineMeaning.{LineMeaning}
use Rattle.ft_names.specs.declared.meaning.LineMeaning.TheVariants as means
use Rattle.ft_names.specs.Names.{Moment, Naming, names_after, no_names}
use Rattle.ft_names.specs.Meanings.{meaning_in}
use Rattle.ft_words.specs.Spelling.{lines_of}
use Rattle.ft_script.specs.declared.setup_fault.SetupFault.{SetupFault}
use Rattle.ft_script.specs.declared.setup_fault.SetupFault.TheVariants.{Memory, BadLimits, Script}

-- A line does what it requests, and its answer gets the name that it gives. A report changes
-- nothing.
abbrev pub GoesWell : Moment → ScriptLine → Option (List ℕ) → Moment → Type 0
GoesWell old line.Silent given new = new ≡ old
GoesWell old line.Bad given new = ⊥
GoesWell old (line.Request request) given new = (answer : Answer) × IsMet old.0 request answer new.0 × (new.1 ≡ names_after given answer old.1) × (is_well answer ≡ true)
GoesWell old (line.Query report) given new = new ≡ old

-- A line is not a valid request, or its request is refused, except for being out of memory, fails
-- or waits.
abbrev pub GoesBadly : Moment → ScriptLine → Option (List ℕ) → Moment → Type 0
GoesBadly old line.Silent given new = ⊥
GoesBadly old line.Bad given new = new ≡ old
GoesBadly old (line.Request request) given new = (answer : Answer) × IsMet old.0 request answer new.0 × (new.1 ≡ names_after given answer old.1) × (is_well answer ≡ false)
GoesBadly old (line.Query report) given new = ⊥

-- why there is no new core: there was no memory for it, or it can't have these limits
abbrev pub no_core : Limits → SetupFault
no_core limits = cond (are_within limits greatest_limits) Memory BadLimits

module _ (tells : FileTold → Type 0) where
  -- A line does what it requests, or its transfer is made, which changes no name.
  abbrev pub MeaningGoesWell : Moment → LineMeaning → Option (List ℕ) → Moment → Type 0
  MeaningGoesWell old (means.Line line) given new = GoesWell old line given new
  MeaningGoesWell old (means.Transfer transfer) given new = (answer : TransferAnswer) × IsTransfer tells old.0 transfer answer new.0 × (new.1 ≡ old.1) × (did_well answer ≡ true)

  -- A line does not, or its transfer is not made, even if that is for lack of memory.
  abbrev pub MeaningGoesBadly : Moment → LineMeaning → Option (List ℕ) → Moment → Type 0
  MeaningGoesBadly old (means.Line line) given new = GoesBadly old line given new
  MeaningGoesBadly old (means.Transfer transfer) given new = (answer : TransferAnswer) × IsTransfer tells old.0 transfer answer new.0 × (new.1 ≡ old.1) × (did_well answer ≡ false)

  -- the bytes of a line do, or do not
  abbrev pub LineGoesWell : Moment → List ℕ → Moment → Type 0
  LineGoesWell old bytes new = let named = meaning_in old.1 bytes in MeaningGoesWell old named.0 named.1 new

  abbrev pub LineGoesBadly : Moment → List ℕ → Moment → Type 0
  LineGoesBadly old bytes new = let named = meaning_in old.1 bytes in MeaningGoesBadly old named.0 named.1 new

  -- Lines do, one after another.
  abbrev pub PlaysWell : Moment → List (List ℕ) → Moment → Type 0
  PlaysWell old [] new = new ≡ old
  PlaysWell old (bytes ∷ lines) new = (middle : Moment) × LineGoesWell old bytes middle × PlaysWell middle lines new

  -- They were played, no transaction was live after the last, and the tree at that moment is the new
  -- base. No name is known before the first line.
  abbrev pub IsPlayedFirst : State → List (List ℕ) → State → Type 0
  IsPlayedFirst old lines new = (played : Moment) × PlaysWell (old, no_names) lines played × (has_live played.0 ≡ false) × (new ≡ after_checkpoint played.0)

  -- The line of this number, from 1, is the first that does not do what it requests.
  abbrev pub StopsAtLine : ℕ → State → List (List ℕ) → State → Type 0
  StopsAtLine number old lines new =
      (done : List (List ℕ)) × (bytes : List ℕ) × (rest : List (List ℕ)) × (middle : Moment) × (names : Naming) × (lines ≡ done ++ bytes ∷ rest) × (number ≡ suc (length done))
      × PlaysWell (old, no_names) done middle × LineGoesBadly middle bytes (new, names)

  -- All lines did what they request, as many as this number, and a transaction is live after the
  -- last.
  abbrev pub LeavesLive : ℕ → State → List (List ℕ) → State → Type 0
  LeavesLive number old lines new = (names : Naming) × (number ≡ length lines) × PlaysWell (old, no_names) lines (new, names) × (has_live new ≡ true)

  -- Some lines did what they request, and then there was no memory: for the next line, for its
  -- request, or for the checkpoint.
  abbrev pub WantsMemory : State → List (List ℕ) → State → Type 0
  WantsMemory old lines new = (done : List (List ℕ)) × (rest : List (List ℕ)) × (names : Naming) × (lines ≡ done ++ rest) × PlaysWell (old, no_names) done (new, names)

  -- The fault if they were not played.
  abbrev pub StopsFirst : SetupFault → State → List (List ℕ) → State → Type 0
  StopsFirst Memory old lines new = WantsMemory old lines new
  StopsFirst BadLimits old lines new = ⊥
  StopsFirst (Script number) old lines new = StopsAtLine number old lines new ⊎ LeavesLive number old lines new

  -- a new core with these limits, or one on which a script was played first
  abbrev pub Begins : Rule → Limits → Option (List ℕ) → State → Type 0
  Begins rule limits None state = state ≡ first_state rule limits
  Begins rule limits (Some script) state = IsPlayedFirst (first_state rule limits) (lines_of script) state

  -- There is no core: no new one, or the script was not played.
  abbrev pub StopsBegin : SetupFault → Rule → Limits → Option (List ℕ) → Type 0
  StopsBegin fault rule limits None = fault ≡ no_core limits
  StopsBegin fault rule limits (Some script) = (fault ≡ no_core limits) ⊎ ((new : State) × StopsFirst fault (first_state rule limits) (lines_of script) new)
