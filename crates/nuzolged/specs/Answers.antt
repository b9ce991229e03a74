-- The parts of an answer in C besides its numbers.
use Rattle.std.specs.Prelude.{◌≡◌, ◌==◌, ℕ, cond, List, [], ◌∷◌, map, Option, Some, None, slice_get, unwrap_or}
use Rattle.ft_session.specs.declared.session.Session.{Session}
use Rattle.ft_session.specs.Parts.{blockers_in}
use Rattle.nuzolged.specs.declared.nuz_answer.NuzAnswer.{NuzAnswer}
use Rattle.nuzolged.specs.declared.answered.Answered.{Answered}

-- the transaction at a place, or 0 if there is none
abbrev pub blocker_or_none : List ℕ → ℕ → ℕ
blocker_or_none blockers index = unwrap_or (slice_get blockers index) 0

-- the first 8 of these transactions
abbrev pub first_of : List ℕ → List ℕ
first_of blockers = map (blocker_or_none blockers) (0 ∷ 1 ∷ 2 ∷ 3 ∷ 4 ∷ 5 ∷ 6 ∷ 7 ∷ [])

-- of those for which the last call waits
abbrev pub first_blockers : Option Session → List ℕ
first_blockers None = first_of []
first_blockers (Some session) = first_of (blockers_in session.last)

-- the same, if what is told is that a call waits; else none
abbrev pub blockers_told : NuzAnswer → Option Session → List ℕ
blockers_told told session = cond (told.code == 1100) (first_blockers session) (first_of [])

-- The code is returned. The answer has the first blockers of a call that waits, and how many bytes
-- its reply has. Its reserved numbers are 0.
abbrev pub IsToldWith : ℕ → Option Session → ℕ → Answered → Type 0
IsToldWith reply session code answer =
    (code ≡ answer.told.code) × (answer.blockers ≡ blockers_told answer.told session) × (answer.reply ≡ reply) × (answer.reserved ≡ 0 ∷ 0 ∷ 0 ∷ 0 ∷ 0 ∷ 0 ∷ [])

-- the same without a reply
abbrev pub IsTold : Option Session → ℕ → Answered → Type 0
IsTold session code answer = IsToldWith 0 session code answer
