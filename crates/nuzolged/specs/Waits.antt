-- The answer about which transaction waits for which.
use Rattle.std.specs.Prelude.{◌≡◌, ◌⊎◌, ℕ, List, [], length, Option, Some, None, MatchOption}
use Rattle.std.specs.FinMap as finite
use Rattle.ft_posix.specs.declared.call.Call.{Call}
use Rattle.ft_core.specs.declared.request.Request.TheVariants.{Retry}
use Rattle.ft_core.specs.States.{State}
use Rattle.ft_core.specs.Steps.{refusal_of}
use Rattle.ft_waits.specs.declared.edge.Edge.{Edge}
use Rattle.ft_waits.specs.declared.verdict.Verdict.{Verdict}
use Rattle.ft_waits.specs.declared.verdict.Verdict.TheVariants.{Cycle, Ranked}
use Rattle.ft_waits.specs.Edges.{AreEdgesOf}
use Rattle.ft_waits.specs.Waits.{IsVerdict}
use Rattle.ft_session.specs.Buffers.{filled}
use Rattle.ft_session.specs.declared.session.Session.{Session}
use Rattle.ft_session.specs.Turns.{AreInTheWay}
use Rattle.nuzolged.specs.declared.nuz_answer.NuzAnswer.{NuzAnswer}
use Rattle.nuzolged.specs.Numbers.{told as told_with, no_memory, closed, fault_number}

-- the answer has how many transactions there are, and as many as have room are copied
abbrev pub AreTold : List ℕ → NuzAnswer → List ℕ → List ℕ → Type 0
AreTold txns told before after = (told ≡ told_with 0 0 (length txns)) × (after ≡ filled txns before)

-- nothing but this is told, and nothing is copied
abbrev pub IsToldAlone : NuzAnswer → NuzAnswer → List ℕ → List ℕ → Type 0
IsToldAlone this told before after = (told ≡ this) × (after ≡ before)

-- The blockers of the call that a transaction waits for are copied; or there was no memory.
abbrev pub AreBlockers : Session → ℕ → NuzAnswer → List ℕ → List ℕ → Type 0
AreBlockers session txn told before after =
    ((call : Call) × (finite.get session.core.state.asks txn ≡ Some call) × (blockers : List ℕ) × AreInTheWay session.is_fair session.core.state session.turns.items txn blockers × AreTold blockers told before after)
    ⊎ IsToldAlone no_memory told before after

-- the same, or it is refused as a retry is
abbrev pub HasBlockers : Session → ℕ → NuzAnswer → List ℕ → List ℕ → Type 0
HasBlockers session txn told before after =
    MatchOption (refusal_of session.core.state (Retry txn)) (AreBlockers session txn told before after) (λ fault. IsToldAlone (told_with (fault_number fault) 0 0) told before after)

-- the same through a handle, which may be closed
abbrev pub AreBlockersTold : Option Session → ℕ → NuzAnswer → List ℕ → List ℕ → Type 0
AreBlockersTold None txn told before after = IsToldAlone closed told before after
AreBlockersTold (Some session) txn told before after = HasBlockers session txn told before after

-- the transactions of a cycle, if that is the verdict; else none
abbrev pub members_of : Verdict → List ℕ
members_of (Cycle members) = members
members_of (Ranked ranks) = []

-- The cycle is that of a verdict on exactly the waits-for edges of the state; or there was no
-- memory.
abbrev pub HasCycle : State → NuzAnswer → List ℕ → List ℕ → Type 0
HasCycle s told before after =
    ((edges : List Edge) × (verdict : Verdict) × AreEdgesOf s edges × IsVerdict edges verdict × AreTold (members_of verdict) told before after) ⊎ IsToldAlone no_memory told before after

-- the same through a handle, which may be closed
abbrev pub IsCycleTold : Option Session → NuzAnswer → List ℕ → List ℕ → Type 0
IsCycleTold None told before after = IsToldAlone closed told before after
IsCycleTold (Some session) told before after = HasCycle session.core.state told before after
