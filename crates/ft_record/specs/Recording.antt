-- The contents of a record as clauses see them: the events, and places for more of them.
use Rattle.std.specs.Prelude.{ℕ, ◌+◌, ◌-◌, List, [], ◌∷◌, ◌++◌, Some, None, IsSome, refl}
use Rattle.std.specs.Coded.{Coded, code_by, coded×, coded_ℕ, coded_list}
use Rattle.ft_core.specs.declared.request.Event.{Event}
use Rattle.ft_core.specs.declared.request.Event.TheVariants.{Call as CallEvent}
use Rattle.ft_core.specs.declared.request.FullOutcome.{FullOutcome}
use Rattle.ft_core.specs.declared.request.FullOutcome.TheVariants as full
use Rattle.ft_core.specs.contracts.request.Event as event

-- the events, how many places are kept for ends and undos, and how many there are besides
pub record Recording : Type 0 where
  pub events : List Event
  pub spare : ℕ
  pub room : ℕ

-- a code of it, which a model needs
abbrev pub coded_recording : Coded Recording
coded_recording =
    code_by (List Event × (ℕ × ℕ)) (coded× (coded_list event.the_row.coded) (coded× coded_ℕ coded_ℕ)) (λ r. (r.events, (r.spare, r.room)))
    (λ p. record { events = p.0; spare = p.1.0; room = p.1.1 }) (λ _. refl)

-- no event, and no place for one
abbrev pub nothing_recorded : Recording
nothing_recorded = record { events = []; spare = 0; room = 0 }

-- the event takes one of the new places, and the other is kept
abbrev pub with_new : Recording → Event → Recording
with_new r e = record { events = r.events ++ e ∷ []; spare = r.spare + 1; room = r.room - 2 }

-- the reply of a call that was made is there a second time
abbrev pub HasReplyTwice : FullOutcome → Type 0
HasReplyTwice (full.Granted k call reply kept accesses) = IsSome kept
HasReplyTwice (full.Waits blockers) = Unit {0}

-- a call that t asked for is recorded, if it was made
abbrev pub with_outcome : Recording → ℕ → FullOutcome → Recording
with_outcome r t (full.Granted k call reply None accesses) = r
with_outcome r t (full.Granted k call reply (Some kept) accesses) = with_new r (CallEvent k t call kept accesses.items)
with_outcome r t (full.Waits blockers) = r

-- the event takes a place that was kept
abbrev pub with_told : Recording → Event → Recording
with_told r e = record { events = r.events ++ e ∷ []; spare = r.spare - 1; room = r.room }

-- so many places are not kept any more
abbrev pub with_given_back : Recording → ℕ → Recording
with_given_back r n = record { events = r.events; spare = r.spare - n; room = r.room + n }
