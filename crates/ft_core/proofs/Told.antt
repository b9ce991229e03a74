-- One more event.
use Rattle.std.proofs.Common.{◌≡◌, List, [], ◌∷◌, ◌++◌, refl}
use Rattle.ft_core.specs.declared.request.Event.{Event}
use Rattle.ft_core.specs.Histories.{History, as_happening, told, told_after}

told_after-push : (h : History) (events : List Event) (e : Event) → told_after h (events ++ e ∷ []) ≡ as_happening e ∷ told_after h events
told_after-push h [] e = refl
told_after-push h (d ∷ events) e = told_after-push (as_happening d ∷ h) events e

pub told-push : (events : List Event) (e : Event) → told (events ++ e ∷ []) ≡ as_happening e ∷ told events
told-push events e = told_after-push [] events e

pub told_after-append : (h : History) (events more : List Event) → told_after h (events ++ more) ≡ told_after (told_after h events) more
told_after-append h [] more = refl
told_after-append h (e ∷ events) more = told_after-append (as_happening e ∷ h) events more
