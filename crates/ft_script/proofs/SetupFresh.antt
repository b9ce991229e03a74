-- A core that begins at a base has no live transaction.
use Rattle.std.proofs.Common.{◌≡◌, ◌<◌, ◌≤◌, ◌&&◌, ◌∙◌, ℕ, Bool, true, false, cond, List, Option, Some, None, inl, ap, refl, sym, subst, arith}
use Rattle.std.specs.Prelude.{nat_lt, nat_le}
use Rattle.std.proofs.lemmas.Bool.{false≢true, and_parts, ltb-true, leb-true}
use Rattle.ft_laws.proofs.Tests.{by_test}
use Rattle.ft_history.specs.History.{Fate, is_live}
use Rattle.ft_core.specs.Living.{NoneIsLive}
use Rattle.ft_core.specs.Limits.{HistoryLimits}
use Rattle.ft_core.specs.States.{Base, State, at_base, base_now}
use Rattle.ft_transfer.specs.Disk.{FileTold}
use Rattle.ft_script.specs.Setup.{IsPlayedFirst, StopsBegin, no_core}
use Rattle.ft_script.specs.declared.setup_fault.SetupFault.{SetupFault}
use Rattle.ft_core.specs.declared.limits.Limits.{Limits}
use Rattle.ft_lock_rules.specs.declared.rule.Rule.{Rule}

-- no number is above another and not above it
nothing_between : (n t : ℕ) → (nat_lt n t && nat_le t n) ≡ false
nothing_between n t = by_test (nat_lt n t && nat_le t n)
    (λ k. let parts = and_parts (nat_lt n t) (nat_le t n) k in let above : n < t = ltb-true n t parts.0 in let not_above : t ≤ n = leb-true t n parts.1 in absurd (omega arith))
    (λ k. k)

no_fate : (b : Bool) (fate : Fate) → b ≡ false → is_live (cond b (Some fate) None) ≡ false
no_fate true fate h = absurd (false≢true (sym h))
no_fate false fate h = refl

pub none_is_live : (rule : Rule) (limits : HistoryLimits) (base : Base) → NoneIsLive (at_base rule limits base)
none_is_live rule limits base live = false≢true (sym (no_fate (nat_lt base.last_txn live.0 && nat_le live.0 base.last_txn) _ (nothing_between base.last_txn live.0)) ∙ ap is_live live.1)

-- nothing has happened since its base
pub at_its_base : (s : State) (rule : Rule) (limits : HistoryLimits) (base : Base) → s ≡ at_base rule limits base → s ≡ at_base s.rule s.limits s.base
at_its_base s rule limits base is = is ∙ (λ i. at_base (sym is i).rule (sym is i).limits (sym is i).base)

pub none_is_live_at : (s : State) (rule : Rule) (limits : HistoryLimits) (base : Base) → s ≡ at_base rule limits base → NoneIsLive s
none_is_live_at s rule limits base is = subst (λ (t : State). NoneIsLive t) (sym is) (none_is_live rule limits base)

-- none is behind a script that was played first
pub none_after : (tells : FileTold → Type 0) (old : State) (lines : List (List ℕ)) (new : State) → IsPlayedFirst tells old lines new → NoneIsLive new
none_after tells old lines new h = let played : State = h.0.0 in none_is_live_at new played.rule played.limits (base_now played) h.3

-- where there is no new core, there is none for a script either
pub stops_before : (tells : FileTold → Type 0) (fault : SetupFault) (rule : Rule) (limits : Limits) (script : Option (List ℕ)) → fault ≡ no_core limits → StopsBegin tells fault rule limits script
stops_before tells fault rule limits None h = h
stops_before tells fault rule limits (Some script) h = inl h
