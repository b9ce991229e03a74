-- The events of a core one after another, the granted calls among them, and their places.
use Rattle.std.proofs.Common.{◌≡◌, ◌<◌, ◌-◌, ℕ, zero, suc, Option, Some, None, List, [], ◌∷◌, ◌++◌, length, take, inl, inr, refl, sym, ap, ◌∙◌, arith, append-nil, append_assoc}
use Rattle.std.specs.Prelude.{slice_get}
use Rattle.std.specs.Option.{unwrap_or}
use Rattle.ft_laws.specs.Lists.{Pairs, In}
use Rattle.ft_laws.proofs.Lists.{Each-at}
use Rattle.ft_posix.specs.declared.call.Call.{Call as CallOf}
use Rattle.ft_posix.specs.declared.call.Reply.{Reply}
use Rattle.ft_posix.specs.declared.call.Access.{Access}
use Rattle.ft_posix.specs.Posix.{posix_calls}
use Rattle.ft_history.specs.History.{grants}
use Rattle.ft_history.specs.History.Event.{Begin as WasBegun, Call as WasGranted, Undo as WasUndone, Commit as WasCommitted, Abort as WasAborted}
use Rattle.ft_core.specs.declared.request.Event.{Event}
use Rattle.ft_core.specs.declared.request.Event.TheVariants.{Begin, Call, Undo, Commit, Abort}
use Rattle.ft_core.specs.Histories.{History, Granted, granted, told, told_after}

-- the granted calls among these events
abbrev pub granted_in : List Event → List Granted
granted_in [] = []
granted_in (Begin t p ∷ events) = granted_in events
granted_in (Call k t call reply accesses ∷ events) = granted k t call reply accesses ∷ granted_in events
granted_in (Undo k ∷ events) = granted_in events
granted_in (Commit t ∷ events) = granted_in events
granted_in (Abort t ∷ events) = granted_in events

grants-after : (h : History) (events : List Event) → grants posix_calls (told_after h events) ≡ grants posix_calls h ++ granted_in events
grants-after h [] = sym (append-nil (grants posix_calls h))
grants-after h (Begin t p ∷ events) = grants-after (WasBegun t p ∷ h) events
grants-after h (Call k t call reply accesses ∷ events) =
    grants-after (WasGranted (granted k t call reply accesses) ∷ h) events ∙ append_assoc (grants posix_calls h) (granted k t call reply accesses ∷ []) (granted_in events)
grants-after h (Undo k ∷ events) = grants-after (WasUndone k ∷ h) events
grants-after h (Commit t ∷ events) = grants-after (WasCommitted t ∷ h) events
grants-after h (Abort t ∷ events) = grants-after (WasAborted t ∷ h) events

pub grants-are : (events : List Event) → grants posix_calls (told events) ≡ granted_in events
grants-are events = grants-after [] events

-- a call that was granted at a place is among them
pub granted-at : (events : List Event) (place k t : ℕ) (call : CallOf) (reply : Reply) (accesses : List Access) → slice_get events place ≡ Some (Call k t call reply accesses) → In (granted k t call reply accesses) (granted_in events)
granted-at [] place k t call reply accesses e = absurd (cc)
granted-at (Begin u p ∷ events) zero k t call reply accesses e = absurd (cc)
granted-at (Call j u other answer touched ∷ events) zero k t call reply accesses e = inl (ap one (sym e))
  where
    one : Option Event → Granted
    one None = granted k t call reply accesses
    one (Some (Begin v p)) = granted k t call reply accesses
    one (Some (Call i v c r a)) = granted i v c r a
    one (Some (Undo i)) = granted k t call reply accesses
    one (Some (Commit v)) = granted k t call reply accesses
    one (Some (Abort v)) = granted k t call reply accesses
granted-at (Undo j ∷ events) zero k t call reply accesses e = absurd (cc)
granted-at (Commit u ∷ events) zero k t call reply accesses e = absurd (cc)
granted-at (Abort u ∷ events) zero k t call reply accesses e = absurd (cc)
granted-at (Begin u p ∷ events) (suc n) k t call reply accesses e = granted-at events n k t call reply accesses e
granted-at (Call j u other answer touched ∷ events) (suc n) k t call reply accesses e = inr (granted-at events n k t call reply accesses e)
granted-at (Undo j ∷ events) (suc n) k t call reply accesses e = granted-at events n k t call reply accesses e
granted-at (Commit u ∷ events) (suc n) k t call reply accesses e = granted-at events n k t call reply accesses e
granted-at (Abort u ∷ events) (suc n) k t call reply accesses e = granted-at events n k t call reply accesses e

-- So two calls with one stamp are one.
pub one-call : (calls : List Granted) → Pairs (λ b a. b.call.stamp < a.call.stamp) calls → (a b : Granted) → In a calls → In b calls → a.call.stamp ≡ b.call.stamp → a ≡ b
one-call [] rising a b i j e = absurd i
one-call (c ∷ calls) rising a b (inl x) (inl y) e = x ∙ sym y
one-call (c ∷ calls) rising a b (inl x) (inr j) e = let lt : c.call.stamp < b.call.stamp = Each-at (λ d. c.call.stamp < d.call.stamp) calls b rising.0 j in absurd (omega (arith, ap (λ (d : Granted). d.call.stamp) x, e, lt))
one-call (c ∷ calls) rising a b (inr i) (inl y) e = let lt : c.call.stamp < a.call.stamp = Each-at (λ d. c.call.stamp < d.call.stamp) calls a rising.0 i in absurd (omega (arith, ap (λ (d : Granted). d.call.stamp) y, e, lt))
one-call (c ∷ calls) rising a b (inr i) (inr j) e = one-call calls rising.1 a b i j e

-- One after another.
one-of : {A : Type 0} (d e : A) → Some d ≡ Some e → d ≡ e
one-of d e is = ap (λ o. unwrap_or o d) is

pub take-next : {A : Type 0} (xs : List A) (i : ℕ) (x : A) → slice_get xs i ≡ Some x → take (suc i) xs ≡ take i xs ++ x ∷ []
take-next [] i x at = absurd (cc)
take-next {A} (y ∷ ys) zero x at = ap (λ (z : A). z ∷ []) (one-of y x at)
take-next (y ∷ ys) (suc i) x at = ap (λ zs. y ∷ zs) (take-next ys i x at)

take-whole : {A : Type 0} (xs : List A) → take (length xs) xs ≡ xs
take-whole [] = refl
take-whole (x ∷ xs) = ap (λ ys. x ∷ ys) (take-whole xs)

-- what stands before the last, and the last
pub init-last : (xs : List ℕ) (x : ℕ) → slice_get xs (length xs - 1) ≡ Some x → xs ≡ take (length xs - 1) xs ++ x ∷ []
init-last [] x at = absurd (cc)
init-last (y ∷ ys) x at =
    let is : suc (length ys) - 1 ≡ length ys = omega arith in
    sym (take-whole (y ∷ ys)) ∙ take-next (y ∷ ys) (length ys) x (ap (slice_get (y ∷ ys)) (sym is) ∙ at) ∙ ap (λ n. take n (y ∷ ys) ++ x ∷ []) (sym is)
