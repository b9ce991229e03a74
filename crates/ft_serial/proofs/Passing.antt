-- The next event of a core is gone over.
use Rattle.std.proofs.Common.{◌≡◌, ◌<◌, ◌≤◌, ◌+◌, ℕ, zero, suc, Some, List, [], ◌∷◌, ◌++◌, length, take, drop, get_or, refl, sym, ap, subst, ◌∙◌, arith}
use Rattle.std.specs.Prelude.{slice_get}
use Rattle.std.proofs.lemmas.Option.{slice_get-get_or}
use Rattle.std.proofs.lemmas.List.{take-append-drop}
use Rattle.ft_posix.specs.declared.stamped.StampedCall.{StampedCall}
use Rattle.ft_posix.specs.Posix.{posix_calls}
use Rattle.ft_history.specs.Forest.{root}
use Rattle.ft_history.specs.History.{last_transaction, parent}
use Rattle.ft_history.specs.Legal.{Legal}
use Rattle.ft_core.specs.declared.request.Event.{Event}
use Rattle.ft_core.specs.Histories.{History, as_happening, told, told_after}
use Rattle.ft_core.specs.States.{StoredState, history}
use Rattle.ft_core.specs.Reached.{IsReached}
use Rattle.ft_core.proofs.Told.{told-push, told_after-append}
use Rattle.ft_serial.specs.declared.walk.Walk.{Walk}
use Rattle.ft_serial.specs.Walks.{IsWalk, IsWalkOf}
use Rattle.ft_serial.proofs.Listing.{take-next}
use Rattle.ft_serial.proofs.Lasting.{legal-before, top-later}
use Rattle.ft_serial.proofs.Reaching.{start, values}

get-drop : (n : ℕ) (xs : List Event) (i : ℕ) → slice_get (drop n xs) i ≡ slice_get xs (n + i)
get-drop zero xs i = let is : i ≡ 0 + i = omega arith in ap (slice_get xs) is
get-drop (suc n) [] i = refl
get-drop (suc n) (x ∷ xs) i = let is : suc (n + i) ≡ suc n + i = omega arith in get-drop n xs i ∙ ap (slice_get (x ∷ xs)) is

-- the event at a place among those that are not forgotten
pub event-at : (xs ys : List Event) (n i : ℕ) (r e : Event) → xs ≡ drop n ys → i < length xs → r ≡ get_or xs i r → r ≡ e → slice_get ys (n + i) ≡ Some e
event-at xs ys n i r e same lt there is = sym (get-drop n ys i) ∙ ap (λ (zs : List Event). slice_get zs i) (sym same) ∙ slice_get-get_or xs i r lt ∙ ap Some (sym there ∙ is)

module _ (core : StoredState) (reached : IsReached core) (n : ℕ) (e : Event) (at : slice_get core.state.events n ≡ Some e) where
  abbrev pub first : List Event
  first = take n core.state.events

  abbrev rest : List Event
  rest = drop (suc n) core.state.events

  split : core.state.events ≡ (first ++ e ∷ []) ++ rest
  split = sym (take-append-drop (suc n) core.state.events) ∙ ap (λ xs. xs ++ rest) (take-next core.state.events n e at)

  whole : history core.state ≡ told_after (as_happening e ∷ told first) rest
  whole = ap told split ∙ told_after-append [] (first ++ e ∷ []) rest ∙ ap (λ (h : History). told_after h rest) (told-push first e)

  all : Legal posix_calls (start core reached) (told_after (as_happening e ∷ told first) rest)
  all = subst (Legal posix_calls (start core reached)) whole reached.legal

  pub next-legal : Legal posix_calls (start core reached) (as_happening e ∷ told first)
  next-legal = legal-before (start core reached) (as_happening e ∷ told first) rest all

  -- the top-level transaction in the whole history is that in the first part
  pub same-top : (t : ℕ) → t ≤ last_transaction posix_calls core.state.base.last_txn (told first) → root (parent posix_calls (history core.state)) t ≡ root (parent posix_calls (told first)) t
  same-top t le =
      ap (λ (h : History). root (parent posix_calls h) t) whole
      ∙ top-later (start core reached) (values core reached) (told first) (e ∷ rest) all t le

  pub gone-over : (forgotten : ℕ) (w : Walk) (given : List StampedCall) → forgotten + w.passed ≡ n + 1 → IsWalk forgotten w (first ++ e ∷ []) given → IsWalkOf forgotten w core.state given
  gone-over forgotten w given passed walk = subst (λ (es : List Event). IsWalk forgotten w es given) (sym (ap (λ m. take m core.state.events) (passed ∙ next) ∙ take-next core.state.events n e at)) walk
    where
      next : n + 1 ≡ suc n
      next = omega arith
