-- The list that the writer was given, as it grows.
use Rattle.std.proofs.Common.{◌≡◌, ◌⊎◌, ℕ, ◌<◌, ◌≤◌, List, [], ◌∷◌, ◌++◌, length, drop, fold, Option, Some, None, IfSome, IfNone, inl, ⊎_elim, refl, ap, sym, ◌∙◌, subst, arith, length-append, append-nil}
use mathlib.Core.List.{IsPrefix}
use Rattle.std.specs.Prelude.{Result, Ok, Err}
use Rattle.logbook.specs.Pages.{Book}
use Rattle.ft_base.specs.declared.memory.Memory.{Memory}
use Rattle.ft_cells.specs.Plain.{PlainTree}
use Rattle.ft_posix.specs.declared.stamped.StampedCall.{StampedCall}
use Rattle.ft_posix.specs.Exec.{exec}
use Rattle.ft_view.specs.ViewNames.{Views, SeenPrefix}
use Rattle.ft_view.proofs.Prefixes.{prefix_trans, prefix_self}
use Rattle.ft_view.specs.declared.view.Published.{Published}
use Rattle.ft_view.specs.Replay.{replayed}
use Rattle.ft_view.specs.Shown.{Shown, IsReplayOf, IsViewOf, advanced}
use Rattle.ft_serial.specs.CommittedCalls.{GoneOver}
use Rattle.ft_serial.specs.Serials.{committed_in}
use Rattle.ft_shared.specs.Publishing.{Calls, listed, step, ahead, IsPublishable, IsPublishing, IsPublished}

fold_last : {A B : Type 0} (f : A → B → A) (s : A) (xs : List B) (x : B) → fold f s (xs ++ x ∷ []) ≡ f (fold f s xs) x
fold_last f s [] x = refl
fold_last f s (y ∷ ys) x = fold_last f (f s y) ys x

replayed_last : (base : PlainTree) (xs : Calls) (c : StampedCall) → replayed base (xs ++ c ∷ []) ≡ (exec (replayed base xs) c.stamp c.call).0
replayed_last base [] c = refl
replayed_last base (x ∷ xs) c = replayed_last (exec base x.stamp x.call).0 xs c

-- a replay, one call on, is a replay
next_view : (opened : Views) (a : Shown) (c : StampedCall) (front : SeenPrefix) → IsReplayOf opened a → front.book ≡ opened.book → front.calls ≡ a.front.calls ++ c ∷ [] → IsReplayOf opened (advanced a c front)
next_view opened a c front view book is = record {
  book = book;
  tree = ap (λ (t : PlainTree). (exec t c.stamp c.call).0) view.tree ∙ (sym (replayed_last opened.base a.front.calls c) ∙ ap (replayed opened.base) (sym is));
}

longer_by : (held : Option StampedCall) (xs : Calls) → length (xs ++ listed held) ≤ length xs → xs ++ listed held ≡ xs
longer_by None xs le = append-nil xs
longer_by (Some c) xs le = absurd (omega (arith, length-append xs (c ∷ [])))

-- the book has no call more where its list is no longer,
pub told_same : (told fed : Calls) (held : Option StampedCall) → (told ≡ fed) ⊎ (told ≡ fed ++ listed held) → length told ≤ length fed → told ≡ fed
told_same told fed held more short = ⊎_elim (λ (e : told ≡ fed). e) (λ (e : told ≡ fed ++ listed held). e ∙ longer_by held fed (subst (λ (l : Calls). length l ≤ length fed) e short)) more

-- and the call that is held where it is longer
pub told_more : (told fed : Calls) (held : Option StampedCall) → (told ≡ fed) ⊎ (told ≡ fed ++ listed held) → length fed < length told → told ≡ fed ++ listed held
told_more told fed held more long = ⊎_elim (λ (e : told ≡ fed). absurd (omega (arith, ap length e))) (λ (e : told ≡ fed ++ listed held). e) more

-- every list begins with nothing
pub nothing-first : {A : Type 0} (all xs : List A) → xs ≡ [] → IsPrefix xs all
nothing-first all xs e = (all, ap (λ l. l ++ all) e)

-- where nothing was given, both copies are the base
pub nothing_given : (opened : Views) (shows : Calls → Type 0) (book : Book) (shown first : Shown) (behind : ℕ) (log : List Published) (fed told : SeenPrefix) (commits : GoneOver)
    → book ≡ opened.book → told.book ≡ opened.book → told.calls ≡ [] → fed ≡ told → first ≡ record { tree = opened.base; front = told } → shows []
    → shown ≡ first → drop behind log ≡ [] → commits.given ≡ [] → IsPublishing opened shows book shown behind log fed told None commits
nothing_given opened shows book shown first behind log fed told commits book_is told_is empty fed_is first_is whole shown_is pending given =
    let base : shown ≡ record { tree = opened.base; front = told } = shown_is ∙ first_is in
    let calls : shown.front.calls ≡ [] = ap (λ (s : Shown). s.front.calls) base ∙ empty in
    let fed_calls : fed.calls ≡ [] = ap (λ (f : SeenPrefix). f.calls) fed_is ∙ empty in
    let now : ahead shown behind log ≡ shown = ap (fold step shown) pending in
    let replay : IsReplayOf opened shown = record {
      book = ap (λ (s : Shown). s.front.book) base ∙ told_is;
      tree = ap (λ (s : Shown). s.tree) base ∙ sym (ap (replayed opened.base) calls);
    } in
    record {
      of_book = book_is;
      fed_of = ap (λ (f : SeenPrefix). f.book) fed_is ∙ told_is;
      told_of = told_is;
      view = record { replay = replay; whole = subst shows (sym calls) whole };
      next = subst (λ (s : Shown). IsReplayOf opened s) (sym now) replay;
      pending = ap (λ (s : Shown). s.front.calls) now ∙ (calls ∙ sym fed_calls);
      shorter = nothing-first fed.calls shown.front.calls calls;
      more = inl (ap (λ (f : SeenPrefix). f.calls) (sym fed_is));
      given = given ∙ sym (ap (λ (l : Calls). l ++ []) fed_calls);
      stands = nothing-first (committed_in commits.events) commits.given given;
    }

-- what is shown has committed
pub stands_by : (opened : Views) (shows : Calls → Type 0) (book : Book) (shown : Shown) (behind : ℕ) (log : List Published) (fed told : SeenPrefix) (held : Option StampedCall) (commits : GoneOver)
    → IsPublishing opened shows book shown behind log fed told held commits → IsPrefix shown.front.calls (committed_in commits.events)
stands_by opened shows book shown behind log fed told held commits kept =
    let given : IsPrefix fed.calls commits.given = (listed held, sym kept.given) in
    prefix_trans shown.front.calls fed.calls (committed_in commits.events) kept.shorter (prefix_trans fed.calls commits.given (committed_in commits.events) given kept.stands)

-- the next call was taken from the core, where none was held
pub taken_on : (opened : Views) (shows : Calls → Type 0) (book : Book) (shown : Shown) (behind : ℕ) (log : List Published) (fed told : SeenPrefix) (held next : Option StampedCall) (old new : GoneOver)
    → IsPublishing opened shows book shown behind log fed told held old → held ≡ None → new.given ≡ old.given ++ listed next → IsPrefix new.given (committed_in new.events)
    → IsPublishing opened shows book shown behind log fed told next new
taken_on opened shows book shown behind log fed told held next old new kept none more first =
    let nothing : fed.calls ++ listed held ≡ fed.calls = ap (λ (h : Option StampedCall). fed.calls ++ listed h) none ∙ append-nil fed.calls in record {
      of_book = kept.of_book;
      fed_of = kept.fed_of;
      told_of = kept.told_of;
      view = kept.view;
      next = kept.next;
      pending = kept.pending;
      shorter = kept.shorter;
      more = inl (⊎_elim (λ (e : told.calls ≡ fed.calls). e) (λ (e : told.calls ≡ fed.calls ++ listed held). e ∙ nothing) kept.more);
      given = more ∙ ap (λ (l : Calls). l ++ listed next) (kept.given ∙ nothing);
      stands = first;
    }

pub given_is : (next : Option StampedCall) (old new : Calls) → IfSome next (λ call. new ≡ old ++ call ∷ []) → IfNone next (new ≡ old) → new ≡ old ++ listed next
given_is None old new some none = none ∙ sym (append-nil old)
given_is (Some call) old new some none = some

-- no call was taken, for want of memory
pub not_taken : (opened : Views) (shows : Calls → Type 0) (book : Book) (shown : Shown) (behind : ℕ) (log : List Published) (fed told : SeenPrefix) (held : Option StampedCall) (old new : GoneOver)
    → IsPublishing opened shows book shown behind log fed told held old → new.given ≡ old.given → IsPrefix new.given (committed_in new.events) → IsPublishing opened shows book shown behind log fed told held new
not_taken opened shows book shown behind log fed told held old new kept same first = record {
  of_book = kept.of_book;
  fed_of = kept.fed_of;
  told_of = kept.told_of;
  view = kept.view;
  next = kept.next;
  pending = kept.pending;
  shorter = kept.shorter;
  more = kept.more;
  given = same ∙ kept.given;
  stands = first;
}

-- the writer is given the call that is held
pub given_on : (opened : Views) (shows : Calls → Type 0) (book : Book) (shown : Shown) (behind behind' : ℕ) (log log' : List Published) (fed told : SeenPrefix) (held : Option StampedCall) (next : Published) (commits : GoneOver)
    → IsPublishing opened shows book shown behind log fed told held commits → held ≡ Some next.call → drop behind' log' ≡ drop behind log ++ next ∷ [] → next.front ≡ told → told.calls ≡ fed.calls ++ next.call ∷ []
    → IsPublishing opened shows book shown behind' log' told told None commits
given_on opened shows book shown behind behind' log log' fed told held next commits kept held_is more front is =
    let now = ahead shown behind log in
    let then : ahead shown behind' log' ≡ step now next = ap (fold step shown) more ∙ fold_last step shown (drop behind log) next in
    let calls : next.front.calls ≡ now.front.calls ++ next.call ∷ [] = ap (λ (f : SeenPrefix). f.calls) front ∙ (is ∙ ap (λ (l : Calls). l ++ next.call ∷ []) (sym kept.pending)) in
    record {
      of_book = kept.of_book;
      fed_of = kept.told_of;
      told_of = kept.told_of;
      view = kept.view;
      next = subst (λ (s : Shown). IsReplayOf opened s) (sym then) (next_view opened now next.call next.front kept.next (ap (λ (f : SeenPrefix). f.book) front ∙ kept.told_of) calls);
      pending = ap (λ (s : Shown). s.front.calls) then ∙ ap (λ (f : SeenPrefix). f.calls) front;
      shorter = prefix_trans shown.front.calls fed.calls told.calls kept.shorter (next.call ∷ [], sym is);
      more = inl refl;
      given = kept.given ∙ (ap (λ (h : Option StampedCall). fed.calls ++ listed h) held_is ∙ (sym is ∙ sym (append-nil told.calls)));
      stands = kept.stands;
    }

-- what the writer was given may be shown where it is whole
pub may_be_shown : (opened : Views) (shows : Calls → Type 0) (book : Book) (shown : Shown) (behind : ℕ) (log : List Published) (fed told : SeenPrefix) (held : Option StampedCall) (commits : GoneOver)
    → IsPublishing opened shows book shown behind log fed told held commits → shows fed.calls → IsPublishable opened shows shown behind log
may_be_shown opened shows book shown behind log fed told held commits kept whole = record { next = record { replay = kept.next; whole = subst shows (sym kept.pending) whole } }

-- the views once what was pending is shown, or where it is not
pub shown_on : (opened : Views) (shows : Calls → Type 0) (book : Book) (shown shown' : Shown) (behind behind' : ℕ) (log log' : List Published) (fed told : SeenPrefix) (held : Option StampedCall) (commits : GoneOver) (result : Result (Unit {0}) Memory)
    → IsPublishing opened shows book shown behind log fed told held commits → IsPublishable opened shows shown behind log → IsPublished shown behind log shown' behind' log' result → IsPublishing opened shows book shown' behind' log' fed told held commits
shown_on opened shows book shown shown' behind behind' log log' fed told held commits (Ok x) kept whole p =
    let then : ahead shown' behind' log' ≡ ahead shown behind log = ap (fold step shown') p.ok.1 ∙ p.ok.0 in record {
      of_book = kept.of_book;
      fed_of = kept.fed_of;
      told_of = kept.told_of;
      view = subst (λ (s : Shown). IsViewOf opened shows s) (sym p.ok.0) whole.next;
      next = subst (λ (s : Shown). IsReplayOf opened s) (sym then) kept.next;
      pending = ap (λ (s : Shown). s.front.calls) then ∙ kept.pending;
      shorter = subst (λ (l : Calls). IsPrefix l fed.calls) (sym (ap (λ (s : Shown). s.front.calls) p.ok.0 ∙ kept.pending)) (prefix_self fed.calls);
      more = kept.more;
      given = kept.given;
      stands = kept.stands;
    }
shown_on opened shows book shown shown' behind behind' log log' fed told held commits (Err x) kept whole p =
    let then : ahead shown' behind' log' ≡ ahead shown behind log = ap (λ (s : Shown). fold step s (drop behind' log')) p.err.0 ∙ ap (fold step shown) p.err.1 in record {
      of_book = kept.of_book;
      fed_of = kept.fed_of;
      told_of = kept.told_of;
      view = subst (λ (s : Shown). IsViewOf opened shows s) (sym p.err.0) kept.view;
      next = subst (λ (s : Shown). IsReplayOf opened s) (sym then) kept.next;
      pending = ap (λ (s : Shown). s.front.calls) then ∙ kept.pending;
      shorter = subst (λ (s : Shown). IsPrefix s.front.calls fed.calls) (sym p.err.0) kept.shorter;
      more = kept.more;
      given = kept.given;
      stands = kept.stands;
    }
