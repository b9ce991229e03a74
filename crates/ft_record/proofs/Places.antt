-- How many places for events a legal history wants to be kept.
use Rattle.std.proofs.Common.{◌≡◌, ◌<◌, ◌≤◌, ◌+◌, ℕ, Bool, true, false, not, cond, ◌&&◌, ◌||◌, ◌==◌, List, [], ◌∷◌, Option, Some, None, is_some, length, arith, refl, sym, ap, ◌∙◌, eq-eqb, ne_eqb}
use Rattle.std.proofs.lemmas.Bool.{and_parts, and_from}
use Rattle.ft_laws.specs.Lists.{In}
use Rattle.ft_laws.proofs.Lists.{Each-from, Each-at}
use Rattle.ft_posix.specs.Posix.{HasSoundValues, posix_calls}
use Rattle.ft_history.specs.Forest.{is_some_and}
use Rattle.ft_history.specs.History.{Base as HistoryBase, Fate, last_transaction, last_stamp, begun, over, parent, fate, is_live, IsLive, owner_of, grants, is_gone, is_undone, is_standing, standing, number}
use Rattle.ft_history.specs.History.Fate.{Live, Committed, Aborted}
use Rattle.ft_history.specs.History.Event.{Begin as WasBegun, Call as WasGranted, Undo as WasUndone, Commit as WasCommitted, Abort as WasAborted}
use Rattle.ft_history.specs.Legal.{Legal, MayBegin, MayCommit}
use Rattle.ft_history.specs.Fates.{AreNumbered}
use Rattle.ft_history.specs.Logs.{passing, put}
use Rattle.ft_history.specs.Promises.{calls_below}
use Rattle.ft_history.proofs.Aborting.{ended}
use Rattle.ft_history.proofs.Fates.{numbered, fate_rules}
use Rattle.ft_history.proofs.Kept.{is_under}
use Rattle.ft_history.proofs.Words.{moved, not_true, put_same, put_other, passing_twice, passing-In}
use Rattle.ft_history.proofs.Living.{lived}
use Rattle.ft_history.proofs.Legal.{sound_all}
use Rattle.ft_history.proofs.History.{Sound, laws, stands, live_owner, begin_gone, begin_owner, commit_owner, abort_under, abort_owner}
use Rattle.ft_core.specs.Histories.{History, Granted}
use Rattle.ft_core.specs.States.{Base}
use Rattle.ft_core.specs.Kept.{IsStarted, start_of}
use Rattle.ft_record.specs.Recent.{is_owned, events_kept, freed_below}
use Rattle.ft_core.specs.Laws.{CallLaws}
use Rattle.ft_core.proofs.Counts.{as-many, one-pushed, one-fewer, parted}
use Rattle.ft_core.proofs.Joining.{sound_values}

with_false : (b : Bool) → (b && false) ≡ false
with_false true = refl
with_false false = refl

with_true : (b : Bool) → (b && true) ≡ b
with_true true = refl
with_true false = refl

-- who is live after an abort
still-live : (a : Bool) (o : Option Fate) → is_live (cond (a && is_live o) (Some Aborted) o) ≡ (is_live o && not a)
still-live true None = refl
still-live true (Some Live) = refl
still-live true (Some Committed) = refl
still-live true (Some Aborted) = refl
still-live false o = sym (with_true (is_live o))

-- Owners after a commit.

moved-top : (t : ℕ) (o : Option ℕ) → is_some (moved t None o) ≡ (is_some o && not (is_some_and o (λ x. x == t)))
moved-top t None = refl
moved-top t (Some x) = by (x == t)
  where
    by : (b : Bool) → is_some (cond b None (Some x)) ≡ not b
    by true = refl
    by false = refl

moved-below : (t p : ℕ) (o : Option ℕ) → is_some (moved t (Some p) o) ≡ is_some o
moved-below t p None = refl
moved-below t p (Some x) = by (x == t)
  where
    by : (b : Bool) → is_some (cond b (Some p) (Some x)) ≡ true
    by true = refl
    by false = refl

grouped : (a b c : Bool) → (a && (b && c)) ≡ ((a && b) && c)
grouped true b c = refl
grouped false b c = refl

-- a standing call that has this owner
owned-so : (a : Bool) (o : Option ℕ) (f : ℕ → Bool) → ((a && is_some o) && is_some_and o f) ≡ cond a (is_some_and o f) false
owned-so true None f = refl
owned-so true (Some x) f = refl
owned-so false o f = refl

-- Owners after an abort.

still-owned : (undone gone a under : Bool) (o : Option ℕ) → (gone ≡ false → under ≡ a) → ((not undone && not (a || gone)) && is_some (cond under None o)) ≡ (((not undone && not gone) && is_some o) && not a)
still-owned true gone a under o same = refl
still-owned false true true under o same = refl
still-owned false true false under o same = refl
still-owned false false true under o same = sym (with_false (is_some o))
still-owned false false false under o same = ap (λ b. is_some (cond b None o)) (same refl) ∙ sym (with_true (is_some o))

-- a standing call below a live transaction has an owner
owned-below : (above : ℕ → ℕ → Bool) (t : ℕ) (s a : Bool) (o : Option ℕ) → (s ≡ true → is_under above t o ≡ a) → ((s && is_some o) && a) ≡ cond s a false
owned-below above t false a o same = refl
owned-below above t true a None same = same refl
owned-below above t true a (Some x) same = refl

ended-is : (above : ℕ → ℕ → Bool) (t : ℕ) (o : Option ℕ) → ended above t o ≡ cond (is_under above t o) None o
ended-is above t None = refl
ended-is above t (Some x) = refl

module _ (W : CallLaws) {base : Base} {h : History} {last_txn last_number : ℕ} (started : IsStarted base h last_txn last_number) (legal : Legal posix_calls (start_of base started.store) h) where
  abbrev from : HistoryBase posix_calls
  from = start_of base started.store

  with_values : HasSoundValues from.store
  with_values = sound_values started.store started.sound

  pub sound : Sound posix_calls W.lawful from h
  sound = sound_all posix_calls W.lawful from with_values h legal

  numbers : AreNumbered posix_calls base.last_txn h
  numbers = numbered posix_calls W.lawful from with_values h legal

  live-begun : (t : ℕ) → IsLive posix_calls base.last_txn h t → In t (begun posix_calls h)
  live-begun t live = let about = lived posix_calls base.last_txn h t live in sound.numbers_all t about.since about.begun

  abbrev lives : History → ℕ → Bool
  lives g x = is_live (fate posix_calls base.last_txn g x)

  -- the owner of the call is t
  abbrev is_owner : ℕ → Granted → Bool
  is_owner t c = is_some_and (owner_of posix_calls h c.asker) (λ o. o == t)

  -- how many calls t owns
  abbrev owned : ℕ → ℕ
  owned t = length (passing (is_owner t) (standing posix_calls h))

  -- how many live transactions are at or below t
  abbrev live-below : ℕ → ℕ
  live-below t = length (passing (over posix_calls h t) (passing (lives h) (begun posix_calls h)))

  -- Fewer events are to come.

  module _ (t : ℕ) (may : MayCommit posix_calls base.last_txn h t) where
    lives-commit : length (passing (lives (WasCommitted t ∷ h)) (begun posix_calls h)) + 1 ≡ length (passing (lives h) (begun posix_calls h))
    lives-commit =
        let fates = fate_rules posix_calls W.lawful from with_values h (WasCommitted t) (may, legal) in
        one-fewer (lives (WasCommitted t ∷ h)) (lives h) (λ x. x) (begun posix_calls h) t sound.numbers_rise (live-begun t may.live)
        (ap is_live (fates t ∙ put_same (fate posix_calls base.last_txn h) t (Some Committed) t refl))
        (ap is_live may.live)
        (λ x ne. ap is_live (fates x ∙ put_other (fate posix_calls base.last_txn h) t (Some Committed) x ne))

    owner-is : (up : Option ℕ) → parent posix_calls h t ≡ up → (c : Granted) → is_owned (WasCommitted t ∷ h) c ≡ (is_standing posix_calls h c && is_some (moved t up (owner_of posix_calls h c.asker)))
    owner-is up top c = ap (λ o. is_standing posix_calls h c && is_some o) (commit_owner posix_calls W.lawful from h sound t may c.asker ∙ ap (λ u. moved t u (owner_of posix_calls h c.asker)) top)

    owned-commit : (up : Option ℕ) → parent posix_calls h t ≡ up → length (passing (is_owned (WasCommitted t ∷ h)) (grants posix_calls h)) + freed_below up (owned t) ≡ length (passing (is_owned h) (grants posix_calls h))
    owned-commit None top =
        let parts = parted (is_owned (WasCommitted t ∷ h)) (is_owned h) (is_owner t) (grants posix_calls h)
        (Each-from (λ c. is_owned (WasCommitted t ∷ h) c ≡ (is_owned h c && not (is_owner t c))) (grants posix_calls h)
        (λ c i. owner-is None top c ∙ ap (λ b. is_standing posix_calls h c && b) (moved-top t (owner_of posix_calls h c.asker)) ∙ grouped (is_standing posix_calls h c) (is_some (owner_of posix_calls h c.asker)) (not (is_owner t c)))) in
        let own = ap length (passing_twice (is_standing posix_calls h) (is_owner t) (λ c. is_owned h c && is_owner t c) (grants posix_calls h)
        (Each-from (λ c. (is_owned h c && is_owner t c) ≡ cond (is_standing posix_calls h c) (is_owner t c) false) (grants posix_calls h)
        (λ c i. owned-so (is_standing posix_calls h c) (owner_of posix_calls h c.asker) (λ o. o == t)))) in
        omega arith
    owned-commit (Some p) top =
        let same = as-many (is_owned (WasCommitted t ∷ h)) (is_owned h) (grants posix_calls h)
        (Each-from (λ c. is_owned (WasCommitted t ∷ h) c ≡ is_owned h c) (grants posix_calls h)
        (λ c i. owner-is (Some p) top c ∙ ap (λ b. is_standing posix_calls h c && b) (moved-below t p (owner_of posix_calls h c.asker)))) in
        omega arith

    pub events-commit : events_kept base.last_txn (WasCommitted t ∷ h) + 1 + freed_below (parent posix_calls h t) (owned t) ≡ events_kept base.last_txn h
    events-commit = let live = lives-commit in let own = owned-commit (parent posix_calls h t) refl in omega arith

  module _ (t : ℕ) (live : IsLive posix_calls base.last_txn h t) where
    lives-abort : length (passing (lives (WasAborted t ∷ h)) (begun posix_calls h)) + live-below t ≡ length (passing (lives h) (begun posix_calls h))
    lives-abort =
        let fates = fate_rules posix_calls W.lawful from with_values h (WasAborted t) (live, legal) in
        let parts = parted (lives (WasAborted t ∷ h)) (lives h) (over posix_calls h t) (begun posix_calls h)
        (Each-from (λ x. lives (WasAborted t ∷ h) x ≡ (lives h x && not (over posix_calls h t x))) (begun posix_calls h)
        (λ x i. ap is_live (fates x) ∙ still-live (over posix_calls h t x) (fate posix_calls base.last_txn h x))) in
        let below = ap length (passing_twice (lives h) (over posix_calls h t) (λ x. lives h x && over posix_calls h t x) (begun posix_calls h)
        (Each-from (λ x. (lives h x && over posix_calls h t x) ≡ cond (lives h x) (over posix_calls h t x) false) (begun posix_calls h)
        (λ x i. as-cond (lives h x) (over posix_calls h t x)))) in
        omega arith
      where
        as-cond : (a b : Bool) → (a && b) ≡ cond a b false
        as-cond true b = refl
        as-cond false b = refl

    owned-abort : length (passing (is_owned (WasAborted t ∷ h)) (grants posix_calls h)) + calls_below posix_calls h t ≡ length (passing (is_owned h) (grants posix_calls h))
    owned-abort =
        let parts = parted (is_owned (WasAborted t ∷ h)) (is_owned h) (λ (c : Granted). over posix_calls h t c.asker) (grants posix_calls h)
        (Each-from (λ (c : Granted). is_owned (WasAborted t ∷ h) c ≡ (is_owned h c && not (over posix_calls h t c.asker))) (grants posix_calls h)
        (λ c i. ap (λ o. is_standing posix_calls (WasAborted t ∷ h) c && is_some o) (abort_owner posix_calls W.lawful from h sound t live c.asker ∙ ended-is (over posix_calls h) t (owner_of posix_calls h c.asker))
        ∙ still-owned (is_undone posix_calls h (number posix_calls c)) (is_gone posix_calls h c.asker) (over posix_calls h t c.asker) (is_under (over posix_calls h) t (owner_of posix_calls h c.asker)) (owner_of posix_calls h c.asker)
        (abort_under posix_calls W.lawful from h sound t live c.asker))) in
        let below = ap length (passing_twice (is_standing posix_calls h) (λ (c : Granted). over posix_calls h t c.asker) (λ c. is_owned h c && over posix_calls h t c.asker) (grants posix_calls h)
        (Each-from (λ (c : Granted). (is_owned h c && over posix_calls h t c.asker) ≡ cond (is_standing posix_calls h c) (over posix_calls h t c.asker) false) (grants posix_calls h)
        (λ c i. owned-below (over posix_calls h) t (is_standing posix_calls h c) (over posix_calls h t c.asker) (owner_of posix_calls h c.asker)
        (λ e. abort_under posix_calls W.lawful from h sound t live c.asker (not_true (is_gone posix_calls h c.asker) (and_parts (not (is_undone posix_calls h (number posix_calls c))) (not (is_gone posix_calls h c.asker)) e).1))))) in
        omega arith

    pub events-abort : events_kept base.last_txn (WasAborted t ∷ h) + live-below t + calls_below posix_calls h t ≡ events_kept base.last_txn h
    events-abort = let lives = lives-abort in let own = owned-abort in omega arith

    -- t itself is among them
    pub some-below : 0 < live-below t
    some-below = not-none (passing (over posix_calls h t) (passing (lives h) (begun posix_calls h)))
        (passing-In (over posix_calls h t) t (passing (lives h) (begun posix_calls h)) (passing-In (lives h) t (begun posix_calls h) (live-begun t live) (ap is_live live)) ((laws posix_calls W.lawful from h sound).itself t))
      where
        not-none : (xs : List ℕ) → In t xs → 0 < length xs
        not-none [] i = absurd i
        not-none (x ∷ xs) i = omega arith

  pub events-undo : (t : ℕ) (d : Granted) → IsLive posix_calls base.last_txn h t → In d (standing posix_calls h) → d.asker ≡ t → events_kept base.last_txn (WasUndone (number posix_calls d) ∷ h) + 1 ≡ events_kept base.last_txn h
  events-undo t d live there asker =
      let k = number posix_calls d in
      let about = stands posix_calls W.lawful from h sound d there in
      let owned : is_owned h d ≡ true = and_from (is_standing posix_calls h d) (is_some (owner_of posix_calls h d.asker)) about.1 (ap is_some (ap (owner_of posix_calls h) asker ∙ live_owner posix_calls W.lawful from h sound t live)) in
      let gone : is_owned (WasUndone k ∷ h) d ≡ false = ap (λ b. (not (b || is_undone posix_calls h k) && not (is_gone posix_calls h d.asker)) && is_some (owner_of posix_calls h d.asker)) (eq-eqb k k refl) in
      let less = one-fewer (is_owned (WasUndone k ∷ h)) (is_owned h) (number posix_calls) (grants posix_calls h) d sound.rising about.0 gone owned
      (λ c ne. ap (λ b. (not (b || is_undone posix_calls h (number posix_calls c)) && not (is_gone posix_calls h c.asker)) && is_some (owner_of posix_calls h c.asker)) (ne_eqb (number posix_calls c) k ne)) in
      omega arith

  -- one more is to come
  pub events-call : (c : Granted) → IsLive posix_calls base.last_txn h c.asker → last_stamp posix_calls base.last_stamp h < number posix_calls c → events_kept base.last_txn (WasGranted c ∷ h) ≡ events_kept base.last_txn h + 1
  events-call c live next =
      let there = (lived posix_calls base.last_txn h c.asker live).there in
      let more = one-pushed (is_owned h) (grants posix_calls h) c
      (λ i. (not (sound.undone_old (number posix_calls c) next i) && not (there i)) && is_some (live_owner posix_calls W.lawful from h sound c.asker live i)) in
      omega arith

  module _ (n : ℕ) (up : Option ℕ) (may : MayBegin posix_calls base.last_txn h n up) (next : n ≡ last_txn + 1) where
    abbrev after : History
    after = WasBegun n up ∷ h

    fates : (x : ℕ) → fate posix_calls base.last_txn after x ≡ put (fate posix_calls base.last_txn h) n (Some Live) x
    fates = fate_rules posix_calls W.lawful from with_values h (WasBegun n up) (may, legal)

    same-owned : (c : Granted) → In c (grants posix_calls h) → is_owned after c ≡ is_owned h c
    same-owned c i =
        let known = Each-at (λ (d : Granted). d.asker ≤ last_transaction posix_calls base.last_txn h) (grants posix_calls h) c sound.askers i in
        let gone = begin_gone posix_calls W.lawful from h sound n up may c.asker known in
        let owner = begin_owner posix_calls W.lawful from h sound n up may c.asker known in
        (λ x. (not (is_undone posix_calls h (number posix_calls c)) && not (gone x)) && is_some (owner x))

    pub events-begin : events_kept base.last_txn after ≡ events_kept base.last_txn h + 1
    events-begin =
        let more = one-pushed (lives after) (begun posix_calls h) n (ap is_live (fates n ∙ put_same (fate posix_calls base.last_txn h) n (Some Live) n refl)) in
        let others = as-many (lives after) (lives h) (begun posix_calls h)
        (Each-from (λ x. lives after x ≡ lives h x) (begun posix_calls h)
        (λ x i.
        let last = (numbers.complete x).0 i in
        let last_is = started.last_txn_is in
        let le = last.1 in
        ap is_live (fates x ∙ put_other (fate posix_calls base.last_txn h) n (Some Live) x (λ is. absurd (omega arith))))) in
        let own = as-many (is_owned after) (is_owned h) (grants posix_calls h) (Each-from (λ c. is_owned after c ≡ is_owned h c) (grants posix_calls h) same-owned) in
        omega arith
