-- What lacks a part of a rule, or turns it, is false of the tiny tree.
use Rattle.std.proofs.Common.{◌≡◌, ◌<◌, ◌≤◌, ℕ, Bool, true, false, cond, ◌==◌, ◌&&◌, Option, Some, None, [], ◌∷◌, inl, inr, sym, refl, ap, ◌∙◌, subst, arith, eqb-true}
use Rattle.std.proofs.lemmas.Bool.{false≢true}
use Rattle.ft_laws.specs.Lists.{In}
use Rattle.ft_laws.specs.Calls.{Done, Fits}
use Rattle.ft_laws.specs.Laws.{Hides, is_hidden}
use Rattle.ft_laws.specs.Tiny.{Store, Cell, Reply, is_file, names, blank, empty, tiny_calls}
use Rattle.ft_laws.specs.Tiny.Node.{FileNode}
use Rattle.ft_laws.specs.Tiny.What.{Mkdir, Create, Unlink, Stat}
use Rattle.ft_laws.specs.Tiny.Cell.{Entry, Parent, Links, Bytes}
use Rattle.ft_laws.proofs.Tiny.{empty_sound, empty_ready}
use Rattle.ft_history.specs.History.{over, IsLive, owner_of}
use Rattle.ft_history.specs.History.Event.{Begin, Call, Commit, Abort}
use Rattle.ft_history.specs.Legal.{Legal}
use Rattle.ft_history.specs.Core.{Entry as Taken, machine}
use Rattle.ft_history.specs.Example.{Events, start, asked, with_directory}
use Rattle.ft_history.specs.Without.{WeakOwnership, AbortOldestFirst, AbortRising, AbortOwnAlone, AbortLeavesDescendants, CommitInFront, LooselyLegal, LocksLetGo, RevertOverChild, SerialReversed, SweepLocked, UndoOverChild, UndoPastCommit}
use Rattle.ft_history.proofs.Owning.{owned}
use Rattle.ft_history.proofs.Words.{same_some, none_some}
use Rattle.ft_history.proofs.Example.{is_granted, directory_legal}

missing_not : Reply.NoEntry ≡ Reply.Success → ⊥
missing_not e = cc

no_file : (i : ℕ) (l b : Option ℕ) → Reply.NoEntry ≡ Reply.FileInfo i l b → ⊥
no_file i l b e = cc

-- 1 makes the directory 0, and 2 makes a file in it.
abbrev made_first : Done tiny_calls
made_first = asked [] 1 2 (Mkdir None 0)

abbrev made_in_it : Done tiny_calls
made_in_it = asked (Call made_first ∷ []) 2 3 (Create (Some 0) 2)

-- without the directory the file isn't made
not_alone : Fits tiny_calls empty made_in_it → ⊥
not_alone fit = missing_not fit.reply

-- 1 owns its calls, and 2 has committed at the top
abbrev first_owner : Done tiny_calls → Option ℕ
first_owner c = cond (c.asker == 1) (Some 1) None

pub weak_ownership : WeakOwnership tiny_calls → ⊥
weak_ownership h = not_alone (h (λ y x. y == x) first_owner empty (made_first ∷ made_in_it ∷ []) 1
    (record { sound = empty_sound; ready = (empty_ready 2 (Mkdir None 0) (omega arith) (omega arith), (empty_ready 3 (Create (Some 0) 2) (omega arith) (omega arith), tt)); distinct = (((λ e. absurd (omega arith)), tt), (tt, tt)) })
    (record { accesses = refl; reply = refl }, (record { accesses = refl; reply = refl }, tt))
    (((λ k. tt), tt), (tt, tt))).0

-- 1 makes a file and takes it away.
abbrev alone : Events
alone = Begin 1 None ∷ []

abbrev file_made : Events
file_made = Call (asked alone 1 2 (Create None 0)) ∷ alone

abbrev file_gone : Events
file_gone = Call (asked file_made 1 3 (Unlink None 0)) ∷ file_made

alone_legal : Legal tiny_calls start alone
alone_legal = (record { next = refl; live = λ q e. absurd (none_some q e) }, tt)

made_legal : Legal tiny_calls start file_made
made_legal = (is_granted alone 1 2 (Create None 0) refl (omega arith) (omega arith) (omega arith) refl, alone_legal)

-- 1's own lock isn't in its way
own_way : (h : Events) (y : ℕ) → Some 1 ≡ Some y → over tiny_calls h 1 1 ≡ true → over tiny_calls h y 1 ≡ true
own_way h y e k = subst (λ z. over tiny_calls h z 1 ≡ true) (same_some 1 y e) k

gone_legal : Legal tiny_calls start file_gone
gone_legal = (
  is_granted file_made 1 3 (Unlink None 0) refl (omega arith) (omega arith) tt refl,
  made_legal,
)

entry_not : {A : Type 0} {x : A} → None ≡ Some x → ⊥
entry_not e = cc

pub abort_oldest_first : AbortOldestFirst tiny_calls → ⊥
abort_oldest_first h = entry_not (h start empty_sound file_gone gone_legal 1 refl (Entry 1 0))

-- 1 makes a file, and its child 2 takes it away.
abbrev nested : Events
nested = Begin 2 (Some 1) ∷ Begin 1 None ∷ []

abbrev parent_made : Events
parent_made = Call (asked nested 1 2 (Create None 0)) ∷ nested

abbrev child_took : Events
child_took = Call (asked parent_made 2 3 (Unlink None 0)) ∷ parent_made

nested_legal : Legal tiny_calls start nested
nested_legal = (
  record { next = refl; live = λ q e. subst (IsLive tiny_calls start.transaction (Begin 1 None ∷ [])) (same_some 1 q e) refl },
  alone_legal,
)

child_took_legal : Legal tiny_calls start child_took
child_took_legal = (
  is_granted parent_made 2 3 (Unlink None 0) refl (omega arith) (omega arith) tt refl,
  (
    is_granted nested 1 2 (Create None 0) refl (omega arith) (omega arith) (omega arith) refl,
    nested_legal,
  ),
)

pub abort_rising : AbortRising tiny_calls → ⊥
abort_rising h = entry_not (h start empty_sound child_took child_took_legal 1 refl (Entry 1 0))

-- The entry of the file isn't as its call left it.
pub revert_over_child : RevertOverChild tiny_calls → ⊥
revert_over_child h =
    let made : Taken tiny_calls = record { done = asked nested 1 2 (Create None 0); inverse = tiny_calls.inverse empty (asked nested 1 2 (Create None 0)).call } in
    entry_not ((h start empty_sound child_took child_took_legal 1 made [] refl refl).0)

pub commit_in_front : CommitInFront tiny_calls → ⊥
commit_in_front h =
    let front = h start empty_sound child_took child_took_legal 2 1 refl (record { live = refl; no_child = refl }) in
    let wrong : 3 < 2 = front.0.0.1 refl in
    absurd (omega arith)

-- The parent makes a file, and its child looks at it, and may commit.
abbrev seen_file : Done tiny_calls
seen_file = asked parent_made 2 3 (Stat None 0)

abbrev child_looked : Events
child_looked = Call seen_file ∷ parent_made

parent_made_legal : Legal tiny_calls start parent_made
parent_made_legal = child_took_legal.1

child_looked_legal : Legal tiny_calls start child_looked
child_looked_legal = (
  is_granted parent_made 2 3 (Stat None 0) refl (omega arith) (omega arith) tt refl,
  parent_made_legal,
)

-- without the file the look has another reply
not_seen : Fits tiny_calls empty seen_file → ⊥
not_seen fit = no_file 2 (Some 1) (Some 0) fit.reply

pub undo_over_child : UndoOverChild tiny_calls → ⊥
undo_over_child h = not_seen (h start empty_sound child_looked child_looked_legal 1 (asked nested 1 2 (Create None 0)) refl refl).0

pub undo_past_commit : UndoPastCommit tiny_calls → ⊥
undo_past_commit h = not_seen (h start empty_sound (Commit 2 ∷ child_looked)
    (record { live = refl; no_child = refl }, child_looked_legal) 1 (asked nested 1 2 (Create None 0))
    refl refl (inl refl) refl own_older).0
  where
    own_older : (c : Done tiny_calls) → In c (asked nested 1 2 (Create None 0) ∷ seen_file ∷ []) → c.asker ≡ 1 → c.call.stamp ≤ 2
    own_older c (inl e) own = let is = ap (λ d. d.call.stamp) e in omega arith
    own_older c (inr (inl e)) own = let is = ap (λ d. d.asker) e in absurd (omega arith)
    own_older c (inr (inr e)) own = absurd e

-- The child makes a directory, and commits.
abbrev child_made : Events
child_made = Call (asked nested 2 2 (Mkdir None 0)) ∷ nested

child_made_legal : Legal tiny_calls start child_made
child_made_legal = (is_granted nested 2 2 (Mkdir None 0) refl (omega arith) (omega arith) (omega arith) refl, nested_legal)

child_done_legal : Legal tiny_calls start (Commit 2 ∷ child_made)
child_done_legal = (record { live = refl; no_child = refl }, child_made_legal)

pub abort_leaves_descendants : AbortLeavesDescendants tiny_calls → ⊥
abort_leaves_descendants h = entry_not (h start empty_sound child_made child_made_legal 1 refl (Entry 1 0))

pub abort_own_alone : AbortOwnAlone tiny_calls → ⊥
abort_own_alone h = entry_not (h start empty_sound (Commit 2 ∷ child_made) child_done_legal 1 refl (Entry 1 0))

-- 2, a child of 1, makes a directory and commits, 3 makes a file in it, and 1 aborts.
abbrev handed_up : Events
handed_up = Commit 2 ∷ with_directory

abbrev made_by_third : Done tiny_calls
made_by_third = asked handed_up 3 3 (Create (Some 0) 2)

loosely_made : LooselyLegal tiny_calls start (Abort 1 ∷ Call made_by_third ∷ handed_up)
loosely_made = (
  refl,
  (
    record {
      live = refl;
      next = omega arith;
      ready = empty_ready 3 (Create (Some 0) 2) (omega arith) (omega arith);
      fits = record { accesses = refl; reply = refl };
      unblocked = λ y k.
          let held = owned tiny_calls handed_up y (λ a. a == y) (λ f. tiny_calls.conflict f made_by_third.accesses) k in
          elim (held.granted) [
            | inl e ↦
                let two : y ≡ 2 = sym (eqb-true held.call.asker y held.asker) ∙ ap (λ c. c.asker) e in
                let one : 1 ≡ y = same_some 1 y (sym (ap (λ c. owner_of tiny_calls handed_up c.asker) e) ∙ held.owner) in
                absurd (omega arith)
            | inr none ↦ absurd none
          ];
    },
    (
      record { live = refl; no_child = refl },
      (
        record {
          live = refl;
          next = omega arith;
          ready = empty_ready 2 (Mkdir None 0) (omega arith) (omega arith);
          fits = record { accesses = refl; reply = refl };
          unblocked = λ y k. absurd (false≢true k);
        },
        directory_legal.1,
      ),
    ),
  ),
)

pub locks_let_go : LocksLetGo tiny_calls → ⊥
locks_let_go h = missing_not (h start empty_sound (Abort 1 ∷ Call made_by_third ∷ handed_up) loosely_made).0.reply

-- 1 makes a file and commits, and 2 looks at it and commits.
abbrev two_begun : Events
two_begun = Begin 2 None ∷ alone

abbrev made_then_kept : Events
made_then_kept = Commit 1 ∷ Call (asked two_begun 1 2 (Create None 0)) ∷ two_begun

abbrev looked : Events
looked = Commit 2 ∷ Call (asked made_then_kept 2 3 (Stat None 0)) ∷ made_then_kept

kept_legal : Legal tiny_calls start made_then_kept
kept_legal = (
  record { live = refl; no_child = refl },
  (
    is_granted two_begun 1 2 (Create None 0) refl (omega arith) (omega arith) (omega arith) refl,
    (record { next = refl; live = λ q e. absurd (none_some q e) }, alone_legal),
  ),
)

-- what 1 made has no owner any more, so it is in nobody's way
freed : (h : Events) (y : ℕ) → None ≡ Some y → over tiny_calls h y 2 ≡ true
freed h y e = absurd (none_some y e)

looked_legal : Legal tiny_calls start looked
looked_legal = (
  record { live = refl; no_child = refl },
  (
    is_granted made_then_kept 2 3 (Stat None 0) refl (omega arith) (omega arith) tt refl,
    kept_legal,
  ),
)

pub serial_reversed : SerialReversed tiny_calls → ⊥
serial_reversed h = no_file 2 (Some 1) (Some 0) (h start empty_sound looked looked_legal).0.reply

-- 2 takes the file of 1 away, and a sweep drops it.
abbrev orphaned : Events
orphaned = Call (asked made_then_kept 2 3 (Unlink None 0)) ∷ made_then_kept

orphaned_legal : Legal tiny_calls start orphaned
orphaned_legal = (
  is_granted made_then_kept 2 3 (Unlink None 0) refl (omega arith) (omega arith) tt refl,
  kept_legal,
)

abbrev before_sweep : Store
before_sweep = (machine tiny_calls start orphaned).store

abbrev swept : Store
swept (Entry d n) = before_sweep (Entry d n)
swept (Parent i) = before_sweep (Parent i)
swept (Links i) = cond (i == 2) None (before_sweep (Links i))
swept (Bytes i) = cond (i == 2) None (before_sweep (Bytes i))

abbrev dropped : ℕ → Bool
dropped i = i == 2

-- the file has no entry
no_name : (b : Bool) (i : ℕ) → is_file i (cond b None (cond b (Some (FileNode 2)) None)) ≡ false
no_name true i = refl
no_name false i = refl

sweep_hides : Hides tiny_calls dropped before_sweep swept
sweep_hides = record { others = others; gone = gone; unnamed = unnamed }
  where
    others : (x : Cell) → is_hidden tiny_calls dropped x ≡ false → before_sweep x ≡ swept x
    others (Entry d n) k = refl
    others (Parent i) k = refl
    others (Links i) k = sym (ap (λ b. cond b None (before_sweep (Links i))) k)
    others (Bytes i) k = sym (ap (λ b. cond b None (before_sweep (Bytes i))) k)

    gone : (x : Cell) → is_hidden tiny_calls dropped x ≡ true → swept x ≡ blank x
    gone (Entry d n) k = absurd (false≢true k)
    gone (Parent i) k = absurd (false≢true k)
    gone (Links i) k = ap (λ b. cond b None (before_sweep (Links i))) k
    gone (Bytes i) k = ap (λ b. cond b None (before_sweep (Bytes i))) k

    unnamed : (x : Cell) (i : ℕ) → dropped i ≡ true → names x (swept x) i ≡ false
    unnamed (Entry d n) i k = no_name ((1 == d) && (0 == n)) i
    unnamed (Parent j) i k = refl
    unnamed (Links j) i k = refl
    unnamed (Bytes j) i k = refl

pub sweep_locked : SweepLocked tiny_calls → ⊥
sweep_locked h = false≢true (sym ((h start empty_sound orphaned orphaned_legal dropped swept sweep_hides 2 refl).unnamed (Entry 1 0) 2 refl))
