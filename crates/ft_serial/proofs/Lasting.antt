-- What stays as it is when more happens.
use Rattle.std.proofs.Common.{◌≡◌, ◌≤◌, ℕ, true, ◌||◌, ◌==◌, List, [], ◌∷◌, ◌++◌, map, refl, sym, ap, subst, ◌∙◌, arith, append-nil, append_assoc}
use Rattle.std.proofs.lemmas.Bool.{false≢true, or_right}
use Rattle.std.proofs.lemmas.List.{map-append}
use Rattle.ft_laws.proofs.Tests.{by_test}
use Rattle.ft_posix.specs.Posix.{posix_calls}
use Rattle.ft_history.specs.Forest.{root}
use Rattle.ft_history.specs.History.{Base as HistoryBase, last_transaction, parent, over, is_committed, is_gone}
use Rattle.ft_history.specs.Legal.{Legal}
use Rattle.ft_history.specs.Serial.{committed_part, newly_committed}
use Rattle.ft_history.proofs.Words.{put_other}
use Rattle.ft_history.proofs.History.{begin_forest, begin_gone}
use Rattle.ft_history.proofs.Legal.{sound_all}
use Rattle.ft_history.proofs.Serial.{root_above, root_grown, live_root}
use Rattle.ft_history.proofs.Growing.{committed_steps}
use Rattle.ft_core.specs.declared.request.Event.{Event}
use Rattle.ft_core.specs.declared.request.Event.TheVariants.{Begin, Call, Undo, Commit, Abort}
use Rattle.ft_core.specs.Histories.{History, Granted, as_happening, told, told_after}
use Rattle.ft_core.proofs.Known.{lawful_calls}
use Rattle.ft_core.proofs.Told.{told_after-append}
use Rattle.ft_serial.specs.Serials.{stamped, committed_in}

module _ (base : HistoryBase posix_calls) where
  pub legal-before : (h : History) (more : List Event) → Legal posix_calls base (told_after h more) → Legal posix_calls base h
  legal-before h [] legal = legal
  legal-before h (e ∷ more) legal = (legal-before (as_happening e ∷ h) more legal).1

  module _ (base_sound : posix_calls.IsSound base.store) where
    -- Who is begun stays so, below the same top-level transaction.
    pub record Stays (h : History) (e : Event) (t : ℕ) : Type 0 where
      pub begun : t ≤ last_transaction posix_calls base.transaction (as_happening e ∷ h)
      pub top : root (parent posix_calls (as_happening e ∷ h)) t ≡ root (parent posix_calls h) t

    pub stays : (h : History) (e : Event) → Legal posix_calls base (as_happening e ∷ h) → (t : ℕ) → t ≤ last_transaction posix_calls base.transaction h → Stays h e t
    stays h (Begin n p) legal t le =
        let sound = sound_all posix_calls lawful_calls base base_sound h legal.1 in
        let next = legal.0.next in
        record {
          begun = omega arith;
          top = root_grown (parent posix_calls h) (parent posix_calls (as_happening (Begin n p) ∷ h)) sound.forest (begin_forest posix_calls lawful_calls base h sound n p legal.0) n (λ x lt. put_other (parent posix_calls h) n p x (λ e. absurd (omega arith))) t (omega arith);
        }
    stays h (Call stamp u call reply accesses) legal t le = record { begun = le; top = refl }
    stays h (Undo stamp) legal t le = record { begun = le; top = refl }
    stays h (Commit u) legal t le = record { begun = le; top = refl }
    stays h (Abort u) legal t le = record { begun = le; top = refl }

    pub top-later : (h : History) (more : List Event) → Legal posix_calls base (told_after h more) → (t : ℕ) → t ≤ last_transaction posix_calls base.transaction h → root (parent posix_calls (told_after h more)) t ≡ root (parent posix_calls h) t
    top-later h [] legal t le = refl
    top-later h (e ∷ more) legal t le =
        let next = stays h e (legal-before (as_happening e ∷ h) more legal) t le in
        top-later (as_happening e ∷ h) more legal t next.begun ∙ next.top

    -- Where its top-level transaction has committed, nothing takes a call away any more.
    committed-still : (h : History) (e : Event) (top : ℕ) → is_committed posix_calls h top ≡ true → is_committed posix_calls (as_happening e ∷ h) top ≡ true
    committed-still h (Begin n p) top k = k
    committed-still h (Call stamp u call reply accesses) top k = k
    committed-still h (Undo stamp) top k = k
    committed-still h (Commit u) top k = or_right (top == u) (is_committed posix_calls h top) k
    committed-still h (Abort u) top k = k

    gone-still : (h : History) (e : Event) → Legal posix_calls base (as_happening e ∷ h) → (t : ℕ) → t ≤ last_transaction posix_calls base.transaction h → is_committed posix_calls h (root (parent posix_calls h) t) ≡ true → is_gone posix_calls (as_happening e ∷ h) t ≡ is_gone posix_calls h t
    gone-still h (Begin n p) legal t le k = begin_gone posix_calls lawful_calls base h (sound_all posix_calls lawful_calls base base_sound h legal.1) n p legal.0 t le
    gone-still h (Call stamp u call reply accesses) legal t le k = refl
    gone-still h (Undo stamp) legal t le k = refl
    gone-still h (Commit u) legal t le k = refl
    gone-still h (Abort u) legal t le k = by_test (over posix_calls h u t)
        (λ m.
        let sound = sound_all posix_calls lawful_calls base base_sound h legal.1 in
        absurd (false≢true (sym (live_root posix_calls lawful_calls base base_sound h sound u legal.0) ∙ ap (is_committed posix_calls h) (root_above (parent posix_calls h) sound.forest u t m) ∙ k)))
        (λ m. ap (λ b. b || is_gone posix_calls h t) m)

    pub gone-later : (h : History) (more : List Event) → Legal posix_calls base (told_after h more) → (t : ℕ) → t ≤ last_transaction posix_calls base.transaction h → is_committed posix_calls h (root (parent posix_calls h) t) ≡ true
        → is_gone posix_calls (told_after h more) t ≡ is_gone posix_calls h t
    gone-later h [] legal t le k = refl
    gone-later h (e ∷ more) legal t le k =
        let now = legal-before (as_happening e ∷ h) more legal in
        let next = stays h e now t le in
        gone-later (as_happening e ∷ h) more legal t next.begun (ap (is_committed posix_calls (as_happening e ∷ h)) next.top ∙ committed-still h e (root (parent posix_calls h) t) k) ∙ gone-still h e now t le k

    -- What has committed stands first.
    committed-after : (h : History) (more : List Event) → Legal posix_calls base (told_after h more) → (rest : List Granted) × (committed_part posix_calls (told_after h more) ≡ committed_part posix_calls h ++ rest)
    committed-after h [] legal = ([], sym (append-nil (committed_part posix_calls h)))
    committed-after h (e ∷ more) legal =
        let later = committed-after (as_happening e ∷ h) more legal in
        let new = newly_committed posix_calls h (as_happening e) in (
          new ++ later.0,
          later.1 ∙ ap (λ xs. xs ++ later.0) (committed_steps posix_calls lawful_calls base base_sound h (as_happening e) (legal-before (as_happening e ∷ h) more legal))
              ∙ append_assoc (committed_part posix_calls h) new later.0,
        )

    pub committed-first : (events more : List Event) → Legal posix_calls base (told (events ++ more)) → (rest : _) × (committed_in (events ++ more) ≡ committed_in events ++ rest)
    committed-first events more legal =
        let later = committed-after (told events) more (subst (Legal posix_calls base) (told_after-append [] events more) legal) in (
          map stamped later.0,
          ap (λ (h : History). map stamped (committed_part posix_calls h)) (told_after-append [] events more) ∙ ap (map stamped) later.1 ∙ map-append stamped (committed_part posix_calls (told events)) later.0,
        )
