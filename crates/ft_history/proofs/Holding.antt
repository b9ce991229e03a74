-- A run of standing calls, and a store and lists of inverses that hold what it left: what a grant
-- and the inverse of a newest call make of them.
use Rattle.std.proofs.Common.{◌≡◌, ◌≢◌, ◌<◌, ℕ, Bool, true, false, cond, Option, Some, List, [], ◌∷◌, ◌++◌, ◌⊎◌, inl, inr, length, map, suc, sym, refl, ap, ◌∙◌, subst, arith}
use Rattle.std.proofs.lemmas.Bool.{false≢true}
use Rattle.ft_laws.specs.Lists.{Each, In}
use Rattle.ft_laws.specs.Calls.{Calls, Reverts, Done, Fits}
use Rattle.ft_laws.specs.Laws.{Lawful, Hides, is_hidden, holds}
use Rattle.ft_laws.specs.Hiding.{Unseen}
use Rattle.ft_laws.specs.Runs.{run, Along, Faithful, Able, Clear, IsLocal}
use Rattle.ft_laws.proofs.Lists.{Each-append, Each-map, Each-at, Each-from, Pairs-push, In-split, In-cases, In-with}
use Rattle.ft_laws.proofs.Tests.{by_test, by_option}
use Rattle.ft_laws.proofs.Running.{run-append, along_append, along_back, able_without, able_at, reverts_alike}
use Rattle.ft_laws.proofs.Hiding.{stays_hidden, undone_hidden}
use Rattle.ft_laws.proofs.Deleting.{deletion, deletion_along}
use Rattle.ft_history.specs.History.{number}
use Rattle.ft_history.specs.Logs.{passing, put, pushed}
use Rattle.ft_history.specs.Orders.{Covers}
use Rattle.ft_history.specs.Core.{Entry, AreInverses}
use Rattle.ft_history.proofs.Words.{put_same, put_other, by_number, In-map, map_put, map_pushed}
use Rattle.ft_history.proofs.Kept.{Kept, without, taken_owned, taken_calls, taken_clear, taken_kept, granted_kept}

module _ (C : Calls) where
  along_map : (P Q : C.Store → Done C → Type 0) (R : Done C → Type 0) → ((s : C.Store) (c : Done C) → R c → P s c → Q s c) → (s : C.Store) (cs : List (Done C)) → Each R cs → Along C P s cs → Along C Q s cs
  along_map P Q R f s [] r h = tt
  along_map P Q R f s (c ∷ cs) r h = (f s c r.0 h.0, along_map P Q R f (C.act s c.call) cs r.1 h.1)

  -- The calls can be made from the base, each does what is kept of it, and their owners and lists
  -- are in order.
  pub record Runs (above : ℕ → ℕ → Bool) (owner : Done C → Option ℕ) (base : C.Store) (cs : List (Done C)) (log : ℕ → List (Done C)) : Type 0 where
    pub able : Able C base cs
    pub faithful : Faithful C base cs
    pub kept : Kept C above owner cs log

  -- The store and the lists of inverses are those of the run.
  pub record Holds (owner : Done C → Option ℕ) (base : C.Store) (hidden : C.File → Bool) (cs : List (Done C)) (log : ℕ → List (Done C)) (s : C.Store) (kept : ℕ → List (Entry C)) : Type 0 where
    pub store : Hides C hidden (run C base cs) s
    pub listed : (t : ℕ) → map (λ e. e.done) (kept t) ≡ log t
    pub inverses : Along C (AreInverses C kept) base cs
    pub spared : (c : Done C) (y : ℕ) → In c cs → owner c ≡ Some y → Unseen C hidden c.accesses

  -- fewer entries
  pub fewer_inverses : (old new : ℕ → List (Entry C)) → ((t : ℕ) (e : Entry C) → In e (new t) → (v : ℕ) × In e (old v)) → (s : C.Store) (cs : List (Done C)) → Along C (AreInverses C old) s cs → Along C (AreInverses C new) s cs
  fewer_inverses old new f s cs h =
      along_map (AreInverses C old) (AreInverses C new) (λ c. Unit {0}) (λ z c r k u t i. let there = f t (record { done = c; inverse = u }) i in k u there.0 there.1) s cs (Each-from (λ c. Unit {0}) cs (λ c i. tt)) h

  -- a hidden cell's file
  pub hidden_file : {P : Type 0} (hidden : C.File → Bool) (x : C.Cell) → is_hidden C hidden x ≡ true → ((i : C.File) → C.file_of x ≡ Some i → hidden i ≡ true → P) → P
  hidden_file hidden x h f = by_option (C.file_of x)
      (λ e. absurd (false≢true (sym (ap (holds hidden) e) ∙ h)))
      (λ i e. f i e (sym (ap (holds hidden) e) ∙ h))

module _ (C : Calls) (L : Lawful C) where
  inverses_local : (kept : ℕ → List (Entry C)) → IsLocal C (AreInverses C kept)
  inverses_local kept s t c gs gt rs rt fit agree h u n i = reverts_alike C L s t c u gs gt rs rt fit agree (h u n i)

  -- A call that is made in a store without the hidden files does the same as with them, and
  -- touches none of them.
  module _ (hidden : C.File → Bool) (r s : C.Store) (c : Done C) (sound : C.IsSound r) (ready : C.IsReady c.call r) (hides : Hides C hidden r s) (new : hidden (C.own c.call) ≡ false) (fits : Fits C s c) where
    pub whole : Fits C r c × Unseen C hidden c.accesses × Hides C hidden (C.act r c.call) (C.act s c.call)
    whole = stays_hidden C L hidden r s c hides sound ready new fits

    whole_reverts : (u : C.Inverse) → Reverts C s c.call c.accesses u → Reverts C r c.call c.accesses u
    whole_reverts u h = reverts_alike C L s r c u (L.hides_sound hidden r s hides sound) sound (L.hides_ready hidden r s c.call hides ready) ready fits
        (λ x k. by_test (is_hidden C hidden x) (λ m. absurd (false≢true (sym (whole.1 x m) ∙ k))) (λ m. sym (hides.others x m))) h

  -- The newest call of n's list is taken back, where the lists below n have older calls alone.
  module _ (above : ℕ → ℕ → Bool) (owner : Done C → Option ℕ) (base : C.Store) (cs : List (Done C)) (log : ℕ → List (Done C)) (runs : Runs C above owner base cs log)
      (n : ℕ) (d : Done C) (ds : List (Done C)) (newest : log n ≡ d ∷ ds) (older : (x : ℕ) → above n x ≡ true → x ≢ n → Each (λ y. number C y < number C d) (log x)) where
    pub split : (xs : List (Done C)) × (ys : List (Done C)) × (cs ≡ xs ++ d ∷ ys)
    split = In-split d cs (taken_owned C above owner cs log runs.kept n d ds newest).0

    abbrev xs : List (Done C)
    xs = split.0

    abbrev ys : List (Done C)
    ys = split.1

    pub calls : without C (number C d) cs ≡ xs ++ ys
    calls = taken_calls C above owner cs log runs.kept n d ds newest xs ys split.2

    pub clear : Clear C d ys
    clear = taken_clear C above owner cs log runs.kept n d ds newest xs ys split.2 older

    pub able : Able C base (xs ++ d ∷ ys)
    able = subst (Able C base) split.2 runs.able

    pub faithful : Faithful C base (xs ++ d ∷ ys)
    faithful = subst (Faithful C base) split.2 runs.faithful

    -- one call less
    pub taken_length : suc (length (without C (number C d) cs)) ≡ length cs
    taken_length = ap (λ zs. suc (length zs)) calls ∙ one_less xs ys ∙ sym (ap length split.2)
      where
        one_less : (fs bs : List (Done C)) → suc (length (fs ++ bs)) ≡ length (fs ++ d ∷ bs)
        one_less [] bs = refl
        one_less (a ∷ fs) bs = ap suc (one_less fs bs)

    -- where it doesn't pass a test, the others pass as before
    pub taken_passing : (p : Done C → Bool) → p d ≡ false → passing p (without C (number C d) cs) ≡ passing p cs
    taken_passing p fails = ap (passing p) calls ∙ same xs ys ∙ sym (ap (passing p) split.2)
      where
        same : (fs bs : List (Done C)) → passing p (fs ++ bs) ≡ passing p (fs ++ d ∷ bs)
        same [] bs = sym (ap (λ b. cond b (d ∷ passing p bs) (passing p bs)) fails)
        same (a ∷ fs) bs = ap (λ zs. cond (p a) (a ∷ zs) zs) (same fs bs)

    pub runs_taken : Runs C above owner base (without C (number C d) cs) (put log n ds)
    runs_taken = record {
      able = subst (Able C base) (sym calls) (able_without C base xs d ys able);
      faithful = subst (Faithful C base) (sym calls) (deletion C L base xs d ys able faithful clear).0;
      kept = taken_kept C above owner cs log runs.kept n d ds newest xs ys split.2;
    }

    -- The inverse may be put to the store, and then all is as without the call.
    pub holds_taken : (hidden : C.File → Bool) (s : C.Store) (kept : ℕ → List (Entry C)) (u : C.Inverse) (es : List (Entry C)) → Holds C owner base hidden cs log s kept
        → kept n ≡ record { done = d; inverse = u } ∷ es → map (λ e. e.done) es ≡ ds
        → C.MayRevert s u × Holds C owner base hidden (without C (number C d) cs) (put log n ds) (C.revert s u) (put kept n es)
    holds_taken hidden s kept u es h is list = (
      undo.1,
      record {
        store = subst (λ zs. Hides C hidden (run C base zs) (C.revert s u)) (sym calls) undo.2;
        listed = map_put (λ e. e.done) kept log h.listed n es ds list;
        inverses = subst (Along C (AreInverses C (put kept n es)) base) (sym calls) (deletion_along C L (AreInverses C (put kept n es)) (inverses_local (put kept n es)) base xs d ys able faithful clear
            (fewer_inverses C kept (put kept n es) (λ t e i. (t, fewer t e i)) base (xs ++ d ∷ ys) split_inverses)).0;
        spared = λ c y i e. h.spared c y (In-less c i) e;
      },
    )
      where
        own : In d cs × (owner d ≡ Some n)
        own = taken_owned C above owner cs log runs.kept n d ds newest

        split_inverses : Along C (AreInverses C kept) base (xs ++ d ∷ ys)
        split_inverses = subst (Along C (AreInverses C kept) base) split.2 h.inverses

        reverts : Reverts C (run C base xs) d.call d.accesses u
        reverts = (along_back C (AreInverses C kept) base xs (d ∷ ys) split_inverses).0 u n (subst (In (record { done = d; inverse = u })) (sym is) (inl refl))

        undo : Faithful C base (xs ++ ys) × C.MayRevert s u × Hides C hidden (run C base (xs ++ ys)) (C.revert s u)
        undo = undone_hidden C L hidden base xs d ys u s able faithful clear (h.spared d n own.0 own.1) reverts (subst (λ zs. Hides C hidden (run C base zs) s) split.2 h.store)

        fewer : (t : ℕ) (e : Entry C) → In e (put kept n es t) → In e (kept t)
        fewer t e i = by_number t n
            (λ k. subst (λ v. In e (kept v)) (sym k) (subst (In e) (sym is) (inr (subst (In e) (put_same kept n es t k) i))))
            (λ k. subst (In e) (put_other kept n es t k) i)

        In-less : (c : Done C) → In c (without C (number C d) cs) → In c cs
        In-less c i = subst (In c) (sym split.2) (In-more c (subst (In c) calls i))
          where
            In-more : (c : Done C) → In c (xs ++ ys) → In c (xs ++ d ∷ ys)
            In-more c i = In-with c xs d ys i

  -- A call is granted to its asker, where each owner of a conflicting call is at or above the
  -- asker.
  module _ (above : ℕ → ℕ → Bool) (owner : Done C → Option ℕ) (base : C.Store) (cs : List (Done C)) (log : ℕ → List (Done C)) (runs : Runs C above owner base cs log)
      (t : ℕ) (c : Done C) (mine : owner c ≡ Some t) (ready : C.IsReady c.call base) (newer : Each (λ b. number C b < number C c) cs) where
    pub granted_able : Able C base (cs ++ c ∷ [])
    granted_able = record {
      sound = runs.able.sound;
      ready = Each-append (λ d. C.IsReady d.call base) cs (c ∷ []) runs.able.ready (ready, tt);
      distinct = Pairs-push (λ b a. number C b ≢ number C a) cs c runs.able.distinct (Each-map (λ b. number C b < number C c) (λ b. number C b ≢ number C c) (λ b lt. omega arith) cs newer);
    }

    pub granted_there : Able C (run C base cs) (c ∷ [])
    granted_there = able_at C L base cs (c ∷ []) granted_able

    pub runs_granted : Fits C (run C base cs) c → Each (λ b. C.conflict b.accesses c.accesses ≡ true → Covers above (owner b) (Some t)) cs → Runs C above owner base (cs ++ c ∷ []) (pushed log t c)
    runs_granted fits allowed = record {
      able = granted_able;
      faithful = along_append C (Fits C) base cs (c ∷ []) runs.faithful (fits, tt);
      kept = granted_kept C above owner cs log runs.kept t c mine newer allowed;
    }

    pub holds_granted : (hidden : C.File → Bool) (s : C.Store) (kept : ℕ → List (Entry C)) (u : C.Inverse) → Holds C owner base hidden cs log s kept
        → hidden (C.own c.call) ≡ false → Fits C s c → Reverts C s c.call c.accesses u
        → Holds C owner base hidden (cs ++ c ∷ []) (pushed log t c) (C.act s c.call) (pushed kept t (record { done = c; inverse = u }))
    holds_granted hidden s kept u h new fits reverts = record {
      store = subst (λ r. Hides C hidden r (C.act s c.call)) (sym (run-append C base cs (c ∷ []))) (whole hidden (run C base cs) s c granted_there.sound granted_there.ready.0 h.store new fits).2;
      listed = map_pushed (λ e. e.done) kept log h.listed t (record { done = c; inverse = u }) c refl;
      inverses = along_append C (AreInverses C (pushed kept t (record { done = c; inverse = u }))) base cs (c ∷ [])
          (along_map C (AreInverses C kept) (AreInverses C (pushed kept t (record { done = c; inverse = u }))) (λ b. number C b < number C c)
          (λ z b lt k v n i. elim (pushed_cases n (record { done = b; inverse = v }) i) [
            | inl e ↦ let same : number C b ≡ number C c = ap (λ w. number C w.done) e in absurd (omega arith)
            | inr j ↦ k v n j
          ]) base cs newer h.inverses) (
            (λ v n i. elim (pushed_cases n (record { done = c; inverse = v }) i) [
              | inl e ↦ subst (Reverts C (run C base cs) c.call c.accesses) (sym (ap (λ w. w.inverse) e)) at_run
              | inr j ↦ absurd (no_entry n v j)
            ]),
            tt,
          );
      spared = λ b y i e. elim (In-cases b cs (c ∷ []) i) [
        | inl j ↦ h.spared b y j e
        | inr j ↦ elim j [
          | inr none ↦ absurd none
          | inl is ↦ subst (λ a. Unseen C hidden a.accesses) (sym is) (whole hidden (run C base cs) s c granted_there.sound granted_there.ready.0 h.store new fits).1
        ]
      ];
    }
      where
        at_run : Reverts C (run C base cs) c.call c.accesses u
        at_run = whole_reverts hidden (run C base cs) s c granted_there.sound granted_there.ready.0 h.store new fits u reverts

        pushed_cases : (n : ℕ) (e : Entry C) → In e (pushed kept t (record { done = c; inverse = u }) n) → (e ≡ record { done = c; inverse = u }) ⊎ In e (kept n)
        pushed_cases n e i = by_number n t
            (λ k. cased (subst (In e) (put_same kept t (record { done = c; inverse = u } ∷ kept t) n k) i) (λ j. subst (λ v. In e (kept v)) (sym k) j))
            (λ k. inr (subst (In e) (put_other kept t (record { done = c; inverse = u } ∷ kept t) n k) i))
          where
            cased : In e (record { done = c; inverse = u } ∷ kept t) → (In e (kept t) → In e (kept n)) → (e ≡ record { done = c; inverse = u }) ⊎ In e (kept n)
            cased (inl is) f = inl is
            cased (inr j) f = inr (f j)

        -- the call isn't in the lists yet
        no_entry : (n : ℕ) (v : C.Inverse) → In (record { done = c; inverse = v }) (kept n) → ⊥
        no_entry n v i =
            let there : In c (log n) = subst (In c) (h.listed n) (In-map (λ e. e.done) (record { done = c; inverse = v }) (kept n) i) in
            let lt : number C c < number C c = Each-at (λ b. number C b < number C c) cs c newer (runs.kept.owned n c there).0 in
            omega arith
