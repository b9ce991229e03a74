-- Where nothing names a file any more, and no owned call touches it, taking an owned call back
-- brings no name of it back.
use Rattle.std.proofs.Common.{◌≡◌, ℕ, Bool, true, false, Option, Some, None, List, [], ◌∷◌, inl, inr, refl, sym, ap, subst, ◌∙◌}
use Rattle.std.proofs.lemmas.Bool.{false≢true}
use Rattle.ft_laws.specs.Lists.{Each, Pairs}
use Rattle.ft_laws.specs.Calls.{Calls, Done}
use Rattle.ft_laws.specs.Laws.{Lawful, TouchesFile, is_hidden}
use Rattle.ft_laws.specs.Runs.{run, Along, Able, Faithful}
use Rattle.ft_laws.proofs.Lists.{Each-from}
use Rattle.ft_laws.proofs.Running.{able_next}
use Rattle.ft_laws.proofs.Tests.{by_test}
use Rattle.ft_history.specs.History.{Base, Event, standing, over}
use Rattle.ft_history.specs.Locks.{owns_lock}
use Rattle.ft_history.specs.Orders.{Covers, IsNested}
use Rattle.ft_history.specs.Legal.{outcome}
use Rattle.ft_history.specs.Core.{Entry, IsCore}
use Rattle.ft_history.proofs.Owning.{one_owns}
use Rattle.ft_history.proofs.Holding.{hidden_file}
use Rattle.ft_history.proofs.History.{Sound, owner, stands}
use Rattle.ft_history.proofs.Legal.{sound_all}

module _ (C : Calls) (L : Lawful C) (above : ℕ → ℕ → Bool) (owned : Done C → Option ℕ) (i : C.File) where
  -- an owned call touches nothing of the file
  abbrev Spares : Done C → Type 0
  Spares c = (y : ℕ) → owned c ≡ Some y → TouchesFile C c.accesses i → ⊥

  -- nothing that an owned call writes names the file in s
  abbrev pub BringsNone : C.Store → Done C → Type 0
  BringsNone s c = (y : ℕ) → owned c ≡ Some y → (x : C.Cell) → C.changes c.accesses x ≡ true → C.names x (C.cell s x) i ≡ false

  covered : (y : ℕ) (o p : Option ℕ) → o ≡ Some y → Covers above o p → (z : ℕ) × (p ≡ Some z)
  covered y None p e k = absurd (other e)
    where
      other : None ≡ Some y → ⊥
      other q = cc
  covered y (Some x) None e k = absurd k
  covered y (Some x) (Some z) e k = (z, refl)

  -- who writes what an owned call wrote is owned
  owned_later : (b d : Done C) (y : ℕ) (x : C.Cell) → owned b ≡ Some y → C.changes b.accesses x ≡ true → C.changes d.accesses x ≡ true → IsNested C above owned b d → (z : ℕ) × (owned d ≡ Some z)
  owned_later b d y x own wrote writes nested = by_test (C.conflict b.accesses d.accesses)
      (λ k. covered y (owned b) (owned d) own (nested k))
      (λ k. absurd (false≢true (sym (L.apart b.accesses d.accesses x k wrote) ∙ L.changes_touch d.accesses x writes)))

  -- Something names the file still after the calls, where it was named in a cell that an owned
  -- call wrote before them.
  named_on : (s : C.Store) (b : Done C) (y : ℕ) (cs : List (Done C)) → owned b ≡ Some y → Able C s cs → Faithful C s cs → Each Spares cs → Each (IsNested C above owned b) cs → Pairs (IsNested C above owned) cs
      → (x : C.Cell) → C.changes b.accesses x ≡ true → C.names x (C.cell s x) i ≡ true → (z : C.Cell) × (C.names z (C.cell (run C s cs) z) i ≡ true)
  named_on s b y [] own able faithful spares nested pairs x wrote named = (x, named)
  named_on s b y (d ∷ ds) own able faithful spares nested pairs x wrote named =
      let next = able_next C L s d ds able in
      by_test (C.names x (C.cell (C.act s d.call) x) i)
      (λ still. named_on (C.act s d.call) b y ds own next faithful.1 spares.1 nested.1 pairs.1 x wrote still)
      (λ gone. by_test (C.changes d.accesses x)
      (λ writes.
      let z = owned_later b d y x own wrote writes nested.0 in
      elim (L.lets_go s d.call able.sound able.ready.0 x i named gone) [
        | inl touched ↦ absurd (spares.0 z.0 z.1 (subst (λ f. TouchesFile C f i) faithful.0.accesses touched))
        | inr left ↦
            named_on (C.act s d.call) d z.0 ds z.1 next faithful.1 spares.1 pairs.0 pairs.1 left.0 (subst (λ f. C.changes f left.0 ≡ true) faithful.0.accesses left.1) left.2
      ])
      (λ stays.
      let same = L.kept s d.call able.sound able.ready.0 x (ap (λ f. C.changes f x) faithful.0.accesses ∙ stays) in
      absurd (false≢true (sym gone ∙ ap (λ v. C.names x v i) same ∙ named))))

  -- In the run no owned call finds the file named in what it writes, where nothing names it in the
  -- end.
  pub brings_none : (s : C.Store) (cs : List (Done C)) → Able C s cs → Faithful C s cs → Each Spares cs → Pairs (IsNested C above owned) cs
      → ((z : C.Cell) → C.names z (C.cell (run C s cs) z) i ≡ false) → Along C BringsNone s cs
  brings_none s [] able faithful spares pairs none = tt
  brings_none s (c ∷ cs) able faithful spares pairs none =
      let next = able_next C L s c cs able in
      let later = λ (y : ℕ) (own : owned c ≡ Some y) (x : C.Cell) (writes : C.changes c.accesses x ≡ true) (named : C.names x (C.cell (C.act s c.call) x) i ≡ true).
      let end = named_on (C.act s c.call) c y cs own next faithful.1 spares.1 pairs.0 pairs.1 x writes named in
      false≢true (sym (none end.0) ∙ end.1) in (
        λ y own x writes. by_test (C.names x (C.cell s x) i)
            (λ named. by_test (C.names x (C.cell (C.act s c.call) x) i)
            (λ still. absurd (later y own x writes still))
            (λ gone. elim (L.lets_go s c.call able.sound able.ready.0 x i named gone) [
              | inl touched ↦ absurd (spares.0 y own (subst (λ f. TouchesFile C f i) faithful.0.accesses touched))
              | inr left ↦ absurd (later y own left.0 (subst (λ f. C.changes f left.0 ≡ true) faithful.0.accesses left.1) left.2)
            ]))
            (λ not_named. not_named),
        brings_none (C.act s c.call) cs next faithful.1 spares.1 pairs.1 none,
      )

module _ (C : Calls) (L : Lawful C) (base : Base C) (base_sound : C.IsSound base.store) (h : List (Event C)) (hidden : C.File → Bool) (s : C.Store) (log : ℕ → List (Entry C)) (core : IsCore C base h hidden s log) where
  past : Sound C L base h
  past = sound_all C L base base_sound h core.legal

  -- A file that no lock covers and that nothing in the core's store names: in the run no owned
  -- call finds it named in what it writes.
  pub core_brings_none : (i : C.File) → ((y : ℕ) (x : C.Cell) → C.file_of x ≡ Some i → owns_lock C h y (λ f. C.touches f x) ≡ false) → ((x : C.Cell) → C.names x (C.cell s x) i ≡ false)
      → Along C (BringsNone C L (over C h) (owner C h) i) base.store (standing C h)
  core_brings_none i unlocked unnamed =
      brings_none C L (over C h) (owner C h) i base.store (standing C h) past.runs.able past.runs.faithful
      (Each-from (Spares C L (over C h) (owner C h) i) (standing C h) (λ c j y own touched.
      false≢true (sym (unlocked y touched.0 touched.1) ∙ one_owns C h y (λ f. C.touches f touched.0) (record { call = c; granted = (stands C L base h past c j).0; owner = own; asker = refl; passes = touched.2 }))))
      past.runs.kept.nested
      (λ z. by_test (is_hidden C hidden z)
      (λ k. hidden_file C hidden z k (λ j e n. L.nameless z (C.cell (outcome C base h) z) j i e))
      (λ k. ap (λ v. C.names z v i) (core.store.others z k) ∙ unnamed z))
