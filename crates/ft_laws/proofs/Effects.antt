-- Calls by their effects meet the laws of calls.
use Rattle.std.proofs.Common.{◌≡◌, Bool, true, false, cond, ◌||◌, ◌&&◌, List, [], ◌∷◌, inl, inr, sym, refl, ap, ◌∙◌}
use Rattle.std.proofs.lemmas.Bool.{false≢true, or_cases, or_parts, or_from, or_left, or_right, and_parts, and_from}
use Rattle.ft_laws.specs.Lists.{In, any}
use Rattle.ft_laws.specs.Calls.{IsAsLeft}
use Rattle.ft_laws.specs.Laws.{LawfulAmong}
use Rattle.ft_laws.specs.Effects.{Access, Write, Effects, Has, reversal_of, is_written, write_all, before, touch, change, conflict, some_conflict, calls_of, EffectLaws}
use Rattle.ft_laws.proofs.Tests.{by_test}
use Rattle.ft_laws.proofs.Writing.{write_kept, write_same, before_written, before_back}

-- one passes the test in place of another
any_weaker : {A : Type 0} (p q : A → Bool) → ((x : A) → p x ≡ true → q x ≡ true) → (xs : List A) → any p xs ≡ true → any q xs ≡ true
any_weaker p q f [] h = h
any_weaker p q f (x ∷ xs) h = elim (or_cases (p x) (any p xs) h) [
  | inl e ↦ or_left (q x) (any q xs) (f x e)
  | inr e ↦ or_right (q x) (any q xs) (any_weaker p q f xs e)
]

any_none : {A : Type 0} (p : A → Bool) → ((x : A) → p x ≡ false) → (xs : List A) → any p xs ≡ false
any_none p f [] = refl
any_none p f (x ∷ xs) = or_from (p x) (any p xs) (f x) (any_none p f xs)

or_swap : (a b : Bool) → (a || b) ≡ (b || a)
or_swap true true = refl
or_swap true false = refl
or_swap false true = refl
or_swap false false = refl

-- of two lists, the other way round
any_swap : {A : Type 0} (r : A → A → Bool) → ((x y : A) → r x y ≡ r y x) → (xs ys : List A) → any (λ x. any (r x) ys) xs ≡ false → any (λ y. any (r y) xs) ys ≡ false
any_swap r s xs [] h = refl
any_swap r s xs (y ∷ ys) h = or_from (any (r y) xs) (any (λ z. any (r z) xs) ys) (first xs h) (any_swap r s xs ys (rest xs h))
  where
    first : (zs : _) → any (λ x. any (r x) (y ∷ ys)) zs ≡ false → any (r y) zs ≡ false
    first [] k = refl
    first (z ∷ zs) k =
        let parts = or_parts (any (r z) (y ∷ ys)) (any (λ x. any (r x) (y ∷ ys)) zs) k in
        or_from (r y z) (any (r y) zs) (s y z ∙ (or_parts (r z y) (any (r z) ys) parts.0).0) (first zs parts.1)

    rest : (zs : _) → any (λ x. any (r x) (y ∷ ys)) zs ≡ false → any (λ x. any (r x) ys) zs ≡ false
    rest [] k = refl
    rest (z ∷ zs) k =
        let parts = or_parts (any (r z) (y ∷ ys)) (any (λ x. any (r x) (y ∷ ys)) zs) k in
        or_from (any (r z) ys) (any (λ x. any (r x) ys) zs) (or_parts (r z y) (any (r z) ys) parts.0).1 (rest zs parts.1)

module _ (E : Effects) (Akin : E.Store → E.Store → Type 0) (laws : EffectLaws E Akin) where
  apart : (f g : List (Access E.Place)) (x : E.Cell) → some_conflict E f g ≡ false → change E f x ≡ true → touch E g x ≡ false
  apart [] g x h c = absurd (false≢true c)
  apart (a ∷ f) g x h c =
      let parts = or_parts (any (conflict E a) g) (some_conflict E f g) h in
      elim (or_cases (a.writes && E.covers a.place x) (change E f x) c) [
        | inr e ↦ apart f g x parts.1 e
        | inl e ↦
            let both = and_parts a.writes (E.covers a.place x) e in
            by_test (touch E g x)
            (λ t. absurd (false≢true (sym parts.0 ∙ any_weaker (λ b. E.covers b.place x) (conflict E a)
            (λ b k. and_from (E.overlap a.place b.place) (a.writes || b.writes) (laws.overlaps a.place b.place x both.1 k) (or_left a.writes b.writes both.0)) g t)))
            (λ t. t)
      ]

  -- a cell that is among the writes is written, where cells are the same as themselves
  in_writes : (w : Write E.Cell E.Value) (ws : List (Write E.Cell E.Value)) → In w ws → E.same_cell w.cell w.cell ≡ true → is_written E ws w.cell ≡ true
  in_writes w [] i k = absurd i
  in_writes w (v ∷ vs) (inl e) k = or_left (E.same_cell v.cell w.cell) (is_written E vs w.cell) (ap (λ z. E.same_cell z.cell w.cell) (sym e) ∙ k)
  in_writes w (v ∷ vs) (inr i) k = or_right (E.same_cell v.cell w.cell) (is_written E vs w.cell) (in_writes w vs i k)

  has_values : (u t : E.Store) (ws : List (Write E.Cell E.Value)) → ((w : Write E.Cell E.Value) → In w ws → E.cell t w.cell ≡ E.cell u w.cell) → Has E t (before E u ws)
  has_values u t [] f = tt
  has_values u t (w ∷ ws) f = (f w (inl refl), has_values u t ws (λ v i. f v (inr i)))

  -- A store whose written cells are as the call left them has what it left.
  has_left : (s : E.Store) (a : E.Call) (t : E.Store) → IsAsLeft (calls_of E) (E.does s a).accesses (write_all E s (E.does s a).writes) t → Has E t (reversal_of E s (E.does s a).writes).after
  has_left s a t left =
      let ws = (E.does s a).writes in
      let end = write_all E s ws in
      has_values end t ws (λ w i. by_test (E.same_cell w.cell w.cell)
      (λ k. left w.cell (laws.told s a w.cell ∙ in_writes w ws i k))
      -- a cell that isn't the same as itself has one value alone
      (λ k. sym (laws.sets.cell_kept t w.cell (E.cell end w.cell) w.cell k) ∙ laws.sets.cell_written t w.cell (E.cell end w.cell)))

  pub effects_lawful : LawfulAmong (calls_of E) Akin
  effects_lawful = record {
    changes_touch = λ f x h. any_weaker (λ a. a.writes && E.covers a.place x) (λ a. E.covers a.place x) (λ a k. (and_parts a.writes (E.covers a.place x) k).1) f h;
    conflict_sym = λ f g h. any_swap (conflict E) (λ a b. ap (λ o. o && (a.writes || b.writes)) (laws.overlap_sym a.place b.place) ∙ ap (λ o. E.overlap b.place a.place && o) (or_swap a.writes b.writes)) f g h;
    apart = apart;
    frame = λ s t a gs gt rs rt akin agree.
        let e = laws.local s t a gs gt rs rt akin agree in
        record {
          accesses = ap (λ d. d.accesses) e;
          reply = ap (λ d. d.reply) e;
          written = λ x k. ap (λ d. E.cell (write_all E t d.writes) x) e ∙ write_same E laws.sets (E.does s a).writes s t x (sym (laws.told s a x) ∙ k);
        };
    kept = λ s a g r x k. write_kept E laws.sets (E.does s a).writes s x (sym (laws.told s a x) ∙ k);
    stays_sound = laws.stays_sound;
    stays_ready = laws.stays_ready;
    inverts = λ s a g r t left. (
      has_left s a t left,
      λ x.
          let ws = (E.does s a).writes in
          by_test (change E (E.does s a).accesses x)
          (λ k. before_back E laws.sets ws s t x (before_written E laws.sets ws s x ∙ sym (laws.told s a x) ∙ k) ∙ sym (ap (λ b. cond b (E.cell s x) (E.cell t x)) k))
          (λ k. write_kept E laws.sets (before E s ws) t x (before_written E laws.sets ws s x ∙ sym (laws.told s a x) ∙ k) ∙ sym (ap (λ b. cond b (E.cell s x) (E.cell t x)) k)),
    );
    nameless = laws.nameless;
    own_blank = laws.own_blank;
    comes_upon = laws.comes_upon;
    names_known = laws.names_known;
    lets_go = laws.lets_go;
    hides_sound = laws.hides_sound;
    hides_ready = laws.hides_ready;
  }
