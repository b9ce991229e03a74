-- Each change of the standing calls, their owners and the lists keeps them in order.
use Rattle.std.proofs.Common.{◌≡◌, ◌≢◌, ◌<◌, ◌≤◌, ℕ, Bool, true, false, cond, Option, Some, None, List, [], ◌∷◌, ◌++◌, ◌⊎◌, inl, inr, sym, refl, ap, ◌∙◌, subst, arith, ◌==◌, eq-eqb, ne_eqb}
use Rattle.std.proofs.lemmas.Bool.{cases_Bool}
use Rattle.ft_laws.specs.Lists.{Each, Pairs, In}
use Rattle.ft_laws.specs.Calls.{Calls, Done}
use Rattle.ft_laws.specs.Runs.{Clear}
use Rattle.ft_laws.proofs.Lists.{Each-map, Each-back, Each-at, Each-from, Pairs-without, Pairs-map, Pairs-push, Pairs-append, Pairs-before, Pairs-after, Pairs-with, In-front, In-back, In-cases, In-with, In-without}
use Rattle.ft_history.specs.History.{number}
use Rattle.ft_history.specs.Logs.{put, pushed, handed}
use Rattle.ft_history.specs.Orders.{Covers, IsNested, IsInFront}
use Rattle.ft_history.proofs.Words.{put_same, put_other, by_number, none_some, moved, moved_same, moved_other, moved_from}
use Rattle.ft_history.proofs.Forest.{ForestLaws}

-- what the first owner covers has an owner, below it
covered : (above : ℕ → ℕ → Bool) (n : ℕ) (o : Option ℕ) → Covers above (Some n) o → (x : ℕ) × (o ≡ Some x) × (above n x ≡ true)
covered above n None h = absurd h
covered above n (Some x) h = (x, refl, h)

-- the owner is at or below t
abbrev pub is_under : (ℕ → ℕ → Bool) → ℕ → Option ℕ → Bool
is_under above t None = false
is_under above t (Some x) = above t x

module _ (C : Calls) where
  -- the calls without the one with the stamp k
  abbrev pub without : ℕ → List (Done C) → List (Done C)
  without k [] = []
  without k (c ∷ cs) = cond (number C c == k) (without k cs) (c ∷ without k cs)

  without_absent : (k : ℕ) (cs : List (Done C)) → Each (λ c. number C c ≢ k) cs → without k cs ≡ cs
  without_absent k [] h = refl
  without_absent k (c ∷ cs) h = ap (λ b. cond b (without k cs) (c ∷ without k cs)) (ne_eqb (number C c) k h.0) ∙ ap (λ ds. c ∷ ds) (without_absent k cs h.1)

  -- a call stands once
  without_one : (xs : List (Done C)) (d : Done C) (ys : List (Done C)) → Pairs (λ b a. number C b < number C a) (xs ++ d ∷ ys) → without (number C d) (xs ++ d ∷ ys) ≡ xs ++ ys
  without_one [] d ys h =
      ap (λ b. cond b (without (number C d) ys) (d ∷ without (number C d) ys)) (eq-eqb (number C d) (number C d) refl)
      ∙ without_absent (number C d) ys (Each-map (λ a. number C d < number C a) (λ a. number C a ≢ number C d) (λ a lt. omega arith) ys h.0)
  without_one (x ∷ xs) d ys h =
      let lt : number C x < number C d = (Each-back (λ a. number C x < number C a) xs (d ∷ ys) h.0).0 in
      let ne : number C x ≢ number C d = omega arith in
      ap (λ b. cond b (without (number C d) (xs ++ d ∷ ys)) (x ∷ without (number C d) (xs ++ d ∷ ys))) (ne_eqb (number C x) (number C d) ne)
      ∙ ap (λ ds. x ∷ ds) (without_one xs d ys h.1)

  -- of two calls that stand, the one with the smaller stamp stands first
  pub ordered : (R : Done C → Done C → Type 0) (cs : List (Done C)) (x y : Done C) → Pairs (λ b a. number C b < number C a) cs → Pairs R cs → In x cs → In y cs → number C x < number C y → R x y
  ordered R [] x y rise h i j lt = absurd i
  ordered R (c ∷ cs) x y rise h (inl e) (inl f) lt = let same : number C x ≡ number C y = ap (number C) (e ∙ sym f) in absurd (omega arith)
  ordered R (c ∷ cs) x y rise h (inl e) (inr j) lt = subst (λ z. R z y) (sym e) (Each-at (R c) cs y h.0 j)
  ordered R (c ∷ cs) x y rise h (inr i) (inl f) lt =
      let same : number C y ≡ number C c = ap (number C) f in
      let less : number C c < number C x = Each-at (λ a. number C c < number C a) cs x rise.0 i in
      absurd (omega arith)
  ordered R (c ∷ cs) x y rise h (inr i) (inr j) lt = ordered R cs x y rise.1 h.1 i j lt

  -- The standing calls, oldest first, with their owners, and the lists of those that have owners,
  -- newest first.
  pub record Kept (above : ℕ → ℕ → Bool) (owner : Done C → Option ℕ) (cs : List (Done C)) (log : ℕ → List (Done C)) : Type 0 where
    pub rising : Pairs (λ b a. number C b < number C a) cs
    pub nested : Pairs (IsNested C above owner) cs
    pub behind : (t : ℕ) → Pairs (IsInFront C) (log t)
    pub owned : (t : ℕ) (c : Done C) → In c (log t) → In c cs × (owner c ≡ Some t)
    pub logged : (t : ℕ) (c : Done C) → In c cs → owner c ≡ Some t → In c (log t)

  -- the same, where the owners are told in another way
  pub kept_agree : (above above' : ℕ → ℕ → Bool) (owner owner' : Done C → Option ℕ) (cs : List (Done C)) (log : ℕ → List (Done C))
      → ((c : Done C) → In c cs → owner' c ≡ owner c) → ((a b : Done C) → In a cs → In b cs → Covers above (owner a) (owner b) → Covers above' (owner a) (owner b))
      → Kept above owner cs log → Kept above' owner' cs log
  kept_agree above above' owner owner' cs log same covers kept = record {
    rising = kept.rising;
    nested = Pairs-with (IsNested C above owner) (IsNested C above' owner') (λ c. In c cs)
        (λ b a i j r k. subst (λ o. Covers above' o (owner' a)) (sym (same b i)) (subst (Covers above' (owner b)) (sym (same a j)) (covers b a i j (r k))))
        cs (Each-from (λ c. In c cs) cs (λ c i. i)) kept.nested;
    behind = kept.behind;
    owned = λ t c i. let own = kept.owned t c i in (own.0, same c own.0 ∙ own.1);
    logged = λ t c i e. kept.logged t c i (sym (same c i) ∙ e);
  }

module _ (C : Calls) (above : ℕ → ℕ → Bool) (owner : Done C → Option ℕ) (cs : List (Done C)) (log : ℕ → List (Done C)) (kept : Kept C above owner cs log) where
  -- of the standing calls no two have one stamp
  pub one_number : (a b : Done C) → In a cs → In b cs → number C a ≡ number C b → a ≡ b
  one_number a b i j e = same cs kept.rising i j
    where
      same : (zs : List (Done C)) → Pairs (λ b a. number C b < number C a) zs → In a zs → In b zs → a ≡ b
      same [] rise i j = absurd i
      same (z ∷ zs) rise (inl f) (inl g) = f ∙ sym g
      same (z ∷ zs) rise (inl f) (inr j) =
          let one : number C a ≡ number C z = ap (number C) f in
          let less : number C z < number C b = Each-at (λ w. number C z < number C w) zs b rise.0 j in
          absurd (omega arith)
      same (z ∷ zs) rise (inr i) (inl g) =
          let one : number C b ≡ number C z = ap (number C) g in
          let less : number C z < number C a = Each-at (λ w. number C z < number C w) zs a rise.0 i in
          absurd (omega arith)
      same (z ∷ zs) rise (inr i) (inr j) = same zs rise.1 i j

  -- the newest call of n
  module _ (n : ℕ) (d : Done C) (ds : List (Done C)) (newest : log n ≡ d ∷ ds) where
    pub taken_owned : In d cs × (owner d ≡ Some n)
    taken_owned = kept.owned n d (subst (λ xs. In d xs) (sym newest) (inl refl))

    taken_in_front : Pairs (IsInFront C) (d ∷ ds)
    taken_in_front = subst (Pairs (IsInFront C)) newest (kept.behind n)

    module _ (xs ys : List (Done C)) (split : cs ≡ xs ++ d ∷ ys) where
      taken_rising : Pairs (λ b a. number C b < number C a) (xs ++ d ∷ ys)
      taken_rising = subst (Pairs (λ b a. number C b < number C a)) split kept.rising

      pub taken_calls : without C (number C d) cs ≡ xs ++ ys
      taken_calls = ap (without C (number C d)) split ∙ without_one C xs d ys taken_rising

      -- no later call conflicts with it, if the lists below n have older ones alone
      pub taken_clear : ((x : ℕ) → above n x ≡ true → x ≢ n → Each (λ y. number C y < number C d) (log x)) → Clear C d ys
      taken_clear older_below =
          Each-from (λ c. C.conflict d.accesses c.accesses ≡ false) ys (λ y i.
          let later : number C d < number C y = Each-at (λ a. number C d < number C a) ys y (Pairs-after (λ b a. number C b < number C a) xs d ys taken_rising) i in
          elim (cases_Bool (C.conflict d.accesses y.accesses)) [
            | inr k ↦ k
            | inl k ↦
                let covers = Each-at (IsNested C above owner d) ys y (Pairs-after (IsNested C above owner) xs d ys (subst (Pairs (IsNested C above owner)) split kept.nested)) i k in
                let below = covered above n (owner y) (subst (λ o. Covers above o (owner y)) taken_owned.1 covers) in
                let here : In y cs = subst (In y) (sym split) (In-back y xs (d ∷ ys) (inr i)) in
                let listed : In y (log below.0) = kept.logged below.0 y here below.1 in
                by_number below.0 n
                (λ e.
                let there : In y (d ∷ ds) = subst (In y) (ap log e ∙ newest) listed in
                elim there [
                  | inl same ↦ let is : number C y ≡ number C d = ap (number C) same in absurd (omega arith)
                  | inr j ↦ let older : number C y < number C d = (Each-at (IsInFront C d) ds y taken_in_front.0 j).1 k in absurd (omega arith)
                ])
                (λ e. let older : number C y < number C d = Each-at (λ z. number C z < number C d) (log below.0) y (older_below below.0 below.2 e) listed in absurd (omega arith))
          ])

      -- it isn't among the others
      taken_gone : (c : Done C) → In c (xs ++ ys) → c ≡ d → ⊥
      taken_gone c i e =
          let is : number C c ≡ number C d = ap (number C) e in
          elim (In-cases c xs ys i) [
            | inl j ↦ let before : number C c < number C d = Each-at (λ x. number C x < number C d) xs c (Pairs-before (λ b a. number C b < number C a) xs d ys taken_rising) j in omega arith
            | inr j ↦ let behind : number C d < number C c = Each-at (λ a. number C d < number C a) ys c (Pairs-after (λ b a. number C b < number C a) xs d ys taken_rising) j in omega arith
          ]

      taken_stays : (c : Done C) → In c cs → (c ≡ d → ⊥) → In c (without C (number C d) cs)
      taken_stays c i other =
          subst (In c) (sym taken_calls) (elim (In-without c xs d ys (subst (In c) split i)) [ inl e ↦ absurd (other e) | inr j ↦ j ])

      pub taken_kept : Kept C above owner (without C (number C d) cs) (put log n ds)
      taken_kept = record {
        rising = subst (Pairs (λ b a. number C b < number C a)) (sym taken_calls) (Pairs-without (λ b a. number C b < number C a) xs d ys taken_rising);
        nested = subst (Pairs (IsNested C above owner)) (sym taken_calls) (Pairs-without (IsNested C above owner) xs d ys (subst (Pairs (IsNested C above owner)) split kept.nested));
        behind = λ t. by_number t n
            (λ e. subst (Pairs (IsInFront C)) (sym (put_same log n ds t e)) taken_in_front.1)
            (λ e. subst (Pairs (IsInFront C)) (sym (put_other log n ds t e)) (kept.behind t));
        owned = λ t c i. by_number t n
            (λ e.
            let j : In c ds = subst (In c) (put_same log n ds t e) i in
            let own = kept.owned n c (subst (In c) (sym newest) (inr j)) in
            let differs = (Each-at (IsInFront C d) ds c taken_in_front.0 j).0 in
            (taken_stays c own.0 (λ is. differs (ap (number C) (sym is))), own.1 ∙ ap Some (sym e)))
            (λ e.
            let own = kept.owned t c (subst (In c) (put_other log n ds t e) i) in
            let same_owner : c ≡ d → t ≡ n = λ is. let two : Some t ≡ Some n = sym own.1 ∙ ap owner is ∙ taken_owned.1 in cc in
            (taken_stays c own.0 (λ is. e (same_owner is)), own.1));
        logged = λ t c i o.
            let left : In c (xs ++ ys) = subst (In c) taken_calls i in
            let listed = kept.logged t c (subst (In c) (sym split) (In-with c xs d ys left)) o in
            by_number t n
            (λ e. subst (In c) (sym (put_same log n ds t e)) (elim (taken_cases c (subst (In c) (ap log e ∙ newest) listed)) [ inl is ↦ absurd (taken_gone c left is) | inr j ↦ j ]))
            (λ e. subst (In c) (sym (put_other log n ds t e)) listed);
      }
        where
          taken_cases : (c : Done C) → In c (d ∷ ds) → (c ≡ d) ⊎ In c ds
          taken_cases c i = i

  -- A call is granted to t, where each owner of a conflicting call is at or above t.
  pub granted_kept : (t : ℕ) (c : Done C) → owner c ≡ Some t → Each (λ b. number C b < number C c) cs → Each (λ b. C.conflict b.accesses c.accesses ≡ true → Covers above (owner b) (Some t)) cs
      → Kept C above owner (cs ++ c ∷ []) (pushed log t c)
  granted_kept t c mine newer allowed =
      let listed_older : (u : ℕ) (d : Done C) → In d (log u) → number C d < number C c = λ u d i. Each-at (λ b. number C b < number C c) cs d newer (kept.owned u d i).0 in
      let granted_owned : (u : ℕ) (d : Done C) → u ≡ t → In d (c ∷ log t) → In d (cs ++ c ∷ []) × (owner d ≡ Some u) =
      λ u d e i. elim i [
        | inl is ↦ (In-back d cs (c ∷ []) (inl is), ap owner is ∙ mine ∙ ap Some (sym e))
        | inr j ↦ let own = kept.owned t d j in (In-front d cs (c ∷ []) own.0, own.1 ∙ ap Some (sym e))
      ] in
      record {
        rising = Pairs-push (λ b a. number C b < number C a) cs c kept.rising newer;
        nested = Pairs-push (IsNested C above owner) cs c kept.nested
            (Each-map (λ b. C.conflict b.accesses c.accesses ≡ true → Covers above (owner b) (Some t)) (λ b. IsNested C above owner b c) (λ b ok k. subst (Covers above (owner b)) (sym mine) (ok k)) cs allowed);
        behind = λ u. by_number u t
            (λ e. subst (Pairs (IsInFront C)) (sym (put_same log t (c ∷ log t) u e))
            (Each-from (IsInFront C c) (log t) (λ d i. let lt = listed_older t d i in (λ is. absurd (omega arith), λ _. lt)), kept.behind t))
            (λ e. subst (Pairs (IsInFront C)) (sym (put_other log t (c ∷ log t) u e)) (kept.behind u));
        owned = λ u d i. by_number u t
            (λ e. granted_owned u d e (subst (In d) (put_same log t (c ∷ log t) u e) i))
            (λ e. let own = kept.owned u d (subst (In d) (put_other log t (c ∷ log t) u e) i) in (In-front d cs (c ∷ []) own.0, own.1));
        logged = λ u d i o. elim (In-cases d cs (c ∷ []) i) [
          | inl j ↦
              let listed = kept.logged u d j o in
              by_number u t
              (λ e. subst (In d) (sym (put_same log t (c ∷ log t) u e)) (inr (subst (λ v. In d (log v)) e listed)))
              (λ e. subst (In d) (sym (put_other log t (c ∷ log t) u e)) listed)
          | inr j ↦ elim j [
            | inr none ↦ absurd none
            | inl is ↦
                let both : Some t ≡ Some u = sym mine ∙ ap owner (sym is) ∙ o in
                let e : u ≡ t = cc in
                subst (In d) (sym (put_same log t (c ∷ log t) u e)) (inl is)
          ]
        ];
      }

  -- t commits.
  module _ (parent : ℕ → Option ℕ) (forest : ForestLaws parent above) (t : ℕ) where
    moved_up : (p : ℕ) → parent t ≡ Some p → (o w : Option ℕ) → Covers above o w → Covers above (moved t (Some p) o) (moved t (Some p) w)
    moved_up p up None w h = tt
    moved_up p up (Some y) None h = absurd h
    moved_up p up (Some y) (Some x) h = by_number y t
        (λ e. subst (λ o. Covers above o (moved t (Some p) (Some x))) (sym (moved_same t (Some p) y e))
        (by_number x t
        (λ f. subst (Covers above (Some p)) (sym (moved_same t (Some p) x f)) (forest.itself p))
        (λ f. subst (Covers above (Some p)) (sym (moved_other t (Some p) x f)) (forest.over_parent t p x up (subst (λ z. above z x ≡ true) e h)))))
        (λ e. subst (λ o. Covers above o (moved t (Some p) (Some x))) (sym (moved_other t (Some p) y e))
        (by_number x t
        (λ f. subst (Covers above (Some y)) (sym (moved_same t (Some p) x f))
        (elim (forest.to_parent t p y up (subst (λ z. above y z ≡ true) f h)) [ inl same ↦ absurd (e same) | inr k ↦ k ]))
        (λ f. subst (Covers above (Some y)) (sym (moved_other t (Some p) x f)) h)))

    moved_out : parent t ≡ None → (o w : Option ℕ) → Covers above o w → Covers above (moved t None o) (moved t None w)
    moved_out up None w h = tt
    moved_out up (Some y) None h = absurd h
    moved_out up (Some y) (Some x) h = by_number y t
        (λ e. subst (λ o. Covers above o (moved t None (Some x))) (sym (moved_same t None y e)) tt)
        (λ e. subst (λ o. Covers above o (moved t None (Some x))) (sym (moved_other t None y e))
        (subst (Covers above (Some y)) (sym (moved_other t None x (λ f. e (forest.at_top t y up (subst (λ z. above y z ≡ true) f h))))) h))

    -- the list of p, behind which that of t goes: of two that conflict, t's is the later, for a
    -- later one of p's would have been refused
    handed_cross : (p : ℕ) → parent t ≡ Some p → (x y : Done C) → In x (log t) → In y (log p) → IsInFront C x y
    handed_cross p up x y i j =
        let less : p < t = forest.lower t p up in
        let mine = kept.owned t x i in
        let parents = kept.owned p y j in
        let differ : number C x ≢ number C y = λ e. let is = one_number x y mine.0 parents.0 e in let both : Some t ≡ Some p = sym mine.1 ∙ ap owner is ∙ parents.1 in let same : t ≡ p = cc in absurd (omega arith) in (
          differ,
          λ k. by_order (number C x) (number C y) differ (λ lt.
              let covers = ordered C (IsNested C above owner) cs x y kept.rising kept.nested mine.0 parents.0 lt k in
              let over : above t p ≡ true = subst (λ o. Covers above (Some t) o) parents.1 (subst (λ o. Covers above o (owner y)) mine.1 covers) in
              let wrong : t ≤ p = forest.falls t p over in absurd (omega arith)),
        )
      where
        by_order : (a b : ℕ) → a ≢ b → (a < b → b < a) → b < a
        by_order a b ne h = grind arith

    pub joined_kept : (p : ℕ) → parent t ≡ Some p → Kept C above (λ c. moved t (Some p) (owner c)) cs (handed log t (Some p))
    joined_kept p up =
        let less : p < t = forest.lower t p up in
        let all : List (Done C) = log t ++ log p in
        let mid : ℕ → List (Done C) = put log p all in
        let own : Done C → Option ℕ = λ c. moved t (Some p) (owner c) in
        record {
          rising = kept.rising;
          nested = Pairs-map (IsNested C above owner) (IsNested C above own) (λ b a h k. moved_up p up (owner b) (owner a) (h k)) cs kept.nested;
          behind = λ u. by_number u t
              (λ e. subst (Pairs (IsInFront C)) (sym (put_same mid t [] u e)) tt)
              (λ e. subst (Pairs (IsInFront C)) (sym (put_other mid t [] u e)) (by_number u p
              (λ f. subst (Pairs (IsInFront C)) (sym (put_same log p all u f)) (Pairs-append (IsInFront C) (log t) (log p) (kept.behind t) (kept.behind p) (handed_cross p up)))
              (λ f. subst (Pairs (IsInFront C)) (sym (put_other log p all u f)) (kept.behind u))));
          owned = λ u c i. by_number u t
              (λ e. absurd (subst (In c) (put_same mid t [] u e) i))
              (λ e. let j = subst (In c) (put_other mid t [] u e) i in by_number u p
              (λ f. elim (In-cases c (log t) (log p) (subst (In c) (put_same log p all u f) j)) [
                | inl k ↦ let was = kept.owned t c k in (was.0, ap (moved t (Some p)) was.1 ∙ moved_same t (Some p) t refl ∙ ap Some (sym f))
                | inr k ↦ let was = kept.owned p c k in (was.0, ap (moved t (Some p)) was.1 ∙ moved_other t (Some p) p (λ same. absurd (omega arith)) ∙ ap Some (sym f))
              ])
              (λ f. let was = kept.owned u c (subst (In c) (put_other log p all u f) j) in (was.0, ap (moved t (Some p)) was.1 ∙ moved_other t (Some p) u e)));
          logged = λ u c i o. elim (moved_from t (Some p) u (owner c) o) [
            | inl was ↦
                let f : u ≡ p = (let two : Some p ≡ Some u = was.1 in cc) in
                let e : u ≢ t = λ same. absurd (omega arith) in
                subst (In c) (sym (put_other mid t [] u e)) (subst (In c) (sym (put_same log p all u f)) (In-front c (log t) (log p) (kept.logged t c i was.0)))
            | inr was ↦
                let k = kept.logged u c i was.0 in
                subst (In c) (sym (put_other mid t [] u was.1)) (by_number u p
                (λ f. subst (In c) (sym (put_same log p all u f)) (In-back c (log t) (log p) (subst (λ v. In c (log v)) f k)))
                (λ f. subst (In c) (sym (put_other log p all u f)) k))
          ];
        }

    pub released_kept : parent t ≡ None → Kept C above (λ c. moved t None (owner c)) cs (handed log t None)
    released_kept up =
        let own : Done C → Option ℕ = λ c. moved t None (owner c) in
        record {
          rising = kept.rising;
          nested = Pairs-map (IsNested C above owner) (IsNested C above own) (λ b a h k. moved_out up (owner b) (owner a) (h k)) cs kept.nested;
          behind = λ u. by_number u t
              (λ e. subst (Pairs (IsInFront C)) (sym (put_same log t [] u e)) tt)
              (λ e. subst (Pairs (IsInFront C)) (sym (put_other log t [] u e)) (kept.behind u));
          owned = λ u c i. by_number u t
              (λ e. absurd (subst (In c) (put_same log t [] u e) i))
              (λ e. let was = kept.owned u c (subst (In c) (put_other log t [] u e) i) in (was.0, ap (moved t None) was.1 ∙ moved_other t None u e));
          logged = λ u c i o. elim (moved_from t None u (owner c) o) [
            | inl was ↦ absurd (none_some u was.1)
            | inr was ↦ subst (In c) (sym (put_other log t [] u was.1)) (kept.logged u c i was.0)
          ];
        }

    pub handed_kept : (o : Option ℕ) → parent t ≡ o → Kept C above (λ c. moved t o (owner c)) cs (handed log t o)
    handed_kept None up = released_kept up
    handed_kept (Some p) up = joined_kept p up
