-- How many numbers pass a test, and what is written at a parent.
use Rattle.std.proofs.Common.{◌≡◌, ◌≢◌, ◌<◌, ◌≤◌, ◌+◌, ◌==◌, ◌&&◌, ℕ, zero, suc, Bool, true, false, cond, Option, Some, None, refl, sym, ap, ◌∙◌, arith, eqb-true, eq-eqb}
use Rattle.std.proofs.lemmas.Bool.{false≢true}
use Rattle.ft_laws.proofs.Tests.{by_test}
use Rattle.ft_history.specs.Forest.{is_some_and}
use Rattle.ft_history.proofs.Words.{put_same, put_other, by_number, same_some, none_some}
use Rattle.ft_forest.specs.declared.state.State.{State}
use Rattle.ft_forest.specs.declared.state.State.TheVariants.{Live}
use Rattle.ft_forest.specs.Transactions.{is_live_state, is_live, count_below}
use Rattle.ft_forest.specs.Records.{Links, put_youngest, put_at, is_child_at}

-- the same parent or another
pub by_parent : {P : Type 0} (q p : Option ℕ) → (q ≡ p → P) → ((q ≡ p → ⊥) → P) → P
by_parent None None f g = f refl
by_parent None (Some b) f g = g (λ e. none_some b e)
by_parent (Some a) None f g = g (λ e. none_some a (sym e))
by_parent (Some a) (Some b) f g = by_number a b (λ e. f (ap Some e)) (λ ne. g (λ e. ne (same_some a b e)))

pub put_youngest_same : (f : Option ℕ → Option ℕ) (p new q : Option ℕ) → q ≡ p → put_youngest f p new q ≡ new
put_youngest_same f None new None e = refl
put_youngest_same f None new (Some a) e = absurd (none_some a (sym e))
put_youngest_same f (Some b) new None e = absurd (none_some b e)
put_youngest_same f (Some b) new (Some a) e = put_same (λ x. f (Some x)) b new a (same_some a b e)

pub put_youngest_other : (f : Option ℕ → Option ℕ) (p new q : Option ℕ) → (q ≡ p → ⊥) → put_youngest f p new q ≡ f q
put_youngest_other f None new None ne = absurd (ne refl)
put_youngest_other f None new (Some a) ne = refl
put_youngest_other f (Some b) new None ne = refl
put_youngest_other f (Some b) new (Some a) ne = put_other (λ x. f (Some x)) b new a (λ e. ne (ap Some e))

-- a value is written at the place, if there is one
pub put_at_same : {A : Type 0} (f : ℕ → A) (o : Option ℕ) (g : A → A) (x : ℕ) → o ≡ Some x → put_at f o g x ≡ g (f x)
put_at_same f o g x e = ap (λ p. put_at f p g x) e ∙ put_same f x (g (f x)) x refl

pub put_at_other : {A : Type 0} (f : ℕ → A) (o : Option ℕ) (g : A → A) (x : ℕ) → (o ≡ Some x → ⊥) → put_at f o g x ≡ f x
put_at_other f None g x ne = refl
put_at_other f (Some p) g x ne = put_other f p (g (f p)) x (λ e. ne (ap Some (sym e)))

pub live-is : (state : State) → Some state ≡ Some Live → is_live_state state ≡ true
live-is state e = ap is_live e

-- a live child is counted
pub child-is : (s : Links) (p i : ℕ) → s.parent i ≡ Some p → s.state i ≡ Some Live → is_child_at s p i ≡ true
child-is s p i up live = (λ j. is_some_and (up j) (λ q. q == p) && is_live (live j)) ∙ ap (λ b. b && true) (eq-eqb p p refl)

pub child-of : (o : Option ℕ) (p : ℕ) → is_some_and o (λ q. q == p) ≡ true → o ≡ Some p
child-of None p e = absurd (false≢true e)
child-of (Some q) p e = ap Some (eqb-true q p e)

-- one of another parent is not
pub child-not : (s : Links) (p i : ℕ) → (s.parent i ≡ Some p → ⊥) → is_child_at s p i ≡ false
child-not s p i ne = by_test (is_some_and (s.parent i) (λ q. q == p)) (λ k. absurd (ne (child-of (s.parent i) p k))) (λ k. ap (λ b. b && is_live (s.state i)) k)

and_false : (b : Bool) → (b && false) ≡ false
and_false true = refl
and_false false = refl

pub dead-not : (s : Links) (p i : ℕ) → is_live (s.state i) ≡ false → is_child_at s p i ≡ false
dead-not s p i dead = ap (λ b. is_some_and (s.parent i) (λ q. q == p) && b) dead ∙ and_false (is_some_and (s.parent i) (λ q. q == p))

pub count-same : (f g : ℕ → Bool) (n : ℕ) → ((i : ℕ) → i < n → f i ≡ g i) → count_below f n ≡ count_below g n
count-same f g zero same = refl
count-same f g (suc n) same = λ j. count-same f g n (λ i lt. same i (omega arith)) j + cond (same n (omega arith) j) 1 0

pub count-none : (f : ℕ → Bool) (n : ℕ) → ((i : ℕ) → i < n → f i ≡ false) → count_below f n ≡ 0
count-none f zero none = refl
count-none f (suc n) none = λ j. count-none f n (λ i lt. none i (omega arith)) j + cond (none n (omega arith) j) 1 0

-- one number less passes
pub count-less : (f g : ℕ → Bool) (n x : ℕ) → x < n → f x ≡ true → g x ≡ false → ((i : ℕ) → i ≢ x → f i ≡ g i) → count_below f n ≡ count_below g n + 1
count-less f g zero x lt passes fails same = absurd (omega arith)
count-less f g (suc n) x lt passes fails same = by_number x n
    (λ e.
    let before : count_below f n ≡ count_below g n = count-same f g n (λ i l. same i (omega arith)) in
    let at_f : cond {A = ℕ} (f n) 1 0 ≡ 1 = ap (λ b. cond b 1 0) (ap f (sym e) ∙ passes) in
    let at_g : cond {A = ℕ} (g n) 1 0 ≡ 0 = ap (λ b. cond b 1 0) (ap g (sym e) ∙ fails) in
    omega arith)
    (λ ne.
    let before : count_below f n ≡ count_below g n + 1 = count-less f g n x (omega arith) passes fails same in
    let at : cond {A = ℕ} (f n) 1 0 ≡ cond (g n) 1 0 = ap (λ b. cond b 1 0) (same n (λ e. ne (sym e))) in
    omega arith)

-- it is at most n
pub count-most : (f : ℕ → Bool) (n : ℕ) → count_below f n ≤ n
count-most f zero = omega arith
count-most f (suc n) = let rest : count_below f n ≤ n = count-most f n in by_test (f n)
    (λ k. let at : cond {A = ℕ} (f n) 1 0 ≡ 1 = ap (λ b. cond b 1 0) k in omega arith)
    (λ k. let at : cond {A = ℕ} (f n) 1 0 ≡ 0 = ap (λ b. cond b 1 0) k in omega arith)

-- one that passes is found
pub count-found : (f : ℕ → Bool) (n : ℕ) → 0 < count_below f n → (i : ℕ) × (i < n) × (f i ≡ true)
count-found f zero lt = absurd (omega arith)
count-found f (suc n) lt = by_test (f n)
    (λ k. (n, omega arith, k))
    (λ k.
    let at : cond {A = ℕ} (f n) 1 0 ≡ 0 = ap (λ b. cond b 1 0) k in
    let rest = count-found f n (omega arith) in
    let below = rest.1 in
    (rest.0, omega arith, rest.2))

pub count-zero : (f : ℕ → Bool) (n : ℕ) → count_below f n ≡ 0 → (i : ℕ) → i < n → f i ≡ false
count-zero f zero none i lt = absurd (omega arith)
count-zero f (suc n) none i lt = by_number i n
    (λ e. by_test (f n)
    (λ k. let at : cond {A = ℕ} (f n) 1 0 ≡ 1 = ap (λ b. cond b 1 0) k in absurd (omega arith))
    (λ k. ap f e ∙ k))
    (λ ne. count-zero f n (omega arith) i (omega arith))
