-- The undo logs after each change of their chains.
use Rattle.std.proofs.Common.{◌≡◌, ◌≢◌, ◌==◌, ℕ, Bool, true, false, cond, List, [], ◌∷◌, ◌++◌, drop, slice_get, Option, Some, None, is_some, OnSome, IfNone, Result, Ok, Err, OnOk, OnErr, refl, sym, ap, subst, ◌∙◌}
use Rattle.std.specs.Option.{unwrap_or}
use Rattle.std.specs.Cmp.{nat_cmp_total, unsigned_tied}
use Rattle.std.specs.Ordering.{nat_cmp}
use Rattle.std.specs.FinMap as finite
use Rattle.ft_laws.proofs.Tests.{by_number, by_option}
use Rattle.ft_owned_lists.specs.OwnedLists.{Lists, list_in, spliced}
use Rattle.ft_history.specs.Logs.{put, rest, popped, handed}
use Rattle.ft_history.proofs.Words.{put_same, put_other, by_list}
use Rattle.ft_undo.specs.declared.logs.LogRecord.{LogRecord}
use Rattle.ft_undo.specs.Logs.{is_open, AreLists, AreOpen}

-- One list set, or taken away.

at_insert : (m : Lists LogRecord) (k : ℕ) (l : List LogRecord) (x : ℕ) → finite.get (finite.insert m k l) x ≡ cond (x == k) (Some l) (finite.get m x)
at_insert m k l x = finite.get-insert nat_cmp_total m k l x ∙ ap (λ b. cond b (Some l) (finite.get m x)) (unsigned_tied x k)

at_remove : (m : Lists LogRecord) (k : ℕ) (x : ℕ) → finite.get (finite.remove m k) x ≡ cond (x == k) None (finite.get m x)
at_remove m k x = finite.get-remove nat_cmp_total m k x ∙ ap (λ b. cond b None (finite.get m x)) (unsigned_tied x k)

pub lists-insert : (m : Lists LogRecord) (k : ℕ) (l : List LogRecord) → AreLists (finite.insert m k l) (put (list_in m) k l)
lists-insert m k l x = ap (λ (o : Option (List LogRecord)). unwrap_or o []) (at_insert m k l x) ∙ chosen (x == k) (finite.get m x)
  where
    chosen : (b : Bool) (o : Option (List LogRecord)) → unwrap_or (cond b (Some l) o) [] ≡ cond b l (unwrap_or o [])
    chosen true o = refl
    chosen false o = refl

pub open-insert : (m : Lists LogRecord) (k : ℕ) (l : List LogRecord) → AreOpen (finite.insert m k l) (put (is_open m) k true)
open-insert m k l x = ap is_some (at_insert m k l x) ∙ chosen (x == k) (finite.get m x)
  where
    chosen : (b : Bool) (o : Option (List LogRecord)) → is_some (cond b (Some l) o) ≡ cond b true (is_some o)
    chosen true o = refl
    chosen false o = refl

pub lists-remove : (m : Lists LogRecord) (k : ℕ) → AreLists (finite.remove m k) (put (list_in m) k [])
lists-remove m k x = ap (λ (o : Option (List LogRecord)). unwrap_or o []) (at_remove m k x) ∙ chosen (x == k) (finite.get m x)
  where
    chosen : (b : Bool) (o : Option (List LogRecord)) → unwrap_or (cond b None o) [] ≡ cond b [] (unwrap_or o [])
    chosen true o = refl
    chosen false o = refl

pub open-remove : (m : Lists LogRecord) (k : ℕ) → AreOpen (finite.remove m k) (put (is_open m) k false)
open-remove m k x = ap is_some (at_remove m k x) ∙ chosen (x == k) (finite.get m x)
  where
    chosen : (b : Bool) (o : Option (List LogRecord)) → is_some (cond b None o) ≡ cond b false (is_some o)
    chosen true o = refl
    chosen false o = refl

-- to put what is there changes nothing
put-kept : {A : Type 0} (f : ℕ → A) (n : ℕ) (a : A) → f n ≡ a → (x : ℕ) → put f n a x ≡ f x
put-kept f n a is x = by_number x n (λ e. put_same f n a x e ∙ sym is ∙ ap f (sym e)) (put_other f n a x)

-- who has something in its list is open
open-filled : (m : Lists LogRecord) (k : ℕ) (y : LogRecord) (ys : List LogRecord) → list_in m k ≡ y ∷ ys → is_open m k ≡ true
open-filled m k y ys is = by_option (finite.get m k)
    (λ none. absurd (no_list (sym (ap (λ (o : Option (List LogRecord)). unwrap_or o []) none) ∙ is)))
    (λ l some. ap is_some some)
  where
    no_list : [] ≡ y ∷ ys → ⊥
    no_list e = cc

-- The logs after each call.

pub lists-none : (m : Lists LogRecord) → m ≡ finite.empty → AreLists m (λ _. [])
lists-none m is x = ap (λ (m : Lists LogRecord). list_in m x) is ∙ ap (λ (o : Option (List LogRecord)). unwrap_or o []) (finite.get-empty nat_cmp x)

pub open-none : (m : Lists LogRecord) → m ≡ finite.empty → AreOpen m (λ _. false)
open-none m is x = ap (λ (m : Lists LogRecord). is_open m x) is ∙ ap is_some (finite.get-empty {X = List LogRecord} nat_cmp x)

-- a list was set of one that was open
pub lists-set : (old new : Lists LogRecord) (k : ℕ) (l : List LogRecord) → new ≡ finite.insert old k l → AreLists new (put (list_in old) k l)
lists-set old new k l is x = ap (λ (m : Lists LogRecord). list_in m x) is ∙ lists-insert old k l x

pub open-set : (old new : Lists LogRecord) (k : ℕ) (l : List LogRecord) → new ≡ finite.insert old k l → is_open old k ≡ true → AreOpen new (is_open old)
open-set old new k l is there x = ap (λ (m : Lists LogRecord). is_open m x) is ∙ open-insert old k l x ∙ put-kept (is_open old) k true there x

pub open-same : (old new : Lists LogRecord) → new ≡ old → AreOpen new (is_open old)
open-same old new is x = ap (λ (m : Lists LogRecord). is_open m x) is

module _ {E : Type 0} where
  pub lists-opened : (r : Result (Unit {0}) E) (old new : Lists LogRecord) (k : ℕ) → OnOk r (new ≡ finite.insert old k (list_in old k)) → OnErr r (new ≡ old) → AreLists new (list_in old)
  lists-opened (Ok u) old new k ok err x = lists-set old new k (list_in old k) ok x ∙ put-kept (list_in old) k (list_in old k) refl x
  lists-opened (Err e) old new k ok err x = ap (λ (m : Lists LogRecord). list_in m x) err

  pub open-opened : (r : Result (Unit {0}) E) (old new : Lists LogRecord) (k : ℕ) → OnOk r (new ≡ finite.insert old k (list_in old k)) → OnOk r (AreOpen new (put (is_open old) k true))
  open-opened (Ok u) old new k ok = λ x. ap (λ (m : Lists LogRecord). is_open m x) ok ∙ open-insert old k (list_in old k) x
  open-opened (Err e) old new k ok = tt

-- the newest of a list was taken out, where there is one
pub record IsPopped (old new : Lists LogRecord) (k : ℕ) (r : Option LogRecord) : Type 0 where
  pub lists : AreLists new (popped (list_in old) (Some k))
  pub opened : AreOpen new (is_open old)

pub is_popped : (old new : Lists LogRecord) (k : ℕ) (r : Option LogRecord) → r ≡ slice_get (list_in old k) 0 → OnSome r (new ≡ finite.insert old k (drop 1 (list_in old k))) → IfNone r (new ≡ old) → IsPopped old new k r
is_popped old new k r value some none = by_list (list_in old k)
    (λ e.
    let nothing : r ≡ None = value ∙ ap (λ l. slice_get l 0) e in
    let same : new ≡ old = subst (λ o. IfNone o (new ≡ old)) nothing none in
    record {
      lists = λ x. ap (λ (m : Lists LogRecord). list_in m x) same ∙ sym (put-kept (list_in old) k _ (e ∙ sym (ap rest e)) x);
      opened = λ x. ap (λ (m : Lists LogRecord). is_open m x) same;
    })
    (λ y ys e.
    let newest : r ≡ Some y = value ∙ ap (λ l. slice_get l 0) e in
    let set : new ≡ finite.insert old k (drop 1 (list_in old k)) = subst (λ o. OnSome o (new ≡ finite.insert old k (drop 1 (list_in old k)))) newest some in
    record {
      lists = λ x. lists-set old new k _ set x ∙ ap (λ l. put (list_in old) k l x) (ap (λ (l : List LogRecord). drop 1 l) e ∙ sym (ap rest e));
      opened = open-set old new k _ set (open-filled old k y ys e);
    })

-- a child's list went behind its parent's, and the child was closed
pub lists-spliced : (old mid new : Lists LogRecord) (child parent : ℕ) → mid ≡ spliced old child parent → new ≡ finite.remove mid child → AreLists new (handed (list_in old) child (Some parent))
lists-spliced old mid new child parent made closed x =
    ap (λ (m : Lists LogRecord). list_in m x) closed ∙ lists-remove mid child x
    ∙ by_number x child
    (λ e. put_same (list_in mid) child [] x e ∙ sym (put_same after child [] x e))
    (λ e. put_other (list_in mid) child [] x e ∙ others e ∙ sym (put_other after child [] x e))
  where
    both : List LogRecord
    both = list_in old child ++ list_in old parent

    after : ℕ → List LogRecord
    after = put (list_in old) parent both

    others : x ≢ child → list_in mid x ≡ after x
    others e =
        lists-set (finite.insert old child []) mid parent both made x
        ∙ ap (λ l. cond (x == parent) both l) (lists-insert old child [] x ∙ put_other (list_in old) child [] x e)

pub open-spliced : (old mid new : Lists LogRecord) (child parent : ℕ) → mid ≡ spliced old child parent → new ≡ finite.remove mid child → is_open old child ≡ true → is_open old parent ≡ true → AreOpen new (put (is_open old) child false)
open-spliced old mid new child parent made closed there up x =
    ap (λ (m : Lists LogRecord). is_open m x) closed ∙ open-remove mid child x ∙ ap (λ b. cond (x == child) false b) (same x)
  where
    first : Lists LogRecord
    first = finite.insert old child []

    first-same : (y : ℕ) → is_open first y ≡ is_open old y
    first-same = open-set old first child [] refl there

    same : (y : ℕ) → is_open mid y ≡ is_open old y
    same y = open-set first mid parent _ made (first-same parent ∙ up) y ∙ first-same y

-- so it can be closed
pub child-empty : (old mid : Lists LogRecord) (child parent : ℕ) → mid ≡ spliced old child parent → child ≢ parent → list_in mid child ≡ []
child-empty old mid child parent made apart =
    lists-set (finite.insert old child []) mid parent (list_in old child ++ list_in old parent) made child
    ∙ put_other (list_in (finite.insert old child [])) parent _ child apart
    ∙ lists-insert old child [] child ∙ put_same (list_in old) child [] child refl

-- the list of k was emptied, and k closed
pub lists-closed : (old mid new : Lists LogRecord) (k : ℕ) → ((x : ℕ) → x ≢ k → list_in mid x ≡ list_in old x) → new ≡ finite.remove mid k → AreLists new (handed (list_in old) k None)
lists-closed old mid new k others closed x =
    ap (λ (m : Lists LogRecord). list_in m x) closed ∙ lists-remove mid k x
    ∙ by_number x k
    (λ e. put_same (list_in mid) k [] x e ∙ sym (put_same (list_in old) k [] x e))
    (λ e. put_other (list_in mid) k [] x e ∙ others x e ∙ sym (put_other (list_in old) k [] x e))

pub open-closed : (old mid new : Lists LogRecord) (k : ℕ) → AreOpen mid (is_open old) → new ≡ finite.remove mid k → AreOpen new (put (is_open old) k false)
open-closed old mid new k same closed x = ap (λ (m : Lists LogRecord). is_open m x) closed ∙ open-remove mid k x ∙ ap (λ b. cond (x == k) false b) (same x)
