-- A call comes to a list in a table.
use Rattle.std.proofs.Common.{◌≡◌, ℕ, Bool, true, false, cond, ◌==◌, Option, Some, List, ◌++◌, Result, Ok, Err, OnErr, Vec, Global, refl, sym, ap, ◌∙◌}
use Rattle.std.specs.Cmp.{nat_cmp_total, unsigned_tied}
use Rattle.std.specs.FinMap as finite
use Rattle.ft_laws.proofs.Tests.{by_number}
use Rattle.std.proofs.Common.{eq-eqb, ne_eqb}
use Rattle.ft_serial.specs.declared.asked.Asked.{Asked}
use Rattle.ft_serial.specs.Asked.{Lists, listed, calls_in}

pub on_err : {A B : Type 0} (r : Result A B) (P : Type 0) → P → OnErr r P
on_err (Ok x) P p = tt
on_err (Err e) P p = p

module _ (m : Lists) (k : ℕ) (v : Vec Asked Global) where
  placed : (t : ℕ) → calls_in (finite.insert m k v) t ≡ cond (t == k) v.items (calls_in m t)
  placed t = ap listed (finite.get-insert nat_cmp_total m k v t ∙ ap (λ b. cond b (Some v) (finite.get m t)) (unsigned_tied t k)) ∙ out (t == k)
    where
      out : (b : Bool) → listed (cond b (Some v) (finite.get m t)) ≡ cond b v.items (listed (finite.get m t))
      out true = refl
      out false = refl

  -- the list that the key had stands there, with these behind it
  pub behind : (more : List Asked) (o : Option (Vec Asked Global)) → finite.get m k ≡ o → v.items ≡ listed o ++ more → (t : ℕ) → calls_in (finite.insert m k v) t ≡ cond (t == k) (calls_in m t ++ more) (calls_in m t)
  behind more o there items t = placed t ∙ by_number t k
      (λ e.
      ap (λ b. cond b v.items (calls_in m t)) (eq-eqb t k e) ∙ items ∙ ap (λ (p : Option (Vec Asked Global)). listed p ++ more) (sym there) ∙ ap (λ n. calls_in m n ++ more) (sym e)
      ∙ sym (ap (λ b. cond b (calls_in m t ++ more) (calls_in m t)) (eq-eqb t k e)))
      (λ ne. ap (λ b. cond b v.items (calls_in m t)) (ne_eqb t k ne) ∙ sym (ap (λ b. cond b (calls_in m t ++ more) (calls_in m t)) (ne_eqb t k ne)))

pub either : (b : Bool) (xs : List Asked) → cond b xs xs ≡ xs
either true xs = refl
either false xs = refl
