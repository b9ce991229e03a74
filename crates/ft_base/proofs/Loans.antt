-- Two ways to say what a loan leaves agree, where they agree at each value that may be left, and
-- where nothing was lent.
use Rattle.std.proofs.Common.{◌≡◌, ◌⊎◌, inl, Option, Some, None, IsSome, subst, refl}
use Rattle.std.proofs.lemmas.Bool.{false≢true}
use Rattle.std.specs.Borrow.{MutBor}
use Rattle.std.specs.Option.{ghost_name_of, option_copied_mut}
use borrow.Follows.Closed.{read_of}

module _ {E : Type 0} where
  pub same_loan : {D : Type 0} (r : Option (MutBor E)) (F F' : E → D) (v v' : D) → (IsSome r → (w : E) → F w ≡ F' w) → v ≡ v'
      → read_of (ghost_name_of r) F v ≡ read_of (ghost_name_of r) F' v'
  same_loan (Some x) F F' v v' some none = λ i. read_of (ghost_name_of (Some x)) (λ w. some refl w i) (none i)
  same_loan None F F' v v' some none = let r : Option (MutBor E) = None in λ i. read_of (ghost_name_of r) F (none i)

  -- what is lent stands there
  pub lent_there : (r : Option (MutBor E)) (o : Option E) → option_copied_mut r ≡ o → IsSome r → IsSome o
  lent_there (Some x) o is some = subst IsSome is refl
  lent_there None o is some = absurd (false≢true some)

-- two ways to say what is left behind one reference agree, where they agree at each value
pub same_writes : {N E D B : Type 0} (name : N) (F F' : E → D) → ((w : E) → F w ≡ F' w) → ◌≡◌ {A = (N × (E → D)) ⊎ B} (inl (name, F)) (inl (name, F'))
same_writes name F F' same = λ i. inl (name, λ w. same w i)
