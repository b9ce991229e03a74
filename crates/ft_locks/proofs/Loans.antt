-- Loans of holders.
use Rattle.std.proofs.Common.{◌≡◌, ◌⊎◌, inl, Option, Some, None, IsSome, refl}
use Rattle.std.proofs.lemmas.Bool.{false≢true}
use Rattle.std.specs.Borrow.{MutBor}
use Rattle.std.specs.Option.{option_copied_mut}

-- a loan of what is there
pub lent_somewhere : {E : Type 0} (r : Option (MutBor E)) → IsSome (option_copied_mut r) → IsSome r
lent_somewhere (Some x) some = refl
lent_somewhere None some = absurd (false≢true some)

-- two loans to one name agree, where what they leave agrees
pub same_lent : {G D E : Type 0} (name : G) (F F' : E → D) → ((w : E) → F w ≡ F' w) → ◌≡◌ {A = (G × (E → D)) ⊎ D} (inl (name, F)) (inl (name, F'))
same_lent name F F' same = λ i. inl (name, λ w. same w i)
