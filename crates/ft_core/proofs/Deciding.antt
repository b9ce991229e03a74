-- A derived `==` decides whether two values of an enum are the same, where the `==` of each field
-- does.
use Rattle.std.proofs.Common.{◌≡◌, Bool, true, false, ◌&&◌, List, [], ◌∷◌, Some, None, Decides, refl, ap}
use Rattle.std.proofs.lemmas.Bool.{false≢true}
use Rattle.std.proofs.lemmas.Bool.Decides.{Decides-and}
use Rattle.std.specs.Option.{option_eq}
use Rattle.std.proofs.Math.Logic.{inl, inr}
use denote.Struct.Field.{Field}
use denote.Enum.Declared.{Record, Declared, values_one}
use denote.Enum.Bare.{Bare, sameb, same_true, true_same}
use denote.Enum.Compared.{Each, by}

abbrev pub Decided : {A : Type 0} → (A → A → Bool) → Type 0
Decided {A} same = (x y : A) → Decides (same x y) (x ≡ y)

-- ---- the fields of a variant

pub no_field : Decided (λ (x y : Unit {0}). true)
no_field x y = (λ is. refl, λ is. refl)

module _ {A : Type 0} {same : A → A → Bool} (decided : Decided same) where
  pub field : Decided (λ (x y : A × Unit {0}). same x.0 y.0)
  field x y = (λ is. ap (λ (a : A). (a, tt)) ((decided x.0 y.0).0 is), λ is. (decided x.0 y.0).1 (ap (λ (z : A × Unit {0}). z.0) is))

  -- a field before others, or the first of a pair
  pub field_and : {B : Type 0} {later : B → B → Bool} → Decided later → Decided (λ (x y : A × B). same x.0 y.0 && later x.1 y.1)
  field_and {B} {later} rest x y =
      let each = Decides-and (same x.0 y.0) (later x.1 y.1) (decided x.0 y.0) (rest x.1 y.1) in
      (λ is i. ((each.0 is).0 i, (each.0 is).1 i), λ is. each.1 (ap (λ (z : A × B). z.0) is, ap (λ (z : A × B). z.1) is))

-- a value that may be none
pub optional : {A : Type 0} {same : A → A → Bool} → Decided same → Decided (option_eq same)
optional decided None None = (λ is. refl, λ is. refl)
optional decided None (Some y) = (λ is. absurd (false≢true is), λ is. absurd (cc))
optional decided (Some x) None = (λ is. absurd (false≢true is), λ is. absurd (cc))
optional decided (Some x) (Some y) = (λ is. ap Some ((decided x y).0 is), λ is. (decided x y).1 (cc))

-- ---- enums

-- without fields
pub bare : (D : Declared) → Bare D.parts → Decided (sameb D)
bare D fieldless x y = (same_true D fieldless x y, true_same D x y)

abbrev pub AllDecided : (Fss : List (List Field)) → Each Bool Fss → Type 0
AllDecided [] each = Unit {0}
AllDecided (Fs ∷ Fss) each = Decided each.0 × AllDecided Fss each.1

choices : (Fss : List (List Field)) (each : Each Bool Fss) → AllDecided Fss each → Decided (by false false Fss each)
choices [] each all c d = absurd c
choices (Fs ∷ Fss) each all (inl x) (inl y) = (λ is. ap inl ((all.0 x y).0 is), λ is. (all.0 x y).1 (cc))
choices (Fs ∷ Fss) each all (inl x) (inr d) = (λ is. absurd (false≢true is), λ is. absurd (cc))
choices (Fs ∷ Fss) each all (inr c) (inl y) = (λ is. absurd (false≢true is), λ is. absurd (cc))
choices (Fs ∷ Fss) each all (inr c) (inr d) = (λ is. ap inr ((choices Fss each.1 all.1 c d).0 is), λ is. (choices Fss each.1 all.1 c d).1 (cc))

pub variants : (N : Record) (each : Each Bool N.parts) → AllDecided N.parts each → Decided (λ x y. by false false N.parts each (N.as_values x) (N.as_values y))
variants N each all x y =
    let decided = choices N.parts each all (N.as_values x) (N.as_values y) in
    (λ is. values_one N x y (decided.0 is), λ is. decided.1 (ap N.as_values is))
