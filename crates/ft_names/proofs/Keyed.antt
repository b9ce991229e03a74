-- The names as a map that is looked up by bytes: what a change leaves at any name.
use Rattle.std.proofs.Common.{◌≡◌, ℕ, Bool, true, false, cond, List, Option, None, Some, refl, sym, ap, subst, ◌∙◌}
use Rattle.std.proofs.lemmas.Bool.{cond-true, cond-false}
use Rattle.std.specs.Prelude.{is_some, option_and_then}
use Rattle.std.specs.BTreeMap.{UpdatesBy}
use Rattle.std.specs.Cmp.{eq_by_cmp_equiv}
use Rattle.std.specs.Cmp.Lexicographic.{slice_cmp, bytes_decides, nat_list_cmp_total, nat_list_eq_equiv, texts_ties}
use Rattle.std.specs.Map.{lookup, IsKeyTest, AreApart, KeepsOthers}
use Rattle.std.specs.Ordering.{is_eq, nat_cmp}
use Rattle.std.specs.Str.{bytes_eq}
use Rattle.ft_names.specs.declared.naming.Names.{Names}
use Rattle.ft_names.specs.Names.{names_of, stored, with_name}

tie : (xs ys : List ℕ) → is_eq (slice_cmp nat_cmp xs ys) ≡ bytes_eq xs ys
tie xs ys = sym (texts_ties xs ys)

apart : (bs cs ks : List ℕ) → bytes_eq bs cs ≡ false → bytes_eq bs ks ≡ true → bytes_eq cs ks ≡ false
apart bs cs ks n y = nat_list_eq_equiv.symm cs ks ∙ sym (nat_list_eq_equiv.congr bs ks cs y) ∙ n

apart_in_order : (bs cs ks : List ℕ) → bytes_eq bs cs ≡ false → is_eq (slice_cmp nat_cmp bs ks) ≡ true → is_eq (slice_cmp nat_cmp cs ks) ≡ false
apart_in_order bs cs ks n y = tie cs ks ∙ apart bs cs ks n (sym (tie bs ks) ∙ y)

module _ {K : Type 0} (eq : K → K → Bool) (test : K → Bool) where
  other_entries : {X : Type 0} (old new : List (K × X)) → KeepsOthers eq test old new → (other : K → Bool) → IsKeyTest eq other → AreApart test other → lookup other new ≡ lookup other old
  unfolding KeepsOthers
  other_entries old new h = h

-- g is w at bs, and f at other bytes
by_bytes : {W : Type 0} (f g : List ℕ → W) (bs : List ℕ) (w : W) → g bs ≡ w → ((cs : List ℕ) → bytes_eq bs cs ≡ false → g cs ≡ f cs) → (cs : List ℕ) → g cs ≡ cond (bytes_eq bs cs) w (f cs)
by_bytes f g bs w here other cs = either (bytes_eq bs cs) refl
  where
    either : (b : Bool) → bytes_eq bs cs ≡ b → g cs ≡ cond (bytes_eq bs cs) w (f cs)
    either true y = subst (λ l. g l ≡ w) ((bytes_decides bs cs).0 y) here ∙ sym (cond-true (bytes_eq bs cs) w (f cs) y)
    either false n = other cs n ∙ sym (cond-false (bytes_eq bs cs) w (f cs) n)

-- what is stored at any name after a change at one
stored_after : (old new : Names) (name : List ℕ) (w : Option (Option ℕ)) → UpdatesBy (λ x y. slice_cmp nat_cmp x.items y.items) (λ key. slice_cmp nat_cmp name key.items) old.numbers new.numbers w
    → (other : List ℕ) → stored new other ≡ cond (bytes_eq name other) w (stored old other)
stored_after old new name w h = by_bytes (stored old) (stored new) name w h.1 (λ other n. other_entries _ _ _ _ h.3 _ (λ x y. (eq_by_cmp_equiv nat_list_cmp_total).congr other x.items y.items) (λ key. apart_in_order name other key.items n))

given : (b : Bool) (number : Option ℕ) (x : Option (Option ℕ)) → option_and_then (λ n. n) (cond b (Some number) x) ≡ cond b number (option_and_then (λ n. n) x)
given true number x = refl
given false number x = refl

-- a number is written at a name
pub names_set : (old new : Names) (name : List ℕ) (number : Option ℕ) → UpdatesBy (λ x y. slice_cmp nat_cmp x.items y.items) (λ key. slice_cmp nat_cmp name key.items) old.numbers new.numbers (Some number)
    → names_of new ≡ with_name name number (names_of old)
names_set old new name number h = λ i other. at other i
  where
    at : (other : List ℕ) → names_of new other ≡ with_name name number (names_of old) other
    at other = ap (option_and_then (λ n. n)) (stored_after old new name (Some number) h other) ∙ given (bytes_eq name other) number (stored old other)

none_of : {A : Type 0} (o : Option A) → is_some o ≡ false → o ≡ None
none_of None h = refl
none_of (Some x) h = cc

room : (b : Bool) (x : Option (Option ℕ)) → (b ≡ true → option_and_then (λ n. n) x ≡ None) → option_and_then (λ n. n) (cond b (Some None) x) ≡ option_and_then (λ n. n) x
room true x h = sym (h refl)
room false x h = refl

-- room is made for a name that is not stored
pub names_reserved : (old new : Names) (name key : List ℕ) → key ≡ name → is_some (stored old name) ≡ false → UpdatesBy (λ x y. slice_cmp nat_cmp x.items y.items) (λ k. slice_cmp nat_cmp key k.items) old.numbers new.numbers (Some None)
    → names_of new ≡ names_of old
names_reserved old new name key same none h = λ i other. at other i
  where
    at : (other : List ℕ) → names_of new other ≡ names_of old other
    at other =
        ap (option_and_then (λ n. n)) (stored_after old new key (Some None) h other)
        ∙ room (bytes_eq key other) (stored old other) (λ y. ap (names_of old) (sym ((bytes_decides key other).0 y) ∙ same) ∙ ap (option_and_then (λ n. n)) (none_of (stored old name) none))
