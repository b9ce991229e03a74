-- What the store answers, from what stands in its slots.
use Rattle.std.proofs.Common.{◌≡◌, ◌<◌, ℕ, Bool, true, false, cond, List, [], ◌∷◌, Option, Some, None, is_some, IsSome, Result, Ok, Err, OnOk, OnErr, length, suc, refl, sym, ap, subst, arith, ◌∙◌}
use Rattle.std.proofs.lemmas.Bool.{false≢true}
use Rattle.std.specs.Borrow.{MutBor}
use Rattle.std.specs.Option.{option_map, option_copied_mut}
use Rattle.std.specs.Prelude.{T, ◌&&◌}
use Rattle.std.specs.Ordering.{nat_cmp, eq_by_cmp, is_lt, is_eq, MatchOrdering}
use Rattle.std.specs.declared.cmp.Ordering.{Ordering}
use Rattle.std.specs.declared.cmp.Ordering.TheVariants.{Less, Equal, Greater}
use Rattle.std.specs.Cmp.{nat_cmp_total, ranks}
use Rattle.std.specs.List.{AllByRecursion}
use Rattle.std.specs.FinMap as finite
use Rattle.std.specs.FinMap.{is_sorted}
use Rattle.std.specs.FinMap.Entries.{below_all}
use Rattle.std.proofs.lemmas.Map.Lookups.{exact_unsigned}
use Rattle.slab.specs.Slab.{Slab, get}
use Rattle.ft_inodes.specs.declared.inode.Inode.{Inode}
use Rattle.ft_inodes.specs.Keyed.{Index, key_in, listed_by, shown_by, Leads, AllLead}
use Rattle.ft_inodes.proofs.Keys.{get-shown, itself}

module _ {X : Type 0} (seen : Option Inode → X) (s : Slab Inode) (index : Index) where
  module _ (m : finite.FinMap nat_cmp X) (is : shown_by seen s index ≡ m) (n : ℕ) where
    -- a number that the index does not have
    pub shown-none : None ≡ key_in index n → None ≡ finite.get m n
    shown-none none = ap (option_map (λ key. seen (get s key))) none ∙ sym (get-shown seen s index n) ∙ ap (λ m. finite.get m n) is

    -- a number that it has
    pub shown-some : (key : ℕ) → Some key ≡ key_in index n → (at : Option X) → at ≡ Some (seen (get s key)) → at ≡ finite.get m n
    shown-some key there at stands = stands ∙ ap (option_map (λ k. seen (get s k))) there ∙ sym (get-shown seen s index n) ∙ ap (λ m. finite.get m n) is

    -- a number that nothing is seen at has no key
    pub no-key : finite.get m n ≡ None → key_in index n ≡ None
    no-key none = by_key (key_in index n) refl
      where
        by_key : (o : Option ℕ) → key_in index n ≡ o → key_in index n ≡ None
        by_key None e = e
        by_key (Some key) e = absurd (not_both (shown-some key (sym e) _ refl ∙ none))
          where
            not_both : {x : X} → Some x ≡ None → ⊥
            not_both h = cc

    -- a number is stored where it has a key
    pub some-shown : (o : Option ℕ) → o ≡ key_in index n → is_some o ≡ finite.contains_key m n
    some-shown o at = sym (still_some o) ∙ ap (λ o. is_some (option_map (λ key. seen (get s key)) o)) at ∙ ap is_some (sym (get-shown seen s index n)) ∙ ap (λ m. finite.contains_key m n) is
      where
        still_some : (o : Option ℕ) → is_some (option_map (λ key. seen (get s key)) o) ≡ is_some o
        still_some None = refl
        still_some (Some key) = refl

  length-listed : (es : List (ℕ × ℕ)) → length (listed_by seen s es) ≡ length es
  length-listed [] = refl
  length-listed (e ∷ es) = ap (λ n. suc n) (length-listed es)

  below-listed : (k : ℕ) (es : List (ℕ × ℕ)) → below_all nat_cmp k (listed_by seen s es) ≡ below_all nat_cmp k es
  below-listed k [] = refl
  below-listed k (e ∷ es) = ap (λ b. is_lt (nat_cmp k e.0) && b) (below-listed k es)

  sorted-listed : (es : List (ℕ × ℕ)) → is_sorted nat_cmp (listed_by seen s es) ≡ is_sorted nat_cmp es
  sorted-listed [] = refl
  sorted-listed (e ∷ es) = ap (λ b. b && is_sorted nat_cmp (listed_by seen s es)) (below-listed e.0 es) ∙ ap (λ b. below_all nat_cmp e.0 es && b) (sorted-listed es)

  kept : (es : List (ℕ × X)) → T (is_sorted nat_cmp es) → finite.entries (finite.from_entries {R = nat_cmp} es) ≡ es
  kept es up =
      ap finite.entries (finite.same_map nat_cmp_total exact_unsigned (finite.from_entries es) (finite.from_sorted es) (λ q.
      finite.get-from_entries nat_cmp_total es q ∙ sym (finite.get-from_sorted nat_cmp es q up))) ∙ finite.entries-from_sorted nat_cmp es up

  -- in the order of the numbers
  pub entries-shown : finite.entries (shown_by seen s index) ≡ listed_by seen s (finite.entries index)
  entries-shown = kept (listed_by seen s (finite.entries index)) (subst T (sym (sorted-listed (finite.entries index))) (finite.entries_sorted index))

  pub len-shown : finite.len index ≡ finite.len (shown_by seen s index)
  len-shown = finite.len-entries index ∙ sym (length-listed (finite.entries index)) ∙ ap length (sym entries-shown) ∙ sym (finite.len-entries (shown_by seen s index))

first : (a b : Bool) → T (a && b) → T a
first true b p = tt
first false b p = p

second : (a b : Bool) → T (a && b) → T b
second true b p = p
second false b p = absurd p

passed : (k q : ℕ) → T (is_lt (nat_cmp k q)) → eq_by_cmp nat_cmp q k ≡ false
passed k q lt = by_order (nat_cmp k q) (ranks k q) lt (nat_cmp q k) (ranks q k)
  where
    by_order : (r : Ordering) → MatchOrdering r (k < q) (k ≡ q) (q < k) → T (is_lt r) → (t : Ordering) → MatchOrdering t (q < k) (q ≡ k) (k < q) → is_eq t ≡ false
    by_order Less h p Less g = refl
    by_order Less h p Equal g = absurd (omega arith)
    by_order Less h p Greater g = refl
    by_order Equal h p t g = absurd p
    by_order Greater h p t g = absurd p

-- what stands behind an entry is found as before it came
behind : (e : ℕ × ℕ) (es fs : List (ℕ × ℕ)) → T (below_all nat_cmp e.0 fs) → AllByRecursion (λ f. finite.find nat_cmp f.0 es ≡ Some f.1) fs → AllByRecursion (λ f. finite.find nat_cmp f.0 (e ∷ es) ≡ Some f.1) fs
behind e es [] low found = tt
behind e es (f ∷ fs) low found = (
  ap (λ b. cond b (Some e.1) (finite.find nat_cmp f.0 es)) (passed e.0 f.0 (first _ _ low)) ∙ found.0,
  behind e es fs (second _ _ low) found.1,
)

each-found : (es : List (ℕ × ℕ)) → T (is_sorted nat_cmp es) → AllByRecursion (λ e. finite.find nat_cmp e.0 es ≡ Some e.1) es
each-found [] up = tt
each-found (e ∷ es) up = (
  ap (λ b. cond b (Some e.1) (finite.find nat_cmp e.0 es)) (itself e.0),
  behind e es es (first _ _ up) (each-found es (second _ _ up)),
)

-- under each key of an index stands its number's own
pub all-lead : (is_own : ℕ → Option Inode → Bool) (s : Slab Inode) (index : Index) → Leads is_own s index → AllLead is_own s (finite.entries index)
all-lead is_own s index lead = through (finite.entries index) (each-found (finite.entries index) (finite.entries_sorted index))
  where
    through : (es : List (ℕ × ℕ)) → AllByRecursion (λ e. finite.find nat_cmp e.0 (finite.entries index) ≡ Some e.1) es → AllLead is_own s es
    through [] all = tt
    through (e ∷ es) all = ((lead e.0 e.1).0 (finite.get-entries index e.0 ∙ all.0), through es all.1)

-- a loan of what is there
pub lent_somewhere : {E : Type 0} (r : Option (MutBor E)) → IsSome (option_copied_mut r) → IsSome r
lent_somewhere (Some x) some = refl
lent_somewhere None some = absurd (false≢true some)

-- what follows from either outcome
pub by_result : {T E P Q R G : Type 0} (r : Result T E) → OnOk r P → OnErr r Q → OnErr r R → (P → G) → (Q → R → G) → G
by_result (Ok x) p q r ok err = ok p
by_result (Err e) p q r ok err = err q r
