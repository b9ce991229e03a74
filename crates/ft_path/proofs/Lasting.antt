-- The last component of a text, as it is found piece by piece.
use Rattle.std.proofs.Common.{◌≡◌, ◌-◌, ℕ, suc, Bool, true, false, cond, List, [], ◌∷◌, length, filter, Some, refl, sym, ap, ◌∙◌, arith}
use Rattle.std.specs.Prelude.{◌==◌}
use Rattle.std.specs.List.{slice_get}
use Rattle.std.proofs.lemmas.Bool.Decides.{nat_tests}
use Rattle.ft_path.specs.declared.path.LastName.{LastName}
use Rattle.ft_path.specs.declared.path.LastName.TheVariants.{Absent}
use Rattle.ft_path.specs.FilePath.{is_component, last_name, last_of}

-- what the last one is, where these come behind one that is so
abbrev pub after : LastName → List (List ℕ) → LastName
after last [] = last
after last (name ∷ names) = after (last_name (Some name)) names

-- the last of them decides
decides : (last : LastName) (name : List ℕ) (names : List (List ℕ)) → after last (name ∷ names) ≡ last_of (name ∷ names)
decides last name [] = ap (λ n. last_name (slice_get (name ∷ []) n)) (sym one)
  where
    one : length (name ∷ []) - 1 ≡ 0
    one = omega arith
decides last name (next ∷ names) = decides (last_name (Some name)) next names ∙ ap (λ n. last_name (slice_get (name ∷ next ∷ names) n)) (sym more)
  where
    more : length (name ∷ next ∷ names) - 1 ≡ suc (length (next ∷ names) - 1)
    more = omega arith

pub all_left : (names : List (List ℕ)) → after Absent names ≡ last_of names
all_left [] = refl
all_left (name ∷ names) = decides Absent name names

module _ (piece : List ℕ) (left more : List (List ℕ)) (is : left ≡ piece ∷ more) (last all : LastName) (told : after last (filter is_component left) ≡ all) where
  there : (b : Bool) → is_component piece ≡ b → after last (cond b (piece ∷ filter is_component more) (filter is_component more)) ≡ all
  there b e = ap (λ t. after last (cond t (piece ∷ filter is_component more) (filter is_component more))) (sym e) ∙ ap (λ ps. after last (filter is_component ps)) (sym is) ∙ told

  -- a piece that counts is the last one so far
  pub next_counts : false ≡ (length piece == 0) → (kind : LastName) → kind ≡ last_name (Some piece) → after kind (filter is_component more) ≡ all
  next_counts some kind named =
      let counts : is_component piece ≡ true = grind (arith, nat_tests) in
      ap (λ k. after k (filter is_component more)) named ∙ there true counts

  -- an empty one does not
  pub next_empty : true ≡ (length piece == 0) → after last (filter is_component more) ≡ all
  next_empty none =
      let counts : is_component piece ≡ false = grind (arith, nat_tests) in
      there false counts
