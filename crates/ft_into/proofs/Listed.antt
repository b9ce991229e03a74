-- Names by their paths.
use Rattle.std.proofs.Common.{◌≡◌, ℕ, Bool, true, false, cond, List, [], ◌∷◌, ◌++◌, Option, Some, map, refl, ap}
use Rattle.std.specs.BTreeMap.{insert_entry}
use Rattle.std.specs.Map.{lookup, remove_entry}
use Rattle.std.specs.Ordering.{match_ordering}
use Rattle.std.specs.declared.cmp.Ordering.{Ordering}
use Rattle.std.specs.declared.cmp.Ordering.TheVariants.{Less, Equal, Greater}
use Rattle.ft_copy.specs.declared.found.FolderEntry.{FolderEntry}
use Rattle.ft_into.specs.Knows.{Names, path_order, with_names}

module _ {K : Type 0} (path : K → List ℕ) where
  -- a name by its path
  abbrev pub by_path : K × ℕ → List ℕ × ℕ
  by_path entry = (path entry.0, entry.1)

  inserted_at : (o : Ordering) (e : K × ℕ) (es : List (K × ℕ)) (k : K) (v : ℕ) (more : List (K × ℕ)) (rest : Names) → map by_path more ≡ rest
      → map by_path (match_ordering o ((k, v) ∷ e ∷ es) ((e.0, v) ∷ es) (e ∷ more))
      ≡ match_ordering o ((path k, v) ∷ by_path e ∷ map by_path es) ((path e.0, v) ∷ map by_path es) (by_path e ∷ rest)
  inserted_at Less e es k v more rest h = refl
  inserted_at Equal e es k v more rest h = refl
  inserted_at Greater e es k v more rest h = ap (λ l. by_path e ∷ l) h

  pub inserted : (es : List (K × ℕ)) (k : K) (v : ℕ) → map by_path (insert_entry (λ x y. path_order (path x) (path y)) es k v) ≡ insert_entry path_order (map by_path es) (path k) v
  inserted [] k v = refl
  inserted (e ∷ es) k v = inserted_at (path_order (path k) (path e.0)) e es k v _ _ (inserted es k v)

  removed_at : (b : Bool) (e : K × ℕ) (es more : List (K × ℕ)) (rest : Names) → map by_path more ≡ rest → map by_path (cond b es (e ∷ more)) ≡ cond b (map by_path es) (by_path e ∷ rest)
  removed_at true e es more rest h = refl
  removed_at false e es more rest h = ap (λ (l : Names). by_path e ∷ l) h

  pub removed : (test : List ℕ → Bool) (es : List (K × ℕ)) → map by_path (remove_entry (λ k. test (path k)) es) ≡ remove_entry test (map by_path es)
  removed test [] = refl
  removed test (e ∷ es) = removed_at (test (path e.0)) e es (remove_entry (λ k. test (path k)) es) (remove_entry test (map by_path es)) (removed test es)

  pub looked : (test : List ℕ → Bool) (es : List (K × ℕ)) → lookup (λ k. test (path k)) es ≡ lookup test (map by_path es)
  looked test [] = refl
  looked test (e ∷ es) = ap (λ (l : Option ℕ). cond (test (path e.0)) (Some e.1) l) (looked test es)

-- the last name is inserted first
pub names_last : (path : List ℕ) (rest : List FolderEntry) (one : FolderEntry) (names : Names)
    → with_names path (rest ++ one ∷ []) names ≡ with_names path rest (insert_entry path_order names (path ++ 47 ∷ one.name) one.node)
names_last path [] one names = refl
names_last path (entry ∷ rest) one names = ap (λ (l : Names). insert_entry path_order l (path ++ 47 ∷ entry.name) entry.node) (names_last path rest one names)
