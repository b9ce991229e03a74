-- The names of jobs that words are, one after another.
use Rattle.std.proofs.Common.{◌≡◌, ℕ, List, [], ◌∷◌, ◌++◌, Option, None, Some, refl, sym, ap, ◌∙◌, append_assoc}
use Rattle.std.specs.Prelude.{option_map, option_and_then}
use Rattle.ft_plan.specs.Lines.{job_name_of, names_of}

-- the names so far, and those of the words that are left
abbrev pub behind_names : List (List ℕ) → Option (List (List ℕ)) → Option (List (List ℕ))
behind_names so_far more = option_map (λ names. so_far ++ names) more

moved : (so_far : List (List ℕ)) (name : List ℕ) (more : Option (List (List ℕ))) → behind_names so_far (option_map (λ names. name ∷ names) more) ≡ behind_names (so_far ++ name ∷ []) more
moved so_far name None = refl
moved so_far name (Some names) = ap Some (sym (append_assoc so_far (name ∷ []) names))

abbrev onto : Option (List ℕ) → Option (List (List ℕ)) → Option (List (List ℕ))
onto first more = option_and_then (λ name. option_map (λ names. name ∷ names) more) first

pub names_next : (so_far : List (List ℕ)) (word name : List ℕ) (words : List (List ℕ)) → job_name_of word ≡ Some name → behind_names so_far (names_of (word ∷ words)) ≡ behind_names (so_far ++ name ∷ []) (names_of words)
names_next so_far word name words h = ap (λ first. behind_names so_far (onto first (names_of words))) h ∙ moved so_far name (names_of words)

pub no_names : (so_far : List (List ℕ)) (word : List ℕ) (words : List (List ℕ)) → job_name_of word ≡ None → behind_names so_far (names_of (word ∷ words)) ≡ None
no_names so_far word words h = ap (λ first. behind_names so_far (onto first (names_of words))) h
