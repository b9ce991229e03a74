-- The line that shows how far jobs have come. (The format is this project's own: docs/SCRIPT.md,
-- Plans.)
use Rattle.std.specs.Prelude.{ℕ, List, [], ◌∷◌, ◌++◌, codes}
use Rattle.std.specs.Borrow.{Bor}
use Rattle.std.specs.Fmt.{decimal}
use Rattle.std.specs.List.{flat_map}

-- a name after a space
abbrev pub name_text : Bor (List ℕ) → List ℕ
name_text name = codes " " ++ name.now

-- `; waiting:` and these names, or nothing if there are none
abbrev pub waiting_text : List (Bor (List ℕ)) → List ℕ
waiting_text [] = []
waiting_text (name ∷ names) = codes "; waiting:" ++ flat_map name_text (name ∷ names)

-- `jobs ended: E of J; calls granted: G`, and the waiting jobs
abbrev pub progress_text : ℕ → ℕ → ℕ → List (Bor (List ℕ)) → List ℕ
progress_text ended jobs granted waiting =
    codes "jobs ended: " ++ decimal ended ++ codes " of " ++ decimal jobs ++ codes "; calls granted: " ++ decimal granted ++ waiting_text waiting
