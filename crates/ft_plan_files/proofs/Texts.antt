-- The text of steps, as it is put together.
use Rattle.std.proofs.Common.{◌≡◌, ℕ, Bool, List, [], ◌∷◌, ◌++◌, length, ap, ◌∙◌, append_assoc}
use Rattle.std.specs.Prelude.{codes}
use Rattle.std.specs.Fmt.{decimal}
use Rattle.ft_words.specs.Texts.{coded}
use Rattle.ft_plan_files.specs.FileLines.{filling_steps, front, put_text, steps_text}

regrouped : (f o p q s n r : List ℕ) → f ++ (o ++ (p ++ ((q ++ 10 ∷ []) ++ (f ++ (s ++ (n ++ 10 ∷ r)))))) ≡ (f ++ ((o ++ p) ++ q)) ++ 10 ∷ ((f ++ (s ++ n)) ++ 10 ∷ r)
regrouped f o p q s n r = simp append_assoc

-- what comes before each step, and then the step
pub put_is : (f : List ℕ) (tried : Bool) (path bytes : List ℕ) → f ≡ front tried
    → f ++ (codes "open wct " ++ (coded path ++ (codes " as put\n" ++ (f ++ (codes "ftruncate @put " ++ (decimal (length bytes) ++ 10 ∷ steps_text tried (filling_steps bytes))))))) ≡ put_text tried path bytes
put_is f tried path bytes is =
    ap (λ g. g ++ (codes "open wct " ++ (coded path ++ (codes " as put\n" ++ (g ++ (codes "ftruncate @put " ++ (decimal (length bytes) ++ 10 ∷ steps_text tried (filling_steps bytes)))))))) is
    ∙ regrouped (front tried) (codes "open wct ") (coded path) (codes " as put") (codes "ftruncate @put ") (decimal (length bytes)) (steps_text tried (filling_steps bytes))
