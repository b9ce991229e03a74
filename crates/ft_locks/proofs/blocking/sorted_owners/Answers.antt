use Rattle.std.proofs.Common.{◌≡◌, ℕ, List, [], ◌∷◌, length, map, sym, ◌∙◌, arith, refl}
use Rattle.std.proofs.lemmas.Bool.{eqb-true}
use Rattle.std.specs.FinMap as finite
use Rattle.ft_locks.proofs.blocking.sorted_owners.Goals as goal

no_keys : {A : Type 0} (es : List (ℕ × A)) → length es ≡ 0 → [] ≡ map (λ e. e.0) es
no_keys [] none = refl
no_keys (e ∷ es) none = absurd (omega (arith, none))

pub returns-then-is_empty : goal.returns-then-is_empty
returns-then-is_empty c =
    c.new-owners.ensures.items ∙ no_keys (finite.entries c.args.found.now) (sym (finite.len-entries c.args.found.now) ∙ eqb-true (finite.len c.args.found.now) 0 (sym c.is_empty.ensures ∙ c.if-is_empty.true))
