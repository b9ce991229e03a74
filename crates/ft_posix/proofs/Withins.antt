-- Edits within the limit.
use Rattle.std.proofs.Common.{List, [], ◌∷◌, ◌++◌}
use Rattle.ft_posix.specs.declared.intent.Edit.{Edit}
use Rattle.ft_posix.specs.Within.{IsWithin, AreWithin}

-- one edit more within the limit
pub within-more : (es : List Edit) (e : Edit) → AreWithin es → IsWithin e → AreWithin (es ++ e ∷ [])
within-more [] e h one = (one, tt)
within-more (f ∷ fs) e h one = (h.0, within-more fs e h.1 one)
