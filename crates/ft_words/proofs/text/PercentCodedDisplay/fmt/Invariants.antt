use Rattle.std.proofs.Common.{◌≡◌, ℕ, List, ◌++◌, length}
use Rattle.std.specs.Fmt.{HasWritten, IsPlainFormatter}
use Rattle.ft_words.specs.Texts.{coded}
use Rattle.ft_words.proofs.text.PercentCodedDisplay.fmt.Given as goal

-- the text so far, and that of the bytes left, are the whole
abbrev pub invariant-loop-rest : goal.invariant-loop-rest
invariant-loop-rest g l =
    IsPlainFormatter l.initial.f → (done : List ℕ) × HasWritten g.W.Write.write_str_gives l.initial.f done l.f × (done ++ coded l.rest ≡ coded l.fn.self.0.now)

abbrev pub decreases-loop-rest : goal.decreases-loop-rest
decreases-loop-rest g l = length l.rest
