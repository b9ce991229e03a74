use Rattle.std.proofs.Common.{take}
use Rattle.std.specs.Fmt.{HasWritten, IsPlainFormatter}
use Rattle.ft_words.specs.Texts.{listing}
use Rattle.ft_words.proofs.text.ListingDisplay.fmt.Given as goal

-- the text so far is that of the names so far
abbrev pub invariant-loop-name : goal.invariant-loop-name
invariant-loop-name g l =
    IsPlainFormatter l.initial.f → HasWritten g.W.Write.write_str_gives l.initial.f (listing (take l.name-index l.name-items)) l.f
