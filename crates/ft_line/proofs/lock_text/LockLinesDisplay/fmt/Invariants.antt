use Rattle.std.proofs.Common.{take}
use Rattle.std.specs.Fmt.{HasWritten, IsPlainFormatter}
use Rattle.std.specs.List.{filter}
use Rattle.ft_words.specs.Texts.{lines_text}
use Rattle.ft_line.specs.Reports.{is_told, lock_text}
use Rattle.ft_line.proofs.lock_text.LockLinesDisplay.fmt.Given as goal

-- the text so far is that of those of the locks so far
abbrev pub invariant-loop-lock : goal.invariant-loop-lock
invariant-loop-lock g l =
    IsPlainFormatter l.initial.f → HasWritten g.W.Write.write_str_gives l.initial.f (lines_text lock_text (filter (is_told l.fn.self.of_attributes) (take l.lock-index l.lock-items))) l.f
