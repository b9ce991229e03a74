use Rattle.std.proofs.Common.{◌≡◌, drop}
use Rattle.ft_words.specs.Calls.{look_up}
use Rattle.ft_words.specs.Verbs.{words_of}
use Rattle.ft_words.proofs.verbs.spelled.Given as goal

-- the word is looked up among the verbs left
abbrev pub invariant-loop-verb : goal.invariant-loop-verb
invariant-loop-verb l = look_up (words_of (drop l.verb-index l.fn.verbs)) l.fn.word ≡ look_up (words_of l.fn.verbs) l.fn.word
