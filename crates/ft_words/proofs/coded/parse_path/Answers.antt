use Rattle.std.proofs.Common.{ℕ, List, Some, None, cond, sym, subst, arith}
use Rattle.std.proofs.lemmas.List.{take_all}
use Rattle.ft_path.specs.Name.{has_nul}
use Rattle.ft_words.specs.Calls.{Reads}
use Rattle.ft_words.specs.Spelling.{IsFreeOf}
use Rattle.ft_words.proofs.PercentCoding.{decode_whole}
use Rattle.ft_words.proofs.coded.parse_path.Goals as goal

pub returns-then-front_len-word : goal.returns-then-front_len-word
returns-then-front_len-word c =
    let word = c.args.word.now in
    let free = subst (λ (bytes : List ℕ). IsFreeOf 37 bytes) (take_all c.front_len.result word (omega arith)) c.front_len.ensures.free in
    subst (λ (bytes : List ℕ). Reads c.path.result (cond (has_nul bytes) None (Some bytes))) (sym (decode_whole word free)) c.path.ensures
