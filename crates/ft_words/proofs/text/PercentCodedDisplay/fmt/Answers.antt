use Rattle.std.proofs.Common.{◌≡◌, ℕ, List, ◌++◌, append_assoc, ap, ◌∙◌, rules}
use Rattle.std.proofs.Output.{has_written_append}
use Rattle.ft_words.specs.Texts.{coded}
use Rattle.ft_words.proofs.PercentCoding.{IsAscii-front}
use Rattle.ft_words.proofs.text.PercentCodedDisplay.fmt.Goals as goal

pub ascii_str-requires : goal.ascii_str-requires
ascii_str-requires g c = IsAscii-front _ _ c.loop-rest.rest.now c.put_coded-end.ensures.text

pub loop-rest-preserved : goal.loop-rest-preserved
loop-rest-preserved g c = λ plain.
    let so_far = c.loop-rest.invariant plain in
    let behind = coded c.put_coded-end.result.1.now in
    let put : c.ascii_str.result.now ++ behind ≡ coded c.loop-rest.rest.now = ap (λ (text : List ℕ). text ++ behind) c.ascii_str.ensures ∙ c.put_coded-end.ensures.text in (
      so_far.0 ++ c.ascii_str.result.now,
      has_written_append _ _ _ _ _ _ so_far.1 (search rules),
      append_assoc so_far.0 c.ascii_str.result.now behind ∙ ap (λ text. so_far.0 ++ text) put ∙ so_far.2,
    )
