use Rattle.std.proofs.Common.{◌∙◌, ◌-◌, ◌++◌, ◌∷◌, [], length, take, drop, ap, take-append-drop, arith}
use Rattle.std.proofs.lemmas.List.{take_more_set}
use Rattle.percent_encoding.specs.Percent.{percent_decode}
use Rattle.ft_words.proofs.Bytes.{from_place}
use Rattle.ft_words.proofs.PercentCoding.{decode_cut, decoded_next}
use Rattle.ft_words.proofs.coded.put_next.Goals as goal

pub returns-in-None-clause-bytes : goal.returns-in-None-clause-bytes
returns-in-None-clause-bytes c =
    let word = c.args.word.now in
    let n = c.put_plain-plain.result in
    let whole = ap (λ rest. take n word ++ rest) (from_place word n) ∙ take-append-drop n word in
    ap (λ front. front ++ percent_decode (take (length word - n) (drop n word))) c.put_plain-plain.ensures.put ∙ decode_cut word (take n word) (take (length word - n) (drop n word)) c.put_plain-plain.ensures.plain whole

pub returns-in-Some-clause-bytes : goal.returns-in-Some-clause-bytes
returns-in-Some-clause-bytes c =
    let word = c.args.word.now in
    let n = c.put_plain-plain.result in
    let whole = ap (λ rest. take n word ++ rest) (from_place word n) ∙ take-append-drop n word in
    let put = take_more_set c.put_plain-plain.new.place n c.in-Some.byte (omega (arith, c.in-Some.ensures.shorter)) ∙ ap (λ front. front ++ c.in-Some.byte ∷ []) c.put_plain-plain.ensures.put in
    ap (λ front. front ++ percent_decode c.in-Some.behind.now) put ∙ decoded_next word (take n word) (take (length word - n) (drop n word)) c.in-Some.behind.now c.in-Some.byte c.put_plain-plain.ensures.plain whole c.in-Some.ensures.coded
