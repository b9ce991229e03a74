use Rattle.std.proofs.Common.{◌∙◌, ◌++◌, take, sym, ap, take-append-drop, arith}
use Rattle.ft_words.specs.Texts.{coded}
use Rattle.ft_words.proofs.Bytes.{from_place}
use Rattle.ft_words.proofs.PercentCoding.{coded_next, put_behind}
use Rattle.ft_words.proofs.coding.put_next.Goals as goal

pub returns-in-Some-clause-text : goal.returns-in-Some-clause-text
returns-in-Some-clause-text c =
    let bytes = c.args.bytes.now in
    let front = c.put_printed-printed.result in
    let mid = c.put_printed-printed.new.place in
    let new = c.put_byte-made.new.place in
    let behind = c.in-Some.behind.now in
    let whole = ap (λ rest. take front bytes ++ rest) (sym c.in-Some.ensures.cases.0 ∙ from_place bytes front) ∙ take-append-drop front bytes in
    ap (λ text. text ++ coded behind) (put_behind mid new _ front c.put_byte-made.result (omega arith) (omega (arith, c.in-Some.ensures.cases.1)))
    ∙ ap (λ text. (text ++ take c.put_byte-made.result new) ++ coded behind) c.put_printed-printed.ensures.put
    ∙ ap (λ text. (take front bytes ++ text) ++ coded behind) c.put_byte-made.ensures.text
    ∙ coded_next bytes (take front bytes) behind c.in-Some.byte.now c.put_printed-printed.ensures.printed whole
