use Rattle.std.proofs.Common.{◌≡◌, ◌+◌, ℕ, List, [], ap, arith}
use Rattle.std.proofs.lemmas.Grind.{common_steps}
use Rattle.ft_body.specs.PutBack.{PutPartsBack}
use Rattle.ft_body.proofs.PartsBack.{parts_none, read_page_within, read_page_back}
use Rattle.ft_body.proofs.pages.put_parts_back.Goals as goal

pub put_back-requires : goal.put_back-requires
put_back-requires c =
    read_page_within c.args.first (c.args.first + c.len.result) c.pop.new.self.items c.loop-lost.parts.items c.in-Some.lost c.index-pages-first.result c.loop-lost.pages c.loop-lost.invariant.0.0
    (ap (λ n. c.args.first + n) c.len.ensures.value) c.in-Some.ensures.items c.loop-lost.invariant.0.1

pub loop-lost-preserved : goal.loop-lost-preserved
loop-lost-preserved c =
    let step = λ (before : List (List ℕ)) (b : PutPartsBack c.args.first c.loop-lost.parts.items c.loop-lost.pages before).
    read_page_back c.args.first (c.args.first + c.len.result) c.pop.new.self.items c.loop-lost.parts.items c.in-Some.lost c.index-pages-first.result c.put_back.new.self c.loop-lost.pages before
    (ap (λ n. c.args.first + n) c.len.ensures.value) c.in-Some.ensures.items c.put_back.ensures b in
    ((c.loop-lost.invariant.0.0, step c.loop-lost.invariant.0.0 c.loop-lost.invariant.0.1), λ before b. step before (c.loop-lost.invariant.1 before b))

pub returns : goal.returns
returns c = λ before b.
    let none : c.loop-lost.parts.items ≡ [] = grind (arith, common_steps) in
    parts_none c.args.first c.loop-lost.pages before (rw (← none) (c.loop-lost.invariant.1 before b))
