use Rattle.std.proofs.Common.{◌≡◌, ◌∙◌, ◌*◌, ◌-◌, ◌+◌, ◌++◌, ℕ, List, arith, ap, refl, length, take, drop, replicate, vec_len}
use Rattle.std.proofs.lemmas.Grind.{common_steps}
use Rattle.ft_body.specs.Blocks.{block_in}
use Rattle.ft_body.proofs.Blocked.{read_step}
use Rattle.ft_body.proofs.spread.read.Goals as goal

pub loop-at-preserved : goal.loop-at-preserved
loop-at-preserved c =
    let out : List ℕ = c.loop-at.read.items in
    let from : ℕ = c.max.result - c.loop-at.at * 2097152 in
    let to : ℕ = c.min.result - c.loop-at.at * 2097152 in
    let part : List ℕ = take (to - from) (drop from (block_in c.args.blocks.now c.loop-at.at)) in
    let n : ℕ = c.loop-at.at * 2097152 + to - c.args.start in
    let had : c.read_block.new.read.items ≡ out ++ part = c.in_ok-read_block.ensures in
    let len : vec_len c.read_block.new.read ≡ length (out ++ part) = grind (arith, common_steps) in
    let gives : c.resize.new.self.items ≡ take n (out ++ part) ++ replicate (n - length (out ++ part)) 0 =
    c.in_ok-resize.ensures.items ∙ ap (λ zs. take n zs ++ replicate (n - vec_len c.read_block.new.read) 0) had ∙ ap (λ m. take n (out ++ part) ++ replicate (n - m) 0) len in
    let long : length c.resize.new.self.items ≡ n = grind (arith, common_steps) in
    record {
      count = omega arith;
      bytes = λ k h. read_step c.args.blocks.now out part c.resize.new.self.items c.args.start c.loop-at.at from to
          (omega arith) (omega arith) (omega (arith, c.loop-at.invariant.count)) refl gives c.loop-at.invariant.bytes k (omega arith);
    }
