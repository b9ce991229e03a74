use Rattle.std.proofs.Common.{◌≡◌, ◌∙◌, ◌<◌, ◌≤◌, ◌*◌, ◌-◌, ◌+◌, ◌++◌, ℕ, List, [], arith, ap, sym, refl, length, length-append, length-take, length-drop, take, drop, replicate, get_or, vec_len}
use Prim.Native.Nat.{min}
use Rattle.std.proofs.lemmas.List.{append-nil, get_or_read, length-replicate}
use Rattle.std.proofs.lemmas.Grind.{common_steps}
use Rattle.ft_body.proofs.PageLists.{read_step, read_behind}
use Rattle.ft_body.proofs.pages.read.Goals as goal

pub loop-index-init : goal.loop-index-init
loop-index-init c = ([], sym (append-nil c.args.read.now.items), omega arith, λ k h. absurd (omega arith))

pub loop-index-preserved : goal.loop-index-preserved
loop-index-preserved c =
    let i : ℕ = c.loop-index.index in
    let inside : i < length c.args.pages.now = omega arith in
    let found : c.bytes-bytes.result.now ≡ get_or c.args.pages.now i [] = c.bytes-bytes.ensures ∙ get_or_read c.args.pages.now i c.index-pages-index.result inside c.index-pages-index.is [] in
    let old : List ℕ = c.args.read.now.items in
    let out : List ℕ = c.loop-index.invariant.0 in
    let from : ℕ = c.max.result - i * 4096 in
    let to : ℕ = c.min.result - i * 4096 in
    let page : List ℕ = c.bytes-bytes.result.now in
    let part : List ℕ = take (c.min-in-loop-index-2.result - c.min-in-loop-index.result) (drop c.min-in-loop-index.result page) in
    let n : ℕ = i * 4096 + to - c.args.start in
    let m : ℕ = c.len-before.result + i * 4096 + to - c.args.start in
    let new : List ℕ = take n (out ++ part) ++ replicate (n - length (out ++ part)) 0 in
    let fits : length page ≤ 4096 = rw found (c.requires.pages i).fits in
    let is : part ≡ take (min to (length page) - min from (length page)) (drop (min from (length page)) page) =
    ap (λ k. take (k - c.min-in-loop-index.result) (drop c.min-in-loop-index.result page)) c.min-in-loop-index-2.ensures
    ∙ ap (λ k. take (min to (length page) - k) (drop k page)) c.min-in-loop-index.ensures in
    let size : length part ≡ min to (length page) - min from (length page) =
    omega (arith, ap length is, length-take (min to (length page) - min from (length page)) (drop (min from (length page)) page), length-drop (min from (length page)) page) in
    let had : c.extend_from_slice.new.self.items ≡ old ++ out ++ part = c.in_ok-extend_from_slice.ensures.items ∙ ap (λ zs. zs ++ part) c.loop-index.invariant.1 in
    let len : vec_len c.extend_from_slice.new.self ≡ length (old ++ out ++ part) = grind (arith, common_steps) in
    let gives : c.resize.new.self.items ≡ take m (old ++ out ++ part) ++ replicate (m - length (old ++ out ++ part)) 0 =
    c.in_ok-resize.ensures.items ∙ ap (λ zs. take m zs ++ replicate (m - vec_len c.extend_from_slice.new.self) 0) had
    ∙ ap (λ k. take m (old ++ out ++ part) ++ replicate (m - k) 0) len in
    let before : c.len-before.result ≡ length old = grind (arith, common_steps) in
    let count : c.args.start + length out ≡ min (c.args.start + c.args.count) (c.args.start + length out) = omega (arith, c.loop-index.invariant.2) in
    let so_far : c.args.start + length out ≡ i * 4096 + from = omega (arith, c.loop-index.invariant.2) in
    let long : length new ≡ n =
    omega (arith, length-append (take n (out ++ part)) (replicate (n - length (out ++ part)) 0), length-take n (out ++ part), length-replicate {A = ℕ} (n - length (out ++ part)) 0) in (
      new,
      read_behind old out part c.resize.new.self.items m n gives (omega (arith, before)),
      omega (arith, long),
      λ k h. read_step c.args.pages.now page out part new c.args.start i from to found (omega arith) (omega arith) so_far is refl c.loop-index.invariant.3 k (omega (arith, long, h)),
    )

pub returns : goal.returns
returns c = (
  c.loop-index.invariant.0,
  c.loop-index.invariant.1,
  omega (arith, c.loop-index.invariant.2),
  λ k h. c.loop-index.invariant.3 k (omega (arith, c.loop-index.invariant.2, h)),
)
