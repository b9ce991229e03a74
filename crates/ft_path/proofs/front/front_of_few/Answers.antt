use Rattle.std.proofs.Common.{◌≡◌, ◌<◌, ◌+◌, ◌-◌, ◌*◌, drop, unwrap_or, arith, sym, ap, subst, ◌∙◌}
use Rattle.std.specs.List.{slice_get}
use Rattle.ft_path.specs.Front.{with_digits}
use Rattle.ft_path.proofs.Fronts.{found_at, next_digit, one_more, has_room}
use Rattle.ft_path.proofs.front.front_of_few.Goals as goal

pub overflow_mul-front : goal.overflow_mul-front
overflow_mul-front c = let room = has_room c.loop-at.at c.loop-at.front 0 c.loop-at-test.true c.loop-at.invariant.small (omega arith) in omega arith

pub overflow_add-front : goal.overflow_add-front
overflow_add-front c =
    let room = has_room c.loop-at.at c.loop-at.front c.from.result c.loop-at-test.true c.loop-at.invariant.small (subst (λ n. n < 256) (sym c.from.ensures) c.unwrap_or-byte.type_inv) in
    omega arith

pub loop-at-preserved : goal.loop-at-preserved
loop-at-preserved c =
    let byte : c.from.result ≡ unwrap_or (slice_get c.args.bytes.now c.loop-at.at) 0 = c.from.ensures ∙ c.unwrap_or-byte.ensures ∙ ap (λ o. unwrap_or o 0) (c.copied.ensures ∙ found_at _ _ _ c.get.ensures.lookup) in
    record {
      same = ap (λ n. with_digits (8 - (c.loop-at.at + 1)) (c.loop-at.front * 256 + n) (drop (c.loop-at.at + 1) c.args.bytes.now)) byte ∙ next_digit c.loop-at.front c.args.bytes.now c.loop-at.at c.loop-at-test.true ∙ c.loop-at.invariant.same;
      small = one_more c.loop-at.at c.loop-at.front c.from.result c.loop-at.invariant.small (subst (λ n. n < 256) (sym c.from.ensures) c.unwrap_or-byte.type_inv);
    }

pub returns : goal.returns
returns c =
    let all : c.loop-at.at ≡ 8 = (let low = c.loop-at-test.false in let high = c.loop-at.auto.at-end in omega arith) in
    sym (ap (λ n. with_digits (8 - n) c.loop-at.front (drop n c.args.bytes.now)) all) ∙ c.loop-at.invariant.same
