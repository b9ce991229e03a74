use Rattle.std.proofs.Common.{ℕ, List, ◌∙◌, ◌++◌, ◌<◌, ◌≤◌, ◌^◌, length, take, ap, arith}
use Rattle.ft_session.specs.Buffers.{filled}
use Rattle.nuzolged.proofs.Listings.{more, copied, passed}
use Rattle.nuzolged.proofs.listing.copy_behind.Goals as goal
use Rattle.nuzolged.proofs.listing.copy_behind.Goals.{then-at-room_of, else-at-room_of}

pub returns : goal.returns
returns c = λ done buffer is was.
    let bytes = c.args.bytes.now in let at = c.args.at in let old = c.args.buffer.now in
    let room = c.room_of.ensures in let small = c.room_of.type_inv in
    let fits : length old < 2 ^ 64 = omega (arith, room, small) in (
      c.saturating_add.ensures ∙ more at done bytes is,
      elim c.if-at-room_of.branch [
        | then-at-room_of w ↦ (
            let lt = w.if-at-room_of.true in
            let less : at < length old = omega (arith, room, lt) in
            w.buffer-is
            ∙ ap (λ (front : List ℕ). front ++ w.copy_into.new.buffer) w.split_at_mut-rest.ensures.front
            ∙ ap (λ (rest : List ℕ). take at old ++ rest) (w.copy_into.ensures.bytes ∙ ap (λ (rest : List ℕ). filled bytes rest) w.split_at_mut-rest.ensures.back)
            ∙ copied at done bytes buffer old is was less fits)
        | else-at-room_of w ↦ (
            let ge = w.if-at-room_of.false in
            let none : length old ≤ at = omega (arith, room, ge) in
            w.buffer-is ∙ passed at done bytes buffer old is was none)
      ],
    )
