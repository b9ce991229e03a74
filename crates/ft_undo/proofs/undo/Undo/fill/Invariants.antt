use Rattle.std.proofs.Common.{◌≤◌, ◌-◌, length, drop, vec_capacity}
use Rattle.ft_undo.proofs.Undoing.{IsUnderWay}
use Rattle.ft_undo.proofs.undo.Undo.fill.Given as goal

-- some edits were made, and the others are left; there is room for what takes all of them back
abbrev pub invariant-loop-edit : goal.invariant-loop-edit
invariant-loop-edit l = record {
  on : IsUnderWay l.initial.tree l.edits l.tree l.self-inside.items.items (drop (length l.self-inside.items.items) l.edits);
  room : length l.edits ≤ vec_capacity l.self-inside.items;
}

abbrev pub decreases-loop-edit : goal.decreases-loop-edit
decreases-loop-edit l = length l.edits - length l.self-inside.items.items
