use Rattle.std.proofs.Common.{◌-◌, ◌*◌, take}
use Rattle.ft_body.specs.Blocks.{AreBlocks, StillUndoes, byte_of}
use Rattle.ft_body.specs.Paging.{IsWritten}
use Rattle.ft_body.proofs.spread.write_each.Given as goal

abbrev pub invariant-loop-at : goal.invariant-loop-at
invariant-loop-at l = record {
  blocks_are : AreBlocks 0 l.blocks.items;
  wrote : IsWritten (byte_of l.initial.blocks.items) (byte_of l.blocks.items) l.offset (take (l.at * 2097152 - l.offset) l.bytes);
  back : StillUndoes l.initial.steps.items l.steps.items l.initial.blocks.items l.blocks.items;
}
