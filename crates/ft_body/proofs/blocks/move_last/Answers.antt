use Rattle.std.proofs.Common.{arith, length, ◌-◌}
use Rattle.std.proofs.lemmas.Slice.{put_mid-rotated}
use Rattle.ft_body.specs.Blocks.{no_block}
use Rattle.ft_body.proofs.blocks.move_last.Goals as goal

pub returns : goal.returns
returns c = put_mid-rotated c.args.index (length c.args.blocks.now - c.args.index) c.args.blocks.now c.rotate_left.new.self no_block c.requires (omega arith) c.rotate_left.ensures.after
