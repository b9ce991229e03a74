use Rattle.std.proofs.Common.{arith}
use Rattle.ft_dot.proofs.Cutting.{no_rank, rank_cut}
use Rattle.ft_dot.proofs.reading.rank_in.Goals as goal

pub returns-in_err-txn : goal.returns-in_err-txn
returns-in_err-txn c = let none = no_rank c.args.word.now c.in_err-txn.ensures in grind (arith, none)

pub returns-in_err-parse_u64 : goal.returns-in_err-parse_u64
returns-in_err-parse_u64 c = let cut = rank_cut _ _ _ c.in_ok-txn.ensures.0 c.in_ok-txn.ensures.1 in grind (arith, cut)

pub returns-in_err-parse_u64-2 : goal.returns-in_err-parse_u64-2
returns-in_err-parse_u64-2 c = let cut = rank_cut _ _ _ c.in_ok-txn.ensures.0 c.in_ok-txn.ensures.1 in grind (arith, cut)

pub returns : goal.returns
returns c = let cut = rank_cut _ _ _ c.in_ok-txn.ensures.0 c.in_ok-txn.ensures.1 in grind (arith, cut)
