use Rattle.std.proofs.lemmas.Bool.Decides.{same_from_decides}
use Rattle.std.specs.Cmp.Lexicographic.{bytes_decides}
use Rattle.ft_path.proofs.Compared.{decides_kept, kept_apart}
use Rattle.ft_path.proofs.bytes.Bytes.is_same.Goals as goal

pub returns-then-len-other_len : goal.returns-then-len-other_len
returns-then-len-other_len c =
    same_from_decides _ _
    (decides_kept c.in-Short-Short.is-0 c.in-Short-Short.is-1 c.requires.fits c.requires.other_fits c.if-len-other_len.true c.are_same.ensures)
    (bytes_decides _ _)

pub returns-else-len-other_len : goal.returns-else-len-other_len
returns-else-len-other_len c =
    same_from_decides _ _
    (kept_apart c.in-Short-Short.is-0 c.in-Short-Short.is-1 c.requires.fits c.requires.other_fits c.if-len-other_len.false)
    (bytes_decides _ _)
