use Rattle.std.proofs.Common.{List, ℕ, subst}
use Rattle.std.specs.Fmt.{HasWritten}
use Rattle.ft_plan_files.proofs.Texts.{put_is}
use Rattle.ft_plan_files.proofs.steps.PutTextDisplay.fmt.Goals as goal

pub returns-clause-writes : goal.returns-clause-writes
returns-clause-writes g c = λ plain ok.
    let put = c.args.self.now in
    let is = put_is c.front-front.result.now put.tried put.path.now put.bytes.now c.front-front.ensures in
    subst (λ (text : List ℕ). HasWritten g.W.Write.write_str_gives c.args.f.now text c.write.new.self) is (c.write.ensures.writes plain ok)
