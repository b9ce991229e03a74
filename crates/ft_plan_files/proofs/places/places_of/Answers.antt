use Rattle.std.proofs.Common.{◌≡◌, ◌+◌, ◌∷◌, length, ap, sym, subst, ◌∙◌, arith, rules}
use Rattle.ft_plan_files.specs.Counting.{count_of}
use Rattle.ft_plan_files.specs.Places.{line_count}
use Rattle.ft_plan_files.proofs.Counts.{IsNear, gets_next, line_near, lines_few}
use Rattle.ft_plan_files.proofs.places.places_of.Goals as goal

pub read-requires-clause-jobs : goal.read-requires-clause-jobs
read-requires-clause-jobs c =
    let jobs = c.loop-line.invariant.jobs in
    let fits = c.requires in
    omega (arith, jobs, fits, lines_few c.args.text.now)

pub read-requires-clause-steps : goal.read-requires-clause-steps
read-requires-clause-steps c =
    let steps = c.loop-line.invariant.steps in
    let fits = c.requires in
    omega (arith, steps, fits, lines_few c.args.text.now)

pub loop-line-preserved : goal.loop-line-preserved
loop-line-preserved c =
    let old = count_of c.loop-line.gets in
    let new = count_of c.read.new.self in
    let line = c.in-Some.line.now in
    let lines = c.next.new.self in
    let left : c.loop-line.line-iterator ≡ line ∷ lines = search rules in
    let after : new ≡ line_count old line = c.in_ok-read.ensures.count in
    let near : IsNear old new = subst (IsNear old) (sym after) (line_near old line) in
    let jobs = c.loop-line.invariant.jobs in
    let steps = c.loop-line.invariant.steps in
    let fewer : length c.loop-line.line-iterator ≡ length lines + 1 = ap length left ∙ omega arith in
    record {
      able = tt;
      finite = tt;
      places = c.loop-line.invariant.places ∙ gets_next c.loop-line.gets.places.items c.read.new.self.places.items old new c.loop-line.line-iterator lines line left c.in_ok-read.ensures.places after;
      jobs = omega (arith, jobs, near.jobs, fewer);
      steps = omega (arith, steps, near.steps, fewer);
    }
