use Rattle.std.proofs.Common.{◌≡◌, ◌+◌, ap, sym, ◌∙◌}
use Rattle.ft_open_files.specs.Openings.{described, one_of}
use Rattle.ft_open_files.proofs.Opened.{described-add, where_ok}
use Rattle.ft_open_files.proofs.open_files.add_one.Goals as goal

pub returns-in-Some-checked_add : goal.returns-in-Some-checked_add
returns-in-Some-checked_add c = λ yes i.
    let more : c.in-Some-checked_add.count ≡ described c.args.counts.now c.in-Some.file + 1 = c.in-Some-checked_add.ensures.1 ∙ ap (λ n. n + 1) c.counted.ensures in
    described-add c.args.counts.now c.insert.new.self c.in-Some.file c.in-Some-checked_add.count (where_ok c.insert.result (sym c.is_ok.ensures.value ∙ yes) c.insert.ensures.ok) more i
    ∙ ap (λ o. one_of o i + described c.args.counts.now i) (sym c.in-Some.is)
