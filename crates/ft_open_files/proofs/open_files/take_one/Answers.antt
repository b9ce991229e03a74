use Rattle.std.proofs.Common.{◌≡◌, ◌-◌, ap, sym, ◌∙◌}
use Rattle.ft_open_files.specs.Openings.{described, one_of}
use Rattle.ft_open_files.proofs.Opened.{described-take, where_ok}
use Rattle.ft_open_files.proofs.open_files.take_one.Goals as goal

pub returns : goal.returns
returns c = λ yes i.
    let less : c.saturating_sub-count.result ≡ described c.args.counts.now c.in-Some.file - 1 = c.saturating_sub-count.ensures ∙ ap (λ n. n - 1) c.counted.ensures in
    described-take c.args.counts.now c.insert.new.self c.in-Some.file c.saturating_sub-count.result (where_ok c.insert.result (sym c.is_ok.ensures.value ∙ yes) c.insert.ensures.ok) less i
    ∙ ap (λ o. described c.args.counts.now i - one_of o i) (sym c.in-Some.is)
