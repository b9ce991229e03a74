use Rattle.std.proofs.Common.{List, refl, sym, subst, rules}
use Rattle.ft_waits.specs.declared.edge.Edge.{Edge}
use Rattle.ft_waits.specs.Edges.{AreEdgesOf}
use Rattle.ft_waits.specs.Waits.{IsVerdict}
use Rattle.ft_line.specs.Reports.{waits_text}
use Rattle.ft_line.proofs.reporting.waits_report.Goals as goal

pub returns-in_ok-text-in-Ok : goal.returns-in_ok-text-in-Ok
returns-in_ok-text-in-Ok c =
    let state = c.args.core.now.state in
    let edges = c.as_slice.result.now in
    let verdict = c.in-Ok.verdict in
    let are = subst (λ (es : List Edge). AreEdgesOf state es) (sym c.as_slice.ensures.value) c.in-Ok.ensures.edges in
    let judged = subst (λ (es : List Edge). IsVerdict es verdict) (sym c.as_slice.ensures.value) c.in-Ok.ensures.verdict in
    (waits_text edges verdict, (edges, verdict, are, judged, refl), search rules)
