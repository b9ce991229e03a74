use Rattle.std.proofs.Common.{ap, sym, ◌∙◌}
use Rattle.std.specs.FinMap as finite
use Rattle.ft_words.specs.Texts.{link_in}
use Rattle.ft_words.proofs.LinkRows.{none_yet, passed, gathered}
use Rattle.ft_words.proofs.tree_text.links_of.Goals.{in-Some+in_ok-insert, in_default}
use Rattle.ft_words.proofs.tree_text.links_of.Goals as goal

pub loop-row-init : goal.loop-row-init
loop-row-init c = λ number. ap (λ links. finite.contains_key links number) c.new-links.ensures ∙ none_yet number

pub loop-row-preserved : goal.loop-row-preserved
loop-row-preserved c =
    let rows = c.args.rows.now in
    let led = ap link_in (sym c.row-item.is) ∙ sym c.link_in.ensures in
    elim c.match-link_in.branch [
      | in-Some+in_ok-insert w ↦ λ number.
          ap (λ links. finite.contains_key links number) (w.links-is ∙ w.in_ok-insert.ensures.ok)
          ∙ gathered c.loop-row.links rows c.loop-row.row-index c.row-item.result w.in-Some.link c.loop-row-test.true c.loop-row.invariant (led ∙ w.in-Some.is) number
      | in_default w ↦ λ number.
          ap (λ links. finite.contains_key links number) w.links-is
          ∙ passed c.loop-row.links rows c.loop-row.row-index c.row-item.result c.loop-row-test.true c.loop-row.invariant (led ∙ w.in_default.is) number
    ]
