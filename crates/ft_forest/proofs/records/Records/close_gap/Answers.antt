use Rattle.std.proofs.Common.{◌≡◌, ◌∙◌, ℕ, Option, sym, ap}
use Rattle.ft_history.specs.Logs.{put}
use Rattle.ft_forest.specs.Records.{Links, links_of, put_at}
use Rattle.ft_forest.proofs.records.Records.close_gap.Goals as goal
use Rattle.ft_forest.proofs.records.Records.close_gap.Goals.{in-Some, in_default}

-- the links once the younger side is linked
abbrev half_closed : Links → Option ℕ → Option ℕ → Links
half_closed s older younger = record s { older = put_at s.older younger (λ _. older) }

pub set_younger-requires : goal.set_younger-requires
set_younger-requires c =
    let s = links_of c.args.self.now in
    let half : links_of c.match-younger.self ≡ half_closed s c.args.older c.args.younger =
    elim c.match-younger.branch [
      | in-Some w ↦ ap links_of w.self-is ∙ w.set_older.ensures ∙ ap (half_closed s c.args.older) (sym w.in-Some.is)
      | in_default w ↦ ap links_of w.self-is ∙ ap (half_closed s c.args.older) (sym w.in_default.is)
    ] in
    ap (λ (l : Links). l.kept c.in-Some-older.sibling) half ∙ c.requires.older c.in-Some-older.sibling c.in-Some-older.is

pub returns-in-Some-older : goal.returns-in-Some-older
returns-in-Some-older c =
    let s = links_of c.args.self.now in
    let half : links_of c.match-younger.self ≡ half_closed s c.args.older c.args.younger =
    elim c.match-younger.branch [
      | in-Some w ↦ ap links_of w.self-is ∙ w.set_older.ensures ∙ ap (half_closed s c.args.older) (sym w.in-Some.is)
      | in_default w ↦ ap links_of w.self-is ∙ ap (half_closed s c.args.older) (sym w.in_default.is)
    ] in
    let same : c.match-younger.younger ≡ c.args.younger = elim c.match-younger.branch [ in-Some w ↦ w.younger-is ∙ sym w.in-Some.is | in_default w ↦ w.younger-is ] in
    c.set_younger.ensures
    ∙ (λ i. record (half i) { younger = put (half i).younger c.in-Some-older.sibling (same i) })
    ∙ ap (λ o. record (half_closed s c.args.older c.args.younger) { younger = put_at s.younger o (λ _. c.args.younger) }) (sym c.in-Some-older.is)

pub returns-in_default-older : goal.returns-in_default-older
returns-in_default-older c =
    let s = links_of c.args.self.now in
    let half : links_of c.match-younger.self ≡ half_closed s c.args.older c.args.younger =
    elim c.match-younger.branch [
      | in-Some w ↦ ap links_of w.self-is ∙ w.set_older.ensures ∙ ap (half_closed s c.args.older) (sym w.in-Some.is)
      | in_default w ↦ ap links_of w.self-is ∙ ap (half_closed s c.args.older) (sym w.in_default.is)
    ] in
    half ∙ ap (λ o. record (half_closed s c.args.older c.args.younger) { younger = put_at s.younger o (λ _. c.args.younger) }) (sym c.in_default-older.is)
