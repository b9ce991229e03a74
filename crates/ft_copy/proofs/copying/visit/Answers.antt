use Rattle.std.proofs.Common.{refl, sym, subst}
use Rattle.std.proofs.lemmas.Result.{on_ok_weaker}
use Rattle.ft_copy.specs.declared.found.Found.{Found}
use Rattle.ft_copy.specs.Asked.{Folder}
use Rattle.ft_copy.specs.Told.{Finds}
use Rattle.ft_copy.specs.Walks.{standing}
use Rattle.ft_copy.proofs.Stopping.{at_fault, if_err, stops_folder, stops_making}
use Rattle.ft_copy.proofs.Visiting.{folder}
use Rattle.ft_copy.proofs.copying.visit.Goals as goal

pub returns-in_ok-folder-in-Folder-clause-ok : goal.returns-in_ok-folder-in-Folder-clause-ok
returns-in_ok-folder-in-Folder-clause-ok g c =
    let made = c.folder.new.self in
    let told = subst (λ (f : Found). g.S.Source.tells c.args.source.now (Finds c.as_slice-path.result.now c.args.place.now.node f)) c.in-Folder.is c.in_ok-folder.ensures.ok in
    on_ok_weaker c.enter.result (λ entered. folder c.args.limits (g.S.Source.tells c.args.source.now) g.T.Target.does c.args.target.now made made c.args.place.now c.in-Folder.folder c.kept_attributes.result (standing c.args.walk.now) (standing c.enter.new.walk)
    c.as_slice-path.result.now c.kept_attributes.ensures c.as_slice-path.ensures (sym c.if-is_dotted.ensures) c.if-path-gt-LONGEST_PATH.false told entered c.in_ok-folder-in-Folder.ensures.ok refl)
    c.enter.ensures.ok

pub returns-in_ok-folder-in-Folder-clause-err : goal.returns-in_ok-folder-in-Folder-clause-err
returns-in_ok-folder-in-Folder-clause-err g c =
    let path = c.as_slice-path.result.now in
    let told = subst (λ (f : Found). g.S.Source.tells c.args.source.now (Finds path c.args.place.now.node f)) c.in-Folder.is c.in_ok-folder.ensures.ok in
    if_err c.enter.result
    (λ t refused. stops_folder c.args.limits (g.S.Source.tells c.args.source.now) g.T.Target.does g.T.Target.fails t c.args.place.now c.in-Folder.folder c.kept_attributes.result (standing c.args.walk.now) path c.args.target.now c.folder.new.self
    c.kept_attributes.ensures c.as_slice-path.ensures told c.in_ok-folder-in-Folder.ensures.ok refused)
    c.enter.ensures.err

pub returns-in_err-folder-in-Folder-clause-err : goal.returns-in_err-folder-in-Folder-clause-err
returns-in_err-folder-in-Folder-clause-err g c =
    let path = c.as_slice-path.result.now in
    let old = c.args.target.now in
    let new = c.folder.new.self in
    let told = subst (λ (f : Found). g.S.Source.tells c.args.source.now (Finds path c.args.place.now.node f)) c.in-Folder.is c.in_ok-folder.ensures.ok in
    at_fault c.from_residual-in_err-folder-in-Folder.result c.from_residual-in_err-folder-in-Folder.ensures.1
    (λ t is. stops_making c.args.limits (g.S.Source.tells c.args.source.now) g.T.Target.does g.T.Target.fails t c.args.place.now c.in-Folder.folder c.kept_attributes.result (standing c.args.walk.now) path old new c.kept_attributes.ensures c.as_slice-path.ensures told
    (subst (λ e. g.T.Target.fails old (Folder path c.kept_attributes.result) e new) (sym is) c.in_err-folder-in-Folder.ensures.err))
