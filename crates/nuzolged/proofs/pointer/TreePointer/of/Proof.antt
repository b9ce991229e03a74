-- `of` keeps the pointer: a loose box is a handle already. Assumes `Logic`.
use Rattle.std.proofs.Common.{◌≡◌, List, [], ◌∷◌, ◌++◌, refl, sym, subst, Some}
use mir.Val.{Val}
use base.Logic.{SProp, ent, emp, id⊢}
use prog.Wp.{WpFn}
use types.Kit.{‵, raw, ◌⊛◌, ◌$◌, ◌∵◌, !, qed, by, move, keep, drop, use0, use1, split, fsplit, fjoin, suffices}
use types.Part.{agg, sub, whole}
use types.Run.{stop, fld, of_opd, no_more, and_then, returns, enter}
use types.ByLocal.{alloc_all, pass_all, free_all, look_at, get, get_in, sets}
use contract.Monad.{fact, fact_i}
use contract.Running.{tables}
use denote.RattleType.{owns}
use denote.Signature.{types_at, plain}
use denote.Steps.{nothing}
use denote.Triple.Entry.{alive}
use denote.Triple.Walked.{Stays, stay_dropped, walk_of}
use Rattle.core.proofs.alloc.Calls.{Goes-blank}
use Rattle.std.proofs.raw_atomic.Walks.{proved_at, leaves}
use Rattle.nuzolged.proofs.Values.{word, word_typed, ptr_typed}
use Rattle.nuzolged.proofs.Pointers.{LooseRow, apart, together}
use Rattle.nuzolged.specs.contracts.pointer.TreePointer as pointer
use Rattle.nuzolged.specs.contracts.pointer.TreePointer.of.{ended, clauses}
use Rattle.nuzolged.specs.contracts.pointer.TreePointer.of.Key.{name as #self}
use Rattle.nuzolged.specs.declared.pointer.TreePointer.{TreePointer}
use Rattle.nuzolged.proofs.pointer.TreePointer.of.Statement.{statement}
use Rattle.nuzolged.proofs.pointer.TreePointer.of.Code as code

pub of_spec : {M : Type 1} → statement M
of_spec 𝓤 𝓛 𝓜 𝓡 wired =
    let 𝓣 = tables 𝓤 𝓛.H 𝓜 𝓡 𝓡.env in let c = clauses 𝓛 𝓜.mem 𝓡.returns in let fn = code.function in
    let stays : Stays ended.signature.params ended.kept = (stay_dropped (plain (λ _. LooseRow)) ended.kept.0, tt) in
    proved_at 𝓛 ended stays c 𝓜 𝓡 (Goes-blank 𝓛 0 (plain (λ _. LooseRow)) ended.kept.0 (λ κs x f. tt), tt) #self fn (code.unfolded 𝓤 𝓛.H 𝓜 𝓡 wired) (λ z are.
    let l = z.0.3.0 in let d : TreePointer = record { at = l.at; alloc = l.alloc; tree = Some l.value } in
    let Post : Val → SProp 𝓤 = (walk_of 𝓛 ended stays c).post z in let Goes : List Val → SProp 𝓤 = λ us. WpFn 𝓤 𝓛.H 𝓣.C 𝓣.Λ fn us Post in
    qed 𝓛 ((raw (alive 𝓛 ended.signature z.0.0 z.0.1) ⊛ ‵ (owns (types_at ended.signature.params z.0.0) z.0.3 z.0.4)) ∷ raw ((c z.0.0 z.0.3).requires z.1) ∷ []) ∵
    move ! (1 ∷ []) $ drop ! $ split ! $ move ! (1 ∷ []) $ fsplit ! $ use1 𝓛 (‵ (pointer.the_row.own_val d z.0.4.0)) (id⊢ 𝓤 _) $ apart ! d z.0.4.0 (λ h is_word fits.
    -- [what stands behind the pointer; the allocator; nothing; the tokens]
    let w : Val = word d.at h in
    suffices ! (Goes (w ∷ [])) (subst (λ (us : List Val). ent 𝓤 (Goes (w ∷ [])) (Goes us)) (sym (λ i. is_word i ++ [])) (id⊢ 𝓤 (Goes (w ∷ [])))) $
    enter ! 𝓣.C 𝓣.Λ fn (w ∷ []) Post $ alloc_all ! (λ at. pass_all ! refl (word_typed d.at h fits, tt) $
    sets ! (of_opd ! (get_in ! (fld ! refl (stop !)) (sub ! 0 refl (whole !)))) refl (ptr_typed d.at) $
    sets ! (of_opd ! (get_in ! (fld ! refl (stop !)) (sub ! 1 refl (whole !)))) refl fits $
    sets ! (of_opd ! (get ! refl)) refl (ptr_typed d.at) $
    sets ! (agg ! (and_then ! (get ! refl) (and_then ! (get ! refl) (no_more !)))) refl (word_typed d.at h fits) $
    together ! d.at h d.alloc d.tree $
    use0 𝓛 (raw (fact 𝓤 (d.tree ≡ d.tree))) (fact_i 𝓤 (d.tree ≡ d.tree) (emp 𝓤) refl) $ nothing ! $ nothing ! $ fjoin ! $
    returns ! (look_at ! 0 refl) $ free_all ! refl $ keep ! (4 ∷ 0 ∷ 2 ∷ 1 ∷ []) $ by ! (leaves 𝓛 ended stays c z w d (tt, tt) (tt, tt)))))
