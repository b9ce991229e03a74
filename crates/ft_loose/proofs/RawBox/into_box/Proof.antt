-- `into_box` hands the parts of the loose box to `from_raw`. Assumes `Logic`.
use Rattle.std.proofs.Common.{◌≡◌, T, List, [], ◌∷◌, ◌++◌, refl, sym, ap, subst}
use mir.Syntax.{a_type, dcons, dnil}
use mir.Val.{Val, vptr, has_ty, WT}
use mir.MapTy.{inst_fn}
use base.Logic.{SProp, ent, emp, id⊢}
use base.Fml.{ftrue, fsep, flft}
use prog.Wp.{WpFn}
use types.Kit.{Item, ‵, raw, ◌⊛◌, some, later, at_ret, ◌$◌, ◌∵◌, !, qed, by, move, keep, drop, split, split3, join, fsplit, fjoin, fjoin3, pick, suffices, use0, use1, await, feq_i}
use types.Run.{stop, fld, of_opd, no_more, and_then, first, blocks, exec, returns, enter}
use types.ByLocal.{alloc_all, pass_all, free_all, look_at, get, get_in, sets, lands_last, is, env}
use types.Part.{sub, whole}
use contract.Monad.{fact, fact_i}
use contract.BorrowLft.{◌⊑◌}
use contract.Running.{tables}
use denote.Exit.{no}
use denote.RattleType.{RattleType}
use denote.Signature.{plain}
use denote.RawPtr.{block_ptr}
use denote.Steps.{nothing, only, heard}
use denote.Param.{bounded}
use denote.Triple.Clauses.{Lasts, lasts}
use denote.Triple.Spec.{triple_of}
use denote.Triple.Call.{calls_at_last}
use denote.Triple.Walked.{Stays, stay_dropped, walk_of}
use Rattle.core.proofs.alloc.Calls.{Goes-blank}
use Rattle.core.proofs.alloc.Shapes.{after}
use Rattle.core.proofs.atomic.Steps.{fm}
use Rattle.std_alloc.proofs.BoxSteps.Form as box
use Rattle.std_alloc.proofs.BoxSteps.Steps.{box_out, box_in}
use Rattle.std.proofs.raw_atomic.Walks.{proved_at, leaves}
use Rattle.std_alloc.specs.contracts.boxed.Box.from_raw as callee
use Rattle.std_alloc.proofs.boxed.Box.from_raw.Met.{met}
use Rattle.ft_loose.proofs.Boxes.{Row, boxed}
use Rattle.ft_loose.specs.contracts.RawBox.into_box.{ended, clauses}
use Rattle.ft_loose.specs.contracts.RawBox.into_box.Key.{name as #self}
use Rattle.ft_loose.proofs.RawBox.into_box.Statement.{statement}
use Rattle.ft_loose.proofs.RawBox.into_box.Code as code

pub into_box_spec : {M : Type 1} → statement M
into_box_spec 𝓤 𝓛 𝓜 𝓡 wired T₁ A L LA g d dx dd allocator glue glued =
    let E : box.Bx = record { row = T₁; laws = L; al = record { row = A; laws = LA; g = g; d = d; drops = dd } } in
    let B : RattleType = box.B E in let Ended = ended T₁ A g d dx dd in let c = clauses T₁ A g d dx dd 𝓛 𝓜.mem 𝓡.returns in
    let inst = bounded (a_type ∷ a_type ∷ []) (T₁, (A, tt)) (dcons d (dcons dx (dcons dd dnil))) in let fn = inst_fn inst code.function in
    let 𝓣 = tables 𝓤 𝓛.H 𝓜 𝓡 𝓡.env in
    let Raw = triple_of 𝓛 (callee.signature T₁ A g d dd) (callee.spec T₁ A g d dd 𝓛 𝓜.mem 𝓡.returns) in
    let stays : Stays Ended.signature.params Ended.kept = (stay_dropped (plain (λ _. Row E)) no, tt) in
    proved_at 𝓛 Ended stays c 𝓜 𝓡 (Goes-blank 𝓛 2 (plain (λ _. Row E)) no (λ κs x f. tt), tt) (#self inst) fn (code.unfolded 𝓤 𝓛.H 𝓜 𝓡 wired (T₁, (A, tt)) d dx dd) (λ z are.
    let κs = z.0.0 in let qs = z.0.1 in let l : (Row E).Denot = z.0.3.0 in let vs : List Val = z.0.4.0 in
    let toks : Item 𝓤 = ‵ (flft κs.0 qs.0) ⊛ ‵ (flft κs.1.0 qs.1.0) ⊛ ‵ ftrue in let inT = κs.0 ⊑ T₁.lives in let inA = κs.1.0 ⊑ A.lives in
    let Post : Val → SProp 𝓤 = (walk_of 𝓛 Ended stays c).post z in let Goes : List Val → SProp 𝓤 = λ us. WpFn 𝓤 𝓛.H 𝓣.C 𝓣.Λ fn us Post in
    qed 𝓛 ((toks ⊛ ‵ (fsep ((Row E).own_val l vs) ftrue)) ∷ raw (fact 𝓤 inT) ∷ raw (fact 𝓤 inA) ∷ ‵ ftrue ∷ []) ∵
    move ! (1 ∷ 2 ∷ []) $ heard ! inT (λ leT. heard ! inA (λ leA. split ! $ move ! (1 ∷ []) $ fsplit ! $
    use1 𝓛 (‵ (B.own_val (boxed E l) vs)) (id⊢ 𝓤 _) $ box_out E ! (boxed E l) vs (λ b o hv e is_word fits. fjoin ! $
    -- [what the box owns; the handle; nothing; the tokens; nothing]
    let w : Val = box.word E hv b o in let typed = box.box_typed E hv b o fits in
    suffices ! (Goes (w ∷ [])) (subst (λ (us : List Val). ent 𝓤 (Goes (w ∷ [])) (Goes us)) (sym (λ i. is_word i ++ [])) (id⊢ 𝓤 (Goes (w ∷ [])))) $ keep ! (0 ∷ 1 ∷ 3 ∷ []) $
    enter ! 𝓣.C 𝓣.Λ fn (w ∷ []) Post $ alloc_all ! (λ at. pass_all ! refl (typed, tt) $ let Ev = env fn.locals at in
    sets ! (of_opd ! (get_in ! (fld ! refl (stop !)) (sub ! 0 refl (whole !)))) refl (tt, tt) $
    sets ! (of_opd ! (get_in ! (fld ! refl (stop !)) (sub ! 1 refl (whole !)))) refl fits $
    first ! $ blocks ! $ sets ! (of_opd ! (get ! refl)) refl fits $
    let y : Raw.Ghost = ((κs, qs, tt, (l.alloc, (block_ptr b o, tt)), (hv ∷ [], (vptr b o ∷ [], tt))), l.value) in
    use0 𝓛 (raw (fact 𝓤 inA)) (fact_i 𝓤 inA (emp 𝓤) leA) $ join ! $ use0 𝓛 (raw (fact 𝓤 inT)) (fact_i 𝓤 inT (emp 𝓤) leT) $ join ! $
    nothing ! $ feq_i ! (List Val) (vptr b o ∷ []) (vptr b o ∷ []) refl $ move ! (3 ∷ 0 ∷ 1 ∷ []) $ fjoin3 ! $ move ! (2 ∷ 0 ∷ []) $ join ! $ join ! $
    use1 𝓛 (raw (Raw.pre y)) (id⊢ 𝓤 _) $
    calls_at_last ! (fm 𝓛 𝓜 𝓡) Raw (met 𝓤 𝓛 𝓜 𝓡 (code.calls-std_alloc::boxed::Box::from_raw 𝓡.env wired) T₁ A L LA g d dd allocator glued) y (and_then ! (get ! refl) (and_then ! (get ! refl) (no_more !))) (λ u.
    use1 𝓛 (later (some (λ (r : B.Denot). (toks ⊛ ‵ (B.own_val r (u ∷ []))) ⊛ some (λ (ls : Lasts (callee.ended T₁ A g d dd) κs y.0.3). ‵ (lasts (callee.ended T₁ A g d dd) κs y.0.3 ls) ⊛ (raw (fact 𝓤 (r.value ≡ l.value)) ⊛ raw (fact 𝓤 (r.alloc ≡ l.alloc))))))) (id⊢ 𝓤 _) $
    await ! tt $ pick ! (λ r. split ! $ move ! (1 ∷ []) $ pick ! (λ _. split3 ! $ drop ! $ move ! (1 ∷ []) $ drop ! $ move ! (1 ∷ []) $ split ! $ move ! (1 ∷ []) $
    box_out E ! r (u ∷ []) (λ b' o' hv' e' is_word' fits'. box_in E ! r b' o' r.value e' refl $
    -- [the box; the tokens; that it has the value]
    let w' : Val = box.word E hv' b' o' in let typed' = box.box_typed E hv' b' o' fits' in let same : u ≡ w' = ap only is_word' in
    lands_last ! refl (subst (λ (v : Val). T (has_ty (box.box_ty E) v) × WT v) (sym same) typed') $ exec ! 𝓣.C 𝓣.Λ Ev (after 3 fn.body) (at_ret Ev Post) $
    sets ! (is ! (of_opd ! (get ! refl)) same) refl typed' $ nothing ! $ nothing ! $ fjoin ! $
    returns ! (look_at ! 0 refl) $ free_all ! refl $ keep ! (2 ∷ 0 ∷ 1 ∷ 3 ∷ []) $ by ! (leaves 𝓛 Ended stays c z w' r ((tt, (tt, tt)), tt) (tt, tt)))))))))))
