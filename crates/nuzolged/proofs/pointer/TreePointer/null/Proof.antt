-- `null` holds the null pointer. Assumes `Logic`.
use Rattle.std.proofs.Common.{◌≡◌, List, [], ◌∷◌, ◌++◌, refl, sym, subst, None, Option}
use mir.Val.{Val}
use base.Logic.{SProp, ent, emp, id⊢}
use prog.Wp.{WpFn}
use types.Kit.{‵, raw, ◌⊛◌, ◌$◌, ◌∵◌, !, qed, by, move, keep, drop, use0, split, fsplit, fjoin, feq_i, suffices}
use types.Part.{agg}
use types.Run.{no_more, and_then, returns, enter, lit}
use types.ByLocal.{alloc_all, pass_all, free_all, look_at, get, sets}
use contract.Monad.{fact, fact_i}
use contract.Running.{tables}
use denote.RattleType.{owns}
use denote.Signature.{types_at, plain}
use denote.Steps.{nothing}
use denote.RawPtr.{Ptr, null_ptr}
use denote.Triple.Entry.{alive}
use denote.Triple.Walked.{Stays, stay_dropped, walk_of}
use Rattle.core.proofs.alloc.Calls.{Goes-blank, handle_tells}
use Rattle.std.proofs.raw_atomic.Walks.{proved_at, leaves}
use Rattle.nuzolged.proofs.Values.{Z, heap, word, word_typed}
use Rattle.nuzolged.proofs.Pointers.{together}
use Rattle.nuzolged.specs.declared.handle.Handle.{Handle}
use Rattle.nuzolged.specs.contracts.pointer.TreePointer.null.{ended, clauses}
use Rattle.nuzolged.specs.contracts.pointer.TreePointer.null.Key.{name as #self}
use Rattle.nuzolged.proofs.pointer.TreePointer.null.Statement.{statement}
use Rattle.nuzolged.proofs.pointer.TreePointer.null.Code as code

pub null_spec : {M : Type 1} → statement M
null_spec 𝓤 𝓛 𝓜 𝓡 wired =
    let 𝓣 = tables 𝓤 𝓛.H 𝓜 𝓡 𝓡.env in let c = clauses 𝓛 𝓜.mem 𝓡.returns in let fn = code.function in
    let stays : Stays ended.signature.params ended.kept = (stay_dropped (plain (λ _. Z)) ended.kept.0, tt) in
    proved_at 𝓛 ended stays c 𝓜 𝓡 (Goes-blank 𝓛 0 (plain (λ _. Z)) ended.kept.0 (λ κs x f. tt), tt) #self fn (code.unfolded 𝓤 𝓛.H 𝓜 𝓡 wired) (λ z are.
    let none : Option Handle = None in let a = z.0.3.0 in
    let Post : Val → SProp 𝓤 = (walk_of 𝓛 ended stays c).post z in let Goes : List Val → SProp 𝓤 = λ us. WpFn 𝓤 𝓛.H 𝓣.C 𝓣.Λ fn us Post in
    qed 𝓛 ((raw (alive 𝓛 ended.signature z.0.0 z.0.1) ⊛ ‵ (owns (types_at ended.signature.params z.0.0) z.0.3 z.0.4)) ∷ raw ((c z.0.0 z.0.3).requires z.1) ∷ []) ∵
    move ! (1 ∷ []) $ drop ! $ split ! $ move ! (1 ∷ []) $ fsplit ! $ handle_tells heap ! a z.0.4.0 (λ h is_handle fits.
    -- [the allocator; nothing; the tokens]
    suffices ! (Goes (h ∷ [])) (subst (λ (us : List Val). ent 𝓤 (Goes (h ∷ [])) (Goes us)) (sym (λ i. is_handle i ++ [])) (id⊢ 𝓤 (Goes (h ∷ [])))) $
    enter ! 𝓣.C 𝓣.Λ fn (h ∷ []) Post $ alloc_all ! (λ at. pass_all ! refl (fits, tt) $
    sets ! (agg ! (and_then ! (lit ! tt) (and_then ! (get ! refl) (no_more !)))) refl (word_typed null_ptr h fits) $
    feq_i ! Ptr null_ptr null_ptr refl $ together ! null_ptr h a None $
    use0 𝓛 (raw (fact 𝓤 (none ≡ none))) (fact_i 𝓤 (none ≡ none) (emp 𝓤) refl) $ nothing ! $ nothing ! $ fjoin ! $
    returns ! (look_at ! 0 refl) $ free_all ! refl $ keep ! (4 ∷ 0 ∷ 2 ∷ 1 ∷ []) $ by ! (leaves 𝓛 ended stays c z (word null_ptr h) (record { at = null_ptr; alloc = a; tree = None }) (tt, tt) (tt, tt)))))
