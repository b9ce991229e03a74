-- `into_loose` tests the pointer against null. Assumes `Logic`.
use Rattle.std.proofs.Common.{◌≡◌, List, [], ◌∷◌, ◌++◌, refl, sym, subst, Option, None, Some, lit<}
use seplogic.Ra.Ura.{Ura}
use mir.Raw.{raw as bare}
use mir.Val.{Val, of_list}
use base.Logic.{SProp, ent, sep, guard, guard_i, emp, id⊢, never, fst∗, snd∗, via}
use prog.Memory.{Memory}
use prog.Routine.{Routine}
use prog.Wp.{Calls, Loops, WpFn}
use types.Logic.{Logic, sem}
use types.Kit.{‵, raw, ◌⊛◌, given, prop, at_ret, ◌$◌, ◌∵◌, !, qed, by, move, keep, drop, use0, use1, split, fsplit, fjoin, feq_l, learn, regoal, suffices}
use types.Match.{live}
use types.Part.{agg, sub, whole}
use types.Run.{stop, fld, of_opd, bin, lit, no_more, and_then, first, branches, skips, exec, returns, returns_within, enter}
use types.ByLocal.{alloc_all, pass_all, free_all, look_at, get, get_in, sets, env}
use contract.Monad.{Fun, fact, fact_i, fact_use}
use contract.Running.{tables}
use denote.RattleType.{owns}
use denote.Signature.{types_at, plain}
use denote.Steps.{nothing}
use denote.Param.{layout}
use denote.Memory.{lone}
use denote.RawPtr.{Ptr, block_ptr, null_ptr, in_a_block, Testable, tests_null}
use denote.Triple.Clauses.{Clauses}
use denote.Triple.Entry.{alive}
use denote.Triple.Walked.{Stays, stay_dropped, walk_of}
use Rattle.core.specs.Ptr.{points_to}
use Rattle.core.specs.contracts.option.Option as option
use Rattle.core.proofs.alloc.Calls.{Goes-blank}
use Rattle.core.proofs.cell.Inside.{Good}
use Rattle.core.proofs.option.Made.{Some-of, none_of}
use Rattle.std.proofs.raw_atomic.Walks.{proved_at, leaves}
use Rattle.std_alloc.proofs.ResultValues.{and_tt}
use Rattle.std_heap.proofs.GlobalToken.{dealloc_token-Testable}
use Rattle.std_heap.specs.contracts.GlobalAllocator.TheImpl.{ghosts}
use Rattle.std_heap.specs.declared.Global.{Global}
use Rattle.nuzolged.specs.declared.handle.Handle.{Handle}
use Rattle.nuzolged.specs.contracts.handle.Handle as inner
use Rattle.nuzolged.specs.declared.pointer.TreePointer.{TreePointer}
use Rattle.nuzolged.specs.contracts.pointer.TreePointer as pointer
use Rattle.nuzolged.proofs.Values.{Z, word, word_typed, ptr_typed}
use Rattle.nuzolged.proofs.Pointers.{LooseRow, behind, apart, together}
use Rattle.nuzolged.specs.contracts.pointer.TreePointer.into_loose.{ended, clauses}
use Rattle.nuzolged.specs.contracts.pointer.TreePointer.into_loose.Key.{name as #self}
use Rattle.nuzolged.proofs.pointer.TreePointer.into_loose.Statement.{statement}
use Rattle.nuzolged.proofs.pointer.TreePointer.into_loose.Code as code

abbrev stays : Stays ended.signature.params ended.kept
stays = (stay_dropped (plain (λ _. pointer.the_row)) ended.kept.0, tt)

module _ {M : Type 1} {𝓤 : Ura M} (𝓛 : Logic 𝓤) (at_mem : Memory → SProp 𝓤) (run : Routine → Fun 𝓤) where
  abbrev c : Clauses 𝓤 ended
  c = clauses 𝓛 at_mem run

  -- a block that may be freed may be compared with null
  tested : (a : Global) (p : Ptr) (x : Handle) → ent 𝓤 (sem 𝓛 (behind a p (Some x))) (guard 𝓤 (Testable p) (sem 𝓛 (behind a p (Some x))))
  tested a p x =
      let token = ghosts.dealloc_token a (bare (lone (inner.the_row).mir)) p in
      fact_use 𝓤 (Testable p) (via 𝓤 _ (snd∗ 𝓤 (sem 𝓛 (points_to inner.the_row p x)) (sem 𝓛 token)) (dealloc_token-Testable 𝓛 a (bare (lone (inner.the_row).mir)) p)) (guard_i 𝓤 (Testable p) (sem 𝓛 (behind a p (Some x))))

  module _ (C : Calls 𝓤 𝓛.H) (Λ : Loops 𝓤 𝓛.H) (z : (walk_of 𝓛 ended stays c).Ghost) where
    abbrev Post : Val → SProp 𝓤
    Post = (walk_of 𝓛 ended stays c).post z

    abbrev Goes : List Val → SProp 𝓤
    Goes ws = WpFn 𝓤 𝓛.H C Λ code.function ws Post

    abbrev d : TreePointer
    d = z.0.3.0

    abbrev toks : SProp 𝓤
    toks = alive 𝓛 ended.signature z.0.0 z.0.1

    walks : (x : Option Handle) → d.tree ≡ x → (h : Val) → Good (layout Z) h
        → ent 𝓤 (sep 𝓤 (sem 𝓛 (behind d.alloc d.at x)) (sep 𝓤 (sem 𝓛 (Z.own_val d.alloc (h ∷ []))) toks)) (Goes (word d.at h ∷ []))
    walks None e h fits =
        let none : Option Handle = None in
        qed 𝓛 (‵ (behind d.alloc d.at None) ∷ ‵ (Z.own_val d.alloc (h ∷ [])) ∷ raw toks ∷ []) ∵ feq_l ! (λ at. drop ! $
        regoal ! (λ (p : Ptr). prop (Goes (word p h ∷ []))) at refl $
        enter ! C Λ code.function (word null_ptr h ∷ []) Post $ alloc_all ! (λ l. pass_all ! refl (word_typed null_ptr h fits, tt) $
        sets ! (of_opd ! (get_in ! (fld ! refl (stop !)) (sub ! 0 refl (whole !)))) refl (ptr_typed null_ptr) $
        sets ! (of_opd ! (get_in ! (fld ! refl (stop !)) (sub ! 1 refl (whole !)))) refl fits $
        sets ! (bin ! (get ! refl) (lit ! tt) (tests_null null_ptr (lit< tt))) refl (tt, tt) $
        first ! $ branches ! (get ! refl)
        (λ t. sets ! (agg ! (and_then ! (lit ! tt) (no_more !))) refl (tt, (record { fits = lit< tt }, tt)) $
        returns_within ! Post refl (look_at ! 0 refl) $ free_all ! refl $
        use0 𝓛 (‵ ((option.the_row LooseRow).own_val None (live 0 (of_list []) ∷ []))) (none_of 𝓛 LooseRow) $
        use0 𝓛 (raw (fact 𝓤 (none ≡ d.tree))) (fact_i 𝓤 (none ≡ d.tree) (emp 𝓤) (sym e)) $ nothing ! $ nothing ! $ fjoin ! $
        keep ! (3 ∷ 0 ∷ 2 ∷ 1 ∷ []) $ by ! (leaves 𝓛 ended stays c z (live 0 (of_list [])) None (tt, tt) (tt, tt)))
        (λ t. absurd t)))
    walks (Some x) e h fits =
        qed 𝓛 (‵ (behind d.alloc d.at (Some x)) ∷ ‵ (Z.own_val d.alloc (h ∷ [])) ∷ raw toks ∷ []) ∵
        in_a_block ! d.at (λ p. behind d.alloc p (Some x)) (fst∗ 𝓤 (never 𝓤) (sem 𝓛 (ghosts.dealloc_token d.alloc (bare (lone (inner.the_row).mir)) null_ptr))) (λ b o at. let p : Ptr = block_ptr b o in
        use1 𝓛 (given (Testable p) (‵ (behind d.alloc p (Some x)))) (tested d.alloc p x) $ learn ! (λ may.
        let w : Val = word p h in let typed = word_typed p h fits in let l : (LooseRow).Denot = record { at = p; alloc = d.alloc; value = x } in
        regoal ! (λ (q : Ptr). prop (Goes (word q h ∷ []))) at refl $
        enter ! C Λ code.function (w ∷ []) Post $ alloc_all ! (λ l'. pass_all ! refl (typed, tt) $
        sets ! (of_opd ! (get_in ! (fld ! refl (stop !)) (sub ! 0 refl (whole !)))) refl (tt, tt) $
        sets ! (of_opd ! (get_in ! (fld ! refl (stop !)) (sub ! 1 refl (whole !)))) refl fits $
        sets ! (bin ! (get ! refl) (lit ! tt) (tests_null p may)) refl (tt, tt) $
        first ! $ branches ! (get ! refl) (λ t. absurd t)
        (λ t. skips ! $ exec ! C Λ (env (code.function).locals l') code.Mir.t-5 (at_ret _ Post) $
        sets ! (of_opd ! (get ! refl)) refl (tt, tt) $
        sets ! (agg ! (and_then ! (get ! refl) (and_then ! (get ! refl) (no_more !)))) refl typed $
        together ! p h d.alloc (Some x) $ use1 𝓛 (‵ (LooseRow.own_val l (w ∷ []))) (id⊢ 𝓤 _) $
        use1 𝓛 (‵ ((option.the_row LooseRow).own_val (Some l) (live 1 (of_list (w ∷ [])) ∷ []))) (Some-of 𝓛 LooseRow l w) $
        sets ! (agg ! (and_then ! (lit ! tt) (and_then ! (get ! refl) (no_more !)))) refl (and_tt _ (typed.0), (record { fits = lit< tt }, (typed.1, tt))) $
        use0 𝓛 (raw (fact 𝓤 (Some x ≡ d.tree))) (fact_i 𝓤 (Some x ≡ d.tree) (emp 𝓤) (sym e)) $ nothing ! $ nothing ! $ fjoin ! $
        returns ! (look_at ! 0 refl) $ free_all ! refl $
        keep ! (3 ∷ 0 ∷ 2 ∷ 1 ∷ []) $ by ! (leaves 𝓛 ended stays c z (live 1 (of_list (w ∷ []))) (Some l) (tt, tt) (tt, tt))))))

pub into_loose_spec : {M : Type 1} → statement M
into_loose_spec 𝓤 𝓛 𝓜 𝓡 wired =
    let 𝓣 = tables 𝓤 𝓛.H 𝓜 𝓡 𝓡.env in let cl = clauses 𝓛 𝓜.mem 𝓡.returns in
    proved_at 𝓛 ended stays cl 𝓜 𝓡 (Goes-blank 𝓛 0 (plain (λ _. pointer.the_row)) ended.kept.0 (λ κs x f. tt), tt) #self code.function (code.unfolded 𝓤 𝓛.H 𝓜 𝓡 wired) (λ z are.
    let d = z.0.3.0 in let Goes : List Val → SProp 𝓤 = λ us. WpFn 𝓤 𝓛.H 𝓣.C 𝓣.Λ code.function us ((walk_of 𝓛 ended stays cl).post z) in
    qed 𝓛 ((raw (alive 𝓛 ended.signature z.0.0 z.0.1) ⊛ ‵ (owns (types_at ended.signature.params z.0.0) z.0.3 z.0.4)) ∷ raw ((cl z.0.0 z.0.3).requires z.1) ∷ []) ∵
    move ! (1 ∷ []) $ drop ! $ split ! $ move ! (1 ∷ []) $ fsplit ! $ apart ! d z.0.4.0 (λ h is_word fits. let w : Val = word d.at h in
    move ! (2 ∷ []) $ drop ! $
    suffices ! (Goes (w ∷ [])) (subst (λ (us : List Val). ent 𝓤 (Goes (w ∷ [])) (Goes us)) (sym (λ i. is_word i ++ [])) (id⊢ 𝓤 (Goes (w ∷ [])))) $
    by ! (walks 𝓛 𝓜.mem 𝓡.returns 𝓣.C 𝓣.Λ z d.tree refl h fits)))
