-- The machine value of the pointer of a handle is that of a handle (`Values`). Assumes `Logic`.
use Rattle.std.proofs.Common.{◌≡◌, List, [], ◌∷◌, ◌++◌, refl, subst, Option}
use seplogic.Ra.Ura.{Ura}
use mir.Val.{Val, vstruct, of_list}
use base.Fml.{Fml}
use types.Kit.{Item, Goal, Seq, Step, step, ‵, ◌$◌, move, drop, fsplit, fjoin, fpick, fpack, feq_i, feq_l}
use types.Logic.{Logic}
use denote.RattleType.{RattleType, Valss}
use denote.RawPtr.{Ptr, ptr_val}
use denote.Steps.{nothing}
use denote.Param.{layout}
use denote.Struct.Struct.{within}
use denote.Struct.Owning.{shape, to, fields}
use Rattle.core.proofs.alloc.Calls.{handle_tells}
use Rattle.core.proofs.cell.Inside.{Good}
use Rattle.std_heap.specs.declared.Global.{Global}
use Rattle.std_heap.specs.contracts.GlobalAllocator.TheImpl.{ghosts}
use Rattle.ft_loose.specs.contracts.RawBox as loose
use Rattle.nuzolged.specs.Handles.{held}
use Rattle.nuzolged.specs.contracts.handle.Handle as inner
use Rattle.nuzolged.specs.declared.handle.Handle.{Handle}
use Rattle.nuzolged.specs.contracts.pointer.TreePointer as pointer
use Rattle.nuzolged.specs.declared.pointer.TreePointer.{TreePointer}
use Rattle.nuzolged.proofs.Values.{Z, heap, word}

-- the type of a loose box of a handle
abbrev pub LooseRow : RattleType
LooseRow = loose.the_row inner.the_row Z ghosts

-- what stands behind the pointer
abbrev pub behind : Global → Ptr → Option Handle → Fml
behind a p x = held (ghosts.dealloc_token a) inner.the_row p x

module _ {M : Type 1} {𝓤 : Ura M} {𝓛 : Logic 𝓤} {K : Type 0} {Γ : List (Item 𝓤)} {G : Goal 𝓤 𝓛.H} where
  -- a handle by value is [what stands behind the pointer; the allocator]
  pub apart : K → (d : TreePointer) (vs : List Val)
      → ((h : Val) → vs ≡ word d.at h ∷ [] → Good (layout Z) h → Seq K 𝓛 (‵ (behind d.alloc d.at d.tree) ∷ ‵ (Z.own_val d.alloc (h ∷ [])) ∷ Γ) G)
      → Seq K 𝓛 (‵ (pointer.the_row.own_val d vs) ∷ Γ) G
  apart t d vs k =
      fsplit t $ fpick t (λ vss. fsplit t $ feq_l t (λ ev. fsplit t $ feq_l t (λ ep. fsplit t $ handle_tells heap t d.alloc vss.1.0 (λ h eh fits. move t (1 ∷ []) $ drop t $ move t (1 ∷ []) $
      k h (subst (λ (hs : List Val). vs ≡ vstruct (of_list (ptr_val d.at ∷ (hs ++ []))) ∷ []) eh (subst (λ (ps : List Val). vs ≡ vstruct (of_list (ps ++ (vss.1.0 ++ []))) ∷ []) ep ev)) fits))))

  pub together : K → (p : Ptr) (h : Val) (a : Global) (x : Option Handle)
      → Step K 𝓛 (‵ (pointer.the_row.own_val (record { at = p; alloc = a; tree = x }) (word p h ∷ [])) ∷ Γ) G (‵ (behind a p x) ∷ ‵ (Z.own_val a (h ∷ [])) ∷ Γ) G
  together t p h a x = step (λ s. let v : Val = word p h in
      nothing t $ move t (2 ∷ 0 ∷ []) $ fjoin t $ feq_i t (List Val) (ptr_val p ∷ []) (ptr_val p ∷ []) refl $ fjoin t $ feq_i t (List Val) (v ∷ []) (v ∷ []) refl $ fjoin t $
      fpack t (Valss (fields pointer.the_type)) (within (shape pointer.the_type) (to pointer.the_type (record { at = p; alloc = a; tree = x })) (v ∷ [])) (ptr_val p ∷ [], (h ∷ [], tt)) $ fjoin t $ s)
