-- The pointer of a handle may go to another thread, since the handle may. Assumes nothing.
use Rattle.std.proofs.Common.{Option, None, Some}
use mir.Raw.{raw}
use base.Shift.{Keyless}
use denote.Memory.{lone}
use denote.RawPtr.{Ptr}
use denote.Param.Send.{IsSend, AllSend, owning_send, struct_send, sendable}
use denote.Struct.Struct.{exits_of}
use denote.Struct.Owning.{shape, fields, to}
use Rattle.std_alloc.proofs.SendSync.{quiet, lies}
use Rattle.std_heap.specs.declared.Global.{Global}
use Rattle.std.proofs.Crossing.{frees}
use Rattle.nuzolged.specs.declared.handle.Handle.{Handle}
use Rattle.nuzolged.specs.contracts.handle.Handle as inner
use Rattle.nuzolged.proofs.handle.Handle.TheSendSync.{the_send as Handle-send}
use Rattle.nuzolged.proofs.Pointers.{behind}
use Rattle.nuzolged.specs.contracts.pointer.TreePointer.{the_row, the_type}

behind_keyless : (a : Global) (p : Ptr) (x : Option Handle) → Keyless (behind a p x)
behind_keyless a p None = tt
behind_keyless a p (Some x) = (lies inner.the_row Handle-send p x, frees.frees a (raw (lone (inner.the_row).mir)) p)

pub send : IsSend the_row
send =
    let all : AllSend (fields the_type) = (search sendable, (search sendable, tt)) in
    owning_send the_type all (λ d. behind_keyless d.alloc d.at d.tree) (λ k. quiet (to the_type) (exits_of k (fields the_type)) ((struct_send (shape the_type) all).leaving k))
