use Rattle.std.proofs.Common.{◌≡◌, Option, None, Some, ap, sym, subst}
use Rattle.std.specs.Prelude.{IfSome, IfNone}
use Rattle.std.specs.FinSet as set
use Rattle.std.proofs.lemmas.Option.{IfSome_then}
use Rattle.ft_laws.proofs.Tests.{by_option}
use Rattle.ft_lock_rules.specs.Locks.{LockTable, is_kept}
use Rattle.ft_locks.proofs.locks.LocksKeeps.take_released.Goals as goal

if_none : {A P Q : Type 0} (o : Option A) → (P → Q) → IfNone o P → IfNone o Q
if_none None f h = f h
if_none (Some x) f h = tt

pub returns-clause-taken : goal.returns-clause-taken
returns-clause-taken c = IfSome_then c.take_released.result c.take_released.ensures.taken (λ cell e. ap (λ (t : LockTable). t.released_cells) e)

pub returns-clause-kept : goal.returns-clause-kept
returns-clause-kept c =
    let old : LockTable = c.args.self.now in
    let new : LockTable = c.take_released.new.self in
    by_option c.take_released.result
    (λ none. ap is_kept (subst (λ o. IfNone o ((old.released_cells ≡ set.empty) × (new ≡ old))) none c.take_released.ensures.none).1)
    (λ cell some. ap is_kept (subst (λ o. IfSome o (λ k. new ≡ record old { released_cells = set.remove old.released_cells k })) some c.take_released.ensures.taken))

pub returns-clause-told : goal.returns-clause-told
returns-clause-told c =
    let old : LockTable = c.args.self.now in
    let new : LockTable = c.take_released.new.self in
    by_option c.take_released.result
    (λ none. ap (λ (t : LockTable). record t { released_cells = set.empty }) (subst (λ o. IfNone o ((old.released_cells ≡ set.empty) × (new ≡ old))) none c.take_released.ensures.none).1)
    (λ cell some. ap (λ (t : LockTable). record t { released_cells = set.empty }) (subst (λ o. IfSome o (λ k. new ≡ record old { released_cells = set.remove old.released_cells k })) some c.take_released.ensures.taken))

pub returns-clause-none : goal.returns-clause-none
returns-clause-none c =
    let old : LockTable = c.args.self.now in
    if_none c.take_released.result (λ h. (h.0, (λ i. record old { released_cells = sym h.0 i }), h.1)) c.take_released.ensures.none
