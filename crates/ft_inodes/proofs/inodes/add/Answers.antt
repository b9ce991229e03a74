use Rattle.std.proofs.Common.{◌≡◌, ℕ, sym, ap, ◌∙◌}
use Rattle.std.specs.FinMap as finite
use Rattle.slab.specs.Slab.{Slab, get}
use Rattle.ft_inodes.specs.declared.inode.Inode.{Inode}
use Rattle.ft_inodes.proofs.Keys.{puts-key}
use Rattle.ft_inodes.proofs.inodes.add.Goals as goal

pub returns-clause-ok : goal.returns-clause-ok
returns-clause-ok c =
    let kept : (key : ℕ) → get c.reserve.new.self key ≡ get c.args.slab.now key = λ key. ap (λ (s : Slab Inode). get s key) c.reserve.ensures.rest_kept in
    let given : c.in-Ok.key ≡ c.insert_reserved-key.result = c.in-Ok.ensures.1 ∙ c.vacant_key.ensures.value ∙ sym c.insert_reserved-key.ensures.key in
    record {
      key = c.insert_reserved-key.result;
      free = sym (kept c.insert_reserved-key.result) ∙ c.insert_reserved-key.ensures.was_vacant;
      slots = record {
        changed = c.insert_reserved-key.ensures.updates.changed;
        others = λ other apart. c.insert_reserved-key.ensures.updates.others other apart ∙ kept other;
      };
      keys = puts-key c.args.number c.insert_reserved-key.result c.args.index.now c.insert.new.self
          (c.in_ok-insert.ensures.ok ∙ ap (λ key. finite.insert c.args.index.now c.args.number key) given);
    }
