-- A run from sound cells is one on the plain tree that they are.
use Rattle.std.proofs.Common.{◌≡◌, ◌≢◌, [], ◌∷◌, refl, sym, ap, subst, ◌∙◌}
use Rattle.ft_laws.specs.Runs.{run, Faithful}
use Rattle.ft_laws.proofs.Lists.{Each-both}
use Rattle.ft_tree.specs.Sound.{AreSoundCells, IsFree}
use Rattle.ft_tree.specs.Tidy.{tidy}
use Rattle.ft_posix.specs.Exec.{exec}
use Rattle.ft_posix.specs.Stored.{outcome, after}
use Rattle.ft_posix.specs.Posix.{posix_calls}
use Rattle.ft_posix.proofs.Lawful.{write-put}
use Rattle.ft_posix.proofs.Kept.{soundness, freshness}
use Rattle.ft_posix.proofs.Executed.{tidying}
use Rattle.ft_posix.specs.RunLaws.{tree_after, GiveReplies, RunLaw}

pub runs : RunLaw
runs s [] sound free apart faith = record { sound = sound; plain = refl; replies = tt }
runs s (c ∷ cs) sound free apart faith =
    let k = c.call.stamp in
    let call = c.call.call in
    let next = after s k call in
    let acted : next ≡ posix_calls.act s c.call = sym (write-put (outcome s k call).writes s) in
    let one = tidying s k call sound free.0 in
    let tree : (exec (tidy s) k call).0 ≡ tidy next = ap (λ x. x.0) one in
    let reply : (exec (tidy s) k call).1 ≡ c.reply = ap (λ x. x.1) one ∙ faith.0.reply in
    let sound' = soundness s k call sound free.0 in
    let free' = Each-both (λ d. IsFree s d.call.stamp) (λ d. c.call.stamp ≢ d.call.stamp) (λ d. IsFree next d.call.stamp)
    (λ d f ne. freshness s k call sound free.0 d.call.stamp f (λ e. ne (sym e))) cs free.1 apart.0 in
    let rest = runs next cs sound' free' apart.1 (subst (λ t. Faithful posix_calls t cs) (sym acted) faith.1) in
    record {
      sound = subst (λ t. AreSoundCells (run posix_calls t cs)) acted rest.sound;
      plain = sym (ap (λ t. tidy (run posix_calls t cs)) acted) ∙ rest.plain ∙ ap (λ p. tree_after p cs) (sym tree);
      replies = (reply, subst (λ p. GiveReplies p cs) (sym tree) rest.replies);
    }
