use Rattle.std.proofs.Common.{◌≡◌, [], ◌∷◌, ◌++◌, subst, sym, rules}
use Rattle.ft_words.specs.Spelling.{IsFreeOf}
use Rattle.ft_plan_files.specs.Writing.{PutsLine}
use Rattle.ft_plan_files.proofs.WrittenLines.{SoFar, begun, done, next, unread, unread_last}
use Rattle.ft_plan_files.proofs.writing.write_lines.Goals as goal

pub loop-line-init : goal.loop-line-init
loop-line-init g c =
    let text = c.args.text.now in
    let tells = g.F.DiskFiles.tells c.args.files.now in
    subst (λ made. SoFar tells text made text) (sym c.new-made.ensures.items) (begun tells text)

pub returns-in_err-put_line-clause-unread : goal.returns-in_err-put_line-clause-unread
returns-in_err-put_line-clause-unread g c = λ bad.
    unread (g.F.DiskFiles.tells c.args.files.now) c.args.text.now c.loop-line.made.items c.loop-line.rest.now c.in-Some.line.now c.in-Some.more.now c.loop-line.invariant (search rules) (search rules) (c.in_err-put_line.ensures.unread (search rules))

pub loop-line-preserved : goal.loop-line-preserved
loop-line-preserved g c =
    let made = c.loop-line.made.items in
    let rest = c.loop-line.rest.now in
    let line = c.in-Some.line.now in
    let more = c.in-Some.more.now in
    let tells = g.F.DiskFiles.tells c.args.files.now in
    let free : IsFreeOf 10 line = search rules in
    let is : rest ≡ line ++ 10 ∷ more = search rules in
    let put = c.put_line.new.made.items in
    let puts : PutsLine tells line made put = search rules in
    let after : c.extend_from_slice.new.self.items ≡ put ++ 10 ∷ [] = search rules in
    next tells c.args.text.now made put c.extend_from_slice.new.self.items rest line more c.loop-line.invariant free is puts after

pub returns-in_err-put_line-2-clause-unread : goal.returns-in_err-put_line-2-clause-unread
returns-in_err-put_line-2-clause-unread g c = λ bad.
    unread_last (g.F.DiskFiles.tells c.args.files.now) c.args.text.now c.loop-line.made.items c.loop-line.rest.now c.loop-line.invariant (search rules) (c.in_err-put_line-2.ensures.unread (search rules))

pub returns-clause-ok : goal.returns-clause-ok
returns-clause-ok g c =
    let made = c.loop-line.made.items in
    let rest = c.loop-line.rest.now in
    let tells = g.F.DiskFiles.tells c.args.files.now in
    let free : IsFreeOf 10 rest = search rules in
    let puts : PutsLine tells rest made c.put_line-2.new.made.items = search rules in
    done tells c.args.text.now made c.put_line-2.new.made.items rest c.loop-line.invariant free puts
