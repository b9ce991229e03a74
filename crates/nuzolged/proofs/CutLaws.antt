-- What is cut from a call is unseen.
use Rattle.std.proofs.Common.{◌≡◌, ◌∙◌, ℕ, List, map, option_map, Option, Some, None, MatchOption, ap, sym, refl, subst, take-take, arith}
use Rattle.std.specs.FinMap as finite
use Rattle.ft_laws.specs.Lists as lists
use Rattle.ft_cells.specs.Rows.{rows_of}
use Rattle.ft_cells.specs.declared.limits.TreeLimits.{TreeLimits}
use Rattle.ft_posix.specs.declared.call.Call.{Call}
use Rattle.ft_posix.specs.declared.call.Call.TheVariants.{Mkdir, Rmdir, List as ListDir, Open, Close, Read, Write, Pread, Pwrite, Lseek, Truncate, Ftruncate, Stat, Fstat, Link, Unlink, Rename, Symlink, Readlink, Lstat, Chmod, Fchmod, Chown, Lchown, Fchown, Utime, Lutime, Futime}
use Rattle.ft_lock_rules.specs.declared.line.LockLine.{LockLine}
use Rattle.ft_waits.specs.declared.edge.Edge.{Edge}
use Rattle.ft_waits.specs.declared.edge.EdgeKind.{EdgeKind}
use Rattle.ft_waits.specs.declared.edge.EdgeKind.TheVariants.{Lock, Child}
use Rattle.ft_waits.specs.Edges.{AreEdgesOf, WaitsFor}
use Rattle.ft_words.specs.Texts.{tree_text}
use Rattle.ft_core.specs.States.{State, Base, accesses_now, after_grant, after_wait}
use Rattle.ft_core.specs.Steps.{BlockingRule, IsAnswered, IsStep, refusal_of}
use Rattle.ft_core.specs.declared.fault.Fault.{Fault}
use Rattle.ft_core.specs.declared.request.Answer.{Answer}
use Rattle.ft_core.specs.declared.request.Answer.TheVariants.{Granted, Waits as WaitsAnswer, Refused}
use Rattle.ft_core.specs.Reports.{AreLockLines}
use Rattle.ft_line.specs.declared.line.Query.{Query}
use Rattle.ft_line.specs.declared.line.Query.TheVariants.{Tree, Locks, Attributes, Waits}
use Rattle.ft_line.specs.Lines.{IsReportText}
use Rattle.ft_core.specs.declared.request.Request.TheVariants.{Ask}
use Rattle.ft_session.specs.declared.session.Session.{Session}
use Rattle.nuzolged.specs.declared.nuz_answer.NuzAnswer.{NuzAnswer}
use Rattle.nuzolged.specs.Asked.{IsAsked, IsCallAsked, limits_of}
use Rattle.nuzolged.specs.Cuts.{cut_path, cut_mode, most_at, most_of, cut_of, cut_event, limits_in, AreAlike, CutLaw}
use Rattle.nuzolged.proofs.CutStates.{left, alike_ask, tree-same, lock-same, fate-same, children-same, blockers-same, accesses-same, reply-same, grant-alike, wait-alike, calls, requests}

-- ---- what is left of what is left

path-left : (path : List ℕ) → cut_path (cut_path path) ≡ cut_path path
path-left path = take-take 4096 4096 path (omega arith)

mode-left : (mode : ℕ) → cut_mode (cut_mode mode) ≡ cut_mode mode
mode-left mode = omega arith

modes-left : (mode : Option ℕ) → option_map cut_mode (option_map cut_mode mode) ≡ option_map cut_mode mode
modes-left None = refl
modes-left (Some mode) = ap Some (mode-left mode)

left-left : (limits : TreeLimits) (call : Call) → cut_of limits (cut_of limits call) ≡ cut_of limits call
left-left limits (Mkdir path mode) = λ i. Mkdir (path-left path i) (modes-left mode i)
left-left limits (Rmdir path) = ap Rmdir (path-left path)
left-left limits (ListDir path) = ap ListDir (path-left path)
left-left limits (Open path flags) = λ i. Open (path-left path i) (record flags { mode = modes-left flags.mode i })
left-left limits (Close fd) = refl
left-left limits (Read fd len) = refl
left-left limits (Write fd bytes) = ap (Write fd) (take-take (most_of limits) (most_of limits) bytes (omega arith))
left-left limits (Pread fd off len) = refl
left-left limits (Pwrite fd off bytes) = ap (Pwrite fd off) (take-take (most_at limits off) (most_at limits off) bytes (omega arith))
left-left limits (Lseek fd whence off) = refl
left-left limits (Truncate len path) = ap (Truncate len) (path-left path)
left-left limits (Ftruncate fd len) = refl
left-left limits (Stat path) = ap Stat (path-left path)
left-left limits (Fstat fd) = refl
left-left limits (Link old new) = λ i. Link (path-left old i) (path-left new i)
left-left limits (Unlink path) = ap Unlink (path-left path)
left-left limits (Rename old new) = λ i. Rename (path-left old i) (path-left new i)
left-left limits (Symlink target path) = λ i. Symlink (path-left target i) (path-left path i)
left-left limits (Readlink path) = ap Readlink (path-left path)
left-left limits (Lstat path) = ap Lstat (path-left path)
left-left limits (Chmod mode path) = λ i. Chmod (mode-left mode i) (path-left path i)
left-left limits (Fchmod fd mode) = ap (Fchmod fd) (mode-left mode)
left-left limits (Chown owner group path) = ap (Chown owner group) (path-left path)
left-left limits (Lchown owner group path) = ap (Lchown owner group) (path-left path)
left-left limits (Fchown fd owner group) = refl
left-left limits (Utime time path) = ap (Utime time) (path-left path)
left-left limits (Lutime time path) = ap (Lutime time) (path-left path)
left-left limits (Futime fd time) = refl

-- ---- reports

module _ (s s' : State) (alike : AreAlike s s') where
  back : AreAlike s' s
  back =
      let same : limits_in s ≡ limits_in s' = ap (λ (b : Base). b.tree.limits) (sym alike.base) in record {
        rule = sym alike.rule;
        limits = sym alike.limits;
        base = sym alike.base;
        events = subst (λ l. map (cut_event l) s.events ≡ map (cut_event l) s'.events) same (sym alike.events);
        asks = λ t. subst (λ l. option_map (cut_of l) (finite.get s.asks t) ≡ option_map (cut_of l) (finite.get s'.asks t)) same (sym (alike.asks t));
        last_txn = sym alike.last_txn;
        last_stamp = sym alike.last_stamp;
      }

  waits-alike : (kind : EdgeKind) (from to : ℕ) → WaitsFor s kind from to → WaitsFor s' kind from to
  waits-alike Lock from to waits =
      let other = alike_ask (limits_in s) (finite.get s'.asks from) waits.call (alike.asks from ∙ ap (left (limits_in s)) waits.pending) in record {
        call = other.other;
        pending = other.is;
        blocked = subst (lists.In to) (sym (blockers-same s s' alike from _ _ (accesses-same s s' alike waits.call other.other other.alike))) waits.blocked;
      }
  waits-alike Child from to waits = record { live = fate-same s s' alike from ∙ waits.live; child = subst (lists.In to) (sym (children-same s s' alike from)) waits.child }

  locks-alike : (lines : List LockLine) → AreLockLines s lines → AreLockLines s' lines
  locks-alike lines are = record { order = are.order; exact = λ l. ((λ inside. lock-same s s' alike l ∙ (are.exact l).0 inside), (λ is. (are.exact l).1 (sym (lock-same s s' alike l) ∙ is))) }

edges-alike : (s s' : State) → AreAlike s s' → (edges : List Edge) → AreEdgesOf s edges → AreEdgesOf s' edges
edges-alike s s' alike edges are = record {
  order = are.order;
  exact = λ e. ((λ inside. waits-alike s s' alike e.kind e.from e.to ((are.exact e).0 inside)), (λ waits. (are.exact e).1 (waits-alike s' s (back s s' alike) e.kind e.from e.to waits)));
}

reports-alike : (s s' : State) → AreAlike s s' → (report : Query) (text : List ℕ) → IsReportText s report text → IsReportText s' report text
reports-alike s s' alike Tree text is = is ∙ sym (ap (λ tree. tree_text (rows_of tree)) (tree-same s s' alike))
reports-alike s s' alike Locks text is = (is.0, locks-alike s s' alike is.0 is.1, is.2)
reports-alike s s' alike Attributes text is = (is.0, locks-alike s s' alike is.0 is.1, is.2)
reports-alike s s' alike Waits text is = (is.0, is.1, edges-alike s s' alike is.0 is.2, is.3, is.4)

-- ---- the law

pub cut_law : CutLaw
cut_law = record { calls = calls; requests = requests; reports = reports-alike; left = left-left }

-- a state is alike itself
same_state : (s : State) → AreAlike s s
same_state s = record { rule = refl; limits = refl; base = refl; events = refl; asks = λ t. refl; last_txn = refl; last_stamp = refl }

-- by any rule
module _ (rule : BlockingRule) (s : State) (t : ℕ) (call call' : Call) (same : cut_of (limits_in s) call' ≡ cut_of (limits_in s) call) where
  one-rule : rule s t (accesses_now s call') ≡ rule s t (accesses_now s call)
  one-rule = ap (rule s t) (accesses-same s s (same_state s) call call' same)

  whole-answered : (a : Answer) (after : State) → IsAnswered rule s (Ask t call) a after → (whole : State) × IsAnswered rule s (Ask t call') a whole × AreAlike after whole
  whole-answered (Refused fault) after has = (s, (has.0, tt, refl), subst (λ (x : State). AreAlike x s) (sym has.2) (same_state s))
  whole-answered (Granted k reply) after has =
      (after_grant s t call', (one-rule ∙ has.0, has.1, has.2 ∙ sym (reply-same s s (same_state s) call call' same), refl), subst (λ (x : State). AreAlike x (after_grant s t call')) (sym has.3) (grant-alike s s (same_state s) t call call' same))
  whole-answered (WaitsAnswer blockers) after has =
      (after_wait s t call', (has.0, has.1 ∙ sym one-rule, refl), subst (λ (x : State). AreAlike x (after_wait s t call')) (sym has.2) (wait-alike s s (same_state s) t call call' same))
  whole-answered other after has = absurd has

  by_fault : (o : Option Fault) (a : Answer) (after : State) → MatchOption o (IsAnswered rule s (Ask t call) a after) (λ fault. (a ≡ Refused fault) × (after ≡ s))
      → (whole : State) × MatchOption o (IsAnswered rule s (Ask t call') a whole) (λ fault. (a ≡ Refused fault) × (whole ≡ s)) × AreAlike after whole
  by_fault None a after has = whole-answered a after has
  by_fault (Some fault) a after has = (s, (has.0, refl), subst (λ (x : State). AreAlike x s) (sym has.1) (same_state s))

  whole-step : (a : Answer) (after : State) → IsStep rule s (Ask t call) a after → (whole : State) × IsStep rule s (Ask t call') a whole × AreAlike after whole
  whole-step a after has = by_fault (refusal_of s (Ask t call)) a after has

-- what is asked by the cut of a call is asked by the call itself
pub whole_asked : (old new : Option Session) (txn : ℕ) (told : NuzAnswer) (call : Call) → IsAsked old (Ask txn (cut_of (limits_of old) call)) told new → IsCallAsked old txn call told new
whole_asked None new txn told call has = has
whole_asked (Some old) new txn told call has =
    let s = old.core.state in (has.0, has.1, has.2, has.3, has.4, λ rule. whole-step rule s txn (cut_of (limits_in s) call) call (sym (left-left (limits_in s) call)) has.1 has.0.core.state)
