-- What a history tells does not depend on what is cut from its calls.
use Rattle.std.proofs.Common.{◌≡◌, ◌∙◌, ℕ, Bool, not, cond, ◌==◌, ◌||◌, ◌&&◌, List, [], ◌∷◌, ◌++◌, length, map, Option, Some, None, ap, sym, refl, true, false, nat_lt, nat_le}
use Rattle.std.proofs.lemmas.List.{map-append, length-map}
use Rattle.std.specs.FinMap as finite
use Rattle.ft_cells.specs.Looks.{answer}
use Rattle.ft_cells.specs.Plain.{view_in}
use Rattle.ft_posix.specs.Accesses.{listed, with_accesses}
use Rattle.ft_posix.specs.Exec.{without_dead_files, put_all_plain}
use Rattle.ft_laws.specs.Lists.{any}
use Rattle.ft_laws.specs.Calls.{Done}
use Rattle.ft_laws.specs.Effects.{Access as PlaceAccess}
use Rattle.ft_cells.specs.declared.cell.Cell.{Cell}
use Rattle.ft_cells.specs.declared.limits.TreeLimits.{TreeLimits}
use Rattle.ft_cells.specs.Plain.{PlainTree}
use Rattle.ft_posix.specs.declared.call.Call.{Call as PosixCall}
use Rattle.ft_posix.specs.Posix.{posix_calls}
use Rattle.ft_posix.specs.Exec.{exec}
use Rattle.ft_posix.specs.RunLaws.{accesses_in, tree_after}
use Rattle.ft_history.specs.Forest.{above, is_some_and, nearest}
use Rattle.ft_history.specs.History.Fate.{Live, Committed, Aborted}
use Rattle.ft_history.specs.Logs.{put, passing}
use Rattle.ft_history.specs.History.{Event, Fate, is_live, last_transaction, begun, parent, over, is_child, is_committed, some_abort, is_gone, fate, live_children, owner_of, grants, is_undone, is_standing, standing}
use Rattle.ft_history.specs.History.Event.{Begin, Call, Undo, Commit, Abort}
use Rattle.ft_history.specs.Locks.{is_owner, holds_lock, retains_lock}
use Rattle.ft_history.specs.Undoing.{Target, find_back, is_own}
use Rattle.ft_history.specs.Undoing.Target.{Found, SubSince, Nothing}
use Rattle.ft_history.specs.Promises.{calls_below}
use Rattle.ft_lock_rules.specs.declared.rule.Rule.{Rule}
use Rattle.ft_lock_rules.specs.declared.rule.Rule.TheVariants.{Profile, Moss}
use Rattle.ft_lock_rules.specs.Law.{History, blockers_by}
use Rattle.ft_core.proofs.Allowing.{limits-exec}
use Rattle.nuzolged.specs.Cuts.{cut_of}
use Rattle.nuzolged.proofs.CutCalls.{steps_of_cut}

-- what is kept of a granted call
abbrev pub cut_done : (limits : TreeLimits) → Done posix_calls → Done posix_calls
cut_done limits c = record { asker = c.asker; call = record { stamp = c.call.stamp; call = cut_of limits c.call.call }; accesses = c.accesses; reply = c.reply }

-- and of an event
abbrev pub cut_happening : (limits : TreeLimits) → Event posix_calls → Event posix_calls
cut_happening limits (Begin n p) = Begin n p
cut_happening limits (Call c) = Call (cut_done limits c)
cut_happening limits (Undo k) = Undo k
cut_happening limits (Commit t) = Commit t
cut_happening limits (Abort t) = Abort t

-- and of a history
abbrev pub cut_history : (limits : TreeLimits) → History → History
cut_history limits [] = []
cut_history limits (e ∷ h) = cut_happening limits e ∷ cut_history limits h

pub begun-cut : (limits : TreeLimits) (h : History) → begun posix_calls (cut_history limits h) ≡ begun posix_calls h
begun-cut limits [] = refl
begun-cut limits (Begin n p ∷ h) = ap (λ xs. xs ++ n ∷ []) (begun-cut limits h)
begun-cut limits (Call c ∷ h) = begun-cut limits h
begun-cut limits (Undo k ∷ h) = begun-cut limits h
begun-cut limits (Commit t ∷ h) = begun-cut limits h
begun-cut limits (Abort t ∷ h) = begun-cut limits h

pub parent-cut : (limits : TreeLimits) (h : History) → parent posix_calls (cut_history limits h) ≡ parent posix_calls h
parent-cut limits [] = refl
parent-cut limits (Begin n p ∷ h) = ap (λ f. put f n p) (parent-cut limits h)
parent-cut limits (Call c ∷ h) = parent-cut limits h
parent-cut limits (Undo k ∷ h) = parent-cut limits h
parent-cut limits (Commit t ∷ h) = parent-cut limits h
parent-cut limits (Abort t ∷ h) = parent-cut limits h

pub last-cut : (limits : TreeLimits) (first : ℕ) (h : History) → last_transaction posix_calls first (cut_history limits h) ≡ last_transaction posix_calls first h
last-cut limits first [] = refl
last-cut limits first (Begin n p ∷ h) = refl
last-cut limits first (Call c ∷ h) = last-cut limits first h
last-cut limits first (Undo k ∷ h) = last-cut limits first h
last-cut limits first (Commit t ∷ h) = last-cut limits first h
last-cut limits first (Abort t ∷ h) = last-cut limits first h

pub committed-cut : (limits : TreeLimits) (h : History) (x : ℕ) → is_committed posix_calls (cut_history limits h) x ≡ is_committed posix_calls h x
committed-cut limits [] x = refl
committed-cut limits (Begin n p ∷ h) x = committed-cut limits h x
committed-cut limits (Call c ∷ h) x = committed-cut limits h x
committed-cut limits (Undo k ∷ h) x = committed-cut limits h x
committed-cut limits (Commit t ∷ h) x = ap (λ b. (x == t) || b) (committed-cut limits h x)
committed-cut limits (Abort t ∷ h) x = committed-cut limits h x

pub abort-cut : (limits : TreeLimits) (h : History) (p : ℕ → Bool) → some_abort posix_calls (cut_history limits h) p ≡ some_abort posix_calls h p
abort-cut limits [] p = refl
abort-cut limits (Begin n q ∷ h) p = abort-cut limits h p
abort-cut limits (Call c ∷ h) p = abort-cut limits h p
abort-cut limits (Undo k ∷ h) p = abort-cut limits h p
abort-cut limits (Commit t ∷ h) p = abort-cut limits h p
abort-cut limits (Abort t ∷ h) p = ap (λ b. p t || b) (abort-cut limits h p)

pub undone-cut : (limits : TreeLimits) (h : History) (k : ℕ) → is_undone posix_calls (cut_history limits h) k ≡ is_undone posix_calls h k
undone-cut limits [] k = refl
undone-cut limits (Begin n p ∷ h) k = undone-cut limits h k
undone-cut limits (Call c ∷ h) k = undone-cut limits h k
undone-cut limits (Undo j ∷ h) k = ap (λ b. (k == j) || b) (undone-cut limits h k)
undone-cut limits (Commit t ∷ h) k = undone-cut limits h k
undone-cut limits (Abort t ∷ h) k = undone-cut limits h k

pub grants-cut : (limits : TreeLimits) (h : History) → grants posix_calls (cut_history limits h) ≡ map (cut_done limits) (grants posix_calls h)
grants-cut limits [] = refl
grants-cut limits (Begin n p ∷ h) = grants-cut limits h
grants-cut limits (Call c ∷ h) = ap (λ xs. xs ++ cut_done limits c ∷ []) (grants-cut limits h) ∙ sym (map-append (cut_done limits) (grants posix_calls h) (c ∷ []))
grants-cut limits (Undo k ∷ h) = grants-cut limits h
grants-cut limits (Commit t ∷ h) = grants-cut limits h
grants-cut limits (Abort t ∷ h) = grants-cut limits h

pub gone-cut : (limits : TreeLimits) (h : History) (x : ℕ) → is_gone posix_calls (cut_history limits h) x ≡ is_gone posix_calls h x
gone-cut limits h x = abort-cut limits h (λ u. over posix_calls (cut_history limits h) u x) ∙ (λ i. some_abort posix_calls h (λ u. above (parent-cut limits h i) u x))

-- a fate from what it goes by
abbrev fate_by : ℕ → ℕ → Bool → Bool → ℕ → Option Fate
fate_by first last committed gone t = cond (nat_lt first t && nat_le t last) (Some (cond committed Committed (cond gone Aborted Live))) None

pub fate-cut : (limits : TreeLimits) (first : ℕ) (h : History) (t : ℕ) → fate posix_calls first (cut_history limits h) t ≡ fate posix_calls first h t
fate-cut limits first h t = λ i. fate_by first (last-cut limits first h i) (committed-cut limits h t i) (gone-cut limits h t i) t

pub child-cut : (limits : TreeLimits) (h : History) (t u : ℕ) → is_child posix_calls (cut_history limits h) t u ≡ is_child posix_calls h t u
child-cut limits h t u = λ i. is_some_and (parent-cut limits h i u) (λ p. p == t)

pub over-cut : (limits : TreeLimits) (h : History) (t u : ℕ) → over posix_calls (cut_history limits h) t u ≡ over posix_calls h t u
over-cut limits h t u = λ i. above (parent-cut limits h i) t u

pub live_children-cut : (limits : TreeLimits) (first : ℕ) (h : History) (t : ℕ) → live_children posix_calls first (cut_history limits h) t ≡ live_children posix_calls first h t
live_children-cut limits first h t = λ i. passing (λ x. child-cut limits h t x i && is_live (fate-cut limits first h x i)) (begun-cut limits h i)

pub owner-cut : (limits : TreeLimits) (h : History) (t : ℕ) → owner_of posix_calls (cut_history limits h) t ≡ owner_of posix_calls h t
owner-cut limits h t = λ i. cond (gone-cut limits h t i) None (nearest (parent-cut limits h i) (λ x. committed-cut limits h x i) t)

-- ---- granted calls

one_passing : {A B : Type 0} (f : A → B) (b : Bool) (x : A) (ys : List B) (xs : List A) → ys ≡ map f xs → cond b (f x ∷ ys) ys ≡ map f (cond b (x ∷ xs) xs)
one_passing f true x ys xs e = ap (λ zs. f x ∷ zs) e
one_passing f false x ys xs e = e

passing-map : {A B : Type 0} (f : A → B) (p : B → Bool) (xs : List A) → passing p (map f xs) ≡ map f (passing (λ x. p (f x)) xs)
passing-map f p [] = refl
passing-map f p (x ∷ xs) = one_passing f (p (f x)) x (passing p (map f xs)) (passing (λ y. p (f y)) xs) (passing-map f p xs)

any-map : {A B : Type 0} (f : A → B) (p : B → Bool) (xs : List A) → any p (map f xs) ≡ any (λ x. p (f x)) xs
any-map f p [] = refl
any-map f p (x ∷ xs) = ap (λ b. p (f x) || b) (any-map f p xs)

pub is_standing-cut : (limits : TreeLimits) (h : History) (c : Done posix_calls) → is_standing posix_calls (cut_history limits h) (cut_done limits c) ≡ is_standing posix_calls h c
is_standing-cut limits h c = λ i. not (undone-cut limits h c.call.stamp i) && not (gone-cut limits h c.asker i)

pub standing-cut : (limits : TreeLimits) (h : History) → standing posix_calls (cut_history limits h) ≡ map (cut_done limits) (standing posix_calls h)
standing-cut limits h =
    ap (passing (is_standing posix_calls (cut_history limits h))) (grants-cut limits h) ∙ passing-map (cut_done limits) (is_standing posix_calls (cut_history limits h)) (grants posix_calls h)
    ∙ (λ i. map (cut_done limits) (passing (λ c. is_standing-cut limits h c i) (grants posix_calls h)))

pub calls_below-cut : (limits : TreeLimits) (h : History) (t : ℕ) → calls_below posix_calls (cut_history limits h) t ≡ calls_below posix_calls h t
calls_below-cut limits h t =
    ap (λ cs. length (passing (λ c. over posix_calls (cut_history limits h) t c.asker) cs)) (standing-cut limits h)
    ∙ ap length (passing-map (cut_done limits) (λ c. over posix_calls (cut_history limits h) t c.asker) (standing posix_calls h))
    ∙ length-map (passing (λ c. over posix_calls (cut_history limits h) t c.asker) (standing posix_calls h)) (cut_done limits)
    ∙ (λ i. length (passing (λ c. over-cut limits h t c.asker i) (standing posix_calls h)))

-- ---- locks

pub is_owner-cut : (limits : TreeLimits) (h : History) (y : ℕ) (c : Done posix_calls) → is_owner posix_calls (cut_history limits h) y (cut_done limits c) ≡ is_owner posix_calls h y c
is_owner-cut limits h y c = λ i. is_some_and (owner-cut limits h c.asker i) (λ o. o == y)

abbrev Test : Type 0
Test = List (PlaceAccess Cell) → Bool

pub holds-cut : (limits : TreeLimits) (h : History) (y : ℕ) (test : Test) → holds_lock posix_calls (cut_history limits h) y test ≡ holds_lock posix_calls h y test
holds-cut limits h y test =
    ap (any (λ c. is_owner posix_calls (cut_history limits h) y c && ((c.asker == y) && test c.accesses))) (grants-cut limits h)
    ∙ any-map (cut_done limits) (λ c. is_owner posix_calls (cut_history limits h) y c && ((c.asker == y) && test c.accesses)) (grants posix_calls h)
    ∙ (λ i. any (λ c. is_owner-cut limits h y c i && ((c.asker == y) && test c.accesses)) (grants posix_calls h))

pub retains-cut : (limits : TreeLimits) (h : History) (y : ℕ) (test : Test) → retains_lock posix_calls (cut_history limits h) y test ≡ retains_lock posix_calls h y test
retains-cut limits h y test =
    ap (any (λ c. is_owner posix_calls (cut_history limits h) y c && (not (c.asker == y) && test c.accesses))) (grants-cut limits h)
    ∙ any-map (cut_done limits) (λ c. is_owner posix_calls (cut_history limits h) y c && (not (c.asker == y) && test c.accesses)) (grants posix_calls h)
    ∙ (λ i. any (λ c. is_owner-cut limits h y c i && (not (c.asker == y) && test c.accesses)) (grants posix_calls h))

pub blockers-cut : (limits : TreeLimits) (rule : Rule) (h : History) (t : ℕ) (f : List (PlaceAccess Cell)) → blockers_by rule (cut_history limits h) t f ≡ blockers_by rule h t f
blockers-cut limits Profile h t f = λ i. passing
    (λ y. (holds-cut limits h y (λ g. posix_calls.conflict g f) i || retains-cut limits h y (λ g. posix_calls.conflict g f) i) && not (over-cut limits h y t i)) (begun-cut limits h i)
blockers-cut limits Moss h t f = λ i. passing
    (λ y. (holds-cut limits h y (λ g. posix_calls.conflict g f) i && not (y == t)) || (retains-cut limits h y (λ g. posix_calls.conflict g f) i && not (over-cut limits h y t i))) (begun-cut limits h i)

-- ---- undo

-- what is kept of what an undo comes upon
abbrev pub cut_target : (limits : TreeLimits) → Target posix_calls → Target posix_calls
cut_target limits (Found c) = Found (cut_done limits c)
cut_target limits SubSince = SubSince
cut_target limits Nothing = Nothing

pub cut_target-cond : (limits : TreeLimits) (b : Bool) (x y : Target posix_calls) → cond b (cut_target limits x) (cut_target limits y) ≡ cut_target limits (cond b x y)
cut_target-cond limits true x y = refl
cut_target-cond limits false x y = refl

pub find_back-cut : (limits : TreeLimits) (all : History) (t : ℕ) (h : History) → find_back posix_calls (cut_history limits all) t (cut_history limits h) ≡ cut_target limits (find_back posix_calls all t h)
find_back-cut limits all t [] = refl
find_back-cut limits all t (Begin n p ∷ h) = find_back-cut limits all t h
find_back-cut limits all t (Call c ∷ h) =
    (λ i. cond ((c.asker == t) && is_standing-cut limits all c i) (Found (cut_done limits c)) (find_back-cut limits all t h i))
    ∙ cut_target-cond limits (is_own posix_calls all t c) (Found c) (find_back posix_calls all t h)
find_back-cut limits all t (Undo k ∷ h) = find_back-cut limits all t h
find_back-cut limits all t (Commit u ∷ h) =
    (λ i. cond (child-cut limits h t u i) SubSince (find_back-cut limits all t h i)) ∙ cut_target-cond limits (is_child posix_calls h t u) SubSince (find_back posix_calls all t h)
find_back-cut limits all t (Abort u ∷ h) = find_back-cut limits all t h

-- ---- the tree

pub exec-cut : (p : PlainTree) (stamp : ℕ) (call : PosixCall) → exec p stamp (cut_of p.limits call) ≡ exec p stamp call
exec-cut p stamp call = ap (λ looks. let outcome = answer looks (view_in p) in (without_dead_files (put_all_plain p outcome.writes), outcome.reply)) (steps_of_cut p.limits (finite.len p.dirs) stamp call)

pub accesses-cut : (p : PlainTree) (stamp : ℕ) (call : PosixCall) → accesses_in p stamp (cut_of p.limits call) ≡ accesses_in p stamp call
accesses-cut p stamp call = ap (λ looks. listed (with_accesses finite.empty looks (view_in p))) (steps_of_cut p.limits (finite.len p.dirs) stamp call)

pub tree-cut : (limits : TreeLimits) (p : PlainTree) → p.limits ≡ limits → (cs : List (Done posix_calls)) → tree_after p (map (cut_done limits) cs) ≡ tree_after p cs
tree-cut limits p is [] = refl
tree-cut limits p is (c ∷ cs) =
    ap (λ q. tree_after q (map (cut_done limits) cs)) (ap (λ l. (exec p c.call.stamp (cut_of l c.call.call)).0) (sym is) ∙ ap (λ r. r.0) (exec-cut p c.call.stamp c.call.call))
    ∙ tree-cut limits (exec p c.call.stamp c.call.call).0 (limits-exec p c.call.stamp c.call.call ∙ is) cs
