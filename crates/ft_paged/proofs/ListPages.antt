-- The pages of a list: where a number of the list stands in them, and what a change of one leaves.
use Rattle.std.proofs.Common.{◌≡◌, ◌<◌, ◌+◌, ◌-◌, ◌*◌, ℕ, zero, suc, List, [], ◌∷◌, ◌++◌, length, set, get_or, arith, refl, sym, ap, ◌∙◌}
use Rattle.std.proofs.lemmas.List.{length-append, append_assoc, append-nil, get_or_append_left, get_or-append_right, set-append_left, set-append_right}
use Rattle.std.specs.Global.{Vec}
use Rattle.ft_paged.specs.declared.TheConstants.{LIST_PAGE_LEN}
use Rattle.ft_paged.specs.Roomy.{RoomyList, joined_items, AreFull}

-- full pages have so many numbers
pub full-length : (ps : List (Vec ℕ)) → AreFull ps → length (joined_items ps) ≡ LIST_PAGE_LEN * length ps
full-length [] full = refl
full-length (p ∷ ps) full = let more = full-length ps full.1 in let long = full.0 in let all = length-append p.items (joined_items ps) in omega arith

pub list-length : (ps : List (Vec ℕ)) (rest : List ℕ) → AreFull ps → length (joined_items ps ++ rest) ≡ LIST_PAGE_LEN * length ps + length rest
list-length ps rest full = let front = full-length ps full in let all = length-append (joined_items ps) rest in omega arith

-- a number in a full page
pub full-get : (ps : List (Vec ℕ)) (rest : List ℕ) (d : Vec ℕ) (page within place x : ℕ) → AreFull ps → page < length ps → within < LIST_PAGE_LEN → place ≡ LIST_PAGE_LEN * page + within
    → get_or (get_or ps page d).items within x ≡ get_or (joined_items ps ++ rest) place x
full-get [] rest d page within place x full there less is = absurd (omega arith)
full-get (p ∷ ps) rest d zero within place x full there less is =
    let long : length p.items ≡ LIST_PAGE_LEN = full.0 in let same : within ≡ place = omega arith in
    ap (λ k. get_or p.items k x) same ∙ sym (get_or_append_left p.items (joined_items ps ++ rest) x place (omega arith))
    ∙ ap (λ ys. get_or ys place x) (sym (append_assoc p.items (joined_items ps) rest))
full-get (p ∷ ps) rest d (suc page) within place x full there less is =
    let long : length p.items ≡ LIST_PAGE_LEN = full.0 in
    full-get ps rest d page within (place - LIST_PAGE_LEN) x full.1 (omega arith) less (omega arith)
    ∙ sym (get_or-append_right p.items (joined_items ps ++ rest) LIST_PAGE_LEN place x long (omega arith))
    ∙ ap (λ ys. get_or ys place x) (sym (append_assoc p.items (joined_items ps) rest))

-- a number in the last page
pub last-get : (ps : List (Vec ℕ)) (rest : List ℕ) (within place x : ℕ) → AreFull ps → place ≡ LIST_PAGE_LEN * length ps + within → get_or rest within x ≡ get_or (joined_items ps ++ rest) place x
last-get ps rest within place x full is =
    let long = full-length ps full in let same : within ≡ place - LIST_PAGE_LEN * length ps = omega arith in
    ap (λ k. get_or rest k x) same ∙ sym (get_or-append_right (joined_items ps) rest (LIST_PAGE_LEN * length ps) place x long (omega arith))

-- a number that is set in a full page
pub full-set : (ps : List (Vec ℕ)) (rest : List ℕ) (d p : Vec ℕ) (page within place x : ℕ) → AreFull ps → page < length ps → within < LIST_PAGE_LEN → place ≡ LIST_PAGE_LEN * page + within → p.items ≡ set (get_or ps page d).items within x
    → joined_items (set ps page p) ++ rest ≡ set (joined_items ps ++ rest) place x
full-set [] rest d p page within place x full there less is new = absurd (omega arith)
full-set (q ∷ ps) rest d p zero within place x full there less is new =
    let long : length q.items ≡ LIST_PAGE_LEN = full.0 in let same : within ≡ place = omega arith in
    ap (λ xs. xs ++ joined_items ps ++ rest) (new ∙ ap (λ k. set q.items k x) same) ∙ append_assoc (set q.items place x) (joined_items ps) rest
    ∙ sym (set-append_left q.items (joined_items ps ++ rest) place x (omega arith)) ∙ ap (λ ys. set ys place x) (sym (append_assoc q.items (joined_items ps) rest))
full-set (q ∷ ps) rest d p (suc page) within place x full there less is new =
    let long : length q.items ≡ LIST_PAGE_LEN = full.0 in
    append_assoc q.items (joined_items (set ps page p)) rest
    ∙ ap (λ ys. q.items ++ ys) (full-set ps rest d p page within (place - LIST_PAGE_LEN) x full.1 (omega arith) less (omega arith) new)
    ∙ sym (set-append_right q.items (joined_items ps ++ rest) LIST_PAGE_LEN place x long (omega arith))
    ∙ ap (λ ys. set ys place x) (sym (append_assoc q.items (joined_items ps) rest))

-- full pages stay full
pub full-kept : (ps : List (Vec ℕ)) (p : Vec ℕ) (page : ℕ) → AreFull ps → length p.items ≡ LIST_PAGE_LEN → AreFull (set ps page p)
full-kept [] p page full long = full
full-kept (q ∷ ps) p zero full long = (long, full.1)
full-kept (q ∷ ps) p (suc page) full long = (full.0, full-kept ps p page full.1 long)

-- a number that is set in the last page
pub last-set : (ps : List (Vec ℕ)) (rest : List ℕ) (within place x : ℕ) → AreFull ps → place ≡ LIST_PAGE_LEN * length ps + within → joined_items ps ++ set rest within x ≡ set (joined_items ps ++ rest) place x
last-set ps rest within place x full is =
    let long = full-length ps full in let same : within ≡ place - LIST_PAGE_LEN * length ps = omega arith in
    ap (λ k. joined_items ps ++ set rest k x) same ∙ sym (set-append_right (joined_items ps) rest (LIST_PAGE_LEN * length ps) place x long (omega arith))

-- a page more
pub joined-push : (ps : List (Vec ℕ)) (p : Vec ℕ) → joined_items (ps ++ p ∷ []) ≡ joined_items ps ++ p.items
joined-push [] p = append-nil p.items
joined-push (q ∷ ps) p = ap (λ xs. q.items ++ xs) (joined-push ps p) ∙ sym (append_assoc q.items (joined_items ps) p.items)

abbrev roomy : List ℕ → ℕ → RoomyList
roomy xs room = record { items = xs; room = room }

-- what is seen where one number is set
pub set-seen : (xs ys : List ℕ) (room place x : ℕ) (s : RoomyList) → xs ≡ set ys place x → roomy ys room ≡ s → roomy xs room ≡ roomy (set s.items place x) s.room
set-seen xs ys room place x s new is = ap (λ zs. roomy zs room) new ∙ ap (λ r. roomy (set r.items place x) r.room) is
