-- The statements without a premise are false of the tiny tree.
use Rattle.std.proofs.Common.{◌≡◌, ◌<◌, ℕ, Bool, true, false, cond, ◌==◌, ◌&&◌, Option, Some, None, [], ◌∷◌, inl, inr, sym, refl, ap, ◌∙◌, arith}
use Rattle.std.proofs.lemmas.Bool.{false≢true}
use Rattle.ft_laws.specs.Calls.{Calls, Done, Fits, made}
use Rattle.ft_laws.specs.Laws.{Hides, is_hidden}
use Rattle.ft_laws.specs.Effects.{calls_of}
use Rattle.ft_laws.specs.Runs.{made_all, Faithful, Able, Exchange}
use Rattle.ft_laws.specs.Tiny.{Store, Cell, What, Call, Reply, HasSmallNames, IsSound, IsReady, names, blank, write, empty, tiny_calls}
use Rattle.ft_laws.specs.Tiny.Cell.{Entry, Parent, Links, Bytes}
use Rattle.ft_laws.specs.Tiny.Node.{FileNode}
use Rattle.ft_laws.specs.Tiny.What.{Mkdir, Rmdir, Create, Unlink, Rename, Fill, Stat}
use Rattle.ft_laws.specs.Hiding.{StaysHidden}
use Rattle.ft_laws.specs.Without.{asks_for_before, ExchangeAny, ExchangeReaders, DeleteAny, DeleteForgets, UndoAny, SortAny, FrameByWrites, ReadyTwice, ComesUponNamed, LetsGoTouching, OwnStaysHidden, HidesNamed, UndoSeen, names_alone, writers_alone, GoFirstAny, Inverts, SoundNamed, RunAlikeSeen, TidyNamed, links_forgotten, StaysSound, readers_alone, full_removed, others_made}
use Rattle.ft_laws.proofs.Running.{made_faithful}
use Rattle.ft_laws.proofs.Tiny.{tiny_lawful, empty_sound, empty_ready}

abbrev call : ℕ → What → Call
call k w = record { stamp = k; what = w }

abbrev act : Store → Call → Store
act = tiny_calls.act

-- Two calls, and three, from the empty tree.
two_able : (v w : What) → HasSmallNames v → HasSmallNames w → Able tiny_calls empty (made_all tiny_calls empty 1 (call 2 v ∷ call 3 w ∷ []))
two_able v w small_v small_w = record {
  sound = empty_sound;
  ready = (empty_ready 2 v (omega arith) small_v, (empty_ready 3 w (omega arith) small_w, tt));
  distinct = (((λ e. absurd (omega arith)), tt), (tt, tt));
}

three_able : (u v w : What) → HasSmallNames u → HasSmallNames v → HasSmallNames w → Able tiny_calls empty (made_all tiny_calls empty 1 (call 2 u ∷ call 3 v ∷ call 4 w ∷ []))
three_able u v w small_u small_v small_w = record {
  sound = empty_sound;
  ready = (empty_ready 2 u (omega arith) small_u, (empty_ready 3 v (omega arith) small_v, (empty_ready 4 w (omega arith) small_w, tt)));
  distinct = (((λ e. absurd (omega arith)), ((λ e. absurd (omega arith)), tt)), (((λ e. absurd (omega arith)), tt), (tt, tt)));
}

exists_not : Reply.Success ≡ Reply.Exists → ⊥
exists_not e = cc

some_is : (a b : ℕ) → Some a ≡ Some b → a ≡ b
some_is a b e = cc

missing_not : (i : ℕ) (l b : Option ℕ) → Reply.NoEntry ≡ Reply.FileInfo i l b → ⊥
missing_not i l b e = cc

some_none : {A : Type 0} (x : A) → Some x ≡ None → ⊥
some_none x e = cc

-- A file is made twice by the same name: the second call finds it.
abbrev first : Done tiny_calls
first = made tiny_calls empty 1 (call 2 (Create None 0))

abbrev again : Done tiny_calls
again = made tiny_calls (act empty first.call) 1 (call 3 (Create None 0))

twice_able : Able tiny_calls empty (first ∷ again ∷ [])
twice_able = two_able (Create None 0) (Create None 0) (omega arith) (omega arith)

twice_faithful : Faithful tiny_calls empty (first ∷ again ∷ [])
twice_faithful = made_faithful tiny_calls empty 1 (first.call ∷ again.call ∷ [])

-- Of these calls the second does something else in the empty tree.
again_fits : Fits tiny_calls empty again → ⊥
again_fits fit = exists_not fit.reply

pub exchange_any : ExchangeAny tiny_calls → ⊥
exchange_any h = again_fits (h empty first again twice_able twice_faithful).0

pub delete_any : DeleteAny tiny_calls → ⊥
delete_any h = again_fits (h empty [] first (again ∷ []) twice_able twice_faithful).0

pub go_first_any : GoFirstAny tiny_calls → ⊥
go_first_any h = again_fits (h empty (first ∷ []) again [] twice_able twice_faithful).0

pub sort_any : SortAny tiny_calls → ⊥
sort_any h = again_fits (h (λ c. cond (c.call.stamp == 2) 1 0) empty (first ∷ again ∷ []) twice_able twice_faithful).0

-- A file is made and then looked at.
abbrev looked : Done tiny_calls
looked = made tiny_calls (act empty first.call) 1 (call 3 (Stat None 0))

pub exchange_readers : ExchangeReaders tiny_calls → ⊥
exchange_readers h = missing_not 2 (Some 1) (Some 0) ((h empty first looked (two_able (Create None 0) (Stat None 0) (omega arith) tt) (made_faithful tiny_calls empty 1 (first.call ∷ looked.call ∷ []))
    (λ x. none (tiny_calls.changes first.accesses x))).0.reply)
  where
    none : (b : Bool) → b && false ≡ false
    none true = refl
    none false = refl

one_able : Able tiny_calls empty (first ∷ [])
one_able = record { sound = empty_sound; ready = (empty_ready 2 (Create None 0) (omega arith) (omega arith), tt); distinct = (tt, tt) }

pub delete_forgets : DeleteForgets tiny_calls → ⊥
delete_forgets h = some_none (FileNode 2) (h empty [] first [] one_able (made_faithful tiny_calls empty 1 (first.call ∷ [])) tt (Entry 1 0))

-- The store after the file was made is sound, and a later call may be made there.
after_sound : IsSound (act empty first.call)
after_sound = tiny_lawful.stays_sound empty first.call empty_sound (empty_ready 2 (Create None 0) (omega arith) (omega arith))

after_ready : (w : What) → HasSmallNames w → IsReady (call 3 w) (act empty first.call)
after_ready w small = tiny_lawful.stays_ready empty first.call (call 3 w) empty_sound (empty_ready 2 (Create None 0) (omega arith) (omega arith)) (empty_ready 3 w (omega arith) small) (λ e. absurd (omega arith))

-- A file is filled twice, and the first filling is undone.
pub undo_any : UndoAny tiny_calls → ⊥
undo_any h =
    let fill = call 3 (Fill None 0 5) in
    let refill = call 4 (Fill None 0 6) in
    let s = act empty first.call in
    let same = h empty (first ∷ []) (made tiny_calls s 1 fill) (made tiny_calls (act s fill) 1 refill ∷ []) (tiny_calls.inverse s fill)
    (three_able (Create None 0) (Fill None 0 5) (Fill None 0 6) (omega arith) tt tt) (made_faithful tiny_calls empty 1 (first.call ∷ fill ∷ refill ∷ []))
    (tiny_lawful.inverts s fill after_sound (after_ready (Fill None 0 5) tt)) (Bytes 2) in
    six_none same
  where
    six_none : ◌≡◌ {A = Option ℕ} (Some 6) (Some 0) → ⊥
    six_none e = let same : ◌≡◌ {A = ℕ} 6 0 = some_is 6 0 e in omega arith

pub frame_by_writes : FrameByWrites tiny_calls → ⊥
frame_by_writes h = missing_not 2 (Some 1) (Some 0)
    (sym (h empty (act empty first.call) (call 3 (Stat None 0)) empty_sound after_sound (empty_ready 3 (Stat None 0) (omega arith) tt) (after_ready (Stat None 0) tt) (λ x k. absurd (false≢true k))).reply)

pub ready_twice : ReadyTwice tiny_calls → ⊥
ready_twice h = (h empty first.call (call 2 (Stat None 0)) empty_sound (empty_ready 2 (Create None 0) (omega arith) (omega arith)) (empty_ready 2 (Stat None 0) (omega arith) tt)).no_file 1 0 refl

-- nothing in the empty tree names a file
blank_names : (x : Cell) (i : ℕ) → names x (blank x) i ≡ false
blank_names (Entry d n) i = refl
blank_names (Parent d) i = refl
blank_names (Links j) i = refl
blank_names (Bytes j) i = refl

pub comes_upon_named : ComesUponNamed tiny_calls → ⊥
comes_upon_named h =
    let found = h empty first.call empty_sound (empty_ready 2 (Create None 0) (omega arith) (omega arith)) (Links 2) 2 refl refl in
    false≢true (sym (blank_names found.0 2) ∙ found.2)

-- A rename of the file touches neither its Links nor its Bytes.
pub lets_go_touching : LetsGoTouching tiny_calls → ⊥
lets_go_touching h =
    let t = h (act empty first.call) (call 3 (Rename None 0 1)) after_sound (after_ready (Rename None 0 1) (omega arith)) (Entry 1 0) 2 refl refl in
    untouched t.0 t.1 t.2
  where
    untouched : (x : Cell) → tiny_calls.file_of x ≡ Some 2 → tiny_calls.touches (tiny_calls.accesses (act empty first.call) (call 3 (Rename None 0 1))) x ≡ true → ⊥
    untouched (Entry d n) e t = some_none 2 (sym e)
    untouched (Parent d) e t = some_none 2 (sym e)
    untouched (Links i) e t = false≢true t
    untouched (Bytes i) e t = false≢true t

-- The file 2 is hidden.
abbrev two : ℕ → Bool
two i = 2 == i

empty_hides : Hides tiny_calls two empty empty
empty_hides = record { others = λ x k. refl; gone = λ x k. refl; unnamed = λ x i k. blank_names x i }

pub own_stays_hidden : OwnStaysHidden tiny_calls → ⊥
own_stays_hidden h = some_none 1 ((h two empty empty first empty_hides empty_sound (empty_ready 2 (Create None 0) (omega arith) (omega arith)) (record { accesses = refl; reply = refl })).gone (Links 2) refl)

-- The file was made, and its cells are dropped while the entry still names it.
abbrev whole : Store
whole = act empty first.call

abbrev rob : Store → Store
rob s = write (write s (Links 2) None) (Bytes 2) None

abbrev robbed : Store
robbed = rob whole

abbrev filled : Store
filled = act whole (call 3 (Fill None 0 5))

later : IsReady (call 4 (Stat None 0)) empty → IsReady (call 4 (Stat None 0)) whole
later re = tiny_lawful.stays_ready empty first.call (call 4 (Stat None 0)) empty_sound (empty_ready 2 (Create None 0) (omega arith) (omega arith)) re (λ e. absurd (omega arith))

filled_sound : IsSound filled
filled_sound = tiny_lawful.stays_sound whole (call 3 (Fill None 0 5)) after_sound (after_ready (Fill None 0 5) tt)

filled_ready : IsReady (call 4 (Stat None 0)) filled
filled_ready = tiny_lawful.stays_ready whole (call 3 (Fill None 0 5)) (call 4 (Stat None 0)) after_sound (after_ready (Fill None 0 5) tt) (later (empty_ready 4 (Stat None 0) (omega arith) tt)) (λ e. absurd (omega arith))

filled_not : Reply.FileInfo 2 (Some 1) (Some 5) ≡ Reply.FileInfo 2 (Some 1) (Some 0) → ⊥
filled_not e = let same : ◌≡◌ {A = ℕ} 5 0 = cc in omega arith

robbed_others : (x : Cell) → is_hidden tiny_calls two x ≡ false → whole x ≡ robbed x
robbed_others (Entry d n) k = refl
robbed_others (Parent d) k = refl
robbed_others (Links i) k = sym (ap (λ b. cond b None (whole (Links i))) k)
robbed_others (Bytes i) k = sym (ap (λ b. cond b None (whole (Bytes i))) k)

robbed_gone : (x : Cell) → is_hidden tiny_calls two x ≡ true → robbed x ≡ blank x
robbed_gone (Entry d n) k = absurd (false≢true k)
robbed_gone (Parent d) k = absurd (false≢true k)
robbed_gone (Links i) k = ap (λ b. cond b None (whole (Links i))) k
robbed_gone (Bytes i) k = ap (λ b. cond b None (whole (Bytes i))) k

info_not : Reply.FileInfo 2 (Some 1) (Some 0) ≡ Reply.FileInfo 2 None None → ⊥
info_not e = cc

pub hides_named : HidesNamed tiny_calls → ⊥
hides_named h = info_not ((h two whole robbed (made tiny_calls robbed 1 (call 3 (Stat None 0))) robbed_others robbed_gone after_sound (after_ready (Stat None 0) tt) refl (record { accesses = refl; reply = refl })).reply)

-- No file of that name is there for the entry.
pub sound_named : SoundNamed tiny_calls → ⊥
sound_named h = some_none 1 (sym ((h two whole robbed robbed_others robbed_gone after_sound).file_there 1 0 2 refl))

-- The file is filled in one of two trees, and then looked at.
pub run_alike_seen : RunAlikeSeen tiny_calls → ⊥
run_alike_seen h = filled_not ((h two whole filled (made tiny_calls whole 1 (call 4 (Stat None 0)) ∷ []) (able whole after_sound (later (empty_ready 4 (Stat None 0) (omega arith) tt)))
    (able filled filled_sound filled_ready) others (record { accesses = refl; reply = refl }, tt)).0.reply)
  where
    able : (s : Store) → IsSound s → IsReady (call 4 (Stat None 0)) s → Able tiny_calls s (made tiny_calls whole 1 (call 4 (Stat None 0)) ∷ [])
    able s g r = record { sound = g; ready = (r, tt); distinct = (tt, tt) }

    others : (x : Cell) → is_hidden tiny_calls two x ≡ false → whole x ≡ filled x
    others (Entry d n) k = refl
    others (Parent d) k = refl
    others (Links i) k = refl
    others (Bytes i) k = sym (ap (λ b. cond b (Some 5) (whole (Bytes i))) k)

-- Tidying robs the file.
pub tidy_named : TidyNamed tiny_calls → ⊥
tidy_named h = info_not (sym (h rob (λ s. two) others empty (first ∷ looked ∷ []) (two_able (Create None 0) (Stat None 0) (omega arith) tt) (made_faithful tiny_calls empty 1 (first.call ∷ looked.call ∷ []))).1.0.reply)
  where
    others : (s : Store) (x : Cell) → is_hidden tiny_calls two x ≡ false → s x ≡ rob s x
    others s (Entry d n) k = refl
    others s (Parent d) k = refl
    others s (Links i) k = sym (ap (λ b. cond b None (s (Links i))) k)
    others s (Bytes i) k = sym (ap (λ b. cond b None (s (Bytes i))) k)

-- After an unlink was taken back by this inverse, the file has no link.
pub inverse_forgets : Inverts links_forgotten → ⊥
inverse_forgets h =
    let unlink = call 3 (Unlink None 0) in
    zero_one ((h whole unlink after_sound (after_ready (Unlink None 0) tt) (act whole unlink) (λ x k. refl)).1 (Links 2))
  where
    zero_one : ◌≡◌ {A = Option ℕ} (Some 0) (Some 1) → ⊥
    zero_one e = let same : ◌≡◌ {A = ℕ} 0 1 = some_is 0 1 e in omega arith

-- Right after an unlink the entry is empty, and was not before.
pub inverse_asks_for_before : Inverts asks_for_before → ⊥
inverse_asks_for_before h =
    let unlink = call 3 (Unlink None 0) in
    some_none (FileNode 2) (sym (h whole unlink after_sound (after_ready (Unlink None 0) tt) (act whole unlink) (λ x k. refl)).0.0)

-- The file was made and unlinked, and is dropped; then the unlink is undone.
pub undo_seen : UndoSeen tiny_calls → ⊥
undo_seen h =
    let s = act empty first.call in
    let unlink = call 3 (Unlink None 0) in
    let back = h two empty (first ∷ []) (made tiny_calls s 1 unlink) [] (tiny_calls.inverse s unlink) empty (two_able (Create None 0) (Unlink None 0) (omega arith) tt)
    (made_faithful tiny_calls empty 1 (first.call ∷ unlink ∷ [])) tt (tiny_lawful.inverts s unlink after_sound (after_ready (Unlink None 0) tt))
    (record { others = others; gone = λ x k. refl; unnamed = λ x i k. blank_names x i }) in
    false≢true (sym (back.unnamed (Entry 1 0) 2 refl))
  where
    others : (x : Cell) → is_hidden tiny_calls two x ≡ false → act (act empty first.call) (call 3 (Unlink None 0)) x ≡ empty x
    others (Entry d n) k = both ((1 == d) && (0 == n))
      where
        both : (b : Bool) → cond b None (cond b (Some (FileNode 2)) None) ≡ None
        both true = refl
        both false = refl
    others (Parent d) k = refl
    others (Links i) k = ap (λ b. cond b (Some 0) (cond b (Some 1) None)) k
    others (Bytes i) k = ap (λ b. cond b (Some 0) None) k

-- A file is made in a directory, which then can't be removed.
abbrev parted : Calls
parted = calls_of names_alone

abbrev housed : Store
housed = act empty (call 2 (Mkdir None 0))

abbrev inner : Done parted
inner = made parted housed 1 (call 3 (Create (Some 0) 0))

abbrev rmdir : Done parted
rmdir = made parted (act housed inner.call) 1 (call 4 (Rmdir None 0))

housed_sound : IsSound housed
housed_sound = tiny_lawful.stays_sound empty (call 2 (Mkdir None 0)) empty_sound (empty_ready 2 (Mkdir None 0) (omega arith) (omega arith))

housed_ready : (k : ℕ) (w : What) → 2 < k → HasSmallNames w → IsReady (call k w) housed
housed_ready k w more small =
    tiny_lawful.stays_ready empty (call 2 (Mkdir None 0)) (call k w) empty_sound (empty_ready 2 (Mkdir None 0) (omega arith) (omega arith)) (empty_ready k w (omega arith) small) (λ e. absurd (omega arith))

not_empty : Reply.Success ≡ Reply.NotEmpty → ⊥
not_empty e = cc

pub names_alone_exchange : Exchange parted → ⊥
names_alone_exchange h =
    let able : Able parted housed (inner ∷ rmdir ∷ []) = record {
      sound = housed_sound;
      ready = (housed_ready 3 (Create (Some 0) 0) (omega arith) (omega arith), (housed_ready 4 (Rmdir None 0) (omega arith) tt, tt));
      distinct = (((λ e. absurd (omega arith)), tt), (tt, tt));
    } in
    not_empty ((h housed inner rmdir able (made_faithful parted housed 1 (inner.call ∷ rmdir.call ∷ [])) refl).0.0.reply)

-- A name isn't found, and then a file is made by it.
abbrev careless : Calls
careless = calls_of writers_alone

abbrev missed : Done careless
missed = made careless empty 1 (call 2 (Stat None 0))

abbrev late : Done careless
late = made careless empty 1 (call 3 (Create None 0))

pub writers_alone_exchange : Exchange careless → ⊥
writers_alone_exchange h =
    let able : Able careless empty (missed ∷ late ∷ []) = record {
      sound = empty_sound;
      ready = (empty_ready 2 (Stat None 0) (omega arith) tt, (empty_ready 3 (Create None 0) (omega arith) (omega arith), tt));
      distinct = (((λ e. absurd (omega arith)), tt), (tt, tt));
    } in
    missing_not 3 (Some 1) (Some 0) (sym ((h empty missed late able (made_faithful careless empty 1 (missed.call ∷ late.call ∷ [])) refl).0.1.0.reply))

-- The file is made twice, and no call counts as a writer.
pub readers_alone_exchange : Exchange (calls_of readers_alone) → ⊥
readers_alone_exchange h =
    let one = made (calls_of readers_alone) empty 1 first.call in
    let other = made (calls_of readers_alone) (act empty first.call) 1 again.call in
    let able : Able (calls_of readers_alone) empty (one ∷ other ∷ []) = record { sound = twice_able.sound; ready = twice_able.ready; distinct = twice_able.distinct } in
    exists_not ((h empty one other able (made_faithful (calls_of readers_alone) empty 1 (first.call ∷ again.call ∷ [])) refl).0.0.reply)

-- The file in the directory stays when the directory is removed.
pub full_removed_sound : StaysSound (calls_of full_removed) → ⊥
full_removed_sound h =
    let put = call 3 (Create (Some 0) 0) in
    let ready_put = housed_ready 3 (Create (Some 0) 0) (omega arith) (omega arith) in
    let ready = tiny_lawful.stays_ready housed put (call 4 (Rmdir None 0)) housed_sound ready_put (housed_ready 4 (Rmdir None 0) (omega arith) tt) (λ e. absurd (omega arith)) in
    let left = h (act housed put) (call 4 (Rmdir None 0)) (tiny_lawful.stays_sound housed put housed_sound ready_put) ready in
    elim (left.in_dir 2 0 (FileNode 3) refl) [ inl e ↦ two_one e | inr e ↦ false≢true e ]
  where
    two_one : ◌≡◌ {A = ℕ} 2 1 → ⊥
    two_one e = omega arith

pub others_made_hidden : StaysHidden others_made → ⊥
others_made_hidden h =
    let hides : Hides others_made two empty empty = record { others = empty_hides.others; gone = empty_hides.gone; unnamed = empty_hides.unnamed } in
    some_none 1 ((h two empty empty (made others_made empty 1 first.call) hides empty_sound (empty_ready 2 (Create None 0) (omega arith) (omega arith)) refl (record { accesses = refl; reply = refl })).2.gone (Links 2) refl)
