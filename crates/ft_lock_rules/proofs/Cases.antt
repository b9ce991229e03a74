-- What holds of a result or an option, by its cases.
use Rattle.std.proofs.Common.{◌≡◌, false, Option, Some, None, is_some, refl, sym, Result, Ok, Err}
use Rattle.std.proofs.lemmas.Bool.{false≢true}
use Rattle.std.specs.Option.{IfSome, IfNone}
use Rattle.std.specs.Result.{is_err, OnOk, OnErr}

-- what holds anyway holds at an error
pub on_any : {X E : Type 0} (r : Result X E) (P : Type 0) → P → OnErr r P
on_any (Ok x) P p = tt
on_any (Err e) P p = p

pub on_any_ok : {X E : Type 0} (r : Result X E) (P : Type 0) → P → OnOk r P
on_any_ok (Ok x) P p = p
on_any_ok (Err e) P p = tt

pub ok_then : {X E : Type 0} (r : Result X E) (P Q : Type 0) → (P → Q) → OnOk r P → OnOk r Q
ok_then (Ok x) P Q f p = f p
ok_then (Err e) P Q f p = tt

pub ok_of : {X E : Type 0} (r : Result X E) (P : Type 0) → is_err r ≡ false → OnOk r P → P
ok_of (Ok x) P e p = p
ok_of (Err e) P is p = absurd (false≢true (sym is))

pub err_then : {X E : Type 0} (r : Result X E) (P Q : Type 0) → (P → Q) → OnErr r P → OnErr r Q
err_then (Ok x) P Q f p = tt
err_then (Err e) P Q f p = f p

pub none_any : {X : Type 0} (r : Option X) (P : Type 0) → P → IfNone r P
none_any None P p = p
none_any (Some x) P p = tt

pub none_then : {X : Type 0} (r : Option X) (P Q : Type 0) → (P → Q) → IfNone r P → IfNone r Q
none_then None P Q f p = f p
none_then (Some x) P Q f p = tt

pub both_then : {X : Type 0} (r : Option X) (P Q R : X → Type 0) → ((x : X) → P x → Q x → R x) → IfSome r P → IfSome r Q → IfSome r R
both_then None P Q R f p q = tt
both_then (Some x) P Q R f p q = f x p q

pub if_absent : {X : Type 0} (r : Option X) (P : Type 0) → is_some r ≡ false → IfNone r P → P
if_absent None P none p = p
if_absent (Some x) P none p = absurd (false≢true (sym none))

pub none_if : {X : Type 0} (r : Option X) (P : Type 0) → (r ≡ None → P) → IfNone r P
none_if None P f = f refl
none_if (Some x) P f = tt

pub some_if : {X : Type 0} (r : Option X) (P : X → Type 0) → ((x : X) → r ≡ Some x → P x) → IfSome r P
some_if None P f = tt
some_if (Some x) P f = f x refl
