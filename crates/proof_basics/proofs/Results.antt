-- Results.
use Rattle.std.proofs.Common.{◌∷◌, Result, Ok, Err, OnErr, IfOk, OnOk}

pub on_either : {T E P Q R : Type 0} (r : Result T E) → OnOk r P → OnErr r Q → (P → R) → (Q → R) → R
on_either (Ok x) p q f g = f p
on_either (Err e) p q f g = g q

-- a fact that holds in any case
pub err_then : {T E P : Type 0} (r : Result T E) → P → OnErr r P
err_then (Ok x) p = tt
err_then (Err e) p = p

pub ok_then : {T E P : Type 0} (r : Result T E) → P → OnOk r P
ok_then (Ok x) p = p
ok_then (Err e) p = tt

pub on_ok : {X E P Q : Type 0} (r : Result X E) → (P → Q) → OnOk r P → OnOk r Q
on_ok (Ok x) f h = f h
on_ok (Err e) f h = h

pub on_err : {X E P Q : Type 0} (r : Result X E) → (P → Q) → OnErr r P → OnErr r Q
on_err (Ok x) f h = h
on_err (Err e) f h = f h

pub if_ok : {X E : Type 0} {P Q : X → Type 0} (r : Result X E) → ((x : X) → P x → Q x) → IfOk r P → IfOk r Q
if_ok (Ok x) f h = f x h
if_ok (Err e) f h = h

pub on-err : {A E : Type 0} (r : Result A E) (X : Type 0) → X → OnErr r X
on-err (Ok a) X x = tt
on-err (Err e) X x = x
