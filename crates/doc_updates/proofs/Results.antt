-- What holds of an answer holds of it in other words.
use Rattle.std.proofs.Common.{Result, Ok, Err, IfOk, IfErr}

pub if_ok : {T E : Type 0} {P Q : T → Type 0} (r : Result T E) → IfOk r P → ((x : T) → P x → Q x) → IfOk r Q
if_ok (Ok x) p f = f x p
if_ok (Err e) p f = tt

pub if_err : {T E : Type 0} {P Q : E → Type 0} (r : Result T E) → IfErr r P → ((e : E) → P e → Q e) → IfErr r Q
if_err (Ok x) p f = tt
if_err (Err e) p f = f e p
