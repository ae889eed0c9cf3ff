-- Facts of the value of a result or an option.
use Rattle.std.proofs.Common.{Result, Ok, Err, IfOk, Option, Some, None, IsSome, IfNone}

pub ok_then : {T E : Type 0} (r : Result T E) (P Q : T → Type 0) → ((x : T) → P x → Q x) → IfOk r P → IfOk r Q
ok_then (Ok x) P Q f h = f x h
ok_then (Err e) P Q f h = tt

pub none_of_some : {T : Type 0} (o : Option T) (P : Type 0) → IsSome o → IfNone o P
none_of_some (Some x) P h = tt
none_of_some None P h = absurd (cc)
