-- What follows from two things that hold of an answer.
use Rattle.std.proofs.Common.{IfOk, Result, Ok, Err}

pub joined : {A E : Type 0} (P Q R : A → Type 0) → ((x : A) → P x → Q x → R x) → (r : Result A E) → IfOk r P → IfOk r Q → IfOk r R
joined P Q R f (Ok x) p q = f x p q
joined P Q R f (Err e) p q = tt
