-- Lists of references stand for lists of what they refer to.
use denote.Ref.{Bor}
use Rattle.std.specs.Prelude.{List, map}

abbrev pub referred : {A : Type 0} → List (Bor A) → List A
referred rs = map (λ r. r.now) rs
