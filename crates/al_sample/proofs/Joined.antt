-- One more line at the end.
use Rattle.std.proofs.Common.{◌≡◌, ℕ, ◌+◌, List, ◌++◌, append_assoc, add-one}
use Rattle.al_sample.specs.Sample.{joined}

pub one_more : (line : ℕ → List ℕ) (before text now : List ℕ) (k : ℕ)
    → text ≡ before ++ joined line k → now ≡ text ++ line k → now ≡ before ++ joined line (k + 1)
one_more line before text now k e f = rw (f, e, add-one) (append_assoc before (joined line k) (line k))
