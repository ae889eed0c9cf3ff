-- What has several numbers keeps the first.
use Rattle.std.specs.Prelude.{ℕ, Bool, true, false, Option, Some, None}

-- the number of one thing, once another has that number, which may be the same
abbrev pub first_given : Option ℕ → (is_same : Bool) → ℕ → Option ℕ
first_given (Some first) is_same n = Some first
first_given None true n = Some n
first_given None false n = None
