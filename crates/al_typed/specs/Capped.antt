-- Numbers that the code keeps in 64 bits: what is greater counts as the greatest of them.
use Rattle.std.specs.Prelude.{ℕ, ◌-◌, ◌^◌, min}

abbrev pub capped : ℕ → ℕ
capped n = min n (2 ^ 64 - 1)
