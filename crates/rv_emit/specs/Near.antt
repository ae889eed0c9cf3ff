-- Homes in a frame that the stack has room for.
use Rattle.std.specs.Prelude.{ℕ, ◌<◌, ◌^◌}
use Rattle.rv_code.specs.declared.home.Home.{Home}
use Rattle.rv_code.specs.declared.home.Home.TheVariants.{Frame, Saved}

abbrev pub IsNear : Home → Type 0
IsNear (Frame k) = k < 2 ^ 20
IsNear (Saved r) = Unit {0}
