-- Homes of slots are near.
use Rattle.std.proofs.Common.{◌≡◌, ℕ, ◌<◌, ◌^◌, arith}
use Rattle.rv_code.specs.declared.home.Home.{Home}
use Rattle.rv_code.specs.declared.home.Home.TheVariants.{Frame, Saved}
use Rattle.rv_regs.specs.Homes.{IsHomeOf}
use Rattle.rv_emit.specs.Near.{IsNear}

pub near_of : (t : ℕ) (home : Home) → IsHomeOf t home → t < 2 ^ 20 → IsNear home
near_of t (Frame k) own less = omega (arith, own, less)
near_of t (Saved r) own less = tt
