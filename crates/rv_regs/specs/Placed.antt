-- Homes of a function's slots: words of their own, and registers that are never busy with two at once.
use Rattle.std.specs.Prelude.{◌≡◌, ◌≢◌, ℕ, Bool, true, false, List}
use Rattle.al_ir.specs.declared.ir.Function.{Function}
use Rattle.al_ir.specs.declared.ir.Ir.{Ir}
use Rattle.rv_code.specs.declared.home.Home.{Home}
use Rattle.rv_code.specs.declared.home.Home.TheVariants.{Saved}
use Rattle.rv_regs.specs.Homes.{AreOwn, home_at}
use Rattle.rv_regs.specs.Marks.{all_agree, busy_of, marked}

pub record ArePlaced (ir : Ir) (f : Function) (homes : List Home) : Type 0 where
  pub own : AreOwn homes
  -- for each slot, the operations before which it is live
  pub live : ℕ → List Bool
  pub agree : (t r : ℕ) → home_at homes t ≡ Saved r → all_agree ir t (live t) 0 f.code ≡ true
  pub apart : (t u r pc : ℕ) → home_at homes t ≡ Saved r → home_at homes u ≡ Saved r → t ≢ u
      → marked (busy_of ir f t (live t)) pc ≡ true → marked (busy_of ir f u (live u)) pc ≡ false
