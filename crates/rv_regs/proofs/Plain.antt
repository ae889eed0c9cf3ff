-- Each slot in its own word.
use Rattle.std.proofs.Common.{ℕ, true, [], refl, inr}
use Rattle.al_ir.specs.declared.ir.Ir.{Ir}
use Rattle.rv_regs.specs.Homes.{AreHomes, home_at}

-- even where all slots are live everywhere
pub plain_homes : (ir : Ir) (function : ℕ) → AreHomes ir function (home_at [])
plain_homes ir function = record {
  own = λ t. refl;
  found_by_address = λ pc t o is named. refl;
  live = λ pc t. true;
  is_liveness = record { read = λ pc t o is reads. refl; kept = λ pc next t o is follows lives. inr refl };
  arguments_apart = λ t u a b lives others. others;
  apart = λ pc t u a b others. others;
  written_apart = λ pc next t u o is follows writes lives others. others;
  across_calls = λ pc next t o is calls follows lives. refl;
}
