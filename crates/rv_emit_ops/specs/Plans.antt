-- Plans of code, as layouts.
use Rattle.std.specs.Prelude.{ℕ, ◌^◌, ◌≤◌, List, [], Option, Some, None, All, slice_get}
use Rattle.al_ir.specs.declared.ir.Ir.{Ir}
use Rattle.rv_code.specs.declared.home.Home.{Home}
use Rattle.rv_regs.specs.Homes.{home_at}
use Rattle.rv_form.specs.Layout.{Layout}
use Rattle.rv_form.specs.Program.{Homes, Places, layout_with}
use Rattle.rv_emit_ops.specs.declared.plan.Plan.{Plan}

abbrev pub homes_or_none : Option (List Home) → List Home
homes_or_none (Some homes) = homes
homes_or_none None = []

-- the homes of the slots of each function, from lists by number
abbrev pub homes_of : List (List Home) → Homes
homes_of homes f = home_at (homes_or_none (slice_get homes f))

abbrev pub places_in : Plan → Places
places_in p = record { entries = p.entries; starts = p.starts; dispatchers = p.dispatchers; routines = p.routines; reaches = p.reaches }

abbrev pub layout_in : Ir → Plan → Layout
layout_in ir p = layout_with (homes_of p.homes) ir (places_in p)

abbrev pub Near : ℕ → Type 0
Near place = place ≤ 2 ^ 24

-- no place is past the greatest code by much
pub record AreNear (p : Plan) : Type 0 where
  pub entries : All Near p.entries
  pub starts : All (All Near) p.starts
  pub dispatchers : All Near p.dispatchers
  pub routines : All Near p.routines
