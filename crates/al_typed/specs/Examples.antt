-- Worked layouts.
use Rattle.std.specs.Prelude.{◌≡◌, true, false, [], ◌∷◌, Some, refl}
use Rattle.al_base.specs.declared.arith.Kind.TheVariants.{Byte, Usint, Int, Lint}
use Rattle.al_typed.specs.declared.program.Aggregate.{Aggregate}
use Rattle.al_typed.specs.declared.ty.Ty.TheVariants as ty
use Rattle.al_typed.specs.declared.ty.Ty.TheBlock.{hidden-the_row-Ty-0}
use denote.Hole.Carrier.{hidden}
use Rattle.al_typed.specs.Layout.{layout, unit_at, rounded, repeated, in_order, followed, over_each_other, layout_of, aggregate_layout, layouts_after}

-- aggr P{byte a;lint b;usint c;};
abbrev pub p : Aggregate
p = record { is_union = false; members = Some (ty.Integer Byte ∷ ty.Integer Lint ∷ ty.Integer Usint ∷ []); size = 16; align = 4; units = 4 }

p_is : layout (p ∷ []) (ty.Aggregate 0) ≡ record { size = 16; align = 4; units = unit_at 0 1 ∷ unit_at 4 4 ∷ unit_at 8 4 ∷ unit_at 12 2 ∷ [] }
unfolding layout layout_of aggregate_layout layouts_after in_order followed rounded
p_is = refl

-- union U{int n;byte b[6];};
abbrev pub u : Aggregate
u = record { is_union = true; members = Some (ty.Integer Int ∷ ty.Array (ty.Integer Byte) 6 ∷ []); size = 8; align = 4; units = 2 }

u_is : layout (u ∷ []) (ty.Aggregate 0) ≡ record { size = 8; align = 4; units = unit_at 0 4 ∷ unit_at 4 4 ∷ [] }
unfolding layout layout_of aggregate_layout layouts_after over_each_other repeated rounded hidden-the_row-Ty-0 hidden
u_is = refl
