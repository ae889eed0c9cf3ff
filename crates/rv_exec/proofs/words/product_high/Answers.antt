use Rattle.std.proofs.Common.{◌≡◌, ap, arith, ◌/◌, ◌^◌, ℤ, ◌*ℤ◌, ◌∙◌, w32, w64, to_z, of_z, FitsSigned, ◌≤◌, pos, negsuc}
use Rattle.std.specs.Int.RustNames.{unsigned_abs}
use Rattle.std.proofs.lemmas.Int.{to_z-of_z, fits_signed_mul}
use Rattle.rv_exec.proofs.words.product_high.Goals as goal

wide : (z : ℤ) → FitsSigned w32 z → FitsSigned w64 z
wide z f = record { sfits = omega (arith, f.sfits) }

small : (z : ℤ) → FitsSigned w32 z → unsigned_abs z ≤ 2 ^ 31
small (pos n) f = omega (arith, f.sfits)
small (negsuc n) f = omega (arith, f.sfits)

product_fits : (x y : ℤ) → FitsSigned w32 x → FitsSigned w32 y → FitsSigned w64 (x *ℤ y)
product_fits x y f g = fits_signed_mul w64 x y (2 ^ 31) (2 ^ 31) (small x f) (small y g) (omega arith)

-- the casts on the way change nothing
cast_away : (x y : ℤ) → FitsSigned w32 x → FitsSigned w32 y
    → of_z w64 (to_z w64 (of_z w64 (to_z w64 (of_z w64 (to_z w32 (of_z w32 x))) *ℤ to_z w64 (of_z w64 (to_z w32 (of_z w32 y)))))) ≡ of_z w64 (x *ℤ y)
cast_away x y f g =
    rw (to_z-of_z w32 x f, to_z-of_z w32 y g, to_z-of_z w64 x (wide x f), to_z-of_z w64 y (wide y g), to_z-of_z w64 (x *ℤ y) (product_fits x y f g))

pub returns : goal.returns
returns c =
    let f : FitsSigned w32 c.cast_signed.result = record { sfits = c.cast_signed.type_inv } in
    let g : FitsSigned w32 c.cast_signed-2.result = record { sfits = c.cast_signed-2.type_inv } in
    rw (← c.cast_signed.ensures, ← c.cast_signed-2.ensures) (ap (λ n. n / 2 ^ 32) (c.cast_unsigned.ensures ∙ cast_away _ _ f g))
