-- Counted jumps add up along the operations of a function.
use Rattle.std.proofs.Common.{◌≡◌, ℕ, zero, suc, ◌+◌, ◌≤◌, List, [], ◌∷◌, slice_get, Some, sym, ap, ◌∙◌, arith}
use Rattle.al_ir.specs.Bounds.{jumps_of}
use Rattle.al_ir.specs.Control.{code_of, function_at, operation_at}
use Rattle.al_ir.specs.declared.ir.Ir.{Ir}
use Rattle.al_ir.specs.declared.ir.Operation.{Operation}
use Rattle.rv_match.specs.Places.{jumps_in, jumps_before}

next_in : (os : List Operation) (pc : ℕ) (o : Operation) → slice_get os pc ≡ Some o → jumps_in (suc pc) os ≡ jumps_in pc os + jumps_of o.op
next_in [] pc o e = absurd (cc)
next_in (x ∷ os) zero o e =
    let same : x ≡ o = cc in
    let j : jumps_of x.op ≡ jumps_of o.op = ap (λ (y : Operation). jumps_of y.op) same in
    omega (arith, j)
next_in (x ∷ os) (suc pc) o e = let more = next_in os pc o e in omega (arith, more)

pub grows_in : (os : List Operation) (n m : ℕ) → n ≤ m → jumps_in n os ≤ jumps_in m os
grows_in os zero m le = omega arith
grows_in os (suc n) zero le = absurd (omega (arith, le))
grows_in [] (suc n) (suc m) le = omega arith
grows_in (x ∷ os) (suc n) (suc m) le = let more = grows_in os n m (omega (arith, le)) in omega (arith, more)

module _ (ir : Ir) (f : ℕ) where
  pub jumps_next : (pc : ℕ) (o : Operation) → operation_at ir f pc ≡ Some o → jumps_before ir f (pc + 1) ≡ jumps_before ir f pc + jumps_of o.op
  jumps_next pc o at =
      let e : suc pc ≡ pc + 1 = omega arith in
      ap (λ n. jumps_before ir f n) (sym e) ∙ next_in (code_of (function_at ir f)) pc o at

  pub jumps_grow : (n m : ℕ) → n ≤ m → jumps_before ir f n ≤ jumps_before ir f m
  jumps_grow n m le = grows_in (code_of (function_at ir f)) n m le
