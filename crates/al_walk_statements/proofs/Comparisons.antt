-- Ints that are compared.
use Rattle.std.proofs.Common.{◌≡◌, ℕ, Bool, true, false, Option, Some, None, ap}
use Rattle.std.specs.Prelude.{◌==◌, int_lt, unwrap_or}
use Rattle.al_base.specs.Arith.{applied, integer_of, one_where, wrapped}
use Rattle.al_base.specs.declared.arith.Kind.TheVariants as kind
use Rattle.al_base.specs.declared.arith.Op.TheVariants as alu
use Rattle.al_meaning.specs.Words.{is_below}

less_where : (b : Bool) (n : ℕ) → Some n ≡ Some (wrapped 32 (one_where b)) → (n == 1) ≡ b
less_where true n e = ap (λ (o : Option ℕ). unwrap_or o 0 == 1) e
less_where false n e = ap (λ (o : Option ℕ). unwrap_or o 0 == 1) e

pub less_is : (a b n : ℕ) → Some n ≡ applied alu.Lt kind.Int a b → (n == 1) ≡ is_below a b
less_is a b n e = less_where (int_lt (integer_of kind.Int a) (integer_of kind.Int b)) n e

pub never_none : (a b : ℕ) → None ≡ applied alu.Lt kind.Int a b → ⊥
never_none a b e = absurd (cc)
