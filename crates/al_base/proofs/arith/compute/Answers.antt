use Rattle.std.proofs.Common.{ap₂, ◌%◌, ℕ, arith}
use Rattle.std.proofs.lemmas.Int.{fits_signed_from_abs}
use Rattle.std.specs.Int.{w128}
use Rattle.al_base.proofs.Products.{wrapped-value, product_in, shift_in, sum, difference, quotient, rest, or_fits, or_in}
use Rattle.al_base.specs.Arith.{integer_of}
use Rattle.al_base.proofs.arith.compute.Goals as goal

pub returns-in-Add : goal.returns-in-Add
returns-in-Add c =
    rw c.in-Add.is (sum _ _ _ _ _ c.value-x.ensures.small c.value-y.ensures.small c.value-x.ensures.value c.value-y.ensures.value)

pub returns-in-Sub : goal.returns-in-Sub
returns-in-Sub c =
    rw c.in-Sub.is (difference _ _ _ _ _ c.value-x.ensures.small c.value-y.ensures.small c.value-x.ensures.value c.value-y.ensures.value)

pub returns-in-Mul : goal.returns-in-Mul
returns-in-Mul c =
    rw c.in-Mul.is (product_in c.args.kind (integer_of c.args.kind c.args.b) c.args.a c.args.b (wrapped-value _ _ c.args.b))

pub returns-in-Div : goal.returns-in-Div
returns-in-Div c =
    rw c.in-Div.is (quotient _ _ _ _ _ c.value-x.ensures.small c.value-y.ensures.small c.value-x.ensures.value c.value-y.ensures.value)

pub returns-in-Rem : goal.returns-in-Rem
returns-in-Rem c =
    rw c.in-Rem.is (rest _ _ _ _ _ c.value-x.ensures.small c.value-y.ensures.small c.value-x.ensures.value c.value-y.ensures.value)

pub overflow_cast-result-in-Or : goal.overflow_cast-result-in-Or
overflow_cast-result-in-Or c =
    let h = or_fits c.args.kind c.low-m.result c.low-n.result c.low-m.ensures.bound c.low-n.ensures.bound in
    fits_signed_from_abs w128 _ (omega arith)

pub returns-in-Or : goal.returns-in-Or
returns-in-Or c =
    let h = or_fits c.args.kind c.low-m.result c.low-n.result c.low-m.ensures.bound c.low-n.ensures.bound in
    rw c.in-Or.is (or_in _ _ _ _ _ h c.low-m.ensures.value c.low-n.ensures.value)

pub returns-in-Shl : goal.returns-in-Shl
returns-in-Shl c =
    rw c.in-Shl.is (shift_in c.args.kind c.args.a _ _ (ap₂ (λ (n w : ℕ). n % w) c.low-n.ensures.value c.width.ensures))
