-- How many words results have.
use Rattle.std.proofs.Common.{◌≤◌, length, arith}
use Rattle.al_base.specs.declared.arith.Op.{Op as Arith}
use Rattle.al_base.specs.declared.arith.Op.TheVariants.{Add, Sub, Mul, Div, Rem, And, Or, Xor, Shl, Shr, Lt, Le, Eq, Ne}
use Rattle.al_base.specs.declared.arith.Kind.{Kind}
use Rattle.al_base.specs.declared.arith.Kind.TheVariants.{Byte, Sint, Usint, Int, Uint, Lint, Ulint}
use Rattle.al_ir.specs.Step.{kind_words, long_words}

pub some_words : (op : Arith) → 1 ≤ length (long_words op 0)
some_words Add = omega arith
some_words Sub = omega arith
some_words Mul = omega arith
some_words Div = omega arith
some_words Rem = omega arith
some_words And = omega arith
some_words Or = omega arith
some_words Xor = omega arith
some_words Shl = omega arith
some_words Shr = omega arith
some_words Lt = omega arith
some_words Le = omega arith
some_words Eq = omega arith
some_words Ne = omega arith

pub some_kind_words : (kind : Kind) → 1 ≤ kind_words kind
some_kind_words Byte = omega arith
some_kind_words Sint = omega arith
some_kind_words Usint = omega arith
some_kind_words Int = omega arith
some_kind_words Uint = omega arith
some_kind_words Lint = omega arith
some_kind_words Ulint = omega arith
