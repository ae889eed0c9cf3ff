-- The last operation of a function ends it.
use Rattle.std.proofs.Common.{◌≡◌, ℕ, suc, ◌+◌, List, [], ◌∷◌, ◌++◌, length, refl, ap}
use Rattle.std.specs.Prelude.{All, Some, slice_get, true}
use Rattle.std.specs.List.{AllByRecursion}
use Rattle.std.proofs.lemmas.List.Elements.{All-from_recursion}
use Rattle.al_typed.specs.declared.program.Function.{Function as FunctionRow}
use Rattle.al_typed.specs.declared.program.Program.{Program}
use Rattle.al_ir.specs.declared.ir.Operation.{Operation}
use Rattle.al_ir.specs.declared.op.Op.TheVariants as op
use Rattle.al_ir.specs.Bounds.{stops}
use Rattle.al_lower_code.specs.Homes.{Spot, here, words}
use Rattle.al_lower_code.specs.Moving.{zeros}
use Rattle.al_lower_code.specs.Simple.{frees_block}
use Rattle.al_lower_code.specs.Statements.{stmt_code}
use Rattle.al_lower_code.specs.Functions.{epilogue, functions_from, lowered, lowered_function, prologue, spot_of, targets_of}
use Rattle.al_lower_bounds.specs.Parts.{EndsWell}

record Ends (code : List Operation) : Type 0 where
  before_last : ℕ
  ends : length code ≡ suc before_last
  last : Operation
  is_last : slice_get code before_last ≡ Some last
  goes_nowhere : stops last.op ≡ true

behind : (xs ys : List Operation) → Ends ys → Ends (xs ++ ys)
behind [] ys h = h
behind (x ∷ xs) ys h =
    let r = behind xs ys h in
    record { before_last = suc r.before_last; ends = ap suc r.ends; last = r.last; is_last = r.is_last; goes_nowhere = r.goes_nowhere }

leaves : (s : Spot) (n : ℕ) → Ends (here s (op.Leave n))
leaves s n = record { before_last = 0; ends = refl; last = record { line = s.line; op = op.Leave n }; is_last = refl; goes_nowhere = refl }

module _ (p : Program) where
  ends_well : (number : ℕ) (f : FunctionRow) → EndsWell (lowered_function p number f)
  ends_well number f =
      let s : Spot = spot_of p number f in
      let gone = behind (zeros s.line 0 (words s f.returns)) (here s (op.Leave (words s f.returns))) (leaves s (words s f.returns)) in
      let freed = behind (frees_block s) (zeros s.line 0 (words s f.returns) ++ here s (op.Leave (words s f.returns))) gone in
      let r = behind (prologue s f) (stmt_code s (targets_of s f) f.body (length (prologue s f)) ++ epilogue s f) (behind (stmt_code s (targets_of s f) f.body (length (prologue s f))) (epilogue s f) freed) in
      record { before_last = r.before_last; ends = r.ends; last = r.last; is_last = r.is_last; goes_nowhere = r.goes_nowhere }

  end_well : (number : ℕ) (fs : List FunctionRow) → AllByRecursion EndsWell (functions_from p number fs)
  end_well number [] = tt
  end_well number (f ∷ fs) = (ends_well number f, end_well (number + 1) fs)

  pub ends : All EndsWell (lowered p).functions
  ends = All-from_recursion EndsWell (functions_from p 0 p.functions) (end_well 0 p.functions)
