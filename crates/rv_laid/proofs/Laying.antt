-- The words of all operations of a program stand in an image of it, each in its line, one behind the other.
use Rattle.std.proofs.Common.{◌≡◌, ℕ, zero, suc, ◌+◌, ◌-◌, ◌<◌, ◌≤◌, ◌^◌, List, [], ◌∷◌, length, slice_get, Option, Some, None, refl, sym, ap, ap₂, ◌∙◌, arith, subst}
use Rattle.std.specs.Prelude.{sum_by}
use Rattle.al_ir.specs.Bounds.{Fits, OperationsFit, IsFunction, IsBounded, jumps_of, most_jumps}
use Rattle.al_ir.specs.declared.ir.Function.{Function}
use Rattle.al_ir.specs.declared.ir.Ir.{Ir}
use Rattle.al_ir.specs.declared.ir.Operation.{Operation}
use Rattle.al_ir.specs.declared.op.Op.{Op}
use Rattle.al_ir.specs.declared.op.Op.TheVariants as op
use Rattle.al_ir.specs.Control.{code_of as operations_of, function_at, operation_at}
use Rattle.rv_isa.specs.declared.image.Contents.{Contents}
use Rattle.rv_isa.specs.declared.instr.BranchOp.TheVariants.{Beq, Bne}
use Rattle.rv_code.specs.Jumps.{jump_code}
use Rattle.rv_code.specs.Runs.{Stands}
use Rattle.rv_form.specs.Flow.{skip_code, skip_unless_code, turn_to}
use Rattle.rv_form.specs.Layout.{Layout}
use Rattle.rv_form.specs.Program.{Homes, IsImageOf, layout_of, function_pieces, functions_place}
use Rattle.rv_form.specs.Template.{template}
use Rattle.rv_code.specs.Laying.{before}
use Rattle.rv_match.specs.Laid.{Laid}
use Rattle.rv_match.specs.Places.{jumps_in, jumps_before}
use Rattle.rv_flow.proofs.Entering.{sum_more}
use Rattle.rv_alike.specs.Within.{places}
use Rattle.rv_alike.proofs.Ranges.{all_at, get_below}
use Rattle.rv_laid.proofs.Placing.{number, placed_low, operation_stands, operation_next, operation_line}
use Rattle.rv_laid.proofs.Meeting.{at_is}

jumps_few : (os : List Operation) (k : ℕ) → jumps_in k os ≤ sum_by (λ (o : Operation). jumps_of o.op) os
jumps_few os zero = omega arith
jumps_few [] (suc k) = omega arith
jumps_few (o ∷ os) (suc k) = omega (arith, jumps_few os k, sum_more (λ (x : Operation). jumps_of x.op) o os)

fits_at : (ir : Ir) (g : Function) (os : List Operation) (base k : ℕ) (o : Operation) → slice_get os k ≡ Some o → OperationsFit ir g base os → Fits ir g (base + k) o.op
fits_at ir g [] base k o e all = absurd (cc)
fits_at ir g (x ∷ os) base zero o e all =
    let same : x ≡ o = cc in
    let start : base ≡ base + 0 = omega arith in
    subst (λ n. Fits ir g n o.op) start (subst (λ (y : Operation). Fits ir g base y.op) same all.0)
fits_at ir g (x ∷ os) base (suc k) o e all =
    let next : base + 1 + k ≡ base + suc k = omega arith in
    subst (λ n. Fits ir g n o.op) next (fits_at ir g os (base + 1) k o e all.1)

module _ (homes : Homes) (ir : Ir) where
  abbrev final : Layout
  final = layout_of homes ir

  -- A program's layout that also says where the last operation of a function ends: the layout itself has places of operations alone.
  abbrev pub ended : Layout
  ended = record final { at = λ f pc. functions_place final ir + before (function_pieces final 0 ir.functions) (number ir.functions f + suc pc) }

  module _ (f pc : ℕ) (g : Function) (e : function_at ir f ≡ Some g) (less : pc < length g.code) where
    at_is_there : (n : ℕ) → n < length g.code → final.at f n ≡ ended.at f n
    at_is_there n q = at_is homes ir f n g e q

    -- jumps go to operations
    template_same : (x : Op) → Fits ir g pc x → template final f pc x ≡ template ended f pc x
    template_same (op.Constant to w) fits = refl
    template_same (op.Copy to a) fits = refl
    template_same (op.Zero to n) fits = refl
    template_same (op.Result to n) fits = refl
    template_same (op.Word k s to a b) fits = refl
    template_same (op.WordBy k s to a w) fits = refl
    template_same (op.Long k s to a b) fits = refl
    template_same (op.Complement to a) fits = refl
    template_same (op.IsZero to a) fits = refl
    template_same (op.IsLongSet to a) fits = refl
    template_same (op.Convert i j to a) fits = refl
    template_same (op.Extract to a k n) fits = refl
    template_same (op.Offset to a n) fits = refl
    template_same (op.Advance k n to a b) fits = refl
    template_same (op.Between n to a b) fits = refl
    template_same (op.GetPrivate to j) fits = refl
    template_same (op.PutPrivate j a) fits = refl
    template_same (op.Invoke g a) fits = refl
    template_same (op.InvokePointer j a b) fits = refl
    template_same (op.Become g a) fits = refl
    template_same (op.Leave n) fits = refl
    template_same (op.Load to a n k) fits = refl
    template_same (op.Store a n k b) fits = refl
    template_same (op.LoadUnits to a n y) fits = refl
    template_same (op.StoreUnits a n y b) fits = refl
    template_same (op.ClearUnits a n y) fits = refl
    template_same (op.Alloc to n k) fits = refl
    template_same (op.Free a k) fits = refl
    template_same (op.NewChan to n k) fits = refl
    template_same (op.FreeChan a) fits = refl
    template_same (op.CanRecv to a) fits = refl
    template_same (op.CanSend to a) fits = refl
    template_same (op.Talk bs r to g) fits = refl
    template_same (op.Proc g a n) fits = refl
    template_same (op.Task g a n) fits = refl
    template_same (op.Par gs a n r) fits = refl
    template_same (op.PutByte b) fits = refl
    template_same (op.PutCharacter a) fits = refl
    template_same (op.PutDecimal s a) fits = refl
    template_same (op.PutLongDecimal s a) fits = refl
    template_same (op.PutHex a) fits = refl
    template_same (op.PutLongHex a) fits = refl
    template_same (op.PutText a) fits = refl
    template_same op.Print fits = refl
    template_same (op.Terminate a) fits = refl
    template_same (op.Trap t) fits = refl
    template_same (op.Skip n) fits = ap₂ (λ i j. jump_code (final.reach f) i j) (at_is_there pc less) (at_is_there (pc + 1 + n) (omega (arith, fits)))
    template_same (op.SkipIfZero a n) fits = ap₂ (λ i j. skip_code (final.reach f) Beq (homes f a) i j) (at_is_there pc less) (at_is_there (pc + 1 + n) (omega (arith, fits.1)))
    template_same (op.SkipIfSet a n) fits = ap₂ (λ i j. skip_code (final.reach f) Bne (homes f a) i j) (at_is_there pc less) (at_is_there (pc + 1 + n) (omega (arith, fits.1)))
    template_same (op.SkipUnless k s a b n) fits = ap₂ (λ i j. skip_unless_code (final.reach f) k s (homes f a) (homes f b) i j) (at_is_there pc less) (at_is_there (pc + 1 + n) (omega (arith, fits.1.1.1)))
    template_same (op.GoTo to) fits = ap₂ (λ i j. jump_code (final.reach f) i j) (at_is_there pc less) (at_is_there to (omega (arith, fits.1)))
    template_same (op.Back n) fits = ap₂ (λ i j. turn_to (final.reach f) i j) (at_is_there pc less) (at_is_there (pc - n) (omega (arith, less)))
    template_same (op.Turn to) fits = ap₂ (λ i j. turn_to (final.reach f) i j) (at_is_there pc less) (at_is_there to (omega (arith, fits)))

  module _ (image : Contents) (is : IsImageOf homes ir image) (bounded : IsBounded ir) (small : length image.code < 2 ^ 23) where
    module _ (f pc : ℕ) (o : Operation) (at : operation_at ir f pc ≡ Some o) where
      same : template final f pc o.op ≡ template ended f pc o.op
      same = on (function_at ir f) refl at where
        on : (x : Option Function) → function_at ir f ≡ x → slice_get (operations_of x) pc ≡ Some o → template final f pc o.op ≡ template ended f pc o.op
        on (Some g) e q =
            let fine : IsFunction ir g = all_at (IsFunction ir) ir.functions f g e bounded.functions in
            let none : 0 + pc ≡ pc = omega arith in
            template_same f pc g e (get_below g.code pc o q) o.op (subst (λ n. Fits ir g n o.op) none (fits_at ir g g.code 0 pc o q fine.operations))
        on None e q = absurd (cc)

      operation_at_place : Stands image.code (ended.at f pc) (template ended f pc o.op)
      operation_at_place = subst (Stands image.code (ended.at f pc)) same (operation_stands ir image final is.code is.lines f pc o at)

      next_place : ended.at f pc + length (template ended f pc o.op) ≡ ended.at f (pc + 1)
      next_place = ap (λ i. ended.at f pc + length i) (sym same) ∙ operation_next ir image final is.code is.lines f pc o at

    few_jumps : (f pc : ℕ) → jumps_before ir f pc ≤ most_jumps
    few_jumps f pc = on (function_at ir f) refl where
      on : (x : Option Function) → function_at ir f ≡ x → jumps_in pc (operations_of x) ≤ most_jumps
      on (Some g) e = omega (arith, jumps_few g.code pc, (all_at (IsFunction ir) ir.functions f g e bounded.functions).jumps)
      on None e = omega (arith, jumps_few [] pc)

    pub laid_is : Laid ir image (places ended) (template ended)
    laid_is = record {
      op = λ f pc o at. operation_at_place f pc o at;
      next = λ f pc o at. next_place f pc o at;
      line = λ f pc o at j a b. operation_line ir image final is.code is.lines f pc o at j a b;
      low = λ f pc. omega (arith, placed_low ir image final is.code is.lines f pc, small);
      few = few_jumps;
    }
