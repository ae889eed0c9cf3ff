-- Harts follow calls through pointers, in a program whose image is laid out.
use Rattle.std.proofs.Common.{◌≡◌, ℕ, suc, ◌+◌, ◌<◌, ◌^◌, List, [], ◌∷◌, slice_get, Option, Some, None, refl, sym, ap, ◌∙◌, arith}
use Rattle.std.specs.Prelude.{All}
use Rattle.al_ir.specs.declared.ir.Function.{Function}
use Rattle.al_ir.specs.declared.ir.Ir.{Ir}
use Rattle.al_ir.specs.declared.ir.Operation.{Operation}
use Rattle.al_ir.specs.declared.op.Op.{Op}
use Rattle.al_ir.specs.declared.op.Op.TheVariants as op
use Rattle.al_ir.specs.Bounds.{TakesFrom}
use Rattle.al_ir.specs.Control.{Frame as IrFrame, Control, operation_at, function_at, arguments_of}
use Rattle.al_ir.specs.Step.{step_op, class_of}
use Rattle.rv_isa.specs.declared.image.Contents.{Contents}
use Rattle.rv_exec.specs.Hart.{Hart}
use Rattle.rv_exec.specs.Calls.{Privates}
use Rattle.rv_code.specs.Runs.{Fine}
use Rattle.rv_form.specs.Layout.{Layout}
use Rattle.rv_match.specs.Match.{Private, InFrame}
use Rattle.rv_match.proofs.Steps.{Does, here}
use Rattle.rv_flow.specs.Functions.{Begins}
use Rattle.rv_pointers.proofs.Trees.{Each}
use Rattle.rv_pointers.proofs.Pointing.{invoke_pointer_does}
use Rattle.rv_alike.specs.Within.{places, live_in, midway_in}
use Rattle.rv_alike.specs.LaidOut.{IsLaidOut, class_words}
use Rattle.rv_alike.proofs.Ranges.{only_one, range, in_first, in_rest}
use Rattle.rv_alike.proofs.Facts.{homes_are, its, slots_are, stack_few, line_is, code, behind, form_fits, form_jumps, lives, passes_to, across}

each_all : (P Q R : ℕ → Type 0) → ((g : ℕ) → P g → Q g → R g) → (fs : List ℕ) → All P fs → All Q fs → Each R fs
each_all P Q R k [] a b = tt
each_all P Q R k (f ∷ fs) a b = (k f (a 0 f (omega arith)) (b 0 f (omega arith)), each_all P Q R k fs (λ i d less. a (suc i) d (omega (arith, less))) (λ i d less. b (suc i) d (omega (arith, less))))

-- the words that the first function of a class takes are slots
first_has : (ir : Ir) (f : Function) (from : ℕ) (fs : List ℕ) → All (λ g. TakesFrom ir f g from) fs → (i : ℕ) → i < class_words ir fs → from + i < f.slots
first_has ir f from [] a i less = absurd (omega (arith, less))
first_has ir f from (g ∷ fs) a i less = omega (arith, less, (a 0 g (omega arith)).1)

module _ (ir : Ir) (image : Contents) (l : Layout) (all : IsLaidOut ir image l) (left : ℕ) (fr : IrFrame) (below : List IrFrame) (c : Control) (u : List ℕ) (h : Hart) (p : Privates)
    (o : Operation) (at : operation_at ir fr.function fr.pc ≡ Some o) (m : InFrame ir image (places l) (live_in ir l all.homes) (midway_in ir l) left fr below 0 c.text c.last h) (same : Private ir u p) (fine : Fine h p) where
  abbrev Goes : Op → Type 0
  Goes x = Does ir image (places l) (live_in ir l all.homes) (midway_in ir l) left h p (step_op x (here ir image (places l) (live_in ir l all.homes) (midway_in ir l) left fr below c o.line u h p))

  pub invoke_pointer : (class pointer from : ℕ) → o.op ≡ (op.InvokePointer class pointer from) → Goes (op.InvokePointer class pointer from)
  invoke_pointer class pointer from e =
      let f = (form_fits ir image l all fr.function fr.pc o at (op.InvokePointer class pointer from) e) in
      let fs : List ℕ = f.1.0 in
      let found : slice_get ir.classes class ≡ Some fs = f.1.1.0 in
      let takes : All (λ g. TakesFrom ir (its ir image l all fr.function fr.pc o at).function g from) fs = f.1.1.1 in
      let count_is : l.class_arguments class ≡ class_words ir fs = all.class_arguments class fs found in
      let class_is : class_of ir class ≡ fs = ap (λ (o : Option (List ℕ)). elim o [ Some fs ↦ fs | None ↦ [] ]) found in
      let count_read : l.class_arguments class ≡ class_words ir (class_of ir class) = count_is ∙ ap (class_words ir) (sym class_is) in
      invoke_pointer_does ir image (places l) (live_in ir l all.homes) (midway_in ir l) left fr below c o.line u h p (homes_are ir image l all) all.small m same fine
      (omega (arith, all.laid.few fr.function (fr.pc + 1), (form_jumps ir image l all fr.function fr.pc o at (op.InvokePointer class pointer from) e))) all.stack class pointer from (l.class_arguments class) (l.dispatcher class) fs l.entry class_is
      (all.dispatches class fs found) (all.dispatchers_low class fs found)
      (each_all (λ g. TakesFrom ir (its ir image l all fr.function fr.pc o at).function g from) (λ g. arguments_of (function_at ir g) ≡ class_words ir fs)
      (λ g. Begins ir image (places l) (live_in ir l all.homes) g (l.entry g) × ((g < 2 ^ 16) × (arguments_of (function_at ir g) ≡ l.class_arguments class)))
      (λ g q r. (all.begins g q.0, (omega (arith, q.0, all.bounded.count), r ∙ sym count_is))) fs takes (all.equally class fs found))
      (code ir image l all fr.function fr.pc o at (op.InvokePointer class pointer from) e) (behind ir image l all fr.function fr.pc o at (op.InvokePointer class pointer from) e) (all.laid.low fr.function (fr.pc + 1)) (line_is ir image l all fr.function fr.pc o at) (stack_few ir image l all fr.function fr.pc o at)
      (lives ir image l all fr.function fr.pc o at (op.InvokePointer class pointer from) e pointer (in_first (range pointer 1) (range from (class_words ir (class_of ir class)) ∷ []) pointer (omega arith) (omega arith)))
      (λ i less. (
        (lives ir image l all fr.function fr.pc o at (op.InvokePointer class pointer from) e (from + i) (in_rest (range pointer 1) (range from (class_words ir (class_of ir class)) ∷ []) (from + i) (in_first (range from (class_words ir (class_of ir class))) [] (from + i) (omega arith) (omega (arith, less, count_read))))),
        omega (arith, first_has ir (its ir image l all fr.function fr.pc o at).function from fs takes i (omega (arith, less, count_is)), slots_are ir image l all fr.function fr.pc o at),
      ))
      (λ t a. ((passes_to ir image l all fr.function fr.pc o at (op.InvokePointer class pointer from) e (fr.pc + 1) refl (only_one (fr.pc + 1)) t a), (across ir image l all fr.function fr.pc o at (op.InvokePointer class pointer from) e (fr.pc + 1) t tt (only_one (fr.pc + 1)) a)))
