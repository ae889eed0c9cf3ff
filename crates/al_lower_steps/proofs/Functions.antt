-- Where each function does what it means, so do calls and tasks.
use Rattle.std.proofs.Common.{◌≡◌, ℕ, zero, suc, ◌+◌, List, [], ◌∷◌, Option, Some, refl, sym, ap, ◌∙◌, subst, arith}
use Rattle.std.specs.Prelude.{nat_lt, if◌then◌else◌, sum_by, slice_index}
use Rattle.std.proofs.lemmas.List.Sums.{sum_by-cons}
use Rattle.al_base.specs.declared.trap.Trap.TheVariants as trap
use Rattle.al_event.specs.declared.act.Act.TheVariants as act
use Rattle.al_event.specs.declared.act.Start.{Start}
use Rattle.al_typed.specs.declared.program.Function.{Function as FunctionRow}
use Rattle.al_typed.specs.declared.program.Program.{Program}
use Rattle.al_meaning.specs.Places.{function_at}
use Rattle.al_meaning.specs.Calls.{slots_of, most_slots, line_of_name}
use Rattle.al_meaning.specs.Tasks.{Still, Outcome, stop_in}
use Rattle.al_meaning.specs.Meant.{Given, function_meant, function_or_stuck, called}
use Rattle.al_ir.specs.declared.ir.Ir.{Ir}
use Rattle.al_ir.specs.Control.{Slots, no_slots, Frame, Control, stack_of, line_of, begun, given}
use Rattle.al_ir.specs.Control as operations
use Rattle.al_ir.specs.Step.{private_step, frame_stack}
use Rattle.al_ir.specs.Meaning.{control_weight, resume, start}
use Rattle.al_ir.proofs.Lighter.{lighter}
use Rattle.al_lowered.specs.Rules.{Rules, AreOf, given_units}
use Rattle.al_lowered.proofs.Does.{unfinished}
use Rattle.al_lower_steps.specs.Slots.{Holds, HoldsGiven}
use Rattle.al_lower_steps.specs.Site.{going, entering}
use Rattle.al_lower_steps.specs.Given.{GivenOf, HasFrames}
use Rattle.al_lower_steps.proofs.Calls.{Comes, enters_does, ends_does}

-- the words of a start as arguments
given_holds : (words : List ℕ) (rest : List ℕ) (i : ℕ) → ((k : ℕ) → slice_index words (i + k) ≡ slice_index rest k) → Holds (given words) i rest
given_holds words [] i h = tt
given_holds words (w ∷ rest) i h = (
  let e : i + 0 ≡ i = omega arith in ap Some (subst (λ n. slice_index words n ≡ w) e (h 0)),
  given_holds words rest (i + 1) (λ k. let e : i + suc k ≡ i + 1 + k = omega arith in subst (λ n. slice_index words n ≡ slice_index rest k) e (h (suc k))),
)

pub start_holds : (words : List ℕ) → Holds (given words) 0 words
start_holds words = given_holds words words 0 (λ k. let e : 0 + k ≡ k = omega arith in ap (slice_index words) e)

module _ (p : Program) (ir : Ir) (R : Rules) where
  -- behind what a function gives, these frames go on
  abbrev pub Returns : FunctionRow → List Frame → Given → Type 0
  Returns g frames k = (o : Option (List ℕ)) (s : Still) (last : Slots) → GivenOf p g.returns o → HoldsGiven last 0 o → Comes ir R (k o s) (going [] last frames) s

  -- a call above these frames does what it means, once its turn was made
  pub record CalledDoes (call : ℕ → List ℕ → Still → Given → Outcome) (frames : List Frame) : Type 0 where
    pub by : (number : ℕ) (g : FunctionRow) → function_at p number ≡ Some g → (words : List ℕ) → AreOf (given_units p g) words → (arguments : Slots) → Holds arguments 0 words → (s : Still) (k : Given) → Returns g frames k → Comes ir R (call number words s k) (entering [] number arguments frames) s

  -- a function does what it means from its first operation on, where calls above it and in its place do
  pub record FunctionDoes (number : ℕ) (g : FunctionRow) : Type 0 where
    pub by : (n : ℕ) (call instead : ℕ → List ℕ → Still → Given → Outcome) (frames : List Frame) → ((frame : Frame) → frame.function ≡ number → CalledDoes call (frame ∷ frames)) → CalledDoes instead frames → (words : List ℕ) → AreOf (given_units p g) words → (arguments : Slots) → Holds arguments 0 words → (s : Still) (k : Given) → Returns g frames k → Comes ir R (function_meant p n call instead number g words s k) (going [] no_slots (begun ir number arguments ∷ frames)) s

  abbrev pub FunctionsDo : Type 0
  FunctionsDo = (number : ℕ) (g : FunctionRow) → function_at p number ≡ Some g → FunctionDoes number g

  module _ (has : HasFrames p ir) (functions : FunctionsDo) where
    abbrev stack_is : List Frame → ℕ
    stack_is frames = sum_by (frame_stack ir) frames

    above : (sum number : ℕ) (frame : Frame) (frames : List Frame) → sum ≡ stack_is frames → frame.function ≡ number → sum + slots_of p (function_at p number) ≡ stack_is (frame ∷ frames)
    above sum number frame frames same here =
        let a : frame_stack ir frame ≡ slots_of p (function_at p number) = has.stack frame.function ∙ ap (λ m. slots_of p (function_at p m)) here in
        let b = sum_by-cons (frame_stack ir) frame frames in
        omega (arith, a, same, b)

    -- the stack is tested in the line of the name
    entered : {o : Outcome} {number sum : ℕ} {arguments : Slots} {frames : List Frame} {s : Still} → sum ≡ stack_is frames → Comes ir R o (going [] no_slots (begun ir number arguments ∷ frames)) s → Comes ir R (if nat_lt most_slots (sum + slots_of p (function_at p number)) then stop_in (line_of_name (function_at p number)) (act.Trap trap.Stack) s else o) (entering [] number arguments frames) s
    entered {o} {number} {sum} {arguments} {frames} {s} same go =
        let total : stack_is frames + stack_of (operations.function_at ir number) ≡ sum + slots_of p (function_at p number) =
        ap (λ m. m + stack_of (operations.function_at ir number)) (sym same) ∙ ap (λ m. sum + m) (has.stack number) in
        subst (λ line. Comes ir R (if nat_lt most_slots (sum + slots_of p (function_at p number)) then stop_in line (act.Trap trap.Stack) s else o) (entering [] number arguments frames) s) (has.line number)
        (enters_does ir R {o = o} {text = []} {function = number} {arguments = arguments} {frames = frames} {s = s} (nat_lt most_slots (sum + slots_of p (function_at p number))) (ap (nat_lt most_slots) total) (λ q. go))

    -- calls at most n deep, above frames that take so many words
    pub called_does : (n sum : ℕ) (frames : List Frame) → sum ≡ stack_is frames → CalledDoes (called p n sum) frames
    called_does zero sum frames same = record { by = λ number g row words fits arguments holds s k go. unfinished (private_step ir) (control_weight ir) resume (lighter ir) R }
    called_does (suc n) sum frames same = record {
      by = λ number g row words fits arguments holds s k go.
          let calls = called p n (sum + slots_of p (function_at p number)) in
          let body : Comes ir R (function_or_stuck p n calls (called p n sum) number (function_at p number) words s k) (going [] no_slots (begun ir number arguments ∷ frames)) s =
          subst (λ r. Comes ir R (function_or_stuck p n calls (called p n sum) number r words s k) (going [] no_slots (begun ir number arguments ∷ frames)) s) (sym row)
          ((functions number g row).by n calls (called p n sum) frames (λ frame here. called_does n (sum + slots_of p (function_at p number)) (frame ∷ frames) (above sum number frame frames same here)) (called_does n sum frames same) words fits arguments holds s k go) in
          entered {number = number} {sum = sum} {arguments = arguments} {frames = frames} {s = s} same body;
    }

    -- a task from its start on
    pub started_does : (n : ℕ) (begin : Start) (g : FunctionRow) → function_at p begin.code ≡ Some g → AreOf (given_units p g) begin.words → (s : Still) → Comes ir R (function_or_stuck p n (called p n (slots_of p (function_at p begin.code))) (called p n 0) begin.code (function_at p begin.code) begin.words s (λ _ s. stop_in 0 act.End s)) (start ir begin) s
    started_does n begin g row fits s =
        let calls = called p n (slots_of p (function_at p begin.code)) in
        subst (λ r. Comes ir R (function_or_stuck p n calls (called p n 0) begin.code r begin.words s (λ _ s. stop_in 0 act.End s)) (start ir begin) s) (sym row)
        ((functions begin.code g row).by n calls (called p n 0) [] (λ frame here. called_does n (slots_of p (function_at p begin.code)) (frame ∷ []) (let q : slots_of p (function_at p begin.code) ≡ 0 + slots_of p (function_at p begin.code) = omega arith in q ∙ above 0 begin.code frame [] refl here)) (called_does n 0 [] refl) begin.words fits (given begin.words) (start_holds begin.words) s (λ _ s. stop_in 0 act.End s) (λ o s last fits holds. ends_does ir R {text = []} {last = last} {s = s}))
