-- One private step of a task, by its parts.
use Rattle.std.proofs.Common.{◌≡◌, ℕ, List, [], ◌∷◌, map, Option, Some, None, Result, IfOk, sym, ap, subst, ◌∙◌}
use Rattle.std.proofs.lemmas.Result.{IfOk-weaker}
use Rattle.std.specs.Prelude.{option_map}
use Rattle.al_event.specs.declared.act.Act.TheVariants as act
use Rattle.al_world.specs.Turns.{Asks}
use Rattle.al_typed.specs.declared.program.Program.{Program}
use Rattle.al_meaning.specs.Here.{here, Next}
use Rattle.al_meaning.specs.Items as item
use Rattle.al_meaning.specs.Places.{function_at}
use Rattle.al_meaning.specs.Step as step
use Rattle.al_control.specs.declared.control.Control.{Control}
use Rattle.al_control.specs.declared.control.Entering.{Entering}
use Rattle.al_control.specs.declared.control.Frame.{Frame}
use Rattle.al_control.specs.declared.control.Item.{Item}
use Rattle.al_control.specs.declared.control.Next.{Next as NextStep}
use Rattle.al_control.specs.Models.{control_of, entering_of, frame_of, item_of, next_of, work_of}
use Rattle.al_walk_calls.specs.Fits.{BeginFits, EndFits}
use Rattle.al_walk.specs.Works.{FrameFits, FramesFit, StepFits, WorkFits}

pub goes_as : {E : Type 0} (r : Result NextStep E) (x y : Next) → x ≡ y → IfOk r (λ n. next_of n ≡ x) → IfOk r (λ n. next_of n ≡ y)
goes_as r x y same goes = IfOk-weaker r _ _ (λ n (is : next_of n ≡ x). is ∙ same) goes

-- ---- a frame

with_items : Frame → List Item → Frame
with_items f items = record f { items = items }

pub frame_ends : (p : Program) (f : Frame) (left : List Item) (below : List item.Frame) (u : List ℕ) → f.items ≡ [] → left ≡ []
    → step.step_frame p [] (frame_of (record f { items = left })) below u ≡ step.step_frame p (map item_of f.items) (frame_of f) below u
unfolding with_items
frame_ends p f left below u none rest =
    ap (λ (l : List Item). step.step_frame p [] (frame_of (with_items f l)) below u) (rest ∙ sym none)
    ∙ ap (λ (l : List item.Item). step.step_frame p l (frame_of f) below u) (sym (ap (map item_of) none))

pub frame_steps : (p : Program) (f : Frame) (i : Item) (left : List Item) (below : List item.Frame) (u : List ℕ) → f.items ≡ i ∷ left
    → step.step_work (work_of i.work) (here p i.line (frame_of (record f { items = left })) below u) ≡ step.step_frame p (map item_of f.items) (frame_of f) below u
frame_steps p f i left below u is = ap (λ (l : List item.Item). step.step_frame p l (frame_of f) below u) (sym (ap (map item_of) is))

pub end_fits : (p : Program) (f : Frame) (below : List item.Frame) (u : List ℕ) → f.items ≡ []
    → FrameFits p (map item_of f.items) (frame_of f) below u → EndFits p (function_at p f.function)
end_fits p f below u none fits = subst (λ (l : List item.Item). FrameFits p l (frame_of f) below u) (ap (map item_of) none) fits

pub item_fits : (p : Program) (f : Frame) (i : Item) (left : List Item) (below : List item.Frame) (u : List ℕ) → f.items ≡ i ∷ left
    → FrameFits p (map item_of f.items) (frame_of f) below u → WorkFits (here p i.line (frame_of (record f { items = left })) below u) (work_of i.work)
item_fits p f i left below u is fits = subst (λ (l : List item.Item). FrameFits p l (frame_of f) below u) (ap (map item_of) is) fits

-- ---- a control

controlled : Option Entering → List Frame → item.Control
controlled e fs = record { entering = option_map entering_of e; frames = map frame_of fs }

pub entering_steps : (p : Program) (c : Control) (e : Entering) (u : List ℕ) → c.entering ≡ Some e
    → step.step_entering p (control_of (record c { entering = Some e })) (Some (entering_of e)) u ≡ step.private_step p (control_of c) u
unfolding controlled
entering_steps p c e u is = ap (λ (o : Option Entering). step.private_step p (controlled o c.frames) u) (sym is)

pub frames_step : (p : Program) (c : Control) (u : List ℕ) → c.entering ≡ None
    → step.step_frames p (control_of (record c { entering = None })) (map frame_of c.frames) u ≡ step.private_step p (control_of c) u
unfolding controlled
frames_step p c u none = ap (λ (o : Option Entering). step.private_step p (controlled o c.frames) u) (sym none)

pub entering_fits : (p : Program) (c : Control) (e : Entering) (u : List ℕ) → c.entering ≡ Some e → StepFits p (control_of c) u → BeginFits p e.function
unfolding controlled
entering_fits p c e u is fits = subst (λ (o : Option Entering). StepFits p (controlled o c.frames) u) is fits

pub frames_fit : (p : Program) (c : Control) (u : List ℕ) → c.entering ≡ None → StepFits p (control_of c) u → FramesFit p (map frame_of c.frames) u
unfolding controlled
frames_fit p c u none fits = subst (λ (o : Option Entering). StepFits p (controlled o c.frames) u) none fits

-- ---- its frames

pub no_frames : (p : Program) (fs left : List Frame) (u : List ℕ) → fs ≡ [] → left ≡ []
    → Asks act.End 0 (control_of (record { entering = None; frames = left })) u
    ≡ step.step_frames p (control_of (record { entering = None; frames = fs })) (map frame_of fs) u
unfolding controlled
no_frames p fs left u none rest =
    ap (λ (l : List Frame). Asks act.End 0 (controlled None l) u) (rest ∙ sym none)
    ∙ ap (λ (l : List item.Frame). step.step_frames p (controlled None fs) l u) (sym (ap (map frame_of) none))

pub top_steps : (p : Program) (fs below : List Frame) (f : Frame) (u : List ℕ) → fs ≡ f ∷ below
    → step.step_frame p (map item_of f.items) (frame_of f) (map frame_of below) u
    ≡ step.step_frames p (control_of (record { entering = None; frames = fs })) (map frame_of fs) u
unfolding controlled
top_steps p fs below f u is = ap (λ (l : List item.Frame). step.step_frames p (controlled None fs) l u) (sym (ap (map frame_of) is))

pub top_fits : (p : Program) (fs below : List Frame) (f : Frame) (u : List ℕ) → fs ≡ f ∷ below
    → FramesFit p (map frame_of fs) u → FrameFits p (map item_of f.items) (frame_of f) (map frame_of below) u
top_fits p fs below f u is fits = subst (λ (l : List item.Frame). FramesFit p l u) (ap (map frame_of) is) fits
