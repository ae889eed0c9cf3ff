-- Harts follow jumps, calls and returns, in a program whose image is laid out.
use Rattle.std.proofs.Common.{◌≡◌, ℕ, ◌+◌, ◌-◌, ◌<◌, ◌≤◌, Bool, List, [], ◌∷◌, ◌++◌, length, length-append, Some, refl, sym, ap, ◌∙◌, arith, subst}
use Rattle.al_base.specs.declared.arith.Op.{Op as Arith}
use Rattle.al_base.specs.declared.arith.Op.TheVariants as arith
use Rattle.al_event.specs.declared.act.Act.TheVariants as act
use Rattle.std.specs.Int.{cast_signed, w32}
use Rattle.rv_isa.specs.declared.instr.Instr.{Instr}
use Rattle.rv_isa.specs.declared.instr.BranchOp.{BranchOp}
use Rattle.rv_isa.specs.declared.instr.BranchOp.TheVariants.{Beq, Bne}
use Rattle.rv_exec.specs.Hart.{put}
use Rattle.rv_exec.specs.Calls.{Asks}
use Rattle.rv_exec.specs.Machine.{line_of}
use Rattle.rv_exec.specs.declared.state.Waits.TheVariants.{Done}
use Rattle.rv_code.specs.declared.home.Home.{Home}
use Rattle.rv_code.specs.declared.reach.Reach.{Reach}
use Rattle.rv_code.specs.declared.reach.Reach.TheVariants.{Short, Middle, Long}
use Rattle.rv_code.specs.Homes.{get_code, get_register, bring}
use Rattle.rv_code.specs.Jumps.{branch_code}
use Rattle.rv_code.specs.Pieces.{call_code}
use Rattle.rv_code.proofs.Leading.{stands_front, stands_back, then_comes}
use Rattle.rv_code.proofs.Pairs.{brings}
use Rattle.rv_form.specs.Flow.{skip_code, not_less, is_less, unless_code, skip_unless_code, turn_to, invoke_code, become_code, leave_code}
use Rattle.rv_match.specs.Places.{under}
use Rattle.rv_match.proofs.Keeping.{at_home}
use Rattle.rv_regs.specs.Uses.{IsIn, reads}
use Rattle.rv_flow.proofs.Jumping.{skip_does, go_to_does, skip_if_zero_does, skip_if_set_does}
use Rattle.rv_flow.proofs.Comparing.{skip_unless_does}
use Rattle.rv_flow.proofs.Turning.{back_does, turn_does}
use Rattle.rv_flow.proofs.Invoking.{invoke_does}
use Rattle.rv_flow.proofs.Becoming.{become_does}
use Rattle.rv_flow.proofs.Returning.{leave_does}
use Rattle.rv_acts.proofs.Calling.{call_asks}
use Rattle.al_ir.specs.declared.ir.Ir.{Ir}
use Rattle.al_ir.specs.declared.ir.Operation.{Operation}
use Rattle.al_ir.specs.declared.op.Op.{Op}
use Rattle.al_ir.specs.declared.op.Op.TheVariants as op
use Rattle.al_ir.specs.Bounds.{Has, Compares}
use Rattle.al_ir.specs.Control.{Frame as IrFrame, Control, operation_at, function_at, arguments_of}
use Rattle.al_ir.specs.Step.{step_op}
use Rattle.rv_isa.specs.declared.image.Contents.{Contents}
use Rattle.rv_exec.specs.Hart.{Hart}
use Rattle.rv_exec.specs.Calls.{Privates}
use Rattle.rv_code.specs.Runs.{Stands, Fine}
use Rattle.rv_form.specs.Layout.{Layout}
use Rattle.rv_match.specs.Match.{Private, InFrame}
use Rattle.rv_match.proofs.Counting.{jumps_grow}
use Rattle.rv_match.proofs.Steps.{Does, here, slot_does, held}
use Rattle.rv_alike.specs.Within.{places, live_in, midway_in}
use Rattle.rv_alike.specs.LaidOut.{IsLaidOut}
use Rattle.rv_alike.proofs.Ranges.{only_one, first_of, second_of, range, in_first, in_rest}
use Rattle.rv_alike.proofs.Facts.{homes_are, its, slots_are, stack_few, line_is, code, behind, form_fits, form_jumps, lives, passes_to, across, live}

-- ---- widths

branch_width : (reach : Reach) (b : BranchOp) (x y at there : ℕ) → 1 ≤ length (branch_code reach b x y at there)
branch_width Short b x y at there = omega arith
branch_width Middle b x y at there = omega arith
branch_width Long b x y at there = omega arith

skip_width : (reach : Reach) (b : BranchOp) (home : Home) (at there : ℕ) → length (get_code home 10) + 1 ≤ length (skip_code reach b home at there)
skip_width reach b home at there =
    let code : List Instr = branch_code reach b (get_register home 10) 0 (at + length (get_code home 10)) there in
    omega (arith, length-append (get_code home 10) code, branch_width reach b (get_register home 10) 0 (at + length (get_code home 10)) there)

compared_width : (reach : Reach) (k : Arith) → Compares k → (s : Bool) (x y at there : ℕ) → 1 ≤ length (unless_code reach k s x y at there)
compared_width reach arith.Lt q s x y at there = branch_width reach (not_less s) x y at there
compared_width reach arith.Le q s x y at there = branch_width reach (is_less s) y x at there
compared_width reach arith.Eq q s x y at there = branch_width reach Bne x y at there
compared_width reach arith.Ne q s x y at there = branch_width reach Beq x y at there
compared_width reach arith.Add q s x y at there = absurd q
compared_width reach arith.Sub q s x y at there = absurd q
compared_width reach arith.Mul q s x y at there = absurd q
compared_width reach arith.Div q s x y at there = absurd q
compared_width reach arith.Rem q s x y at there = absurd q
compared_width reach arith.And q s x y at there = absurd q
compared_width reach arith.Or q s x y at there = absurd q
compared_width reach arith.Xor q s x y at there = absurd q
compared_width reach arith.Shl q s x y at there = absurd q
compared_width reach arith.Shr q s x y at there = absurd q

unless_width : (reach : Reach) (k : Arith) → Compares k → (s : Bool) (a b : Home) (at there : ℕ) → length (get_code a 10) + length (get_code b 11) + 1 ≤ length (skip_unless_code reach k s a b at there)
unless_width reach k q s a b at there =
    let code : List Instr = unless_code reach k s (get_register a 10) (get_register b 11) (at + length (get_code a 10) + length (get_code b 11)) there in
    omega (
      arith,
      length-append (get_code a 10) (get_code b 11 ++ code),
      length-append (get_code b 11) code,
      compared_width reach k q s (get_register a 10) (get_register b 11) (at + length (get_code a 10) + length (get_code b 11)) there,
    )

turn_width : (reach : Reach) (at there : ℕ) → 5 ≤ length (turn_to reach at there)
turn_width Short at there = omega arith
turn_width Middle at there = omega arith
turn_width Long at there = omega arith

invoke_width : (home : ℕ → Home) (above words entry a n : ℕ) → 4 ≤ length (invoke_code home above words entry a n)
invoke_width home above words entry a n = omega arith

become_width : (home : ℕ → Home) (back words entry a n : ℕ) → 4 ≤ length (become_code home back words entry a n)
become_width home back words entry a n = omega arith

leave_width : (home : ℕ → Home) (back n : ℕ) → 4 ≤ length (leave_code home back n)
leave_width home back n = omega arith

module _ (ir : Ir) (image : Contents) (l : Layout) (all : IsLaidOut ir image l) (left : ℕ) (fr : IrFrame) (below : List IrFrame) (c : Control) (u : List ℕ) (h : Hart) (p : Privates)
    (o : Operation) (at : operation_at ir fr.function fr.pc ≡ Some o) (m : InFrame ir image (places l) (live_in ir l all.homes) (midway_in ir l) left fr below 0 c.text c.last h) (same : Private ir u p) (fine : Fine h p) where
  abbrev Goes : Op → Type 0
  Goes x = Does ir image (places l) (live_in ir l all.homes) (midway_in ir l) left h p (step_op x (here ir image (places l) (live_in ir l all.homes) (midway_in ir l) left fr below c o.line u h p))

  pub skip : (n : ℕ) → o.op ≡ op.Skip n → Goes (op.Skip n)
  skip n e =
      skip_does ir image (places l) (live_in ir l all.homes) (midway_in ir l) left fr below c o.line u h p (homes_are ir image l all) all.small m same fine (all.laid.few fr.function fr.pc) (l.reach fr.function) n (code ir image l all fr.function fr.pc o at (op.Skip n) e) (all.laid.low fr.function fr.pc) (all.laid.low fr.function (fr.pc + 1 + n)) (omega (arith, form_jumps ir image l all fr.function fr.pc o at (op.Skip n) e, jumps_grow ir fr.function (fr.pc + 1) (fr.pc + 1 + n) (omega arith))) (passes_to ir image l all fr.function fr.pc o at (op.Skip n) e (fr.pc + 1 + n) refl (only_one (fr.pc + 1 + n)))

  pub skip_if_zero : (a n : ℕ) → o.op ≡ op.SkipIfZero a n → Goes (op.SkipIfZero a n)
  skip_if_zero a n e =
      skip_if_zero_does ir image (places l) (live_in ir l all.homes) (midway_in ir l) left fr below c o.line u h p (homes_are ir image l all) all.small m same fine (all.laid.few fr.function fr.pc) (l.reach fr.function) a n (lives ir image l all fr.function fr.pc o at (op.SkipIfZero a n) e a (in_first (range a 1) ([]) a (omega arith) (omega arith))) (omega (arith, (behind ir image l all fr.function fr.pc o at (op.SkipIfZero a n) e), (all.laid.low fr.function (fr.pc + 1)), (skip_width (l.reach fr.function) Beq (l.home fr.function a) (l.at fr.function fr.pc) (l.at fr.function (fr.pc + 1 + n))))) (all.laid.low fr.function (fr.pc + 1 + n)) (omega (arith, form_jumps ir image l all fr.function fr.pc o at (op.SkipIfZero a n) e, jumps_grow ir fr.function (fr.pc + 1) (fr.pc + 1 + n) (omega arith))) (jumps_grow ir fr.function fr.pc (fr.pc + 1) (omega arith)) (passes_to ir image l all fr.function fr.pc o at (op.SkipIfZero a n) e (fr.pc + 1 + n) refl (second_of (fr.pc + 1) (fr.pc + 1 + n))) (passes_to ir image l all fr.function fr.pc o at (op.SkipIfZero a n) e (fr.pc + 1) refl (first_of (fr.pc + 1) (fr.pc + 1 + n))) (code ir image l all fr.function fr.pc o at (op.SkipIfZero a n) e) (behind ir image l all fr.function fr.pc o at (op.SkipIfZero a n) e)

  pub skip_if_set : (a n : ℕ) → o.op ≡ op.SkipIfSet a n → Goes (op.SkipIfSet a n)
  skip_if_set a n e =
      skip_if_set_does ir image (places l) (live_in ir l all.homes) (midway_in ir l) left fr below c o.line u h p (homes_are ir image l all) all.small m same fine (all.laid.few fr.function fr.pc) (l.reach fr.function) a n (lives ir image l all fr.function fr.pc o at (op.SkipIfSet a n) e a (in_first (range a 1) ([]) a (omega arith) (omega arith))) (omega (arith, (behind ir image l all fr.function fr.pc o at (op.SkipIfSet a n) e), (all.laid.low fr.function (fr.pc + 1)), (skip_width (l.reach fr.function) Bne (l.home fr.function a) (l.at fr.function fr.pc) (l.at fr.function (fr.pc + 1 + n))))) (all.laid.low fr.function (fr.pc + 1 + n)) (omega (arith, form_jumps ir image l all fr.function fr.pc o at (op.SkipIfSet a n) e, jumps_grow ir fr.function (fr.pc + 1) (fr.pc + 1 + n) (omega arith))) (jumps_grow ir fr.function fr.pc (fr.pc + 1) (omega arith)) (passes_to ir image l all fr.function fr.pc o at (op.SkipIfSet a n) e (fr.pc + 1 + n) refl (second_of (fr.pc + 1) (fr.pc + 1 + n))) (passes_to ir image l all fr.function fr.pc o at (op.SkipIfSet a n) e (fr.pc + 1) refl (first_of (fr.pc + 1) (fr.pc + 1 + n))) (code ir image l all fr.function fr.pc o at (op.SkipIfSet a n) e) (behind ir image l all fr.function fr.pc o at (op.SkipIfSet a n) e)

  pub skip_unless : (k : Arith) (s : Bool) (a b n : ℕ) → o.op ≡ op.SkipUnless k s a b n → Goes (op.SkipUnless k s a b n)
  skip_unless k s a b n e =
      skip_unless_does ir image (places l) (live_in ir l all.homes) (midway_in ir l) left fr below c o.line u h p (homes_are ir image l all) all.small m same fine (all.laid.few fr.function fr.pc) (l.reach fr.function) s a b n (lives ir image l all fr.function fr.pc o at (op.SkipUnless k s a b n) e a (in_first (range a 1) (range b 1 ∷ []) a (omega arith) (omega arith))) (lives ir image l all fr.function fr.pc o at (op.SkipUnless k s a b n) e b (in_rest (range a 1) (range b 1 ∷ []) b (in_first (range b 1) ([]) b (omega arith) (omega arith)))) k (form_fits ir image l all fr.function fr.pc o at (op.SkipUnless k s a b n) e).0 (code ir image l all fr.function fr.pc o at (op.SkipUnless k s a b n) e) (behind ir image l all fr.function fr.pc o at (op.SkipUnless k s a b n) e) (omega (arith, (behind ir image l all fr.function fr.pc o at (op.SkipUnless k s a b n) e), (all.laid.low fr.function (fr.pc + 1)), (unless_width (l.reach fr.function) k (form_fits ir image l all fr.function fr.pc o at (op.SkipUnless k s a b n) e).0 s (l.home fr.function a) (l.home fr.function b) (l.at fr.function fr.pc) (l.at fr.function (fr.pc + 1 + n))))) (all.laid.low fr.function (fr.pc + 1 + n)) (omega (arith, form_jumps ir image l all fr.function fr.pc o at (op.SkipUnless k s a b n) e, jumps_grow ir fr.function (fr.pc + 1) (fr.pc + 1 + n) (omega arith))) (jumps_grow ir fr.function fr.pc (fr.pc + 1) (omega arith)) (passes_to ir image l all fr.function fr.pc o at (op.SkipUnless k s a b n) e (fr.pc + 1 + n) refl (second_of (fr.pc + 1) (fr.pc + 1 + n))) (passes_to ir image l all fr.function fr.pc o at (op.SkipUnless k s a b n) e (fr.pc + 1) refl (first_of (fr.pc + 1) (fr.pc + 1 + n)))

  pub go_to : (to : ℕ) → o.op ≡ op.GoTo to → Goes (op.GoTo to)
  go_to to e =
      go_to_does ir image (places l) (live_in ir l all.homes) (midway_in ir l) left fr below c o.line u h p (homes_are ir image l all) all.small m same fine (all.laid.few fr.function fr.pc) (l.reach fr.function) to (form_fits ir image l all fr.function fr.pc o at (op.GoTo to) e).0 (code ir image l all fr.function fr.pc o at (op.GoTo to) e) (all.laid.low fr.function fr.pc) (all.laid.low fr.function to) (omega (arith, form_jumps ir image l all fr.function fr.pc o at (op.GoTo to) e, jumps_grow ir fr.function (fr.pc + 1) to (omega (arith, (form_fits ir image l all fr.function fr.pc o at (op.GoTo to) e).0)))) (passes_to ir image l all fr.function fr.pc o at (op.GoTo to) e to refl (only_one to))

  pub back : (n : ℕ) → o.op ≡ op.Back n → Goes (op.Back n)
  back n e =
      back_does ir image (places l) (live_in ir l all.homes) (midway_in ir l) left fr below c o.line u h p (homes_are ir image l all) all.small m same fine (all.laid.few fr.function fr.pc) (l.reach fr.function) n (code ir image l all fr.function fr.pc o at (op.Back n) e) (omega (arith, (behind ir image l all fr.function fr.pc o at (op.Back n) e), (all.laid.low fr.function (fr.pc + 1)), (turn_width (l.reach fr.function) (l.at fr.function fr.pc) (l.at fr.function (fr.pc - n))))) (all.laid.low fr.function (fr.pc - n)) (line_is ir image l all fr.function fr.pc o at (l.at fr.function fr.pc + 3) (omega arith) (omega (arith, (behind ir image l all fr.function fr.pc o at (op.Back n) e), turn_width (l.reach fr.function) (l.at fr.function fr.pc) (l.at fr.function (fr.pc - n))))) (passes_to ir image l all fr.function fr.pc o at (op.Back n) e (fr.pc - n) refl (only_one (fr.pc - n)))

  pub turn : (to : ℕ) → o.op ≡ op.Turn to → Goes (op.Turn to)
  turn to e =
      turn_does ir image (places l) (live_in ir l all.homes) (midway_in ir l) left fr below c o.line u h p (homes_are ir image l all) all.small m same fine (all.laid.few fr.function fr.pc) to (omega (arith, (behind ir image l all fr.function fr.pc o at (op.Turn to) e), (all.laid.low fr.function (fr.pc + 1)), (turn_width (l.reach fr.function) (l.at fr.function fr.pc) (l.at fr.function to)))) (all.laid.low fr.function to) (line_is ir image l all fr.function fr.pc o at (l.at fr.function fr.pc + 3) (omega arith) (omega (arith, (behind ir image l all fr.function fr.pc o at (op.Turn to) e), turn_width (l.reach fr.function) (l.at fr.function fr.pc) (l.at fr.function to)))) (passes_to ir image l all fr.function fr.pc o at (op.Turn to) e to refl (only_one to)) (l.reach fr.function) (code ir image l all fr.function fr.pc o at (op.Turn to) e)

  -- ---- calls and returns

  arguments_live : (x : Op) (e : o.op ≡ x) (g a : ℕ) → reads ir x ≡ range a (arguments_of (function_at ir g)) ∷ [] → Has (its ir image l all fr.function fr.pc o at).function a (arguments_of (function_at ir g)) → (i : ℕ) → i < arguments_of (function_at ir g)
      → live ir image l all fr.function fr.pc 0 (a + i) × (a + i < l.slots fr.function)
  arguments_live x e g a r fits i less = (
    lives ir image l all fr.function fr.pc o at x e (a + i) (subst (IsIn (a + i)) (sym r) (in_first (range a (arguments_of (function_at ir g))) [] (a + i) (omega arith) (omega (arith, less)))),
    omega (arith, fits, less, slots_are ir image l all fr.function fr.pc o at),
  )

  pub invoke : (g a : ℕ) → o.op ≡ op.Invoke g a → Goes (op.Invoke g a)
  invoke g a e =
      let f = (form_fits ir image l all fr.function fr.pc o at (op.Invoke g a) e) in
      let has : Stands image.code (l.at fr.function fr.pc) (invoke_code (l.home fr.function) (l.stack fr.function) (l.stack g) (l.entry g) a (arguments_of (function_at ir g))) =
      subst (λ n. Stands image.code (l.at fr.function fr.pc) (invoke_code (l.home fr.function) (l.stack fr.function) (l.stack g) (l.entry g) a n)) (all.arguments g) (code ir image l all fr.function fr.pc o at (op.Invoke g a) e) in
      let next : l.at fr.function fr.pc + length (invoke_code (l.home fr.function) (l.stack fr.function) (l.stack g) (l.entry g) a (arguments_of (function_at ir g))) ≡ l.at fr.function (fr.pc + 1) =
      subst (λ n. l.at fr.function fr.pc + length (invoke_code (l.home fr.function) (l.stack fr.function) (l.stack g) (l.entry g) a n) ≡ l.at fr.function (fr.pc + 1)) (all.arguments g) (behind ir image l all fr.function fr.pc o at (op.Invoke g a) e) in
      invoke_does ir image (places l) (live_in ir l all.homes) (midway_in ir l) left fr below c o.line u h p (homes_are ir image l all) all.small m same fine (all.laid.few fr.function fr.pc) all.stack a g (l.entry g) (all.begins g f.0) has next (all.laid.low fr.function (fr.pc + 1))
      (line_is ir image l all fr.function fr.pc o at (l.at fr.function fr.pc + 3) (omega arith) (omega (arith, (behind ir image l all fr.function fr.pc o at (op.Invoke g a) e), invoke_width (l.home fr.function) (l.stack fr.function) (l.stack g) (l.entry g) a (l.arguments g)))) (stack_few ir image l all fr.function fr.pc o at)
      (arguments_live (op.Invoke g a) e g a refl f.1)
      (λ t a1. (passes_to ir image l all fr.function fr.pc o at (op.Invoke g a) e (fr.pc + 1) refl (only_one (fr.pc + 1)) t a1, across ir image l all fr.function fr.pc o at (op.Invoke g a) e (fr.pc + 1) t tt (only_one (fr.pc + 1)) a1))

  pub become : (g a : ℕ) → o.op ≡ op.Become g a → Goes (op.Become g a)
  become g a e =
      let f = (form_fits ir image l all fr.function fr.pc o at (op.Become g a) e) in
      let has : Stands image.code (l.at fr.function fr.pc) (become_code (l.home fr.function) (l.slots fr.function) (l.stack g) (l.entry g) a (arguments_of (function_at ir g))) =
      subst (λ n. Stands image.code (l.at fr.function fr.pc) (become_code (l.home fr.function) (l.slots fr.function) (l.stack g) (l.entry g) a n)) (all.arguments g) (code ir image l all fr.function fr.pc o at (op.Become g a) e) in
      let next : l.at fr.function fr.pc + length (become_code (l.home fr.function) (l.slots fr.function) (l.stack g) (l.entry g) a (arguments_of (function_at ir g))) ≡ l.at fr.function (fr.pc + 1) =
      subst (λ n. l.at fr.function fr.pc + length (become_code (l.home fr.function) (l.slots fr.function) (l.stack g) (l.entry g) a n) ≡ l.at fr.function (fr.pc + 1)) (all.arguments g) (behind ir image l all fr.function fr.pc o at (op.Become g a) e) in
      become_does ir image (places l) (live_in ir l all.homes) (midway_in ir l) all.small (homes_are ir image l all) all.stack left fr below c o.line u h p m same fine (all.laid.few fr.function fr.pc) a g (l.entry g) (all.begins g f.0) has
      (omega (arith, next, (all.laid.low fr.function (fr.pc + 1)))) (line_is ir image l all fr.function fr.pc o at (l.at fr.function fr.pc + 3) (omega arith) (omega (arith, (behind ir image l all fr.function fr.pc o at (op.Become g a) e), become_width (l.home fr.function) (l.slots fr.function) (l.stack g) (l.entry g) a (l.arguments g))))
      (arguments_live (op.Become g a) e g a refl f.1)

  pub leave : (n : ℕ) → o.op ≡ op.Leave n → Goes (op.Leave n)
  leave n e =
      let f = (form_fits ir image l all fr.function fr.pc o at (op.Leave n) e) in
      leave_does ir image (places l) (live_in ir l all.homes) (midway_in ir l) all.small left fr below c o.line u h p (homes_are ir image l all) m same fine (all.laid.few fr.function fr.pc) n (omega (arith, f.0, slots_are ir image l all fr.function fr.pc o at))
      (λ t less. lives ir image l all fr.function fr.pc o at (op.Leave n) e t (in_first (range 0 n) [] t (omega arith) (omega (arith, less)))) (code ir image l all fr.function fr.pc o at (op.Leave n) e) (omega (arith, (behind ir image l all fr.function fr.pc o at (op.Leave n) e), (all.laid.low fr.function (fr.pc + 1)), leave_width (l.home fr.function) (l.slots fr.function) n))
      (line_is ir image l all fr.function fr.pc o at (l.at fr.function fr.pc + 3) (omega arith) (omega (arith, (behind ir image l all fr.function fr.pc o at (op.Leave n) e), leave_width (l.home fr.function) (l.slots fr.function) n)))

  -- ---- the end of the program

  pub terminate : (a : ℕ) → o.op ≡ op.Terminate a → Goes (op.Terminate a)
  terminate a e =
      slot_does ir image (places l) (live_in ir l all.homes) (midway_in ir l) left fr below c o.line u h p a _ (λ w s.
      let px = held ir image (places l) (live_in ir l all.homes) (midway_in ir l) left fr below c o.line u h p (homes_are ir image l all) all.small m same fine a w (lives ir image l all fr.function fr.pc o at (op.Terminate a) e a (in_first (range a 1) ([]) a (omega arith) (omega arith))) s in
      let home : Home = l.home fr.function a in
      let has = (code ir image l all fr.function fr.pc o at (op.Terminate a) e) in
      let g = brings image all.small h p (l.at fr.function fr.pc) (under (places l) below) home 10 fine m.here m.pointer (at_home ir image (places l) (live_in ir l all.homes) (midway_in ir l) m (homes_are ir image l all) a px.is_slot)
      (stands_front image.code (l.at fr.function fr.pc) (bring home 10) (call_code 15) has) in
      let h1 : Hart = record h { pc = g.pc; registers = g.registers; work = g.work } in
      let waiting : Hart = record h { pc = g.pc + 4; registers = put g.registers 17 15; waits = Done; work = g.work + 1 + 1 } in
      λ real. record {
        waiting = waiting;
        privates = p;
        comes = then_comes image {i = h1} g.leads
            (call_asks image all.small h1 p (l.at fr.function fr.pc + length (bring home 10)) 15 g.there refl (stands_back image.code (l.at fr.function fr.pc) (bring home 10) (call_code 15) has) (act.Terminate (cast_signed w32 w)) waiting
            (ap (λ n. Asks (act.Terminate (cast_signed w32 n)) waiting p) (g.holds ∙ px.stands)));
        line_is = ap (line_of image) (omega (arith, g.there)) ∙ line_is ir image l all fr.function fr.pc o at (l.at fr.function fr.pc + length (bring home 10) + 1) (omega arith) (omega (arith, (behind ir image l all fr.function fr.pc o at (op.Terminate a) e), length-append (bring home 10) (call_code 15)));
        waits = λ going words. absurd (cc);
        same = same;
      })
