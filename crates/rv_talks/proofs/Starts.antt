-- Harts follow starts of procs and tasks.
use Rattle.std.proofs.Common.{◌≡◌, ℕ, ◌+◌, ◌*◌, ◌^◌, ◌<◌, ◌≤◌, Bool, true, if◌then◌else◌, pos, List, [], ◌++◌, length, Option, Some, None, refl, sym, ap, ap₂, ◌∙◌, arith, length-append}
use Rattle.std.specs.Prelude.{option_map}
use Rattle.al_event.specs.declared.act.Act.{Act}
use Rattle.al_event.specs.declared.act.Act.TheVariants as act
use Rattle.al_event.specs.declared.act.Start.{Start}
use Rattle.al_world.specs.Control.{fitted}
use Rattle.al_ir.specs.declared.ir.Ir.{Ir}
use Rattle.al_ir.specs.declared.op.Op.TheVariants as op
use Rattle.al_ir.specs.Control.{Slots, Frame as IrFrame, Nowhere, Control, words_at}
use Rattle.al_ir.specs.Step.{Here, step_op, asks}
use Rattle.rv_isa.specs.declared.addresses.TheConstants.{STACK_START}
use Rattle.rv_isa.specs.declared.image.Contents.{Contents}
use Rattle.rv_isa.specs.declared.instr.Instr.{Instr}
use Rattle.rv_exec.specs.Hart.{Hart, put, register}
use Rattle.rv_exec.specs.Words.{word, sum_of}
use Rattle.rv_exec.specs.Windows.{words_from, stack_words}
use Rattle.rv_exec.specs.Calls.{Privates, called, asks_if_any, start_of, has_function}
use Rattle.rv_exec.specs.Machine.{line_of}
use Rattle.rv_exec.specs.declared.state.Waits.TheVariants.{Done}
use Rattle.rv_code.specs.declared.home.Home.TheVariants.{Frame}
use Rattle.rv_code.specs.Homes.{value_at}
use Rattle.rv_code.specs.Jumps.{place}
use Rattle.rv_code.specs.Pieces.{number_code, call_code}
use Rattle.rv_code.specs.Runs.{Stands, Fine}
use Rattle.rv_code.proofs.Leading.{stands_front, stands_back, then_leads, then_comes}
use Rattle.rv_code.proofs.Numbers.{numbers}
use Rattle.rv_code.proofs.Operands.{not_kept, not_eight}
use Rattle.rv_code.proofs.Slots.{put_other}
use Rattle.rv_form.specs.Acts.{start_code}
use Rattle.rv_form.specs.Units.{frame_address}
use Rattle.rv_match.specs.Match.{Private, InFrame}
use Rattle.rv_match.specs.Places.{Places, Homes, Passes, under}
use Rattle.rv_match.proofs.Steps.{Does, here, words_do}
use Rattle.rv_acts.proofs.Asking.{silent_does}
use Rattle.rv_acts.proofs.Calling.{call_asks}
use Rattle.rv_units.proofs.Addresses.{addresses}
use Rattle.rv_talks.proofs.Words.{stack_words_are, words_are}

-- the start that a call names
pub start_is : (image : Contents) (h : Hart) (function first count : ℕ) (ws : List ℕ) → has_function image function count ≡ true → first + count ≤ 2 ^ 20 → words_from h.stack first count ≡ ws
    → start_of image h function (STACK_START + 4 * first) count ≡ Some (record { code = function; words = ws })
start_is image h function first count ws known room are =
    ap (λ (b : Bool). if b then option_map (λ (words : List ℕ). record { code = function; words = words }) (stack_words h (STACK_START + 4 * first) count) else None) known
    ∙ ap (λ (o : Option (List ℕ)). option_map (λ (words : List ℕ). record { code = function; words = words }) o) (stack_words_are h first count room ∙ ap (λ (x : List ℕ). Some x) are)

module _ (ir : Ir) (image : Contents) (l : Places) (live : (f pc unit t : ℕ) → Type 0) (Midway : (f pc unit : ℕ) → Slots → (sp : ℕ) → Hart → Type 0)
    (left : ℕ) (fr : IrFrame) (below : List IrFrame) (c : Control) (line : ℕ) (u : List ℕ) (h : Hart) (p : Privates)
    (homes : Homes l) (small : length image.code ≤ 2 ^ 23) (m : InFrame ir image l live Midway left fr below 0 c.text c.last h) (same : Private ir u p) (fine : Fine h p)
    (low : l.at fr.function (fr.pc + 1) < 2 ^ 23) (line_is : (j : ℕ) → l.at fr.function fr.pc ≤ j → j < l.at fr.function (fr.pc + 1) → line_of image (place j) ≡ line)
    (passes : Passes live fr.function fr.pc (fr.pc + 1)) (function arguments words : ℕ) (few_functions : function < 2 ^ 32) (known : has_function image function words ≡ true) (slots : arguments + words ≤ l.slots fr.function)
    (lives : (i : ℕ) → i < words → live fr.function fr.pc 0 (arguments + i)) (in_frame : (i : ℕ) → i < words → l.home fr.function (arguments + i) ≡ Frame (arguments + i)) where
  abbrev at0 : ℕ
  at0 = l.at fr.function fr.pc

  abbrev sp : ℕ
  sp = under l below

  abbrev at_hand : Here
  at_hand = here ir image l live Midway left fr below c line u h p

  -- the words of the slots stand in the frame
  words_stand : (ws : List ℕ) → words_at fr.slots arguments words ≡ Some ws → words_from h.stack (sp + arguments) words ≡ ws
  words_stand ws e = words_are words fr.slots arguments (sp + arguments) h.stack ws e (λ i w less q.
      let was = m.holds (arguments + i) w (lives i less) q in
      let cell : sp + arguments + i ≡ sp + (arguments + i) = omega arith in
      ap h.stack cell ∙ ap (λ k. value_at k sp h.registers h.stack) (sym (in_frame i less)) ∙ was.1)

  module _ (number : ℕ) (make : Start → Act) (asks_it : (h1 : Hart) → called number image h1 p ≡ asks_if_any Done (option_map make (start_of image h1 (register h1 10) (register h1 11) (register h1 12))) h1 p)
      (few : sum_of 0 (word (pos number)) ≡ number) (none : (s : Start) (answer : List ℕ) → fitted (make s) answer ≡ [])
      (has : Stands image.code at0 (start_code number function arguments words)) (next : at0 + length (start_code number function arguments words) ≡ l.at fr.function (fr.pc + 1)) where
    abbrev one : List Instr
    one = number_code 10 function

    abbrev two : List Instr
    two = frame_address 11 arguments

    abbrev three : List Instr
    three = number_code 12 words

    abbrev at3 : ℕ
    at3 = at0 + length (number_code 10 function) + length (frame_address 11 arguments) + length (number_code 12 words)

    lengths : at3 + 2 ≡ l.at fr.function (fr.pc + 1)
    lengths = omega (arith, next, length-append one (two ++ (three ++ call_code number)), length-append two (three ++ call_code number), length-append three (call_code number))

    starts_it : (ws : List ℕ) → words_at fr.slots arguments words ≡ Some ws → Does ir image l live Midway left h p (asks (make (record { code = function; words = ws })) Nowhere at_hand)
    starts_it ws e =
        let code1 = stands_back image.code at0 one (two ++ (three ++ call_code number)) has in
        let code2 = stands_back image.code (at0 + length one) two (three ++ call_code number) code1 in
        let g = numbers image small h p at0 10 function m.here (omega arith) few_functions (stands_front image.code at0 one (two ++ (three ++ call_code number)) has) in
        let h1 : Hart = record h { pc = g.pc; registers = g.registers; work = g.work } in
        let g1 = addresses image small h1 p (at0 + length one) sp arguments 11 g.there (g.kept 2 (omega arith) (omega arith) ∙ m.pointer) (omega (arith, slots, m.room, m.inside)) (omega arith) (omega arith)
        (stands_front image.code (at0 + length one) two (three ++ call_code number) code1) in
        let h2 : Hart = record h { pc = g1.pc; registers = g1.registers; work = g1.work } in
        let g2 = numbers image small h2 p (at0 + length one + length two) 12 words g1.there (omega arith) (omega (arith, slots, m.room, m.inside)) (stands_front image.code (at0 + length one + length two) three (call_code number) code2) in
        let h3 : Hart = record h { pc = g2.pc; registers = g2.registers; work = g2.work } in
        let calling : Hart = record h { pc = g2.pc + 4; registers = put g2.registers 17 number; work = g2.work + 1 + 1 } in
        let x10 : g2.registers 10 ≡ function = g2.kept 10 (omega arith) (omega arith) ∙ g1.kept 10 (omega arith) (omega arith) ∙ g.holds in
        let x11 : g2.registers 11 ≡ STACK_START + 4 * (sp + arguments) = g2.kept 11 (omega arith) (omega arith) ∙ g1.holds in
        let start : start_of image calling (g2.registers 10) (g2.registers 11) (g2.registers 12) ≡ Some (record { code = function; words = ws }) =
        ap₂ (λ (i j : ℕ). start_of image calling i j (g2.registers 12)) x10 x11 ∙ ap (start_of image calling function (STACK_START + 4 * (sp + arguments))) g2.holds
        ∙ start_is image calling function (sp + arguments) words ws known (omega (arith, slots, m.room, m.inside)) (words_stand ws e) in
        silent_does ir image l live Midway left fr below c line u h p homes small m same (make (record { code = function; words = ws })) calling (at3 + 1) c.text (none (record { code = function; words = ws }))
        (then_comes image {i = h3} (then_leads image {i = h1} {j = h3} g.leads (then_leads image {i = h2} {j = h3} g1.leads g2.leads))
        (call_asks image small h3 p at3 number g2.there few (stands_back image.code (at0 + length one + length two) three (call_code number) code2) (make (record { code = function; words = ws })) (record calling { waits = Done })
        (asks_it calling ∙ ap (λ (o : Option Start). asks_if_any Done (option_map make o) calling p) start)))
        (record {
          there = omega (arith, g2.there);
          low = omega (arith, lengths, low);
          line_is = line_is (at3 + 1) (omega arith) (omega (arith, lengths));
          kept = λ n k. put_other g2.registers 17 number n (not_kept 17 n (omega arith, omega arith) k) ∙ g2.kept n (not_kept 12 n (omega arith, omega arith) k) (not_eight n k)
              ∙ g1.kept n (not_kept 11 n (omega arith, omega arith) k) (not_eight n k) ∙ g.kept n (not_kept 10 n (omega arith, omega arith) k) (not_eight n k);
          stacks = λ j. refl;
          text_is = m.text_is;
        }) (omega (arith, lengths)) passes

  pub proc_does : Stands image.code at0 (start_code 11 function arguments words) → at0 + length (start_code 11 function arguments words) ≡ l.at fr.function (fr.pc + 1)
      → Does ir image l live Midway left h p (step_op (op.Proc function arguments words) at_hand)
  proc_does has next = words_do ir image l live Midway left fr below c line u h p arguments words _ (λ ws e. starts_it 11 (λ s. act.Proc s) (λ h1. refl) refl (λ s answer. refl) has next ws e)

  pub task_does : Stands image.code at0 (start_code 12 function arguments words) → at0 + length (start_code 12 function arguments words) ≡ l.at fr.function (fr.pc + 1)
      → Does ir image l live Midway left h p (step_op (op.Task function arguments words) at_hand)
  task_does has next = words_do ir image l live Midway left fr below c line u h p arguments words _ (λ ws e. starts_it 12 (λ s. act.Task s) (λ h1. refl) refl (λ s answer. refl) has next ws e)
