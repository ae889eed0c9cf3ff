-- Harts follow calls in the place of the function at hand.
use Rattle.std.proofs.Common.{◌≡◌, ◌≢◌, ℕ, ◌+◌, ◌*◌, ◌^◌, ◌<◌, ◌≤◌, Bool, true, false, nat_lt, if◌then◌else◌, List, ◌∷◌, ◌++◌, length, Some, None, refl, sym, ap, ◌∙◌, arith, subst, length-append, inl, inr}
use Rattle.std.specs.Prelude.{sum_by}
use Rattle.std.proofs.lemmas.Bool.Decides.{nat_tests}
use Rattle.al_base.specs.declared.trap.Trap.TheVariants as trap
use Rattle.al_event.specs.declared.act.Act.TheVariants as act
use Rattle.al_world.specs.Turns.{Moves, Asks}
use Rattle.rv_isa.specs.declared.addresses.TheConstants.{STACK_START, GLOBALS_START}
use Rattle.rv_isa.specs.declared.image.Contents.{Contents}
use Rattle.rv_isa.specs.declared.instr.Instr.{Instr}
use Rattle.rv_exec.specs.Hart.{Hart, put}
use Rattle.rv_exec.specs.Calls.{Privates}
use Rattle.rv_exec.specs.Machine.{line_of}
use Rattle.rv_exec.specs.declared.state.Waits.TheVariants.{Done}
use Rattle.al_ir.specs.Bounds.{most_jumps}
use Rattle.al_ir.specs.declared.ir.Ir.{Ir}
use Rattle.al_ir.specs.declared.op.Op.TheVariants as op
use Rattle.al_ir.specs.Control.{Slots, no_slots, slots_from, first_slots, Frame as IrFrame, Entering, Nowhere, Control, function_at, stack_of, arguments_of, begun, line_of as line_of_function}
use Rattle.al_ir.specs.Meaning.{resume}
use Rattle.al_ir.specs.Step.{frame_stack, enters, step_op}
use Rattle.rv_code.specs.declared.reach.Reach.TheVariants.{Long}
use Rattle.rv_code.specs.Homes.{value_at, IsHome, frame_load}
use Rattle.rv_code.specs.Jumps.{place, go_code}
use Rattle.rv_code.specs.Pieces.{turn_code}
use Rattle.rv_code.specs.Runs.{Stands, Fine, Leads}
use Rattle.rv_code.proofs.Jumps.{jump_does}
use Rattle.rv_code.proofs.Leading.{stands_front, stands_back, stays, then_leads}
use Rattle.rv_code.proofs.Operands.{home_kept}
use Rattle.rv_code.proofs.Slots.{put_other, frame_loads}
use Rattle.rv_form.specs.Flow.{stack_test, pass, become_code}
use Rattle.rv_match.specs.Following.{Follows, GoesOn}
use Rattle.rv_match.specs.Match.{IsText, Private, Below, InFrame, Plain}
use Rattle.rv_match.specs.Places.{Places, Homes, under, full, wide, jumps_before}
use Rattle.rv_match.proofs.Keeping.{below_same, is_home, at_home}
use Rattle.rv_match.proofs.Steps.{Does, here as at_hand}
use Rattle.rv_match.proofs.Turning.{turn_then}
use Rattle.rv_flow.specs.Functions.{Begins}
use Rattle.rv_flow.proofs.Entering.{opens, sum_is}
use Rattle.rv_flow.proofs.Passing.{AreSafe, passes}
use Rattle.rv_flow.proofs.Testing.{tested, test_passes, test_fails}

less_is : (a b : ℕ) → nat_lt a b ≡ true → a < b
less_is a b e = grind (arith, nat_tests, e)

not_less_is : (a b : ℕ) → nat_lt a b ≡ false → b ≤ a
not_less_is a b e = grind (arith, nat_tests, e)

module _ (ir : Ir) (image : Contents) (l : Places) (live : (f pc unit t : ℕ) → Type 0) (Midway : (f pc unit : ℕ) → Slots → (sp : ℕ) → Hart → Type 0)
    (small : length image.code ≤ 2 ^ 23) (homes : Homes l) (stacks : (f : ℕ) → stack_of (function_at ir f) ≡ l.stack f) where
  -- `f` is the function that goes
  module _ (left at from f g entry : ℕ) (slots : Slots) (below : List IrFrame) (text : List ℕ) (u : List ℕ) (h : Hart) (p : Privates) (fine : Fine h p)
      (here : h.pc ≡ place at) (pointer : h.registers 2 ≡ STACK_START + 4 * under l below) (turns : h.registers 3 ≡ left) (globals : h.registers 4 ≡ GLOBALS_START)
      (text_is : IsText h.text text) (waits : h.waits ≡ Done) (counted : h.jumps + wide * left ≤ wide * full) (some : 1 ≤ left) (few : left ≤ full)
      (same : Private ir u p) (b : Begins ir image l live g entry)
      (arguments : (i w : ℕ) → i < arguments_of (function_at ir g) → slots (from + i) ≡ Some w → value_at (l.home f (from + i)) (under l below) h.registers h.stack ≡ w)
      (inside : (i : ℕ) → i < arguments_of (function_at ir g) → from + i < l.slots f)
      (waiting : Below ir image l live Midway h.stack (h.stack (under l below + l.slots f)) below)
      (room : under l below + l.stack f ≤ 2 ^ 20) (slots_f : l.slots f < l.stack f)
      (has : Stands image.code at (stack_test 0 (l.stack g) entry ++ (frame_load 1 (l.slots f) ++ (pass (l.home f) from 0 (arguments_of (function_at ir g)) ++ go_code entry))))
      (low : at + 5 + length (frame_load 1 (l.slots f)) + length (pass (l.home f) from 0 (arguments_of (function_at ir g))) + 2 < 2 ^ 23) where
    abbrev sp : ℕ
    sp = under l below

    abbrev count : ℕ
    count = arguments_of (function_at ir g)

    abbrev loading : List Instr
    loading = frame_load 1 (l.slots f)

    abbrev passing : List Instr
    passing = pass (l.home f) from 0 count

    abbrev at1 : ℕ
    at1 = at + 5 + length loading

    abbrev at2 : ℕ
    at2 = at1 + length passing

    abbrev entering : Entering
    entering = record { function = g; arguments = slots_from from slots }

    abbrev control : Control
    control = record { entering = Some entering; into = Nowhere; unit = 0; text = text; last = no_slots; frames = below }

    abbrev entered : Control
    entered = record { entering = None; into = Nowhere; unit = 0; text = text; last = no_slots; frames = begun ir g (slots_from from slots) ∷ below }

    has_test : Stands image.code at (stack_test 0 (l.stack g) entry)
    has_test = stands_front image.code at (stack_test 0 (l.stack g) entry) (loading ++ (passing ++ go_code entry)) has

    code1 : Stands image.code (at + 5) (loading ++ (passing ++ go_code entry))
    code1 = stands_back image.code at (stack_test 0 (l.stack g) entry) (loading ++ (passing ++ go_code entry)) has

    code2 : Stands image.code at1 (passing ++ go_code entry)
    code2 = stands_back image.code (at + 5) loading (passing ++ go_code entry) code1

    home_in : (i : ℕ) → i < count → IsHome sp (l.home f (from + i))
    home_in i less = is_home l homes f (from + i) sp (inside i less) slots_f room

    safe : AreSafe image small (l.home f) sp from 0 count
    safe i j k a d e z = absurd (omega (arith, homes.frame f (from + j) k e, a, z))

    -- at the function's first word, in the place of the frame
    record Called : Type 0 where
      registers : ℕ → ℕ
      stack : ℕ → ℕ
      jumps : ℕ
      work : ℕ
      leads : Leads image h p (record h { pc = place entry; registers = registers; stack = stack; jumps = jumps; work = work }) p
      way : registers 1 ≡ h.stack (sp + l.slots f)
      fixed : (n : ℕ) → 2 ≤ n → n ≤ 4 → registers n ≡ h.registers n
      words : (i : ℕ) → i < count → stack (sp + i) ≡ value_at (l.home f (from + i)) sp h.registers h.stack
      below_it : (j : ℕ) → j < sp → stack j ≡ h.stack j
      more : jumps ≤ h.jumps + 1

    -- before the arguments are passed
    record Loaded : Type 0 where
      pc : ℕ
      registers : ℕ → ℕ
      work : ℕ
      leads : Leads image h p (record h { pc = pc; registers = registers; work = work }) p
      there : pc ≡ place at1
      way : registers 1 ≡ h.stack (sp + l.slots f)
      kept : (n : ℕ) → n ≢ 1 → n ≢ 5 → n ≢ 8 → registers n ≡ h.registers n

    loaded : sp + l.stack g ≤ 2 ^ 20 → Loaded
    loaded fits =
        let few_words : 0 + l.stack g ≤ 2 ^ 16 = omega (arith, b.stack) in
        let low4 : at + 4 < 2 ^ 23 = omega (arith, low) in
        let fits0 : sp + 0 + l.stack g ≤ 2 ^ 20 = omega (arith, fits) in
        let t = test_passes image small h p at 0 (l.stack g) entry sp here low4 pointer few_words has_test fits0 in
        let rs : ℕ → ℕ = tested image small h p at 0 (l.stack g) entry sp here low4 pointer few_words has_test in
        let h1 : Hart = record h { pc = h.pc + 4 + 4 + 12; registers = rs; work = h.work + 1 + 1 + 1 } in
        let g1 = frame_loads image small h1 p (t.fine fine) (at + 5) sp (l.slots f) (omega (arith, here)) (record { pointer = pointer; inside = omega (arith, slots_f, room) }) 1
        (stands_front image.code (at + 5) loading (passing ++ go_code entry) code1) in
        record {
          pc = g1.pc;
          registers = g1.registers;
          work = g1.work;
          leads = then_leads image {i = h1} {j = record h { pc = g1.pc; registers = g1.registers; work = g1.work }} t g1.leads;
          there = g1.there;
          way = g1.holds;
          kept = λ n q r s. g1.kept n q s ∙ fives n r h.registers _ _;
        } where
          fives : (n : ℕ) → n ≢ 5 → (r : ℕ → ℕ) (x y : ℕ) → put (put r 5 x) 5 y n ≡ r n
          fives n other rs x y = put_other (put rs 5 x) 5 y n other ∙ put_other rs 5 x n other

    called : sp + l.stack g ≤ 2 ^ 20 → Called
    called fits =
        let t = loaded fits in
        let h1 : Hart = record h { pc = t.pc; registers = t.registers; work = t.work } in
        let pointer1 : t.registers 2 ≡ STACK_START + 4 * sp = t.kept 2 (omega arith) (omega arith) (omega arith) ∙ pointer in
        let a = passes image small (l.home f) sp count from 0 at1 h1 p (t.leads.fine fine) t.there pointer1 (omega (arith, fits, b.arguments, b.slots)) home_in safe
        (stands_front image.code at1 passing (go_code entry) code2) in
        let h2 : Hart = record h { pc = a.pc; registers = a.registers; stack = a.stack; work = a.work } in
        let j = jump_does image small h2 p at2 entry a.there (omega (arith, low)) b.low (omega (arith, counted, some)) Long (stands_back image.code at1 passing (go_code entry) code2) in
        let h3 : Hart = record h { pc = place entry; registers = j.registers; stack = a.stack; jumps = j.jumps; work = j.work } in
        record {
          registers = j.registers;
          stack = a.stack;
          jumps = j.jumps;
          work = j.work;
          leads = then_leads image {i = h1} {j = h3} t.leads (then_leads image {i = h2} {j = h3} a.leads j.leads);
          way = j.kept 1 (omega arith) (omega arith) ∙ a.kept 1 (omega arith) (omega arith) ∙ t.way;
          fixed = λ n q r. j.kept n (λ e. absurd (omega (arith, q, e))) (λ e. absurd (omega (arith, r, e))) ∙ a.kept n (λ e. absurd (omega (arith, r, e))) (λ e. absurd (omega (arith, r, e)))
              ∙ t.kept n (λ e. absurd (omega (arith, q, e))) (λ e. absurd (omega (arith, r, e))) (λ e. absurd (omega (arith, r, e)));
          words = λ i less. ap a.stack (omega arith) ∙ a.words i less
              ∙ home_kept (l.home f (from + i)) sp h.registers t.registers h.stack (home_in i less) (λ n k. t.kept n (λ e. absurd (omega (arith, k.0, e))) (λ e. absurd (omega (arith, k.0, e))) (λ e. absurd (omega (arith, k.0, e))));
          below_it = λ j q. a.others j (inl (omega (arith, q)));
          more = j.counted;
        }

    -- there is room
    goes_in : sp + l.stack g ≤ 2 ^ 20 → GoesOn image resume (Private ir) (Plain ir image l live Midway) left h p entered u
    goes_in fits =
        let k = called fits in
        let h4 : Hart = record h { pc = place entry; registers = k.registers; stack = k.stack; jumps = k.jumps; work = k.work } in
        let o = opens ir image l live small homes g entry sp b h4 p (k.leads.fine fine) refl (k.fixed 2 (omega arith) (omega arith) ∙ pointer) fits in
        let h6 : Hart = record h { pc = o.pc; registers = o.registers; stack = o.stack; jumps = k.jumps; work = o.work } in
        let below_it : (j : ℕ) → j < sp → o.stack j ≡ h.stack j = λ j q. o.others j (λ e. absurd (omega (arith, q, e))) ∙ k.below_it j q in
        record {
          next = h6;
          privates = p;
          leads = then_leads image {i = h4} {j = h6} k.leads o.leads;
          match = record {
            here = o.there;
            pointer = o.fixed 2 (omega arith) (omega arith) ∙ k.fixed 2 (omega arith) (omega arith) ∙ pointer;
            turns = o.fixed 3 (omega arith) (omega arith) ∙ k.fixed 3 (omega arith) (omega arith) ∙ turns;
            globals = o.fixed 4 (omega arith) (omega arith) ∙ k.fixed 4 (omega arith) (omega arith) ∙ globals;
            inside = fits;
            room = b.slots;
            holds = λ t w q e. holds_new o.stack o.registers (λ i less need. o.arguments i less need ∙ k.words i less) t w q e;
            waiting = subst (λ n. Below ir image l live Midway o.stack n below) (sym (o.way ∙ k.way))
                (below_same ir image l live Midway below (h.stack (sp + l.slots f)) h.stack o.stack below_it waiting);
            above = λ t w e. absurd (cc);
            text_is = text_is;
            waits = waits;
            counted = omega (arith, k.more, counted);
            some = some;
            few = few;
          };
          same = same;
        } where
          holds_new : (stack1 r1 : ℕ → ℕ) → ((t : ℕ) → t < count → live g 0 0 t → value_at (l.home g t) sp r1 stack1 ≡ value_at (l.home f (from + t)) sp h.registers h.stack)
              → (t w : ℕ) → live g 0 0 t → first_slots count (slots_from from slots) t ≡ Some w → (t < l.slots g) × (value_at (l.home g t) sp r1 stack1 ≡ w)
          holds_new stack1 r1 came t w need e = on (nat_lt t count) refl e where
            on : (d : Bool) → nat_lt t count ≡ d → (if d then slots (from + t) else None) ≡ Some w → (t < l.slots g) × (value_at (l.home g t) sp r1 stack1 ≡ w)
            on true q e1 = let less : t < count = less_is t count q in (omega (arith, less, b.arguments), came t less need ∙ arguments t w less e1)
            on false q e1 = absurd (cc)

    pub becomes_does : Follows image resume (Private ir) (Plain ir image l live Midway) full left h p (enters ir control entering u)
    becomes_does = on (nat_lt (2 ^ 20) (sum_by (frame_stack ir) below + stack_of (function_at ir g))) refl where
      sum : sum_by (frame_stack ir) below ≡ sp
      sum = sum_is ir image l live Midway small homes stacks below

      on : (d : Bool) → nat_lt (2 ^ 20) (sum_by (frame_stack ir) below + stack_of (function_at ir g)) ≡ d
          → Follows image resume (Private ir) (Plain ir image l live Midway) full left h p
          (if d then Asks (act.Trap trap.Stack) (line_of_function (function_at ir g)) control u else Moves entered u)
      on true e = λ real.
          let w = test_fails image small h p at 0 (l.stack g) entry sp here (omega (arith, low)) pointer (omega (arith, b.stack)) has_test
          (omega (arith, less_is _ _ e, sum, b.stack_is)) b.behind b.low (omega (arith, counted, some)) b.stub in
          record {
            waiting = w.0;
            privates = p;
            comes = w.1;
            line_is = ap (line_of image) w.2 ∙ b.stub_line;
            waits = λ going words. absurd (cc);
            same = same;
          }
      on false e = goes_in (omega (arith, not_less_is _ _ e, sum, b.stack_is))

  -- ---- the operation

  module _ (left : ℕ) (fr : IrFrame) (below : List IrFrame) (c : Control) (line : ℕ) (u : List ℕ) (h : Hart) (p : Privates)
      (m : InFrame ir image l live Midway left fr below 0 c.text c.last h) (same : Private ir u p) (fine : Fine h p) (fewer : jumps_before ir fr.function fr.pc ≤ most_jumps)
      (from g entry : ℕ) (b : Begins ir image l live g entry) where
    abbrev at0 : ℕ
    at0 = l.at fr.function fr.pc

    pub become_does : Stands image.code at0 (become_code (l.home fr.function) (l.slots fr.function) (l.stack g) entry from (arguments_of (function_at ir g)))
        → at0 + length (become_code (l.home fr.function) (l.slots fr.function) (l.stack g) entry from (arguments_of (function_at ir g))) < 2 ^ 23 → line_of image (place (at0 + 3)) ≡ line
        → ((i : ℕ) → i < arguments_of (function_at ir g) → live fr.function fr.pc 0 (from + i) × (from + i < l.slots fr.function))
        → Does ir image l live Midway left h p (step_op (op.Become g from) (at_hand ir image l live Midway left fr below c line u h p))
    become_does has low line_is lives =
        let loading : List Instr = frame_load 1 (l.slots fr.function) in
        let passing : List Instr = pass (l.home fr.function) from 0 (arguments_of (function_at ir g)) in
        let rest : List Instr = stack_test 0 (l.stack g) entry ++ (loading ++ (passing ++ go_code entry)) in
        let lengths : at0 + 4 + 5 + length loading + length passing + 2 < 2 ^ 23 =
        omega (arith, low, length-append turn_code rest, length-append (stack_test 0 (l.stack g) entry) (loading ++ (passing ++ go_code entry)), length-append loading (passing ++ go_code entry), length-append passing (go_code entry)) in
        turn_then ir image l live Midway small left _ u h p line at0 (jumps_before ir fr.function fr.pc) m.here (omega (arith, lengths)) m.turns m.few m.some m.waits m.counted fewer same fine
        (stands_front image.code at0 turn_code rest has) line_is
        (λ left1 pc1 jumps1 work1 rs waits1 q at kept three counted some few done good.
        record {
          there = record h { pc = pc1; registers = rs; waits = waits1; jumps = jumps1; work = work1 };
          leads = stays image;
          match = inr (λ u1 q1 same1 fine1.
              becomes_does left1 (at0 + 4) from fr.function g entry fr.slots below c.text u1
              (record h { pc = pc1; registers = rs; waits = waits1; jumps = jumps1; work = work1 }) q1 fine1 at
              (kept 2 (omega arith) (omega arith) ∙ m.pointer) three (kept 4 (omega arith) (omega arith) ∙ m.globals) m.text_is done counted some few same1 b
              (λ i w less e. let old = m.holds (from + i) w (lives i less).0 e in
              home_kept (l.home fr.function (from + i)) (under l below) h.registers rs h.stack (at_home ir image l live Midway m homes (from + i) old.0) (λ n k. kept n (λ z. absurd (omega (arith, k.0, z))) (λ z. absurd (omega (arith, k.0, z)))) ∙ old.1)
              (λ i less. (lives i less).1) m.waiting m.inside m.room (stands_back image.code at0 turn_code rest has) lengths);
        }) left refl
