-- A function that a dispatcher found is entered: its greatest frame and its first word stand in registers.
use Rattle.std.proofs.Common.{◌≡◌, ◌≢◌, ℕ, ◌+◌, ◌*◌, ◌^◌, ◌<◌, ◌≤◌, Bool, true, false, nat_lt, if◌then◌else◌, List, [], ◌∷◌, ◌++◌, length, Some, None, refl, sym, ap, ◌∙◌, arith, subst, inl}
use Rattle.std.specs.Prelude.{sum_by}
use Rattle.std.proofs.lemmas.Bool.Decides.{nat_tests}
use Rattle.al_base.specs.declared.trap.Trap.TheVariants as trap
use Rattle.al_event.specs.declared.act.Act.TheVariants as act
use Rattle.al_world.specs.Turns.{Moves, Asks}
use Rattle.rv_isa.specs.declared.addresses.TheConstants.{STACK_START, GLOBALS_START}
use Rattle.rv_isa.specs.declared.image.Contents.{Contents}
use Rattle.rv_isa.specs.declared.instr.Instr.{Instr}
use Rattle.rv_exec.specs.Hart.{Hart, put}
use Rattle.rv_exec.specs.Calls.{Privates}
use Rattle.rv_exec.specs.Machine.{line_of}
use Rattle.rv_exec.specs.declared.state.Waits.TheVariants.{Done}
use Rattle.al_ir.specs.declared.ir.Ir.{Ir}
use Rattle.al_ir.specs.Control.{Slots, no_slots, slots_from, first_slots, Frame as IrFrame, Entering, Nowhere, Control, function_at, stack_of, arguments_of, begun, line_of as line_of_function}
use Rattle.al_ir.specs.Meaning.{resume}
use Rattle.al_ir.specs.Step.{frame_stack, enters}
use Rattle.rv_code.specs.declared.home.Home.{Home}
use Rattle.rv_code.specs.declared.home.Home.TheVariants.{Frame, Saved}
use Rattle.rv_code.specs.Homes.{value_at, IsHome}
use Rattle.rv_code.specs.Jumps.{place}
use Rattle.rv_code.specs.Pieces.{up_code, down_code}
use Rattle.rv_code.specs.Runs.{Stands, Fine, Leads}
use Rattle.rv_code.proofs.Frames.{goes_up}
use Rattle.rv_code.proofs.Leading.{stands_front, stands_back, then_leads}
use Rattle.rv_code.proofs.Slots.{put_same, put_other}
use Rattle.rv_form.specs.Flow.{pass}
use Rattle.rv_match.specs.Following.{Follows, GoesOn}
use Rattle.rv_match.specs.Match.{IsText, Private, Rests, Below, Plain}
use Rattle.rv_match.specs.Places.{Places, Homes, under, full, wide}
use Rattle.rv_match.proofs.Keeping.{below_same, is_home}
use Rattle.rv_flow.specs.Functions.{Begins}
use Rattle.rv_flow.proofs.Passing.{AreSafe, passes}
use Rattle.std.proofs.lemmas.Int.{ints}
use Rattle.rv_exec.specs.Step.{jumps, jumps_by, most_jumps}
use Rattle.rv_exec.specs.Words.{word, sum_of, difference_of}
use Rattle.rv_exec.specs.Hart.{moved, with_register}
use Rattle.rv_exec.specs.Calls.{Goes}
use Rattle.rv_exec.specs.Machine.{asked}
use Rattle.rv_isa.specs.declared.instr.Instr.TheVariants.{Upper, Jalr, Branch, Immediate, Register}
use Rattle.rv_isa.specs.declared.instr.UpperOp.TheVariants.{Lui}
use Rattle.rv_isa.specs.declared.instr.BranchOp.TheVariants.{Bgeu}
use Rattle.rv_isa.specs.declared.instr.ImmediateOp.TheVariants.{Addi}
use Rattle.rv_isa.specs.declared.instr.RegisterOp.TheVariants.{Sub}
use Rattle.rv_code.specs.Homes.{low_part, high_part}
use Rattle.rv_code.specs.Runs.{Comes}
use Rattle.rv_code.proofs.Frames.{Linked}
use Rattle.rv_code.proofs.Jumps.{ahead, counts}
use Rattle.rv_code.proofs.Leading.{then_comes, one, fetched}
use Rattle.rv_code.proofs.Numbers.{whole, trap_asks, trapped}
use Rattle.rv_form.specs.Flow.{last_frame, found_stack_test, no_room, no_room_words}
use Rattle.rv_flow.proofs.Entering.{opens, sum_is}
use Rattle.std.proofs.Common.{◌-◌, ◌%◌, not, pos, negsuc}

less_is : (a b : ℕ) → nat_lt a b ≡ true → a < b
less_is a b e = grind (arith, nat_tests, e)

not_less_is : (a b : ℕ) → nat_lt a b ≡ false → b ≤ a
not_less_is a b e = grind (arith, nat_tests, e)

not_less : (a b : ℕ) → b ≤ a → nat_lt a b ≡ false
not_less a b le = grind (arith, nat_tests, le)

less : (a b : ℕ) → a < b → nat_lt a b ≡ true
less a b lt = grind (arith, nat_tests, lt)

-- ---- the test of the stack

module _ (image : Contents) (small : length image.code ≤ 2 ^ 23) where
  -- to the place in register 6
  calls_six : (h : Hart) (p : Privates) (at there : ℕ) → h.pc ≡ place at → at < 2 ^ 23 → h.registers 6 ≡ place there → there < 2 ^ 23 → h.jumps < most_jumps
      → Stands image.code at (Jalr 1 6 (pos 0) ∷ []) → Linked image small h p there (at + 1)
  calls_six h p at there here low six low1 room has =
      let next : Hart = with_register 1 (h.pc + 4) (fetched h) in
      let target : sum_of (h.registers 6) (word (pos 0)) ≡ place there = omega (arith, ints, six, low1) in
      let even : place there - place there % 2 ≡ place there = omega arith in
      let c = counts image small true (place there) next (fetched h) p room refl in
      record {
        registers = next.registers;
        jumps = c.0;
        work = h.work + 1;
        leads = one image {h = h} {p = p} small (Jalr 1 6 (pos 0)) at has.0 here
            (ap (λ n. jumps true (n - n % 2) next (fetched h) p) target ∙ ap (λ n. jumps true n next (fetched h) p) even ∙ c.1);
        way = put_same h.registers 1 (h.pc + 4) ∙ omega (arith, here);
        kept = λ n a b. put_other h.registers 1 _ n a;
        counted = c.2;
      }

module _ (image : Contents) (small : length image.code ≤ 2 ^ 23) (h : Hart) (p : Privates) (at above words entry sp : ℕ) (here : h.pc ≡ place at) (low : at + 4 < 2 ^ 23)
    (six : h.registers 6 ≡ place entry) (seven : h.registers 7 ≡ last_frame 0 words) (pointer : h.registers 2 ≡ STACK_START + 4 * sp) (few : above + words ≤ 2 ^ 16)
    (has : Stands image.code at (found_stack_test above)) where
  abbrev limit : ℕ
  limit = last_frame above words

  abbrev fives : ℕ → ℕ
  fives = put (put h.registers 5 (high_part (4 * above) * 2 ^ 12)) 5 (4 * above)

  abbrev found_registers : ℕ → ℕ
  found_registers = put fives 7 limit

  found_kept : (n : ℕ) → n ≢ 5 → n ≢ 7 → found_registers n ≡ h.registers n
  found_kept n a b = put_other fives 7 limit n b ∙ put_other (put h.registers 5 (high_part (4 * above) * 2 ^ 12)) 5 (4 * above) n a ∙ put_other h.registers 5 (high_part (4 * above) * 2 ^ 12) n a

  abbrev at_branch : Hart
  at_branch = record h { pc = h.pc + 4 + 4 + 4; registers = found_registers; work = h.work + 1 + 1 + 1 }

  tests : Leads image h p at_branch p
  tests =
      let h1 : Hart = record h { pc = h.pc + 4; registers = put h.registers 5 (high_part (4 * above) * 2 ^ 12); work = h.work + 1 } in
      let h2 : Hart = record h { pc = h.pc + 4 + 4; registers = fives; work = h.work + 1 + 1 } in
      let value : difference_of (fives 7) (fives 5) ≡ limit = ap (λ x. difference_of x (4 * above)) (put_other (put h.registers 5 (high_part (4 * above) * 2 ^ 12)) 5 (4 * above) 7 (omega arith) ∙ put_other h.registers 5 (high_part (4 * above) * 2 ^ 12) 7 (omega arith) ∙ seven) ∙ omega (arith, few) in
      then_leads image {i = h1} {j = at_branch} (one image {h = h} {next = h1} {p = p} {q = p} small (Upper Lui 5 (high_part (4 * above))) at has.0 here refl)
      (then_leads image {i = h2} {j = at_branch} (one image {h = h1} {next = h2} {p = p} {q = p} small (Immediate Addi 5 5 (low_part (4 * above))) (at + 1) has.1.0 (omega (arith, here))
      (ap (λ k. Goes (moved (with_register 5 k (fetched h1))) p) (whole (4 * above) (omega (arith, few)))))
      (one image {h = h2} {next = at_branch} {p = p} {q = p} small (Register Sub 7 7 5) (at + 1 + 1) has.1.1.0 (omega (arith, here))
      (ap (λ k. Goes (moved (with_register 7 k (fetched h2))) p) value)))

  found_passes : sp + above + words ≤ 2 ^ 20 → Leads image h p (record h { pc = h.pc + 4 + 4 + 4 + 8; registers = found_registers; work = h.work + 1 + 1 + 1 + 1 }) p
  found_passes room =
      let fits : nat_lt limit (h.registers 2) ≡ false = not_less limit (h.registers 2) (omega (arith, room, pointer, few)) in
      then_leads image {i = at_branch} {j = record h { pc = h.pc + 4 + 4 + 4 + 8; registers = found_registers; work = h.work + 1 + 1 + 1 + 1 }} tests
      (one image {h = at_branch} {p = p} {q = p} small (Branch Bgeu 7 2 (pos 8)) (at + 1 + 1 + 1) has.1.1.1.0 (omega (arith, here))
      (ap (λ (b : Bool). if not b then jumps_by (pos 8) (fetched at_branch) (fetched at_branch) p else Goes (moved (fetched at_branch)) p) fits
      ∙ ahead image small (fetched at_branch) p 8 (omega arith) (omega arith) (omega (arith, here, low))))

  found_fails : 2 ^ 20 < sp + above + words → no_room_words ≤ entry → entry < 2 ^ 23 → h.jumps < most_jumps → Stands image.code (entry - no_room_words) no_room
      → (waiting : Hart) × Comes image h p (asked image (act.Trap trap.Stack) waiting p) × (waiting.pc ≡ place (entry - 1))
  found_fails full three low1 room code =
      let over : nat_lt limit (h.registers 2) ≡ true = less limit (h.registers 2) (omega (arith, full, pointer, few)) in
      let h1 : Hart = record h { pc = h.pc + 4 + 4 + 4 + 4; registers = found_registers; work = h.work + 1 + 1 + 1 + 1 } in
      let next : Hart = with_register 0 (h1.pc + 4) (fetched h1) in
      let place_of : found_registers 6 ≡ place entry = found_kept 6 (omega arith) (omega arith) ∙ six in
      let target : sum_of (found_registers 6) (word (negsuc 11)) ≡ place (entry - no_room_words) = ap (λ x. sum_of x (word (negsuc 11))) place_of ∙ omega (arith, ints, three, low1) in
      let even : place (entry - no_room_words) - place (entry - no_room_words) % 2 ≡ place (entry - no_room_words) = omega arith in
      let c = counts image small true (place (entry - no_room_words)) next (fetched h1) p room refl in
      let h2 : Hart = record h1 { pc = place (entry - no_room_words); registers = next.registers; jumps = c.0; work = h1.work + 1 } in
      let second : Leads image h1 p h2 p = one image {h = h1} {next = h2} {p = p} {q = p} small (Jalr 0 6 (negsuc 11)) (at + 1 + 1 + 1 + 1) has.1.1.1.1.0 (omega (arith, here))
      (ap (λ n. jumps true (n - n % 2) next (fetched h1) p) target ∙ ap (λ n. jumps true n next (fetched h1) p) even ∙ c.1) in (
        trapped image small trap.Stack h2 p (entry - no_room_words) refl,
        then_comes image {i = at_branch} tests
            (then_comes image {i = h1} (one image {h = at_branch} {next = h1} {p = p} {q = p} small (Branch Bgeu 7 2 (pos 8)) (at + 1 + 1 + 1) has.1.1.1.0 (omega (arith, here))
            (ap (λ (b : Bool). if not b then jumps_by (pos 8) (fetched at_branch) (fetched at_branch) p else Goes (moved (fetched at_branch)) p) over))
            (then_comes image {i = h2} second (trap_asks image small trap.Stack h2 p (entry - no_room_words) refl code))),
        omega (arith, three),
      )

-- ---- the call

module _ (ir : Ir) (image : Contents) (l : Places) (live : (f pc unit t : ℕ) → Type 0) (Midway : (f pc unit : ℕ) → Slots → (sp : ℕ) → Hart → Type 0)
    (small : length image.code ≤ 2 ^ 23) (homes : Homes l) (stacks : (f : ℕ) → stack_of (function_at ir f) ≡ l.stack f) where
  module _ (left at from g entry : ℕ) (fr : IrFrame) (slots : Slots) (below : List IrFrame) (text : List ℕ) (u : List ℕ) (h : Hart) (p : Privates) (fine : Fine h p)
      (here : h.pc ≡ place at) (six : h.registers 6 ≡ place entry) (seven : h.registers 7 ≡ last_frame 0 (l.stack g)) (pointer : h.registers 2 ≡ STACK_START + 4 * under l below) (turns : h.registers 3 ≡ left) (globals : h.registers 4 ≡ GLOBALS_START)
      (text_is : IsText h.text text) (waits : h.waits ≡ Done) (counted : h.jumps + wide * left ≤ wide * full) (some : 1 ≤ left) (few : left ≤ full)
      (same : Private ir u p) (b : Begins ir image l live g entry)
      (arguments : (i w : ℕ) → i < arguments_of (function_at ir g) → slots (from + i) ≡ Some w → value_at (l.home fr.function (from + i)) (under l below) h.registers h.stack ≡ w)
      (inside : (i : ℕ) → i < arguments_of (function_at ir g) → from + i < l.slots fr.function)
      (rests : Rests ir image l live Midway fr (under l below) h.stack) (waiting : Below ir image l live Midway h.stack (h.stack (under l below + l.slots fr.function)) below)
      (room : under l below + l.stack fr.function ≤ 2 ^ 20) (slots_f : l.slots fr.function < l.stack fr.function) (stack_f : l.stack fr.function ≤ 16384)
      (has : Stands image.code at (found_stack_test (l.stack fr.function)
      ++ (pass (l.home fr.function) from (l.stack fr.function) (arguments_of (function_at ir g)) ++ (up_code (l.stack fr.function) ++ (Jalr 1 6 (pos 0) ∷ down_code (l.stack fr.function))))))
      (behind : at + 5 + length (pass (l.home fr.function) from (l.stack fr.function) (arguments_of (function_at ir g))) + 7 ≡ l.at fr.function fr.pc) (low : l.at fr.function fr.pc < 2 ^ 23) where
    abbrev size : ℕ
    size = l.stack fr.function

    abbrev sp : ℕ
    sp = under l below

    abbrev count : ℕ
    count = arguments_of (function_at ir g)

    abbrev passing : List Instr
    passing = pass (l.home fr.function) from size count

    abbrev entering : Entering
    entering = record { function = g; arguments = slots_from from slots }

    abbrev control : Control
    control = record { entering = Some entering; into = Nowhere; unit = 0; text = text; last = no_slots; frames = fr ∷ below }

    abbrev entered : Control
    entered = record { entering = None; into = Nowhere; unit = 0; text = text; last = no_slots; frames = begun ir g (slots_from from slots) ∷ fr ∷ below }

    abbrev tail3 : List Instr
    tail3 = Jalr 1 6 (pos 0) ∷ down_code size

    abbrev tail2 : List Instr
    tail2 = up_code size ++ tail3

    has_test : Stands image.code at (found_stack_test size)
    has_test = stands_front image.code at (found_stack_test size) (passing ++ tail2) has

    code1 : Stands image.code (at + 5) (passing ++ tail2)
    code1 = stands_back image.code at (found_stack_test size) (passing ++ tail2) has

    code2 : Stands image.code (at + 5 + length passing) tail2
    code2 = stands_back image.code (at + 5) passing tail2 code1

    code3 : Stands image.code (at + 5 + length passing + 3) tail3
    code3 = stands_back image.code (at + 5 + length passing) (up_code size) tail3 code2

    code4 : Stands image.code (at + 5 + length passing + 3 + 1) (down_code size)
    code4 = code3.1

    home_in : (i : ℕ) → i < count → IsHome sp (l.home fr.function (from + i))
    home_in i less = is_home l homes fr.function (from + i) sp (inside i less) slots_f room

    safe : AreSafe image small (l.home fr.function) sp from size count
    safe i j k a d e f = absurd (omega (arith, homes.frame fr.function (from + j) k e, inside j d, slots_f, f))

    few_words : size + l.stack g ≤ 2 ^ 16
    few_words = omega (arith, stack_f, b.stack)

    low4 : at + 4 < 2 ^ 23
    low4 = omega (arith, behind, low)

    abbrev rs1 : ℕ → ℕ
    rs1 = found_registers image small h p at size (l.stack g) entry sp here low4 six seven pointer few_words has_test

    rs1_kept : (n : ℕ) → n ≢ 5 → n ≢ 7 → rs1 n ≡ h.registers n
    rs1_kept = found_kept image small h p at size (l.stack g) entry sp here low4 six seven pointer few_words has_test

    -- the test of the stack changes no home
    not_five : (k : Home) → IsHome sp k → (stack : ℕ → ℕ) → value_at k sp rs1 stack ≡ value_at k sp h.registers stack
    not_five (Frame k) a stack = refl
    not_five (Saved k) a stack = rs1_kept k (λ e. absurd (omega (arith, a.0, e))) (λ e. absurd (omega (arith, a.0, e)))

    -- at the function's first word, with the arguments in the words of its frame
    record Called : Type 0 where
      registers : ℕ → ℕ
      stack : ℕ → ℕ
      jumps : ℕ
      work : ℕ
      leads : Leads image h p (record h { pc = place entry; registers = registers; stack = stack; jumps = jumps; work = work }) p
      way : registers 1 ≡ place (at + 5 + length passing + 3 + 1)
      up_there : registers 2 ≡ STACK_START + 4 * (size + sp)
      fixed : (n : ℕ) → 3 ≤ n → n ≤ 4 → registers n ≡ h.registers n
      words : (i : ℕ) → i < count → stack (size + sp + i) ≡ value_at (l.home fr.function (from + i)) sp h.registers h.stack
      below_it : (j : ℕ) → j < sp + size → stack j ≡ h.stack j
      more : jumps ≤ h.jumps + 1

    -- the arguments are passed
    record Passing : Type 0 where
      pc : ℕ
      registers : ℕ → ℕ
      stack : ℕ → ℕ
      work : ℕ
      leads : Leads image h p (record h { pc = pc; registers = registers; stack = stack; work = work }) p
      there : pc ≡ place (at + 5 + length passing)
      kept : (n : ℕ) → n ≤ 4 → registers n ≡ h.registers n
      place_of : registers 6 ≡ place entry
      words : (i : ℕ) → i < count → stack (sp + size + i) ≡ value_at (l.home fr.function (from + i)) sp h.registers h.stack
      below_it : (j : ℕ) → j < sp + size → stack j ≡ h.stack j

    passed : sp + size + l.stack g ≤ 2 ^ 20 → Passing
    passed fits =
        let t = found_passes image small h p at size (l.stack g) entry sp here low4 six seven pointer few_words has_test fits in
        let h1 : Hart = record h { pc = h.pc + 4 + 4 + 4 + 8; registers = rs1; work = h.work + 1 + 1 + 1 + 1 } in
        let a = passes image small (l.home fr.function) sp count from size (at + 5) h1 p (t.fine fine) (omega (arith, here)) pointer (omega (arith, fits, b.arguments, b.slots))
        home_in safe (stands_front image.code (at + 5) passing tail2 code1) in
        record {
          pc = a.pc;
          registers = a.registers;
          stack = a.stack;
          work = a.work;
          leads = then_leads image {i = h1} {j = record h { pc = a.pc; registers = a.registers; stack = a.stack; work = a.work }} t a.leads;
          there = a.there;
          kept = λ n r. a.kept n (λ e. absurd (omega (arith, r, e))) (λ e. absurd (omega (arith, r, e))) ∙ rs1_kept n (λ e. absurd (omega (arith, r, e))) (λ e. absurd (omega (arith, r, e)));
          place_of = a.kept 6 (omega arith) (omega arith) ∙ rs1_kept 6 (omega arith) (omega arith) ∙ six;
          words = λ i less. a.words i less ∙ not_five (l.home fr.function (from + i)) (home_in i less) h.stack;
          below_it = λ j q. a.others j (inl (omega (arith, q)));
        }

    called : sp + size + l.stack g ≤ 2 ^ 20 → Called
    called fits =
        let a = passed fits in
        let h2 : Hart = record h { pc = a.pc; registers = a.registers; stack = a.stack; work = a.work } in
        let pointer2 : a.registers 2 ≡ STACK_START + 4 * sp = a.kept 2 (omega arith) ∙ pointer in
        let up = goes_up image small h2 p (at + 5 + length passing) size a.there (omega (arith, stack_f)) sp pointer2 (omega (arith, fits)) (stands_front image.code (at + 5 + length passing) (up_code size) tail3 code2) in
        let h3 : Hart = record h2 { pc = up.pc; registers = up.registers; work = up.work } in
        let k = calls_six image small h3 p (at + 5 + length passing + 3) entry up.there (omega (arith, behind, low)) (up.kept 6 (omega arith) (omega arith) ∙ a.place_of) b.low (omega (arith, counted, some)) (code3.0, tt) in
        let h4 : Hart = record h { pc = place entry; registers = k.registers; stack = a.stack; jumps = k.jumps; work = k.work } in
        record {
          registers = k.registers;
          stack = a.stack;
          jumps = k.jumps;
          work = k.work;
          leads = then_leads image {i = h2} {j = h4} a.leads (then_leads image {i = h3} {j = h4} up.leads k.leads);
          way = k.way;
          up_there = k.kept 2 (omega arith) (omega arith) ∙ up.pointer ∙ omega arith;
          fixed = λ n q r. k.kept n (λ e. absurd (omega (arith, q, e))) (λ e. absurd (omega (arith, r, e))) ∙ up.kept n (λ e. absurd (omega (arith, q, e))) (λ e. absurd (omega (arith, r, e)))
              ∙ a.kept n r;
          words = λ i less. ap a.stack (omega arith) ∙ a.words i less;
          below_it = a.below_it;
          more = k.counted;
        }

    -- there is room
    goes_in : sp + size + l.stack g ≤ 2 ^ 20 → GoesOn image resume (Private ir) (Plain ir image l live Midway) left h p entered u
    goes_in fits =
        let k = called fits in
        let h4 : Hart = record h { pc = place entry; registers = k.registers; stack = k.stack; jumps = k.jumps; work = k.work } in
        let o = opens ir image l live small homes g entry (size + sp) b h4 p (k.leads.fine fine) refl k.up_there (omega (arith, fits)) in
        let h6 : Hart = record h { pc = o.pc; registers = o.registers; stack = o.stack; jumps = k.jumps; work = o.work } in
        let below_it : (j : ℕ) → j < sp + size → o.stack j ≡ h.stack j = λ j q. o.others j (λ e. absurd (omega (arith, q, e))) ∙ k.below_it j q in
        record {
          next = h6;
          privates = p;
          leads = then_leads image {i = h4} {j = h6} k.leads o.leads;
          match = record {
            here = o.there;
            pointer = o.fixed 2 (omega arith) (omega arith) ∙ k.up_there;
            turns = o.fixed 3 (omega arith) (omega arith) ∙ k.fixed 3 (omega arith) (omega arith) ∙ turns;
            globals = o.fixed 4 (omega arith) (omega arith) ∙ k.fixed 4 (omega arith) (omega arith) ∙ globals;
            inside = omega (arith, fits);
            room = b.slots;
            holds = λ t w q e. holds_new o.stack o.registers (λ i less need. o.arguments i less need ∙ k.words i less) t w q e;
            waiting = (
              record {
                way = at + 5 + length passing + 3 + 1;
                is = o.way ∙ k.way;
                down = code4;
                next = omega (arith, behind);
                low = low;
                room = slots_f;
                words = λ t w q e. let old = rests t w q e in (old.0, (old.1.0, below_it (sp + t) (omega (arith, old.0, slots_f)) ∙ old.1.1));
              },
              subst (λ n. Below ir image l live Midway o.stack n below) (sym (below_it (sp + l.slots fr.function) (omega (arith, slots_f))))
                  (below_same ir image l live Midway below (h.stack (sp + l.slots fr.function)) h.stack o.stack (λ j q. below_it j (omega (arith, q))) waiting),
            );
            above = λ t w e. absurd (cc);
            text_is = text_is;
            waits = waits;
            counted = omega (arith, k.more, counted);
            some = some;
            few = few;
          };
          same = same;
        } where
          -- the arguments stand at their homes in the new frame
          holds_new : (stack1 r1 : ℕ → ℕ) → ((t : ℕ) → t < count → live g 0 0 t → value_at (l.home g t) (size + sp) r1 stack1 ≡ value_at (l.home fr.function (from + t)) sp h.registers h.stack)
              → (t w : ℕ) → live g 0 0 t → first_slots count (slots_from from slots) t ≡ Some w → (t < l.slots g) × (value_at (l.home g t) (size + sp) r1 stack1 ≡ w)
          holds_new stack1 r1 came t w need e = on (nat_lt t count) refl e where
            on : (d : Bool) → nat_lt t count ≡ d → (if d then slots (from + t) else None) ≡ Some w → (t < l.slots g) × (value_at (l.home g t) (size + sp) r1 stack1 ≡ w)
            on true q f =
                let less : t < count = less_is t count q in (
                  omega (arith, less, b.arguments),
                  came t less need ∙ arguments t w less f,
                )
            on false q f = absurd (cc)

    -- the stack is tested, and the function begins
    pub found_enters : Follows image resume (Private ir) (Plain ir image l live Midway) full left h p (enters ir control entering u)
    found_enters = on (nat_lt (2 ^ 20) (sum_by (frame_stack ir) (fr ∷ below) + stack_of (function_at ir g))) refl where
      sum : sum_by (frame_stack ir) (fr ∷ below) ≡ sp + size
      sum = omega (arith, sum_is ir image l live Midway small homes stacks (fr ∷ below))

      on : (d : Bool) → nat_lt (2 ^ 20) (sum_by (frame_stack ir) (fr ∷ below) + stack_of (function_at ir g)) ≡ d
          → Follows image resume (Private ir) (Plain ir image l live Midway) full left h p
          (if d then Asks (act.Trap trap.Stack) (line_of_function (function_at ir g)) control u else Moves entered u)
      on true e = λ real.
          let w = found_fails image small h p at size (l.stack g) entry sp here low4 six seven pointer few_words has_test
          (omega (arith, less_is _ _ e, sum, b.stack_is)) b.behind b.low (omega (arith, counted, some)) b.stub in
          record {
            waiting = w.0;
            privates = p;
            comes = w.1;
            line_is = ap (line_of image) w.2 ∙ b.stub_line;
            waits = λ going words. absurd (cc);
            same = same;
          }
      on false e = goes_in (omega (arith, not_less_is _ _ e, sum, b.stack_is))
