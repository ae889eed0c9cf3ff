-- A routine of 64 bits in the middle of an operation: in line, or called.
use Rattle.std.proofs.Common.{◌≡◌, ◌≢◌, ℕ, ◌+◌, ◌*◌, ◌/◌, ◌%◌, ◌^◌, ◌<◌, ◌≤◌, ◌==◌, Bool, true, false, ◌&&◌, ◌||◌, nat_le, if◌then◌else◌, pos, List, [], ◌∷◌, ◌++◌, length, Option, Some, None, refl, sym, ap, ap₂, ◌∙◌, arith, subst, length-append, ◌⊎◌, inl, inr}
use Rattle.std.specs.Prelude.{bit_or}
use Rattle.std.proofs.lemmas.Nat.{le_or_l, le_or_r}
use Rattle.std.proofs.lemmas.Bool.{cases_eq}
use Rattle.std.proofs.lemmas.Bool.Decides.{nat_tests}
use Rattle.al_base.specs.declared.trap.Trap.TheVariants as trap
use Rattle.al_event.specs.declared.act.Act.TheVariants as act
use Rattle.rv_isa.specs.declared.image.Contents.{Contents}
use Rattle.rv_isa.specs.declared.instr.Instr.{Instr}
use Rattle.rv_isa.specs.declared.instr.Instr.TheVariants.{Jalr, Register}
use Rattle.rv_isa.specs.declared.instr.RegisterOp.TheVariants.{Or}
use Rattle.rv_exec.specs.Hart.{Hart, put}
use Rattle.rv_exec.specs.Calls.{Privates}
use Rattle.rv_exec.specs.Machine.{asked}
use Rattle.rv_long.specs.Code.{code_of}
use Rattle.rv_long.specs.Long.{HasOperands, may_change, result_of, two_words}
use Rattle.rv_long.specs.declared.op.LongOp.{LongOp}
use Rattle.rv_long.proofs.Contracts.{all_computes}
use Rattle.al_ir.specs.Bounds.{most_jumps}
use Rattle.al_ir.specs.declared.ir.Ir.{Ir}
use Rattle.al_ir.specs.Control.{Slots, Frame as IrFrame, Control}
use Rattle.al_ir.specs.Step.{pair}
use Rattle.rv_code.specs.Jumps.{place, link_code}
use Rattle.rv_code.specs.Runs.{Stands, Fine, Leads, Comes}
use Rattle.rv_code.proofs.Frames.{links, returns_by}
use Rattle.rv_code.proofs.Leading.{stands_front, stands_back, then_leads, then_comes}
use Rattle.rv_code.proofs.Operands.{IsKept}
use Rattle.rv_code.proofs.Routines.{routine_runs}
use Rattle.rv_code.proofs.Slots.{put_same, put_other}
use Rattle.rv_form.specs.Longs.{straight, routine_code, divide_instrs}
use Rattle.rv_form.specs.Words.{divisor_test}
use Rattle.rv_match.specs.Match.{Private, InFrame}
use Rattle.rv_match.specs.Places.{Places, Homes, jumps_before}
use Rattle.rv_words.proofs.Words.{goes_over, asks_trap}
use Rattle.rv_pairs.proofs.Settling.{Worked}
use Rattle.rv_pairs.proofs.Bringing.{stands_some, straight_more}
use Rattle.rv_pairs.proofs.Inline.{scratch_apart}

-- a routine leaves the registers that are kept
not_le : (i j : ℕ) → j < i → nat_le i j ≡ false
not_le i j l = grind (arith, nat_tests, l)

saved_stays : (n : ℕ) → 18 ≤ n → n < 28 → may_change n ≡ false
saved_stays n a b = on (nat_le 5 n) (nat_le 10 n) (nat_le n 31) (nat_le n 7) (nat_le n 17) (nat_le 28 n) (not_le n 7 (omega (arith, a))) (not_le n 17 (omega (arith, a))) (not_le 28 n (omega (arith, b))) where
  last : (c d : Bool) → (c && false) || ((d && false) || (false && true)) ≡ false
  last true true = refl
  last true false = refl
  last false true = refl
  last false false = refl

  on : (c d e f g k : Bool) → f ≡ false → g ≡ false → k ≡ false → (c && f) || ((d && g) || (k && e)) ≡ false
  on c d e f g k p q r = ap (λ x. (c && x) || ((d && g) || (k && e))) p ∙ ap (λ x. (c && false) || ((d && x) || (k && e))) q ∙ ap (λ x. (c && false) || ((d && false) || (x && e))) r ∙ last c d

kept_stays : (n : ℕ) → IsKept n → may_change n ≡ false
kept_stays n (inr s) = saved_stays n s.0 s.1
kept_stays n (inl f) = on (cases_eq n 2) (cases_eq n 3) where
  on : (n ≡ 2) ⊎ (n ≢ 2) → (n ≡ 3) ⊎ (n ≢ 3) → may_change n ≡ false
  on (inl e) g = rw e refl
  on (inr e) (inl g) = rw g refl
  on (inr e) (inr g) = let q : n ≡ 4 = omega (arith, f.0, f.1, e, g) in rw q refl

two_is_pair : (x y : ℕ) → two_words x y ≡ pair x y
two_is_pair x y = omega arith

-- a pair is 0 where no bit of it is set
pub no_bits : (x y : ℕ) → pair x y ≡ 0 → bit_or x y ≡ 0
no_bits x y e =
    let none_x : x ≡ 0 = omega (arith, e) in
    let none_y : y ≡ 0 = omega (arith, e) in
    ap₂ bit_or none_x none_y

pub some_bits : (x y : ℕ) → pair x y ≢ 0 → bit_or x y ≢ 0
some_bits x y some e = some (omega (arith, e, le_or_l x y, le_or_r x y))

module _ (ir : Ir) (image : Contents) (l : Places) (live : (f pc unit t : ℕ) → Type 0) (Midway : (f pc unit : ℕ) → Slots → (sp : ℕ) → Hart → Type 0)
    (left : ℕ) (fr : IrFrame) (below : List IrFrame) (c : Control) (line : ℕ) (u : List ℕ) (h : Hart) (p : Privates)
    (homes : Homes l) (small : length image.code ≤ 2 ^ 23) (m : InFrame ir image l live Midway left fr below 0 c.text c.last h) (same : Private ir u p) (fine : Fine h p) where
  abbrev Works : (end made : ℕ) → Type 0
  Works end made = Worked ir image l live Midway left fr below c line u h p homes small m same fine end made

  pub with_more : (end made more : ℕ) → made ≤ more → Works end made → Works end more
  with_more end made more le k = record { pc = k.pc; registers = k.registers; jumps = k.jumps; work = k.work; leads = k.leads; there = k.there; kept = k.kept; counted = omega (arith, k.counted, le) }

  -- a routine is run, and gives its value in registers 10 and 11
  pub record Routine (end made value back : ℕ) : Type 0 where
    pub to : Works end made
    pub low : to.registers 10 ≡ value % 2 ^ 32
    pub high : to.registers 11 ≡ value / 2 ^ 32
    pub way : to.registers 1 ≡ back

  pub routine_more : (end made : ℕ) (k : Works end made) (d : LongOp) (value : ℕ) → Stands image.code end (straight d) → end ≤ length image.code
      → result_of d (pair (k.registers 10) (k.registers 11)) (pair (k.registers 12) (k.registers 13)) ≡ Some value → Routine (end + length (straight d)) made value (k.registers 1)
  routine_more end made k d value has within result =
      let h1 : Hart = record h { pc = k.pc; registers = k.registers; jumps = k.jumps; work = k.work } in
      let good = (k.leads.fine fine).hart in
      let operands : HasOperands k.registers = record { left_low = good.registers 10; left_high = good.registers 11; right_low = good.registers 12; right_high = good.registers 13 } in
      let asks : result_of d (two_words (k.registers 10) (k.registers 11)) (two_words (k.registers 12) (k.registers 13)) ≡ Some value =
      ap₂ (λ (i j : ℕ). result_of d i j) (two_is_pair (k.registers 10) (k.registers 11)) (two_is_pair (k.registers 12) (k.registers 13)) ∙ result in
      let run = routine_runs image small d (code_of d) end h1 p value (all_computes d (code_of d) refl) has within k.there operands asks in
      let h2 : Hart = record h1 { pc = k.pc + 4 * length (straight d); registers = run.0.registers; work = k.work + length (straight d) } in
      record {
        to = record {
          pc = k.pc + 4 * length (straight d);
          registers = run.0.registers;
          jumps = k.jumps;
          work = k.work + length (straight d);
          leads = then_leads image {i = h1} {j = h2} k.leads run.1;
          there = omega (arith, k.there);
          kept = λ n q. run.0.kept n (kept_stays n q) ∙ k.kept n q;
          counted = k.counted;
        };
        low = run.0.low;
        high = run.0.high;
        way = run.0.kept 1 refl;
      }

  -- ---- a division is called, unless it divides by 0

  module _ (at r : ℕ) (k : Works at 0) (has : Stands image.code at (divide_instrs r)) (low : at + 7 < 2 ^ 23) where
    abbrev tested : ℕ → ℕ
    tested = put k.registers 5 (bit_or (k.registers 12) (k.registers 13))

    or_code : List Instr
    or_code = Register Or 5 12 13 ∷ []

    behind_or : Stands image.code (at + 1) (divisor_test 5 ++ link_code r)
    behind_or = has.1

    joined : (to : Works (at + 1) 0) × (to.registers ≡ tested)
    joined =
        straight_more ir image l live Midway left fr below c line u h p homes small m same fine at 0 k (Register Or 5 12 13 ∷ []) (tt, tt) (λ n q. (scratch_apart 5 n (omega arith, omega arith) q, tt))
        (stands_front image.code at (Register Or 5 12 13 ∷ []) (divisor_test 5 ++ link_code r) has)

    test_register : (g : Works (at + 1) 0) → g.registers ≡ tested → g.registers 5 ≡ bit_or (k.registers 12) (k.registers 13)
    test_register g e = ap (λ (f : ℕ → ℕ). f 5) e ∙ put_same k.registers 5 (bit_or (k.registers 12) (k.registers 13))

    pub division_traps : pair (k.registers 12) (k.registers 13) ≡ 0 → (waiting : Hart) × Comes image h p (asked image (act.Trap trap.Divide) waiting p) × (waiting.pc ≡ place (at + 4))
    division_traps none =
        let g = joined in
        let h1 : Hart = record h { pc = g.0.pc; registers = g.0.registers; jumps = g.0.jumps; work = g.0.work } in
        let w = asks_trap image small p 5 (at + 1) (omega (arith, low)) (stands_front image.code (at + 1) (divisor_test 5) (link_code r) behind_or) h1 g.0.there (test_register g.0 g.1 ∙ no_bits (k.registers 12) (k.registers 13) none) in
        (w.0, then_comes image {i = h1} g.0.leads w.1, w.2 ∙ ap place (omega arith))

    module _ (d : LongOp) (routine : Stands image.code r (routine_code d)) (few : jumps_before ir fr.function fr.pc ≤ most_jumps) where
      there_is : r + length (straight d) < 2 ^ 23
      there_is =
          let tail = stands_back image.code r (straight d) (Jalr 0 1 (pos 0) ∷ []) routine in
          omega (arith, stands_some image.code (r + length (straight d)) (Jalr 0 1 (pos 0) ∷ []) tail (omega arith), small)

      start_is : r < length image.code
      start_is = stands_some image.code r (routine_code d) routine (omega (arith, length-append (straight d) (Jalr 0 1 (pos 0) ∷ [])))

      pub division_more : pair (k.registers 12) (k.registers 13) ≢ 0 → (value : ℕ)
          → result_of d (pair (k.registers 10) (k.registers 11)) (pair (k.registers 12) (k.registers 13)) ≡ Some value
          → (to : Works (at + 7) 2) × (to.registers 10 ≡ value % 2 ^ 32) × (to.registers 11 ≡ value / 2 ^ 32)
      division_more some value result =
          let g = joined in
          let h1 : Hart = record h { pc = g.0.pc; registers = g.0.registers; jumps = g.0.jumps; work = g.0.work } in
          let over = goes_over image small p 5 (at + 1) (omega (arith, low)) (stands_front image.code (at + 1) (divisor_test 5) (link_code r) behind_or) h1 g.0.there
          (λ z. some_bits (k.registers 12) (k.registers 13) some (sym (test_register g.0 g.1) ∙ z)) in
          let h2 : Hart = record h1 { pc = g.0.pc + 16; work = g.0.work + 1 } in
          let l2 : Leads image h p h2 p = then_leads image {i = h1} {j = h2} g.0.leads over in
          let room : h.jumps + 1 < 2 ^ 27 = omega (arith, m.counted, m.some, few) in
          let call = links image small h2 p (at + 1 + 4) r (omega (arith, g.0.there)) (omega (arith, low)) (omega (arith, there_is)) (omega (arith, g.0.counted, room)) (stands_back image.code (at + 1) (divisor_test 5) (link_code r) behind_or) in
          let h3 : Hart = record h2 { pc = place r; registers = call.registers; jumps = call.jumps; work = call.work } in
          let inside : Works r 1 = record {
            pc = place r;
            registers = call.registers;
            jumps = call.jumps;
            work = call.work;
            leads = then_leads image {i = h2} {j = h3} l2 call.leads;
            there = refl;
            kept = λ n q. call.kept n (low_apart n q) (scratch_apart 5 n (omega arith, omega arith) q) ∙ g.0.kept n q;
            counted = omega (arith, call.counted, g.0.counted);
          } in
          let still : (n : ℕ) → n ≢ 5 → n ≢ 1 → call.registers n ≡ k.registers n =
          λ n q w. call.kept n w q ∙ ap (λ (f : ℕ → ℕ). f n) g.1 ∙ put_other k.registers 5 (bit_or (k.registers 12) (k.registers 13)) n q in
          let left_is : pair (call.registers 10) (call.registers 11) ≡ pair (k.registers 10) (k.registers 11) = ap₂ pair (still 10 (omega arith) (omega arith)) (still 11 (omega arith) (omega arith)) in
          let right_is : pair (call.registers 12) (call.registers 13) ≡ pair (k.registers 12) (k.registers 13) = ap₂ pair (still 12 (omega arith) (omega arith)) (still 13 (omega arith) (omega arith)) in
          let run = routine_more r 1 inside d value (stands_front image.code r (straight d) (Jalr 0 1 (pos 0) ∷ []) routine) (omega (arith, start_is))
          (ap₂ (λ (i j : ℕ). result_of d i j) left_is right_is ∙ result) in
          let h4 : Hart = record h { pc = run.to.pc; registers = run.to.registers; jumps = run.to.jumps; work = run.to.work } in
          let back = returns_by image small h4 p (r + length (straight d)) (at + 1 + 4 + 2) run.to.there (run.way ∙ call.way) (omega (arith, low))
          (stands_back image.code r (straight d) (Jalr 0 1 (pos 0) ∷ []) routine) (omega (arith, run.to.counted, room)) in
          let h5 : Hart = record h4 { pc = place (at + 1 + 4 + 2); registers = back.registers; jumps = back.jumps; work = back.work } in (
            record {
              pc = place (at + 1 + 4 + 2);
              registers = back.registers;
              jumps = back.jumps;
              work = back.work;
              leads = then_leads image {i = h4} {j = h5} run.to.leads back.leads;
              there = ap place (omega arith);
              kept = λ n q. back.kept n (zero_apart n q) (low_apart n q) (scratch_apart 8 n (omega arith, omega arith) q) ∙ run.to.kept n q;
              counted = omega (arith, back.counted, run.to.counted);
            },
            back.kept 10 (omega arith) (omega arith) (omega arith) ∙ run.low,
            back.kept 11 (omega arith) (omega arith) (omega arith) ∙ run.high,
          ) where
            low_apart : (n : ℕ) → IsKept n → n ≢ 1
            low_apart n (inl f) e = absurd (omega (arith, f.0, e))
            low_apart n (inr f) e = absurd (omega (arith, f.0, e))

            zero_apart : (n : ℕ) → IsKept n → n ≢ 0
            zero_apart n (inl f) e = absurd (omega (arith, f.0, e))
            zero_apart n (inr f) e = absurd (omega (arith, f.0, e))
