-- Operands come from their homes into registers, and a result goes to its home.
use Rattle.std.proofs.Common.{◌≡◌, ◌≢◌, ℕ, ◌+◌, ◌*◌, ◌^◌, ◌<◌, ◌≤◌, List, ◌∷◌, ◌++◌, length, refl, sym, ap₂, ◌∙◌, arith, ◌⊎◌, inl, inr}
use Rattle.rv_isa.specs.declared.addresses.TheConstants.{STACK_START}
use Rattle.rv_isa.specs.declared.image.Contents.{Contents}
use Rattle.rv_isa.specs.declared.instr.Instr.{Instr}
use Rattle.rv_isa.specs.declared.instr.Instr.TheVariants.{Register}
use Rattle.rv_isa.specs.declared.instr.RegisterOp.{RegisterOp}
use Rattle.rv_exec.specs.Hart.{Hart, put, register, moved, with_register}
use Rattle.rv_exec.specs.Words.{computed}
use Rattle.rv_exec.specs.Calls.{Privates, Goes}
use Rattle.rv_exec.specs.Step.{executed}
use Rattle.rv_code.specs.declared.home.Home.{Home}
use Rattle.rv_code.specs.declared.home.Home.TheVariants.{Frame, Saved}
use Rattle.rv_code.specs.Homes.{value_at, IsHome, Apart, get_code, get_register, put_code, put_register}
use Rattle.rv_code.specs.Jumps.{place}
use Rattle.rv_code.specs.Pieces.{binary_code}
use Rattle.rv_code.specs.Runs.{At, Stands, Fine, Leads}
use Rattle.rv_code.proofs.Leading.{stands_front, stands_back, stays, then_leads, one, fetched}
use Rattle.rv_code.proofs.Slots.{put_same, put_other, reads, Got, frame_loads, frame_stores}

-- registers that a frame hangs on: its pointer, the turns, the private globals
abbrev pub IsFixed : ℕ → Type 0
IsFixed n = (2 ≤ n) × (n ≤ 4)

abbrev pub IsSaved : ℕ → Type 0
IsSaved n = (18 ≤ n) × (n < 28)

-- registers that no template uses for itself
abbrev pub IsKept : ℕ → Type 0
IsKept n = IsFixed n ⊎ IsSaved n

-- a register that templates compute in, or one of a slot
abbrev pub IsOperand : (scratch n : ℕ) → Type 0
IsOperand scratch n = (n ≡ scratch) ⊎ IsSaved n

pub not_kept : (scratch n : ℕ) → (10 ≤ scratch) × (scratch ≤ 17) → IsKept n → n ≢ scratch
not_kept scratch n s (inl f) e = absurd (omega (arith, s.0, f.1, e))
not_kept scratch n s (inr f) e = absurd (omega (arith, s.1, f.0, e))

pub not_eight : (n : ℕ) → IsKept n → n ≢ 8
not_eight n (inl f) e = absurd (omega (arith, f.1, e))
not_eight n (inr f) e = absurd (omega (arith, f.0, e))

pub got_at : (sp : ℕ) (home : Home) (scratch : ℕ) → IsHome sp home → IsOperand scratch (get_register home scratch)
got_at sp (Frame k) scratch is = inl refl
got_at sp (Saved r) scratch is = inr is

pub put_at : (sp : ℕ) (home : Home) (scratch : ℕ) → IsHome sp home → IsOperand scratch (put_register home scratch)
put_at sp (Frame k) scratch is = inl refl
put_at sp (Saved r) scratch is = inr is

pub operand_some : (scratch n : ℕ) → scratch ≢ 0 → IsOperand scratch n → n ≢ 0
operand_some scratch n some (inl e) f = absurd (some (sym e ∙ f))
operand_some scratch n some (inr s) f = absurd (omega (arith, s.0, f))

-- a home's word stays where its register does
pub home_kept : (home : Home) (sp : ℕ) (r s stack : ℕ → ℕ) → IsHome sp home → ((n : ℕ) → IsSaved n → s n ≡ r n) → value_at home sp s stack ≡ value_at home sp r stack
home_kept (Frame k) sp r s stack is same = refl
home_kept (Saved q) sp r s stack is same = same q is

-- At word number `end` a slot has a new word. Only scratch registers have changed besides, and neither words below the frame
-- nor other homes.
pub record Written (registers0 stack0 : ℕ → ℕ) (sp end : ℕ) (to : Home) (value : ℕ) : Type 0 where
  pub pc : ℕ
  pub registers : ℕ → ℕ
  pub stack : ℕ → ℕ
  pub work : ℕ
  pub there : pc ≡ place end
  pub holds : value_at to sp registers stack ≡ value
  pub fixed : (n : ℕ) → IsFixed n → registers n ≡ registers0 n
  pub others : (home : Home) → IsHome sp home → Apart to home → value_at home sp registers stack ≡ value_at home sp registers0 stack0
  pub below : (j : ℕ) → j < sp → stack j ≡ stack0 j

module _ (image : Contents) (small : length image.code ≤ 2 ^ 23) where
  -- a slot's word comes into the register that the template reads
  pub gets : (h : Hart) (p : Privates) (at sp : ℕ) (home : Home) (scratch : ℕ) → Fine h p → h.pc ≡ place at → h.registers 2 ≡ STACK_START + 4 * sp → IsHome sp home
      → Stands image.code at (get_code home scratch)
      → Got image small h p (at + length (get_code home scratch)) (get_register home scratch) (value_at home sp h.registers h.stack) scratch
  gets h p at sp (Frame k) scratch fine here pointer is has =
      frame_loads image small h p fine at sp k here (record { pointer = pointer; inside = is }) scratch has
  gets h p at sp (Saved r) scratch fine here pointer is has = record {
    pc = h.pc;
    registers = h.registers;
    work = h.work;
    leads = stays image;
    there = omega (arith, here);
    holds = refl;
    kept = λ n a b. refl;
  }

  -- ---- one operand, or two, in registers

  -- at word number `end`, with scratch registers changed at most
  pub record Ready (h : Hart) (p : Privates) (end : ℕ) : Type 0 where
    pub pc : ℕ
    pub registers : ℕ → ℕ
    pub work : ℕ
    pub leads : Leads image h p (record h { pc = pc; registers = registers; work = work }) p
    pub there : pc ≡ place end
    pub kept : (n : ℕ) → IsKept n → registers n ≡ h.registers n

  pub record Operand (h : Hart) (p : Privates) (end : ℕ) (a : Home) (x : ℕ) : Type 0 where
    pub ready : Ready h p end
    pub is : (at_hand : Hart) → register (record at_hand { registers = ready.registers }) (get_register a 10) ≡ x

  pub record Operands (h : Hart) (p : Privates) (end : ℕ) (a b : Home) (x y : ℕ) : Type 0 where
    pub ready : Ready h p end
    pub left : (at_hand : Hart) → register (record at_hand { registers = ready.registers }) (get_register a 10) ≡ x
    pub right : (at_hand : Hart) → register (record at_hand { registers = ready.registers }) (get_register b 11) ≡ y

  module _ (h : Hart) (p : Privates) (fine : Fine h p) (at sp : ℕ) (here : h.pc ≡ place at) (pointer : h.registers 2 ≡ STACK_START + 4 * sp) where
    pub operand : (a : Home) → IsHome sp a → Stands image.code at (get_code a 10)
        → Operand h p (at + length (get_code a 10)) a (value_at a sp h.registers h.stack)
    operand a l has =
        let g = gets h p at sp a 10 fine here pointer l has in
        record {
          ready = record {
            pc = g.pc;
            registers = g.registers;
            work = g.work;
            leads = g.leads;
            there = g.there;
            kept = λ n k. g.kept n (not_kept 10 n (omega arith, omega arith) k) (not_eight n k);
          };
          is = λ i. reads (record i { registers = g.registers }) (get_register a 10) (operand_some 10 (get_register a 10) (omega arith) (got_at sp a 10 l)) ∙ g.holds;
        }

    pub operands : (a b : Home) → IsHome sp a → IsHome sp b → Stands image.code at (get_code a 10) → Stands image.code (at + length (get_code a 10)) (get_code b 11)
        → Operands h p (at + length (get_code a 10) + length (get_code b 11)) a b (value_at a sp h.registers h.stack) (value_at b sp h.registers h.stack)
    operands a b l r has has1 =
        let g = gets h p at sp a 10 fine here pointer l has in
        let h1 : Hart = record h { pc = g.pc; registers = g.registers; work = g.work } in
        let g1 = gets h1 p (at + length (get_code a 10)) sp b 11 (g.leads.fine fine) g.there (g.kept 2 (omega arith) (omega arith) ∙ pointer) r has1 in
        let first : (n : ℕ) → IsKept n → g.registers n ≡ h.registers n = λ n k. g.kept n (not_kept 10 n (omega arith, omega arith) k) (not_eight n k) in
        let second : (n : ℕ) → IsKept n → g1.registers n ≡ g.registers n = λ n k. g1.kept n (not_kept 11 n (omega arith, omega arith) k) (not_eight n k) in
        record {
          ready = record {
            pc = g1.pc;
            registers = g1.registers;
            work = g1.work;
            leads = then_leads image {i = h1} {j = record h { pc = g1.pc; registers = g1.registers; work = g1.work }} g.leads g1.leads;
            there = g1.there;
            kept = λ n k. second n k ∙ first n k;
          };
          left = λ i. reads (record i { registers = g1.registers }) (get_register a 10) (operand_some 10 (get_register a 10) (omega arith) (got_at sp a 10 l))
              ∙ still a l g.registers g1.registers (λ n o e. g1.kept n o e) ∙ g.holds;
          right = λ i. reads (record i { registers = g1.registers }) (get_register b 11) (operand_some 11 (get_register b 11) (omega arith) (got_at sp b 11 r))
              ∙ g1.holds ∙ home_kept b sp h.registers g.registers h.stack r (λ n k. first n (inr k));
        } where
          still : (a : Home) → IsHome sp a → (r s : ℕ → ℕ) → ((n : ℕ) → n ≢ 11 → n ≢ 8 → s n ≡ r n) → s (get_register a 10) ≡ r (get_register a 10)
          still (Frame k) l r s same = same 10 (omega arith) (omega arith)
          still (Saved q) l r s same = same q (λ e. absurd (omega (arith, l.0, e))) (λ e. absurd (omega (arith, l.0, e)))

  -- ---- a result

  -- the word is in the register of the slot, and only its store is left
  pub stores : (h : Hart) (p : Privates) (at sp : ℕ) (to : Home) (value : ℕ) (registers0 stack0 : ℕ → ℕ) → Fine h p → h.pc ≡ place at → h.registers 2 ≡ STACK_START + 4 * sp → IsHome sp to
      → h.registers (put_register to 10) ≡ value → ((j : ℕ) → h.stack j ≡ stack0 j) → ((n : ℕ) → IsKept n → n ≢ put_register to 10 → h.registers n ≡ registers0 n)
      → Stands image.code at (put_code to 10)
      → (w : Written registers0 stack0 sp (at + length (put_code to 10)) to value) × Leads image h p (record h { pc = w.pc; registers = w.registers; stack = w.stack; work = w.work }) p
  stores h p at sp (Saved r) value registers0 stack0 fine here pointer is has stack kept code = (
    record {
      pc = h.pc;
      registers = h.registers;
      stack = h.stack;
      work = h.work;
      there = omega (arith, here);
      holds = has;
      fixed = λ n f. kept n (inl f) (λ e. absurd (omega (arith, f.1, is.0, e)));
      others = other;
      below = λ j l. stack j;
    },
    stays image,
  ) where
    other : (home : Home) → IsHome sp home → Apart (Saved r) home → value_at home sp h.registers h.stack ≡ value_at home sp registers0 stack0
    other (Frame k) l a = stack (sp + k)
    other (Saved s) l a = kept s (inr l) (λ e. a (sym e))
  stores h p at sp (Frame k) value registers0 stack0 fine here pointer is has stack kept code =
      let s = frame_stores image small h p fine at sp k here (record { pointer = pointer; inside = is }) 10 (omega arith) (omega arith) code in
      let all : (n : ℕ) → IsKept n → s.registers n ≡ registers0 n = λ n a. s.kept n (not_eight n a) ∙ kept n a (not_kept 10 n (omega arith, omega arith) a) in (
        record {
          pc = s.pc;
          registers = s.registers;
          stack = put h.stack (sp + k) (h.registers 10);
          work = s.work;
          there = s.there;
          holds = put_same h.stack (sp + k) (h.registers 10) ∙ has;
          fixed = λ n f. all n (inl f);
          others = other s.registers all;
          below = λ j l. put_other h.stack (sp + k) (h.registers 10) j (λ e. absurd (omega (arith, l, e))) ∙ stack j;
        },
        s.leads,
      ) where
        other : (rs : ℕ → ℕ) → ((n : ℕ) → IsKept n → rs n ≡ registers0 n) → (home : Home) → IsHome sp home → Apart (Frame k) home
            → value_at home sp rs (put h.stack (sp + k) (h.registers 10)) ≡ value_at home sp registers0 stack0
        other rs same (Frame j) l a = put_other h.stack (sp + k) (h.registers 10) (sp + j) (λ e. a (omega (arith, e))) ∙ stack (sp + j)
        other rs same (Saved r) l a = same r (inr l)

  -- instructions wrote a slot
  pub record Wrote (h : Hart) (p : Privates) (sp end : ℕ) (to : Home) (value : ℕ) : Type 0 where
    pub is : Written h.registers h.stack sp end to value
    pub leads : Leads image h p (record h { pc = is.pc; registers = is.registers; stack = is.stack; work = is.work }) p

  -- operands came into registers, and instructions computed a word in the register of a slot
  pub puts : (h : Hart) (p : Privates) (at sp : ℕ) (to : Home) (value pc : ℕ) (registers : ℕ → ℕ) (work : ℕ) → Fine h p
      → Leads image h p (record h { pc = pc; registers = registers; work = work }) p
      → pc ≡ place at → h.registers 2 ≡ STACK_START + 4 * sp → IsHome sp to → registers (put_register to 10) ≡ value
      → ((n : ℕ) → IsKept n → n ≢ put_register to 10 → registers n ≡ h.registers n) → Stands image.code at (put_code to 10)
      → Wrote h p sp (at + length (put_code to 10)) to value
  puts h p at sp to value pc registers work fine front there pointer is has kept code =
      let h1 : Hart = record h { pc = pc; registers = registers; work = work } in
      let two : registers 2 ≡ STACK_START + 4 * sp = kept 2 (inl (omega arith, omega arith)) (two_apart to is) ∙ pointer in
      let s = stores h1 p at sp to value h.registers h.stack (front.fine fine) there two is has (λ j. refl) kept code in
      record {
        is = s.0;
        leads = then_leads image {i = h1} {j = record h { pc = s.0.pc; registers = s.0.registers; stack = s.0.stack; work = s.0.work }} front s.1;
      } where
        two_apart : (to : Home) → IsHome sp to → 2 ≢ put_register to 10
        two_apart (Frame k) is e = absurd (omega (arith, e))
        two_apart (Saved r) is e = absurd (omega (arith, is.0, e))

  -- one last instruction computes the word
  pub sets : (h : Hart) (p : Privates) (at sp : ℕ) (to : Home) (value pc : ℕ) (registers : ℕ → ℕ) (work : ℕ) (i : Instr) → Fine h p
      → Leads image h p (record h { pc = pc; registers = registers; work = work }) p
      → pc ≡ place at → h.registers 2 ≡ STACK_START + 4 * sp → IsHome sp to
      → executed i image (fetched (record h { pc = pc; registers = registers; work = work })) p
      ≡ Goes (moved (with_register (put_register to 10) value (fetched (record h { pc = pc; registers = registers; work = work })))) p
      → ((n : ℕ) → IsKept n → registers n ≡ h.registers n) → At image.code at i → Stands image.code (at + 1) (put_code to 10)
      → Wrote h p sp (at + 1 + length (put_code to 10)) to value
  sets h p at sp to value pc registers work i fine front there pointer is does kept has code =
      let h1 : Hart = record h { pc = pc; registers = registers; work = work } in
      let h2 : Hart = record h { pc = pc + 4; registers = put registers (put_register to 10) value; work = work + 1 } in
      puts h p (at + 1) sp to value (pc + 4) (put registers (put_register to 10) value) (work + 1) fine
      (then_leads image {i = h1} {j = h2} front (one image {h = h1} {next = h2} {p = p} {q = p} small i at has there does))
      (omega (arith, there)) pointer is (put_same registers (put_register to 10) value)
      (λ n k other. put_other registers (put_register to 10) value n other ∙ kept n k) code

  -- a binary operation on three slots
  pub binary : (h : Hart) (p : Privates) (at sp : ℕ) → Fine h p → h.pc ≡ place at → h.registers 2 ≡ STACK_START + 4 * sp
      → (op : RegisterOp) (to a b : Home) → IsHome sp to → IsHome sp a → IsHome sp b → Stands image.code at (binary_code op to a b)
      → Wrote h p sp (at + length (get_code a 10) + length (get_code b 11) + 1 + length (put_code to 10)) to
      (computed op (value_at a sp h.registers h.stack) (value_at b sp h.registers h.stack))
  binary h p at sp fine here pointer op to a b t l r has =
      let rest : List Instr = Register op (put_register to 10) (get_register a 10) (get_register b 11) ∷ put_code to 10 in
      let code1 = stands_back image.code at (get_code a 10) (get_code b 11 ++ rest) has in
      let code2 = stands_back image.code (at + length (get_code a 10)) (get_code b 11) rest code1 in
      let o = operands h p fine at sp here pointer a b l r (stands_front image.code at (get_code a 10) (get_code b 11 ++ rest) has)
      (stands_front image.code (at + length (get_code a 10)) (get_code b 11) rest code1) in
      let h1 : Hart = record h { pc = o.ready.pc; registers = o.ready.registers; work = o.ready.work } in
      sets h p (at + length (get_code a 10) + length (get_code b 11)) sp to (computed op (value_at a sp h.registers h.stack) (value_at b sp h.registers h.stack))
      o.ready.pc o.ready.registers o.ready.work (Register op (put_register to 10) (get_register a 10) (get_register b 11)) fine o.ready.leads o.ready.there pointer t
      (ap₂ (λ (u v : ℕ). Goes (moved (with_register (put_register to 10) (computed op u v) (fetched h1))) p) (o.left (fetched h1)) (o.right (fetched h1)))
      o.ready.kept code2.0 code2.1
