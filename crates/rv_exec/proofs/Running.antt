-- Turns of a run.
use Rattle.std.proofs.Common.{◌≡◌, ℕ, ◌+◌, ◌-◌, ◌*◌, ◌/◌, ◌%◌, ◌^◌, ◌<◌, ◌==◌, nat_le, Bool, true, false, if◌then◌else◌, List, slice_get, Option, Some, None, option_map, refl, sym, ap, subst, ◌∙◌, arith}
use Rattle.std.proofs.lemmas.Bool.Decides.{nat_tests}
use Rattle.std.proofs.lemmas.Option.{slice_get-map}
use Rattle.rv_isa.specs.declared.addresses.TheConstants.{CODE_START}
use Rattle.rv_isa.specs.declared.image.Contents.{Contents}
use Rattle.rv_isa.specs.declared.instr.Instr.{Instr}
use Rattle.rv_isa.specs.declared.instr.BranchOp.{BranchOp}
use Rattle.rv_isa.specs.declared.instr.LoadOp.TheVariants.{Lw}
use Rattle.rv_isa.specs.declared.instr.StoreOp.TheVariants.{Sw}
use Rattle.rv_isa.specs.declared.instr.RegisterOp.{RegisterOp}
use Rattle.rv_isa.specs.declared.micro.Micro.{Micro}
use Rattle.rv_isa.specs.declared.micro.MicroOp.TheVariants as micro
use Rattle.rv_isa.specs.Table.{instruction_of}
use Rattle.rv_isa.specs.Micro.{micro_of, micros_of, or_break}
use Rattle.rv_exec.specs.Micros.{computes, decides, Does}
use Rattle.rv_exec.specs.Hart.{Hart, put, with_register}
use Rattle.rv_exec.specs.Calls.{Privates, Move, Goes}
use Rattle.rv_exec.specs.Machine.{ask, longest_stretch}
use Rattle.rv_exec.specs.Step.{executed, performed, performed_if_any, step, set, jumps, loads, stores_stack, stores_globals, word_at}
use Rattle.rv_exec.specs.Windows.{stack_offset, globals_offset}
use Rattle.rv_exec.specs.Words.{computed, is_taken, sum_of}
use Rattle.rv_exec.proofs.MicroMoves.{computing, deciding, linking, returning}
use Rattle.rv_exec.proofs.Accesses.{loading_stack, loading_globals, storing_stack, storing_globals}
use Rattle.rv_exec.proofs.Stepping.{performed_some, performed_none, goes_on}

-- ---- what a micro-operation does, by what was computed

module _ (s : Hart) (p : Privates) (pc work bytes : ℕ) (m : Micro) (zeroed : s.registers 32 ≡ 0) where
  abbrev here : Hart
  here = record s { pc = pc; work = work + 1 }

  abbrev address : ℕ
  address = sum_of (s.registers m.rs1) m.imm

  abbrev target : ℕ
  target = sum_of pc m.imm

  pub on_computing : (value : ℕ) (next : Hart) → s.registers m.rs2 < 2 ^ 32 → m.imm < 2 ^ 32
      → option_map (λ op. computed op (s.registers m.rs1) (sum_of (s.registers m.rs2) m.imm)) (computes m.op) ≡ Some value
      → next ≡ with_register m.rd value s
      → Does m pc work bytes s p (Goes (record next { pc = pc + 4; work = work + 1 }) p)
  on_computing value next below small e same instr image is b = on (computes m.op) refl where
    on : (o : Option RegisterOp) → computes m.op ≡ o → executed instr image here p ≡ Goes (record next { pc = pc + 4; work = work + 1 }) p
    on None none = absurd (let f : None ≡ Some value = rw none at e in cc)
    on (Some op) some =
        let f : Some (computed op (s.registers m.rs1) (sum_of (s.registers m.rs2) m.imm)) ≡ Some value = rw some at e in
        let v : computed op (s.registers m.rs1) (sum_of (s.registers m.rs2) m.imm) ≡ value = cc in
        let moves : executed instr image here p ≡ set m.rd (computed op (s.registers m.rs1) (sum_of (s.registers m.rs2) m.imm)) here p =
        subst (λ n. n.imm < 2 ^ 32 → s.registers n.rs2 < 2 ^ 32 → computes n.op ≡ Some op → executed instr image here p ≡ set n.rd (computed op (s.registers n.rs1) (sum_of (s.registers n.rs2) n.imm)) here p)
        is (λ a c d. computing image here p zeroed instr op c a d) small below some in
        moves ∙ ap (λ n. set m.rd n here p) v ∙ ap (λ (h : Hart). Goes (record h { pc = pc + 4; work = work + 1 }) p) (sym same)

  decided : (instr : Instr) (image : Contents) (taken : Bool) → micro_of instr ≡ m
      → option_map (λ op. is_taken op (s.registers m.rs1) (s.registers m.rs2)) (decides m.op) ≡ Some taken
      → executed instr image here p ≡ (if taken then jumps (nat_le target pc) target here here p else Goes (record s { pc = pc + 4; work = work + 1 }) p)
  decided instr image taken is e = on (decides m.op) refl where
    on : (o : Option BranchOp) → decides m.op ≡ o
        → executed instr image here p ≡ (if taken then jumps (nat_le target pc) target here here p else Goes (record s { pc = pc + 4; work = work + 1 }) p)
    on None none = absurd (let f : None ≡ Some taken = rw none at e in cc)
    on (Some op) some =
        let f : Some (is_taken op (s.registers m.rs1) (s.registers m.rs2)) ≡ Some taken = rw some at e in
        let v : is_taken op (s.registers m.rs1) (s.registers m.rs2) ≡ taken = cc in
        let moves : executed instr image here p ≡ (if is_taken op (s.registers m.rs1) (s.registers m.rs2) then jumps (nat_le target pc) target here here p else Goes (record s { pc = pc + 4; work = work + 1 }) p) =
        subst (λ n. decides n.op ≡ Some op → executed instr image here p ≡ (if is_taken op (s.registers n.rs1) (s.registers n.rs2) then jumps (nat_le (sum_of pc n.imm) pc) (sum_of pc n.imm) here here p else Goes (record s { pc = pc + 4; work = work + 1 }) p))
        is (deciding image here p zeroed instr op) some in
        moves ∙ ap (λ b. if b then jumps (nat_le target pc) target here here p else Goes (record s { pc = pc + 4; work = work + 1 }) p) v

  pub on_not_taken : option_map (λ op. is_taken op (s.registers m.rs1) (s.registers m.rs2)) (decides m.op) ≡ Some false
      → Does m pc work bytes s p (Goes (record s { pc = pc + 4; work = work + 1 }) p)
  on_not_taken e instr image is b = decided instr image false is e

  pub leapt_taken : (next : Hart) → option_map (λ op. is_taken op (s.registers m.rs1) (s.registers m.rs2)) (decides m.op) ≡ Some true
      → Goes next p ≡ jumps (nat_le target pc) target here here p → Does m pc work bytes s p (Goes next p)
  leapt_taken next e leapt instr image is b = decided instr image true is e ∙ sym leapt

  pub leapt_linking : (next : Hart) → m.op ≡ micro.Jal
      → Goes next p ≡ jumps (nat_le target pc) target (record s { pc = pc; registers = put s.registers m.rd (pc + 4); work = work + 1 }) here p
      → Does m pc work bytes s p (Goes next p)
  leapt_linking next op leapt instr image is b =
      subst (λ n. n.op ≡ micro.Jal → executed instr image here p ≡ jumps (nat_le (sum_of pc n.imm) pc) (sum_of pc n.imm) (with_register n.rd (pc + 4) here) here p)
      is (linking image here p zeroed instr) op ∙ sym leapt

  pub leapt_returning : (next : Hart) → m.op ≡ micro.Jalr
      → Goes next p ≡ jumps true (address - address % 2) (record s { pc = pc; registers = put s.registers m.rd (pc + 4); work = work + 1 }) here p
      → Does m pc work bytes s p (Goes next p)
  leapt_returning next op leapt instr image is b =
      subst (λ n. n.op ≡ micro.Jalr → executed instr image here p ≡ jumps true (sum_of (s.registers n.rs1) n.imm - sum_of (s.registers n.rs1) n.imm % 2) (with_register n.rd (pc + 4) here) here p)
      is (returning image here p zeroed instr) op ∙ sym leapt

  pub on_loading_stack : (word : ℕ) (next : Hart) → m.op ≡ micro.LoadStack
      → loads Lw m.rd s.stack (stack_offset 4 address) here p ≡ set m.rd word here p → next ≡ with_register m.rd word s
      → Does m pc work bytes s p (Goes (record next { pc = pc + 4; work = work + 1 }) p)
  on_loading_stack word next op load same instr image is b =
      subst (λ n. n.op ≡ micro.LoadStack → executed instr image here p ≡ loads Lw n.rd s.stack (stack_offset 4 (sum_of (s.registers n.rs1) n.imm)) here p)
      is (loading_stack image here p zeroed instr) op
      ∙ load ∙ ap (λ (h : Hart). Goes (record h { pc = pc + 4; work = work + 1 }) p) (sym same)

  pub on_loading_globals : (word : ℕ) (next : Hart) → m.op ≡ micro.LoadGlobals
      → loads Lw m.rd p (globals_offset bytes 4 address) here p ≡ set m.rd word here p → next ≡ with_register m.rd word s
      → Does m pc work bytes s p (Goes (record next { pc = pc + 4; work = work + 1 }) p)
  on_loading_globals word next op load same instr image is b =
      subst (λ n. n.op ≡ micro.LoadGlobals → executed instr image here p ≡ loads Lw n.rd p (globals_offset image.privates 4 (sum_of (s.registers n.rs1) n.imm)) here p)
      is (loading_globals image here p zeroed instr) op
      ∙ ap (λ n. loads Lw m.rd p (globals_offset n 4 address) here p) b
      ∙ load ∙ ap (λ (h : Hart). Goes (record h { pc = pc + 4; work = work + 1 }) p) (sym same)

  pub on_storing_stack : (next : Hart) → m.op ≡ micro.StoreStack
      → stores_stack Sw (s.registers m.rs2) (stack_offset 4 address) here p ≡ Goes next p → Does m pc work bytes s p (Goes next p)
  on_storing_stack next op store instr image is b =
      subst (λ n. n.op ≡ micro.StoreStack → executed instr image here p ≡ stores_stack Sw (s.registers n.rs2) (stack_offset 4 (sum_of (s.registers n.rs1) n.imm)) here p)
      is (storing_stack image here p zeroed instr) op ∙ store

  pub on_storing_globals : (next : Hart) (q : Privates) → m.op ≡ micro.StoreGlobals
      → stores_globals Sw (s.registers m.rs2) (globals_offset bytes 4 address) here p ≡ Goes next q → Does m pc work bytes s p (Goes next q)
  on_storing_globals next q op store instr image is b =
      subst (λ n. n.op ≡ micro.StoreGlobals → executed instr image here p ≡ stores_globals Sw (s.registers n.rs2) (globals_offset image.privates 4 (sum_of (s.registers n.rs1) n.imm)) here p)
      is (storing_globals image here p zeroed instr) op
      ∙ ap (λ n. stores_globals Sw (s.registers m.rs2) (globals_offset n 4 address) here p) b ∙ store

-- ---- a turn is a step by the table

at_number : (code : List ℕ) (at : ℕ) → word_at code (CODE_START + 4 * at) ≡ slice_get code at
at_number code at =
    let above : nat_le CODE_START (CODE_START + 4 * at) ≡ true = grind (arith, nat_tests) in
    let whole : ((CODE_START + 4 * at) % 4 == 0) ≡ true = grind (arith, nat_tests) in
    let number : (CODE_START + 4 * at - CODE_START) / 4 ≡ at = omega arith in
    rw (above, whole, number) refl

carried_out : (w : ℕ) (image : Contents) (h : Hart) (p : Privates)
    → executed (or_break (instruction_of w)) image (record h { work = h.work + 1 }) p ≡ performed w image h p
carried_out w image h p = on (instruction_of w) refl where
  on : (o : Option Instr) → instruction_of w ≡ o → executed (or_break o) image (record h { work = h.work + 1 }) p ≡ performed w image h p
  on None e = performed_none w image h p e
  on (Some instr) e = performed_some w image instr h p e

module _ (image : Contents) (s : Hart) (p : Privates) (at work : ℕ) where
  abbrev there : Hart
  there = record s { pc = CODE_START + 4 * at; work = work }

  steps : (micros : List Micro) (m : Micro) (bytes : ℕ) (move : Move) → micros ≡ micros_of image.code → slice_get micros at ≡ Some m
      → image.privates ≡ bytes → Does m (CODE_START + 4 * at) work bytes s p move → move ≡ step image there p
  steps micros m bytes move all e size does = on (slice_get image.code at) refl where
    found : option_map (λ w. micro_of (or_break (instruction_of w))) (slice_get image.code at) ≡ Some m
    found = sym (slice_get-map (λ w. micro_of (or_break (instruction_of w))) image.code at) ∙ ap (λ ms. slice_get ms at) (sym all) ∙ e

    on : (o : Option ℕ) → slice_get image.code at ≡ o → move ≡ step image there p
    on None none = absurd (let g : None ≡ Some m = rw none at found in cc)
    on (Some w) some =
        let g : Some (micro_of (or_break (instruction_of w))) ≡ Some m = rw some at found in
        let is : micro_of (or_break (instruction_of w)) ≡ m = cc in
        sym (does (or_break (instruction_of w)) image is size) ∙ carried_out w image there p
        ∙ ap (λ (o : Option ℕ). performed_if_any o image there p) (sym (at_number image.code at ∙ some))

  -- what is asked behind a turn is what is asked before it
  pub turns : (micros : List Micro) (m : Micro) (bytes : ℕ) (next : Hart) (q : Privates) → micros ≡ micros_of image.code
      → slice_get micros at ≡ Some m → image.privates ≡ bytes → work < longest_stretch → next.work ≡ work + 1
      → Does m (CODE_START + 4 * at) work bytes s p (Goes next q) → ask image next q ≡ ask image there p
  turns micros m bytes next q all e size less more does = goes_on image there p next q less more (steps micros m bytes (Goes next q) all e size does)
