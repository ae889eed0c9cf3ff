-- Templates that bring one word or two into registers, compute, and put the result to its home.
use Rattle.std.proofs.Common.{◌≡◌, ◌≢◌, ℕ, ◌+◌, ◌*◌, ◌^◌, ◌<◌, ◌≤◌, List, ◌++◌, length, sym, ap, ap₂, ◌∙◌, arith, length-append, subst}
use Rattle.rv_isa.specs.declared.addresses.TheConstants.{STACK_START}
use Rattle.rv_isa.specs.declared.image.Contents.{Contents}
use Rattle.rv_isa.specs.declared.instr.Instr.{Instr}
use Rattle.rv_exec.specs.Hart.{Hart, register}
use Rattle.rv_exec.specs.Calls.{Privates}
use Rattle.rv_code.specs.declared.home.Home.{Home}
use Rattle.rv_code.specs.declared.home.Home.TheVariants.{Frame, Saved}
use Rattle.rv_code.specs.Homes.{value_at, IsHome, get_code, get_register, put_code, put_register}
use Rattle.rv_code.specs.Jumps.{place}
use Rattle.rv_code.specs.Runs.{Stands, Fine, Leads}
use Rattle.rv_code.proofs.Leading.{stands_front, stands_back, stays, then_leads}
use Rattle.rv_code.proofs.Operands.{IsKept, IsOperand, got_at, put_at, operand, operands, puts, Wrote}
use Rattle.rv_words.proofs.Straight.{reg, register_is, AreStraight, after, Spares, spared, runs}

-- registers that templates may use besides 10 and 11
abbrev pub IsScratch : ℕ → Type 0
IsScratch n = (10 ≤ n) × (n ≤ 17)

-- Instructions that compute a word from the one in register `a` into register `d`, which may be `a`. They change scratch
-- registers and `d` alone.
pub record Computes (f : ℕ → ℕ) (code : (d a : ℕ) → List Instr) : Type 0 where
  pub straight : (d a : ℕ) → AreStraight (code d a)
  pub gives : (d a : ℕ) (r : ℕ → ℕ) → IsOperand 10 d → IsOperand 10 a → reg r a < 2 ^ 32 → after (code d a) r d ≡ f (reg r a)
  pub spares : (d a n : ℕ) → n ≢ d → IsKept n → Spares n (code d a)

-- the same from two words, the right one in register `b`
pub record ComputesTwo (f : ℕ → ℕ → ℕ) (code : (d a b : ℕ) → List Instr) : Type 0 where
  pub straight : (d a b : ℕ) → AreStraight (code d a b)
  pub gives : (d a b : ℕ) (r : ℕ → ℕ) → IsOperand 10 d → IsOperand 10 a → IsOperand 11 b → reg r a < 2 ^ 32 → reg r b < 2 ^ 32
      → after (code d a b) r d ≡ f (reg r a) (reg r b)
  pub spares : (d a b n : ℕ) → n ≢ d → IsKept n → Spares n (code d a b)

module _ (image : Contents) (small : length image.code ≤ 2 ^ 23) where
  value_below : (home : Home) (sp : ℕ) (h : Hart) (p : Privates) → Fine h p → value_at home sp h.registers h.stack < 2 ^ 32
  value_below (Frame k) sp h p fine = fine.hart.stack (sp + k)
  value_below (Saved r) sp h p fine = fine.hart.registers r

  module _ (h : Hart) (p : Privates) (fine : Fine h p) (at sp : ℕ) (here : h.pc ≡ place at) (pointer : h.registers 2 ≡ STACK_START + 4 * sp) where
    pub at_end : {e e1 : ℕ} {to : Home} {v : ℕ} → e ≡ e1 → Wrote image small h p sp e to v → Wrote image small h p sp e1 to v
    at_end {to = to} {v = v} e w = subst (λ n. Wrote image small h p sp n to v) e w

    pub computes_one : {f : ℕ → ℕ} {code : (d a : ℕ) → List Instr} → Computes f code → (to a : Home) → IsHome sp to → IsHome sp a
        → Stands image.code at (get_code a 10 ++ (code (put_register to 10) (get_register a 10) ++ put_code to 10))
        → Wrote image small h p sp (at + length (get_code a 10 ++ (code (put_register to 10) (get_register a 10) ++ put_code to 10))) to (f (value_at a sp h.registers h.stack))
    computes_one {f} {code} c to a t l has =
        let middle : List Instr = code (put_register to 10) (get_register a 10) in
        let rest = stands_back image.code at (get_code a 10) (middle ++ put_code to 10) has in
        let o = operand image small h p fine at sp here pointer a l (stands_front image.code at (get_code a 10) (middle ++ put_code to 10) has) in
        let h1 : Hart = record h { pc = o.ready.pc; registers = o.ready.registers; work = o.ready.work } in
        let r = runs image small middle h1 p (at + length (get_code a 10)) (c.straight (put_register to 10) (get_register a 10))
        (stands_front image.code (at + length (get_code a 10)) middle (put_code to 10) rest) o.ready.there in
        let x : reg o.ready.registers (get_register a 10) ≡ value_at a sp h.registers h.stack = sym (register_is h1 (get_register a 10)) ∙ o.is h1 in
        let end : at + length (get_code a 10) + length middle + length (put_code to 10) ≡ at + length (get_code a 10 ++ (middle ++ put_code to 10)) =
        omega (arith, length-append (get_code a 10) (middle ++ put_code to 10), length-append middle (put_code to 10)) in
        at_end end (puts image small h p (at + length (get_code a 10) + length middle) sp to (f (value_at a sp h.registers h.stack)) r.pc (after middle o.ready.registers) r.work fine
        (then_leads image {i = h1} {j = record h { pc = r.pc; registers = after middle o.ready.registers; work = r.work }} o.ready.leads r.leads) r.there pointer t
        (c.gives (put_register to 10) (get_register a 10) o.ready.registers (put_at sp to 10 t) (got_at sp a 10 l) (small_x x) ∙ ap f x)
        (λ n k other. spared n middle o.ready.registers (c.spares (put_register to 10) (get_register a 10) n other k) ∙ o.ready.kept n k)
        (stands_back image.code (at + length (get_code a 10)) middle (put_code to 10) rest)) where
          small_x : {r : ℕ} → r ≡ value_at a sp h.registers h.stack → r < 2 ^ 32
          small_x e = omega (arith, e, value_below a sp h p fine)

    -- what stands between operands and computing changes no register
    pub record Bridge (h1 : Hart) (there : ℕ) : Type 0 where
      pub pc : ℕ
      pub work : ℕ
      pub leads : Leads image h1 p (record h1 { pc = pc; work = work }) p
      pub is : pc ≡ place there

    pub computes_behind : {f : ℕ → ℕ → ℕ} {code : (d a b : ℕ) → List Instr} → ComputesTwo f code → (to a b : Home) → IsHome sp to → IsHome sp a → IsHome sp b
        → Stands image.code at (get_code a 10) → Stands image.code (at + length (get_code a 10)) (get_code b 11)
        → (at3 : ℕ) → ((h1 : Hart) → h1.pc ≡ place (at + length (get_code a 10) + length (get_code b 11)) → register h1 (get_register b 11) ≡ value_at b sp h.registers h.stack → Bridge h1 at3)
        → Stands image.code at3 (code (put_register to 10) (get_register a 10) (get_register b 11) ++ put_code to 10)
        → Wrote image small h p sp (at3 + length (code (put_register to 10) (get_register a 10) (get_register b 11)) + length (put_code to 10)) to
        (f (value_at a sp h.registers h.stack) (value_at b sp h.registers h.stack))
    computes_behind {f} {code} c to a b t l m has has1 at3 bridge rest =
        let middle : List Instr = code (put_register to 10) (get_register a 10) (get_register b 11) in
        let o = operands image small h p fine at sp here pointer a b l m has has1 in
        let h1 : Hart = record h { pc = o.ready.pc; registers = o.ready.registers; work = o.ready.work } in
        let k = bridge h1 o.ready.there (o.right h1) in
        let h2 : Hart = record h { pc = k.pc; registers = o.ready.registers; work = k.work } in
        let r = runs image small middle h2 p at3 (c.straight (put_register to 10) (get_register a 10) (get_register b 11)) (stands_front image.code at3 middle (put_code to 10) rest) k.is in
        let x : reg o.ready.registers (get_register a 10) ≡ value_at a sp h.registers h.stack = sym (register_is h1 (get_register a 10)) ∙ o.left h1 in
        let y : reg o.ready.registers (get_register b 11) ≡ value_at b sp h.registers h.stack = sym (register_is h1 (get_register b 11)) ∙ o.right h1 in
        let h3 : Hart = record h { pc = r.pc; registers = after middle o.ready.registers; work = r.work } in
        puts image small h p (at3 + length middle) sp to (f (value_at a sp h.registers h.stack) (value_at b sp h.registers h.stack)) r.pc (after middle o.ready.registers) r.work fine
        (then_leads image {i = h1} {j = h3} o.ready.leads (then_leads image {i = h2} {j = h3} k.leads r.leads)) r.there pointer t
        (c.gives (put_register to 10) (get_register a 10) (get_register b 11) o.ready.registers (put_at sp to 10 t) (got_at sp a 10 l) (got_at sp b 11 m) (small_at a x) (small_at b y) ∙ ap₂ f x y)
        (λ n k other. spared n middle o.ready.registers (c.spares (put_register to 10) (get_register a 10) (get_register b 11) n other k) ∙ o.ready.kept n k)
        (stands_back image.code at3 middle (put_code to 10) rest) where
          small_at : (k : Home) → {r : ℕ} → r ≡ value_at k sp h.registers h.stack → r < 2 ^ 32
          small_at k e = omega (arith, e, value_below k sp h p fine)

    pub computes_two : {f : ℕ → ℕ → ℕ} {code : (d a b : ℕ) → List Instr} → ComputesTwo f code → (to a b : Home) → IsHome sp to → IsHome sp a → IsHome sp b
        → Stands image.code at (get_code a 10 ++ (get_code b 11 ++ (code (put_register to 10) (get_register a 10) (get_register b 11) ++ put_code to 10)))
        → Wrote image small h p sp (at + length (get_code a 10 ++ (get_code b 11 ++ (code (put_register to 10) (get_register a 10) (get_register b 11) ++ put_code to 10)))) to
        (f (value_at a sp h.registers h.stack) (value_at b sp h.registers h.stack))
    computes_two {f} {code} c to a b t l m has =
        let middle : List Instr = code (put_register to 10) (get_register a 10) (get_register b 11) in
        let rest1 = stands_back image.code at (get_code a 10) (get_code b 11 ++ (middle ++ put_code to 10)) has in
        at_end (omega (arith, length-append (get_code a 10) (get_code b 11 ++ (middle ++ put_code to 10)), length-append (get_code b 11) (middle ++ put_code to 10), length-append middle (put_code to 10)))
        (computes_behind c to a b t l m (stands_front image.code at (get_code a 10) (get_code b 11 ++ (middle ++ put_code to 10)) has)
        (stands_front image.code (at + length (get_code a 10)) (get_code b 11) (middle ++ put_code to 10) rest1) (at + length (get_code a 10) + length (get_code b 11))
        (λ h1 there right. record { pc = h1.pc; work = h1.work; leads = stays image; is = there })
        (stands_back image.code (at + length (get_code a 10)) (get_code b 11) (middle ++ put_code to 10) rest1))
