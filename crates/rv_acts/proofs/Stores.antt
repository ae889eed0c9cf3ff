-- Harts follow stores to shared memory.
use Rattle.std.proofs.Common.{◌≡◌, ◌≢◌, ℕ, ◌+◌, ◌*◌, ◌%◌, ◌^◌, ◌<◌, ◌≤◌, ◌==◌, Bool, true, false, if◌then◌else◌, ℤ, pos, List, [], ◌∷◌, ◌++◌, length, Some, refl, sym, ap, ap₂, ◌∙◌, arith, subst, length-append, ◌⊎◌, inl, inr}
use Rattle.al_event.specs.declared.act.Act.TheVariants as act
use Rattle.rv_isa.specs.declared.image.Contents.{Contents}
use Rattle.rv_isa.specs.declared.instr.Instr.{Instr}
use Rattle.rv_isa.specs.declared.instr.Instr.TheVariants.{Store, Immediate, Register}
use Rattle.rv_isa.specs.declared.instr.ImmediateOp.TheVariants.{Addi}
use Rattle.rv_isa.specs.declared.instr.RegisterOp.TheVariants.{Add}
use Rattle.rv_exec.specs.Hart.{Hart, put, register, moved, with_register}
use Rattle.rv_exec.specs.Words.{word, sum_of, store_size}
use Rattle.rv_exec.specs.declared.windows.Window.{Window}
use Rattle.rv_exec.specs.Calls.{Privates, Goes, Asks}
use Rattle.rv_exec.specs.Step.{executed, stores_at}
use Rattle.rv_exec.specs.Machine.{line_of}
use Rattle.rv_exec.specs.declared.state.Waits.TheVariants.{Done}
use Rattle.al_meaning.specs.Words.{sum}
use Rattle.al_ir.specs.declared.ir.Ir.{Ir}
use Rattle.al_ir.specs.declared.op.Op.TheVariants as op
use Rattle.al_ir.specs.Control.{Slots, Frame as IrFrame, Nowhere, Control}
use Rattle.al_ir.specs.Step.{Here, step_op, asks}
use Rattle.rv_code.specs.declared.home.Home.{Home}
use Rattle.rv_code.specs.Homes.{low_part, high_part, get_code, get_register}
use Rattle.rv_code.specs.Pieces.{number_code}
use Rattle.rv_code.specs.Jumps.{place}
use Rattle.rv_code.specs.Runs.{Stands, Fine, Leads}
use Rattle.rv_code.proofs.Leading.{stands_front, stands_back, then_leads, then_comes, one, last, fetched}
use Rattle.rv_code.proofs.Numbers.{numbers}
use Rattle.rv_code.proofs.Operands.{IsKept, IsOperand, IsSaved, not_kept, not_eight, operand_some, got_at, gets, home_kept}
use Rattle.rv_code.proofs.Slots.{put_other, reads}
use Rattle.rv_form.specs.Units.{store_op, store_code}
use Rattle.rv_match.specs.Match.{Private, InFrame}
use Rattle.rv_match.specs.Places.{Places, Homes, Passes, under}
use Rattle.rv_match.proofs.Keeping.{at_home}
use Rattle.rv_match.proofs.Steps.{Does, here, slot_does, held}
use Rattle.rv_acts.proofs.Asking.{silent_does}
use Rattle.rv_acts.proofs.Units.{IsUnit, shared_base, immediate_is, fetched_register}

-- what is asked keeps the bytes of the unit
store_sizes : (size : ℕ) → IsUnit size → (store_size (store_op size) ≡ size) × ((w : ℕ) → w % 2 ^ (8 * store_size (store_op size)) ≡ w % 256 ^ size)
store_sizes size (inl e) = rw e (refl, λ w. refl)
store_sizes size (inr (inl e)) = rw e (refl, λ w. refl)
store_sizes size (inr (inr e)) = rw e (refl, λ w. refl)

-- the instruction asks the store
pub asks_store : (image : Contents) (h : Hart) (p : Privates) (size rs r x y v : ℕ) (imm : ℤ) → IsUnit size → ((10 ≤ r) × (r ≤ 17)) ⊎ IsSaved r → register h r ≡ x → word imm ≡ y → register h rs ≡ v
    → executed (Store (store_op size) r rs imm) image h p ≡ Asks (act.Store (sum_of x y) size (v % 256 ^ size)) (record h { waits = Done }) p
asks_store image h p size rs r x y v imm known base value immediate stored =
    ap (λ (w : Window). stores_at w (store_op size) (register h rs) (sum_of (register h r) (word imm)) image.privates h p) (shared_base r base)
    ∙ ap₂ (λ (a b : ℕ). Asks (act.Store (sum_of a b) (store_size (store_op size)) (register h rs % 2 ^ (8 * store_size (store_op size)))) (record h { waits = Done }) p) value immediate
    ∙ ap₂ (λ (n k : ℕ). Asks (act.Store (sum_of x y) n k) (record h { waits = Done }) p) (store_sizes size known).0 ((store_sizes size known).1 (register h rs) ∙ ap (λ k. k % 256 ^ size) stored)

module _ (ir : Ir) (image : Contents) (l : Places) (live : (f pc unit t : ℕ) → Type 0) (Midway : (f pc unit : ℕ) → Slots → (sp : ℕ) → Hart → Type 0)
    (left : ℕ) (fr : IrFrame) (below : List IrFrame) (c : Control) (line : ℕ) (u : List ℕ) (h : Hart) (p : Privates)
    (homes : Homes l) (small : length image.code ≤ 2 ^ 23) (m : InFrame ir image l live Midway left fr below 0 c.text c.last h) (same : Private ir u p) (fine : Fine h p)
    (a from offset size : ℕ) (known : IsUnit size) (fits : offset < 2 ^ 32) (la : live fr.function fr.pc 0 a) (lf : live fr.function fr.pc 0 from) (low : l.at fr.function (fr.pc + 1) < 2 ^ 23)
    (line_is : (j : ℕ) → l.at fr.function fr.pc ≤ j → j < l.at fr.function (fr.pc + 1) → line_of image (place j) ≡ line) (passes : Passes live fr.function fr.pc (fr.pc + 1)) where
  abbrev at_hand : Here
  at_hand = here ir image l live Midway left fr below c line u h p

  abbrev at0 : ℕ
  at0 = l.at fr.function fr.pc

  abbrev home : ℕ → Home
  home t = l.home fr.function t

  abbrev ra : ℕ
  ra = get_register (home a) 10

  abbrev rf : ℕ
  rf = get_register (home from) 13

  abbrev at2 : ℕ
  at2 = at0 + length (get_code (home a) 10) + length (get_code (home from) 13)

  -- the address in a register, and the word in another
  record Both (x v : ℕ) : Type 0 where
    pc : ℕ
    registers : ℕ → ℕ
    work : ℕ
    leads : Leads image h p (record h { pc = pc; registers = registers; work = work }) p
    there : pc ≡ place at2
    kept : (n : ℕ) → IsKept n → registers n ≡ h.registers n
    address : registers ra ≡ x
    stored : registers rf ≡ v
    ra_is : IsOperand 10 ra
    rf_is : IsOperand 13 rf

  both : (x v : ℕ) → fr.slots a ≡ Some x → fr.slots from ≡ Some v → Stands image.code at0 (get_code (home a) 10) → Stands image.code (at0 + length (get_code (home a) 10)) (get_code (home from) 13) → Both x v
  both x v e f has has1 =
      let px = held ir image l live Midway left fr below c line u h p homes small m same fine a x la e in
      let pv = held ir image l live Midway left fr below c line u h p homes small m same fine from v lf f in
      let ia = at_home ir image l live Midway m homes a px.is_slot in
      let iv = at_home ir image l live Midway m homes from pv.is_slot in
      let g = gets image small h p at0 (under l below) (home a) 10 fine m.here m.pointer ia has in
      let h1 : Hart = record h { pc = g.pc; registers = g.registers; work = g.work } in
      let g1 = gets image small h1 p (at0 + length (get_code (home a) 10)) (under l below) (home from) 13 (g.leads.fine fine) g.there (g.kept 2 (omega arith) (omega arith) ∙ m.pointer) iv has1 in
      let first : (n : ℕ) → IsKept n → g.registers n ≡ h.registers n = λ n k. g.kept n (not_kept 10 n (omega arith, omega arith) k) (not_eight n k) in
      let good = got_at (under l below) (home a) 10 ia in
      record {
        pc = g1.pc;
        registers = g1.registers;
        work = g1.work;
        leads = then_leads image {i = h1} {j = record h { pc = g1.pc; registers = g1.registers; work = g1.work }} g.leads g1.leads;
        there = g1.there;
        kept = λ n k. g1.kept n (not_kept 13 n (omega arith, omega arith) k) (not_eight n k) ∙ first n k;
        address = g1.kept ra (apart ra good 13 (omega arith, omega arith)) (off ra good) ∙ g.holds ∙ px.stands;
        stored = g1.holds ∙ home_kept (home from) (under l below) h.registers g.registers h.stack iv (λ n k. first n (inr k)) ∙ pv.stands;
        ra_is = good;
        rf_is = got_at (under l below) (home from) 13 iv;
      } where
        apart : (r : ℕ) → IsOperand 10 r → (n : ℕ) → (11 ≤ n) × (n ≤ 17) → r ≢ n
        apart r (inl q) n b z = absurd (omega (arith, q, b.0, z))
        apart r (inr q) n b z = absurd (omega (arith, q.0, b.1, z))

        off : (r : ℕ) → IsOperand 10 r → r ≢ 8
        off r (inl q) z = absurd (omega (arith, q, z))
        off r (inr q) z = absurd (omega (arith, q.0, z))

  -- the store itself, where base and word stand in registers
  asks_at : (at3 r x y v : ℕ) (imm : ℤ) (pc1 work1 : ℕ) (rs : ℕ → ℕ) → Leads image h p (record h { pc = pc1; registers = rs; work = work1 }) p → pc1 ≡ place at3 → ((n : ℕ) → IsKept n → rs n ≡ h.registers n)
      → ((10 ≤ r) × (r ≤ 17)) ⊎ IsSaved r → rs r ≡ x → word imm ≡ y → IsOperand 13 rf → rs rf ≡ v → Stands image.code at3 (Store (store_op size) r rf imm ∷ []) → at0 ≤ at3 → at3 + 1 ≡ l.at fr.function (fr.pc + 1)
      → Does ir image l live Midway left h p (asks (act.Store (sum_of x y) size (v % 256 ^ size)) Nowhere at_hand)
  asks_at at3 r x y v imm pc1 work1 rs leads there kept base value immediate rf_is stored code start next =
      let h1 : Hart = record h { pc = pc1; registers = rs; work = work1 } in
      let w : Hart = record h { pc = pc1; registers = rs; work = work1 + 1 } in
      silent_does ir image l live Midway left fr below c line u h p homes small m same (act.Store (sum_of x y) size (v % 256 ^ size)) w at3 c.text (λ words. refl)
      (then_comes image {i = h1} leads (last image {h = h1} {waiting = record w { waits = Done }} {p = p} {q = p} (Store (store_op size) r rf imm) at3 code.0 there
      (asks_store image (fetched h1) p size rf r x y v imm known base (reads w r (based r base) ∙ value) immediate (reads w rf (operand_some 13 rf (omega arith) rf_is) ∙ stored))))
      (record {
        there = there;
        low = omega (arith, next, low);
        line_is = line_is at3 start (omega (arith, next));
        kept = kept;
        stacks = λ j. refl;
        text_is = m.text_is;
      }) next passes where
        based : (n : ℕ) → ((10 ≤ n) × (n ≤ 17)) ⊎ IsSaved n → n ≢ 0
        based n (inl q) z = absurd (omega (arith, q.0, z))
        based n (inr q) z = absurd (omega (arith, q.0, z))

  module _ (x v : ℕ) (b : Both x v) where
    base : IsOperand 10 ra → ((10 ≤ ra) × (ra ≤ 17)) ⊎ IsSaved ra
    base (inl q) = inl (omega (arith, q), omega (arith, q))
    base (inr q) = inr q

    apart_from : (s n : ℕ) → (n ≡ s) ⊎ IsSaved n → (k : ℕ) → k ≢ s → k < 18 → n ≢ k
    apart_from s n (inl q) k other few z = absurd (other (sym z ∙ q))
    apart_from s n (inr q) k other few z = absurd (omega (arith, q.0, few, z))

    -- the address is added up in register 12
    far : Stands image.code at2 ((number_code 11 offset ++ Register Add 12 ra 11 ∷ []) ++ Store (store_op size) 12 rf (pos 0) ∷ [])
        → at2 + length ((number_code 11 offset ++ Register Add 12 ra 11 ∷ []) ++ Store (store_op size) 12 rf (pos 0) ∷ []) ≡ l.at fr.function (fr.pc + 1)
        → Does ir image l live Midway left h p (asks (act.Store (sum x offset) size (v % 256 ^ size)) Nowhere at_hand)
    far code count =
        let number : List Instr = number_code 11 offset in
        let add : List Instr = Register Add 12 ra 11 ∷ [] in
        let store : List Instr = Store (store_op size) 12 rf (pos 0) ∷ [] in
        let both_code = stands_front image.code at2 (number ++ add) store code in
        let at3 : ℕ = at2 + length number in
        let at4 : ℕ = at2 + length (number ++ add) in
        let e4 : at3 + 1 ≡ at4 = omega (arith, length-append number add) in
        let h1 : Hart = record h { pc = b.pc; registers = b.registers; work = b.work } in
        let g = numbers image small h1 p at2 11 offset b.there (omega arith) fits (stands_front image.code at2 number add both_code) in
        let h2 : Hart = record h { pc = g.pc; registers = g.registers; work = g.work } in
        let left_word : register h2 ra ≡ x = reads h2 ra (operand_some 10 ra (omega arith) b.ra_is) ∙ g.kept ra (apart_from 10 ra b.ra_is 11 (omega arith) (omega arith)) (apart_from 10 ra b.ra_is 8 (omega arith) (omega arith)) ∙ b.address in
        let sums : ℕ → ℕ = put g.registers 12 (sum_of x offset) in
        let h3 : Hart = record h { pc = g.pc + 4; registers = sums; work = g.work + 1 } in
        let added : Leads image h2 p h3 p = one image {h = h2} {next = h3} {p = p} {q = p} small (Register Add 12 ra 11) at3 (stands_back image.code at2 number add both_code).0 g.there
        (ap₂ (λ (x y : ℕ). Goes (moved (with_register 12 (sum_of x y) (fetched h2))) p) (fetched_register h2 ra ∙ left_word) g.holds) in
        let same_place : sum_of (sum_of x offset) 0 ≡ sum x offset = omega arith in
        subst (λ n. Does ir image l live Midway left h p (asks (act.Store n size (v % 256 ^ size)) Nowhere at_hand)) same_place
        (asks_at at4 12 (sum_of x offset) 0 v (pos 0) (g.pc + 4) (g.work + 1) sums (then_leads image {i = h1} {j = h3} b.leads (then_leads image {i = h2} {j = h3} g.leads added)) (omega (arith, g.there, e4))
        (λ n q. put_other g.registers 12 (sum_of x offset) n (not_kept 12 n (omega arith, omega arith) q) ∙ g.kept n (not_kept 11 n (omega arith, omega arith) q) (not_eight n q) ∙ b.kept n q)
        (inl (omega arith, omega arith)) refl refl b.rf_is
        (put_other g.registers 12 (sum_of x offset) rf (apart_from 13 rf b.rf_is 12 (omega arith) (omega arith)) ∙ g.kept rf (apart_from 13 rf b.rf_is 11 (omega arith) (omega arith)) (apart_from 13 rf b.rf_is 8 (omega arith) (omega arith)) ∙ b.stored)
        (stands_back image.code at2 (number ++ add) store code) (omega arith) (omega (arith, count, length-append (number ++ add) store)))

    either : (d : Bool) → (high_part offset == 0) ≡ d
        → Stands image.code at2 (if d then Store (store_op size) ra rf (low_part offset) ∷ [] else ((if d then Immediate Addi 12 ra (low_part offset) ∷ [] else (number_code 11 offset ++ Register Add 12 ra 11 ∷ [])) ++ Store (store_op size) 12 rf (pos 0) ∷ []))
        → at2 + length (if d then Store (store_op size) ra rf (low_part offset) ∷ [] else ((if d then Immediate Addi 12 ra (low_part offset) ∷ [] else (number_code 11 offset ++ Register Add 12 ra 11 ∷ [])) ++ Store (store_op size) 12 rf (pos 0) ∷ [])) ≡ l.at fr.function (fr.pc + 1)
        → Does ir image l live Midway left h p (asks (act.Store (sum x offset) size (v % 256 ^ size)) Nowhere at_hand)
    either true none code count =
        asks_at at2 ra x offset v (low_part offset) b.pc b.work b.registers b.leads b.there b.kept (base b.ra_is) b.address (immediate_is offset fits none) b.rf_is b.stored code (omega arith) (omega (arith, count))
    either false none code count = far code count

  abbrev storing : List Instr
  storing =
      if high_part offset == 0 then Store (store_op size) ra rf (low_part offset) ∷ []
      else ((if high_part offset == 0 then Immediate Addi 12 ra (low_part offset) ∷ [] else (number_code 11 offset ++ Register Add 12 ra 11 ∷ [])) ++ Store (store_op size) 12 rf (pos 0) ∷ [])

  pub store_does : Stands image.code at0 (store_code (home a) offset size (home from)) → at0 + length (store_code (home a) offset size (home from)) ≡ l.at fr.function (fr.pc + 1)
      → Does ir image l live Midway left h p (step_op (op.Store a offset size from) at_hand)
  store_does has next =
      slot_does ir image l live Midway left fr below c line u h p a _ (λ x e.
      slot_does ir image l live Midway left fr below c line u h p from _ (λ v f. stores x v e f has next)) where
        stores : (x v : ℕ) → fr.slots a ≡ Some x → fr.slots from ≡ Some v → Stands image.code at0 (get_code (home a) 10 ++ (get_code (home from) 13 ++ storing))
            → at0 + length (get_code (home a) 10 ++ (get_code (home from) 13 ++ storing)) ≡ l.at fr.function (fr.pc + 1)
            → Does ir image l live Midway left h p (asks (act.Store (sum x offset) size (v % 256 ^ size)) Nowhere at_hand)
        stores x v e f has next =
            let rest = stands_back image.code at0 (get_code (home a) 10) (get_code (home from) 13 ++ storing) has in
            let b = both x v e f (stands_front image.code at0 (get_code (home a) 10) (get_code (home from) 13 ++ storing) has) (stands_front image.code (at0 + length (get_code (home a) 10)) (get_code (home from) 13) storing rest) in
            either x v b (high_part offset == 0) refl (stands_back image.code (at0 + length (get_code (home a) 10)) (get_code (home from) 13) storing rest)
            (omega (arith, next, length-append (get_code (home a) 10) (get_code (home from) 13 ++ storing), length-append (get_code (home from) 13) storing))
