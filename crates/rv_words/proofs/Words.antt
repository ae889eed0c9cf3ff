-- Harts follow operations on two words.
use Rattle.std.proofs.Common.{◌≡◌, ◌≢◌, ℕ, ◌+◌, ◌^◌, ◌<◌, ◌≤◌, ◌==◌, Bool, true, false, not, if◌then◌else◌, pos, List, [], ◌++◌, length, Option, Some, None, refl, sym, ap, ap₂, ◌∙◌, arith, subst, length-append}
use Rattle.std.proofs.lemmas.Bool.Decides.{nat_tests}
use Rattle.al_base.specs.Arith.{applied, divides}
use Rattle.al_base.specs.declared.arith.Op.{Op as Arith}
use Rattle.al_base.specs.declared.trap.Trap.TheVariants as trap
use Rattle.al_event.specs.declared.act.Act.TheVariants as act
use Rattle.rv_isa.specs.declared.image.Contents.{Contents}
use Rattle.rv_isa.specs.declared.instr.Instr.{Instr}
use Rattle.rv_isa.specs.declared.instr.Instr.TheVariants.{Branch}
use Rattle.rv_isa.specs.declared.instr.BranchOp.TheVariants.{Bne}
use Rattle.rv_exec.specs.Hart.{Hart, register, moved}
use Rattle.rv_exec.specs.Calls.{Privates, Goes}
use Rattle.rv_exec.specs.Machine.{asked, line_of}
use Rattle.rv_exec.specs.Step.{jumps_by}
use Rattle.al_ir.specs.declared.ir.Ir.{Ir}
use Rattle.al_ir.specs.Control.{Slots, Frame as IrFrame, Control}
use Rattle.al_ir.specs.Step.{Next, step_op, or_divides, sets, traps, word_kind}
use Rattle.al_ir.specs.declared.op.Op.TheVariants as op
use Rattle.rv_code.specs.declared.home.Home.{Home}
use Rattle.rv_code.specs.Homes.{value_at, get_code, get_register, put_code, put_register}
use Rattle.rv_code.specs.Jumps.{place}
use Rattle.rv_code.specs.Runs.{Stands, Fine, Leads, Comes}
use Rattle.rv_code.proofs.Leading.{stands_front, stands_back, stays, then_comes, one, fetched}
use Rattle.rv_code.proofs.Jumps.{ahead}
use Rattle.rv_code.proofs.Numbers.{trap_asks, trapped}
use Rattle.rv_code.proofs.Operands.{operands}
use Rattle.rv_form.specs.Words.{word_instrs, divisor_test, tested, word_code}
use Rattle.rv_match.specs.Match.{Private, InFrame}
use Rattle.rv_match.specs.Places.{Places, Homes, Writes, under}
use Rattle.rv_match.proofs.Keeping.{at_home}
use Rattle.rv_match.proofs.Steps.{Does, here, slot_does, trap_does, sets_does, Held, held}
use Rattle.rv_words.proofs.Computing.{Bridge, computes_behind}
use Rattle.rv_words.proofs.Instructions.{word_computes, not_tested, is_tested}
use Rattle.rv_words.proofs.Values.{word_value, word_is, none_divides, some_divides}

module _ (image : Contents) (small : length image.code ≤ 2 ^ 23) (p : Privates) (b at : ℕ) (low : at < 2 ^ 23) (has : Stands image.code at (divisor_test b)) where
  -- a divisor that is not 0 leaves the trap out
  pub goes_over : (h : Hart) → h.pc ≡ place at → register h b ≢ 0 → Leads image h p (record h { pc = h.pc + 16; work = h.work + 1 }) p
  goes_over h here some =
      let e : not (register h b == 0) ≡ true = ap not (off (register h b) some) in
      one image small (Branch Bne b 0 (pos 16)) at has.0 here
      (ap (λ (t : Bool). if t then jumps_by (pos 16) (fetched h) (fetched h) p else Goes (moved (fetched h)) p) e
      ∙ ahead image small (fetched h) p 16 (omega arith) (omega arith) (omega (arith, here, low))) where
        off : (n : ℕ) → n ≢ 0 → (n == 0) ≡ false
        off n other = grind (arith, nat_tests, other)

  pub asks_trap : (h : Hart) → h.pc ≡ place at → register h b ≡ 0
      → (waiting : Hart) × Comes image h p (asked image (act.Trap trap.Divide) waiting p) × (waiting.pc ≡ place (at + 3))
  asks_trap h here none =
      let h1 : Hart = record h { pc = h.pc + 4; work = h.work + 1 } in
      let e : not (register h b == 0) ≡ false = ap (λ n. not (n == 0)) none in (
        trapped image small trap.Divide h1 p (at + 1) (omega (arith, here)),
        then_comes image {i = h1} (one image {h = h} {next = h1} {p = p} {q = p} small (Branch Bne b 0 (pos 16)) at has.0 here
            (ap (λ (t : Bool). if t then jumps_by (pos 16) (fetched h) (fetched h) p else Goes (moved (fetched h)) p) e))
            (trap_asks image small trap.Divide h1 p (at + 1) (omega (arith, here)) has.1),
        omega (arith, here),
      )

module _ (ir : Ir) (image : Contents) (l : Places) (live : (f pc unit t : ℕ) → Type 0) (Midway : (f pc unit : ℕ) → Slots → (sp : ℕ) → Hart → Type 0)
    (left : ℕ) (fr : IrFrame) (below : List IrFrame) (c : Control) (line : ℕ) (u : List ℕ) (h : Hart) (p : Privates)
    (homes : Homes l) (small : length image.code ≤ 2 ^ 23) (m : InFrame ir image l live Midway left fr below 0 c.text c.last h) (same : Private ir u p) (fine : Fine h p) where
  divided_does : (o : Option ℕ) (k : ℕ → Next) → (o ≡ None → Does ir image l live Midway left h p (traps trap.Divide (here ir image l live Midway left fr below c line u h p)))
      → ((z : ℕ) → o ≡ Some z → Does ir image l live Midway left h p (k z)) → Does ir image l live Midway left h p (or_divides (here ir image l live Midway left fr below c line u h p) o k)
  divided_does (Some z) k none some = some z refl
  divided_does None k none some = none refl

  module _ (o : Arith) (signed : Bool) (to a b : ℕ) where
    abbrev at0 : ℕ
    at0 = l.at fr.function fr.pc

    abbrev home : ℕ → Home
    home t = l.home fr.function t

    abbrev rest : List Instr
    rest = word_instrs o signed (put_register (home to) 10) (get_register (home a) 10) (get_register (home b) 11) ++ put_code (home to) 10

    abbrev at2 : ℕ
    at2 = at0 + length (get_code (home a) 10) + length (get_code (home b) 11)

    abbrev ra : ℕ
    ra = get_register (home a) 10

    abbrev rb : ℕ
    rb = get_register (home b) 11

    abbrev middle : List Instr
    middle = word_instrs o signed (put_register (home to) 10) ra rb

    abbrev at1 : ℕ
    at1 = at0 + length (get_code (home a) 10)

    abbrev test : List Instr
    test = tested o rb

    -- the whole of the operation
    module _ (has : Stands image.code at0 (word_code o signed (home to) (home a) (home b))) (next : at0 + length (word_code o signed (home to) (home a) (home b)) ≡ l.at fr.function (fr.pc + 1))
        (low : l.at fr.function (fr.pc + 1) < 2 ^ 23) (line_is : (j : ℕ) → at0 ≤ j → j < l.at fr.function (fr.pc + 1) → line_of image (place j) ≡ line)
        (la : live fr.function fr.pc 0 a) (lb : live fr.function fr.pc 0 b) (lt : to < l.slots fr.function) (apart : Writes l live fr.function fr.pc to) where
      first : Stands image.code at0 (get_code (home a) 10)
      first = stands_front image.code at0 (get_code (home a) 10) (get_code (home b) 11 ++ (test ++ rest)) has

      code1 : Stands image.code at1 (get_code (home b) 11 ++ (test ++ rest))
      code1 = stands_back image.code at0 (get_code (home a) 10) (get_code (home b) 11 ++ (test ++ rest)) has

      second : Stands image.code at1 (get_code (home b) 11)
      second = stands_front image.code at1 (get_code (home b) 11) (test ++ rest) code1

      code2 : Stands image.code at2 (test ++ rest)
      code2 = stands_back image.code at1 (get_code (home b) 11) (test ++ rest) code1

      lengths : at2 + length test + length middle + length (put_code (home to) 10) ≡ l.at fr.function (fr.pc + 1)
      lengths = omega (arith, next, length-append (get_code (home a) 10) (get_code (home b) 11 ++ (test ++ rest)), length-append (get_code (home b) 11) (test ++ rest), length-append test rest, length-append middle (put_code (home to) 10))

      module _ (x y : ℕ) (ex : fr.slots a ≡ Some x) (ey : fr.slots b ≡ Some y) where
        px : Held ir image l live Midway left fr below c line u h p homes small m same fine a x
        px = held ir image l live Midway left fr below c line u h p homes small m same fine a x la ex

        py : Held ir image l live Midway left fr below c line u h p homes small m same fine b y
        py = held ir image l live Midway left fr below c line u h p homes small m same fine b y lb ey

        -- a word is computed
        computed_does : (z : ℕ) → applied o (word_kind signed) x y ≡ Some z
            → Does ir image l live Midway left h p (sets to z (here ir image l live Midway left fr below c line u h p))
        computed_does z e = on (divides o) refl where
          value : word_value o signed (value_at (home a) (under l below) h.registers h.stack) (value_at (home b) (under l below) h.registers h.stack) ≡ z
          value = ap₂ (word_value o signed) px.stands py.stands ∙ word_is o signed x y z px.word py.word e

          -- the code behind the test
          behind : (at3 : ℕ) → at2 + length test ≡ at3 → Stands image.code at3 rest
              → ((h1 : Hart) → h1.pc ≡ place at2 → register h1 rb ≡ value_at (home b) (under l below) h.registers h.stack → Bridge image small h p fine at0 (under l below) m.here m.pointer h1 at3)
              → Does ir image l live Midway left h p (sets to z (here ir image l live Midway left fr below c line u h p))
          behind at3 place3 code3 bridge =
              sets_does ir image l live Midway left fr below c line u h p homes small m same fine to z _ _ lt value (omega (arith, lengths, place3)) apart
              (computes_behind image small h p fine at0 (under l below) m.here m.pointer (word_computes o signed) (home to) (home a) (home b)
              (at_home ir image l live Midway m homes to lt) (at_home ir image l live Midway m homes a px.is_slot) (at_home ir image l live Midway m homes b py.is_slot)
              first second at3 bridge code3)

          on : (d : Bool) → divides o ≡ d → Does ir image l live Midway left h p (sets to z (here ir image l live Midway left fr below c line u h p))
          on false d =
              let none : test ≡ [] = not_tested o rb d in
              behind at2 (ap (λ (t : List Instr). at2 + length t) none ∙ omega arith) (subst (λ (t : List Instr). Stands image.code at2 (t ++ rest)) none code2)
              (λ h1 there right. record { pc = h1.pc; work = h1.work; leads = stays image; is = there })
          on true d =
              let some : test ≡ divisor_test rb = is_tested o rb d in
              let code3 : Stands image.code at2 (divisor_test rb ++ rest) = subst (λ (t : List Instr). Stands image.code at2 (t ++ rest)) some code2 in
              let count : length test ≡ 4 = ap (λ (t : List Instr). length t) some in
              behind (at2 + 4) (omega (arith, count)) (stands_back image.code at2 (divisor_test rb) rest code3)
              (λ h1 there right. record {
                pc = h1.pc + 16;
                work = h1.work + 1;
                leads = goes_over image small p rb at2 (omega (arith, lengths, count, low)) (stands_front image.code at2 (divisor_test rb) rest code3) h1 there
                    (λ q. some_divides o signed x y z py.word e d (sym py.stands ∙ sym right ∙ q));
                is = omega (arith, there);
              })

        -- the divisor is 0
        traps_does : applied o (word_kind signed) x y ≡ None → Does ir image l live Midway left h p (traps trap.Divide (here ir image l live Midway left fr below c line u h p))
        traps_does e =
            let q = none_divides o signed x y py.word e in
            let some : test ≡ divisor_test rb = is_tested o rb q.0 in
            let count : length test ≡ 4 = ap (λ (t : List Instr). length t) some in
            let code3 : Stands image.code at2 (divisor_test rb ++ rest) = subst (λ (t : List Instr). Stands image.code at2 (t ++ rest)) some code2 in
            let r = operands image small h p fine at0 (under l below) m.here m.pointer (home a) (home b)
            (at_home ir image l live Midway m homes a px.is_slot) (at_home ir image l live Midway m homes b py.is_slot) first second in
            let h1 : Hart = record h { pc = r.ready.pc; registers = r.ready.registers; work = r.ready.work } in
            let w = asks_trap image small p rb at2 (omega (arith, lengths, count, low)) (stands_front image.code at2 (divisor_test rb) rest code3) h1 r.ready.there (r.right h1 ∙ py.stands ∙ q.1) in
            trap_does ir image l live Midway left fr below c line u h p trap.Divide w.0 (then_comes image r.ready.leads w.1)
            (ap (line_of image) w.2 ∙ line_is (at2 + 3) (omega arith) (omega (arith, lengths, count))) same

      pub word_does : Does ir image l live Midway left h p (step_op (op.Word o signed to a b) (here ir image l live Midway left fr below c line u h p))
      word_does =
          slot_does ir image l live Midway left fr below c line u h p a _ (λ x ex.
          slot_does ir image l live Midway left fr below c line u h p b _ (λ y ey.
          divided_does (applied o (word_kind signed) x y) _ (traps_does x y ex ey) (computed_does x y ex ey)))
