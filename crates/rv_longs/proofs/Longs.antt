-- Harts follow operations on two pairs of words.
use Rattle.std.proofs.Common.{◌≡◌, ◌≢◌, ℕ, ◌+◌, ◌/◌, ◌%◌, ◌^◌, ◌<◌, ◌≤◌, ◌==◌, Bool, true, false, ◌&&◌, nat_lt, if◌then◌else◌, List, [], ◌∷◌, ◌++◌, length, Option, Some, None, refl, sym, ap, ap₂, ◌∙◌, arith, subst, length-append}
use Rattle.std.proofs.lemmas.Bool.Decides.{nat_tests}
use Rattle.al_base.specs.Arith.{applied}
use Rattle.al_base.specs.declared.arith.Op.{Op as Arith}
use Rattle.al_base.specs.declared.arith.Op.TheVariants as arith
use Rattle.al_base.specs.declared.trap.Trap.TheVariants as trap
use Rattle.al_event.specs.declared.act.Act.TheVariants as act
use Rattle.rv_isa.specs.declared.image.Contents.{Contents}
use Rattle.rv_isa.specs.declared.instr.Instr.{Instr}
use Rattle.rv_exec.specs.Hart.{Hart}
use Rattle.rv_exec.specs.Calls.{Privates}
use Rattle.rv_exec.specs.Machine.{asked, line_of}
use Rattle.rv_long.specs.Long.{result_of}
use Rattle.rv_long.specs.declared.op.LongOp.{LongOp}
use Rattle.rv_long.specs.declared.op.LongOp.TheVariants.{Mul, Div, DivU, Rem, RemU, Sll, Srl, Sra}
use Rattle.al_ir.specs.Bounds.{most_jumps}
use Rattle.al_ir.specs.declared.ir.Ir.{Ir}
use Rattle.al_ir.specs.declared.op.Op.TheVariants as op
use Rattle.al_ir.specs.Control.{Slots, Frame as IrFrame, Control}
use Rattle.al_ir.specs.Step.{Next, step_op, or_divides, traps, long_kind, long_words, pair}
use Rattle.rv_code.specs.declared.home.Home.{Home}
use Rattle.rv_code.specs.declared.home.Home.TheVariants.{Frame, Saved}
use Rattle.rv_code.specs.Homes.{bring, leave}
use Rattle.rv_code.specs.Jumps.{place}
use Rattle.rv_code.specs.Runs.{Stands, Fine, Comes}
use Rattle.rv_code.proofs.Leading.{stands_front, stands_back}
use Rattle.rv_form.specs.Longs.{division_of, straight, routine_code, divide_instrs, long_instrs, computed_or_called, leave_result, long_op_code}
use Rattle.rv_match.specs.Match.{Private, InFrame}
use Rattle.rv_match.specs.Places.{Places, Homes, jumps_before}
use Rattle.rv_match.proofs.Steps.{Does, here, slot_does, trap_does, held}
use Rattle.rv_pairs.specs.Several.{WritesEach}
use Rattle.rv_pairs.proofs.Settling.{Settled, settled_does, Worked, pair_settles, word_settles}
use Rattle.rv_pairs.proofs.Bringing.{stands_some, straight_more, Four, four}
use Rattle.rv_pairs.proofs.Numbers.{products_same, shifts_same, pair_below}
use Rattle.rv_pairs.proofs.Inline.{Gives, IsInLine, in_line_straight, in_line_spares, in_line_gives}
use Rattle.rv_pairs.proofs.Routines.{routine_more, division_traps, division_more}

-- ---- code that is there, and what it gives

leave_some : (j : Home) (rs : ℕ) → 0 < length (leave j rs)
leave_some (Saved r) rs = omega arith
leave_some (Frame k) rs = on (nat_lt k 512) _ _ _ where
  on : (t : Bool) (i : Instr) (is : List Instr) (j : Instr) → 0 < length (if t then i ∷ [] else j ∷ is)
  on true i is j = omega arith
  on false i is j = omega arith

result_some : (o : Arith) (to to1 : Home) → 0 < length (leave_result o to to1)
result_some arith.Lt to to1 = leave_some to 10
result_some arith.Le to to1 = leave_some to 10
result_some arith.Eq to to1 = leave_some to 10
result_some arith.Ne to to1 = leave_some to 10
result_some arith.Add to to1 = omega (arith, leave_some to 10, length-append (leave to 10) (leave to1 11))
result_some arith.Sub to to1 = omega (arith, leave_some to 10, length-append (leave to 10) (leave to1 11))
result_some arith.Mul to to1 = omega (arith, leave_some to 10, length-append (leave to 10) (leave to1 11))
result_some arith.Div to to1 = omega (arith, leave_some to 10, length-append (leave to 10) (leave to1 11))
result_some arith.Rem to to1 = omega (arith, leave_some to 10, length-append (leave to 10) (leave to1 11))
result_some arith.And to to1 = omega (arith, leave_some to 10, length-append (leave to 10) (leave to1 11))
result_some arith.Or to to1 = omega (arith, leave_some to 10, length-append (leave to 10) (leave to1 11))
result_some arith.Xor to to1 = omega (arith, leave_some to 10, length-append (leave to 10) (leave to1 11))
result_some arith.Shl to to1 = omega (arith, leave_some to 10, length-append (leave to 10) (leave to1 11))
result_some arith.Shr to to1 = omega (arith, leave_some to 10, length-append (leave to 10) (leave to1 11))

-- a product and a shift to the left are the same without signs
product_is : (s : Bool) (x y z : ℕ) → applied arith.Mul (long_kind s) x y ≡ Some z → result_of Mul x y ≡ Some z
product_is true x y z e = e
product_is false x y z e = ap Some (products_same false x y) ∙ e

left_shift_is : (s : Bool) (x y z : ℕ) → applied arith.Shl (long_kind s) x y ≡ Some z → result_of Sll x y ≡ Some z
left_shift_is true x y z e = e
left_shift_is false x y z e = ap Some (shifts_same false x (y % 2 ^ 64 % 64)) ∙ e

-- nothing is divided by 0
nonzero : (y v z : ℕ) → (if true && (y % 2 ^ 64 == 0) then None else Some v) ≡ Some z → y ≢ 0
nonzero y v z e w = on (y % 2 ^ 64 == 0) (grind (arith, nat_tests, w)) e where
  on : (q : Bool) → q ≡ true → (if true && q then None else Some v) ≡ Some z → ⊥
  on q g e = absurd (cc)

zero_is : (y v : ℕ) → y < 2 ^ 64 → (if true && (y % 2 ^ 64 == 0) then None else Some v) ≡ None → y ≡ 0
zero_is y v b e = on (y % 2 ^ 64 == 0) refl e where
  on : (q : Bool) → (y % 2 ^ 64 == 0) ≡ q → (if true && q then None else Some v) ≡ None → y ≡ 0
  on true g e = let z : y % 2 ^ 64 ≡ 0 = grind (arith, nat_tests, g) in omega (arith, z, b)
  on false g e = absurd (cc)

module _ (ir : Ir) (image : Contents) (l : Places) (live : (f pc unit t : ℕ) → Type 0) (Midway : (f pc unit : ℕ) → Slots → (sp : ℕ) → Hart → Type 0)
    (left : ℕ) (fr : IrFrame) (below : List IrFrame) (c : Control) (line : ℕ) (u : List ℕ) (h : Hart) (p : Privates)
    (homes : Homes l) (small : length image.code ≤ 2 ^ 23) (m : InFrame ir image l live Midway left fr below 0 c.text c.last h) (same : Private ir u p) (fine : Fine h p) where
  abbrev at0 : ℕ
  at0 = l.at fr.function fr.pc

  abbrev home : ℕ → Home
  home t = l.home fr.function t

  abbrev Works : (end made : ℕ) → Type 0
  Works end made = Worked ir image l live Midway left fr below c line u h p homes small m same fine end made

  -- so many jumps at most
  abbrev with_more : (end made more : ℕ) → made ≤ more → Works end made → Works end more
  with_more end made more le k = record { pc = k.pc; registers = k.registers; jumps = k.jumps; work = k.work; leads = k.leads; there = k.there; kept = k.kept; counted = omega (arith, k.counted, le) }

  abbrev FourAt : (end xl xh yl yh : ℕ) → Type 0
  FourAt end xl xh yl yh = Four ir image l live Midway left fr below c line u h p homes small m same fine end xl xh yl yh

  -- ---- the result goes to its slots

  result_settles : (o : Arith) (to z end : ℕ) (k : Works end 2) → jumps_before ir fr.function fr.pc + 2 ≤ jumps_before ir fr.function (fr.pc + 1) → to + length (long_words o 0) ≤ l.slots fr.function
      → WritesEach l live fr.function fr.pc to (length (long_words o 0)) → Gives o z k.registers → Stands image.code end (leave_result o (home to) (home (to + 1)))
      → end + length (leave_result o (home to) (home (to + 1))) ≡ l.at fr.function (fr.pc + 1)
      → Settled ir image l live Midway left fr below c line u h p homes small m same fine to (long_words o z)
  result_settles o to z end k room lt writes g has next = on o lt writes g has next where
    two : (to + 2 ≤ l.slots fr.function) → WritesEach l live fr.function fr.pc to 2 → (k.registers 10 ≡ z % 2 ^ 32) × (k.registers 11 ≡ z / 2 ^ 32) → Stands image.code end (leave (home to) 10 ++ leave (home (to + 1)) 11)
        → end + length (leave (home to) 10 ++ leave (home (to + 1)) 11) ≡ l.at fr.function (fr.pc + 1)
        → Settled ir image l live Midway left fr below c line u h p homes small m same fine to (z % 2 ^ 32 ∷ z / 2 ^ 32 ∷ [])
    two lt writes g has next = pair_settles ir image l live Midway left fr below c line u h p homes small m same fine to end 2 k room (z % 2 ^ 32) (z / 2 ^ 32) g.0 g.1 (omega (arith, lt)) writes has next

    one : (to + 1 ≤ l.slots fr.function) → WritesEach l live fr.function fr.pc to 1 → k.registers 10 ≡ z → Stands image.code end (leave (home to) 10) → end + length (leave (home to) 10) ≡ l.at fr.function (fr.pc + 1)
        → Settled ir image l live Midway left fr below c line u h p homes small m same fine to (z ∷ [])
    one lt writes g has next = word_settles ir image l live Midway left fr below c line u h p homes small m same fine to end 2 k room z g (omega (arith, lt)) writes has next

    on : (o : Arith) → to + length (long_words o 0) ≤ l.slots fr.function → WritesEach l live fr.function fr.pc to (length (long_words o 0)) → Gives o z k.registers
        → Stands image.code end (leave_result o (home to) (home (to + 1))) → end + length (leave_result o (home to) (home (to + 1))) ≡ l.at fr.function (fr.pc + 1)
        → Settled ir image l live Midway left fr below c line u h p homes small m same fine to (long_words o z)
    on arith.Lt lt writes g has next = one lt writes g has next
    on arith.Le lt writes g has next = one lt writes g has next
    on arith.Eq lt writes g has next = one lt writes g has next
    on arith.Ne lt writes g has next = one lt writes g has next
    on arith.Add lt writes g has next = two lt writes g has next
    on arith.Sub lt writes g has next = two lt writes g has next
    on arith.Mul lt writes g has next = two lt writes g has next
    on arith.Div lt writes g has next = two lt writes g has next
    on arith.Rem lt writes g has next = two lt writes g has next
    on arith.And lt writes g has next = two lt writes g has next
    on arith.Or lt writes g has next = two lt writes g has next
    on arith.Xor lt writes g has next = two lt writes g has next
    on arith.Shl lt writes g has next = two lt writes g has next
    on arith.Shr lt writes g has next = two lt writes g has next

  -- ---- what stands between operands and result

  module _ (at1 xl xh yl yh : ℕ) (q : FourAt at1 xl xh yl yh) (within : at1 ≤ length image.code) where
    abbrev x : ℕ
    x = pair xl xh

    abbrev y : ℕ
    y = pair yl yh

    abbrev r : ℕ → ℕ
    r = q.worked.registers

    left_is : pair (r 10) (r 11) ≡ x
    left_is = ap₂ pair q.ten q.eleven

    right_is : pair (r 12) (r 13) ≡ y
    right_is = ap₂ pair q.twelve q.thirteen

    in_line : (o : Arith) (s : Bool) (z : ℕ) → IsInLine o → Stands image.code at1 (long_instrs o s) → applied o (long_kind s) x y ≡ Some z
        → (k : Works (at1 + length (long_instrs o s)) 2) × Gives o z k.registers
    in_line o s z i has e =
        let good = (q.worked.leads.fine fine).hart in
        let g = straight_more ir image l live Midway left fr below c line u h p homes small m same fine at1 0 q.worked (long_instrs o s) (in_line_straight o s i) (in_line_spares o s i) has in (
          with_more (at1 + length (long_instrs o s)) 0 2 (omega arith) g.0,
          subst (λ f. Gives o z f) (sym g.1) (in_line_gives r (good.registers 10) (good.registers 11) (good.registers 12) (good.registers 13) o s i z (ap₂ (applied o (long_kind s)) left_is right_is ∙ e)),
        )

    by_routine : (d : LongOp) (z : ℕ) → Stands image.code at1 (straight d) → result_of d x y ≡ Some z
        → (k : Works (at1 + length (straight d)) 2) × ((k.registers 10 ≡ z % 2 ^ 32) × (k.registers 11 ≡ z / 2 ^ 32))
    by_routine d z has e =
        let g = routine_more ir image l live Midway left fr below c line u h p homes small m same fine at1 0 q.worked d z has within (ap₂ (result_of d) left_is right_is ∙ e) in (
          with_more (at1 + length (straight d)) 0 2 (omega arith) g.to,
          (g.low, g.high),
        )

    module _ (few : jumps_before ir fr.function fr.pc ≤ most_jumps) (low : at1 + 7 < 2 ^ 23) where
      by_call : (d : LongOp) (to z : ℕ) → Stands image.code at1 (divide_instrs to) → Stands image.code to (routine_code d) → y ≢ 0 → result_of d x y ≡ Some z
          → (k : Works (at1 + 7) 2) × ((k.registers 10 ≡ z % 2 ^ 32) × (k.registers 11 ≡ z / 2 ^ 32))
      by_call d to z has routine some e =
          let g = division_more ir image l live Midway left fr below c line u h p homes small m same fine at1 to q.worked has low d routine few (λ w. some (sym right_is ∙ w)) z (ap₂ (result_of d) left_is right_is ∙ e) in
          (g.0, (g.1, g.2))

  module _ (at1 xl xh yl yh : ℕ) (q : FourAt at1 xl xh yl yh) (within : at1 ≤ length image.code) (few : jumps_before ir fr.function fr.pc ≤ most_jumps) (routine : LongOp → ℕ) where
    -- all operations
    middle_does : (o : Arith) (s : Bool) (z : ℕ) → Stands image.code at1 (computed_or_called routine (division_of o s) o s) → at1 + length (computed_or_called routine (division_of o s) o s) < 2 ^ 23
        → ((d : LongOp) → division_of o s ≡ Some d → Stands image.code (routine d) (routine_code d)) → applied o (long_kind s) (pair xl xh) (pair yl yh) ≡ Some z
        → (k : Works (at1 + length (computed_or_called routine (division_of o s) o s)) 2) × Gives o z k.registers
    middle_does arith.Add s z has low routines e = in_line at1 xl xh yl yh q within arith.Add s z tt has e
    middle_does arith.Sub s z has low routines e = in_line at1 xl xh yl yh q within arith.Sub s z tt has e
    middle_does arith.And s z has low routines e = in_line at1 xl xh yl yh q within arith.And s z tt has e
    middle_does arith.Or s z has low routines e = in_line at1 xl xh yl yh q within arith.Or s z tt has e
    middle_does arith.Xor s z has low routines e = in_line at1 xl xh yl yh q within arith.Xor s z tt has e
    middle_does arith.Lt s z has low routines e = in_line at1 xl xh yl yh q within arith.Lt s z tt has e
    middle_does arith.Le s z has low routines e = in_line at1 xl xh yl yh q within arith.Le s z tt has e
    middle_does arith.Eq s z has low routines e = in_line at1 xl xh yl yh q within arith.Eq s z tt has e
    middle_does arith.Ne s z has low routines e = in_line at1 xl xh yl yh q within arith.Ne s z tt has e
    middle_does arith.Mul s z has low routines e = by_routine at1 xl xh yl yh q within Mul z has (product_is s (pair xl xh) (pair yl yh) z e)
    middle_does arith.Shl s z has low routines e = by_routine at1 xl xh yl yh q within Sll z has (left_shift_is s (pair xl xh) (pair yl yh) z e)
    middle_does arith.Shr true z has low routines e = by_routine at1 xl xh yl yh q within Sra z has e
    middle_does arith.Shr false z has low routines e = by_routine at1 xl xh yl yh q within Srl z has e
    middle_does arith.Div true z has low routines e = by_call at1 xl xh yl yh q within few low Div (routine Div) z has (routines Div refl) (nonzero (pair yl yh) _ z e) e
    middle_does arith.Div false z has low routines e = by_call at1 xl xh yl yh q within few low DivU (routine DivU) z has (routines DivU refl) (nonzero (pair yl yh) _ z e) e
    middle_does arith.Rem true z has low routines e = by_call at1 xl xh yl yh q within few low Rem (routine Rem) z has (routines Rem refl) (nonzero (pair yl yh) _ z e) e
    middle_does arith.Rem false z has low routines e = by_call at1 xl xh yl yh q within few low RemU (routine RemU) z has (routines RemU refl) (nonzero (pair yl yh) _ z e) e

    traps_by : (to : ℕ) → Stands image.code at1 (divide_instrs to) → at1 + 7 < 2 ^ 23 → pair yl yh ≡ 0
        → (waiting : Hart) × Comes image h p (asked image (act.Trap trap.Divide) waiting p) × (waiting.pc ≡ place (at1 + 4))
    traps_by to has low none =
        division_traps ir image l live Midway left fr below c line u h p homes small m same fine at1 to q.worked has low (ap₂ pair q.twelve q.thirteen ∙ none)

    -- where the divisor is 0
    divisor_traps : (o : Arith) (s : Bool) → Stands image.code at1 (computed_or_called routine (division_of o s) o s) → at1 + length (computed_or_called routine (division_of o s) o s) < 2 ^ 23
        → pair yl yh < 2 ^ 64 → applied o (long_kind s) (pair xl xh) (pair yl yh) ≡ None
        → (waiting : Hart) × Comes image h p (asked image (act.Trap trap.Divide) waiting p) × (waiting.pc ≡ place (at1 + 4)) × (4 < length (computed_or_called routine (division_of o s) o s))
    divisor_traps arith.Div true has low fits e = let t = traps_by (routine Div) has low (zero_is (pair yl yh) _ fits e) in (t.0, t.1, t.2, omega arith)
    divisor_traps arith.Div false has low fits e = let t = traps_by (routine DivU) has low (zero_is (pair yl yh) _ fits e) in (t.0, t.1, t.2, omega arith)
    divisor_traps arith.Rem true has low fits e = let t = traps_by (routine Rem) has low (zero_is (pair yl yh) _ fits e) in (t.0, t.1, t.2, omega arith)
    divisor_traps arith.Rem false has low fits e = let t = traps_by (routine RemU) has low (zero_is (pair yl yh) _ fits e) in (t.0, t.1, t.2, omega arith)
    divisor_traps arith.Add s has low fits e = absurd (cc)
    divisor_traps arith.Sub s has low fits e = absurd (cc)
    divisor_traps arith.Mul s has low fits e = absurd (cc)
    divisor_traps arith.And s has low fits e = absurd (cc)
    divisor_traps arith.Or s has low fits e = absurd (cc)
    divisor_traps arith.Xor s has low fits e = absurd (cc)
    divisor_traps arith.Shl s has low fits e = absurd (cc)
    divisor_traps arith.Shr s has low fits e = absurd (cc)
    divisor_traps arith.Lt s has low fits e = absurd (cc)
    divisor_traps arith.Le s has low fits e = absurd (cc)
    divisor_traps arith.Eq s has low fits e = absurd (cc)
    divisor_traps arith.Ne s has low fits e = absurd (cc)

  divided_does : (o : Option ℕ) (k : ℕ → Next) → (o ≡ None → Does ir image l live Midway left h p (traps trap.Divide (here ir image l live Midway left fr below c line u h p)))
      → ((z : ℕ) → o ≡ Some z → Does ir image l live Midway left h p (k z)) → Does ir image l live Midway left h p (or_divides (here ir image l live Midway left fr below c line u h p) o k)
  divided_does (Some z) k none some = some z refl
  divided_does None k none some = none refl

  -- The routines of divisions stand at their places.
  module _ (o : Arith) (s : Bool) (to a b : ℕ) (routine : LongOp → ℕ)
      (has : Stands image.code at0 (long_op_code routine o s (home to) (home (to + 1)) (home a) (home (a + 1)) (home b) (home (b + 1))))
      (next : at0 + length (long_op_code routine o s (home to) (home (to + 1)) (home a) (home (a + 1)) (home b) (home (b + 1))) ≡ l.at fr.function (fr.pc + 1))
      (low : l.at fr.function (fr.pc + 1) < 2 ^ 23) (line_is : (j : ℕ) → at0 ≤ j → j < l.at fr.function (fr.pc + 1) → line_of image (place j) ≡ line)
      (la : live fr.function fr.pc 0 a) (la1 : live fr.function fr.pc 0 (a + 1)) (lb : live fr.function fr.pc 0 b) (lb1 : live fr.function fr.pc 0 (b + 1))
      (lt : to + length (long_words o 0) ≤ l.slots fr.function) (writes : WritesEach l live fr.function fr.pc to (length (long_words o 0)))
      (few : jumps_before ir fr.function fr.pc ≤ most_jumps) (room : jumps_before ir fr.function fr.pc + 2 ≤ jumps_before ir fr.function (fr.pc + 1))
      (routines : (d : LongOp) → division_of o s ≡ Some d → Stands image.code (routine d) (routine_code d)) where
    abbrev middle : List Instr
    middle = computed_or_called routine (division_of o s) o s

    abbrev tail : List Instr
    tail = leave_result o (home to) (home (to + 1))

    abbrev start : ℕ
    start = at0 + length (bring (home a) 10) + length (bring (home (a + 1)) 11) + length (bring (home b) 12) + length (bring (home (b + 1)) 13)

    lengths : start + length middle + length tail ≡ l.at fr.function (fr.pc + 1)
    lengths = omega (
      arith,
      next,
      length-append (bring (home a) 10) (bring (home (a + 1)) 11 ++ (bring (home b) 12 ++ (bring (home (b + 1)) 13 ++ (middle ++ tail)))),
      length-append (bring (home (a + 1)) 11) (bring (home b) 12 ++ (bring (home (b + 1)) 13 ++ (middle ++ tail))),
      length-append (bring (home b) 12) (bring (home (b + 1)) 13 ++ (middle ++ tail)),
      length-append (bring (home (b + 1)) 13) (middle ++ tail),
      length-append middle tail,
    )

    pub long_does : Does ir image l live Midway left h p (step_op (op.Long o s to a b) (here ir image l live Midway left fr below c line u h p))
    long_does =
        slot_does ir image l live Midway left fr below c line u h p a _ (λ xl e0.
        slot_does ir image l live Midway left fr below c line u h p (a + 1) _ (λ xh e1.
        slot_does ir image l live Midway left fr below c line u h p b _ (λ yl e2.
        slot_does ir image l live Midway left fr below c line u h p (b + 1) _ (λ yh e3.
        let pa = held ir image l live Midway left fr below c line u h p homes small m same fine a xl la e0 in
        let pa1 = held ir image l live Midway left fr below c line u h p homes small m same fine (a + 1) xh la1 e1 in
        let pb = held ir image l live Midway left fr below c line u h p homes small m same fine b yl lb e2 in
        let pb1 = held ir image l live Midway left fr below c line u h p homes small m same fine (b + 1) yh lb1 e3 in
        let q = four ir image l live Midway left fr below c line u h p homes small m same fine a b xl xh yl yh (middle ++ tail) pa pa1 pb pb1 has in
        let within : start < length image.code = stands_some image.code start (middle ++ tail) q.1 (omega (arith, length-append middle tail, result_some o (home to) (home (to + 1)))) in
        let code = stands_front image.code start middle tail q.1 in
        divided_does (applied o (long_kind s) (pair xl xh) (pair yl yh)) _
        (λ none.
        let w = divisor_traps start xl xh yl yh q.0 (omega (arith, within)) few routine o s code (omega (arith, lengths, low)) (pair_below yl yh pb.word pb1.word) none in
        trap_does ir image l live Midway left fr below c line u h p trap.Divide w.0 w.1 (ap (line_of image) w.2 ∙ line_is (start + 4) (omega arith) (omega (arith, lengths, w.3))) same)
        (λ z some.
        let k = middle_does start xl xh yl yh q.0 (omega (arith, within)) few routine o s z code (omega (arith, lengths, low)) routines some in
        settled_does ir image l live Midway left fr below c line u h p homes small m same fine to (long_words o z)
        (result_settles o to z (start + length middle) k.0 room lt writes k.1 (stands_back image.code start middle tail q.1) lengths))))))
