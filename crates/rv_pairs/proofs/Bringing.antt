-- Words are brought into scratch registers, one behind the other, and instructions on registers run behind them.
use Rattle.std.proofs.Common.{◌≡◌, ◌≢◌, ℕ, zero, suc, ◌+◌, ◌*◌, ◌^◌, ◌<◌, ◌≤◌, List, [], ◌∷◌, ◌++◌, length, slice_get, Some, refl, sym, ap, ◌∙◌, arith, length-append, inl, inr}
use Rattle.rv_isa.specs.declared.image.Contents.{Contents}
use Rattle.rv_isa.specs.declared.instr.Instr.{Instr}
use Rattle.rv_exec.specs.Hart.{Hart}
use Rattle.rv_exec.specs.Calls.{Privates}
use Rattle.al_ir.specs.declared.ir.Ir.{Ir}
use Rattle.al_ir.specs.Control.{Slots, Frame as IrFrame, Control}
use Rattle.rv_code.specs.declared.home.Home.{Home}
use Rattle.rv_code.specs.Homes.{value_at, IsHome, bring}
use Rattle.rv_code.specs.Jumps.{place}
use Rattle.rv_code.specs.Runs.{Stands, Fine, Leads}
use Rattle.rv_code.proofs.Leading.{stands_front, stands_back, stays, then_leads}
use Rattle.rv_code.proofs.Operands.{IsKept, not_eight, not_kept, home_kept}
use Rattle.rv_code.proofs.Pairs.{brings}
use Rattle.rv_match.specs.Match.{Private, InFrame}
use Rattle.rv_match.specs.Places.{Places, Homes, under}
use Rattle.rv_match.proofs.Keeping.{at_home}
use Rattle.rv_match.proofs.Steps.{Held}
use Rattle.rv_words.proofs.Straight.{AreStraight, after, Spares, spared, runs}
use Rattle.rv_pairs.proofs.Settling.{Worked}

-- where code stands, there is code
less_than_length : (code : List ℕ) (at : ℕ) (w : ℕ) → slice_get code at ≡ Some w → at < length code
less_than_length [] at w e = absurd (cc)
less_than_length (c ∷ code) zero w e = omega arith
less_than_length (c ∷ code) (suc at) w e = let more = less_than_length code at w e in omega (arith, more)

pub stands_some : (code : List ℕ) (at : ℕ) (is : List Instr) → Stands code at is → 0 < length is → at < length code
stands_some code at [] has some = absurd (omega (arith, some))
stands_some code at (i ∷ is) has some = less_than_length code at has.0.0 has.0.1

module _ (ir : Ir) (image : Contents) (l : Places) (live : (f pc unit t : ℕ) → Type 0) (Midway : (f pc unit : ℕ) → Slots → (sp : ℕ) → Hart → Type 0)
    (left : ℕ) (fr : IrFrame) (below : List IrFrame) (c : Control) (line : ℕ) (u : List ℕ) (h : Hart) (p : Privates)
    (homes : Homes l) (small : length image.code ≤ 2 ^ 23) (m : InFrame ir image l live Midway left fr below 0 c.text c.last h) (same : Private ir u p) (fine : Fine h p) where
  abbrev home : ℕ → Home
  home t = l.home fr.function t

  abbrev Works : (end made : ℕ) → Type 0
  Works end made = Worked ir image l live Midway left fr below c line u h p homes small m same fine end made

  -- at the operation's first word
  pub at_first : Works (l.at fr.function fr.pc) 0
  at_first = record { pc = h.pc; registers = h.registers; jumps = h.jumps; work = h.work; leads = stays image; there = m.here; kept = λ n k. refl; counted = omega arith }

  -- one word more is in a scratch register
  pub record Brought (end made : ℕ) (k : Works end made) (j : Home) (rd : ℕ) : Type 0 where
    pub to : Works (end + length (bring j rd)) made
    pub holds : to.registers rd ≡ value_at j (under l below) h.registers h.stack
    pub others : (n : ℕ) → n ≢ rd → n ≢ 8 → to.registers n ≡ k.registers n

  pub brings_more : (end made : ℕ) (k : Works end made) (j : Home) (rd : ℕ) → IsHome (under l below) j → (10 ≤ rd) × (rd ≤ 17) → Stands image.code end (bring j rd) → Brought end made k j rd
  brings_more end made k j rd is scratch has =
      let h1 : Hart = record h { pc = k.pc; registers = k.registers; jumps = k.jumps; work = k.work } in
      let g = brings image small h1 p end (under l below) j rd (k.leads.fine fine) k.there (k.kept 2 (inl (omega arith, omega arith)) ∙ m.pointer) is has in
      record {
        to = record {
          pc = g.pc;
          registers = g.registers;
          jumps = k.jumps;
          work = g.work;
          leads = then_leads image {i = h1} {j = record h1 { pc = g.pc; registers = g.registers; work = g.work }} k.leads g.leads;
          there = g.there;
          kept = λ n q. g.kept n (not_kept rd n scratch q) (not_eight n q) ∙ k.kept n q;
          counted = k.counted;
        };
        holds = g.holds ∙ home_kept j (under l below) h.registers k.registers h.stack is (λ n q. k.kept n (inr q));
        others = g.kept;
      }

  -- instructions on registers that spare those that are kept
  pub straight_more : (end made : ℕ) (k : Works end made) (code : List Instr) → AreStraight code → ((n : ℕ) → IsKept n → Spares n code) → Stands image.code end code
      → (to : Works (end + length code) made) × (to.registers ≡ after code k.registers)
  straight_more end made k code straight spares has =
      let h1 : Hart = record h { pc = k.pc; registers = k.registers; jumps = k.jumps; work = k.work } in
      let r = runs image small code h1 p end straight has k.there in (
        record {
          pc = r.pc;
          registers = after code k.registers;
          jumps = k.jumps;
          work = r.work;
          leads = then_leads image {i = h1} {j = record h1 { pc = r.pc; registers = after code k.registers; work = r.work }} k.leads r.leads;
          there = r.there;
          kept = λ n q. spared n code k.registers (spares n q) ∙ k.kept n q;
          counted = k.counted;
        },
        refl,
      )

  -- ---- two pairs

  -- registers 10 to 13 have the words
  pub record Four (end xl xh yl yh : ℕ) : Type 0 where
    pub worked : Works end 0
    pub ten : worked.registers 10 ≡ xl
    pub eleven : worked.registers 11 ≡ xh
    pub twelve : worked.registers 12 ≡ yl
    pub thirteen : worked.registers 13 ≡ yh

  abbrev pub HeldAt : (t w : ℕ) → Type 0
  HeldAt t w = Held ir image l live Midway left fr below c line u h p homes small m same fine t w

  pub four : (a b xl xh yl yh : ℕ) (rest : List Instr) → HeldAt a xl → HeldAt (a + 1) xh → HeldAt b yl → HeldAt (b + 1) yh
      → Stands image.code (l.at fr.function fr.pc) (bring (home a) 10 ++ (bring (home (a + 1)) 11 ++ (bring (home b) 12 ++ (bring (home (b + 1)) 13 ++ rest))))
      → Four (l.at fr.function fr.pc + length (bring (home a) 10) + length (bring (home (a + 1)) 11) + length (bring (home b) 12) + length (bring (home (b + 1)) 13)) xl xh yl yh
      × Stands image.code (l.at fr.function fr.pc + length (bring (home a) 10) + length (bring (home (a + 1)) 11) + length (bring (home b) 12) + length (bring (home (b + 1)) 13)) rest
  four a b xl xh yl yh rest pa pa1 pb pb1 has =
      let at0 = l.at fr.function fr.pc in
      let i : List Instr = bring (home a) 10 in
      let i1 : List Instr = bring (home (a + 1)) 11 in
      let j : List Instr = bring (home b) 12 in
      let j1 : List Instr = bring (home (b + 1)) 13 in
      let s1 = stands_back image.code at0 i (i1 ++ (j ++ (j1 ++ rest))) has in
      let s2 = stands_back image.code (at0 + length i) i1 (j ++ (j1 ++ rest)) s1 in
      let s3 = stands_back image.code (at0 + length i + length i1) j (j1 ++ rest) s2 in
      let g = brings_more at0 0 at_first (home a) 10 (at_home ir image l live Midway m homes a pa.is_slot) (omega arith, omega arith) (stands_front image.code at0 i (i1 ++ (j ++ (j1 ++ rest))) has) in
      let g1 = brings_more (at0 + length i) 0 g.to (home (a + 1)) 11 (at_home ir image l live Midway m homes (a + 1) pa1.is_slot) (omega arith, omega arith) (stands_front image.code (at0 + length i) i1 (j ++ (j1 ++ rest)) s1) in
      let g2 = brings_more (at0 + length i + length i1) 0 g1.to (home b) 12 (at_home ir image l live Midway m homes b pb.is_slot) (omega arith, omega arith) (stands_front image.code (at0 + length i + length i1) j (j1 ++ rest) s2) in
      let g3 = brings_more (at0 + length i + length i1 + length j) 0 g2.to (home (b + 1)) 13 (at_home ir image l live Midway m homes (b + 1) pb1.is_slot) (omega arith, omega arith)
      (stands_front image.code (at0 + length i + length i1 + length j) j1 rest s3) in (
        record {
          worked = g3.to;
          ten = g3.others 10 (omega arith) (omega arith) ∙ g2.others 10 (omega arith) (omega arith) ∙ g1.others 10 (omega arith) (omega arith) ∙ g.holds ∙ pa.stands;
          eleven = g3.others 11 (omega arith) (omega arith) ∙ g2.others 11 (omega arith) (omega arith) ∙ g1.holds ∙ pa1.stands;
          twelve = g3.others 12 (omega arith) (omega arith) ∙ g2.holds ∙ pb.stands;
          thirteen = g3.holds ∙ pb1.stands;
        },
        stands_back image.code (at0 + length i + length i1 + length j) j1 rest s3,
      )
