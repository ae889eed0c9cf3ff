-- Harts follow loads and stores of shared memory.
use Rattle.std.proofs.Common.{◌≡◌, ◌≢◌, ℕ, zero, suc, ◌+◌, ◌-◌, ◌%◌, ◌^◌, ◌<◌, ◌≤◌, ◌==◌, ◌||◌, Bool, true, false, if◌then◌else◌, ℤ, pos, List, [], ◌∷◌, ◌++◌, length, Some, None, refl, sym, ap, ap₂, ◌∙◌, arith, subst, length-append, ◌⊎◌, inl, inr}
use Rattle.std.proofs.lemmas.Bool.{cases_eq}
use Rattle.std.proofs.lemmas.Bool.Decides.{nat_tests}
use Rattle.al_event.specs.declared.act.Act.TheVariants as act
use Rattle.rv_isa.specs.declared.image.Contents.{Contents}
use Rattle.rv_isa.specs.declared.instr.Instr.{Instr}
use Rattle.rv_isa.specs.declared.instr.Instr.TheVariants.{Load, Immediate, Register}
use Rattle.rv_isa.specs.declared.instr.ImmediateOp.TheVariants.{Addi}
use Rattle.rv_isa.specs.declared.instr.RegisterOp.TheVariants.{Add}
use Rattle.rv_exec.specs.Hart.{Hart, put, register, moved, with_register}
use Rattle.rv_exec.specs.Words.{word, sum_of, load_size, extended}
use Rattle.rv_exec.specs.Windows.{window_of}
use Rattle.rv_exec.specs.declared.windows.Window.{Window}
use Rattle.rv_exec.specs.declared.windows.Window.TheVariants.{Stack, Globals, Shared}
use Rattle.rv_exec.specs.Calls.{Privates, Goes, Asks}
use Rattle.rv_exec.specs.Step.{executed, loads_at}
use Rattle.rv_exec.specs.Machine.{asked, line_of, resumed}
use Rattle.rv_exec.specs.declared.state.Waits.TheVariants.{Done, Unit as UnitWaits}
use Rattle.al_ir.specs.declared.ir.Ir.{Ir}
use Rattle.al_ir.specs.declared.op.Op.TheVariants as op
use Rattle.al_ir.specs.Control.{Slots, Frame as IrFrame, Nowhere, Word, Control, put as put_slot}
use Rattle.al_ir.specs.Meaning.{resume}
use Rattle.al_ir.specs.Step.{Here, step_op, asks, control_at}
use Rattle.rv_code.specs.declared.home.Home.{Home}
use Rattle.rv_code.specs.Homes.{value_at, IsHome, low_part, high_part, get_code, get_register, put_code, put_register}
use Rattle.rv_code.specs.Pieces.{number_code}
use Rattle.rv_code.specs.Jumps.{place}
use Rattle.rv_code.specs.Runs.{Stands, Fine, Leads, Comes}
use Rattle.rv_code.proofs.Leading.{stands_front, stands_back, then_leads, then_comes, one, last, fetched}
use Rattle.rv_code.proofs.Numbers.{numbers}
use Rattle.rv_code.proofs.Operands.{IsKept, IsOperand, IsSaved, not_kept, not_eight, operand_some, got_at, put_at, operand, Operand, Ready, stores}
use Rattle.rv_code.proofs.Slots.{low_is, put_same, put_other, reads}
use Rattle.rv_form.specs.Units.{load_op, load_code}
use Rattle.rv_form.specs.Words.{offset_instrs}
use Rattle.al_meaning.specs.Words.{sum}
use Rattle.rv_match.specs.Following.{Nears, Going}
use Rattle.rv_match.specs.Match.{Private, InFrame, Match}
use Rattle.rv_match.specs.Places.{Places, Homes, Writes, under, full}
use Rattle.rv_match.proofs.Keeping.{at_home, wrote_by}
use Rattle.rv_match.proofs.Steps.{Does, here, slot_does, Held, held}
use Rattle.rv_acts.proofs.Asking.{Waits, one_word}

-- registers that templates and slots use as bases name the shared window
pub shared_base : (r : ℕ) → ((10 ≤ r) × (r ≤ 17)) ⊎ IsSaved r → window_of r ≡ Shared
shared_base r is =
    let a : (r == 2) ≡ false = off 2 (apart 2 (omega arith) is) in
    let b : (r == 8) ≡ false = off 8 (apart 8 (omega arith) is) in
    let c : (r == 4) ≡ false = off 4 (apart 4 (omega arith) is) in
    on (r == 2) (r == 8) (r == 4) a b c where
      apart : (n : ℕ) → n < 10 → ((10 ≤ r) × (r ≤ 17)) ⊎ IsSaved r → r ≢ n
      apart n less (inl e) f = absurd (omega (arith, e.0, less, f))
      apart n less (inr e) f = absurd (omega (arith, e.0, less, f))

      off : (n : ℕ) → r ≢ n → (r == n) ≡ false
      off n other = grind (arith, nat_tests, other)

      on : (a b c : Bool) → a ≡ false → b ≡ false → c ≡ false → (if a || b then Stack else (if c then Globals else Shared)) ≡ Shared
      on a b c p q s = rw (p, q, s) refl

abbrev pub IsUnit : ℕ → Type 0
IsUnit size = (size ≡ 1) ⊎ ((size ≡ 2) ⊎ (size ≡ 4))

pub fetched_register : (h : Hart) (n : ℕ) → register (fetched h) n ≡ register h n
fetched_register h zero = refl
fetched_register h (suc n) = refl

-- a number without an upper part is its low part
pub immediate_is : (n : ℕ) → n < 2 ^ 32 → (high_part n == 0) ≡ true → word (low_part n) ≡ n
immediate_is n small e = on (low_is (n % 2 ^ 12) (omega arith)) where
  none : high_part n ≡ 0
  none = grind (arith, nat_tests, e)

  on : ((n % 2 ^ 12 < 2 ^ 11) × (word (low_part n) ≡ n % 2 ^ 12)) ⊎ ((2 ^ 11 ≤ n % 2 ^ 12) × (word (low_part n) ≡ n % 2 ^ 12 + (2 ^ 32 - 2 ^ 12))) → word (low_part n) ≡ n
  on (inl q) = q.1 ∙ omega (arith, q.0, none, small)
  on (inr q) = q.1 ∙ omega (arith, q.0, none, small)

-- what is asked, and what comes into the register
pub load_sizes : (size : ℕ) → IsUnit size → (load_size (load_op size) ≡ size) × ((unit : ℕ) → extended (load_op size) unit ≡ unit)
load_sizes size (inl e) = rw e (refl, λ unit. refl)
load_sizes size (inr (inl e)) = rw e (refl, λ unit. refl)
load_sizes size (inr (inr e)) = rw e (refl, λ unit. refl)

pub unit_powers : (size : ℕ) → IsUnit size → (1 ≤ 256 ^ size) × (256 ^ size ≤ 2 ^ 32)
unit_powers size (inl e) = rw e (omega arith, omega arith)
unit_powers size (inr (inl e)) = rw e (omega arith, omega arith)
unit_powers size (inr (inr e)) = rw e (omega arith, omega arith)

-- the instruction asks the load
pub asks_load : (image : Contents) (h : Hart) (p : Privates) (size rd r x y : ℕ) (imm : ℤ) → IsUnit size → ((10 ≤ r) × (r ≤ 17)) ⊎ IsSaved r → register h r ≡ x → word imm ≡ y
    → executed (Load (load_op size) rd r imm) image h p ≡ Asks (act.Load (sum_of x y) size) (record h { waits = UnitWaits (load_op size) rd }) p
asks_load image h p size rd r x y imm known base value immediate =
    ap (λ (w : Window). loads_at w (load_op size) rd (sum_of (register h r) (word imm)) image.privates h p) (shared_base r base)
    ∙ ap₂ (λ (a b : ℕ). Asks (act.Load (sum_of a b) (load_size (load_op size))) (record h { waits = UnitWaits (load_op size) rd }) p) value immediate
    ∙ ap (λ (n : ℕ). Asks (act.Load (sum_of x y) n) (record h { waits = UnitWaits (load_op size) rd }) p) (load_sizes size known).0

module _ (ir : Ir) (image : Contents) (l : Places) (live : (f pc unit t : ℕ) → Type 0) (Midway : (f pc unit : ℕ) → Slots → (sp : ℕ) → Hart → Type 0)
    (left : ℕ) (fr : IrFrame) (below : List IrFrame) (c : Control) (line : ℕ) (u : List ℕ) (h : Hart) (p : Privates)
    (homes : Homes l) (small : length image.code ≤ 2 ^ 23) (m : InFrame ir image l live Midway left fr below 0 c.text c.last h) (same : Private ir u p) (fine : Fine h p)
    (to : ℕ) (lt : to < l.slots fr.function) (apart : Writes l live fr.function fr.pc to) where
  abbrev at_hand : Here
  at_hand = here ir image l live Midway left fr below c line u h p

  abbrev to_home : Home
  to_home = l.home fr.function to

  abbrev rd : ℕ
  rd = put_register to_home 10

  is_to : IsHome (under l below) to_home
  is_to = at_home ir image l live Midway m homes to lt

  rd_is : IsOperand 10 rd
  rd_is = put_at (under l below) to_home 10 is_to

  rd_apart : (n : ℕ) → n < 10 → n ≢ rd
  rd_apart n less e = on rd_is where
    on : IsOperand 10 rd → ⊥
    on (inl f) = absurd (omega (arith, e, f, less))
    on (inr f) = absurd (omega (arith, e, f.0, less))

  abbrev answered : (w : Hart) → (registers : ℕ → ℕ) → Hart
  answered w registers = record w { pc = w.pc + 4; registers = put registers 3 4096; waits = Done; jumps = 0; work = 0 }

  -- a load whose unit comes into the register of a slot
  pub unit_does : (a size : ℕ) (w : Hart) (end : ℕ) → IsUnit size → Comes image h p (asked image (act.Load a size) (record w { waits = UnitWaits (load_op size) rd }) p)
      → Waits ir image l live Midway left fr below c line u h p homes small m same w end c.text → Stands image.code (end + 1) (put_code to_home 10)
      → end + 1 + length (put_code to_home 10) ≡ l.at fr.function (fr.pc + 1)
      → Does ir image l live Midway left h p (asks (act.Load a size) (Word to) at_hand)
  unit_does a size w end known comes is code next = λ real. record {
    waiting = record w { waits = UnitWaits (load_op size) rd };
    privates = p;
    comes = comes;
    line_is = ap (line_of image) is.there ∙ is.line_is;
    waits = λ going words.
        let v = one_word (256 ^ size) words (unit_powers size known).0 in
        subst (λ ws. Going image resume (Private ir) (Match ir image l live Midway) full (resume (control_at (fr.pc + 1) (Word to) at_hand) ws) (resumed (record w { waits = UnitWaits (load_op size) rd; jumps = 0; work = 0 }) ws)) (sym v.1)
        (subst (λ x. Going image resume (Private ir) (Match ir image l live Midway) full
        (record { entering = None; into = Nowhere; unit = 0; text = c.text; last = c.last; frames = record fr { pc = fr.pc + 1; slots = put_slot to v.0 fr.slots } ∷ below }) (answered w (put w.registers rd x))) (sym ((load_sizes size known).1 v.0))
        (record {
          near = omega (arith, is.there, is.low);
          jumps = refl;
          work = refl;
          comes = λ q good. put_away v.0 q good;
        }));
    same = same;
  } where
    kept_so : (v n : ℕ) → IsKept n → n ≢ rd → put (put w.registers rd v) 3 4096 n ≡ put h.registers 3 4096 n
    kept_so v n k other = on (cases_eq n 3) where
      on : (n ≡ 3) ⊎ (n ≢ 3) → put (put w.registers rd v) 3 4096 n ≡ put h.registers 3 4096 n
      on (inl e) = rw e refl
      on (inr e) = put_other (put w.registers rd v) 3 4096 n e ∙ put_other w.registers rd v n other ∙ is.kept n k ∙ sym (put_other h.registers 3 4096 n e)

    put_away : (v : ℕ) (q : Privates) → Fine (answered w (put w.registers rd v)) q
        → Nears image resume (Private ir) (Match ir image l live Midway) full
        (record { entering = None; into = Nowhere; unit = 0; text = c.text; last = c.last; frames = record fr { pc = fr.pc + 1; slots = put_slot to v fr.slots } ∷ below }) (answered w (put w.registers rd v)) q
    put_away v q good =
        let h1 : Hart = answered w (put w.registers rd v) in
        let base : ℕ → ℕ = put h.registers 3 4096 in
        let s = stores image small h1 q (end + 1) (under l below) to_home v base h.stack good (omega (arith, is.there))
        (kept_so v 2 (inl (omega arith, omega arith)) (rd_apart 2 (omega arith)) ∙ m.pointer) is_to
        (put_other (put w.registers rd v) 3 4096 rd (λ e. rd_apart 3 (omega arith) (sym e)) ∙ put_same w.registers rd v) is.stacks (kept_so v) code in
        record {
          there = record h1 { pc = s.0.pc; registers = s.0.registers; stack = s.0.stack; work = s.0.work };
          leads = s.1;
          match = inl (wrote_by ir image l live Midway m homes to v v (end + 1 + length (put_code to_home 10)) h1 s.0.work full c.text base lt refl next apart
              (λ n other. put_other h.registers 3 4096 n other) refl is.text_is refl (omega arith) (omega arith) (omega arith) s.0);
        }

  -- ---- the operation

  -- the hart that asks from a base register and an immediate, with scratch registers changed at most
  asks_from : (size x y r at1 : ℕ) (imm : ℤ) → IsUnit size → (k : Ready image small h p at1) → ((10 ≤ r) × (r ≤ 17)) ⊎ IsSaved r
      → register (record h { pc = k.pc; registers = k.registers; work = k.work }) r ≡ x → word imm ≡ y
      → Stands image.code at1 (Load (load_op size) rd r imm ∷ put_code to_home 10) → l.at fr.function fr.pc ≤ at1 → at1 + 1 + length (put_code to_home 10) ≡ l.at fr.function (fr.pc + 1)
      → l.at fr.function (fr.pc + 1) < 2 ^ 23 → ((j : ℕ) → l.at fr.function fr.pc ≤ j → j < l.at fr.function (fr.pc + 1) → line_of image (place j) ≡ line)
      → Does ir image l live Midway left h p (asks (act.Load (sum_of x y) size) (Word to) at_hand)
  asks_from size x y r at1 imm known k base value immediate code from next low line_is =
      let h1 : Hart = record h { pc = k.pc; registers = k.registers; work = k.work } in
      let w : Hart = record h { pc = k.pc; registers = k.registers; work = k.work + 1 } in
      unit_does (sum_of x y) size w at1 known
      (then_comes image {i = h1} k.leads (last image {h = h1} {waiting = record w { waits = UnitWaits (load_op size) rd }} {p = p} {q = p} (Load (load_op size) rd r imm) at1 code.0 k.there
      (asks_load image (fetched h1) p size rd r x y imm known base (register_of r value) immediate)))
      (record {
        there = k.there;
        low = omega (arith, next, low);
        line_is = line_is at1 from (omega (arith, next));
        kept = k.kept;
        stacks = λ j. refl;
        text_is = m.text_is;
      }) code.1 next where
        register_of : (n : ℕ) {v : ℕ} → register (record h { pc = k.pc; registers = k.registers; work = k.work }) n ≡ v → register (record h { pc = k.pc; registers = k.registers; work = k.work + 1 }) n ≡ v
        register_of zero e = e
        register_of (suc n) e = e

  -- the load itself, behind the word of its address in register `a`
  abbrev loading : (offset size a : ℕ) → List Instr
  loading offset size a =
      if high_part offset == 0 then Load (load_op size) rd a (low_part offset) ∷ []
      else offset_instrs offset 12 a ++ Load (load_op size) rd 12 (pos 0) ∷ []

  module _ (a offset size : ℕ) (known : IsUnit size) (fits : offset < 2 ^ 32) (la : live fr.function fr.pc 0 a) (low : l.at fr.function (fr.pc + 1) < 2 ^ 23)
      (line_is : (j : ℕ) → l.at fr.function fr.pc ≤ j → j < l.at fr.function (fr.pc + 1) → line_of image (place j) ≡ line) where
    abbrev at0 : ℕ
    at0 = l.at fr.function fr.pc

    abbrev home : Home
    home = l.home fr.function a

    abbrev ra : ℕ
    ra = get_register home 10

    abbrev at1 : ℕ
    at1 = at0 + length (get_code home 10)

    pub load_does : Stands image.code at0 (load_code to_home home offset size) → at0 + length (load_code to_home home offset size) ≡ l.at fr.function (fr.pc + 1)
        → Does ir image l live Midway left h p (step_op (op.Load to a offset size) at_hand)
    load_does has next = slot_does ir image l live Midway left fr below c line u h p a _ (λ w e. loads w e has next) where
      loads : (w : ℕ) → fr.slots a ≡ Some w → Stands image.code at0 (get_code home 10 ++ (loading offset size ra ++ put_code to_home 10))
          → at0 + length (get_code home 10 ++ (loading offset size ra ++ put_code to_home 10)) ≡ l.at fr.function (fr.pc + 1)
          → Does ir image l live Midway left h p (asks (act.Load (sum w offset) size) (Word to) at_hand)
      loads w e has next = on (high_part offset == 0) refl (stands_back image.code at0 (get_code home 10) (loading offset size ra ++ put_code to_home 10) has) lengths where
        px : Held ir image l live Midway left fr below c line u h p homes small m same fine a w
        px = held ir image l live Midway left fr below c line u h p homes small m same fine a w la e

        is : IsHome (under l below) home
        is = at_home ir image l live Midway m homes a px.is_slot

        o : Operand image small h p at1 home (value_at home (under l below) h.registers h.stack)
        o = operand image small h p fine at0 (under l below) m.here m.pointer home is (stands_front image.code at0 (get_code home 10) (loading offset size ra ++ put_code to_home 10) has)

        base : IsOperand 10 ra → ((10 ≤ ra) × (ra ≤ 17)) ⊎ IsSaved ra
        base (inl q) = inl (omega (arith, q), omega (arith, q))
        base (inr q) = inr q

        lengths : at1 + length (loading offset size ra ++ put_code to_home 10) ≡ l.at fr.function (fr.pc + 1)
        lengths = omega (arith, next, length-append (get_code home 10) (loading offset size ra ++ put_code to_home 10))

        h1 : Hart
        h1 = record h { pc = o.ready.pc; registers = o.ready.registers; work = o.ready.work }

        value : register h1 ra ≡ w
        value = o.is h1 ∙ px.stands

        -- the address is added up in register 12
        far : Stands image.code at1 (((number_code 11 offset ++ Register Add 12 ra 11 ∷ []) ++ Load (load_op size) rd 12 (pos 0) ∷ []) ++ put_code to_home 10)
            → at1 + length (((number_code 11 offset ++ Register Add 12 ra 11 ∷ []) ++ Load (load_op size) rd 12 (pos 0) ∷ []) ++ put_code to_home 10) ≡ l.at fr.function (fr.pc + 1)
            → Does ir image l live Midway left h p (asks (act.Load (sum w offset) size) (Word to) at_hand)
        far code count =
            let number : List Instr = number_code 11 offset in
            let add : List Instr = Register Add 12 ra 11 ∷ [] in
            let load : List Instr = Load (load_op size) rd 12 (pos 0) ∷ [] in
            let all = stands_front image.code at1 ((number ++ add) ++ load) (put_code to_home 10) code in
            let both = stands_front image.code at1 (number ++ add) load all in
            let at3 : ℕ = at1 + length number in
            let at4 : ℕ = at1 + length (number ++ add) in
            let e4 : at3 + 1 ≡ at4 = omega (arith, length-append number add) in
            let e5 : at1 + length ((number ++ add) ++ load) ≡ at4 + 1 = omega (arith, length-append (number ++ add) load) in
            let rest : Stands image.code (at4 + 1) (put_code to_home 10) = subst (λ n. Stands image.code n (put_code to_home 10)) e5 (stands_back image.code at1 ((number ++ add) ++ load) (put_code to_home 10) code) in
            let g = numbers image small h1 p at1 11 offset o.ready.there (omega arith) fits (stands_front image.code at1 number add both) in
            let h2 : Hart = record h { pc = g.pc; registers = g.registers; work = g.work } in
            let good = got_at (under l below) home 10 is in
            let some : ra ≢ 0 = operand_some 10 ra (omega arith) good in
            let left_word : register h2 ra ≡ w = reads h2 ra some ∙ g.kept ra (not_eleven ra good) (not_base ra good) ∙ sym (reads h1 ra some) ∙ value in
            let h3 : Hart = record h { pc = g.pc + 4; registers = put g.registers 12 (sum_of w offset); work = g.work + 1 } in
            let added : Leads image h2 p h3 p = one image {h = h2} {next = h3} {p = p} {q = p} small (Register Add 12 ra 11) at3 (stands_back image.code at1 number add both).0 g.there
            (ap₂ (λ (x y : ℕ). Goes (moved (with_register 12 (sum_of x y) (fetched h2))) p) (fetched_register h2 ra ∙ left_word) g.holds) in
            let k : Ready image small h p at4 = record {
              pc = g.pc + 4;
              registers = put g.registers 12 (sum_of w offset);
              work = g.work + 1;
              leads = then_leads image {i = h1} {j = h3} o.ready.leads (then_leads image {i = h2} {j = h3} g.leads added);
              there = omega (arith, g.there, e4);
              kept = λ n q. put_other g.registers 12 (sum_of w offset) n (not_kept 12 n (omega arith, omega arith) q) ∙ g.kept n (not_kept 11 n (omega arith, omega arith) q) (not_eight n q) ∙ o.ready.kept n q;
            } in
            let same_place : sum_of (sum_of w offset) 0 ≡ sum w offset = omega arith in
            subst (λ n. Does ir image l live Midway left h p (asks (act.Load n size) (Word to) at_hand)) same_place
            (asks_from size (sum_of w offset) 0 12 at4 (pos 0) known k (inl (omega arith, omega arith)) refl refl ((stands_back image.code at1 (number ++ add) load all).0, rest) (omega arith)
            (omega (arith, count, length-append ((number ++ add) ++ load) (put_code to_home 10), e5)) low line_is) where
              not_eleven : (n : ℕ) → IsOperand 10 n → n ≢ 11
              not_eleven n (inl e) f = absurd (omega (arith, e, f))
              not_eleven n (inr q) f = absurd (omega (arith, q.0, f))

              not_base : (n : ℕ) → IsOperand 10 n → n ≢ 8
              not_base n (inl e) f = absurd (omega (arith, e, f))
              not_base n (inr q) f = absurd (omega (arith, q.0, f))

        on : (b : Bool) → (high_part offset == 0) ≡ b
            → Stands image.code at1 ((if b then Load (load_op size) rd ra (low_part offset) ∷ [] else ((if b then Immediate Addi 12 ra (low_part offset) ∷ [] else (number_code 11 offset ++ Register Add 12 ra 11 ∷ [])) ++ Load (load_op size) rd 12 (pos 0) ∷ [])) ++ put_code to_home 10)
            → at1 + length ((if b then Load (load_op size) rd ra (low_part offset) ∷ [] else ((if b then Immediate Addi 12 ra (low_part offset) ∷ [] else (number_code 11 offset ++ Register Add 12 ra 11 ∷ [])) ++ Load (load_op size) rd 12 (pos 0) ∷ [])) ++ put_code to_home 10) ≡ l.at fr.function (fr.pc + 1)
            → Does ir image l live Midway left h p (asks (act.Load (sum w offset) size) (Word to) at_hand)
        on true none code count =
            asks_from size w offset ra at1 (low_part offset) known o.ready (base (got_at (under l below) home 10 is)) value (immediate_is offset fits none) code (omega arith) (omega (arith, count)) low line_is
        on false none code count = far code count
