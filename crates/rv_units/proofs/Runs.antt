-- A unit of a value, wherever it stands in the code for the value's runs.
use Rattle.std.proofs.Common.{◌≡◌, ◌≢◌, ℕ, zero, suc, ◌+◌, ◌-◌, ◌*◌, ◌^◌, ◌<◌, ◌≤◌, Bool, true, false, nat_le, nat_lt, if◌then◌else◌, pos, List, [], ◌∷◌, ◌++◌, length, slice_get, Some, refl, sym, ap, ◌∙◌, arith, subst, length-append}
use Rattle.std.proofs.lemmas.Bool.Decides.{nat_tests}
use Rattle.al_typed.specs.declared.layout.Unit.{Unit as StorageUnit}
use Rattle.al_meaning.specs.Words.{sum}
use Rattle.al_ir.specs.declared.ir.Run.{Run}
use Rattle.al_ir.specs.Units.{units_from, units_in}
use Rattle.rv_isa.specs.declared.addresses.TheConstants.{STACK_START}
use Rattle.rv_isa.specs.declared.image.Contents.{Contents}
use Rattle.rv_isa.specs.declared.instr.Instr.{Instr}
use Rattle.rv_isa.specs.declared.instr.Instr.TheVariants.{Immediate}
use Rattle.rv_isa.specs.declared.instr.ImmediateOp.TheVariants.{Addi}
use Rattle.rv_exec.specs.Hart.{Hart, put}
use Rattle.rv_exec.specs.Calls.{Privates}
use Rattle.rv_exec.specs.Machine.{asked}
use Rattle.rv_exec.specs.declared.state.Waits.TheVariants.{Done}
use Rattle.rv_code.specs.Jumps.{place}
use Rattle.rv_code.specs.Runs.{Stands, Fine, Leads, Comes}
use Rattle.rv_code.proofs.Leading.{stands_front, stands_back, then_comes}
use Rattle.rv_code.proofs.Operands.{IsKept, not_kept, not_eight}
use Rattle.rv_code.proofs.Slots.{put_other}
use Rattle.rv_form.specs.Units.{Way, Loads, Stores, Clears, frame_address, unit_code, units_code, round_code, loop_code, run_code, runs_code}
use Rattle.rv_acts.proofs.Units.{IsUnit}
use Rattle.rv_units.specs.Units.{head_words, PointsTo, Looping, InLoop, WhereElse, InRun, InRuns}
use Rattle.rv_units.specs.Ways.{act_of, waits_of, answered, stored}
use Rattle.rv_units.proofs.Ones.{one_of, one_more, one_spot, one_spot_in, one_asks, one_goes}
use Rattle.rv_units.proofs.Loops.{offset_below, words_of, round_spot, begins, round_asks, round_goes}

-- ---- what an answer leaves

pub answered_other : (way : Way) (v : ℕ) (rs : ℕ → ℕ) (m : ℕ) → m ≢ 3 → m ≢ 11 → answered way v rs m ≡ rs m
answered_other Loads v rs m a b = put_other (put rs 11 v) 3 4096 m a ∙ put_other rs 11 v m b
answered_other Stores v rs m a b = put_other rs 3 4096 m a
answered_other Clears v rs m a b = put_other rs 3 4096 m a

answered_unit : (way : Way) (v : ℕ) (rs : ℕ → ℕ) → way ≡ Loads → answered way v rs 11 ≡ v
answered_unit Loads v rs e = refl
answered_unit Stores v rs e = absurd (cc)
answered_unit Clears v rs e = absurd (cc)

room_in : (way : Way) (n m : ℕ) → n < m → m ≤ words_of way → way ≢ Clears → n < 2 ^ 20
room_in Loads n m less few other = omega (arith, less, few)
room_in Stores n m less few other = omega (arith, less, few)
room_in Clears n m less few other = absurd (other refl)

room_for : (way : Way) (n m : ℕ) → n ≤ m → m ≤ words_of way → n ≤ 2 ^ 21
room_for Loads n m less few = omega (arith, less, few)
room_for Stores n m less few = omega (arith, less, few)
room_for Clears n m less few = omega (arith, less, few)

in_words : (way : Way) (n m : ℕ) → n ≤ m → m ≤ words_of way → n ≤ words_of way
in_words Loads n m less few = omega (arith, less, few)
in_words Stores n m less few = omega (arith, less, few)
in_words Clears n m less few = omega (arith, less, few)

not_less : (n m : ℕ) → m ≤ n → nat_lt n m ≡ false
not_less n m le = grind (arith, nat_tests, le)

some_is : {X : Type 0} {i j : X} → Some i ≡ Some j → i ≡ j
some_is e = cc

round_in : (way : Way) (size start : ℕ) → (start ≤ round_spot way start) × (round_spot way start < start + length (round_code way size)) × (length (round_code way size) ≤ 5) × (3 ≤ length (round_code way size))
round_in Loads size start = (omega arith, omega arith, omega arith, omega arith)
round_in Stores size start = (omega arith, omega arith, omega arith, omega arith)
round_in Clears size start = (omega arith, omega arith, omega arith, omega arith)

module _ (image : Contents) (small : length image.code ≤ 2 ^ 23) (way : Way) where
  abbrev pub behind : Hart → ℕ → Hart
  behind w v = record w { pc = w.pc + 4; registers = answered way v w.registers; waits = Done; jumps = 0; work = 0 }

  -- behind an answer the unit has come to its word
  pub record Next (g : Hart) (q : Privates) (cell v : ℕ) (Inside : Hart → Type 0) : Type 0 where
    pub pc : ℕ
    pub registers : ℕ → ℕ
    pub jumps : ℕ
    pub work : ℕ
    pub leads : Leads image g q (record g { pc = pc; registers = registers; stack = stored way cell v g.stack; jumps = jumps; work = work }) q
    pub inside : Inside (record g { pc = pc; registers = registers; stack = stored way cell v g.stack; jumps = jumps; work = work })
    pub kept : (m : ℕ) → IsKept m → registers m ≡ g.registers m
    pub ten : registers 10 ≡ g.registers 10
    pub counted : jumps ≤ 1

  -- a word of the code asks for the unit
  pub record ForUnit (h : Hart) (p : Privates) (at end address size w cell : ℕ) (Inside : Hart → Type 0) : Type 0 where
    pub pc : ℕ
    pub registers : ℕ → ℕ
    pub work : ℕ
    pub spot : ℕ
    pub there : pc ≡ place spot
    pub from : at ≤ spot
    pub to : spot < end
    pub comes : Comes image h p (asked image (act_of way address size w) (record h { pc = pc; registers = registers; waits = waits_of way size; work = work }) p)
    pub kept : (m : ℕ) → IsKept m → registers m ≡ h.registers m
    pub ten : registers 10 ≡ h.registers 10
    pub goes : (v : ℕ) (q : Privates) → Fine (behind (record h { pc = pc; registers = registers; waits = waits_of way size; work = work }) v) q
        → Next (behind (record h { pc = pc; registers = registers; waits = waits_of way size; work = work }) v) q cell v Inside

  unit_as : (h : Hart) (p : Privates) (at end at1 end1 address size w cell : ℕ) (A B : Hart → Type 0) → at1 ≤ at → end ≤ end1 → ((g : Hart) → A g → B g) → ForUnit h p at end address size w cell A → ForUnit h p at1 end1 address size w cell B
  unit_as h p at end at1 end1 address size w cell A B lower upper f u = record {
    pc = u.pc;
    registers = u.registers;
    work = u.work;
    spot = u.spot;
    there = u.there;
    from = omega (arith, u.from, lower);
    to = omega (arith, u.to, upper);
    comes = u.comes;
    kept = u.kept;
    ten = u.ten;
    goes = λ v q good. let n = u.goes v q good in
        record { pc = n.pc; registers = n.registers; jumps = n.jumps; work = n.work; leads = n.leads; inside = f _ n.inside; kept = n.kept; ten = n.ten; counted = n.counted };
  }

  -- ---- one run

  module _ (r : Run) (known : IsUnit r.size) (fits : r.at + r.count * r.size ≤ 1024) (at k sp a : ℕ) (room : sp + k + r.count ≤ words_of way) (n : ℕ) (less : n < r.count) (w : ℕ) where
    abbrev offset : ℕ
    offset = r.at + n * r.size

    abbrev cell : ℕ
    cell = sp + k + n

    same_cell : sp + (k + n) ≡ cell
    same_cell = omega arith

    abbrev OnesBehind : Hart → Type 0
    OnesBehind g = (suc n < r.count → g.pc ≡ place (at + length (units_code way r.size r.at k (suc n)))) × (suc n ≡ r.count → g.pc ≡ place (at + length (units_code way r.size r.at k r.count)))

    by_ones : (h : Hart) (p : Privates) → Fine h p → h.registers 2 ≡ STACK_START + 4 * sp → h.registers 10 ≡ a → (way ≡ Stores → h.stack cell ≡ w) → h.pc ≡ place (at + length (units_code way r.size r.at k n))
        → Stands image.code at (units_code way r.size r.at k r.count) → ForUnit h p at (at + length (units_code way r.size r.at k r.count)) (sum a offset) r.size w cell OnesBehind
    by_ones h p fine pointer ten has_word here has =
        let at1 : ℕ = at + length (units_code way r.size r.at k n) in
        let code = one_of image way r.size n r.count r.at k at less has in
        let few : offset < 2 ^ 11 = offset_below r.size known r.at n r.count less fits in
        let near : way ≢ Clears → sp + (k + n) < 2 ^ 20 = λ other. room_in way (sp + (k + n)) (sp + k + r.count) (omega (arith, less)) room other in
        let x = one_asks image small r.size known at1 (k + n) sp a offset few way w h p fine here pointer ten near (λ e. ap h.stack same_cell ∙ has_word e) code in
        let spots = one_spot_in way r.size at1 offset (k + n) in
        let end : at1 + length (unit_code way r.size 10 offset (k + n)) ≡ at + length (units_code way r.size r.at k (suc n)) = omega (arith, one_more way r.size n r.at k, next) in
        let upper : at + length (units_code way r.size r.at k (suc n)) ≤ at + length (units_code way r.size r.at k r.count) = omega (arith, widths r.count (suc n) r.at k (omega (arith, less))) in
        record {
          pc = x.pc;
          registers = x.registers;
          work = x.work;
          spot = one_spot way at1 (k + n);
          there = x.there;
          from = omega (arith, spots.0);
          to = omega (arith, spots.1, end, upper);
          comes = x.comes;
          kept = λ m q. x.kept m (not_eight m q) (not_kept 11 m (omega arith, omega arith) q);
          ten = x.kept 10 (omega arith) (omega arith);
          goes = λ v q good.
              let g : Hart = behind (record h { pc = x.pc; registers = x.registers; waits = waits_of way r.size; work = x.work }) v in
              let two : g.registers 2 ≡ STACK_START + 4 * sp = answered_other way v x.registers 2 (omega arith) (omega arith) ∙ x.kept 2 (omega arith) (omega arith) ∙ pointer in
              let y = one_goes image small r.size known at1 (k + n) sp a offset few way v g q good (omega (arith, x.there)) two near (λ e. answered_unit way v x.registers e) code in
              record {
                pc = y.pc;
                registers = y.registers;
                jumps = 0;
                work = y.work;
                leads = subst (λ i. Leads image g q (record g { pc = y.pc; registers = y.registers; stack = stored way i v g.stack; work = y.work }) q) same_cell y.leads;
                inside = (λ more. y.there ∙ ap place end, λ none. y.there ∙ ap place end ∙ ap (λ i. place (at + length (units_code way r.size r.at k i))) none);
                kept = λ m s. y.kept m (not_eight m s);
                ten = y.kept 10 (omega arith);
                counted = omega arith;
              };
        } where
          next : length (units_code way r.size r.at k (n + 1)) ≡ length (units_code way r.size r.at k (suc n))
          next = let e : n + 1 ≡ suc n = omega arith in ap (λ i. length (units_code way r.size r.at k i)) e

          widths : (m i o j : ℕ) → i ≤ m → length (units_code way r.size o j i) ≤ length (units_code way r.size o j m)
          widths m zero o j le = omega arith
          widths zero (suc i) o j le = absurd (omega (arith, le))
          widths (suc m) (suc i) o j le =
              omega (
                arith,
                widths m i (o + r.size) (j + 1) (omega (arith, le)),
                length-append (unit_code way r.size 10 o j) (units_code way r.size (o + r.size) (j + 1) i),
                length-append (unit_code way r.size 10 o j) (units_code way r.size (o + r.size) (j + 1) m),
              )

    -- ---- in the loop

    abbrev start : ℕ
    start = at + head_words k

    abbrev LoopBehind : Hart → Type 0
    LoopBehind g = (suc n < r.count → Looping way r at k sp a (suc n) g) × (suc n ≡ r.count → g.pc ≡ place (at + length (loop_code way r k)))

    abbrev head : List Instr
    head = frame_address 8 k

    abbrev rest : List Instr
    rest = Immediate Addi 12 10 (pos r.at) ∷ Immediate Addi 13 10 (pos (r.at + r.count * r.size)) ∷ round_code way r.size

    lengths : start + length (round_code way r.size) ≡ at + length (loop_code way r k)
    lengths = omega (arith, length-append head rest)

    round_code_stands : Stands image.code at (loop_code way r k) → Stands image.code start (round_code way r.size)
    round_code_stands has =
        let e : at + length head + 1 + 1 ≡ start = omega arith in
        subst (λ i. Stands image.code i (round_code way r.size)) e (stands_back image.code at head rest has).1.1

    by_round : (h : Hart) (p : Privates) → Fine h p → h.registers 2 ≡ STACK_START + 4 * sp → h.registers 10 ≡ a → (way ≡ Stores → h.stack cell ≡ w) → Looping way r at k sp a n h
        → at + length (loop_code way r k) < 2 ^ 23 → Stands image.code at (loop_code way r k) → ForUnit h p at (at + length (loop_code way r k)) (sum a offset) r.size w cell LoopBehind
    by_round h p fine pointer ten has_word is low has =
        let code = round_code_stands has in
        let x = round_asks image small r known fits at k sp a n less way w h p fine is room has_word code in
        let spots = round_in way r.size start in
        record {
          pc = x.0.pc;
          registers = x.0.registers;
          work = x.0.work;
          spot = round_spot way start;
          there = x.0.there;
          from = omega (arith, spots.0);
          to = omega (arith, spots.1, lengths);
          comes = x.0.comes;
          kept = λ m q. x.0.kept m (not_eight m q) (not_kept 11 m (omega arith, omega arith) q);
          ten = x.0.kept 10 (omega arith) (omega arith);
          goes = λ v q good.
              let g : Hart = behind (record h { pc = x.0.pc; registers = x.0.registers; waits = waits_of way r.size; work = x.0.work }) v in
              let same : (m : ℕ) → m ≢ 3 → m ≢ 11 → m ≢ 8 → g.registers m ≡ h.registers m = λ m b d e. answered_other way v x.0.registers m b d ∙ x.0.kept m e d in
              let eight : g.registers 8 ≡ h.registers 8 = answered_other way v x.0.registers 8 (omega arith) (omega arith) ∙ x.1 in
              let y = round_goes image small r known fits at k sp a n less way v g q good (omega (arith, x.0.there)) (omega arith) (omega (arith, low, lengths, spots.3)) room (λ e. answered_unit way v x.0.registers e)
              (same 12 (omega arith) (omega arith) (omega arith) ∙ is.unit) (same 13 (omega arith) (omega arith) (omega arith) ∙ is.last) (points eight is.word) code in
              record {
                pc = y.pc;
                registers = y.registers;
                jumps = y.jumps;
                work = y.work;
                leads = y.leads;
                inside = (λ more. record { there = y.again more; unit = y.unit; last = y.last; word = y.word }, λ none. y.over none ∙ ap place lengths);
                kept = λ m s. y.kept m (not_eight m s) (not_kept 12 m (omega arith, omega arith) s);
                ten = y.kept 10 (omega arith) (omega arith);
                counted = y.counted;
              };
        } where
          points : {i j : ℕ} → i ≡ j → PointsTo way j cell → PointsTo way i cell
          points e f = subst (λ m. PointsTo way m cell) (sym e) f

    -- a loop that is not begun yet
    by_head : (h : Hart) (p : Privates) → Fine h p → h.registers 2 ≡ STACK_START + 4 * sp → h.registers 10 ≡ a → (way ≡ Stores → h.stack cell ≡ w) → n ≡ 0 → h.pc ≡ place at
        → at + length (loop_code way r k) < 2 ^ 23 → Stands image.code at (loop_code way r k) → ForUnit h p at (at + length (loop_code way r k)) (sum a offset) r.size w cell LoopBehind
    by_head h p fine pointer ten has_word none here low has =
        let b = begins image small r known fits at k sp a way h p here pointer ten (room_for way (sp + k) (sp + k + r.count) (omega arith) room) has in
        let h1 : Hart = record h { pc = b.pc; registers = b.registers; work = b.work } in
        let looping : Looping way r at k sp a 0 h1 = record { there = b.there; unit = b.unit; last = b.last; word = b.word } in
        let u = by_round h1 p (b.leads.fine fine) (b.kept 2 (omega arith) (omega arith) (omega arith) ∙ pointer) (b.kept 10 (omega arith) (omega arith) (omega arith) ∙ ten) has_word
        (subst (λ i. Looping way r at k sp a i h1) (sym none) looping) low has in
        record {
          pc = u.pc;
          registers = u.registers;
          work = u.work;
          spot = u.spot;
          there = u.there;
          from = u.from;
          to = u.to;
          comes = then_comes image {i = h1} b.leads u.comes;
          kept = λ m q. u.kept m q ∙ b.kept m (not_eight m q) (not_kept 12 m (omega arith, omega arith) q) (not_kept 13 m (omega arith, omega arith) q);
          ten = u.ten ∙ b.kept 10 (omega arith) (omega arith) (omega arith);
          goes = u.goes;
        }

    by_loop : (i : ℕ) → n ≡ i → (h : Hart) (p : Privates) → Fine h p → h.registers 2 ≡ STACK_START + 4 * sp → h.registers 10 ≡ a → (way ≡ Stores → h.stack cell ≡ w) → InLoop way r at k sp a i h
        → at + length (loop_code way r k) < 2 ^ 23 → Stands image.code at (loop_code way r k) → ForUnit h p at (at + length (loop_code way r k)) (sum a offset) r.size w cell LoopBehind
    by_loop zero e h p fine pointer ten has_word is low has = by_head h p fine pointer ten has_word e is low has
    by_loop (suc i) e h p fine pointer ten has_word is low has = by_round h p fine pointer ten has_word (subst (λ j. Looping way r at k sp a j h) (sym e) is) low has

    abbrev RunBehind : Hart → Type 0
    RunBehind g = (suc n < r.count → InRun way r at k sp a (suc n) g) × (suc n ≡ r.count → g.pc ≡ place (at + length (run_code way r k)))

    by_run : (h : Hart) (p : Privates) → Fine h p → h.registers 2 ≡ STACK_START + 4 * sp → h.registers 10 ≡ a → (way ≡ Stores → h.stack cell ≡ w) → InRun way r at k sp a n h
        → at + length (run_code way r k) < 2 ^ 23 → Stands image.code at (run_code way r k) → ForUnit h p at (at + length (run_code way r k)) (sum a offset) r.size w cell RunBehind
    by_run h p fine pointer ten has_word is low has = on (nat_le r.count 4) is low has where
      on : (b : Bool) → WhereElse b (h.pc ≡ place (at + length (units_code way r.size r.at k n))) (InLoop way r at k sp a n h)
          → at + length (if b then units_code way r.size r.at k r.count else loop_code way r k) < 2 ^ 23 → Stands image.code at (if b then units_code way r.size r.at k r.count else loop_code way r k)
          → ForUnit h p at (at + length (if b then units_code way r.size r.at k r.count else loop_code way r k)) (sum a offset) r.size w cell
          (λ g. (suc n < r.count → WhereElse b (g.pc ≡ place (at + length (units_code way r.size r.at k (suc n)))) (InLoop way r at k sp a (suc n) g))
          × (suc n ≡ r.count → g.pc ≡ place (at + length (if b then units_code way r.size r.at k r.count else loop_code way r k))))
      on true i l c = by_ones h p fine pointer ten has_word i c
      on false i l c = by_loop n refl h p fine pointer ten has_word i l c

  -- ---- several runs

  -- their units have sizes, and stand within the first 1,024 bytes
  abbrev pub AreRuns : List Run → Type 0
  AreRuns [] = Unit {0}
  AreRuns (r ∷ runs) = (IsUnit r.size × (r.at + r.count * r.size ≤ 1024)) × AreRuns runs

  count_of : (at size count : ℕ) → length (units_from at size count) ≡ count
  count_of at size zero = refl
  count_of at size (suc n) = omega (arith, count_of (at + size) size n)

  unit_among : (at size count n : ℕ) (rest : List StorageUnit) → n < count → slice_get (units_from at size count ++ rest) n ≡ Some (record { at = at + n * size; size = size })
  unit_among at size zero n rest less = absurd (omega (arith, less))
  unit_among at size (suc c) zero rest less = let e : at ≡ at + 0 * size = omega arith in ap (λ i. Some (record { at = i; size = size })) e
  unit_among at size (suc c) (suc n) rest less =
      let e : at + size + n * size ≡ at + suc n * size = omega arith in
      unit_among (at + size) size c n rest (omega (arith, less)) ∙ ap (λ i. Some (record { at = i; size = size })) e

  unit_behind : (at size count n : ℕ) (rest : List StorageUnit) → count ≤ n → slice_get (units_from at size count ++ rest) n ≡ slice_get rest (n - count)
  unit_behind at size zero n rest le = let e : n ≡ n - 0 = omega arith in ap (λ i. slice_get rest i) e
  unit_behind at size (suc c) zero rest le = absurd (omega (arith, le))
  unit_behind at size (suc c) (suc n) rest le = let e : n - c ≡ suc n - suc c = omega arith in unit_behind (at + size) size c n rest (omega (arith, le)) ∙ ap (λ i. slice_get rest i) e

  -- at the first word no unit is done
  pub at_start : (runs : List Run) (at k sp a : ℕ) (h : Hart) → h.pc ≡ place at → InRuns way runs at k sp a 0 h
  at_start [] at k sp a h here = (refl, here)
  at_start (r ∷ runs) at k sp a h here = on (λ q. at_start runs (at + length (run_code way r k)) (k + r.count) sp a h q) (nat_lt 0 r.count) refl where
    in_run : (b : Bool) → WhereElse b (h.pc ≡ place (at + 0)) (h.pc ≡ place at)
    in_run true = omega (arith, here)
    in_run false = here

    on : (h.pc ≡ place (at + length (run_code way r k)) → InRuns way runs (at + length (run_code way r k)) (k + r.count) sp a 0 h) → (b : Bool) → nat_lt 0 r.count ≡ b → WhereElse b (InRun way r at k sp a 0 h) (InRuns way runs (at + length (run_code way r k)) (k + r.count) sp a (0 - r.count) h)
    on again true e = in_run (nat_le r.count 4)
    on again false e =
        let none : r.count ≡ 0 = grind (arith, nat_tests, e) in
        let empty : length (run_code way r k) ≡ 0 = ap (λ c. length (if nat_le c 4 then units_code way r.size r.at k c else loop_code way r k)) none in
        let first : 0 ≡ 0 - r.count = omega arith in
        subst (λ i. InRuns way runs (at + length (run_code way r k)) (k + r.count) sp a i h) first
        (again (here ∙ ap place (omega (arith, empty))))

  -- behind all units
  pub at_end : (runs : List Run) (at k sp a n : ℕ) (h : Hart) → InRuns way runs at k sp a n h → n ≡ length (units_in runs) → h.pc ≡ place (at + length (runs_code way runs k))
  at_end [] at k sp a n h is all = is.1 ∙ ap place (omega arith)
  at_end (r ∷ runs) at k sp a n h is all =
      let c = count_of r.at r.size r.count in
      let total : n ≡ r.count + length (units_in runs) = all ∙ length-append (units_from r.at r.size r.count) (units_in runs) ∙ ap (λ i. i + length (units_in runs)) c in
      let off : nat_lt n r.count ≡ false = not_less n r.count (omega (arith, total)) in
      let rest : InRuns way runs (at + length (run_code way r k)) (k + r.count) sp a (n - r.count) h =
      subst (λ b. WhereElse b (InRun way r at k sp a n h) (InRuns way runs (at + length (run_code way r k)) (k + r.count) sp a (n - r.count) h)) off is in
      at_end runs (at + length (run_code way r k)) (k + r.count) sp a (n - r.count) h rest (omega (arith, total)) ∙ ap place (omega (arith, length-append (run_code way r k) (runs_code way runs (k + r.count))))

  -- the next unit
  pub next_unit : (runs : List Run) → AreRuns runs → (at k sp a n w : ℕ) (u : StorageUnit) (h : Hart) (p : Privates) → sp + k + length (units_in runs) ≤ words_of way → slice_get (units_in runs) n ≡ Some u → Fine h p
      → h.registers 2 ≡ STACK_START + 4 * sp → h.registers 10 ≡ a → (way ≡ Stores → h.stack (sp + k + n) ≡ w) → InRuns way runs at k sp a n h → at + length (runs_code way runs k) < 2 ^ 23
      → Stands image.code at (runs_code way runs k) → ForUnit h p at (at + length (runs_code way runs k)) (sum a u.at) u.size w (sp + k + n) (InRuns way runs at k sp a (suc n))
  next_unit [] are at k sp a n w u h p room e fine pointer ten has_word is low has = absurd (cc)
  next_unit (r ∷ runs) are at k sp a n w u h p room e fine pointer ten has_word is low has =
      on (λ room1 found1 has_word1 is1 low1 has1. next_unit runs are.1 (at + length (run_code way r k)) (k + r.count) sp a (n - r.count) w u h p room1 found1 fine pointer ten has_word1 is1 low1 has1) (nat_lt n r.count) refl is where
        lengths : at + length (run_code way r k ++ runs_code way runs (k + r.count)) ≡ at + length (run_code way r k) + length (runs_code way runs (k + r.count))
        lengths = omega (arith, length-append (run_code way r k) (runs_code way runs (k + r.count)))

        total : length (units_in (r ∷ runs)) ≡ r.count + length (units_in runs)
        total = length-append (units_from r.at r.size r.count) (units_in runs) ∙ ap (λ i. i + length (units_in runs)) (count_of r.at r.size r.count)

        -- from within the run
        inside : (g : Hart) → n < r.count → (suc n < r.count → InRun way r at k sp a (suc n) g) × (suc n ≡ r.count → g.pc ≡ place (at + length (run_code way r k))) → InRuns way (r ∷ runs) at k sp a (suc n) g
        inside g less q = by (nat_lt (suc n) r.count) refl where
          by : (b : Bool) → nat_lt (suc n) r.count ≡ b → WhereElse b (InRun way r at k sp a (suc n) g) (InRuns way runs (at + length (run_code way r k)) (k + r.count) sp a (suc n - r.count) g)
          by true f = q.0 (grind (arith, nat_tests, f))
          by false f =
              let stop : r.count ≤ suc n = grind (arith, nat_tests, f) in
              let last : suc n ≡ r.count = omega (arith, stop, less) in
              let none : 0 ≡ suc n - r.count = omega (arith, last) in
              subst (λ i. InRuns way runs (at + length (run_code way r k)) (k + r.count) sp a i g) none (at_start runs (at + length (run_code way r k)) (k + r.count) sp a g (q.1 last))

        -- from behind it
        outside : (g : Hart) → r.count ≤ n → InRuns way runs (at + length (run_code way r k)) (k + r.count) sp a (suc (n - r.count)) g → InRuns way (r ∷ runs) at k sp a (suc n) g
        outside g le q =
            let off : nat_lt (suc n) r.count ≡ false = not_less (suc n) r.count (omega (arith, le)) in
            let count : suc (n - r.count) ≡ suc n - r.count = omega (arith, le) in
            subst (λ b. WhereElse b (InRun way r at k sp a (suc n) g) (InRuns way runs (at + length (run_code way r k)) (k + r.count) sp a (suc n - r.count) g)) (sym off) (subst (λ i. InRuns way runs (at + length (run_code way r k)) (k + r.count) sp a i g) count q)

        on : (sp + (k + r.count) + length (units_in runs) ≤ words_of way → slice_get (units_in runs) (n - r.count) ≡ Some u → (way ≡ Stores → h.stack (sp + (k + r.count) + (n - r.count)) ≡ w)
            → InRuns way runs (at + length (run_code way r k)) (k + r.count) sp a (n - r.count) h → at + length (run_code way r k) + length (runs_code way runs (k + r.count)) < 2 ^ 23
            → Stands image.code (at + length (run_code way r k)) (runs_code way runs (k + r.count))
            → ForUnit h p (at + length (run_code way r k)) (at + length (run_code way r k) + length (runs_code way runs (k + r.count))) (sum a u.at) u.size w (sp + (k + r.count) + (n - r.count)) (InRuns way runs (at + length (run_code way r k)) (k + r.count) sp a (suc (n - r.count))))
            → (b : Bool) → nat_lt n r.count ≡ b → WhereElse b (InRun way r at k sp a n h) (InRuns way runs (at + length (run_code way r k)) (k + r.count) sp a (n - r.count) h)
            → ForUnit h p at (at + length (run_code way r k ++ runs_code way runs (k + r.count))) (sum a u.at) u.size w (sp + k + n) (InRuns way (r ∷ runs) at k sp a (suc n))
        on again true f i =
            let less : n < r.count = grind (arith, nat_tests, f) in
            let found : u ≡ record { at = r.at + n * r.size; size = r.size } = some_is (sym e ∙ unit_among r.at r.size r.count n (units_in runs) less) in
            subst (λ (x : StorageUnit). ForUnit h p at (at + length (run_code way r k ++ runs_code way runs (k + r.count))) (sum a x.at) x.size w (sp + k + n) (InRuns way (r ∷ runs) at k sp a (suc n))) (sym found)
            (unit_as h p at (at + length (run_code way r k)) at (at + length (run_code way r k ++ runs_code way runs (k + r.count))) (sum a (r.at + n * r.size)) r.size w (sp + k + n) _ _ (omega arith) (omega (arith, lengths)) (λ g q. inside g less q)
            (by_run r are.0.0 are.0.1 at k sp a (in_words way (sp + k + r.count) (sp + k + length (units_in (r ∷ runs))) (omega (arith, total)) room) n less w h p fine pointer ten has_word i (omega (arith, lengths, low)) (stands_front image.code at (run_code way r k) (runs_code way runs (k + r.count)) has)))
        on again false f i =
            let le : r.count ≤ n = grind (arith, nat_tests, f) in
            let cell : sp + (k + r.count) + (n - r.count) ≡ sp + k + n = omega (arith, le) in
            let found : slice_get (units_in runs) (n - r.count) ≡ Some u = sym (unit_behind r.at r.size r.count n (units_in runs) le) ∙ e in
            subst (λ x. ForUnit h p at (at + length (run_code way r k ++ runs_code way runs (k + r.count))) (sum a u.at) u.size w x (InRuns way (r ∷ runs) at k sp a (suc n))) cell
            (unit_as h p (at + length (run_code way r k)) (at + length (run_code way r k) + length (runs_code way runs (k + r.count))) at (at + length (run_code way r k ++ runs_code way runs (k + r.count))) (sum a u.at) u.size w _ _ _
            (omega arith) (omega (arith, lengths)) (λ g q. outside g le q)
            (again (subst (λ x. x ≤ words_of way) rest_room room) found (λ s. ap h.stack cell ∙ has_word s) i (omega (arith, lengths, low))
            (stands_back image.code at (run_code way r k) (runs_code way runs (k + r.count)) has))) where
              rest_room : sp + k + length (units_in (r ∷ runs)) ≡ sp + (k + r.count) + length (units_in runs)
              rest_room = omega (arith, total)
