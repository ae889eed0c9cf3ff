-- Harts follow operations on the units of values.
use Rattle.std.proofs.Common.{◌≡◌, ◌≢◌, ℕ, zero, suc, ◌+◌, ◌-◌, ◌^◌, ◌<◌, ◌≤◌, Bool, true, false, nat_lt, if◌then◌else◌, List, [], ◌∷◌, ◌++◌, length, slice_get, Option, Some, None, refl, sym, ap, ◌∙◌, arith, subst, length-append, ◌⊎◌, inl, inr, ⊎_elim}
use Rattle.std.specs.Prelude.{nat_eq}
use Rattle.std.proofs.lemmas.Bool.Decides.{nat_tests}
use Rattle.al_typed.specs.declared.layout.Unit.{Unit as StorageUnit}
use Rattle.al_world.specs.Control.{fitted}
use Rattle.al_meaning.specs.Words.{sum}
use Rattle.al_ir.specs.declared.ir.Ir.{Ir}
use Rattle.al_ir.specs.declared.ir.Run.{Run}
use Rattle.al_ir.specs.declared.op.Op.TheVariants as op
use Rattle.al_ir.specs.Control.{Slots, put as put_slot, Frame as IrFrame, Into, Nowhere, Word, Control}
use Rattle.al_ir.specs.Meaning.{resume}
use Rattle.al_ir.specs.Step.{Here, step_op, moves, asks_unit, Next, with_slot, with_unit}
use Rattle.al_ir.specs.Units.{units_from, units_in, units_at, units_or_none}
use Rattle.rv_isa.specs.declared.image.Contents.{Contents}
use Rattle.rv_isa.specs.declared.instr.Instr.{Instr}
use Rattle.rv_exec.specs.Hart.{Hart, put}
use Rattle.rv_exec.specs.Calls.{Privates}
use Rattle.rv_exec.specs.Machine.{line_of, resumed}
use Rattle.rv_exec.specs.declared.state.Waits.TheVariants.{Done}
use Rattle.rv_code.specs.declared.home.Home.{Home}
use Rattle.rv_code.specs.declared.home.Home.TheVariants.{Frame, Saved}
use Rattle.rv_code.specs.Homes.{value_at, bring}
use Rattle.rv_code.specs.Jumps.{place}
use Rattle.rv_code.specs.Runs.{Stands, Fine, Leads}
use Rattle.rv_code.proofs.Leading.{stands_front, stands_back, stays, then_leads, then_comes}
use Rattle.rv_code.proofs.Operands.{IsKept, not_kept, not_eight, home_kept}
use Rattle.rv_code.proofs.Pairs.{brings}
use Rattle.rv_code.proofs.Slots.{put_same, put_other}
use Rattle.rv_form.specs.Units.{Way, Loads, Stores, Clears, run_code, runs_code, value_code}
use Rattle.rv_form.specs.Words.{offset_instrs}
use Rattle.rv_match.specs.Following.{Going, Nears}
use Rattle.rv_match.specs.Match.{Private, InFrame, Reaches, Match}
use Rattle.rv_match.specs.Places.{Places, Homes, under, full}
use Rattle.rv_match.proofs.Counting.{jumps_grow}
use Rattle.rv_match.proofs.Keeping.{slot_cases, at_home, changed, goes_to}
use Rattle.rv_match.proofs.Steps.{Does, here, slot_does}
use Rattle.rv_words.proofs.Parts.{adds}
use Rattle.rv_words.proofs.Straight.{after, spared, runs as runs_straight}
use Rattle.rv_acts.proofs.Asking.{one_word}
use Rattle.rv_acts.proofs.Units.{load_sizes, unit_powers, IsUnit}
use Rattle.rv_units.specs.Units.{WhereElse, InRun, InRuns, AtValue}
use Rattle.rv_units.specs.Ways.{act_of, waits_of, answered, stored}
use Rattle.rv_units.proofs.Loops.{words_of}
use Rattle.rv_units.proofs.Runs.{answered_other, behind, ForUnit, AreRuns, at_start, at_end, next_unit}

-- ---- what an answer does to the control

abbrev into_of : Way → (slot : ℕ) → Into
into_of Loads slot = Word slot
into_of Stores slot = Nowhere
into_of Clears slot = Nowhere

abbrev slots_after : Way → (slot v : ℕ) → Slots → Slots
slots_after Loads slot v slots = put_slot slot v slots
slots_after Stores slot v slots = slots
slots_after Clears slot v slots = slots

-- the slot that has got a word
abbrev IsGot : Way → (slot t : ℕ) → Type 0
IsGot Loads slot t = t ≡ slot
IsGot Stores slot t = ⊥
IsGot Clears slot t = ⊥

abbrev control_in : Control → IrFrame → List IrFrame → Slots → (unit : ℕ) → Control
control_in c fr below slots unit = record { entering = None; into = Nowhere; unit = unit; text = c.text; last = c.last; frames = record fr { slots = slots } ∷ below }

answered_three : (way : Way) (v : ℕ) (rs : ℕ → ℕ) → answered way v rs 3 ≡ 4096
answered_three Loads v rs = refl
answered_three Stores v rs = refl
answered_three Clears v rs = refl

stored_other : (way : Way) (cell v : ℕ) (stack : ℕ → ℕ) (j : ℕ) → (way ≡ Loads → j ≢ cell) → stored way cell v stack j ≡ stack j
stored_other Loads cell v stack j other = put_other stack cell v j (other refl)
stored_other Stores cell v stack j other = refl
stored_other Clears cell v stack j other = refl

slots_stay : (way : Way) (slot v : ℕ) (slots : Slots) (s : ℕ) → (way ≡ Loads → s ≢ slot) → slots_after way slot v slots s ≡ slots s
slots_stay Loads slot v slots s other =
    let e : nat_eq s slot ≡ false = not_equal s slot (other refl) in
    ap (λ (b : Bool). if b then Some v else slots s) e where
      not_equal : (i j : ℕ) → i ≢ j → nat_eq i j ≡ false
      not_equal i j q = grind (arith, nat_tests, q)
slots_stay Stores slot v slots s other = refl
slots_stay Clears slot v slots s other = refl

-- the words of slots are at their homes behind an answer
held_after : (way : Way) (slots : Slots) (live0 live1 : ℕ → Type 0) (home : ℕ → Home) (sp slot cell v limit : ℕ) (r0 st0 rs : ℕ → ℕ) → cell ≡ sp + slot
    → ((s : ℕ) → live1 s → IsGot way slot s ⊎ live0 s) → (way ≢ Clears → home slot ≡ Frame slot) → (way ≢ Clears → slot < limit) → ((s j : ℕ) → home s ≡ Frame j → j ≡ s)
    → ((s w : ℕ) → live0 s → slots s ≡ Some w → (s < limit) × (value_at (home s) sp r0 st0 ≡ w)) → ((s : ℕ) → s < limit → value_at (home s) sp rs st0 ≡ value_at (home s) sp r0 st0)
    → (s w : ℕ) → live1 s → slots_after way slot v slots s ≡ Some w → (s < limit) × (value_at (home s) sp rs (stored way cell v st0) ≡ w)
held_after Loads slots live0 live1 home sp slot cell v limit r0 st0 rs at grows in_frame is_slot own old kept s w a q =
    ⊎_elim
    (λ now. (
      subst (λ i. i < limit) (sym now.0) (is_slot (λ e. absurd (cc))),
      ap (λ i. value_at (home i) sp rs (put st0 cell v)) now.0 ∙ ap (λ k. value_at k sp rs (put st0 cell v)) (in_frame (λ e. absurd (cc))) ∙ ap (put st0 cell v) (sym at) ∙ put_same st0 cell v ∙ now.1,
    ))
    (λ other. ⊎_elim (λ got. absurd (other.0 got)) (λ b. let was = old s w b other.1 in (was.0, apart_from (home s) (λ j e f. other.0 (sym (own s j e) ∙ same j f)) ∙ kept s was.0 ∙ was.1)) (grows s a))
    (slot_cases slots slot v s w q) where
      same : (j : ℕ) → sp + j ≡ cell → j ≡ slot
      same j f = omega (arith, f, at)

      apart_from : (k : Home) → ((j : ℕ) → k ≡ Frame j → sp + j ≢ cell) → value_at k sp rs (put st0 cell v) ≡ value_at k sp rs st0
      apart_from (Frame j) other = put_other st0 cell v (sp + j) (other j refl)
      apart_from (Saved r) other = refl
held_after Stores slots live0 live1 home sp slot cell v limit r0 st0 rs at grows in_frame is_slot own old kept s w a q =
    ⊎_elim (λ got. absurd got) (λ b. let was = old s w b q in (was.0, kept s was.0 ∙ was.1)) (grows s a)
held_after Clears slots live0 live1 home sp slot cell v limit r0 st0 rs at grows in_frame is_slot own old kept s w a q =
    ⊎_elim (λ got. absurd got) (λ b. let was = old s w b q in (was.0, kept s was.0 ∙ was.1)) (grows s a)

-- the size of a unit among others
size_in : (P : ℕ → Type 0) (at size count n : ℕ) (rest : List StorageUnit) (x : StorageUnit) → P size → (n < count → ⊥) ⊎ Unit {0} → slice_get (units_from at size count ++ rest) n ≡ Some x → ((i : ℕ) → slice_get rest i ≡ Some x → P x.size) → P x.size
size_in P at size zero n rest x is q e more = more n e
size_in P at size (suc c) zero rest x is q e more = subst (λ (y : StorageUnit). P y.size) (some_is e) is where
  some_is : {i j : StorageUnit} → Some i ≡ Some j → i ≡ j
  some_is e = cc
size_in P at size (suc c) (suc n) rest x is q e more = size_in P (at + size) size c n rest x is (inr tt) e more

size_is : (image : Contents) (small : length image.code ≤ 2 ^ 23) (way : Way) (runs : List Run) → AreRuns image small way runs → (n : ℕ) (x : StorageUnit) → slice_get (units_in runs) n ≡ Some x → IsUnit x.size
size_is image small way [] are n x e = absurd (cc)
size_is image small way (r ∷ runs) are n x e = size_in IsUnit r.at r.size r.count n (units_in runs) x are.0.0 (inr tt) e (λ i f. size_is image small way runs are.1 i x f)

-- no unit is past the last
in_bounds : (way : Way) (runs : List Run) (at k sp a n : ℕ) (h : Hart) → InRuns way runs at k sp a n h → n ≤ length (units_in runs)
in_bounds way [] at k sp a n h is = omega (arith, is.0)
in_bounds way (r ∷ runs) at k sp a n h is = on (λ i. in_bounds way runs (at + length (run_code way r k)) (k + r.count) sp a (n - r.count) h i) (nat_lt n r.count) refl is where
  count_of : (at size count : ℕ) → length (units_from at size count) ≡ count
  count_of at size zero = refl
  count_of at size (suc n) = omega (arith, count_of (at + size) size n)

  total : length (units_in (r ∷ runs)) ≡ r.count + length (units_in runs)
  total = length-append (units_from r.at r.size r.count) (units_in runs) ∙ ap (λ i. i + length (units_in runs)) (count_of r.at r.size r.count)

  on : (InRuns way runs (at + length (run_code way r k)) (k + r.count) sp a (n - r.count) h → n - r.count ≤ length (units_in runs))
      → (b : Bool) → nat_lt n r.count ≡ b → WhereElse b (InRun way r at k sp a n h) (InRuns way runs (at + length (run_code way r k)) (k + r.count) sp a (n - r.count) h) → n ≤ length (units_in (r ∷ runs))
  on more true e i = let less : n < r.count = grind (arith, nat_tests, e) in omega (arith, less, total)
  on more false e i = omega (arith, more i, total)

-- an answer, and what it does to the control and to the hart that waits
abbrev asked_by : Way → Control → IrFrame → List IrFrame → (slot unit : ℕ) → Control
asked_by way c fr below slot unit = record { entering = None; into = into_of way slot; unit = unit; text = c.text; last = c.last; frames = fr ∷ below }

abbrev waiting_by : Way → (size : ℕ) → Hart → Hart
waiting_by way size w = record w { waits = waits_of way size; jumps = 0; work = 0 }

record Answered (image : Contents) (small : length image.code ≤ 2 ^ 23) (way : Way) (c : Control) (fr : IrFrame) (below : List IrFrame) (size address word slot unit : ℕ) (w : Hart) (words : List ℕ) : Type 0 where
  v : ℕ
  control : resume (asked_by way c fr below slot unit) (fitted (act_of way address size word) words) ≡ control_in c fr below (slots_after way slot v fr.slots) unit
  hart : resumed (waiting_by way size w) (fitted (act_of way address size word) words) ≡ behind image small way (waiting_by way size w) v

answers : (image : Contents) (small : length image.code ≤ 2 ^ 23) (way : Way) (c : Control) (fr : IrFrame) (below : List IrFrame) (size address word slot unit : ℕ) (w : Hart) (words : List ℕ) → IsUnit size
    → Answered image small way c fr below size address word slot unit w words
answers image small Loads c fr below size address word slot unit w words known =
    let q = one_word (256 ^ size) words (unit_powers size known).0 in
    record {
      v = q.0;
      control = ap (resume (asked_by Loads c fr below slot unit)) q.1;
      hart = ap (resumed (waiting_by Loads size w)) q.1 ∙ ap (λ x. record w { pc = w.pc + 4; registers = put (put w.registers 11 x) 3 4096; waits = Done; jumps = 0; work = 0 }) ((load_sizes size known).1 q.0);
    }
answers image small Stores c fr below size address word slot unit w words known = record { v = 0; control = refl; hart = refl }
answers image small Clears c fr below size address word slot unit w words known = record { v = 0; control = refl; hart = refl }

module _ (ir : Ir) (image : Contents) (l : Places) (live : (f pc unit t : ℕ) → Type 0) (Midway : (f pc unit : ℕ) → Slots → (sp : ℕ) → Hart → Type 0)
    (left : ℕ) (fr : IrFrame) (below : List IrFrame) (c : Control) (line : ℕ) (u : List ℕ) (h : Hart) (p : Privates)
    (homes : Homes l) (small : length image.code ≤ 2 ^ 23) (m : InFrame ir image l live Midway left fr below c.unit c.text c.last h) (same : Private ir u p) (fine : Fine h p)
    (way : Way) (runs : List Run) (slot offset t : ℕ) (fits : offset < 2 ^ 32) where
  abbrev at_hand : Here
  at_hand = here ir image l live Midway left fr below c line u h p

  abbrev at0 : ℕ
  at0 = l.at fr.function fr.pc

  abbrev home : ℕ → Home
  home s = l.home fr.function s

  abbrev sp : ℕ
  sp = under l below

  abbrev total : ℕ
  total = length (units_in runs)

  abbrev front : List Instr
  front = bring (home slot) 10 ++ offset_instrs offset 10 10

  -- where the units begin
  abbrev at1 : ℕ
  at1 = at0 + length (bring (home slot) 10) + length (offset_instrs offset 10 10)

  -- What is live within the operation: the slot of the address, and what it has loaded; and where a hart stands there.
  pub record Within : Type 0 where
    pub reads : (n : ℕ) → n ≤ total → live fr.function fr.pc n slot
    pub grows : (n s : ℕ) → n < total → live fr.function fr.pc (suc n) s → IsGot way (t + n) s ⊎ live fr.function fr.pc n s
    pub ends : (s : ℕ) → live fr.function (fr.pc + 1) 0 s → live fr.function fr.pc total s
    pub gives : way ≡ Stores → (n : ℕ) → n < total → live fr.function fr.pc n (t + n)
    pub in_frame : way ≢ Clears → (n : ℕ) → n < total → home (t + n) ≡ Frame (t + n)
    pub are_slots : way ≢ Clears → t + total ≤ l.slots fr.function
    pub apart : way ≡ Loads → (n : ℕ) → n < total → slot ≢ t + n
    pub none_cleared : way ≡ Clears → t ≡ 0
    pub comes_in : (n : ℕ) (slots : Slots) (sp : ℕ) (g : Hart) → AtValue way runs at1 t slot offset (suc n) slots sp g → Midway fr.function fr.pc (suc n) slots sp g
    pub comes_out : (n : ℕ) (slots : Slots) (sp : ℕ) (g : Hart) → Midway fr.function fr.pc (suc n) slots sp g → AtValue way runs at1 t slot offset (suc n) slots sp g

  module _ (w : Within) (are : AreRuns image small way runs) (few : total ≤ 1024) (has : Stands image.code at0 (value_code way (home slot) offset runs t))
      (next : at0 + length (value_code way (home slot) offset runs t) ≡ l.at fr.function (fr.pc + 1)) (low : l.at fr.function (fr.pc + 1) < 2 ^ 23)
      (line_is : (j : ℕ) → at0 ≤ j → j < l.at fr.function (fr.pc + 1) → line_of image (place j) ≡ line) where
    abbrev code : List Instr
    code = runs_code way runs t

    code1 : Stands image.code at1 code
    code1 = stands_back image.code (at0 + length (bring (home slot) 10)) (offset_instrs offset 10 10) code (stands_back image.code at0 (bring (home slot) 10) (offset_instrs offset 10 10 ++ code) has)

    lengths : at1 + length code ≡ l.at fr.function (fr.pc + 1)
    lengths = omega (arith, next, length-append (bring (home slot) 10) (offset_instrs offset 10 10 ++ code), length-append (offset_instrs offset 10 10) code)

    room : sp + t + total ≤ words_of way
    room = on way refl where
      on : (v : Way) → way ≡ v → sp + t + total ≤ words_of v
      on Loads e = omega (arith, w.are_slots (λ q. absurd (cc)), m.room, m.inside)
      on Stores e = omega (arith, w.are_slots (λ q. absurd (cc)), m.room, m.inside)
      on Clears e = omega (arith, w.none_cleared e, few, m.inside)

    -- ---- so many units are done

    -- the hart stands before the next one, with scratch registers changed at most
    record Before (x n : ℕ) : Type 0 where
      pc : ℕ
      registers : ℕ → ℕ
      work : ℕ
      leads : Leads image h p (record h { pc = pc; registers = registers; work = work }) p
      kept : (i : ℕ) → IsKept i → registers i ≡ h.registers i
      ten : registers 10 ≡ sum x offset
      inside : InRuns way runs at1 t sp (sum x offset) n (record h { pc = pc; registers = registers; work = work })

    before : (x n : ℕ) → fr.slots slot ≡ Some x → Reaches ir image l live Midway fr.function fr.pc n fr.slots sp h → live fr.function fr.pc c.unit slot → Before x n
    before x zero e reach la =
        let was = m.holds slot x la e in
        let g = brings image small h p at0 sp (home slot) 10 fine reach m.pointer (at_home ir image l live Midway m homes slot was.0) (stands_front image.code at0 (bring (home slot) 10) (offset_instrs offset 10 10 ++ code) has) in
        let h1 : Hart = record h { pc = g.pc; registers = g.registers; work = g.work } in
        let comp = adds offset fits in
        let offsets : List Instr = offset_instrs offset 10 10 in
        let r = runs_straight image small offsets h1 p (at0 + length (bring (home slot) 10)) (comp.straight 10 10)
        (stands_front image.code (at0 + length (bring (home slot) 10)) offsets code (stands_back image.code at0 (bring (home slot) 10) (offsets ++ code) has)) g.there in
        let rs : ℕ → ℕ = after offsets g.registers in
        let h2 : Hart = record h { pc = r.pc; registers = rs; work = r.work } in
        let value : rs 10 ≡ sum x offset = comp.gives 10 10 g.registers (inl refl) (inl refl) ((g.leads.fine fine).hart.registers 10) ∙ ap (λ y. sum y offset) (g.holds ∙ was.1) in
        record {
          pc = r.pc;
          registers = rs;
          work = r.work;
          leads = then_leads image {i = h1} {j = h2} g.leads r.leads;
          kept = λ i q. spared i offsets g.registers (comp.spares 10 10 i (not_kept 10 i (omega arith, omega arith) q) q) ∙ g.kept i (not_kept 10 i (omega arith, omega arith) q) (not_eight i q);
          ten = value;
          inside = at_start image small way runs at1 t sp (sum x offset) h2 r.there;
        }
    before x (suc n) e reach la =
        let q = w.comes_out n fr.slots sp h reach in
        let one : q.0 ≡ x = some_is (sym q.1 ∙ e) in
        record {
          pc = h.pc;
          registers = h.registers;
          work = h.work;
          leads = stays image;
          kept = λ i s. refl;
          ten = q.2.address ∙ ap (λ y. sum y offset) one;
          inside = subst (λ y. InRuns way runs at1 t sp (sum y offset) (suc n) h) one q.2.inside;
        } where
          some_is : {i j : ℕ} → Some i ≡ Some j → i ≡ j
          some_is e = cc

    -- ---- a unit is asked

    module _ (x : ℕ) (e : fr.slots slot ≡ Some x) (b : Before x c.unit) where
      abbrev n : ℕ
      n = c.unit

      abbrev h1 : Hart
      h1 = record h { pc = b.pc; registers = b.registers; work = b.work }

      -- behind the last one the operation is done
      done : slice_get (units_in runs) c.unit ≡ None → Does ir image l live Midway left h p (moves at_hand)
      done none =
          let all : c.unit ≡ total = past (units_in runs) c.unit none (in_bounds way runs at1 t sp (sum x offset) c.unit h1 b.inside) in
          let there : b.pc ≡ place (l.at fr.function (fr.pc + 1)) = at_end image small way runs at1 t sp (sum x offset) c.unit h1 b.inside all ∙ ap place lengths in
          record {
            next = h1;
            privates = p;
            leads = b.leads;
            match = inl (goes_to ir image l live Midway m (fr.pc + 1) left c.text h1 there (λ i k other. b.kept i k) (b.kept 3 (inl (omega arith, omega arith)) ∙ m.turns) (λ j. refl) m.text_is m.waits
                (omega (arith, m.counted, jumps_grow ir fr.function fr.pc (fr.pc + 1) (omega arith))) m.some m.few (λ s a. subst (λ i. live fr.function fr.pc i s) (sym all) (w.ends s a)) homes);
            same = same;
          } where
            past : (us : List StorageUnit) (i : ℕ) → slice_get us i ≡ None → i ≤ length us → i ≡ length us
            past [] i f le = omega (arith, le)
            past (y ∷ us) zero f le = absurd (cc)
            past (y ∷ us) (suc i) f le = ap suc (past us i f (omega (arith, le)))

      module _ (y : StorageUnit) (found : slice_get (units_in runs) c.unit ≡ Some y) (word : ℕ) (word_is : way ≡ Stores → fr.slots (t + c.unit) ≡ Some word) where
        abbrev address : ℕ
        address = sum (sum x offset) y.at

        abbrev cell : ℕ
        cell = sp + t + c.unit

        abbrev got : ℕ
        got = t + c.unit

        cell_is : cell ≡ sp + got
        cell_is = omega arith

        less : c.unit < total
        less = within (units_in runs) c.unit found where
          within : (us : List StorageUnit) (i : ℕ) → slice_get us i ≡ Some y → i < length us
          within [] i f = absurd (cc)
          within (z ∷ us) zero f = omega arith
          within (z ∷ us) (suc i) f = omega (arith, within us i f)

        word_stands : way ≡ Stores → h1.stack cell ≡ word
        word_stands s =
            let was = m.holds got word (w.gives s c.unit less) (word_is s) in
            ap h.stack cell_is ∙ ap (λ k. value_at k sp h.registers h.stack) (sym (w.in_frame (λ q. absurd (cc)) c.unit less)) ∙ was.1

        asking : ForUnit image small way h1 p at1 (at1 + length code) address y.size word cell (InRuns way runs at1 t sp (sum x offset) (suc c.unit))
        asking =
            next_unit image small way runs are at1 t sp (sum x offset) c.unit word y h1 p room found (b.leads.fine fine) (b.kept 2 (inl (omega arith, omega arith)) ∙ m.pointer) b.ten word_stands b.inside
            (omega (arith, lengths, low)) code1

        known : IsUnit y.size
        known = size_is image small way runs are c.unit y found

        abbrev waiting : Hart
        waiting = record h1 { pc = asking.pc; registers = asking.registers; waits = waits_of way y.size; work = asking.work }

        unit_is : suc c.unit ≡ c.unit + 1
        unit_is = omega arith

        -- behind each answer the hart stands before the next unit
        nears : (v : ℕ) (q : Privates) → Fine (behind image small way waiting v) q
            → Nears image resume (Private ir) (Match ir image l live Midway) full (control_in c fr below (slots_after way got v fr.slots) (c.unit + 1)) (behind image small way waiting v) q
        nears v q good =
            let g = asking.goes v q good in
            let kept : (i : ℕ) → IsKept i → i ≢ 3 → g.registers i ≡ h.registers i =
            λ i k other. g.kept i k ∙ answered_other way v asking.registers i other (not_kept 11 i (omega arith, omega arith) k) ∙ asking.kept i k ∙ b.kept i k in
            let stack1 : ℕ → ℕ = stored way cell v h.stack in
            let h2 : Hart = record (behind image small way waiting v) { pc = g.pc; registers = g.registers; stack = stack1; jumps = g.jumps; work = g.work } in
            let slots1 : Slots = slots_after way got v fr.slots in
            let slot_stays : slots1 slot ≡ Some x = slots_stay way got v fr.slots slot (λ s. w.apart s c.unit less) ∙ e in
            let ten : g.registers 10 ≡ sum x offset = g.ten ∙ answered_other way v asking.registers 10 (omega arith) (omega arith) ∙ asking.ten ∙ b.ten in
            let here_now : Reaches ir image l live Midway fr.function fr.pc (suc c.unit) slots1 sp h2 = w.comes_in c.unit slots1 sp h2 (x, slot_stays, record { address = ten; inside = g.inside }) in
            record {
              there = h2;
              leads = g.leads;
              match = inl (changed ir image l live Midway m {left1 = full} {pc1 = fr.pc} {unit1 = c.unit + 1} {slots1 = slots1} {text1 = c.text} {last1 = c.last} {h1 = h2} (record {
                here = subst (λ i. Reaches ir image l live Midway fr.function fr.pc i slots1 sp h2) unit_is here_now;
                pointer = kept 2 (inl (omega arith, omega arith)) (omega arith);
                globals = kept 4 (inl (omega arith, omega arith)) (omega arith);
                turns = g.kept 3 (inl (omega arith, omega arith)) ∙ answered_three way v asking.registers;
                below_it = λ j lower. stored_other way cell v h.stack j (λ s z. absurd (omega (arith, lower, z)));
                way = stored_other way cell v h.stack (sp + l.slots fr.function) (λ s z. absurd (omega (arith, z, w.are_slots (not_clears s), less)));
                holds = λ s word1 a q1. held_after way fr.slots (λ i. live fr.function fr.pc c.unit i) (λ i. live fr.function fr.pc (suc c.unit) i) home sp got cell v (l.slots fr.function) h.registers h.stack g.registers cell_is
                    (λ i a1. w.grows c.unit i less a1) (λ q2. w.in_frame q2 c.unit less) (λ q2. omega (arith, w.are_slots q2, less)) (λ i j f. homes.frame fr.function i j f) m.holds
                    (λ i lower. home_kept (home i) sp h.registers g.registers h.stack (at_home ir image l live Midway m homes i lower) (λ r k. kept r (inr k) (λ z. absurd (omega (arith, k.0, z)))))
                    s word1 (subst (λ i. live fr.function fr.pc i s) (sym unit_is) a) q1;
                above = λ s word1 q1. let was = m.above s word1 q1 in
                    (was.0, stored_other way cell v h.stack (sp + l.stack fr.function + s) (λ s1 z. absurd (omega (arith, z, w.are_slots (not_clears s1), less, m.room))) ∙ was.1);
                text_is = m.text_is;
                waits = refl;
                counted = omega (arith, g.counted);
                some = omega arith;
                few = omega arith;
              }));
            } where
              not_clears : way ≡ Loads → way ≢ Clears
              not_clears f z = two (sym f ∙ z) where
                two : Loads ≡ Clears → ⊥
                two q = absurd (cc)

        asks : Does ir image l live Midway left h p (asks_unit (act_of way address y.size word) (into_of way got) at_hand)
        asks = λ real. record {
          waiting = waiting;
          privates = p;
          comes = then_comes image {i = h1} b.leads asking.comes;
          line_is = ap (line_of image) asking.there ∙ line_is asking.spot (omega (arith, asking.from)) (omega (arith, asking.to, lengths));
          waits = λ going words.
              let an = answers image small way c fr below y.size address word got (c.unit + 1) waiting words known in
              subst (λ (k : Control). Going image resume (Private ir) (Match ir image l live Midway) full k (resumed (waiting_by way y.size waiting) (fitted (act_of way address y.size word) words))) (sym an.control)
              (subst (λ (g : Hart). Going image resume (Private ir) (Match ir image l live Midway) full (control_in c fr below (slots_after way got an.v fr.slots) (c.unit + 1)) g) (sym an.hart)
              (record {
                near = omega (arith, asking.there, asking.to, lengths, low);
                jumps = refl;
                work = refl;
                comes = λ q good. nears an.v q good;
              }));
          same = same;
        }

    -- ---- the operations

    -- with the address, and the layout of the value
    units_do : (layout : ℕ) → slice_get ir.layouts layout ≡ Some runs → (K : ℕ → StorageUnit → Next)
        → ((x : ℕ) (y : StorageUnit) → fr.slots slot ≡ Some x → Before x c.unit → slice_get (units_in runs) c.unit ≡ Some y → Does ir image l live Midway left h p (K x y))
        → Does ir image l live Midway left h p (with_slot at_hand slot (λ x. with_unit at_hand (slice_get (units_at ir layout) c.unit) (K x)))
    units_do layout found K each =
        slot_does ir image l live Midway left fr below c line u h p slot _ (λ x e.
        let b = before x c.unit e m.here (w.reads c.unit (in_bounds_of x e)) in
        let same_units : units_at ir layout ≡ units_in runs = ap units_or_none found in
        on x e b (slice_get (units_in runs) c.unit) refl (ap (λ (us : List StorageUnit). slice_get us c.unit) same_units)) where
          in_bounds_of : (x : ℕ) → fr.slots slot ≡ Some x → c.unit ≤ total
          in_bounds_of x e = at_most c.unit m.here where
            at_most : (n : ℕ) → Reaches ir image l live Midway fr.function fr.pc n fr.slots sp h → n ≤ total
            at_most zero r = omega arith
            at_most (suc n) r = let q = w.comes_out n fr.slots sp h r in in_bounds way runs at1 t sp (sum q.0 offset) (suc n) h q.2.inside

          on : (x : ℕ) → fr.slots slot ≡ Some x → Before x c.unit → (o : Option StorageUnit) → slice_get (units_in runs) c.unit ≡ o → slice_get (units_at ir layout) c.unit ≡ slice_get (units_in runs) c.unit
              → Does ir image l live Midway left h p (with_unit at_hand (slice_get (units_at ir layout) c.unit) (K x))
          on x e b o f g = subst (λ (i : Option StorageUnit). Does ir image l live Midway left h p (with_unit at_hand i (K x))) (sym (g ∙ f)) (by o f) where
            by : (o : Option StorageUnit) → slice_get (units_in runs) c.unit ≡ o → Does ir image l live Midway left h p (with_unit at_hand o (K x))
            by (Some y) f = each x y e b f
            by None f = done x e b f

module _ (ir : Ir) (image : Contents) (l : Places) (live : (f pc unit t : ℕ) → Type 0) (Midway : (f pc unit : ℕ) → Slots → (sp : ℕ) → Hart → Type 0)
    (left : ℕ) (fr : IrFrame) (below : List IrFrame) (c : Control) (line : ℕ) (u : List ℕ) (h : Hart) (p : Privates)
    (homes : Homes l) (small : length image.code ≤ 2 ^ 23) (m : InFrame ir image l live Midway left fr below c.unit c.text c.last h) (same : Private ir u p) (fine : Fine h p)
    (runs : List Run) (layout slot offset t : ℕ) (fits : offset < 2 ^ 32) (found : slice_get ir.layouts layout ≡ Some runs) (few : length (units_in runs) ≤ 1024) (low : l.at fr.function (fr.pc + 1) < 2 ^ 23)
    (line_is : (j : ℕ) → l.at fr.function fr.pc ≤ j → j < l.at fr.function (fr.pc + 1) → line_of image (place j) ≡ line) where
  abbrev Inside : Way → Type 0
  Inside way = Within ir image l live Midway left fr below c line u h p homes small m same fine way runs slot offset t fits

  abbrev HasCode : Way → Type 0
  HasCode way =
      Stands image.code (l.at fr.function fr.pc) (value_code way (l.home fr.function slot) offset runs t)
      × (l.at fr.function fr.pc + length (value_code way (l.home fr.function slot) offset runs t) ≡ l.at fr.function (fr.pc + 1))

  pub load_units_does : Inside Loads → AreRuns image small Loads runs → HasCode Loads → Does ir image l live Midway left h p (step_op (op.LoadUnits t slot offset layout) (here ir image l live Midway left fr below c line u h p))
  load_units_does w are code =
      units_do ir image l live Midway left fr below c line u h p homes small m same fine Loads runs slot offset t fits w are few code.0 code.1 low line_is layout found _
      (λ x y e f b. asks ir image l live Midway left fr below c line u h p homes small m same fine Loads runs slot offset t fits w are few code.0 code.1 low line_is x e f y b 0 (λ q. absurd (cc)))

  pub store_units_does : Inside Stores → AreRuns image small Stores runs → HasCode Stores → Does ir image l live Midway left h p (step_op (op.StoreUnits slot offset layout t) (here ir image l live Midway left fr below c line u h p))
  store_units_does w are code =
      units_do ir image l live Midway left fr below c line u h p homes small m same fine Stores runs slot offset t fits w are few code.0 code.1 low line_is layout found _
      (λ x y e f b. slot_does ir image l live Midway left fr below c line u h p (t + c.unit) _ (λ word g.
      asks ir image l live Midway left fr below c line u h p homes small m same fine Stores runs slot offset t fits w are few code.0 code.1 low line_is x e f y b word (λ q. g)))

  pub clear_units_does : Inside Clears → AreRuns image small Clears runs → HasCode Clears → Does ir image l live Midway left h p (step_op (op.ClearUnits slot offset layout) (here ir image l live Midway left fr below c line u h p))
  clear_units_does w are code =
      units_do ir image l live Midway left fr below c line u h p homes small m same fine Clears runs slot offset t fits w are few code.0 code.1 low line_is layout found _
      (λ x y e f b. asks ir image l live Midway left fr below c line u h p homes small m same fine Clears runs slot offset t fits w are few code.0 code.1 low line_is x e f y b 0 (λ q. absurd (cc)))
