-- A unit of a value in the loop over units of one size.
use Rattle.std.proofs.Common.{◌≡◌, ◌≢◌, ℕ, suc, ◌+◌, ◌*◌, ◌%◌, ◌^◌, ◌<◌, ◌≤◌, Bool, nat_le, if◌then◌else◌, ℤ, pos, negsuc, List, [], ◌∷◌, length, refl, sym, ap, ◌∙◌, arith, subst, inl, inr, ⊎_elim}
use Rattle.std.proofs.lemmas.Int.{ints}
use Rattle.std.proofs.lemmas.Bool.{cases_lt}
use Rattle.rv_isa.specs.declared.addresses.TheConstants.{STACK_START}
use Rattle.al_event.specs.declared.act.Act.TheVariants as act
use Rattle.rv_isa.specs.declared.image.Contents.{Contents}
use Rattle.rv_isa.specs.declared.instr.Instr.{Instr}
use Rattle.rv_isa.specs.declared.instr.Instr.TheVariants.{Load, Store, Branch, Immediate}
use Rattle.rv_isa.specs.declared.instr.LoadOp.TheVariants.{Lw}
use Rattle.rv_isa.specs.declared.instr.StoreOp.TheVariants.{Sw}
use Rattle.rv_isa.specs.declared.instr.BranchOp.TheVariants.{Bne}
use Rattle.rv_isa.specs.declared.instr.ImmediateOp.TheVariants.{Addi}
use Rattle.rv_exec.specs.Hart.{Hart, put, moved, with_register}
use Rattle.rv_exec.specs.Words.{word, sum_of}
use Rattle.rv_exec.specs.Calls.{Privates, Goes}
use Rattle.rv_exec.specs.Machine.{asked}
use Rattle.rv_exec.specs.Step.{jumps, jumps_by, most_jumps}
use Rattle.rv_exec.specs.declared.state.Waits.TheVariants.{Done, Unit as UnitWaits}
use Rattle.al_meaning.specs.Words.{sum}
use Rattle.al_ir.specs.declared.ir.Run.{Run}
use Rattle.rv_code.specs.Jumps.{place}
use Rattle.rv_code.specs.Runs.{Stands, Fine, Leads, Comes}
use Rattle.rv_code.proofs.Leading.{stands_front, stands_back, then_leads, then_comes, one, last, fetched}
use Rattle.rv_code.proofs.Access.{loads_word, stores_word}
use Rattle.rv_code.proofs.Slots.{put_other}
use Rattle.rv_code.proofs.Jumps.{counts}
use Rattle.rv_form.specs.Units.{Way, Loads, Stores, Clears, load_op, store_op, frame_address, round_code, loop_code}
use Rattle.rv_acts.proofs.Units.{IsUnit, asks_load}
use Rattle.rv_acts.proofs.Stores.{asks_store}
use Rattle.rv_units.specs.Units.{head_words, PointsTo, Looping}
use Rattle.rv_units.specs.Ways.{stored}
use Rattle.rv_units.proofs.Addresses.{addresses}
use Rattle.rv_units.proofs.Zeroing.{off, on_it}
use Rattle.rv_units.proofs.Ones.{Asks}

-- ---- offsets of units

offsets_rise : (size : ℕ) → IsUnit size → (at n m : ℕ) → n < m → at + n * size < at + m * size
offsets_rise size (inl e) at n m less = rw e (omega (arith, less))
offsets_rise size (inr (inl e)) at n m less = rw e (omega (arith, less))
offsets_rise size (inr (inr e)) at n m less = rw e (omega (arith, less))

pub offset_below : (size : ℕ) → IsUnit size → (at n m : ℕ) → n < m → at + m * size ≤ 1024 → at + n * size < 2 ^ 11
offset_below size known at n m less fits = let rise = offsets_rise size known at n m less in omega (arith, rise, fits)

size_few : (size : ℕ) → IsUnit size → (1 ≤ size) × (size ≤ 4)
size_few size (inl e) = (omega (arith, e), omega (arith, e))
size_few size (inr (inl e)) = (omega (arith, e), omega (arith, e))
size_few size (inr (inr e)) = (omega (arith, e), omega (arith, e))

differ : (a o1 o2 : ℕ) → o1 < o2 → o2 ≤ 1024 → sum a o1 ≢ sum a o2
differ a o1 o2 less few e = absurd (omega (arith, less, few, e))

next_offset : (at n size : ℕ) → at + n * size + size ≡ at + (n + 1) * size
next_offset at n size = omega arith

abbrev pub words_of : Way → ℕ
words_of Clears = 2 ^ 21
words_of _ = 2 ^ 20

-- the word of a round that asks
abbrev pub round_spot : Way → (start : ℕ) → ℕ
round_spot Loads start = start
round_spot Stores start = start + 1
round_spot Clears start = start

module _ (image : Contents) (small : length image.code ≤ 2 ^ 23) (r : Run) (known : IsUnit r.size) (fits : r.at + r.count * r.size ≤ 1024) (at k sp a : ℕ) where
  abbrev start : ℕ
  start = at + head_words k

  -- ---- before the first round

  pub record Began (way : Way) (h : Hart) (p : Privates) : Type 0 where
    pub pc : ℕ
    pub registers : ℕ → ℕ
    pub work : ℕ
    pub leads : Leads image h p (record h { pc = pc; registers = registers; work = work }) p
    pub there : pc ≡ place start
    pub unit : registers 12 ≡ sum a (r.at + 0 * r.size)
    pub last : registers 13 ≡ sum a (r.at + r.count * r.size)
    pub word : PointsTo way (registers 8) (sp + k + 0)
    pub kept : (n : ℕ) → n ≢ 8 → n ≢ 12 → n ≢ 13 → registers n ≡ h.registers n

  points : (way : Way) (register cell : ℕ) → register ≡ STACK_START + 4 * cell → PointsTo way register cell
  points Loads register cell e = e
  points Stores register cell e = e
  points Clears register cell e = tt

  pub begins : (way : Way) (h : Hart) (p : Privates) → h.pc ≡ place at → h.registers 2 ≡ STACK_START + 4 * sp → h.registers 10 ≡ a → sp + k ≤ 2 ^ 21 → Stands image.code at (loop_code way r k) → Began way h p
  begins way h p here pointer ten inside has =
      let address : List Instr = frame_address 8 k in
      let tail : List Instr = Immediate Addi 12 10 (pos r.at) ∷ Immediate Addi 13 10 (pos (r.at + r.count * r.size)) ∷ round_code way r.size in
      let g = addresses image small h p at sp k 8 here pointer inside (omega arith) (omega arith) (stands_front image.code at address tail has) in
      let code1 = stands_back image.code at address tail has in
      let h1 : Hart = record h { pc = g.pc; registers = g.registers; work = g.work } in
      let base : g.registers 10 ≡ a = g.kept 10 (omega arith) (omega arith) ∙ ten in
      let first : sum_of (g.registers 10) (word (pos r.at)) ≡ sum a (r.at + 0 * r.size) = omega (arith, ints, base, fits) in
      let rs1 : ℕ → ℕ = put g.registers 12 (sum a (r.at + 0 * r.size)) in
      let h2 : Hart = record h { pc = g.pc + 4; registers = rs1; work = g.work + 1 } in
      let end : sum_of (rs1 10) (word (pos (r.at + r.count * r.size))) ≡ sum a (r.at + r.count * r.size) = ends (rs1 10) base (r.at + r.count * r.size) fits in
      let rs2 : ℕ → ℕ = put rs1 13 (sum a (r.at + r.count * r.size)) in
      let h3 : Hart = record h { pc = g.pc + 4 + 4; registers = rs2; work = g.work + 1 + 1 } in
      record {
        pc = g.pc + 4 + 4;
        registers = rs2;
        work = g.work + 1 + 1;
        leads = then_leads image {i = h1} {j = h3} g.leads
            (then_leads image {i = h2} {j = h3} (one image {h = h1} {next = h2} {p = p} {q = p} small (Immediate Addi 12 10 (pos r.at)) (at + length address) code1.0 g.there
            (ap (λ v. Goes (moved (with_register 12 v (fetched h1))) p) first))
            (one image {h = h2} {next = h3} {p = p} {q = p} small (Immediate Addi 13 10 (pos (r.at + r.count * r.size))) (at + length address + 1) code1.1.0 (omega (arith, g.there))
            (ap (λ v. Goes (moved (with_register 13 v (fetched h2))) p) end)));
        there = omega (arith, g.there);
        unit = refl;
        last = refl;
        word = points way (g.registers 8) (sp + k + 0) (g.holds ∙ omega arith);
        kept = λ n b d e. put_other rs1 13 _ n e ∙ put_other g.registers 12 _ n d ∙ g.kept n b b;
      } where
        ends : (x : ℕ) → x ≡ a → (o : ℕ) → o ≤ 1024 → sum_of x (word (pos o)) ≡ sum a o
        ends x e o few = omega (arith, ints, e, few)

  -- ---- one round

  module _ (n : ℕ) (less : n < r.count) where
    abbrev offset : ℕ
    offset = r.at + n * r.size

    same : sum_of (sum a offset) 0 ≡ sum a offset
    same = omega arith

    -- the unit is asked
    pub round_asks : (way : Way) (w : ℕ) (h : Hart) (p : Privates) → Fine h p → Looping way r at k sp a n h → sp + k + r.count ≤ words_of way → (way ≡ Stores → h.stack (sp + k + n) ≡ w)
        → Stands image.code start (round_code way r.size) → (q : Asks image small way h p (round_spot way start) (sum a offset) r.size w) × (q.registers 8 ≡ h.registers 8)
    round_asks Loads w h p fine is room has_word has =
        let waiting : Hart = record h { waits = UnitWaits (load_op r.size) 11; work = h.work + 1 } in (
          record {
            pc = h.pc;
            registers = h.registers;
            work = h.work + 1;
            there = is.there;
            comes = subst (λ (x : ℕ). Comes image h p (asked image (act.Load x r.size) waiting p)) same
                (last image {h = h} {waiting = waiting} {p = p} {q = p} (Load (load_op r.size) 11 12 (pos 0)) start has.0 is.there
                (asks_load image (fetched h) p r.size 11 12 (sum a offset) 0 (pos 0) known (inl (omega arith, omega arith)) is.unit refl));
            kept = λ m b d. refl;
          },
          refl,
        )
    round_asks Stores w h p fine is room has_word has =
        let near : sp + k + n < 2 ^ 20 = omega (arith, room, less) in
        let cell : sum_of (h.registers 8) (word (pos 0)) ≡ STACK_START + 4 * (sp + k + n) = omega (arith, ints, is.word, near) in
        let rs : ℕ → ℕ = put h.registers 11 (h.stack (sp + k + n)) in
        let h1 : Hart = record h { pc = h.pc + 4; registers = rs; work = h.work + 1 } in
        let brought : Leads image h p h1 p = one image {h = h} {next = h1} {p = p} {q = p} small (Load Lw 11 8 (pos 0)) start has.0 is.there
        (loads_word image (fetched h) p 8 11 (sp + k + n) (pos 0) refl cell near (fine.hart.stack (sp + k + n))) in
        let waiting : Hart = record h1 { waits = Done; work = h.work + 1 + 1 } in (
          record {
            pc = h.pc + 4;
            registers = rs;
            work = h.work + 1 + 1;
            there = omega (arith, is.there);
            comes = then_comes image {i = h1} brought (subst (λ (x : ℕ). Comes image h1 p (asked image (act.Store x r.size (w % 256 ^ r.size)) waiting p)) same
                (last image {h = h1} {waiting = waiting} {p = p} {q = p} (Store (store_op r.size) 12 11 (pos 0)) (start + 1) has.1.0 (omega (arith, is.there))
                (asks_store image (fetched h1) p r.size 11 12 (sum a offset) 0 w (pos 0) known (inl (omega arith, omega arith)) is.unit refl (has_word refl))));
            kept = λ m b d. put_other h.registers 11 _ m d;
          },
          refl,
        )
    round_asks Clears w h p fine is room has_word has =
        let waiting : Hart = record h { waits = Done; work = h.work + 1 } in (
          record {
            pc = h.pc;
            registers = h.registers;
            work = h.work + 1;
            there = is.there;
            comes = subst (λ (x : ℕ). Comes image h p (asked image (act.Store x r.size (0 % 256 ^ r.size)) waiting p)) same
                (last image {h = h} {waiting = waiting} {p = p} {q = p} (Store (store_op r.size) 12 0 (pos 0)) start has.0 is.there
                (asks_store image (fetched h) p r.size 0 12 (sum a offset) 0 0 (pos 0) known (inl (omega arith, omega arith)) is.unit refl refl));
            kept = λ m b d. refl;
          },
          refl,
        )

    -- ---- the end of a round

    -- the branch comes back, or goes on behind the last round
    record Branched (g : Hart) (q : Privates) (j : ℕ) : Type 0 where
      pc : ℕ
      jumps : ℕ
      leads : Leads image g q (record g { pc = pc; jumps = jumps; work = g.work + 1 }) q
      again : suc n < r.count → pc ≡ place start
      over : suc n ≡ r.count → pc ≡ place (j + 1)
      counted : jumps ≤ g.jumps + 1

    branches : (j : ℕ) (imm : ℤ) (g : Hart) (q : Privates) → g.pc ≡ place j → sum_of (place j) (word imm) ≡ place start → g.jumps < most_jumps
        → g.registers 12 ≡ sum a (r.at + suc n * r.size) → g.registers 13 ≡ sum a (r.at + r.count * r.size) → Stands image.code j (Branch Bne 12 13 imm ∷ []) → Branched g q j
    branches j imm g q here back room unit end has = ⊎_elim (λ more. goes_back more) (λ none. goes_over (omega (arith, none, less))) (cases_lt (suc n) r.count) where
      goes_back : suc n < r.count → Branched g q j
      goes_back more =
          let rise = offsets_rise r.size known r.at (suc n) r.count more in
          let other : g.registers 12 ≢ g.registers 13 = λ z. differ a (r.at + suc n * r.size) (r.at + r.count * r.size) rise fits (sym unit ∙ z ∙ end) in
          let target : sum_of g.pc (word imm) ≡ place start = ap (λ x. sum_of x (word imm)) here ∙ back in
          let c = counts image small (nat_le (place start) g.pc) (place start) (fetched g) (fetched g) q room refl in
          record {
            pc = place start;
            jumps = c.0;
            leads = one image {h = g} {p = q} {q = q} small (Branch Bne 12 13 imm) j has.0 here
                (ap (λ (b : Bool). if b then jumps_by imm (fetched g) (fetched g) q else Goes (moved (fetched g)) q) (on_it (g.registers 12) (g.registers 13) other)
                ∙ ap (λ t. jumps (nat_le t g.pc) t (fetched g) (fetched g) q) target ∙ c.1);
            again = λ s. refl;
            over = λ s. absurd (omega (arith, more, s));
            counted = c.2;
          }

      goes_over : suc n ≡ r.count → Branched g q j
      goes_over none =
          let equal : g.registers 12 ≡ g.registers 13 = unit ∙ ap (λ x. sum a (r.at + x * r.size)) none ∙ sym end in
          record {
            pc = g.pc + 4;
            jumps = g.jumps;
            leads = one image {h = g} {p = q} {q = q} small (Branch Bne 12 13 imm) j has.0 here
                (ap (λ (b : Bool). if b then jumps_by imm (fetched g) (fetched g) q else Goes (moved (fetched g)) q) (off (g.registers 12) (g.registers 13) equal));
            again = λ s. absurd (omega (arith, none, s));
            over = λ s. omega (arith, here);
            counted = omega arith;
          }

    -- behind an answer
    pub record Turned (way : Way) (g : Hart) (q : Privates) (v : ℕ) : Type 0 where
      pub pc : ℕ
      pub registers : ℕ → ℕ
      pub jumps : ℕ
      pub work : ℕ
      pub leads : Leads image g q (record g { pc = pc; registers = registers; stack = stored way (sp + k + n) v g.stack; jumps = jumps; work = work }) q
      pub again : suc n < r.count → pc ≡ place start
      pub over : suc n ≡ r.count → pc ≡ place (start + length (round_code way r.size))
      pub unit : registers 12 ≡ sum a (r.at + suc n * r.size)
      pub last : registers 13 ≡ sum a (r.at + r.count * r.size)
      pub word : PointsTo way (registers 8) (sp + k + suc n)
      pub kept : (m : ℕ) → m ≢ 8 → m ≢ 12 → registers m ≡ g.registers m
      pub counted : jumps ≤ g.jumps + 1

    next_unit : (x : ℕ) → x ≡ sum a offset → sum_of x (word (pos r.size)) ≡ sum a (r.at + suc n * r.size)
    next_unit x e =
        let s = size_few r.size known in
        let o : r.at + n * r.size + r.size ≡ r.at + suc n * r.size = omega arith in
        omega (arith, ints, e, s.1) ∙ ap (λ y. sum a y) o

    -- behind the access: the next unit, and its word where there is one
    both_step : (j : ℕ) (g : Hart) (q : Privates) → g.pc ≡ place j → g.registers 12 ≡ sum a offset → g.registers 8 ≡ STACK_START + 4 * (sp + k + n) → sp + k + r.count ≤ 2 ^ 20
        → Stands image.code j (Immediate Addi 12 12 (pos r.size) ∷ Immediate Addi 8 8 (pos 4) ∷ [])
        → Leads image g q (record g { pc = g.pc + 4 + 4; registers = put (put g.registers 12 (sum a (r.at + suc n * r.size))) 8 (STACK_START + 4 * (sp + k + suc n)); work = g.work + 1 + 1 }) q
    both_step j g q here unit eight room has =
        let rs1 : ℕ → ℕ = put g.registers 12 (sum a (r.at + suc n * r.size)) in
        let g1 : Hart = record g { pc = g.pc + 4; registers = rs1; work = g.work + 1 } in
        let g2 : Hart = record g { pc = g.pc + 4 + 4; registers = put rs1 8 (STACK_START + 4 * (sp + k + suc n)); work = g.work + 1 + 1 } in
        let cell : sum_of (g.registers 8) (word (pos 4)) ≡ STACK_START + 4 * (sp + k + suc n) = omega (arith, ints, eight, room, less) in
        then_leads image {i = g1} {j = g2} (one image {h = g} {next = g1} {p = q} {q = q} small (Immediate Addi 12 12 (pos r.size)) j has.0 here
        (ap (λ v. Goes (moved (with_register 12 v (fetched g))) q) (next_unit (g.registers 12) unit)))
        (one image {h = g1} {next = g2} {p = q} {q = q} small (Immediate Addi 8 8 (pos 4)) (j + 1) has.1.0 (omega (arith, here))
        (ap (λ v. Goes (moved (with_register 8 v (fetched g1))) q) cell))

    pub round_goes : (way : Way) (v : ℕ) (g : Hart) (q : Privates) → Fine g q → g.pc ≡ place (round_spot way start + 1) → g.jumps < most_jumps → start + 3 < 2 ^ 23 → sp + k + r.count ≤ words_of way → (way ≡ Loads → g.registers 11 ≡ v)
        → g.registers 12 ≡ sum a offset → g.registers 13 ≡ sum a (r.at + r.count * r.size) → PointsTo way (g.registers 8) (sp + k + n)
        → Stands image.code start (round_code way r.size) → Turned way g q v
    round_goes Loads v g q fine here room low fits1 has_unit unit end eight has =
        let near : sp + k + n < 2 ^ 20 = omega (arith, fits1, less) in
        let cell : sum_of (g.registers 8) (word (pos 0)) ≡ STACK_START + 4 * (sp + k + n) = omega (arith, ints, eight, near) in
        let value : g.registers 11 ≡ v = has_unit refl in
        let g1 : Hart = record g { pc = g.pc + 4; stack = put g.stack (sp + k + n) v; work = g.work + 1 } in
        let put_away : Leads image g q g1 q = one image {h = g} {next = g1} {p = q} {q = q} small (Store Sw 8 11 (pos 0)) (start + 1) has.1.0 here
        (stores_word image (fetched g) q 8 11 (sp + k + n) (pos 0) refl cell near (fine.hart.registers 11) ∙ ap (λ x. Goes (moved (record (fetched g) { stack = put g.stack (sp + k + n) x })) q) value) in
        let there : g1.pc ≡ place (start + 1 + 1) = omega (arith, here) in
        let b = both_step (start + 1 + 1) g1 q there unit eight fits1 (has.1.1.0, (has.1.1.1.0, tt)) in
        let rs : ℕ → ℕ = put (put g.registers 12 (sum a (r.at + suc n * r.size))) 8 (STACK_START + 4 * (sp + k + suc n)) in
        let g2 : Hart = record g1 { pc = g1.pc + 4 + 4; registers = rs; work = g1.work + 1 + 1 } in
        let back : sum_of (place (start + 1 + 1 + 1 + 1)) (word (negsuc 15)) ≡ place start = omega (arith, ints, low) in
        let c = branches (start + 1 + 1 + 1 + 1) (negsuc 15) g2 q (omega (arith, there)) back room refl end has.1.1.1.1 in
        record {
          pc = c.pc;
          registers = rs;
          jumps = c.jumps;
          work = g2.work + 1;
          leads = then_leads image {i = g1} {j = record g2 { pc = c.pc; jumps = c.jumps; work = g2.work + 1 }} put_away (then_leads image {i = g2} {j = record g2 { pc = c.pc; jumps = c.jumps; work = g2.work + 1 }} b c.leads);
          again = c.again;
          over = λ s. c.over s ∙ ap place (omega arith);
          unit = refl;
          last = end;
          word = refl;
          kept = λ m x y. put_other (put g.registers 12 _) 8 _ m x ∙ put_other g.registers 12 _ m y;
          counted = c.counted;
        }
    round_goes Stores v g q fine here room low fits1 has_unit unit end eight has =
        let there : g.pc ≡ place (start + 1 + 1) = omega (arith, here) in
        let b = both_step (start + 1 + 1) g q there unit eight fits1 (has.1.1.0, (has.1.1.1.0, tt)) in
        let rs : ℕ → ℕ = put (put g.registers 12 (sum a (r.at + suc n * r.size))) 8 (STACK_START + 4 * (sp + k + suc n)) in
        let g2 : Hart = record g { pc = g.pc + 4 + 4; registers = rs; work = g.work + 1 + 1 } in
        let back : sum_of (place (start + 1 + 1 + 1 + 1)) (word (negsuc 15)) ≡ place start = omega (arith, ints, low) in
        let c = branches (start + 1 + 1 + 1 + 1) (negsuc 15) g2 q (omega (arith, there)) back room refl end has.1.1.1.1 in
        record {
          pc = c.pc;
          registers = rs;
          jumps = c.jumps;
          work = g2.work + 1;
          leads = then_leads image {i = g2} {j = record g2 { pc = c.pc; jumps = c.jumps; work = g2.work + 1 }} b c.leads;
          again = c.again;
          over = λ s. c.over s ∙ ap place (omega arith);
          unit = refl;
          last = end;
          word = refl;
          kept = λ m x y. put_other (put g.registers 12 _) 8 _ m x ∙ put_other g.registers 12 _ m y;
          counted = c.counted;
        }
    round_goes Clears v g q fine here room low fits1 has_unit unit end eight has =
        let there : g.pc ≡ place (start + 1) = here in
        let rs : ℕ → ℕ = put g.registers 12 (sum a (r.at + suc n * r.size)) in
        let g2 : Hart = record g { pc = g.pc + 4; registers = rs; work = g.work + 1 } in
        let step : Leads image g q g2 q = one image {h = g} {next = g2} {p = q} {q = q} small (Immediate Addi 12 12 (pos r.size)) (start + 1) has.1.0 there
        (ap (λ x. Goes (moved (with_register 12 x (fetched g))) q) (next_unit (g.registers 12) unit)) in
        let back : sum_of (place (start + 1 + 1)) (word (negsuc 7)) ≡ place start = omega (arith, ints, low) in
        let c = branches (start + 1 + 1) (negsuc 7) g2 q (omega (arith, there)) back room refl end has.1.1 in
        record {
          pc = c.pc;
          registers = rs;
          jumps = c.jumps;
          work = g2.work + 1;
          leads = then_leads image {i = g2} {j = record g2 { pc = c.pc; jumps = c.jumps; work = g2.work + 1 }} step c.leads;
          again = c.again;
          over = λ s. c.over s ∙ ap place (omega arith);
          unit = refl;
          last = end;
          word = tt;
          kept = λ m x y. put_other g.registers 12 _ m y;
          counted = c.counted;
        }
