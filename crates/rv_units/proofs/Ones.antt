-- A unit of a value in the row of units that stand one by one.
use Rattle.std.proofs.Common.{◌≡◌, ◌≢◌, ℕ, zero, suc, ◌+◌, ◌*◌, ◌^◌, ◌<◌, ◌≤◌, pos, List, [], ◌∷◌, length, refl, ap, ◌∙◌, arith, subst, length-append, inl}
use Rattle.std.proofs.lemmas.Int.{ints}
use Rattle.rv_isa.specs.declared.addresses.TheConstants.{STACK_START}
use Rattle.rv_isa.specs.declared.image.Contents.{Contents}
use Rattle.rv_isa.specs.declared.instr.Instr.{Instr}
use Rattle.rv_isa.specs.declared.instr.Instr.TheVariants.{Load, Store}
use Rattle.rv_exec.specs.Hart.{Hart, put}
use Rattle.rv_exec.specs.Words.{word}
use Rattle.rv_exec.specs.Calls.{Privates}
use Rattle.rv_exec.specs.Machine.{asked}
use Rattle.rv_exec.specs.declared.state.Waits.TheVariants.{Done, Unit as UnitWaits}
use Rattle.al_meaning.specs.Words.{sum}
use Rattle.rv_code.specs.Homes.{frame_load}
use Rattle.rv_code.specs.Jumps.{place}
use Rattle.rv_code.specs.Runs.{Stands, Fine, Leads, Comes}
use Rattle.rv_code.proofs.Leading.{stands_front, stands_back, stays, then_comes, last, fetched}
use Rattle.rv_code.proofs.Slots.{frame_loads, frame_stores}
use Rattle.rv_form.specs.Units.{Way, Loads, Stores, Clears, load_op, store_op, unit_code, units_code}
use Rattle.rv_acts.proofs.Units.{IsUnit, asks_load}
use Rattle.rv_acts.proofs.Stores.{asks_store}
use Rattle.rv_units.specs.Ways.{act_of, waits_of, stored}

-- ---- the code of one unit among several

pub one_of : (image : Contents) (way : Way) (size i count off k at : ℕ) → i < count → Stands image.code at (units_code way size off k count)
    → Stands image.code (at + length (units_code way size off k i)) (unit_code way size 10 (off + i * size) (k + i))
one_of image way size i zero off k at less has = absurd (omega (arith, less))
one_of image way size zero (suc n) off k at less has =
    let e : at ≡ at + 0 = omega arith in
    let f : off ≡ off + 0 * size = omega arith in
    let g : k ≡ k + 0 = omega arith in
    subst (λ t. Stands image.code t (unit_code way size 10 (off + 0 * size) (k + 0))) e
    (subst (λ o. Stands image.code at (unit_code way size 10 o (k + 0))) f (subst (λ j. Stands image.code at (unit_code way size 10 off j)) g
    (stands_front image.code at (unit_code way size 10 off k) (units_code way size (off + size) (k + 1) n) has)))
one_of image way size (suc i) (suc n) off k at less has =
    let first : List Instr = unit_code way size 10 off k in
    let more = one_of image way size i n (off + size) (k + 1) (at + length first) (omega (arith, less)) (stands_back image.code at first (units_code way size (off + size) (k + 1) n) has) in
    let e : at + length first + length (units_code way size (off + size) (k + 1) i) ≡ at + length (units_code way size off k (suc i)) = omega (arith, length-append first (units_code way size (off + size) (k + 1) i)) in
    let f : off + size + i * size ≡ off + suc i * size = omega arith in
    let g : k + 1 + i ≡ k + suc i = omega arith in
    subst (λ t. Stands image.code t (unit_code way size 10 (off + suc i * size) (k + suc i))) e
    (subst (λ o. Stands image.code (at + length first + length (units_code way size (off + size) (k + 1) i)) (unit_code way size 10 o (k + suc i))) f
    (subst (λ j. Stands image.code (at + length first + length (units_code way size (off + size) (k + 1) i)) (unit_code way size 10 (off + size + i * size) j)) g more))

pub one_more : (way : Way) (size i off k : ℕ) → length (units_code way size off k (i + 1)) ≡ length (units_code way size off k i) + length (unit_code way size 10 (off + i * size) (k + i))
one_more way size zero off k =
    let f : off ≡ off + 0 * size = omega arith in
    let g : k ≡ k + 0 = omega arith in
    length-append (unit_code way size 10 off k) [] ∙ omega arith ∙ ap (λ o. 0 + length (unit_code way size 10 o k)) f ∙ ap (λ j. 0 + length (unit_code way size 10 (off + 0 * size) j)) g
one_more way size (suc i) off k =
    let first : List Instr = unit_code way size 10 off k in
    let more = one_more way size i (off + size) (k + 1) in
    let c : suc i + 1 ≡ suc (i + 1) = omega arith in
    let f : off + size + i * size ≡ off + suc i * size = omega arith in
    let g : k + 1 + i ≡ k + suc i = omega arith in
    let same : length (unit_code way size 10 (off + size + i * size) (k + 1 + i)) ≡ length (unit_code way size 10 (off + suc i * size) (k + suc i)) =
    ap (λ o. length (unit_code way size 10 o (k + 1 + i))) f ∙ ap (λ j. length (unit_code way size 10 (off + suc i * size) j)) g in
    ap (λ n. length (units_code way size off k n)) c
    ∙ omega (arith, more, same, length-append first (units_code way size (off + size) (k + 1) (i + 1)), length-append first (units_code way size (off + size) (k + 1) i))

-- the word that asks
abbrev pub one_spot : Way → (at k : ℕ) → ℕ
one_spot Loads at k = at
one_spot Stores at k = at + length (frame_load 11 k)
one_spot Clears at k = at

pub one_spot_in : (way : Way) (size at off k : ℕ) → (at ≤ one_spot way at k) × (one_spot way at k < at + length (unit_code way size 10 off k))
one_spot_in Loads size at off k = (omega arith, omega arith)
one_spot_in Stores size at off k = (omega arith, omega (arith, length-append (frame_load 11 k) (Store (store_op size) 10 11 (pos off) ∷ [])))
one_spot_in Clears size at off k = (omega arith, omega arith)

module _ (image : Contents) (small : length image.code ≤ 2 ^ 23) where
  -- a word of the code asks for a unit; only registers 8 and 11 may have changed
  pub record Asks (way : Way) (h : Hart) (p : Privates) (spot address size w : ℕ) : Type 0 where
    pub pc : ℕ
    pub registers : ℕ → ℕ
    pub work : ℕ
    pub there : pc ≡ place spot
    pub comes : Comes image h p (asked image (act_of way address size w) (record h { pc = pc; registers = registers; waits = waits_of way size; work = work }) p)
    pub kept : (n : ℕ) → n ≢ 8 → n ≢ 11 → registers n ≡ h.registers n

  -- behind an answer the unit has come to its word
  pub record Went (way : Way) (g : Hart) (q : Privates) (end cell v : ℕ) : Type 0 where
    pub pc : ℕ
    pub registers : ℕ → ℕ
    pub work : ℕ
    pub leads : Leads image g q (record g { pc = pc; registers = registers; stack = stored way cell v g.stack; work = work }) q
    pub there : pc ≡ place end
    pub kept : (n : ℕ) → n ≢ 8 → registers n ≡ g.registers n

  module _ (size : ℕ) (known : IsUnit size) (at k sp a off : ℕ) (few : off < 2 ^ 11) where
    offset_is : word (pos off) ≡ off
    offset_is = omega (arith, ints, few)

    pub one_asks : (way : Way) (w : ℕ) (h : Hart) (p : Privates) → Fine h p → h.pc ≡ place at → h.registers 2 ≡ STACK_START + 4 * sp → h.registers 10 ≡ a → (way ≢ Clears → sp + k < 2 ^ 20) → (way ≡ Stores → h.stack (sp + k) ≡ w)
        → Stands image.code at (unit_code way size 10 off k) → Asks way h p (one_spot way at k) (sum a off) size w
    one_asks Loads w h p fine here pointer ten inside has_word has = record {
      pc = h.pc;
      registers = h.registers;
      work = h.work + 1;
      there = here;
      comes = last image {h = h} {waiting = record h { waits = UnitWaits (load_op size) 11; work = h.work + 1 }} {p = p} {q = p} (Load (load_op size) 11 10 (pos off)) at has.0 here
          (asks_load image (fetched h) p size 11 10 a off (pos off) known (inl (omega arith, omega arith)) ten offset_is);
      kept = λ n b d. refl;
    }
    one_asks Stores w h p fine here pointer ten inside has_word has =
        let load : List Instr = frame_load 11 k in
        let store : List Instr = Store (store_op size) 10 11 (pos off) ∷ [] in
        let g = frame_loads image small h p fine at sp k here (record { pointer = pointer; inside = inside (λ e. absurd (cc)) }) 11 (stands_front image.code at load store has) in
        let h1 : Hart = record h { pc = g.pc; registers = g.registers; work = g.work } in
        record {
          pc = g.pc;
          registers = g.registers;
          work = g.work + 1;
          there = g.there;
          comes = then_comes image {i = h1} g.leads
              (last image {h = h1} {waiting = record h1 { waits = Done; work = g.work + 1 }} {p = p} {q = p} (Store (store_op size) 10 11 (pos off)) (at + length load) (stands_back image.code at load store has).0 g.there
              (asks_store image (fetched h1) p size 11 10 a off w (pos off) known (inl (omega arith, omega arith)) (g.kept 10 (omega arith) (omega arith) ∙ ten) offset_is (g.holds ∙ has_word refl)));
          kept = λ n b d. g.kept n d b;
        }
    one_asks Clears w h p fine here pointer ten inside has_word has = record {
      pc = h.pc;
      registers = h.registers;
      work = h.work + 1;
      there = here;
      comes = last image {h = h} {waiting = record h { waits = Done; work = h.work + 1 }} {p = p} {q = p} (Store (store_op size) 10 0 (pos off)) at has.0 here
          (asks_store image (fetched h) p size 0 10 a off 0 (pos off) known (inl (omega arith, omega arith)) ten offset_is refl);
      kept = λ n b d. refl;
    }

    -- the hart goes on behind the word that asked
    pub one_goes : (way : Way) (v : ℕ) (g : Hart) (q : Privates) → Fine g q → g.pc ≡ place (one_spot way at k + 1) → g.registers 2 ≡ STACK_START + 4 * sp → (way ≢ Clears → sp + k < 2 ^ 20) → (way ≡ Loads → g.registers 11 ≡ v) → Stands image.code at (unit_code way size 10 off k) → Went way g q (at + length (unit_code way size 10 off k)) (sp + k) v
    one_goes Loads v g q fine here pointer inside has_unit has =
        let s = frame_stores image small g q fine (at + 1) sp k here (record { pointer = pointer; inside = inside (λ e. absurd (cc)) }) 11 (omega arith) (omega arith) has.1 in
        let value : g.registers 11 ≡ v = has_unit refl in
        record {
          pc = s.pc;
          registers = s.registers;
          work = s.work;
          leads = subst (λ x. Leads image g q (record g { pc = s.pc; registers = s.registers; stack = put g.stack (sp + k) x; work = s.work }) q) value s.leads;
          there = s.there ∙ ap place (omega arith);
          kept = s.kept;
        }
    one_goes Stores v g q fine here pointer inside has_unit has = record {
      pc = g.pc;
      registers = g.registers;
      work = g.work;
      leads = stays image;
      there = here ∙ ap place (omega (arith, length-append (frame_load 11 k) (Store (store_op size) 10 11 (pos off) ∷ [])));
      kept = λ n b. refl;
    }
    one_goes Clears v g q fine here pointer inside has_unit has = record {
      pc = g.pc;
      registers = g.registers;
      work = g.work;
      leads = stays image;
      there = here;
      kept = λ n b. refl;
    }
