-- Words of the stack and registers of slots become 0.
use Rattle.std.proofs.Common.{◌≡◌, ◌≢◌, ℕ, zero, suc, ◌+◌, ◌-◌, ◌*◌, ◌/◌, ◌%◌, ◌^◌, ◌<◌, ◌≤◌, ◌==◌, Bool, true, false, not, nat_le, nat_lt, if◌then◌else◌, pos, negsuc, List, [], ◌∷◌, ◌++◌, length, refl, sym, ap, ◌∙◌, arith, subst, length-append, ◌⊎◌, inl, inr, ⊎_elim}
use Rattle.std.proofs.lemmas.Int.{ints}
use Rattle.std.proofs.lemmas.Bool.{cases_lt}
use Rattle.std.proofs.lemmas.Bool.Decides.{nat_tests}
use Rattle.rv_isa.specs.declared.addresses.TheConstants.{STACK_START}
use Rattle.rv_isa.specs.declared.image.Contents.{Contents}
use Rattle.rv_isa.specs.declared.instr.Instr.{Instr}
use Rattle.rv_isa.specs.declared.instr.Instr.TheVariants.{Upper, Store, Branch, Immediate, Register}
use Rattle.rv_isa.specs.declared.instr.UpperOp.TheVariants.{Lui}
use Rattle.rv_isa.specs.declared.instr.StoreOp.TheVariants.{Sw}
use Rattle.rv_isa.specs.declared.instr.BranchOp.TheVariants.{Bne}
use Rattle.rv_isa.specs.declared.instr.ImmediateOp.TheVariants.{Addi}
use Rattle.rv_isa.specs.declared.instr.RegisterOp.TheVariants.{Add}
use Rattle.rv_exec.specs.Hart.{Hart, put, moved, with_register}
use Rattle.rv_exec.specs.Words.{word, sum_of}
use Rattle.rv_exec.specs.Calls.{Privates, Goes}
use Rattle.rv_exec.specs.Step.{jumps, jumps_by, most_jumps}
use Rattle.rv_code.specs.declared.home.Home.{Home}
use Rattle.rv_code.specs.declared.home.Home.TheVariants.{Frame, Saved}
use Rattle.rv_code.specs.Homes.{value_at, IsHome, Apart, low_part, high_part, coming_near}
use Rattle.rv_code.specs.Jumps.{place}
use Rattle.rv_code.specs.Pieces.{number_code}
use Rattle.rv_code.specs.Runs.{Stands, Leads}
use Rattle.rv_code.proofs.Leading.{stands_front, stands_back, stays, then_leads, one, fetched}
use Rattle.rv_code.proofs.Access.{stores_word, near_word}
use Rattle.rv_code.proofs.Slots.{put_same, put_other, parts_make}
use Rattle.rv_code.proofs.Jumps.{counts}
use Rattle.rv_code.proofs.Pairs.{Left}
use Rattle.rv_form.specs.Units.{frame_address, zero_word, zero_each, zero_from, zero_loop}
use Rattle.rv_words.proofs.Straight.{after, spared, runs}
use Rattle.rv_units.proofs.Addresses.{number_straight, number_spares, number_gives, addresses}

pub off : (x y : ℕ) → x ≡ y → not (x == y) ≡ false
off x y e = let q : (x == y) ≡ true = grind (arith, nat_tests, e) in ap not q

pub on_it : (x y : ℕ) → x ≢ y → not (x == y) ≡ true
on_it x y e = let q : (x == y) ≡ false = grind (arith, nat_tests, e) in ap not q

module _ (image : Contents) (small : length image.code ≤ 2 ^ 23) where
  -- ---- one word

  zero_stores : (h : Hart) (p : Privates) (at sp k : ℕ) → h.pc ≡ place at → h.registers 2 ≡ STACK_START + 4 * sp → sp + k < 2 ^ 20 → Stands image.code at (zero_word (Frame k))
      → Left image small h p sp (at + length (zero_word (Frame k))) (Frame k) 0
  zero_stores h p at sp k here pointer inside has = on (nat_lt k 512) has where
    others : (r : ℕ → ℕ) → ((n : ℕ) → n ≢ 8 → r n ≡ h.registers n) → (home : Home) → IsHome sp home → Apart (Frame k) home → value_at home sp r (put h.stack (sp + k) 0) ≡ value_at home sp h.registers h.stack
    others r same (Frame j) l a = put_other h.stack (sp + k) 0 (sp + j) (λ e. a (omega (arith, e)))
    others r same (Saved q) l a = same q (λ e. absurd (omega (arith, l.0, e)))

    at_end : (end pc1 work1 : ℕ) (rs : ℕ → ℕ) → ((n : ℕ) → n ≢ 8 → rs n ≡ h.registers n) → pc1 ≡ place end
        → Leads image h p (record h { pc = pc1; registers = rs; stack = put h.stack (sp + k) 0; work = work1 }) p → Left image small h p sp end (Frame k) 0
    at_end end pc1 work1 rs kept there leads = record {
      pc = pc1;
      registers = rs;
      stack = put h.stack (sp + k) 0;
      work = work1;
      leads = leads;
      there = there;
      holds = put_same h.stack (sp + k) 0;
      others = others rs kept;
      low = λ n a b. kept n b;
      below = λ j a. put_other h.stack (sp + k) 0 j (λ e. absurd (omega (arith, a, e)));
    }

    on : (b : Bool) → Stands image.code at (if b then Store Sw 2 0 (pos (4 * k)) ∷ [] else coming_near k (Store Sw 8 0 (low_part (4 * k))))
        → Left image small h p sp (at + length (if b then Store Sw 2 0 (pos (4 * k)) ∷ [] else coming_near k (Store Sw 8 0 (low_part (4 * k))))) (Frame k) 0
    on true s =
        at_end (at + 1) (h.pc + 4) (h.work + 1) h.registers (λ n b. refl) (omega (arith, here))
        (one image small (Store Sw 2 0 (pos (4 * k))) at s.0 here
        (stores_word image (fetched h) p 2 0 (sp + k) (pos (4 * k)) refl (near_word (h.registers 2) STACK_START sp k pointer (omega (arith, inside)) (omega (arith, inside))) inside (omega arith)))
    on false s =
        let high : ℕ = high_part (4 * k) * 2 ^ 12 in
        let h1 : Hart = record h { pc = h.pc + 4; registers = put h.registers 8 high; work = h.work + 1 } in
        let h2 : Hart = record h { pc = h.pc + 4 + 4; registers = put (put h.registers 8 high) 8 (sum_of high (h.registers 2)); work = h.work + 1 + 1 } in
        let far : sum_of (sum_of high (h.registers 2)) (word (low_part (4 * k))) ≡ STACK_START + 4 * (sp + k) = parts_make (4 * k) (h.registers 2) (omega (arith, inside)) ∙ omega (arith, pointer, inside) in
        at_end (at + 3) (h.pc + 4 + 4 + 4) (h.work + 1 + 1 + 1) h2.registers
        (λ n b. put_other (put h.registers 8 high) 8 _ n b ∙ put_other h.registers 8 high n b) (omega (arith, here))
        (then_leads image {i = h2} (then_leads image {i = h1} {j = h2} (one image {h = h} {next = h1} {p = p} {q = p} small (Upper Lui 8 (high_part (4 * k))) at s.0 here refl)
        (one image {h = h1} {next = h2} {p = p} {q = p} small (Register Add 8 8 2) (at + 1) s.1.0 (omega (arith, here)) refl))
        (one image {h = h2} {p = p} small (Store Sw 8 0 (low_part (4 * k))) (at + 1 + 1) s.1.1.0 (omega (arith, here))
        (stores_word image (fetched h2) p 8 0 (sp + k) (low_part (4 * k)) refl far inside (omega arith))))

  pub zeroes : (h : Hart) (p : Privates) (at sp : ℕ) (home : Home) → h.pc ≡ place at → h.registers 2 ≡ STACK_START + 4 * sp → IsHome sp home → Stands image.code at (zero_word home)
      → Left image small h p sp (at + length (zero_word home)) home 0
  zeroes h p at sp (Frame k) here pointer is has = zero_stores h p at sp k here pointer is has
  zeroes h p at sp (Saved r) here pointer is has = record {
    pc = h.pc + 4;
    registers = put h.registers r 0;
    stack = h.stack;
    work = h.work + 1;
    leads = one image small (Immediate Addi r 0 (pos 0)) at has.0 here refl;
    there = omega (arith, here);
    holds = put_same h.registers r 0;
    others = others;
    low = λ n a b. put_other h.registers r 0 n (λ e. absurd (omega (arith, a, is.0, e)));
    below = λ j a. refl;
  } where
    others : (home : Home) → IsHome sp home → Apart (Saved r) home → value_at home sp (put h.registers r 0) h.stack ≡ value_at home sp h.registers h.stack
    others (Frame j) l a = refl
    others (Saved q) l a = put_other h.registers r 0 q (λ e. a (sym e))

  -- ---- several slots

  -- At word number `end` the words of so many slots are 0, of which each is that is apart from those behind it. All that is apart
  -- from them stays.
  pub record Cleared (h : Hart) (p : Privates) (sp end : ℕ) (home : ℕ → Home) (from n jumps_made : ℕ) : Type 0 where
    pub pc : ℕ
    pub registers : ℕ → ℕ
    pub stack : ℕ → ℕ
    pub jumps : ℕ
    pub work : ℕ
    pub leads : Leads image h p (record h { pc = pc; registers = registers; stack = stack; jumps = jumps; work = work }) p
    pub there : pc ≡ place end
    pub holds : (i : ℕ) → i < n → ((j : ℕ) → j < n → j ≢ i → Apart (home (from + j)) (home (from + i))) → value_at (home (from + i)) sp registers stack ≡ 0
    pub others : (k : Home) → IsHome sp k → ((i : ℕ) → i < n → Apart (home (from + i)) k) → value_at k sp registers stack ≡ value_at k sp h.registers h.stack
    pub low : (m : ℕ) → m < 18 → m ≢ 5 → m ≢ 8 → registers m ≡ h.registers m
    pub below : (j : ℕ) → j < sp → stack j ≡ h.stack j
    pub counted : jumps ≤ h.jumps + jumps_made

  module _ (home : ℕ → Home) (sp : ℕ) where
    pub clears_each : (n from at : ℕ) (h : Hart) (p : Privates) → h.pc ≡ place at → h.registers 2 ≡ STACK_START + 4 * sp → ((i : ℕ) → i < n → IsHome sp (home (from + i)))
        → Stands image.code at (zero_each home from n) → Cleared h p sp (at + length (zero_each home from n)) home from n 0
    clears_each zero from at h p here pointer are has = record {
      pc = h.pc;
      registers = h.registers;
      stack = h.stack;
      jumps = h.jumps;
      work = h.work;
      leads = stays image;
      there = omega (arith, here);
      holds = λ i less apart. absurd (omega (arith, less));
      others = λ k is apart. refl;
      low = λ m a b d. refl;
      below = λ j a. refl;
      counted = omega arith;
    }
    clears_each (suc n) from at h p here pointer are has =
        let first : List Instr = zero_word (home from) in
        let rest : List Instr = zero_each home (from + 1) n in
        let e0 : from + 0 ≡ from = omega arith in
        let is : IsHome sp (home from) = subst (λ t. IsHome sp (home t)) e0 (are 0 (omega arith)) in
        let x = zeroes h p at sp (home from) here pointer is (stands_front image.code at first rest has) in
        let h1 : Hart = record h { pc = x.pc; registers = x.registers; stack = x.stack; work = x.work } in
        let y = clears_each n (from + 1) (at + length first) h1 p x.there (x.low 2 (omega arith) (omega arith) ∙ pointer) (λ i less. behind i (are (i + 1) (omega (arith, less))))
        (stands_back image.code at first rest has) in
        record {
          pc = y.pc;
          registers = y.registers;
          stack = y.stack;
          jumps = y.jumps;
          work = y.work;
          leads = then_leads image {i = h1} {j = record h { pc = y.pc; registers = y.registers; stack = y.stack; jumps = y.jumps; work = y.work }} x.leads y.leads;
          there = y.there ∙ ap place (omega (arith, length-append first rest));
          holds = λ i less apart. held x.registers y.registers x.stack y.stack x.holds (λ is1 far. y.others (home from) is1 far) (λ i less far. y.holds i less far) is i less apart;
          others = λ k is1 apart. y.others k is1 (λ i less. subst (λ t. Apart (home t) k) (up i) (apart (i + 1) (omega (arith, less))))
              ∙ x.others k is1 (subst (λ t. Apart (home t) k) e0 (apart 0 (omega arith)));
          low = λ m a b d. y.low m a b d ∙ x.low m a d;
          below = λ j a. y.below j a ∙ x.below j a;
          counted = omega (arith, y.counted);
        } where
          up : (i : ℕ) → from + (i + 1) ≡ from + 1 + i
          up i = omega arith

          behind : (i : ℕ) → IsHome sp (home (from + (i + 1))) → IsHome sp (home (from + 1 + i))
          behind i is1 = subst (λ t. IsHome sp (home t)) (up i) is1

          held : (rs rs1 stack stack1 : ℕ → ℕ) → value_at (home from) sp rs stack ≡ 0
              → (IsHome sp (home from) → ((i : ℕ) → i < n → Apart (home (from + 1 + i)) (home from)) → value_at (home from) sp rs1 stack1 ≡ value_at (home from) sp rs stack)
              → ((i : ℕ) → i < n → ((j : ℕ) → j < n → j ≢ i → Apart (home (from + 1 + j)) (home (from + 1 + i))) → value_at (home (from + 1 + i)) sp rs1 stack1 ≡ 0)
              → IsHome sp (home from) → (i : ℕ) → i < suc n → ((j : ℕ) → j < suc n → j ≢ i → Apart (home (from + j)) (home (from + i))) → value_at (home (from + i)) sp rs1 stack1 ≡ 0
          held rs rs1 stack stack1 now stays_so more is1 zero less apart =
              let e0 : from ≡ from + 0 = omega arith in
              subst (λ t. value_at (home t) sp rs1 stack1 ≡ 0) e0
              (stays_so is1 (λ i less1. let q : i + 1 ≢ 0 = omega arith in
              subst (λ t. Apart (home (from + 1 + i)) (home t)) (sym e0) (subst (λ t. Apart (home t) (home (from + 0))) (up i) (apart (i + 1) (omega (arith, less1)) q))) ∙ now)
          held rs rs1 stack stack1 now stays_so more is1 (suc i) less apart =
              let e1 : from + 1 + i ≡ from + suc i = omega arith in
              subst (λ t. value_at (home t) sp rs1 stack1 ≡ 0) e1
              (more i (omega (arith, less)) (λ j less1 other. let q : j + 1 ≢ suc i = λ z. other (omega (arith, z)) in
              subst (λ t. Apart (home (from + 1 + j)) (home t)) (sym e1) (subst (λ t. Apart (home t) (home (from + suc i))) (up j) (apart (j + 1) (omega (arith, less1)) q))))

  -- ---- words of the stack behind an address

  -- so many words of the stack are 0, and all others are as they were
  pub record Blank (stack0 stack1 : ℕ → ℕ) (from n : ℕ) : Type 0 where
    pub inside : (j : ℕ) → from ≤ j → j < from + n → stack1 j ≡ 0
    pub outside : (j : ℕ) → (j < from) ⊎ (from + n ≤ j) → stack1 j ≡ stack0 j

  blank_none : (stack : ℕ → ℕ) (from : ℕ) → Blank stack stack from 0
  blank_none stack from = record { inside = λ j a b. absurd (omega (arith, a, b)); outside = λ j a. refl }

  then_blank : {a b d : ℕ → ℕ} (from n m : ℕ) → Blank a b from n → Blank b d (from + n) m → Blank a d from (n + m)
  then_blank {a} {b} {d} from n m x y = record {
    inside = λ j more less. ⊎_elim (λ before. y.outside j (inl before) ∙ x.inside j more before) (λ behind. y.inside j behind (omega (arith, less))) (cases_lt j (from + n));
    outside = λ j q. far j q;
  } where
    far : (j : ℕ) → (j < from) ⊎ (from + (n + m) ≤ j) → d j ≡ a j
    far j (inl q) = y.outside j (inl (omega (arith, q))) ∙ x.outside j (inl q)
    far j (inr q) = y.outside j (inr (omega (arith, q))) ∙ x.outside j (inr (omega (arith, q)))

  -- at word number `end`, with so many words 0 from one on; no register has changed
  record Zeroed (h : Hart) (p : Privates) (end from n : ℕ) : Type 0 where
    pc : ℕ
    stack : ℕ → ℕ
    work : ℕ
    leads : Leads image h p (record h { pc = pc; stack = stack; work = work }) p
    there : pc ≡ place end
    blank : Blank h.stack stack from n

  -- from word `base + i` on, by register 8, which has the address of word `base`
  zeroes_from : (n i offset at base : ℕ) (h : Hart) (p : Privates) → offset ≡ 4 * i → i + n ≤ 8 → h.pc ≡ place at → h.registers 8 ≡ STACK_START + 4 * base → base + i + n ≤ 2 ^ 20
      → Stands image.code at (zero_from offset n) → Zeroed h p (at + n) (base + i) n
  zeroes_from zero i offset at base h p e few here eight room has = record { pc = h.pc; stack = h.stack; work = h.work; leads = stays image; there = omega (arith, here); blank = blank_none h.stack (base + i) }
  zeroes_from (suc n) i offset at base h p e few here eight room has =
      let stack1 : ℕ → ℕ = put h.stack (base + i) 0 in
      let h1 : Hart = record h { pc = h.pc + 4; stack = stack1; work = h.work + 1 } in
      let address : sum_of (h.registers 8) (word (pos offset)) ≡ STACK_START + 4 * (base + i) = omega (arith, ints, e, few, eight, room) in
      let first : Leads image h p h1 p = one image {h = h} {next = h1} {p = p} {q = p} small (Store Sw 8 0 (pos offset)) at has.0 here
      (stores_word image (fetched h) p 8 0 (base + i) (pos offset) refl address (omega (arith, room)) (omega arith)) in
      let more = zeroes_from n (i + 1) (offset + 4) (at + 1) base h1 p (omega (arith, e)) (omega (arith, few)) (omega (arith, here)) eight (omega (arith, room)) has.1 in
      let here_blank : Blank h.stack stack1 (base + i) 1 = record {
        inside = λ j a b. let same : j ≡ base + i = omega (arith, a, b) in ap stack1 same ∙ put_same h.stack (base + i) 0;
        outside = λ j q. put_other h.stack (base + i) 0 j (λ z. off j q z);
      } in
      let start : base + (i + 1) ≡ base + i + 1 = omega arith in
      let count : 1 + n ≡ suc n = omega arith in
      record {
        pc = more.pc;
        stack = more.stack;
        work = more.work;
        leads = then_leads image {i = h1} {j = record h { pc = more.pc; stack = more.stack; work = more.work }} first more.leads;
        there = more.there ∙ ap place (omega arith);
        blank = subst (λ k. Blank h.stack more.stack (base + i) k) count (then_blank (base + i) 1 n here_blank (subst (λ k. Blank stack1 more.stack k n) start more.blank));
      } where
        off : (j : ℕ) → (j < base + i) ⊎ (base + i + 1 ≤ j) → j ≡ base + i → ⊥
        off j (inl q) z = absurd (omega (arith, q, z))
        off j (inr q) z = absurd (omega (arith, q, z))

  -- ---- rounds of eight words

  -- at word number `end`, with so many words 0 from one on, behind which register 8 has come
  record Looped (h : Hart) (p : Privates) (end from n jumps_made : ℕ) : Type 0 where
    pc : ℕ
    registers : ℕ → ℕ
    stack : ℕ → ℕ
    jumps : ℕ
    work : ℕ
    leads : Leads image h p (record h { pc = pc; registers = registers; stack = stack; jumps = jumps; work = work }) p
    there : pc ≡ place end
    eight : registers 8 ≡ STACK_START + 4 * (from + n)
    kept : (m : ℕ) → m ≢ 8 → registers m ≡ h.registers m
    blank : Blank h.stack stack from n
    counted : jumps ≤ h.jumps + jumps_made

  abbrev round : List Instr
  round = zero_from 0 8 ++ (Immediate Addi 8 8 (pos 32) ∷ Branch Bne 8 5 (negsuc 35) ∷ [])

  module _ (at : ℕ) (low : at + 10 < 2 ^ 23) (has : Stands image.code at round) where
    -- eight words, and behind them the branch
    record Round (h : Hart) (p : Privates) (base : ℕ) : Type 0 where
      pc : ℕ
      stack : ℕ → ℕ
      work : ℕ
      leads : Leads image h p (record h { pc = pc; registers = put h.registers 8 (STACK_START + 4 * (base + 8)); stack = stack; work = work }) p
      there : pc ≡ place (at + 9)
      blank : Blank h.stack stack base 8

    in_round : (h : Hart) (p : Privates) (base : ℕ) → h.pc ≡ place at → h.registers 8 ≡ STACK_START + 4 * base → base + 8 ≤ 2 ^ 20 → Round h p base
    in_round h p base here eight room =
        let e0 : base + 0 ≡ base = omega arith in
        let z = zeroes_from 8 0 0 at base h p (omega arith) (omega arith) here eight (omega (arith, room)) (stands_front image.code at (zero_from 0 8) (Immediate Addi 8 8 (pos 32) ∷ Branch Bne 8 5 (negsuc 35) ∷ []) has) in
        let tail = stands_back image.code at (zero_from 0 8) (Immediate Addi 8 8 (pos 32) ∷ Branch Bne 8 5 (negsuc 35) ∷ []) has in
        let h1 : Hart = record h { pc = z.pc; stack = z.stack; work = z.work } in
        let value : sum_of (h.registers 8) (word (pos 32)) ≡ STACK_START + 4 * (base + 8) = omega (arith, ints, eight, room) in
        let h2 : Hart = record h1 { pc = z.pc + 4; registers = put h.registers 8 (STACK_START + 4 * (base + 8)); work = z.work + 1 } in
        record {
          pc = z.pc + 4;
          stack = z.stack;
          work = z.work + 1;
          leads = then_leads image {i = h1} {j = h2} z.leads (one image {h = h1} {next = h2} {p = p} {q = p} small (Immediate Addi 8 8 (pos 32)) (at + 8) tail.0 z.there
              (ap (λ k. Goes (moved (with_register 8 k (fetched h1))) p) value));
          there = omega (arith, z.there);
          blank = subst (λ k. Blank h.stack z.stack k 8) e0 z.blank;
        }

    branch_code : Stands image.code (at + 9) (Branch Bne 8 5 (negsuc 35) ∷ [])
    branch_code = let e : at + 8 + 1 ≡ at + 9 = omega arith in
        subst (λ k. Stands image.code k (Branch Bne 8 5 (negsuc 35) ∷ [])) e
        (stands_back image.code at (zero_from 0 8) (Immediate Addi 8 8 (pos 32) ∷ Branch Bne 8 5 (negsuc 35) ∷ []) has).1

    rounds : (q n base : ℕ) (h : Hart) (p : Privates) → n ≡ 8 * suc q → h.pc ≡ place at → h.registers 8 ≡ STACK_START + 4 * base → h.registers 5 ≡ STACK_START + 4 * (base + n)
        → base + n ≤ 2 ^ 20 → h.jumps + q < most_jumps → Looped h p (at + 10) base n q
    rounds zero n base h p count here eight limit room few =
        let r = in_round h p base here eight (omega (arith, count, room)) in
        let rs : ℕ → ℕ = put h.registers 8 (STACK_START + 4 * (base + 8)) in
        let h1 : Hart = record h { pc = r.pc; registers = rs; stack = r.stack; work = r.work } in
        let same : rs 8 ≡ rs 5 = omega (arith, count, limit) in
        let h2 : Hart = record h1 { pc = r.pc + 4; work = r.work + 1 } in
        let e : 8 ≡ n = omega (arith, count) in
        record {
          pc = r.pc + 4;
          registers = rs;
          stack = r.stack;
          jumps = h.jumps;
          work = r.work + 1;
          leads = then_leads image {i = h1} {j = h2} r.leads (one image {h = h1} {next = h2} {p = p} {q = p} small (Branch Bne 8 5 (negsuc 35)) (at + 9) branch_code.0 r.there
              (ap (λ (b : Bool). if b then jumps_by (negsuc 35) (fetched h1) (fetched h1) p else Goes (moved (fetched h1)) p) (off (rs 8) (rs 5) same)));
          there = omega (arith, r.there);
          eight = omega (arith, e);
          kept = λ m a. put_other h.registers 8 _ m a;
          blank = subst (λ k. Blank h.stack r.stack base k) e r.blank;
          counted = omega arith;
        }
    rounds (suc q) n base h p count here eight limit room few =
        let r = in_round h p base here eight (omega (arith, count, room)) in
        let rs : ℕ → ℕ = put h.registers 8 (STACK_START + 4 * (base + 8)) in
        let h1 : Hart = record h { pc = r.pc; registers = rs; stack = r.stack; work = r.work } in
        let other : rs 8 ≢ rs 5 = λ z. absurd (omega (arith, z, count, limit)) in
        let target : sum_of r.pc (word (negsuc 35)) ≡ place at = omega (arith, ints, r.there, low) in
        let k = counts image small (nat_le (place at) r.pc) (place at) (fetched h1) (fetched h1) p (omega (arith, few)) refl in
        let h2 : Hart = record h1 { pc = place at; jumps = k.0; work = r.work + 1 } in
        let branch : Leads image h1 p h2 p = one image {h = h1} {next = h2} {p = p} {q = p} small (Branch Bne 8 5 (negsuc 35)) (at + 9) branch_code.0 r.there
        (ap (λ (b : Bool). if b then jumps_by (negsuc 35) (fetched h1) (fetched h1) p else Goes (moved (fetched h1)) p) (on_it (rs 8) (rs 5) other)
        ∙ ap (λ t. jumps (nat_le t r.pc) t (fetched h1) (fetched h1) p) target ∙ k.1) in
        let left : ℕ = 8 * suc q in
        let all : 8 + left ≡ n = omega (arith, count) in
        let more = rounds q left (base + 8) h2 p refl refl refl (omega (arith, limit, all)) (omega (arith, room, all)) (omega (arith, few, k.2)) in
        record {
          pc = more.pc;
          registers = more.registers;
          stack = more.stack;
          jumps = more.jumps;
          work = more.work;
          leads = then_leads image {i = h1} {j = record h { pc = more.pc; registers = more.registers; stack = more.stack; jumps = more.jumps; work = more.work }} r.leads
              (then_leads image {i = h2} {j = record h { pc = more.pc; registers = more.registers; stack = more.stack; jumps = more.jumps; work = more.work }} branch more.leads);
          there = more.there;
          eight = omega (arith, more.eight, all);
          kept = λ m a. more.kept m a ∙ put_other h.registers 8 _ m a;
          blank = subst (λ k1. Blank h.stack more.stack base k1) all (then_blank base 8 left r.blank more.blank);
          counted = omega (arith, more.counted, k.2);
        }

  -- ---- more than eight words, which live in the frame

  module _ (home : ℕ → Home) (sp to count at : ℕ) (many : 8 < count) (homes : (i : ℕ) → i < count → home (to + i) ≡ Frame (to + i)) (room : sp + (to + count) ≤ 2 ^ 20) (low : at + length (zero_loop to count) < 2 ^ 23)
      (h : Hart) (p : Privates) (here : h.pc ≡ place at) (pointer : h.registers 2 ≡ STACK_START + 4 * sp) (few : h.jumps + count / 8 < most_jumps) (has : Stands image.code at (zero_loop to count)) where
    abbrev base : ℕ
    base = sp + to

    abbrev whole : ℕ
    whole = 8 * (count / 8)

    abbrev address : List Instr
    address = frame_address 8 to

    abbrev number : List Instr
    number = number_code 5 (32 * (count / 8))

    abbrev tail : List Instr
    tail = zero_from 0 (count % 8)

    abbrev at1 : ℕ
    at1 = at + length address

    abbrev at2 : ℕ
    at2 = at1 + length number

    abbrev loop : List Instr
    loop = zero_from 0 8 ++ (Immediate Addi 8 8 (pos 32) ∷ Branch Bne 8 5 (negsuc 35) ∷ tail)

    code1 : Stands image.code at1 (number ++ (Register Add 5 5 8 ∷ loop))
    code1 = stands_back image.code at address (number ++ (Register Add 5 5 8 ∷ loop)) has

    code2 : Stands image.code at2 (Register Add 5 5 8 ∷ loop)
    code2 = stands_back image.code at1 number (Register Add 5 5 8 ∷ loop) code1

    code3 : Stands image.code (at2 + 1) (round ++ tail)
    code3 = code2.1

    lengths : at2 + 1 + 10 + count % 8 ≡ at + length (zero_loop to count)
    lengths = omega (arith, length-append address (number ++ (Register Add 5 5 8 ∷ loop)), length-append number (Register Add 5 5 8 ∷ loop), tails (count % 8) 0) where
      tails : (n o : ℕ) → length (zero_from o n) ≡ n
      tails zero o = refl
      tails (suc n) o = omega (arith, tails n (o + 4))

    record Zeroes : Type 0 where
      pc : ℕ
      registers : ℕ → ℕ
      stack : ℕ → ℕ
      jumps : ℕ
      work : ℕ
      leads : Leads image h p (record h { pc = pc; registers = registers; stack = stack; jumps = jumps; work = work }) p
      there : pc ≡ place (at + length (zero_loop to count))
      kept : (m : ℕ) → m ≢ 5 → m ≢ 8 → registers m ≡ h.registers m
      blank : Blank h.stack stack base count
      counted : jumps ≤ h.jumps + count / 8

    all_zeroes : Zeroes
    all_zeroes =
        let g = addresses image small h p at sp to 8 here pointer (omega (arith, room)) (omega arith) (omega arith) (stands_front image.code at address (number ++ (Register Add 5 5 8 ∷ loop)) has) in
        let h1 : Hart = record h { pc = g.pc; registers = g.registers; work = g.work } in
        let n = runs image small number h1 p at1 (number_straight 5 (32 * (count / 8))) (stands_front image.code at1 number (Register Add 5 5 8 ∷ loop) code1) g.there in
        let rs : ℕ → ℕ = after number g.registers in
        let five : rs 5 ≡ 32 * (count / 8) = number_gives 5 (32 * (count / 8)) g.registers (omega arith) (omega (arith, room)) in
        let eight : rs 8 ≡ STACK_START + 4 * base = spared 8 number g.registers (number_spares 5 (32 * (count / 8)) 8 (omega arith)) ∙ g.holds in
        let h2 : Hart = record h { pc = n.pc; registers = rs; work = n.work } in
        let limit : sum_of (rs 5) (rs 8) ≡ STACK_START + 4 * (base + whole) = omega (arith, five, eight, room) in
        let rs1 : ℕ → ℕ = put rs 5 (STACK_START + 4 * (base + whole)) in
        let h3 : Hart = record h { pc = n.pc + 4; registers = rs1; work = n.work + 1 } in
        let added : Leads image h2 p h3 p = one image {h = h2} {next = h3} {p = p} {q = p} small (Register Add 5 5 8) at2 code2.0 n.there (ap (λ k. Goes (moved (with_register 5 k (fetched h2))) p) limit) in
        let some : 1 ≤ count / 8 = omega (arith, many) in
        let q = rounds (at2 + 1) (omega (arith, lengths, low)) (stands_front image.code (at2 + 1) round tail code3) (count / 8 - 1) whole base h3 p (omega (arith, some)) (omega (arith, n.there)) eight refl (omega (arith, room)) (omega (arith, few, some)) in
        let h4 : Hart = record h { pc = q.pc; registers = q.registers; stack = q.stack; jumps = q.jumps; work = q.work } in
        let z = zeroes_from (count % 8) 0 0 (at2 + 1 + 10) (base + whole) h4 p (omega arith) (omega arith) q.there q.eight (omega (arith, room)) (stands_back image.code (at2 + 1) round tail code3) in
        let h5 : Hart = record h4 { pc = z.pc; stack = z.stack; work = z.work } in
        let e : whole + count % 8 ≡ count = omega arith in
        let start : base + whole + 0 ≡ base + whole = omega arith in
        record {
          pc = z.pc;
          registers = q.registers;
          stack = z.stack;
          jumps = q.jumps;
          work = z.work;
          leads = then_leads image {i = h1} {j = h5} g.leads (then_leads image {i = h2} {j = h5} n.leads (then_leads image {i = h3} {j = h5} added (then_leads image {i = h4} {j = h5} q.leads z.leads)));
          there = z.there ∙ ap place lengths;
          kept = λ m a b. q.kept m b ∙ put_other rs 5 _ m a ∙ spared m number g.registers (number_spares 5 (32 * (count / 8)) m a) ∙ g.kept m b b;
          blank = subst (λ k. Blank h.stack z.stack base k) e (then_blank base whole (count % 8) q.blank (subst (λ k. Blank q.stack z.stack k (count % 8)) start z.blank));
          counted = omega (arith, q.counted);
        }

    pub clears_loop : Cleared h p sp (at + length (zero_loop to count)) home to count (count / 8)
    clears_loop =
        let z = all_zeroes in
        record {
          pc = z.pc;
          registers = z.registers;
          stack = z.stack;
          jumps = z.jumps;
          work = z.work;
          leads = z.leads;
          there = z.there;
          holds = λ i less apart. ap (λ k. value_at k sp z.registers z.stack) (homes i less) ∙ z.blank.inside (sp + (to + i)) (omega arith) (omega (arith, less));
          others = λ k is apart. stays_so z.registers z.stack z.kept z.blank k is (λ i less. subst (λ j. Apart j k) (homes i less) (apart i less));
          low = λ m a b d. z.kept m b d;
          below = λ j a. z.blank.outside j (inl (omega (arith, a)));
          counted = z.counted;
        } where
          far : (j : ℕ) → ((i : ℕ) → i < count → to + i ≢ j) → (sp + j < base) ⊎ (base + count ≤ sp + j)
          far j apart = ⊎_elim (λ less. inl (omega (arith, less))) (λ more. ⊎_elim
              (λ inside. let e : to + (j - to) ≡ j = omega (arith, more) in absurd (apart (j - to) (omega (arith, inside, more)) e))
              (λ behind. inr (omega (arith, behind))) (cases_lt j (to + count))) (cases_lt j to)

          stays_so : (rs stack : ℕ → ℕ) → ((m : ℕ) → m ≢ 5 → m ≢ 8 → rs m ≡ h.registers m) → Blank h.stack stack base count → (k : Home) → IsHome sp k → ((i : ℕ) → i < count → Apart (Frame (to + i)) k)
              → value_at k sp rs stack ≡ value_at k sp h.registers h.stack
          stays_so rs stack kept blank (Frame j) is apart = blank.outside (sp + j) (far j apart)
          stays_so rs stack kept blank (Saved r) is apart = kept r (λ e. absurd (omega (arith, is.0, e))) (λ e. absurd (omega (arith, is.0, e)))
