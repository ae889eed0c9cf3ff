-- An operation on pairs of words, by a routine in line.
use Rattle.std.proofs.Common.{◌≡◌, ◌≢◌, ℕ, ◌+◌, ◌*◌, ◌/◌, ◌%◌, ◌^◌, ◌<◌, ◌≤◌, Bool, true, false, ◌&&◌, ◌||◌, nat_le, pos, List, ◌++◌, length, Some, refl, sym, ap, ap₂, ◌∙◌, arith, length-append, ◌⊎◌, inl, inr}
use Rattle.std.proofs.lemmas.Int.{ints}
use Rattle.std.proofs.lemmas.Bool.{cases_eq}
use Rattle.std.proofs.lemmas.Bool.Decides.{nat_tests}
use Rattle.rv_isa.specs.declared.addresses.TheConstants.{STACK_START}
use Rattle.rv_isa.specs.declared.image.Contents.{Contents}
use Rattle.rv_isa.specs.declared.instr.Instr.{Instr}
use Rattle.rv_isa.specs.declared.instr.Instr.TheVariants.{Immediate}
use Rattle.rv_isa.specs.declared.instr.ImmediateOp.TheVariants.{Addi}
use Rattle.rv_asm.specs.Asm.{instructions_of}
use Rattle.rv_asm.specs.declared.line.AsmLine.{AsmLine}
use Rattle.rv_exec.specs.Hart.{Hart, put, register, moved, with_register}
use Rattle.rv_exec.specs.Words.{word, sum_of}
use Rattle.rv_exec.specs.Calls.{Privates, Goes}
use Rattle.rv_exec.proofs.Propriety.{register_below}
use Rattle.rv_long.specs.Long.{HasOperands, Computes, result_of, two_words, may_change}
use Rattle.rv_long.specs.declared.op.LongOp.{LongOp}
use Rattle.rv_code.specs.declared.home.Home.{Home}
use Rattle.rv_code.specs.declared.home.Home.TheVariants.{Frame, Saved}
use Rattle.rv_code.specs.Homes.{value_at, IsHome, Apart, bring, leave}
use Rattle.rv_code.specs.Jumps.{place}
use Rattle.rv_code.specs.Runs.{Stands, Fine, Leads}
use Rattle.rv_code.proofs.Leading.{stands_front, stands_back, then_leads, one, fetched}
use Rattle.rv_code.proofs.Slots.{put_same, put_other, reads, Got, frame_loads, frame_stores}
use Rattle.rv_code.specs.Pieces.{long_code}
use Rattle.rv_code.proofs.Routines.{routine_runs}

module _ (image : Contents) (small : length image.code ≤ 2 ^ 23) where
  -- one word into a register
  pub brings : (h : Hart) (p : Privates) (at sp : ℕ) (home : Home) (rd : ℕ) → Fine h p → h.pc ≡ place at → h.registers 2 ≡ STACK_START + 4 * sp → IsHome sp home
      → Stands image.code at (bring home rd) → Got image small h p (at + length (bring home rd)) rd (value_at home sp h.registers h.stack) rd
  brings h p at sp (Frame k) rd fine here pointer is has = frame_loads image small h p fine at sp k here (record { pointer = pointer; inside = is }) rd has
  brings h p at sp (Saved r) rd fine here pointer is has =
      let same : sum_of (register h r) (word (pos 0)) ≡ h.registers r = omega (arith, ints, register_below h fine.hart r, reads h r (λ e. absurd (omega (arith, is.0, e)))) in
      record {
        pc = h.pc + 4;
        registers = put h.registers rd (h.registers r);
        work = h.work + 1;
        leads = one image small (Immediate Addi rd r (pos 0)) at has.0 here (ap (λ v. Goes (moved (with_register rd v (fetched h))) p) same);
        there = omega (arith, here);
        holds = put_same h.registers rd (h.registers r);
        kept = λ n a b. put_other h.registers rd (h.registers r) n a;
      }

  -- one word out of a register; frames below, other homes, and all registers but 8 and that of the home stay
  pub record Left (h : Hart) (p : Privates) (sp end : ℕ) (to : Home) (value : ℕ) : Type 0 where
    pub pc : ℕ
    pub registers : ℕ → ℕ
    pub stack : ℕ → ℕ
    pub work : ℕ
    pub leads : Leads image h p (record h { pc = pc; registers = registers; stack = stack; work = work }) p
    pub there : pc ≡ place end
    pub holds : value_at to sp registers stack ≡ value
    pub others : (home : Home) → IsHome sp home → Apart to home → value_at home sp registers stack ≡ value_at home sp h.registers h.stack
    pub low : (n : ℕ) → n < 18 → n ≢ 8 → registers n ≡ h.registers n
    pub below : (j : ℕ) → j < sp → stack j ≡ h.stack j

  pub leaves : (h : Hart) (p : Privates) (at sp : ℕ) (home : Home) (rs : ℕ) → Fine h p → h.pc ≡ place at → h.registers 2 ≡ STACK_START + 4 * sp → IsHome sp home → rs ≢ 0 → rs ≢ 8
      → Stands image.code at (leave home rs) → Left h p sp (at + length (leave home rs)) home (h.registers rs)
  leaves h p at sp (Frame k) rs fine here pointer is some other has =
      let s = frame_stores image small h p fine at sp k here (record { pointer = pointer; inside = is }) rs some other has in
      record {
        pc = s.pc;
        registers = s.registers;
        stack = put h.stack (sp + k) (h.registers rs);
        work = s.work;
        leads = s.leads;
        there = s.there;
        holds = put_same h.stack (sp + k) (h.registers rs);
        others = others s.registers s.kept;
        low = λ n a b. s.kept n b;
        below = λ j a. put_other h.stack (sp + k) (h.registers rs) j (λ e. absurd (omega (arith, a, e)));
      } where
        others : (r : ℕ → ℕ) → ((n : ℕ) → n ≢ 8 → r n ≡ h.registers n) → (home : Home) → IsHome sp home → Apart (Frame k) home
            → value_at home sp r (put h.stack (sp + k) (h.registers rs)) ≡ value_at home sp h.registers h.stack
        others r same (Frame j) l a = put_other h.stack (sp + k) (h.registers rs) (sp + j) (λ e. a (omega (arith, e)))
        others r same (Saved q) l a = same q (λ e. absurd (omega (arith, l.0, e)))
  leaves h p at sp (Saved r) rs fine here pointer is some other has =
      let same : sum_of (register h rs) (word (pos 0)) ≡ h.registers rs = omega (arith, ints, register_below h fine.hart rs, reads h rs some) in
      record {
        pc = h.pc + 4;
        registers = put h.registers r (h.registers rs);
        stack = h.stack;
        work = h.work + 1;
        leads = one image small (Immediate Addi r rs (pos 0)) at has.0 here (ap (λ v. Goes (moved (with_register r v (fetched h))) p) same);
        there = omega (arith, here);
        holds = put_same h.registers r (h.registers rs);
        others = others;
        low = λ n a b. put_other h.registers r (h.registers rs) n (λ e. absurd (omega (arith, a, is.0, e)));
        below = λ j a. refl;
      } where
        others : (home : Home) → IsHome sp home → Apart (Saved r) home → value_at home sp (put h.registers r (h.registers rs)) h.stack ≡ value_at home sp h.registers h.stack
        others (Frame j) l a = refl
        others (Saved q) l a = put_other h.registers r (h.registers rs) q (λ e. a (sym e))

  home_kept : (home : Home) (sp : ℕ) (r s stack : ℕ → ℕ) → IsHome sp home → ((n : ℕ) → 18 ≤ n → n < 28 → s n ≡ r n) → value_at home sp s stack ≡ value_at home sp r stack
  home_kept (Frame k) sp r s stack is same = refl
  home_kept (Saved q) sp r s stack is same = same q is.0 is.1

  no_change : (n : ℕ) → 18 ≤ n → n < 28 → may_change n ≡ false
  no_change n a b =
      let x : nat_le n 7 ≡ false = not_le n 7 (omega (arith, a)) in
      let y : nat_le n 17 ≡ false = not_le n 17 (omega (arith, a)) in
      let z : nat_le 28 n ≡ false = not_le 28 n (omega (arith, b)) in
      on (nat_le 5 n) (nat_le 10 n) (nat_le n 31) (nat_le n 7) (nat_le n 17) (nat_le 28 n) x y z where
        not_le : (i j : ℕ) → j < i → nat_le i j ≡ false
        not_le i j l = grind (arith, nat_tests, l)

        on : (c d e f g k : Bool) → f ≡ false → g ≡ false → k ≡ false → (c && f) || ((d && g) || (k && e)) ≡ false
        on c d e f g k p q r =
            ap (λ x. (c && x) || ((d && g) || (k && e))) p ∙ ap (λ x. (c && false) || ((d && x) || (k && e))) q ∙ ap (λ x. (c && false) || ((d && false) || (x && e))) r ∙ last c d where
              last : (c d : Bool) → (c && false) || ((d && false) || (false && e)) ≡ false
              last true true = refl
              last true false = refl
              last false true = refl
              last false false = refl

  module _ (op : LongOp) (lines : List AsmLine) (computes : Computes op lines) (h : Hart) (p : Privates) (fine : Fine h p) (at sp : ℕ) (here : h.pc ≡ place at) (pointer : h.registers 2 ≡ STACK_START + 4 * sp)
      (to to1 a a1 b b1 : Home) (ht : IsHome sp to) (ht1 : IsHome sp to1) (ha : IsHome sp a) (ha1 : IsHome sp a1) (hb : IsHome sp b) (hb1 : IsHome sp b1) (apart : Apart to1 to)
      (has : Stands image.code at (long_code (instructions_of lines) to to1 a a1 b b1)) (within : at + length (long_code (instructions_of lines) to to1 a a1 b b1) ≤ length image.code) (value : ℕ)
      (result : result_of op (two_words (value_at a sp h.registers h.stack) (value_at a1 sp h.registers h.stack)) (two_words (value_at b sp h.registers h.stack) (value_at b1 sp h.registers h.stack)) ≡ Some value) where
    abbrev routine : List Instr
    routine = instructions_of lines

    abbrev tail : List Instr
    tail = leave to 10 ++ leave to1 11

    -- the operands stand in registers 10 to 13
    record Ready : Type 0 where
      pc : ℕ
      registers : ℕ → ℕ
      work : ℕ
      leads : Leads image h p (record h { pc = pc; registers = registers; work = work }) p
      there : pc ≡ place (at + length (bring a 10) + length (bring a1 11) + length (bring b 12) + length (bring b1 13))
      ten : registers 10 ≡ value_at a sp h.registers h.stack
      eleven : registers 11 ≡ value_at a1 sp h.registers h.stack
      twelve : registers 12 ≡ value_at b sp h.registers h.stack
      thirteen : registers 13 ≡ value_at b1 sp h.registers h.stack
      saved : (n : ℕ) → 18 ≤ n → n < 28 → registers n ≡ h.registers n
      frame : (n : ℕ) → n < 8 → registers n ≡ h.registers n

    ready : Ready
    ready =
        let g = brings h p at sp a 10 fine here pointer ha (stands_front image.code at (bring a 10) _ has) in
        let s1 = stands_back image.code at (bring a 10) _ has in
        let h1 : Hart = record h { pc = g.pc; registers = g.registers; work = g.work } in
        let g1 = brings h1 p (at + length (bring a 10)) sp a1 11 (g.leads.fine fine) g.there (g.kept 2 (omega arith) (omega arith) ∙ pointer) ha1 (stands_front image.code _ (bring a1 11) _ s1) in
        let s2 = stands_back image.code _ (bring a1 11) _ s1 in
        let h2 : Hart = record h { pc = g1.pc; registers = g1.registers; work = g1.work } in
        let l2 : Leads image h p h2 p = then_leads image {i = h1} {j = h2} g.leads g1.leads in
        let k2 : (n : ℕ) → n ≢ 10 → n ≢ 11 → n ≢ 8 → g1.registers n ≡ h.registers n = λ n x y z. g1.kept n y z ∙ g.kept n x z in
        let g2 = brings h2 p (at + length (bring a 10) + length (bring a1 11)) sp b 12 (l2.fine fine) g1.there (k2 2 (omega arith) (omega arith) (omega arith) ∙ pointer) hb (stands_front image.code _ (bring b 12) _ s2) in
        let s3 = stands_back image.code _ (bring b 12) _ s2 in
        let h3 : Hart = record h { pc = g2.pc; registers = g2.registers; work = g2.work } in
        let l3 : Leads image h p h3 p = then_leads image {i = h2} {j = h3} l2 g2.leads in
        let k3 : (n : ℕ) → n ≢ 10 → n ≢ 11 → n ≢ 12 → n ≢ 8 → g2.registers n ≡ h.registers n = λ n x y w z. g2.kept n w z ∙ k2 n x y z in
        let g3 = brings h3 p (at + length (bring a 10) + length (bring a1 11) + length (bring b 12)) sp b1 13 (l3.fine fine) g2.there (k3 2 (omega arith) (omega arith) (omega arith) (omega arith) ∙ pointer) hb1
        (stands_front image.code _ (bring b1 13) _ s3) in
        record {
          pc = g3.pc;
          registers = g3.registers;
          work = g3.work;
          leads = then_leads image {i = h3} {j = record h { pc = g3.pc; registers = g3.registers; work = g3.work }} l3 g3.leads;
          there = g3.there;
          ten = g3.kept 10 (omega arith) (omega arith) ∙ g2.kept 10 (omega arith) (omega arith) ∙ g1.kept 10 (omega arith) (omega arith) ∙ g.holds;
          eleven = g3.kept 11 (omega arith) (omega arith) ∙ g2.kept 11 (omega arith) (omega arith) ∙ g1.holds
              ∙ home_kept a1 sp h.registers g.registers h.stack ha1 (λ n x y. g.kept n (λ e. absurd (omega (arith, x, e))) (λ e. absurd (omega (arith, x, e))));
          twelve = g3.kept 12 (omega arith) (omega arith) ∙ g2.holds
              ∙ home_kept b sp h.registers g1.registers h.stack hb (λ n x y. k2 n (λ e. absurd (omega (arith, x, e))) (λ e. absurd (omega (arith, x, e))) (λ e. absurd (omega (arith, x, e))));
          thirteen = g3.holds
              ∙ home_kept b1 sp h.registers g2.registers h.stack hb1 (λ n x y. k3 n (λ e. absurd (omega (arith, x, e))) (λ e. absurd (omega (arith, x, e))) (λ e. absurd (omega (arith, x, e))) (λ e. absurd (omega (arith, x, e))));
          saved = λ n x y. g3.kept n (λ e. absurd (omega (arith, x, e))) (λ e. absurd (omega (arith, x, e)))
              ∙ k3 n (λ e. absurd (omega (arith, x, e))) (λ e. absurd (omega (arith, x, e))) (λ e. absurd (omega (arith, x, e))) (λ e. absurd (omega (arith, x, e)));
          frame = λ n x. g3.kept n (λ e. absurd (omega (arith, x, e))) (λ e. absurd (omega (arith, x, e)))
              ∙ k3 n (λ e. absurd (omega (arith, x, e))) (λ e. absurd (omega (arith, x, e))) (λ e. absurd (omega (arith, x, e))) (λ e. absurd (omega (arith, x, e)));
        }

    abbrev at1 : ℕ
    at1 = at + length (bring a 10) + length (bring a1 11) + length (bring b 12) + length (bring b1 13)

    code1 : Stands image.code at1 (routine ++ tail)
    code1 = stands_back image.code (at + length (bring a 10) + length (bring a1 11) + length (bring b 12)) (bring b1 13) (routine ++ tail)
        (stands_back image.code (at + length (bring a 10) + length (bring a1 11)) (bring b 12) (bring b1 13 ++ (routine ++ tail))
        (stands_back image.code (at + length (bring a 10)) (bring a1 11) (bring b 12 ++ (bring b1 13 ++ (routine ++ tail)))
        (stands_back image.code at (bring a 10) (bring a1 11 ++ (bring b 12 ++ (bring b1 13 ++ (routine ++ tail)))) has)))

    lengths : length (long_code (instructions_of lines) to to1 a a1 b b1) ≡ length (bring a 10) + (length (bring a1 11) + (length (bring b 12) + (length (bring b1 13) + (length routine + (length (leave to 10) + length (leave to1 11))))))
    lengths = omega (
      arith,
      length-append (bring a 10) (bring a1 11 ++ (bring b 12 ++ (bring b1 13 ++ (routine ++ tail)))),
      length-append (bring a1 11) (bring b 12 ++ (bring b1 13 ++ (routine ++ tail))),
      length-append (bring b 12) (bring b1 13 ++ (routine ++ tail)),
      length-append (bring b1 13) (routine ++ tail),
      length-append routine tail,
      length-append (leave to 10) (leave to1 11),
    )

    -- both words of the result are at their homes, low word first
    pub record Computed : Type 0 where
      pub pc : ℕ
      pub registers : ℕ → ℕ
      pub stack : ℕ → ℕ
      pub work : ℕ
      pub leads : Leads image h p (record h { pc = pc; registers = registers; stack = stack; work = work }) p
      pub there : pc ≡ place (at + length (long_code (instructions_of lines) to to1 a a1 b b1))
      pub low : value_at to sp registers stack ≡ value % 2 ^ 32
      pub high : value_at to1 sp registers stack ≡ value / 2 ^ 32
      pub others : (home : Home) → IsHome sp home → Apart to home → Apart to1 home → value_at home sp registers stack ≡ value_at home sp h.registers h.stack
      pub frame : (n : ℕ) → 2 ≤ n → n ≤ 4 → registers n ≡ h.registers n
      pub below : (j : ℕ) → j < sp → stack j ≡ h.stack j

    pub computed_long : Computed
    computed_long =
        let r = ready in
        let h1 : Hart = record h { pc = r.pc; registers = r.registers; work = r.work } in
        let good = (r.leads.fine fine).hart in
        let operands : HasOperands r.registers = record { left_low = good.registers 10; left_high = good.registers 11; right_low = good.registers 12; right_high = good.registers 13 } in
        let asks : result_of op (two_words (r.registers 10) (r.registers 11)) (two_words (r.registers 12) (r.registers 13)) ≡ Some value =
        ap₂ (λ (x y : ℕ). result_of op x y) (ap₂ two_words r.ten r.eleven) (ap₂ two_words r.twelve r.thirteen) ∙ result in
        let run = routine_runs image small op lines at1 h1 p value computes (stands_front image.code at1 routine tail code1) (omega (arith, within, lengths)) r.there operands asks in
        let h2 : Hart = record h { pc = r.pc + 4 * length routine; registers = run.0.registers; work = r.work + length routine } in
        let l2 : Leads image h p h2 p = then_leads image {i = h1} {j = h2} r.leads run.1 in
        let code2 : Stands image.code (at1 + length routine) tail = stands_back image.code at1 routine tail code1 in
        let here2 : h2.pc ≡ place (at1 + length routine) = omega (arith, r.there) in
        let two : run.0.registers 2 ≡ STACK_START + 4 * sp = run.0.kept 2 refl ∙ r.frame 2 (omega arith) ∙ pointer in
        let x = leaves h2 p (at1 + length routine) sp to 10 (l2.fine fine) here2 two ht (omega arith) (omega arith) (stands_front image.code (at1 + length routine) (leave to 10) (leave to1 11) code2) in
        let h3 : Hart = record h { pc = x.pc; registers = x.registers; stack = x.stack; work = x.work } in
        let l3 : Leads image h p h3 p = then_leads image {i = h2} {j = h3} l2 x.leads in
        let y = leaves h3 p (at1 + length routine + length (leave to 10)) sp to1 11 (l3.fine fine) x.there (x.low 2 (omega arith) (omega arith) ∙ two) ht1 (omega arith) (omega arith)
        (stands_back image.code (at1 + length routine) (leave to 10) (leave to1 11) code2) in
        let saved2 : (n : ℕ) → 18 ≤ n → n < 28 → run.0.registers n ≡ h.registers n = λ n q s. run.0.kept n (no_change n q s) ∙ r.saved n q s in
        record {
          pc = y.pc;
          registers = y.registers;
          stack = y.stack;
          work = y.work;
          leads = then_leads image {i = h3} {j = record h { pc = y.pc; registers = y.registers; stack = y.stack; work = y.work }} l3 y.leads;
          there = y.there ∙ ap place (omega (arith, lengths));
          low = y.others to ht apart ∙ x.holds ∙ run.0.low;
          high = y.holds ∙ x.low 11 (omega arith) (omega arith) ∙ run.0.high;
          others = λ home is p1 p2. y.others home is p2 ∙ x.others home is p1 ∙ home_kept home sp h.registers run.0.registers h.stack is saved2;
          frame = λ n q s. y.low n (omega (arith, s)) (λ e. absurd (omega (arith, s, e))) ∙ x.low n (omega (arith, s)) (λ e. absurd (omega (arith, s, e)))
              ∙ run.0.kept n (frame_kept n q s) ∙ r.frame n (omega (arith, s));
          below = λ j q. y.below j q ∙ x.below j q;
        } where
          frame_kept : (n : ℕ) → 2 ≤ n → n ≤ 4 → may_change n ≡ false
          frame_kept n q s = on (cases_eq n 2) (cases_eq n 3) where
            on : (n ≡ 2) ⊎ (n ≢ 2) → (n ≡ 3) ⊎ (n ≢ 3) → may_change n ≡ false
            on (inl e) f = rw e refl
            on (inr e) (inl f) = rw f refl
            on (inr e) (inr f) = let g : n ≡ 4 = omega (arith, q, s, e, f) in rw g refl
