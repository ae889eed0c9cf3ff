-- Words of slots go to other words of the stack, and arguments come from there.
use Rattle.std.proofs.Common.{◌≡◌, ◌≢◌, ℕ, zero, suc, ◌+◌, ◌*◌, ◌^◌, ◌<◌, ◌≤◌, List, ◌++◌, length, refl, sym, ap, ◌∙◌, arith, subst, ⊎_elim, length-append, ◌⊎◌, inl, inr}
use Rattle.std.proofs.lemmas.Bool.{cases_eq}
use Rattle.rv_isa.specs.declared.addresses.TheConstants.{STACK_START}
use Rattle.rv_isa.specs.declared.image.Contents.{Contents}
use Rattle.rv_isa.specs.declared.instr.Instr.{Instr}
use Rattle.rv_exec.specs.Hart.{Hart, put}
use Rattle.rv_exec.specs.Calls.{Privates}
use Rattle.rv_code.specs.declared.home.Home.{Home}
use Rattle.rv_code.specs.declared.home.Home.TheVariants.{Frame, Saved}
use Rattle.rv_code.specs.Homes.{value_at, IsHome, Apart, get_code, get_register, frame_store}
use Rattle.rv_code.specs.Jumps.{place}
use Rattle.rv_code.specs.Runs.{Stands, Fine, Leads}
use Rattle.rv_code.proofs.Leading.{stands_front, stands_back, stays, then_leads}
use Rattle.rv_code.proofs.Operands.{IsSaved, gets}
use Rattle.rv_code.proofs.Slots.{put_same, put_other, frame_loads, frame_stores}
use Rattle.rv_form.specs.Flow.{pass, take_word, take_arguments}

module _ (image : Contents) (small : length image.code ≤ 2 ^ 23) (home : ℕ → Home) (sp : ℕ) where
  -- Words of the slots from `from` on stand in the words of the frame from `to` on.
  pub record Passed (h : Hart) (p : Privates) (end from to n : ℕ) : Type 0 where
    pub pc : ℕ
    pub registers : ℕ → ℕ
    pub stack : ℕ → ℕ
    pub work : ℕ
    pub leads : Leads image h p (record h { pc = pc; registers = registers; stack = stack; work = work }) p
    pub there : pc ≡ place end
    pub kept : (k : ℕ) → k ≢ 8 → k ≢ 10 → registers k ≡ h.registers k
    pub words : (j : ℕ) → j < n → stack (sp + to + j) ≡ value_at (home (from + j)) sp h.registers h.stack
    pub others : (j : ℕ) → (j < sp + to) ⊎ (sp + to + n ≤ j) → stack j ≡ h.stack j

  good_register : (k : Home) → IsHome sp k → (get_register k 10 ≢ 0) × (get_register k 10 ≢ 8)
  good_register (Frame k) a = (omega arith, omega arith)
  good_register (Saved r) a = (λ e. absurd (omega (arith, a.0, e)), λ e. absurd (omega (arith, a.0, e)))

  -- what is written to another word changes no home
  same_value : (k : Home) (r s stack : ℕ → ℕ) (cell v : ℕ) → IsHome sp k → ((j : ℕ) → k ≡ Frame j → sp + j ≢ cell) → ((n : ℕ) → n ≢ 8 → n ≢ 10 → s n ≡ r n)
      → value_at k sp s (put stack cell v) ≡ value_at k sp r stack
  same_value (Frame k) r s stack cell v a other same = put_other stack cell v (sp + k) (other k refl)
  same_value (Saved k) r s stack cell v a other same = same k (λ e. absurd (omega (arith, a.0, e))) (λ e. absurd (omega (arith, a.0, e)))

  -- none is written before it is read
  abbrev pub AreSafe : (from to n : ℕ) → Type 0
  AreSafe from to n = (i j k : ℕ) → i < j → j < n → home (from + j) ≡ Frame k → k ≢ to + i

  pub passes : (n from to at : ℕ) (h : Hart) (p : Privates) → Fine h p → h.pc ≡ place at → h.registers 2 ≡ STACK_START + 4 * sp → sp + to + n ≤ 2 ^ 20
      → ((j : ℕ) → j < n → IsHome sp (home (from + j))) → AreSafe from to n → Stands image.code at (pass home from to n) → Passed h p (at + length (pass home from to n)) from to n
  passes zero from to at h p fine here pointer room homes safe has = record {
    pc = h.pc;
    registers = h.registers;
    stack = h.stack;
    work = h.work;
    leads = stays image;
    there = omega (arith, here);
    kept = λ k a b. refl;
    words = λ j b. absurd (omega (arith, b));
    others = λ j a. refl;
  }
  passes (suc n) from to at h p fine here pointer room homes safe has =
      let k : Home = home from in
      let e0 : from + 0 ≡ from = omega arith in
      let is : IsHome sp k = subst (λ i. IsHome sp (home i)) e0 (homes 0 (omega arith)) in
      let load = get_code k 10 in
      let store = frame_store (get_register k 10) to in
      let more_code : List Instr = pass home (from + 1) (to + 1) n in
      let first = stands_front image.code at (load ++ store) more_code has in
      let rest = stands_back image.code at (load ++ store) more_code has in
      let g = gets image small h p at sp k 10 fine here pointer is (stands_front image.code at load store first) in
      let h1 : Hart = record h { pc = g.pc; registers = g.registers; work = g.work } in
      let pointer1 : h1.registers 2 ≡ STACK_START + 4 * sp = g.kept 2 (omega arith) (omega arith) ∙ pointer in
      let good = good_register k is in
      let s = frame_stores image small h1 p (g.leads.fine fine) (at + length load) sp to g.there (record { pointer = pointer1; inside = omega (arith, room) })
      (get_register k 10) good.0 good.1 (stands_back image.code at load store first) in
      let cell : ℕ = sp + to in
      let v : ℕ = g.registers (get_register k 10) in
      let h2 : Hart = record h { pc = s.pc; registers = s.registers; stack = put h.stack cell v; work = s.work } in
      let both : Leads image h p h2 p = then_leads image {i = h1} {j = h2} g.leads s.leads in
      let kept2 : (m : ℕ) → m ≢ 8 → m ≢ 10 → h2.registers m ≡ h.registers m = λ m a b. s.kept m a ∙ g.kept m b a in
      let end : at + length (load ++ store) ≡ at + length load + length store = omega (arith, length-append load store) in
      let more = passes n (from + 1) (to + 1) (at + length (load ++ store)) h2 p (both.fine fine) (s.there ∙ ap place (sym end)) (kept2 2 (omega arith) (omega arith) ∙ pointer) (omega (arith, room))
      (λ j b. shift_home j (homes (j + 1) (omega (arith, b)))) (λ i j q a b e. shift_safe i j q a b e) rest in
      record {
        pc = more.pc;
        registers = more.registers;
        stack = more.stack;
        work = more.work;
        leads = then_leads image {i = h2} {j = record h { pc = more.pc; registers = more.registers; stack = more.stack; work = more.work }} both more.leads;
        there = more.there ∙ ap place (omega (arith, length-append (load ++ store) more_code));
        kept = λ m a b. more.kept m a b ∙ kept2 m a b;
        words = word more.stack h2.registers v more.words more.others g.holds kept2;
        others = λ j a. more.others j (outside j a) ∙ put_other h.stack cell v j (apart j a);
      } where
        shift : (j : ℕ) → from + (j + 1) ≡ from + 1 + j
        shift j = omega arith

        shift_home : (j : ℕ) → IsHome sp (home (from + (j + 1))) → IsHome sp (home (from + 1 + j))
        shift_home j a = subst (λ i. IsHome sp (home i)) (shift j) a

        shift_safe : (i j q : ℕ) → i < j → j < n → home (from + 1 + j) ≡ Frame q → q ≢ to + 1 + i
        shift_safe i j q a b e f = safe (i + 1) (j + 1) q (omega (arith, a)) (omega (arith, b)) (ap home (shift j) ∙ e) (omega (arith, f))

        outside : (j : ℕ) → (j < sp + to) ⊎ (sp + to + suc n ≤ j) → (j < sp + (to + 1)) ⊎ (sp + (to + 1) + n ≤ j)
        outside j (inl a) = inl (omega (arith, a))
        outside j (inr a) = inr (omega (arith, a))

        apart : (j : ℕ) → (j < sp + to) ⊎ (sp + to + suc n ≤ j) → j ≢ sp + to
        apart j (inl a) e = absurd (omega (arith, a, e))
        apart j (inr a) e = absurd (omega (arith, a, e))

        word : (stack1 s : ℕ → ℕ) (v : ℕ) → ((j : ℕ) → j < n → stack1 (sp + (to + 1) + j) ≡ value_at (home (from + 1 + j)) sp s (put h.stack (sp + to) v))
            → ((j : ℕ) → (j < sp + (to + 1)) ⊎ (sp + (to + 1) + n ≤ j) → stack1 j ≡ put h.stack (sp + to) v j) → v ≡ value_at (home from) sp h.registers h.stack
            → ((m : ℕ) → m ≢ 8 → m ≢ 10 → s m ≡ h.registers m) → (j : ℕ) → j < suc n → stack1 (sp + to + j) ≡ value_at (home (from + j)) sp h.registers h.stack
        word stack1 s v later old value regs zero less =
            ap stack1 (omega arith) ∙ old (sp + to) (inl (omega arith)) ∙ put_same h.stack (sp + to) v ∙ value ∙ ap (λ i. value_at (home i) sp h.registers h.stack) (omega arith)
        word stack1 s v later old value regs (suc j) less =
            let e : from + 1 + j ≡ from + suc j = omega arith in
            ap stack1 (omega arith) ∙ later j (omega (arith, less))
            ∙ same_value (home (from + 1 + j)) h.registers s h.stack (sp + to) v (subst (λ i. IsHome sp (home i)) (sym e) (homes (suc j) less))
            (λ q f z. safe 0 (suc j) q (omega arith) less (ap home (sym e) ∙ f) (omega (arith, z))) regs
            ∙ ap (λ i. value_at (home i) sp h.registers h.stack) e

  -- ---- arguments whose home is a register

  -- at word number `end`, with slots from `from` on at their homes
  pub record Took (h : Hart) (p : Privates) (end from n : ℕ) (needed : ℕ → Type 0) : Type 0 where
    pub pc : ℕ
    pub registers : ℕ → ℕ
    pub work : ℕ
    pub leads : Leads image h p (record h { pc = pc; registers = registers; work = work }) p
    pub there : pc ≡ place end
    pub kept : (k : ℕ) → k ≢ 8 → (IsSaved k → ⊥) → registers k ≡ h.registers k
    -- those that were there stay, and those that are taken come
    pub homes : (t : ℕ) → t < from + n → needed t → (t < from → value_at (home t) sp h.registers h.stack ≡ h.stack (sp + t)) → value_at (home t) sp registers h.stack ≡ h.stack (sp + t)

  module _ (needed : ℕ → Type 0) (frames : (t k : ℕ) → home t ≡ Frame k → k ≡ t) (saves : (t r : ℕ) → home t ≡ Saved r → IsSaved r) (bound : ℕ)
      (apart : (i j : ℕ) → i < bound → j < bound → needed i → i ≢ j → Apart (home i) (home j)) where
    take_one : (h : Hart) (p : Privates) → Fine h p → (at t : ℕ) → h.pc ≡ place at → h.registers 2 ≡ STACK_START + 4 * sp → sp + t < 2 ^ 20 → (k : Home) → ((n : ℕ) → k ≡ Frame n → n ≡ t)
        → ((r : ℕ) → k ≡ Saved r → IsSaved r) → Stands image.code at (take_word k t)
        → (pc : ℕ) × (registers : ℕ → ℕ) × (work : ℕ) × Leads image h p (record h { pc = pc; registers = registers; work = work }) p × (pc ≡ place (at + length (take_word k t)))
        × ((n : ℕ) → n ≢ 8 → ((r : ℕ) → k ≡ Saved r → n ≢ r) → registers n ≡ h.registers n) × (value_at k sp registers h.stack ≡ h.stack (sp + t))
    take_one h p fine at t here pointer room (Frame n) is saved has =
        (h.pc, h.registers, h.work, stays image, omega (arith, here), λ m a b. refl, ap (λ j. h.stack (sp + j)) (is n refl))
    take_one h p fine at t here pointer room (Saved r) is saved has =
        let g = frame_loads image small h p fine at sp t here (record { pointer = pointer; inside = room }) r has in
        (g.pc, g.registers, g.work, g.leads, g.there, λ m a b. g.kept m (b r refl) a, g.holds)

    pub takes : (n from at : ℕ) (h : Hart) (p : Privates) → Fine h p → h.pc ≡ place at → h.registers 2 ≡ STACK_START + 4 * sp → sp + from + n ≤ 2 ^ 20 → from + n ≤ bound
        → Stands image.code at (take_arguments home from n) → Took h p (at + length (take_arguments home from n)) from n needed
    takes zero from at h p fine here pointer room fits has = record {
      pc = h.pc;
      registers = h.registers;
      work = h.work;
      leads = stays image;
      there = omega (arith, here);
      kept = λ k a b. refl;
      homes = λ t less need old. old (omega (arith, less));
    }
    takes (suc n) from at h p fine here pointer room fits has =
        let code : List Instr = take_word (home from) from in
        let more_code : List Instr = take_arguments home (from + 1) n in
        let one = take_one h p fine at from here pointer (omega (arith, room)) (home from) (λ k e. frames from k e) (λ r e. saves from r e) (stands_front image.code at code more_code has) in
        let h1 : Hart = record h { pc = one.0; registers = one.1; work = one.2 } in
        let low : (k : ℕ) → k ≢ 8 → (IsSaved k → ⊥) → one.1 k ≡ h.registers k = λ k a b. one.5 k a (λ r e z. b (subst IsSaved (sym z) (saves from r e))) in
        let more = takes n (from + 1) (at + length code) h1 p (one.3.fine fine) one.4 (low 2 (omega arith) (λ s. absurd (omega (arith, s.0))) ∙ pointer) (omega (arith, room)) (omega (arith, fits))
        (stands_back image.code at code more_code has) in
        record {
          pc = more.pc;
          registers = more.registers;
          work = more.work;
          leads = then_leads image {i = h1} {j = record h { pc = more.pc; registers = more.registers; work = more.work }} one.3 more.leads;
          there = more.there ∙ ap place (omega (arith, length-append code more_code));
          kept = λ k a b. more.kept k a b ∙ low k a b;
          homes = λ t less need old. more.homes t (omega (arith, less)) need (λ earlier. ⊎_elim
              (λ e. subst (λ i. value_at (home i) sp one.1 h.stack ≡ h.stack (sp + i)) (sym e) one.6)
              (λ other. still (home t) t (λ k e. frames t k e) one.1 (λ r e. one.5 r (λ z. absurd (omega (arith, (saves t r e).0, z))) (λ q f z. not_same (home t) (home from) r q e f (apart t from (omega (arith, less, fits)) (omega (arith, fits)) need other) z))
              ∙ old (omega (arith, earlier, other)))
              (cases_eq t from));
        } where
          not_same : (a b : Home) (r q : ℕ) → a ≡ Saved r → b ≡ Saved q → Apart a b → r ≢ q
          not_same (Saved x) (Saved y) r q e f away z =
              let g : x ≡ r = cc in
              let k : y ≡ q = cc in
              away (g ∙ z ∙ sym k)
          not_same (Frame x) b r q e f away z = absurd (cc)
          not_same (Saved x) (Frame y) r q e f away z = absurd (cc)

          still : (k : Home) (t : ℕ) → ((n : ℕ) → k ≡ Frame n → n ≡ t) → (r1 : ℕ → ℕ) → ((r : ℕ) → k ≡ Saved r → r1 r ≡ h.registers r) → value_at k sp r1 h.stack ≡ value_at k sp h.registers h.stack
          still (Frame n) t is r1 same = refl
          still (Saved r) t is r1 same = same r refl
