-- A return: the words of the result are shown in the frame, and then who waits goes on.
use Rattle.std.proofs.Common.{◌≡◌, ◌≢◌, ℕ, zero, suc, ◌+◌, ◌*◌, ◌^◌, ◌<◌, ◌≤◌, Bool, true, false, if◌then◌else◌, nat_lt, pos, List, [], ◌∷◌, ◌++◌, length, Some, None, refl, sym, ap, ◌∙◌, arith, length-append, ◌⊎◌, inl, inr, ⊎_elim}
use Rattle.std.proofs.lemmas.Bool.{cases_eq}
use Rattle.std.proofs.lemmas.Bool.Decides.{nat_tests}
use Rattle.rv_isa.specs.declared.addresses.TheConstants.{STACK_START, GLOBALS_START}
use Rattle.rv_isa.specs.declared.image.Contents.{Contents}
use Rattle.rv_isa.specs.declared.instr.Instr.{Instr}
use Rattle.rv_isa.specs.declared.instr.Instr.TheVariants.{Jalr}
use Rattle.rv_exec.specs.Hart.{Hart, put}
use Rattle.rv_exec.specs.Calls.{Privates}
use Rattle.rv_exec.specs.Machine.{line_of}
use Rattle.rv_exec.specs.declared.state.Waits.TheVariants.{Done}
use Rattle.al_ir.specs.Bounds.{most_jumps}
use Rattle.al_ir.specs.declared.ir.Ir.{Ir}
use Rattle.al_ir.specs.declared.op.Op.TheVariants as op
use Rattle.al_ir.specs.Control.{Slots, first_slots, Frame as IrFrame, Nowhere, Control}
use Rattle.al_ir.specs.Meaning.{resume}
use Rattle.al_ir.specs.Step.{step_op}
use Rattle.rv_code.specs.declared.home.Home.{Home}
use Rattle.rv_code.specs.declared.home.Home.TheVariants.{Frame, Saved}
use Rattle.rv_code.specs.Homes.{value_at, frame_load}
use Rattle.rv_code.specs.Jumps.{place}
use Rattle.rv_code.specs.Pieces.{turn_code}
use Rattle.rv_code.specs.Runs.{Stands, Fine, Leads}
use Rattle.rv_code.proofs.Frames.{goes_down, returns}
use Rattle.rv_code.proofs.Leading.{stands_front, stands_back, stays, then_leads}
use Rattle.rv_code.proofs.Operands.{home_kept}
use Rattle.rv_code.proofs.Slots.{put_same, put_other, frame_stores}
use Rattle.rv_form.specs.Flow.{show_word, show, leave_code}
use Rattle.rv_match.specs.Following.{Nears}
use Rattle.rv_match.specs.Match.{IsText, Private, Below, InFrame, Match}
use Rattle.rv_match.specs.Places.{Places, Homes, under, full, wide, jumps_before}
use Rattle.rv_match.proofs.Keeping.{below_same, at_home}
use Rattle.rv_match.proofs.Steps.{Does, here}
use Rattle.rv_match.proofs.Turning.{turn_then}

-- ---- the words of the result

module _ (image : Contents) (small : length image.code ≤ 2 ^ 23) (home : ℕ → Home) (sp slots : ℕ) (frames : (t k : ℕ) → home t ≡ Frame k → k ≡ t) (saves : (t r : ℕ) → home t ≡ Saved r → (18 ≤ r) × (r < 28)) where
  -- the words of so many slots stand in the words of the frame that have their numbers
  pub record Shown (h : Hart) (p : Privates) (end from count : ℕ) : Type 0 where
    pub pc : ℕ
    pub registers : ℕ → ℕ
    pub stack : ℕ → ℕ
    pub work : ℕ
    pub leads : Leads image h p (record h { pc = pc; registers = registers; stack = stack; work = work }) p
    pub there : pc ≡ place end
    pub kept : (n : ℕ) → n ≢ 8 → registers n ≡ h.registers n
    pub words : (t : ℕ) → from ≤ t → t < from + count → stack (sp + t) ≡ value_at (home t) sp h.registers h.stack
    pub others : (j : ℕ) → (j < sp + from) ⊎ (sp + from + count ≤ j) → stack j ≡ h.stack j

  pub record ShownOne (h : Hart) (p : Privates) (end t : ℕ) (k : Home) : Type 0 where
    pub pc : ℕ
    pub registers : ℕ → ℕ
    pub stack : ℕ → ℕ
    pub work : ℕ
    pub leads : Leads image h p (record h { pc = pc; registers = registers; stack = stack; work = work }) p
    pub there : pc ≡ place end
    pub kept : (n : ℕ) → n ≢ 8 → registers n ≡ h.registers n
    pub word : stack (sp + t) ≡ value_at k sp h.registers h.stack
    pub others : (j : ℕ) → j ≢ sp + t → stack j ≡ h.stack j

  shows_one : (h : Hart) (p : Privates) → Fine h p → (at t : ℕ) → h.pc ≡ place at → h.registers 2 ≡ STACK_START + 4 * sp → sp + t < 2 ^ 20
      → (k : Home) → ((n : ℕ) → k ≡ Frame n → n ≡ t) → ((r : ℕ) → k ≡ Saved r → (18 ≤ r) × (r < 28)) → Stands image.code at (show_word k t) → ShownOne h p (at + length (show_word k t)) t k
  shows_one h p fine at t here pointer room (Frame n) is saved has = record {
    pc = h.pc;
    registers = h.registers;
    stack = h.stack;
    work = h.work;
    leads = stays image;
    there = omega (arith, here);
    kept = λ m a. refl;
    word = ap (λ j. h.stack (sp + j)) (sym (is n refl));
    others = λ j a. refl;
  }
  shows_one h p fine at t here pointer room (Saved r) is saved has =
      let q = saved r refl in
      let s = frame_stores image small h p fine at sp t here (record { pointer = pointer; inside = room }) r (λ e. absurd (omega (arith, q.0, e))) (λ e. absurd (omega (arith, q.0, e))) has in
      record {
        pc = s.pc;
        registers = s.registers;
        stack = put h.stack (sp + t) (h.registers r);
        work = s.work;
        leads = s.leads;
        there = s.there;
        kept = s.kept;
        word = put_same h.stack (sp + t) (h.registers r);
        others = λ j a. put_other h.stack (sp + t) (h.registers r) j a;
      }

  still : (k : Home) (t from : ℕ) → ((n : ℕ) → k ≡ Frame n → n ≡ t) → ((r : ℕ) → k ≡ Saved r → (18 ≤ r) × (r < 28)) → from < t → (r r1 s s1 : ℕ → ℕ)
      → ((n : ℕ) → n ≢ 8 → r1 n ≡ r n) → ((j : ℕ) → j ≢ sp + from → s1 j ≡ s j) → value_at k sp r1 s1 ≡ value_at k sp r s
  still (Frame n) t from is saved less r r1 s s1 regs stacks = stacks (sp + n) (λ e. absurd (omega (arith, is n refl, less, e)))
  still (Saved q) t from is saved less r r1 s s1 regs stacks = let b = saved q refl in regs q (λ e. absurd (omega (arith, b.0, e)))

  pub shows : (count from at : ℕ) (h : Hart) (p : Privates) → Fine h p → h.pc ≡ place at → h.registers 2 ≡ STACK_START + 4 * sp → sp + from + count ≤ 2 ^ 20
      → Stands image.code at (show home from count) → Shown h p (at + length (show home from count)) from count
  shows zero from at h p fine here pointer room has = record {
    pc = h.pc;
    registers = h.registers;
    stack = h.stack;
    work = h.work;
    leads = stays image;
    there = omega (arith, here);
    kept = λ n a. refl;
    words = λ t a b. absurd (omega (arith, a, b));
    others = λ j a. refl;
  }
  shows (suc n) from at h p fine here pointer room has =
      let code : List Instr = show_word (home from) from in
      let more_code : List Instr = show home (from + 1) n in
      let one = shows_one h p fine at from here pointer (omega (arith, room)) (home from) (λ k e. frames from k e) (λ r e. saves from r e) (stands_front image.code at code more_code has) in
      let h1 : Hart = record h { pc = one.pc; registers = one.registers; stack = one.stack; work = one.work } in
      let more = shows n (from + 1) (at + length code) h1 p (one.leads.fine fine) one.there (one.kept 2 (omega arith) ∙ pointer) (omega (arith, room)) (stands_back image.code at code more_code has) in
      record {
        pc = more.pc;
        registers = more.registers;
        stack = more.stack;
        work = more.work;
        leads = then_leads image {i = h1} {j = record h { pc = more.pc; registers = more.registers; stack = more.stack; work = more.work }} one.leads more.leads;
        there = more.there ∙ ap place (omega (arith, length-append code more_code));
        kept = λ k a. more.kept k a ∙ one.kept k a;
        words = λ t a b. ⊎_elim
            (λ e. ap (λ j. more.stack (sp + j)) e ∙ more.others (sp + from) (inl (omega arith)) ∙ one.word ∙ ap (λ j. value_at (home j) sp h.registers h.stack) (sym e))
            (λ other. more.words t (omega (arith, a, other)) (omega (arith, b))
            ∙ still (home t) t from (λ k e. frames t k e) (λ r e. saves t r e) (omega (arith, a, other)) h.registers h1.registers h.stack h1.stack one.kept one.others)
            (cases_eq t from);
        others = λ j a. more.others j (outside j a) ∙ one.others j (apart j a);
      } where
        outside : (j : ℕ) → (j < sp + from) ⊎ (sp + from + suc n ≤ j) → (j < sp + (from + 1)) ⊎ (sp + (from + 1) + n ≤ j)
        outside j (inl a) = inl (omega (arith, a))
        outside j (inr a) = inr (omega (arith, a))

        apart : (j : ℕ) → (j < sp + from) ⊎ (sp + from + suc n ≤ j) → j ≢ sp + from
        apart j (inl a) e = absurd (omega (arith, a, e))
        apart j (inr a) e = absurd (omega (arith, a, e))

-- ---- who waits

module _ (ir : Ir) (image : Contents) (l : Places) (live : (f pc unit t : ℕ) → Type 0) (Midway : (f pc unit : ℕ) → Slots → (sp : ℕ) → Hart → Type 0)
    (small : length image.code ≤ 2 ^ 23) where
  -- the control behind a return
  abbrev left_behind : (text : List ℕ) → Slots → List IrFrame → Control
  left_behind text last below = record { entering = None; into = Nowhere; unit = 0; text = text; last = last; frames = below }

  -- the frame below goes on at the place that the one above was given, or the task is over
  pub who_waits : (below : List IrFrame) (text : List ℕ) (last : Slots) (back left : ℕ) (h : Hart) (p : Privates)
      → Below ir image l live Midway h.stack back below → h.pc ≡ back → h.registers 2 ≡ STACK_START + 4 * under l below → under l below ≤ 2 ^ 20
      → h.registers 3 ≡ left → h.registers 4 ≡ GLOBALS_START → IsText h.text text → h.waits ≡ Done → 1 ≤ left → left ≤ full
      → ((t w : ℕ) → last t ≡ Some w → (under l below + t < 2 ^ 20) × (h.stack (under l below + t) ≡ w))
      → h.jumps + wide * left ≤ wide * full + 4
      → Nears image resume (Private ir) (Match ir image l live Midway) left (left_behind text last below) h p
  who_waits [] text last back left h p b at pointer near turns globals text_is waits some few lasts counted =
      record { there = h; leads = stays image; match = inl (record { here = at ∙ b }) }
  who_waits (f ∷ fs) text last back left h p b at pointer near turns globals text_is waits some few lasts counted =
      let r = b.0 in
      let here : h.pc ≡ place r.way = at ∙ r.is in
      let d = goes_down image small h p r.way (l.stack f.function) here (omega (arith, near)) (under l fs) (omega (arith, pointer)) (omega (arith, near)) r.down in
      record {
        there = record h { pc = d.pc; registers = d.registers; work = d.work };
        leads = d.leads;
        match = inl (record {
          here = d.there ∙ ap place r.next;
          pointer = d.pointer;
          turns = d.kept 3 (omega arith) (omega arith) ∙ turns;
          globals = d.kept 4 (omega arith) (omega arith) ∙ globals;
          inside = omega (arith, near);
          room = r.room;
          holds = λ t w a e. let old = r.words t w a e in (old.0, ap (λ home. value_at home (under l fs) d.registers h.stack) old.1.0 ∙ old.1.1);
          waiting = b.1;
          above = λ t w e. let old = lasts t w e in (omega (arith, old.0), ap h.stack (omega arith) ∙ old.1);
          text_is = text_is;
          waits = waits;
          counted = omega (arith, counted);
          some = some;
          few = few;
        });
      }

  low_way : (below : List IrFrame) (stack : ℕ → ℕ) (back : ℕ) → Below ir image l live Midway stack back below → (r : ℕ) × (back ≡ place r) × (r < 2 ^ 23)
  low_way [] stack back b = (0, b, omega arith)
  low_way (f ∷ fs) stack back b = (b.0.way, b.0.is, omega (arith, b.0.next, b.0.low))

  -- ---- the operation

  module _ (left : ℕ) (fr : IrFrame) (below : List IrFrame) (c : Control) (line : ℕ) (u : List ℕ) (h : Hart) (p : Privates)
      (homes : Homes l) (m : InFrame ir image l live Midway left fr below 0 c.text c.last h) (same : Private ir u p) (fine : Fine h p)
      (fewer : jumps_before ir fr.function fr.pc ≤ most_jumps) where
    abbrev at0 : ℕ
    at0 = l.at fr.function fr.pc

    abbrev sp : ℕ
    sp = under l below

    -- the slots of the result are live
    pub leave_does : (words : ℕ) → words ≤ l.slots fr.function → ((t : ℕ) → t < words → live fr.function fr.pc 0 t)
        → Stands image.code at0 (leave_code (l.home fr.function) (l.slots fr.function) words) → at0 + 4 < 2 ^ 23 → line_of image (place (at0 + 3)) ≡ line
        → Does ir image l live Midway left h p (step_op (op.Leave words) (here ir image l live Midway left fr below c line u h p))
    leave_does words fit lives has low line_is =
        let showing : List Instr = show (l.home fr.function) 0 words in
        let back_code : List Instr = frame_load 1 (l.slots fr.function) ++ Jalr 0 1 (pos 0) ∷ [] in
        let code = stands_back image.code at0 turn_code (showing ++ back_code) has in
        let r = low_way below h.stack (h.stack (sp + l.slots fr.function)) m.waiting in
        turn_then ir image l live Midway small left (left_behind c.text (first_slots words fr.slots) below) u h p line at0 (jumps_before ir fr.function fr.pc) m.here (omega (arith, low)) m.turns m.few m.some m.waits m.counted fewer same fine
        (stands_front image.code at0 turn_code (showing ++ back_code) has) line_is
        (λ left1 pc1 jumps1 work1 rs waits1 q at kept three counted some few done good.
        let h1 : Hart = record h { pc = pc1; registers = rs; waits = waits1; jumps = jumps1; work = work1 } in
        let two : rs 2 ≡ STACK_START + 4 * sp = kept 2 (omega arith) (omega arith) ∙ m.pointer in
        let s = shows image small (l.home fr.function) sp (l.slots fr.function) (λ t k e. homes.frame fr.function t k e) (λ t k e. homes.saved fr.function t k e) words 0 (at0 + 4) h1 q good at two
        (omega (arith, fit, m.room, m.inside)) (stands_front image.code (at0 + 4) showing back_code code) in
        let h2 : Hart = record h1 { pc = s.pc; registers = s.registers; stack = s.stack; work = s.work } in
        let way : s.stack (sp + l.slots fr.function) ≡ h.stack (sp + l.slots fr.function) = s.others (sp + l.slots fr.function) (inr (omega (arith, fit))) in
        let two2 : s.registers 2 ≡ STACK_START + 4 * sp = s.kept 2 (omega arith) ∙ two in
        let b = returns image small h2 q (at0 + 4 + length showing) sp (l.slots fr.function) r.0 (s.leads.fine good) s.there (record { pointer = two2; inside = omega (arith, m.room, m.inside) }) (way ∙ r.1) r.2
        (stands_back image.code (at0 + 4) showing back_code code) (omega (arith, counted, some)) in
        let h3 : Hart = record h2 { pc = place r.0; registers = b.registers; jumps = b.jumps; work = b.work } in
        let lower : (j : ℕ) → j < sp → s.stack j ≡ h.stack j = λ j a. s.others j (inl (omega (arith, a))) in
        let w = who_waits below c.text (first_slots words fr.slots) (h.stack (sp + l.slots fr.function)) left1 h3 q (below_same ir image l live Midway below (h.stack (sp + l.slots fr.function)) h.stack s.stack lower m.waiting) (sym r.1)
        (b.kept 2 (omega arith) (omega arith) (omega arith) ∙ two2) (omega (arith, m.inside))
        (b.kept 3 (omega arith) (omega arith) (omega arith) ∙ s.kept 3 (omega arith) ∙ three)
        (b.kept 4 (omega arith) (omega arith) (omega arith) ∙ s.kept 4 (omega arith) ∙ kept 4 (omega arith) (omega arith) ∙ m.globals) m.text_is done some few
        (results words fit lives rs s.stack kept (λ t less. s.words t (omega arith) (omega (arith, less))))
        (omega (arith, b.counted, counted)) in
        record {
          there = w.there;
          leads = then_leads image {i = h2} {j = w.there} s.leads (then_leads image {i = h3} {j = w.there} b.leads w.leads);
          match = w.match;
        }) left refl where
          results : (words : ℕ) → words ≤ l.slots fr.function → ((t : ℕ) → t < words → live fr.function fr.pc 0 t) → (rs stack : ℕ → ℕ) → ((n : ℕ) → n ≢ 3 → n ≢ 17 → rs n ≡ h.registers n)
              → ((t : ℕ) → t < words → stack (sp + t) ≡ value_at (l.home fr.function t) sp rs h.stack)
              → (t w : ℕ) → first_slots words fr.slots t ≡ Some w → (sp + t < 2 ^ 20) × (stack (sp + t) ≡ w)
          results words fit lives rs stack kept shown t w e = on (nat_lt t words) refl e where
            on : (b : Bool) → nat_lt t words ≡ b → (if b then fr.slots t else None) ≡ Some w → (sp + t < 2 ^ 20) × (stack (sp + t) ≡ w)
            on true q f =
                let less : t < words = grind (arith, nat_tests, q) in
                let old = m.holds t w (lives t less) f in (
                  omega (arith, old.0, m.room, m.inside),
                  shown t less ∙ home_kept (l.home fr.function t) sp h.registers rs h.stack (at_home ir image l live Midway m homes t old.0) (λ n k. kept n (λ z. absurd (omega (arith, k.0, z))) (λ z. absurd (omega (arith, k.0, z)))) ∙ old.1,
                )
            on false q f = absurd (cc)
