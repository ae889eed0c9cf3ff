-- Several slots got words, and the next operation follows.
use Rattle.std.proofs.Common.{◌≡◌, ◌≢◌, ℕ, ◌+◌, ◌*◌, ◌^◌, ◌<◌, ◌≤◌, List, [], ◌∷◌, ◌++◌, length, Some, refl, sym, ap, ◌∙◌, arith, subst, length-append, ◌⊎◌, inl, inr, ⊎_elim}
use Rattle.std.proofs.lemmas.Bool.{cases_lt}
use Rattle.rv_isa.specs.declared.image.Contents.{Contents}
use Rattle.rv_exec.specs.Hart.{Hart}
use Rattle.rv_exec.specs.Calls.{Privates}
use Rattle.al_ir.specs.declared.ir.Ir.{Ir}
use Rattle.al_ir.specs.Control.{Slots, put as put_slot, put_all, Frame as IrFrame, Control}
use Rattle.al_ir.specs.Step.{sets_all}
use Rattle.rv_code.specs.declared.home.Home.{Home}
use Rattle.rv_code.specs.declared.home.Home.TheVariants.{Frame}
use Rattle.rv_code.specs.Homes.{value_at, IsHome, Apart, leave}
use Rattle.rv_code.specs.Jumps.{place}
use Rattle.rv_code.specs.Runs.{Stands, Fine, Leads}
use Rattle.rv_code.proofs.Leading.{stands_front, stands_back, then_leads}
use Rattle.rv_code.proofs.Operands.{IsFixed, IsKept, home_kept}
use Rattle.rv_code.proofs.Pairs.{leaves}
use Rattle.rv_match.specs.Match.{Private, Holds, InFrame}
use Rattle.rv_match.specs.Places.{Places, Homes, under, jumps_before}
use Rattle.rv_match.proofs.Keeping.{slot_cases, not_slot, at_home, changed}
use Rattle.rv_match.proofs.Steps.{Does, here}
use Rattle.rv_pairs.specs.Several.{WritesEach}

module _ (ir : Ir) (image : Contents) (l : Places) (live : (f pc unit t : ℕ) → Type 0) (Midway : (f pc unit : ℕ) → Slots → (sp : ℕ) → Hart → Type 0)
    (left : ℕ) (fr : IrFrame) (below : List IrFrame) (c : Control) (line : ℕ) (u : List ℕ) (h : Hart) (p : Privates)
    (homes : Homes l) (small : length image.code ≤ 2 ^ 23) (m : InFrame ir image l live Midway left fr below 0 c.text c.last h) (same : Private ir u p) (fine : Fine h p) where
  abbrev sp : ℕ
  sp = under l below

  abbrev home : ℕ → Home
  home t = l.home fr.function t

  -- At the next operation, the slots from `to` on have these words. Below the frame and behind its slots the stack is as it was.
  pub record Settled (to : ℕ) (ws : List ℕ) : Type 0 where
    pub pc : ℕ
    pub registers : ℕ → ℕ
    pub stack : ℕ → ℕ
    pub jumps : ℕ
    pub work : ℕ
    pub leads : Leads image h p (record h { pc = pc; registers = registers; stack = stack; jumps = jumps; work = work }) p
    pub there : pc ≡ place (l.at fr.function (fr.pc + 1))
    pub fixed : (n : ℕ) → IsFixed n → registers n ≡ h.registers n
    pub below_it : (j : ℕ) → j < under l below → stack j ≡ h.stack j
    pub beyond : (k : ℕ) → l.slots fr.function ≤ k → under l below + k < 2 ^ 20 → stack (under l below + k) ≡ h.stack (under l below + k)
    pub holds : Holds ir image l live Midway fr.function (fr.pc + 1) 0 (put_all to ws fr.slots) (under l below) registers stack
    pub counted : jumps + jumps_before ir fr.function fr.pc ≤ h.jumps + jumps_before ir fr.function (fr.pc + 1)

  pub settled_does : (to : ℕ) (ws : List ℕ) → Settled to ws → Does ir image l live Midway left h p (sets_all to ws (here ir image l live Midway left fr below c line u h p))
  settled_does to ws s =
      let h1 : Hart = record h { pc = s.pc; registers = s.registers; stack = s.stack; jumps = s.jumps; work = s.work } in
      record {
        next = h1;
        privates = p;
        leads = s.leads;
        match = inl (changed ir image l live Midway m {left1 = left} {pc1 = fr.pc + 1} {unit1 = 0} {slots1 = put_all to ws fr.slots} {text1 = c.text} {last1 = c.last} {h1 = h1} (record {
          here = s.there;
          pointer = s.fixed 2 (omega arith, omega arith);
          globals = s.fixed 4 (omega arith, omega arith);
          turns = s.fixed 3 (omega arith, omega arith) ∙ m.turns;
          below_it = s.below_it;
          way = s.beyond (l.slots fr.function) (omega arith) (omega (arith, m.room, m.inside));
          holds = s.holds;
          above = λ t x q. let was = m.above t x q in (
            was.0,
            ap s.stack (omega arith) ∙ s.beyond (l.stack fr.function + t) (omega (arith, m.room)) (omega (arith, was.0)) ∙ ap h.stack (omega arith) ∙ was.1,
          );
          text_is = m.text_is;
          waits = m.waits;
          counted = omega (arith, s.counted, m.counted);
          some = m.some;
          few = m.few;
        }));
        same = same;
      }

  -- ---- words from registers 10 and 11

  -- at word number `end`, with scratch registers changed at most, and at most so many counted jumps made
  pub record Worked (end jumps_made : ℕ) : Type 0 where
    pub pc : ℕ
    pub registers : ℕ → ℕ
    pub jumps : ℕ
    pub work : ℕ
    pub leads : Leads image h p (record h { pc = pc; registers = registers; jumps = jumps; work = work }) p
    pub there : pc ≡ place end
    pub kept : (n : ℕ) → IsKept n → registers n ≡ h.registers n
    pub counted : jumps ≤ h.jumps + jumps_made

  module _ (to end jumps_made : ℕ) (k : Worked end jumps_made) (few : jumps_before ir fr.function fr.pc + jumps_made ≤ jumps_before ir fr.function (fr.pc + 1)) where
    abbrev worked : Hart
    worked = record h { pc = k.pc; registers = k.registers; jumps = k.jumps; work = k.work }

    -- a home's word is as it was
    still : (j : Home) → IsHome (under l below) j → value_at j (under l below) k.registers h.stack ≡ value_at j (under l below) h.registers h.stack
    still j is = home_kept j (under l below) h.registers k.registers h.stack is (λ n s. k.kept n (inr s))

    behind_slots : (i n : ℕ) → i < l.slots fr.function → l.slots fr.function ≤ n → Apart (home i) (Frame n)
    behind_slots i n less more = not_slot l homes fr.function i n less more

    -- the pair goes to two slots
    pub pair_settles : (low high : ℕ) → k.registers 10 ≡ low → k.registers 11 ≡ high → to + 1 < l.slots fr.function → WritesEach l live fr.function fr.pc to 2
        → Stands image.code end (leave (home to) 10 ++ leave (home (to + 1)) 11) → end + length (leave (home to) 10 ++ leave (home (to + 1)) 11) ≡ l.at fr.function (fr.pc + 1)
        → Settled to (low ∷ high ∷ [])
    pair_settles low high ten eleven lt writes has next =
        let first : List _ = leave (home to) 10 in
        let second : List _ = leave (home (to + 1)) 11 in
        let is0 = at_home ir image l live Midway m homes to (omega (arith, lt)) in
        let is1 = at_home ir image l live Midway m homes (to + 1) lt in
        let two : k.registers 2 ≡ _ = k.kept 2 (inl (omega arith, omega arith)) ∙ m.pointer in
        let x = leaves image small worked p end (under l below) (home to) 10 (k.leads.fine fine) k.there two is0 (omega arith) (omega arith) (stands_front image.code end first second has) in
        let h2 : Hart = record worked { pc = x.pc; registers = x.registers; stack = x.stack; work = x.work } in
        let l2 : Leads image h p h2 p = then_leads image {i = worked} {j = h2} k.leads x.leads in
        let y = leaves image small h2 p (end + length first) (under l below) (home (to + 1)) 11 (l2.fine fine) x.there (x.low 2 (omega arith) (omega arith) ∙ two) is1 (omega arith) (omega arith) (stands_back image.code end first second has) in
        let apart0 : (t : ℕ) → live fr.function (fr.pc + 1) 0 t → t ≢ to → Apart (home to) (home t) = λ t a other. first_apart writes t a other in
        let apart1 : (t : ℕ) → live fr.function (fr.pc + 1) 0 t → t ≢ to + 1 → Apart (home (to + 1)) (home t) = λ t a other. writes.apart 1 t (omega arith) a other in
        record {
          pc = y.pc;
          registers = y.registers;
          stack = y.stack;
          jumps = k.jumps;
          work = y.work;
          leads = then_leads image {i = h2} {j = record h2 { pc = y.pc; registers = y.registers; stack = y.stack; work = y.work }} l2 y.leads;
          there = y.there ∙ ap place (omega (arith, next, length-append first second));
          fixed = λ n f. y.low n (omega (arith, f.1)) (λ e. absurd (omega (arith, f.1, e))) ∙ x.low n (omega (arith, f.1)) (λ e. absurd (omega (arith, f.1, e))) ∙ k.kept n (inl f);
          below_it = λ j a. y.below j a ∙ x.below j a;
          beyond = λ n more inside. y.others (Frame n) inside (behind_slots (to + 1) n lt more) ∙ x.others (Frame n) inside (behind_slots to n (omega (arith, lt)) more);
          holds = λ t w a q. ⊎_elim
              (λ now. (subst (λ n. n < l.slots fr.function) (sym now.0) lt, ap (λ n. value_at (home n) (under l below) y.registers y.stack) now.0 ∙ y.holds ∙ x.low 11 (omega arith) (omega arith) ∙ eleven ∙ now.1))
              (λ before. ⊎_elim
              (λ now. (
                subst (λ n. n < l.slots fr.function) (sym now.0) (omega (arith, lt)),
                ap (λ n. value_at (home n) (under l below) y.registers y.stack) now.0
                    ∙ y.others (home to) is0 (writes.apart 1 to (omega arith) (subst (λ n. live fr.function (fr.pc + 1) 0 n) now.0 a) (omega arith)) ∙ x.holds ∙ ten ∙ now.1,
              ))
              (λ older. let was = m.holds t w (writes.lives t a (outside t older.0 before.0)) older.1 in (
                was.0,
                y.others (home t) (at_home ir image l live Midway m homes t was.0) (apart1 t a before.0)
                    ∙ x.others (home t) (at_home ir image l live Midway m homes t was.0) (apart0 t a older.0)
                    ∙ still (home t) (at_home ir image l live Midway m homes t was.0) ∙ was.1,
              ))
              (slot_cases fr.slots to low t w before.1))
              (slot_cases (put_slot to low fr.slots) (to + 1) high t w q);
          counted = omega (arith, k.counted, few);
        } where
          outside : (t : ℕ) → t ≢ to → t ≢ to + 1 → (t < to) ⊎ (to + 2 ≤ t)
          outside t a b = ⊎_elim (λ less. inl less) (λ more. inr (omega (arith, more, a, b))) (cases_lt t to)

          first_apart : WritesEach l live fr.function fr.pc to 2 → (t : ℕ) → live fr.function (fr.pc + 1) 0 t → t ≢ to → Apart (home to) (home t)
          first_apart writes t a other =
              let e : to + 0 ≡ to = omega arith in
              subst (λ i. Apart (home i) (home t)) e (writes.apart 0 t (omega arith) a (λ q. other (q ∙ e)))

    -- the word goes to one slot
    pub word_settles : (z : ℕ) → k.registers 10 ≡ z → to < l.slots fr.function → WritesEach l live fr.function fr.pc to 1
        → Stands image.code end (leave (home to) 10) → end + length (leave (home to) 10) ≡ l.at fr.function (fr.pc + 1) → Settled to (z ∷ [])
    word_settles z ten lt writes has next =
        let is = at_home ir image l live Midway m homes to lt in
        let two : k.registers 2 ≡ _ = k.kept 2 (inl (omega arith, omega arith)) ∙ m.pointer in
        let x = leaves image small worked p end (under l below) (home to) 10 (k.leads.fine fine) k.there two is (omega arith) (omega arith) has in
        record {
          pc = x.pc;
          registers = x.registers;
          stack = x.stack;
          jumps = k.jumps;
          work = x.work;
          leads = then_leads image {i = worked} {j = record worked { pc = x.pc; registers = x.registers; stack = x.stack; work = x.work }} k.leads x.leads;
          there = x.there ∙ ap place next;
          fixed = λ n f. x.low n (omega (arith, f.1)) (λ e. absurd (omega (arith, f.1, e))) ∙ k.kept n (inl f);
          below_it = λ j a. x.below j a;
          beyond = λ n more inside. x.others (Frame n) inside (behind_slots to n lt more);
          holds = λ t w a q. ⊎_elim
              (λ now. (subst (λ n. n < l.slots fr.function) (sym now.0) lt, ap (λ n. value_at (home n) (under l below) x.registers x.stack) now.0 ∙ x.holds ∙ ten ∙ now.1))
              (λ older. let was = m.holds t w (writes.lives t a (outside t older.0)) older.1 in (
                was.0,
                x.others (home t) (at_home ir image l live Midway m homes t was.0) (only_apart writes t a older.0) ∙ still (home t) (at_home ir image l live Midway m homes t was.0) ∙ was.1,
              ))
              (slot_cases fr.slots to z t w q);
          counted = omega (arith, k.counted, few);
        } where
          outside : (t : ℕ) → t ≢ to → (t < to) ⊎ (to + 1 ≤ t)
          outside t a = ⊎_elim (λ less. inl less) (λ more. inr (omega (arith, more, a))) (cases_lt t to)

          only_apart : WritesEach l live fr.function fr.pc to 1 → (t : ℕ) → live fr.function (fr.pc + 1) 0 t → t ≢ to → Apart (home to) (home t)
          only_apart writes t a other =
              let e : to + 0 ≡ to = omega arith in
              subst (λ i. Apart (home i) (home t)) e (writes.apart 0 t (omega arith) a (λ q. other (q ∙ e)))
