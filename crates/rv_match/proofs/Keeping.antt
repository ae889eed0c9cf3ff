-- What stays as it was where a function does an operation: the frames below it, and the homes that the operation does not write.
use Rattle.std.proofs.Common.{◌≡◌, ◌≢◌, ℕ, ◌+◌, ◌*◌, ◌^◌, ◌<◌, ◌≤◌, Bool, true, false, if◌then◌else◌, List, [], ◌∷◌, Some, refl, sym, ap, ◌∙◌, arith, subst, ◌⊎◌, inl, inr, ⊎_elim}
use Rattle.std.specs.Prelude.{nat_eq}
use Rattle.std.proofs.lemmas.Bool.Decides.{nat_tests}
use Rattle.rv_isa.specs.declared.image.Contents.{Contents}
use Rattle.rv_exec.specs.Hart.{Hart}
use Rattle.rv_exec.specs.declared.state.Waits.TheVariants.{Done}
use Rattle.al_ir.specs.declared.ir.Ir.{Ir}
use Rattle.al_ir.specs.Control.{Slots, put as put_slot, Frame as IrFrame}
use Rattle.rv_code.specs.declared.home.Home.{Home}
use Rattle.rv_code.specs.declared.home.Home.TheVariants.{Frame, Saved}
use Rattle.rv_code.specs.Homes.{value_at, IsHome, Apart}
use Rattle.rv_code.specs.Jumps.{place}
use Rattle.rv_code.proofs.Operands.{IsKept, home_kept, Written}
use Rattle.rv_match.specs.Places.{Places, Homes, under, jumps_before, full, wide}
use Rattle.rv_match.specs.Match.{IsText, Holds, Below, Reaches, InFrame}

pub slot_cases : (slots : Slots) (to v t w : ℕ) → put_slot to v slots t ≡ Some w → ((t ≡ to) × (v ≡ w)) ⊎ ((t ≢ to) × (slots t ≡ Some w))
slot_cases slots to v t w e = on (nat_eq t to) refl e where
  on : (b : Bool) → nat_eq t to ≡ b → (if b then Some v else slots t) ≡ Some w → ((t ≡ to) × (v ≡ w)) ⊎ ((t ≢ to) × (slots t ≡ Some w))
  on true q e = inl (grind (arith, nat_tests, q), cc)
  on false q e = inr (λ s. absurd (grind (arith, nat_tests, q, s)), e)

module _ (l : Places) (homes : Homes l) where
  home_is : (home : Home) (t size sp : ℕ) → ((k : ℕ) → home ≡ Frame k → k ≡ t) → ((r : ℕ) → home ≡ Saved r → (18 ≤ r) × (r < 28)) → t < size → sp + size ≤ 2 ^ 20 → IsHome sp home
  home_is (Frame k) t size sp a b less fits = omega (arith, a k refl, less, fits)
  home_is (Saved r) t size sp a b less fits = b r refl

  -- the home of a slot of a function, in a frame that begins at word sp
  pub is_home : (f t sp : ℕ) → t < l.slots f → l.slots f < l.stack f → sp + l.stack f ≤ 2 ^ 20 → IsHome sp (l.home f t)
  is_home f t sp less room inside = home_is (l.home f t) t (l.stack f) sp (λ k e. homes.frame f t k e) (λ r e. homes.saved f t r e) (omega (arith, less, room)) inside

  above_home : (home : Home) (t n : ℕ) → ((k : ℕ) → home ≡ Frame k → k ≡ t) → t < n → Apart home (Frame n)
  above_home (Frame k) t n a less = λ e. absurd (omega (arith, a k refl, less, e))
  above_home (Saved r) t n a less = tt

  -- a word of the stack behind the slots is apart from each slot's home
  pub not_slot : (f t n : ℕ) → t < l.slots f → l.slots f ≤ n → Apart (l.home f t) (Frame n)
  not_slot f t n less more = above_home (l.home f t) t n (λ k e. homes.frame f t k e) (omega (arith, less, more))

module _ (ir : Ir) (image : Contents) (l : Places) (live : (f pc unit t : ℕ) → Type 0) (Midway : (f pc unit : ℕ) → Slots → (sp : ℕ) → Hart → Type 0) where
  -- the frames that wait see nothing of what changes above them
  pub below_same : (fs : List IrFrame) (back : ℕ) (stack stack1 : ℕ → ℕ) → ((j : ℕ) → j < under l fs → stack1 j ≡ stack j)
      → Below ir image l live Midway stack back fs → Below ir image l live Midway stack1 back fs
  below_same [] back stack stack1 same b = b
  below_same (f ∷ fs) back stack stack1 same (r, b) =
      let again : (j : ℕ) → j < under l fs → stack1 j ≡ stack j = λ j less. same j (omega (arith, less)) in
      let way : stack1 (under l fs + l.slots f.function) ≡ stack (under l fs + l.slots f.function) = same (under l fs + l.slots f.function) (omega (arith, r.room)) in (
        record {
          way = r.way;
          is = r.is;
          down = r.down;
          next = r.next;
          low = r.low;
          room = r.room;
          words = λ t w a e. let q = r.words t w a e in (q.0, (q.1.0, same (under l fs + t) (omega (arith, q.0, r.room)) ∙ q.1.1));
        },
        subst (λ n. Below ir image l live Midway stack1 n fs) (sym way) (below_same fs (stack (under l fs + l.slots f.function)) stack stack1 again b),
      )

  module _ {left : ℕ} {fr : IrFrame} {below : List IrFrame} {unit : ℕ} {text : List ℕ} {last : Slots} {h : Hart} (m : InFrame ir image l live Midway left fr below unit text last h) where
    abbrev sp : ℕ
    sp = under l below

    -- Another hart stands for another operation and other slots of the function: below the frame, and in the word of the way
    -- back, the stack is the same.
    pub record Changed (left1 pc1 unit1 : ℕ) (slots1 : Slots) (text1 : List ℕ) (last1 : Slots) (h1 : Hart) : Type 0 where
      pub here : Reaches ir image l live Midway fr.function pc1 unit1 slots1 (under l below) h1
      pub pointer : h1.registers 2 ≡ h.registers 2
      pub globals : h1.registers 4 ≡ h.registers 4
      pub turns : h1.registers 3 ≡ left1
      pub below_it : (j : ℕ) → j < under l below → h1.stack j ≡ h.stack j
      pub way : h1.stack (under l below + l.slots fr.function) ≡ h.stack (under l below + l.slots fr.function)
      pub holds : Holds ir image l live Midway fr.function pc1 unit1 slots1 (under l below) h1.registers h1.stack
      pub above : (t w : ℕ) → last1 t ≡ Some w → (under l below + l.stack fr.function + t < 2 ^ 20) × (h1.stack (under l below + l.stack fr.function + t) ≡ w)
      pub text_is : IsText h1.text text1
      pub waits : h1.waits ≡ Done
      pub counted : h1.jumps + wide * left1 ≤ wide * full + jumps_before ir fr.function pc1 + 4
      pub some : 1 ≤ left1
      pub few : left1 ≤ full

    pub changed : {left1 pc1 unit1 : ℕ} {slots1 : Slots} {text1 : List ℕ} {last1 : Slots} {h1 : Hart} → Changed left1 pc1 unit1 slots1 text1 last1 h1
        → InFrame ir image l live Midway left1 (record fr { pc = pc1; slots = slots1 }) below unit1 text1 last1 h1
    changed {h1 = h1} c = record {
      here = c.here;
      pointer = c.pointer ∙ m.pointer;
      turns = c.turns;
      globals = c.globals ∙ m.globals;
      inside = m.inside;
      room = m.room;
      holds = c.holds;
      waiting = subst (λ n. Below ir image l live Midway h1.stack n below) (sym c.way)
          (below_same below (h.stack (under l below + l.slots fr.function)) h.stack h1.stack c.below_it m.waiting);
      above = c.above;
      text_is = c.text_is;
      waits = c.waits;
      counted = c.counted;
      some = c.some;
      few = c.few;
    }

    pub at_home : (homes : Homes l) (t : ℕ) → t < l.slots fr.function → IsHome (under l below) (l.home fr.function t)
    at_home homes t less = is_home l homes fr.function t (under l below) less m.room m.inside

    -- An operation wrote a slot. `g` is the hart but for pc, registers, stack and work; the operation began with these registers,
    -- which have the words of the slots.
    pub wrote_by : (homes : Homes l) (to v value end : ℕ) (g : Hart) (work1 left1 : ℕ) (text1 : List ℕ) (registers0 : ℕ → ℕ) → to < l.slots fr.function → value ≡ v
        → end ≡ l.at fr.function (fr.pc + 1)
        → ((t : ℕ) → live fr.function (fr.pc + 1) 0 t → t ≢ to → Apart (l.home fr.function to) (l.home fr.function t) × live fr.function fr.pc unit t)
        → ((n : ℕ) → n ≢ 3 → registers0 n ≡ h.registers n) → registers0 3 ≡ left1
        → IsText g.text text1 → g.waits ≡ Done → g.jumps + wide * left1 ≤ wide * full + jumps_before ir fr.function (fr.pc + 1) + 4 → 1 ≤ left1 → left1 ≤ full
        → (w : Written registers0 h.stack (under l below) end (l.home fr.function to) value)
        → InFrame ir image l live Midway left1 (record fr { pc = fr.pc + 1; slots = put_slot to v fr.slots }) below 0 text1 last
        (record g { pc = w.pc; registers = w.registers; stack = w.stack; work = work1 })
    wrote_by homes to v value end g work1 left1 text1 registers0 less e next apart same three text_is done counted some few w =
        let way : w.stack (under l below + l.slots fr.function) ≡ h.stack (under l below + l.slots fr.function) =
        w.others (Frame (l.slots fr.function)) (omega (arith, m.room, m.inside)) (not_slot l homes fr.function to (l.slots fr.function) less (omega arith)) in
        let old : (t : ℕ) → t < l.slots fr.function → value_at (l.home fr.function t) (under l below) registers0 h.stack ≡ value_at (l.home fr.function t) (under l below) h.registers h.stack =
        λ t lt. home_kept (l.home fr.function t) (under l below) h.registers registers0 h.stack (at_home homes t lt) (λ n k. same n (λ q. absurd (omega (arith, k.0, q)))) in
        changed {h1 = record g { pc = w.pc; registers = w.registers; stack = w.stack; work = work1 }} (record {
          here = w.there ∙ ap place next;
          pointer = w.fixed 2 (omega arith, omega arith) ∙ same 2 (omega arith);
          globals = w.fixed 4 (omega arith, omega arith) ∙ same 4 (omega arith);
          turns = w.fixed 3 (omega arith, omega arith) ∙ three;
          below_it = w.below;
          way = way;
          holds = λ t x a q. ⊎_elim
              (λ now. (subst (λ n. n < l.slots fr.function) (sym now.0) less, ap (λ n. value_at (l.home fr.function n) (under l below) w.registers w.stack) now.0 ∙ w.holds ∙ e ∙ now.1))
              (λ other. let p1 = apart t a other.0 in let was = m.holds t x p1.1 other.1 in
              (was.0, w.others (l.home fr.function t) (at_home homes t was.0) p1.0 ∙ old t was.0 ∙ was.1))
              (slot_cases fr.slots to v t x q);
          above = λ t x q. let was = m.above t x q in (
            was.0,
            ap w.stack (omega arith)
                ∙ w.others (Frame (l.stack fr.function + t)) (omega (arith, was.0)) (not_slot l homes fr.function to (l.stack fr.function + t) less (omega (arith, m.room)))
                ∙ ap h.stack (omega arith) ∙ was.1,
          );
          text_is = text_is;
          waits = done;
          counted = counted;
          some = some;
          few = few;
        })

    -- an operation without a turn or an action wrote a slot
    pub wrote : (homes : Homes l) (to v value end work1 : ℕ) → to < l.slots fr.function → value ≡ v → end ≡ l.at fr.function (fr.pc + 1)
        → ((t : ℕ) → live fr.function (fr.pc + 1) 0 t → t ≢ to → Apart (l.home fr.function to) (l.home fr.function t) × live fr.function fr.pc unit t)
        → jumps_before ir fr.function fr.pc ≤ jumps_before ir fr.function (fr.pc + 1)
        → (w : Written h.registers h.stack (under l below) end (l.home fr.function to) value)
        → InFrame ir image l live Midway left (record fr { pc = fr.pc + 1; slots = put_slot to v fr.slots }) below 0 text last
        (record h { pc = w.pc; registers = w.registers; stack = w.stack; work = work1 })
    wrote homes to v value end work1 less e next apart more w =
        wrote_by homes to v value end h work1 left text h.registers less e next apart (λ n k. refl) m.turns m.text_is m.waits (omega (arith, m.counted, more)) m.some m.few w

    -- The hart is at another operation, with no word moved.
    pub goes_to : (to left1 : ℕ) (text1 : List ℕ) (h1 : Hart) → h1.pc ≡ place (l.at fr.function to) → ((n : ℕ) → IsKept n → n ≢ 3 → h1.registers n ≡ h.registers n) → h1.registers 3 ≡ left1
        → ((j : ℕ) → h1.stack j ≡ h.stack j) → IsText h1.text text1 → h1.waits ≡ Done
        → h1.jumps + wide * left1 ≤ wide * full + jumps_before ir fr.function to + 4 → 1 ≤ left1 → left1 ≤ full
        → ((t : ℕ) → live fr.function to 0 t → live fr.function fr.pc unit t) → Homes l
        → InFrame ir image l live Midway left1 (record fr { pc = to }) below 0 text1 last h1
    goes_to to left1 text1 h1 here same three stacks texts done counted some few lives homes =
        changed {h1 = h1} (record {
          here = here;
          pointer = same 2 (inl (omega arith, omega arith)) (omega arith);
          globals = same 4 (inl (omega arith, omega arith)) (omega arith);
          turns = three;
          below_it = λ j a. stacks j;
          way = stacks (under l below + l.slots fr.function);
          holds = λ t w a e. let was = m.holds t w (lives t a) e in (
            was.0,
            stack_same (l.home fr.function t) (under l below) h1.registers h1.stack h.stack stacks
                ∙ home_kept (l.home fr.function t) (under l below) h.registers h1.registers h.stack (at_home homes t was.0) (λ n k. same n (inr k) (λ q. absurd (omega (arith, k.0, q)))) ∙ was.1,
          );
          above = λ t w e. let was = m.above t w e in (was.0, stacks (under l below + l.stack fr.function + t) ∙ was.1);
          text_is = texts;
          waits = done;
          counted = counted;
          some = some;
          few = few;
        }) where
          stack_same : (home : Home) (sp : ℕ) (registers stack stack1 : ℕ → ℕ) → ((j : ℕ) → stack j ≡ stack1 j) → value_at home sp registers stack ≡ value_at home sp registers stack1
          stack_same (Frame k) sp registers stack stack1 same = same (sp + k)
          stack_same (Saved r) sp registers stack stack1 same = refl
