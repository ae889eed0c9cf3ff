-- An operation that asks an action: the hart asks the same, and goes on with each answer.
use Rattle.std.proofs.Common.{◌≡◌, ◌≢◌, ℕ, ◌+◌, ◌%◌, ◌^◌, ◌<◌, ◌≤◌, List, [], ◌∷◌, length, None, refl, sym, ap, ◌∙◌, arith, subst, ◌⊎◌, inl, inr}
use Rattle.std.proofs.Math.Nat.{mod-lt}
use Rattle.std.proofs.lemmas.Bool.{cases_eq}
use Rattle.al_event.specs.declared.act.Act.{Act}
use Rattle.al_world.specs.Control.{fitted, cut}
use Rattle.rv_isa.specs.declared.image.Contents.{Contents}
use Rattle.rv_exec.specs.Hart.{Hart, put}
use Rattle.rv_exec.specs.Calls.{Privates}
use Rattle.rv_exec.specs.Machine.{asked, line_of, resumed}
use Rattle.rv_exec.specs.declared.state.Waits.TheVariants.{Done, Word as WordWaits}
use Rattle.al_ir.specs.declared.ir.Ir.{Ir}
use Rattle.al_ir.specs.Control.{Slots, Frame as IrFrame, Nowhere, Word, Control, put as put_slot}
use Rattle.al_ir.specs.Meaning.{resume}
use Rattle.al_ir.specs.Step.{Here, asks, control_at}
use Rattle.rv_code.specs.declared.home.Home.{Home}
use Rattle.rv_code.specs.declared.home.Home.TheVariants.{Frame, Saved}
use Rattle.rv_code.specs.Homes.{value_at, IsHome, leave}
use Rattle.rv_code.specs.Jumps.{place}
use Rattle.rv_code.specs.Runs.{Stands, Fine, Comes}
use Rattle.rv_code.proofs.Leading.{stays}
use Rattle.rv_code.proofs.Operands.{IsKept, not_kept, Written}
use Rattle.rv_code.proofs.Pairs.{leaves}
use Rattle.rv_code.proofs.Slots.{put_other}
use Rattle.rv_match.specs.Following.{Nears, Going}
use Rattle.rv_match.specs.Match.{IsText, Private, InFrame, Match}
use Rattle.rv_match.specs.Places.{Places, Homes, Writes, Passes, under, full}
use Rattle.rv_match.proofs.Keeping.{goes_to, at_home, wrote_by}
use Rattle.rv_match.proofs.Steps.{Does, here}

-- the one word of an answer
pub one_word : (m : ℕ) (words : List ℕ) → 1 ≤ m → (v : ℕ) × (cut 1 m words ≡ v ∷ []) × (v < m)
one_word m [] some = (0, refl, omega (arith, some))
one_word m (w ∷ ws) some = (w % m, refl, mod-lt w some)

module _ (ir : Ir) (image : Contents) (l : Places) (live : (f pc unit t : ℕ) → Type 0) (Midway : (f pc unit : ℕ) → Slots → (sp : ℕ) → Hart → Type 0)
    (left : ℕ) (fr : IrFrame) (below : List IrFrame) (c : Control) (line : ℕ) (u : List ℕ) (h : Hart) (p : Privates)
    (homes : Homes l) (small : length image.code ≤ 2 ^ 23) (m : InFrame ir image l live Midway left fr below 0 c.text c.last h) (same : Private ir u p) where
  abbrev at_hand : Here
  at_hand = here ir image l live Midway left fr below c line u h p

  -- the hart that asks stands at word `end`, with scratch registers changed at most
  pub record Waits (w : Hart) (end : ℕ) (text1 : List ℕ) : Type 0 where
    pub there : w.pc ≡ place end
    pub low : end < 2 ^ 23
    pub line_is : line_of image (place end) ≡ line
    pub kept : (n : ℕ) → IsKept n → w.registers n ≡ h.registers n
    pub stacks : (j : ℕ) → w.stack j ≡ h.stack j
    pub text_is : IsText w.text text1

  abbrev answered : (w : Hart) → (registers : ℕ → ℕ) → Hart
  answered w registers = record w { pc = w.pc + 4; registers = put registers 3 4096; waits = Done; jumps = 0; work = 0 }

  -- an action whose answer has no words
  pub silent_does : (act : Act) (w : Hart) (end : ℕ) (text1 : List ℕ) → ((words : List ℕ) → fitted act words ≡ []) → Comes image h p (asked image act (record w { waits = Done }) p)
      → Waits w end text1 → end + 1 ≡ l.at fr.function (fr.pc + 1) → Passes live fr.function fr.pc (fr.pc + 1)
      → Does ir image l live Midway left h p (asks act Nowhere (record at_hand { text = text1 }))
  silent_does act w end text1 none comes is next passes = λ real. record {
    waiting = record w { waits = Done };
    privates = p;
    comes = comes;
    line_is = ap (line_of image) is.there ∙ is.line_is;
    waits = λ going words. subst (λ ws. Going image resume (Private ir) (Match ir image l live Midway) full (resume behind ws) (resumed (record w { waits = Done; jumps = 0; work = 0 }) ws)) (sym (none words))
        (record {
          near = omega (arith, is.there, is.low);
          jumps = refl;
          work = refl;
          comes = λ q good. record {
            there = answered w w.registers;
            leads = stays image;
            match = inl (goes_to ir image l live Midway m (fr.pc + 1) full text1 (answered w w.registers) (omega (arith, is.there, next))
                (λ n k other. put_other w.registers 3 4096 n other ∙ is.kept n k) refl is.stacks is.text_is refl (omega arith) (omega arith) (omega arith) passes homes);
          };
        });
    same = same;
  } where
    behind : Control
    behind = control_at (fr.pc + 1) Nowhere (record at_hand { text = text1 })

  -- An action whose answer has one word, which comes in register 10 and then to the home of a slot.
  pub word_does : (act : Act) (w : Hart) (end to bound : ℕ) → ((words : List ℕ) → fitted act words ≡ cut 1 bound words) → 1 ≤ bound → bound ≤ 2 ^ 32
      → Comes image h p (asked image act (record w { waits = WordWaits }) p) → Waits w end c.text → to < l.slots fr.function
      → Stands image.code (end + 1) (leave (l.home fr.function to) 10) → end + 1 + length (leave (l.home fr.function to) 10) ≡ l.at fr.function (fr.pc + 1) → end + 1 < 2 ^ 23
      → Writes l live fr.function fr.pc to
      → Does ir image l live Midway left h p (asks act (Word to) at_hand)
  word_does act w end to bound fits some few comes is lt code next low apart = λ real. record {
    waiting = record w { waits = WordWaits };
    privates = p;
    comes = comes;
    line_is = ap (line_of image) is.there ∙ is.line_is;
    waits = λ going words.
        let v = one_word bound words some in
        subst (λ ws. Going image resume (Private ir) (Match ir image l live Midway) full (resume (control_at (fr.pc + 1) (Word to) at_hand) ws) (resumed (record w { waits = WordWaits; jumps = 0; work = 0 }) ws)) (sym (fits words ∙ v.1))
        (record {
          near = omega (arith, is.there, is.low);
          jumps = refl;
          work = refl;
          comes = λ q good. put_away v.0 q good;
        });
    same = same;
  } where
    put_away : (v : ℕ) (q : Privates) → Fine (answered w (put w.registers 10 v)) q
        → Nears image resume (Private ir) (Match ir image l live Midway) full
        (record { entering = None; into = Nowhere; unit = 0; text = c.text; last = c.last; frames = record fr { pc = fr.pc + 1; slots = put_slot to v fr.slots } ∷ below }) (answered w (put w.registers 10 v)) q
    put_away v q good =
        let h1 : Hart = answered w (put w.registers 10 v) in
        let base : ℕ → ℕ = put h.registers 3 4096 in
        let kept1 : (n : ℕ) → IsKept n → h1.registers n ≡ base n = kept_so v in
        let is_to : IsHome (under l below) (l.home fr.function to) = at_home ir image l live Midway m homes to lt in
        let s = leaves image small h1 q (end + 1) (under l below) (l.home fr.function to) 10 good (omega (arith, is.there))
        (kept1 2 (inl (omega arith, omega arith)) ∙ m.pointer) is_to (omega arith) (omega arith) code in
        let written : Written base h.stack (under l below) (end + 1 + length (leave (l.home fr.function to) 10)) (l.home fr.function to) v = record {
          pc = s.pc;
          registers = s.registers;
          stack = s.stack;
          work = s.work;
          there = s.there;
          holds = s.holds;
          fixed = λ n f. s.low n (omega (arith, f.1)) (λ e. absurd (omega (arith, f.1, e))) ∙ kept1 n (inl f);
          others = λ k a b. s.others k a b ∙ same_value k a h1.registers base kept1;
          below = λ j a. s.below j a ∙ is.stacks j;
        } in
        record {
          there = record h1 { pc = s.pc; registers = s.registers; stack = s.stack; work = s.work };
          leads = s.leads;
          match = inl (wrote_by ir image l live Midway m homes to v v (end + 1 + length (leave (l.home fr.function to) 10)) h1 s.work full c.text base lt refl next apart
              (λ n other. put_other h.registers 3 4096 n other) refl is.text_is refl (omega arith) (omega arith) (omega arith) written);
        } where
          kept_so : (v n : ℕ) → IsKept n → put (put w.registers 10 v) 3 4096 n ≡ put h.registers 3 4096 n
          kept_so v n k = on (cases_eq n 3) where
            on : (n ≡ 3) ⊎ (n ≢ 3) → put (put w.registers 10 v) 3 4096 n ≡ put h.registers 3 4096 n
            on (inl e) = rw e refl
            on (inr other) = put_other (put w.registers 10 v) 3 4096 n other ∙ put_other w.registers 10 v n (not_kept 10 n (omega arith, omega arith) k) ∙ is.kept n k ∙ sym (put_other h.registers 3 4096 n other)

          same_value : (k : Home) → IsHome (under l below) k → (r r1 : ℕ → ℕ) → ((n : ℕ) → IsKept n → r n ≡ r1 n) → value_at k (under l below) r w.stack ≡ value_at k (under l below) r1 h.stack
          same_value (Frame t) a r r1 regs = is.stacks (under l below + t)
          same_value (Saved t) a r r1 regs = regs t (inr a)
