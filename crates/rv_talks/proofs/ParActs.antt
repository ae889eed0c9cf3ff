-- Harts follow par: the records of its branches stand in the frame, and their slots are forgotten.
use Rattle.std.proofs.Common.{◌≡◌, ◌≢◌, ℕ, zero, suc, ◌+◌, ◌*◌, ◌^◌, ◌<◌, ◌≤◌, Bool, true, false, ◌&&◌, nat_le, nat_lt, if◌then◌else◌, List, [], ◌++◌, length, map, Option, Some, None, refl, sym, ap, ap₂, ◌∙◌, arith, subst, length-append, ◌⊎◌, inl, inr, ⊎_elim}
use Rattle.std.specs.Prelude.{All, option_map, option_and_then}
use Rattle.std.proofs.lemmas.Bool.Decides.{nat_tests}
use Rattle.al_event.specs.declared.act.Act.{Act}
use Rattle.al_event.specs.declared.act.Act.TheVariants as act
use Rattle.al_event.specs.declared.act.Start.{Start}
use Rattle.al_world.specs.Control.{fitted}
use Rattle.al_ir.specs.declared.ir.Ir.{Ir}
use Rattle.al_ir.specs.declared.op.Op.TheVariants as op
use Rattle.al_ir.specs.Control.{Slots, forget, Frame as IrFrame, Nowhere, Control, words_at}
use Rattle.al_ir.specs.Meaning.{resume}
use Rattle.al_ir.specs.Step.{Here, step_op, asks, forgetting, control_at}
use Rattle.rv_isa.specs.declared.addresses.TheConstants.{STACK_START}
use Rattle.rv_isa.specs.declared.image.Contents.{Contents}
use Rattle.rv_isa.specs.declared.instr.Instr.{Instr}
use Rattle.rv_exec.specs.Hart.{Hart, put}
use Rattle.rv_exec.specs.Windows.{words_from, stack_place}
use Rattle.rv_exec.specs.Calls.{Privates, asks_if_any, starts_from, records_at, par_act, has_function}
use Rattle.rv_exec.specs.Machine.{asked, line_of, resumed}
use Rattle.rv_exec.specs.declared.state.Waits.TheVariants.{Done}
use Rattle.rv_code.specs.declared.home.Home.{Home}
use Rattle.rv_code.specs.declared.home.Home.TheVariants.{Frame, Saved}
use Rattle.rv_code.specs.Homes.{value_at, IsHome}
use Rattle.rv_code.specs.Jumps.{place}
use Rattle.rv_code.specs.Pieces.{number_code, call_code}
use Rattle.rv_code.specs.Runs.{Stands, Fine, Comes}
use Rattle.rv_code.proofs.Leading.{stands_front, stands_back, stays, then_leads, then_comes}
use Rattle.rv_code.proofs.Numbers.{numbers}
use Rattle.rv_code.proofs.Operands.{IsKept, not_kept, not_eight}
use Rattle.rv_code.proofs.Slots.{put_other}
use Rattle.rv_form.specs.Acts.{start_records, par_code}
use Rattle.rv_form.specs.Units.{frame_address}
use Rattle.rv_match.specs.Following.{Going}
use Rattle.rv_match.specs.Match.{Private, InFrame, Match}
use Rattle.rv_match.specs.Places.{Places, Homes, under, full}
use Rattle.rv_match.proofs.Keeping.{at_home, changed}
use Rattle.rv_match.proofs.Steps.{Does, here, words_do}
use Rattle.rv_acts.proofs.Calling.{call_asks}
use Rattle.rv_units.proofs.Addresses.{addresses}
use Rattle.rv_talks.proofs.Pars.{start_words, start_count, records_stored, starts_are}
use Rattle.rv_talks.proofs.Records.{with_words, with_outside, with_inside, behind_it}
use Rattle.rv_talks.proofs.Words.{place_is, words_are}

-- a slot that is not forgotten
pub forget_cases : (t n : ℕ) (slots : Slots) (s w : ℕ) → forget t n slots s ≡ Some w → ((s < t) ⊎ (t + n ≤ s)) × (slots s ≡ Some w)
forget_cases t n slots s w e = on (nat_le t s) (nat_lt s (t + n)) refl refl e where
  on : (b d : Bool) → nat_le t s ≡ b → nat_lt s (t + n) ≡ d → (if b && d then None else slots s) ≡ Some w → ((s < t) ⊎ (t + n ≤ s)) × (slots s ≡ Some w)
  on true true p q f = absurd (cc)
  on true false p q f = (inr (grind (arith, nat_tests, q)), f)
  on false d p q f = (inl (grind (arith, nat_tests, p)), f)

-- records have a place
pub records_place : (each first n : ℕ) → 1 ≤ each → 1 ≤ n → n ≤ 64 → first + each * n ≤ 2 ^ 20 → records_at each (STACK_START + 4 * first) n ≡ Some first
records_place each first n some_each some few room =
    let a : nat_le 1 n ≡ true = grind (arith, nat_tests, some) in
    let b : nat_le n 64 ≡ true = grind (arith, nat_tests, few) in
    ap₂ (λ (x y : Bool). if x && y then stack_place (STACK_START + 4 * first) (each * n) else None) a b ∙ placed (each * n) (at_least each n some_each some) room where
      at_least : (i j : ℕ) → 1 ≤ i → 1 ≤ j → 1 ≤ i * j
      at_least zero j p q = absurd (omega (arith, p))
      at_least (suc i) zero p q = absurd (omega (arith, q))
      at_least (suc i) (suc j) p q = omega arith

      placed : (m : ℕ) → 1 ≤ m → first + m ≤ 2 ^ 20 → stack_place (STACK_START + 4 * first) m ≡ Some first
      placed zero p q = absurd (omega (arith, p))
      placed (suc m) p q = place_is first m q

module _ (ir : Ir) (image : Contents) (l : Places) (live : (f pc unit t : ℕ) → Type 0) (Midway : (f pc unit : ℕ) → Slots → (sp : ℕ) → Hart → Type 0)
    (left : ℕ) (fr : IrFrame) (below : List IrFrame) (c : Control) (line : ℕ) (u : List ℕ) (h : Hart) (p : Privates)
    (homes : Homes l) (small : length image.code ≤ 2 ^ 23) (m : InFrame ir image l live Midway left fr below 0 c.text c.last h) (same : Private ir u p) (fine : Fine h p)
    (low : l.at fr.function (fr.pc + 1) < 2 ^ 23) (line_is : (j : ℕ) → l.at fr.function fr.pc ≤ j → j < l.at fr.function (fr.pc + 1) → line_of image (place j) ≡ line) where
  abbrev at0 : ℕ
  at0 = l.at fr.function fr.pc

  abbrev sp : ℕ
  sp = under l below

  abbrev at_hand : Here
  at_hand = here ir image l live Midway left fr below c line u h p

  -- an action without an answer, behind which so many slots are forgotten, whose words have changed
  module _ (records n : ℕ) (slots_of : records + n ≤ l.slots fr.function) (after : (t : ℕ) → live fr.function (fr.pc + 1) 0 t → ((records ≤ t) × (t < records + n)) ⊎ live fr.function fr.pc 0 t) where
    pub record Leaves (w : Hart) (end : ℕ) : Type 0 where
      pub there : w.pc ≡ place end
      pub spot : (at0 ≤ end) × (end + 1 ≡ l.at fr.function (fr.pc + 1))
      pub kept : (i : ℕ) → IsKept i → w.registers i ≡ h.registers i
      pub stacks : (j : ℕ) → (j < sp + records) ⊎ (sp + records + n ≤ j) → w.stack j ≡ h.stack j
      pub text_is : w.text ≡ c.text

    abbrev answered : Hart → Hart
    answered w = record w { pc = w.pc + 4; registers = put w.registers 3 4096; waits = Done; jumps = 0; work = 0 }

    pub forgets_does : (a : Act) (w : Hart) (end : ℕ) → ((words : List ℕ) → fitted a words ≡ []) → Comes image h p (asked image a (record w { waits = Done }) p) → Leaves w end
        → Does ir image l live Midway left h p (asks a Nowhere (forgetting records n at_hand))
    forgets_does a w end none comes is = λ real. record {
      waiting = record w { waits = Done };
      privates = p;
      comes = comes;
      line_is = ap (line_of image) is.there ∙ line_is end is.spot.0 (omega (arith, is.spot.1));
      waits = λ going words. subst (λ ws. Going image resume (Private ir) (Match ir image l live Midway) full (resume behind ws) (resumed (record w { waits = Done; jumps = 0; work = 0 }) ws)) (sym (none words))
          (record {
            near = omega (arith, is.there, is.spot.1, low);
            jumps = refl;
            work = refl;
            comes = λ q good. record {
              there = answered w;
              leads = stays image;
              match = inl (changed ir image l live Midway m {left1 = full} {pc1 = fr.pc + 1} {unit1 = 0} {slots1 = forget records n fr.slots} {text1 = c.text} {last1 = c.last} {h1 = answered w} (record {
                here = omega (arith, is.there, is.spot.1);
                pointer = kept 2 (inl (omega arith, omega arith)) (omega arith);
                globals = kept 4 (inl (omega arith, omega arith)) (omega arith);
                turns = refl;
                below_it = λ j lower. is.stacks j (inl (omega (arith, lower)));
                way = is.stacks (sp + l.slots fr.function) (inr (omega (arith, slots_of)));
                holds = λ t x need e. holds_on t x need (forget_cases records n fr.slots t x e);
                above = λ t x e. let was = m.above t x e in (was.0, is.stacks (sp + l.stack fr.function + t) (inr (omega (arith, slots_of, m.room))) ∙ was.1);
                text_is = (is.text_is, m.text_is.1);
                waits = refl;
                counted = omega arith;
                some = omega arith;
                few = omega arith;
              }));
            };
          });
      same = same;
    } where
      behind : Control
      behind = control_at (fr.pc + 1) Nowhere (forgetting records n at_hand)

      kept : (i : ℕ) → IsKept i → i ≢ 3 → put w.registers 3 4096 i ≡ h.registers i
      kept i k other = put_other w.registers 3 4096 i other ∙ is.kept i k

      still : (t : ℕ) → (t < records) ⊎ (records + n ≤ t) → (k : Home) → ((j : ℕ) → k ≡ Frame j → j ≡ t) → IsHome sp k → value_at k sp (put w.registers 3 4096) w.stack ≡ value_at k sp h.registers h.stack
      still t out (Frame j) own is_k = is.stacks (sp + j) (further out) where
        further : (t < records) ⊎ (records + n ≤ t) → (sp + j < sp + records) ⊎ (sp + records + n ≤ sp + j)
        further (inl q) = inl (omega (arith, q, own j refl))
        further (inr q) = inr (omega (arith, q, own j refl))
      still t out (Saved r) own is_k = kept r (inr is_k) (λ e. absurd (omega (arith, is_k.0, e)))

      holds_on : (t x : ℕ) → live fr.function (fr.pc + 1) 0 t → ((t < records) ⊎ (records + n ≤ t)) × (fr.slots t ≡ Some x)
          → (t < l.slots fr.function) × (value_at (l.home fr.function t) sp (put w.registers 3 4096) w.stack ≡ x)
      holds_on t x need q = ⊎_elim (λ inside. absurd (not_both t inside q.0))
          (λ old. let was = m.holds t x old q.1 in (was.0, still t q.0 (l.home fr.function t) (λ j e. homes.frame fr.function t j e) (at_home ir image l live Midway m homes t was.0) ∙ was.1)) (after t need) where
            not_both : (t : ℕ) → (records ≤ t) × (t < records + n) → (t < records) ⊎ (records + n ≤ t) → ⊥
            not_both t a (inl b) = absurd (omega (arith, a.0, b))
            not_both t a (inr b) = absurd (omega (arith, a.1, b))

  -- ---- par

  module _ (functions : List ℕ) (arguments words records : ℕ) (some : 1 ≤ length functions) (most : length functions ≤ 64) (fits : All (λ f. f < 2 ^ 32) functions) (known : All (λ f. has_function image f words ≡ true) functions)
      (slots : arguments + words ≤ l.slots fr.function) (slots_of : records + 3 * length functions ≤ l.slots fr.function) (apart : (arguments + words ≤ records) ⊎ (records + 3 * length functions ≤ arguments))
      (lives : (i : ℕ) → i < words → live fr.function fr.pc 0 (arguments + i)) (in_frame : (i : ℕ) → i < words → l.home fr.function (arguments + i) ≡ Frame (arguments + i))
      (after : (t : ℕ) → live fr.function (fr.pc + 1) 0 t → ((records ≤ t) × (t < records + 3 * length functions)) ⊎ live fr.function fr.pc 0 t)
      (has : Stands image.code at0 (par_code functions arguments words records)) (next : at0 + length (par_code functions arguments words records) ≡ l.at fr.function (fr.pc + 1)) where
    abbrev count : ℕ
    count = length functions

    abbrev recs : List ℕ
    recs = start_words (STACK_START + 4 * (sp + arguments)) words functions

    abbrev stack1 : ℕ → ℕ
    stack1 = with_words h.stack (sp + records) recs

    abbrev storing : List Instr
    storing = start_records arguments words functions records

    abbrev two : List Instr
    two = frame_address 10 records

    abbrev three : List Instr
    three = number_code 11 count

    abbrev at1 : ℕ
    at1 = at0 + length (start_records arguments words functions records)

    abbrev at3 : ℕ
    at3 = at1 + length (frame_address 10 records) + length (number_code 11 count)

    lengths : at3 + 2 ≡ l.at fr.function (fr.pc + 1)
    lengths = omega (arith, next, length-append storing (two ++ (three ++ call_code 13)), length-append two (three ++ call_code 13), length-append three (call_code 13))

    outside : (j : ℕ) → (j < sp + records) ⊎ (sp + records + 3 * count ≤ j) → stack1 j ≡ h.stack j
    outside j out = with_outside recs h.stack (sp + records) j (as_counted out) where
      as_counted : (j < sp + records) ⊎ (sp + records + 3 * count ≤ j) → (j < sp + records) ⊎ (sp + records + length recs ≤ j)
      as_counted (inl q) = inl q
      as_counted (inr q) = inr (omega (arith, q, start_count (STACK_START + 4 * (sp + arguments)) words functions))

    words_stand : (ws : List ℕ) → words_at fr.slots arguments words ≡ Some ws → words_from stack1 (sp + arguments) words ≡ ws
    words_stand ws e = words_are words fr.slots arguments (sp + arguments) stack1 ws e (λ i w less q.
        let was = m.holds (arguments + i) w (lives i less) q in
        let cell : sp + arguments + i ≡ sp + (arguments + i) = omega arith in
        outside (sp + arguments + i) (apart_from i less apart) ∙ ap h.stack cell ∙ ap (λ k. value_at k sp h.registers h.stack) (sym (in_frame i less)) ∙ was.1) where
          apart_from : (i : ℕ) → i < words → (arguments + words ≤ records) ⊎ (records + 3 * count ≤ arguments) → (sp + arguments + i < sp + records) ⊎ (sp + records + 3 * count ≤ sp + arguments + i)
          apart_from i less (inl q) = inl (omega (arith, q, less))
          apart_from i less (inr q) = inr (omega (arith, q))

    starts_all : (ws : List ℕ) → words_at fr.slots arguments words ≡ Some ws
        → Does ir image l live Midway left h p (asks (act.Par (map (λ f. record { code = f; words = ws }) functions)) Nowhere (forgetting records (3 * count) at_hand))
    starts_all ws e =
        let a = records_stored image small sp arguments words (omega (arith, slots, m.room, m.inside)) (omega (arith, slots, m.room, m.inside)) functions records at0 h p fine fits m.here m.pointer (omega (arith, slots_of, m.room, m.inside))
        (stands_front image.code at0 storing (two ++ (three ++ call_code 13)) has) in
        let h1 : Hart = behind_it image small h p at1 stack1 a in
        let code1 = stands_back image.code at0 storing (two ++ (three ++ call_code 13)) has in
        let code2 = stands_back image.code at1 two (three ++ call_code 13) code1 in
        let g = addresses image small h1 p at1 sp records 10 a.there (a.kept 2 (omega arith) (omega arith) ∙ m.pointer) (omega (arith, slots_of, m.room, m.inside)) (omega arith) (omega arith)
        (stands_front image.code at1 two (three ++ call_code 13) code1) in
        let h2 : Hart = record h1 { pc = g.pc; registers = g.registers; work = g.work } in
        let g1 = numbers image small h2 p (at1 + length two) 11 count g.there (omega arith) (omega (arith, most)) (stands_front image.code (at1 + length two) three (call_code 13) code2) in
        let h3 : Hart = record h1 { pc = g1.pc; registers = g1.registers; work = g1.work } in
        let calling : Hart = record h1 { pc = g1.pc + 4; registers = put g1.registers 17 13; work = g1.work + 1 + 1 } in
        let x10 : g1.registers 10 ≡ STACK_START + 4 * (sp + records) = g1.kept 10 (omega arith) (omega arith) ∙ g.holds in
        let acts : List Start = map (λ f. record { code = f; words = ws }) functions in
        let said : par_act image calling ≡ Some (act.Par acts) =
        ap₂ (λ (x y : ℕ). option_map (λ starts. act.Par starts) (option_and_then (λ first. starts_from image calling first y) (records_at 3 x y))) x10 g1.holds
        ∙ ap (λ (o : Option ℕ). option_map (λ starts. act.Par starts) (option_and_then (λ first. starts_from image calling first count) o)) (records_place 3 (sp + records) count (omega arith) some most (omega (arith, slots_of, m.room, m.inside)))
        ∙ ap (λ (o : Option (List Start)). option_map (λ starts. act.Par starts) o)
        (starts_are image small sp arguments words (omega (arith, slots, m.room, m.inside)) (omega (arith, slots, m.room, m.inside)) calling ws functions (sp + records) (with_inside recs h.stack (sp + records)) (omega (arith, slots, m.room, m.inside)) (words_stand ws e) known) in
        forgets_does records (3 * count) slots_of after (act.Par acts) calling (at3 + 1) (λ answer. refl)
        (then_comes image {i = h3} (then_leads image {i = h1} {j = h3} a.leads (then_leads image {i = h2} {j = h3} g.leads g1.leads))
        (call_asks image small h3 p at3 13 g1.there refl (stands_back image.code (at1 + length two) three (call_code 13) code2) (act.Par acts) (record calling { waits = Done })
        (ap (λ (o : Option Act). asks_if_any Done o calling p) said)))
        (record {
          there = omega (arith, g1.there);
          spot = (omega arith, omega (arith, lengths));
          kept = λ i k. put_other g1.registers 17 13 i (not_kept 17 i (omega arith, omega arith) k) ∙ g1.kept i (not_kept 11 i (omega arith, omega arith) k) (not_eight i k)
              ∙ g.kept i (not_kept 10 i (omega arith, omega arith) k) (not_eight i k) ∙ a.kept i (not_eight i k) (not_kept 10 i (omega arith, omega arith) k);
          stacks = λ j out. outside j out;
          text_is = m.text_is.0;
        })

    pub par_does : Does ir image l live Midway left h p (step_op (op.Par functions arguments words records) at_hand)
    par_does = words_do ir image l live Midway left fr below c line u h p arguments words _ (λ ws e. starts_all ws e)
