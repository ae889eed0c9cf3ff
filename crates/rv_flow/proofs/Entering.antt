-- A function is entered: the stack is tested, the arguments are passed, and its frame stands above that of the caller.
use Rattle.std.proofs.Common.{◌≡◌, ◌≢◌, ℕ, ◌+◌, ◌*◌, ◌^◌, ◌<◌, ◌≤◌, Bool, true, false, nat_lt, if◌then◌else◌, List, [], ◌∷◌, ◌++◌, length, Some, None, refl, sym, ap, ◌∙◌, arith, subst, length-append, inl}
use Rattle.std.specs.Prelude.{sum_by, fold}
use Rattle.std.proofs.lemmas.Bool.Decides.{nat_tests}
use Rattle.al_base.specs.declared.trap.Trap.TheVariants as trap
use Rattle.al_event.specs.declared.act.Act.TheVariants as act
use Rattle.al_world.specs.Turns.{Moves, Asks}
use Rattle.rv_isa.specs.declared.addresses.TheConstants.{STACK_START, GLOBALS_START}
use Rattle.rv_isa.specs.declared.image.Contents.{Contents}
use Rattle.rv_isa.specs.declared.instr.Instr.{Instr}
use Rattle.rv_exec.specs.Hart.{Hart, put}
use Rattle.rv_exec.specs.Calls.{Privates}
use Rattle.rv_exec.specs.Machine.{line_of}
use Rattle.rv_exec.specs.declared.state.Waits.TheVariants.{Done}
use Rattle.al_ir.specs.declared.ir.Ir.{Ir}
use Rattle.al_ir.specs.Control.{Slots, no_slots, slots_from, first_slots, Frame as IrFrame, Entering, Nowhere, Control, function_at, stack_of, arguments_of, begun, line_of as line_of_function}
use Rattle.al_ir.specs.Meaning.{resume}
use Rattle.al_ir.specs.Step.{frame_stack, enters}
use Rattle.rv_code.specs.declared.home.Home.{Home}
use Rattle.rv_code.specs.declared.home.Home.TheVariants.{Frame, Saved}
use Rattle.rv_code.specs.Homes.{value_at, IsHome, frame_store}
use Rattle.rv_code.specs.Jumps.{place, link_code}
use Rattle.rv_code.specs.Pieces.{up_code, down_code}
use Rattle.rv_code.specs.Runs.{Stands, Fine, Leads}
use Rattle.rv_code.proofs.Frames.{goes_up, links}
use Rattle.rv_code.proofs.Leading.{stands_front, stands_back, then_leads}
use Rattle.rv_code.proofs.Slots.{put_same, put_other, frame_stores}
use Rattle.rv_form.specs.Flow.{stack_test, pass, take_arguments}
use Rattle.rv_match.specs.Following.{Follows, GoesOn}
use Rattle.rv_match.specs.Match.{IsText, Private, Rests, Below, Plain}
use Rattle.rv_match.specs.Places.{Places, Homes, under, full, wide}
use Rattle.rv_match.proofs.Keeping.{below_same, is_home}
use Rattle.rv_flow.specs.Functions.{Begins}
use Rattle.rv_flow.proofs.Passing.{AreSafe, passes, takes}
use Rattle.rv_flow.proofs.Testing.{tested, test_passes, test_fails}

sum_from : {X : Type 0} (f : X → ℕ) (a : ℕ) (xs : List X) → fold (λ n x. n + f x) a xs ≡ a + fold (λ n x. n + f x) 0 xs
sum_from f a [] = omega arith
sum_from f a (x ∷ xs) = omega (arith, sum_from f (a + f x) xs, sum_from f (0 + f x) xs)

pub sum_more : {X : Type 0} (f : X → ℕ) (x : X) (xs : List X) → sum_by f (x ∷ xs) ≡ f x + sum_by f xs
sum_more f x xs = omega (arith, sum_from f (0 + f x) xs)

less_is : (a b : ℕ) → nat_lt a b ≡ true → a < b
less_is a b e = grind (arith, nat_tests, e)

not_less_is : (a b : ℕ) → nat_lt a b ≡ false → b ≤ a
not_less_is a b e = grind (arith, nat_tests, e)

-- ---- a function begins

module _ (ir : Ir) (image : Contents) (l : Places) (live : (f pc unit t : ℕ) → Type 0) (small : length image.code ≤ 2 ^ 23) (homes : Homes l)
    (g entry sp : ℕ) (b : Begins ir image l live g entry) (h : Hart) (p : Privates) where
  -- the way back stands behind the slots, and the arguments at their homes
  pub record Opened : Type 0 where
    pub pc : ℕ
    pub registers : ℕ → ℕ
    pub stack : ℕ → ℕ
    pub work : ℕ
    pub leads : Leads image h p (record h { pc = pc; registers = registers; stack = stack; work = work }) p
    pub there : pc ≡ place (l.at g 0)
    pub fixed : (n : ℕ) → 2 ≤ n → n ≤ 4 → registers n ≡ h.registers n
    pub way : stack (sp + l.slots g) ≡ h.registers 1
    pub others : (j : ℕ) → j ≢ sp + l.slots g → stack j ≡ h.stack j
    pub arguments : (t : ℕ) → t < arguments_of (function_at ir g) → live g 0 0 t → value_at (l.home g t) sp registers stack ≡ h.stack (sp + t)

  pub opens : Fine h p → h.pc ≡ place entry → h.registers 2 ≡ STACK_START + 4 * sp → sp + l.stack g ≤ 2 ^ 20 → Opened
  opens fine here pointer fits =
      let count : ℕ = arguments_of (function_at ir g) in
      let opening : List Instr = frame_store 1 (l.slots g) in
      let taking : List Instr = take_arguments (l.home g) 0 count in
      let s = frame_stores image small h p fine entry sp (l.slots g) here (record { pointer = pointer; inside = omega (arith, fits, b.slots) }) 1 (omega arith) (omega arith)
      (stands_front image.code entry opening taking b.start) in
      let cell : ℕ = sp + l.slots g in
      let h1 : Hart = record h { pc = s.pc; registers = s.registers; stack = put h.stack cell (h.registers 1); work = s.work } in
      let v = takes image small (l.home g) sp (live g 0 0) (λ t n e. homes.frame g t n e) (λ t r e. homes.saved g t r e) count b.apart count 0 (entry + length opening) h1 p (s.leads.fine fine) s.there
      (s.kept 2 (omega arith) ∙ pointer) (omega (arith, fits, b.arguments, b.slots)) (omega arith) (stands_back image.code entry opening taking b.start) in
      record {
        pc = v.pc;
        registers = v.registers;
        stack = put h.stack cell (h.registers 1);
        work = v.work;
        leads = then_leads image {i = h1} {j = record h { pc = v.pc; registers = v.registers; stack = put h.stack cell (h.registers 1); work = v.work }} s.leads v.leads;
        there = v.there ∙ ap place (omega (arith, b.first, length-append opening taking));
        fixed = λ n q r. v.kept n (λ e. absurd (omega (arith, r, e))) (λ e. absurd (omega (arith, r, e.0))) ∙ s.kept n (λ e. absurd (omega (arith, r, e)));
        way = put_same h.stack cell (h.registers 1);
        others = λ j a. put_other h.stack cell (h.registers 1) j a;
        arguments = λ t less need. v.homes t (omega (arith, less)) need (λ none. absurd (omega (arith, none)))
            ∙ put_other h.stack cell (h.registers 1) (sp + t) (λ z. absurd (omega (arith, z, less, b.arguments)));
      }

-- ---- a call

module _ (ir : Ir) (image : Contents) (l : Places) (live : (f pc unit t : ℕ) → Type 0) (Midway : (f pc unit : ℕ) → Slots → (sp : ℕ) → Hart → Type 0)
    (small : length image.code ≤ 2 ^ 23) (homes : Homes l) (stacks : (f : ℕ) → stack_of (function_at ir f) ≡ l.stack f) where
  -- the frames take all words below
  pub sum_is : (fs : List IrFrame) → sum_by (frame_stack ir) fs ≡ under l fs
  sum_is [] = refl
  sum_is (f ∷ fs) = omega (arith, sum_more (frame_stack ir) f fs, sum_is fs, stacks f.function)

  module _ (left at from g entry : ℕ) (fr : IrFrame) (slots : Slots) (below : List IrFrame) (text : List ℕ) (u : List ℕ) (h : Hart) (p : Privates) (fine : Fine h p)
      (here : h.pc ≡ place at) (pointer : h.registers 2 ≡ STACK_START + 4 * under l below) (turns : h.registers 3 ≡ left) (globals : h.registers 4 ≡ GLOBALS_START)
      (text_is : IsText h.text text) (waits : h.waits ≡ Done) (counted : h.jumps + wide * left ≤ wide * full) (some : 1 ≤ left) (few : left ≤ full)
      (same : Private ir u p) (b : Begins ir image l live g entry)
      (arguments : (i w : ℕ) → i < arguments_of (function_at ir g) → slots (from + i) ≡ Some w → value_at (l.home fr.function (from + i)) (under l below) h.registers h.stack ≡ w)
      (inside : (i : ℕ) → i < arguments_of (function_at ir g) → from + i < l.slots fr.function)
      (rests : Rests ir image l live Midway fr (under l below) h.stack) (waiting : Below ir image l live Midway h.stack (h.stack (under l below + l.slots fr.function)) below)
      (room : under l below + l.stack fr.function ≤ 2 ^ 20) (slots_f : l.slots fr.function < l.stack fr.function) (stack_f : l.stack fr.function ≤ 16384)
      (has : Stands image.code at (stack_test (l.stack fr.function) (l.stack g) entry
      ++ (pass (l.home fr.function) from (l.stack fr.function) (arguments_of (function_at ir g)) ++ (up_code (l.stack fr.function) ++ (link_code entry ++ down_code (l.stack fr.function))))))
      (behind : at + 5 + length (pass (l.home fr.function) from (l.stack fr.function) (arguments_of (function_at ir g))) + 8 ≡ l.at fr.function fr.pc) (low : l.at fr.function fr.pc < 2 ^ 23) where
    abbrev size : ℕ
    size = l.stack fr.function

    abbrev sp : ℕ
    sp = under l below

    abbrev count : ℕ
    count = arguments_of (function_at ir g)

    abbrev passing : List Instr
    passing = pass (l.home fr.function) from size count

    abbrev entering : Entering
    entering = record { function = g; arguments = slots_from from slots }

    abbrev control : Control
    control = record { entering = Some entering; into = Nowhere; unit = 0; text = text; last = no_slots; frames = fr ∷ below }

    abbrev entered : Control
    entered = record { entering = None; into = Nowhere; unit = 0; text = text; last = no_slots; frames = begun ir g (slots_from from slots) ∷ fr ∷ below }

    abbrev tail3 : List Instr
    tail3 = link_code entry ++ down_code size

    abbrev tail2 : List Instr
    tail2 = up_code size ++ tail3

    has_test : Stands image.code at (stack_test size (l.stack g) entry)
    has_test = stands_front image.code at (stack_test size (l.stack g) entry) (passing ++ tail2) has

    code1 : Stands image.code (at + 5) (passing ++ tail2)
    code1 = stands_back image.code at (stack_test size (l.stack g) entry) (passing ++ tail2) has

    code2 : Stands image.code (at + 5 + length passing) tail2
    code2 = stands_back image.code (at + 5) passing tail2 code1

    code3 : Stands image.code (at + 5 + length passing + 3) tail3
    code3 = stands_back image.code (at + 5 + length passing) (up_code size) tail3 code2

    code4 : Stands image.code (at + 5 + length passing + 3 + 2) (down_code size)
    code4 = stands_back image.code (at + 5 + length passing + 3) (link_code entry) (down_code size) code3

    home_in : (i : ℕ) → i < count → IsHome sp (l.home fr.function (from + i))
    home_in i less = is_home l homes fr.function (from + i) sp (inside i less) slots_f room

    safe : AreSafe image small (l.home fr.function) sp from size count
    safe i j k a d e f = absurd (omega (arith, homes.frame fr.function (from + j) k e, inside j d, slots_f, f))

    -- the test of the stack changes no home
    not_five : (k : Home) → IsHome sp k → (r stack : ℕ → ℕ) (n m : ℕ) → value_at k sp (put (put r 5 n) 5 m) stack ≡ value_at k sp r stack
    not_five (Frame k) a r stack n m = refl
    not_five (Saved k) a r stack n m = put_other (put r 5 n) 5 m k (λ e. absurd (omega (arith, a.0, e))) ∙ put_other r 5 n k (λ e. absurd (omega (arith, a.0, e)))

    -- at the function's first word, with the arguments in the words of its frame
    record Called : Type 0 where
      registers : ℕ → ℕ
      stack : ℕ → ℕ
      jumps : ℕ
      work : ℕ
      leads : Leads image h p (record h { pc = place entry; registers = registers; stack = stack; jumps = jumps; work = work }) p
      way : registers 1 ≡ place (at + 5 + length passing + 3 + 2)
      up_there : registers 2 ≡ STACK_START + 4 * (size + sp)
      fixed : (n : ℕ) → 3 ≤ n → n ≤ 4 → registers n ≡ h.registers n
      words : (i : ℕ) → i < count → stack (size + sp + i) ≡ value_at (l.home fr.function (from + i)) sp h.registers h.stack
      below_it : (j : ℕ) → j < sp + size → stack j ≡ h.stack j
      more : jumps ≤ h.jumps + 1

    -- the arguments are passed
    record Passing : Type 0 where
      pc : ℕ
      registers : ℕ → ℕ
      stack : ℕ → ℕ
      work : ℕ
      leads : Leads image h p (record h { pc = pc; registers = registers; stack = stack; work = work }) p
      there : pc ≡ place (at + 5 + length passing)
      kept : (n : ℕ) → 2 ≤ n → n ≤ 4 → registers n ≡ h.registers n
      words : (i : ℕ) → i < count → stack (sp + size + i) ≡ value_at (l.home fr.function (from + i)) sp h.registers h.stack
      below_it : (j : ℕ) → j < sp + size → stack j ≡ h.stack j

    passed : sp + size + l.stack g ≤ 2 ^ 20 → Passing
    passed fits =
        let few_words : size + l.stack g ≤ 2 ^ 16 = omega (arith, stack_f, b.stack) in
        let low4 : at + 4 < 2 ^ 23 = omega (arith, behind, low) in
        let t = test_passes image small h p at size (l.stack g) entry sp here low4 pointer few_words has_test fits in
        let rs : ℕ → ℕ = tested image small h p at size (l.stack g) entry sp here low4 pointer few_words has_test in
        let h1 : Hart = record h { pc = h.pc + 4 + 4 + 12; registers = rs; work = h.work + 1 + 1 + 1 } in
        let a = passes image small (l.home fr.function) sp count from size (at + 5) h1 p (t.fine fine) (omega (arith, here)) pointer (omega (arith, fits, b.arguments, b.slots))
        home_in safe (stands_front image.code (at + 5) passing tail2 code1) in
        record {
          pc = a.pc;
          registers = a.registers;
          stack = a.stack;
          work = a.work;
          leads = then_leads image {i = h1} {j = record h { pc = a.pc; registers = a.registers; stack = a.stack; work = a.work }} t a.leads;
          there = a.there;
          kept = λ n q r. a.kept n (λ e. absurd (omega (arith, r, e))) (λ e. absurd (omega (arith, r, e))) ∙ fives n r h.registers _ _;
          words = λ i less. a.words i less ∙ not_five (l.home fr.function (from + i)) (home_in i less) h.registers h.stack _ _;
          below_it = λ j q. a.others j (inl (omega (arith, q)));
        } where
          fives : (n : ℕ) → n ≤ 4 → (r : ℕ → ℕ) (x y : ℕ) → put (put r 5 x) 5 y n ≡ r n
          fives n r rs x y = put_other (put rs 5 x) 5 y n (λ e. absurd (omega (arith, r, e))) ∙ put_other rs 5 x n (λ e. absurd (omega (arith, r, e)))

    called : sp + size + l.stack g ≤ 2 ^ 20 → Called
    called fits =
        let a = passed fits in
        let h2 : Hart = record h { pc = a.pc; registers = a.registers; stack = a.stack; work = a.work } in
        let pointer2 : a.registers 2 ≡ STACK_START + 4 * sp = a.kept 2 (omega arith) (omega arith) ∙ pointer in
        let up = goes_up image small h2 p (at + 5 + length passing) size a.there (omega (arith, stack_f)) sp pointer2 (omega (arith, fits)) (stands_front image.code (at + 5 + length passing) (up_code size) tail3 code2) in
        let h3 : Hart = record h2 { pc = up.pc; registers = up.registers; work = up.work } in
        let k = links image small h3 p (at + 5 + length passing + 3) entry up.there (omega (arith, behind, low)) b.low (omega (arith, counted, some))
        (stands_front image.code (at + 5 + length passing + 3) (link_code entry) (down_code size) code3) in
        let h4 : Hart = record h { pc = place entry; registers = k.registers; stack = a.stack; jumps = k.jumps; work = k.work } in
        record {
          registers = k.registers;
          stack = a.stack;
          jumps = k.jumps;
          work = k.work;
          leads = then_leads image {i = h2} {j = h4} a.leads (then_leads image {i = h3} {j = h4} up.leads k.leads);
          way = k.way;
          up_there = k.kept 2 (omega arith) (omega arith) ∙ up.pointer ∙ omega arith;
          fixed = λ n q r. k.kept n (λ e. absurd (omega (arith, q, e))) (λ e. absurd (omega (arith, r, e))) ∙ up.kept n (λ e. absurd (omega (arith, q, e))) (λ e. absurd (omega (arith, r, e)))
              ∙ a.kept n (omega (arith, q)) r;
          words = λ i less. ap a.stack (omega arith) ∙ a.words i less;
          below_it = a.below_it;
          more = k.counted;
        }

    -- there is room
    goes_in : sp + size + l.stack g ≤ 2 ^ 20 → GoesOn image resume (Private ir) (Plain ir image l live Midway) left h p entered u
    goes_in fits =
        let k = called fits in
        let h4 : Hart = record h { pc = place entry; registers = k.registers; stack = k.stack; jumps = k.jumps; work = k.work } in
        let o = opens ir image l live small homes g entry (size + sp) b h4 p (k.leads.fine fine) refl k.up_there (omega (arith, fits)) in
        let h6 : Hart = record h { pc = o.pc; registers = o.registers; stack = o.stack; jumps = k.jumps; work = o.work } in
        let below_it : (j : ℕ) → j < sp + size → o.stack j ≡ h.stack j = λ j q. o.others j (λ e. absurd (omega (arith, q, e))) ∙ k.below_it j q in
        record {
          next = h6;
          privates = p;
          leads = then_leads image {i = h4} {j = h6} k.leads o.leads;
          match = record {
            here = o.there;
            pointer = o.fixed 2 (omega arith) (omega arith) ∙ k.up_there;
            turns = o.fixed 3 (omega arith) (omega arith) ∙ k.fixed 3 (omega arith) (omega arith) ∙ turns;
            globals = o.fixed 4 (omega arith) (omega arith) ∙ k.fixed 4 (omega arith) (omega arith) ∙ globals;
            inside = omega (arith, fits);
            room = b.slots;
            holds = λ t w q e. holds_new o.stack o.registers (λ i less need. o.arguments i less need ∙ k.words i less) t w q e;
            waiting = (
              record {
                way = at + 5 + length passing + 3 + 2;
                is = o.way ∙ k.way;
                down = code4;
                next = omega (arith, behind);
                low = low;
                room = slots_f;
                words = λ t w q e. let old = rests t w q e in (old.0, (old.1.0, below_it (sp + t) (omega (arith, old.0, slots_f)) ∙ old.1.1));
              },
              subst (λ n. Below ir image l live Midway o.stack n below) (sym (below_it (sp + l.slots fr.function) (omega (arith, slots_f))))
                  (below_same ir image l live Midway below (h.stack (sp + l.slots fr.function)) h.stack o.stack (λ j q. below_it j (omega (arith, q))) waiting),
            );
            above = λ t w e. absurd (cc);
            text_is = text_is;
            waits = waits;
            counted = omega (arith, k.more, counted);
            some = some;
            few = few;
          };
          same = same;
        } where
          -- the arguments stand at their homes in the new frame
          holds_new : (stack1 r1 : ℕ → ℕ) → ((t : ℕ) → t < count → live g 0 0 t → value_at (l.home g t) (size + sp) r1 stack1 ≡ value_at (l.home fr.function (from + t)) sp h.registers h.stack)
              → (t w : ℕ) → live g 0 0 t → first_slots count (slots_from from slots) t ≡ Some w → (t < l.slots g) × (value_at (l.home g t) (size + sp) r1 stack1 ≡ w)
          holds_new stack1 r1 came t w need e = on (nat_lt t count) refl e where
            on : (d : Bool) → nat_lt t count ≡ d → (if d then slots (from + t) else None) ≡ Some w → (t < l.slots g) × (value_at (l.home g t) (size + sp) r1 stack1 ≡ w)
            on true q f =
                let less : t < count = less_is t count q in (
                  omega (arith, less, b.arguments),
                  came t less need ∙ arguments t w less f,
                )
            on false q f = absurd (cc)

    -- the stack is tested, and the function begins
    pub enters_does : Follows image resume (Private ir) (Plain ir image l live Midway) full left h p (enters ir control entering u)
    enters_does = on (nat_lt (2 ^ 20) (sum_by (frame_stack ir) (fr ∷ below) + stack_of (function_at ir g))) refl where
      sum : sum_by (frame_stack ir) (fr ∷ below) ≡ sp + size
      sum = omega (arith, sum_is (fr ∷ below))

      on : (d : Bool) → nat_lt (2 ^ 20) (sum_by (frame_stack ir) (fr ∷ below) + stack_of (function_at ir g)) ≡ d
          → Follows image resume (Private ir) (Plain ir image l live Midway) full left h p
          (if d then Asks (act.Trap trap.Stack) (line_of_function (function_at ir g)) control u else Moves entered u)
      on true e = λ real.
          let w = test_fails image small h p at size (l.stack g) entry sp here (omega (arith, behind, low)) pointer (omega (arith, stack_f, b.stack)) has_test
          (omega (arith, less_is _ _ e, sum, b.stack_is)) b.behind b.low (omega (arith, counted, some)) b.stub in
          record {
            waiting = w.0;
            privates = p;
            comes = w.1;
            line_is = ap (line_of image) w.2 ∙ b.stub_line;
            waits = λ going words. absurd (cc);
            same = same;
          }
      on false e = goes_in (omega (arith, not_less_is _ _ e, sum, b.stack_is))
