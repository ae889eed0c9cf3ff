-- Harts follow the making of blocks and channels.
use Rattle.std.proofs.Common.{◌≡◌, ℕ, ◌+◌, ◌*◌, ◌^◌, ◌<◌, ◌≤◌, ◌==◌, Bool, true, false, ◌&&◌, nat_le, nat_lt, if◌then◌else◌, pos, List, [], ◌∷◌, ◌++◌, length, Option, Some, None, option_map, refl, ap, ap₂, ◌∙◌, arith, subst, length-append}
use Rattle.std.proofs.lemmas.Bool.Decides.{nat_tests}
use Rattle.al_event.specs.declared.act.Act.{Act}
use Rattle.al_event.specs.declared.act.Act.TheVariants as act
use Rattle.al_event.specs.declared.act.Block.{Block}
use Rattle.al_event.specs.declared.act.Block.TheVariants as block
use Rattle.al_world.specs.Control.{fitted, cut}
use Rattle.rv_isa.specs.declared.image.Contents.{Contents}
use Rattle.rv_isa.specs.declared.instr.Instr.{Instr}
use Rattle.rv_isa.specs.declared.instr.Instr.TheVariants.{Store}
use Rattle.rv_isa.specs.declared.instr.StoreOp.TheVariants.{Sw}
use Rattle.rv_exec.specs.Hart.{Hart, put, register}
use Rattle.rv_exec.specs.Words.{word, sum_of}
use Rattle.rv_exec.specs.Calls.{Privates, Asks, asks_if_any, block_of, alloc_act, channel_act, called}
use Rattle.rv_exec.specs.Machine.{line_of}
use Rattle.rv_exec.specs.declared.state.Waits.TheVariants.{Word as WordWaits}
use Rattle.al_ir.specs.Bounds.{IsMade}
use Rattle.al_ir.specs.declared.ir.Ir.{Ir}
use Rattle.al_ir.specs.declared.op.Op.TheVariants as op
use Rattle.al_ir.specs.Control.{Slots, Word, Frame as IrFrame, Control}
use Rattle.al_ir.specs.Step.{Here, step_op, asks}
use Rattle.rv_code.specs.declared.home.Home.{Home}
use Rattle.rv_code.specs.declared.home.Home.TheVariants.{Frame, Saved}
use Rattle.rv_code.specs.Homes.{low_part, coming_near, leave}
use Rattle.rv_code.specs.Jumps.{place}
use Rattle.rv_code.specs.Pieces.{number_code, call_code}
use Rattle.rv_code.specs.Runs.{Stands, Fine}
use Rattle.rv_code.proofs.Leading.{stands_front, stands_back, then_leads, then_comes}
use Rattle.rv_code.proofs.Numbers.{numbers}
use Rattle.rv_code.proofs.Operands.{not_eight, not_kept}
use Rattle.rv_code.proofs.Slots.{put_other}
use Rattle.rv_form.specs.Acts.{block_number, alloc_code, new_chan_code}
use Rattle.rv_match.specs.Match.{Private, InFrame}
use Rattle.rv_match.specs.Places.{Places, Homes, Writes}
use Rattle.rv_match.proofs.Steps.{Does, here}
use Rattle.rv_acts.proofs.Asking.{word_does}
use Rattle.rv_acts.proofs.Calling.{call_asks}

module _ (ir : Ir) (image : Contents) (l : Places) (live : (f pc unit t : ℕ) → Type 0) (Midway : (f pc unit : ℕ) → Slots → (sp : ℕ) → Hart → Type 0)
    (left : ℕ) (fr : IrFrame) (below : List IrFrame) (c : Control) (line : ℕ) (u : List ℕ) (h : Hart) (p : Privates)
    (homes : Homes l) (small : length image.code ≤ 2 ^ 23) (m : InFrame ir image l live Midway left fr below 0 c.text c.last h) (same : Private ir u p) (fine : Fine h p)
    (low : l.at fr.function (fr.pc + 1) < 2 ^ 23) (line_is : (j : ℕ) → l.at fr.function fr.pc ≤ j → j < l.at fr.function (fr.pc + 1) → line_of image (place j) ≡ line)
    (to : ℕ) (lt : to < l.slots fr.function) (apart : Writes l live fr.function fr.pc to) where
  abbrev at_hand : Here
  at_hand = here ir image l live Midway left fr below c line u h p

  abbrev at0 : ℕ
  at0 = l.at fr.function fr.pc

  abbrev leaving : List Instr
  leaving = leave (l.home fr.function to) 10

  some_leave : (k : Home) → 0 < length (leave k 10)
  some_leave (Frame k) = on (nat_lt k 512) where
    on : (b : Bool) → 0 < length (if b then Store Sw 2 10 (pos (4 * k)) ∷ [] else coming_near k (Store Sw 8 10 (low_part (4 * k))))
    on true = omega arith
    on false = omega arith
  some_leave (Saved r) = omega arith

  -- two numbers in registers, and a runtime call whose answer is a word
  module _ (x y number : ℕ) (fx : x < 2 ^ 32) (fy : y < 2 ^ 32) (few : sum_of 0 (word (pos number)) ≡ number) (a : Act) (fits : (words : List ℕ) → fitted a words ≡ cut 1 (2 ^ 32) words)
      (asks_it : (h1 : Hart) → register h1 10 ≡ x → register h1 11 ≡ y → called number image h1 p ≡ Asks a (record h1 { waits = WordWaits }) p) where
    numbers_do : Stands image.code at0 (number_code 10 x ++ (number_code 11 y ++ (call_code number ++ leaving)))
        → at0 + length (number_code 10 x ++ (number_code 11 y ++ (call_code number ++ leaving))) ≡ l.at fr.function (fr.pc + 1) → Does ir image l live Midway left h p (asks a (Word to) at_hand)
    numbers_do has next =
        let one : List Instr = number_code 10 x in
        let two : List Instr = number_code 11 y in
        let call : List Instr = call_code number in
        let at1 : ℕ = at0 + length one in
        let at2 : ℕ = at1 + length two in
        let code1 = stands_back image.code at0 one (two ++ (call ++ leaving)) has in
        let code2 = stands_back image.code at1 two (call ++ leaving) code1 in
        let code3 = stands_back image.code at2 call leaving code2 in
        let g = numbers image small h p at0 10 x m.here (omega arith) fx (stands_front image.code at0 one (two ++ (call ++ leaving)) has) in
        let h1 : Hart = record h { pc = g.pc; registers = g.registers; work = g.work } in
        let g1 = numbers image small h1 p at1 11 y g.there (omega arith) fy (stands_front image.code at1 two (call ++ leaving) code1) in
        let h2 : Hart = record h { pc = g1.pc; registers = g1.registers; work = g1.work } in
        let w : Hart = record h { pc = g1.pc + 4; registers = put g1.registers 17 number; work = g1.work + 1 + 1 } in
        let ends : at2 + 2 + length leaving ≡ l.at fr.function (fr.pc + 1) = omega (arith, next, length-append one (two ++ (call ++ leaving)), length-append two (call ++ leaving), length-append call leaving) in
        let behind : at2 + 2 ≡ at2 + 1 + 1 = omega arith in
        let some : 0 < length leaving = some_leave (l.home fr.function to) in
        word_does ir image l live Midway left fr below c line u h p homes small m same a w (at2 + 1) to (2 ^ 32) fits (omega arith) (omega arith)
        (then_comes image {i = h2} (then_leads image {i = h1} {j = h2} g.leads g1.leads)
        (call_asks image small h2 p at2 number g1.there few (stands_front image.code at2 call leaving code2) a (record w { waits = WordWaits })
        (asks_it w (g1.kept 10 (omega arith) (omega arith) ∙ g.holds) g1.holds)))
        (record {
          there = omega (arith, g1.there);
          low = omega (arith, ends, low);
          line_is = line_is (at2 + 1) (omega arith) (omega (arith, ends, some));
          kept = λ n k. put_other g1.registers 17 number n (not_kept 17 n (omega arith, omega arith) k) ∙ g1.kept n (not_kept 11 n (omega arith, omega arith) k) (not_eight n k) ∙ g.kept n (not_kept 10 n (omega arith, omega arith) k) (not_eight n k);
          stacks = λ j. refl;
          text_is = m.text_is;
        }) lt (subst (λ n. Stands image.code n leaving) behind code3) (omega (arith, ends)) (omega (arith, ends, low)) apart

  off : (n : ℕ) → 1 ≤ n → (n == 0) ≡ false
  off n some = grind (arith, nat_tests, some)

  within : (a b : ℕ) → a ≤ b → nat_le a b ≡ true
  within a b le = grind (arith, nat_tests, le)

  allocs : (bytes : ℕ) (kind : Block) → 1 ≤ bytes → IsMade kind → (h1 : Hart) → register h1 10 ≡ bytes → register h1 11 ≡ block_number kind
      → called 4 image h1 p ≡ Asks (act.Alloc bytes kind) (record h1 { waits = WordWaits }) p
  allocs bytes kind some made h1 ex ey =
      ap₂ (λ (x y : ℕ). asks_if_any WordWaits (alloc_act x y) h1 p) ex ey
      ∙ ap (λ (b : Bool). asks_if_any WordWaits (if b then None else option_map (λ block. act.Alloc bytes block) (block_of (block_number kind))) h1 p) (off bytes some)
      ∙ ap (λ (o : Option Block). asks_if_any WordWaits (option_map (λ block. act.Alloc bytes block) o) h1 p) (numbered kind made) where
        numbered : (kind : Block) → IsMade kind → block_of (block_number kind) ≡ Some kind
        numbered block.Heap made = refl
        numbered block.Frame made = refl
        numbered block.Global made = absurd made

  pub alloc_does : (bytes : ℕ) (kind : Block) → IsMade kind → 1 ≤ bytes → bytes ≤ 2 ^ 28 → Stands image.code at0 (alloc_code (l.home fr.function to) bytes kind)
      → at0 + length (alloc_code (l.home fr.function to) bytes kind) ≡ l.at fr.function (fr.pc + 1)
      → Does ir image l live Midway left h p (step_op (op.Alloc to bytes kind) at_hand)
  alloc_does bytes kind made some few has next =
      numbers_do bytes (block_number kind) 4 (omega (arith, few)) (small_number kind) refl (act.Alloc bytes kind) (λ words. refl) (allocs bytes kind some made) has next where
        small_number : (kind : Block) → block_number kind < 2 ^ 32
        small_number block.Heap = omega arith
        small_number block.Frame = omega arith
        small_number block.Global = omega arith

  channels : (capacity words : ℕ) → capacity ≤ 4096 → words ≤ 1024 → (h1 : Hart) → register h1 10 ≡ capacity → register h1 11 ≡ words
      → called 6 image h1 p ≡ Asks (act.NewChan capacity words) (record h1 { waits = WordWaits }) p
  channels capacity words a b h1 ex ey =
      ap₂ (λ (x y : ℕ). asks_if_any WordWaits (channel_act x y) h1 p) ex ey
      ∙ ap₂ (λ (d e : Bool). asks_if_any WordWaits (if d && e then Some (act.NewChan capacity words) else None) h1 p) (within capacity 4096 a) (within words 1024 b)

  pub new_chan_does : (capacity words : ℕ) → capacity ≤ 4096 → words ≤ 1024 → Stands image.code at0 (new_chan_code (l.home fr.function to) capacity words)
      → at0 + length (new_chan_code (l.home fr.function to) capacity words) ≡ l.at fr.function (fr.pc + 1)
      → Does ir image l live Midway left h p (step_op (op.NewChan to capacity words) at_hand)
  new_chan_does capacity words a b has next =
      numbers_do capacity words 6 (omega (arith, a)) (omega (arith, b)) refl (act.NewChan capacity words) (λ ws. refl) (channels capacity words a b) has next
