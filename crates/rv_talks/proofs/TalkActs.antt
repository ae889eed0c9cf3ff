-- Harts follow talks: what a branch receives comes to its slots, and the branch's number to a slot.
use Rattle.std.proofs.Common.{◌≡◌, ◌≢◌, ℕ, zero, suc, ◌+◌, ◌-◌, ◌*◌, ◌/◌, ◌^◌, ◌<◌, ◌≤◌, Bool, true, false, ◌&&◌, nat_le, nat_lt, if◌then◌else◌, List, [], ◌∷◌, ◌++◌, length, slice_get, slice_index, Option, Some, None, refl, sym, ap, ap₂, ◌∙◌, arith, subst, length-append, ◌⊎◌, inl, inr, ⊎_elim}
use Rattle.std.specs.Prelude.{drop, is_some, option_map, option_and_then}
use Rattle.std.proofs.lemmas.Bool.{cases_lt}
use Rattle.std.proofs.lemmas.Bool.Decides.{nat_tests}
use Rattle.al_event.specs.declared.act.Act.{Act}
use Rattle.al_event.specs.declared.act.Act.TheVariants as act
use Rattle.al_event.specs.declared.act.Branch.{Branch as ActBranch}
use Rattle.al_world.specs.Control.{cut, received_by, branch_in}
use Rattle.al_ir.specs.declared.ir.Ir.{Ir}
use Rattle.al_ir.specs.declared.op.Op.TheVariants as op
use Rattle.al_ir.specs.declared.op.TalkBranch.{TalkBranch}
use Rattle.al_ir.specs.Control.{Slots, put as put_slot, put_all, forget, Frame as IrFrame, Nowhere, Branch, Control, words_at}
use Rattle.al_ir.specs.Meaning.{resume}
use Rattle.al_ir.specs.Step.{Here, step_op, asks, forgetting, branches_of, sent_at}
use Rattle.rv_isa.specs.declared.addresses.TheConstants.{STACK_START}
use Rattle.rv_isa.specs.declared.image.Contents.{Contents}
use Rattle.rv_isa.specs.declared.instr.Instr.{Instr}
use Rattle.rv_exec.specs.Hart.{Hart, put}
use Rattle.rv_exec.specs.Windows.{put_words}
use Rattle.rv_exec.specs.Calls.{Privates, asks_if_any, branches_from, records_at, talk_act}
use Rattle.rv_exec.specs.Machine.{asked, line_of, place_of}
use Rattle.rv_exec.specs.declared.state.Waits.TheVariants.{Done, Talk as TalkWaits}
use Rattle.rv_code.specs.declared.home.Home.{Home}
use Rattle.rv_code.specs.declared.home.Home.TheVariants.{Frame, Saved}
use Rattle.rv_code.specs.Homes.{value_at, IsHome, Apart, leave}
use Rattle.rv_code.specs.Jumps.{place}
use Rattle.rv_code.specs.Pieces.{number_code, call_code}
use Rattle.rv_code.specs.Runs.{Stands, Fine, Comes}
use Rattle.rv_code.proofs.Leading.{stands_front, stands_back, then_leads, then_comes}
use Rattle.rv_code.proofs.Numbers.{numbers}
use Rattle.rv_code.proofs.Operands.{IsKept, not_kept, not_eight}
use Rattle.rv_code.proofs.Pairs.{leaves}
use Rattle.rv_code.proofs.Slots.{put_other}
use Rattle.rv_form.specs.Acts.{words_place, branch_records, talk_code}
use Rattle.rv_form.specs.Units.{frame_address}
use Rattle.rv_match.specs.Following.{Nears}
use Rattle.rv_match.specs.Match.{Private, InFrame, Match}
use Rattle.rv_match.specs.Places.{Places, Homes, under, full}
use Rattle.rv_match.proofs.Keeping.{slot_cases, not_slot, at_home, changed}
use Rattle.rv_match.proofs.Steps.{Does, here, known_does}
use Rattle.rv_acts.proofs.Calling.{call_asks}
use Rattle.rv_units.proofs.Addresses.{addresses}
use Rattle.rv_talks.proofs.Branches.{branch_words, says_all, count_same, words_count, Numbered, numbered, third_word, AreReady, branches_stored, ArePlaced, branches_said}
use Rattle.rv_talks.proofs.ParActs.{forget_cases, records_place}
use Rattle.rv_talks.proofs.Records.{with_words, with_outside, with_inside, behind_it}
use Rattle.rv_talks.proofs.Words.{words_are}

-- ---- words that came

put_in : (ws : List ℕ) (f : ℕ → ℕ) (first i : ℕ) → i < length ws → put_words f first ws (first + i) ≡ slice_index ws i
put_in ws f first i less = on (nat_le first (first + i)) (nat_lt (first + i) (first + length ws)) (first + i - first) (grind (arith, nat_tests)) (grind (arith, nat_tests, less)) (omega arith) where
  on : (b d : Bool) (n : ℕ) → b ≡ true → d ≡ true → n ≡ i → (if b && d then slice_index ws n else f (first + i)) ≡ slice_index ws i
  on b d n p q r = rw (p, q, r) refl

put_out : (ws : List ℕ) (f : ℕ → ℕ) (first j : ℕ) → (j < first) ⊎ (first + length ws ≤ j) → put_words f first ws j ≡ f j
put_out ws f first j (inl less) = let e : nat_le first j ≡ false = before first j less in ap (λ (b : Bool). if b && nat_lt j (first + length ws) then slice_index ws (j - first) else f j) e where
  before : (x y : ℕ) → y < x → nat_le x y ≡ false
  before x y l = grind (arith, nat_tests, l)
put_out ws f first j (inr more) = on (nat_le first j) (nat_lt j (first + length ws)) (past (first + length ws) j more) where
  past : (x y : ℕ) → x ≤ y → nat_lt y x ≡ false
  past x y l = grind (arith, nat_tests, l)

  on : (b d : Bool) → d ≡ false → (if b && d then slice_index ws (j - first) else f j) ≡ f j
  on true d e = ap (λ (x : Bool). if true && x then slice_index ws (j - first) else f j) e
  on false d e = refl

-- a slot that got one of them, or none of those
put_cases : (ws : List ℕ) (to : ℕ) (slots : Slots) (t w : ℕ) → put_all to ws slots t ≡ Some w → ((i : ℕ) × (i < length ws) × (t ≡ to + i) × (slice_index ws i ≡ w)) ⊎ (((t < to) ⊎ (to + length ws ≤ t)) × (slots t ≡ Some w))
put_cases [] to slots t w e = inr (⊎_elim (λ less. inl less) (λ more. inr (omega (arith, more))) (cases_lt t to), e)
put_cases (x ∷ ws) to slots t w e =
    ⊎_elim
    (λ now. inl (suc now.0, omega (arith, now.1), omega (arith, now.2), now.3))
    (λ older. ⊎_elim
    (λ first. inl (0, omega arith, omega (arith, first.0), first.1))
    (λ other. inr (outside other.0 older.0, other.1))
    (slot_cases slots to x t w older.1))
    (put_cases ws (to + 1) (put_slot to x slots) t w e) where
      outside : t ≢ to → (t < to + 1) ⊎ (to + 1 + length ws ≤ t) → (t < to) ⊎ (to + length (x ∷ ws) ≤ t)
      outside other (inl less) = inl (omega (arith, other, less))
      outside other (inr more) = inr (omega (arith, more))

cut_count : (n m : ℕ) (ws : List ℕ) → length (cut n m ws) ≡ n
cut_count zero m ws = refl
cut_count (suc n) m [] = ap suc (cut_count n m [])
cut_count (suc n) m (w ∷ ws) = ap suc (cut_count n m ws)

branch_below : (cs : List ActBranch) (i : ℕ) → 1 ≤ length cs → branch_in cs i < length cs
branch_below cs i some = on (nat_lt i (length cs)) refl where
  on : (b : Bool) → nat_lt i (length cs) ≡ b → (if b then i else 0) < length cs
  on true e = grind (arith, nat_tests, e)
  on false e = omega (arith, some)

module _ (ir : Ir) (image : Contents) (l : Places) (live : (f pc unit t : ℕ) → Type 0) (Midway : (f pc unit : ℕ) → Slots → (sp : ℕ) → Hart → Type 0)
    (left : ℕ) (fr : IrFrame) (below : List IrFrame) (c : Control) (line : ℕ) (u : List ℕ) (h : Hart) (p : Privates)
    (homes : Homes l) (small : length image.code ≤ 2 ^ 23) (m : InFrame ir image l live Midway left fr below 0 c.text c.last h) (same : Private ir u p) (fine : Fine h p)
    (low : l.at fr.function (fr.pc + 1) < 2 ^ 23) (line_is : (j : ℕ) → l.at fr.function fr.pc ≤ j → j < l.at fr.function (fr.pc + 1) → line_of image (place j) ≡ line)
    (branches : List TalkBranch) (records to got : ℕ) where
  abbrev at0 : ℕ
  at0 = l.at fr.function fr.pc

  abbrev sp : ℕ
  sp = under l below

  abbrev home : ℕ → Home
  home t = l.home fr.function t

  abbrev size : ℕ
  size = 4 * length branches

  abbrev at_hand : Here
  at_hand = here ir image l live Midway left fr below c line u h p

  -- a branch's channel stands apart from the records, as do the words that it sends; what it receives is apart from the slot that
  -- gets the branch's number
  pub record Fits (b : TalkBranch) : Type 0 where
    pub chan : live fr.function fr.pc 0 b.chan
    pub apart : (b.chan < records) ⊎ (records + size ≤ b.chan)
    pub few : b.words ≤ 1024
    pub receives : b.send ≡ None → (got + b.words ≤ l.slots fr.function) × ((to < got) ⊎ (got + b.words ≤ to)) × ((i : ℕ) → i < b.words → home (got + i) ≡ Frame (got + i))
    pub sends : (t : ℕ) → b.send ≡ Some t → (t + b.words ≤ l.slots fr.function) × ((t + b.words ≤ records) ⊎ (records + size ≤ t)) × ((i : ℕ) → i < b.words → live fr.function fr.pc 0 (t + i) × (home (t + i) ≡ Frame (t + i)))

  abbrev pub AllFit : List TalkBranch → Type 0
  AllFit [] = Unit {0}
  AllFit (b ∷ bs) = Fits b × AllFit bs

  fits_of : (bs : List TalkBranch) (i : ℕ) (b : TalkBranch) → AllFit bs → slice_get bs i ≡ Some b → Fits b
  fits_of [] i b all e = absurd (cc)
  fits_of (x ∷ bs) zero b all e = let q : x ≡ b = cc in subst Fits q all.0
  fits_of (x ∷ bs) (suc i) b all e = fits_of bs i b all.1 e

  module _ (all : AllFit branches) (some : 1 ≤ length branches) (most : length branches ≤ 64) (slots_of : records + size ≤ l.slots fr.function) (lt : to < l.slots fr.function)
      (apart_to : (t : ℕ) → live fr.function (fr.pc + 1) 0 t → t ≢ to → Apart (home to) (home t))
      (after : (t : ℕ) → live fr.function (fr.pc + 1) 0 t → t ≢ to → ((records ≤ t) × (t < records + size)) ⊎ live fr.function fr.pc 0 t)
      (has : Stands image.code at0 (talk_code home branches records to got)) (next : at0 + length (talk_code home branches records to got) ≡ l.at fr.function (fr.pc + 1)) where
    abbrev storing : List Instr
    storing = branch_records home got branches records

    abbrev two : List Instr
    two = frame_address 10 records

    abbrev three : List Instr
    three = number_code 11 (length branches)

    abbrev at1 : ℕ
    at1 = at0 + length (branch_records home got branches records)

    abbrev at3 : ℕ
    at3 = at1 + length (frame_address 10 records) + length (number_code 11 (length branches))

    abbrev call : List Instr
    call = two ++ (three ++ call_code 10)

    abbrev tail : List Instr
    tail = leave (home to) 10

    lengths : at3 + 2 + length (leave (home to) 10) ≡ l.at fr.function (fr.pc + 1)
    lengths = omega (arith, next, length-append storing (call ++ tail), length-append call tail, length-append two (three ++ call_code 10), length-append three (call_code 10))

    code1 : Stands image.code at1 (call ++ tail)
    code1 = stands_back image.code at0 storing (call ++ tail) has

    code_call : Stands image.code at1 call
    code_call = stands_front image.code at1 call tail code1

    code_tail : Stands image.code (at3 + 2) tail
    code_tail =
        let e : at1 + length call ≡ at3 + 2 = omega (arith, length-append two (three ++ call_code 10), length-append three (call_code 10)) in
        subst (λ n. Stands image.code n tail) e (stands_back image.code at1 call tail code1)

    module _ (cs : List ActBranch) (says : branches_of fr.slots branches ≡ Some cs) where
      abbrev recs : List ℕ
      recs = branch_words sp got branches cs

      abbrev stack1 : ℕ → ℕ
      stack1 = with_words h.stack (sp + records) recs

      outside : (j : ℕ) → (j < sp + records) ⊎ (sp + records + size ≤ j) → stack1 j ≡ h.stack j
      outside j out = with_outside recs h.stack (sp + records) j (as_counted out) where
        as_counted : (j < sp + records) ⊎ (sp + records + size ≤ j) → (j < sp + records) ⊎ (sp + records + length recs ≤ j)
        as_counted (inl q) = inl q
        as_counted (inr q) = inr (omega (arith, q, words_count sp got fr.slots branches cs says))

      -- ---- before the call

      place_low : (b : TalkBranch) → Fits b → sp + words_place got b.send ≤ 2 ^ 21
      place_low b f = on b.send refl where
        on : (s : Option ℕ) → b.send ≡ s → sp + words_place got s ≤ 2 ^ 21
        on None e = omega (arith, (f.receives e).0, m.room, m.inside)
        on (Some t) e = omega (arith, (f.sends t e).0, m.room, m.inside)

      ready : (bs : List TalkBranch) (ds : List ActBranch) → AllFit bs → branches_of fr.slots bs ≡ Some ds → AreReady image small home sp got records size h.registers h.stack bs ds
      ready [] ds fit e = cc
      ready (b ∷ bs) ds fit e =
          let s = says_all fr.slots b bs ds e in
          let was = m.holds b.chan s.first.chan fit.0.chan s.says.chan in
          subst (λ (x : List ActBranch). AreReady image small home sp got records size h.registers h.stack (b ∷ bs) x) (sym s.is) (
            record {
              is_home = at_home ir image l live Midway m homes b.chan was.0;
              own = λ j f. subst (λ n. (n < records) ⊎ (records + size ≤ n)) (sym (homes.frame fr.function b.chan j f)) fit.0.apart;
              chan = was.1;
              few = fit.0.few;
              room = place_low b fit.0;
            },
            ready bs s.rest fit.1 s.others,
          )

      placed : (bs : List TalkBranch) → AllFit bs → ArePlaced image small home sp got fr.slots stack1 bs
      placed [] fit = tt
      placed (b ∷ bs) fit = (
        record {
          few = fit.0.few;
          receives = λ e. omega (arith, (fit.0.receives e).0, m.room, m.inside);
          sends = λ t e. let q = fit.0.sends t e in (
            omega (arith, q.0, m.room, m.inside),
            λ ws f. words_are b.words fr.slots t (sp + t) stack1 ws f (λ i w less g.
                let was = m.holds (t + i) w (q.2 i less).0 g in
                let cell : sp + t + i ≡ sp + (t + i) = omega arith in
                outside (sp + t + i) (apart_from t b.words i less q.1) ∙ ap h.stack cell ∙ ap (λ k. value_at k sp h.registers h.stack) (sym (q.2 i less).1) ∙ was.1),
          );
        },
        placed bs fit.1,
      ) where
        apart_from : (t n i : ℕ) → i < n → (t + n ≤ records) ⊎ (records + size ≤ t) → (sp + t + i < sp + records) ⊎ (sp + records + size ≤ sp + t + i)
        apart_from t n i less (inl q) = inl (omega (arith, q, less))
        apart_from t n i less (inr q) = inr (omega (arith, q))

      -- the hart at the call
      record Calling : Type 0 where
        pc : ℕ
        registers : ℕ → ℕ
        work : ℕ
        there : pc ≡ place (at3 + 1)
        comes : Comes image h p (asked image (act.Talk cs) (record h { pc = pc; registers = registers; stack = stack1; waits = TalkWaits; work = work }) p)
        ten : registers 10 ≡ STACK_START + 4 * (sp + records)
        kept : (n : ℕ) → IsKept n → registers n ≡ h.registers n

      calling : Calling
      calling =
          let inside : sp + records + size ≤ 2 ^ 20 = omega (arith, slots_of, m.room, m.inside) in
          let a = branches_stored image small home sp got records size h.registers h.stack branches cs records at0 h p fine (ready branches cs all says) m.here m.pointer inside (omega arith) (omega arith) (λ n s. refl) (λ j out. refl)
          (stands_front image.code at0 storing (call ++ tail) has) in
          let h1 : Hart = behind_it image small h p at1 stack1 a in
          let code2 = stands_back image.code at1 two (three ++ call_code 10) code_call in
          let g = addresses image small h1 p at1 sp records 10 a.there (a.kept 2 (omega arith) (omega arith) ∙ m.pointer) (omega (arith, inside)) (omega arith) (omega arith) (stands_front image.code at1 two (three ++ call_code 10) code_call) in
          let h2 : Hart = record h1 { pc = g.pc; registers = g.registers; work = g.work } in
          let g1 = numbers image small h2 p (at1 + length two) 11 (length branches) g.there (omega arith) (omega (arith, most)) (stands_front image.code (at1 + length two) three (call_code 10) code2) in
          let h3 : Hart = record h1 { pc = g1.pc; registers = g1.registers; work = g1.work } in
          let rs : ℕ → ℕ = put g1.registers 17 10 in
          let at_call : Hart = record h1 { pc = g1.pc + 4; registers = rs; work = g1.work + 1 + 1 } in
          let x10 : g1.registers 10 ≡ STACK_START + 4 * (sp + records) = g1.kept 10 (omega arith) (omega arith) ∙ g.holds in
          let said : talk_act at_call ≡ Some (act.Talk cs) =
          ap₂ (λ (x y : ℕ). option_map (λ bs. act.Talk bs) (option_and_then (λ first. branches_from at_call first y) (records_at 4 x y))) x10 g1.holds
          ∙ ap (λ (o : Option ℕ). option_map (λ bs. act.Talk bs) (option_and_then (λ first. branches_from at_call first (length branches)) o)) (records_place 4 (sp + records) (length branches) (omega arith) some most inside)
          ∙ ap (λ (o : Option (List ActBranch)). option_map (λ bs. act.Talk bs) o) (branches_said image small home sp got fr.slots at_call branches cs (sp + records) says (placed branches all) (with_inside recs h.stack (sp + records))) in
          record {
            pc = g1.pc + 4;
            registers = rs;
            work = g1.work + 1 + 1;
            there = omega (arith, g1.there);
            comes = then_comes image {i = h3} (then_leads image {i = h1} {j = h3} a.leads (then_leads image {i = h2} {j = h3} g.leads g1.leads))
                (call_asks image small h3 p at3 10 g1.there refl (stands_back image.code (at1 + length two) three (call_code 10) code2) (act.Talk cs) (record at_call { waits = TalkWaits })
                (ap (λ (o : Option Act). asks_if_any TalkWaits o at_call p) said));
            ten = x10;
            kept = λ i k. put_other g1.registers 17 10 i (not_kept 17 i (omega arith, omega arith) k) ∙ g1.kept i (not_kept 11 i (omega arith, omega arith) k) (not_eight i k)
                ∙ g.kept i (not_kept 10 i (omega arith, omega arith) k) (not_eight i k) ∙ a.kept i (not_eight i k) (not_kept 10 i (omega arith, omega arith) k);
          }

      -- ---- behind the answer

      abbrev waiting : Calling → Hart
      waiting k = record h { pc = k.pc; registers = k.registers; stack = stack1; waits = TalkWaits; jumps = 0; work = 0 }

      -- what came is as much as the branch receives, which has a place
      record Came (k : Calling) (i : ℕ) (ws : List ℕ) : Type 0 where
        stack : (j : ℕ) → put_words stack1 (place_of (waiting k) i) ws j ≡ put_words stack1 (sp + got) ws j
        room : (length ws ≡ 0) ⊎ ((got + length ws ≤ l.slots fr.function) × ((to < got) ⊎ (got + length ws ≤ to)))
        in_frame : (j : ℕ) → j < length ws → home (got + j) ≡ Frame (got + j)

      none_came : (ws : List ℕ) → length ws ≡ 0 → (first j : ℕ) → put_words stack1 first ws j ≡ stack1 j
      none_came ws e first j = put_out ws stack1 first j (⊎_elim (λ less. inl less) (λ more. inr (omega (arith, e, more))) (cases_lt j first))

      came : (k : Calling) (i : ℕ) (more : List ℕ) → i < length cs → Came k i (cut (received_by (slice_get cs i)) (2 ^ 32) more)
      came k i more less = on n.branch.send refl n.says.send where
        n : Numbered fr.slots branches cs i
        n = numbered fr.slots branches cs i says (omega (arith, less, count_same fr.slots branches cs says))

        fit : Fits n.branch
        fit = fits_of branches i n.branch all n.found

        some_is : {X : Type 0} {a b : X} → Some a ≡ Some b → a ≡ b
        some_is e = cc

        amount : (s : Option (List ℕ)) → s ≡ n.asks.send → received_by (slice_get cs i) ≡ (if is_some s then 0 else n.asks.words)
        amount s e = ap received_by n.asked ∙ ap (λ (q : Option (List ℕ)). if is_some q then 0 else n.asks.words) (sym e)

        nothing : received_by (slice_get cs i) ≡ 0 → Came k i (cut (received_by (slice_get cs i)) (2 ^ 32) more)
        nothing e = subst (λ q. Came k i (cut q (2 ^ 32) more)) (sym e) (record {
          stack = λ j. none_came [] refl (place_of (waiting k) i) j ∙ sym (none_came [] refl (sp + got) j);
          room = inl refl;
          in_frame = λ j less1. absurd (omega (arith, less1));
        })

        received : n.branch.send ≡ None → received_by (slice_get cs i) ≡ n.branch.words → Came k i (cut (received_by (slice_get cs i)) (2 ^ 32) more)
        received none e = subst (λ q. Came k i (cut q (2 ^ 32) more)) (sym e) (record {
          stack = λ j. ap (λ first. put_words stack1 first (cut n.branch.words (2 ^ 32) more) j) its_place;
          room = inr (omega (arith, r.0, count), further r.1);
          in_frame = λ j less1. r.2 j (omega (arith, less1, count));
        }) where
          r : (got + n.branch.words ≤ l.slots fr.function) × ((to < got) ⊎ (got + n.branch.words ≤ to)) × ((j : ℕ) → j < n.branch.words → home (got + j) ≡ Frame (got + j))
          r = fit.receives none

          count : length (cut n.branch.words (2 ^ 32) more) ≡ n.branch.words
          count = cut_count n.branch.words (2 ^ 32) more

          further : (to < got) ⊎ (got + n.branch.words ≤ to) → (to < got) ⊎ (got + length (cut n.branch.words (2 ^ 32) more) ≤ to)
          further (inl q) = inl q
          further (inr q) = inr (omega (arith, q, count))

          its_place : place_of (waiting k) i ≡ sp + got
          its_place =
              let index : (k.registers 10 - STACK_START) / 4 + 4 * i + 2 ≡ sp + records + 4 * i + 2 = omega (arith, k.ten) in
              let word : stack1 (sp + records + 4 * i + 2) ≡ STACK_START + 4 * (sp + got) =
              third_word sp got fr.slots branches cs i (sp + records) stack1 n.branch says n.found (with_inside recs h.stack (sp + records)) ∙ ap (λ (q : Option ℕ). STACK_START + 4 * (sp + words_place got q)) none in
              let number : (STACK_START + 4 * (sp + got) - STACK_START) / 4 ≡ sp + got = omega arith in
              ap (λ q. (stack1 q - STACK_START) / 4) index ∙ ap (λ q. (q - STACK_START) / 4) word ∙ number

        on : (s : Option ℕ) → n.branch.send ≡ s → sent_at fr.slots n.branch.words s ≡ Some n.asks.send → Came k i (cut (received_by (slice_get cs i)) (2 ^ 32) more)
        on None e f = received e (amount None (some_is f) ∙ n.says.words)
        on (Some t) e f = sent (words_at fr.slots t n.branch.words) f where
          sent : (o : Option (List ℕ)) → option_map (λ (x : List ℕ). Some x) o ≡ Some n.asks.send → Came k i (cut (received_by (slice_get cs i)) (2 ^ 32) more)
          sent (Some ws) q = nothing (amount (Some ws) (some_is q))
          sent None q = absurd (cc)

      -- the words go to their slots, and the number of the branch to its own
      module _ (k : Calling) (i : ℕ) (ws : List ℕ) (arrived : Came k i ws) where
        abbrev g : Hart
        g = record h { pc = k.pc + 4; registers = put (put k.registers 10 i) 3 4096; stack = put_words stack1 (place_of (waiting k) i) ws; waits = Done; jumps = 0; work = 0 }

        abbrev slots1 : Slots
        slots1 = put_all got ws (put_slot to i (forget records size fr.slots))

        abbrev behind : Control
        behind = record { entering = None; into = Nowhere; unit = 0; text = c.text; last = c.last; frames = record fr { pc = fr.pc + 1; slots = slots1 } ∷ below }

        kept : (n : ℕ) → IsKept n → n ≢ 3 → g.registers n ≡ h.registers n
        kept n q other = put_other (put k.registers 10 i) 3 4096 n other ∙ put_other k.registers 10 i n (not_kept 10 n (omega arith, omega arith) q) ∙ k.kept n q

        still : (j : ℕ) → (j < sp + records) ⊎ (sp + records + size ≤ j) → (j < sp + got) ⊎ (sp + got + length ws ≤ j) → g.stack j ≡ h.stack j
        still j out out1 = arrived.stack j ∙ put_out ws stack1 (sp + got) j out1 ∙ outside j out

        past_slots : (j : ℕ) → sp + l.slots fr.function ≤ j → (j < sp + got) ⊎ (sp + got + length ws ≤ j)
        past_slots j high = on arrived.room where
          on : (length ws ≡ 0) ⊎ ((got + length ws ≤ l.slots fr.function) × ((to < got) ⊎ (got + length ws ≤ to))) → (j < sp + got) ⊎ (sp + got + length ws ≤ j)
          on (inl e) = ⊎_elim (λ less. inl less) (λ more. inr (omega (arith, e, more))) (cases_lt j (sp + got))
          on (inr q) = inr (omega (arith, q.0, high))

        behind_slots : (j : ℕ) → sp + l.slots fr.function ≤ j → g.stack j ≡ h.stack j
        behind_slots j high = still j (inr (omega (arith, slots_of, high))) (past_slots j high)

        is_to : IsHome sp (home to)
        is_to = at_home ir image l live Midway m homes to lt

        old_value : (t : ℕ) → (t < records) ⊎ (records + size ≤ t) → (t < got) ⊎ (got + length ws ≤ t) → (q : Home) → ((a : ℕ) → q ≡ Frame a → a ≡ t) → IsHome sp q → value_at q sp g.registers g.stack ≡ value_at q sp h.registers h.stack
        old_value t out out1 (Frame a) own is = still (sp + a) (up_records out) (up_got out1) where
          same_slot : a ≡ t
          same_slot = own a refl

          up_records : (t < records) ⊎ (records + size ≤ t) → (sp + a < sp + records) ⊎ (sp + records + size ≤ sp + a)
          up_records (inl q) = inl (omega (arith, q, same_slot))
          up_records (inr q) = inr (omega (arith, q, same_slot))

          up_got : (t < got) ⊎ (got + length ws ≤ t) → (sp + a < sp + got) ⊎ (sp + got + length ws ≤ sp + a)
          up_got (inl q) = inl (omega (arith, q, same_slot))
          up_got (inr q) = inr (omega (arith, q, same_slot))
        old_value t out out1 (Saved r) own is = kept r (inr is) (λ e. absurd (omega (arith, is.0, e)))

        apart_frame : (q : Home) (n : ℕ) → ((a : ℕ) → q ≡ Frame a → a ≡ to) → to ≢ n → Apart q (Frame n)
        apart_frame (Frame a) n own other = λ e. other (omega (arith, own a refl, e))
        apart_frame (Saved r) n own other = tt

        nears : (q : Privates) → Fine g q → Nears image resume (Private ir) (Match ir image l live Midway) full behind g q
        nears q good =
            let s = leaves image small g q (at3 + 2) sp (home to) 10 good (omega (arith, k.there)) (kept 2 (inl (omega arith, omega arith)) (omega arith) ∙ m.pointer) is_to (omega arith) (omega arith) code_tail in
            let h2 : Hart = record g { pc = s.pc; registers = s.registers; stack = s.stack; work = s.work } in
            let far : (n : ℕ) → l.slots fr.function ≤ n → sp + n < 2 ^ 20 → s.stack (sp + n) ≡ h.stack (sp + n) =
            λ n high inside. s.others (Frame n) inside (not_slot l homes fr.function to n lt high) ∙ behind_slots (sp + n) (omega (arith, high)) in
            record {
              there = h2;
              leads = s.leads;
              match = inl (changed ir image l live Midway m {left1 = full} {pc1 = fr.pc + 1} {unit1 = 0} {slots1 = slots1} {text1 = c.text} {last1 = c.last} {h1 = h2} (record {
                here = s.there ∙ ap place lengths;
                pointer = s.low 2 (omega arith) (omega arith) ∙ kept 2 (inl (omega arith, omega arith)) (omega arith);
                globals = s.low 4 (omega arith) (omega arith) ∙ kept 4 (inl (omega arith, omega arith)) (omega arith);
                turns = s.low 3 (omega arith) (omega arith);
                below_it = λ j lower. s.below j lower ∙ still j (inl (omega (arith, lower))) (inl (omega (arith, lower)));
                way = far (l.slots fr.function) (omega arith) (omega (arith, m.room, m.inside));
                holds = λ t x need e. holds_on s.registers s.stack (λ w is far1. s.others w is far1) s.holds t x need (put_cases ws got (put_slot to i (forget records size fr.slots)) t x e);
                above = λ t x e. let was = m.above t x e in (
                  was.0,
                  ap s.stack (omega arith) ∙ far (l.stack fr.function + t) (omega (arith, m.room)) (omega (arith, was.0)) ∙ ap h.stack (omega arith) ∙ was.1,
                );
                text_is = m.text_is;
                waits = refl;
                counted = omega arith;
                some = omega arith;
                few = omega arith;
              }));
            } where
              holds_on : (rs st : ℕ → ℕ) → ((w : Home) → IsHome sp w → Apart (home to) w → value_at w sp rs st ≡ value_at w sp g.registers g.stack) → value_at (home to) sp rs st ≡ i → (t x : ℕ) → live fr.function (fr.pc + 1) 0 t
                  → ((j : ℕ) × (j < length ws) × (t ≡ got + j) × (slice_index ws j ≡ x)) ⊎ (((t < got) ⊎ (got + length ws ≤ t)) × (put_slot to i (forget records size fr.slots) t ≡ Some x))
                  → (t < l.slots fr.function) × (value_at (home t) sp rs st ≡ x)
              holds_on rs st others held t x need (inl (j, less, e, value)) = on arrived.room where
                on : (length ws ≡ 0) ⊎ ((got + length ws ≤ l.slots fr.function) × ((to < got) ⊎ (got + length ws ≤ to))) → (t < l.slots fr.function) × (value_at (home t) sp rs st ≡ x)
                on (inl none) = absurd (omega (arith, none, less))
                on (inr q) =
                    let inside : sp + (got + j) < 2 ^ 20 = omega (arith, q.0, less, m.room, m.inside) in
                    let cell : sp + (got + j) ≡ sp + got + j = omega arith in (
                      omega (arith, e, q.0, less),
                      ap (λ n. value_at (home n) sp rs st) e ∙ ap (λ w. value_at w sp rs st) (arrived.in_frame j less)
                          ∙ others (Frame (got + j)) inside (apart_frame (home to) (got + j) (λ a f. homes.frame fr.function to a f) (not_among q.1))
                          ∙ arrived.stack (sp + (got + j)) ∙ ap (λ n. put_words stack1 (sp + got) ws n) cell ∙ put_in ws stack1 (sp + got) j less ∙ value,
                    ) where
                      not_among : (to < got) ⊎ (got + length ws ≤ to) → to ≢ got + j
                      not_among (inl a) f = absurd (omega (arith, a, f))
                      not_among (inr a) f = absurd (omega (arith, a, f, less))
              holds_on rs st others held t x need (inr (out1, e)) =
                  ⊎_elim
                  (λ now. (subst (λ n. n < l.slots fr.function) (sym now.0) lt, ap (λ n. value_at (home n) sp rs st) now.0 ∙ held ∙ now.1))
                  (λ other. let f = forget_cases records size fr.slots t x other.1 in
                  ⊎_elim (λ inside. absurd (not_both inside f.0))
                  (λ old. let was = m.holds t x old f.1 in
                  let is_t = at_home ir image l live Midway m homes t was.0 in
                  (was.0, others (home t) is_t (apart_to t need other.0) ∙ old_value t f.0 out1 (home t) (λ a g1. homes.frame fr.function t a g1) is_t ∙ was.1))
                  (after t need other.0))
                  (slot_cases (forget records size fr.slots) to i t x e) where
                    not_both : (records ≤ t) × (t < records + size) → (t < records) ⊎ (records + size ≤ t) → ⊥
                    not_both a (inl b) = absurd (omega (arith, a.0, b))
                    not_both a (inr b) = absurd (omega (arith, a.1, b))

      asks_it : Does ir image l live Midway left h p (asks (act.Talk cs) (Branch to got) (forgetting records size at_hand))
      asks_it = λ real.
          let k = calling in
          record {
            waiting = record h { pc = k.pc; registers = k.registers; stack = stack1; waits = TalkWaits; work = k.work };
            privates = p;
            comes = k.comes;
            line_is = ap (line_of image) k.there ∙ line_is (at3 + 1) (omega arith) (omega (arith, lengths));
            waits = λ going words.
                let i : ℕ = branch_in cs (slice_index words 0) in
                let arrived = came k i (drop 1 words) (branch_below cs (slice_index words 0) (omega (arith, some, count_same fr.slots branches cs says))) in
                record {
                  near = omega (arith, k.there, lengths, low);
                  jumps = refl;
                  work = refl;
                  comes = λ q good. nears k i (cut (received_by (slice_get cs i)) (2 ^ 32) (drop 1 words)) arrived q good;
                };
            same = same;
          }

    pub talk_does : Does ir image l live Midway left h p (step_op (op.Talk branches records to got) at_hand)
    talk_does = known_does ir image l live Midway left fr below c line u h p (branches_of fr.slots branches) _ (λ cs e. asks_it cs e)
