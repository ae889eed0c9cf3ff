-- The records of a talk's branches stand in the frame, and say what the branches ask.
use Rattle.std.proofs.Common.{◌≡◌, ℕ, zero, suc, ◌+◌, ◌*◌, ◌^◌, ◌<◌, ◌≤◌, Bool, true, nat_le, if◌then◌else◌, List, [], ◌∷◌, ◌++◌, length, slice_get, Option, Some, None, refl, sym, ap, ap₂, ◌∙◌, arith, subst, length-append, ◌⊎◌, inl, inr}
use Rattle.std.specs.Prelude.{option_map, option_and_then}
use Rattle.std.proofs.lemmas.Bool.Decides.{nat_tests}
use Rattle.al_event.specs.declared.act.Branch.{Branch as ActBranch}
use Rattle.al_ir.specs.declared.op.TalkBranch.{TalkBranch}
use Rattle.al_ir.specs.Control.{Slots, words_at}
use Rattle.al_ir.specs.Step.{sent_at, branch_of, branches_of}
use Rattle.rv_isa.specs.declared.addresses.TheConstants.{STACK_START}
use Rattle.rv_isa.specs.declared.image.Contents.{Contents}
use Rattle.rv_isa.specs.declared.instr.Instr.{Instr}
use Rattle.rv_exec.specs.Hart.{Hart, put}
use Rattle.rv_exec.specs.Windows.{words_from, stack_place, stack_words}
use Rattle.rv_exec.specs.Calls.{Privates, also, branch_of as branch_said, branches_from}
use Rattle.rv_code.specs.declared.home.Home.{Home}
use Rattle.rv_code.specs.declared.home.Home.TheVariants.{Frame, Saved}
use Rattle.rv_code.specs.Homes.{value_at, IsHome}
use Rattle.rv_code.specs.Jumps.{place}
use Rattle.rv_code.specs.Runs.{Stands, Fine}
use Rattle.rv_code.proofs.Leading.{stands_front, stands_back}
use Rattle.rv_code.proofs.Operands.{IsSaved}
use Rattle.rv_form.specs.Acts.{direction, words_place, store_number, store_address, branch_record, branch_records}
use Rattle.rv_form.specs.Flow.{pass_word}
use Rattle.rv_talks.proofs.Records.{with_words, AreAt, with_outside, Stored, none_stored, behind_it, then_stored, stored_at, stores_number, stores_address, stores_slot}
use Rattle.rv_talks.proofs.Words.{some_place, stack_words_are}

-- the words of the records
abbrev pub branch_words : (sp got : ℕ) → List TalkBranch → List ActBranch → List ℕ
branch_words sp got [] cs = []
branch_words sp got (b ∷ bs) [] = []
branch_words sp got (b ∷ bs) (a ∷ cs) = a.chan ∷ direction b.send ∷ (STACK_START + 4 * (sp + words_place got b.send)) ∷ b.words ∷ branch_words sp got bs cs

-- ---- branches and what they ask

-- a branch asks this
pub record Says (slots : Slots) (b : TalkBranch) (a : ActBranch) : Type 0 where
  pub chan : slots b.chan ≡ Some a.chan
  pub words : a.words ≡ b.words
  pub send : sent_at slots b.words b.send ≡ Some a.send

says_one : (slots : Slots) (b : TalkBranch) (a : ActBranch) → branch_of slots b ≡ Some a → Says slots b a
says_one slots b a e = on (slots b.chan) refl (sent_at slots b.words b.send) refl e where
  on : (o : Option ℕ) → slots b.chan ≡ o → (q : Option (Option (List ℕ))) → sent_at slots b.words b.send ≡ q
      → option_and_then (λ c. option_map (λ sent. record { chan = c; words = b.words; send = sent }) q) o ≡ Some a → Says slots b a
  on (Some x) f (Some s) g k =
      let same : record { chan = x; words = b.words; send = s } ≡ a = cc in
      record { chan = f ∙ ap (λ (y : ActBranch). Some y.chan) same; words = sym (ap (λ (y : ActBranch). y.words) same); send = g ∙ ap (λ (y : ActBranch). Some y.send) same }
  on (Some x) f None g k = absurd (cc)
  on None f q g k = absurd (cc)

pub record SaysAll (slots : Slots) (b : TalkBranch) (bs : List TalkBranch) (cs : List ActBranch) : Type 0 where
  pub first : ActBranch
  pub rest : List ActBranch
  pub is : cs ≡ first ∷ rest
  pub says : Says slots b first
  pub others : branches_of slots bs ≡ Some rest

pub says_all : (slots : Slots) (b : TalkBranch) (bs : List TalkBranch) (cs : List ActBranch) → branches_of slots (b ∷ bs) ≡ Some cs → SaysAll slots b bs cs
says_all slots b bs cs e = on (branch_of slots b) refl (branches_of slots bs) refl e where
  on : (o : Option ActBranch) → branch_of slots b ≡ o → (q : Option (List ActBranch)) → branches_of slots bs ≡ q → option_and_then (λ c. option_map (λ (more : List ActBranch). c ∷ more) q) o ≡ Some cs → SaysAll slots b bs cs
  on (Some a) f (Some rest) g k = record { first = a; rest = rest; is = cc; says = says_one slots b a f; others = g }
  on (Some a) f None g k = absurd (cc)
  on None f q g k = absurd (cc)

none_says : (slots : Slots) (cs : List ActBranch) → branches_of slots [] ≡ Some cs → cs ≡ []
none_says slots cs e = cc

pub count_same : (slots : Slots) (bs : List TalkBranch) (cs : List ActBranch) → branches_of slots bs ≡ Some cs → length cs ≡ length bs
count_same slots [] cs e = ap (λ (x : List ActBranch). length x) (none_says slots cs e)
count_same slots (b ∷ bs) cs e = let s = says_all slots b bs cs e in ap (λ (x : List ActBranch). length x) s.is ∙ ap suc (count_same slots bs s.rest s.others)

pub words_count : (sp got : ℕ) (slots : Slots) (bs : List TalkBranch) (cs : List ActBranch) → branches_of slots bs ≡ Some cs → length (branch_words sp got bs cs) ≡ 4 * length bs
words_count sp got slots [] cs e = refl
words_count sp got slots (b ∷ bs) cs e =
    let s = says_all slots b bs cs e in
    ap (λ (x : List ActBranch). length (branch_words sp got (b ∷ bs) x)) s.is ∙ omega (arith, words_count sp got slots bs s.rest s.others)

-- branch number i
pub record Numbered (slots : Slots) (bs : List TalkBranch) (cs : List ActBranch) (i : ℕ) : Type 0 where
  pub branch : TalkBranch
  pub asks : ActBranch
  pub found : slice_get bs i ≡ Some branch
  pub asked : slice_get cs i ≡ Some asks
  pub says : Says slots branch asks

pub numbered : (slots : Slots) (bs : List TalkBranch) (cs : List ActBranch) (i : ℕ) → branches_of slots bs ≡ Some cs → i < length bs → Numbered slots bs cs i
numbered slots [] cs i e less = absurd (omega (arith, less))
numbered slots (b ∷ bs) cs zero e less =
    let s = says_all slots b bs cs e in
    record { branch = b; asks = s.first; found = refl; asked = ap (λ (x : List ActBranch). slice_get x 0) s.is; says = s.says }
numbered slots (b ∷ bs) cs (suc i) e less =
    let s = says_all slots b bs cs e in
    let n = numbered slots bs s.rest i s.others (omega (arith, less)) in
    record { branch = n.branch; asks = n.asks; found = n.found; asked = ap (λ (x : List ActBranch). slice_get x (suc i)) s.is ∙ n.asked; says = n.says }

-- the address in the record of branch number i
pub third_word : (sp got : ℕ) (slots : Slots) (bs : List TalkBranch) (cs : List ActBranch) (i first : ℕ) (stack : ℕ → ℕ) (b : TalkBranch) → branches_of slots bs ≡ Some cs → slice_get bs i ≡ Some b
    → AreAt stack first (branch_words sp got bs cs) → stack (first + 4 * i + 2) ≡ STACK_START + 4 * (sp + words_place got b.send)
third_word sp got slots [] cs i first stack b e f are = absurd (cc)
third_word sp got slots (x ∷ bs) cs zero first stack b e f are =
    let s = says_all slots x bs cs e in
    let q = subst (λ (y : List ActBranch). AreAt stack first (branch_words sp got (x ∷ bs) y)) s.is are in
    let same : x ≡ b = cc in
    let cell : first + 4 * 0 + 2 ≡ first + 1 + 1 = omega arith in
    ap stack cell ∙ q.1.1.0 ∙ ap (λ (y : TalkBranch). STACK_START + 4 * (sp + words_place got y.send)) same
third_word sp got slots (x ∷ bs) cs (suc i) first stack b e f are =
    let s = says_all slots x bs cs e in
    let q = subst (λ (y : List ActBranch). AreAt stack first (branch_words sp got (x ∷ bs) y)) s.is are in
    let cell : first + 4 * suc i + 2 ≡ first + 1 + 1 + 1 + 1 + 4 * i + 2 = omega arith in
    ap stack cell ∙ third_word sp got slots bs s.rest i (first + 1 + 1 + 1 + 1) stack b s.others f q.1.1.1.1

-- ---- storing

module _ (image : Contents) (small : length image.code ≤ 2 ^ 23) (home : ℕ → Home) (sp got : ℕ) where
  one_branch : (b : TalkBranch) (k at : ℕ) (h : Hart) (p : Privates) → Fine h p → IsHome sp (home b.chan) → b.words < 2 ^ 32 → sp + words_place got b.send ≤ 2 ^ 21 → h.pc ≡ place at → h.registers 2 ≡ STACK_START + 4 * sp → sp + k + 4 ≤ 2 ^ 20
      → Stands image.code at (branch_record home got b k)
      → Stored image small h p (at + length (branch_record home got b k))
      (with_words h.stack (sp + k) (value_at (home b.chan) sp h.registers h.stack ∷ direction b.send ∷ (STACK_START + 4 * (sp + words_place got b.send)) ∷ b.words ∷ []))
  one_branch b k at h p fine is_home few room here pointer inside has =
      let i : List Instr = pass_word (home b.chan) k in
      let j : List Instr = store_number (direction b.send) (k + 1) in
      let n : List Instr = store_address (words_place got b.send) (k + 2) in
      let o : List Instr = store_number b.words (k + 3) in
      let chan : ℕ = value_at (home b.chan) sp h.registers h.stack in
      let address : ℕ = STACK_START + 4 * (sp + words_place got b.send) in
      let s1 : ℕ → ℕ = put h.stack (sp + k) chan in
      let s2 : ℕ → ℕ = put s1 (sp + k + 1) (direction b.send) in
      let s3 : ℕ → ℕ = put s2 (sp + k + 1 + 1) address in
      let s4 : ℕ → ℕ = put s3 (sp + k + 1 + 1 + 1) b.words in
      let a = stores_slot image small h p fine at sp k (sp + k) here pointer (omega (arith, inside)) refl (home b.chan) is_home (stands_front image.code at i (j ++ (n ++ o)) has) in
      let code1 = stands_back image.code at i (j ++ (n ++ o)) has in
      let h1 : Hart = behind_it image small h p (at + length i) s1 a in
      let d = stores_number image small h1 p (a.leads.fine fine) (at + length i) sp (k + 1) (sp + k + 1) a.there (a.kept 2 (omega arith) (omega arith) ∙ pointer) (omega (arith, inside)) (omega arith) (direction b.send) (direction_few b.send)
      (stands_front image.code (at + length i) j (n ++ o) code1) in
      let ad = then_stored image small h p (at + length i) (at + length i + length j) s1 s2 a d in
      let code2 = stands_back image.code (at + length i) j (n ++ o) code1 in
      let h2 : Hart = behind_it image small h p (at + length i + length j) s2 ad in
      let f = stores_address image small h2 p (ad.leads.fine fine) (at + length i + length j) sp (k + 2) (sp + k + 1 + 1) ad.there (ad.kept 2 (omega arith) (omega arith) ∙ pointer) (omega (arith, inside)) (omega arith) (words_place got b.send) room
      (stands_front image.code (at + length i + length j) n o code2) in
      let adf = then_stored image small h p (at + length i + length j) (at + length i + length j + length n) s2 s3 ad f in
      let h3 : Hart = behind_it image small h p (at + length i + length j + length n) s3 adf in
      let g = stores_number image small h3 p (adf.leads.fine fine) (at + length i + length j + length n) sp (k + 3) (sp + k + 1 + 1 + 1) adf.there (adf.kept 2 (omega arith) (omega arith) ∙ pointer) (omega (arith, inside)) (omega arith) b.words few
      (stands_back image.code (at + length i + length j) n o code2) in
      stored_at image small h p (at + length i + length j + length n + length o) (at + length (i ++ (j ++ (n ++ o)))) s4 s4
      (omega (arith, length-append i (j ++ (n ++ o)), length-append j (n ++ o), length-append n o)) refl
      (then_stored image small h p (at + length i + length j + length n) (at + length i + length j + length n + length o) s3 s4 adf g) where
        direction_few : (s : Option ℕ) → direction s < 2 ^ 32
        direction_few None = omega arith
        direction_few (Some t) = omega arith

  -- The records stand in so many words from word `area` of the frame on. Each channel stands apart from them, as at the start.
  module _ (area size : ℕ) (r0 st0 : ℕ → ℕ) where
    pub record IsReady (b : TalkBranch) (a : ActBranch) : Type 0 where
      pub is_home : IsHome sp (home b.chan)
      pub own : (j : ℕ) → home b.chan ≡ Frame j → (j < area) ⊎ (area + size ≤ j)
      pub chan : value_at (home b.chan) sp r0 st0 ≡ a.chan
      pub few : b.words ≤ 1024
      pub room : sp + words_place got b.send ≤ 2 ^ 21

    abbrev pub AreReady : List TalkBranch → List ActBranch → Type 0
    AreReady [] cs = cs ≡ []
    AreReady (b ∷ bs) [] = ⊥
    AreReady (b ∷ bs) (a ∷ cs) = IsReady b a × AreReady bs cs

    chan_stays : (k : Home) (rs st : ℕ → ℕ) → IsHome sp k → ((j : ℕ) → k ≡ Frame j → (j < area) ⊎ (area + size ≤ j)) → ((n : ℕ) → IsSaved n → rs n ≡ r0 n) → ((j : ℕ) → (j < sp + area) ⊎ (sp + area + size ≤ j) → st j ≡ st0 j)
        → value_at k sp rs st ≡ value_at k sp r0 st0
    chan_stays (Frame j) rs st is own regs stacks = stacks (sp + j) (further (own j refl)) where
      further : (j < area) ⊎ (area + size ≤ j) → (sp + j < sp + area) ⊎ (sp + area + size ≤ sp + j)
      further (inl q) = inl (omega (arith, q))
      further (inr q) = inr (omega (arith, q))
    chan_stays (Saved r) rs st is own regs stacks = regs r is

    pub branches_stored : (bs : List TalkBranch) (cs : List ActBranch) (k at : ℕ) (h : Hart) (p : Privates) → Fine h p → AreReady bs cs → h.pc ≡ place at → h.registers 2 ≡ STACK_START + 4 * sp → sp + area + size ≤ 2 ^ 20 → area ≤ k → k + 4 * length bs ≤ area + size
        → ((n : ℕ) → IsSaved n → h.registers n ≡ r0 n) → ((j : ℕ) → (j < sp + area) ⊎ (sp + area + size ≤ j) → h.stack j ≡ st0 j) → Stands image.code at (branch_records home got bs k)
        → Stored image small h p (at + length (branch_records home got bs k)) (with_words h.stack (sp + k) (branch_words sp got bs cs))
    branches_stored [] cs k at h p fine ready here pointer inside lower upper regs stacks has = none_stored image small h p at here
    branches_stored (b ∷ bs) [] k at h p fine ready here pointer inside lower upper regs stacks has = absurd ready
    branches_stored (b ∷ bs) (a ∷ cs) k at h p fine ready here pointer inside lower upper regs stacks has =
        let i : List Instr = branch_record home got b k in
        let rest : List Instr = branch_records home got bs (k + 4) in
        let q = ready.0 in
        let now : value_at (home b.chan) sp h.registers h.stack ≡ a.chan = chan_stays (home b.chan) h.registers h.stack q.is_home q.own regs stacks ∙ q.chan in
        let four : List ℕ = a.chan ∷ direction b.send ∷ (STACK_START + 4 * (sp + words_place got b.send)) ∷ b.words ∷ [] in
        let s1 : ℕ → ℕ = with_words h.stack (sp + k) four in
        let x0 = one_branch b k at h p fine q.is_home (omega (arith, q.few)) q.room here pointer (omega (arith, inside, upper)) (stands_front image.code at i rest has) in
        let x = stored_at image small h p (at + length i) (at + length i) _ s1 refl (ap (λ v. with_words h.stack (sp + k) (v ∷ direction b.send ∷ (STACK_START + 4 * (sp + words_place got b.send)) ∷ b.words ∷ [])) now) x0 in
        let h1 : Hart = behind_it image small h p (at + length i) s1 x in
        let y = branches_stored bs cs (k + 4) (at + length i) h1 p (x.leads.fine fine) ready.1 x.there (x.kept 2 (omega arith) (omega arith) ∙ pointer) inside (omega (arith, lower)) (omega (arith, upper))
        (λ n s. x.kept n (λ e. absurd (omega (arith, s.0, e))) (λ e. absurd (omega (arith, s.0, e))) ∙ regs n s) (λ j out. with_outside four h.stack (sp + k) j (outer j out) ∙ stacks j out) (stands_back image.code at i rest has) in
        let start : sp + (k + 4) ≡ sp + k + 1 + 1 + 1 + 1 = omega arith in
        let s2 : ℕ → ℕ = with_words s1 (sp + (k + 4)) (branch_words sp got bs cs) in
        stored_at image small h p (at + length i + length rest) (at + length (i ++ rest)) s2 (with_words s1 (sp + k + 1 + 1 + 1 + 1) (branch_words sp got bs cs)) (omega (arith, length-append i rest)) (ap (λ n. with_words s1 n (branch_words sp got bs cs)) start)
        (then_stored image small h p (at + length i) (at + length i + length rest) s1 s2 x y) where
          outer : (j : ℕ) → (j < sp + area) ⊎ (sp + area + size ≤ j) → (j < sp + k) ⊎ (sp + k + 4 ≤ j)
          outer j (inl e) = inl (omega (arith, e, lower))
          outer j (inr e) = inr (omega (arith, e, upper))

  -- ---- what the records say

  -- the words that a branch sends or receives have a place in the stack, and those that it sends stand there
  pub record Placed (slots : Slots) (stack : ℕ → ℕ) (b : TalkBranch) : Type 0 where
    pub few : b.words ≤ 1024
    pub receives : b.send ≡ None → sp + got + b.words ≤ 2 ^ 20
    pub sends : (t : ℕ) → b.send ≡ Some t → (sp + t + b.words ≤ 2 ^ 20) × ((ws : List ℕ) → words_at slots t b.words ≡ Some ws → words_from stack (sp + t) b.words ≡ ws)

  one_said : (slots : Slots) (h : Hart) (b : TalkBranch) (a : ActBranch) → Placed slots h.stack b → Says slots b a → branch_said h a.chan (direction b.send) (STACK_START + 4 * (sp + words_place got b.send)) b.words ≡ Some a
  one_said slots h b a placed says = on b.send refl says.send where
    count : nat_le b.words 1024 ≡ true
    count = let few = placed.few in grind (arith, nat_tests, few)

    made : (s : Option (List ℕ)) → s ≡ a.send → Some (record { chan = a.chan; words = b.words; send = s }) ≡ Some a
    made s e = ap₂ (λ (n : ℕ) (q : Option (List ℕ)). Some (record { chan = a.chan; words = n; send = q })) (sym says.words) e

    some_is : {X : Type 0} {i j : X} → Some i ≡ Some j → i ≡ j
    some_is e = cc

    on : (s : Option ℕ) → b.send ≡ s → sent_at slots b.words s ≡ Some a.send → branch_said h a.chan (direction s) (STACK_START + 4 * (sp + words_place got s)) b.words ≡ Some a
    on None f g =
        let q = some_place (sp + got) b.words (placed.receives f) in
        ap (λ (t : Bool). if t then option_map (λ place. record { chan = a.chan; words = b.words; send = None }) (stack_place (STACK_START + 4 * (sp + got)) b.words) else None) count
        ∙ ap (λ (o : Option ℕ). option_map (λ place. record { chan = a.chan; words = b.words; send = None }) o) q.1 ∙ made None (some_is g)
    on (Some t) f g = sent (words_at slots t b.words) refl g where
      sent : (o : Option (List ℕ)) → words_at slots t b.words ≡ o → option_map (λ (x : List ℕ). Some x) o ≡ Some a.send → branch_said h a.chan 1 (STACK_START + 4 * (sp + t)) b.words ≡ Some a
      sent (Some ws) k g1 =
          let q = placed.sends t f in
          ap (λ (x : Bool). if x then option_map (λ (words : List ℕ). record { chan = a.chan; words = b.words; send = Some words }) (stack_words h (STACK_START + 4 * (sp + t)) b.words) else None) count
          ∙ ap (λ (o : Option (List ℕ)). option_map (λ (words : List ℕ). record { chan = a.chan; words = b.words; send = Some words }) o) (stack_words_are h (sp + t) b.words q.0 ∙ ap (λ (x : List ℕ). Some x) (q.1 ws k)) ∙ made (Some ws) (some_is g1)
      sent None k g1 = absurd (cc)

  abbrev pub ArePlaced : (slots : Slots) (stack : ℕ → ℕ) → List TalkBranch → Type 0
  ArePlaced slots stack [] = Unit {0}
  ArePlaced slots stack (b ∷ bs) = Placed slots stack b × ArePlaced slots stack bs

  pub branches_said : (slots : Slots) (h : Hart) (bs : List TalkBranch) (cs : List ActBranch) (first : ℕ) → branches_of slots bs ≡ Some cs → ArePlaced slots h.stack bs → AreAt h.stack first (branch_words sp got bs cs)
      → branches_from h first (length bs) ≡ Some cs
  branches_said slots h [] cs first e placed are = ap (λ (x : List ActBranch). Some x) (sym (none_says slots cs e))
  branches_said slots h (b ∷ bs) cs first e placed are =
      let s = says_all slots b bs cs e in
      let q = subst (λ (y : List ActBranch). AreAt h.stack first (branch_words sp got (b ∷ bs) y)) s.is are in
      let third : first + 2 ≡ first + 1 + 1 = omega arith in
      let fourth : first + 3 ≡ first + 1 + 1 + 1 = omega arith in
      let next : first + 4 ≡ first + 1 + 1 + 1 + 1 = omega arith in
      let one : branch_said h (h.stack first) (h.stack (first + 1)) (h.stack (first + 2)) (h.stack (first + 3)) ≡ Some s.first =
      ap₂ (λ (i j : ℕ). branch_said h i j (h.stack (first + 2)) (h.stack (first + 3))) q.0 q.1.0
      ∙ ap₂ (λ (i j : ℕ). branch_said h s.first.chan (direction b.send) i j) (ap h.stack third ∙ q.1.1.0) (ap h.stack fourth ∙ q.1.1.1.0) ∙ one_said slots h b s.first placed.0 s.says in
      ap₂ (λ (x : Option ActBranch) (y : Option (List ActBranch)). also x y) one
      (ap (λ n. branches_from h n (length bs)) next ∙ branches_said slots h bs s.rest (first + 1 + 1 + 1 + 1) s.others placed.1 q.1.1.1.1)
      ∙ ap (λ (x : List ActBranch). Some x) (sym s.is)
