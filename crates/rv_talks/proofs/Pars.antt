-- Harts follow starts of the branches of par: records of the starts stand in the frame.
use Rattle.std.proofs.Common.{◌≡◌, ℕ, suc, ◌+◌, ◌*◌, ◌^◌, ◌<◌, ◌≤◌, true, List, [], ◌∷◌, ◌++◌, length, map, Option, Some, refl, ap, ap₂, ◌∙◌, arith, length-append}
use Rattle.std.specs.Prelude.{All}
use Rattle.al_event.specs.declared.act.Start.{Start}
use Rattle.rv_isa.specs.declared.addresses.TheConstants.{STACK_START}
use Rattle.rv_isa.specs.declared.image.Contents.{Contents}
use Rattle.rv_isa.specs.declared.instr.Instr.{Instr}
use Rattle.rv_exec.specs.Hart.{Hart, put}
use Rattle.rv_exec.specs.Windows.{words_from}
use Rattle.rv_exec.specs.Calls.{Privates, also, start_of, starts_from, has_function}
use Rattle.rv_code.specs.Jumps.{place}
use Rattle.rv_code.specs.Runs.{Stands, Fine}
use Rattle.rv_code.proofs.Leading.{stands_front, stands_back}
use Rattle.rv_form.specs.Acts.{store_number, store_address, start_record, start_records}
use Rattle.rv_talks.proofs.Records.{with_words, AreAt, Stored, none_stored, behind_it, then_stored, stored_at, stores_number, stores_address}
use Rattle.rv_talks.proofs.Starts.{start_is}

-- the words of the records of starts with equal words, which stand at an address
abbrev pub start_words : (address words : ℕ) → List ℕ → List ℕ
start_words address words [] = []
start_words address words (f ∷ fs) = f ∷ address ∷ words ∷ start_words address words fs

pub start_count : (address words : ℕ) (fs : List ℕ) → length (start_words address words fs) ≡ 3 * length fs
start_count address words [] = refl
start_count address words (f ∷ fs) = omega (arith, start_count address words fs)

module _ (image : Contents) (small : length image.code ≤ 2 ^ 23) (sp arguments words : ℕ) (room : sp + arguments ≤ 2 ^ 21) (few : words < 2 ^ 32) where
  abbrev address : ℕ
  address = STACK_START + 4 * (sp + arguments)

  one_record : (f k at : ℕ) (h : Hart) (p : Privates) → Fine h p → f < 2 ^ 32 → h.pc ≡ place at → h.registers 2 ≡ STACK_START + 4 * sp → sp + k + 3 ≤ 2 ^ 20 → Stands image.code at (start_record arguments words f k)
      → Stored image small h p (at + length (start_record arguments words f k)) (with_words h.stack (sp + k) (f ∷ address ∷ words ∷ []))
  one_record f k at h p fine fits here pointer inside has =
      let i : List Instr = store_number f k in
      let j : List Instr = store_address arguments (k + 1) in
      let n : List Instr = store_number words (k + 2) in
      let s1 : ℕ → ℕ = put h.stack (sp + k) f in
      let s2 : ℕ → ℕ = put s1 (sp + k + 1) address in
      let a = stores_number image small h p fine at sp k (sp + k) here pointer (omega (arith, inside)) refl f fits (stands_front image.code at i (j ++ n) has) in
      let code1 = stands_back image.code at i (j ++ n) has in
      let h1 : Hart = behind_it image small h p (at + length i) s1 a in
      let b = stores_address image small h1 p (a.leads.fine fine) (at + length i) sp (k + 1) (sp + k + 1) a.there (a.kept 2 (omega arith) (omega arith) ∙ pointer) (omega (arith, inside)) (omega arith) arguments room
      (stands_front image.code (at + length i) j n code1) in
      let ab = then_stored image small h p (at + length i) (at + length i + length j) s1 s2 a b in
      let h2 : Hart = behind_it image small h p (at + length i + length j) s2 ab in
      let d = stores_number image small h2 p (ab.leads.fine fine) (at + length i + length j) sp (k + 2) (sp + k + 1 + 1) ab.there (ab.kept 2 (omega arith) (omega arith) ∙ pointer) (omega (arith, inside)) (omega arith) words few
      (stands_back image.code (at + length i) j n code1) in
      stored_at image small h p (at + length i + length j + length n) (at + length (i ++ (j ++ n))) (put s2 (sp + k + 1 + 1) words) (put s2 (sp + k + 1 + 1) words) (omega (arith, length-append i (j ++ n), length-append j n)) refl
      (then_stored image small h p (at + length i + length j) (at + length i + length j + length n) s2 (put s2 (sp + k + 1 + 1) words) ab d)

  pub records_stored : (fs : List ℕ) (k at : ℕ) (h : Hart) (p : Privates) → Fine h p → All (λ f. f < 2 ^ 32) fs → h.pc ≡ place at → h.registers 2 ≡ STACK_START + 4 * sp → sp + k + 3 * length fs ≤ 2 ^ 20
      → Stands image.code at (start_records arguments words fs k) → Stored image small h p (at + length (start_records arguments words fs k)) (with_words h.stack (sp + k) (start_words address words fs))
  records_stored [] k at h p fine fits here pointer inside has = none_stored image small h p at here
  records_stored (f ∷ fs) k at h p fine fits here pointer inside has =
      let i : List Instr = start_record arguments words f k in
      let rest : List Instr = start_records arguments words fs (k + 3) in
      let s1 : ℕ → ℕ = with_words h.stack (sp + k) (f ∷ address ∷ words ∷ []) in
      let a = one_record f k at h p fine (fits 0 f (omega arith)) here pointer (omega (arith, inside)) (stands_front image.code at i rest has) in
      let h1 : Hart = behind_it image small h p (at + length i) s1 a in
      let b = records_stored fs (k + 3) (at + length i) h1 p (a.leads.fine fine) (λ j d less. fits (suc j) d (omega (arith, less))) a.there (a.kept 2 (omega arith) (omega arith) ∙ pointer) (omega (arith, inside)) (stands_back image.code at i rest has) in
      let s2 : ℕ → ℕ = with_words s1 (sp + (k + 3)) (start_words address words fs) in
      let start : sp + (k + 3) ≡ sp + k + 1 + 1 + 1 = omega arith in
      stored_at image small h p (at + length i + length rest) (at + length (i ++ rest)) s2 (with_words s1 (sp + k + 1 + 1 + 1) (start_words address words fs)) (omega (arith, length-append i rest)) (ap (λ n. with_words s1 n (start_words address words fs)) start)
      (then_stored image small h p (at + length i) (at + length i + length rest) s1 s2 a b)

  -- the records say the starts
  pub starts_are : (h : Hart) (ws : List ℕ) (fs : List ℕ) (first : ℕ) → AreAt h.stack first (start_words address words fs) → sp + arguments + words ≤ 2 ^ 20 → words_from h.stack (sp + arguments) words ≡ ws
      → All (λ f. has_function image f words ≡ true) fs → starts_from image h first (length fs) ≡ Some (map (λ f. record { code = f; words = ws }) fs)
  starts_are h ws [] first are inside here known = refl
  starts_are h ws (f ∷ fs) first are inside here known =
      let second : first + 2 ≡ first + 1 + 1 = omega arith in
      let next : first + 3 ≡ first + 1 + 1 + 1 = omega arith in
      let one : start_of image h (h.stack first) (h.stack (first + 1)) (h.stack (first + 2)) ≡ Some (record { code = f; words = ws }) =
      ap₂ (λ (i j : ℕ). start_of image h i j (h.stack (first + 2))) are.0 are.1.0 ∙ ap (start_of image h f address) (ap h.stack second ∙ are.1.1.0) ∙ start_is image h f (sp + arguments) words ws (known 0 f (omega arith)) inside here in
      ap₂ (λ (a : Option Start) (b : Option (List Start)). also a b) one
      (ap (λ n. starts_from image h n (length fs)) next ∙ starts_are h ws fs (first + 1 + 1 + 1) are.1.1.1 inside here (λ j d less. known (suc j) d (omega (arith, less))))
