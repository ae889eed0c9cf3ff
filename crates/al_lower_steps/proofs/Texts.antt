-- Texts that are composed and put out.
use Rattle.std.proofs.Common.{◌≡◌, ℕ, zero, suc, ◌+◌, ◌%◌, ◌^◌, ◌<◌, ◌≤◌, List, [], ◌∷◌, ◌++◌, length, Option, Some, refl, ◌∙◌, arith, length-append}
use Rattle.std.specs.Prelude.{Bool, true, false, nat_lt, if◌then◌else◌, slice_index}
use Rattle.std.specs.Fmt.{digits}
use Rattle.al_base.specs.declared.trap.Trap.TheVariants as trap
use Rattle.al_event.specs.declared.act.Act.TheVariants as act
use Rattle.al_world.specs.Control.{cut}
use Rattle.al_meaning.specs.Words.{sum}
use Rattle.al_meaning.specs.Shown.{most_text}
use Rattle.al_meaning.specs.Tasks.{Still, Outcome, Env, Rest, Task, Ways, ask_in, stop_in}
use Rattle.al_meaning.specs.Told.{composed, scan, scan_byte}
use Rattle.al_ir.specs.declared.op.Op.{Op}
use Rattle.al_ir.specs.declared.op.Op.TheVariants.{PutByte, PutCharacter, PutDecimal, PutLongDecimal, PutHex, PutLongHex, PutText, Print}
use Rattle.al_ir.specs.Control.{Slots, put, Byte}
use Rattle.al_ir.specs.Step.{step_op, private_step, composes, decimal_of, pair}
use Rattle.al_ir.specs.Meaning.{control_weight, resume, with_byte}
use Rattle.al_ir.proofs.Lighter.{lighter}
use Rattle.al_lowered.proofs.Does.{one, stops, asks_starting}
use Rattle.al_lower_steps.specs.Slots.{Holds}
use Rattle.al_lower_steps.specs.Site.{Site, with_text, standing, here, HasOperation}
use Rattle.al_lower_steps.proofs.Slots.{put_same, put_other}
use Rattle.al_lower_steps.proofs.Steps.{Out, Runs, step_is}

module _ (x : Site) where
  -- bytes more, or the trap
  composed_does : {line pc : ℕ} {i : Op} {slots last : Slots} (w : Ways) (text bytes : List ℕ) (rest : List ℕ → Task (Option (List ℕ))) (env : Env) (s : Still) (k : Option (List ℕ) → Rest) → w.line ≡ line → HasOperation x pc line i → step_op i (here (with_text text x) line pc 0 slots last s.privates) ≡ composes bytes (here (with_text text x) line pc 0 slots last s.privates) → (length (text ++ bytes) ≤ most_text → Runs (with_text (text ++ bytes) x) (rest (text ++ bytes) env s k) (pc + 1) slots last s) → Runs (with_text text x) (composed w rest text bytes env s k) pc slots last s
  composed_does {line} {pc} {i} {slots} {last} w text bytes rest env s k same has e go = on (nat_lt most_text (length text + length bytes)) refl
    where
      on : (b : Bool) → nat_lt most_text (length text + length bytes) ≡ b → Runs (with_text text x) ((if b then (λ env s next. stop_in w.line (act.Trap trap.Print) s) else rest (text ++ bytes)) env s k) pc slots last s
      on true q =
          rw same (stops (private_step x.ir) (control_weight x.ir) resume (lighter x.ir) x.rules {d = standing (with_text text x) (pc + 1) 0 slots last} (act.Trap trap.Print) line (step_is (with_text text x) line pc 0 i slots last s.privates _ has (e ∙ rw q refl)) refl tt)
      on false q =
          let a = length-append text bytes in
          let small : length text + length bytes ≤ most_text = grind (arith, q) in
          one (private_step x.ir) (control_weight x.ir) resume (lighter x.ir) x.rules {d = standing (with_text (text ++ bytes) x) (pc + 1) 0 slots last} (step_is (with_text text x) line pc 0 i slots last s.privates _ has (e ∙ rw q refl)) (λ u. u) (go (omega (arith, a, small)))

  module _ (w : Ways) (text : List ℕ) (rest : List ℕ → Task (Option (List ℕ))) (env : Env) (s : Still) (k : Option (List ℕ) → Rest) where
    -- the text with these bytes more goes on
    abbrev pub Goes : List ℕ → (pc : ℕ) → (slots last : Slots) → Type 0
    Goes bytes pc slots last = length (text ++ bytes) ≤ most_text → Runs (with_text (text ++ bytes) x) (rest (text ++ bytes) env s k) (pc + 1) slots last s

    abbrev pub Composes : List ℕ → (pc : ℕ) → (slots last : Slots) → Type 0
    Composes bytes pc slots last = Runs (with_text text x) (composed w rest text bytes env s k) pc slots last s

    pub put_byte_does : {pc byte : ℕ} {slots last : Slots} → HasOperation x pc w.line (PutByte byte) → Goes (byte ∷ []) pc slots last → Composes (byte ∷ []) pc slots last
    put_byte_does {pc} {byte} {slots} {last} h go = composed_does {line = w.line} {pc = pc} {i = PutByte byte} {slots = slots} {last = last} w text (byte ∷ []) rest env s k refl h refl go

    pub put_character_does : {pc from v : ℕ} {slots last : Slots} → HasOperation x pc w.line (PutCharacter from) → slots from ≡ Some v → Goes (v % 256 ∷ []) pc slots last → Composes (v % 256 ∷ []) pc slots last
    put_character_does {pc} {from} {v} {slots} {last} h e go = composed_does {line = w.line} {pc = pc} {i = PutCharacter from} {slots = slots} {last = last} w text (v % 256 ∷ []) rest env s k refl h (rw e refl) go

    pub put_decimal_does : {pc from v : ℕ} {signed : Bool} {slots last : Slots} → HasOperation x pc w.line (PutDecimal signed from) → slots from ≡ Some v → Goes (decimal_of signed 32 v) pc slots last → Composes (decimal_of signed 32 v) pc slots last
    put_decimal_does {pc} {from} {v} {signed} {slots} {last} h e go = composed_does {line = w.line} {pc = pc} {i = PutDecimal signed from} {slots = slots} {last = last} w text (decimal_of signed 32 v) rest env s k refl h (rw e refl) go

    pub put_long_decimal_does : {pc from low high : ℕ} {signed : Bool} {slots last : Slots} → HasOperation x pc w.line (PutLongDecimal signed from) → Holds slots from (low ∷ high ∷ []) → Goes (decimal_of signed 64 (pair low high)) pc slots last → Composes (decimal_of signed 64 (pair low high)) pc slots last
    put_long_decimal_does {pc} {from} {low} {high} {signed} {slots} {last} h e go = composed_does {line = w.line} {pc = pc} {i = PutLongDecimal signed from} {slots = slots} {last = last} w text (decimal_of signed 64 (pair low high)) rest env s k refl h (rw (e.0, e.1.0) refl) go

    pub put_hex_does : {pc from v : ℕ} {slots last : Slots} → HasOperation x pc w.line (PutHex from) → slots from ≡ Some v → Goes (digits 16 false v) pc slots last → Composes (digits 16 false v) pc slots last
    put_hex_does {pc} {from} {v} {slots} {last} h e go = composed_does {line = w.line} {pc = pc} {i = PutHex from} {slots = slots} {last = last} w text (digits 16 false v) rest env s k refl h (rw e refl) go

    pub put_long_hex_does : {pc from low high : ℕ} {slots last : Slots} → HasOperation x pc w.line (PutLongHex from) → Holds slots from (low ∷ high ∷ []) → Goes (digits 16 false (pair low high)) pc slots last → Composes (digits 16 false (pair low high)) pc slots last
    put_long_hex_does {pc} {from} {low} {high} {slots} {last} h e go = composed_does {line = w.line} {pc = pc} {i = PutLongHex from} {slots = slots} {last = last} w text (digits 16 false (pair low high)) rest env s k refl h (rw (e.0, e.1.0) refl) go

  -- how the bytes from any place on come out, where at most n are looked at
  abbrev Bytes : ℕ → Ways → (List ℕ → Task (Option (List ℕ))) → (slot pc : ℕ) → Slots → Env → (Option (List ℕ) → Rest) → Type 0
  Bytes n w rest slot pc last env k = (b : ℕ) (text : List ℕ) (slots : Slots) (s : Still) → length text ≤ most_text → most_text + 2 ≤ n + length text → slots slot ≡ Some b → ((text2 : List ℕ) (s2 : Still) (now : Slots) → length text2 ≤ most_text → ((u : ℕ) → (u ≡ slot → ⊥) → now u ≡ slots u) → Runs (with_text text2 x) (rest text2 env s2 k) (pc + 1) now last s2) → Runs (with_text text x) (scan n w rest b text env s k) pc slots last s

  -- The bytes of a `%s`: a slot has the place of the next one. The trap comes at the first byte too much.
  pub put_text_does : {pc slot a : ℕ} {last : Slots} (n : ℕ) (w : Ways) (text : List ℕ) (rest : List ℕ → Task (Option (List ℕ))) (slots : Slots) (env : Env) (s : Still) (k : Option (List ℕ) → Rest) → length text ≤ most_text → most_text + 2 ≤ n + length text → HasOperation x pc w.line (PutText slot) → slots slot ≡ Some a → ((text : List ℕ) (s : Still) (now : Slots) → length text ≤ most_text → ((u : ℕ) → (u ≡ slot → ⊥) → now u ≡ slots u) → Runs (with_text text x) (rest text env s k) (pc + 1) now last s) → Runs (with_text text x) (scan n w rest a text env s k) pc slots last s
  put_text_does {pc} {slot} {a} {last} zero w text rest slots env s k le fuel has h go = absurd (omega (arith, le, fuel))
  put_text_does {pc} {slot} {a} {last} (suc n) w text rest slots env s k le fuel has h go =
      let room : nat_lt most_text (length text) ≡ false = grind (arith, le) in
      asks_starting (private_step x.ir) (control_weight x.ir) resume (lighter x.ir) x.rules {d = record (standing (with_text text x) pc 0 slots last) { into = Byte slot a }} (λ words s. scan_byte w (scan n w rest) rest a text (slice_index words 0) env s k)
      (step_is (with_text text x) w.line pc 0 (PutText slot) slots last s.privates _ has (rw (h, room) refl)) refl tt (λ words s. read (λ b text slots s le fuel h go. put_text_does n w text rest slots env s k le fuel has h go) words s)
    where
      -- a byte was read
      byte : Bytes n w rest slot pc last env k → (b : ℕ) (s : Still) → Out x (scan_byte w (scan n w rest) rest a text b env s k) (with_byte slot a b (record (standing (with_text text x) pc 0 slots last) { into = Byte slot a })) s
      byte more zero s = go text s slots le (λ u ne. refl)
      byte more (suc b) s = on (nat_lt (length text) most_text) refl
        where
          on : (c : Bool) → nat_lt (length text) most_text ≡ c → Runs (with_text (text ++ suc b ∷ []) x) ((if c then scan n w rest (sum a 1) (text ++ suc b ∷ []) else (λ env s next. stop_in w.line (act.Trap trap.Print) s)) env s k) pc (put slot (sum a 1) slots) last s
          on true q =
              let len = length-append text (suc b ∷ []) in
              let less : length text < most_text = grind (arith, q) in
              more (sum a 1) (text ++ suc b ∷ []) (put slot (sum a 1) slots) s (omega (arith, len, less)) (omega (arith, len, fuel)) (put_same slots slot (sum a 1))
              (λ text2 s2 now le2 same. go text2 s2 now le2 (λ u ne. same u ne ∙ put_other slots slot (sum a 1) u ne))
          on false q =
              let len = length-append text (suc b ∷ []) in
              let full : nat_lt most_text (length (text ++ suc b ∷ [])) ≡ true = grind (arith, q, len) in
              let there = put_same slots slot (sum a 1) in
              stops (private_step x.ir) (control_weight x.ir) resume (lighter x.ir) x.rules {d = standing (with_text (text ++ suc b ∷ []) x) (pc + 1) 0 (put slot (sum a 1) slots) last} (act.Trap trap.Print) w.line (step_is (with_text (text ++ suc b ∷ []) x) w.line pc 0 (PutText slot) (put slot (sum a 1) slots) last s.privates _ has (rw (there, full) refl)) refl tt

      read : Bytes n w rest slot pc last env k → (words : List ℕ) (s : Still) → Out x (scan_byte w (scan n w rest) rest a text (slice_index (cut 1 (256 ^ 1) words) 0) env s k) (resume (record (standing (with_text text x) pc 0 slots last) { into = Byte slot a }) (cut 1 (256 ^ 1) words)) s
      read more [] s = byte more 0 s
      read more (b ∷ words) s = byte more (b % 256 ^ 1) s

  -- the text goes out, and none is begun
  pub print_does : {line pc : ℕ} {slots last : Slots} {s : Still} (text : List ℕ) (k : List ℕ → Still → Outcome) → HasOperation x pc line Print → ((s : Still) → Runs (with_text [] x) (k [] s) (pc + 1) slots last s) → Runs (with_text text x) (ask_in line (act.Print text) s k) pc slots last s
  print_does {line} {pc} {slots} {last} {s} text k has go =
      asks_starting (private_step x.ir) (control_weight x.ir) resume (lighter x.ir) x.rules {d = standing (with_text [] x) (pc + 1) 0 slots last} k (step_is (with_text text x) line pc 0 Print slots last s.privates _ has refl) refl tt (λ words s. go s)
