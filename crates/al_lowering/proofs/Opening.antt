-- The first world of the operations of a program is that of its meaning.
use Rattle.std.proofs.Common.{◌≡◌, ℕ, zero, suc, ◌+◌, ◌%◌, ◌<◌, List, [], ◌∷◌, ◌++◌, length, take, refl, sym, ap, ap₂, ◌∙◌, arith, length-append}
use Rattle.std.specs.Prelude.{map, filter, fold, replicate, sum_by}
use Rattle.std.specs.List.{AllByRecursion}
use Rattle.std.proofs.lemmas.List.{append_assoc, map-append}
use Rattle.std.proofs.lemmas.List.Folds.{fold-map}
use Rattle.std.proofs.Math.Seq.{take-append_seam, drop-append-add}
use Rattle.al_event.specs.declared.act.Start.{Start}
use Rattle.al_event.specs.declared.entry.Entry.{Entry}
use Rattle.al_world.specs.Answers.{AreBytes}
use Rattle.al_world.specs.Step.{seen, opening}
use Rattle.al_typed.specs.declared.program.Global.{Global}
use Rattle.al_typed.specs.declared.program.Local.{Local}
use Rattle.al_typed.specs.declared.program.Program.{Program}
use Rattle.al_typed.specs.Typed.{parameter_types, local_types}
use Rattle.al_typed.specs.WellTyped.{IsWellTyped}
use Rattle.al_meaning.specs.Here.{size_in}
use Rattle.al_meaning.specs.Places.{words_in, is_shared_global, global_bytes, opening_blocks}
use Rattle.al_meaning.specs.Meaning.{main_start, main_words}
use Rattle.al_ir.specs.declared.ir.StartItem.{StartItem}
use Rattle.al_ir.specs.Control.{arguments_of}
use Rattle.al_ir.specs.Control as control
use Rattle.al_ir.specs.Meaning.{tasks, with_item}
use Rattle.al_ir.specs.Meaning as operations
use Rattle.al_lowered.specs.Lowered.{Lowered}
use Rattle.al_lowered.proofs.Chain.{simulates}
use Rattle.al_lower_code.specs.Homes.{behind_locals}
use Rattle.al_lower_code.specs.Functions.{start_item, shared_global, byte_items, string_global, lowered}
use Rattle.al_lower_programs.proofs.Rows.{row_is}
use Rattle.al_lowering.specs.Runs.{StringsAreBytes, meant, made}
use Rattle.al_lowering.proofs.Main.{main_known}

small : (b : ℕ) → b < 256 → b % 256 ≡ b
small b lt = omega (arith, lt)

-- ---- strings

items : (done s : List ℕ) → AreBytes s → fold with_item (done ++ replicate (length s + 1) 0) (byte_items (length done) s) ≡ done ++ (s ++ 0 ∷ [])
items done [] h = refl
items done (b ∷ s) h =
    let rest : List ℕ = replicate (length s + 1) 0 in
    let item : StartItem = record { at = length done; size = 1; word = b } in
    let long : length (b ∷ s) + 1 ≡ suc (length s + 1) = omega arith in
    let here : with_item (done ++ 0 ∷ rest) item ≡ done ++ b ∷ rest = ap₂ (λ (front back : List ℕ). front ++ (b % 256 ∷ back)) (take-append_seam done (0 ∷ rest)) (drop-append-add done (0 ∷ rest) 1) ∙ ap (λ x. done ++ x ∷ rest) (small b h.0) in
    let step : with_item (done ++ replicate (length (b ∷ s) + 1) 0) item ≡ (done ++ b ∷ []) ++ rest = ap (λ n. with_item (done ++ replicate n 0) item) long ∙ (here ∙ sym (append_assoc done (b ∷ []) rest)) in
    let longer : length done + 1 ≡ length (done ++ b ∷ []) = sym (length-append done (b ∷ [])) in
    ap (λ bytes. fold with_item bytes (byte_items (length done + 1) s)) step
    ∙ (ap (λ n. fold with_item ((done ++ b ∷ []) ++ rest) (byte_items n s)) longer
    ∙ (items (done ++ b ∷ []) s h.1 ∙ append_assoc done (b ∷ []) (s ++ 0 ∷ [])))

strings_same : (ss : List (List ℕ)) → AllByRecursion AreBytes ss → map operations.global_bytes (map string_global ss) ≡ map (λ s. s ++ 0 ∷ []) ss
strings_same [] h = refl
strings_same (s ∷ ss) h = ap₂ (λ (x : List ℕ) (xs : List (List ℕ)). x ∷ xs) (items [] s h.0) (strings_same ss h.1)

module _ (p : Program) where
  -- ---- globals

  global_same : (g : Global) → operations.global_bytes (shared_global p g) ≡ global_bytes p g
  global_same g = fold-map with_item (start_item p) (replicate (size_in p g.ty) 0) g.start

  globals_same : (gs : List Global) → map operations.global_bytes (map (shared_global p) gs) ≡ map (global_bytes p) gs
  globals_same [] = refl
  globals_same (g ∷ gs) = ap₂ (λ (x : List ℕ) (xs : List (List ℕ)). x ∷ xs) (global_same g) (globals_same gs)

  pub blocks_same : StringsAreBytes p → operations.opening_blocks (lowered p) ≡ opening_blocks p
  blocks_same h =
      map-append operations.global_bytes (map (shared_global p) (filter is_shared_global p.globals)) (map string_global p.strings)
      ∙ ap₂ (λ (a b : List (List ℕ)). a ++ b) (globals_same (filter is_shared_global p.globals)) (strings_same p.strings h)

  -- ---- the first task

  pub behind_takes : (ls : List Local) (at m : ℕ) → behind_locals p at m m ls ≡ fold (λ a t. a + words_in p t) at (local_types (take m ls))
  behind_takes [] at zero = refl
  behind_takes [] at (suc m) = refl
  behind_takes (l ∷ ls) at zero = refl
  behind_takes (l ∷ ls) at (suc m) = behind_takes ls (at + words_in p l.ty) m

  abbrev started : List ℕ → Start
  started words = record { code = p.main; words = words }

  pub main_same : IsWellTyped p → operations.main_start (lowered p) ≡ main_start p
  main_same W =
      let f = W.main_function in
      let there = W.main.is_there.0 in
      let count : arguments_of (control.function_at (lowered p) p.main) ≡ sum_by (words_in p) (parameter_types f) =
      ap arguments_of (row_is p p.main f there) ∙ (ap (λ (around : List ℕ). behind_locals p (length around) f.parameters f.parameters f.locals) W.main.is_there.1 ∙ behind_takes f.locals 0 f.parameters) in
      ap (λ n. started (replicate n 0)) count ∙ sym (ap (λ o. started (main_words p o)) there)

  pub runs_same : IsWellTyped p → StringsAreBytes p → Lowered p (lowered p) → (region : ℕ) (h : List Entry) → meant p region h ≡ made p region h
  runs_same W bytes keeps region h =
      simulates p (lowered p) keeps (main_start p) (main_known p W) region (opening_blocks p) h
      ∙ ap₂ (λ blocks start. seen (tasks (lowered p)) (opening (tasks (lowered p)) region blocks start) h) (sym (blocks_same bytes)) (sym (main_same W))
