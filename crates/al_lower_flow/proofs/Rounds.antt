-- `do`.
use Rattle.std.proofs.Common.{◌≡◌, ℕ, zero, suc, ◌+◌, ◌≤◌, List, [], ◌∷◌, ◌++◌, length, Option, Some, None, refl, sym, ap, ◌∙◌, subst, arith, length-append}
use Rattle.std.specs.Prelude.{⊤, true, false, if◌then◌else◌}
use Rattle.al_meaning.specs.Words.{is_zero}
use Rattle.al_meaning.specs.Tasks.{Still, Outcome, Env, Rest, Task, Ways, leave_to, in_line, a_turn}
use Rattle.al_meaning.specs.Meant.{Given, Part, knowing_next, in_loop, then_next, inside, rest_of_round, do_rounds}
use Rattle.al_ir.specs.declared.ir.Operation.{Operation}
use Rattle.al_ir.specs.declared.op.Op.TheVariants as op
use Rattle.al_ir.specs.Control.{Slots}
use Rattle.al_ir.specs.Step.{private_step}
use Rattle.al_ir.specs.Meaning.{control_weight, resume}
use Rattle.al_ir.proofs.Lighter.{lighter}
use Rattle.al_lowered.proofs.Does.{unfinished}
use Rattle.al_lower_steps.specs.Site.{Site, HasOperation, HasAt}
use Rattle.al_lower_steps.proofs.Steps.{has_front, has_back}
use Rattle.al_lower_steps.proofs.Jumps.{turn_does}
use Rattle.al_lower_code.specs.Homes.{Spot, operation}
use Rattle.al_lower_code.specs.Statements.{Onward, Targets}
use Rattle.al_lower_code.specs.Statements as code
use Rattle.al_lower_flow.proofs.Flow.{GoesOn, goes_at, if_true, if_false, Round, round_loop, ways, JumpsDo, TestDoes, Means, From, PieceDoes}

module _ (x : Site) (V : Env → Slots → Type 0) (s : Spot) (call : ℕ → List ℕ → Still → Given → Outcome) (return : ℕ → Option (List ℕ) → Rest) (become : ℕ → ℕ → List ℕ → Rest) (Known : ℕ → Type 0) where
  abbrev Piece : (breaks loops : ℕ) → (ops : Targets → ℕ → List Operation) → (size : ℕ) → (mean : ℕ → Part) → (part : ℕ → ℕ → Option Part) → (place : ℕ → ℕ → Option ℕ) → Type 0
  Piece = PieceDoes x V s call return become Known

  module _ (line : ℕ) (tests : (count : ℕ) → List Operation) (head : ℕ) (test : Ways → Task (List ℕ)) (t : TestDoes x V s call return become Known line tests head test) where
    abbrev pub do_code : (ops : Targets → ℕ → List Operation) → (size : ℕ) → Targets → ℕ → List Operation
    do_code ops size c pc =
        ops (code.in_loop (pc + size + head + 1) (Onward (pc + size)) c) pc ++ (tests 1 ++ operation line (op.Turn pc) ∷ [])

    -- behind the body: the condition, and a round more is a turn
    abbrev further : (k : ℕ) → Part → Ways → Rest → Rest
    further k m w next env st = test w env st (λ v env st. if is_zero v then next env st else then_next (a_turn w) (do_rounds k (test w) m w next) env st)

    module _ (breaks loops size : ℕ) (ops : Targets → ℕ → List Operation) (m : Part) (sized : (c : Targets) (pc : ℕ) → length (ops c pc) ≡ size) where
      module _ (pc : ℕ) (c : Targets) (jump : ℕ → Rest) (behind again : List Rest) (next : Rest) (has : HasAt x pc (do_code ops size c pc)) (round : Round x V breaks loops (pc + (size + (head + 1))) c behind again) (jumps : JumpsDo x V s call return become Known c jump) (go : GoesOn x V (pc + (size + (head + 1))) next) where
        abbrev inner : Targets
        inner = code.in_loop (pc + size + head + 1) (Onward (pc + size)) c

        abbrev w : Ways
        w = ways x V s call return become Known line jump behind again

        behind_body : HasAt x (pc + size) (tests 1 ++ operation line (op.Turn pc) ∷ [])
        behind_body = subst (λ n. HasAt x (pc + n) (tests 1 ++ operation line (op.Turn pc) ∷ [])) (sized inner pc) (has_back x pc (ops inner pc) (tests 1 ++ operation line (op.Turn pc) ∷ []) has)

        last_turn : HasOperation x (pc + size + head) line (op.Turn pc)
        last_turn = subst (λ n. HasOperation x (pc + size + n) line (op.Turn pc)) (t.sized 1) (has_back x (pc + size) (tests 1) (operation line (op.Turn pc) ∷ []) behind_body).0

        turned : (k : ℕ) → GoesOn x V pc (do_rounds k (test w) m w next) → GoesOn x V (pc + size + head) (then_next (a_turn w) (do_rounds k (test w) m w next))
        turned k g = record { by = λ env st slots last vars. turn_does x (λ st. do_rounds k (test w) m w next env st) last_turn (λ st. g.by env st slots last vars) }

        tested : (k : ℕ) → GoesOn x V pc (do_rounds k (test w) m w next) → GoesOn x V (pc + size) (further k m w next)
        tested k g =
            let end : pc + size + head + 1 ≡ pc + (size + (head + 1)) = omega arith in
            let more : Rest = then_next (a_turn w) (do_rounds k (test w) m w next) in
            t.by jump behind again 1 (pc + size) (λ v env st. if is_zero v then next env st else more env st) (has_front x (pc + size) (tests 1) (operation line (op.Turn pc) ∷ []) behind_body) (λ v e. if_true x V next more (is_zero v) e (goes_at x V end go)) (λ v e. if_false x V next more (is_zero v) e (turned k g))

        body_does : (k : ℕ) → GoesOn x V pc (do_rounds k (test w) m w next) → (line0 : ℕ) (q : Part) (at : ℕ) → Means x V s call return become Known (suc breaks) (suc loops) ops size q pc at → GoesOn x V at (λ env st. q (ways x V s call return become Known line0 jump (next ∷ behind) (further k m w next ∷ again)) env st (λ _. further k m w next))
        body_does k g line0 q at h =
            let end : pc + size + head + 1 ≡ pc + (size + (head + 1)) = omega arith in
            h line0 inner jump (next ∷ behind) (further k m w next ∷ again) (further k m w next) (has_front x pc (ops inner pc) (tests 1 ++ operation line (op.Turn pc) ∷ []) has)
            (round_loop x V (pc + size) (pc + size + head + 1) (Onward (pc + size)) (omega arith) round (omega arith) (goes_at x V end go) (omega arith, tested k g)) jumps (tested k g)

        rounds : (h : Means x V s call return become Known (suc breaks) (suc loops) ops size m pc pc) → (k : ℕ) → GoesOn x V pc (do_rounds k (test w) m w next)
        rounds h zero = record { by = λ env st slots last vars. unfinished (private_step x.ir) (control_weight x.ir) resume (lighter x.ir) x.rules }
        rounds h (suc k) = body_does k (rounds h k) line m pc h

    module _ {breaks loops size : ℕ} {ops : Targets → ℕ → List Operation} {mean : ℕ → Part} {part : ℕ → ℕ → Option Part} {place : ℕ → ℕ → Option ℕ} (h : Piece (suc breaks) (suc loops) ops size mean part place) where
      abbrev again_from : (n : ℕ) → Ways → Rest → Rest
      again_from n w next = further n (mean n) (in_line line w) next

      from_inside : (n pc : ℕ) → (q : Part) → (at : ℕ) → Means x V s call return become Known (suc breaks) (suc loops) ops size q pc at → Means x V s call return become Known breaks loops (do_code ops size) (size + (head + 1)) (rest_of_round (again_from n) q) pc at
      from_inside n pc q at f line0 c jump behind again next has round jumps go =
          body_does breaks loops size ops (mean n) h.sized pc c jump behind again next has round jumps go n (rounds breaks loops size ops (mean n) h.sized pc c jump behind again next has round jumps go (h.by n pc) n) line0 q at f

      on : (n pc : ℕ) (o : Option Part) (i : Option ℕ) → From x V s call return become Known (suc breaks) (suc loops) ops size pc o i → From x V s call return become Known breaks loops (do_code ops size) (size + (head + 1)) pc (inside (rest_of_round (again_from n)) o) i
      on n pc None None f = tt
      on n pc (Some q) (Some at) f = from_inside n pc q at f
      on n pc None (Some at) f = absurd f
      on n pc (Some q) None f = absurd f

      code_size : (c : Targets) (pc : ℕ) → length (do_code ops size c pc) ≡ size + (head + 1)
      code_size c pc =
          let inner = code.in_loop (pc + size + head + 1) (Onward (pc + size)) c in
          let a = t.sized 1 in
          let b = h.sized inner pc in
          omega (arith, a, b, length-append (ops inner pc) (tests 1 ++ operation line (op.Turn pc) ∷ []), length-append (tests 1) (operation line (op.Turn pc) ∷ []))

      pub do_piece : Piece breaks loops (do_code ops size) (size + (head + 1)) (λ n w. knowing_next (λ next. leave_to (do_rounds n (test (in_line line w)) (mean n) (in_line line w) next))) (λ l n. inside (rest_of_round (again_from n)) (part l n)) place
      do_piece = record {
        sized = code_size;
        by = λ n pc line0 c jump behind again next has round jumps go. rounds breaks loops size ops (mean n) h.sized pc c jump behind again next has round jumps go (h.by n pc) n;
        from = λ n l pc. on n pc (part l n) (place l pc) (h.from n l pc);
      }
