-- Choices and loops.
use Rattle.std.proofs.Common.{◌≡◌, ℕ, zero, suc, ◌+◌, ◌≤◌, List, [], ◌∷◌, ◌++◌, length, Option, Some, None, refl, sym, ap, ◌∙◌, subst, arith, length-append}
use Rattle.std.specs.Prelude.{⊤, true, false, if◌then◌else◌}
use Rattle.al_meaning.specs.Words.{is_zero}
use Rattle.al_meaning.specs.Tasks.{Still, Outcome, Env, Rest, Task, Ways, ◌>>=◌, ◌>>◌, give, leave_to, if_zero, in_line, a_turn, turn_in}
use Rattle.al_meaning.specs.Parts.{first_of_two}
use Rattle.al_meaning.specs.Meant.{Given, Part, knowing_next, in_loop, then_next, then_part, inside, rest_of_round, while_rounds}
use Rattle.al_ir.specs.declared.ir.Operation.{Operation}
use Rattle.al_ir.specs.declared.op.Op.TheVariants as op
use Rattle.al_ir.specs.Control.{Slots}
use Rattle.al_ir.specs.Step.{private_step}
use Rattle.al_ir.specs.Meaning.{control_weight, resume}
use Rattle.al_ir.proofs.Lighter.{lighter}
use Rattle.al_lowered.proofs.Does.{unfinished}
use Rattle.al_lower_steps.specs.Site.{Site, HasOperation, HasAt}
use Rattle.al_lower_steps.proofs.Steps.{Runs, has_front, has_back}
use Rattle.al_lower_steps.proofs.Jumps.{turn_does, skip_does}
use Rattle.al_lower_code.specs.Homes.{Spot, operation}
use Rattle.al_lower_code.specs.Statements.{Again, Turned, Onward, Targets}
use Rattle.al_lower_code.specs.Statements as code
use Rattle.al_lower_flow.proofs.Flow.{GoesOn, goes_at, if_true, if_false, Round, round_less, round_loop, ways, JumpsDo, TestDoes, Means, From, PieceDoes}

module _ (x : Site) (V : Env → Slots → Type 0) (s : Spot) (call : ℕ → List ℕ → Still → Given → Outcome) (return : ℕ → Option (List ℕ) → Rest) (become : ℕ → ℕ → List ℕ → Rest) (Known : ℕ → Type 0) where
  abbrev Ways_ : (line : ℕ) → (ℕ → Rest) → (behind again : List Rest) → Ways
  Ways_ line jump behind again = ways x V s call return become Known line jump behind again

  abbrev Piece : (breaks loops : ℕ) → (ops : Targets → ℕ → List Operation) → (size : ℕ) → (mean : ℕ → Part) → (part : ℕ → ℕ → Option Part) → (place : ℕ → ℕ → Option ℕ) → Type 0
  Piece = PieceDoes x V s call return become Known

  abbrev Test : (line : ℕ) → (ops : (count : ℕ) → List Operation) → (size : ℕ) → (test : Ways → Task (List ℕ)) → Type 0
  Test = TestDoes x V s call return become Known

  -- ---- while

  module _ (line : ℕ) (tests : (count : ℕ) → List Operation) (head : ℕ) (test : Ways → Task (List ℕ)) (t : Test line tests head test) where
    abbrev pub while_code : (ops : Targets → ℕ → List Operation) → (size : ℕ) → Targets → ℕ → List Operation
    while_code ops size c pc = tests (size + 1) ++ (ops (code.in_loop (pc + head + size + 1) (Turned line pc) c) (pc + head) ++ operation line (op.Turn pc) ∷ [])

    -- after the body, before the next round
    abbrev further : (k : ℕ) → Part → Ways → Rest → Rest
    further k m w next = then_next (a_turn w) (while_rounds k (test w) m w next)

    module _ (breaks loops size : ℕ) (ops : Targets → ℕ → List Operation) (m : Part) (sized : (c : Targets) (pc : ℕ) → length (ops c pc) ≡ size) where
      module _ (pc : ℕ) (c : Targets) (jump : ℕ → Rest) (behind again : List Rest) (next : Rest) (has : HasAt x pc (while_code ops size c pc)) (round : Round x V breaks loops (pc + (head + (size + 1))) c behind again) (jumps : JumpsDo x V s call return become Known c jump) (go : GoesOn x V (pc + (head + (size + 1))) next) where
        abbrev inner : Targets
        inner = code.in_loop (pc + head + size + 1) (Turned line pc) c

        abbrev w : Ways
        w = Ways_ line jump behind again

        behind_test : HasAt x (pc + head) (ops inner (pc + head) ++ operation line (op.Turn pc) ∷ [])
        behind_test = subst (λ n. HasAt x (pc + n) (ops inner (pc + head) ++ operation line (op.Turn pc) ∷ [])) (t.sized (size + 1)) (has_back x pc (tests (size + 1)) (ops inner (pc + head) ++ operation line (op.Turn pc) ∷ []) has)

        -- a turn of this loop leads to its next round
        turned : (k : ℕ) → GoesOn x V pc (while_rounds k (test w) m w next) → (at : ℕ) → HasOperation x at line (op.Turn pc) → GoesOn x V at (further k m w next)
        turned k g at h = record { by = λ env st slots last vars. turn_does x (λ st. while_rounds k (test w) m w next env st) h (λ st. g.by env st slots last vars) }

        -- the place of the turn behind the body
        last_turn : HasOperation x (pc + head + size) line (op.Turn pc)
        last_turn = subst (λ n. HasOperation x (pc + head + n) line (op.Turn pc)) (sized inner (pc + head)) (has_back x (pc + head) (ops inner (pc + head)) (operation line (op.Turn pc) ∷ []) behind_test).0

        -- a body, or the rest of one, in a round behind which there are at most k more
        body_does : (k : ℕ) → GoesOn x V pc (while_rounds k (test w) m w next) → (line0 : ℕ) (q : Part) (at : ℕ) → Means x V s call return become Known (suc breaks) (suc loops) ops size q (pc + head) at → GoesOn x V at (λ env st. q (Ways_ line0 jump (next ∷ behind) (further k m w next ∷ again)) env st (λ _. further k m w next))
        body_does k g line0 q at h =
            let end : pc + head + size + 1 ≡ pc + (head + (size + 1)) = omega arith in
            h line0 inner jump (next ∷ behind) (further k m w next ∷ again) (further k m w next) (has_front x (pc + head) (ops inner (pc + head)) (operation line (op.Turn pc) ∷ []) behind_test)
            (round_loop x V (pc + head + size) (pc + head + size + 1) (Turned line pc) (omega arith) round (omega arith) (goes_at x V end go) (λ at h. turned k g at h)) jumps (turned k g (pc + head + size) last_turn)

        -- a round, and at most k more
        abbrev round_of : (k : ℕ) → Rest
        round_of k env st = m (in_loop next (further k m w next) w) env st (λ _. further k m w next)

        rounds : (h : Means x V s call return become Known (suc breaks) (suc loops) ops size m (pc + head) (pc + head)) → (k : ℕ) → GoesOn x V pc (while_rounds k (test w) m w next)
        rounds h zero = record { by = λ env st slots last vars. unfinished (private_step x.ir) (control_weight x.ir) resume (lighter x.ir) x.rules }
        rounds h (suc k) =
            let end : pc + head + (size + 1) ≡ pc + (head + (size + 1)) = omega arith in
            t.by jump behind again (size + 1) pc (λ v env st. if is_zero v then next env st else round_of k env st) (has_front x pc (tests (size + 1)) (ops inner (pc + head) ++ operation line (op.Turn pc) ∷ []) has) (λ v e. if_true x V next (round_of k) (is_zero v) e (goes_at x V end go)) (λ v e. if_false x V next (round_of k) (is_zero v) e (body_does k (rounds h k) line m (pc + head) h))

    -- what a loop does, from its start and from a label in its body
    module _ {breaks loops size : ℕ} {ops : Targets → ℕ → List Operation} {mean : ℕ → Part} {part : ℕ → ℕ → Option Part} {place : ℕ → ℕ → Option ℕ} (h : Piece (suc breaks) (suc loops) ops size mean part place) where
      abbrev again_from : (n : ℕ) → Ways → Rest → Rest
      again_from n w next = then_next (a_turn (in_line line w)) (while_rounds n (test (in_line line w)) (mean n) (in_line line w) next)

      abbrev from_inside : (n pc : ℕ) → (q : Part) → (at : ℕ) → Means x V s call return become Known (suc breaks) (suc loops) ops size q (pc + head) at → Means x V s call return become Known breaks loops (while_code ops size) (head + (size + 1)) (rest_of_round (again_from n) q) pc at
      from_inside n pc q at f line0 c jump behind again next has round jumps go =
          body_does breaks loops size ops (mean n) h.sized pc c jump behind again next has round jumps go n (rounds breaks loops size ops (mean n) h.sized pc c jump behind again next has round jumps go (h.by n (pc + head)) n) line0 q at f

      on : (n pc : ℕ) (o : Option Part) (i : Option ℕ) → From x V s call return become Known (suc breaks) (suc loops) ops size (pc + head) o i → From x V s call return become Known breaks loops (while_code ops size) (head + (size + 1)) pc (inside (rest_of_round (again_from n)) o) i
      on n pc None None f = tt
      on n pc (Some q) (Some at) f = from_inside n pc q at f
      on n pc None (Some at) f = absurd f
      on n pc (Some q) None f = absurd f

      code_size : (c : Targets) (pc : ℕ) → length (while_code ops size c pc) ≡ head + (size + 1)
      code_size c pc =
          let body = ops (code.in_loop (pc + head + size + 1) (Turned line pc) c) (pc + head) in
          let a = t.sized (size + 1) in
          let b = h.sized (code.in_loop (pc + head + size + 1) (Turned line pc) c) (pc + head) in
          omega (arith, a, b, length-append (tests (size + 1)) (body ++ operation line (op.Turn pc) ∷ []), length-append body (operation line (op.Turn pc) ∷ []))

      pub while_piece : Piece breaks loops (while_code ops size) (head + (size + 1)) (λ n w. knowing_next (λ next. leave_to (while_rounds n (test (in_line line w)) (mean n) (in_line line w) next))) (λ l n. inside (rest_of_round (again_from n)) (part l n)) (λ l pc. place l (pc + head))
      while_piece = record {
        sized = code_size;
        by = λ n pc line0 c jump behind again next has round jumps go. rounds breaks loops size ops (mean n) h.sized pc c jump behind again next has round jumps go (h.by n (pc + head)) n;
        from = λ n l pc. on n pc (part l n) (place l (pc + head)) (h.from n l (pc + head));
      }
