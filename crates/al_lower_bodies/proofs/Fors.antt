-- `for`.
use Rattle.std.proofs.Common.{◌≡◌, ℕ, zero, suc, ◌+◌, List, [], ◌∷◌, ◌++◌, length, Option, Some, None, sym, subst, arith, length-append}
use Rattle.std.specs.Prelude.{if◌then◌else◌}
use Rattle.al_meaning.specs.Words.{is_zero}
use Rattle.al_meaning.specs.Tasks.{Still, Outcome, Env, Rest, Task, Ways, ◌>>◌, leave_to, in_line, a_turn}
use Rattle.al_meaning.specs.Meant.{Given, Part, knowing_next, in_loop, then_next, inside, rest_of_round, for_rounds}
use Rattle.al_ir.specs.declared.ir.Operation.{Operation}
use Rattle.al_ir.specs.declared.op.Op.TheVariants as op
use Rattle.al_ir.specs.Control.{Slots}
use Rattle.al_ir.specs.Step.{private_step}
use Rattle.al_ir.specs.Meaning.{control_weight, resume}
use Rattle.al_ir.proofs.Lighter.{lighter}
use Rattle.al_lowered.proofs.Does.{unfinished}
use Rattle.al_lower_steps.specs.Site.{Site, HasOperation, HasAt}
use Rattle.al_lower_steps.proofs.Steps.{has_front, has_back}
use Rattle.al_lower_steps.proofs.Jumps.{turn_does}
use Rattle.al_lower_code.specs.Homes.{Spot, operation}
use Rattle.al_lower_code.specs.Statements.{Onward, Targets}
use Rattle.al_lower_code.specs.Statements as code
use Rattle.al_lower_flow.proofs.Flow.{GoesOn, goes_at, if_true, if_false, Round, round_loop, ways, JumpsDo, TestDoes, EffectDoes, Means, From, PieceDoes}

module _ (x : Site) (V : Env → Slots → Type 0) (s : Spot) (call : ℕ → List ℕ → Still → Given → Outcome) (return : ℕ → Option (List ℕ) → Rest) (become : ℕ → ℕ → List ℕ → Rest) (Known : ℕ → Type 0) where
  abbrev Piece : (breaks loops : ℕ) → (ops : Targets → ℕ → List Operation) → (size : ℕ) → (mean : ℕ → Part) → (part : ℕ → ℕ → Option Part) → (place : ℕ → ℕ → Option ℕ) → Type 0
  Piece = PieceDoes x V s call return become Known

  module _ (line : ℕ) (begin next_ops : List Operation) (start step : Ways → Task (Unit {0})) (tests : (count : ℕ) → List Operation) (head : ℕ) (test : Ways → Task (List ℕ)) (starts : EffectDoes x V s call return become Known line begin start) (steps : EffectDoes x V s call return become Known line next_ops step) (t : TestDoes x V s call return become Known line tests head test) where
    abbrev turn_back : (round : ℕ) → List Operation
    turn_back round = operation line (op.Turn round) ∷ []

    -- behind its start, from a round on
    abbrev round_code : (ops : Targets → ℕ → List Operation) → (size : ℕ) → Targets → (round : ℕ) → List Operation
    round_code ops size c round =
        let end = round + head + size in
        tests (size + (length next_ops + 1)) ++ (ops (code.in_loop (end + length next_ops + 1) (Onward end) c) (round + head) ++ (next_ops ++ operation line (op.Turn round) ∷ []))

    abbrev pub for_code : (ops : Targets → ℕ → List Operation) → (size : ℕ) → Targets → ℕ → List Operation
    for_code ops size c pc = begin ++ round_code ops size c (pc + length begin)

    abbrev for_size : ℕ → ℕ
    for_size size = length begin + (head + (size + (length next_ops + 1)))

    -- behind the body: the step, and a round more is a turn
    abbrev further : (k : ℕ) → Part → Ways → Rest → Rest
    further k m w next = then_next (step w) (then_next (a_turn w) (for_rounds k (test w) (step w) m w next))

    module _ (breaks loops size : ℕ) (ops : Targets → ℕ → List Operation) (m : Part) (sized : (c : Targets) (pc : ℕ) → length (ops c pc) ≡ size) where
      module _ (round : ℕ) (c : Targets) (jump : ℕ → Rest) (behind again : List Rest) (next : Rest) (has : HasAt x round (round_code ops size c round)) (rnd : Round x V breaks loops (round + (head + (size + (length next_ops + 1)))) c behind again) (jumps : JumpsDo x V s call return become Known c jump) (go : GoesOn x V (round + (head + (size + (length next_ops + 1)))) next) where
        abbrev inner : Targets
        inner = code.in_loop (round + head + size + length next_ops + 1) (Onward (round + head + size)) c

        abbrev w : Ways
        w = ways x V s call return become Known line jump behind again

        behind_test : HasAt x (round + head) (ops inner (round + head) ++ (next_ops ++ turn_back round))
        behind_test = subst (λ n. HasAt x (round + n) (ops inner (round + head) ++ (next_ops ++ turn_back round))) (t.sized (size + (length next_ops + 1))) (has_back x round (tests (size + (length next_ops + 1))) (ops inner (round + head) ++ (next_ops ++ turn_back round)) has)

        behind_body : HasAt x (round + head + size) (next_ops ++ turn_back round)
        behind_body = subst (λ n. HasAt x (round + head + n) (next_ops ++ turn_back round)) (sized inner (round + head)) (has_back x (round + head) (ops inner (round + head)) (next_ops ++ turn_back round) behind_test)

        last_turn : HasOperation x (round + head + size + length next_ops) line (op.Turn round)
        last_turn = (has_back x (round + head + size) next_ops (turn_back round) behind_body).0

        turned : (k : ℕ) → GoesOn x V round (for_rounds k (test w) (step w) m w next) → GoesOn x V (round + head + size + length next_ops) (then_next (a_turn w) (for_rounds k (test w) (step w) m w next))
        turned k g = record { by = λ env st slots last vars. turn_does x (λ st. for_rounds k (test w) (step w) m w next env st) last_turn (λ st. g.by env st slots last vars) }

        stepped : (k : ℕ) → GoesOn x V round (for_rounds k (test w) (step w) m w next) → GoesOn x V (round + head + size) (further k m w next)
        stepped k g = steps.by jump behind again (round + head + size) (then_next (a_turn w) (for_rounds k (test w) (step w) m w next)) (has_front x (round + head + size) next_ops (turn_back round) behind_body) (turned k g)

        body_does : (k : ℕ) → GoesOn x V round (for_rounds k (test w) (step w) m w next) → (line0 : ℕ) (q : Part) (at : ℕ) → Means x V s call return become Known (suc breaks) (suc loops) ops size q (round + head) at → GoesOn x V at (λ env st. q (ways x V s call return become Known line0 jump (next ∷ behind) (further k m w next ∷ again)) env st (λ _. further k m w next))
        body_does k g line0 q at h =
            let end : round + head + size + length next_ops + 1 ≡ round + (head + (size + (length next_ops + 1))) = omega arith in
            h line0 inner jump (next ∷ behind) (further k m w next ∷ again) (further k m w next) (has_front x (round + head) (ops inner (round + head)) (next_ops ++ turn_back round) behind_test)
            (round_loop x V (round + head + size) (round + head + size + length next_ops + 1) (Onward (round + head + size)) (omega arith) rnd (omega arith) (goes_at x V end go) (omega arith, stepped k g)) jumps (stepped k g)

        -- a round, and at most k more
        abbrev round_of : (k : ℕ) → Rest
        round_of k env st = m (in_loop next (further k m w next) w) env st (λ _. further k m w next)

        rounds : (h : Means x V s call return become Known (suc breaks) (suc loops) ops size m (round + head) (round + head)) → (k : ℕ) → GoesOn x V round (for_rounds k (test w) (step w) m w next)
        rounds h zero = record { by = λ env st slots last vars. unfinished (private_step x.ir) (control_weight x.ir) resume (lighter x.ir) x.rules }
        rounds h (suc k) =
            let end : round + head + (size + (length next_ops + 1)) ≡ round + (head + (size + (length next_ops + 1))) = omega arith in
            t.by jump behind again (size + (length next_ops + 1)) round (λ v env st. if is_zero v then next env st else round_of k env st) (has_front x round (tests (size + (length next_ops + 1))) (ops inner (round + head) ++ (next_ops ++ turn_back round)) has) (λ v e. if_true x V next (round_of k) (is_zero v) e (goes_at x V end go)) (λ v e. if_false x V next (round_of k) (is_zero v) e (body_does k (rounds h k) line m (round + head) h))

    module _ {breaks loops size : ℕ} {ops : Targets → ℕ → List Operation} {mean : ℕ → Part} {part : ℕ → ℕ → Option Part} {place : ℕ → ℕ → Option ℕ} (h : Piece (suc breaks) (suc loops) ops size mean part place) where
      abbrev again_from : (n : ℕ) → Ways → Rest → Rest
      again_from n w next = further n (mean n) (in_line line w) next

      module _ (pc : ℕ) (c : Targets) (jump : ℕ → Rest) (behind again : List Rest) (next : Rest) (has : HasAt x pc (for_code ops size c pc)) (rnd : Round x V breaks loops (pc + for_size size) c behind again) (jumps : JumpsDo x V s call return become Known c jump) (go : GoesOn x V (pc + for_size size) next) where
        abbrev round : ℕ
        round = pc + length begin

        end_is : pc + length begin + (head + (size + (length next_ops + 1))) ≡ pc + for_size size
        end_is = omega arith

        code_here : HasAt x (pc + length begin) (round_code ops size c (pc + length begin))
        code_here = has_back x pc begin (round_code ops size c (pc + length begin)) has

        rnd_here : Round x V breaks loops (pc + length begin + (head + (size + (length next_ops + 1)))) c behind again
        rnd_here = subst (λ n. Round x V breaks loops n c behind again) (sym end_is) rnd

        go_here : GoesOn x V (pc + length begin + (head + (size + (length next_ops + 1)))) next
        go_here = goes_at x V end_is go

        all_rounds : (n : ℕ) → GoesOn x V (pc + length begin) (for_rounds n (test (ways x V s call return become Known line jump behind again)) (step (ways x V s call return become Known line jump behind again)) (mean n) (ways x V s call return become Known line jump behind again) next)
        all_rounds n = rounds breaks loops size ops (mean n) h.sized (pc + length begin) c jump behind again next code_here rnd_here jumps go_here (h.by n (pc + length begin + head)) n

        from_inside : (n : ℕ) → (q : Part) → (at : ℕ) → Means x V s call return become Known (suc breaks) (suc loops) ops size q (pc + length begin + head) at → (line0 : ℕ) → GoesOn x V at (λ env st. rest_of_round (again_from n) q (ways x V s call return become Known line0 jump behind again) env st (λ _. next))
        from_inside n q at f line0 = body_does breaks loops size ops (mean n) h.sized (pc + length begin) c jump behind again next code_here rnd_here jumps go_here n (all_rounds n) line0 q at f

      on : (n pc : ℕ) (o : Option Part) (i : Option ℕ) → From x V s call return become Known (suc breaks) (suc loops) ops size (pc + length begin + head) o i → From x V s call return become Known breaks loops (for_code ops size) (for_size size) pc (inside (rest_of_round (again_from n)) o) i
      on n pc None None f = tt
      on n pc (Some q) (Some at) f = λ line0 c jump behind again next has rnd jumps go. from_inside pc c jump behind again next has rnd jumps go n q at f line0
      on n pc None (Some at) f = absurd f
      on n pc (Some q) None f = absurd f

      code_size : (c : Targets) (pc : ℕ) → length (for_code ops size c pc) ≡ for_size size
      code_size c pc =
          let round = pc + length begin in
          let end = round + head + size in
          let body = ops (code.in_loop (end + length next_ops + 1) (Onward end) c) (round + head) in
          let a = t.sized (size + (length next_ops + 1)) in
          let b = h.sized (code.in_loop (end + length next_ops + 1) (Onward end) c) (round + head) in
          omega (arith, a, b, length-append begin (tests (size + (length next_ops + 1)) ++ (body ++ (next_ops ++ turn_back round))), length-append (tests (size + (length next_ops + 1))) (body ++ (next_ops ++ turn_back round)), length-append body (next_ops ++ turn_back round), length-append next_ops (turn_back round))

      abbrev meant_for : ℕ → Part
      meant_for n w = knowing_next (λ next. start (in_line line w) >> leave_to (for_rounds n (test (in_line line w)) (step (in_line line w)) (mean n) (in_line line w) next))

      pub for_piece : Piece breaks loops (for_code ops size) (for_size size) meant_for (λ l n. inside (rest_of_round (again_from n)) (part l n)) (λ l pc. place l (pc + length begin + head))
      for_piece = record {
        sized = code_size;
        by = λ n pc line0 c jump behind again next has rnd jumps go.
            starts.by jump behind again pc (for_rounds n (test (ways x V s call return become Known line jump behind again)) (step (ways x V s call return become Known line jump behind again)) (mean n) (ways x V s call return become Known line jump behind again) next) (has_front x pc begin (round_code ops size c (pc + length begin)) has) (all_rounds pc c jump behind again next has rnd jumps go n);
        from = λ n l pc. on n pc (part l n) (place l (pc + length begin + head)) (h.from n l (pc + length begin + head));
      }
