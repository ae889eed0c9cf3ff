-- Statements one behind the other, simple ones, jumps, labels and rescues.
use Rattle.std.proofs.Common.{◌≡◌, ℕ, zero, suc, ◌+◌, ◌≤◌, List, [], ◌∷◌, ◌++◌, length, Option, Some, None, refl, sym, ap, ◌∙◌, subst, arith, length-append}
use Rattle.std.specs.Prelude.{⊤, true, false, if◌then◌else◌, ◌==◌}
use Rattle.al_meaning.specs.Tasks.{Still, Outcome, Env, Rest, Task, Ways, ◌>>◌, in_line, leave_to, give}
use Rattle.al_meaning.specs.Parts.{first_of_two}
use Rattle.al_meaning.specs.Meant.{Given, Part, then_part, jumps_to, rest_at}
use Rattle.al_ir.specs.declared.ir.Operation.{Operation}
use Rattle.al_ir.specs.declared.op.Op.TheVariants as op
use Rattle.al_ir.specs.Control.{Slots}
use Rattle.al_lower_steps.specs.Site.{Site, HasOperation, HasAt}
use Rattle.al_lower_steps.proofs.Steps.{Runs, has_front, has_back}
use Rattle.al_lower_steps.proofs.Jumps.{turn_does, skip_does, go_to_does}
use Rattle.al_lower_code.specs.Homes.{Spot, operation}
use Rattle.al_lower_code.specs.Statements.{Targets, Again, Turned, Onward, at_level, again_code}
use Rattle.al_lower_flow.proofs.Flow.{GoesOn, goes_at, GoesAgain, Round, round_less, behind_at, again_at, ways, JumpsDo, EffectDoes, Means, From, PieceDoes}

module _ (x : Site) (V : Env → Slots → Type 0) (s : Spot) (call : ℕ → List ℕ → Still → Given → Outcome) (return : ℕ → Option (List ℕ) → Rest) (become : ℕ → ℕ → List ℕ → Rest) (Known : ℕ → Type 0) where
  abbrev Piece : (breaks loops : ℕ) → (ops : Targets → ℕ → List Operation) → (size : ℕ) → (mean : ℕ → Part) → (part : ℕ → ℕ → Option Part) → (place : ℕ → ℕ → Option ℕ) → Type 0
  Piece = PieceDoes x V s call return become Known

  abbrev no_part : ℕ → ℕ → Option Part
  no_part l n = None

  abbrev no_place : ℕ → ℕ → Option ℕ
  no_place l pc = None

  -- ---- simple statements

  pub effect_piece : {breaks loops line : ℕ} {ops : List Operation} {mean : Ways → Task (Unit {0})} → EffectDoes x V s call return become Known line ops mean → Piece breaks loops (λ c pc. ops) (length ops) (λ n w. mean (in_line line w)) no_part no_place
  effect_piece {breaks} {loops} {line} {ops} {mean} h = record {
    sized = λ c pc. refl;
    by = λ n pc line0 c jump behind again next has round jumps go. h.by jump behind again pc next has go;
    from = λ n l pc. tt;
  }

  pub nothing_piece : {breaks loops : ℕ} → Piece breaks loops (λ c pc. []) 0 (λ n w. give tt) no_part no_place
  nothing_piece {breaks} {loops} = record {
    sized = λ c pc. refl;
    by = λ n pc line0 c jump behind again next has round jumps go. goes_at x V (omega arith) go;
    from = λ n l pc. tt;
  }

  -- ---- jumps

  pub break_piece : {breaks loops : ℕ} (line levels : ℕ) → 1 ≤ levels → levels ≤ breaks → Piece breaks loops (λ c pc. operation line (op.GoTo (at_level 0 levels c.behind)) ∷ []) 1 (λ n w. leave_to (rest_at levels w.behind)) no_part no_place
  break_piece {breaks} {loops} line levels low high = record {
    sized = λ c pc. refl;
    by = λ n pc line0 c jump behind again next has round jumps go.
        let q = round.breaks_are in
        let there = behind_at x V (pc + 1) levels c.behind behind low (omega (arith, high, q)) round.behinds in
        let le = there.0 in
        record { by = λ env st slots last vars. go_to_does x has.0 (omega (arith, le)) (there.1.by env st slots last vars) };
    from = λ n l pc. tt;
  }

  pub jump_piece : {breaks loops : ℕ} (line label : ℕ) → Known label → Piece breaks loops (λ c pc. operation line (op.Turn (c.label label)) ∷ []) 1 (λ n w. jumps_to (in_line line w) label) no_part no_place
  jump_piece {breaks} {loops} line label known = record {
    sized = λ c pc. refl;
    by = λ n pc line0 c jump behind again next has round jumps go.
        record { by = λ env st slots last vars. turn_does x (λ st. jump label env st) has.0 (λ st. (jumps label known).by env st slots last vars) };
    from = λ n l pc. tt;
  }

  pub continue_piece : {breaks loops : ℕ} (line levels : ℕ) → 1 ≤ levels → levels ≤ loops → Piece breaks loops (λ c pc. again_code line (at_level (Onward 0) levels c.again)) 1 (λ n w. leave_to (rest_at levels w.again)) no_part no_place
  continue_piece {breaks} {loops} line levels low high = record {
    sized = λ c pc. one_operation (at_level (Onward 0) levels c.again);
    by = λ n pc line0 c jump behind again next has round jumps go.
        let q = round.loops_are in
        on (at_level (Onward 0) levels c.again) pc (rest_at levels again) has (again_at x V (pc + 1) levels c.again again low (omega (arith, high, q)) round.agains);
    from = λ n l pc. tt;
  }
    where
      one_operation : (a : Again) → length (again_code line a) ≡ 1
      one_operation (Turned at place) = refl
      one_operation (Onward place) = refl

      on : (a : Again) (pc : ℕ) (r : Rest) → HasAt x pc (again_code line a) → GoesAgain x V (pc + 1) a r → GoesOn x V pc r
      on (Turned at place) pc r has h = h pc has.0
      on (Onward place) pc r has h = let le = h.0 in record { by = λ env st slots last vars. go_to_does x has.0 (omega (arith, le)) (h.1.by env st slots last vars) }

  -- ---- a label: what it is before

  pub label_piece : {breaks loops size : ℕ} {ops : Targets → ℕ → List Operation} {mean : ℕ → Part} {part : ℕ → ℕ → Option Part} {place : ℕ → ℕ → Option ℕ} (number : ℕ) → Piece breaks loops ops size mean part place → Piece breaks loops ops size mean (λ l n. if number == l then Some (mean n) else part l n) (λ l pc. if number == l then Some pc else place l pc)
  label_piece {breaks} {loops} {size} {ops} {mean} {part} {place} number h = record {
    sized = h.sized;
    by = h.by;
    from = λ n l pc. on (number == l) n l pc;
  }
    where
      on : (b : _) (n l pc : ℕ) → From x V s call return become Known breaks loops ops size pc (if b then Some (mean n) else part l n) (if b then Some pc else place l pc)
      on true n l pc = h.by n pc
      on false n l pc = h.from n l pc

  -- ---- one behind the other

  -- the first ones are so many
  abbrev pub both_code : (size : ℕ) → (ops rest : Targets → ℕ → List Operation) → Targets → ℕ → List Operation
  both_code size ops rest c pc = ops c pc ++ rest c (pc + size)

  module _ {breaks loops size more : ℕ} {ops rest : Targets → ℕ → List Operation} {mean others : ℕ → Part} {part parts : ℕ → ℕ → Option Part} {place places : ℕ → ℕ → Option ℕ} where
    front : (h : Piece breaks loops ops size mean part place) (k : Piece breaks loops rest more others parts places) (n pc at : ℕ) (m : Part) → Means x V s call return become Known breaks loops ops size m pc at → Means x V s call return become Known breaks loops (both_code size ops rest) (size + more) (λ w. m w >> others n w) pc at
    front h k n pc at m does line c jump behind again next has round jumps go =
        let back : HasAt x (pc + size) (rest c (pc + size)) =
        subst (λ i. HasAt x (pc + i) (rest c (pc + size))) (h.sized c pc) (has_back x pc (ops c pc) (rest c (pc + size)) has) in
        let end : pc + size + more ≡ pc + (size + more) = omega arith in
        let behind_it = k.by n (pc + size) line c jump behind again next back (round_less x V (pc + size + more) (omega arith) round) jumps (goes_at x V end go) in
        does line c jump behind again (λ env st. others n (ways x V s call return become Known line jump behind again) env st (λ _. next)) (has_front x pc (ops c pc) (rest c (pc + size)) has) (round_less x V (pc + size) (omega arith) round) jumps behind_it

    rear : (h : Piece breaks loops ops size mean part place) (k : Piece breaks loops rest more others parts places) (pc at : ℕ) (m : Part) → Means x V s call return become Known breaks loops rest more m (pc + size) at → Means x V s call return become Known breaks loops (both_code size ops rest) (size + more) m pc at
    rear h k pc at m does line c jump behind again next has round jumps go =
        let back : HasAt x (pc + size) (rest c (pc + size)) =
        subst (λ i. HasAt x (pc + i) (rest c (pc + size))) (h.sized c pc) (has_back x pc (ops c pc) (rest c (pc + size)) has) in
        let end : pc + size + more ≡ pc + (size + more) = omega arith in
        does line c jump behind again next back (round_less x V (pc + size + more) (omega arith) round) jumps (goes_at x V end go)

    pub more_piece : (h : Piece breaks loops ops size mean part place) (k : Piece breaks loops rest more others parts places) → Piece breaks loops (both_code size ops rest) (size + more) (λ n w. mean n w >> others n w) (λ l n. first_of_two (then_part (part l n) (others n)) (parts l n)) (λ l pc. first_of_two (place l pc) (places l (pc + size)))
    more_piece h k = record {
      sized = λ c pc. length-append (ops c pc) (rest c (pc + size)) ∙ (ap (λ i. i + length (rest c (pc + size))) (h.sized c pc) ∙ ap (λ i. size + i) (k.sized c (pc + size)));
      by = λ n pc. front h k n pc pc (mean n) (h.by n pc);
      from = λ n l pc. on n l pc (part l n) (place l pc) (h.from n l pc) (parts l n) (places l (pc + size)) (k.from n l (pc + size));
    }
      where
        on : (n l pc : ℕ) (o : Option Part) (i : Option ℕ) → From x V s call return become Known breaks loops ops size pc o i → (q : Option Part) (j : Option ℕ) → From x V s call return become Known breaks loops rest more (pc + size) q j → From x V s call return become Known breaks loops (both_code size ops rest) (size + more) pc (first_of_two (then_part o (others n)) q) (first_of_two i j)
        on n l pc None None f None None g = tt
        on n l pc None None f (Some m) (Some at) g = rear h k pc at m g
        on n l pc None None f (Some m) None g = absurd g
        on n l pc None None f None (Some at) g = absurd g
        on n l pc (Some m) (Some at) f q j g = front h k n pc at m f
        on n l pc (Some m) None f q j g = absurd f
        on n l pc None (Some at) f q j g = absurd f
