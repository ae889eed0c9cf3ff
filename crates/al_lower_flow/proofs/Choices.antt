-- `if`, and rescues, which normal flow leaves out.
use Rattle.std.proofs.Common.{◌≡◌, ℕ, zero, suc, ◌+◌, ◌≤◌, List, [], ◌∷◌, ◌++◌, length, Option, Some, None, refl, sym, ap, ◌∙◌, subst, arith, length-append}
use Rattle.std.specs.Prelude.{⊤, Bool, true, false, if◌then◌else◌, ◌==◌}
use Rattle.al_meaning.specs.Words.{is_zero}
use Rattle.al_meaning.specs.Tasks.{Still, Outcome, Env, Rest, Task, Ways, ◌>>=◌, if_zero, in_line, give}
use Rattle.al_meaning.specs.Parts.{first_of_two}
use Rattle.al_meaning.specs.Meant.{Given, Part}
use Rattle.al_ir.specs.declared.ir.Operation.{Operation}
use Rattle.al_ir.specs.declared.op.Op.TheVariants as op
use Rattle.al_ir.specs.Control.{Slots}
use Rattle.al_lower_steps.specs.Site.{Site, HasAt}
use Rattle.al_lower_steps.proofs.Steps.{has_front, has_back}
use Rattle.al_lower_steps.proofs.Jumps.{skip_does}
use Rattle.al_lower_code.specs.Homes.{Spot, operation}
use Rattle.al_lower_code.specs.Statements.{Targets}
use Rattle.al_lower_flow.proofs.Flow.{GoesOn, goes_at, if_true, if_false, Round, round_less, ways, JumpsDo, TestDoes, Means, From, PieceDoes}

module _ (x : Site) (V : Env → Slots → Type 0) (s : Spot) (call : ℕ → List ℕ → Still → Given → Outcome) (return : ℕ → Option (List ℕ) → Rest) (become : ℕ → ℕ → List ℕ → Rest) (Known : ℕ → Type 0) where
  -- what stands behind `else`, with the jump over it, which are so many operations
  pub record OtherDoes (breaks loops : ℕ) (ops : Targets → ℕ → List Operation) (size over : ℕ) (mean : ℕ → Part) (part : ℕ → ℕ → Option Part) (place : ℕ → ℕ → Option ℕ) : Type 0 where
    pub sized : (c : Targets) (pc : ℕ) → length (ops c pc) ≡ size
    pub skips : (c : Targets) (pc : ℕ) (next : Rest) → HasAt x pc (ops c pc) → GoesOn x V (pc + size) next → GoesOn x V pc next
    pub by : (n pc : ℕ) → Means x V s call return become Known breaks loops ops size (mean n) pc (pc + over)
    pub from : (n l pc : ℕ) → From x V s call return become Known breaks loops ops size pc (part l n) (place l pc)

  pub no_other : {breaks loops : ℕ} → OtherDoes breaks loops (λ c pc. []) 0 0 (λ n w. give tt) (λ l n. None) (λ l pc. None)
  no_other {breaks} {loops} = record {
    sized = λ c pc. refl;
    skips = λ c pc next has go. goes_at x V (omega arith) go;
    by = λ n pc line c jump behind again next has round jumps go. go;
    from = λ n l pc. tt;
  }

  module _ {breaks loops size : ℕ} {ops : Targets → ℕ → List Operation} {mean : ℕ → Part} {part : ℕ → ℕ → Option Part} {place : ℕ → ℕ → Option ℕ} (line : ℕ) (h : PieceDoes x V s call return become Known breaks loops ops size mean part place) where
    abbrev skipped : Targets → ℕ → List Operation
    skipped c pc = operation line (op.Skip size) ∷ ops c (pc + 1)

    inner : (pc at : ℕ) (m : Part) → Means x V s call return become Known breaks loops ops size m (pc + 1) at → Means x V s call return become Known breaks loops skipped (1 + size) m pc at
    inner pc at m does line0 c jump behind again next has round jumps go =
        let end : pc + 1 + size ≡ pc + (1 + size) = omega arith in
        does line0 c jump behind again next has.1 (round_less x V (pc + 1 + size) (omega arith) round) jumps (goes_at x V end go)

    over : (c : Targets) (pc : ℕ) (next : Rest) → HasAt x pc (skipped c pc) → GoesOn x V (pc + (1 + size)) next → GoesOn x V pc next
    over c pc next has go =
        let end : pc + 1 + size ≡ pc + (1 + size) = omega arith in
        record { by = λ env st slots last vars. skip_does x has.0 ((goes_at x V end go).by env st slots last vars) }

    inside : (n l pc : ℕ) (o : Option Part) (i : Option ℕ) → From x V s call return become Known breaks loops ops size (pc + 1) o i → From x V s call return become Known breaks loops skipped (1 + size) pc o i
    inside n l pc None None f = tt
    inside n l pc (Some m) (Some at) f = inner pc at m f
    inside n l pc None (Some at) f = absurd f
    inside n l pc (Some m) None f = absurd f

    pub some_other : OtherDoes breaks loops skipped (1 + size) 1 mean part (λ l pc. place l (pc + 1))
    some_other = record {
      sized = λ c pc. let q = h.sized c (pc + 1) in omega (arith, q);
      skips = over;
      by = λ n pc. inner pc (pc + 1) (mean n) (h.by n (pc + 1));
      from = λ n l pc. inside n l pc (part l n) (place l (pc + 1)) (h.from n l (pc + 1));
    }

    pub rescue_piece : (number : ℕ) → PieceDoes x V s call return become Known breaks loops skipped (1 + size) (λ n w. give tt) (λ l n. if number == l then Some (mean n) else part l n) (λ l pc. if number == l then Some (pc + 1) else place l (pc + 1))
    rescue_piece number = record {
      sized = λ c pc. let q = h.sized c (pc + 1) in omega (arith, q);
      by = λ n pc line0 c jump behind again next has round jumps go. over c pc next has go;
      from = λ n l pc. on (number == l) n l pc;
    }
      where
        on : (b : Bool) (n l pc : ℕ) → From x V s call return become Known breaks loops skipped (1 + size) pc (if b then Some (mean n) else part l n) (if b then Some (pc + 1) else place l (pc + 1))
        on true n l pc = inner pc (pc + 1) (mean n) (h.by n (pc + 1))
        on false n l pc = inside n l pc (part l n) (place l (pc + 1)) (h.from n l (pc + 1))

  -- ---- if

  module _ {breaks loops size more over head : ℕ} {ops rest : Targets → ℕ → List Operation} {mean others : ℕ → Part} {part parts : ℕ → ℕ → Option Part} {place places : ℕ → ℕ → Option ℕ} (line : ℕ) (tests : (count : ℕ) → List Operation) (test : Ways → Task (List ℕ)) (t : TestDoes x V s call return become Known line tests head test) (h : PieceDoes x V s call return become Known breaks loops ops size mean part place) (k : OtherDoes breaks loops rest more over others parts places) where
    abbrev pub if_code : Targets → ℕ → List Operation
    if_code c pc = tests (size + over) ++ (ops c (pc + head) ++ rest c (pc + head + size))

    abbrev meant_if : ℕ → Part
    meant_if n w = test (in_line line w) >>= (λ v. if_zero v (others n w) (mean n w))

    chosen_at : (c : Targets) (pc : ℕ) → HasAt x pc (if_code c pc) → HasAt x (pc + head) (ops c (pc + head) ++ rest c (pc + head + size))
    chosen_at c pc has = subst (λ i. HasAt x (pc + i) (ops c (pc + head) ++ rest c (pc + head + size))) (t.sized (size + over)) (has_back x pc (tests (size + over)) (ops c (pc + head) ++ rest c (pc + head + size)) has)

    other_at : (c : Targets) (pc : ℕ) → HasAt x pc (if_code c pc) → HasAt x (pc + head + size) (rest c (pc + head + size))
    other_at c pc has = subst (λ i. HasAt x (pc + head + i) (rest c (pc + head + size))) (h.sized c (pc + head)) (has_back x (pc + head) (ops c (pc + head)) (rest c (pc + head + size)) (chosen_at c pc has))

    first : (pc at : ℕ) (m : Part) → Means x V s call return become Known breaks loops ops size m (pc + head) at → Means x V s call return become Known breaks loops if_code (head + (size + more)) m pc at
    first pc at m does line0 c jump behind again next has round jumps go =
        let end : pc + head + size + more ≡ pc + (head + (size + more)) = omega arith in
        does line0 c jump behind again next (has_front x (pc + head) (ops c (pc + head)) (rest c (pc + head + size)) (chosen_at c pc has)) (round_less x V (pc + head + size) (omega arith) round) jumps (k.skips c (pc + head + size) next (other_at c pc has) (goes_at x V end go))

    second : (pc at : ℕ) (m : Part) → Means x V s call return become Known breaks loops rest more m (pc + head + size) at → Means x V s call return become Known breaks loops if_code (head + (size + more)) m pc at
    second pc at m does line0 c jump behind again next has round jumps go =
        let end : pc + head + size + more ≡ pc + (head + (size + more)) = omega arith in
        does line0 c jump behind again next (other_at c pc has) (round_less x V (pc + head + size + more) (omega arith) round) jumps (goes_at x V end go)

    pub if_piece : PieceDoes x V s call return become Known breaks loops if_code (head + (size + more)) meant_if (λ l n. first_of_two (part l n) (parts l n)) (λ l pc. first_of_two (place l (pc + head)) (places l (pc + head + size)))
    if_piece = record {
      sized = λ c pc.
          length-append (tests (size + over)) (ops c (pc + head) ++ rest c (pc + head + size))
          ∙ (ap (λ i. i + length (ops c (pc + head) ++ rest c (pc + head + size))) (t.sized (size + over))
          ∙ ap (λ i. head + i) (length-append (ops c (pc + head)) (rest c (pc + head + size)) ∙ (ap (λ i. i + length (rest c (pc + head + size))) (h.sized c (pc + head)) ∙ ap (λ i. size + i) (k.sized c (pc + head + size)))));
      by = λ n pc line0 c jump behind again next has round jumps go.
          let to : pc + head + (size + over) ≡ pc + head + size + over = omega arith in
          let w = ways x V s call return become Known line0 jump behind again in
          t.by jump behind again (size + over) pc _ (has_front x pc (tests (size + over)) (ops c (pc + head) ++ rest c (pc + head + size)) has)
          (λ v e. chooses_other (is_zero v) e (others n w) (mean n w) next (pc + head + (size + over)) (goes_at x V to (second pc (pc + head + size + over) (others n) (k.by n (pc + head + size)) line0 c jump behind again next has round jumps go)))
          (λ v e. chooses_first (is_zero v) e (others n w) (mean n w) next (pc + head) (first pc (pc + head) (mean n) (h.by n (pc + head)) line0 c jump behind again next has round jumps go));
      from = λ n l pc. on n l pc (part l n) (place l (pc + head)) (h.from n l (pc + head)) (parts l n) (places l (pc + head + size)) (k.from n l (pc + head + size));
    }
      where
        chooses_other : (b : Bool) → b ≡ true → (p q : Task (Unit {0})) (next : Rest) (at : ℕ) → GoesOn x V at (λ env st. p env st (λ _. next)) → GoesOn x V at (λ env st. (if b then p else q) env st (λ _. next))
        chooses_other b e p q next at g = subst (λ b. GoesOn x V at (λ env st. (if b then p else q) env st (λ _. next))) (sym e) g

        chooses_first : (b : Bool) → b ≡ false → (p q : Task (Unit {0})) (next : Rest) (at : ℕ) → GoesOn x V at (λ env st. q env st (λ _. next)) → GoesOn x V at (λ env st. (if b then p else q) env st (λ _. next))
        chooses_first b e p q next at g = subst (λ b. GoesOn x V at (λ env st. (if b then p else q) env st (λ _. next))) (sym e) g

        on : (n l pc : ℕ) (o : Option Part) (i : Option ℕ) → From x V s call return become Known breaks loops ops size (pc + head) o i → (q : Option Part) (j : Option ℕ) → From x V s call return become Known breaks loops rest more (pc + head + size) q j → From x V s call return become Known breaks loops if_code (head + (size + more)) pc (first_of_two o q) (first_of_two i j)
        on n l pc None None f None None g = tt
        on n l pc None None f (Some m) (Some at) g = second pc at m g
        on n l pc None None f (Some m) None g = absurd g
        on n l pc None None f None (Some at) g = absurd g
        on n l pc (Some m) (Some at) f q j g = first pc at m f
        on n l pc (Some m) None f q j g = absurd f
        on n l pc None (Some at) f q j g = absurd f
