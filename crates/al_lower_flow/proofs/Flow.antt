-- What is claimed of statements: where they stand in a function, their operations do what they mean, from their start and from
-- each label in them, and then the function goes on behind them.
use Rattle.std.proofs.Common.{◌≡◌, ℕ, zero, suc, ◌+◌, ◌<◌, ◌≤◌, List, [], ◌∷◌, ◌++◌, length, Option, Some, None, refl, sym, ap, ◌∙◌, subst, arith, length-append}
use Rattle.std.specs.Prelude.{⊤, Bool, true, false, if◌then◌else◌}
use Rattle.al_typed.specs.declared.statement.TStmt.{TStmt, Held-TStmt-If-3, Row_of-TStmt}
use Rattle.al_meaning.specs.Words.{is_zero}
use Rattle.al_meaning.specs.Tasks.{Still, Outcome, Env, Rest, Task, Ways}
use Rattle.al_meaning.specs.Meant.{Given, Part, rest_at, in_loop, in_cases}
use Rattle.al_ir.specs.declared.ir.Operation.{Operation}
use Rattle.al_ir.specs.declared.op.Op.TheVariants as op
use Rattle.al_ir.specs.Control.{Slots}
use Rattle.al_lower_steps.specs.Site.{Site, HasOperation, HasAt}
use Rattle.al_lower_steps.proofs.Steps.{Runs, has_front, has_back}
use Rattle.al_lower_code.specs.Homes.{Spot}
use Rattle.al_lower_code.specs.Statements.{Again, Turned, Onward, Targets, at_level}
use Rattle.al_lower_code.specs.Statements as code

-- In a function at work, whose variables stand in its slots as V says.
module _ (x : Site) (V : Env → Slots → Type 0) where
  -- the run goes on so from a place, whatever stands in free slots
  pub record GoesOn (pc : ℕ) (next : Rest) : Type 0 where
    pub by : (env : Env) (s : Still) (slots last : Slots) → V env slots → Runs x (next env s) pc slots last s

  pub goes_at : {pc to : ℕ} {next : Rest} → pc ≡ to → GoesOn to next → GoesOn pc next
  goes_at {pc} {to} {next} e g = subst (λ n. GoesOn n next) (sym e) g

  pub if_true : {pc : ℕ} (a b : Rest) (c : Bool) → c ≡ true → GoesOn pc a → GoesOn pc (λ env s. if c then a env s else b env s)
  if_true {pc} a b c e g = subst (λ q. GoesOn pc (λ env s. if q then a env s else b env s)) (sym e) g

  pub if_false : {pc : ℕ} (a b : Rest) (c : Bool) → c ≡ false → GoesOn pc b → GoesOn pc (λ env s. if c then a env s else b env s)
  if_false {pc} a b c e g = subst (λ q. GoesOn pc (λ env s. if q then a env s else b env s)) (sym e) g

  -- ---- loops, switches and alts round a statement, which ends at a place

  -- how a loop goes on with its next round
  abbrev pub GoesAgain : (end : ℕ) → Again → Rest → Type 0
  GoesAgain end (Turned line place) r = (pc : ℕ) → HasOperation x pc line (op.Turn place) → GoesOn pc r
  GoesAgain end (Onward place) r = (end ≤ place) × GoesOn place r

  abbrev pub Behind : (end : ℕ) → List ℕ → List Rest → Type 0
  Behind end [] [] = ⊤
  Behind end (p ∷ ps) (r ∷ rs) = ((end ≤ p) × GoesOn p r) × Behind end ps rs
  Behind end _ _ = ⊥

  abbrev pub Agains : (end : ℕ) → List Again → List Rest → Type 0
  Agains end [] [] = ⊤
  Agains end (a ∷ more) (r ∷ rs) = GoesAgain end a r × Agains end more rs
  Agains end _ _ = ⊥

  pub record Round (breaks loops end : ℕ) (c : Targets) (behind again : List Rest) : Type 0 where
    pub breaks_are : length behind ≡ breaks
    pub loops_are : length again ≡ loops
    pub behinds : Behind end c.behind behind
    pub agains : Agains end c.again again

  behind_less : (less end : ℕ) (ps : List ℕ) (rs : List Rest) → less ≤ end → Behind end ps rs → Behind less ps rs
  behind_less less end [] [] le h = tt
  behind_less less end (p ∷ ps) (r ∷ rs) le h = let q = h.0.0 in ((omega (arith, le, q), h.0.1), behind_less less end ps rs le h.1)
  behind_less less end [] (r ∷ rs) le h = h
  behind_less less end (p ∷ ps) [] le h = h

  again_less : (less end : ℕ) (a : Again) (r : Rest) → less ≤ end → GoesAgain end a r → GoesAgain less a r
  again_less less end (Turned line place) r le h = h
  again_less less end (Onward place) r le h = let q = h.0 in (omega (arith, le, q), h.1)

  agains_less : (less end : ℕ) (more : List Again) (rs : List Rest) → less ≤ end → Agains end more rs → Agains less more rs
  agains_less less end [] [] le h = tt
  agains_less less end (a ∷ more) (r ∷ rs) le h = (again_less less end a r le h.0, agains_less less end more rs le h.1)
  agains_less less end [] (r ∷ rs) le h = h
  agains_less less end (a ∷ more) [] le h = h

  pub round_less : {breaks loops : ℕ} (less : ℕ) {end : ℕ} {c : Targets} {behind again : List Rest} → less ≤ end → Round breaks loops end c behind again → Round breaks loops less c behind again
  round_less {breaks} {loops} less {end} {c} {behind} {again} le h = record { breaks_are = h.breaks_are; loops_are = h.loops_are; behinds = behind_less less end c.behind behind le h.behinds; agains = agains_less less end c.again again le h.agains }

  pub round_loop : {breaks loops end : ℕ} (less place : ℕ) (a : Again) {c : Targets} {behind again : List Rest} {next further : Rest} → less ≤ end → Round breaks loops end c behind again → less ≤ place → GoesOn place next → GoesAgain less a further → Round (suc breaks) (suc loops) less (code.in_loop place a c) (next ∷ behind) (further ∷ again)
  round_loop {breaks} {loops} {end} less place a {c} {behind} {again} {next} {further} le h lp g ga = record { breaks_are = ap suc h.breaks_are; loops_are = ap suc h.loops_are; behinds = ((lp, g), behind_less less end c.behind behind le h.behinds); agains = (ga, agains_less less end c.again again le h.agains) }

  pub round_cases : {breaks loops end : ℕ} (less place : ℕ) {c : Targets} {behind again : List Rest} {next : Rest} → less ≤ end → Round breaks loops end c behind again → less ≤ place → GoesOn place next → Round (suc breaks) loops less (code.in_cases place c) (next ∷ behind) again
  round_cases {breaks} {loops} {end} less place {c} {behind} {again} {next} le h lp g = record { breaks_are = ap suc h.breaks_are; loops_are = h.loops_are; behinds = ((lp, g), behind_less less end c.behind behind le h.behinds); agains = agains_less less end c.again again le h.agains }

  -- the one of a number, from inside
  pub behind_at : (end levels : ℕ) (ps : List ℕ) (rs : List Rest) → 1 ≤ levels → levels ≤ length rs → Behind end ps rs → (end ≤ at_level 0 levels ps) × GoesOn (at_level 0 levels ps) (rest_at levels rs)
  behind_at end zero ps rs l le h = absurd (omega (arith, l))
  behind_at end (suc n) ps [] l le h = absurd (omega (arith, le))
  behind_at end (suc n) [] (r ∷ rs) l le h = absurd h
  behind_at end (suc zero) (p ∷ ps) (r ∷ rs) l le h = h.0
  behind_at end (suc (suc n)) (p ∷ ps) (r ∷ rs) l le h = behind_at end (suc n) ps rs (omega arith) (omega (arith, le)) h.1

  pub again_at : (end levels : ℕ) (more : List Again) (rs : List Rest) → 1 ≤ levels → levels ≤ length rs → Agains end more rs → GoesAgain end (at_level (Onward 0) levels more) (rest_at levels rs)
  again_at end zero more rs l le h = absurd (omega (arith, l))
  again_at end (suc n) more [] l le h = absurd (omega (arith, le))
  again_at end (suc n) [] (r ∷ rs) l le h = absurd h
  again_at end (suc zero) (Turned line place ∷ more) (r ∷ rs) l le h = h.0
  again_at end (suc zero) (Onward place ∷ more) (r ∷ rs) l le h = h.0
  again_at end (suc (suc n)) (a ∷ more) (r ∷ rs) l le h = again_at end (suc n) more rs (omega arith) (omega (arith, le)) h.1

  -- ---- pieces of a function: only the line, and where jumps lead, differ

  module _ (s : Spot) (call : ℕ → List ℕ → Still → Given → Outcome) (return : ℕ → Option (List ℕ) → Rest) (become : ℕ → ℕ → List ℕ → Rest) (Known : ℕ → Type 0) where
    abbrev pub ways : (line : ℕ) → (ℕ → Rest) → (behind again : List Rest) → Ways
    ways line jump behind again = record { program = s.program; function = s.function; line = line; call = call; jump = jump; behind = behind; again = again; return = return; become = become }

    -- the labels that the function has
    abbrev pub JumpsDo : Targets → (ℕ → Rest) → Type 0
    JumpsDo c jump = (l : ℕ) → Known l → GoesOn (c.label l) (jump l)

    -- a condition, and a jump over so many operations where it does not hold
    pub record TestDoes (line : ℕ) (ops : (count : ℕ) → List Operation) (size : ℕ) (test : Ways → Task (List ℕ)) : Type 0 where
      pub sized : (count : ℕ) → length (ops count) ≡ size
      pub by : (jump : ℕ → Rest) (behind again : List Rest) (count pc : ℕ) (k : List ℕ → Rest) → HasAt x pc (ops count) → ((v : List ℕ) → is_zero v ≡ true → GoesOn (pc + size + count) (k v)) → ((v : List ℕ) → is_zero v ≡ false → GoesOn (pc + size) (k v)) → GoesOn pc (λ env st. test (ways line jump behind again) env st k)

    -- what is gone through from its start to its end
    pub record EffectDoes (line : ℕ) (ops : List Operation) (mean : Ways → Task (Unit {0})) : Type 0 where
      pub by : (jump : ℕ → Rest) (behind again : List Rest) (pc : ℕ) (next : Rest) → HasAt x pc ops → GoesOn (pc + length ops) next → GoesOn pc (λ env st. mean (ways line jump behind again) env st (λ _. next))

    -- Operations that stand from pc on, in so many loops and bodies. A run from `at` on does this, and then goes on behind them.
    abbrev pub Means : (breaks loops : ℕ) → (ops : Targets → ℕ → List Operation) → (size : ℕ) → Part → (pc at : ℕ) → Type 0
    Means breaks loops ops size m pc at =
        (line : ℕ) (c : Targets) (jump : ℕ → Rest) (behind again : List Rest) (next : Rest) → HasAt x pc (ops c pc) → Round breaks loops (pc + size) c behind again → JumpsDo c jump → GoesOn (pc + size) next → GoesOn at (λ env st. m (ways line jump behind again) env st (λ _. next))

    -- from a label in them
    abbrev pub From : (breaks loops : ℕ) → (ops : Targets → ℕ → List Operation) → (size pc : ℕ) → Option Part → Option ℕ → Type 0
    From breaks loops ops size pc None None = ⊤
    From breaks loops ops size pc (Some m) (Some at) = Means breaks loops ops size m pc at
    From breaks loops ops size pc _ _ = ⊥

    pub record PieceDoes (breaks loops : ℕ) (ops : Targets → ℕ → List Operation) (size : ℕ) (mean : ℕ → Part) (part : ℕ → ℕ → Option Part) (place : ℕ → ℕ → Option ℕ) : Type 0 where
      pub sized : (c : Targets) (pc : ℕ) → length (ops c pc) ≡ size
      pub by : (n pc : ℕ) → Means breaks loops ops size (mean n) pc pc
      pub from : (n l pc : ℕ) → From breaks loops ops size pc (part l n) (place l pc)
