-- A function does what it means, where its body does.
use Rattle.std.proofs.Common.{◌≡◌, ℕ, zero, suc, ◌+◌, ◌<◌, ◌≤◌, List, [], ◌∷◌, ◌++◌, length, Option, Some, None, refl, subst, ◌⊎◌, arith}
use Rattle.std.specs.Prelude.{false, true, slice_get, unwrap_or}
use Rattle.al_typed.specs.declared.program.Function.{Function as FunctionRow}
use Rattle.al_typed.specs.declared.program.Local.{Local as LocalRow}
use Rattle.al_typed.specs.declared.program.Program.{Program}
use Rattle.al_typed.specs.declared.ty.Ty.{Ty}
use Rattle.al_typed.specs.Types.{is_void, is_array}
use Rattle.al_meaning.specs.Places.{function_at}
use Rattle.al_meaning.specs.Here.{units_in}
use Rattle.al_meaning.specs.Calls.{default_of}
use Rattle.al_meaning.specs.Tasks.{Still, Outcome, Rest, Ways, Stuck}
use Rattle.al_meaning.specs.Meant.{Given, Part, returned, jumps, jumped, meant, part_from, function_meant}
use Rattle.al_ir.specs.declared.ir.Ir.{Ir}
use Rattle.al_ir.specs.Units.{units_at}
use Rattle.al_ir.specs.Control.{Slots, no_slots, first_slots, Frame, arguments_of}
use Rattle.al_ir.specs.Control as operations
use Rattle.al_ir.specs.Step.{private_step}
use Rattle.al_ir.specs.Meaning.{control_weight, resume}
use Rattle.al_ir.proofs.Lighter.{lighter}
use Rattle.al_lowered.specs.Rules.{rules, given_units}
use Rattle.al_lowered.proofs.Does.{unfinished}
use Rattle.al_lower_words.specs.Units.{AreOf}
use Rattle.al_lower_code.specs.Homes.{Spot, home_in}
use Rattle.al_lower_code.specs.Moving.{layout_number}
use Rattle.al_lower_code.specs.Functions.{is_wide_parameter, wide_number, prologue, epilogue, spot_of, targets_of, function_code}
use Rattle.al_lower_code.specs.Statements.{Targets, stmt_code, stmt_size, place_of}
use Rattle.al_lower_steps.specs.Slots.{Holds}
use Rattle.al_lower_steps.specs.Site.{HasAt}
use Rattle.al_lower_steps.proofs.Slots.{holds_first}
use Rattle.al_lower_steps.proofs.Steps.{Runs, moved, has_front, has_back}
use Rattle.al_lower_steps.proofs.Functions.{CalledDoes, FunctionDoes, Returns}
use Rattle.al_lower_claims.proofs.Homes.{Homes, HasNoArrays}
use Rattle.al_lower_claims.proofs.Privates.{NoArrayGlobals}
use Rattle.al_lower_flow.proofs.Flow.{Round, From}
use Rattle.al_lower_bodies.proofs.Bodies.{Body, ways_in, site_of, vars_of, spot_in, Goes, StmtIn, IsKnown}
use Rattle.al_lower_returns.proofs.Begins.{NoArrays}
use Rattle.al_lower_returns.proofs.Returns.{ends_does}
use Rattle.al_lower_returns.proofs.Prologue.{BeginIn, words_long, begins_does}
use Rattle.al_lower_statements.proofs.Labels.{has_place}

-- ---- a function at work

module _ (b : Body) (begin : BeginIn b) (na : is_void b.row.returns ≡ false → is_array b.row.returns ≡ false) (code : HasAt (site_of b) 0 (function_code (spot_in b) b.row)) (body : StmtIn b 0 0 b.row.body) where
  abbrev start : ℕ
  start = length (prologue (spot_in b) b.row)

  abbrev targets : Targets
  targets = targets_of (spot_in b) b.row

  abbrev at_end : Rest
  at_end = returned b.row.locals b.given b.row.line (default_of b.program (Some b.row))

  -- before labels are known
  abbrev bare : Ways
  bare = ways_in b b.row.line (λ l env s. Stuck) [] []

  behind_start : HasAt (site_of b) (length (prologue (spot_in b) b.row)) (stmt_code (spot_in b) (targets_of (spot_in b) b.row) b.row.body (length (prologue (spot_in b) b.row)) ++ epilogue (spot_in b) b.row)
  behind_start =
      let z : 0 + length (prologue (spot_in b) b.row) ≡ length (prologue (spot_in b) b.row) = omega arith in
      subst (λ n. HasAt (site_of b) n (stmt_code (spot_in b) (targets_of (spot_in b) b.row) b.row.body (length (prologue (spot_in b) b.row)) ++ epilogue (spot_in b) b.row)) z
      (has_back (site_of b) 0 (prologue (spot_in b) b.row) (stmt_code (spot_in b) (targets_of (spot_in b) b.row) b.row.body (length (prologue (spot_in b) b.row)) ++ epilogue (spot_in b) b.row) code)

  body_code : HasAt (site_of b) (length (prologue (spot_in b) b.row)) (stmt_code (spot_in b) (targets_of (spot_in b) b.row) b.row.body (length (prologue (spot_in b) b.row)))
  body_code = has_front (site_of b) (length (prologue (spot_in b) b.row)) (stmt_code (spot_in b) (targets_of (spot_in b) b.row) b.row.body (length (prologue (spot_in b) b.row))) (epilogue (spot_in b) b.row) behind_start

  end_goes : Goes b (length (prologue (spot_in b) b.row) + stmt_size (spot_in b) b.row.body) (returned b.row.locals b.given b.row.line (default_of b.program (Some b.row)))
  end_goes = ends_does b na (length (prologue (spot_in b) b.row) + stmt_size (spot_in b) b.row.body)
      (subst (λ n. HasAt (site_of b) (length (prologue (spot_in b) b.row) + n) (epilogue (spot_in b) b.row)) (body.sized (targets_of (spot_in b) b.row) (length (prologue (spot_in b) b.row)))
      (has_back (site_of b) (length (prologue (spot_in b) b.row)) (stmt_code (spot_in b) (targets_of (spot_in b) b.row) b.row.body (length (prologue (spot_in b) b.row))) (epilogue (spot_in b) b.row) behind_start))

  no_round : Round (site_of b) (vars_of b) 0 0 (length (prologue (spot_in b) b.row) + stmt_size (spot_in b) b.row.body) (targets_of (spot_in b) b.row) [] []
  no_round = record { breaks_are = refl; loops_are = refl; behinds = tt; agains = tt }

  -- each label leads to its place
  jumps_do : (n m l : ℕ) → IsKnown b l → Goes b (unwrap_or (place_of (spot_in b) l b.row.body (length (prologue (spot_in b) b.row))) 0) (jumps m b.row.body n bare at_end l)
  jumps_do n zero l known = record { by = λ env st slots last vars. unfinished (private_step b.ir) (control_weight b.ir) resume (lighter b.ir) (rules b.program) }
  jumps_do n (suc m) l known =
      let h = has_place (spot_in b) b.row.body l (length (prologue (spot_in b) b.row)) known in
      on (λ l known. jumps_do n m l known) (part_from l b.row.body n) (place_of (spot_in b) l b.row.body (length (prologue (spot_in b) b.row))) h.0 h.1 (body.from n l (length (prologue (spot_in b) b.row)))
    where
      on : ((l : ℕ) → IsKnown b l → Goes b (unwrap_or (place_of (spot_in b) l b.row.body (length (prologue (spot_in b) b.row))) 0) (jumps m b.row.body n bare at_end l)) → (o : Option Part) (i : Option ℕ) (at : ℕ) → i ≡ Some at → From (site_of b) (vars_of b) (spot_in b) b.call (returned b.row.locals b.given) bare.become (IsKnown b) 0 0 (λ c pc. stmt_code (spot_in b) c b.row.body pc) (stmt_size (spot_in b) b.row.body) (length (prologue (spot_in b) b.row)) o i → Goes b (unwrap_or i 0) (λ env st. jumped o (ways_in b b.row.line (jumps m b.row.body n bare at_end) [] []) at_end env st)
      on rest (Some q) (Some j) at e f = f b.row.line (targets_of (spot_in b) b.row) (jumps m b.row.body n bare at_end) [] [] at_end body_code no_round rest end_goes
      on rest None None at e f = absurd (cc)
      on rest (Some q) None at e f = absurd f
      on rest None (Some j) at e f = absurd f

  -- from its first operation on
  pub function_runs : (n : ℕ) (words : List ℕ) → AreOf (given_units b.program b.row) words → (slots last : Slots) (s : Still) → Holds slots 0 words → Runs (site_of b) (function_meant b.program n b.call b.instead b.function b.row words s b.given) 0 slots last s
  function_runs n words fits slots last s holds =
      begins_does b (jumps n b.row.body n bare at_end) [] [] begin words 0 s slots last (λ u env s. meant b.row.body n (ways_in b b.row.line (jumps n b.row.body n bare at_end) [] []) env s (λ _. at_end)) fits holds (has_front (site_of b) 0 (prologue (spot_in b) b.row) (stmt_code (spot_in b) (targets_of (spot_in b) b.row) b.row.body (length (prologue (spot_in b) b.row)) ++ epilogue (spot_in b) b.row) code) (λ env s now vars.
      let z : 0 + length (prologue (spot_in b) b.row) ≡ length (prologue (spot_in b) b.row) = omega arith in
      moved (site_of b) z ((body.by n (length (prologue (spot_in b) b.row)) b.row.line (targets_of (spot_in b) b.row) (jumps n b.row.body n bare at_end) [] [] at_end body_code no_round (λ l known. jumps_do n n l known) end_goes).by env s now last vars))

-- ---- a function of a program

-- what a function of a program and the operations have, whatever runs
pub record FunctionIn (p : Program) (ir : Ir) (number : ℕ) (g : FunctionRow) : Type 0 where
  pub there : function_at p number ≡ Some g
  pub homes : Homes p number
  pub layouts : (s : Spot) (t : Ty) (n : ℕ) → s.program ≡ p → layout_number s t ≡ Some n → units_at ir n ≡ units_in p t
  pub plain : NoArrayGlobals p p.globals
  pub code : (below : List Frame) → HasAt (record { ir = ir; rules = rules p; function = number; below = below; text = [] }) 0 (function_code (spot_of p number g) g)
  pub arguments : arguments_of (operations.function_at ir number) ≡ home_in p (Some g) g.parameters
  pub stands : (g.around ≡ []) ⊎ (g.parameters ≡ 0)
  pub parameters : g.parameters ≤ length g.locals
  pub no_arrays : NoArrays p g.parameters g.locals
  pub private_plain : HasNoArrays p number
  pub wide : (n : ℕ) (l : LocalRow) → slice_get g.locals n ≡ Some l → n < g.parameters → is_wide_parameter p l ≡ true → units_at ir (wide_number p number n g) ≡ units_in p l.ty
  pub returns_whole : is_void g.returns ≡ false → is_array g.returns ≡ false

module _ {p : Program} {ir : Ir} {number : ℕ} {g : FunctionRow} (h : FunctionIn p ir number g) where
  abbrev pub body_of : (below : List Frame) (call instead : ℕ → List ℕ → Still → Given → Outcome) (given : Given) → ((frame : Frame) → frame.function ≡ number → CalledDoes p ir (rules p) call (frame ∷ below)) → CalledDoes p ir (rules p) instead below → Returns p ir (rules p) g below given → Body
  body_of below call instead given calls becomes returns = record {
    ir = ir;
    program = p;
    function = number;
    row = g;
    there = h.there;
    below = below;
    call = call;
    instead = instead;
    given = given;
    homes = h.homes;
    layouts = h.layouts;
    plain = h.plain;
    calls = calls;
    becomes = becomes;
    returns = returns;
  }

  -- the body does what it means, whatever the function is called for
  abbrev pub BodyDoes : Type 0
  BodyDoes = (below : List Frame) (call instead : ℕ → List ℕ → Still → Given → Outcome) (given : Given) (calls : (frame : Frame) → frame.function ≡ number → CalledDoes p ir (rules p) call (frame ∷ below)) (becomes : CalledDoes p ir (rules p) instead below) (returns : Returns p ir (rules p) g below given) → StmtIn (body_of below call instead given calls becomes returns) 0 0 g.body

  pub function_does : BodyDoes → FunctionDoes p ir (rules p) number g
  function_does body = record {
    by = λ n call instead below calls becomes words fits arguments holds s given returns.
        let b = body_of below call instead given calls becomes returns in
        let begin : BeginIn b = record { stands = h.stands; parameters = h.parameters; no_arrays = h.no_arrays; private_plain = h.private_plain; wide = h.wide } in
        let long = words_long b begin words fits in
        let takes = h.arguments in
        function_runs b begin h.returns_whole (h.code below) (body below call instead given calls becomes returns) n words fits (first_slots (arguments_of (operations.function_at ir number)) arguments) no_slots s (holds_first words 0 (arguments_of (operations.function_at ir number)) arguments (omega (arith, long, takes)) holds);
  }
