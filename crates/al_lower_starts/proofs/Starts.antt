-- Procs, tasks and branches that are started.
use Rattle.std.proofs.Common.{◌≡◌, ℕ, ◌+◌, ◌*◌, List, [], ◌∷◌, ◌++◌, map, take, length, Some, refl, sym, ap, ◌∙◌, subst, inl, arith, length-append}
use Rattle.std.specs.Prelude.{Bool, true, false, if◌then◌else◌}
use Rattle.std.specs.List.{AllByRecursion, flat_map}
use Rattle.al_event.specs.declared.act.Act.{Act}
use Rattle.al_event.specs.declared.act.Act.TheVariants as act
use Rattle.al_event.specs.declared.act.Start.{Start}
use Rattle.al_typed.specs.declared.expression.TExpr.{TExpr, Call'}
use Rattle.al_typed.specs.declared.program.Function.{Function as FunctionRow}
use Rattle.al_typed.specs.Layout.{unit_at}
use Rattle.al_typed.specs.Typed.{parameter_types, local_types}
use Rattle.al_meaning.specs.Places.{function_at, locals_of, has_block}
use Rattle.al_meaning.specs.Here.{units_in}
use Rattle.al_meaning.specs.Evaluate.{round_of}
use Rattle.al_meaning.specs.Tasks.{Still, Outcome, Env, Rest, Ways, asks, ask_in}
use Rattle.al_meaning.specs.Meant.{start_of, starts_all, par_starts}
use Rattle.al_ir.specs.declared.ir.Operation.{Operation}
use Rattle.al_ir.specs.declared.op.Op.{Op}
use Rattle.al_ir.specs.declared.op.Op.TheVariants as op
use Rattle.al_ir.specs.Control.{Slots, put, forget}
use Rattle.al_lowered.specs.Rules.{IsKnownStart, given_units}
use Rattle.al_lower_words.specs.Units.{AreOf}
use Rattle.al_lower_words.proofs.Integers.{one_fits}
use Rattle.al_lower_code.specs.Homes.{at_line, here, block_home}
use Rattle.al_lower_code.specs.Moving.{copies}
use Rattle.al_lower_code.specs.Simple.{around_count, start_code, start_words, start_function, starts_code, par_code}
use Rattle.al_lower_steps.specs.Slots.{Holds, Below}
use Rattle.al_lower_steps.specs.Site.{HasOperation, HasAt}
use Rattle.al_lower_steps.proofs.Slots.{put_same, put_below, below_refl, below_outside, holds_below, holds_join, holds_at, forget_outside}
use Rattle.al_lower_steps.proofs.Steps.{Runs, moved, has_front, has_back}
use Rattle.al_lower_steps.proofs.Plain.{copy_does, constant_does}
use Rattle.al_lower_steps.proofs.Actions.{proc_does, task_does, par_does as branches_start}
use Rattle.al_lower_claims.proofs.Moving.{copies_do}
use Rattle.al_lower_claims.proofs.Privates.{join_fits}
use Rattle.al_lower_claims.proofs.Variables.{vars_kept, around_count as vars_around}
use Rattle.al_lower_flow.proofs.Flow.{goes_at}
use Rattle.al_lower_bodies.proofs.Bodies.{Body, ways_in, site_of, scene_of, vars_of, spot_in, EffectIn}
use Rattle.al_lower_bodies.proofs.Effects.{none_does}
use Rattle.al_lower_bodies.proofs.Starting.{StartIn, start_does}

-- ---- procs and tasks

-- a call of a function by its name, whose words fit
abbrev pub StartsIn : Body → (line : ℕ) → TExpr → Type 0
StartsIn b line (Call' t function receiver shape arguments) = StartIn b line t function receiver arguments
StartsIn b line _ = ⊥

module _ (b : Body) where
  -- an operation that starts a function with words in slots asks so
  abbrev StepDoes : (Start → Act) → ((function arguments words : ℕ) → Op) → Type 0
  StepDoes how with_op = (line pc function arguments : ℕ) (slots last : Slots) (s : Still) (words : List ℕ) (k : List ℕ → Still → Outcome) → HasOperation (site_of b) pc line (with_op function arguments (length words)) → Holds slots arguments words → IsKnownStart b.program (record { code = function; words = words }) → ((s : Still) → Runs (site_of b) (k [] s) (pc + 1) slots last s) → Runs (site_of b) (ask_in line (how (record { code = function; words = words })) s k) pc slots last s

  abbrev start_means : (Start → Act) → TExpr → Ways → Env → Still → (Unit {0} → Rest) → Outcome
  start_means how e w env s next = start_of e w env s (λ start env s. asks w (how start) env s (λ _ env s. next tt env s))

  one_starts : (how : Start → Act) (with_op : (function arguments words : ℕ) → Op) → StepDoes how with_op → {line : ℕ} (e : TExpr) → StartsIn b line e → EffectIn b line (start_code (at_line line (spot_in b)) e (spot_in b).turns ++ here (at_line line (spot_in b)) (with_op (start_function e) (spot_in b).turns (start_words (at_line line (spot_in b)) e))) (start_means how e)
  one_starts how with_op step {line} (Call' t function receiver shape arguments) h = record {
    by = λ jump behind again pc next has go. record {
      by = λ env st slots last vars.
          let s = at_line line (spot_in b) in
          let call = Call' t function receiver shape arguments in
          let ca = start_code s call (spot_in b).turns in
          let cb = here s (with_op function (spot_in b).turns (start_words s call)) in
          let len : pc + length ca + 1 ≡ pc + length (ca ++ cb) = omega (arith, length-append ca cb) in
          start_does b shape arguments h jump behind again pc slots last env st (λ start env s. asks (ways_in b line jump behind again) (how start) env s (λ _ env s. next env s)) vars (has_front (site_of b) pc ca cb has) (λ ws env2 s2 now last2 fits count vars2 holds.
          step line (pc + length ca) function (spot_in b).turns now last2 s2 ws (λ _ s. next env2 s) (subst (λ n. HasOperation (site_of b) (pc + length ca) line (with_op function (spot_in b).turns n)) (sym count) (has_back (site_of b) pc ca cb has).0) holds (record { function = h.row; at = h.there; words = fits }) (λ s3.
          moved (site_of b) len (go.by env2 s3 now last2 vars2)));
    };
  }
  one_starts how with_op step {line} e h = elim h [ ]

  starts_do : (how : Start → Act) (with_op : (function arguments words : ℕ) → Op) → StepDoes how with_op → {line : ℕ} (es : List TExpr) → AllByRecursion (StartsIn b line) es → EffectIn b line (starts_code (at_line line (spot_in b)) with_op es) (starts_all how es)
  starts_do how with_op step {line} [] h = none_does b
  starts_do how with_op step {line} (e ∷ es) h = record {
    by = λ jump behind again pc next has go.
        let s = at_line line (spot_in b) in
        let ca = start_code s e (spot_in b).turns in
        let cb = here s (with_op (start_function e) (spot_in b).turns (start_words s e)) in
        let cd = starts_code s with_op es in
        let split = has_back (site_of b) pc ca (cb ++ cd) has in
        let len : pc + length (ca ++ cb) + length cd ≡ pc + length (ca ++ (cb ++ cd)) = omega (arith, length-append ca cb, length-append ca (cb ++ cd), length-append cb cd) in
        let at : pc + length ca + 1 ≡ pc + length (ca ++ cb) = omega (arith, length-append ca cb) in
        (one_starts how with_op step e h.0).by jump behind again pc (λ env st. starts_all how es (ways_in b line jump behind again) env st (λ _. next)) (joined_at pc ca cb (has_front (site_of b) pc ca (cb ++ cd) has) (has_front (site_of b) (pc + length ca) cb cd split))
        ((starts_do how with_op step es h.1).by jump behind again (pc + length (ca ++ cb)) next (subst (λ n. HasAt (site_of b) n cd) at split.1) (goes_at (site_of b) (vars_of b) len go));
  }
    where
      joined_at : (pc : ℕ) (p q : List Operation) → HasAt (site_of b) pc p → HasAt (site_of b) (pc + length p) q → HasAt (site_of b) pc (p ++ q)
      joined_at pc [] q h k = let z : pc + 0 ≡ pc = omega arith in subst (λ n. HasAt (site_of b) n q) z k
      joined_at pc (o ∷ p) q h k = let z : pc + length (o ∷ p) ≡ pc + 1 + length p = omega arith in (h.0, joined_at (pc + 1) p q h.1 (subst (λ n. HasAt (site_of b) n q) z k))

  pub procs_do : {line : ℕ} (es : List TExpr) → AllByRecursion (StartsIn b line) es → EffectIn b line (starts_code (at_line line (spot_in b)) op.Proc es) (starts_all act.Proc es)
  procs_do {line} es h = starts_do act.Proc op.Proc (λ line pc function arguments slots last s ws k has holds known go. proc_does (site_of b) ws k has holds known go) es h

  pub tasks_do : {line : ℕ} (es : List TExpr) → AllByRecursion (StartsIn b line) es → EffectIn b line (starts_code (at_line line (spot_in b)) op.Task es) (starts_all act.Task es)
  tasks_do {line} es h = starts_do act.Task op.Task (λ line pc function arguments slots last s ws k has holds known go. task_does (site_of b) ws k has holds known go) es h

  -- ---- par

  -- a branch, round which stand the functions round this one, and this one
  pub record BranchIn (branch : ℕ) : Type 0 where
    pub row : FunctionRow
    pub there : function_at b.program branch ≡ Some row
    pub around : row.around ≡ b.row.around ++ b.function ∷ []
    pub parameters : row.parameters ≡ 0

  map_append : (xs ys : List ℕ) → map (λ _. unit_at 0 4) (xs ++ ys) ≡ map (λ _. unit_at 0 4) xs ++ map (λ _. unit_at 0 4) ys
  map_append [] ys = refl
  map_append (x ∷ xs) ys = ap (λ r. unit_at 0 4 ∷ r) (map_append xs ys)

  units_nil : {A : Type 0} (us : List A) → us ++ [] ≡ us
  units_nil [] = refl
  units_nil (u ∷ us) = ap (λ r. u ∷ r) (units_nil us)

  branch_known : (env : Env) (slots : Slots) → vars_of b env slots → (branch : ℕ) → BranchIn branch → IsKnownStart b.program (record { code = branch; words = env.around ++ env.block ∷ [] })
  branch_known env slots vars branch h =
      let round : round_of (function_at b.program b.function) ≡ b.row.around = ap round_of b.there in
      let fits : AreOf (map (λ _. unit_at 0 4) b.row.around ++ map (λ _. unit_at 0 4) (b.function ∷ [])) (env.around ++ env.block ∷ []) = join_fits (map (λ _. unit_at 0 4) b.row.around) (unit_at 0 4 ∷ []) env.around (env.block ∷ []) (subst (λ r. AreOf (map (λ _. unit_at 0 4) r) env.around) round vars.around_fits) (one_fits 0 env.block vars.block_fits) in
      let no_parameters : flat_map (units_in b.program) (parameter_types h.row) ≡ [] = ap (λ n. flat_map (units_in b.program) (local_types (take n h.row.locals))) h.parameters in
      let units : given_units b.program h.row ≡ map (λ _. unit_at 0 4) b.row.around ++ map (λ _. unit_at 0 4) (b.function ∷ []) =
      ap (λ us. map (λ _. unit_at 0 4) h.row.around ++ us) no_parameters ∙ (units_nil (map (λ _. unit_at 0 4) h.row.around) ∙ (ap (map (λ _. unit_at 0 4)) h.around ∙ map_append b.row.around (b.function ∷ []))) in
      record { function = h.row; at = h.there; words = subst (λ us. AreOf us (env.around ++ env.block ∷ [])) (sym units) fits }

  all_known : (env : Env) (slots : Slots) → vars_of b env slots → (branches : List ℕ) → AllByRecursion BranchIn branches → AllByRecursion (IsKnownStart b.program) (map (λ n. record { code = n; words = env.around ++ env.block ∷ [] }) branches)
  all_known env slots vars [] h = tt
  all_known env slots vars (n ∷ ns) h = (branch_known env slots vars n h.0, all_known env slots vars ns h.1)

  -- the address of the function's own block, or 0
  block_put : (line to pc : ℕ) (slots last : Slots) (env : Env) (s : Still) (o : Outcome) → vars_of b env slots → (c : Bool) → has_block (locals_of (function_at b.program b.function)) ≡ c → HasAt (site_of b) pc (here (at_line line (spot_in b)) (if c then op.Copy to (block_home b.program b.function) else op.Constant to 0)) → Runs (site_of b) o (pc + 1) (put to env.block slots) last s → Runs (site_of b) o pc slots last s
  block_put line to pc slots last env s o vars true e has go = copy_does (site_of b) has.0 (vars.block e) go
  block_put line to pc slots last env s o vars false e has go = constant_does (site_of b) has.0 (subst (λ a. Runs (site_of b) o (pc + 1) (put to a slots) last s) (vars.no_block e) go)

  pub par_does : {line : ℕ} (branches : List ℕ) → AllByRecursion BranchIn branches → EffectIn b line (par_code (at_line line (spot_in b)) branches) (λ w env s next. par_starts branches w env s (λ starts env s. asks w (act.Par starts) env s (λ _ env s. next tt env s)))
  par_does {line} branches h = record {
    by = λ jump behind again pc next has go. record {
      by = λ env st slots last vars.
          let s = at_line line (spot_in b) in
          let to = (spot_in b).turns in
          let n = around_count s in
          let is_block = has_block (locals_of (function_at b.program b.function)) in
          let ca = copies line to 0 n in
          let cb = here s (if is_block then op.Copy (to + n) (block_home b.program b.function) else op.Constant (to + n) 0) in
          let cd = here s (op.Par branches to (n + 1) (to + n + 1)) in
          let words = env.around ++ env.block ∷ [] in
          let count : length env.around ≡ n = vars_around (scene_of b 0) env slots vars in
          let round = b.homes.behind_around (length (locals_of (function_at b.program b.function))) in
          let long : length words ≡ n + 1 = omega (arith, count, length-append env.around (env.block ∷ [])) in
          let back = has_back (site_of b) pc ca (cb ++ cd) has in
          copies_do (site_of b) env.around line to 0 pc slots last st _ (subst (λ m. HasAt (site_of b) pc (copies line to 0 m)) (sym count) (has_front (site_of b) pc ca (cb ++ cd) has)) vars.around (inl (omega (arith, count, round))) (λ now out held.
          let below : Below to now slots = below_outside to (length env.around) now slots out in
          let vars2 = vars_kept (scene_of b 0) env to now slots (omega arith) below vars in
          let here_is : pc + length (copies line to 0 (length env.around)) ≡ pc + length ca = ap (λ m. pc + length (copies line to 0 m)) count in
          moved (site_of b) here_is
          (block_put line (to + n) (pc + length ca) now last env st _ vars2 is_block refl (has_front (site_of b) (pc + length ca) cb cd back)
          (let now2 : Slots = put (to + n) env.block now in
          let below2 : Below (to + n) now2 now = put_below now now (to + n) env.block (to + n) (omega arith) (below_refl (to + n) now) in
          let held2 : Holds now2 to words = holds_join env.around (env.block ∷ []) to now2 (holds_below env.around to (to + n) now2 now (omega (arith, count)) below2 held) (holds_at (env.block ∷ []) (to + n) (to + length env.around) now2 (ap (λ m. to + m) (sym count)) (put_same now (to + n) env.block, tt)) in
          let vars3 = vars_kept (scene_of b 0) env (to + n) now2 now (omega arith) below2 vars2 in
          let op_at : HasOperation (site_of b) (pc + length ca + 1) line (op.Par branches to (length words) (to + n + 1)) = subst (λ m. HasOperation (site_of b) (pc + length ca + 1) line (op.Par branches to m (to + n + 1))) (sym long) (has_back (site_of b) (pc + length ca) cb cd back).0 in
          let len : pc + length ca + 1 + 1 ≡ pc + length (ca ++ (cb ++ cd)) = omega (arith, length-append ca (cb ++ cd), length-append cb cd) in
          branches_start (site_of b) words (λ _ s. next env s) op_at held2 (all_known env now2 vars3 branches h) (λ s3.
          let now3 : Slots = forget (to + n + 1) (3 * length branches) now2 in
          let below3 : Below (to + n + 1) now3 now2 = below_outside (to + n + 1) (3 * length branches) now3 now2 (forget_outside now2 (to + n + 1) (3 * length branches)) in
          moved (site_of b) len (go.by env s3 now3 last (vars_kept (scene_of b 0) env (to + n + 1) now3 now2 (omega arith) below3 vars3))))));
    };
  }
