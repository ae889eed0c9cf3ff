-- What was received keeps the bytes of its units, is made into a value of the target's type, and goes there.
use Rattle.std.proofs.Common.{◌≡◌, ℕ, ◌+◌, ◌≤◌, ◌^◌, List, [], ◌∷◌, ◌++◌, length, drop, refl, ap, ◌∙◌, subst, arith, length-append}
use Rattle.std.specs.Prelude.{Bool, true, false, if◌then◌else◌, slice_index}
use Rattle.std.proofs.Math.Nat.{mod-mod}
use Rattle.al_typed.specs.declared.layout.Unit.{Unit as StorageUnit}
use Rattle.al_typed.specs.declared.ty.Ty.{Ty}
use Rattle.al_typed.specs.declared.expression.TExpr.{TExpr}
use Rattle.al_typed.specs.declared.expression.TTarget.{TTarget}
use Rattle.al_typed.specs.declared.statement.TCommunication.TheVariants as talk
use Rattle.al_typed.specs.Typed.{target_type}
use Rattle.al_typed.specs.WellTyped.{converts}
use Rattle.al_meaning.specs.Words.{converted, fitted_to}
use Rattle.al_meaning.specs.Here.{units_in}
use Rattle.al_meaning.specs.Evaluate.{leaves_of}
use Rattle.al_meaning.specs.Tasks.{Still, Env, Rest}
use Rattle.al_meaning.specs.Told.{aimed, save_all}
use Rattle.al_ir.specs.declared.ir.Operation.{Operation}
use Rattle.al_ir.specs.Control.{Slots}
use Rattle.al_lower_words.specs.Units.{AreOf}
use Rattle.al_lower_words.proofs.Integers.{length_of, words_are}
use Rattle.al_lower_code.specs.Homes.{Spot, at_line, words}
use Rattle.al_lower_code.specs.Moving.{trims}
use Rattle.al_lower_code.specs.Operators.{stays, convert_code}
use Rattle.al_lower_code.specs.Expressions as code
use Rattle.al_lower_steps.specs.Slots.{Holds}
use Rattle.al_lower_steps.specs.Site.{HasAt}
use Rattle.al_lower_steps.proofs.Slots.{below_outside}
use Rattle.al_lower_steps.proofs.Steps.{Runs, moved, comes_out, has_front, has_back}
use Rattle.al_lower_claims.proofs.Moving.{trims_do}
use Rattle.al_lower_claims.proofs.Variables.{vars_kept}
use Rattle.al_lower_conversions.proofs.Plain.{converts_no_array, converts_to_no_array}
use Rattle.al_lower_conversions.proofs.Parts.{made_fits, made_stays}
use Rattle.al_lower_bodies.proofs.Bodies.{Body, setting, ways_in, site_of, scene_of, vars_of, spot_in}
use Rattle.al_lower_alts.proofs.Dispatch.{WentIn}
use Rattle.al_lower_received.proofs.Converting.{part_made}

fitted_twice : (us : List StorageUnit) (v : List ℕ) → AreOf us (fitted_to us v)
fitted_twice [] v = refl
fitted_twice (u ∷ us) v = rw (mod-mod (slice_index v 0) (256 ^ u.size), fitted_twice us (drop 1 v)) refl

module _ (b : Body) (line : ℕ) where
  abbrev s : Spot
  s = at_line line (spot_in b)

  abbrev target_code : TTarget → (from free : ℕ) → List Operation
  target_code target from free = (code.aimed s target).code free ++ (code.aimed s target).save free from

  -- it is made into a value of the target's type, if it does not stay as it is
  abbrev rest_code : Bool → Ty → TTarget → (got free : ℕ) → List Operation
  rest_code c t target got free = if c then target_code target got free else convert_code s t (target_type target) free got ++ target_code target free (free + words s (target_type target))

  -- a value that stands before the free slots goes into a target
  pub record TargetIn (target : TTarget) : Type 0 where
    pub by : (jump : ℕ → Rest) (behind again : List Rest) (v : List ℕ) (from free pc : ℕ) (slots last : Slots) (env : Env) (st : Still) (next : Unit {0} → Rest) → (spot_in b).turns ≤ from → from + length v ≤ free → AreOf (units_in b.program (target_type target)) v → Holds slots from v → vars_of b env slots → HasAt (site_of b) pc (target_code target from free) → ((env2 : Env) (st : Still) (now last2 : Slots) → vars_of b env2 now → Runs (site_of b) (next tt env2 st) (pc + length (target_code target from free)) now last2 st) → Runs (site_of b) (aimed target (ways_in b line jump behind again) env st (λ places env st. save_all (ways_in b line jump behind again) (leaves_of target) places v env st next)) pc slots last st

  pub received_went : (t : Ty) (target : TTarget) (chan : TExpr) → converts t (target_type target) ≡ true → TargetIn target → WentIn b line (talk.ReceiveInto t target chan)
  received_went t target chan e h = record {
    by = λ jump behind again ws got free pc slots last env s0 next room high count small holds vars has go.
        let p = b.program in
        let u = target_type target in
        let k = setting b line 0 jump behind again in
        let us = units_in p t in
        let ca = trims line got us in
        let many : length ws ≡ length us = count ∙ words_are p t (converts_no_array t u e) in
        trims_do (site_of b) us ws line got pc slots last s0 _ many small (has_front (site_of b) pc ca (rest_code (stays t u) t target got free) has) holds (λ now out held.
        let v = fitted_to us ws in
        let fits = fitted_twice us ws in
        let n = length_of us v fits in
        let vars1 = vars_kept (scene_of b 0) env got now slots (omega (arith, room)) (below_outside got (length us) now slots out) vars in
        let len : pc + length ca + length (rest_code (stays t u) t target got free) ≡ pc + length (ca ++ rest_code (stays t u) t target got free) = omega (arith, length-append ca (rest_code (stays t u) t target got free)) in
        goes (stays t u) refl jump behind again v got free (pc + length ca) now last env s0 next room (omega (arith, high, many, n)) fits held vars1 (has_back (site_of b) pc ca (rest_code (stays t u) t target got free) has) (λ env2 st2 now2 last2 vars2.
        moved (site_of b) len (go env2 st2 now2 last2 vars2)));
  }
    where
      goes : (c : Bool) → stays t (target_type target) ≡ c → (jump : ℕ → Rest) (behind again : List Rest) (v : List ℕ) (got free pc : ℕ) (slots last : Slots) (env : Env) (st0 : Still) (next : Unit {0} → Rest) → (spot_in b).turns ≤ got → got + length v ≤ free → AreOf (units_in b.program t) v → Holds slots got v → vars_of b env slots → HasAt (site_of b) pc (if c then target_code target got free else convert_code s t (target_type target) free got ++ target_code target free (free + words s (target_type target))) → ((env2 : Env) (st : Still) (now last2 : Slots) → vars_of b env2 now → Runs (site_of b) (next tt env2 st) (pc + length (if c then target_code target got free else convert_code s t (target_type target) free got ++ target_code target free (free + words s (target_type target)))) now last2 st) → Runs (site_of b) (aimed target (ways_in b line jump behind again) env st0 (λ places env st. save_all (ways_in b line jump behind again) (leaves_of target) places (converted b.program.aggregates t (target_type target) v) env st next)) pc slots last st0
      goes true q jump behind again v got free pc slots last env st0 next room high fits holds vars has go =
          let same = made_stays (setting b line 0 jump behind again) t (target_type target) e q v fits in
          let made = made_fits (setting b line 0 jump behind again) t (target_type target) e v fits in
          comes_out (site_of b) (ap (λ x. aimed target (ways_in b line jump behind again) env st0 (λ places env st. save_all (ways_in b line jump behind again) (leaves_of target) places x env st next)) same)
          (h.by jump behind again v got free pc slots last env st0 next room high (subst (AreOf (units_in b.program (target_type target))) same made) holds vars has go)
      goes false q jump behind again v got free pc slots last env st0 next room high fits holds vars has go =
          let p = b.program in
          let u = target_type target in
          let k = setting b line 0 jump behind again in
          let x = converted p.aggregates t u v in
          let made = made_fits k t u e v fits in
          let n = length_of (units_in p t) v fits in
          let m = length_of (units_in p u) x made in
          let w = words_are p u (converts_to_no_array t u e) in
          let ca = convert_code s t u free got in
          let cb = target_code target free (free + words s u) in
          let len : pc + length ca + length cb ≡ pc + length (ca ++ cb) = omega (arith, length-append ca cb) in
          part_made k t u e v fits free got pc slots last st0 _ holds (omega (arith, high, n)) (has_front (site_of b) pc ca cb has) (λ now out held.
          let vars2 = vars_kept (scene_of b 0) env free now slots (omega (arith, room, high)) (below_outside free (length (units_in p u)) now slots out) vars in
          h.by jump behind again x free (free + words s u) (pc + length ca) now last env st0 next (omega (arith, room, high)) (omega (arith, m, w)) made held vars2 (has_back (site_of b) pc ca cb has) (λ env2 st2 now2 last2 vars3.
          moved (site_of b) len (go env2 st2 now2 last2 vars3)))
