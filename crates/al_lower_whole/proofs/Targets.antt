-- A value that stands before the free slots goes into a target.
use Rattle.std.proofs.Common.{◌≡◌, ℕ, ◌+◌, List, [], ◌++◌, length, sym, ap, append-nil, arith, length-append}
use Rattle.al_typed.specs.declared.expression.TTarget.{TTarget}
use Rattle.al_typed.specs.WellTyped.{IsTarget}
use Rattle.al_meaning.specs.Evaluate.{leaves_of}
use Rattle.al_meaning.specs.Tasks.{Rest}
use Rattle.al_meaning.specs.Told.{save_all}
use Rattle.al_meaning.specs.Told as meaning
use Rattle.al_lower_code.specs.Expressions as code
use Rattle.al_lower_steps.specs.Slots.{Holds}
use Rattle.al_lower_steps.proofs.Steps.{moved, comes_out, has_front, has_back}
use Rattle.al_lower_claims.proofs.Variables.{holds_stays}
use Rattle.al_lower_claims.proofs.Claims.{scene, spot, HasRoom}
use Rattle.al_lower_bodies.proofs.Bodies.{Body, setting, scope_of, site_of}
use Rattle.al_lower_received.proofs.Receiving.{TargetIn}
use Rattle.al_lower_targets.proofs.Targets.{AimedDoes}
use Rattle.al_lower_expressions.proofs.Rows.{target_to_parts}

module _ (b : Body) (line : ℕ) (target : TTarget) (h : IsTarget (scope_of b 0) target) where
  abbrev Aims : Type 1
  Aims = (jump : ℕ → Rest) (behind again : List Rest) → AimedDoes (setting b line 0 jump behind again) (meaning.aimed target (setting b line 0 jump behind again).ways) (leaves_of target) (code.aimed (spot (setting b line 0 jump behind again)) target)

  pub target_in : Aims → TargetIn b line target
  target_in aims = record {
    by = λ jump behind again v from free pc slots last env st next room below fits holds vars has go.
        let k = setting b line 0 jump behind again in
        let a = code.aimed (spot k) target in
        let ca = a.code free in
        let cb = a.save free from in
        let x = aims jump behind again in
        let room1 : HasRoom k free = omega (arith, room, below) in
        let room2 : HasRoom k from = omega (arith, room) in
        x.by free pc slots last env st (λ places env st. save_all k.ways (leaves_of target) places v env st next) room1 vars (has_front (site_of b) pc ca cb has) (λ fs env2 s2 now last2 at2 vars2 st2.
        let held : Holds now from v = holds_stays (scene k) v from free now slots room2 below st2 holds in
        comes_out (site_of b) (ap (λ ts. save_all k.ways ts fs v env2 s2 next) (sym (append-nil (leaves_of target))))
        (comes_out (site_of b) (ap (λ gs. save_all k.ways (leaves_of target ++ []) gs v env2 s2 next) (sym (append-nil fs)))
        (comes_out (site_of b) (ap (λ w. save_all k.ways (leaves_of target ++ []) (fs ++ []) w env2 s2 next) (sym (append-nil v)))
        (x.saves [] [] fs v [] free from (pc + length ca) now last2 env2 s2 next at2 (target_to_parts k (scope_of b 0) target h v fits) held room2 room1 vars2 (has_back (site_of b) pc ca cb has) (λ env3 s3 now3 vars3 same3.
        let len : pc + length ca + length cb ≡ pc + length (ca ++ cb) = omega (arith, length-append ca cb) in
        moved (site_of b) len (go env3 s3 now3 last2 vars3))))));
  }
