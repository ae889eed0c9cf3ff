-- The bounds of iterators.
use Rattle.std.proofs.Common.{◌≡◌, ℕ, suc, ◌+◌, ◌<◌, ◌≤◌, ◌^◌, List, [], ◌∷◌, ◌++◌, length, refl, sym, ap, ◌∙◌, subst, arith, length-append}
use Rattle.std.specs.Prelude.{⊤}
use Rattle.std.specs.List.{AllByRecursion}
use Rattle.al_typed.specs.declared.expression.TExpr.{TExpr}
use Rattle.al_typed.specs.declared.statement.TBounds.{TBounds}
use Rattle.al_typed.specs.Types.{int}
use Rattle.al_typed.specs.Typed.{type_of}
use Rattle.al_base.specs.declared.arith.Kind.TheVariants as kind
use Rattle.al_meaning.specs.Here.{units_in}
use Rattle.al_meaning.specs.Items.{Bounds}
use Rattle.al_meaning.specs.Execute.{bounds_exprs, bounds_of}
use Rattle.al_meaning.specs.Tasks.{Still, Env, Rest}
use Rattle.al_meaning.specs.Told.{value, told}
use Rattle.al_meaning.specs.Meant.{values_of}
use Rattle.al_ir.specs.Control.{Slots}
use Rattle.al_lower_words.specs.Units.{AreOf}
use Rattle.al_lower_words.proofs.Integers.{IsOne, one_word, units_of_kind}
use Rattle.al_lower_code.specs.Homes.{at_line}
use Rattle.al_lower_code.specs.Expressions.{coded}
use Rattle.al_lower_code.specs.Heads.{bounds_code}
use Rattle.al_lower_steps.specs.Slots.{Holds}
use Rattle.al_lower_steps.specs.Site.{HasAt}
use Rattle.al_lower_steps.proofs.Steps.{Runs, moved, has_front, has_back}
use Rattle.al_lower_claims.proofs.Variables.{Stays, stays_refl, holds_stays}
use Rattle.al_lower_claims.proofs.Claims.{scene, site, spot}
use Rattle.al_lower_claims.proofs.Operands.{free_does}
use Rattle.al_lower_values.proofs.Binary.{not_void_integer}
use Rattle.al_lower_bodies.proofs.Bodies.{Body, setting, ways_in, site_of, scene_of, vars_of, spot_in, ValueIn}

-- they stand from a slot on, two words each
abbrev pub BoundsAt : Slots → ℕ → List Bounds → Type 0
BoundsAt slots at [] = ⊤
BoundsAt slots at (x ∷ xs) = (Holds slots at (x.from ∷ x.to ∷ []) × ((x.from < 2 ^ 32) × (x.to < 2 ^ 32))) × BoundsAt slots (at + 2) xs

module _ (b : Body) (line : ℕ) where
  pub record BoundIn (t : TBounds) : Type 0 where
    pub from_int : type_of t.from ≡ int
    pub to_int : type_of t.to ≡ int
    pub from : ValueIn b line 0 t.from
    pub to : ValueIn b line 0 t.to

  int_word : (e : TExpr) → type_of e ≡ int → (v : List ℕ) → AreOf (units_in b.program (type_of e)) v → IsOne v
  int_word e is v fits = one_word 0 v (subst (λ us. AreOf us v) (ap (units_in b.program) is ∙ units_of_kind b.program kind.Int) fits)

  pub bounds_do : (bs : List TBounds) → AllByRecursion BoundIn bs → (jump : ℕ → Rest) (behind again : List Rest) (to pc : ℕ) (slots last : Slots) (env : Env) (s : Still) (next : List (List ℕ) → Rest) → (spot_in b).turns ≤ to → vars_of b env slots → HasAt (site_of b) pc (bounds_code (at_line line (spot_in b)) bs to) → ((vs : List (List ℕ)) (env2 : Env) (s : Still) (now last2 : Slots) → vars_of b env2 now → Stays (scene_of b 0) to now slots → BoundsAt now to (bounds_of vs) → length (bounds_of vs) ≡ length bs → Runs (site_of b) (next vs env2 s) (pc + length (bounds_code (at_line line (spot_in b)) bs to)) now last2 s) → Runs (site_of b) (values_of (bounds_exprs bs) (ways_in b line jump behind again) env s next) pc slots last s
  bounds_do [] h jump behind again to pc slots last env s next room vars has go = let z : pc ≡ pc + 0 = omega arith in moved (site_of b) z (go [] env s slots last vars (stays_refl (scene_of b 0) to slots) tt refl)
  bounds_do (t ∷ ts) h jump behind again to pc slots last env s next room vars has go =
      let k = setting b line 0 jump behind again in
      let w = ways_in b line jump behind again in
      let ca = (coded (spot k) t.from).value to to in
      let cb = (coded (spot k) t.to).value (to + 1) (to + 1) in
      let cd = bounds_code (spot k) ts (to + 2) in
      let back = has_back (site k) pc ca (cb ++ cd) has in
      let len : pc + length ca + length cb + length cd ≡ pc + length (ca ++ (cb ++ cd)) = omega (arith, length-append ca (cb ++ cd), length-append cb cd) in
      free_does k (h.0.from jump behind again).value (not_void_integer (type_of t.from) kind.Int h.0.from_int) to pc slots last env s (λ x env s. value (told t.to w) env s (λ y env s. values_of (bounds_exprs ts) w env s (λ vs env s. next (x ∷ y ∷ vs) env s))) (omega (arith, room)) vars (has_front (site k) pc ca (cb ++ cd) has) (λ x env1 s1 now1 last1 fx vars1 st1 hx same1.
      free_does k (h.0.to jump behind again).value (not_void_integer (type_of t.to) kind.Int h.0.to_int) (to + 1) (pc + length ca) now1 last1 env1 s1 (λ y env s. values_of (bounds_exprs ts) w env s (λ vs env s. next (x ∷ y ∷ vs) env s)) (omega (arith, room)) vars1 (has_front (site k) (pc + length ca) cb cd back) (λ y env2 s2 now2 last2 fy vars2 st2 hy same2.
      let ox = int_word t.from h.0.from_int x fx in
      let oy = int_word t.to h.0.to_int y fy in
      let hx2 : Holds now2 to (ox.word ∷ []) = holds_stays (scene k) (ox.word ∷ []) to (to + 1) now2 now1 (omega (arith, room)) (omega arith) st2 (subst (Holds now1 to) ox.is hx) in
      let hy2 : Holds now2 (to + 1) (oy.word ∷ []) = subst (Holds now2 (to + 1)) oy.is hy in
      bounds_do ts h.1 jump behind again (to + 2) (pc + length ca + length cb) now2 last2 env2 s2 (λ vs env s. next (x ∷ y ∷ vs) env s) (omega (arith, room)) vars2 (has_back (site k) (pc + length ca) cb cd back) (λ vs env3 s3 now3 last3 vars3 st3 rest count.
      let both : Holds now3 to (ox.word ∷ oy.word ∷ []) = holds_stays (scene k) (ox.word ∷ oy.word ∷ []) to (to + 2) now3 now2 (omega (arith, room)) (omega arith) st3 (hx2.0, hy2) in
      moved (site k) len
      (subst (λ x. Runs (site k) (next (x ∷ y ∷ vs) env3 s3) (pc + length (ca ++ (cb ++ cd))) now3 last3 s3) (sym ox.is)
      (subst (λ y. Runs (site k) (next ((ox.word ∷ []) ∷ y ∷ vs) env3 s3) (pc + length (ca ++ (cb ++ cd))) now3 last3 s3) (sym oy.is)
      (go ((ox.word ∷ []) ∷ (oy.word ∷ []) ∷ vs) env3 s3 now3 last3 vars3 (λ i f lt. st3 i f (omega (arith, lt)) ∙ (st2 i f (omega (arith, lt)) ∙ st1 i f lt)) ((both, (ox.small, oy.small)), rest) (ap suc count)))))))
