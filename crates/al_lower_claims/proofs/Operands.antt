-- Values in the first free slots, and operands.
use Rattle.std.proofs.Common.{◌≡◌, ℕ, ◌+◌, List, [], ◌++◌, length, Option, Some, None, refl, sym, ◌∙◌, subst, le_refl, arith, length-append}
use Rattle.std.specs.Prelude.{Bool, true, false, ◌&&◌, if◌then◌else◌, unwrap_or}
use Rattle.al_typed.specs.declared.ty.Ty.{Ty}
use Rattle.al_typed.specs.Types.{is_void}
use Rattle.al_meaning.specs.Here.{units_in}
use Rattle.al_meaning.specs.Tasks.{Still, Env, Rest, Task}
use Rattle.al_meaning.specs.Told.{value, needed}
use Rattle.al_ir.specs.declared.ir.Operation.{Operation}
use Rattle.al_ir.specs.Control.{Slots}
use Rattle.al_lower_words.proofs.Integers.{length_of}
use Rattle.al_lower_code.specs.Coded.{Coded, operand_slot, operand_code, first_slot}
use Rattle.al_lower_code.specs.Values.{pair_code}
use Rattle.al_lower_steps.specs.Slots.{Holds, Below}
use Rattle.al_lower_steps.proofs.Steps.{moved, comes_out, has_front, has_back}
use Rattle.al_lower_claims.proofs.Variables.{Stays, stays_refl, stays_both, stays_below, holds_stays, vars_kept, more_room, free, put_free}
use Rattle.al_lower_claims.proofs.Claims.{Setting, scene, site, Run, Has, HasVars, HasRoom, UnitsOf, count_of, GoesOn, ValueDoes, IsStanding, CodedDoes}

true_is_not : (b : Bool) → b ≡ true → b ≡ false → ⊥
true_is_not true h k = cc
true_is_not false h k = cc

pub both_true : (a b : Bool) → (a && b) ≡ true → (a ≡ true) × (b ≡ true)
both_true true true e = (refl, refl)
both_true true false e = absurd (cc)
both_true false b e = absurd (cc)

-- no operations where it stands
abbrev pub standing_or : Option ℕ → List Operation → List Operation
standing_or o code = elim o [ Some slot ↦ [] | None ↦ code ]

module _ (k : Setting) where
  -- how a run goes on behind a value that stands somewhere
  abbrev pub GoesWith : Ty → (keeps : Bool) → Env → Slots → (List ℕ → Rest) → (slot to end : ℕ) → Type 0
  GoesWith t keeps env slots next slot to end =
      (v : List ℕ) (env2 : Env) (s : Still) (now last : Slots) → UnitsOf k t v → HasVars k env2 now → Stays (scene k) to now slots → Holds now slot v → (keeps ≡ true → env2 ≡ env) → Run k (next v env2 s) end now last s

  -- in the first free slots
  pub free_does : {m : Task (Option (List ℕ))} {t : Ty} {keeps is_truth : Bool} {code : ℕ → ℕ → List Operation} → ValueDoes k m t keeps is_truth code → is_void t ≡ false → (to pc : ℕ) (slots last : Slots) (env : Env) (s : Still) (next : List ℕ → Rest) → HasRoom k to → HasVars k env slots → Has k pc (code to to) → GoesWith t keeps env slots next to to (pc + length (code to to)) → Run k (value m env s next) pc slots last s
  free_does {m} {t} {keeps} {is_truth} {code} h nv to pc slots last env s next room vars has go =
      h.by to to pc slots last env s (λ o env s. needed o env s next) (free refl) room vars has on
    where
      on : GoesOn k t keeps is_truth env slots (λ o env s. needed o env s next) to to (pc + length (code to to))
      on None env2 s was now last g v st put holds same truth = absurd (true_is_not (is_void t) g nv)
      on (Some x) env2 s was now last g v st put holds same truth =
          let b : Below to now was = put_free (count_of k t) to to now was refl put in
          go x env2 s now last g.1 (vars_kept (scene k) env2 to now was room b v) (stays_both (scene k) to to now was slots (le_refl to) (stays_below (scene k) to now was b) st) holds same

  -- where it stands, or in the first free slots
  pub operand_does : {m : Task (Option (List ℕ))} {t : Ty} {c : Coded} → CodedDoes k m t c → is_void t ≡ false → (to pc : ℕ) (slots last : Slots) (env : Env) (s : Still) (next : List ℕ → Rest) → HasRoom k to → HasVars k env slots → Has k pc (operand_code c to) → GoesWith t c.keeps env slots next (operand_slot c to) to (pc + length (operand_code c to)) → Run k (value m env s next) pc slots last s
  operand_does {m} {t} {c} h nv to pc slots last env s next room vars has go = on c.stands refl has go
    where
      on : (o : Option ℕ) → c.stands ≡ o → Has k pc (standing_or o (c.value to to)) → GoesWith t c.keeps env slots next (unwrap_or o to) to (pc + length (standing_or o (c.value to to))) → Run k (value m env s next) pc slots last s
      on (Some slot) e has go =
          let st = h.stands slot e in
          let q : pc ≡ pc + 0 = omega arith in
          comes_out (site k) (st.means env s (λ o env s. needed o env s next)) (moved (site k) q (go (st.is env) env s slots last (st.fits env slots vars) vars (stays_refl (scene k) to slots) (st.holds env slots vars) (λ e. refl)))
      on None e has go = free_does h.value nv to pc slots last env s next room vars has go

  -- how it goes on behind two values
  abbrev pub GoesWithTwo : (t u : Ty) → (keeps : Bool) → Env → Slots → (List ℕ → List ℕ → Rest) → (first second to end : ℕ) → Type 0
  GoesWithTwo t u keeps env slots next first second to end =
      (x y : List ℕ) (env2 : Env) (s : Still) (now last : Slots) → UnitsOf k t x → UnitsOf k u y → HasVars k env2 now → Stays (scene k) to now slots → Holds now first x → Holds now second y → (keeps ≡ true → env2 ≡ env) → Run k (next x y env2 s) end now last s

  module _ {m o : Task (Option (List ℕ))} {t u : Ty} {left right : Coded} (hl : CodedDoes k m t left) (hr : CodedDoes k o u right) (nl : is_void t ≡ false) (nr : is_void u ≡ false) where
    -- the first one comes to stand in free slots
    pub two_free : (n : ℕ) → n ≡ length (units_in k.ways.program t) → (to pc : ℕ) (slots last : Slots) (env : Env) (s : Still) (next : List ℕ → List ℕ → Rest) → HasRoom k to → HasVars k env slots → Has k pc (left.value to to ++ operand_code right (to + n)) → GoesWithTwo t u (left.keeps && right.keeps) env slots next to (operand_slot right (to + n)) to (pc + length (left.value to to ++ operand_code right (to + n))) → Run k (value m env s (λ x env s. value o env s (λ y env s. next x y env s))) pc slots last s
    two_free n count to pc slots last env s next room vars has go =
        let ca = left.value to to in
        let cb = operand_code right (to + n) in
        free_does hl.value nl to pc slots last env s (λ x env s. value o env s (λ y env s. next x y env s)) room vars (has_front (site k) pc ca cb has) (λ x env1 s now1 last1 fx vars1 st1 hx same1.
        operand_does hr nr (to + n) (pc + length ca) now1 last1 env1 s (λ y env s. next x y env s) (more_room (scene k) to n room) vars1 (has_back (site k) pc ca cb has) (λ y env2 s now2 last2 fy vars2 st2 hy same2.
        let lx : length x ≡ n = length_of _ _ fx ∙ sym count in
        let hx2 : Holds now2 to x = holds_stays (scene k) x to (to + n) now2 now1 room (omega (arith, lx)) st2 hx in
        let len : pc + length ca + length cb ≡ pc + length (ca ++ cb) = omega (arith, length-append ca cb) in
        moved (site k) len (go x y env2 s now2 last2 fx fy vars2 (stays_both (scene k) to (to + n) now2 now1 slots (omega arith) st2 st1) hx2 hy (λ e. let b = both_true left.keeps right.keeps e in same2 b.1 ∙ same1 b.0))))

    -- the first one is a variable, which the second keeps
    two_standing : (n slot : ℕ) → right.keeps ≡ true → IsStanding k m t slot → (to pc : ℕ) (slots last : Slots) (env : Env) (s : Still) (next : List ℕ → List ℕ → Rest) → HasRoom k to → HasVars k env slots → Has k pc (operand_code right (to + n)) → GoesWithTwo t u (left.keeps && right.keeps) env slots next slot (operand_slot right (to + n)) to (pc + length (operand_code right (to + n))) → Run k (value m env s (λ x env s. value o env s (λ y env s. next x y env s))) pc slots last s
    two_standing n slot keeps st to pc slots last env s next room vars has go =
        comes_out (site k) (st.means env s (λ p env s. needed p env s (λ x env s. value o env s (λ y env s. next x y env s))))
        (operand_does hr nr (to + n) pc slots last env s (λ y env3 s. next (st.is env) y env3 s) (more_room (scene k) to n room) vars has (λ y env2 s now last fy vars2 st2 hy same.
        let same_env : env2 ≡ env = same keeps in
        let hx : Holds now slot (st.is env) = subst (λ e. Holds now slot (st.is e)) same_env (st.holds env2 now vars2) in
        go (st.is env) y env2 s now last (st.fits env slots vars) fy vars2 (stays_both (scene k) to (to + n) now slots slots (omega arith) st2 (stays_refl (scene k) to slots)) hx hy (λ e. same_env)))

    pub pair_does : (n : ℕ) → n ≡ length (units_in k.ways.program t) → (to pc : ℕ) (slots last : Slots) (env : Env) (s : Still) (next : List ℕ → List ℕ → Rest) → HasRoom k to → HasVars k env slots → Has k pc (pair_code n left right to) → GoesWithTwo t u (left.keeps && right.keeps) env slots next (first_slot left right to) (operand_slot right (to + n)) to (pc + length (pair_code n left right to)) → Run k (value m env s (λ x env s. value o env s (λ y env s. next x y env s))) pc slots last s
    pair_does n count to pc slots last env s next room vars has go = on right.keeps left.stands refl refl has go
      where
        on : (b : Bool) (st : Option ℕ) → right.keeps ≡ b → left.stands ≡ st → Has k pc ((if b then (standing_or st (left.value to to)) else left.value to to) ++ operand_code right (to + n)) → GoesWithTwo t u (left.keeps && right.keeps) env slots next (if b then unwrap_or st to else to) (operand_slot right (to + n)) to (pc + length ((if b then (standing_or st (left.value to to)) else left.value to to) ++ operand_code right (to + n))) → Run k (value m env s (λ x env s. value o env s (λ y env s. next x y env s))) pc slots last s
        on true (Some slot) keeps e has go = two_standing n slot keeps (hl.stands slot e) to pc slots last env s next room vars has go
        on true None keeps e has go = two_free n count to pc slots last env s next room vars has go
        on false st keeps e has go = two_free n count to pc slots last env s next room vars has go
