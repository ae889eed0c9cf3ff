-- `++` and `--` before and behind a place.
use Rattle.std.proofs.Common.{◌≡◌, ℕ, ◌+◌, ◌≤◌, List, [], ◌++◌, length, Option, Some, None, refl, sym, ap, ◌∙◌, subst, inl, inr, ⊎_elim, arith, length-append}
use Rattle.std.specs.Prelude.{Bool, true, false, if◌then◌else◌, unwrap_or}
use Rattle.al_typed.specs.declared.ty.Ty.{Ty, out-Ty}
use Rattle.al_typed.specs.declared.expression.StepOp.{StepOp}
use Rattle.al_typed.specs.declared.expression.StepOp.TheVariants as step
use Rattle.al_meaning.specs.Here.{units_in}
use Rattle.al_meaning.specs.Items.{Found, Local}
use Rattle.al_meaning.specs.Evaluate.{next_value, goes_back, step_gives}
use Rattle.al_meaning.specs.Tasks.{Still, Env, Rest, Task}
use Rattle.al_meaning.specs.Told.{read, saved}
use Rattle.al_ir.specs.Control.{Slots}
use Rattle.al_lower_words.proofs.Integers.{length_of, words_are}
use Rattle.al_lower_code.specs.Moving.{home_of, copies, moves, read_code, save_code}
use Rattle.al_lower_code.specs.Operators.{step_code}
use Rattle.al_lower_code.specs.Coded.{Placed, valued}
use Rattle.al_lower_code.specs.Actions.{changing, gives_old, steps_home, steps_place, steps_variable, stepped_coded}
use Rattle.al_lower_steps.specs.Slots.{Holds, Below, Outside}
use Rattle.al_lower_steps.proofs.Slots.{below_outside, holds_below, holds_kept}
use Rattle.al_lower_steps.proofs.Steps.{moved, comes_out, has_front, has_back}
use Rattle.al_lower_claims.proofs.Moving.{CanCopy, copies_do, moves_do}
use Rattle.al_lower_claims.proofs.Privates.{NoArrayGlobals}
use Rattle.al_lower_claims.proofs.Variables.{Stays, Put, put_outside_is, holds_stays, vars_kept, with_local, more_room, home}
use Rattle.al_lower_claims.proofs.Claims.{Setting, scene, site, spot, Run, Has, HasVars, HasRoom, UnitsOf, count_of, IsLocalPlace, PlacedDoes, ValueDoes, EffectDoes, CodedDoes}
use Rattle.al_lower_claims.proofs.Plain.{valued_does}
use Rattle.al_lower_claims.proofs.Saving.{save_does}
use Rattle.al_lower_values.proofs.Rows.{can_move}
use Rattle.al_lower_actions.proofs.Assigning.{behind, of_local, found_later, vars_put, Changes, changing_does}
use Rattle.al_lower_changes.proofs.Reading.{read_behind}
use Rattle.al_lower_changes.proofs.Stepping.{next_of, StepDoes}

-- what it gives is the old value or the new one
gives_is : (op : StepOp) (old new : List ℕ) → step_gives op old new ≡ (if gives_old op then old else new)
gives_is step.PreIncrement old new = refl
gives_is step.PreDecrement old new = refl
gives_is step.PostIncrement old new = refl
gives_is step.PostDecrement old new = refl

module _ (k : Setting) (plain : NoArrayGlobals k.ways.program k.ways.program.globals) {m : Task Found} (t : Ty) (op : StepOp) (pl : Placed) (hp : PlacedDoes k m t pl) (ch : StepDoes k (goes_back op) t) where
  abbrev next_step : List ℕ → List ℕ
  next_step v = next_of k (goes_back op) t v

  abbrev pub stepped_means : Task (Option (List ℕ))
  stepped_means env s next = m env s (λ fd env s. read k.ways t fd env s (λ old env s. saved k.ways t fd (next_value k.ways.program (goes_back op) t (out-Ty t) old) (step_gives op old (next_value k.ways.program (goes_back op) t (out-Ty t) old)) env s next))

  counts : count_of k t ≡ length (units_in k.ways.program t)
  counts = words_are k.ways.program t ch.not_array

  count_is : (v : List ℕ) → UnitsOf k t v → count_of k t ≡ length v
  count_is v fits = counts ∙ sym (length_of _ _ fits)

  given_is : (b : Bool) → gives_old op ≡ b → (v : List ℕ) → step_gives op v (next_step v) ≡ (if b then v else next_step v)
  given_is b e v = gives_is op v (next_step v) ∙ ap (λ b. if b then v else next_step v) e

  -- ---- a variable

  module _ (slot : ℕ) (lp : IsLocalPlace k m t pl slot) where
    fit : slot + count_of k t ≤ k.turns
    fit =
        let q = k.homes.fits lp.number lp.row lp.local in
        let len : length (units_in k.ways.program lp.row.ty) ≡ length (units_in k.ways.program t) = ap (λ q. length (units_in k.ways.program q)) lp.type in
        let is = lp.is in
        let above = k.above in
        let c = counts in
        omega (arith, q, len, is, above, c)

    -- the next value comes to stand in its place
    at_home : (free pc : ℕ) (v : List ℕ) (slots last : Slots) (env : Env) (s : Still) (next : Option (List ℕ) → Rest) → HasRoom k free → HasVars k env slots → Has k pc (steps_home (spot k) t op slot free) → UnitsOf k t v → Holds slots slot v → ((now : Slots) → HasVars k (with_local lp.number (next_step v) env) now → Put (count_of k t) slot free now slots → Holds now slot (next_step v) → Run k (next (Some (step_gives op v (next_step v))) (with_local lp.number (next_step v) env) s) (pc + length (steps_home (spot k) t op slot free)) now last s) → Run k (saved k.ways t (Local lp.number) (next_step v) (step_gives op v (next_step v)) env s next) pc slots last s
    at_home free pc v slots last env s next room vars has fits holds go =
        let f = fit in
        let lt = count_is (next_step v) (ch.fits v fits) in
        let is = lp.is in
        ch.does slot slot free pc v slots last s _ has (omega (arith, f, room)) holds fits (λ now put holds2.
        let put2 : Put (length (next_step v)) (home (scene k) lp.number) free now slots = subst (λ i. Put (length (next_step v)) i free now slots) is (subst (λ n. Put n slot free now slots) lt put) in
        go now (vars_put k lp.number lp.row env (next_step v) free now slots lp.local (subst (λ q. UnitsOf k q (next_step v)) (sym lp.type) (ch.fits v fits)) room put2 (subst (λ i. Holds now i (next_step v)) is holds2) vars) put holds2)

    -- a free slot is none of its own
    stays_free : (to free : ℕ) (now slots : Slots) → to ≤ free → Put (count_of k t) slot free now slots → Stays (scene k) to now slots
    stays_free to free now slots le put i f lt =
        let len : length (units_in k.ways.program lp.row.ty) ≡ count_of k t = ap (λ q. length (units_in k.ways.program q)) lp.type ∙ sym counts in
        let is = lp.is in
        put i (omega (arith, le, lt)) (⊎_elim (λ q. inl (omega (arith, q, is))) (λ q. inr (omega (arith, q, is, len))) (f lp.number lp.row lp.local))

    -- the place is that variable
    found_there : (pc : ℕ) (slots last : Slots) (env : Env) (s : Still) (next : Option (List ℕ) → Rest) → HasVars k env slots → ((v : List ℕ) → UnitsOf k t v → Holds slots slot v → Run k (saved k.ways t (Local lp.number) (next_step v) (step_gives op v (next_step v)) env s next) pc slots last s) → Run k (stepped_means env s next) pc slots last s
    found_there pc slots last env s next vars go =
        let held = vars.locals lp.number lp.row lp.local in
        comes_out (site k) (lp.means env s (λ fd env s. read k.ways t fd env s (λ old env s. saved k.ways t fd (next_step old) (step_gives op old (next_step old)) env s next)))
        (comes_out (site k) (ap (λ r. saved k.ways t (Local lp.number) (next_step (unwrap_or r [])) (step_gives op (unwrap_or r []) (next_step (unwrap_or r []))) env s next) held.is)
        (go held.value (subst (λ q. UnitsOf k q held.value) lp.type held.fits) (subst (λ i. Holds slots i held.value) (sym lp.is) held.holds)))

    given_fits : (v : List ℕ) → UnitsOf k t v → UnitsOf k t (step_gives op v (next_step v))
    given_fits v fits = subst (UnitsOf k t) (sym (gives_is op v (next_step v))) (on (gives_old op))
      where
        on : (b : Bool) → UnitsOf k t (if b then v else next_step v)
        on true = fits
        on false = ch.fits v fits

    steps_effect : EffectDoes k stepped_means t false (λ to. steps_home (spot k) t op slot to)
    steps_effect = record {
      by = λ to pc slots last env s next room vars has go.
          found_there pc slots last env s next vars (λ v fits holds.
          at_home to pc v slots last env s next room vars has fits holds (λ now vars2 put holds2.
          go (Some (step_gives op v (next_step v))) (with_local lp.number (next_step v) env) s now last (ch.not_void, given_fits v fits) vars2 (stays_free to to now slots (omega arith) put) (λ e. absurd (cc))));
    }

    -- the old value is copied first
    old_value : gives_old op ≡ true → ValueDoes k stepped_means t false false (λ dest to. copies k.ways.line to slot (count_of k t) ++ (steps_home (spot k) t op slot (to + count_of k t) ++ moves k.ways.line dest to (count_of k t)))
    old_value old = record {
      by = λ dest to pc slots last env s next d room vars has go.
          let n = count_of k t in
          let ca = copies k.ways.line to slot n in
          let cb = steps_home (spot k) t op slot (to + n) in
          let cd = moves k.ways.line dest to n in
          let back = has_back (site k) pc ca (cb ++ cd) has in
          let f = fit in
          found_there pc slots last env s next vars (λ v fits holds.
          let count = count_is v fits in
          let front : Has k pc (copies k.ways.line to slot (length v)) = subst (λ n. Has k pc (copies k.ways.line to slot n)) count (has_front (site k) pc ca (cb ++ cd) has) in
          copies_do (site k) v k.ways.line to slot pc slots last s _ front holds (inl (omega (arith, f, count, room))) (λ now1 out1 holds1.
          let below1 : Below to now1 slots = below_outside to (length v) now1 slots out1 in
          let held : Holds now1 slot v = holds_below v slot to now1 slots (omega (arith, f, count, room)) below1 holds in
          let at : pc + length (copies k.ways.line to slot (length v)) ≡ pc + length ca = ap (λ n. pc + length (copies k.ways.line to slot n)) (sym count) in
          moved (site k) at
          (at_home (to + n) (pc + length ca) v now1 last env s next (more_room (scene k) to n room) (vars_kept (scene k) env to now1 slots room below1 vars) (has_front (site k) (pc + length ca) cb cd back) fits held (λ now2 vars2 put2 holds2.
          let kept : Holds now2 to v = kept_behind v to n now2 now1 f room count put2 holds1 in
          let same : step_gives op v (next_step v) ≡ v = given_is true old v in
          let len : pc + length ca + length cb + length cd ≡ pc + length (ca ++ (cb ++ cd)) = omega (arith, length-append ca (cb ++ cd), length-append cb cd) in
          comes_out (site k) (ap (λ w. next (Some w) (with_local lp.number (next_step v) env) s) same)
          (moves_do (site k) v n k.ways.line dest to (pc + length ca + length cb) now2 last s _ count (has_back (site k) (pc + length ca) cb cd back) kept (subst (CanCopy to dest) count (can_move k n dest to d room)) (λ now3 out3 holds3.
          moved (site k) len (go (Some v) (with_local lp.number (next_step v) env) s now2 now3 last (ch.not_void, fits) vars2 (λ i g lt. stays_free to (to + n) now2 now1 (omega arith) put2 i g lt ∙ below1 i lt) (put_outside_is n dest to now3 now2 (subst (λ n. Outside dest n now3 now2) (sym count) out3)) holds3 (λ e. absurd (cc)) (λ e. absurd (cc)))))))));
    }
      where
        kept_behind : (v : List ℕ) (to n : ℕ) (now was : Slots) → slot + n ≤ k.turns → HasRoom k to → n ≡ length v → Put n slot (to + n) now was → Holds was to v → Holds now to v
        kept_behind v to n now was f room count put holds = holds_kept v to to (to + n) now was (omega arith) (omega (arith, count)) (λ i le lt. put i lt (inr (omega (arith, f, room, le)))) holds

    new_changes : gives_old op ≡ false → Changes k stepped_means t (λ to. steps_home (spot k) t op slot to) (λ to. slot)
    new_changes new = record {
      by = λ to pc slots last env s next room vars has go.
          found_there pc slots last env s next vars (λ v fits holds.
          at_home to pc v slots last env s next room vars has fits holds (λ now vars2 put holds2.
          let same : step_gives op v (next_step v) ≡ next_step v = given_is false new v in
          let len : length (units_in k.ways.program lp.row.ty) ≡ count_of k t = ap (λ q. length (units_in k.ways.program q)) lp.type ∙ sym counts in
          comes_out (site k) (ap (λ w. next (Some w) (with_local lp.number (next_step v) env) s) same)
          (go (next_step v) (with_local lp.number (next_step v) env) s now last (ch.fits v fits) vars2 (stays_free to to now slots (omega arith) put) holds2 (of_local lp.number lp.row lp.local lp.is len))));
    }

    variable_does : CodedDoes k stepped_means t (steps_variable (spot k) t op slot)
    variable_does = on (gives_old op) refl
      where
        on : (b : Bool) → gives_old op ≡ b → CodedDoes k stepped_means t (if b then record (valued (spot k) t false (λ dest to. copies k.ways.line to slot (count_of k t) ++ (steps_home (spot k) t op slot (to + count_of k t) ++ moves k.ways.line dest to (count_of k t)))) { effect = λ to. steps_home (spot k) t op slot to } else changing (spot k) t (λ to. steps_home (spot k) t op slot to) (λ to. slot))
        on true e =
            let p = valued_does k false (λ dest to. copies k.ways.line to slot (count_of k t) ++ (steps_home (spot k) t op slot (to + count_of k t) ++ moves k.ways.line dest to (count_of k t))) (old_value e) in
            record {
              value = p.value;
              effect = steps_effect;
              unless = p.unless;
              pointer = p.pointer;
              stored = p.stored;
              known = p.known;
              stands = p.stands;
            }
        on false e = changing_does k t (λ to. steps_home (spot k) t op slot to) (λ to. slot) ch.not_void ch.not_array (new_changes e)

  -- ---- any other place

  abbrev new_slot : Bool → (to : ℕ) → ℕ
  new_slot b to = if b then to + 1 + count_of k t else to + 1

  place_changes : (b : Bool) → gives_old op ≡ b → Changes k stepped_means t (λ to. steps_place (spot k) t op pl (new_slot b to) to) (λ to. to + 1)
  place_changes b old = record {
    by = λ to pc slots last env s next room vars has go.
        let n = count_of k t in
        let at = pl.at false to in
        let c1 = pl.code false to in
        let c2 = read_code (spot k) t at (to + 1) in
        let c3 = step_code (spot k) (goes_back op) t (new_slot b to) (to + 1) (to + 1 + n) in
        let c4 = save_code (spot k) t at (new_slot b to) in
        let h1 = has_back (site k) pc c1 (c2 ++ (c3 ++ c4)) has in
        let h2 = has_back (site k) (pc + length c1) c2 (c3 ++ c4) h1 in
        let room1 = more_room (scene k) to 1 room in
        let above = k.above in
        let high : to + 1 ≤ new_slot b to = high_slot b to in
        hp.by false to pc slots last env s (λ fd env s. read k.ways t fd env s (λ old env s. saved k.ways t fd (next_step old) (step_gives op old (next_step old)) env s next)) room vars (has_front (site k) pc c1 (c2 ++ (c3 ++ c4)) has) (λ fd env1 s now1 last1 found1 vars1 st1 same1.
        read_behind k plain t to (pc + length c1) now1 last1 env1 s (λ old env s. saved k.ways t fd (next_step old) (step_gives op old (next_step old)) env s next) found1 ch.not_array room vars1 (has_front (site k) (pc + length c1) c2 (c3 ++ c4) h1) (λ v s now2 fits2 out2 holds2.
        let count = count_is v fits2 in
        ch.does (new_slot b to) (to + 1) (to + 1 + n) (pc + length c1 + length c2) v now2 last1 s _ (has_front (site k) (pc + length c1 + length c2) c3 c4 h2) (omega arith) holds2 fits2 (λ now3 put3 holds3.
        let below31 : Below (to + 1) now3 now1 = λ i lt. put3 i (omega (arith, lt)) (inl (omega (arith, lt, high))) ∙ out2 i (inl lt) in
        let vars3 = vars_kept (scene k) env1 (to + 1) now3 now1 room1 below31 vars1 in
        let found3 = found_later k false to now3 now1 env1 env1 found1 vars1 vars3 (λ i f lt. below31 i lt) (λ e. refl) room in
        let fits3 = ch.fits v fits2 in
        let given : Holds now3 (to + 1) (step_gives op v (next_step v)) = subst (Holds now3 (to + 1)) (sym (given_is b old v)) (given_held b to v now3 now2 count put3 holds2 holds3) in
        let fits4 : UnitsOf k t (step_gives op v (next_step v)) = subst (UnitsOf k t) (sym (given_is b old v)) (either_fits b v fits2) in
        let end : pc + length c1 + length c2 + length c3 + length c4 ≡ pc + length (c1 ++ (c2 ++ (c3 ++ c4))) = omega (arith, length-append c1 (c2 ++ (c3 ++ c4)), length-append c2 (c3 ++ c4), length-append c3 c4) in
        save_does k plain t (next_step v) (new_slot b to) to (pc + length c1 + length c2 + length c3) now3 last1 env1 s (λ u env s. next (Some (step_gives op v (next_step v))) env s) found3 ch.not_array fits3 holds3 (λ i l x ty. let q = k.homes.fits i l x in inr (omega (arith, q, above, room, high))) vars3 (has_back (site k) (pc + length c1 + length c2) c3 c4 h2) (λ env4 s now4 vars4 same4 still.
        moved (site k) end (go (step_gives op v (next_step v)) env4 s now4 last1 fits4 vars4 (λ i f lt. same4 i f ∙ (below31 i (omega (arith, lt)) ∙ st1 i f lt)) (holds_stays (scene k) (step_gives op v (next_step v)) (to + 1) (to + 1 + length (step_gives op v (next_step v))) now4 now3 room1 (omega arith) (λ i f lt. same4 i f) given) (behind (omega arith)))))));
  }
    where
      high_slot : (b : Bool) (to : ℕ) → to + 1 ≤ new_slot b to
      high_slot true to = omega arith
      high_slot false to = omega arith

      either_fits : (b : Bool) (v : List ℕ) → UnitsOf k t v → UnitsOf k t (if b then v else next_step v)
      either_fits true v fits = fits
      either_fits false v fits = ch.fits v fits

      given_held : (b : Bool) (to : ℕ) (v : List ℕ) (now was : Slots) → count_of k t ≡ length v → Put (count_of k t) (new_slot b to) (to + 1 + count_of k t) now was → Holds was (to + 1) v → Holds now (new_slot b to) (next_step v) → Holds now (to + 1) (if b then v else next_step v)
      given_held true to v now was count put old new = holds_below v (to + 1) (to + 1 + count_of k t) now was (omega (arith, count)) (λ i lt. put i lt (inl lt)) old
      given_held false to v now was count put old new = new

  place_does : CodedDoes k stepped_means t (changing (spot k) t (λ to. steps_place (spot k) t op pl (if gives_old op then to + 1 + count_of k t else to + 1) to) (λ to. to + 1))
  place_does = changing_does k t (λ to. steps_place (spot k) t op pl (if gives_old op then to + 1 + count_of k t else to + 1) to) (λ to. to + 1) ch.not_void ch.not_array (place_changes (gives_old op) refl)

  -- ---- both

  pub stepped_does : CodedDoes k stepped_means t (stepped_coded (spot k) t op pl)
  stepped_does = on (home_of (pl.at false 0)) refl
    where
      on : (h : Option ℕ) → home_of (pl.at false 0) ≡ h → CodedDoes k stepped_means t (elim h [ Some slot ↦ steps_variable (spot k) t op slot | None ↦ changing (spot k) t (λ to. steps_place (spot k) t op pl (if gives_old op then to + 1 + count_of k t else to + 1) to) (λ to. to + 1) ])
      on (Some slot) e = variable_does slot (hp.local false 0 slot e)
      on None e = place_does
