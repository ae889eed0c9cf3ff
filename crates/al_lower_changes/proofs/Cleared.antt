-- `zerox`.
use Rattle.std.proofs.Common.{◌≡◌, ℕ, ◌+◌, ◌≤◌, List, [], ◌++◌, length, Option, Some, None, refl, sym, ap, ◌∙◌, subst, inl, inr, ⊎_elim, arith, length-append}
use Rattle.std.specs.Prelude.{false, unwrap_or}
use Rattle.al_typed.specs.declared.ty.Ty.{Ty}
use Rattle.al_typed.specs.Types.{is_void, is_array}
use Rattle.al_meaning.specs.Words.{zero_words}
use Rattle.al_meaning.specs.Here.{units_in}
use Rattle.al_meaning.specs.Items.{Found, Local}
use Rattle.al_meaning.specs.Tasks.{Still, Env, Rest, Task}
use Rattle.al_meaning.specs.Told.{read, saved}
use Rattle.al_ir.specs.Control.{Slots}
use Rattle.al_lower_words.proofs.Integers.{length_of, words_are}
use Rattle.al_lower_code.specs.Moving.{home_of, copies, moves, zeros, read_code, clear_code}
use Rattle.al_lower_code.specs.Coded.{Placed}
use Rattle.al_lower_code.specs.Actions.{changing, clears_place, clears_variable, zerox_coded}
use Rattle.al_lower_steps.specs.Slots.{Holds, Below, Outside}
use Rattle.al_lower_steps.proofs.Slots.{below_outside, holds_outside}
use Rattle.al_lower_steps.proofs.Steps.{moved, comes_out, has_front, has_back}
use Rattle.al_lower_claims.proofs.Moving.{CanCopy, copies_do, moves_do}
use Rattle.al_lower_claims.proofs.Privates.{NoArrayGlobals}
use Rattle.al_lower_claims.proofs.Variables.{Stays, put_outside_is, holds_stays, vars_kept, vars_set, with_local, more_room, home}
use Rattle.al_lower_claims.proofs.Claims.{Setting, scene, site, spot, Run, Has, HasVars, UnitsOf, count_of, IsLocalPlace, PlacedDoes, ValueDoes, EffectDoes, CodedDoes}
use Rattle.al_lower_claims.proofs.Plain.{valued_does}
use Rattle.al_lower_values.proofs.Rows.{can_move}
use Rattle.al_lower_actions.proofs.Assigning.{behind, found_later, Changes, changing_does}
use Rattle.al_lower_changes.proofs.Reading.{read_behind}
use Rattle.al_lower_changes.proofs.Clearing.{zero_fits, zeros_do, clear_does}

module _ (k : Setting) (plain : NoArrayGlobals k.ways.program k.ways.program.globals) {m : Task Found} (t : Ty) (pl : Placed) (nv : is_void t ≡ false) (na : is_array t ≡ false) (hp : PlacedDoes k m t pl) where
  abbrev pub zerox_means : Task (Option (List ℕ))
  zerox_means env s next = m env s (λ fd env s. read k.ways t fd env s (λ old env s. saved k.ways t fd (zero_words (count_of k t)) old env s next))

  counts : count_of k t ≡ length (units_in k.ways.program t)
  counts = words_are k.ways.program t na

  count_is : (v : List ℕ) → UnitsOf k t v → count_of k t ≡ length v
  count_is v fits = counts ∙ sym (length_of _ _ fits)

  cleared_fits : UnitsOf k t (zero_words (count_of k t))
  cleared_fits = subst (λ n. UnitsOf k t (zero_words n)) (sym counts) (zero_fits (units_in k.ways.program t))

  -- ---- a variable

  module _ (slot : ℕ) (lp : IsLocalPlace k m t pl slot) where
    fit : slot + count_of k t ≤ k.turns
    fit =
        let q = k.homes.fits lp.number lp.row lp.local in
        let len : length (units_in k.ways.program lp.row.ty) ≡ length (units_in k.ways.program t) = ap (λ q. length (units_in k.ways.program q)) lp.type in
        let is = lp.is in
        let above = k.above in
        let c = counts in
        omega (arith, q, len, is, above, c)

    stays_out : (to : ℕ) (now slots : Slots) → Outside slot (count_of k t) now slots → Stays (scene k) to now slots
    stays_out to now slots out i f lt =
        let len : length (units_in k.ways.program lp.row.ty) ≡ count_of k t = ap (λ q. length (units_in k.ways.program q)) lp.type ∙ sym counts in
        let is = lp.is in
        out i (⊎_elim (λ q. inl (omega (arith, q, is))) (λ q. inr (omega (arith, q, is, len))) (f lp.number lp.row lp.local))

    -- zero comes to stand in its place
    at_home : (pc : ℕ) (v : List ℕ) (slots last : Slots) (env : Env) (s : Still) (next : Option (List ℕ) → Rest) → HasVars k env slots → Has k pc (zeros k.ways.line slot (count_of k t)) → ((now : Slots) → HasVars k (with_local lp.number (zero_words (count_of k t)) env) now → Outside slot (count_of k t) now slots → Run k (next (Some v) (with_local lp.number (zero_words (count_of k t)) env) s) (pc + length (zeros k.ways.line slot (count_of k t))) now last s) → Run k (saved k.ways t (Local lp.number) (zero_words (count_of k t)) v env s next) pc slots last s
    at_home pc v slots last env s next vars has go =
        let n = count_is (zero_words (count_of k t)) cleared_fits in
        let is = lp.is in
        zeros_do (site k) (count_of k t) k.ways.line slot pc slots last s _ has (λ now out holds.
        let out2 : Outside (home (scene k) lp.number) (length (zero_words (count_of k t))) now slots = subst (λ i. Outside i (length (zero_words (count_of k t))) now slots) is (subst (λ n. Outside slot n now slots) n out) in
        go now (vars_set (scene k) lp.number lp.row env (zero_words (count_of k t)) now slots lp.local (subst (λ q. UnitsOf k q (zero_words (count_of k t))) (sym lp.type) cleared_fits) out2 (subst (λ i. Holds now i (zero_words (count_of k t))) is holds) vars) out)

    found_there : (pc : ℕ) (slots last : Slots) (env : Env) (s : Still) (next : Option (List ℕ) → Rest) → HasVars k env slots → ((v : List ℕ) → UnitsOf k t v → Holds slots slot v → Run k (saved k.ways t (Local lp.number) (zero_words (count_of k t)) v env s next) pc slots last s) → Run k (zerox_means env s next) pc slots last s
    found_there pc slots last env s next vars go =
        let held = vars.locals lp.number lp.row lp.local in
        comes_out (site k) (lp.means env s (λ fd env s. read k.ways t fd env s (λ old env s. saved k.ways t fd (zero_words (count_of k t)) old env s next)))
        (comes_out (site k) (ap (λ r. saved k.ways t (Local lp.number) (zero_words (count_of k t)) (unwrap_or r []) env s next) held.is)
        (go held.value (subst (λ q. UnitsOf k q held.value) lp.type held.fits) (subst (λ i. Holds slots i held.value) (sym lp.is) held.holds)))

    clears_effect : EffectDoes k zerox_means t false (λ to. zeros k.ways.line slot (count_of k t))
    clears_effect = record {
      by = λ to pc slots last env s next room vars has go.
          found_there pc slots last env s next vars (λ v fits holds.
          at_home pc v slots last env s next vars has (λ now vars2 out.
          go (Some v) (with_local lp.number (zero_words (count_of k t)) env) s now last (nv, fits) vars2 (stays_out to now slots out) (λ e. absurd (cc))));
    }

    clears_value : ValueDoes k zerox_means t false false (λ dest to. copies k.ways.line to slot (count_of k t) ++ (zeros k.ways.line slot (count_of k t) ++ moves k.ways.line dest to (count_of k t)))
    clears_value = record {
      by = λ dest to pc slots last env s next d room vars has go.
          let n = count_of k t in
          let ca = copies k.ways.line to slot n in
          let cb = zeros k.ways.line slot n in
          let cd = moves k.ways.line dest to n in
          let back = has_back (site k) pc ca (cb ++ cd) has in
          let f = fit in
          found_there pc slots last env s next vars (λ v fits holds.
          let count = count_is v fits in
          let front : Has k pc (copies k.ways.line to slot (length v)) = subst (λ n. Has k pc (copies k.ways.line to slot n)) count (has_front (site k) pc ca (cb ++ cd) has) in
          copies_do (site k) v k.ways.line to slot pc slots last s _ front holds (inl (omega (arith, f, count, room))) (λ now1 out1 holds1.
          let below1 : Below to now1 slots = below_outside to (length v) now1 slots out1 in
          let at : pc + length (copies k.ways.line to slot (length v)) ≡ pc + length ca = ap (λ n. pc + length (copies k.ways.line to slot n)) (sym count) in
          moved (site k) at
          (at_home (pc + length ca) v now1 last env s next (vars_kept (scene k) env to now1 slots room below1 vars) (has_front (site k) (pc + length ca) cb cd back) (λ now2 vars2 out2.
          let kept : Holds now2 to v = holds_outside v to slot n now2 now1 (inr (omega (arith, f, room))) out2 holds1 in
          let len : pc + length ca + length cb + length cd ≡ pc + length (ca ++ (cb ++ cd)) = omega (arith, length-append ca (cb ++ cd), length-append cb cd) in
          moves_do (site k) v n k.ways.line dest to (pc + length ca + length cb) now2 last s _ count (has_back (site k) (pc + length ca) cb cd back) kept (subst (CanCopy to dest) count (can_move k n dest to d room)) (λ now3 out3 holds3.
          moved (site k) len (go (Some v) (with_local lp.number (zero_words n) env) s now2 now3 last (nv, fits) vars2 (λ i g lt. stays_out to now2 now1 out2 i g lt ∙ below1 i lt) (put_outside_is n dest to now3 now2 (subst (λ n. Outside dest n now3 now2) (sym count) out3)) holds3 (λ e. absurd (cc)) (λ e. absurd (cc))))))));
    }

    variable_does : CodedDoes k zerox_means t (clears_variable (spot k) t slot)
    variable_does =
        let p = valued_does k false (λ dest to. copies k.ways.line to slot (count_of k t) ++ (zeros k.ways.line slot (count_of k t) ++ moves k.ways.line dest to (count_of k t))) clears_value in
        record {
          value = p.value;
          effect = clears_effect;
          unless = p.unless;
          pointer = p.pointer;
          stored = p.stored;
          known = p.known;
          stands = p.stands;
        }

  -- ---- any other place

  place_changes : Changes k zerox_means t (clears_place (spot k) t pl) (λ to. to + 1)
  place_changes = record {
    by = λ to pc slots last env s next room vars has go.
        let n = count_of k t in
        let at = pl.at false to in
        let c1 = pl.code false to in
        let c2 = read_code (spot k) t at (to + 1) in
        let c3 = clear_code (spot k) t at (to + 1 + n) in
        let h1 = has_back (site k) pc c1 (c2 ++ c3) has in
        let room1 = more_room (scene k) to 1 room in
        hp.by false to pc slots last env s (λ fd env s. read k.ways t fd env s (λ old env s. saved k.ways t fd (zero_words n) old env s next)) room vars (has_front (site k) pc c1 (c2 ++ c3) has) (λ fd env1 s now1 last1 found1 vars1 st1 same1.
        read_behind k plain t to (pc + length c1) now1 last1 env1 s (λ old env s. saved k.ways t fd (zero_words n) old env s next) found1 na room vars1 (has_front (site k) (pc + length c1) c2 c3 h1) (λ v s now2 fits2 out2 holds2.
        let count = count_is v fits2 in
        let below2 : Below (to + 1) now2 now1 = λ i lt. out2 i (inl lt) in
        let vars2 = vars_kept (scene k) env1 (to + 1) now2 now1 room1 below2 vars1 in
        let found2 = found_later k false to now2 now1 env1 env1 found1 vars1 vars2 (λ i f lt. below2 i lt) (λ e. refl) room in
        let end : pc + length c1 + length c2 + length c3 ≡ pc + length (c1 ++ (c2 ++ c3)) = omega (arith, length-append c1 (c2 ++ c3), length-append c2 c3) in
        clear_does k plain t to (to + 1 + n) (pc + length c1 + length c2) now2 last1 env1 s (λ u env s. next (Some v) env s) found2 na (omega arith) room vars2 (has_back (site k) (pc + length c1) c2 c3 h1) (λ env3 s now3 vars3 same3.
        moved (site k) end (go v env3 s now3 last1 fits2 vars3 (λ i f lt. same3 i f (omega (arith, lt)) ∙ (below2 i (omega (arith, lt)) ∙ st1 i f lt)) (holds_stays (scene k) v (to + 1) (to + 1 + n) now3 now2 room1 (omega (arith, count)) (λ i f lt. same3 i f lt) holds2) (behind (omega arith))))));
  }

  -- ---- both

  pub zerox_does : CodedDoes k zerox_means t (zerox_coded (spot k) t pl)
  zerox_does = on (home_of (pl.at false 0)) refl
    where
      on : (h : Option ℕ) → home_of (pl.at false 0) ≡ h → CodedDoes k zerox_means t (elim h [ Some slot ↦ clears_variable (spot k) t slot | None ↦ changing (spot k) t (clears_place (spot k) t pl) (λ to. to + 1) ])
      on (Some slot) e = variable_does slot (hp.local false 0 slot e)
      on None e = changing_does k t (clears_place (spot k) t pl) (λ to. to + 1) nv na place_changes
