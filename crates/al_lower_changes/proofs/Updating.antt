-- `op=`.
use Rattle.std.proofs.Common.{◌≡◌, ℕ, ◌+◌, List, [], ◌++◌, length, Option, Some, None, refl, sym, ap, ◌∙◌, subst, inl, inr, ⊎_elim, arith, length-append}
use Rattle.std.specs.Prelude.{Bool, true, false, not, if◌then◌else◌, option_map, slice_get, unwrap_or}
use Rattle.al_typed.specs.declared.ty.Ty.{Ty}
use Rattle.al_typed.specs.declared.expression.Change.{Change}
use Rattle.al_meaning.specs.Here.{units_in}
use Rattle.al_meaning.specs.Items.{Found, Local}
use Rattle.al_meaning.specs.Evaluate.{updated}
use Rattle.al_meaning.specs.Tasks.{Still, Stuck, Env, Rest, Task}
use Rattle.al_meaning.specs.Told.{value, read, save, saved_or_divides, quotient}
use Rattle.al_ir.specs.declared.ir.Operation.{Operation}
use Rattle.al_ir.specs.Control.{Slots}
use Rattle.al_lower_words.proofs.Integers.{length_of, words_are}
use Rattle.al_lower_code.specs.Moving.{Where, home_of, copies, read_code, save_code}
use Rattle.al_lower_code.specs.Coded.{Coded, Placed}
use Rattle.al_lower_code.specs.Actions.{is_direct, changed_home, before_change, behind_change, change_code, updates_home, updates_place, updates, updated_slot, update_coded}
use Rattle.al_lower_steps.specs.Slots.{Holds, Below, Outside}
use Rattle.al_lower_steps.proofs.Slots.{below_outside}
use Rattle.al_lower_steps.proofs.Steps.{moved, comes_out, has_front, has_back}
use Rattle.al_lower_claims.proofs.Moving.{copies_do}
use Rattle.al_lower_claims.proofs.Privates.{NoArrayGlobals}
use Rattle.al_lower_claims.proofs.Saving.{save_does}
use Rattle.al_lower_claims.proofs.Variables.{Stays, holds_stays, vars_kept, vars_set, with_local, more_room}
use Rattle.al_lower_claims.proofs.Claims.{Setting, scene, site, spot, Run, Has, HasVars, HasRoom, UnitsOf, count_of, IsLocalPlace, PlacedDoes, CodedDoes}
use Rattle.al_lower_actions.proofs.Assigning.{Source, behind, of_local, found_later, changing_does, not_false}
use Rattle.al_lower_changes.proofs.Reading.{read_behind}
use Rattle.al_lower_changes.proofs.Changing.{middle, before, changed, updated_is, ChangeDoes}
use Rattle.al_lower_changes.proofs.Changing as change

-- a place that is changed where it stands is a variable, and the operator works on its type
changed_where : (t : Ty) (how : Change) (at : Where) (slot : ℕ) → changed_home t how at ≡ Some slot → (is_direct t how ≡ true) × (home_of at ≡ Some slot)
changed_where t how at slot e = on (is_direct t how) refl e
  where
    on : (b : Bool) → is_direct t how ≡ b → (if b then home_of at else None) ≡ Some slot → (is_direct t how ≡ true) × (home_of at ≡ Some slot)
    on true q e = (q, e)
    on false q e = absurd (cc)

same_value : (a b : List ℕ) (o p : Option (List ℕ)) → o ≡ p → o ≡ Some a → p ≡ Some b → a ≡ b
same_value a b o p e h j = cc

module _ (k : Setting) (plain : NoArrayGlobals k.ways.program k.ways.program.globals) {m : Task Found} {o : Task (Option (List ℕ))} (t : Ty) (pl : Placed) (how : Change) (c : Coded) (hp : PlacedDoes k m t pl) (ch : ChangeDoes k o t how c) where
  abbrev pub update_means : Task (Option (List ℕ))
  update_means env s next = m env s (λ fd env s. read k.ways t fd env s (λ old env s. value o env s (λ v env s. saved_or_divides k.ways t fd (updated k.ways.program t how old v) env s next)))

  abbrev new_value : List ℕ → List ℕ
  new_value z = change.behind k.ways.program t how z

  -- what is done with what the change gives
  abbrev saves_new : Found → (Option (List ℕ) → Rest) → Option (List ℕ) → Rest
  saves_new fd next None env s = Stuck
  saves_new fd next (Some z) env s = save k.ways t (new_value z) fd env s (λ u env s. next (Some (new_value z)) env s)

  saved_is : (fd : Found) (next : Option (List ℕ) → Rest) (r : Option (List ℕ)) (env : Env) (s : Still) → saved_or_divides k.ways t fd (option_map (change.behind k.ways.program t how) r) env s next ≡ quotient k.ways r env s (saves_new fd next)
  saved_is fd next None env s = refl
  saved_is fd next (Some z) env s = refl

  task_is : (fd : Found) (next : Option (List ℕ) → Rest) (old y : List ℕ) (env : Env) (s : Still) → saved_or_divides k.ways t fd (updated k.ways.program t how old y) env s next ≡ quotient k.ways (changed k.ways.program t how (before k.ways.program t how old) y) env s (saves_new fd next)
  task_is fd next old y env s = ap (λ r. saved_or_divides k.ways t fd r env s next) (updated_is k.ways.program t how old y) ∙ saved_is fd next (changed k.ways.program t how (before k.ways.program t how old) y) env s

  counts : count_of k t ≡ length (units_in k.ways.program t)
  counts = words_are k.ways.program t ch.not_array

  abbrev GoesOn : (to slot end : ℕ) → Slots → (Option (List ℕ) → Rest) → Type 0
  GoesOn to slot end slots next =
      (v : List ℕ) (env2 : Env) (s : Still) (now last : Slots) → UnitsOf k t v → HasVars k env2 now → Stays (scene k) to now slots → Holds now slot v → Source k (count_of k t) slot to → Run k (next (Some v) env2 s) end now last s

  -- ---- a variable that is changed where it stands

  module _ (slot to : ℕ) (direct : is_direct t how ≡ true) (lp : IsLocalPlace k m t pl slot) where
    -- where the new value was put
    puts_new : (env env2 : Env) (s : Still) (next : Option (List ℕ) → Rest) (z : List ℕ) (end : ℕ) (slots was now last : Slots) → HasRoom k to → UnitsOf k (middle t how) z → HasVars k env2 was → Stays (scene k) (to + 3) was slots → Outside slot (length z) now was → Holds now slot z → GoesOn to slot end slots next → Run k (saves_new (Local lp.number) next (Some z) env2 s) end now last s
    puts_new env env2 s next z end slots was now last room fz vars st out holds go =
        let same = ch.behind_same direct z fz in
        let fits : UnitsOf k t z = subst (UnitsOf k t) same (ch.behind_fits z fz) in
        let len : length (units_in k.ways.program lp.row.ty) ≡ count_of k t = ap (λ q. length (units_in k.ways.program q)) lp.type ∙ sym counts in
        let lz : length z ≡ length (units_in k.ways.program lp.row.ty) = length_of _ _ (subst (λ q. UnitsOf k q z) (sym lp.type) fits) in
        let is = lp.is in
        let vars2 : HasVars k (with_local lp.number z env2) now = vars_set (scene k) lp.number lp.row env2 z now was lp.local (subst (λ q. UnitsOf k q z) (sym lp.type) fits) (subst (λ i. Outside i (length z) now was) is out) (subst (λ i. Holds now i z) is holds) vars in
        let stay : Stays (scene k) to now slots = λ i f lt. out i (⊎_elim (λ q. inl (omega (arith, q, is))) (λ q. inr (omega (arith, q, is, lz))) (f lp.number lp.row lp.local)) ∙ st i f (omega (arith, lt)) in
        comes_out (site k) (ap (λ u. next (Some u) (with_local lp.number u env2) s) same)
        (go z (with_local lp.number z env2) s now last fits vars2 stay holds (of_local lp.number lp.row lp.local is len))

    -- the right side leaves the variables as they are
    change_at_home : c.keeps ≡ true → (pc : ℕ) (slots last : Slots) (env : Env) (s : Still) (next : Option (List ℕ) → Rest) (old : List ℕ) → slice_get env.locals lp.number ≡ Some old → UnitsOf k t old → Holds slots slot old → HasRoom k to → HasVars k env slots → Has k pc (change_code (spot k) t how c slot slot (to + 3)) → GoesOn to slot (pc + length (change_code (spot k) t how c slot slot (to + 3))) slots next → Run k (value o env s (λ v env s. saved_or_divides k.ways t (Local lp.number) (updated k.ways.program t how old v) env s next)) pc slots last s
    change_at_home keeps pc slots last env s next old row fits holds room vars has go =
        let same = ch.before_same direct old fits in
        ch.changes (before k.ways.program t how old) slot slot (to + 3) pc slots last env s (λ v env s. saved_or_divides k.ways t (Local lp.number) (updated k.ways.program t how old v) env s next) (saves_new (Local lp.number) next) (λ y env s. task_is (Local lp.number) next old y env s) (ch.before_fits old fits) (more_room (scene k) to 3 room) vars has
        (λ env2 now vars2 st2 same2.
        let held = vars2.locals lp.number lp.row lp.local in
        let value_is : held.value ≡ old = same_value held.value old (slice_get env2.locals lp.number) (slice_get env.locals lp.number) (ap (λ (e : Env). slice_get e.locals lp.number) (same2 keeps)) held.is row in
        subst (Holds now slot) (value_is ∙ sym same) (subst (λ i. Holds now i held.value) (sym lp.is) held.holds))
        (λ z env2 s was now last2 fz vars2 st2 same2 out holds2. puts_new env env2 s next z _ slots was now last2 room fz vars2 st2 out holds2 go)

    -- it may change them: the old value is copied first
    change_copied : (pc : ℕ) (slots last : Slots) (env : Env) (s : Still) (next : Option (List ℕ) → Rest) (old : List ℕ) → UnitsOf k t old → Holds slots slot old → HasRoom k to → HasVars k env slots → Has k pc (copies k.ways.line (to + 1) slot (count_of k t) ++ change_code (spot k) t how c slot (to + 1) (to + 3)) → GoesOn to slot (pc + length (copies k.ways.line (to + 1) slot (count_of k t) ++ change_code (spot k) t how c slot (to + 1) (to + 3))) slots next → Run k (value o env s (λ v env s. saved_or_divides k.ways t (Local lp.number) (updated k.ways.program t how old v) env s next)) pc slots last s
    change_copied pc slots last env s next old fits holds room vars has go =
        let ca = copies k.ways.line (to + 1) slot (count_of k t) in
        let cb = change_code (spot k) t how c slot (to + 1) (to + 3) in
        let same = ch.before_same direct old fits in
        let lo = length_of _ _ fits in
        let count : count_of k t ≡ length old = counts ∙ sym lo in
        let front : Has k pc (copies k.ways.line (to + 1) slot (length old)) = subst (λ n. Has k pc (copies k.ways.line (to + 1) slot n)) count (has_front (site k) pc ca cb has) in
        let fit = k.homes.fits lp.number lp.row lp.local in
        let len : length (units_in k.ways.program lp.row.ty) ≡ length (units_in k.ways.program t) = ap (λ q. length (units_in k.ways.program q)) lp.type in
        let is = lp.is in
        let above = k.above in
        let few = ch.few in
        copies_do (site k) old k.ways.line (to + 1) slot pc slots last s _ front holds (inl (omega (arith, fit, len, is, above, room, lo))) (λ now1 out1 holds1.
        let below1 : Below (to + 1) now1 slots = below_outside (to + 1) (length old) now1 slots out1 in
        let room1 = more_room (scene k) to 1 room in
        let at : pc + length (copies k.ways.line (to + 1) slot (length old)) ≡ pc + length ca = ap (λ n. pc + length (copies k.ways.line (to + 1) slot n)) (sym count) in
        let end : pc + length ca + length cb ≡ pc + length (ca ++ cb) = omega (arith, length-append ca cb) in
        let held : Holds now1 (to + 1) (before k.ways.program t how old) = subst (Holds now1 (to + 1)) (sym same) holds1 in
        let lb : length (before k.ways.program t how old) ≡ length old = ap length same in
        moved (site k) at
        (ch.changes (before k.ways.program t how old) slot (to + 1) (to + 3) (pc + length ca) now1 last env s (λ v env s. saved_or_divides k.ways t (Local lp.number) (updated k.ways.program t how old v) env s next) (saves_new (Local lp.number) next) (λ y env s. task_is (Local lp.number) next old y env s) (ch.before_fits old fits) (more_room (scene k) to 3 room) (vars_kept (scene k) env (to + 1) now1 slots room1 below1 vars) (has_back (site k) pc ca cb has)
        (λ env2 now vars2 st2 same2. holds_stays (scene k) (before k.ways.program t how old) (to + 1) (to + 3) now now1 room1 (omega (arith, lb, lo, few)) st2 held)
        (λ z env2 s was now last2 fz vars2 st2 same2 out holds2.
        puts_new env env2 s next z _ now1 was now last2 room fz vars2 st2 out holds2 (λ v env3 s now3 last3 fv vars3 st3 holds3 source.
        moved (site k) end (go v env3 s now3 last3 fv vars3 (λ i f lt. st3 i f lt ∙ below1 i (omega (arith, lt))) holds3 source)))))

    abbrev code_by : Bool → List Operation
    code_by b = if b then change_code (spot k) t how c slot slot (to + 3) else copies k.ways.line (to + 1) slot (count_of k t) ++ change_code (spot k) t how c slot (to + 1) (to + 3)

    at_home : (pc : ℕ) (slots last : Slots) (env : Env) (s : Still) (next : Option (List ℕ) → Rest) → HasRoom k to → HasVars k env slots → Has k pc (pl.code (not c.keeps) to ++ updates_home (spot k) t how c slot to) → GoesOn to slot (pc + length (pl.code (not c.keeps) to ++ updates_home (spot k) t how c slot to)) slots next → Run k (update_means env s next) pc slots last s
    at_home pc slots last env s next room vars has go =
        let held = vars.locals lp.number lp.row lp.local in
        let fits : UnitsOf k t held.value = subst (λ q. UnitsOf k q held.value) lp.type held.fits in
        let holds : Holds slots slot held.value = subst (λ i. Holds slots i held.value) (sym lp.is) held.holds in
        let none = lp.code (not c.keeps) to in
        let code : Has k pc (updates_home (spot k) t how c slot to) = subst (λ ops. Has k pc (ops ++ updates_home (spot k) t how c slot to)) none has in
        let end : GoesOn to slot (pc + length (updates_home (spot k) t how c slot to)) slots next = subst (λ ops. GoesOn to slot (pc + length (ops ++ updates_home (spot k) t how c slot to)) slots next) none go in
        comes_out (site k) (lp.means env s (λ fd env s. read k.ways t fd env s (λ old env s. value o env s (λ v env s. saved_or_divides k.ways t fd (updated k.ways.program t how old v) env s next))))
        (comes_out (site k) (ap (λ r. value o env s (λ v env s. saved_or_divides k.ways t (Local lp.number) (updated k.ways.program t how (unwrap_or r []) v) env s next)) held.is)
        (on c.keeps refl held.value held.is fits holds code end))
      where
        on : (b : Bool) → c.keeps ≡ b → (old : List ℕ) → slice_get env.locals lp.number ≡ Some old → UnitsOf k t old → Holds slots slot old → Has k pc (code_by b) → GoesOn to slot (pc + length (code_by b)) slots next → Run k (value o env s (λ v env s. saved_or_divides k.ways t (Local lp.number) (updated k.ways.program t how old v) env s next)) pc slots last s
        on true e old row fits holds has go = change_at_home e pc slots last env s next old row fits holds room vars has go
        on false e old row fits holds has go = change_copied pc slots last env s next old fits holds room vars has go

  -- ---- any other place is read, and stored to

  at_place : (to pc : ℕ) (slots last : Slots) (env : Env) (s : Still) (next : Option (List ℕ) → Rest) → HasRoom k to → HasVars k env slots → Has k pc (pl.code (not c.keeps) to ++ updates_place (spot k) t how c (pl.at (not c.keeps) to) to) → GoesOn to (to + 1) (pc + length (pl.code (not c.keeps) to ++ updates_place (spot k) t how c (pl.at (not c.keeps) to) to)) slots next → Run k (update_means env s next) pc slots last s
  at_place to pc slots last env s next room vars has go =
      let lasting = not c.keeps in
      let at = pl.at lasting to in
      let c1 = pl.code lasting to in
      let c2 = read_code (spot k) t at (to + 1) in
      let c3 = before_change (spot k) t how (to + 1) in
      let c4 = change_code (spot k) t how c (to + 1) (to + 1) (to + 3) in
      let c5 = behind_change (spot k) t how (to + 1) in
      let c6 = save_code (spot k) t at (to + 1) in
      let h1 = has_back (site k) pc c1 (c2 ++ (c3 ++ (c4 ++ (c5 ++ c6)))) has in
      let h2 = has_back (site k) (pc + length c1) c2 (c3 ++ (c4 ++ (c5 ++ c6))) h1 in
      let h3 = has_back (site k) (pc + length c1 + length c2) c3 (c4 ++ (c5 ++ c6)) h2 in
      let h4 = has_back (site k) (pc + length c1 + length c2 + length c3) c4 (c5 ++ c6) h3 in
      let room1 = more_room (scene k) to 1 room in
      let few = ch.few_in in
      let above = k.above in
      hp.by lasting to pc slots last env s (λ fd env s. read k.ways t fd env s (λ old env s. value o env s (λ v env s. saved_or_divides k.ways t fd (updated k.ways.program t how old v) env s next))) room vars (has_front (site k) pc c1 (c2 ++ (c3 ++ (c4 ++ (c5 ++ c6)))) has) (λ fd env1 s now1 last1 found1 vars1 st1 same1.
      read_behind k plain t to (pc + length c1) now1 last1 env1 s (λ old env s. value o env s (λ v env s. saved_or_divides k.ways t fd (updated k.ways.program t how old v) env s next)) found1 ch.not_array room vars1 (has_front (site k) (pc + length c1) c2 (c3 ++ (c4 ++ (c5 ++ c6))) h1) (λ old s now2 fits2 out2 holds2.
      ch.before_does (to + 1) (pc + length c1 + length c2) old now2 last1 s _ (has_front (site k) (pc + length c1 + length c2) c3 (c4 ++ (c5 ++ c6)) h2) holds2 fits2 (λ now3 below3 holds3.
      let below31 : Below (to + 1) now3 now1 = λ i lt. below3 i lt ∙ out2 i (inl lt) in
      let vars3 = vars_kept (scene k) env1 (to + 1) now3 now1 room1 below31 vars1 in
      let fits3 = ch.before_fits old fits2 in
      let l3 = length_of _ _ fits3 in
      ch.changes (before k.ways.program t how old) (to + 1) (to + 1) (to + 3) (pc + length c1 + length c2 + length c3) now3 last1 env1 s (λ v env s. saved_or_divides k.ways t fd (updated k.ways.program t how old v) env s next) (saves_new fd next) (λ y env s. task_is fd next old y env s) fits3 (more_room (scene k) to 3 room) vars3 (has_front (site k) (pc + length c1 + length c2 + length c3) c4 (c5 ++ c6) h3)
      (λ env2 now vars2 st2 same2. holds_stays (scene k) (before k.ways.program t how old) (to + 1) (to + 3) now now3 room1 (omega (arith, l3, few)) st2 holds3)
      (λ z env2 s was now4 last2 fz vars4 st4 same4 out4 holds4.
      ch.behind_does (to + 1) (pc + length c1 + length c2 + length c3 + length c4) z now4 last2 s _ (has_front (site k) (pc + length c1 + length c2 + length c3 + length c4) c5 c6 h4) holds4 fz (λ now5 below5 holds5.
      let below54 : Below (to + 1) now5 was = λ i lt. below5 i lt ∙ out4 i (inl lt) in
      let vars5 = vars_kept (scene k) env2 (to + 1) now5 was room1 below54 vars4 in
      let st51 : Stays (scene k) (to + 1) now5 now1 = λ i f lt. below54 i lt ∙ (st4 i f (omega (arith, lt)) ∙ below31 i lt) in
      let found5 = found_later k lasting to now5 now1 env1 env2 found1 vars1 vars5 st51 (λ q. same4 (not_false c.keeps q)) room in
      let fits5 = ch.behind_fits z fz in
      let end : pc + length c1 + length c2 + length c3 + length c4 + length c5 + length c6 ≡ pc + length (c1 ++ (c2 ++ (c3 ++ (c4 ++ (c5 ++ c6))))) = omega (arith, length-append c1 (c2 ++ (c3 ++ (c4 ++ (c5 ++ c6)))), length-append c2 (c3 ++ (c4 ++ (c5 ++ c6))), length-append c3 (c4 ++ (c5 ++ c6)), length-append c4 (c5 ++ c6), length-append c5 c6) in
      save_does k plain t (new_value z) (to + 1) to (pc + length c1 + length c2 + length c3 + length c4 + length c5) now5 last2 env2 s (λ u env s. next (Some (new_value z)) env s) found5 ch.not_array fits5 holds5 (λ i l x ty. let q = k.homes.fits i l x in inr (omega (arith, q, above, room))) vars5 (has_back (site k) (pc + length c1 + length c2 + length c3 + length c4) c5 c6 h4) (λ env3 s now6 vars6 same6 still.
      moved (site k) end (go (new_value z) env3 s now6 last2 fits5 vars6 (λ i f lt. same6 i f ∙ (st51 i f (omega (arith, lt)) ∙ st1 i f lt)) (holds_stays (scene k) (new_value z) (to + 1) (to + 1 + length (new_value z)) now6 now5 room1 (omega arith) (λ i f lt. same6 i f) holds5) (behind (omega arith)))))))))

  -- ---- both

  abbrev updated_by : Option ℕ → (to : ℕ) → List Operation
  updated_by h to = elim h [ Some slot ↦ updates_home (spot k) t how c slot to | None ↦ updates_place (spot k) t how c (pl.at (not c.keeps) to) to ]

  pub update_does : CodedDoes k update_means t (update_coded (spot k) t pl how c)
  update_does = changing_does k t (updates (spot k) t pl how c) (updated_slot t pl how c) ch.not_void ch.not_array (record {
    by = λ to pc slots last env s next room vars has go. on to pc slots last env s next room vars (changed_home t how (pl.at (not c.keeps) to)) refl has go;
  })
    where
      on : (to pc : ℕ) (slots last : Slots) (env : Env) (s : Still) (next : Option (List ℕ) → Rest) → HasRoom k to → HasVars k env slots → (h : Option ℕ) → changed_home t how (pl.at (not c.keeps) to) ≡ h → Has k pc (pl.code (not c.keeps) to ++ updated_by h to) → GoesOn to (unwrap_or h (to + 1)) (pc + length (pl.code (not c.keeps) to ++ updated_by h to)) slots next → Run k (update_means env s next) pc slots last s
      on to pc slots last env s next room vars (Some slot) e has go =
          let q = changed_where t how (pl.at (not c.keeps) to) slot e in
          at_home slot to q.0 (hp.local (not c.keeps) to slot q.1) pc slots last env s next room vars has go
      on to pc slots last env s next room vars None e has go = at_place to pc slots last env s next room vars has go
