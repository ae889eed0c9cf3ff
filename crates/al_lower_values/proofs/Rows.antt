-- Values one behind the other, and tuples of them.
use Rattle.std.proofs.Common.{◌≡◌, ℕ, ◌+◌, List, [], ◌∷◌, ◌++◌, length, Option, Some, None, refl, sym, ap, ◌∙◌, subst, inr, arith, length-append}
use Rattle.std.specs.Prelude.{Bool, true, false, ◌&&◌}
use Rattle.std.specs.List.{flat_map}
use Rattle.al_typed.specs.declared.ty.Ty.{Ty}
use Rattle.al_typed.specs.Types.{is_void, is_array}
use Rattle.al_meaning.specs.Here.{units_in}
use Rattle.al_meaning.specs.Calls.{joined}
use Rattle.al_meaning.specs.Tasks.{Still, Env, Rest, Task, give}
use Rattle.al_meaning.specs.Told.{value, drop_checked, dropped}
use Rattle.al_ir.specs.declared.ir.Operation.{Operation}
use Rattle.al_ir.specs.Control.{Slots}
use Rattle.al_lower_words.specs.Units.{AreOf}
use Rattle.al_lower_words.proofs.Integers.{length_of, words_are}
use Rattle.al_lower_code.specs.Moving.{moves}
use Rattle.al_lower_code.specs.Coded.{Coded, Row}
use Rattle.al_lower_code.specs.Values.{tuple_coded, sequence_coded}
use Rattle.al_lower_steps.specs.Slots.{Holds, Outside}
use Rattle.al_lower_steps.proofs.Slots.{holds_join, holds_at}
use Rattle.al_lower_steps.proofs.Steps.{moved, comes_out, has_front, has_back}
use Rattle.al_lower_claims.proofs.Moving.{CanCopy, moves_do}
use Rattle.al_lower_claims.proofs.Privates.{join_fits}
use Rattle.al_lower_claims.proofs.Variables.{Stays, stays_refl, stays_both, holds_stays, more_room, Dest, free, local, lone, put_outside_is}
use Rattle.al_lower_claims.proofs.Claims.{Setting, scene, site, spot, Run, Has, HasVars, HasRoom, UnitsOf, count_of, Gave, ValueDoes, CodedDoes}
use Rattle.al_lower_claims.proofs.Operands.{both_true, free_does}
use Rattle.al_lower_claims.proofs.Plain.{valued_does}

-- the units of values one behind the other
abbrev pub UnitsOfAll : Setting → List Ty → List ℕ → Type 0
UnitsOfAll k ts v = AreOf (flat_map (units_in k.ways.program) ts) v

pub record RowDoes (k : Setting) (m : Task (List (List ℕ))) (ts : List Ty) (keeps : Bool) (code : (to : ℕ) → List Operation) : Type 0 where
  pub by : (to pc : ℕ) (slots last : Slots) (env : Env) (s : Still) (next : List (List ℕ) → Rest) → HasRoom k to → HasVars k env slots → Has k pc (code to) → ((vs : List (List ℕ)) (env2 : Env) (s : Still) (now last : Slots) → UnitsOfAll k ts (joined vs) → HasVars k env2 now → Stays (scene k) to now slots → Holds now to (joined vs) → (keeps ≡ true → env2 ≡ env) → Run k (next vs env2 s) (pc + length (code to)) now last s) → Run k (m env s next) pc slots last s

-- each is found and dropped
pub record EffectsDo (k : Setting) (m : Task (Unit {0})) (keeps : Bool) (code : (to : ℕ) → List Operation) : Type 0 where
  pub by : (to pc : ℕ) (slots last : Slots) (env : Env) (s : Still) (next : Unit {0} → Rest) → HasRoom k to → HasVars k env slots → Has k pc (code to) → ((env2 : Env) (s : Still) (now last : Slots) → HasVars k env2 now → Stays (scene k) to now slots → (keeps ≡ true → env2 ≡ env) → Run k (next tt env2 s) (pc + length (code to)) now last s) → Run k (m env s next) pc slots last s

module _ (k : Setting) where
  pub no_values_do : RowDoes k (give []) [] true (λ to. [])
  no_values_do = record {
    by = λ to pc slots last env s next room vars has go.
        let q : pc ≡ pc + 0 = omega arith in
        moved (site k) q (go [] env s slots last refl vars (stays_refl (scene k) to slots) tt (λ e. refl));
  }

  abbrev pub more_means : Task (Option (List ℕ)) → Task (List (List ℕ)) → Task (List (List ℕ))
  more_means m rest env s next = value m env s (λ v env s. rest env s (λ vs env s. next (v ∷ vs) env s))

  pub more_values_do : {m : Task (Option (List ℕ))} {rest : Task (List (List ℕ))} {t : Ty} {ts : List Ty} {c : Coded} (row : Row) → is_void t ≡ false → is_array t ≡ false → CodedDoes k m t c → RowDoes k rest ts row.keeps row.values → RowDoes k (more_means m rest) (t ∷ ts) (c.keeps && row.keeps) (λ to. c.value to to ++ row.values (to + count_of k t))
  more_values_do {m} {rest} {t} {ts} {c} row nv na hc hr = record {
    by = λ to pc slots last env s next room vars has go.
        let n = count_of k t in
        let ca = c.value to to in
        let cb = row.values (to + n) in
        free_does k hc.value nv to pc slots last env s (λ v env s. rest env s (λ vs env s. next (v ∷ vs) env s)) room vars (has_front (site k) pc ca cb has) (λ v env1 s now1 last1 fv vars1 st1 hv same1.
        hr.by (to + n) (pc + length ca) now1 last1 env1 s (λ vs env s. next (v ∷ vs) env s) (more_room (scene k) to n room) vars1 (has_back (site k) pc ca cb has) (λ vs env2 s now2 last2 fvs vars2 st2 hvs same2.
        let count : length v ≡ n = length_of _ _ fv ∙ sym (words_are k.ways.program t na) in
        let len : pc + length ca + length cb ≡ pc + length (ca ++ cb) = omega (arith, length-append ca cb) in
        let hv2 : Holds now2 to v = holds_stays (scene k) v to (to + n) now2 now1 room (omega (arith, count)) st2 hv in
        moved (site k) len (go (v ∷ vs) env2 s now2 last2 (join_fits (units_in k.ways.program t) (flat_map (units_in k.ways.program) ts) v (joined vs) fv fvs) vars2 (stays_both (scene k) to (to + n) now2 now1 slots (omega arith) st2 st1) (holds_join v (joined vs) to now2 hv2 (holds_at (joined vs) (to + n) (to + length v) now2 (ap (λ i. to + i) (sym count)) hvs)) (λ e. let b = both_true c.keeps row.keeps e in same2 b.1 ∙ same1 b.0))));
  }

  -- ---- effects

  pub no_effects_do : EffectsDo k (give tt) true (λ to. [])
  no_effects_do = record {
    by = λ to pc slots last env s next room vars has go.
        let q : pc ≡ pc + 0 = omega arith in
        moved (site k) q (go env s slots last vars (stays_refl (scene k) to slots) (λ e. refl));
  }

  abbrev pub drop_means : Task (Option (List ℕ)) → Ty → Task (Unit {0}) → Task (Unit {0})
  drop_means m t rest env s next = m env s (λ o env s. dropped t o env s (λ u env s. rest env s next))

  drops : (t : Ty) (o : Option (List ℕ)) (env : Env) (s : Still) (next : Unit {0} → Rest) → Gave k t o → dropped t o env s next ≡ next tt env s
  drops t None env s next g = ap (λ b. drop_checked b None env s next) g
  drops t (Some v) env s next g = ap (λ b. drop_checked b (Some v) env s next) g.0

  pub more_effects_do : {m : Task (Option (List ℕ))} {rest : Task (Unit {0})} {t : Ty} {c : Coded} (row : Row) → CodedDoes k m t c → EffectsDo k rest row.keeps row.effects → EffectsDo k (drop_means m t rest) (c.keeps && row.keeps) (λ to. c.effect to ++ row.effects to)
  more_effects_do {m} {rest} {t} {c} row hc hr = record {
    by = λ to pc slots last env s next room vars has go.
        let ca = c.effect to in
        let cb = row.effects to in
        hc.effect.by to pc slots last env s (λ o env s. dropped t o env s (λ u env s. rest env s next)) room vars (has_front (site k) pc ca cb has) (λ o env1 s now1 last1 g vars1 st1 same1.
        comes_out (site k) (drops t o env1 s (λ u env s. rest env s next) g)
        (hr.by to (pc + length ca) now1 last1 env1 s next room vars1 (has_back (site k) pc ca cb has) (λ env2 s now2 last2 vars2 st2 same2.
        let len : pc + length ca + length cb ≡ pc + length (ca ++ cb) = omega (arith, length-append ca cb) in
        moved (site k) len (go env2 s now2 last2 vars2 (stays_both (scene k) to to now2 now1 slots (omega arith) st2 st1) (λ e. let b = both_true c.keeps row.keeps e in same2 b.1 ∙ same1 b.0)))));
  }

  -- ---- words from the first free slots to where they are wanted

  pub can_move : (n dest to : ℕ) → Dest (scene k) n dest to → HasRoom k to → CanCopy to dest n
  can_move n dest to (lone d lt) room = inr (omega (arith, lt))
  can_move n dest to (free d) room = inr (omega (arith, d))
  can_move n dest to (local m l x d len) room = let q = k.homes.fits m l x in let a = k.above in inr (omega (arith, q, d, a, room))

  -- ---- tuples

  abbrev pub tuple_means : Task (List (List ℕ)) → Task (Option (List ℕ))
  tuple_means m env s next = m env s (λ vs env s. next (Some (joined vs)) env s)

  pub tuple_does : {m : Task (List (List ℕ))} {ts : List Ty} (t : Ty) (row : Row) → is_void t ≡ false → is_array t ≡ false → ((v : List ℕ) → UnitsOfAll k ts v → UnitsOf k t v) → RowDoes k m ts row.keeps row.values → CodedDoes k (tuple_means m) t (tuple_coded (spot k) t row)
  tuple_does {m} {ts} t row nv na of_parts h = valued_does k row.keeps (λ dest to. row.values to ++ moves k.ways.line dest to (count_of k t)) (record {
    by = λ dest to pc slots last env s next d room vars has go.
        let ca = row.values to in
        let cb = moves k.ways.line dest to (count_of k t) in
        h.by to pc slots last env s (λ vs env s. next (Some (joined vs)) env s) room vars (has_front (site k) pc ca cb has) (λ vs env2 s now last2 fits0 vars2 st2 holds same.
        let fits = of_parts (joined vs) fits0 in
        let count : count_of k t ≡ length (joined vs) = words_are k.ways.program t na ∙ sym (length_of _ _ fits) in
        moves_do (site k) (joined vs) (count_of k t) k.ways.line dest to (pc + length ca) now last2 s _ count (has_back (site k) pc ca cb has) holds (subst (CanCopy to dest) count (can_move (count_of k t) dest to d room)) (λ now3 out holds3.
        let len : pc + length ca + length cb ≡ pc + length (ca ++ cb) = omega (arith, length-append ca cb) in
        moved (site k) len (go (Some (joined vs)) env2 s now now3 last2 (nv, fits) vars2 st2 (put_outside_is (count_of k t) dest to now3 now (subst (λ n. Outside dest n now3 now) (sym count) out)) holds3 same (λ e. absurd (cc)))));
  })

  -- ---- sequences

  abbrev pub sequence_means : Task (Unit {0}) → Task (Option (List ℕ)) → Task (Option (List ℕ))
  sequence_means first last env s next = first env s (λ u env s. last env s next)

  pub sequence_does : {first : Task (Unit {0})} {m : Task (Option (List ℕ))} (t : Ty) (row : Row) (c : Coded) → EffectsDo k first row.keeps row.effects → CodedDoes k m t c → CodedDoes k (sequence_means first m) t (sequence_coded (spot k) t row c)
  sequence_does {first} {m} t row c hr hc =
      let keeps = row.keeps && c.keeps in
      let values : ValueDoes k (sequence_means first m) t keeps false (λ dest to. row.effects to ++ c.value dest to) = record {
        by = λ dest to pc slots last env s next d room vars has go.
            let ca = row.effects to in
            let cb = c.value dest to in
            hr.by to pc slots last env s (λ u env s. m env s next) room vars (has_front (site k) pc ca cb has) (λ env1 s now1 last1 vars1 st1 same1.
            hc.value.by dest to (pc + length ca) now1 last1 env1 s next d room vars1 (has_back (site k) pc ca cb has) (λ o env2 s was now last2 g vars2 st2 put holds same2 truth.
            let len : pc + length ca + length cb ≡ pc + length (ca ++ cb) = omega (arith, length-append ca cb) in
            moved (site k) len (go o env2 s was now last2 g vars2 (stays_both (scene k) to to was now1 slots (omega arith) st2 st1) put holds (λ e. let b = both_true row.keeps c.keeps e in same2 b.1 ∙ same1 b.0) (λ e. absurd (cc)))));
      } in
      let p = valued_does k keeps (λ dest to. row.effects to ++ c.value dest to) values in
      record {
        value = values;
        effect = record {
          by = λ to pc slots last env s next room vars has go.
              let ca = row.effects to in
              let cb = c.effect to in
              hr.by to pc slots last env s (λ u env s. m env s next) room vars (has_front (site k) pc ca cb has) (λ env1 s now1 last1 vars1 st1 same1.
              hc.effect.by to (pc + length ca) now1 last1 env1 s next room vars1 (has_back (site k) pc ca cb has) (λ o env2 s now last2 g vars2 st2 same2.
              let len : pc + length ca + length cb ≡ pc + length (ca ++ cb) = omega (arith, length-append ca cb) in
              moved (site k) len (go o env2 s now last2 g vars2 (stays_both (scene k) to to now now1 slots (omega arith) st2 st1) (λ e. let b = both_true row.keeps c.keeps e in same2 b.1 ∙ same1 b.0))));
        };
        unless = p.unless;
        pointer = p.pointer;
        stored = p.stored;
        known = p.known;
        stands = p.stands;
      }
