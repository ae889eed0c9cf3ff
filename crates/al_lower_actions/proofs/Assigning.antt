-- Assignments to one place.
use Rattle.std.proofs.Common.{◌≡◌, ℕ, ◌+◌, ◌<◌, ◌≤◌, List, ◌++◌, length, take, Option, Some, None, refl, sym, ap, ◌∙◌, subst, le_refl, ◌⊎◌, inl, inr, ⊎_elim, arith, length-append}
use Rattle.std.specs.Prelude.{Bool, true, false, not, nat_lt, if◌then◌else◌, slice_get, unwrap_or}
use Rattle.std.proofs.Math.Seq.{take-length}
use Rattle.std.proofs.lemmas.Grind.{common_steps}
use Rattle.al_typed.specs.declared.ty.Ty.{Ty}
use Rattle.al_typed.specs.declared.program.Local.{Local as LocalRow}
use Rattle.al_typed.specs.Types.{is_void, is_array}
use Rattle.al_meaning.specs.Here.{units_in}
use Rattle.al_meaning.specs.Items.{Found, Words, Address, Local, Private, Nowhere}
use Rattle.al_meaning.specs.Tasks.{Still, Env, Rest, Task}
use Rattle.al_meaning.specs.Told.{value, needed, save}
use Rattle.al_ir.specs.declared.ir.Operation.{Operation}
use Rattle.al_ir.specs.Control.{Slots}
use Rattle.al_lower_words.proofs.Integers.{length_of, words_are}
use Rattle.al_lower_code.specs.Moving.{Where, home_of, moves, save_code}
use Rattle.al_lower_code.specs.Coded.{Coded, Placed, operand_slot, operand_code}
use Rattle.al_lower_code.specs.Actions.{changing, assigns_one, assigned_slot}
use Rattle.al_lower_steps.specs.Slots.{Holds, Outside}
use Rattle.al_lower_steps.proofs.Slots.{holds_below}
use Rattle.al_lower_steps.proofs.Steps.{moved, comes_out, has_front, has_back}
use Rattle.al_lower_claims.proofs.Moving.{CanCopy, moves_do}
use Rattle.al_lower_claims.proofs.Privates.{NoArrayGlobals}
use Rattle.al_lower_claims.proofs.Variables.{IsLocal, home, Stays, room_free, more_room, vars_kept, vars_set, with_local, Dest, free, local, lone, Put, put_outside_is}
use Rattle.al_lower_claims.proofs.Claims.{Setting, scene, site, spot, Run, Has, HasVars, HasRoom, UnitsOf, count_of, GoesOn, ValueDoes, CodedDoes, Leads, own, bound, variable, FoundAt, stored, slotted, kept, IsLocalPlace, PlacedDoes}
use Rattle.al_lower_claims.proofs.Operands.{operand_does}
use Rattle.al_lower_claims.proofs.Plain.{valued_does, one_of}
use Rattle.al_lower_claims.proofs.Reading.{home_copies, one_copies}
use Rattle.al_lower_claims.proofs.Saving.{save_does}

true_is_not : (b : Bool) → b ≡ true → b ≡ false → ⊥
true_is_not true h k = cc
true_is_not false h k = cc

-- slots of a value that was found: free ones, those of a local, or that of an iterator's turn
pub data Source (k : Setting) (n slot to : ℕ) : Type 0 where
  behind : to ≤ slot → Source k n slot to
  of_local : (m : ℕ) (l : LocalRow) → IsLocal (scene k) m l → slot ≡ home (scene k) m → length (units_in k.ways.program l.ty) ≡ n → Source k n slot to
  of_turn : (i : ℕ) → i < k.iterators → slot ≡ k.turns + i → n ≡ 1 → Source k n slot to

module _ (k : Setting) where
  pub can_copy : (n slot dest to : ℕ) → Source k n slot to → Dest (scene k) n dest to → HasRoom k to → CanCopy slot dest n
  can_copy n slot dest to (behind le) (lone d lt) room = inr (omega (arith, le, lt))
  can_copy n slot dest to (behind le) (free d) room = inr (omega (arith, le, d))
  can_copy n slot dest to (behind le) (local m l x d len) room = let q = k.homes.fits m l x in let a = k.above in inr (omega (arith, q, a, room, le, d))
  can_copy n slot dest to (of_local m l x at len) d room = subst (λ s. CanCopy s dest n) (sym at) (home_copies k m l dest n to x len d room)
  can_copy n slot dest to (of_turn i lt at one) (lone d less) room = one_copies k slot dest n d
  can_copy n slot dest to (of_turn i lt at one) (free d) room = inl (omega (arith, lt, at, one, d, room))
  can_copy n slot dest to (of_turn i lt at one) (local m l x d len) room = let q = k.homes.fits m l x in let a = k.above in inr (omega (arith, q, a, at, d))

  pub operand_source : {m : Task (Option (List ℕ))} {t : Ty} {c : Coded} (to : ℕ) → is_array t ≡ false → CodedDoes k m t c → Source k (count_of k t) (operand_slot c to) to
  operand_source {m} {t} {c} to na h = on c.stands refl
    where
      count : count_of k t ≡ length (units_in k.ways.program t)
      count = words_are k.ways.program t na

      on : (o : Option ℕ) → c.stands ≡ o → Source k (count_of k t) (unwrap_or o to) to
      on None e = behind (le_refl to)
      on (Some slot) e = let st = h.stands slot e in ⊎_elim
          (λ n. of_local n.0 n.1.0 n.1.1.0 n.1.1.1.0 (n.1.1.1.1 ∙ sym count))
          (λ i. of_turn i.0 i.1.0 i.1.1.0 (count ∙ i.1.1.1)) st.where_is

  -- ---- what is found of a place stays while a value is found

  same_value : (a b : List ℕ) (o p : Option (List ℕ)) → o ≡ p → o ≡ Some a → p ≡ Some b → a ≡ b
  same_value a b o p e h j = cc

  some_is : (o : Option ℕ) (a b : ℕ) → o ≡ Some a → o ≡ Some b → a ≡ b
  some_is o a b h j = cc

  pub word_there : (lasting : Bool) (slot to word : ℕ) (now old : Slots) (env env2 : Env) → Leads k lasting slot to → old slot ≡ Some word → HasVars k env old → HasVars k env2 now → Stays (scene k) (to + 1) now old → (lasting ≡ false → env2 ≡ env) → HasRoom k to → now slot ≡ Some word
  word_there lasting slot to word now old env env2 (own e) there v w st same room = st slot (room_free (scene k) to slot room (omega (arith, e))) (omega (arith, e)) ∙ there
  word_there lasting slot to word now old env env2 (bound f lt) there v w st same room = st slot f (omega (arith, lt, room)) ∙ there
  word_there lasting slot to word now old env env2 (variable n l q x at one) there v w st same room =
      let a = v.locals n l x in
      let b = w.locals n l x in
      let values : a.value ≡ b.value = same_value a.value b.value (slice_get env.locals n) (slice_get env2.locals n) (ap (λ (e : Env). slice_get e.locals n) (sym (same q))) a.is b.is in
      let first = one_of 0 4 a.value (length_of _ _ a.fits ∙ one) in
      let old_word : old slot ≡ Some first.0 = subst (λ s. old s ≡ Some first.0) (sym at) (subst (Holds old (home (scene k) n)) first.1 a.holds).0 in
      let new_word : now slot ≡ Some first.0 = subst (λ s. now s ≡ Some first.0) (sym at) (subst (Holds now (home (scene k) n)) (sym values ∙ first.1) b.holds).0 in
      new_word ∙ (sym old_word ∙ there)

  pub found_later : {t : Ty} {at : Where} {fd : Found} (lasting : Bool) (to : ℕ) (now old : Slots) (env env2 : Env) → FoundAt k t lasting to old at fd → HasVars k env old → HasVars k env2 now → Stays (scene k) (to + 1) now old → (lasting ≡ false → env2 ≡ env) → HasRoom k to → FoundAt k t lasting to now at fd
  found_later {t} {at} {fd = Address a} lasting to now old env env2 (stored slot offset word e there is leads) v w st same room = stored slot offset word e (word_there lasting slot to word now old env env2 leads there v w st same room) is leads
  found_later {t} {at} {fd = Local n} lasting to now old env env2 (slotted l x ty e) v w st same room = slotted l x ty e
  found_later {t} {at} {fd = Private n} lasting to now old env env2 (kept g row private ty e) v w st same room = kept g row private ty e
  found_later {t} {at} {fd = Words _} lasting to now old env env2 x v w st same room = elim x [ ]
  found_later {t} {at} {fd = Nowhere} lasting to now old env env2 x v w st same room = elim x [ ]

  -- ---- a value that was put straight into the home of its local

  pub vars_put : (n : ℕ) (l : LocalRow) (env : Env) (v : List ℕ) (to : ℕ) (now was : Slots) → IsLocal (scene k) n l → UnitsOf k l.ty v → HasRoom k to → Put (length v) (home (scene k) n) to now was → Holds now (home (scene k) n) v → HasVars k env was → HasVars k (with_local n v env) now
  vars_put n l env v to now was x fits room put holds vars =
      let mid : Slots = λ i. if nat_lt i to then now i else was i in
      let below : (i : ℕ) → i < to → mid i ≡ now i = λ i lt. let e : nat_lt i to ≡ true = grind (arith, common_steps, lt) in ap (λ b. if b then now i else was i) e in
      let above : (i : ℕ) → to ≤ i → mid i ≡ was i = λ i le. let e : nat_lt i to ≡ false = grind (arith, common_steps, le) in ap (λ b. if b then now i else was i) e in
      let out : Outside (home (scene k) n) (length v) mid was = λ i w. ⊎_elim (λ lt. below i lt ∙ put i lt w) (λ le. above i le) (either i to) in
      let fit = k.homes.fits n l x in
      let a = k.above in
      let len = length_of _ _ fits in
      let held : Holds mid (home (scene k) n) v = holds_below v (home (scene k) n) to mid now (omega (arith, fit, a, room, len)) below holds in
      vars_kept (scene k) (with_local n v env) to now mid room (λ i lt. sym (below i lt)) (vars_set (scene k) n l env v mid was x fits out held vars)
    where
      either : (i to : ℕ) → (i < to) ⊎ (to ≤ i)
      either i to = on (nat_lt i to) refl
        where
          on : (b : Bool) → nat_lt i to ≡ b → (i < to) ⊎ (to ≤ i)
          on true e = inl (grind (arith, common_steps, e))
          on false e = inr (grind (arith, common_steps, e))

  -- ---- expressions that change something and then stand somewhere

  pub record Changes (m : Task (Option (List ℕ))) (t : Ty) (code : (to : ℕ) → List Operation) (slot : (to : ℕ) → ℕ) : Type 0 where
    pub by : (to pc : ℕ) (slots last : Slots) (env : Env) (s : Still) (next : Option (List ℕ) → Rest) → HasRoom k to → HasVars k env slots → Has k pc (code to) → ((v : List ℕ) (env2 : Env) (s : Still) (now last : Slots) → UnitsOf k t v → HasVars k env2 now → Stays (scene k) to now slots → Holds now (slot to) v → Source k (count_of k t) (slot to) to → Run k (next (Some v) env2 s) (pc + length (code to)) now last s) → Run k (m env s next) pc slots last s

  pub changing_does : {m : Task (Option (List ℕ))} (t : Ty) (code : (to : ℕ) → List Operation) (slot : (to : ℕ) → ℕ) → is_void t ≡ false → is_array t ≡ false → Changes m t code slot → CodedDoes k m t (changing (spot k) t code slot)
  changing_does {m} t code slot nv na h =
      let values : ValueDoes k m t false false (λ dest to. code to ++ moves k.ways.line dest (slot to) (count_of k t)) = record {
        by = λ dest to pc slots last env s next d room vars has go.
            let ca = code to in
            let cb = moves k.ways.line dest (slot to) (count_of k t) in
            let len : pc + length ca + length cb ≡ pc + length (ca ++ cb) = omega (arith, length-append ca cb) in
            h.by to pc slots last env s next room vars (has_front (site k) pc ca cb has) (λ v env2 s now last2 fits vars2 st2 holds source.
            let count : count_of k t ≡ length v = words_are k.ways.program t na ∙ sym (length_of _ _ fits) in
            moves_do (site k) v (count_of k t) k.ways.line dest (slot to) (pc + length ca) now last2 s _ count (has_back (site k) pc ca cb has) holds (subst (CanCopy (slot to) dest) count (can_copy (count_of k t) (slot to) dest to source d room)) (λ now3 out holds3.
            moved (site k) len (go (Some v) env2 s now now3 last2 (nv, fits) vars2 st2 (put_outside_is (count_of k t) dest to now3 now (subst (λ n. Outside dest n now3 now) (sym count) out)) holds3 (λ e. absurd (cc)) (λ e. absurd (cc)))));
      } in
      let p = valued_does k false (λ dest to. code to ++ moves k.ways.line dest (slot to) (count_of k t)) values in
      record {
        value = values;
        effect = record {
          by = λ to pc slots last env s next room vars has go.
              h.by to pc slots last env s next room vars has (λ v env2 s now last2 fits vars2 st2 holds source. go (Some v) env2 s now last2 (nv, fits) vars2 st2 (λ e. absurd (cc)));
        };
        unless = p.unless;
        pointer = p.pointer;
        stored = p.stored;
        known = p.known;
        stands = p.stands;
      }

  source_less : (n slot to : ℕ) → Source k n slot (to + 1) → Source k n slot to
  source_less n slot to (behind le) = behind (omega (arith, le))
  source_less n slot to (of_local m l x at len) = of_local m l x at len
  source_less n slot to (of_turn i lt at one) = of_turn i lt at one

pub not_false : (b : Bool) → not b ≡ false → b ≡ true
not_false true e = refl
not_false false e = absurd (cc)

-- ---- one place

module _ (k : Setting) (plain : NoArrayGlobals k.ways.program k.ways.program.globals) where
  abbrev pub assign_means : Task Found → Task (Option (List ℕ)) → Ty → Task (Option (List ℕ))
  assign_means m o t env s next = m env s (λ fd env s. value o env s (λ v env s. save k.ways t (take (count_of k t) v) fd env s (λ u env s. next (Some v) env s)))

  abbrev assigned_by : Ty → Placed → Coded → (lasting : Bool) → Option ℕ → (to : ℕ) → List Operation
  assigned_by t pl c lasting h to = elim h [ Some home ↦ c.value home (to + 1) | None ↦ operand_code c (to + 1) ++ save_code (spot k) t (pl.at lasting to) (operand_slot c (to + 1)) ]

  pub assign_does : {m : Task Found} {o : Task (Option (List ℕ))} (t : Ty) (pl : Placed) (c : Coded) → is_void t ≡ false → is_array t ≡ false → PlacedDoes k m t pl → CodedDoes k o t c → CodedDoes k (assign_means m o t) t (changing (spot k) t (assigns_one (spot k) t pl c) (assigned_slot pl c))
  assign_does {m} {o} t pl c nv na hp hc = changing_does k t (assigns_one (spot k) t pl c) (assigned_slot pl c) nv na (record {
    by = λ to pc slots last env s next room vars has go. on to pc slots last env s next room vars (home_of (pl.at (not c.keeps) to)) refl has go;
  })
    where
      n : length (units_in k.ways.program t) ≡ count_of k t
      n = sym (words_are k.ways.program t na)

      whole : (v : List ℕ) → UnitsOf k t v → take (count_of k t) v ≡ v
      whole v fits = ap (λ i. take i v) (sym n ∙ sym (length_of _ _ fits)) ∙ take-length v

      -- straight into the home of a local
      direct : (to pc slot : ℕ) (slots last : Slots) (env : Env) (s : Still) (next : Option (List ℕ) → Rest) → HasRoom k to → HasVars k env slots → home_of (pl.at (not c.keeps) to) ≡ Some slot → Has k pc (pl.code (not c.keeps) to ++ c.value slot (to + 1)) → ((v : List ℕ) (env2 : Env) (s : Still) (now last : Slots) → UnitsOf k t v → HasVars k env2 now → Stays (scene k) to now slots → Holds now slot v → Source k (count_of k t) slot to → Run k (next (Some v) env2 s) (pc + length (pl.code (not c.keeps) to ++ c.value slot (to + 1))) now last s) → Run k (assign_means m o t env s next) pc slots last s
      direct to pc slot slots last env s next room vars e has go =
          comes_out (site k) (lp.means env s (λ fd env s. value o env s (λ v env s. save k.ways t (take (count_of k t) v) fd env s (λ u env s. next (Some v) env s))))
          (moved (site k) start (hc.value.by slot (to + 1) (pc + length ca) slots last env s (λ p env s. needed p env s (λ v env s. save k.ways t (take (count_of k t) v) (Local lp.number) env s (λ u env s. next (Some v) env s))) (local lp.number lp.row lp.local lp.is len) (more_room (scene k) to 1 room) vars (has_back (site k) pc ca cb has) gave))
        where
          lp : IsLocalPlace k m t pl slot
          lp = hp.local (not c.keeps) to slot e

          ca : List Operation
          ca = pl.code (not c.keeps) to

          cb : List Operation
          cb = c.value slot (to + 1)

          start : pc ≡ pc + length (pl.code (not c.keeps) to)
          start = let z : pc ≡ pc + 0 = omega arith in z ∙ ap (λ q. pc + length q) (sym (lp.code (not c.keeps) to))

          len : length (units_in k.ways.program lp.row.ty) ≡ count_of k t
          len = ap (λ q. length (units_in k.ways.program q)) lp.type ∙ n

          gave : GoesOn k t c.keeps c.is_truth env slots (λ p env s. needed p env s (λ v env s. save k.ways t (take (count_of k t) v) (Local lp.number) env s (λ u env s. next (Some v) env s))) slot (to + 1) (pc + length (pl.code (not c.keeps) to) + length (c.value slot (to + 1)))
          gave None env2 s was now last2 g vars2 st2 put2 holds same truth = absurd (true_is_not (is_void t) g nv)
          gave (Some v) env2 s was now last2 g vars2 st2 put2 holds same truth =
              let count : count_of k t ≡ length v = sym n ∙ sym (length_of _ _ g.1) in
              let put3 : Put (length v) (home (scene k) lp.number) (to + 1) now was = subst (λ i. Put (length v) i (to + 1) now was) lp.is (subst (λ i. Put i slot (to + 1) now was) count put2) in
              let vars3 = vars_put k lp.number lp.row env2 v (to + 1) now was lp.local (subst (λ q. UnitsOf k q v) (sym lp.type) g.1) (more_room (scene k) to 1 room) put3 (subst (λ i. Holds now i v) lp.is holds) vars2 in
              let end : pc + length (pl.code (not c.keeps) to) + length (c.value slot (to + 1)) ≡ pc + length (pl.code (not c.keeps) to ++ c.value slot (to + 1)) = omega (arith, length-append (pl.code (not c.keeps) to) (c.value slot (to + 1))) in
              let is = lp.is in
              let st3 : Stays (scene k) to now slots = λ i f lt. put2 i (omega (arith, lt)) (⊎_elim (λ q. inl (omega (arith, q, is))) (λ q. inr (omega (arith, q, is, len))) (f lp.number lp.row lp.local)) ∙ st2 i f (omega (arith, lt)) in
              comes_out (site k) (ap (λ u. next (Some v) (with_local lp.number u env2) s) (whole v g.1))
              (moved (site k) end (go v (with_local lp.number v env2) s now last2 g.1 vars3 st3 holds (of_local lp.number lp.row lp.local lp.is len)))

      -- found first, and saved when the value is found
      behind_value : (to pc : ℕ) (slots last : Slots) (env : Env) (s : Still) (next : Option (List ℕ) → Rest) → HasRoom k to → HasVars k env slots → home_of (pl.at (not c.keeps) to) ≡ None → Has k pc (pl.code (not c.keeps) to ++ (operand_code c (to + 1) ++ save_code (spot k) t (pl.at (not c.keeps) to) (operand_slot c (to + 1)))) → ((v : List ℕ) (env2 : Env) (s : Still) (now last : Slots) → UnitsOf k t v → HasVars k env2 now → Stays (scene k) to now slots → Holds now (operand_slot c (to + 1)) v → Source k (count_of k t) (operand_slot c (to + 1)) to → Run k (next (Some v) env2 s) (pc + length (pl.code (not c.keeps) to ++ (operand_code c (to + 1) ++ save_code (spot k) t (pl.at (not c.keeps) to) (operand_slot c (to + 1))))) now last s) → Run k (assign_means m o t env s next) pc slots last s
      behind_value to pc slots last env s next room vars e has go =
          let lasting = not c.keeps in
          let ca = pl.code lasting to in
          let cb = operand_code c (to + 1) in
          let cc2 = save_code (spot k) t (pl.at lasting to) (operand_slot c (to + 1)) in
          let back = has_back (site k) pc ca (cb ++ cc2) has in
          let source = operand_source k (to + 1) na hc in
          let room1 = more_room (scene k) to 1 room in
          hp.by lasting to pc slots last env s (λ fd env s. value o env s (λ v env s. save k.ways t (take (count_of k t) v) fd env s (λ u env s. next (Some v) env s))) room vars (has_front (site k) pc ca (cb ++ cc2) has) (λ fd env1 s now1 last1 found vars1 st1 same1.
          operand_does k hc nv (to + 1) (pc + length ca) now1 last1 env1 s (λ v env s. save k.ways t (take (count_of k t) v) fd env s (λ u env s. next (Some v) env s)) room1 vars1 (has_front (site k) (pc + length ca) cb cc2 back) (λ v env2 s now2 last2 fits vars2 st2 holds same2.
          let count : count_of k t ≡ length v = sym n ∙ sym (length_of _ _ fits) in
          let found2 = found_later k lasting to now2 now1 env1 env2 found vars1 vars2 st2 (λ q. same2 (not_false c.keeps q)) room in
          let end : pc + length ca + length cb + length cc2 ≡ pc + length (ca ++ (cb ++ cc2)) = omega (arith, length-append ca (cb ++ cc2), length-append cb cc2) in
          comes_out (site k) (ap (λ u. save k.ways t u fd env2 s (λ u env s. next (Some v) env s)) (whole v fits))
          (save_does k plain t v (operand_slot c (to + 1)) to (pc + length ca + length cb) now2 last2 env2 s (λ u env s. next (Some v) env s) found2 na fits holds (λ i l x ty. subst (CanCopy (operand_slot c (to + 1)) (home (scene k) i)) count (can_copy k (count_of k t) (operand_slot c (to + 1)) (home (scene k) i) (to + 1) source (local i l x refl (ap (λ q. length (units_in k.ways.program q)) ty ∙ n)) room1)) vars2 (has_back (site k) (pc + length ca) cb cc2 back) (λ env3 s now3 vars3 same3 still.
          moved (site k) end (go v env3 s now3 last2 fits vars3 (λ i f lt. same3 i f ∙ (st2 i f (omega (arith, lt)) ∙ st1 i f lt)) (subst (λ q. Holds q (operand_slot c (to + 1)) v) (sym (still e)) holds) (source_less k (count_of k t) (operand_slot c (to + 1)) to source))))))

      on : (to pc : ℕ) (slots last : Slots) (env : Env) (s : Still) (next : Option (List ℕ) → Rest) → HasRoom k to → HasVars k env slots → (h : Option ℕ) → home_of (pl.at (not c.keeps) to) ≡ h → Has k pc (pl.code (not c.keeps) to ++ assigned_by t pl c (not c.keeps) h to) → ((v : List ℕ) (env2 : Env) (s : Still) (now last : Slots) → UnitsOf k t v → HasVars k env2 now → Stays (scene k) to now slots → Holds now (unwrap_or h (operand_slot c (to + 1))) v → Source k (count_of k t) (unwrap_or h (operand_slot c (to + 1))) to → Run k (next (Some v) env2 s) (pc + length (pl.code (not c.keeps) to ++ assigned_by t pl c (not c.keeps) h to)) now last s) → Run k (assign_means m o t env s next) pc slots last s
      on to pc slots last env s next room vars (Some slot) e has go = direct to pc slot slots last env s next room vars e has go
      on to pc slots last env s next room vars None e has go = behind_value to pc slots last env s next room vars e has go
