-- Values that are stored, and that stand nowhere afterwards: initial values of locals, and new blocks and channels.
use Rattle.std.proofs.Common.{◌≡◌, ℕ, ◌+◌, ◌<◌, ◌≤◌, ◌^◌, ◌%◌, List, [], ◌∷◌, ◌++◌, length, Option, Some, None, refl, sym, ap, ◌∙◌, subst, ◌⊎◌, inl, inr, arith, length-append}
use Rattle.std.specs.Prelude.{Bool, true, false, not}
use Rattle.al_typed.specs.declared.ty.Ty.{Ty}
use Rattle.al_typed.specs.declared.ty.Ty.TheOpen.{Ty-F}
use Rattle.al_typed.specs.declared.ty.Ty.TheVariants as ty
use Rattle.al_typed.specs.declared.ty.Ty.TheViews.{out-Ty, roll-Ty, roll-out-Ty, out-roll-Ty}
use Rattle.al_typed.specs.declared.program.Aggregate.{Aggregate as AggregateRow}
use Rattle.al_typed.specs.Types.{is_void, is_array, points_to_complete, points_to_complete_at}
use Rattle.al_typed.specs.WellTyped.{IsChannel}
use Rattle.al_typed.specs.Layout.{unit_at}
use Rattle.al_meaning.specs.Here.{units_in}
use Rattle.al_meaning.specs.Items.{Found, Local}
use Rattle.al_meaning.specs.Tasks.{Still, Env, Rest, Task}
use Rattle.al_meaning.specs.Told.{value, needed, save}
use Rattle.al_meaning.specs.Meant.{new_of}
use Rattle.al_ir.specs.declared.ir.Operation.{Operation}
use Rattle.al_ir.specs.Control.{Slots, put}
use Rattle.al_lower_words.specs.Units.{AreOf}
use Rattle.al_lower_words.proofs.Integers.{length_of, words_are, units_of_pointer, units_of_channel, pointer_not_array, channel_not_array, one_fits}
use Rattle.al_lower_code.specs.Homes.{Spot}
use Rattle.al_lower_code.specs.Moving.{home_of, save_code}
use Rattle.al_lower_code.specs.Coded.{Coded, Placed, operand_slot, operand_code}
use Rattle.al_lower_code.specs.Actions.{assigns_one}
use Rattle.al_lower_code.specs.Simple.{new_at, new_code, allocates}
use Rattle.al_lower_steps.specs.Slots.{Holds}
use Rattle.al_lower_steps.proofs.Slots.{put_same, put_outside, put_below, below_refl}
use Rattle.al_lower_steps.proofs.Steps.{moved, comes_out, has_front, has_back}
use Rattle.al_lower_steps.proofs.Actions.{alloc_does, new_chan_does}
use Rattle.al_lower_claims.proofs.Moving.{CanCopy}
use Rattle.al_lower_claims.proofs.Privates.{NoArrayGlobals}
use Rattle.al_lower_claims.proofs.Variables.{home, more_room, stays_below, vars_kept, vars_set, with_local, local, Put}
use Rattle.al_lower_claims.proofs.Claims.{Setting, scene, site, spot, Run, Has, HasVars, HasRoom, UnitsOf, count_of, GoesOn, CodedDoes, IsLocalPlace, PlacedDoes}
use Rattle.al_lower_claims.proofs.Operands.{operand_does}
use Rattle.al_lower_claims.proofs.Saving.{save_does}
use Rattle.al_lower_actions.proofs.Assigning.{can_copy, operand_source, found_later, vars_put, not_false}

true_is_not : (b : Bool) → b ≡ true → b ≡ false → ⊥
true_is_not true h k = cc
true_is_not false h k = cc

-- it is done, and nothing stands anywhere
pub record TaskDoes (k : Setting) (m : Task (Unit {0})) (code : (to : ℕ) → List Operation) : Type 0 where
  pub by : (to pc : ℕ) (slots last : Slots) (env : Env) (s : Still) (next : Unit {0} → Rest) → HasRoom k to → HasVars k env slots → Has k pc (code to) → ((env2 : Env) (s : Still) (now last : Slots) → HasVars k env2 now → Run k (next tt env2 s) (pc + length (code to)) now last s) → Run k (m env s next) pc slots last s

module _ (k : Setting) (plain : NoArrayGlobals k.ways.program k.ways.program.globals) where
  -- a place, and a value that goes there
  abbrev pub stores_means : Task Found → Task (Option (List ℕ)) → Ty → Task (Unit {0})
  stores_means m o t env s next = m env s (λ fd env s. value o env s (λ v env s. save k.ways t v fd env s next))

  abbrev stored_by : Ty → Placed → Coded → (lasting : Bool) → Option ℕ → (to : ℕ) → List Operation
  stored_by t pl c lasting h to = elim h [ Some home ↦ c.value home (to + 1) | None ↦ operand_code c (to + 1) ++ save_code (spot k) t (pl.at lasting to) (operand_slot c (to + 1)) ]

  pub stores_value : {m : Task Found} {o : Task (Option (List ℕ))} (t : Ty) (pl : Placed) (c : Coded) → is_void t ≡ false → is_array t ≡ false → PlacedDoes k m t pl → CodedDoes k o t c → TaskDoes k (stores_means m o t) (assigns_one (spot k) t pl c)
  stores_value {m} {o} t pl c nv na hp hc = record {
    by = λ to pc slots last env s next room vars has go. on to pc slots last env s next room vars (home_of (pl.at (not c.keeps) to)) refl has go;
  }
    where
      n : length (units_in k.ways.program t) ≡ count_of k t
      n = sym (words_are k.ways.program t na)

      -- straight into the home of a local
      direct : (to pc slot : ℕ) (slots last : Slots) (env : Env) (s : Still) (next : Unit {0} → Rest) → HasRoom k to → HasVars k env slots → home_of (pl.at (not c.keeps) to) ≡ Some slot → Has k pc (pl.code (not c.keeps) to ++ c.value slot (to + 1)) → ((env2 : Env) (s : Still) (now last : Slots) → HasVars k env2 now → Run k (next tt env2 s) (pc + length (pl.code (not c.keeps) to ++ c.value slot (to + 1))) now last s) → Run k (stores_means m o t env s next) pc slots last s
      direct to pc slot slots last env s next room vars e has go =
          comes_out (site k) (lp.means env s (λ fd env s. value o env s (λ v env s. save k.ways t v fd env s next)))
          (moved (site k) start (hc.value.by slot (to + 1) (pc + length ca) slots last env s (λ p env s. needed p env s (λ v env s. save k.ways t v (Local lp.number) env s next)) (local lp.number lp.row lp.local lp.is len) (more_room (scene k) to 1 room) vars (has_back (site k) pc ca cb has) gave))
        where
          lp : IsLocalPlace k m t pl slot
          lp = hp.local (not c.keeps) to slot e

          ca : List Operation
          ca = pl.code (not c.keeps) to

          cb : List Operation
          cb = c.value slot (to + 1)

          start : pc ≡ pc + length (pl.code (not c.keeps) to)
          start = let z : pc ≡ pc + 0 = omega arith in z ∙ ap (λ q. pc + length q) (sym (lp.code (not c.keeps) to))

          len : length (units_in k.ways.program lp.row.ty) ≡ count_of k t
          len = ap (λ q. length (units_in k.ways.program q)) lp.type ∙ n

          gave : GoesOn k t c.keeps c.is_truth env slots (λ p env s. needed p env s (λ v env s. save k.ways t v (Local lp.number) env s next)) slot (to + 1) (pc + length (pl.code (not c.keeps) to) + length (c.value slot (to + 1)))
          gave None env2 s was now last2 g vars2 st2 put2 holds same truth = absurd (true_is_not (is_void t) g nv)
          gave (Some v) env2 s was now last2 g vars2 st2 put2 holds same truth =
              let count : count_of k t ≡ length v = sym n ∙ sym (length_of _ _ g.1) in
              let put3 : Put (length v) (home (scene k) lp.number) (to + 1) now was = subst (λ i. Put (length v) i (to + 1) now was) lp.is (subst (λ i. Put i slot (to + 1) now was) count put2) in
              let vars3 = vars_put k lp.number lp.row env2 v (to + 1) now was lp.local (subst (λ q. UnitsOf k q v) (sym lp.type) g.1) (more_room (scene k) to 1 room) put3 (subst (λ i. Holds now i v) lp.is holds) vars2 in
              let end : pc + length (pl.code (not c.keeps) to) + length (c.value slot (to + 1)) ≡ pc + length (pl.code (not c.keeps) to ++ c.value slot (to + 1)) = omega (arith, length-append (pl.code (not c.keeps) to) (c.value slot (to + 1))) in
              moved (site k) end (go (with_local lp.number v env2) s now last2 vars3)

      -- found first, and saved when the value is found
      behind_value : (to pc : ℕ) (slots last : Slots) (env : Env) (s : Still) (next : Unit {0} → Rest) → HasRoom k to → HasVars k env slots → home_of (pl.at (not c.keeps) to) ≡ None → Has k pc (pl.code (not c.keeps) to ++ (operand_code c (to + 1) ++ save_code (spot k) t (pl.at (not c.keeps) to) (operand_slot c (to + 1)))) → ((env2 : Env) (s : Still) (now last : Slots) → HasVars k env2 now → Run k (next tt env2 s) (pc + length (pl.code (not c.keeps) to ++ (operand_code c (to + 1) ++ save_code (spot k) t (pl.at (not c.keeps) to) (operand_slot c (to + 1))))) now last s) → Run k (stores_means m o t env s next) pc slots last s
      behind_value to pc slots last env s next room vars e has go =
          let lasting = not c.keeps in
          let ca = pl.code lasting to in
          let cb = operand_code c (to + 1) in
          let cc2 = save_code (spot k) t (pl.at lasting to) (operand_slot c (to + 1)) in
          let back = has_back (site k) pc ca (cb ++ cc2) has in
          let source = operand_source k (to + 1) na hc in
          let room1 = more_room (scene k) to 1 room in
          hp.by lasting to pc slots last env s (λ fd env s. value o env s (λ v env s. save k.ways t v fd env s next)) room vars (has_front (site k) pc ca (cb ++ cc2) has) (λ fd env1 s now1 last1 found vars1 st1 same1.
          operand_does k hc nv (to + 1) (pc + length ca) now1 last1 env1 s (λ v env s. save k.ways t v fd env s next) room1 vars1 (has_front (site k) (pc + length ca) cb cc2 back) (λ v env2 s now2 last2 fits vars2 st2 holds same2.
          let count : count_of k t ≡ length v = sym n ∙ sym (length_of _ _ fits) in
          let found2 = found_later k lasting to now2 now1 env1 env2 found vars1 vars2 st2 (λ q. same2 (not_false c.keeps q)) room in
          let end : pc + length ca + length cb + length cc2 ≡ pc + length (ca ++ (cb ++ cc2)) = omega (arith, length-append ca (cb ++ cc2), length-append cb cc2) in
          save_does k plain t v (operand_slot c (to + 1)) to (pc + length ca + length cb) now2 last2 env2 s next found2 na fits holds (λ i l x ty. subst (CanCopy (operand_slot c (to + 1)) (home (scene k) i)) count (can_copy k (count_of k t) (operand_slot c (to + 1)) (home (scene k) i) (to + 1) source (local i l x refl (ap (λ q. length (units_in k.ways.program q)) ty ∙ n)) room1)) vars2 (has_back (site k) (pc + length ca) cb cc2 back) (λ env3 s now3 vars3 same3 still.
          moved (site k) end (go env3 s now3 last2 vars3))))

      on : (to pc : ℕ) (slots last : Slots) (env : Env) (s : Still) (next : Unit {0} → Rest) → HasRoom k to → HasVars k env slots → (h : Option ℕ) → home_of (pl.at (not c.keeps) to) ≡ h → Has k pc (pl.code (not c.keeps) to ++ stored_by t pl c (not c.keeps) h to) → ((env2 : Env) (s : Still) (now last : Slots) → HasVars k env2 now → Run k (next tt env2 s) (pc + length (pl.code (not c.keeps) to ++ stored_by t pl c (not c.keeps) h to)) now last s) → Run k (stores_means m o t env s next) pc slots last s
      on to pc slots last env s next room vars (Some slot) e has go = direct to pc slot slots last env s next room vars e has go
      on to pc slots last env s next room vars None e has go = behind_value to pc slots last env s next room vars e has go

-- ---- new blocks and channels

-- a pointer or a channel
pub data IsNew (t : Ty) : Type 0 where
  block : (to : Ty) → t ≡ ty.Pointer to → IsNew t
  channel : (element : Ty) (capacity : ℕ) → t ≡ ty.Chan element capacity → IsNew t

pub out_pointer : (to : Ty) → out-Ty (ty.Pointer to) ≡ Ty-F.Pointer to
out_pointer to = ap out-Ty (sym (ty.rolls-Pointer to)) ∙ out-roll-Ty (Ty-F.Pointer to)

pub out_channel : (element : Ty) (capacity : ℕ) → out-Ty (ty.Chan element capacity) ≡ Ty-F.Chan element capacity
out_channel element capacity = ap out-Ty (sym (ty.rolls-Chan element capacity)) ∙ out-roll-Ty (Ty-F.Chan element capacity)

pub a_pointer : (rows : List AggregateRow) (t : Ty) → points_to_complete rows t ≡ true → (x : Ty) × (t ≡ ty.Pointer x)
unfolding points_to_complete
a_pointer rows t h = let a = at (out-Ty t) h in (a.0, sym (roll-out-Ty t) ∙ a.1)
  where
    at : (y : Ty-F Ty) → points_to_complete_at rows y ≡ true → (x : Ty) × (roll-Ty y ≡ ty.Pointer x)
    at (Ty-F.Pointer z) h = (z, ty.rolls-Pointer z)
    at _ h = absurd (cc)

pub is_new : (rows : List AggregateRow) (t : Ty) → (points_to_complete rows t ≡ true) ⊎ IsChannel t → IsNew t
is_new rows t (inl h) = let a = a_pointer rows t h in block a.0 a.1
is_new rows t (inr h) = channel h.0 h.1.0 h.1.1

pub new_units : (k : Setting) (t : Ty) → IsNew t → units_in k.ways.program t ≡ unit_at 0 4 ∷ []
new_units k t (block to e) = ap (units_in k.ways.program) e ∙ units_of_pointer k.ways.program to
new_units k t (channel element capacity e) = ap (units_in k.ways.program) e ∙ units_of_channel k.ways.program element capacity

pub new_not_array : (t : Ty) → IsNew t → is_array t ≡ false
new_not_array t (block to e) = ap is_array e ∙ pointer_not_array to
new_not_array t (channel element capacity e) = ap is_array e ∙ channel_not_array element capacity

new_is : (s : Spot) (t : Ty) (f : Ty-F Ty) (to : ℕ) → out-Ty t ≡ f → new_code s t to ≡ new_at s f to
unfolding new_code
new_is s t f to e = ap (λ f. new_at s f to) e

module _ (k : Setting) where
  -- the word goes into a slot
  pub new_does : (t : Ty) (to pc : ℕ) (slots last : Slots) (env : Env) (s : Still) (next : List ℕ → Rest) → IsNew t → Has k pc (new_code (spot k) t to) → ((w : ℕ) (s : Still) → UnitsOf k t (w ∷ []) → Run k (next (w ∷ []) env s) (pc + length (new_code (spot k) t to)) (put to w slots) last s) → Run k (new_of k.ways (out-Ty t) env s next) pc slots last s
  new_does t to pc slots last env s next n has go = on n
    where
      fits : (w : ℕ) → w % 2 ^ 32 ≡ w → UnitsOf k t (w ∷ [])
      fits w small = subst (λ us. AreOf us (w ∷ [])) (sym (new_units k t n)) (one_fits 0 w (omega (arith, small)))

      on : IsNew t → Run k (new_of k.ways (out-Ty t) env s next) pc slots last s
      on (block to_type e) =
          let f : out-Ty t ≡ Ty-F.Pointer to_type = ap out-Ty e ∙ out_pointer to_type in
          let is = new_is (spot k) t (Ty-F.Pointer to_type) to f in
          comes_out (site k) (ap (λ f. new_of k.ways f env s next) f)
          (alloc_does (site k) (λ ws s. next ws env s) (subst (Has k pc) is has).0 (λ w s small.
          moved (site k) (ap (λ c. pc + length c) (sym is)) (go w s (fits w small))))
      on (channel element capacity e) =
          let f : out-Ty t ≡ Ty-F.Chan element capacity = ap out-Ty e ∙ out_channel element capacity in
          let is = new_is (spot k) t (Ty-F.Chan element capacity) to f in
          comes_out (site k) (ap (λ f. new_of k.ways f env s next) f)
          (new_chan_does (site k) (λ ws s. next ws env s) (subst (Has k pc) is has).0 (λ w s small.
          moved (site k) (ap (λ c. pc + length c) (sym is)) (go w s (fits w small))))

module _ (k : Setting) (plain : NoArrayGlobals k.ways.program k.ways.program.globals) where
  abbrev pub allocates_means : Task Found → Ty → Task (Unit {0})
  allocates_means m t env s next = m env s (λ fd env s. new_of k.ways (out-Ty t) env s (λ words env s. save k.ways t words fd env s next))

  abbrev allocated_by : Ty → Placed → Option ℕ → (to : ℕ) → List Operation
  allocated_by t pl h to = elim h [ Some home ↦ new_code (spot k) t home | None ↦ new_code (spot k) t (to + 1) ++ save_code (spot k) t (pl.at false to) (to + 1) ]

  pub allocates_does : {m : Task Found} (t : Ty) (pl : Placed) → IsNew t → PlacedDoes k m t pl → (to pc : ℕ) (slots last : Slots) (env : Env) (s : Still) (next : Unit {0} → Rest) → to ≡ k.turns → HasRoom k to → HasVars k env slots → Has k pc (allocates (spot k) t pl) → ((env2 : Env) (s : Still) (now last : Slots) → HasVars k env2 now → Run k (next tt env2 s) (pc + length (allocates (spot k) t pl)) now last s) → Run k (allocates_means m t env s next) pc slots last s
  allocates_does {m} t pl new hp to pc slots last env s next at room vars has go = on (home_of (pl.at false k.turns)) refl has go
    where
      na : is_array t ≡ false
      na = new_not_array t new

      one : length (units_in k.ways.program t) ≡ 1
      one = ap length (new_units k t new)

      here_room : HasRoom k k.turns
      here_room = subst (HasRoom k) at room

      on : (h : Option ℕ) → home_of (pl.at false k.turns) ≡ h → Has k pc (pl.code false k.turns ++ allocated_by t pl h k.turns) → ((env2 : Env) (s : Still) (now last : Slots) → HasVars k env2 now → Run k (next tt env2 s) (pc + length (pl.code false k.turns ++ allocated_by t pl h k.turns)) now last s) → Run k (allocates_means m t env s next) pc slots last s
      on (Some slot) e has go =
          let lp = hp.local false k.turns slot e in
          let ca = pl.code false k.turns in
          let cb = new_code (spot k) t slot in
          let len : pc + length ca + length cb ≡ pc + length (ca ++ cb) = omega (arith, length-append ca cb) in
          let z : pc ≡ pc + 0 = omega arith in
          let start : pc ≡ pc + length ca = z ∙ ap (λ q. pc + length q) (sym (lp.code false k.turns)) in
          comes_out (site k) (lp.means env s (λ fd env s. new_of k.ways (out-Ty t) env s (λ words env s. save k.ways t words fd env s next)))
          (moved (site k) start (new_does k t slot (pc + length ca) slots last env s (λ words env s. save k.ways t words (Local lp.number) env s next) new (has_back (site k) pc ca cb has) (λ w s fits.
          let out = subst (λ i. (j : ℕ) → (j < i) ⊎ (i + 1 ≤ j) → put slot w slots j ≡ slots j) lp.is (put_outside slot w slots) in
          let held : Holds (put slot w slots) (home (scene k) lp.number) (w ∷ []) = subst (λ i. Holds (put slot w slots) i (w ∷ [])) lp.is (put_same slots slot w, tt) in
          moved (site k) len (go (with_local lp.number (w ∷ []) env) s (put slot w slots) last (vars_set (scene k) lp.number lp.row env (w ∷ []) (put slot w slots) slots lp.local (subst (λ q. UnitsOf k q (w ∷ [])) (sym lp.type) fits) out held vars)))))
      on None e has go =
          let to1 = k.turns + 1 in
          let ca = pl.code false k.turns in
          let cb = new_code (spot k) t to1 in
          let cd = save_code (spot k) t (pl.at false k.turns) to1 in
          let back = has_back (site k) pc ca (cb ++ cd) has in
          let len : pc + length ca + length cb + length cd ≡ pc + length (ca ++ (cb ++ cd)) = omega (arith, length-append ca (cb ++ cd), length-append cb cd) in
          hp.by false k.turns pc slots last env s (λ fd env s. new_of k.ways (out-Ty t) env s (λ words env s. save k.ways t words fd env s next)) here_room vars (has_front (site k) pc ca (cb ++ cd) has) (λ fd env1 s now1 last1 found vars1 st1 same1.
          new_does k t to1 (pc + length ca) now1 last1 env1 s (λ words env s. save k.ways t words fd env s next) new (has_front (site k) (pc + length ca) cb cd back) (λ w s fits.
          let now2 : Slots = put to1 w now1 in
          let below = put_below now1 now1 to1 w to1 (omega arith) (below_refl to1 now1) in
          let vars2 = vars_kept (scene k) env1 to1 now2 now1 (more_room (scene k) k.turns 1 here_room) below vars1 in
          let found2 = found_later k false k.turns now2 now1 env1 env1 found vars1 vars2 (stays_below (scene k) to1 now2 now1 below) (λ q. refl) here_room in
          save_does k plain t (w ∷ []) to1 k.turns (pc + length ca + length cb) now2 last1 env1 s next found2 na fits (put_same now1 to1 w, tt) (λ i l x ty.
          let f = k.homes.fits i l x in
          let a = k.above in
          inr (omega (arith, f, a))) vars2 (has_back (site k) (pc + length ca) cb cd back) (λ env3 s now3 vars3 same3 still.
          moved (site k) len (go env3 s now3 last1 vars3))))
