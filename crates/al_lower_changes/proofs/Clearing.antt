-- Zero in each word of a place.
use Rattle.std.proofs.Common.{◌≡◌, ℕ, zero, suc, ◌+◌, ◌%◌, ◌^◌, ◌<◌, List, [], ◌∷◌, ◌++◌, length, take, drop, Option, Some, None, refl, sym, ap, ap₂, ◌∙◌, subst, inl, inr, ⊎_elim, arith}
use Rattle.std.specs.Prelude.{Bool, true, false, ◌==◌, if◌then◌else◌, slice_get, slice_set}
use Rattle.std.specs.List.{flat_map}
use Rattle.std.proofs.Math.Nat.{zero-mod}
use Rattle.std.proofs.lemmas.List.{take-append-drop, append-nil}
use Rattle.std.proofs.lemmas.Option.{slice_get_within}
use Rattle.std.proofs.lemmas.Grind.{common_steps}
use Rattle.al_typed.specs.declared.layout.Unit.{Unit as StorageUnit}
use Rattle.al_typed.specs.declared.ty.Ty.{Ty}
use Rattle.al_typed.specs.Types.{is_array}
use Rattle.al_meaning.specs.Words.{sum, zero_words}
use Rattle.al_meaning.specs.Places.{private_place}
use Rattle.al_meaning.specs.Evaluate.{put_at}
use Rattle.al_meaning.specs.Here.{units_in}
use Rattle.al_meaning.specs.Items.{Found, Words, Address, Local, Private, Nowhere}
use Rattle.al_meaning.specs.Tasks.{Still, Outcome, Env, Rest}
use Rattle.al_meaning.specs.Told.{save, store_units}
use Rattle.al_ir.specs.declared.op.Op.TheVariants.{Constant, Zero}
use Rattle.al_ir.specs.Units.{units_at}
use Rattle.al_ir.specs.Control.{Slots, put, put_all}
use Rattle.al_ir.specs.Step.{private_step}
use Rattle.al_ir.specs.Meaning.{control_weight, resume}
use Rattle.al_ir.proofs.Lighter.{lighter}
use Rattle.al_lowered.specs.Rules.{private_units}
use Rattle.al_lowered.proofs.Does.{knowing}
use Rattle.al_lower_words.specs.Units.{AreOf}
use Rattle.al_lower_words.proofs.Integers.{length_of, words_are}
use Rattle.al_lower_code.specs.Homes.{operation, here}
use Rattle.al_lower_code.specs.Moving.{Where, clear_by, clear_code, layout_number, puts_same, stores_same, zeros}
use Rattle.al_lower_steps.specs.Slots.{Holds, Below, Outside}
use Rattle.al_lower_steps.specs.Site.{Site, HasAt}
use Rattle.al_lower_steps.proofs.Slots.{below_refl, put_same, put_below, put_all_outside, put_all_holds, outside_none}
use Rattle.al_lower_steps.proofs.Steps.{Runs, moved, comes_out}
use Rattle.al_lower_steps.proofs.Plain.{constant_does, zero_does, put_private_does}
use Rattle.al_lower_steps.proofs.Storage.{clear_units_does}
use Rattle.al_lower_claims.proofs.Storing.{stores_same_do}
use Rattle.al_lower_claims.proofs.Privates.{NoArrayGlobals, set_all, set_all_is, set_fits}
use Rattle.al_lower_claims.proofs.Saving.{Located, global_located}
use Rattle.al_lower_claims.proofs.Variables.{IsFree, vars_kept, vars_set, with_local, home}
use Rattle.al_lower_claims.proofs.Claims.{Setting, scene, site, spot, Run, Has, HasVars, HasRoom, UnitsOf, count_of, FoundAt, stored, slotted, kept}
use Rattle.al_lower_changes.proofs.Reading.{lead_before}

pub zero_fits : (us : List StorageUnit) → AreOf us (zero_words (length us))
zero_fits [] = refl
zero_fits (u ∷ us) = ap₂ (λ (n : ℕ) (v : List ℕ). n ∷ v) (zero-mod (256 ^ u.size)) (zero_fits us)

-- ---- private globals

-- zeros that are set there are put there
zeros_set : (us all : List StorageUnit) (u : List ℕ) (place : ℕ) → Located all place us → length u ≡ length all → set_all place (zero_words (length us)) u ≡ put_at place (zero_words (length us)) u
zeros_set [] all u place at len = let z : place ≡ place + 0 = omega arith in sym (take-append-drop place u) ∙ (ap (λ n. take place u ++ drop n u) z ∙ ap (λ a. a ++ drop (place + 0) u) (sym (append-nil (take place u))))
zeros_set (v ∷ us) all u place at len =
    let last = last_of (v ∷ us) (length us) refl in
    let within = slice_get_within all (place + length us) last.0 (at (length us) last.0 last.1) in
    let count = length_zero (length us) in
    set_all_is (zero_words (length (v ∷ us))) place u (omega (arith, within, len, count))
  where
    length_zero : (n : ℕ) → length (zero_words n) ≡ n
    length_zero n = grind (arith, common_steps)

    last_of : (us : List StorageUnit) (m : ℕ) → length us ≡ suc m → (v : StorageUnit) × (slice_get us m ≡ Some v)
    last_of [] m e = absurd (omega (arith, e))
    last_of (a ∷ us) zero e = (a, refl)
    last_of (a ∷ us) (suc m) e = last_of us m (omega (arith, e))

module _ (x : Site) where
  puts_zeros_do : (all us : List StorageUnit) (line place from pc : ℕ) (slots last : Slots) (s : Still) (o : Outcome) → ((u : List ℕ) (i w : ℕ) (unit : StorageUnit) → slice_get all i ≡ Some unit → w % 256 ^ unit.size ≡ w → x.rules.Private u → x.rules.Private (slice_set u i w)) → Located all place us → HasAt x pc (puts_same line place from (length us)) → slots from ≡ Some 0 → Runs x o (pc + length (puts_same line place from (length us))) slots last (record s { privates = set_all place (zero_words (length us)) s.privates }) → Runs x o pc slots last s
  puts_zeros_do all [] line place from pc slots last s o keeps at has there go = let z : pc ≡ pc + 0 = omega arith in moved x z go
  puts_zeros_do all (u ∷ us) line place from pc slots last s o keeps at has there go =
      let here_is : slice_get all place ≡ Some u = let z : place + 0 ≡ place = omega arith in subst (λ n. slice_get all n ≡ Some u) z (at 0 u refl) in
      let len : pc + 1 + length (puts_same line (place + 1) from (length us)) ≡ pc + length (puts_same line place from (length (u ∷ us))) = omega arith in
      put_private_does x has.0 there (keeps s.privates place 0 u here_is (zero-mod (256 ^ u.size)))
      (puts_zeros_do all us line (place + 1) from (pc + 1) slots last (record s { privates = slice_set s.privates place 0 }) o keeps (λ i v e. let z : place + suc i ≡ place + 1 + i = omega arith in subst (λ n. slice_get all n ≡ Some v) z (at (suc i) v e)) has.1 there (moved x len go))

  pub zeros_do : (n line to pc : ℕ) (slots last : Slots) (s : Still) (o : Outcome) → HasAt x pc (zeros line to n) → ((now : Slots) → Outside to n now slots → Holds now to (zero_words n) → Runs x o (pc + length (zeros line to n)) now last s) → Runs x o pc slots last s
  zeros_do n line to pc slots last s o has h = on (n == 0) refl has h
    where
      length_zero : (n : ℕ) → length (zero_words n) ≡ n
      length_zero n = grind (arith, common_steps)

      on : (b : Bool) → (n == 0) ≡ b → HasAt x pc (if b then [] else operation line (Zero to n) ∷ []) → ((now : Slots) → Outside to n now slots → Holds now to (zero_words n) → Runs x o (pc + length (if b then [] else operation line (Zero to n) ∷ [])) now last s) → Runs x o pc slots last s
      on true e has h =
          let none : n ≡ 0 = grind (arith, common_steps, e) in
          let q : pc ≡ pc + 0 = omega arith in
          moved x q (h slots (outside_none to n slots) (subst (λ m. Holds slots to (zero_words m)) (sym none) tt))
      on false e has h =
          zero_does x has.0 (h (put_all to (zero_words n) slots) (subst (λ k. Outside to k (put_all to (zero_words n) slots) slots) (length_zero n) (put_all_outside (zero_words n) to slots)) (put_all_holds (zero_words n) to slots))

-- ---- storage

module _ (k : Setting) where
  clear_by_does : (t : Ty) (s : Still) (next : Unit {0} → Rest) (env : Env) (a slot offset free pc : ℕ) (slots last : Slots) → slots slot ≡ Some a → slot < free → Has k pc (clear_by (spot k) (layout_number (spot k) t) t slot offset free) → ((s : Still) (now : Slots) → Below free now slots → Run k (next tt env s) (pc + length (clear_by (spot k) (layout_number (spot k) t) t slot offset free)) now last s) → Run k (store_units k.ways (sum a offset) (units_in k.ways.program t) (zero_words (length (units_in k.ways.program t))) env s next) pc slots last s
  clear_by_does t s next env a slot offset free pc slots last there lt has go = on (layout_number (spot k) t) refl has go
    where
      on : (o : Option ℕ) → layout_number (spot k) t ≡ o → Has k pc (clear_by (spot k) o t slot offset free) → ((s : Still) (now : Slots) → Below free now slots → Run k (next tt env s) (pc + length (clear_by (spot k) o t slot offset free)) now last s) → Run k (store_units k.ways (sum a offset) (units_in k.ways.program t) (zero_words (length (units_in k.ways.program t))) env s next) pc slots last s
      on None e has go =
          let us = units_in k.ways.program t in
          let now : Slots = put free 0 slots in
          let below : Below free now slots = put_below slots slots free 0 free (omega arith) (below_refl free slots) in
          let len : pc + 1 + length (stores_same k.ways.line slot offset free us) ≡ pc + length (here (spot k) (Constant free 0) ++ stores_same k.ways.line slot offset free us) = omega arith in
          constant_does (site k) has.0
          (stores_same_do (site k) k.ways env us s next a slot offset free (pc + 1) now last has.1 (below slot lt ∙ there) (put_same slots free 0) (λ s. moved (site k) len (go s now below)))
      on (Some layout) e has go =
          let us : units_at k.ir layout ≡ units_in k.ways.program t = k.layouts (spot k) t layout refl e in
          comes_out (site k) (ap (λ us. store_units k.ways (sum a offset) us (zero_words (length us)) env s next) (sym us))
          (clear_units_does (site k) k.ways env s next has.0 there (λ s. go s slots (below_refl free slots)))

module _ (k : Setting) (plain : NoArrayGlobals k.ways.program k.ways.program.globals) where
  -- Zero goes into the place. One slot from `free` on serves it.
  pub clear_does : (t : Ty) {fd : Found} {at : Where} {lasting : Bool} (to free pc : ℕ) (slots last : Slots) (env : Env) (s : Still) (next : Unit {0} → Rest) → FoundAt k t lasting to slots at fd → is_array t ≡ false → to < free → HasRoom k to → HasVars k env slots → Has k pc (clear_code (spot k) t at free) → ((env2 : Env) (s : Still) (now : Slots) → HasVars k env2 now → ((i : ℕ) → IsFree (scene k) i → i < free → now i ≡ slots i) → Run k (next tt env2 s) (pc + length (clear_code (spot k) t at free)) now last s) → Run k (save k.ways t (zero_words (count_of k t)) fd env s next) pc slots last s
  clear_does t {fd = Address a} {at} to free pc slots last env s next (stored slot offset word e there is leads) na lt room vars has go =
      let count : count_of k t ≡ length (units_in k.ways.program t) = words_are k.ways.program t na in
      let before = lead_before k slot to leads room in
      let room2 : HasRoom k free = omega (arith, room, lt) in
      comes_out (site k) (ap₂ (λ (a n : ℕ). store_units k.ways a (units_in k.ways.program t) (zero_words n) env s next) is count)
      (clear_by_does k t s next env word slot offset free pc slots last there (omega (arith, before, lt)) (subst (λ q. Has k pc (clear_code (spot k) t q free)) e has) (λ s now below.
      moved (site k) (ap (λ q. pc + length (clear_code (spot k) t q free)) (sym e)) (go env s now (vars_kept (scene k) env free now slots room2 below vars) (λ i f lt. below i lt))))
  clear_does t {fd = Local n} {at} to free pc slots last env s next (slotted l x ty e) na lt room vars has go =
      let count : count_of k t ≡ length (units_in k.ways.program t) = words_are k.ways.program t na in
      let cleared = zero_words (count_of k t) in
      let fits : UnitsOf k t cleared = subst (λ n. UnitsOf k t (zero_words n)) (sym count) (zero_fits (units_in k.ways.program t)) in
      let fits2 : UnitsOf k l.ty cleared = subst (λ q. UnitsOf k q cleared) (sym ty) fits in
      let len = length_of _ _ fits2 in
      let own = length_of _ _ fits in
      zeros_do (site k) (count_of k t) k.ways.line (home (scene k) n) pc slots last s _ (subst (λ q. Has k pc (clear_code (spot k) t q free)) e has) (λ now out held.
      let out2 : Outside (home (scene k) n) (length cleared) now slots = subst (λ m. Outside (home (scene k) n) m now slots) (count ∙ sym own) out in
      moved (site k) (ap (λ q. pc + length (clear_code (spot k) t q free)) (sym e)) (go (with_local n cleared env) s now (vars_set (scene k) n l env cleared now slots x fits2 out2 held vars) (λ i f lt. ⊎_elim (λ lt. out2 i (inl lt)) (λ le. out2 i (inr (omega (arith, le, len)))) (f n l x))))
  clear_does t {fd = Private n} {at} to free pc slots last env s next (kept g row private ty e) na lt room vars has go =
      let p = k.ways.program in
      let place = private_place p n in
      let all = flat_map (private_units p) p.globals in
      let us = units_in p t in
      let count : count_of k t ≡ length us = words_are p t na in
      let located : Located all place us = subst (λ q. Located all place (units_in p q)) ty (global_located p p.globals n g row private plain) in
      let code = subst (λ m. Has k pc (here (spot k) (Constant free 0) ++ puts_same k.ways.line place free m)) count (subst (λ q. Has k pc (clear_code (spot k) t q free)) e has) in
      let now : Slots = put free 0 slots in
      let below : Below free now slots = put_below slots slots free 0 free (omega arith) (below_refl free slots) in
      let room2 : HasRoom k free = omega (arith, room, lt) in
      let cleared = zero_words (length us) in
      let len : pc + 1 + length (puts_same k.ways.line place free (length us)) ≡ pc + length (here (spot k) (Constant free 0) ++ puts_same k.ways.line place free (length us)) = omega arith in
      let end : pc + length (here (spot k) (Constant free 0) ++ puts_same k.ways.line place free (length us)) ≡ pc + length (clear_code (spot k) t at free) = ap (λ m. pc + length (here (spot k) (Constant free 0) ++ puts_same k.ways.line place free m)) (sym count) ∙ ap (λ q. pc + length (clear_code (spot k) t q free)) (sym e) in
      comes_out (site k) (ap (λ m. next tt env (record s { privates = put_at place (zero_words m) s.privates })) count)
      (knowing (private_step k.ir) (control_weight k.ir) resume (lighter k.ir) (site k).rules (λ known.
      let is : set_all place cleared s.privates ≡ put_at place cleared s.privates = zeros_set us all s.privates place located (length_of _ _ known) in
      constant_does (site k) code.0
      (puts_zeros_do (site k) all us k.ways.line place free (pc + 1) now last s _ (λ u i w unit h small own. set_fits all u i w unit h small own) located code.1 (put_same slots free 0)
      (subst (λ u. Run k (next tt env (record s { privates = put_at place cleared s.privates })) (pc + 1 + length (puts_same k.ways.line place free (length us))) now last (record s { privates = u })) (sym is)
      (moved (site k) (len ∙ end) (go env (record s { privates = put_at place cleared s.privates }) now (vars_kept (scene k) env free now slots room2 below vars) (λ i f lt. below i lt)))))))
  clear_does t {fd = Words _} to free pc slots last env s next x na lt room vars has go = elim x [ ]
  clear_does t {fd = Nowhere} to free pc slots last env s next x na lt room vars has go = elim x [ ]
