-- Values are read from places and saved to them.
use Rattle.std.proofs.Common.{◌≡◌, ℕ, zero, suc, ◌+◌, ◌≤◌, List, [], ◌∷◌, length, take, drop, Some, refl, sym, ap, ◌∙◌, subst, arith}
use Rattle.std.specs.Prelude.{Bool, false, slice_index, unwrap_or}
use Rattle.al_typed.specs.declared.ty.Ty.{Ty}
use Rattle.al_typed.specs.Types.{is_array}
use Rattle.al_meaning.specs.Places.{private_place, words_in}
use Rattle.al_meaning.specs.Here.{units_in}
use Rattle.al_meaning.specs.Items.{Found, Words, Address, Local, Private, Nowhere}
use Rattle.al_meaning.specs.Tasks.{Still, Outcome, Env, Rest}
use Rattle.al_meaning.specs.Told.{read, load_units}
use Rattle.al_ir.specs.Control.{Slots, put}
use Rattle.al_ir.specs.Step.{private_step}
use Rattle.al_ir.specs.Meaning.{control_weight, resume}
use Rattle.al_ir.proofs.Lighter.{lighter}
use Rattle.al_lowered.proofs.Does.{knowing}
use Rattle.al_lower_words.specs.Units.{AreOf}
use Rattle.al_lower_words.proofs.Integers.{length_of, words_are}
use Rattle.al_lower_code.specs.Moving.{Where, read_code, gets}
use Rattle.al_lower_steps.specs.Slots.{Holds, Outside}
use Rattle.al_lower_steps.specs.Site.{Site, HasAt}
use Rattle.al_lower_steps.proofs.Slots.{outside_none}
use Rattle.al_lower_steps.proofs.Steps.{Runs, moved, comes_out}
use Rattle.al_lower_steps.proofs.Plain.{get_private_does}
use Rattle.al_lower_claims.proofs.Moving.{more_outside, first_holds, CanCopy, moves_do}
use Rattle.al_lower_claims.proofs.Privates.{NoArrayGlobals, global_fits}
use Rattle.al_lower_claims.proofs.Variables.{home, Dest}
use Rattle.al_lower_claims.proofs.Claims.{Setting, scene, site, spot, Run, Has, HasVars, HasRoom, UnitsOf, count_of, FoundAt, stored, slotted, kept}
use Rattle.al_lower_claims.proofs.Reading.{lead_apart, home_copies, load_by_does}

index_drop : (u : List ℕ) (place i : ℕ) → slice_index u (place + i) ≡ slice_index (drop place u) i
index_drop u zero i = let e : 0 + i ≡ i = omega arith in ap (slice_index u) e
index_drop [] (suc place) i = refl
index_drop (a ∷ u) (suc place) i = let e : suc place + i ≡ suc (place + i) = omega arith in ap (slice_index (a ∷ u)) e ∙ index_drop u place i

take_whole : (n : ℕ) (u : List ℕ) → length (take n u) ≡ n → n ≤ length u
take_whole zero u e = omega arith
take_whole (suc n) [] e = absurd (omega (arith, e))
take_whole (suc n) (a ∷ u) e = let q = take_whole n u (omega (arith, e)) in omega (arith, q)

module _ (x : Site) where
  -- words of private globals that stand there
  pub gets_do : (n : ℕ) (rest : List ℕ) (line to place pc : ℕ) (slots last : Slots) (s : Still) (o : Outcome) → n ≤ length rest → ((i : ℕ) → slice_index s.privates (place + i) ≡ slice_index rest i) → HasAt x pc (gets line to place n) → ((now : Slots) → Outside to n now slots → Holds now to (take n rest) → Runs x o (pc + length (gets line to place n)) now last s) → Runs x o pc slots last s
  gets_do zero rest line to place pc slots last s o le there has h = let e : pc ≡ pc + 0 = omega arith in moved x e (h slots (outside_none to 0 slots) tt)
  gets_do (suc n) [] line to place pc slots last s o le there has h = absurd (omega (arith, le))
  gets_do (suc n) (w ∷ rest) line to place pc slots last s o le there has h =
      let v = slice_index s.privates place in
      let is : v ≡ w = let z : place ≡ place + 0 = omega arith in ap (slice_index s.privates) z ∙ there 0 in
      get_private_does x has.0 (gets_do n rest line (to + 1) (place + 1) (pc + 1) (put to v slots) last s o (omega (arith, le)) (λ i. let z : place + 1 + i ≡ place + suc i = omega arith in ap (slice_index s.privates) z ∙ there (suc i)) has.1 (λ now b q.
      let e : pc + 1 + length (gets line (to + 1) (place + 1) n) ≡ pc + length (gets line to place (suc n)) = omega arith in
      moved x e (h now (more_outside to n v now slots b) (first_holds to n v now slots b ∙ ap Some is, q))))

module _ (k : Setting) (plain : NoArrayGlobals k.ways.program k.ways.program.globals) where
  -- The value comes to stand from `dest` on. Where the place has an address, it stands behind so many slots for the value.
  pub read_does : (t : Ty) {fd : Found} {at : Where} {lasting : Bool} (dest to pc : ℕ) (slots last : Slots) (env : Env) (s : Still) (next : List ℕ → Rest) → FoundAt k t lasting (to + count_of k t) slots at fd → is_array t ≡ false → Dest (scene k) (count_of k t) dest to → HasRoom k to → HasVars k env slots → Has k pc (read_code (spot k) t at dest) → ((v : List ℕ) (s : Still) (now : Slots) → UnitsOf k t v → Outside dest (count_of k t) now slots → Holds now dest v → Run k (next v env s) (pc + length (read_code (spot k) t at dest)) now last s) → Run k (read k.ways t fd env s next) pc slots last s
  read_does t {fd = Address a} {at} {lasting} dest to pc slots last env s next (stored slot offset word e there is leads) na d room vars has go =
      comes_out (site k) (ap (λ a. load_units k.ways a (units_in k.ways.program t) [] env s next) is)
      (load_by_does k t s next env word dest slot offset pc slots last there na (lead_apart k slot dest (count_of k t) to leads d room) (subst (λ q. Has k pc (read_code (spot k) t q dest)) e has) (λ v s now fits o holds.
      moved (site k) (ap (λ q. pc + length (read_code (spot k) t q dest)) (sym e)) (go v s now fits o holds)))
  read_does t {fd = Local n} {at} {lasting} dest to pc slots last env s next (slotted l x ty e) na d room vars has go =
      let held = vars.locals n l x in
      let fits : UnitsOf k t held.value = subst (λ t. UnitsOf k t held.value) ty held.fits in
      let count : count_of k t ≡ length held.value = words_are k.ways.program t na ∙ sym (length_of _ _ fits) in
      let units : length (units_in k.ways.program l.ty) ≡ count_of k t = sym (length_of _ _ held.fits) ∙ sym count in
      comes_out (site k) (ap (λ o. next (unwrap_or o []) env s) held.is)
      (moves_do (site k) held.value (count_of k t) k.ways.line dest (home (scene k) n) pc slots last s _ count (subst (λ q. Has k pc (read_code (spot k) t q dest)) e has) held.holds (subst (CanCopy (home (scene k) n) dest) count (home_copies k n l dest (count_of k t) to x units d room)) (λ now o holds.
      moved (site k) (ap (λ q. pc + length (read_code (spot k) t q dest)) (sym e)) (go held.value s now fits (subst (λ n. Outside dest n now slots) (sym count) o) holds)))
  read_does t {fd = Private n} {at} {lasting} dest to pc slots last env s next (kept g row private ty e) na d room vars has go =
      let place = private_place k.ways.program n in
      let w = take (count_of k t) (drop place s.privates) in
      knowing (private_step k.ir) (control_weight k.ir) resume (lighter k.ir) (site k).rules (λ known.
      let fits0 = global_fits k.ways.program k.ways.program.globals n g s.privates row private plain known in
      let fits : UnitsOf k t w = subst (λ t. AreOf (units_in k.ways.program t) (take (words_in k.ways.program t) (drop place s.privates))) ty fits0 in
      let whole : count_of k t ≤ length (drop place s.privates) = take_whole (count_of k t) (drop place s.privates) (length_of _ _ fits ∙ sym (words_are k.ways.program t na)) in
      gets_do (site k) (count_of k t) (drop place s.privates) k.ways.line dest place pc slots last s _ whole (index_drop s.privates place) (subst (λ q. Has k pc (read_code (spot k) t q dest)) e has) (λ now o holds.
      moved (site k) (ap (λ q. pc + length (read_code (spot k) t q dest)) (sym e)) (go w s now fits o holds)))
  read_does t {fd = Words _} dest to pc slots last env s next x na d room vars has go = elim x [ ]
  read_does t {fd = Nowhere} dest to pc slots last env s next x na d room vars has go = elim x [ ]
