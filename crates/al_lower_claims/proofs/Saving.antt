-- Values are saved to places.
use Rattle.std.proofs.Common.{◌≡◌, ℕ, zero, suc, ◌+◌, ◌%◌, ◌^◌, List, [], ◌∷◌, ◌++◌, length, take, drop, Some, None, refl, sym, ap, ◌∙◌, subst, inl, inr, ⊎_elim, arith, append-nil}
use Rattle.std.specs.Prelude.{Bool, true, false, if◌then◌else◌, sum_by, slice_get, slice_set}
use Rattle.std.specs.List.{flat_map}
use Rattle.std.proofs.lemmas.List.Sums.{sum_by-cons}
use Rattle.std.proofs.lemmas.Option.{same_Some, slice_get_within}
use Rattle.al_typed.specs.declared.layout.Unit.{Unit as StorageUnit}
use Rattle.al_typed.specs.declared.ty.Ty.{Ty}
use Rattle.al_typed.specs.declared.program.Global.{Global as GlobalRow}
use Rattle.al_typed.specs.declared.program.Local.{Local as LocalRow}
use Rattle.al_typed.specs.declared.program.Program.{Program}
use Rattle.al_typed.specs.Types.{is_array}
use Rattle.al_meaning.specs.Places.{private_place, private_words_of}
use Rattle.al_meaning.specs.Evaluate.{put_at}
use Rattle.al_meaning.specs.Here.{units_in}
use Rattle.al_meaning.specs.Items.{Found, Words, Address, Local, Private, Nowhere}
use Rattle.al_meaning.specs.Tasks.{Still, Outcome, Env, Rest}
use Rattle.al_meaning.specs.Told.{save, store_units}
use Rattle.al_ir.specs.Control.{Slots}
use Rattle.al_ir.specs.Step.{private_step}
use Rattle.al_ir.specs.Meaning.{control_weight, resume}
use Rattle.al_ir.proofs.Lighter.{lighter}
use Rattle.al_lowered.specs.Rules.{private_units}
use Rattle.al_lowered.proofs.Does.{knowing}
use Rattle.al_lower_words.specs.Units.{AreOf}
use Rattle.al_lower_words.proofs.Integers.{length_of, words_are}
use Rattle.al_lower_code.specs.Moving.{Where, Slotted, home_of, save_code, puts}
use Rattle.al_lower_steps.specs.Slots.{Holds}
use Rattle.al_lower_steps.specs.Site.{Site, HasAt}
use Rattle.al_lower_steps.proofs.Steps.{Runs, moved, comes_out}
use Rattle.al_lower_steps.proofs.Plain.{put_private_does}
use Rattle.al_lower_claims.proofs.Moving.{CanCopy, moves_do}
use Rattle.al_lower_claims.proofs.Privates.{NoArrayGlobals, words_counted, set_all, set_all_is, set_fits}
use Rattle.al_lower_claims.proofs.Variables.{IsLocal, home, IsFree, vars_set, with_local}
use Rattle.al_lower_claims.proofs.Claims.{Setting, scene, site, spot, Run, Has, HasVars, UnitsOf, count_of, FoundAt, stored, slotted, kept}
use Rattle.al_lower_claims.proofs.Reading.{store_by_does}

first_is : (a b : ℕ) (xs ys : List ℕ) → a ∷ xs ≡ b ∷ ys → a ≡ b
first_is a b xs ys e = cc

rest_is : (a b : ℕ) (xs ys : List ℕ) → a ∷ xs ≡ b ∷ ys → xs ≡ ys
rest_is a b xs ys e = cc

-- ---- where the units of a private global stand

-- these units stand in others from a place on
abbrev pub Located : List StorageUnit → ℕ → List StorageUnit → Type 0
Located all place us = (i : ℕ) (u : StorageUnit) → slice_get us i ≡ Some u → slice_get all (place + i) ≡ Some u

front_located : (us vs : List StorageUnit) → Located (us ++ vs) 0 us
front_located us vs i u e = let z : 0 + i ≡ i = omega arith in subst (λ n. slice_get (us ++ vs) n ≡ Some u) (sym z) (on us i e)
  where
    on : (us : List StorageUnit) (i : ℕ) → slice_get us i ≡ Some u → slice_get (us ++ vs) i ≡ Some u
    on [] i e = absurd (cc)
    on (a ∷ us) zero e = e
    on (a ∷ us) (suc i) e = on us i e

behind_located : (ws vs us : List StorageUnit) (place : ℕ) → Located vs place us → Located (ws ++ vs) (length ws + place) us
behind_located ws vs us place h i u e = let z : length ws + place + i ≡ length ws + (place + i) = omega arith in subst (λ n. slice_get (ws ++ vs) n ≡ Some u) (sym z) (on ws (place + i) (h i u e))
  where
    on : (ws : List StorageUnit) (n : ℕ) → slice_get vs n ≡ Some u → slice_get (ws ++ vs) (length ws + n) ≡ Some u
    on [] n e = let z : 0 + n ≡ n = omega arith in subst (λ m. slice_get vs m ≡ Some u) (sym z) e
    on (a ∷ ws) n e = let z : length (a ∷ ws) + n ≡ suc (length ws + n) = omega arith in subst (λ m. slice_get ((a ∷ ws) ++ vs) m ≡ Some u) (sym z) (on ws n e)

pub global_located : (p : Program) (gs : List GlobalRow) (n : ℕ) (g : GlobalRow) → slice_get gs n ≡ Some g → g.is_private ≡ true → NoArrayGlobals p gs → Located (flat_map (private_units p) gs) (sum_by (private_words_of p) (take n gs)) (units_in p g.ty)
global_located p [] n g get private plain = absurd (cc)
global_located p (h ∷ gs) zero g get private plain =
    let same : h ≡ g = same_Some h g get in
    let us : private_units p h ≡ units_in p g.ty = ap (λ b. if b then units_in p h.ty else []) (ap (λ (r : GlobalRow). r.is_private) same ∙ private) ∙ ap (λ (r : GlobalRow). units_in p r.ty) same in
    subst (λ us. Located (private_units p h ++ flat_map (private_units p) gs) 0 us) us (front_located (private_units p h) (flat_map (private_units p) gs))
global_located p (h ∷ gs) (suc n) g get private plain =
    let count : length (private_units p h) ≡ private_words_of p h = sym (words_counted p h (plain zero h refl)) in
    let total : length (private_units p h) + sum_by (private_words_of p) (take n gs) ≡ sum_by (private_words_of p) (take (suc n) (h ∷ gs)) = ap (λ m. m + sum_by (private_words_of p) (take n gs)) count ∙ sym (sum_by-cons (private_words_of p) h (take n gs)) in
    subst (λ place. Located (flat_map (private_units p) (h ∷ gs)) place (units_in p g.ty)) total (behind_located (private_units p h) (flat_map (private_units p) gs) (units_in p g.ty) (sum_by (private_words_of p) (take n gs)) (global_located p gs n g get private (λ i k. plain (suc i) k)))

-- words that are set there are put there
set_is_put : (us all : List StorageUnit) (ws u : List ℕ) (place : ℕ) → AreOf us ws → Located all place us → length u ≡ length all → set_all place ws u ≡ put_at place ws u
set_is_put us all [] u place fits at len = let z : place ≡ place + 0 = omega arith in whole u place ∙ (ap (λ n. take place u ++ drop n u) z ∙ ap (λ a. a ++ drop (place + 0) u) (sym (append-nil (take place u))))
  where
    whole : (u : List ℕ) (n : ℕ) → u ≡ take n u ++ drop n u
    whole u zero = refl
    whole [] (suc n) = refl
    whole (a ∷ u) (suc n) = ap (λ v. a ∷ v) (whole u n)
set_is_put us all (w ∷ ws) u place fits at len =
    let n = length_of us (w ∷ ws) fits in
    let last = last_of us (length ws) (omega (arith, n)) in
    let within = slice_get_within all (place + length ws) last.0 (at (length ws) last.0 last.1) in
    set_all_is (w ∷ ws) place u (omega (arith, within, len))
  where
    last_of : (us : List StorageUnit) (m : ℕ) → length us ≡ suc m → (v : StorageUnit) × (slice_get us m ≡ Some v)
    last_of [] m e = absurd (omega (arith, e))
    last_of (a ∷ us) zero e = (a, refl)
    last_of (a ∷ us) (suc m) e = last_of us m (omega (arith, e))

no_home : (n : ℕ) → home_of (Slotted n) ≡ None → ⊥
no_home n e = cc

module _ (x : Site) where
  pub puts_do : (all us : List StorageUnit) (ws : List ℕ) (line place from pc : ℕ) (slots last : Slots) (s : Still) (o : Outcome) → ((u : List ℕ) (i w : ℕ) (unit : StorageUnit) → slice_get all i ≡ Some unit → w % 256 ^ unit.size ≡ w → x.rules.Private u → x.rules.Private (slice_set u i w)) → AreOf us ws → Located all place us → HasAt x pc (puts line place from (length ws)) → Holds slots from ws → Runs x o (pc + length (puts line place from (length ws))) slots last (record s { privates = set_all place ws s.privates }) → Runs x o pc slots last s
  puts_do all us [] line place from pc slots last s o keeps fits at has holds go = let z : pc ≡ pc + 0 = omega arith in moved x z go
  puts_do all [] (w ∷ ws) line place from pc slots last s o keeps fits at has holds go = absurd (cc)
  puts_do all (u ∷ us) (w ∷ ws) line place from pc slots last s o keeps fits at has holds go =
      let here_is : slice_get all place ≡ Some u = let z : place + 0 ≡ place = omega arith in subst (λ n. slice_get all n ≡ Some u) z (at 0 u refl) in
      let len : pc + 1 + length (puts line (place + 1) (from + 1) (length ws)) ≡ pc + length (puts line place from (length (w ∷ ws))) = omega arith in
      put_private_does x has.0 holds.0 (keeps s.privates place w u here_is (first_is _ _ _ _ fits))
      (puts_do all us ws line (place + 1) (from + 1) (pc + 1) slots last (record s { privates = slice_set s.privates place w }) o keeps (rest_is _ _ _ _ fits) (λ i v e. let z : place + suc i ≡ place + 1 + i = omega arith in subst (λ n. slice_get all n ≡ Some v) z (at (suc i) v e)) has.1 holds.1 (moved x len go))

module _ (k : Setting) (plain : NoArrayGlobals k.ways.program k.ways.program.globals) where
  -- The value stands from `from` on, from where it can be copied to the place if that is a local.
  pub save_does : (t : Ty) {fd : Found} {at : Where} {lasting : Bool} (v : List ℕ) (from to pc : ℕ) (slots last : Slots) (env : Env) (s : Still) (next : Unit {0} → Rest) → FoundAt k t lasting to slots at fd → is_array t ≡ false → UnitsOf k t v → Holds slots from v → ((n : ℕ) (l : LocalRow) → IsLocal (scene k) n l → l.ty ≡ t → CanCopy from (home (scene k) n) (length v)) → HasVars k env slots → Has k pc (save_code (spot k) t at from) → ((env2 : Env) (s : Still) (now : Slots) → HasVars k env2 now → ((i : ℕ) → IsFree (scene k) i → now i ≡ slots i) → (home_of at ≡ None → now ≡ slots) → Run k (next tt env2 s) (pc + length (save_code (spot k) t at from)) now last s) → Run k (save k.ways t v fd env s next) pc slots last s
  save_does t {fd = Address a} {at} v from to pc slots last env s next (stored slot offset word e there is leads) na fits holds can vars has go =
      comes_out (site k) (ap (λ a. store_units k.ways a (units_in k.ways.program t) v env s next) is)
      (store_by_does k t v s next env word slot offset from pc slots last there fits holds (subst (λ q. Has k pc (save_code (spot k) t q from)) e has) (λ s.
      moved (site k) (ap (λ q. pc + length (save_code (spot k) t q from)) (sym e)) (go env s slots vars (λ i f. refl) (λ e. refl))))
  save_does t {fd = Local n} {at} v from to pc slots last env s next (slotted l x ty e) na fits holds can vars has go =
      let count : count_of k t ≡ length v = words_are k.ways.program t na ∙ sym (length_of _ _ fits) in
      let fits2 : UnitsOf k l.ty v = subst (λ q. UnitsOf k q v) (sym ty) fits in
      let len = length_of _ _ fits2 in
      moves_do (site k) v (count_of k t) k.ways.line (home (scene k) n) from pc slots last s _ count (subst (λ q. Has k pc (save_code (spot k) t q from)) e has) holds (can n l x ty) (λ now out held.
      moved (site k) (ap (λ q. pc + length (save_code (spot k) t q from)) (sym e)) (go (with_local n v env) s now (vars_set (scene k) n l env v now slots x fits2 out held vars) (λ i f. ⊎_elim (λ lt. out i (inl lt)) (λ le. out i (inr (omega (arith, le, len)))) (f n l x)) (λ none. absurd (no_home (home (scene k) n) (sym (ap home_of e) ∙ none)))))
  save_does t {fd = Private n} {at} v from to pc slots last env s next (kept g row private ty e) na fits holds can vars has go =
      let p = k.ways.program in
      let place = private_place p n in
      let all = flat_map (private_units p) p.globals in
      let count : count_of k t ≡ length v = words_are p t na ∙ sym (length_of _ _ fits) in
      let located : Located all place (units_in p t) = subst (λ q. Located all place (units_in p q)) ty (global_located p p.globals n g row private plain) in
      let code = subst (λ m. Has k pc (puts k.ways.line place from m)) count (subst (λ q. Has k pc (save_code (spot k) t q from)) e has) in
      knowing (private_step k.ir) (control_weight k.ir) resume (lighter k.ir) (site k).rules (λ known.
      let is : set_all place v s.privates ≡ put_at place v s.privates = set_is_put (units_in p t) all v s.privates place fits located (length_of _ _ known) in
      puts_do (site k) all (units_in p t) v k.ways.line place from pc slots last s _ (λ u i w unit h small own. set_fits all u i w unit h small own) fits located code holds
      (subst (λ u. Run k (next tt env (record s { privates = put_at place v s.privates })) (pc + length (puts k.ways.line place from (length v))) slots last (record s { privates = u })) (sym is)
      (moved (site k) (ap (λ m. pc + length (puts k.ways.line place from m)) (sym count) ∙ ap (λ q. pc + length (save_code (spot k) t q from)) (sym e)) (go env (record s { privates = put_at place v s.privates }) slots vars (λ i f. refl) (λ e. refl)))))
  save_does t {fd = Words _} v from to pc slots last env s next x na fits holds can vars has go = elim x [ ]
  save_does t {fd = Nowhere} v from to pc slots last env s next x na fits holds can vars has go = elim x [ ]
