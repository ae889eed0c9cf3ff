-- Values and addresses of places, and turns of iterators.
use Rattle.std.proofs.Common.{◌≡◌, ℕ, ◌+◌, ◌^◌, ◌<◌, List, [], ◌∷◌, ◌++◌, length, Option, Some, None, refl, sym, ap, ◌∙◌, subst, inl, inr, arith, length-append}
use Rattle.std.specs.Prelude.{Bool, true, false, slice_get, slice_index, unwrap_or}
use Rattle.al_typed.specs.declared.ty.Ty.{Ty}
use Rattle.al_typed.specs.Types.{is_void, is_array}
use Rattle.al_meaning.specs.Words.{sum}
use Rattle.al_meaning.specs.Here.{units_in}
use Rattle.al_meaning.specs.Items.{Found, Words, Address, Local, Private, Nowhere}
use Rattle.al_meaning.specs.Tasks.{Still, Env, Rest, Task}
use Rattle.al_meaning.specs.Told.{value, needed, read, at_address, iterator_here}
use Rattle.al_ir.specs.declared.op.Op.TheVariants.{Copy}
use Rattle.al_ir.specs.Control.{Slots, put}
use Rattle.al_lower_words.specs.Units.{AreOf}
use Rattle.al_lower_words.proofs.Integers.{one_fits}
use Rattle.al_lower_code.specs.Homes.{here}
use Rattle.al_lower_code.specs.Moving.{Where, Slotted, home_of, read_code, address_code}
use Rattle.al_lower_code.specs.Coded.{Placed, plain}
use Rattle.al_lower_code.specs.Values.{load_coded, address_coded, iterator_coded}
use Rattle.al_lower_steps.specs.Slots.{Holds, Outside}
use Rattle.al_lower_steps.proofs.Slots.{put_same, put_outside}
use Rattle.al_lower_steps.proofs.Steps.{moved, has_front, has_back}
use Rattle.al_lower_steps.proofs.Plain.{copy_does, offset_does}
use Rattle.al_lower_claims.proofs.Storing.{sum_sum}
use Rattle.al_lower_claims.proofs.Privates.{NoArrayGlobals}
use Rattle.al_lower_claims.proofs.Variables.{Stays, stays_refl, more_room, put_outside_is}
use Rattle.al_lower_claims.proofs.Claims.{Setting, scene, site, spot, Run, Has, HasVars, HasRoom, UnitsOf, count_of, IsWord, ValueDoes, PointsBy, IsStanding, CodedDoes, FoundAt, stored, slotted, PlacedDoes}
use Rattle.al_lower_claims.proofs.Plain.{plain_does, valued_does}
use Rattle.al_lower_claims.proofs.Places.{read_does}

small_sum : (a b : ℕ) → sum a b < 2 ^ 32
small_sum a b = omega arith

module _ (k : Setting) where
  stays_less : (to n : ℕ) (now slots : Slots) → Stays (scene k) (to + n) now slots → Stays (scene k) to now slots
  stays_less to n now slots st i f lt = st i f (omega (arith, lt))

  -- ---- loads

  abbrev pub load_means : Task Found → Ty → Task (Option (List ℕ))
  load_means m t env s next = m env s (λ fd env s. read k.ways t fd env s (λ v env s. next (Some v) env s))

  pub load_does : {m : Task Found} (t : Ty) (pl : Placed) → NoArrayGlobals k.ways.program k.ways.program.globals → is_void t ≡ false → is_array t ≡ false → PlacedDoes k m t pl → CodedDoes k (load_means m t) t (load_coded (spot k) t pl)
  load_does {m} t pl plain nv na h = plain_does k (home_of (pl.at false 0)) pl.keeps false (λ dest to. pl.code false (to + count_of k t) ++ read_code (spot k) t (pl.at false (to + count_of k t)) dest) loads stands
    where
      loads : ValueDoes k (load_means m t) t pl.keeps false (λ dest to. pl.code false (to + count_of k t) ++ read_code (spot k) t (pl.at false (to + count_of k t)) dest)
      loads = record {
        by = λ dest to pc slots last env s next d room vars has go.
            let n = count_of k t in
            let ca = pl.code false (to + n) in
            let cb = read_code (spot k) t (pl.at false (to + n)) dest in
            h.by false (to + n) pc slots last env s (λ fd env s. read k.ways t fd env s (λ v env s. next (Some v) env s)) (more_room (scene k) to n room) vars (has_front (site k) pc ca cb has) (λ fd env2 s now last2 found vars2 st2 same.
            read_does k plain t dest to (pc + length ca) now last2 env2 s (λ v env s. next (Some v) env s) found na d room vars2 (has_back (site k) pc ca cb has) (λ v s now3 fits out holds.
            let len : pc + length ca + length cb ≡ pc + length (ca ++ cb) = omega (arith, length-append ca cb) in
            moved (site k) len (go (Some v) env2 s now now3 last2 (nv, fits) vars2 (stays_less to n now slots st2) (put_outside_is n dest to now3 now out) holds same (λ e. absurd (cc)))));
      }

      stands : (slot : ℕ) → home_of (pl.at false 0) ≡ Some slot → IsStanding k (load_means m t) t slot
      stands slot e =
          let lp = h.local false 0 slot e in record {
            is = λ env. unwrap_or (slice_get env.locals lp.number) [];
            means = λ env s next. lp.means env s (λ fd env s. read k.ways t fd env s (λ v env s. next (Some v) env s));
            not_void = nv;
            fits = λ env slots vars.
                let held = vars.locals lp.number lp.row lp.local in
                let is : unwrap_or (slice_get env.locals lp.number) [] ≡ held.value = ap (λ o. unwrap_or o []) held.is in
                subst (UnitsOf k t) (sym is) (subst (λ t. UnitsOf k t held.value) lp.type held.fits);
            holds = λ env slots vars.
                let held = vars.locals lp.number lp.row lp.local in
                let is : unwrap_or (slice_get env.locals lp.number) [] ≡ held.value = ap (λ o. unwrap_or o []) held.is in
                subst (Holds slots slot) (sym is) (subst (λ n. Holds slots n held.value) (sym lp.is) held.holds);
            where_is = inl (lp.number, (lp.row, (lp.local, (lp.is, ap (λ t. length (units_in k.ways.program t)) lp.type))));
          }

  -- ---- addresses

  abbrev pub address_means : Task Found → Task (Option (List ℕ))
  address_means m env s next = m env s (λ fd env s. at_address fd env s (λ a env s. next (Some (a ∷ [])) env s))

  -- a place of such a type has an address
  abbrev pub HasAddresses : Ty → Type 0
  HasAddresses u = (lasting : Bool) (to : ℕ) (now : Slots) (at : Where) (fd : Found) → FoundAt k u lasting to now at fd → (a : ℕ) × (fd ≡ Address a)

  pub address_does : {m : Task Found} (t u : Ty) (pl : Placed) → IsWord k t → HasAddresses u → PlacedDoes k m u pl → CodedDoes k (address_means m) t (address_coded (spot k) t pl)
  address_does {m} t u pl word has_address h =
      let p = valued_does k pl.keeps (λ dest to. pl.code false to ++ address_code (spot k) (pl.at false to) dest) values in
      record {
        value = values;
        effect = p.effect;
        unless = p.unless;
        pointer = λ w. record { by = pointers };
        stored = λ w lasting to slot e. let lp = h.local lasting to slot e in no_address lp.number (has_address lasting to (λ i. None) (pl.at lasting to) (Local lp.number) (slotted lp.row lp.local lp.type (lp.at lasting to ∙ ap Slotted lp.is)));
        known = p.known;
        stands = p.stands;
      }
    where
      no_address : (n : ℕ) → (a : ℕ) × (Local n ≡ Address a) → ⊥
      no_address n x = let q = x.1 in cc

      one : (a : ℕ) → a < 2 ^ 32 → UnitsOf k t (a ∷ [])
      one a small = subst (λ us. AreOf us (a ∷ [])) (sym word.units) (one_fits 0 a small)

      taken : (lasting : Bool) (to dest pc : ℕ) (now last : Slots) (fd : Found) (at : Where) (env : Env) (s : Still) (next : Option (List ℕ) → Rest) → FoundAt k u lasting to now at fd → Has k pc (address_code (spot k) at dest) → ((a : ℕ) (now3 : Slots) → a < 2 ^ 32 → Outside dest 1 now3 now → Holds now3 dest (a ∷ []) → Run k (next (Some (a ∷ [])) env s) (pc + length (address_code (spot k) at dest)) now3 last s) → Run k (at_address fd env s (λ a env s. next (Some (a ∷ [])) env s)) pc now last s
      taken lasting to dest pc now last (Address a) at env s next (stored slot offset w e there is leads) has go =
          let code = subst (λ q. Has k pc (address_code (spot k) q dest)) e has in
          let small : a < 2 ^ 32 = subst (λ n. n < 2 ^ 32) (sym is) (small_sum w offset) in
          offset_does (site k) code.0 there
          (moved (site k) (ap (λ q. pc + length (address_code (spot k) q dest)) (sym e)) (go a (put dest (sum w offset) now) small (put_outside dest (sum w offset) now) (put_same now dest (sum w offset) ∙ ap Some (sym is), tt)))
      taken lasting to dest pc now last (Local n) at env s next x has go = let q = (has_address lasting to now at (Local n) x).1 in absurd (cc)
      taken lasting to dest pc now last (Private n) at env s next x has go = let q = (has_address lasting to now at (Private n) x).1 in absurd (cc)
      taken lasting to dest pc now last (Words _) at env s next x has go = elim x [ ]
      taken lasting to dest pc now last Nowhere at env s next x has go = elim x [ ]

      values : ValueDoes k (address_means m) t pl.keeps false (λ dest to. pl.code false to ++ address_code (spot k) (pl.at false to) dest)
      values = record {
        by = λ dest to pc slots last env s next d room vars has go.
            let ca = pl.code false to in
            let cb = address_code (spot k) (pl.at false to) dest in
            h.by false to pc slots last env s (λ fd env s. at_address fd env s (λ a env s. next (Some (a ∷ [])) env s)) room vars (has_front (site k) pc ca cb has) (λ fd env2 s now last2 found vars2 st2 same.
            taken false to dest (pc + length ca) now last2 fd (pl.at false to) env2 s next found (has_back (site k) pc ca cb has) (λ a now3 small out holds.
            let len : pc + length ca + length cb ≡ pc + length (ca ++ cb) = omega (arith, length-append ca cb) in
            moved (site k) len (go (Some (a ∷ [])) env2 s now now3 last2 (word.not_void, one a small) vars2 st2 (put_outside_is (count_of k t) dest to now3 now (subst (λ n. Outside dest n now3 now) (sym word.counts) out)) holds same (λ e. absurd (cc)))));
      }

      led : (lasting : Bool) (to end : ℕ) (now last : Slots) (fd : Found) (at : Where) (env : Env) (s : Still) (next : List ℕ → Rest) → FoundAt k u lasting to now at fd → ((a : ℕ) → a < 2 ^ 32 → PointsBy k lasting to now at a → Run k (next (a ∷ []) env s) end now last s) → Run k (at_address fd env s (λ a env s. needed (Some (a ∷ [])) env s next)) end now last s
      led lasting to end now last (Address a) at env s next (stored slot offset w e there is leads) go =
          go a (subst (λ n. n < 2 ^ 32) (sym is) (small_sum w offset)) (record { slot = slot; offset = offset; is = e; word = w; there = there; same = λ x. ap (λ n. sum n x) is ∙ sum_sum w offset x; leads = leads })
      led lasting to end now last (Local n) at env s next x go = let q = (has_address lasting to now at (Local n) x).1 in absurd (cc)
      led lasting to end now last (Private n) at env s next x go = let q = (has_address lasting to now at (Private n) x).1 in absurd (cc)
      led lasting to end now last (Words _) at env s next x go = elim x [ ]
      led lasting to end now last Nowhere at env s next x go = elim x [ ]

      pointers : (lasting : Bool) (to pc : ℕ) (slots last : Slots) (env : Env) (s : Still) (next : List ℕ → Rest) → HasRoom k to → HasVars k env slots → Has k pc (pl.code lasting to) → ((a : ℕ) (env2 : Env) (s : Still) (now last : Slots) → a < 2 ^ 32 → UnitsOf k t (a ∷ []) → PointsBy k lasting to now (pl.at lasting to) a → HasVars k env2 now → Stays (scene k) to now slots → (pl.keeps ≡ true → env2 ≡ env) → Run k (next (a ∷ []) env2 s) (pc + length (pl.code lasting to)) now last s) → Run k (value (address_means m) env s next) pc slots last s
      pointers lasting to pc slots last env s next room vars has go =
          h.by lasting to pc slots last env s (λ fd env s. at_address fd env s (λ a env s. needed (Some (a ∷ [])) env s next)) room vars has (λ fd env2 s now last2 found vars2 st2 same.
          led lasting to (pc + length (pl.code lasting to)) now last2 fd (pl.at lasting to) env2 s next found (λ a small p. go a env2 s now last2 small (one a small) p vars2 st2 same))

  -- ---- turns of iterators

  pub iterator_does : (t : Ty) (number : ℕ) → IsWord k t → number < k.iterators → CodedDoes k (iterator_here number) t (iterator_coded (spot k) t number)
  iterator_does t number word lt = plain_does k (Some (k.turns + number)) true false (λ dest to. here (spot k) (Copy dest (k.turns + number))) copies stands
    where
      one : (env : Env) (slots : Slots) → HasVars k env slots → UnitsOf k t (slice_index env.turns number ∷ [])
      one env slots vars = subst (λ us. AreOf us (slice_index env.turns number ∷ [])) (sym word.units) (one_fits 0 (slice_index env.turns number) (vars.rounds_fit number lt))

      copies : ValueDoes k (iterator_here number) t true false (λ dest to. here (spot k) (Copy dest (k.turns + number)))
      copies = record {
        by = λ dest to pc slots last env s next d room vars has go.
            let w = slice_index env.turns number in
            copy_does (site k) has.0 (vars.rounds number lt) (go (Some (w ∷ [])) env s slots (put dest w slots) last (word.not_void, one env slots vars) vars (stays_refl (scene k) to slots) (put_outside_is (count_of k t) dest to (put dest w slots) slots (subst (λ n. Outside dest n (put dest w slots) slots) (sym word.counts) (put_outside dest w slots))) (put_same slots dest w, tt) (λ e. refl) (λ e. absurd (cc)));
      }

      stands : (slot : ℕ) → Some (k.turns + number) ≡ Some slot → IsStanding k (iterator_here number) t slot
      stands slot e =
          let same : k.turns + number ≡ slot = cc in record {
            is = λ env. slice_index env.turns number ∷ [];
            means = λ env s next. refl;
            not_void = word.not_void;
            fits = one;
            holds = λ env slots vars. (subst (λ n. slots n ≡ Some (slice_index env.turns number)) same (vars.rounds number lt), tt);
            where_is = inr (number, (lt, (sym same, ap length word.units)));
          }
