-- What a function of an adt is given of its object.
use Rattle.std.proofs.Common.{◌≡◌, ℕ, ◌+◌, ◌^◌, ◌<◌, List, [], ◌∷◌, ◌++◌, length, Some, refl, sym, ap, ◌∙◌, subst, arith, length-append, append-nil}
use Rattle.std.specs.Prelude.{Bool, false}
use Rattle.al_typed.specs.declared.ty.Ty.{Ty}
use Rattle.al_typed.specs.declared.expression.Passed.{Passed}
use Rattle.al_typed.specs.declared.expression.Passed.TheVariants as passed
use Rattle.al_typed.specs.Types.{is_array}
use Rattle.al_meaning.specs.Words.{sum}
use Rattle.al_meaning.specs.Here.{units_in}
use Rattle.al_meaning.specs.Items.{Found, Words, Address, Local, Private, Nowhere}
use Rattle.al_meaning.specs.Calls.{joined}
use Rattle.al_meaning.specs.Tasks.{Still, Outcome, Env, Rest, Task}
use Rattle.al_meaning.specs.Told.{read, at_address, passed_at}
use Rattle.al_ir.specs.Control.{Slots, put}
use Rattle.al_lower_words.specs.Units.{AreOf}
use Rattle.al_lower_words.proofs.Integers.{one_fits}
use Rattle.al_lower_code.specs.Moving.{Where, address_code, read_code}
use Rattle.al_lower_code.specs.Coded.{Placed}
use Rattle.al_lower_code.specs.Actions.{object_at}
use Rattle.al_lower_steps.specs.Slots.{Holds, Below}
use Rattle.al_lower_steps.proofs.Slots.{put_same, put_below, below_refl, below_outside}
use Rattle.al_lower_steps.proofs.Steps.{moved, has_front, has_back}
use Rattle.al_lower_steps.proofs.Plain.{offset_does}
use Rattle.al_lower_claims.proofs.Privates.{NoArrayGlobals}
use Rattle.al_lower_claims.proofs.Variables.{stays_both, stays_below, vars_kept, more_room, free}
use Rattle.al_lower_claims.proofs.Claims.{Setting, scene, site, spot, Run, Has, UnitsOf, count_of, IsWord, FoundAt, stored, PlacedDoes}
use Rattle.al_lower_claims.proofs.Places.{read_does}
use Rattle.al_lower_values.proofs.Loads.{HasAddresses}
use Rattle.al_lower_values.proofs.Rows.{UnitsOfAll, RowDoes}

-- one value
one_value : (k : Setting) (t : Ty) (v : List ℕ) → UnitsOf k t v → UnitsOfAll k (t ∷ []) (joined (v ∷ []))
one_value k t v fits = subst (λ us. AreOf us (v ++ [])) (sym (units_nil (units_in k.ways.program t))) (subst (UnitsOf k t) (sym (append-nil v)) fits)
  where
    units_nil : {A : Type 0} (us : List A) → us ++ [] ≡ us
    units_nil us = append-nil us

small_sum : (a b : ℕ) → sum a b < 2 ^ 32
small_sum a b = omega arith

no_address : (n : ℕ) → (a : ℕ) × (Local n ≡ Address a) → ⊥
no_address n x = let q = x.1 in cc

no_private : (n : ℕ) → (a : ℕ) × (Private n ≡ Address a) → ⊥
no_private n x = let q = x.1 in cc

module _ (k : Setting) where
  abbrev pub object_means : Task Found → Passed → Ty → Task (List (List ℕ))
  object_means m how t env s next = m env s (λ fd env s. at_address fd env s (λ a env s. passed_at k.ways how t a env s next))

  module _ {m : Task Found} {u : Ty} (pl : Placed) (has_address : HasAddresses k u) (h : PlacedDoes k m u pl) where
    -- an address that was found, in an operation's terms
    taken : (lasting : Bool) (to end : ℕ) (now last : Slots) (fd : Found) (at : Where) (env : Env) (s : Still) (task : ℕ → Rest) → FoundAt k u lasting to now at fd → ((a : ℕ) → FoundAt k u lasting to now at (Address a) → fd ≡ Address a → Run k (task a env s) end now last s) → Run k (at_address fd env s (λ a env s. task a env s)) end now last s
    taken lasting to end now last (Address a) at env s task found go = go a found refl
    taken lasting to end now last (Local i) at env s task x go = absurd (no_address i (has_address lasting to now at (Local i) x))
    taken lasting to end now last (Private i) at env s task x go = absurd (no_private i (has_address lasting to now at (Private i) x))
    taken lasting to end now last (Words _) at env s task x go = elim x [ ]
    taken lasting to end now last Nowhere at env s task x go = elim x [ ]

    -- nothing of it
    pub nothing_passed : (t : Ty) → RowDoes k (object_means m passed.Nothing t) [] pl.keeps (object_at (spot k) passed.Nothing t pl).code
    nothing_passed t = record {
      by = λ to pc slots last env s next room vars has go.
          h.by false to pc slots last env s (λ fd env s. at_address fd env s (λ a env s. passed_at k.ways passed.Nothing t a env s next)) room vars has (λ fd env2 s now last2 found vars2 st2 same.
          taken false to (pc + length (pl.code false to)) now last2 fd (pl.at false to) env2 s (λ a env s. next [] env s) found (λ a f e. go [] env2 s now last2 refl vars2 st2 tt same));
    }

    -- its address
    pub address_passed : (t p : Ty) → IsWord k p → RowDoes k (object_means m passed.Address t) (p ∷ []) pl.keeps (object_at (spot k) passed.Address t pl).code
    address_passed t p word = record {
      by = λ to pc slots last env s next room vars has go.
          let ca = pl.code false to in
          let cb = address_code (spot k) (pl.at false to) to in
          let end : pc + length ca + length cb ≡ pc + length (ca ++ cb) = omega (arith, length-append ca cb) in
          h.by false to pc slots last env s (λ fd env s. at_address fd env s (λ a env s. passed_at k.ways passed.Address t a env s next)) room vars (has_front (site k) pc ca cb has) (λ fd env2 s now last2 found vars2 st2 same.
          taken false to (pc + length ca) now last2 fd (pl.at false to) env2 s (λ a env s. next ((a ∷ []) ∷ []) env s) found (λ a f e.
          put_address to (pc + length ca) a now last2 (pl.at false to) env2 s (next ((a ∷ []) ∷ []) env2 s) f (has_back (site k) pc ca cb has) (λ now3 small below3 there3.
          moved (site k) end (go ((a ∷ []) ∷ []) env2 s now3 last2 (one_value k p (a ∷ []) (subst (λ us. AreOf us (a ∷ [])) (sym word.units) (one_fits 0 a small))) (vars_kept (scene k) env2 to now3 now room below3 vars2) (stays_both (scene k) to to now3 now slots (omega arith) (stays_below (scene k) to now3 now below3) st2) (there3, tt) same))));
    }
      where
        put_address : (to pc a : ℕ) (now last : Slots) (at : Where) (env : Env) (s : Still) (out : Outcome) → FoundAt k u false to now at (Address a) → Has k pc (address_code (spot k) at to) → ((now3 : Slots) → a < 2 ^ 32 → Below to now3 now → now3 to ≡ Some a → Run k out (pc + length (address_code (spot k) at to)) now3 last s) → Run k out pc now last s
        put_address to pc a now last at env s out (stored slot offset w e there is leads) has go =
            let code = subst (λ q. Has k pc (address_code (spot k) q to)) e has in
            offset_does (site k) code.0 there (moved (site k) (ap (λ q. pc + length (address_code (spot k) q to)) (sym e)) (go (put to (sum w offset) now) (subst (λ n. n < 2 ^ 32) (sym is) (small_sum w offset)) (put_below now now to (sum w offset) to (omega arith) (below_refl to now)) (put_same now to (sum w offset) ∙ ap Some (sym is))))

    -- its value
    pub value_passed : (t : Ty) → NoArrayGlobals k.ways.program k.ways.program.globals → is_array t ≡ false → RowDoes k (object_means m passed.Value t) (t ∷ []) pl.keeps (object_at (spot k) passed.Value t pl).code
    value_passed t plain na = record {
      by = λ to pc slots last env s next room vars has go.
          let n = count_of k t in
          let ca = pl.code false (to + n) in
          let cb = read_code (spot k) t (pl.at false (to + n)) to in
          let end : pc + length ca + length cb ≡ pc + length (ca ++ cb) = omega (arith, length-append ca cb) in
          h.by false (to + n) pc slots last env s (λ fd env s. at_address fd env s (λ a env s. passed_at k.ways passed.Value t a env s next)) (more_room (scene k) to n room) vars (has_front (site k) pc ca cb has) (λ fd env2 s now last2 found vars2 st2 same.
          taken false (to + n) (pc + length ca) now last2 fd (pl.at false (to + n)) env2 s (λ a env s. read k.ways t (Address a) env s (λ v env s. next (v ∷ []) env s)) found (λ a f e.
          read_does k plain t to to (pc + length ca) now last2 env2 s (λ v env s. next (v ∷ []) env s) (as_type t f) na (free refl) room vars2 (has_back (site k) pc ca cb has) (λ v s now3 fits out holds.
          let below3 = below_outside to n now3 now out in
          moved (site k) end (go (v ∷ []) env2 s now3 last2 (one_value k t v fits) (vars_kept (scene k) env2 to now3 now room below3 vars2) (λ i g lt. below3 i lt ∙ st2 i g (omega (arith, lt))) (subst (Holds now3 to) (sym (append-nil v)) holds) same))));
    }
      where
        as_type : (t : Ty) {lasting : Bool} {to a : ℕ} {now : Slots} {at : Where} → FoundAt k u lasting to now at (Address a) → FoundAt k t lasting to now at (Address a)
        as_type t (stored slot offset w e there is leads) = stored slot offset w e there is leads
