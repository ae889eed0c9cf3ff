-- Forms of expressions, places and objects in the premises' terms.
use Rattle.std.proofs.Common.{◌≡◌, ℕ, ◌+◌, ◌^◌, ◌<◌, List, [], ◌∷◌, ◌++◌, length, Option, Some, None, refl, sym, ap, ◌∙◌, subst, ⊎_elim, append-nil}
use Rattle.std.specs.Prelude.{Bool, true, false, if◌then◌else◌, slice_get}
use Rattle.std.specs.List.{flat_map}
use Rattle.al_typed.specs.declared.program.Global.{Global as GlobalRow}
use Rattle.al_typed.specs.declared.program.Local.{Local as LocalRow}
use Rattle.al_typed.specs.declared.ty.Ty.{Ty}
use Rattle.al_typed.specs.declared.ty.Ty.TheVariants as ty
use Rattle.al_typed.specs.declared.expression.Passed.{Passed}
use Rattle.al_typed.specs.declared.expression.Passed.TheVariants as passed
use Rattle.al_typed.specs.Types.{is_void}
use Rattle.al_typed.specs.WellTyped.{is_word, is_stepped, passes}
use Rattle.al_meaning.specs.Here.{units_in}
use Rattle.al_meaning.specs.Items.{Found, Words, Address, Local, Private, Nowhere}
use Rattle.al_meaning.specs.Places.{function_at, locals_of, global_place, private_place}
use Rattle.al_meaning.specs.Evaluate.{is_shared_local, is_private_global, global_found}
use Rattle.al_meaning.specs.Tasks.{Still, Env, Rest, Task, give}
use Rattle.al_meaning.specs.Told.{value, needed, local_here}
use Rattle.al_ir.specs.declared.op.Op.TheVariants.{Constant}
use Rattle.al_ir.specs.Control.{Slots}
use Rattle.al_lower_words.proofs.Integers.{words_are, units_of_pointer}
use Rattle.al_lower_code.specs.Homes.{here, local_home, block_home, offset_in}
use Rattle.al_lower_code.specs.Moving.{Where, Stored, Slotted, Kept}
use Rattle.al_lower_code.specs.Coded.{Coded, Placed, Given, constant_coded}
use Rattle.al_lower_code.specs.Values.{placed_always, local_placed, global_placed}
use Rattle.al_lower_code.specs.Actions.{object_at}
use Rattle.al_lower_claims.proofs.Claims.{Setting, spot, Run, Gave, FoundAt, stored, slotted, kept, PlacedDoes, CodedDoes}
use Rattle.al_lower_values.proofs.Loads.{HasAddresses}
use Rattle.al_lower_values.proofs.Spots.{local_does, global_does}
use Rattle.al_lower_values.proofs.Rows.{RowDoes}
use Rattle.al_lower_actions.proofs.Objects.{object_means, nothing_passed, address_passed, value_passed}
use Rattle.al_lower_integers.proofs.Constants.{word_does}
use Rattle.al_lower_conversions.proofs.Words.{single}
use Rattle.al_lower_changes.proofs.Stepping.{StepDoes, integer_steps, pointer_steps}
use Rattle.al_lower_expressions.proofs.Types.{AreParts, word_of, pointer_word, array_is}
use Rattle.al_lower_expressions.proofs.Rows.{stepped_cases}
use Rattle.al_lower_expressions.proofs.Premises.{Premises, plain_globals, block_there, array_addresses}

-- what an object gives, and in how many words
pub record GivenDoes (k : Setting) (m : Task (List (List ℕ))) (ts : List Ty) (g : Given) : Type 0 where
  pub rows : RowDoes k m ts g.keeps g.code
  pub words : g.words ≡ length (flat_map (units_in k.ways.program) ts)

-- ---- places that have an address

no_local : (n : ℕ) → (a : ℕ) × (Local n ≡ Address a) → ⊥
no_local n x = let q = x.1 in cc

no_private : (n : ℕ) → (a : ℕ) × (Private n ≡ Address a) → ⊥
no_private n x = let q = x.1 in cc

no_words : (v : List ℕ) → (a : ℕ) × (Words v ≡ Address a) → ⊥
no_words v x = let q = x.1 in cc

no_nowhere : (a : ℕ) × (Nowhere ≡ Address a) → ⊥
no_nowhere x = let q = x.1 in cc

module _ (k : Setting) where
  stored_address : (u : Ty) (lasting : Bool) (to slot offset : ℕ) (now : Slots) (fd : Found) → FoundAt k u lasting to now (Stored slot offset) fd → (a : ℕ) × (fd ≡ Address a)
  stored_address u lasting to slot offset now (Address a) x = (a, refl)
  stored_address u lasting to slot offset now (Local n) (slotted l x same e) = absurd (cc)
  stored_address u lasting to slot offset now (Private n) (kept g row private same e) = absurd (cc)
  stored_address u lasting to slot offset now (Words _) x = elim x [ ]
  stored_address u lasting to slot offset now Nowhere x = elim x [ ]

  as_type : (u v : Ty) (lasting : Bool) (to : ℕ) (now : Slots) (at : Where) (fd : Found) → (a : ℕ) × (fd ≡ Address a) → FoundAt k u lasting to now at fd → FoundAt k v lasting to now at fd
  as_type u v lasting to now at (Address a) x (stored slot offset w e there is leads) = stored slot offset w e there is leads
  as_type u v lasting to now at (Local n) x y = absurd (no_local n x)
  as_type u v lasting to now at (Private n) x y = absurd (no_private n x)
  as_type u v lasting to now at (Words w) x y = absurd (no_words w x)
  as_type u v lasting to now at Nowhere x y = absurd (no_nowhere x)

  -- a place that is found at an address may be of any type
  retype : {m : Task Found} (u v : Ty) (pl : Placed) → ((lasting : Bool) (to : ℕ) (now : Slots) (fd : Found) → FoundAt k u lasting to now (pl.at lasting to) fd → (a : ℕ) × (fd ≡ Address a)) → PlacedDoes k m u pl → PlacedDoes k m v pl
  retype {m} u v pl addressed h = record {
    by = λ lasting to pc slots last env s next room vars has go.
        h.by lasting to pc slots last env s next room vars has (λ fd env2 s now last2 found vars2 st2 same.
        go fd env2 s now last2 (as_type u v lasting to now (pl.at lasting to) fd (addressed lasting to now fd found) found) vars2 st2 same);
    local = λ lasting to slot e.
        let lp = h.local lasting to slot e in
        absurd (no_local lp.number (addressed lasting to (λ i. None) (Local lp.number) (slotted lp.row lp.local lp.type (lp.at lasting to ∙ ap Slotted lp.is))));
  }

module _ (k : Setting) (h : Premises k) where
  -- a type that no private variable has
  abbrev pub array : Ty
  array = ty.Array ty.Void 0

  pub has_addresses : HasAddresses k array
  has_addresses = array_addresses k h array (array_is ty.Void 0)

  pub local_place : (t : Ty) (number : ℕ) (l : LocalRow) → slice_get (locals_of (function_at k.ways.program k.ways.function)) number ≡ Some l → l.ty ≡ t → PlacedDoes k (local_here k.ways number) t (local_placed (spot k) number)
  local_place t number l row same = local_does k t number l row same (block_there k h number l row)

  pub shared_place : (v : Ty) (number : ℕ) (l : LocalRow) → slice_get (locals_of (function_at k.ways.program k.ways.function)) number ≡ Some l → l.is_shared ≡ true → PlacedDoes k (local_here k.ways number) v (local_placed (spot k) number)
  shared_place v number l row shared = retype k l.ty v (local_placed (spot k) number) (λ lasting to now fd found. stored_address k l.ty lasting to (block_home k.ways.program k.ways.function) (offset_in k.ways.program k.ways.function number) now fd (subst (λ at. FoundAt k l.ty lasting to now at fd) (at lasting to) found)) (local_place l.ty number l row refl)
    where
      at : (lasting : Bool) (to : ℕ) → (local_placed (spot k) number).at lasting to ≡ Stored (block_home k.ways.program k.ways.function) (offset_in k.ways.program k.ways.function number)
      at lasting to = ap (λ b. (if b then placed_always (Stored (block_home k.ways.program k.ways.function) (offset_in k.ways.program k.ways.function number)) else placed_always (Slotted (local_home k.ways.program k.ways.function number))).at lasting to) (ap is_shared_local row ∙ shared)

  pub global_at : (t : Ty) (number : ℕ) (g : GlobalRow) → slice_get k.ways.program.globals number ≡ Some g → g.ty ≡ t → PlacedDoes k (give (global_found k.ways.program number)) t (global_placed (spot k) number)
  global_at t number g row same = global_does k t number g row same (h.globals number g row)

  pub shared_global : (v : Ty) (number : ℕ) (g : GlobalRow) → slice_get k.ways.program.globals number ≡ Some g → g.is_private ≡ false → PlacedDoes k (give (global_found k.ways.program number)) v (global_placed (spot k) number)
  shared_global v number g row shared = retype k g.ty v (global_placed (spot k) number) (λ lasting to now fd found. stored_address k g.ty lasting to to 0 now fd (subst (λ at. FoundAt k g.ty lasting to now at fd) (at lasting to) found)) (global_at g.ty number g row refl)
    where
      at : (lasting : Bool) (to : ℕ) → (global_placed (spot k) number).at lasting to ≡ Stored to 0
      at lasting to = ap (λ b. (if b then placed_always (Kept (private_place k.ways.program number)) else record { keeps = true; code = λ lasting to. here (spot k) (Constant to (global_place k.ways.program number)); at = λ lasting to. Stored to 0 }).at lasting to) (ap is_private_global row ∙ shared)

  -- ---- words

  pub word_constant : (t : Ty) (n : ℕ) → is_word t ≡ true → n < 2 ^ 32 → CodedDoes k (λ env s next. next (Some (n ∷ [])) env s) t (constant_coded (spot k) t n)
  word_constant t n e small = word_does k t n (word_of k t e) small ((single k.ways.program t e).number n) (λ env s next. refl)

  -- ---- steps

  pub steps_of : (back : Bool) (t : Ty) → is_stepped k.ways.program.aggregates t ≡ true → StepDoes k back t
  steps_of back t e = ⊎_elim (λ i. subst (StepDoes k back) (sym i.1) (integer_steps k back i.0)) (λ q. subst (StepDoes k back) (sym q.is) (pointer_steps k back q.to)) (stepped_cases k.ways.program.aggregates t e)

  -- ---- objects

  pub one_more : (t : Ty) → length (units_in k.ways.program t) ≡ length (flat_map (units_in k.ways.program) (t ∷ []))
  one_more t = ap length (sym (append-nil (units_in k.ways.program t)))

  pub object_place : {m : Task Found} (how : Passed) (t : Ty) (pl : Placed) → PlacedDoes k m array pl → AreParts (passes how t) → GivenDoes k (object_means k m how t) (passes how t) (object_at (spot k) how t pl)
  object_place passed.Address t pl hp parts = record { rows = address_passed k pl has_addresses hp t (ty.Pointer t) (word_of k (ty.Pointer t) (pointer_word t)); words = sym (ap length (units_of_pointer k.ways.program t)) ∙ one_more (ty.Pointer t) }
  object_place passed.Value t pl hp parts = record { rows = value_passed k pl has_addresses hp t (plain_globals k h) parts.0.not_array; words = words_are k.ways.program t parts.0.not_array ∙ one_more t }
  object_place passed.Nothing t pl hp parts = record { rows = nothing_passed k pl has_addresses hp t; words = refl }

-- a value before the name of a function that takes none
pub dropped_object : (k : Setting) {m : Task (Option (List ℕ))} {c : Coded} (whole : Ty) → is_void whole ≡ false → CodedDoes k m whole c → RowDoes k (λ env s next. value m env s (λ v env s. next [] env s)) [] c.keeps c.effect
dropped_object k {m} {c} whole nv h = record {
  by = λ to pc slots last env s next room vars has go.
      h.effect.by to pc slots last env s (λ o env s. needed o env s (λ v env s. next [] env s)) room vars has (λ o env2 s now last2 g vars2 st2 same. on to pc o env2 s now last2 next g (go [] env2 s now last2 refl vars2 st2 tt same));
}
  where
    true_is_not : (b : Bool) → b ≡ true → b ≡ false → ⊥
    true_is_not true e f = cc
    true_is_not false e f = cc

    on : (to pc : ℕ) (o : Option (List ℕ)) (env2 : Env) (s : Still) (now last : Slots) (next : List (List ℕ) → Rest) → Gave k whole o → Run k (next [] env2 s) (pc + length (c.effect to)) now last s → Run k (needed o env2 s (λ v env s. next [] env s)) (pc + length (c.effect to)) now last s
    on to pc None env2 s now last next g r = absurd (true_is_not (is_void whole) g nv)
    on to pc (Some v) env2 s now last next g r = r

pub parts_front : (ts us : List Ty) → AreParts (ts ++ us) → AreParts ts
parts_front [] us h = tt
parts_front (t ∷ ts) us h = (h.0, parts_front ts us h.1)

pub parts_back : (ts us : List Ty) → AreParts (ts ++ us) → AreParts us
parts_back [] us h = h
parts_back (t ∷ ts) us h = parts_back ts us h.1
