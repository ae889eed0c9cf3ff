-- Places.
use Rattle.std.proofs.Common.{◌≡◌, ℕ, zero, suc, ◌+◌, ◌^◌, ◌<◌, List, [], ◌∷◌, length, Option, Some, refl, sym, ap, ◌∙◌, subst, arith}
use Rattle.std.specs.Prelude.{Bool, true, false, if◌then◌else◌, slice_get, slice_index}
use Rattle.al_typed.specs.declared.ty.Ty.{Ty}
use Rattle.al_typed.specs.declared.program.Global.{Global as GlobalRow}
use Rattle.al_typed.specs.declared.program.Local.{Local as LocalRow}
use Rattle.al_meaning.specs.Words.{sum}
use Rattle.al_meaning.specs.Items.{Found, Address, Local, Private}
use Rattle.al_meaning.specs.Places.{function_at, locals_of, global_place, private_place, has_block}
use Rattle.al_meaning.specs.Evaluate.{is_shared_local, is_private_global, global_found, round_of}
use Rattle.al_meaning.specs.Tasks.{Still, Env, Rest, Task, give}
use Rattle.al_meaning.specs.Told.{value, local_here, outer_here}
use Rattle.al_ir.specs.declared.op.Op.TheVariants.{Constant}
use Rattle.al_ir.specs.Control.{Slots, put}
use Rattle.al_lower_code.specs.Homes.{here, block_home, offset_in}
use Rattle.al_lower_code.specs.Moving.{Where, Stored, Slotted, Kept, home_of, moved_by}
use Rattle.al_lower_code.specs.Coded.{Coded}
use Rattle.al_lower_code.specs.Values.{placed_always, local_placed, outer_placed, global_placed, pointed_placed}
use Rattle.al_lower_steps.specs.Slots.{Holds}
use Rattle.al_lower_steps.proofs.Slots.{put_same, put_below, below_refl}
use Rattle.al_lower_steps.proofs.Steps.{moved, comes_out}
use Rattle.al_lower_steps.proofs.Plain.{constant_does}
use Rattle.al_lower_claims.proofs.Homes.{IsPrivateLocal}
use Rattle.al_lower_claims.proofs.Variables.{stays_refl, stays_below, vars_kept, around_free, around_count, behind_free, blocks_round, home}
use Rattle.al_lower_claims.proofs.Claims.{Setting, scene, site, spot, HasVars, HasRoom, IsWord, word_is_address, own, bound, CodedDoes, FoundAt, stored, slotted, kept, IsLocalPlace, PlacedDoes}

holds_index : (ws : List ℕ) (t i : ℕ) (slots : Slots) → i < length ws → Holds slots t ws → slots (t + i) ≡ Some (slice_index ws i)
holds_index [] t i slots lt h = absurd (omega (arith, lt))
holds_index (w ∷ ws) t zero slots lt h = let e : t + 0 ≡ t = omega arith in subst (λ n. slots n ≡ Some w) (sym e) h.0
holds_index (w ∷ ws) t (suc i) slots lt h = let e : t + 1 + i ≡ t + suc i = omega arith in subst (λ n. slots n ≡ Some (slice_index ws i)) e (holds_index ws (t + 1) i slots (omega (arith, lt)) h.1)

not_slot : (a b c : ℕ) → home_of (Stored a b) ≡ Some c → ⊥
not_slot a b c e = cc

not_slot_kept : (a c : ℕ) → home_of (Kept a) ≡ Some c → ⊥
not_slot_kept a c e = cc

same_slot : (a c : ℕ) → home_of (Slotted a) ≡ Some c → a ≡ c
same_slot a c e = cc

module _ (k : Setting) where
  -- a place that is found at once, where no operation is needed
  always_does : (m : Task Found) (t : Ty) (at : Where) (fd : Env → Found) → ((env : Env) (s : Still) (next : Found → Rest) → m env s next ≡ next (fd env) env s) → ((lasting : Bool) (to : ℕ) (env : Env) (slots : Slots) → HasRoom k to → HasVars k env slots → FoundAt k t lasting to slots at (fd env)) → ((slot : ℕ) → home_of at ≡ Some slot → IsLocalPlace k m t (placed_always at) slot) → PlacedDoes k m t (placed_always at)
  always_does m t at fd means found local = record {
    by = λ lasting to pc slots last env s next room vars has go.
        let q : pc ≡ pc + 0 = omega arith in
        comes_out (site k) (means env s next) (moved (site k) q (go (fd env) env s slots last (found lasting to env slots room vars) vars (stays_refl (scene k) to slots) (λ e. refl)));
    local = λ lasting to slot e. local slot e;
  }

  -- ---- locals

  shared_does : (t : Ty) (number : ℕ) → has_block (locals_of (function_at k.ways.program k.ways.function)) ≡ true → is_shared_local (slice_get (locals_of (function_at k.ways.program k.ways.function)) number) ≡ true → PlacedDoes k (local_here k.ways number) t (placed_always (Stored (block_home k.ways.program k.ways.function) (offset_in k.ways.program k.ways.function number)))
  shared_does t number block shared =
      let offset = offset_in k.ways.program k.ways.function number in
      let slot = block_home k.ways.program k.ways.function in
      always_does (local_here k.ways number) t (Stored slot offset) (λ env. Address (sum env.block offset))
      (λ env s next. ap (λ b. next (if b then Address (sum env.block offset) else Local number) env s) shared)
      (λ lasting to env slots room vars. let a = k.above in stored slot offset env.block refl (vars.block block) refl (bound (behind_free (scene k) slot (omega arith)) (omega (arith, a))))
      (λ slot2 e. absurd (not_slot slot offset slot2 e))

  private_does : (t : Ty) (number : ℕ) (l : LocalRow) → IsPrivateLocal k.ways.program k.ways.function number l → l.ty ≡ t → is_shared_local (slice_get (locals_of (function_at k.ways.program k.ways.function)) number) ≡ false → PlacedDoes k (local_here k.ways number) t (placed_always (Slotted (home (scene k) number)))
  private_does t number l x same shared =
      let offset = offset_in k.ways.program k.ways.function number in
      let means : (env : Env) (s : Still) (next : Found → Rest) → local_here k.ways number env s next ≡ next (Local number) env s = λ env s next. ap (λ b. next (if b then Address (sum env.block offset) else Local number) env s) shared in
      always_does (local_here k.ways number) t (Slotted (home (scene k) number)) (λ env. Local number) means
      (λ lasting to env slots room vars. slotted l x same refl)
      (λ slot e.
      let is : home (scene k) number ≡ slot = same_slot (home (scene k) number) slot e in
      record { number = number; row = l; local = x; type = same; is = sym is; keeps = refl; at = λ lasting to. ap Slotted is; code = λ lasting to. refl; means = means })

  -- a function with a shared local has a block
  pub local_does : (t : Ty) (number : ℕ) (l : LocalRow) → slice_get (locals_of (function_at k.ways.program k.ways.function)) number ≡ Some l → l.ty ≡ t → (l.is_shared ≡ true → has_block (locals_of (function_at k.ways.program k.ways.function)) ≡ true) → PlacedDoes k (local_here k.ways number) t (local_placed (spot k) number)
  local_does t number l row same block = on (is_shared_local (slice_get (locals_of (function_at k.ways.program k.ways.function)) number)) refl
    where
      shared : is_shared_local (slice_get (locals_of (function_at k.ways.program k.ways.function)) number) ≡ l.is_shared
      shared = ap is_shared_local row

      on : (b : Bool) → is_shared_local (slice_get (locals_of (function_at k.ways.program k.ways.function)) number) ≡ b → PlacedDoes k (local_here k.ways number) t (if b then placed_always (Stored (block_home k.ways.program k.ways.function) (offset_in k.ways.program k.ways.function number)) else placed_always (Slotted (home (scene k) number)))
      on true e = shared_does t number (block (sym shared ∙ e)) e
      on false e = private_does t number l (record { row = row; private = sym shared ∙ e }) same e

  -- ---- locals of functions round a branch

  pub outer_does : (t : Ty) (around number : ℕ) → around < blocks_round (scene k) → PlacedDoes k (outer_here k.ways around number) t (outer_placed (spot k) around number)
  outer_does t around number lt =
      let offset = offset_in k.ways.program (slice_index (round_of (function_at k.ways.program k.ways.function)) around) number in
      always_does (outer_here k.ways around number) t (Stored around offset) (λ env. Address (sum (slice_index env.around around) offset)) (λ env s next. refl)
      (λ lasting to env slots room vars.
      let n = around_count (scene k) env slots vars in
      let z : 0 + around ≡ around = omega arith in
      let a = k.above in
      let q = k.homes.behind_around (length (locals_of (function_at k.ways.program k.ways.function))) in
      stored around offset (slice_index env.around around) refl (subst (λ i. slots i ≡ Some (slice_index env.around around)) z (holds_index env.around 0 around slots (omega (arith, lt, n)) vars.around)) refl (bound (around_free (scene k) around lt) (omega (arith, lt, q, a))))
      (λ slot e. absurd (not_slot around offset slot e))

  -- ---- globals

  global_stored : (t : Ty) (number : ℕ) → global_place k.ways.program number < 2 ^ 32 → PlacedDoes k (give (Address (global_place k.ways.program number))) t (record { keeps = true; code = λ lasting to. here (spot k) (Constant to (global_place k.ways.program number)); at = λ lasting to. Stored to 0 })
  global_stored t number small = record {
    by = λ lasting to pc slots last env s next room vars has go.
        let a = global_place k.ways.program number in
        let same : a ≡ sum a 0 = omega (arith, small) in
        let b = put_below slots slots to a to (omega arith) (below_refl to slots) in
        constant_does (site k) has.0 (go (Address a) env s (put to a slots) last (stored to 0 a refl (put_same slots to a) same (own refl)) (vars_kept (scene k) env to (put to a slots) slots room b vars) (stays_below (scene k) to (put to a slots) slots b) (λ e. refl));
    local = λ lasting to slot e. absurd (not_slot to 0 slot e);
  }

  pub global_does : (t : Ty) (number : ℕ) (g : GlobalRow) → slice_get k.ways.program.globals number ≡ Some g → g.ty ≡ t → global_place k.ways.program number < 2 ^ 32 → PlacedDoes k (give (global_found k.ways.program number)) t (global_placed (spot k) number)
  global_does t number g row same small = on (is_private_global (slice_get k.ways.program.globals number)) refl
    where
      private : is_private_global (slice_get k.ways.program.globals number) ≡ g.is_private
      private = ap is_private_global row

      on : (b : Bool) → is_private_global (slice_get k.ways.program.globals number) ≡ b → PlacedDoes k (give (if b then Private number else Address (global_place k.ways.program number))) t (if b then placed_always (Kept (private_place k.ways.program number)) else record { keeps = true; code = λ lasting to. here (spot k) (Constant to (global_place k.ways.program number)); at = λ lasting to. Stored to 0 })
      on true e =
          always_does (give (Private number)) t (Kept (private_place k.ways.program number)) (λ env. Private number) (λ env s next. refl)
          (λ lasting to env slots room vars. kept g row (sym private ∙ e) same refl)
          (λ slot e. absurd (not_slot_kept (private_place k.ways.program number) slot e))
      on false e = global_stored t number small

  -- ---- where pointers lead, and members

  pub pointed_does : {m : Task (Option (List ℕ))} {u : Ty} {c : Coded} (t : Ty) (offset : ℕ) → IsWord k u → CodedDoes k m u c → PlacedDoes k (λ env s next. value m env s (λ a env s. next (Address (sum (slice_index a 0) offset)) env s)) t (pointed_placed offset c)
  pointed_does {m} {u} {c} t offset word h = record {
    by = λ lasting to pc slots last env s next room vars has go.
        (h.pointer (word_is_address k u word)).by lasting to pc slots last env s (λ a env s. next (Address (sum (slice_index a 0) offset)) env s) room vars has (λ a env2 s now last2 small fits p vars2 st2 same.
        go (Address (sum a offset)) env2 s now last2 (stored p.slot (sum p.offset offset) p.word (ap (moved_by offset) p.is) p.there (p.same offset) p.leads) vars2 st2 same);
    local = λ lasting to slot e. no_home lasting to slot e;
  }
    where
      moved_home : (at : Where) (slot : ℕ) → home_of (moved_by offset at) ≡ Some slot → home_of at ≡ Some slot
      moved_home (Stored a b) slot e = absurd (cc)
      moved_home (Slotted a) slot e = e
      moved_home (Kept a) slot e = absurd (cc)

      no_home : (lasting : Bool) (to slot : ℕ) → home_of (moved_by offset (c.leads lasting to)) ≡ Some slot → IsLocalPlace k (λ env s next. value m env s (λ a env s. next (Address (sum (slice_index a 0) offset)) env s)) t (pointed_placed offset c) slot
      no_home lasting to slot e = absurd (h.stored (word_is_address k u word) lasting to slot (moved_home (c.leads lasting to) slot e))
