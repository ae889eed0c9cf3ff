-- The beginning of a function: its shared block, its private locals, and its parameters that lie in the block.
use Rattle.std.proofs.Common.{◌≡◌, ℕ, zero, suc, ◌+◌, ◌-◌, ◌^◌, ◌<◌, ◌≤◌, List, [], ◌∷◌, ◌++◌, map, take, drop, length, Option, Some, None, refl, sym, ap, ◌∙◌, subst, ◌⊎◌, inl, inr, arith, length-append}
use Rattle.std.specs.Prelude.{Bool, true, false, if◌then◌else◌, slice_get, slice_index}
use Rattle.std.proofs.lemmas.Bool.{cases_lt}
use Rattle.std.proofs.lemmas.List.{take-append-drop}
use Rattle.al_event.specs.declared.act.Act.TheVariants as act
use Rattle.al_event.specs.declared.act.Block.TheVariants.{Frame as FrameBlock}
use Rattle.al_typed.specs.declared.ty.Ty.{Ty}
use Rattle.al_typed.specs.declared.program.Local.{Local as LocalRow}
use Rattle.al_typed.specs.Layout.{unit_at}
use Rattle.al_meaning.specs.Words.{sum, fitted_to, zero_words}
use Rattle.al_meaning.specs.Places.{function_at, locals_of, has_block, block_size, words_in}
use Rattle.al_meaning.specs.Here.{units_in}
use Rattle.al_meaning.specs.Calls.{begun_locals}
use Rattle.al_meaning.specs.Evaluate.{is_shared_local, local_found, round_of}
use Rattle.al_meaning.specs.Items.{Found, Address, Local}
use Rattle.al_meaning.specs.Tasks.{Still, Outcome, Env, Rest, Ways, ask_in, give}
use Rattle.al_meaning.specs.Told.{store_units, save, local_here}
use Rattle.al_meaning.specs.Meant.{take_block, store_parameters}
use Rattle.al_ir.specs.declared.op.Op.TheVariants as op
use Rattle.al_ir.specs.Units.{units_at}
use Rattle.al_ir.specs.Control.{Slots, put}
use Rattle.al_lowered.specs.Rules.{given_units}
use Rattle.al_lower_words.specs.Units.{AreOf}
use Rattle.al_lower_words.proofs.Integers.{length_of, words_are}
use Rattle.al_lower_code.specs.Homes.{here, behind_locals, home_in, local_home, block_home, offset_in}
use Rattle.al_lower_code.specs.Moving.{zeros, store_by, layout_number}
use Rattle.al_lower_code.specs.Functions.{is_wide_parameter, wide_number, parameter_layout, takes_block, clears_locals, stores_parameter, stores_parameters, prologue}
use Rattle.al_lower_steps.specs.Slots.{Holds, Outside}
use Rattle.al_lower_steps.specs.Site.{HasAt}
use Rattle.al_lower_steps.proofs.Slots.{put_same, put_outside, outside_none, holds_front, holds_back, holds_is, holds_at, holds_outside}
use Rattle.al_lower_steps.proofs.Steps.{Runs, moved, comes_out, has_front, has_back}
use Rattle.al_lower_steps.proofs.Actions.{alloc_does}
use Rattle.al_lower_steps.proofs.Storage.{store_units_does}
use Rattle.al_lower_claims.proofs.Homes.{IsPrivateLocal, HasNoArrays}
use Rattle.al_lower_claims.proofs.Moving.{zeros_do}
use Rattle.al_lower_claims.proofs.Privates.{take_fits, drop_fits}
use Rattle.al_lower_claims.proofs.Storing.{stores_do}
use Rattle.al_lower_claims.proofs.Variables.{HoldsLocal}
use Rattle.al_lower_bodies.proofs.Bodies.{Body, ways_in, site_of, scene_of, vars_of, spot_in}
use Rattle.al_lower_returns.proofs.Returns.{zero_fits}
use Rattle.al_lower_returns.proofs.Begins.{zeros_among, behind_later, behind_parameter, NoArrays, parameter_units, parameter_begins, zero_begins, parameters_end, shared_has_block}

module _ (b : Body) where
  -- What the beginning rests on: only branches of a par have functions round them, and these have no parameters; no parameter and
  -- no private local is an array; wide parameters have layouts of their own.
  pub record BeginIn : Type 0 where
    pub stands : (b.row.around ≡ []) ⊎ (b.row.parameters ≡ 0)
    pub parameters : b.row.parameters ≤ length b.row.locals
    pub no_arrays : NoArrays b.program b.row.parameters b.row.locals
    pub private_plain : HasNoArrays b.program b.function
    pub wide : (number : ℕ) (l : LocalRow) → slice_get b.row.locals number ≡ Some l → number < b.row.parameters → is_wide_parameter b.program l ≡ true → units_at b.ir (wide_number b.program b.function number b.row) ≡ units_in b.program l.ty

  abbrev pub begun_env : (block : ℕ) → List ℕ → Env
  begun_env block words = record { locals = begun_locals b.program b.row.parameters b.row.locals words; block = block; around = take (length b.row.around) words; turns = [] }

  -- ---- where variables stand

  abbrev home_here : ℕ → ℕ
  home_here n = behind_locals b.program (length b.row.around) b.row.parameters n b.row.locals

  home_is : (n : ℕ) → local_home b.program b.function n ≡ home_here n
  home_is n = ap (λ r. home_in b.program r n) b.there

  locals_are : locals_of (function_at b.program b.function) ≡ b.row.locals
  locals_are = ap locals_of b.there

  block_is : block_home b.program b.function ≡ home_here (length b.row.locals)
  block_is = home_is (length (locals_of (function_at b.program b.function))) ∙ ap (λ ls. home_here (length ls)) locals_are

  around_is : round_of (function_at b.program b.function) ≡ b.row.around
  around_is = ap round_of b.there

  -- ---- the shared block

  taken_does : (pc : ℕ) (slots last : Slots) (s : Still) (next : ℕ → Still → Outcome) → HasAt (site_of b) pc (takes_block (spot_in b) b.row) → ((a : ℕ) (s : Still) (now : Slots) → a < 2 ^ 32 → (has_block b.row.locals ≡ true → now (block_home b.program b.function) ≡ Some a) → (has_block b.row.locals ≡ false → a ≡ 0) → Outside (block_home b.program b.function) 1 now slots → Runs (site_of b) (next a s) (pc + length (takes_block (spot_in b) b.row)) now last s) → Runs (site_of b) (take_block b.row.line b.program b.row.locals s next) pc slots last s
  taken_does pc slots last s next has go = on (has_block b.row.locals) has go
    where
      on : (c : Bool) → HasAt (site_of b) pc (if c then here (spot_in b) (op.Alloc (block_home b.program b.function) (block_size b.program b.row.locals) FrameBlock) else []) → ((a : ℕ) (s : Still) (now : Slots) → a < 2 ^ 32 → (c ≡ true → now (block_home b.program b.function) ≡ Some a) → (c ≡ false → a ≡ 0) → Outside (block_home b.program b.function) 1 now slots → Runs (site_of b) (next a s) (pc + length (if c then here (spot_in b) (op.Alloc (block_home b.program b.function) (block_size b.program b.row.locals) FrameBlock) else [])) now last s) → Runs (site_of b) (if c then ask_in b.row.line (act.Alloc (block_size b.program b.row.locals) FrameBlock) s (λ words s. next (slice_index words 0) s) else next 0 s) pc slots last s
      on true has go =
          let at = block_home b.program b.function in
          alloc_does (site_of b) {kind = FrameBlock} (λ words s. next (slice_index words 0) s) has.0 (λ w s small.
          go w s (put at w slots) (omega (arith, small)) (λ e. put_same slots at w) (λ e. absurd (cc)) (put_outside at w slots))
      on false has go =
          let z : pc ≡ pc + 0 = omega arith in
          moved (site_of b) z (go 0 s slots (omega arith) (λ e. absurd (cc)) (λ e. refl) (outside_none (block_home b.program b.function) 1 slots))

  -- ---- the variables

  pub words_long : (h : BeginIn) (words : List ℕ) → AreOf (given_units b.program b.row) words → length words ≡ home_here b.row.parameters
  words_long h words fits =
      let long = length_of _ _ fits in
      let end = parameters_end b.program b.row.locals (length b.row.around) b.row.parameters h.parameters h.no_arrays in
      let round = map_length b.row.around in
      omega (arith, long, end, round, length-append (map (λ _. unit_at 0 4) b.row.around) (parameter_units b.program b.row.parameters b.row.locals))
    where
      map_length : (xs : List ℕ) → length (map (λ _. unit_at 0 4) xs) ≡ length xs
      map_length [] = refl
      map_length (x ∷ xs) = ap suc (map_length xs)

  begun_vars : (h : BeginIn) (words : List ℕ) (block : ℕ) (slots : Slots) → AreOf (given_units b.program b.row) words → Holds slots 0 words → Holds slots (home_here b.row.parameters) (zero_words (home_here (length b.row.locals) - home_here b.row.parameters)) → block < 2 ^ 32 → (has_block b.row.locals ≡ true → slots (block_home b.program b.function) ≡ Some block) → (has_block b.row.locals ≡ false → block ≡ 0) → vars_of b (begun_env block words) slots
  begun_vars h words block slots fits holds zeros small there none = record {
    locals = λ n l x. at n l x (cases_lt n b.row.parameters);
    block = λ e. there (sym (ap has_block locals_are) ∙ e);
    no_block = λ e. none (sym (ap has_block locals_are) ∙ e);
    block_fits = small;
    around = holds_front (take (length b.row.around) words) (drop (length b.row.around) words) 0 slots (holds_is words (take (length b.row.around) words ++ drop (length b.row.around) words) 0 slots (sym (take-append-drop (length b.row.around) words)) holds);
    around_fits = subst (λ r. AreOf (map (λ _. unit_at 0 4) r) (take (length b.row.around) words)) (sym around_is) (subst (λ n. AreOf (map (λ _. unit_at 0 4) b.row.around) (take n words)) (map_length b.row.around) (take_fits (map (λ _. unit_at 0 4) b.row.around) (parameter_units b.program b.row.parameters b.row.locals) words fits));
    rounds = λ i lt. absurd (omega (arith, lt));
    rounds_fit = λ i lt. absurd (omega (arith, lt));
    rounds_there = omega arith;
  }
    where
      map_length : (xs : List ℕ) → length (map (λ _. unit_at 0 4) xs) ≡ length xs
      map_length [] = refl
      map_length (x ∷ xs) = ap suc (map_length xs)

      parameter_at : (n : ℕ) (l : LocalRow) → slice_get b.row.locals n ≡ Some l → l.is_shared ≡ false → n < b.row.parameters → (b.row.around ≡ []) ⊎ (b.row.parameters ≡ 0) → HoldsLocal (scene_of b 0) n l (begun_env block words) slots
      parameter_at n l row private lt (inr none) = absurd (omega (arith, lt, none))
      parameter_at n l row private lt (inl none) =
          let units : given_units b.program b.row ≡ parameter_units b.program b.row.parameters b.row.locals = ap (λ r. map (λ _. unit_at 0 4) r ++ parameter_units b.program b.row.parameters b.row.locals) none in
          let zero_is : 0 ≡ length b.row.around = sym (ap length none) in
          let x = parameter_begins b.program b.row.locals (length b.row.around) b.row.parameters n words slots l row private lt h.no_arrays (subst (λ us. AreOf us words) units fits) (holds_at words 0 (length b.row.around) slots zero_is holds) in
          record { value = x.value; is = x.is; fits = x.fits; holds = holds_at x.value (home_here n) (local_home b.program b.function n) slots (sym (home_is n)) x.holds }

      at : (n : ℕ) (l : LocalRow) → IsPrivateLocal b.program b.function n l → (n < b.row.parameters) ⊎ (b.row.parameters ≤ n) → HoldsLocal (scene_of b 0) n l (begun_env block words) slots
      at n l x (inl lt) = parameter_at n l (ap (λ ls. slice_get ls n) (sym locals_are) ∙ x.row) x.private lt h.stands
      at n l x (inr le) =
          let row : slice_get b.row.locals n ≡ Some l = ap (λ ls. slice_get ls n) (sym locals_are) ∙ x.row in
          let count = words_are b.program l.ty (h.private_plain n l x) in
          let fit = b.homes.fits n l x in
          let e1 = home_is n in
          let e2 = block_is in
          let low = behind_later b.program b.row.locals (length b.row.around) b.row.parameters b.row.parameters n le in
          let some = zeros_among (words_in b.program l.ty) (home_here (length b.row.locals) - home_here b.row.parameters) (home_here b.row.parameters) (home_here n) slots low (omega (arith, fit, e1, e2, count, low)) zeros in
          record {
            value = zero_words (words_in b.program l.ty);
            is = zero_begins b.program b.row.locals b.row.parameters n words l row x.private le;
            fits = subst (λ n. AreOf (units_in b.program l.ty) (zero_words n)) (sym count) (zero_fits (units_in b.program l.ty));
            holds = holds_at (zero_words (words_in b.program l.ty)) (home_here n) (local_home b.program b.function n) slots (sym e1) some;
          }

  -- ---- parameters in the block

  module _ (jump : ℕ → Rest) (behind again : List Rest) where
    abbrev w : Ways
    w = ways_in b b.row.line jump behind again

    -- a value that is stored by a layout, if one is given
    stored_by : (t : Ty) (o : Option ℕ) → ((n : ℕ) → o ≡ Some n → units_at b.ir n ≡ units_in b.program t) → (a slot offset from pc : ℕ) (v : List ℕ) (env : Env) (s : Still) (slots last : Slots) (next : Unit {0} → Rest) → HasAt (site_of b) pc (store_by (spot_in b) o t slot offset from) → slots slot ≡ Some a → AreOf (units_in b.program t) v → Holds slots from v → ((s : Still) → Runs (site_of b) (next tt env s) (pc + length (store_by (spot_in b) o t slot offset from)) slots last s) → Runs (site_of b) (store_units w (sum a offset) (units_in b.program t) v env s next) pc slots last s
    stored_by t None known a slot offset from pc v env s slots last next has there fits holds go =
        stores_do (site_of b) w env (units_in b.program t) v s next a slot offset from pc slots last fits has there holds go
    stored_by t (Some n) known a slot offset from pc v env s slots last next has there fits holds go =
        let us = known n refl in
        comes_out (site_of b) (ap (λ us. store_units w (sum a offset) us v env s next) (sym us))
        (store_units_does (site_of b) w env s v next has.0 there (subst (λ us. AreOf us v) (sym us) fits) holds go)

    parameter_known : (h : BeginIn) (number : ℕ) (l : LocalRow) → slice_get b.row.locals number ≡ Some l → number < b.row.parameters → (n : ℕ) → parameter_layout (spot_in b) number b.row l ≡ Some n → units_at b.ir n ≡ units_in b.program l.ty
    parameter_known h number l row lt n e = on (is_wide_parameter b.program l) refl e
      where
        same : (i j : ℕ) → Some i ≡ Some j → i ≡ j
        same i j e = cc

        on : (c : Bool) → is_wide_parameter b.program l ≡ c → (if c then Some (wide_number b.program b.function number b.row) else layout_number (spot_in b) l.ty) ≡ Some n → units_at b.ir n ≡ units_in b.program l.ty
        on true e q = ap (units_at b.ir) (sym (same _ _ q)) ∙ h.wide number l row lt e
        on false e q = b.layouts (spot_in b) l.ty n refl q

    -- one parameter, whose words stand in its slots
    one_stored : (h : BeginIn) (number : ℕ) (l : LocalRow) (words : List ℕ) (pc : ℕ) (env : Env) (s : Still) (slots last : Slots) (next : Unit {0} → Rest) → slice_get b.row.locals number ≡ Some l → number < b.row.parameters → AreOf (units_in b.program l.ty) (take (words_in b.program l.ty) words) → Holds slots (home_here number) (take (words_in b.program l.ty) words) → (has_block b.row.locals ≡ true → slots (block_home b.program b.function) ≡ Some env.block) → HasAt (site_of b) pc (stores_parameter (spot_in b) b.row number l) → ((s : Still) → Runs (site_of b) (next tt env s) (pc + length (stores_parameter (spot_in b) b.row number l)) slots last s) → Runs (site_of b) ((if l.is_shared then (λ (env : Env) (s : Still) (next : Unit {0} → Rest). local_here w number env s (λ f env s. save w l.ty (fitted_to (units_in b.program l.ty) (take (words_in b.program l.ty) words)) f env s next)) else give tt) env s next) pc slots last s
    one_stored h number l words pc env s slots last next row lt fits holds there has go = on l.is_shared refl has go
      where
        v : List ℕ
        v = take (words_in b.program l.ty) words

        means : Found → Env → Still → Outcome
        means f env s = save w l.ty (fitted_to (units_in b.program l.ty) (take (words_in b.program l.ty) words)) f env s next

        on : (c : Bool) → l.is_shared ≡ c → HasAt (site_of b) pc (if c then store_by (spot_in b) (parameter_layout (spot_in b) number b.row l) l.ty (block_home b.program b.function) (offset_in b.program b.function number) (local_home b.program b.function number) else []) → ((s : Still) → Runs (site_of b) (next tt env s) (pc + length (if c then store_by (spot_in b) (parameter_layout (spot_in b) number b.row l) l.ty (block_home b.program b.function) (offset_in b.program b.function number) (local_home b.program b.function number) else [])) slots last s) → Runs (site_of b) ((if c then (λ (env : Env) (s : Still) (next : Unit {0} → Rest). local_here w number env s (λ f env s. save w l.ty (fitted_to (units_in b.program l.ty) (take (words_in b.program l.ty) words)) f env s next)) else give tt) env s next) pc slots last s
        on false e has go = let z : pc ≡ pc + 0 = omega arith in moved (site_of b) z (go s)
        on true e has go =
            let us = units_in b.program l.ty in
            let at = offset_in b.program b.function number in
            let sees : slice_get (locals_of (function_at b.program b.function)) number ≡ Some l = ap (λ ls. slice_get ls number) locals_are ∙ row in
            let shared : is_shared_local (slice_get (locals_of (function_at b.program b.function)) number) ≡ true = ap is_shared_local sees ∙ e in
            let found : local_found b.program b.function env.block number ≡ Address (sum env.block at) = ap (λ c. if c then Address (sum env.block at) else Local number) shared in
            let block = shared_has_block b.row.locals number l row e in
            comes_out (site_of b) (ap (λ f. save w l.ty (fitted_to us (take (words_in b.program l.ty) words)) f env s next) found)
            (comes_out (site_of b) (ap (λ v. store_units w (sum env.block at) us v env s next) fits)
            (stored_by l.ty (parameter_layout (spot_in b) number b.row l) (parameter_known h number l row lt) env.block (block_home b.program b.function) at (local_home b.program b.function number) pc (take (words_in b.program l.ty) words) env s slots last next has (there block) fits (holds_at (take (words_in b.program l.ty) words) (home_here number) (local_home b.program b.function number) slots (sym (home_is number)) holds) go))

    -- so many of them, one behind the other
    all_stored : (h : BeginIn) (ls : List LocalRow) (number count : ℕ) (words : List ℕ) (pc : ℕ) (env : Env) (s : Still) (slots last : Slots) (next : Unit {0} → Rest) → ((i : ℕ) (l : LocalRow) → slice_get ls i ≡ Some l → slice_get b.row.locals (number + i) ≡ Some l) → number + count ≡ b.row.parameters → AreOf (parameter_units b.program count ls) words → Holds slots (home_here number) words → (has_block b.row.locals ≡ true → slots (block_home b.program b.function) ≡ Some env.block) → HasAt (site_of b) pc (stores_parameters (spot_in b) b.row number count ls) → ((s : Still) → Runs (site_of b) (next tt env s) (pc + length (stores_parameters (spot_in b) b.row number count ls)) slots last s) → Runs (site_of b) (store_parameters number count ls words w env s next) pc slots last s
    all_stored h ls number zero words pc env s slots last next rows sum fits holds there has go = let z : pc ≡ pc + 0 = omega arith in moved (site_of b) z (go s)
    all_stored h [] number (suc n) words pc env s slots last next rows sum fits holds there has go = let z : pc ≡ pc + 0 = omega arith in moved (site_of b) z (go s)
    all_stored h (l ∷ ls) number (suc n) words pc env s slots last next rows sum fits holds there has go =
        let us = units_in b.program l.ty in
        let ca = stores_parameter (spot_in b) b.row number l in
        let cb = stores_parameters (spot_in b) b.row (number + 1) n ls in
        let zero_is : number + 0 ≡ number = omega arith in
        let row : slice_get b.row.locals number ≡ Some l = subst (λ i. slice_get b.row.locals i ≡ Some l) zero_is (rows 0 l refl) in
        let lt : number < b.row.parameters = omega (arith, sum) in
        let count : words_in b.program l.ty ≡ length us = words_are b.program l.ty (h.no_arrays number l row lt) in
        let m = words_in b.program l.ty in
        let front : AreOf us (take m words) = subst (λ n. AreOf us (take n words)) (sym count) (take_fits us (parameter_units b.program n ls) words fits) in
        let back : AreOf (parameter_units b.program n ls) (drop m words) = subst (λ i. AreOf (parameter_units b.program n ls) (drop i words)) (sym count) (drop_fits us (parameter_units b.program n ls) words fits) in
        let parted = holds_is words (take m words ++ drop m words) (home_here number) slots (sym (take-append-drop m words)) holds in
        let long : length (take m words) ≡ m = length_of us (take m words) front ∙ sym count in
        let next_home : home_here number + m ≡ home_here (number + 1) = sym (behind_parameter b.program b.row.locals (length b.row.around) b.row.parameters number l row lt) in
        let held : Holds slots (home_here (number + 1)) (drop m words) = holds_at (drop m words) (home_here number + length (take m words)) (home_here (number + 1)) slots (ap (λ i. home_here number + i) long ∙ next_home) (holds_back (take m words) (drop m words) (home_here number) slots parted) in
        let len : pc + length ca + length cb ≡ pc + length (ca ++ cb) = omega (arith, length-append ca cb) in
        one_stored h number l words pc env s slots last (λ u env s. store_parameters (number + 1) n ls (drop m words) w env s next) row lt front (holds_front (take m words) (drop m words) (home_here number) slots parted) there (has_front (site_of b) pc ca cb has) (λ s.
        all_stored h ls (number + 1) n (drop m words) (pc + length ca) env s slots last next (λ i r e. let q : number + suc i ≡ number + 1 + i = omega arith in subst (λ j. slice_get b.row.locals j ≡ Some r) q (rows (suc i) r e)) (omega (arith, sum)) back held there (has_back (site_of b) pc ca cb has) (λ s.
        moved (site_of b) len (go s)))

    parameters_stored : (h : BeginIn) (words : List ℕ) (pc : ℕ) (env : Env) (s : Still) (slots last : Slots) (next : Unit {0} → Rest) → (b.row.around ≡ []) ⊎ (b.row.parameters ≡ 0) → AreOf (given_units b.program b.row) words → Holds slots 0 words → (has_block b.row.locals ≡ true → slots (block_home b.program b.function) ≡ Some env.block) → HasAt (site_of b) pc (stores_parameters (spot_in b) b.row 0 b.row.parameters b.row.locals) → ((s : Still) → Runs (site_of b) (next tt env s) (pc + length (stores_parameters (spot_in b) b.row 0 b.row.parameters b.row.locals)) slots last s) → Runs (site_of b) (store_parameters 0 b.row.parameters b.row.locals words w env s next) pc slots last s
    parameters_stored h words pc env s slots last next (inl none) fits holds there has go =
        let units : given_units b.program b.row ≡ parameter_units b.program b.row.parameters b.row.locals = ap (λ r. map (λ _. unit_at 0 4) r ++ parameter_units b.program b.row.parameters b.row.locals) none in
        let zero_is : 0 ≡ length b.row.around = sym (ap length none) in
        all_stored h b.row.locals 0 b.row.parameters words pc env s slots last next (λ i l e. let q : i ≡ 0 + i = omega arith in subst (λ j. slice_get b.row.locals j ≡ Some l) q e) (omega arith) (subst (λ us. AreOf us words) units fits) (holds_at words 0 (length b.row.around) slots zero_is holds) there has go
    parameters_stored h words pc env s slots last next (inr none) fits holds there has go =
        let z : pc ≡ pc + 0 = omega arith in
        comes_out (site_of b) (ap (λ n. store_parameters 0 n b.row.locals words w env s next) none)
        (moved (site_of b) (z ∙ ap (λ n. pc + length (stores_parameters (spot_in b) b.row 0 n b.row.locals)) (sym none)) (go s))

    -- ---- the whole beginning

    zeros_are : block_home b.program b.function - local_home b.program b.function b.row.parameters ≡ home_here (length b.row.locals) - home_here b.row.parameters
    zeros_are = ap (λ n. n - local_home b.program b.function b.row.parameters) block_is ∙ ap (λ n. home_here (length b.row.locals) - n) (home_is b.row.parameters)

    pub begins_does : (h : BeginIn) (words : List ℕ) (pc : ℕ) (s : Still) (slots last : Slots) (next : Unit {0} → Rest) → AreOf (given_units b.program b.row) words → Holds slots 0 words → HasAt (site_of b) pc (prologue (spot_in b) b.row) → ((env : Env) (s : Still) (now : Slots) → vars_of b env now → Runs (site_of b) (next tt env s) (pc + length (prologue (spot_in b) b.row)) now last s) → Runs (site_of b) (take_block b.row.line b.program b.row.locals s (λ block s. store_parameters 0 b.row.parameters b.row.locals words w (begun_env block words) s next)) pc slots last s
    begins_does h words pc s slots last next fits holds has go =
        let ca = takes_block (spot_in b) b.row in
        let cb = clears_locals (spot_in b) b.row in
        let cd = stores_parameters (spot_in b) b.row 0 b.row.parameters b.row.locals in
        let first = local_home b.program b.function b.row.parameters in
        let n = block_home b.program b.function - first in
        let back = has_back (site_of b) pc ca (cb ++ cd) has in
        let long = words_long h words fits in
        let e1 = home_is b.row.parameters in
        let e2 = block_is in
        let order = behind_later b.program b.row.locals (length b.row.around) b.row.parameters b.row.parameters (length b.row.locals) h.parameters in
        let len : pc + length ca + length cb + length cd ≡ pc + length (ca ++ (cb ++ cd)) = omega (arith, length-append ca (cb ++ cd), length-append cb cd) in
        taken_does pc slots last s (λ block s. store_parameters 0 b.row.parameters b.row.locals words w (begun_env block words) s next) (has_front (site_of b) pc ca (cb ++ cd) has) (λ a s now small there none out.
        zeros_do (site_of b) n b.row.line first (pc + length ca) now last s _ (has_front (site_of b) (pc + length ca) cb cd back) (λ now2 out2 zeros.
        let held1 : Holds now 0 words = holds_outside words 0 (block_home b.program b.function) 1 now slots (inl (omega (arith, long, e2, order))) out holds in
        let held2 : Holds now2 0 words = holds_outside words 0 first n now2 now (inl (omega (arith, long, e1))) out2 held1 in
        let zeros2 : Holds now2 (home_here b.row.parameters) (zero_words (home_here (length b.row.locals) - home_here b.row.parameters)) = subst (λ i. Holds now2 i (zero_words (home_here (length b.row.locals) - home_here b.row.parameters))) e1 (subst (λ i. Holds now2 first (zero_words i)) zeros_are zeros) in
        let block_stays : now2 (block_home b.program b.function) ≡ now (block_home b.program b.function) = out2 (block_home b.program b.function) (inr (omega (arith, e1, e2, order))) in
        let there2 : has_block b.row.locals ≡ true → now2 (block_home b.program b.function) ≡ Some a = λ e. block_stays ∙ there e in
        let vars = begun_vars h words a now2 fits held2 zeros2 small there2 none in
        let env = begun_env a words in
        parameters_stored h words (pc + length ca + length cb) env s now2 last next h.stands fits held2 there2 (has_back (site_of b) (pc + length ca) cb cd back) (λ s.
        moved (site_of b) len (go env s now2 vars))))
