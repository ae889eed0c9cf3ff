-- Statements that are gone through from their start to their end: expressions, declarations, allocations, checks.
use Rattle.std.proofs.Common.{◌≡◌, ℕ, ◌+◌, List, [], ◌∷◌, ◌++◌, length, Option, Some, None, refl, ap, ◌∙◌, subst, arith, length-append}
use Rattle.std.specs.Prelude.{Bool, true, false, if◌then◌else◌, slice_index}
use Rattle.std.specs.List.{AllByRecursion}
use Rattle.al_base.specs.declared.trap.Trap.TheVariants as trap
use Rattle.al_event.specs.declared.act.Block.TheVariants.{Heap}
use Rattle.al_typed.specs.declared.ty.Ty.{Ty}
use Rattle.al_typed.specs.declared.ty.Ty.TheOpen.{Ty-F}
use Rattle.al_typed.specs.declared.ty.Ty.TheViews.{out-Ty}
use Rattle.al_typed.specs.declared.expression.TExpr.{TExpr}
use Rattle.al_typed.specs.declared.expression.TPlace.{TPlace, Local}
use Rattle.al_typed.specs.declared.statement.TInitializer.{TInitializer}
use Rattle.al_typed.specs.Types.{is_void, is_array, is_scalar}
use Rattle.al_typed.specs.Typed.{type_of, place_type}
use Rattle.al_meaning.specs.Words.{is_zero}
use Rattle.al_meaning.specs.Tasks.{Still, Env, Rest, Task, Ways, ◌>>◌, give, if_zero, traps}
use Rattle.al_meaning.specs.Told.{value, dropped, drop_checked, told, local_here, save}
use Rattle.al_meaning.specs.Meant.{evaluated, optionally, initialized, allocated, unallocated, given_back}
use Rattle.al_ir.specs.declared.ir.Operation.{Operation}
use Rattle.al_ir.specs.declared.op.Op.TheVariants as op
use Rattle.al_ir.specs.Control.{Slots}
use Rattle.al_lower_code.specs.Homes.{at_line, words, here}
use Rattle.al_lower_code.specs.Operators.{skip_if_set}
use Rattle.al_lower_code.specs.Coded.{operand_slot, operand_code}
use Rattle.al_lower_code.specs.Expressions.{coded, placed}
use Rattle.al_lower_code.specs.Heads.{effect_code, optional_code}
use Rattle.al_lower_code.specs.Simple.{initializer_code, declare_code, allocates, alloc_code, give_back, give_back_at, gives_back, unalloc_code, checks}
use Rattle.al_lower_words.specs.Units.{AreOf}
use Rattle.al_lower_words.proofs.Integers.{one_word, pointer_not_void, channel_not_void}
use Rattle.al_lower_steps.specs.Slots.{Holds}
use Rattle.al_lower_steps.specs.Site.{HasAt}
use Rattle.al_lower_steps.proofs.Steps.{Runs, comes_out, has_front, has_back}
use Rattle.al_lower_steps.proofs.Actions.{free_does, free_chan_does, trap_does}
use Rattle.al_lower_claims.proofs.Variables.{vars_kept}
use Rattle.al_lower_claims.proofs.Claims.{scene, site, spot, Gave, count_of}
use Rattle.al_lower_claims.proofs.Operands.{operand_does}
use Rattle.al_lower_claims.proofs.Plain.{test_words}
use Rattle.al_lower_flow.proofs.Flow.{goes_at}
use Rattle.al_lower_bodies.proofs.Bodies.{Body, setting, ways_in, site_of, vars_of, spot_in, Goes, EffectIn, ValueIn, PlaceIn}
use Rattle.al_lower_bodies.proofs.Storing.{stores_value, IsNew, block, channel, new_units, out_pointer, out_channel, allocates_does}
use Rattle.al_lower_bodies.proofs.Tests.{scalar_test, jumps_if_set}

module _ (b : Body) where
  -- ---- one behind the other

  pub none_does : {line : ℕ} → EffectIn b line [] (λ w. give tt)
  none_does {line} = record { by = λ jump behind again pc next has go. goes_at (site_of b) (vars_of b) (let z : pc ≡ pc + 0 = omega arith in z) go }

  pub both_do : {line : ℕ} {p q : List Operation} {m n : Ways → Task (Unit {0})} → EffectIn b line p m → EffectIn b line q n → EffectIn b line (p ++ q) (λ w. m w >> n w)
  both_do {line} {p} {q} {m} {n} h k = record {
    by = λ jump behind again pc next has go.
        let len : pc + length p + length q ≡ pc + length (p ++ q) = omega (arith, length-append p q) in
        h.by jump behind again pc (λ env st. n (ways_in b line jump behind again) env st (λ _. next)) (has_front (site_of b) pc p q has)
        (k.by jump behind again (pc + length p) next (has_back (site_of b) pc p q has) (goes_at (site_of b) (vars_of b) len go));
  }

  -- ---- expressions

  drops : (line : ℕ) (jump : ℕ → Rest) (behind again : List Rest) (t : Ty) (o : Option (List ℕ)) (env : Env) (s : Still) (next : Unit {0} → Rest) → Gave (setting b line 0 jump behind again) t o → dropped t o env s next ≡ next tt env s
  drops line jump behind again t None env s next g = ap (λ c. drop_checked c None env s next) g
  drops line jump behind again t (Some v) env s next g = ap (λ c. drop_checked c (Some v) env s next) g.0

  pub effect_does : {line : ℕ} (e : TExpr) → ValueIn b line 0 e → EffectIn b line (effect_code (at_line line (spot_in b)) e) (evaluated e)
  effect_does {line} e h = record {
    by = λ jump behind again pc next has go. record {
      by = λ env st slots last vars.
          (h jump behind again).effect.by (spot_in b).turns pc slots last env st (λ o env s. dropped (type_of e) o env s (λ _. next)) (omega arith) vars has (λ o env2 s now last2 g vars2 stays same.
          comes_out (site_of b) (drops line jump behind again (type_of e) o env2 s (λ _. next) g) (go.by env2 s now last2 vars2));
    };
  }

  pub optional_effect : {line : ℕ} (o : Option TExpr) → ((e : TExpr) → o ≡ Some e → ValueIn b line 0 e) → EffectIn b line (optional_code (at_line line (spot_in b)) o) (optionally o)
  optional_effect {line} (Some e) h = effect_does e (h e refl)
  optional_effect {line} None h = none_does

  -- ---- declarations

  -- the value that a local begins with
  pub record InitialDoes (line : ℕ) (i : TInitializer) : Type 0 where
    pub not_void : is_void (type_of i.value) ≡ false
    pub not_array : is_array (type_of i.value) ≡ false
    pub value : ValueIn b line 0 i.value
    pub place : PlaceIn b line 0 (Local (type_of i.value) i.local)

  abbrev initial_means : TInitializer → Ways → Task (Unit {0})
  initial_means i w env s next = local_here w i.local env s (λ f env s. value (told i.value w) env s (λ v env s. save w (type_of i.value) v f env s next))

  initial_does : {line : ℕ} (i : TInitializer) → InitialDoes line i → EffectIn b line (initializer_code (at_line line (spot_in b)) i) (initial_means i)
  initial_does {line} i h = record {
    by = λ jump behind again pc next has go. record {
      by = λ env st slots last vars.
          let k = setting b line 0 jump behind again in
          (stores_value k b.plain (type_of i.value) (placed (spot k) (Local (type_of i.value) i.local)) (coded (spot k) i.value) h.not_void h.not_array (h.place jump behind again) (h.value jump behind again)).by (spot_in b).turns pc slots last env st (λ _. next) (omega arith) vars has (λ env2 s now last2 vars2.
          go.by env2 s now last2 vars2);
    };
  }

  pub declare_does : {line : ℕ} (is : List TInitializer) → AllByRecursion (InitialDoes line) is → EffectIn b line (declare_code (at_line line (spot_in b)) is) (initialized is)
  declare_does {line} [] h = none_does
  declare_does {line} (i ∷ rest) h = both_do (initial_does i h.0) (declare_does rest h.1)

  -- ---- alloc

  pub record NewDoes (line : ℕ) (place : TPlace) : Type 0 where
    pub new : IsNew (place_type place)
    pub does : PlaceIn b line 0 place

  new_place_does : {line : ℕ} (place : TPlace) → NewDoes line place → EffectIn b line (allocates (at_line line (spot_in b)) (place_type place) (placed (at_line line (spot_in b)) place)) (λ w. allocated (place ∷ []) w)
  new_place_does {line} place h = record {
    by = λ jump behind again pc next has go. record {
      by = λ env st slots last vars.
          let k = setting b line 0 jump behind again in
          allocates_does k b.plain (place_type place) (placed (spot k) place) h.new (h.does jump behind again) (spot_in b).turns pc slots last env st (λ _. next) refl (omega arith) vars has (λ env2 s now last2 vars2.
          go.by env2 s now last2 vars2);
    };
  }

  pub alloc_does : {line : ℕ} (places : List TPlace) → AllByRecursion (NewDoes line) places → EffectIn b line (alloc_code (at_line line (spot_in b)) places) (allocated places)
  alloc_does {line} [] h = none_does
  alloc_does {line} (place ∷ rest) h = both_do (new_place_does place h.0) (alloc_does rest h.1)

  -- ---- unalloc

  pub record OldDoes (line : ℕ) (e : TExpr) : Type 0 where
    pub old : IsNew (type_of e)
    pub does : ValueIn b line 0 e

  old_not_void : (t : Ty) → IsNew t → is_void t ≡ false
  old_not_void t (block to e) = ap is_void e ∙ pointer_not_void to
  old_not_void t (channel element capacity e) = ap is_void e ∙ channel_not_void element capacity

  back_is : (t : Ty) (f : Ty-F Ty) (slot : ℕ) → out-Ty t ≡ f → give_back t slot ≡ give_back_at f slot
  unfolding give_back
  back_is t f slot e = ap (λ f. give_back_at f slot) e

  old_does : {line : ℕ} (e : TExpr) → OldDoes line e → EffectIn b line (gives_back (at_line line (spot_in b)) (type_of e) (coded (at_line line (spot_in b)) e)) (λ w. unallocated (e ∷ []) w)
  old_does {line} e h = record {
    by = λ jump behind again pc next has go. record {
      by = λ env st slots last vars.
          let k = setting b line 0 jump behind again in
          let w = ways_in b line jump behind again in
          let t = type_of e in
          let c = coded (spot k) e in
          let to = (spot_in b).turns in
          let ca = operand_code c to in
          let cb = here (spot k) (give_back t (operand_slot c to)) in
          operand_does k (h.does jump behind again) (old_not_void t h.old) to pc slots last env st (λ v env s. given_back w (out-Ty t) (slice_index v 0) env s (λ _ env s. next env s)) (omega arith) vars (has_front (site k) pc ca cb has) (λ v env2 s now last2 fits vars2 stays holds same.
          let one = one_word 0 v (subst (λ us. AreOf us v) (new_units k t h.old) fits) in
          let there : now (operand_slot c to) ≡ Some one.word = (subst (Holds now (operand_slot c to)) one.is holds).0 in
          let len : pc + length ca + 1 ≡ pc + length (ca ++ cb) = omega (arith, length-append ca cb) in
          comes_out (site k) (ap (λ v. given_back w (out-Ty t) (slice_index v 0) env2 s (λ _ env s. next env s)) one.is)
          (back line jump behind again next t (operand_slot c to) one.word (pc + length ca) now last2 env2 s there h.old (has_back (site k) pc ca cb has) (goes_at (site_of b) (vars_of b) len go) vars2));
    };
  }
    where
      back : (line : ℕ) (jump : ℕ → Rest) (behind again : List Rest) (next : Rest) (t : Ty) (slot a pc : ℕ) (now last : Slots) (env : Env) (s : Still) → now slot ≡ Some a → IsNew t → HasAt (site_of b) pc (here (at_line line (spot_in b)) (give_back t slot)) → Goes b (pc + 1) next → vars_of b env now → Runs (site_of b) (given_back (ways_in b line jump behind again) (out-Ty t) a env s (λ _ env s. next env s)) pc now last s
      back line jump behind again next t slot a pc now last env s there (block to e) has go vars =
          let f : out-Ty t ≡ Ty-F.Pointer to = ap out-Ty e ∙ out_pointer to in
          comes_out (site_of b) (ap (λ f. given_back (ways_in b line jump behind again) f a env s (λ _ env s. next env s)) f)
          (free_does (site_of b) {kind = Heap} (λ ws s. next env s) (subst (λ o. HasAt (site_of b) pc (here (at_line line (spot_in b)) o)) (back_is t (Ty-F.Pointer to) slot f) has).0 there (λ s. go.by env s now last vars))
      back line jump behind again next t slot a pc now last env s there (channel element capacity e) has go vars =
          let f : out-Ty t ≡ Ty-F.Chan element capacity = ap out-Ty e ∙ out_channel element capacity in
          comes_out (site_of b) (ap (λ f. given_back (ways_in b line jump behind again) f a env s (λ _ env s. next env s)) f)
          (free_chan_does (site_of b) (λ ws s. next env s) (subst (λ o. HasAt (site_of b) pc (here (at_line line (spot_in b)) o)) (back_is t (Ty-F.Chan element capacity) slot f) has).0 there (λ s. go.by env s now last vars))

  pub unalloc_does : {line : ℕ} (es : List TExpr) → AllByRecursion (OldDoes line) es → EffectIn b line (unalloc_code (at_line line (spot_in b)) es) (unallocated es)
  unalloc_does {line} [] h = none_does
  unalloc_does {line} (e ∷ es) h = both_do (old_does e h.0) (unalloc_does es h.1)

  -- ---- check

  pub check_does : {line : ℕ} (e : TExpr) → is_scalar (type_of e) ≡ true → ValueIn b line 0 e → EffectIn b line (checks (at_line line (spot_in b)) (words (spot_in b) (type_of e)) (coded (at_line line (spot_in b)) e)) (λ w env s next. value (told e w) env s (λ v env s. if_zero v (traps w trap.Check) (give tt) env s next))
  check_does {line} e scalar h = record {
    by = λ jump behind again pc next has go. record {
      by = λ env st slots last vars.
          let k = setting b line 0 jump behind again in
          let w = ways_in b line jump behind again in
          let t = type_of e in
          let c = coded (spot k) e in
          let n = count_of k t in
          let to = (spot_in b).turns in
          let ca = operand_code c to in
          let cb = skip_if_set (spot k) n (operand_slot c to) to 1 in
          let cd = here (spot k) (op.Trap trap.Check) in
          let back = has_back (site k) pc ca (cb ++ cd) has in
          let test = scalar_test k t scalar in
          operand_does k (h jump behind again) test.not_void to pc slots last env st (λ v env s. if_zero v (traps w trap.Check) (give tt) env s (λ _. next)) (omega arith) vars (has_front (site k) pc ca (cb ++ cd) has) (λ v env2 s now last2 fits vars2 stays holds same.
          let q = test_words k t v test fits in
          jumps_if_set k v n (operand_slot c to) to 1 (pc + length ca) now last2 s _ q.0 q.1 holds (has_front (site k) (pc + length ca) cb cd back) (λ now2 below.
          let vars3 = vars_kept (scene k) env2 to now2 now (omega arith) below vars2 in
          let len : pc + length ca + length cb + 1 ≡ pc + length (ca ++ (cb ++ cd)) = omega (arith, length-append ca (cb ++ cd), length-append cb cd) in
          on line jump behind again next (is_zero v) (pc + length ca + length cb) now2 last2 env2 s (has_back (site k) (pc + length ca) cb cd back) (goes_at (site_of b) (vars_of b) len go) vars3));
    };
  }
    where
      on : (line : ℕ) (jump : ℕ → Rest) (behind again : List Rest) (next : Rest) (z : Bool) (pc : ℕ) (now last : Slots) (env : Env) (s : Still) → HasAt (site_of b) pc (here (at_line line (spot_in b)) (op.Trap trap.Check)) → Goes b (pc + 1) next → vars_of b env now → Runs (site_of b) ((if z then (traps {A = Unit {0}} (ways_in b line jump behind again) trap.Check) else give tt) env s (λ _. next)) (if z then pc else pc + 1) now last s
      on line jump behind again next true pc now last env s has go vars = trap_does (site_of b) has.0
      on line jump behind again next false pc now last env s has go vars = go.by env s now last vars
