-- Iterators: each goes through its turns, and the others through all of theirs in each.
use Rattle.std.proofs.Common.{◌≡◌, ℕ, zero, suc, ◌+◌, ◌*◌, ◌<◌, ◌≤◌, ◌^◌, List, [], ◌∷◌, ◌++◌, take, length, Option, Some, None, refl, sym, ap, ◌∙◌, subst, ◌⊎◌, inl, inr, ⊎_elim, le_refl, arith, length-append}
use Rattle.std.specs.Prelude.{Bool, true, false, not, if◌then◌else◌, slice_index}
use Rattle.std.specs.List.{AllByRecursion}
use Rattle.std.proofs.lemmas.Bool.{cases_eq}
use Rattle.al_base.specs.declared.arith.Op.TheVariants as arith_op
use Rattle.al_base.specs.declared.trap.Trap.TheVariants as trap
use Rattle.al_event.specs.declared.act.Act.TheVariants as act
use Rattle.al_typed.specs.declared.ty.Ty.{Ty}
use Rattle.al_typed.specs.declared.expression.TExpr.{TExpr}
use Rattle.al_typed.specs.declared.statement.TBounds.{TBounds}
use Rattle.al_typed.specs.declared.statement.TStmt.{Value}
use Rattle.al_typed.specs.Typed.{type_of}
use Rattle.al_meaning.specs.Words.{sum, is_below}
use Rattle.al_meaning.specs.Items.{Bounds}
use Rattle.al_meaning.specs.Execute.{bounds_exprs, bounds_of, next_turn}
use Rattle.al_meaning.specs.Tasks.{Still, Env, Rest, Ways, ◌>>◌, a_turn, turn_in, stop_in, give}
use Rattle.al_meaning.specs.Told.{dropped, drop_checked}
use Rattle.al_meaning.specs.Meant.{evaluated, values_of, set_turn, turns_of, iterated}
use Rattle.al_ir.specs.declared.ir.Operation.{Operation}
use Rattle.al_ir.specs.declared.op.Op.TheVariants as op
use Rattle.al_ir.specs.Control.{Slots, put}
use Rattle.al_ir.specs.Step.{private_step}
use Rattle.al_ir.specs.Meaning.{control_weight, resume}
use Rattle.al_ir.proofs.Lighter.{lighter}
use Rattle.al_lowered.specs.Rules.{rules}
use Rattle.al_lowered.proofs.Does.{unfinished}
use Rattle.al_lower_code.specs.Homes.{Spot, at_line, operation}
use Rattle.al_lower_code.specs.Expressions.{coded}
use Rattle.al_lower_code.specs.Heads.{bounds_code, turns_code, value_code}
use Rattle.al_lower_steps.specs.Site.{HasAt}
use Rattle.al_lower_steps.proofs.Slots.{put_same, put_other, put_below, below_refl}
use Rattle.al_lower_steps.proofs.Steps.{Runs, moved, comes_out, has_front, has_back}
use Rattle.al_lower_steps.proofs.Plain.{copy_does, word_by_does}
use Rattle.al_lower_steps.proofs.Jumps.{skip_unless_does, turn_does}
use Rattle.al_lower_claims.proofs.Variables.{Vars, vars_kept, behind_free}
use Rattle.al_lower_claims.proofs.Claims.{Gave}
use Rattle.al_lower_flow.proofs.Flow.{goes_at}
use Rattle.al_lower_bodies.proofs.Bodies.{Body, setting, ways_in, site_of, scene_of, vars_of, spot_in, Goes, StmtIn, ValueIn}
use Rattle.al_lower_bodies.proofs.Effects.{effect_does}
use Rattle.al_lower_iterators.proofs.Words.{below, next_word, set_before, set_there, set_long}
use Rattle.al_lower_iterators.proofs.Bounds.{BoundsAt, BoundIn, bounds_do}

not_true : (c : Bool) → not c ≡ true → c ≡ false
not_true false e = refl
not_true true e = absurd (cc)

not_false : (c : Bool) → not c ≡ false → c ≡ true
not_false true e = refl
not_false false e = absurd (cc)

-- how many operations
turns_length : (s : Spot) (count turn bound : ℕ) (body : List Operation) (pc other : ℕ) → length (turns_code s count turn bound body pc) ≡ length (turns_code s count turn bound body other)
turns_length s zero turn bound body pc other = refl
turns_length s (suc n) turn bound body pc other =
    let p = turns_code s n (turn + 1) (bound + 2) body (pc + 2) in
    let q = turns_code s n (turn + 1) (bound + 2) body (other + 2) in
    let h = turns_length s n (turn + 1) (bound + 2) body (pc + 2) (other + 2) in
    omega (arith, h, length-append p (operation s.line (op.WordBy arith_op.Add true turn turn 1) ∷ operation s.line (op.Turn (pc + 1)) ∷ []), length-append q (operation s.line (op.WordBy arith_op.Add true turn turn 1) ∷ operation s.line (op.Turn (other + 1)) ∷ []))

module _ (b : Body) (line total : ℕ) (e : TExpr) (value_does : ValueIn b line total e) (jump : ℕ → Rest) (behind again : List Rest) where
  abbrev w : Ways
  w = ways_in b line jump behind again

  abbrev s : Spot
  s = at_line line (spot_in b)

  abbrev turns : ℕ
  turns = (spot_in b).turns

  -- in each turn of all iterators
  abbrev innermost : List Operation
  innermost = (coded s e).effect (turns + 3 * total)

  -- with so many iterators that have their turns
  abbrev With : ℕ → Env → Slots → Type 0
  With number env slots = Vars (scene_of b number) env slots

  -- turns and bounds stay, but for the turns of these iterators
  abbrev Still_ : ℕ → Slots → Slots → Type 0
  Still_ number now old = (i : ℕ) → turns ≤ i → i < turns + 3 * total → (i < turns + number) ⊎ (turns + total ≤ i) → now i ≡ old i

  still_both : (number more : ℕ) (z y x : Slots) → number ≤ more → Still_ more z y → Still_ number y x → Still_ number z x
  still_both number more z y x le h k i low high a = h i low high (⊎_elim (λ q. inl (omega (arith, q, le))) (λ q. inr q) a) ∙ k i low high a

  bounds_stay : (xs : List Bounds) (at number : ℕ) (now old : Slots) → turns + total ≤ at → at + 2 * length xs ≤ turns + 3 * total → Still_ number now old → BoundsAt old at xs → BoundsAt now at xs
  bounds_stay [] at number now old low high h k = tt
  bounds_stay (x ∷ xs) at number now old low high h k =
      let h0 = h at (omega (arith, low)) (omega (arith, high)) (inr low) in
      let h1 = h (at + 1) (omega (arith, low)) (omega (arith, high)) (inr (omega (arith, low))) in
      (((h0 ∙ k.0.0.0, (h1 ∙ k.0.0.1.0, tt)), k.0.1), bounds_stay xs (at + 2) number now old (omega (arith, low)) (omega (arith, high)) h k.1)

  fewer : (number more : ℕ) (env : Env) (slots : Slots) → number ≤ more → With more env slots → With number env slots
  fewer number more env slots le v =
      let there = v.rounds_there in
      record {
        locals = λ n l x. let h = v.locals n l x in record { value = h.value; is = h.is; fits = h.fits; holds = h.holds };
        block = v.block;
        no_block = v.no_block;
        block_fits = v.block_fits;
        around = v.around;
        around_fits = v.around_fits;
        rounds = λ i lt. v.rounds i (omega (arith, lt, le));
        rounds_fit = λ i lt. v.rounds_fit i (omega (arith, lt, le));
        rounds_there = omega (arith, there, le);
      }

  -- an iterator gets a turn
  one_more : (number a : ℕ) (env : Env) (slots : Slots) → slots (turns + number) ≡ Some a → a < 2 ^ 32 → With number env slots → With (number + 1) (record env { turns = take number env.turns ++ a ∷ [] }) slots
  one_more number a env slots there small v =
      let long = set_long env.turns number a v.rounds_there in
      record {
        locals = λ n l x. let h = v.locals n l x in record { value = h.value; is = h.is; fits = h.fits; holds = h.holds };
        block = v.block;
        no_block = v.no_block;
        block_fits = v.block_fits;
        around = v.around;
        around_fits = v.around_fits;
        rounds = λ i lt. ⊎_elim
            (λ same. subst (λ j. slots (turns + j) ≡ Some (slice_index (take number env.turns ++ a ∷ []) j)) (sym same) (there ∙ ap Some (sym (set_there env.turns number a v.rounds_there))))
            (λ other. let less : i < number = omega (arith, lt, other) in v.rounds i less ∙ ap Some (sym (set_before env.turns number i a less v.rounds_there)))
            (cases_eq i number);
        rounds_fit = λ i lt. ⊎_elim
            (λ same. subst (λ j. slice_index (take number env.turns ++ a ∷ []) j < 2 ^ 32) (sym same) (subst (λ n. n < 2 ^ 32) (sym (set_there env.turns number a v.rounds_there)) small))
            (λ other. let less : i < number = omega (arith, lt, other) in subst (λ n. n < 2 ^ 32) (sym (set_before env.turns number i a less v.rounds_there)) (v.rounds_fit i less))
            (cases_eq i number);
        rounds_there = omega (arith, long);
      }

  drops : (t : Ty) (o : Option (List ℕ)) (env : Env) (st : Still) (next : Unit {0} → Rest) → Gave (setting b line total jump behind again) t o → dropped t o env st next ≡ next tt env st
  drops t None env st next g = ap (λ c. drop_checked c None env st next) g
  drops t (Some v) env st next g = ap (λ c. drop_checked c (Some v) env st next) g.0

  -- how a run goes on behind iterators from this one on
  abbrev GoesBehind : (number : ℕ) → Slots → Rest → (end : ℕ) → Type 0
  GoesBehind number old next end = (env : Env) (st : Still) (now last : Slots) → With number env now → Still_ number now old → Runs (site_of b) (next env st) end now last st

  inner_does : (pc : ℕ) (slots last : Slots) (env : Env) (st : Still) (next : Rest) → With total env slots → HasAt (site_of b) pc innermost → GoesBehind total slots next (pc + length innermost) → Runs (site_of b) (evaluated e w env st (λ _. next)) pc slots last st
  inner_does pc slots last env st next vars has go =
      (value_does jump behind again).effect.by (turns + 3 * total) pc slots last env st (λ o env st. dropped (type_of e) o env st (λ _. next)) (omega arith) vars has (λ o env2 st2 now last2 g vars2 stays same.
      comes_out (site_of b) (drops (type_of e) o env2 st2 (λ _. next) g)
      (go env2 st2 now last2 vars2 (λ i low high a. stays i (behind_free (scene_of b total) i (omega (arith, low))) high)))

  module _ (fuel : ℕ) where
    -- iterators from this number on, whose turns and bounds stand from these slots on
    abbrev Iterates : List Bounds → (number turn bound : ℕ) → Type 0
    Iterates xs number turn bound = (pc : ℕ) (slots last : Slots) (env : Env) (st : Still) (next : Rest) → With number env slots → BoundsAt slots bound xs → HasAt (site_of b) pc (turns_code s (length xs) turn bound innermost pc) → GoesBehind number slots next (pc + length (turns_code s (length xs) turn bound innermost pc)) → Runs (site_of b) (iterated fuel number xs w (evaluated e w) env st (λ _. next)) pc slots last st

    module _ (xs : List Bounds) (number turn bound pc : ℕ) (old : Slots) (next : Rest) (et : turn ≡ turns + number) (eb : bound ≡ turns + total + 2 * number) (count : number + suc (length xs) ≡ total) (has : HasAt (site_of b) pc (turns_code s (suc (length xs)) turn bound innermost pc)) (go : GoesBehind number old next (pc + length (turns_code s (suc (length xs)) turn bound innermost pc))) (inner : Iterates xs (number + 1) (turn + 1) (bound + 2)) where
      abbrev inner_code : List Operation
      inner_code = turns_code s (length xs) (turn + 1) (bound + 2) innermost (pc + 2)

      abbrev tail_code : List Operation
      tail_code = operation line (op.WordBy arith_op.Add true turn turn 1) ∷ operation line (op.Turn (pc + 1)) ∷ []

      code_two : HasAt (site_of b) (pc + 2) (inner_code ++ tail_code)
      code_two = let z : pc + 1 + 1 ≡ pc + 2 = omega arith in subst (λ n. HasAt (site_of b) n (inner_code ++ tail_code)) z has.1.1

      -- the turns from one on, at most so many
      abbrev turns_left : ℕ → Bounds → Rest
      turns_left left x env st = turns_of left number x w (iterated fuel (number + 1) xs w (evaluated e w)) env st (λ _. next)

      abbrev next_round : ℕ → Bounds → Rest
      next_round left x env st = turn_in line st (λ st. turns_left left (next_turn x) env st)

      -- what stands in slots before a round
      record Ready (x : Bounds) (env : Env) (slots : Slots) : Type 0 where
        vars : With number env slots
        turn_is : slots turn ≡ Some x.from
        to_is : slots (bound + 1) ≡ Some x.to
        small : x.from < 2 ^ 32
        rest : BoundsAt slots (bound + 2) xs
        still : Still_ number slots old

      next_ready : (x : Bounds) (env env2 : Env) (slots now : Slots) → Ready x env slots → With (number + 1) env2 now → Still_ (number + 1) now slots → Ready (next_turn x) env2 (put turn (sum x.from 1) now)
      next_ready x env env2 slots now r vars2 still2 =
          let now3 : Slots = put turn (sum x.from 1) now in
          let still3 : Still_ number now3 now = λ i low high a. put_other now turn (sum x.from 1) i (λ same. ⊎_elim (λ q. omega (arith, q, same, et)) (λ q. omega (arith, q, same, et, count)) a) in
          let still4 : Still_ number now3 slots = λ i low high a. still3 i low high a ∙ still2 i low high (⊎_elim (λ q. inl (omega (arith, q))) (λ q. inr q) a) in
          record {
            vars = vars_kept (scene_of b number) env2 turn now3 now (omega (arith, et)) (put_below now now turn (sum x.from 1) turn (le_refl turn) (below_refl turn now)) (fewer number (number + 1) env2 now (omega arith) vars2);
            turn_is = put_same now turn (sum x.from 1);
            to_is = still4 (bound + 1) (omega (arith, eb)) (omega (arith, eb, count)) (inr (omega (arith, eb))) ∙ r.to_is;
            small = omega arith;
            rest = bounds_stay xs (bound + 2) number now3 slots (omega (arith, eb)) (omega (arith, eb, count)) still4 r.rest;
            still = λ i low high a. still4 i low high a ∙ r.still i low high a;
          }

      rounds : (left : ℕ) (x : Bounds) (slots last : Slots) (env : Env) (st : Still) → Ready x env slots → Runs (site_of b) (turns_left left x env st) (pc + 1) slots last st
      rounds zero x slots last env st r = unfinished (private_step b.ir) (control_weight b.ir) resume (lighter b.ir) (rules b.program)
      rounds (suc left) x slots last env st r =
          let q = below x.from x.to in
          let len = length-append inner_code tail_code in
          let two : pc + 1 + 1 ≡ pc + 2 = omega arith in
          let behind_all : pc + 1 + 1 + (length inner_code + 2) ≡ pc + length (turns_code s (suc (length xs)) turn bound innermost pc) = omega (arith, len) in
          let o = turns_left (suc left) x env st in
          skip_unless_does (site_of b) (λ c. o) has.1.0 r.turn_is r.to_is q.is
          (λ z. comes_out (site_of b) (over_is left x env st (not_true (is_below x.from x.to) (sym q.zero ∙ z))) (moved (site_of b) behind_all (go env st slots last r.vars r.still)))
          (λ z. comes_out (site_of b) (goes_is left x env st (not_false (is_below x.from x.to) (sym q.zero ∙ z)))
          (moved (site_of b) two (inner (pc + 2) slots last (record env { turns = take number env.turns ++ x.from ∷ [] }) st (next_round left x) (one_more number x.from env slots (subst (λ i. slots i ≡ Some x.from) et r.turn_is) r.small r.vars) r.rest (has_front (site_of b) (pc + 2) inner_code tail_code code_two) (λ env2 st2 now last2 vars2 still2.
          let tail = has_back (site_of b) (pc + 2) inner_code tail_code code_two in
          let there : now turn ≡ Some x.from = still2 turn (omega (arith, et)) (omega (arith, et, count)) (inl (omega (arith, et))) ∙ r.turn_is in
          let ready = next_ready x env env2 slots now r vars2 still2 in
          word_by_does (site_of b) {op = arith_op.Add} {signed = true} (λ c. elim c [ Some _ ↦ next_round left x env2 st2 | None ↦ stop_in line (act.Trap trap.Divide) st2 ]) tail.0 there refl (λ z is.
          let z_is : sum x.from 1 ≡ z = same_some (sum x.from 1) z (sym (next_word x.from r.small) ∙ is) in
          subst (λ n. Runs (site_of b) (next_round left x env2 st2) (pc + 2 + length inner_code + 1) (put turn n now) last2 st2) z_is
          (turn_does (site_of b) (λ st. turns_left left (next_turn x) env2 st) tail.1.0 (λ st3. rounds left (next_turn x) (put turn (sum x.from 1) now) last2 env2 st3 ready)))))))
        where
          same_some : (a c : ℕ) → Some a ≡ Some c → a ≡ c
          same_some a c e = cc

          over_is : (left : ℕ) (x : Bounds) (env : Env) (st : Still) → is_below x.from x.to ≡ false → turns_left (suc left) x env st ≡ next env st
          over_is left x env st q = ap (λ c. (if c then (set_turn number x.from >> (iterated fuel (number + 1) xs w (evaluated e w) >> (a_turn w >> turns_of left number (next_turn x) w (iterated fuel (number + 1) xs w (evaluated e w))))) else give tt) env st (λ _. next)) q

          goes_is : (left : ℕ) (x : Bounds) (env : Env) (st : Still) → is_below x.from x.to ≡ true → turns_left (suc left) x env st ≡ iterated fuel (number + 1) xs w (evaluated e w) (record env { turns = take number env.turns ++ x.from ∷ [] }) st (λ _. next_round left x)
          goes_is left x env st q = ap (λ c. (if c then (set_turn number x.from >> (iterated fuel (number + 1) xs w (evaluated e w) >> (a_turn w >> turns_of left number (next_turn x) w (iterated fuel (number + 1) xs w (evaluated e w))))) else give tt) env st (λ _. next)) q

    iterates : (xs : List Bounds) (number turn bound : ℕ) → turn ≡ turns + number → bound ≡ turns + total + 2 * number → number + length xs ≡ total → Iterates xs number turn bound
    iterates [] number turn bound et eb count pc slots last env st next vars bounds has go =
        let same : number ≡ total = omega (arith, count) in
        inner_does pc slots last env st next (subst (λ n. With n env slots) same vars) has (subst (λ n. GoesBehind n slots next (pc + length innermost)) same go)
    iterates (x ∷ xs) number turn bound et eb count pc slots last env st next vars bounds has go =
        let now : Slots = put turn x.from slots in
        let still : Still_ number now slots = λ i low high a. put_other slots turn x.from i (λ same. ⊎_elim (λ q. omega (arith, q, same, et)) (λ q. omega (arith, q, same, et, count)) a) in
        let there = bounds_stay (x ∷ xs) bound number now slots (omega (arith, eb)) (omega (arith, eb, count)) still bounds in
        copy_does (site_of b) has.0 bounds.0.0.0
        (rounds xs number turn bound pc slots next et eb count has go (iterates xs (number + 1) (turn + 1) (bound + 2) (omega (arith, et)) (omega (arith, eb)) (omega (arith, count))) fuel x now last env st
        (record {
          vars = vars_kept (scene_of b number) env turn now slots (omega (arith, et)) (put_below slots slots turn x.from turn (le_refl turn) (below_refl turn slots)) vars;
          turn_is = put_same slots turn x.from;
          to_is = there.0.0.1.0;
          small = there.0.1.0;
          rest = there.1;
          still = still;
        }))

-- ---- the statement

module _ (b : Body) where
  -- an expression with iterators, which have these bounds
  pub record IteratesIn (line : ℕ) (ts : List TBounds) (e : TExpr) : Type 0 where
    pub bounds : AllByRecursion (BoundIn b line) ts
    pub value : ValueIn b line (length ts) e

  value_length : (s : Spot) (ts : List TBounds) (e : TExpr) (pc other : ℕ) → length (value_code s ts e pc) ≡ length (value_code s ts e other)
  value_length s [] e pc other = refl
  value_length s (t ∷ ts) e pc other =
      let n = length (t ∷ ts) in
      let bounds = bounds_code s (t ∷ ts) (s.turns + n) in
      let body = (coded s e).effect (s.turns + 3 * n) in
      let h = turns_length s n s.turns (s.turns + n) body (pc + length bounds) (other + length bounds) in
      omega (arith, h, length-append bounds (turns_code s n s.turns (s.turns + n) body (pc + length bounds)), length-append bounds (turns_code s n s.turns (s.turns + n) body (other + length bounds)))

  goes_through : {line : ℕ} (ts : List TBounds) (e : TExpr) → IteratesIn line ts e → (fuel pc : ℕ) (jump : ℕ → Rest) (behind again : List Rest) (next : Rest) → HasAt (site_of b) pc (value_code (at_line line (spot_in b)) ts e pc) → Goes b (pc + length (value_code (at_line line (spot_in b)) ts e pc)) next → Goes b pc (λ env st. values_of (bounds_exprs ts) (ways_in b line jump behind again) env st (λ values env st. iterated fuel 0 (bounds_of values) (ways_in b line jump behind again) (evaluated e (ways_in b line jump behind again)) env st (λ _. next)))
  goes_through {line} [] e h fuel pc jump behind again next has go = (effect_does b e h.value).by jump behind again pc next has go
  goes_through {line} (t ∷ ts) e h fuel pc jump behind again next has go = record {
    by = λ env st slots last vars.
        let s = at_line line (spot_in b) in
        let w = ways_in b line jump behind again in
        let n = length (t ∷ ts) in
        let to = s.turns + n in
        let ca = bounds_code s (t ∷ ts) to in
        let body = (coded s e).effect (s.turns + 3 * n) in
        let cb = turns_code s n s.turns to body (pc + length ca) in
        let len : pc + length ca + length cb ≡ pc + length (ca ++ cb) = omega (arith, length-append ca cb) in
        bounds_do b line (t ∷ ts) h.bounds jump behind again to pc slots last env st (λ values env st. iterated fuel 0 (bounds_of values) w (evaluated e w) env st (λ _. next)) (omega arith) vars (has_front (site_of b) pc ca cb has) (λ vs env2 st2 now last2 vars2 stays there count.
        let code : HasAt (site_of b) (pc + length ca) (turns_code s (length (bounds_of vs)) s.turns to body (pc + length ca)) = subst (λ m. HasAt (site_of b) (pc + length ca) (turns_code s m s.turns to body (pc + length ca))) (sym count) (has_back (site_of b) pc ca cb has) in
        iterates b line n e h.value jump behind again fuel (bounds_of vs) 0 s.turns to (omega arith) (omega arith) (omega (arith, count)) (pc + length ca) now last2 env2 st2 next vars2 there code (λ env3 st3 now3 last3 vars3 still3.
        moved (site_of b) (ap (λ m. pc + length ca + length (turns_code s m s.turns to body (pc + length ca))) count ∙ len) (go.by env3 st3 now3 last3 vars3)));
  }

  pub value_statement_does : {breaks loops line : ℕ} (ts : List TBounds) (e : TExpr) → IteratesIn line ts e → StmtIn b breaks loops (Value line ts e)
  value_statement_does {breaks} {loops} {line} ts e h = record {
    sized = λ c pc. value_length (at_line line (spot_in b)) ts e pc 0;
    by = λ n pc line0 c jump behind again next has round jumps go.
        let same = value_length (at_line line (spot_in b)) ts e pc 0 in
        goes_through ts e h n pc jump behind again next has (goes_at (site_of b) (vars_of b) (ap (λ m. pc + m) same) go);
    from = λ n l pc. tt;
  }
