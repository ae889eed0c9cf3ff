-- Returns, calls in the place of a function, and the end of its body.
use Rattle.std.proofs.Common.{◌≡◌, ℕ, ◌+◌, ◌^◌, List, [], ◌∷◌, ◌++◌, length, Option, Some, None, refl, sym, ap, ◌∙◌, subst, inr, arith}
use Rattle.std.specs.Prelude.{Bool, true, false, not, ◌==◌, ◌&&◌, if◌then◌else◌}
use Rattle.std.proofs.lemmas.Grind.{common_steps}
use Rattle.std.proofs.Math.Nat.{zero-mod}
use Rattle.al_event.specs.declared.act.Act.TheVariants as act
use Rattle.al_event.specs.declared.act.Block.TheVariants.{Frame as FrameBlock}
use Rattle.al_typed.specs.declared.layout.Unit.{Unit as StorageUnit}
use Rattle.al_typed.specs.declared.ty.Ty.{Ty}
use Rattle.al_typed.specs.declared.expression.TExpr.{TExpr, Call', Held-TExpr-Call-2, Row_of-TExpr}
use Rattle.al_typed.specs.Types.{is_void, is_array}
use Rattle.al_typed.specs.Typed.{type_of}
use Rattle.al_meaning.specs.Words.{zero_words}
use Rattle.al_meaning.specs.Places.{function_at, locals_of, has_block, words_in}
use Rattle.al_meaning.specs.Here.{units_in}
use Rattle.al_meaning.specs.Calls.{zero_given, default_of}
use Rattle.al_meaning.specs.Tasks.{Still, Outcome, Env, Rest, ask_in, turn_in}
use Rattle.al_meaning.specs.Told.{value, needed, told}
use Rattle.al_meaning.specs.Meant.{freed, returned, become_in, start_of}
use Rattle.al_ir.specs.declared.ir.Operation.{Operation}
use Rattle.al_ir.specs.declared.op.Op.TheVariants as op
use Rattle.al_ir.specs.Control.{Slots, first_slots, slots_from}
use Rattle.al_lower_words.specs.Units.{AreOf}
use Rattle.al_lower_words.proofs.Integers.{length_of, words_are}
use Rattle.al_lower_code.specs.Homes.{Spot, at_line, here, block_home}
use Rattle.al_lower_code.specs.Moving.{copies, zeros}
use Rattle.al_lower_code.specs.Coded.{Coded}
use Rattle.al_lower_code.specs.Expressions.{coded}
use Rattle.al_lower_code.specs.Functions.{epilogue}
use Rattle.al_lower_code.specs.Simple.{has_block_here, frees_block, return_code, start_code, become_code}
use Rattle.al_lower_steps.specs.Slots.{Holds, HoldsGiven}
use Rattle.al_lower_steps.specs.Site.{HasOperation, HasAt}
use Rattle.al_lower_steps.specs.Given.{GivenOf}
use Rattle.al_lower_steps.proofs.Slots.{holds_first, holds_from_start}
use Rattle.al_lower_steps.proofs.Steps.{Runs, moved, comes_out, has_front, has_back}
use Rattle.al_lower_steps.proofs.Actions.{free_does}
use Rattle.al_lower_steps.proofs.Calls.{leave_does, become_does}
use Rattle.al_lower_claims.proofs.Moving.{copies_do, zeros_do}
use Rattle.al_lower_claims.proofs.Variables.{lone}
use Rattle.al_lower_claims.proofs.Claims.{site, spot, GoesOn}
use Rattle.al_lower_claims.proofs.Operands.{free_does as value_in_free}
use Rattle.al_lower_values.proofs.Calls.{gave_same}
use Rattle.al_lower_bodies.proofs.Bodies.{Body, setting, ways_in, site_of, vars_of, spot_in, Goes, EffectIn, ValueIn}
use Rattle.al_lower_bodies.proofs.Starting.{StartIn, start_does}

true_is_not : (b : Bool) → b ≡ true → b ≡ false → ⊥
true_is_not true h k = cc
true_is_not false h k = cc

both_parts : (a b : Bool) → (a && not b) ≡ true → (a ≡ true) × (b ≡ false)
both_parts true false e = (refl, refl)
both_parts true true e = absurd (cc)
both_parts false b e = absurd (cc)

pub zero_length : (n : ℕ) → length (zero_words n) ≡ n
zero_length n = grind (arith, common_steps)

-- zero has the bytes of every unit
pub zero_fits : (us : List StorageUnit) → AreOf us (zero_words (length us))
zero_fits [] = refl
zero_fits (u ∷ us) = rw (zero-mod (256 ^ u.size), zero_fits us) refl

module _ (b : Body) where
  abbrev line_spot : ℕ → Spot
  line_spot line = at_line line (spot_in b)

  has_is : has_block (locals_of (function_at b.program b.function)) ≡ has_block b.row.locals
  has_is = ap (λ r. has_block (locals_of r)) b.there

  -- ---- the shared block

  frees_if : (line : ℕ) → Bool → List Operation
  frees_if line c = if c then here (line_spot line) (op.Free (block_home b.program b.function) FrameBlock) else []

  pub freed_does : (line pc : ℕ) (slots last : Slots) (env : Env) (s : Still) (next : Still → Outcome) → HasAt (site_of b) pc (frees_block (line_spot line)) → vars_of b env slots → ((s : Still) → Runs (site_of b) (next s) (pc + length (frees_block (line_spot line))) slots last s) → Runs (site_of b) (freed line b.row.locals env.block s next) pc slots last s
  freed_does line pc slots last env s next has vars go = on (has_block (locals_of (function_at b.program b.function))) refl has go
    where
      on : (c : Bool) → has_block (locals_of (function_at b.program b.function)) ≡ c → HasAt (site_of b) pc (if c then here (line_spot line) (op.Free (block_home b.program b.function) FrameBlock) else []) → ((s : Still) → Runs (site_of b) (next s) (pc + length (if c then here (line_spot line) (op.Free (block_home b.program b.function) FrameBlock) else [])) slots last s) → Runs (site_of b) (freed line b.row.locals env.block s next) pc slots last s
      on true e has go =
          comes_out (site_of b) (ap (λ c. if c then ask_in line (act.Free env.block FrameBlock) s (λ _ s. next s) else next s) (sym has_is ∙ e))
          (free_does (site_of b) {kind = FrameBlock} (λ ws s. next s) has.0 (vars.block e) (λ s. go s))
      on false e has go =
          let z : pc ≡ pc + 0 = omega arith in
          comes_out (site_of b) (ap (λ c. if c then ask_in line (act.Free env.block FrameBlock) s (λ _ s. next s) else next s) (sym has_is ∙ e))
          (moved (site_of b) z (go s))

  pub left_does : {line n pc : ℕ} {slots last : Slots} {s : Still} (o : Option (List ℕ)) → HasOperation (site_of b) pc line (op.Leave n) → GivenOf b.program b.row.returns o → HoldsGiven (first_slots n slots) 0 o → Runs (site_of b) (turn_in line s (λ s. b.given o s)) pc slots last s
  left_does {line} {n} {pc} {slots} {last} {s} o has gives holds = leave_does (site_of b) (λ s. b.given o s) has (λ s. b.returns o s (first_slots n slots) gives holds)

  -- ---- returns without a value

  pub return_none_does : {line : ℕ} → is_void b.row.returns ≡ true → EffectIn b line (return_code (line_spot line) None) (λ w env s next. w.return line None env s)
  return_none_does {line} void = record {
    by = λ jump behind again pc next has go. record {
      by = λ env st slots last vars.
          let ca = frees_block (line_spot line) in
          let cb = here (line_spot line) (op.Leave 0) in
          freed_does line pc slots last env st (λ s. turn_in line s (λ s. b.given None s)) (has_front (site_of b) pc ca cb has) vars (λ s. left_does None (has_back (site_of b) pc ca cb has).0 void tt);
    };
  }

  -- ---- returns with a value

  pub record ReturnIn (line : ℕ) (e : TExpr) : Type 0 where
    pub is : type_of e ≡ b.row.returns
    pub not_void : is_void (type_of e) ≡ false
    pub not_array : is_array (type_of e) ≡ false
    pub does : ValueIn b line 0 e

  pub return_value_does : {line : ℕ} (e : TExpr) → ReturnIn line e → EffectIn b line (return_code (line_spot line) (Some e)) (λ w env s next. value (told e w) env s (λ v env s. w.return line (Some v) env s))
  return_value_does {line} e h = record {
    by = λ jump behind again pc next has go. record {
      by = λ env st slots last vars. on jump behind again pc env st slots last vars (((count == 1) && not (has_block_here (line_spot line)))) refl has;
    };
  }
    where
      t : Ty
      t = type_of e

      c : Coded
      c = coded (line_spot line) e

      count : ℕ
      count = words_in b.program (type_of e)

      turns : ℕ
      turns = (spot_in b).turns

      gives : (v : List ℕ) → AreOf (units_in b.program (type_of e)) v → GivenOf b.program b.row.returns (Some v)
      gives v fits = subst (λ t. GivenOf b.program t (Some v)) h.is (h.not_void, fits)

      long : (v : List ℕ) → AreOf (units_in b.program (type_of e)) v → length v ≡ words_in b.program (type_of e)
      long v fits = length_of _ _ fits ∙ sym (words_are b.program (type_of e) h.not_array)

      at_once : (jump : ℕ → Rest) (behind again : List Rest) (pc : ℕ) (env : Env) (st : Still) (slots last : Slots) → vars_of b env slots → words_in b.program (type_of e) ≡ 1 → has_block_here (line_spot line) ≡ false → HasAt (site_of b) pc ((coded (line_spot line) e).value 0 (spot_in b).turns ++ here (line_spot line) (op.Leave 1)) → Runs (site_of b) (value (told e (ways_in b line jump behind again)) env st (λ v env s. returned b.row.locals b.given line (Some v) env s)) pc slots last st
      at_once jump behind again pc env st slots last vars one no_block has =
          let k = setting b line 0 jump behind again in
          let ca = (coded (spot k) e).value 0 (spot_in b).turns in
          let cb = here (spot k) (op.Leave 1) in
          (h.does jump behind again).value.by 0 (spot_in b).turns pc slots last env st (λ o env s. needed o env s (λ v env s. returned b.row.locals b.given line (Some v) env s)) (lone one (omega arith)) (omega arith) vars (has_front (site k) pc ca cb has) (gave jump behind again pc slots env no_block (has_back (site k) pc ca cb has).0)
        where
          gave : (jump : ℕ → Rest) (behind again : List Rest) (pc : ℕ) (slots : Slots) (env : Env) → has_block_here (line_spot line) ≡ false → HasOperation (site_of b) (pc + length ((coded (line_spot line) e).value 0 (spot_in b).turns)) line (op.Leave 1) → GoesOn (setting b line 0 jump behind again) (type_of e) (coded (line_spot line) e).keeps (coded (line_spot line) e).is_truth env slots (λ o env s. needed o env s (λ v env s. returned b.row.locals b.given line (Some v) env s)) 0 (spot_in b).turns (pc + length ((coded (line_spot line) e).value 0 (spot_in b).turns))
          gave jump behind again pc slots env no_block has None env2 s was now last g vars2 st put holds same truth = absurd (true_is_not (is_void (type_of e)) g h.not_void)
          gave jump behind again pc slots env no_block has (Some v) env2 s was now last g vars2 st put holds same truth =
              let n = long v g.1 in
              comes_out (site_of b) (ap (λ c. if c then ask_in line (act.Free env2.block FrameBlock) s (λ _ s. turn_in line s (λ s. b.given (Some v) s)) else turn_in line s (λ s. b.given (Some v) s)) (sym has_is ∙ no_block))
              (left_does (Some v) has (gives v g.1) (holds_first v 0 1 now (omega (arith, n, one)) holds))

      behind_block : (jump : ℕ → Rest) (behind again : List Rest) (pc : ℕ) (env : Env) (st : Still) (slots last : Slots) → vars_of b env slots → HasAt (site_of b) pc ((coded (line_spot line) e).value (spot_in b).turns (spot_in b).turns ++ (frees_block (line_spot line) ++ (copies line 0 (spot_in b).turns (words_in b.program (type_of e)) ++ here (line_spot line) (op.Leave (words_in b.program (type_of e)))))) → Runs (site_of b) (value (told e (ways_in b line jump behind again)) env st (λ v env s. returned b.row.locals b.given line (Some v) env s)) pc slots last st
      behind_block jump behind again pc env st slots last vars has =
          let k = setting b line 0 jump behind again in
          let n = words_in b.program (type_of e) in
          let to = (spot_in b).turns in
          let ca = (coded (spot k) e).value to to in
          let cb = frees_block (spot k) in
          let cd = copies line 0 to n in
          let ce = here (spot k) (op.Leave n) in
          let back = has_back (site k) pc ca (cb ++ (cd ++ ce)) has in
          let back2 = has_back (site k) (pc + length ca) cb (cd ++ ce) back in
          value_in_free k (h.does jump behind again).value h.not_void to pc slots last env st (λ v env s. returned b.row.locals b.given line (Some v) env s) (omega arith) vars (has_front (site k) pc ca (cb ++ (cd ++ ce)) has) (λ v env2 s now last2 fits vars2 stays holds same.
          let len = long v fits in
          freed_does line (pc + length ca) now last2 env2 s (λ s. turn_in line s (λ s. b.given (Some v) s)) (has_front (site k) (pc + length ca) cb (cd ++ ce) back) vars2 (λ s.
          copies_do (site k) v line 0 to (pc + length ca + length cb) now last2 s _ (subst (λ m. HasAt (site k) (pc + length ca + length cb) (copies line 0 to m)) (sym len) (has_front (site k) (pc + length ca + length cb) cd ce back2)) holds (inr (omega arith)) (λ now2 out held.
          let there : HasOperation (site k) (pc + length ca + length cb + length (copies line 0 to (length v))) line (op.Leave n) = subst (λ m. HasOperation (site k) (pc + length ca + length cb + length (copies line 0 to m)) line (op.Leave n)) (sym len) (has_back (site k) (pc + length ca + length cb) cd ce back2).0 in
          left_does (Some v) there (gives v fits) (holds_first v 0 n now2 (omega (arith, len)) held))))

      on : (jump : ℕ → Rest) (behind again : List Rest) (pc : ℕ) (env : Env) (st : Still) (slots last : Slots) → vars_of b env slots → (q : Bool) → ((words_in b.program (type_of e) == 1) && not (has_block_here (line_spot line))) ≡ q → HasAt (site_of b) pc (if q then (coded (line_spot line) e).value 0 (spot_in b).turns ++ here (line_spot line) (op.Leave 1) else (coded (line_spot line) e).value (spot_in b).turns (spot_in b).turns ++ (frees_block (line_spot line) ++ (copies line 0 (spot_in b).turns (words_in b.program (type_of e)) ++ here (line_spot line) (op.Leave (words_in b.program (type_of e)))))) → Runs (site_of b) (value (told e (ways_in b line jump behind again)) env st (λ v env s. returned b.row.locals b.given line (Some v) env s)) pc slots last st
      on jump behind again pc env st slots last vars true q has =
          let x = both_parts _ _ q in
          let one : words_in b.program (type_of e) ≡ 1 = grind (arith, common_steps, x.0) in
          at_once jump behind again pc env st slots last vars one x.1 has
      on jump behind again pc env st slots last vars false q has = behind_block jump behind again pc env st slots last vars has

  -- ---- a call in the place of the function

  -- what it returns, the function returns
  pub become_in_does : {line function : ℕ} {t : Ty} {receiver : Held-TExpr-Call-2} (shape : _) (arguments : Row_of-TExpr _) → is_void t ≡ is_void b.row.returns → units_in b.program t ≡ units_in b.program b.row.returns → StartIn b line t function receiver arguments → EffectIn b line (become_code (line_spot line) (Call' t function receiver shape arguments)) (λ w env s next. start_of (Call' t function receiver shape arguments) w env s (λ start env s. w.become line start.code start.words env s))
  become_in_does {line} {function} {t} {receiver} shape arguments void given h = record {
    by = λ jump behind again pc next has go. record {
      by = λ env st slots last vars.
          let to = (spot_in b).turns in
          let call = Call' t function receiver shape arguments in
          let ca = start_code (line_spot line) call to in
          let cb = frees_block (line_spot line) in
          let cd = here (line_spot line) (op.Become function to) in
          let back = has_back (site_of b) pc ca (cb ++ cd) has in
          start_does b shape arguments h jump behind again pc slots last env st (λ start env s. become_in b.row.locals b.instead b.given line start.code start.words env s) vars (has_front (site_of b) pc ca (cb ++ cd) has) (λ ws env2 s now last2 fits count vars2 holds.
          freed_does line (pc + length ca) now last2 env2 s (λ s. turn_in line s (λ s. b.instead function ws s b.given)) (has_front (site_of b) (pc + length ca) cb cd back) vars2 (λ s.
          become_does (site_of b) (λ s. b.instead function ws s b.given) (has_back (site_of b) (pc + length ca) cb cd back).0 (λ s.
          b.becomes.by function h.row h.there ws fits (slots_from to now) (holds_from_start ws to now holds) s b.given (λ o s last gives held. b.returns o s last (gave_same b.program b.row.returns h.row.returns (sym void ∙ h.same.void) (sym given ∙ h.same.given) o gives) held))));
    };
  }

  -- ---- the end of the body

  pub ends_does : (is_void b.row.returns ≡ false → is_array b.row.returns ≡ false) → (pc : ℕ) → HasAt (site_of b) pc (epilogue (spot_in b) b.row) → Goes b pc (returned b.row.locals b.given b.row.line (default_of b.program (Some b.row)))
  ends_does na pc has = record {
    by = λ env st slots last vars.
        let n = words_in b.program b.row.returns in
        let line = b.row.line in
        let o = zero_given b.program b.row.returns in
        let ca = frees_block (spot_in b) in
        let cb = zeros line 0 n in
        let cd = here (spot_in b) (op.Leave n) in
        let back = has_back (site_of b) pc ca (cb ++ cd) has in
        freed_does line pc slots last env st (λ s. turn_in line s (λ s. b.given o s)) (has_front (site_of b) pc ca (cb ++ cd) has) vars (λ s.
        zeros_do (site_of b) n line 0 (pc + length ca) slots last s _ (has_front (site_of b) (pc + length ca) cb cd back) (λ now out holds.
        left_does o (has_back (site_of b) (pc + length ca) cb cd back).0 (zero_gives na (is_void b.row.returns) refl) (zero_held now (is_void b.row.returns) holds)));
  }
    where
      zero_gives : (is_void b.row.returns ≡ false → is_array b.row.returns ≡ false) → (v : Bool) → is_void b.row.returns ≡ v → GivenOf b.program b.row.returns (if v then None else Some (zero_words (words_in b.program b.row.returns)))
      zero_gives na true e = e
      zero_gives na false e = (e, subst (λ n. AreOf (units_in b.program b.row.returns) (zero_words n)) (sym (words_are b.program b.row.returns (na e))) (zero_fits (units_in b.program b.row.returns)))

      zero_held : (now : Slots) (v : Bool) → Holds now 0 (zero_words (words_in b.program b.row.returns)) → HoldsGiven (first_slots (words_in b.program b.row.returns) now) 0 (if v then None else Some (zero_words (words_in b.program b.row.returns)))
      zero_held now true holds = tt
      zero_held now false holds = let n = zero_length (words_in b.program b.row.returns) in holds_first (zero_words (words_in b.program b.row.returns)) 0 (words_in b.program b.row.returns) now (omega (arith, n)) holds
