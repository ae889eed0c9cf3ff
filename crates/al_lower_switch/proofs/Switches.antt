-- `switch`.
use Rattle.std.proofs.Common.{◌≡◌, ℕ, suc, ◌+◌, ◌<◌, ◌≤◌, ◌^◌, List, ◌∷◌, ◌++◌, length, Option, Some, None, refl, sym, ap, ◌∙◌, subst, ⊎_elim, arith, length-append}
use Rattle.std.specs.Prelude.{⊤, unwrap_or}
use Rattle.std.specs.List.{AllByRecursion}
use Rattle.al_base.specs.Arith.{width_of}
use Rattle.al_base.specs.declared.arith.Kind.{Kind}
use Rattle.al_base.specs.declared.arith.Kind.TheVariants as kind
use Rattle.al_typed.specs.declared.ty.Ty.{Ty}
use Rattle.al_typed.specs.declared.ty.Ty.TheVariants as ty
use Rattle.al_typed.specs.declared.expression.TExpr.{TExpr}
use Rattle.al_typed.specs.declared.program.Program.{Program}
use Rattle.al_typed.specs.declared.statement.TStmt.{Switch', Case, Row_of-TStmt, end_of-TStmt, more_of-TStmt}
use Rattle.al_typed.specs.Types.{promoted}
use Rattle.al_typed.specs.Typed.{type_of}
use Rattle.al_meaning.specs.Words.{bits_of, integer_words}
use Rattle.al_meaning.specs.Shown.{kind_of}
use Rattle.al_meaning.specs.Here.{units_in}
use Rattle.al_meaning.specs.Parts.{first_of_two}
use Rattle.al_meaning.specs.Tasks.{Rest, Task}
use Rattle.al_meaning.specs.Told.{value, told}
use Rattle.al_meaning.specs.Meant.{Part, inside, part_of_case, part_of_default, part_from_row, rest_of_cases, selected, returned, become_in}
use Rattle.al_ir.specs.declared.ir.Operation.{Operation}
use Rattle.al_ir.specs.declared.op.Op.TheVariants as op
use Rattle.al_lower_words.specs.Units.{AreOf}
use Rattle.al_lower_words.proofs.Integers.{length_of, words_are, units_of_kind, one_word, two_words}
use Rattle.al_lower_code.specs.Homes.{Spot, at_line, words, here}
use Rattle.al_lower_code.specs.Moving.{constants}
use Rattle.al_lower_code.specs.Operators.{is_long}
use Rattle.al_lower_code.specs.Coded.{Coded, operand_slot, operand_code}
use Rattle.al_lower_code.specs.Expressions.{coded}
use Rattle.al_lower_code.specs.Heads.{CasePlace, case_test, case_tests, switch_head, zero_cases, switch_size}
use Rattle.al_lower_code.specs.Statements.{Targets, in_cases, all_code, stmt_size, all_size, case_places, default_place, place_in_row}
use Rattle.al_lower_steps.specs.Site.{HasAt}
use Rattle.al_lower_steps.proofs.Steps.{has_front, has_back}
use Rattle.al_lower_steps.proofs.Jumps.{go_to_does}
use Rattle.al_lower_claims.proofs.Variables.{vars_kept}
use Rattle.al_lower_claims.proofs.Claims.{Setting, scene, spot, CodedDoes}
use Rattle.al_lower_claims.proofs.Operands.{operand_does}
use Rattle.al_lower_values.proofs.Binary.{kind_of_integer, not_void_integer, not_array_integer}
use Rattle.al_lower_flow.proofs.Flow.{goes_at, Round, round_cases, JumpsDo, From}
use Rattle.al_lower_flow.proofs.Sizes.{lengths, if_length}
use Rattle.al_lower_bodies.proofs.Bodies.{Body, setting, ways_in, site_of, vars_of, spot_in, Goes, MeansIn, StmtIn, IsKnown, ValueIn}
use Rattle.al_lower_switch.proofs.Cases.{first_place, places_behind, default_behind, RowsIn, all_in, FromIn, case_from, default_from}
use Rattle.al_lower_switch.proofs.Tests.{Switched, word, two, tests_do}

-- ---- how many operations

test_length : (s : Spot) (k : Kind) (at free bits place other : ℕ) → length (case_test s k at free bits place) ≡ length (case_test s k at free bits other)
test_length s k at free bits place other = if_length (is_long k) _ _ _ _ (lengths (constants s.line free (integer_words k bits)) _ (constants s.line free (integer_words k bits)) _ refl refl) (lengths (constants s.line free (integer_words k bits)) _ (constants s.line free (integer_words k bits)) _ refl refl)

tests_length : (s r : Spot) (k : Kind) (at free : ℕ) {m : _} (row : Row_of-TStmt m) (pc : ℕ) → length (case_tests s k at free (case_places r row pc)) ≡ length (case_tests s k at free (zero_cases row))
tests_length s r k at free end_of-TStmt pc = refl
tests_length s r k at free (more_of-TStmt (Case label bits) rest) pc =
    lengths (case_test s k at free bits pc) (case_tests s k at free (case_places r rest pc)) (case_test s k at free bits 0) (case_tests s k at free (zero_cases rest)) (test_length s k at free bits pc 0) (tests_length s r k at free rest pc)
tests_length s r k at free (more_of-TStmt a rest) pc = tests_length s r k at free rest (pc + stmt_size r a)

head_length : (s r : Spot) (e : TExpr) {m : _} (row : Row_of-TStmt m) (pc otherwise : ℕ) → length (switch_head s e (case_places r row pc) otherwise) ≡ switch_size s e (zero_cases row)
head_length s r e row pc otherwise =
    let c = coded s e in
    let at = operand_slot c s.turns in
    let free = s.turns + words s (type_of e) in
    let k = kind_of (type_of e) in
    let p = case_tests s k at free (case_places r row pc) in
    let q = case_tests s k at free (zero_cases row) in
    lengths (operand_code c s.turns) (p ++ here s (op.GoTo otherwise)) (operand_code c s.turns) (q ++ here s (op.GoTo 0)) refl (lengths p (here s (op.GoTo otherwise)) q (here s (op.GoTo 0)) (tests_length s r k at free row pc) refl)

-- ---- what a switch may have

-- the bits of its cases fit its kind
abbrev pub CasesFit : Kind → {m : _} → Row_of-TStmt m → Type 0
CasesFit k end_of-TStmt = ⊤
CasesFit k (more_of-TStmt (Case label bits) rest) = (bits < 2 ^ width_of k) × CasesFit k rest
CasesFit k (more_of-TStmt a rest) = CasesFit k rest

cases_fit : (s : Spot) (k : Kind) {m : _} (row : Row_of-TStmt m) (pc : ℕ) → CasesFit k row → AllByRecursion (λ (c : CasePlace). c.bits < 2 ^ width_of k) (case_places s row pc)
cases_fit s k end_of-TStmt pc h = tt
cases_fit s k (more_of-TStmt (Case label bits) rest) pc h = (h.0, cases_fit s k rest pc h.1)
cases_fit s k (more_of-TStmt a rest) pc h = cases_fit s k rest (pc + stmt_size s a) h

switched : (p : Program) (k : Kind) (v : List ℕ) → promoted k ≡ k → AreOf (units_in p (ty.Integer k)) v → Switched k v
switched p kind.Int v e fits = let x = one_word 0 v (subst (λ us. AreOf us v) (units_of_kind p kind.Int) fits) in word x.word x.is x.small refl (λ bits lt. (lt, refl))
switched p kind.Uint v e fits = let x = one_word 0 v (subst (λ us. AreOf us v) (units_of_kind p kind.Uint) fits) in word x.word x.is x.small refl (λ bits lt. (lt, refl))
switched p kind.Lint v e fits = let x = two_words 0 4 v (subst (λ us. AreOf us v) (units_of_kind p kind.Lint) fits) in two x.low x.high x.is x.low_small x.high_small refl (λ bits lt. (lt, refl))
switched p kind.Ulint v e fits = let x = two_words 0 4 v (subst (λ us. AreOf us v) (units_of_kind p kind.Ulint) fits) in two x.low x.high x.is x.low_small x.high_small refl (λ bits lt. (lt, refl))
switched p kind.Byte v e fits = absurd (cc)
switched p kind.Sint v e fits = absurd (cc)
switched p kind.Usint v e fits = absurd (cc)

-- a value that is used at once stands before the slots behind its own
operand_before : (k : Setting) {m : Task (Option (List ℕ))} {t : Ty} {c : Coded} → k.iterators ≡ 0 → CodedDoes k m t c → (n : ℕ) → n ≡ length (units_in k.ways.program t) → operand_slot c k.turns + n ≤ k.turns + n
operand_before k {m} {t} {c} none h n count = on c.stands refl
  where
    on : (o : Option ℕ) → c.stands ≡ o → unwrap_or o k.turns + n ≤ k.turns + n
    on None e = omega arith
    on (Some slot) e =
        let st = h.stands slot e in
        let above = k.above in
        ⊎_elim (λ x. let f = k.homes.fits x.0 x.1.0 x.1.1.0 in let at = x.1.1.1.0 in let same = x.1.1.1.1 in omega (arith, f, at, same, above, count))
        (λ x. let lt = x.1.0 in absurd (omega (arith, lt, none))) st.where_is

-- ---- the statement

module _ (b : Body) (breaks loops : ℕ) (line : ℕ) (e : TExpr) (k : Kind) (is : type_of e ≡ ty.Integer k) (wide : promoted k ≡ k) (value_does : ValueIn b line 0 e) where
  abbrev s : Spot
  s = at_line line (spot_in b)

  module _ {m : _} (body : Row_of-TStmt m) (fit : CasesFit k body) (rows : RowsIn b (suc breaks) loops body) where
    abbrev head : ℕ
    head = switch_size s e (zero_cases body)

    abbrev size : ℕ
    size = all_size (spot_in b) body

    abbrev inner : Targets → (pc : ℕ) → Targets
    inner c pc = in_cases (pc + head + size) c

    abbrev cases_at : (pc : ℕ) → List CasePlace
    cases_at pc = case_places (spot_in b) body (pc + head)

    abbrev otherwise : (pc : ℕ) → ℕ
    otherwise pc = unwrap_or (default_place (spot_in b) body (pc + head)) (pc + head + size)

    abbrev head_code : (pc : ℕ) → List Operation
    head_code pc = switch_head s e (cases_at pc) (otherwise pc)

    abbrev whole : Targets → ℕ → List Operation
    whole c pc = head_code pc ++ all_code (spot_in b) (inner c pc) body (pc + head)

    body_at : (c : Targets) (pc : ℕ) → HasAt (site_of b) pc (whole c pc) → HasAt (site_of b) (pc + head) (all_code (spot_in b) (inner c pc) body (pc + head))
    body_at c pc has = subst (λ n. HasAt (site_of b) (pc + n) (all_code (spot_in b) (inner c pc) body (pc + head))) (head_length s (spot_in b) e body (pc + head) (otherwise pc)) (has_back (site_of b) pc (head_code pc) (all_code (spot_in b) (inner c pc) body (pc + head)) has)

    module _ (line0 pc : ℕ) (c : Targets) (jump : ℕ → Rest) (behind again : List Rest) (next : Rest) (has : HasAt (site_of b) pc (whole c pc)) (round : Round (site_of b) (vars_of b) breaks loops (pc + (head + size)) c behind again) (jumps : JumpsDo (site_of b) (vars_of b) (spot_in b) b.call (returned b.row.locals b.given) (become_in b.row.locals b.instead b.given) (IsKnown b) c jump) (go : Goes b (pc + (head + size)) next) where
      end_is : pc + head + size ≡ pc + (head + size)
      end_is = omega arith

      go_end : Goes b (pc + head + size) next
      go_end = goes_at (site_of b) (vars_of b) end_is go

      inner_round : Round (site_of b) (vars_of b) (suc breaks) loops (pc + head + size) (inner c pc) (next ∷ behind) again
      inner_round = round_cases (site_of b) (vars_of b) (pc + head + size) (pc + head + size) (omega arith) round (omega arith) go_end

      -- a part of the body, from its place on
      part_does : (q : Part) (at : ℕ) → MeansIn b (suc breaks) loops (λ c pc. all_code (spot_in b) c body pc) (all_size (spot_in b) body) q (pc + head) at → (line1 : ℕ) → Goes b at (λ env st. q (ways_in b line1 jump (next ∷ behind) again) env st (λ _. next))
      part_does q at f line1 = f line1 (inner c pc) jump (next ∷ behind) again next (body_at c pc has) inner_round jumps go_end

      -- the case that is selected, the default, or nothing
      chosen : (o d : Option Part) (i j : Option ℕ) → FromIn b (suc breaks) loops body (pc + head) o i → FromIn b (suc breaks) loops body (pc + head) d j → Goes b (unwrap_or (first_of_two i j) (pc + head + size)) (selected (first_of_two o d) (ways_in b line jump behind again) next)
      chosen (Some q) d (Some at) j f g = part_does q at f line
      chosen (Some q) d None j f g = absurd f
      chosen None d (Some at) j f g = absurd f
      chosen None (Some q) None (Some at) f g = part_does q at g line
      chosen None (Some q) None None f g = absurd g
      chosen None None None (Some at) f g = absurd g
      chosen None None None None f g = go_end

      chosen_at : (n : ℕ) (bits : ℕ) → Goes b (unwrap_or (first_of_two (first_place bits (cases_at pc)) (default_place (spot_in b) body (pc + head))) (pc + head + size)) (selected (first_of_two (part_of_case bits body n) (part_of_default body n)) (ways_in b line jump behind again) next)
      chosen_at n bits = chosen (part_of_case bits body n) (part_of_default body n) (first_place bits (cases_at pc)) (default_place (spot_in b) body (pc + head)) (case_from b (suc breaks) loops body rows bits n (pc + head)) (default_from b (suc breaks) loops body rows n (pc + head))

      pub switches : (n : ℕ) → Goes b pc (λ env st. value (told e (ways_in b line jump behind again)) env st (λ v env s. selected (first_of_two (part_of_case (bits_of v) body n) (part_of_default body n)) (ways_in b line jump behind again) next env s))
      switches n = record {
        by = λ env st slots last vars.
            let k2 = setting b line 0 jump behind again in
            let h = value_does jump behind again in
            let cd = coded (spot k2) e in
            let to = (spot_in b).turns in
            let at = operand_slot cd to in
            let count = words s (type_of e) in
            let free = to + count in
            let kind_is : kind_of (type_of e) ≡ k = ap kind_of is ∙ kind_of_integer k in
            let ca = operand_code cd to in
            let cb = case_tests s (kind_of (type_of e)) at free (cases_at pc) in
            let cg = here s (op.GoTo (otherwise pc)) in
            let front = has_front (site_of b) pc (ca ++ (cb ++ cg)) (all_code (spot_in b) (inner c pc) body (pc + head)) has in
            let back = has_back (site_of b) pc ca (cb ++ cg) front in
            let size_is = head_length s (spot_in b) e body (pc + head) (otherwise pc) in
            let len1 = length-append ca (cb ++ cg) in
            let len2 = length-append cb cg in
            let units_are : words s (type_of e) ≡ length (units_in b.program (type_of e)) = words_are b.program (type_of e) (not_array_integer (type_of e) k is) in
            operand_does k2 h (not_void_integer (type_of e) k is) to pc slots last env st (λ v env s. selected (first_of_two (part_of_case (bits_of v) body n) (part_of_default body n)) (ways_in b line jump behind again) next env s) (omega arith) vars (has_front (site_of b) pc ca (cb ++ cg) front) (λ v env2 st2 now last2 fits vars2 stays holds same.
            let long : length v ≡ count = length_of _ _ fits ∙ sym units_are in
            let sw : Switched (kind_of (type_of e)) v = subst (λ q. Switched q v) (sym kind_is) (switched b.program k v wide (subst (λ t. AreOf (units_in b.program t) v) is fits)) in
            let before = operand_before k2 refl h count units_are in
            let g = chosen_at n (bits_of v) in
            let o = selected (first_of_two (part_of_case (bits_of v) body n) (part_of_default body n)) (ways_in b line jump behind again) next env2 st2 in
            tests_do (site_of b) s (kind_of (type_of e)) v sw (cases_at pc) at free (pc + head) (pc + length ca) now last2 st2 o (cases_fit (spot_in b) (kind_of (type_of e)) body (pc + head) (subst (λ q. CasesFit q body) (sym kind_is) fit)) (places_behind b body (pc + head) (pc + head) (omega arith)) (omega (arith, size_is, len1, len2)) holds (omega (arith, before, long)) (has_front (site_of b) (pc + length ca) cb cg back)
            (λ place q now2 below. (subst (λ i. Goes b (unwrap_or (first_of_two i (default_place (spot_in b) body (pc + head))) (pc + head + size)) (selected (first_of_two (part_of_case (bits_of v) body n) (part_of_default body n)) (ways_in b line jump behind again) next)) q g).by env2 st2 now2 last2 (vars_kept (scene k2) env2 free now2 now (omega arith) below vars2))
            (λ q now2 below.
            let there = subst (λ i. Goes b (unwrap_or (first_of_two i (default_place (spot_in b) body (pc + head))) (pc + head + size)) (selected (first_of_two (part_of_case (bits_of v) body n) (part_of_default body n)) (ways_in b line jump behind again) next)) q g in
            let far = default_behind b body (pc + head + size) (pc + head) (pc + head) (omega arith) (omega arith) in
            go_to_does (site_of b) (has_back (site_of b) (pc + length ca) cb cg back).0 (omega (arith, far, size_is, len1, len2)) (there.by env2 st2 now2 last2 (vars_kept (scene k2) env2 free now2 now (omega arith) below vars2))));
      }

    from_inside : (pc : ℕ) (o : Option Part) (i : Option ℕ) → FromIn b (suc breaks) loops body (pc + head) o i → From (site_of b) (vars_of b) (spot_in b) b.call (returned b.row.locals b.given) (become_in b.row.locals b.instead b.given) (IsKnown b) breaks loops whole (head + size) pc (inside rest_of_cases o) i
    from_inside pc None None f = tt
    from_inside pc (Some q) (Some at) f = λ line0 c jump behind again next has round jumps go. part_does line0 pc c jump behind again next has round jumps go q at f line0
    from_inside pc None (Some at) f = absurd f
    from_inside pc (Some q) None f = absurd f

    whole_length : (c : Targets) (pc : ℕ) → length (whole c pc) ≡ head + size
    whole_length c pc =
        let a = head_length s (spot_in b) e body (pc + head) (otherwise pc) in
        let q = (all_in b body rows).sized (inner c pc) (pc + head) in
        omega (arith, a, q, length-append (head_code pc) (all_code (spot_in b) (inner c pc) body (pc + head)))

  pub switch_does : (shape : _) (body : Row_of-TStmt _) → CasesFit k body → RowsIn b (suc breaks) loops body → StmtIn b breaks loops (Switch' line e shape body)
  switch_does shape body fit rows = record {
    sized = λ c pc. whole_length body fit rows c pc;
    by = λ n pc line0 c jump behind again next has round jumps go. switches body fit rows line0 pc c jump behind again next has round jumps go n;
    from = λ n l pc. from_inside body fit rows pc (part_from_row l body n) (place_in_row (spot_in b) l body (pc + head body fit rows)) ((all_in b body rows).from n l (pc + head body fit rows));
  }
