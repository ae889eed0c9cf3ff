-- Behind a talk: a test of the branch that went for each case but the last, what the case does with what it received, and a jump
-- to its body.
use Rattle.std.proofs.Common.{◌≡◌, ℕ, zero, suc, ◌+◌, ◌%◌, ◌<◌, ◌≤◌, ◌^◌, List, [], ◌∷◌, ◌++◌, length, Some, refl, sym, ap, ◌∙◌, subst, arith, length-append}
use Rattle.std.specs.Prelude.{⊤, Bool, true, false, not, ◌==◌, slice_get}
use Rattle.std.specs.List.{AllByRecursion}
use Rattle.std.proofs.Math.Nat.{mod-eq_of_lt}
use Rattle.std.proofs.lemmas.Grind.{common_steps}
use Rattle.al_base.specs.Arith.{applied, wrapped, one_where}
use Rattle.al_base.specs.declared.arith.Op.TheVariants as arith_op
use Rattle.al_typed.specs.declared.statement.TCommunication.{TCommunication}
use Rattle.al_typed.specs.declared.statement.TCommunication.TheVariants as talk
use Rattle.al_typed.specs.declared.expression.TExpr.{TExpr}
use Rattle.al_typed.specs.declared.ty.Ty.{Ty}
use Rattle.al_meaning.specs.Tasks.{Still, Env, Rest, Ways}
use Rattle.al_meaning.specs.Meant.{Branching, went, went_on}
use Rattle.al_ir.specs.declared.ir.Operation.{Operation}
use Rattle.al_ir.specs.declared.op.Op.TheVariants as op
use Rattle.al_ir.specs.Control.{Slots, put}
use Rattle.al_ir.specs.Step.{word_kind}
use Rattle.al_lower_code.specs.Homes.{Spot, at_line, operation, here}
use Rattle.al_lower_code.specs.Heads.{received_words, went_code, dispatch}
use Rattle.al_lower_steps.specs.Slots.{Holds, Below}
use Rattle.al_lower_steps.specs.Site.{HasAt}
use Rattle.al_lower_steps.proofs.Slots.{put_same, put_below, below_refl, holds_below}
use Rattle.al_lower_steps.proofs.Steps.{Runs, moved, comes_out, has_front, has_back}
use Rattle.al_lower_steps.proofs.Plain.{constant_does}
use Rattle.al_lower_steps.proofs.Jumps.{skip_unless_does, go_to_does}
use Rattle.al_lower_claims.proofs.Moving.{AreWords}
use Rattle.al_lower_claims.proofs.Variables.{vars_kept}
use Rattle.al_lower_flow.proofs.Sizes.{lengths}
use Rattle.al_lower_bodies.proofs.Bodies.{Body, ways_in, site_of, scene_of, vars_of, spot_in, Goes}

-- ---- equal numbers

-- what a comparison gives is 0 where it does not hold
record Compared (a b : ℕ) : Type 0 where
  gives : ℕ
  is : applied arith_op.Eq (word_kind false) a b ≡ Some gives
  zero : (gives == 0) ≡ not (a == b)

compared : (a b : ℕ) → a < 2 ^ 32 → b < 2 ^ 32 → Compared a b
compared a b la lb = on (a == b) refl
  where
    whole : applied arith_op.Eq (word_kind false) a b ≡ Some (wrapped 32 (one_where (a == b)))
    whole = let ea : a % 2 ^ 32 ≡ a = mod-eq_of_lt la in let eb : b % 2 ^ 32 ≡ b = mod-eq_of_lt lb in rw (ea, eb) refl

    on : (c : Bool) → (a == b) ≡ c → Compared a b
    on true e = record { gives = 1; is = whole ∙ ap (λ c. Some (wrapped 32 (one_where c))) e; zero = sym (ap not e) }
    on false e = record { gives = 0; is = whole ∙ ap (λ c. Some (wrapped 32 (one_where c))) e; zero = sym (ap not e) }

true_is_not : (b : Bool) → b ≡ true → b ≡ false → ⊥
true_is_not true h k = cc
true_is_not false h k = cc

-- ---- how many operations

pub dispatch_length : (s : Spot) (i : ℕ) (cs : List TCommunication) (ps qs : List ℕ) (branch got free : ℕ) → length ps ≡ length cs → length qs ≡ length cs → length (dispatch s i cs ps branch got free) ≡ length (dispatch s i cs qs branch got free)
dispatch_length s i [] [] [] branch got free e f = refl
dispatch_length s i [] (p ∷ ps) qs branch got free e f = absurd (omega (arith, e))
dispatch_length s i [] [] (q ∷ qs) branch got free e f = absurd (omega (arith, f))
dispatch_length s i (c ∷ cs) [] qs branch got free e f = absurd (omega (arith, e))
dispatch_length s i (c ∷ cs) (p ∷ ps) [] branch got free e f = absurd (omega (arith, f))
dispatch_length s i (c ∷ []) (p ∷ ps) (q ∷ qs) branch got free e f = lengths (went_code s c got free) (here s (op.GoTo p)) (went_code s c got free) (here s (op.GoTo q)) refl refl
dispatch_length s i (c ∷ more ∷ cs) (p ∷ ps) (q ∷ qs) branch got free e f =
    let h = dispatch_length s (i + 1) (more ∷ cs) ps qs branch got free (omega (arith, e)) (omega (arith, f)) in
    let went = went_code s c got free in
    let x = dispatch s (i + 1) (more ∷ cs) ps branch got free in
    let y = dispatch s (i + 1) (more ∷ cs) qs branch got free in
    omega (arith, h, length-append went (operation s.line (op.GoTo p) ∷ x), length-append went (operation s.line (op.GoTo q) ∷ y))

-- ---- what a case does

module _ (b : Body) (line : ℕ) where
  abbrev s : Spot
  s = at_line line (spot_in b)

  -- what a case does with the words that it received, which stand in slots
  pub record WentIn (c : TCommunication) : Type 0 where
    pub by : (jump : ℕ → Rest) (behind again : List Rest) (words : List ℕ) (got free pc : ℕ) (slots last : Slots) (env : Env) (st : Still) (next : Unit {0} → Rest) → (spot_in b).turns ≤ got → got + length words ≤ free → length words ≡ received_words s c → AreWords words → Holds slots got words → vars_of b env slots → HasAt (site_of b) pc (went_code s c got free) → ((env2 : Env) (st : Still) (now last2 : Slots) → vars_of b env2 now → Runs (site_of b) (next tt env2 st) (pc + length (went_code s c got free)) now last2 st) → Runs (site_of b) (went c words (ways_in b line jump behind again) env st next) pc slots last st

  -- one that only received or sent does nothing more
  pub nothing_went : (t : Ty) (chan : TExpr) → WentIn (talk.Receive t chan)
  nothing_went t chan = record { by = λ jump behind again words got free pc slots last env st next room high count small holds vars has go. let z : pc ≡ pc + 0 = omega arith in moved (site_of b) z (go env st slots last vars) }

  pub sending_went : (chan value : TExpr) → WentIn (talk.Send chan value)
  sending_went chan value = record { by = λ jump behind again words got free pc slots last env st next room high count small holds vars has go. let z : pc ≡ pc + 0 = omega arith in moved (site_of b) z (go env st slots last vars) }

  module _ (jump : ℕ → Rest) (behind again : List Rest) (next : Rest) (least : ℕ) where
    abbrev w : Ways
    w = ways_in b line jump behind again

    -- the bodies of these cases are gone through from these places on
    abbrev pub Reaches : List Branching → List ℕ → List TCommunication → Type 0
    Reaches [] [] [] = ⊤
    Reaches (x ∷ xs) (p ∷ ps) (c ∷ cs) = ((x.communication ≡ c) × ((least ≤ p) × Goes b p (λ env st. x.body w env st (λ _. next)))) × Reaches xs ps cs
    Reaches _ _ _ = ⊥

    -- one case: what it does, and the jump
    case_does : (x : Branching) (p : ℕ) (c : TCommunication) → x.communication ≡ c → least ≤ p → Goes b p (λ env st. x.body w env st (λ _. next)) → WentIn c → (words : List ℕ) (got free pc : ℕ) (rest : List Operation) (slots last : Slots) (env : Env) (st : Still) → (spot_in b).turns ≤ got → got + length words ≤ free → length words ≡ received_words s c → AreWords words → Holds slots got words → vars_of b env slots → HasAt (site_of b) pc (went_code s c got free ++ operation line (op.GoTo p) ∷ rest) → pc + length (went_code s c got free) < least → Runs (site_of b) (went_on (Some x) words w env st (λ _. next)) pc slots last st
    case_does x p c same le goes h words got free pc rest slots last env st room high count small holds vars has far =
        let ca = went_code s c got free in
        let cb = operation line (op.GoTo p) ∷ rest in
        comes_out (site_of b) (ap (λ c. went c words w env st (λ _ env st. x.body w env st (λ _. next))) same)
        (h.by jump behind again words got free pc slots last env st (λ _ env st. x.body w env st (λ _. next)) room high count small holds vars (has_front (site_of b) pc ca cb has) (λ env2 st2 now last2 vars2.
        go_to_does (site_of b) (has_back (site_of b) pc ca cb has).0 (omega (arith, far, le)) (goes.by env2 st2 now last2 vars2)))

    -- the case of number j + i, of those from number j on
    pub dispatch_does : (xs : List Branching) (ps : List ℕ) (cs : List TCommunication) → Reaches xs ps cs → AllByRecursion WentIn cs → (j i : ℕ) → i < length cs → j + length cs < 2 ^ 32 → (words : List ℕ) (branch got free pc : ℕ) (slots last : Slots) (env : Env) (st : Still) → (spot_in b).turns ≤ branch → branch < got → got + length words ≤ free → ((c : TCommunication) → slice_get cs i ≡ Some c → length words ≡ received_words s c) → AreWords words → slots branch ≡ Some (j + i) → Holds slots got words → vars_of b env slots → HasAt (site_of b) pc (dispatch s j cs ps branch got free) → pc + length (dispatch s j cs ps branch got free) ≤ least → Runs (site_of b) (went_on (slice_get xs i) words w env st (λ _. next)) pc slots last st
    dispatch_does [] [] [] r h j i lt few words branch got free pc slots last env st room above high count small there holds vars has far = absurd (omega (arith, lt))
    dispatch_does [] [] (c ∷ cs) r h j i lt few words branch got free pc slots last env st room above high count small there holds vars has far = absurd r
    dispatch_does [] (p ∷ ps) cs r h j i lt few words branch got free pc slots last env st room above high count small there holds vars has far = absurd r
    dispatch_does (x ∷ xs) [] cs r h j i lt few words branch got free pc slots last env st room above high count small there holds vars has far = absurd r
    dispatch_does (x ∷ xs) (p ∷ ps) [] r h j i lt few words branch got free pc slots last env st room above high count small there holds vars has far = absurd r
    dispatch_does (x ∷ xs) (p ∷ ps) (c ∷ []) r h j zero lt few words branch got free pc slots last env st room above high count small there holds vars has far =
        case_does x p c r.0.0 r.0.1.0 r.0.1.1 h.0 words got free pc [] slots last env st (omega (arith, room, above)) high (count c refl) small holds vars has (omega (arith, far, length-append (went_code s c got free) (here s (op.GoTo p))))
    dispatch_does (x ∷ xs) (p ∷ ps) (c ∷ []) r h j (suc i) lt few words branch got free pc slots last env st room above high count small there holds vars has far = absurd (omega (arith, lt))
    dispatch_does (x ∷ xs) (p ∷ ps) (c ∷ more ∷ cs) r h j zero lt few words branch got free pc slots last env st room above high count small there holds vars has far =
        let went = went_code s c got free in
        let rest = dispatch s (j + 1) (more ∷ cs) ps branch got free in
        let now : Slots = put free j slots in
        let below : Below free now slots = put_below slots slots free j free (omega arith) (below_refl free slots) in
        let q = compared (j + 0) j (omega (arith, few)) (omega (arith, few)) in
        let same : (j + 0 == j) ≡ true = let z : j + 0 ≡ j = omega arith in grind (arith, common_steps, z) in
        let o = went_on (Some x) words w env st (λ _. next) in
        let len = length-append went (operation line (op.GoTo p) ∷ rest) in
        constant_does (site_of b) has.0
        (skip_unless_does (site_of b) (λ b. o) has.1.0 (below branch (omega (arith, above, high)) ∙ there) (put_same slots free j) q.is
        (λ z. absurd (true_is_not (j + 0 == j) same (not_true (j + 0 == j) (sym q.zero ∙ z))))
        (λ z. case_does x p c r.0.0 r.0.1.0 r.0.1.1 h.0 words got free (pc + 1 + 1) rest now last env st (omega (arith, room, above)) high (count c refl) small (holds_below words got free now slots high below holds) (vars_kept (scene_of b 0) env free now slots (omega (arith, room, above, high)) below vars) has.1.1 (omega (arith, far, len))))
      where
        not_true : (c : Bool) → not c ≡ true → c ≡ false
        not_true false e = refl
        not_true true e = absurd (cc)
    dispatch_does (x ∷ xs) (p ∷ ps) (c ∷ more ∷ cs) r h j (suc i) lt few words branch got free pc slots last env st room above high count small there holds vars has far =
        let went = went_code s c got free in
        let rest = dispatch s (j + 1) (more ∷ cs) ps branch got free in
        let now : Slots = put free j slots in
        let below : Below free now slots = put_below slots slots free j free (omega arith) (below_refl free slots) in
        let q = compared (j + suc i) j (omega (arith, few, lt)) (omega (arith, few)) in
        let other : (j + suc i == j) ≡ false = grind (arith, common_steps) in
        let o = went_on (slice_get xs i) words w env st (λ _. next) in
        let len = length-append went (operation line (op.GoTo p) ∷ rest) in
        let at : pc + 1 + 1 + (length went + 1) ≡ pc + 2 + length went + 1 = omega arith in
        let behind_went = has_back (site_of b) (pc + 1 + 1) went (operation line (op.GoTo p) ∷ rest) has.1.1 in
        let at2 : pc + 1 + 1 + length went + 1 ≡ pc + 1 + 1 + (length went + 1) = omega arith in
        let number : j + suc i ≡ j + 1 + i = omega arith in
        constant_does (site_of b) has.0
        (skip_unless_does (site_of b) (λ b. o) has.1.0 (below branch (omega (arith, above, high)) ∙ there) (put_same slots free j) q.is
        (λ z. dispatch_does xs ps (more ∷ cs) r.1 h.1 (j + 1) i (omega (arith, lt)) (omega (arith, few)) words branch got free (pc + 1 + 1 + (length went + 1)) now last env st room above high (λ d e. count d e) small (below branch (omega (arith, above, high)) ∙ (there ∙ ap Some number)) (holds_below words got free now slots high below holds) (vars_kept (scene_of b 0) env free now slots (omega (arith, room, above, high)) below vars) (subst (λ n. HasAt (site_of b) n rest) at2 behind_went.1) (omega (arith, far, len)))
        (λ z. absurd (true_is_not (j + suc i == j) (not_false (j + suc i == j) (sym q.zero ∙ z)) other)))
      where
        not_false : (c : Bool) → not c ≡ false → c ≡ true
        not_false true e = refl
        not_false false e = absurd (cc)
