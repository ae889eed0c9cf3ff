-- The words of a call that starts a function, one behind the other.
use Rattle.std.proofs.Common.{◌≡◌, ℕ, ◌+◌, List, [], ◌∷◌, ◌++◌, map, length, Some, refl, sym, ap, ◌∙◌, subst, arith, length-append}
use Rattle.std.specs.Prelude.{false, sum_by}
use Rattle.std.specs.List.{AllByRecursion, flat_map}
use Rattle.std.proofs.lemmas.List.Sums.{sum_by-cons}
use Rattle.al_event.specs.declared.act.Start.{Start}
use Rattle.al_typed.specs.declared.ty.Ty.{Ty}
use Rattle.al_typed.specs.declared.expression.TExpr.{Call', Held-TExpr-Call-2, Row_of-TExpr}
use Rattle.al_typed.specs.declared.program.Function.{Function as FunctionRow}
use Rattle.al_typed.specs.declared.program.Program.{Program}
use Rattle.al_typed.specs.Types.{is_array}
use Rattle.al_typed.specs.Layout.{unit_at}
use Rattle.al_typed.specs.Typed.{row_types, parameter_types}
use Rattle.al_meaning.specs.Here.{units_in}
use Rattle.al_meaning.specs.Places.{function_at, words_in}
use Rattle.al_meaning.specs.Calls.{joined}
use Rattle.al_meaning.specs.Tasks.{Still, Env, Rest}
use Rattle.al_meaning.specs.Told.{told_all}
use Rattle.al_meaning.specs.Meant.{start_of}
use Rattle.al_ir.specs.Control.{Slots}
use Rattle.al_lowered.specs.Rules.{given_units}
use Rattle.al_lower_words.specs.Units.{AreOf}
use Rattle.al_lower_words.proofs.Integers.{length_of, words_are}
use Rattle.al_lower_code.specs.Homes.{at_line}
use Rattle.al_lower_code.specs.Expressions.{object, row}
use Rattle.al_lower_code.specs.Simple.{words_of_types, start_code, start_words}
use Rattle.al_lower_steps.specs.Slots.{Holds}
use Rattle.al_lower_steps.specs.Site.{HasAt}
use Rattle.al_lower_steps.proofs.Slots.{holds_join, holds_at}
use Rattle.al_lower_steps.proofs.Steps.{Runs, moved, has_front, has_back}
use Rattle.al_lower_claims.proofs.Privates.{join_fits}
use Rattle.al_lower_claims.proofs.Variables.{holds_stays}
use Rattle.al_lower_claims.proofs.Claims.{scene, site, spot}
use Rattle.al_lower_values.proofs.Calls.{SameCalls}
use Rattle.al_lower_bodies.proofs.Bodies.{Body, setting, ways_in, site_of, vars_of, spot_in, ValuesIn, ObjectIn}

pub flat_append : {A B : Type 0} (f : A → List B) (xs ys : List A) → flat_map f (xs ++ ys) ≡ flat_map f xs ++ flat_map f ys
flat_append f [] ys = refl
flat_append f (x ∷ xs) ys = ap (λ r. f x ++ r) (flat_append f xs ys) ∙ joins (f x) (flat_map f xs) (flat_map f ys)
  where
    joins : {B : Type 0} (a b c : List B) → a ++ (b ++ c) ≡ (a ++ b) ++ c
    joins [] b c = refl
    joins (x ∷ a) b c = ap (λ r. x ∷ r) (joins a b c)

-- how many words values of types without arrays have
pub counted : (p : Program) (ts : List Ty) → AllByRecursion (λ t. is_array t ≡ false) ts → sum_by (words_in p) ts ≡ length (flat_map (units_in p) ts)
counted p [] h = refl
counted p (t ∷ ts) h =
    let a = sum_by-cons (words_in p) t ts in
    let c = counted p ts h.1 in
    let w = words_are p t h.0 in
    omega (arith, a, c, w, length-append (units_in p t) (flat_map (units_in p) ts))

module _ (b : Body) where
  -- a call of a function of the program, whose words fit its parameters
  pub record StartIn (line : ℕ) (t : Ty) (function : ℕ) (receiver : Held-TExpr-Call-2) {m : _} (arguments : Row_of-TExpr m) : Type 0 where
    pub given : List Ty
    pub object_does : ObjectIn b line 0 receiver given
    pub values_do : ValuesIn b line 0 arguments
    pub row : FunctionRow
    pub there : function_at b.program function ≡ Some row
    pub no_branch : row.around ≡ []
    pub same : SameCalls b.program t row.returns (given ++ row_types arguments) (parameter_types row)
    pub no_arrays : AllByRecursion (λ t. is_array t ≡ false) (row_types arguments)

  -- the words of the call stand from the first free slot on
  pub start_does : {line function : ℕ} {t : Ty} {receiver : Held-TExpr-Call-2} (shape : _) (arguments : Row_of-TExpr _) (h : StartIn line t function receiver arguments) → (jump : ℕ → Rest) (behind again : List Rest) (pc : ℕ) (slots last : Slots) (env : Env) (s : Still) (next : Start → Rest) → vars_of b env slots → HasAt (site_of b) pc (start_code (at_line line (spot_in b)) (Call' t function receiver shape arguments) (spot_in b).turns) → ((ws : List ℕ) (env2 : Env) (s : Still) (now last : Slots) → AreOf (given_units b.program h.row) ws → length ws ≡ start_words (at_line line (spot_in b)) (Call' t function receiver shape arguments) → vars_of b env2 now → Holds now (spot_in b).turns ws → Runs (site_of b) (next (record { code = function; words = ws }) env2 s) (pc + length (start_code (at_line line (spot_in b)) (Call' t function receiver shape arguments) (spot_in b).turns)) now last s) → Runs (site_of b) (start_of (Call' t function receiver shape arguments) (ways_in b line jump behind again) env s next) pc slots last s
  start_does {line} {function} {t} {receiver} shape arguments h jump behind again pc slots last env s next vars has go =
      let k = setting b line 0 jump behind again in
      let w = ways_in b line jump behind again in
      let p = b.program in
      let to = (spot_in b).turns in
      let ob = object (spot k) receiver in
      let rw2 = row (spot k) arguments in
      let ca = ob.code to in
      let cb = rw2.values (to + ob.words) in
      let given_words = h.object_does.words jump behind again in
      (h.object_does.does jump behind again).by to pc slots last env s (λ os env s. told_all arguments w env s (λ vs env s. next (record { code = function; words = joined (os ++ vs) }) env s)) (omega arith) vars (has_front (site k) pc ca cb has) (λ os env1 s now1 last1 fo vars1 st1 holds1 same1.
      (h.values_do jump behind again).by (to + ob.words) (pc + length ca) now1 last1 env1 s (λ vs env s. next (record { code = function; words = joined (os ++ vs) }) env s) (omega arith) vars1 (has_back (site k) pc ca cb has) (λ vs env2 s now2 last2 fv vars2 st2 holds2 same2.
      let count : length (joined os) ≡ ob.words = length_of _ _ fo ∙ sym given_words in
      let more : length (joined vs) ≡ words_of_types (spot k) (row_types arguments) = length_of _ _ fv ∙ sym (counted p (row_types arguments) h.no_arrays) in
      let ws = joined (os ++ vs) in
      let is : ws ≡ joined os ++ joined vs = flat_append (λ ws. ws) os vs in
      let total : length ws ≡ ob.words + words_of_types (spot k) (row_types arguments) = ap length is ∙ omega (arith, length-append (joined os) (joined vs), count, more) in
      let kept : Holds now2 to (joined os) = holds_stays (scene k) (joined os) to (to + ob.words) now2 now1 (omega arith) (omega (arith, count)) st2 holds1 in
      let all : Holds now2 to ws = subst (Holds now2 to) (sym is) (holds_join (joined os) (joined vs) to now2 kept (holds_at (joined vs) (to + ob.words) (to + length (joined os)) now2 (ap (λ i. to + i) (sym count)) holds2)) in
      let units : flat_map (units_in p) h.given ++ flat_map (units_in p) (row_types arguments) ≡ given_units p h.row = sym (ap (λ q. map (λ _. unit_at 0 4) q ++ flat_map (units_in p) (parameter_types h.row)) h.no_branch ∙ (sym h.same.taken ∙ flat_append (units_in p) h.given (row_types arguments))) in
      let fits : AreOf (given_units p h.row) ws = subst (λ q. AreOf q ws) units (subst (AreOf (flat_map (units_in p) h.given ++ flat_map (units_in p) (row_types arguments))) (sym is) (join_fits (flat_map (units_in p) h.given) (flat_map (units_in p) (row_types arguments)) (joined os) (joined vs) fo fv)) in
      let len : pc + length ca + length cb ≡ pc + length (ca ++ cb) = omega (arith, length-append ca cb) in
      moved (site k) len (go ws env2 s now2 last2 fits total vars2 all)))
