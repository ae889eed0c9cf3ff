-- What is known of each unit alike.
use Rattle.std.proofs.Common.{◌≡◌, ℕ, ◌+◌, ◌<◌, ◌≤◌, Bool, true, false, List, [], ◌∷◌, length, map, refl, sym, ap, ◌∙◌, subst, arith, inl, inr, length-append}
use Rattle.std.specs.Prelude.{All, if◌then◌else◌, not, ◌||◌}
use Rattle.std.specs.List.{list_all}
use Rattle.std.proofs.lemmas.Bool.{and_parts, cases_lt, lt-leb}
use Rattle.std.proofs.lemmas.List.Elements.{All-cons, All-nil}
use Rattle.al_tree.specs.declared.item.Tree.{Tree}
use Rattle.al_tree.specs.declared.statement.Stmt.{Stmt}
use Rattle.al_typed.specs.declared.program.Function.{Function}
use Rattle.al_typed.specs.declared.ty.Ty.TheVariants as ty
use Rattle.al_typed.specs.declared.program.Local.{Local}
use Rattle.al_typed.specs.Types.{may_be_private}
use Rattle.al_typed.specs.WellTyped.{is_sound, is_stored}
use Rattle.al_sound_types.specs.Types.{is_local}
use Rattle.al_shared.specs.Statements.{shared}
use Rattle.al_environment.specs.declared.numbered.Numbered.{Numbered}
use Rattle.al_environment.specs.declared.environment.Environment.{Environment}
use Rattle.al_environment.specs.declared.environment.Here.{Here}
use Rattle.al_declare.specs.declared.function.Defined.{Defined}
use Rattle.al_body_parts.specs.Statements.{parts}
use Rattle.al_type_stmt.specs.declared.within.Within.{Within}
use Rattle.al_type_function.specs.Branches.{round_of}
use Rattle.al_type_function.specs.Numbers.{capped, indexed}
use Rattle.al_type_function.specs.Locals.{declared_local, declared_parameter, declared_parameters, is_marked, local}
use Rattle.al_sound_rows.specs.Unnamed.{Declared}
use Rattle.al_sound_rows.specs.Units.{IsFunction, IsKnown, IsTypedFrom, IsUnit, at_head, declared_in, of_branch, of_function, signature_of}
use Rattle.al_sound_rows.proofs.ParametersAre.{indexed_length, small_is}

void_is_sound : (env : Environment) → is_sound env.aggregates ty.Void ≡ true
void_is_sound env = refl

abbrev IsFit : Environment → Local → Type 0
IsFit env l = (is_stored env.aggregates l.ty ≡ true) × (l.is_shared ≡ false → may_be_private l.ty ≡ true)

-- what is not shared may be private
may_be : (marked b : Bool) → (marked || not b) ≡ false → b ≡ true
may_be true b e = absurd (cc)
may_be false true e = refl
may_be false false e = absurd (cc)

fit_locals : (env : Environment) (names : List (List ℕ)) (marks : List Bool) (k : ℕ) (ds : List Declared)
    → list_all (is_local env.aggregates) (indexed (local names marks) k ds) ≡ true → All (IsFit env) (indexed (local names marks) k ds)
unfolding indexed
fit_locals env names marks k [] h = All-nil (IsFit env)
fit_locals env names marks k (d ∷ ds) h =
    let b = and_parts (is_local env.aggregates (local names marks k d)) (list_all (is_local env.aggregates) (indexed (local names marks) (k + 1) ds)) h in
    All-cons (IsFit env) (local names marks k d) (indexed (local names marks) (k + 1) ds) (b.0, λ e. may_be (is_marked marks k) (may_be_private d.ty) e)
    (fit_locals env names marks (k + 1) ds b.1)

locals_of : (env : Environment) (names : List (List ℕ)) (w : Within) (outside here : Here) (ds : List Declared) (s : Stmt) (f : Function) → IsTypedFrom env names w outside here ds s f
    → All (IsFit env) f.locals
locals_of env names w outside here ds s f t =
    let marks = shared env.scopes.names (length here.around) (length ds) s in
    let whole = t.sound in
    let b = and_parts (list_all (is_local env.aggregates) f.locals) (list_all (is_sound env.aggregates) (parts env outside s).types) whole in
    subst (All (IsFit env)) (sym t.locals) (fit_locals env names marks 0 ds (subst (λ ls. list_all (is_local env.aggregates) ls ≡ true) t.locals b.0))

capped_below : (n : ℕ) → capped n ≤ n
capped_below n = elim (cases_lt 4294967295 n) [
  | inl great ↦ subst (λ m. m ≤ n) (sym (ap (λ b. if b then n else 4294967295) (lt-leb n 4294967295 great))) (omega arith)
  | inr low ↦ subst (λ m. m ≤ n) (sym (small_is n low)) (omega arith)
]

few_parameters : (env : Environment) (tree : Tree) (ds : List Defined) (strings number : ℕ) (f : Function) (w : Within) (here : Here) (body : Stmt)
    → IsFunction env tree ds strings number f w here body → f.parameters ≤ length f.locals
few_parameters env tree ds strings number f w here body is =
    let ps = is.head.parameters in
    let ts = (signature_of env is.defined is.base is.head).parameters in
    let own = map declared_local (parts env (at_head env is.head is.defined) body).locals in
    let all = declared_in env is.defined is.base is.head body in
    let long : length f.locals ≡ length all = ap length is.typed.locals ∙ indexed_length (local tree.names (shared env.scopes.names (length here.around) (length all) body)) 0 all in
    let split : length all ≡ length (declared_parameters ts ps) + length own = length-append (declared_parameters ts ps) own in
    let first : length (declared_parameters ts ps) ≡ length ps = indexed_length (declared_parameter ts) 0 ps in
    let count = is.parameters in
    let below = capped_below (length ps) in
    omega arith

pub is_known : (env : Environment) (tree : Tree) (ds : List Defined) (strings : ℕ) (rows : List Function) (number : ℕ) (f : Function) (w : Within) (here : Here) (statement : Stmt)
    → IsUnit env tree ds strings rows number f w here statement → IsKnown env tree strings rows number f w here statement
is_known env tree ds strings rows number f w here statement (of_function _ _ _ _ _ stands is) = record {
  row = stands;
  outside = at_head env is.head is.defined;
  declared = declared_in env is.defined is.base is.head statement;
  typed = is.typed;
  sound = is.sound;
  texts = is.texts;
  level = ap length is.around ∙ sym (ap length is.outermost);
  locals = locals_of env tree.names w (at_head env is.head is.defined) here (declared_in env is.defined is.base is.head statement) statement f is.typed;
  parameters = few_parameters env tree ds strings number f w here statement is;
  stands = inl is.around;
}
is_known env tree ds strings rows number f w here statement (of_branch outer g v there s _ _ _ _ _ unit stands is) =
    let round = is_known env tree ds strings rows outer g v there s unit in
    let returns : f.returns ≡ ty.Void = is.typed.returns ∙ ap (λ (x : Within). x.returns) is.within in
    let none = is.parameters in
    record {
      row = stands;
      outside = there;
      declared = map declared_local (parts env there statement).locals;
      typed = is.typed;
      sound = ap (is_sound env.aggregates) returns ∙ void_is_sound env;
      texts = subst (λ (x : Here). All (λ (n : Numbered). n.number < strings) x.texts) (sym is.entered) round.texts;
      level =
          ap length is.around ∙ length-append g.around (outer ∷ []) ∙ ap (λ n. n + 1) round.level
          ∙ sym (length-append there.around (round_of there ∷ [])) ∙ ap (λ (x : Here). length x.around) (sym is.entered);
      locals = locals_of env tree.names w there here (map declared_local (parts env there statement).locals) statement f is.typed;
      parameters = omega arith;
      stands = inr (outer, (is.behind, (g, (round.row, (is.around, (is.parameters, returns))))));
    }
