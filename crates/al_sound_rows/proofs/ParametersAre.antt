-- A function takes values of the types that its head says.
use Rattle.std.proofs.Common.{◌≡◌, ℕ, suc, ◌+◌, ◌≤◌, Bool, List, [], ◌∷◌, ◌++◌, length, map, take, refl, sym, ap, ◌∙◌, arith, append_assoc, length-append}
use Rattle.std.specs.Prelude.{if◌then◌else◌, slice_get}
use Rattle.std.proofs.lemmas.Bool.{le-leb}
use Rattle.al_tree.specs.declared.item.Parameter.{Parameter}
use Rattle.al_tree.specs.declared.item.Tree.{Tree}
use Rattle.al_tree.specs.declared.statement.Stmt.{Stmt}
use Rattle.al_shared.specs.Statements.{shared}
use Rattle.al_typed.specs.declared.program.Function.{Function}
use Rattle.al_typed.specs.declared.ty.Ty.{Ty}
use Rattle.al_typed.specs.Typed.{local_types, parameter_types}
use Rattle.al_environment.specs.declared.environment.Environment.{Environment}
use Rattle.al_environment.specs.declared.environment.Here.{Here}
use Rattle.al_declare.specs.declared.function.Defined.{Defined}
use Rattle.al_type_rules.specs.Types.{known, parameter_type, signature}
use Rattle.al_type_stmt.specs.declared.within.Within.{Within}
use Rattle.al_type_function.specs.Numbers.{capped, indexed}
use Rattle.al_type_function.specs.Locals.{declared_parameter, declared_parameters, local}
use Rattle.al_sound_rows.specs.Unnamed.{Declared}
use Rattle.al_sound_rows.specs.Units.{IsFunction, at_head, declared_in, signature_of}
use Rattle.al_sound_rows.proofs.Lists.{get_behind}

pub small_is : (n : ℕ) → n ≤ 4294967295 → capped n ≡ n
small_is n h = ap (λ b. if b then n else 4294967295) (le-leb n 4294967295 h)

abbrev type_of_declared : Declared → Ty
type_of_declared d = d.ty

first_types : (names : List (List ℕ)) (marks : List Bool) (k : ℕ) (ds rest : List Declared)
    → local_types (take (length ds) (indexed (local names marks) k (ds ++ rest))) ≡ map type_of_declared ds
unfolding indexed
first_types names marks k [] rest = refl
first_types names marks k (d ∷ ds) rest = ap (λ ts. d.ty ∷ ts) (first_types names marks (k + 1) ds rest)

pub indexed_length : {A B : Type 0} (f : ℕ → A → B) (k : ℕ) (xs : List A) → length (indexed f k xs) ≡ length xs
unfolding indexed
indexed_length f k [] = refl
indexed_length f k (x ∷ xs) = ap suc (indexed_length f (k + 1) xs)

here_type : (front rest : List Ty) (t : Ty) → known (slice_get (front ++ t ∷ rest) (length front)) ≡ t
here_type front rest t = ap (λ n. known (slice_get (front ++ t ∷ rest) n)) (end (length front)) ∙ ap known (get_behind front (t ∷ rest) 0)
  where
    end : (n : ℕ) → n ≡ n + 0
    end n = omega arith

abbrev types_by : List Ty → ℕ → List Parameter → List Ty
types_by ts k ps = map type_of_declared (indexed (declared_parameter ts) k ps)

head_types : (f : Parameter → Ty) (front : List Ty) (ps : List Parameter) → types_by (front ++ map f ps) (length front) ps ≡ map f ps
unfolding indexed
head_types f front [] = refl
head_types f front (p ∷ ps) =
    ap (λ t. t ∷ types_by (front ++ f p ∷ map f ps) (length front + 1) ps) (here_type front (map f ps) (f p))
    ∙ ap (λ ts. f p ∷ ts)
    (ap (λ ts. types_by ts (length front + 1) ps) (sym (append_assoc front (f p ∷ []) (map f ps)))
    ∙ ap (λ n. types_by ((front ++ f p ∷ []) ++ map f ps) n ps) (sym (length-append front (f p ∷ []))) ∙ head_types f (front ++ f p ∷ []) ps)

pub parameters_are : (env : Environment) (tree : Tree) (ds : List Defined) (strings number : ℕ) (f : Function) (w : Within) (here : Here) (body : Stmt)
    (is : IsFunction env tree ds strings number f w here body) → length is.head.parameters ≤ 4294967295 → parameter_types f ≡ (signature_of env is.defined is.base is.head).parameters
unfolding signature
parameters_are env tree ds strings number f w here body is small =
    let ts = (signature_of env is.defined is.base is.head).parameters in
    let ps = is.head.parameters in
    let first = declared_parameters ts ps in
    let all = declared_in env is.defined is.base is.head body in
    let marks = shared env.scopes.names (length here.around) (length all) body in
    let count : f.parameters ≡ length first = is.parameters ∙ small_is (length ps) small ∙ sym (indexed_length (declared_parameter ts) 0 ps) in
    ap (λ n. local_types (take n f.locals)) count ∙ ap (λ ls. local_types (take (length first) ls)) is.typed.locals ∙ first_types tree.names marks 0 first _
    ∙ head_types (parameter_type env (at_head env is.head is.defined)) [] ps
