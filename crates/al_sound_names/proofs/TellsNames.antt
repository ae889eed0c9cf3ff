-- The environment of a text tells of the names of its program.
use Rattle.std.proofs.Common.{◌≡◌, ℕ, ◌≤◌, true, ◌&&◌, ◌||◌, List, [], ◌++◌, length, Some, sym, ap, ◌∙◌, subst}
use Rattle.std.specs.Prelude.{All, slice_get}
use Rattle.al_tree.specs.declared.item.Tree.{Tree}
use Rattle.al_typed.specs.declared.program.Function.{Function}
use Rattle.al_typed.specs.declared.program.Global.{Global}
use Rattle.al_typed.specs.declared.program.Program.{Program}
use Rattle.al_typed.specs.declared.ty.Ty.{Ty}
use Rattle.al_typed.specs.declared.ty.Ty.TheVariants as ty
use Rattle.al_typed.specs.declared.ty.Ty.TheBlock.{hidden-the_row-Ty-0}
use denote.Hole.Carrier.{hidden}
use Rattle.al_typed.specs.Alike.{are_alike}
use Rattle.al_typed.specs.Typed.{function_type}
use Rattle.al_typed.specs.Types.{is_void, is_whole}
use Rattle.al_typed.specs.WellTyped.{IsCallable, IsPlace, LeadsTo, Scope, is_sound, is_stored, passes}
use Rattle.al_declare.specs.declared.function.Defined.{Defined}
use Rattle.al_environment.specs.declared.environment.Environment.{Environment}
use Rattle.al_environment.specs.declared.environment.Here.{Here}
use Rattle.al_environment.specs.declared.environment.NamedFunction.{NamedFunction}
use Rattle.al_environment.specs.declared.environment.NamedMember.{NamedMember}
use Rattle.al_environment.specs.declared.environment.Signature.{Signature}
use Rattle.al_environment.specs.declared.environment.Variable.{Variable}
use Rattle.al_environment.specs.Lookups.{function, function_named, global, member_named}
use Rattle.al_type_stmt.specs.declared.within.Within.{Within}
use Rattle.al_tree.specs.declared.statement.Stmt.{Stmt}
use Rattle.al_sound_nodes.specs.Nodes.{Calls, IsFunctionOf, IsGlobalOf, IsMemberOf, IsMethodOf, Tells, is_passed}
use Rattle.al_sound_environment.specs.Tells.{any_scope}
use Rattle.al_sound_names.proofs.Named.{AreRoomy, Unit_of, local_sound, scope_in}

-- a function of the program that takes values of these types, and returns one of that type, but for capacities of channels
pub record IsRowOf (p : Program) (number : ℕ) (taken : List Ty) (returned : Ty) : Type 0 where
  pub row : Function
  pub callable : IsCallable p number row
  pub alike : are_alike (ty.Function returned taken) (function_type row) ≡ true

-- a global of the program
pub record IsRowOfGlobal (p : Program) (v : Variable) : Type 0 where
  pub row : Global
  pub is : slice_get p.globals v.number ≡ Some row
  pub ty : row.ty ≡ v.ty
  pub is_private : row.is_private ≡ v.is_private

pub record IsRowOfMethod (p : Program) (aggregate : ℕ) (f : NamedFunction) (number : ℕ) : Type 0 where
  pub object : Ty
  pub leads : LeadsTo p.aggregates f.path (ty.Aggregate aggregate) object
  pub row : IsRowOf p number (passes f.passed object ++ f.signature.parameters) f.signature.returns

-- what the numbers in an environment lead to
pub record NumbersLead (env : Environment) (p : Program) : Type 0 where
  pub globals : (n : ℕ) (v : Variable) → global env n ≡ Some v → IsRowOfGlobal p v
  pub functions : (n number : ℕ) (f : Signature) → function env n ≡ Some f → f.number ≡ Some number → IsRowOf p number f.parameters f.returns
  pub methods : (aggregate name number : ℕ) (f : NamedFunction) → function_named env aggregate name ≡ Some f → f.signature.number ≡ Some number
      → IsRowOfMethod p aggregate f number

pointers_alike : (a b : Ty) → are_alike a b ≡ true → are_alike (ty.Pointer a) (ty.Pointer b) ≡ true
unfolding hidden-the_row-Ty-0 hidden
pointers_alike a b e = ap (λ x. x && true) e

module _ (env : Environment) (tree : Tree) (ds : List Defined) (strings : ℕ) (p : Program) (aggregates : p.aggregates ≡ env.aggregates) (few : length p.functions ≤ 4294967296)
    (roomy : AreRoomy env tree ds strings p aggregates) (lead : NumbersLead env p) where
  module _ (texts functions iterators : ℕ) (outside : Here) (any : Tells (any_scope env texts functions iterators) env outside) (number : ℕ) (f : Function) (w : Within) (here : Here) (u : Stmt)
      (is : Unit_of env tree ds strings p aggregates number f w here u) where
    abbrev S : Scope
    S = scope_in env tree ds strings p aggregates few roomy f iterators

    so_sound : (t : Ty) → is_sound env.aggregates t ≡ true → is_sound p.aggregates t ≡ true
    so_sound t h = subst (λ rows. is_sound rows t ≡ true) (sym aggregates) h

    global_is : (n : ℕ) (v : Variable) → global env n ≡ Some v → IsGlobalOf S v
    unfolding IsPlace
    global_is n v e =
        let g = lead.globals n v e in
        record {
          sound = record { place = (g.row, (g.is, g.ty)); sound = so_sound v.ty (any.globals n v e).sound.sound };
          open_to = λ q. (g.row, (g.is, g.is_private ∙ q));
        }

    calls_are : (s : Signature) (k : ℕ) (given : List Ty) → IsRowOf p k (given ++ s.parameters) s.returns → Calls (any_scope env texts functions iterators) s k given → Calls S s k given
    calls_are s k given r c = record {
      takes = (r.row, (r.callable, r.alike));
      sound = so_sound s.returns c.sound;
      whole = subst (λ rows. (is_void s.returns || is_whole rows s.returns) ≡ true) (sym aggregates) c.whole;
      passed = subst (λ rows. All (λ t. is_passed rows t ≡ true) s.parameters) (sym aggregates) c.passed;
    }

    function_is : (n k : ℕ) (s : Signature) → function env n ≡ Some s → s.number ≡ Some k → IsFunctionOf S s k
    function_is n k s e q =
        let r = lead.functions n k s e q in
        record {
          calls = calls_are s k [] r (any.functions n k s e q).calls;
          value = (r.row, (r.callable, pointers_alike (ty.Function s.returns s.parameters) (function_type r.row) r.alike));
        }

    member_is : (aggregate name : ℕ) (m : NamedMember) → member_named env aggregate name ≡ Some m → IsMemberOf S aggregate m
    member_is aggregate name m e =
        let x = any.members aggregate name m e in
        record {
          leads = subst (λ rows. LeadsTo rows m.path (ty.Aggregate aggregate) m.ty) (sym aggregates) x.leads;
          stored = subst (λ rows. is_stored rows m.ty ≡ true) (sym aggregates) x.stored;
        }

    method_is : (aggregate name k : ℕ) (m : NamedFunction) → function_named env aggregate name ≡ Some m → m.signature.number ≡ Some k → IsMethodOf S aggregate m k
    method_is aggregate name k m e q =
        let r = lead.methods aggregate name k m e q in
        let x = any.methods aggregate name k m e q in
        let c = x.calls in
        record {
          object = r.object;
          leads = r.leads;
          calls = calls_are m.signature k (passes m.passed r.object) r.row (record { takes = c.sound; sound = c.sound; whole = c.whole; passed = c.passed });
        }

    pub names_told : Tells S env here
    names_told = record {
      aggregates = sym aggregates;
      globals = global_is;
      locals = λ n v e. local_sound env tree ds strings p aggregates few roomy number f w here u is iterators n v e;
      constants = any.constants;
      functions = function_is;
      members = member_is;
      methods = method_is;
    }
