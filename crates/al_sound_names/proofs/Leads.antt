-- The numbers of functions lead to the rows of a program.
use Rattle.std.proofs.Common.{◌≡◌, ℕ, true, false, ◌&&◌, List, [], Some, sym, ap, ap₂, ◌∙◌}
use Rattle.std.specs.Prelude.{slice_get}
use Rattle.al_tree.specs.declared.type_tree.TypeTree.{TypeTree}
use Rattle.al_tree.specs.declared.statement.Stmt.{Stmt}
use Rattle.al_tree.specs.declared.item.Head.{Head}
use Rattle.al_tree.specs.declared.item.Item.{Item}
use Rattle.al_tree.specs.declared.item.Item.TheVariants as item
use Rattle.al_tree.specs.declared.item.Tree.{Tree}
use Rattle.al_typed.specs.declared.program.Function.{Function}
use Rattle.al_typed.specs.declared.program.Program.{Program}
use Rattle.al_typed.specs.declared.ty.Ty.{Ty}
use Rattle.al_typed.specs.Typed.{parameter_types}
use Rattle.al_convert.specs.Same.{same, same_list}
use Rattle.al_convert.proofs.Alikes.{functions_alike}
use Rattle.al_declare.specs.declared.function.Defined.{Defined}
use Rattle.al_environment.specs.declared.environment.Environment.{Environment}
use Rattle.al_environment.specs.declared.environment.Here.{Here}
use Rattle.al_environment.specs.declared.environment.Signature.{Signature}
use Rattle.al_type_stmt.specs.declared.within.Within.{Within}
use Rattle.al_sound_calls.specs.Calls.{IsDefinition}
use Rattle.al_sound_rows.specs.Units.{IsFunction, signature_of}
use Rattle.al_sound_rows.specs.Rows.{FunctionUnit}
use Rattle.al_sound_names.proofs.TellsNames.{IsRowOf}

-- ---- functions

base_in : Item → TypeTree → TypeTree
base_in (item.Function at scope base head body) other = base
base_in _ other = other

head_in : Item → Head → Head
head_in (item.Function at scope base head body) other = head
head_in _ other = other

some_is : {A : Type 0} {a b : A} → Some a ≡ Some b → a ≡ b
some_is h = cc

-- the row of a definition has the types of its head
pub record IsRowOfDefinition (env : Environment) (rows : List Function) (number : ℕ) (d : Defined) (base : TypeTree) (head : Head) : Type 0 where
  pub row : Function
  pub stands : slice_get rows number ≡ Some row
  pub around : row.around ≡ []
  pub parameters : parameter_types row ≡ (signature_of env d base head).parameters
  pub returns : row.returns ≡ (signature_of env d base head).returns

module _ (env : Environment) (tree : Tree) (ds : List Defined) (strings : ℕ) (rows : List Function)
    (units : (number : ℕ) (d : Defined) → slice_get ds number ≡ Some d → FunctionUnit env tree ds strings rows number)
    (parameters : (number : ℕ) (f : Function) (w : Within) (here : Here) (body : Stmt) (is : IsFunction env tree ds strings number f w here body)
    → parameter_types f ≡ (signature_of env is.defined is.base is.head).parameters) where
  pub row_of : (number : ℕ) (d : Defined) (base : TypeTree) (head : Head) → IsDefinition tree ds number d base head → IsRowOfDefinition env rows number d base head
  unfolding base_in head_in
  row_of number d base head is =
      let u = units number d is.numbered in
      let same : u.is.defined ≡ d = some_is (sym u.is.is ∙ is.numbered) in
      let one : item.Function u.is.at u.is.scope u.is.base u.is.head u.body ≡ item.Function is.at is.scope base head is.body =
      some_is (sym u.is.stands ∙ ap (λ (x : Defined). slice_get tree.items x.item) same ∙ is.stands) in
      let all : signature_of env u.is.defined u.is.base u.is.head ≡ signature_of env d base head =
      ap (λ (x : Defined). signature_of env x u.is.base u.is.head) same ∙ ap₂ (λ b h. signature_of env d b h) (ap (λ i. base_in i u.is.base) one) (ap (λ i. head_in i u.is.head) one) in
      record {
        row = u.row;
        stands = u.stands;
        around = u.is.around;
        parameters = parameters number u.row u.within u.here u.body u.is ∙ ap (λ (s : Signature). s.parameters) all;
        returns = u.is.returns ∙ ap (λ (s : Signature). s.returns) all;
      }

  module _ (p : Program) (functions : p.functions ≡ rows) where
    pub leads_to : (number : ℕ) (d : Defined) (base : TypeTree) (head : Head) (taken : List Ty) (returned : Ty) → IsDefinition tree ds number d base head
        → (same false returned (signature_of env d base head).returns && same_list false taken (signature_of env d base head).parameters) ≡ true → IsRowOf p number taken returned
    leads_to number d base head taken returned is e =
        let r = row_of number d base head is in
        record {
          row = r.row;
          callable = (ap (λ fs. slice_get fs number) functions ∙ r.stands, r.around);
          alike =
              sym (functions_alike returned r.row.returns taken (parameter_types r.row))
              ∙ ap₂ (λ t ts. same false returned t && same_list false taken ts) r.returns r.parameters ∙ e;
        }
