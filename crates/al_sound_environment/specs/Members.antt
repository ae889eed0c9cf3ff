-- Members and functions by their names lead to members and to objects, where the rows have the members that the forms have.
use Rattle.std.specs.Prelude.{◌≡◌, ℕ, List, [], ◌∷◌, Some, slice_get, true, ⊤}
use Rattle.al_rules.specs.Outcome.{Good}
use Rattle.al_typed.specs.declared.program.Aggregate.{Aggregate as AggregateRow}
use Rattle.al_typed.specs.declared.ty.Ty.{Ty}
use Rattle.al_typed.specs.declared.ty.Ty.TheVariants as ty
use Rattle.al_typed.specs.Layout.{members_of}
use Rattle.al_typed.specs.WellTyped.{LeadsTo, is_stored}
use Rattle.al_environment.specs.declared.environment.Environment.{Environment}
use Rattle.al_environment.specs.declared.environment.NamedFunction.{NamedFunction}
use Rattle.al_environment.specs.declared.environment.NamedMember.{NamedMember}
use Rattle.al_environment.specs.Lookups.{function_named, member_named}
use Rattle.al_form.specs.declared.form.Form.{Form}
use Rattle.al_form.specs.declared.form.FormMember.{FormMember}
use Rattle.al_form.specs.declared.form.Forms.{Forms}
use Rattle.al_layout.specs.Types.{member_ty}
use Rattle.al_layout.specs.Rows.{with_rows}
use Rattle.al_member_names.specs.declared.function.OwnFunction.{OwnFunction}
use Rattle.al_member_names.specs.Members.{member_names, own_at}

abbrev pub Every : {A : Type 0} → (A → Type 0) → List A → Type 0
Every P [] = ⊤
Every P (x ∷ xs) = P x × Every P xs

-- each of these numbers is that of a form
abbrev pub AreForms : Forms → List ℕ → Type 0
AreForms fs ks = Every (λ k. (f : Form) × (slice_get fs.list k ≡ Some f)) ks

-- the type of a member stands at the number of the member in the row of the form
abbrev pub HaveMembers : Forms → List ℕ → List AggregateRow → List ℕ → Type 0
HaveMembers fs ns rows ks = (n k : ℕ) (f : Form) (ms : List FormMember) → slice_get ks n ≡ Some k → slice_get fs.list k ≡ Some f → f.members ≡ Some ms
    → (i : ℕ) (m : FormMember) (t : Ty) → slice_get ms i ≡ Some m → member_ty fs ns m.ty ≡ Some t → slice_get (members_of (slice_get rows n)) i ≡ Some t

-- each member has a type of a value in storage
abbrev pub AreStored : List AggregateRow → Type 0
AreStored rows = (n i : ℕ) (t : Ty) → slice_get (members_of (slice_get rows n)) i ≡ Some t → is_stored rows t ≡ true

-- a member of an aggregate
pub record IsNamed (rows : List AggregateRow) (n : ℕ) (m : NamedMember) : Type 0 where
  pub leads : LeadsTo rows m.path (ty.Aggregate n) m.ty
  pub stored : is_stored rows m.ty ≡ true

-- A function of an aggregate, its own or one that is lent: its object is the adt of which it is one.
pub record IsOwned (rows : List AggregateRow) (n : ℕ) (f : NamedFunction) : Type 0 where
  pub adt : ℕ
  pub leads : LeadsTo rows f.path (ty.Aggregate n) (ty.Aggregate adt)

-- the own functions of types are called on these
abbrev pub AreOwn : List (List OwnFunction) → Type 0
AreOwn own = (n : ℕ) → Every (λ (f : OwnFunction). f.function.path ≡ []) (own_at own n)

pub record MembersAreSound : Type 0 where
  -- rows that are found from forms have the members of these
  pub have_members : (fs : Forms) (ns ks : List ℕ) (rows : List AggregateRow) → AreForms fs ks → with_rows fs ns [] ks ≡ Good rows → HaveMembers fs ns rows ks
  pub named : (fs : Forms) (ns ks : List ℕ) (rows : List AggregateRow) (own : List (List OwnFunction)) (env : Environment)
      → HaveMembers fs ns rows ks → AreStored rows → AreOwn own → member_names fs ns ks own ≡ Good env.names
      → (aggregate name : ℕ) (m : NamedMember) → member_named env aggregate name ≡ Some m → IsNamed rows aggregate m
  pub owned : (fs : Forms) (ns ks : List ℕ) (rows : List AggregateRow) (own : List (List OwnFunction)) (env : Environment)
      → HaveMembers fs ns rows ks → AreStored rows → AreOwn own → member_names fs ns ks own ≡ Good env.names
      → (aggregate name : ℕ) (f : NamedFunction) → function_named env aggregate name ≡ Some f → IsOwned rows aggregate f
