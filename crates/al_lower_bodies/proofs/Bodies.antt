-- A function at work, and what is claimed of the functions that it calls and of the expressions in it.
use Rattle.std.proofs.Common.{◌≡◌, ℕ, List, [], ◌∷◌, length, Option, Some, ◌⊎◌, le_refl}
use Rattle.std.specs.Prelude.{Contains}
use Rattle.std.specs.List.{flat_map}
use Rattle.al_typed.specs.declared.ty.Ty.{Ty}
use Rattle.al_typed.specs.declared.expression.TExpr.{TExpr, Held-TExpr-Call-2, Row_of-TExpr}
use Rattle.al_typed.specs.declared.expression.TPlace.{TPlace}
use Rattle.al_typed.specs.declared.statement.TStmt.{TStmt, Held-TStmt-If-3, Row_of-TStmt}
use Rattle.al_typed.specs.declared.program.Function.{Function as FunctionRow}
use Rattle.al_typed.specs.declared.program.Program.{Program}
use Rattle.al_typed.specs.WellTyped.{Scope, names_in, labels_in, rescues_in}
use Rattle.al_typed.specs.Typed.{type_of, place_type, row_types}
use Rattle.al_meaning.specs.Places.{function_at}
use Rattle.al_meaning.specs.Here.{units_in}
use Rattle.al_meaning.specs.Tasks.{Still, Outcome, Env, Rest, Task, Ways}
use Rattle.al_meaning.specs.Told.{told, found, told_object, told_all}
use Rattle.al_meaning.specs.Meant.{Given, Part, returned, become_in}
use Rattle.al_ir.specs.declared.ir.Ir.{Ir}
use Rattle.al_ir.specs.declared.ir.Operation.{Operation}
use Rattle.al_ir.specs.Units.{units_at}
use Rattle.al_ir.specs.Control.{Slots, Frame}
use Rattle.al_lowered.specs.Rules.{rules}
use Rattle.al_lower_code.specs.Homes.{Spot, first_free}
use Rattle.al_lower_code.specs.Moving.{layout_number}
use Rattle.al_lower_code.specs.Expressions.{coded, placed, object, row}
use Rattle.al_lower_code.specs.Functions.{spot_of}
use Rattle.al_lower_code.specs.Statements.{Targets}
use Rattle.al_lower_steps.specs.Site.{Site}
use Rattle.al_lower_steps.proofs.Functions.{CalledDoes, Returns}
use Rattle.al_lower_claims.proofs.Homes.{Homes}
use Rattle.al_lower_claims.proofs.Privates.{NoArrayGlobals}
use Rattle.al_lower_claims.proofs.Variables.{Scene, Vars}
use Rattle.al_lower_claims.proofs.Claims.{Setting, spot, CodedDoes, PlacedDoes}
use Rattle.al_lower_values.proofs.Rows.{RowDoes}
use Rattle.al_lower_flow.proofs.Flow.{GoesOn, TestDoes, EffectDoes, Means, PieceDoes}
use Rattle.al_lower_bodies.proofs.Forms as form

-- A function at work above these frames: what it calls above itself and in its place does what it means, and behind what it gives
-- the frames below go on.
pub record Body : Type 0 where
  pub ir : Ir
  pub program : Program
  pub function : ℕ
  pub row : FunctionRow
  pub there : function_at program function ≡ Some row
  pub below : List Frame
  pub call : ℕ → List ℕ → Still → Given → Outcome
  pub instead : ℕ → List ℕ → Still → Given → Outcome
  pub given : Given
  pub homes : Homes program function
  pub layouts : (s : Spot) (t : Ty) (n : ℕ) → s.program ≡ program → layout_number s t ≡ Some n → units_at ir n ≡ units_in program t
  pub plain : NoArrayGlobals program program.globals
  pub calls : (frame : Frame) → frame.function ≡ function → CalledDoes program ir (rules program) call (frame ∷ below)
  pub becomes : CalledDoes program ir (rules program) instead below
  pub returns : Returns program ir (rules program) row below given

-- ---- where its statements stand

abbrev pub ways_in : Body → (line : ℕ) → (ℕ → Rest) → (behind again : List Rest) → Ways
ways_in b line jump behind again = record {
  program = b.program;
  function = b.function;
  line = line;
  call = b.call;
  jump = jump;
  behind = behind;
  again = again;
  return = returned b.row.locals b.given;
  become = become_in b.row.locals b.instead b.given;
}

abbrev pub setting : Body → (line iterators : ℕ) → (ℕ → Rest) → (behind again : List Rest) → Setting
setting b line iterators jump behind again = record {
  ir = b.ir;
  below = b.below;
  ways = ways_in b line jump behind again;
  turns = first_free b.program b.function;
  iterators = iterators;
  homes = b.homes;
  above = le_refl (first_free b.program b.function);
  layouts = b.layouts;
}

abbrev pub site_of : Body → Site
site_of b = record { ir = b.ir; rules = rules b.program; function = b.function; below = b.below; text = [] }

abbrev pub scene_of : Body → (iterators : ℕ) → Scene
scene_of b iterators = record {
  program = b.program;
  function = b.function;
  turns = first_free b.program b.function;
  iterators = iterators;
  homes = b.homes;
  above = le_refl (first_free b.program b.function);
}

abbrev pub vars_of : Body → Env → Slots → Type 0
vars_of b env slots = Vars (scene_of b 0) env slots

abbrev pub spot_in : Body → Spot
spot_in b = spot_of b.program b.function b.row

abbrev pub scope_of : Body → (iterators : ℕ) → Scope
scope_of b iterators = record { names = names_in b.program b.row; iterators = iterators }

-- the labels and rescues of the function
abbrev pub IsKnown : Body → ℕ → Type 0
IsKnown b l = Contains (labels_in b.row.body) l ⊎ Contains (rescues_in b.row.body) l

-- ---- what is claimed of its statements

abbrev pub Goes : Body → (pc : ℕ) → Rest → Type 0
Goes b pc next = GoesOn (site_of b) (vars_of b) pc next

abbrev pub TestIn : Body → (line : ℕ) → ((count : ℕ) → List Operation) → (size : ℕ) → (Ways → Task (List ℕ)) → Type 0
TestIn b = TestDoes (site_of b) (vars_of b) (spot_in b) b.call (returned b.row.locals b.given) (become_in b.row.locals b.instead b.given) (IsKnown b)

abbrev pub EffectIn : Body → (line : ℕ) → List Operation → (Ways → Task (Unit {0})) → Type 0
EffectIn b = EffectDoes (site_of b) (vars_of b) (spot_in b) b.call (returned b.row.locals b.given) (become_in b.row.locals b.instead b.given) (IsKnown b)

abbrev pub PieceIn : Body → (breaks loops : ℕ) → (Targets → ℕ → List Operation) → (size : ℕ) → (ℕ → Part) → (ℕ → ℕ → Option Part) → (ℕ → ℕ → Option ℕ) → Type 0
PieceIn b = PieceDoes (site_of b) (vars_of b) (spot_in b) b.call (returned b.row.locals b.given) (become_in b.row.locals b.instead b.given) (IsKnown b)

abbrev pub MeansIn : Body → (breaks loops : ℕ) → (Targets → ℕ → List Operation) → (size : ℕ) → Part → (pc at : ℕ) → Type 0
MeansIn b = Means (site_of b) (vars_of b) (spot_in b) b.call (returned b.row.locals b.given) (become_in b.row.locals b.instead b.given) (IsKnown b)

abbrev pub StmtIn : Body → (breaks loops : ℕ) → TStmt → Type 0
StmtIn b = form.StmtDoes (site_of b) (vars_of b) (spot_in b) b.call (returned b.row.locals b.given) (become_in b.row.locals b.instead b.given) (IsKnown b)

abbrev pub AllIn : Body → (breaks loops : ℕ) → {m : _} → Row_of-TStmt m → Type 0
AllIn b breaks loops {m} rows = form.AllDo (site_of b) (vars_of b) (spot_in b) b.call (returned b.row.locals b.given) (become_in b.row.locals b.instead b.given) (IsKnown b) breaks loops rows

abbrev pub ElseIn : Body → (breaks loops line : ℕ) → Held-TStmt-If-3 → Type 0
ElseIn b = form.ElseDoes (site_of b) (vars_of b) (spot_in b) b.call (returned b.row.locals b.given) (become_in b.row.locals b.instead b.given) (IsKnown b)

-- ---- what is claimed of its expressions

abbrev pub ValueIn : Body → (line iterators : ℕ) → TExpr → Type 0
ValueIn b line iterators e = (jump : ℕ → Rest) (behind again : List Rest) → CodedDoes (setting b line iterators jump behind again) (told e (ways_in b line jump behind again)) (type_of e) (coded (spot (setting b line iterators jump behind again)) e)

abbrev pub PlaceIn : Body → (line iterators : ℕ) → TPlace → Type 0
PlaceIn b line iterators place = (jump : ℕ → Rest) (behind again : List Rest) → PlacedDoes (setting b line iterators jump behind again) (found place (ways_in b line jump behind again)) (place_type place) (placed (spot (setting b line iterators jump behind again)) place)

abbrev pub ValuesIn : Body → (line iterators : ℕ) → {m : _} → Row_of-TExpr m → Type 0
ValuesIn b line iterators {m} es = (jump : ℕ → Rest) (behind again : List Rest) → RowDoes (setting b line iterators jump behind again) (told_all es (ways_in b line jump behind again)) (row_types es) (row (spot (setting b line iterators jump behind again)) es).keeps (row (spot (setting b line iterators jump behind again)) es).values

-- the object before a function's name gives it values of these types
pub record ObjectIn (b : Body) (line iterators : ℕ) (o : Held-TExpr-Call-2) (given : List Ty) : Type 0 where
  pub does : (jump : ℕ → Rest) (behind again : List Rest) → RowDoes (setting b line iterators jump behind again) (told_object o (ways_in b line jump behind again)) given (object (spot (setting b line iterators jump behind again)) o).keeps (object (spot (setting b line iterators jump behind again)) o).code
  pub words : (jump : ℕ → Rest) (behind again : List Rest) → (object (spot (setting b line iterators jump behind again)) o).words ≡ length (flat_map (units_in b.program) given)
