-- Bodies are well typed where what is gathered of them is sound.
use Rattle.std.proofs.Common.{◌≡◌, ℕ, true, [], ◌∷◌, Option, refl, ap, ◌∙◌}
use Rattle.std.proofs.Math.Path.{fun_ext}
use Rattle.std.proofs.lemmas.List.Elements.{All-contains}
use Rattle.al_tree.specs.declared.type_tree.TypeTree.{TypeTree, fold-TypeTree}
use Rattle.al_tree.specs.declared.type_tree.TypeTree.TheOpen.{TypeTree-F}
use Rattle.al_typed.specs.declared.ty.Ty.{Ty}
use Rattle.al_typed.specs.WellTyped.{is_sound}
use Rattle.al_environment.specs.declared.environment.Environment.{Environment}
use Rattle.al_environment.specs.declared.environment.Here.{Here}
use Rattle.al_environment.specs.declared.environment.OwnAdt.{OwnAdt}
use Rattle.al_environment.specs.Lookups.{inner_type, or_else, outer_type, plain_type}
use Rattle.al_environment.specs.Written.{written, written_step}
use Rattle.al_body_parts.specs.Statements.{parts}
use Rattle.al_sound_nodes.specs.Nodes.{Tells}
use Rattle.al_sound_statements.specs.Bodies.{BodiesAreSound}
use Rattle.al_sound_statements.specs.Gathered.{TypesAreGathered}
use Rattle.al_sound_programs.specs.Functions.{BodiesAreTyped, IsReady, among_any}
use Rattle.al_sound_programs.proofs.Frames.{all_hold}

-- a name stands for the same wherever the own adt is the same
plain_same : (env : Environment) (a b : Here) (name : ℕ) → a.own ≡ b.own → plain_type env a name ≡ plain_type env b name
unfolding plain_type
plain_same env a b name h = ap (λ (o : Option OwnAdt). or_else (inner_type o name) (outer_type env name)) h

step_same : (env : Environment) (a b : Here) → a.own ≡ b.own → (y : TypeTree-F (Option Ty)) → written_step env a y ≡ written_step env b y
step_same env a b h (TypeTree-F.Basic at x) = refl
step_same env a b h (TypeTree-F.Named at name []) = plain_same env a b name h
step_same env a b h (TypeTree-F.Named at name (t ∷ ts)) = refl
step_same env a b h (TypeTree-F.Tuple at ts) = refl
step_same env a b h (TypeTree-F.Chan at t bound) = refl
step_same env a b h (TypeTree-F.Pointer at t) = refl
step_same env a b h (TypeTree-F.Array at bound t) = refl

pub written_same : (env : Environment) (a b : Here) → a.own ≡ b.own → (t : TypeTree) → written env a t ≡ written env b t
unfolding written
written_same env a b h t = ap (λ (f : TypeTree-F (Option Ty) → Option Ty). fold-TypeTree (Option Ty) f t) (fun_ext (step_same env a b h))

pub bodies_typed : BodiesAreSound → TypesAreGathered → (env : Environment) (strings functions : ℕ)
    → ((here : Here) → IsReady env.aggregates strings here → Tells (among_any env.aggregates strings functions) env here) → BodiesAreTyped env strings functions
bodies_typed bodies gathered env strings functions tells w here at tree ready own returns types =
    bodies.body env.aggregates strings functions w env here tree (tells here ready) (record {
      returns = returns;
      texts = ready.texts;
      around = ready.around;
      iterators = ready.iterators;
      types = λ t c u e.
          All-contains (λ (x : Ty). is_sound env.aggregates x ≡ true) (parts env at tree).types u
          (all_hold (is_sound env.aggregates) (parts env at tree).types types)
          (gathered.types env at at refl tree t c u (written_same env at here own t ∙ e));
    })
