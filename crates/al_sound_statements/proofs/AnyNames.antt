-- Among any names of sound types every name reaches what it stands for, and every jump and par what it leads to.
use Rattle.std.proofs.Common.{◌≡◌, ℕ, zero, suc, true, List, [], ◌∷◌, Option, Some, None, subst}
use Rattle.std.specs.Prelude.{All, slice_get}
use Rattle.std.proofs.lemmas.List.Elements.{All-head, All-tail}
use Rattle.al_scope.specs.declared.declaration.Declaration.{Declaration}
use Rattle.al_scope.specs.declared.declaration.Declaration.TheVariants as declaration
use Rattle.al_scope.specs.Firsts.{declaration_at}
use Rattle.al_tree.specs.declared.statement.Stmt.{Stmt, out-Stmt}
use Rattle.al_tree.specs.declared.statement.Stmt.TheOpen.{Stmt-F}
use Rattle.al_typed.specs.declared.ty.Ty.{Ty}
use Rattle.al_typed.specs.declared.program.Aggregate.{Aggregate as AggregateRow}
use Rattle.al_typed.specs.declared.expression.TPlace.TheVariants as place
use Rattle.al_typed.specs.declared.expression.TExpr.TheBlock.{hidden-the_row-TPlace-0, hidden-the_row-TExpr-1, hidden-the_row-TTarget-2, hidden-the_row-TReceiver-4}
use denote.Hole.Carrier.{hidden}
use Rattle.al_typed.specs.Types.{is_complete}
use Rattle.al_typed.specs.WellTyped.{IsPlace, is_sound, is_stored}
use Rattle.al_environment.specs.declared.environment.Here.{Here}
use Rattle.al_environment.specs.declared.environment.Round.{Round}
use Rattle.al_environment.specs.declared.environment.Variable.{Variable as Known}
use Rattle.al_type_stmt.specs.declared.within.Within.{Within}
use Rattle.al_sound_operators.specs.Typed.{IsSoundPlace}
use Rattle.al_sound_nodes.specs.Nodes.{IsReached}
use Rattle.al_sound_statements.specs.Bodies.{BodiesAreSound, among}
use Rattle.al_sound_statements.specs.Named.{BodiesAreNamed, Leads}
use Rattle.al_sound_operators.proofs.SameTypes.{and_both}
use Rattle.al_sound_operators.proofs.TypeForms.{some_is}

all_at : {A : Type 0} (P : A → Type 0) (xs : List A) (k : ℕ) (x : A) → All P xs → slice_get xs k ≡ Some x → P x
all_at P [] k x h q = absurd (cc)
all_at P (a ∷ xs) zero x h q = subst P (some_is q) (All-head P a xs h)
all_at P (a ∷ xs) (suc k) x h q = all_at P xs k x (All-tail P a xs h) q

module _ (rows : List AggregateRow) (strings functions : ℕ) where
  outer_is : (t : Ty) (around n : ℕ) → is_stored rows t ≡ true → IsSoundPlace (among rows strings functions) (place.Outer t around n)
  unfolding IsPlace hidden-the_row-TPlace-0 hidden-the_row-TExpr-1 hidden-the_row-TTarget-2 hidden-the_row-TReceiver-4 hidden
  outer_is t around n h = record { place = h; sound = (and_both (is_sound rows t) (is_complete rows t) h).0 }

  abbrev AreStored : List Round → Type 0
  AreStored rounds = All (λ (r : Round). All (λ (v : Known). is_stored rows v.ty ≡ true) r.locals) rounds

  is_reached : (here : Here) → AreStored here.around → (d : Option Declaration) → IsReached (among rows strings functions) here d
  is_reached here h None = tt
  is_reached here h (Some (declaration.Global n)) = tt
  is_reached here h (Some (declaration.Function n)) = tt
  is_reached here h (Some (declaration.Constant n)) = tt
  is_reached here h (Some (declaration.Local n)) = tt
  is_reached here h (Some (declaration.Outer k n)) = λ r v p q.
      outer_is v.ty r.number v.number
      (all_at (λ (v : Known). is_stored rows v.ty ≡ true) r.locals n v (all_at (λ (r : Round). All (λ (v : Known). is_stored rows v.ty ≡ true) r.locals) here.around k r h p) q)
  is_reached here h (Some declaration.Print) = tt
  is_reached here h (Some declaration.Terminate) = tt

  any_leads : (w : Within) (b l : ℕ) (z : Stmt-F Stmt) → Leads (among rows strings functions) 0 w b l z
  any_leads w b l (Stmt-F.Par at branches) = λ ns q. tt
  any_leads w b l (Stmt-F.Raise at name) = λ n q. tt
  any_leads w b l (Stmt-F.Break at count) = λ n q. tt
  any_leads w b l (Stmt-F.Continue at count) = λ n q. tt
  any_leads w b l (Stmt-F.Goto at name) = λ n q. tt
  any_leads w b l _ = tt

pub bodies_are : BodiesAreNamed → BodiesAreSound
bodies_are law = record {
  body = λ rows strings functions w env here tree tells fit.
      law.body (among rows strings functions) 0 w env here tree
      (record {
        tells = tells;
        returned = tt;
        returns = fit.returns;
        hands_on = λ t q. tt;
        texts = fit.texts;
        no_iterators = fit.iterators;
        reached = λ e c at d. is_reached rows strings functions here fit.around (declaration_at env.scopes.names at);
        shared = λ e c at d n v p q. tt;
        types = fit.types;
        leads = λ x c. any_leads rows strings functions w x.breaks x.loops (out-Stmt x.tree);
      });
}
