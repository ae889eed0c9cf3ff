-- Which bounds of each kind are constant.
use Rattle.std.proofs.Common.{◌≡◌, ℕ, ◌&&◌, Bool, true, List, [], ◌∷◌, map, fold, Option, Some, None, refl, ap, ◌∙◌, sym}
use Rattle.al_base.specs.declared.place.Place.{Place}
use Rattle.al_tree.specs.declared.constants.EnumConstant.{EnumConstant}
use Rattle.al_scope.specs.declared.walk.Walk.{Walk}
use Rattle.al_tree.specs.declared.type_tree.BoundOp.{BoundOp}
use Rattle.al_tree.specs.declared.type_tree.Bound.{Bound, fold-Bound, fold-roll-Bound}
use Rattle.al_tree.specs.declared.type_tree.Bound.TheVariants as n
use Rattle.al_tree.specs.declared.type_tree.Bound.TheOpen.{Bound-F}
use Rattle.al_tree.specs.Constants.{latest_before}
use Rattle.al_scope.specs.Rules.{Test, has_value, bound_step, is_constant_bound}

pub is_constant_bound-Number : (at : Place) (value : ℕ) (c : List EnumConstant) (p : Place) → is_constant_bound (n.Number at value) c p ≡ true
unfolding is_constant_bound
is_constant_bound-Number at value c p = ap (λ n. fold-Bound Test bound_step n c p) (sym (n.rolls-Number at value)) ∙ ap (λ (a : Test). a c p) (fold-roll-Bound Test bound_step (Bound-F.Number at value))

pub is_constant_bound-Name : (at : Place) (name : ℕ) (c : List EnumConstant) (p : Place) → is_constant_bound (n.Name at name) c p ≡ has_value (latest_before c name p)
unfolding is_constant_bound
is_constant_bound-Name at name c p = ap (λ n. fold-Bound Test bound_step n c p) (sym (n.rolls-Name at name)) ∙ ap (λ (a : Test). a c p) (fold-roll-Bound Test bound_step (Bound-F.Name at name))

pub is_constant_bound-Binary : (at : Place) (op : BoundOp) (a : Bound) (b : Bound) (c : List EnumConstant) (p : Place) → is_constant_bound (n.Binary at op a b) c p ≡ (is_constant_bound a c p && is_constant_bound b c p)
unfolding is_constant_bound
is_constant_bound-Binary at op a b c p = ap (λ n. fold-Bound Test bound_step n c p) (sym (n.rolls-Binary at op a b)) ∙ ap (λ (a : Test). a c p) (fold-roll-Bound Test bound_step (Bound-F.Binary at op a b))

pub ruleset bound_is = (is_constant_bound-Number, is_constant_bound-Name, is_constant_bound-Binary)
