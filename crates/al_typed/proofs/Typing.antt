-- The type of each kind of target.
use Rattle.std.proofs.Common.{◌≡◌, List, refl}
use Rattle.al_typed.specs.declared.ty.Ty.{Ty}
use Rattle.al_typed.specs.declared.expression.TExpr.TheBlock.{hidden-the_row-TPlace-0}
use Rattle.al_typed.specs.declared.expression.TPlace.{TPlace}
use Rattle.al_typed.specs.declared.expression.TTarget.{TTarget}
use Rattle.al_typed.specs.declared.expression.TTarget.TheVariants as target
use denote.Hole.Carrier.{hidden}
use Rattle.al_typed.specs.Typed.{place_type, target_type}

pub target_type-Into : (x : TPlace) → target_type (target.Into x) ≡ place_type x
unfolding hidden-the_row-TPlace-0 hidden
target_type-Into x = refl

pub target_type-Dropped : (t : Ty) → target_type (target.Dropped t) ≡ t
target_type-Dropped t = refl

pub target_type-Parts : (t : Ty) (xs : List TTarget) → target_type (target.Parts t xs) ≡ t
target_type-Parts t xs = refl

pub ruleset target_types = (target_type-Into, target_type-Dropped, target_type-Parts)
