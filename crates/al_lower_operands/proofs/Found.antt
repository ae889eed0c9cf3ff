-- Where expressions lead and places are, by what was found of their parts.
use Rattle.std.proofs.Common.{◌≡◌, ℕ, Bool, if◌then◌else◌, Result, IfOk, sym, ap, ◌∙◌, subst}
use Rattle.al_typed.specs.declared.expression.TExpr.{TExpr}
use Rattle.al_typed.specs.declared.expression.TPlace.{TPlace}
use Rattle.al_lower_code.specs.Homes.{Spot}
use Rattle.al_lower_code.specs.Coded.{Placed, operand_slot}
use Rattle.al_lower_code.specs.Moving as moving
use Rattle.al_lower_code.specs.Moving.{Stored, moved_by}
use Rattle.al_lower_code.specs.Expressions.{coded, placed}
use Rattle.al_lower_base.specs.declared.place.Where.{Where}
use Rattle.al_lower_base.specs.Spots.{where_of}

pub leads_so : {E : Type 0} (r : Result Where E) (s : Spot) (e : TExpr) (lasting : Bool) (to : ℕ) (w : moving.Where) → (coded s e).leads lasting to ≡ w
    → IfOk r (λ at. where_of at ≡ w) → IfOk r (λ at. where_of at ≡ (coded s e).leads lasting to)
leads_so r s e lasting to w is found = subst (λ (w : moving.Where). IfOk r (λ at. where_of at ≡ w)) (sym is) found

pub placed_so : {E : Type 0} (r : Result Where E) (s : Spot) (p v : TPlace) (pl : Placed) (lasting : Bool) (to : ℕ) → p ≡ v → placed s v ≡ pl
    → IfOk r (λ at. where_of at ≡ pl.at lasting to) → IfOk r (λ at. where_of at ≡ (placed s p).at lasting to)
placed_so r s p v pl lasting to is form found = subst (λ (x : Placed). IfOk r (λ at. where_of at ≡ x.at lasting to)) (sym (ap (placed s) is ∙ form)) found

-- a value that stands in slots, or comes to stand in those from `to` on
pub by_slot : (s : Spot) (e v : TExpr) (lasting : Bool) (to : ℕ) → e ≡ v
    → (coded s v).leads lasting to ≡ Stored (if lasting then to else operand_slot (coded s v) to) 0
    → (coded s e).leads lasting to ≡ Stored (if lasting then to else operand_slot (coded s e) to) 0
by_slot s e v lasting to is eq = subst (λ (x : TExpr). (coded s x).leads lasting to ≡ Stored (if lasting then to else operand_slot (coded s x) to) 0) (sym is) eq

pub moved_so : (w at at_part : moving.Where) (offset n : ℕ) → w ≡ moved_by offset at → offset ≡ n → at ≡ at_part → w ≡ moved_by n at_part
moved_so w at at_part offset n moved is same = moved ∙ ap (λ (k : ℕ). moved_by k at) is ∙ ap (moved_by n) same
