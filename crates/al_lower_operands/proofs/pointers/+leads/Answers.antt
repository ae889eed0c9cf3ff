use Rattle.std.proofs.Common.{◌≡◌, ℕ, ◌*◌, ◌%◌, ◌^◌, None, IfOk, Option, refl, sym, ap, ◌∙◌, subst}
use Rattle.al_lower_base.specs.Spots.{spot_of, where_of}
use Rattle.al_lower_code.specs.Coded.{Coded}
use Rattle.al_lower_code.specs.Expressions.{coded}
use Rattle.al_typed.specs.declared.expression.TExpr.{TExpr}
use Rattle.al_typed.specs.declared.expression.TPlace.{TPlace}
use Rattle.al_lower_code.specs.Coded.{Placed}
use Rattle.al_lower_code.specs.Expressions.{placed}
use Rattle.al_lower_code.specs.Homes.{size}
use Rattle.al_lower_code.specs.Moving as moving
use Rattle.al_lower_code.specs.Values.{pointed_placed}
use Rattle.al_meaning.specs.Shown.{kind_of}
use Rattle.al_lower_operands.proofs.ByForm.{by_unary, by_conversion, by_sign}
use Rattle.al_lower_operands.proofs.Forms.{placed-Outer, placed-Global, placed-Pointed, placed-Element, placed-Member, placed-PointedMember}
use Rattle.al_lower_operands.proofs.Fields.{stands-Load, leads-Load, leads-Decay, leads-Address, leads-Iterator}
use Rattle.al_lower_operands.proofs.Found.{leads_so, placed_so, by_slot, moved_so}
use Rattle.al_lower_operands.proofs.Kept.{element_known, element_open}
use Rattle.al_lower_operands.proofs.Plain.{at_to, complement_stands, complement_leads}
use Rattle.al_lower_operands.proofs.Rest.{stands-rest, leads-rest}
use Rattle.al_lower_operands.proofs.pointers.+leads.Goals as goal

pub stands-returns-in-Unary : goal.stands-returns-in-Unary
stands-returns-in-Unary t c =
    by_unary (λ (x : Coded). IfOk c.unary_stands.result (λ k. k ≡ x.stands)) (spot_of c.args.s) c.args.e.now _ _ _ _ _ c.in_ok-folded.ensures c.in-None.is c.in-Unary.is c.get.ensures c.unary_stands.ensures

pub stands-returns-in-Cast : goal.stands-returns-in-Cast
stands-returns-in-Cast t c =
    by_conversion (λ (x : Coded). IfOk c.converted_stands.result (λ k. k ≡ x.stands)) (spot_of c.args.s) c.args.e.now _ _ _ _ c.in_ok-folded.ensures c.in-None.is c.in-Cast.is c.get-in-Cast.ensures c.converted_stands.ensures

pub stands-returns-in_default : goal.stands-returns-in_default
stands-returns-in_default t c =
    sym (stands-rest (spot_of c.args.s) c.args.e.now (sym c.in_ok-folded.ensures ∙ c.in-None.is) c.in_default.not-Load c.in_default.not-Iterator c.in_default.not-Unary c.in_default.not-Cast c.in_default.not-Convert)

pub unary_stands-returns-in-Minus : goal.unary_stands-returns-in-Minus
unary_stands-returns-in-Minus t c =
    by_sign (λ (x : Coded). None ≡ x.stands) (spot_of c.args.s) c.args.ty.now c.args.op (coded (spot_of c.args.s) c.args.of.now) c.in-Minus.is refl (sym (complement_stands (spot_of c.args.s) c.args.ty.now (kind_of c.args.ty.now) (coded (spot_of c.args.s) c.args.of.now)))

pub leads-returns-in-Unary : goal.leads-returns-in-Unary
leads-returns-in-Unary t c =
    by_unary (λ (x : Coded). IfOk c.unary_leads.result (λ k. where_of k ≡ x.leads c.args.lasting c.args.to)) (spot_of c.args.s) c.args.e.now _ _ _ _ _ c.in_ok-folded.ensures c.in-None.is c.in-Unary.is c.get.ensures c.unary_leads.ensures

pub leads-returns-in-Cast : goal.leads-returns-in-Cast
leads-returns-in-Cast t c =
    by_conversion (λ (x : Coded). IfOk c.converted_leads.result (λ k. where_of k ≡ x.leads c.args.lasting c.args.to)) (spot_of c.args.s) c.args.e.now _ _ _ _ c.in_ok-folded.ensures c.in-None.is c.in-Cast.is c.get-in-Cast.ensures c.converted_leads.ensures

pub leads-returns-in_default : goal.leads-returns-in_default
leads-returns-in_default t c =
    c.stored-in_default.ensures ∙ sym (leads-rest (spot_of c.args.s) c.args.e.now c.args.lasting c.args.to (sym c.in_ok-folded.ensures ∙ c.in-None.is) c.in_default.not-Decay c.in_default.not-Address c.in_default.not-Load c.in_default.not-Iterator c.in_default.not-Unary c.in_default.not-Cast c.in_default.not-Convert)

pub unary_leads-returns-in-Minus : goal.unary_leads-returns-in-Minus
unary_leads-returns-in-Minus t c =
    by_sign (λ (x : Coded). where_of c.stored.result ≡ x.leads c.args.lasting c.args.to) (spot_of c.args.s) c.args.ty.now c.args.op (coded (spot_of c.args.s) c.args.of.now) c.in-Minus.is (c.stored.ensures ∙ sym (at_to c.args.lasting c.args.to)) (c.stored.ensures ∙ sym (complement_leads (spot_of c.args.s) c.args.ty.now (kind_of c.args.ty.now) (coded (spot_of c.args.s) c.args.of.now) c.args.lasting c.args.to))

pub stands-returns-in-Load : goal.stands-returns-in-Load
stands-returns-in-Load t c =
    subst (λ (o : Option ℕ). IfOk c.home_at.result (λ slot. slot ≡ o)) (sym (ap (λ (x : TExpr). (coded (spot_of c.args.s) x).stands) c.in-Load.is ∙ stands-Load (spot_of c.args.s) c.in-Load.ty c.in-Load.place)) c.home_at.ensures

pub part_leads-returns : goal.part_leads-returns
part_leads-returns t c =
    subst (λ (x : TExpr). IfOk c.leads.result (λ at. where_of at ≡ (coded (spot_of c.args.s) x).leads c.args.lasting c.args.to)) c.get.ensures c.leads.ensures

pub place_part_at-returns : goal.place_part_at-returns
place_part_at-returns t c =
    subst (λ (x : TPlace). IfOk c.place_at.result (λ at. where_of at ≡ (placed (spot_of c.args.s) x).at c.args.lasting c.args.to)) c.get.ensures c.place_at.ensures

pub home_at-returns : goal.home_at-returns
home_at-returns t c =
    c.home_of.ensures ∙ ap moving.home_of c.in_ok-at.ensures

pub pointed_at-returns : goal.pointed_at-returns
pointed_at-returns t c =
    c.moved_by.ensures ∙ ap (moving.moved_by c.args.offset) c.in_ok-at.ensures

pub member_at-returns : goal.member_at-returns
member_at-returns t c =
    moved_so _ _ _ _ _ c.moved_by.ensures c.in_ok-offset.ensures c.in_ok-at.ensures

pub numbered_at-returns : goal.numbered_at-returns
numbered_at-returns t c =
    subst (λ (n : ℕ). IfOk c.pointed_at.result (λ at. where_of at ≡ (pointed_placed n (coded (spot_of c.args.s) c.args.base.now)).at c.args.lasting c.args.to)) (c.step_bytes-offset.ensures ∙ ap (λ (n : ℕ). c.args.count * n % 2 ^ 32) c.in_ok-size.ensures) c.pointed_at.ensures

pub pointed_member_at-returns : goal.pointed_member_at-returns
pointed_member_at-returns t c =
    subst (λ (n : ℕ). IfOk c.pointed_at.result (λ at. where_of at ≡ (pointed_placed n (coded (spot_of c.args.s) c.args.e.now)).at c.args.lasting c.args.to)) c.in_ok-offset.ensures c.pointed_at.ensures

pub element_at-returns-in-Some : goal.element_at-returns-in-Some
element_at-returns-in-Some t c =
    subst (λ (pl : Placed). IfOk c.numbered_at.result (λ at. where_of at ≡ pl.at c.args.lasting c.args.to)) (sym (element_known (spot_of c.args.s) (size (spot_of c.args.s) c.args.ty.now) (coded (spot_of c.args.s) c.args.base.now) (coded (spot_of c.args.s) c.args.index.now) _ (ap (λ (x : TExpr). (coded (spot_of c.args.s) x).known) (sym c.get.ensures) ∙ sym c.in_ok-count.ensures ∙ c.in-Some.is))) c.numbered_at.ensures

pub element_at-returns-in-None : goal.element_at-returns-in-None
element_at-returns-in-None t c =
    c.stored.ensures ∙ sym (ap (λ (pl : Placed). pl.at c.args.lasting c.args.to) (element_open (spot_of c.args.s) (size (spot_of c.args.s) c.args.ty.now) (coded (spot_of c.args.s) c.args.base.now) (coded (spot_of c.args.s) c.args.index.now) (ap (λ (x : TExpr). (coded (spot_of c.args.s) x).known) (sym c.get.ensures) ∙ sym c.in_ok-count.ensures ∙ c.in-None.is)))

pub leads-returns-in-Load : goal.leads-returns-in-Load
leads-returns-in-Load t c =
    leads_so c.plain_leads.result (spot_of c.args.s) c.args.e.now c.args.lasting c.args.to _ (by_slot (spot_of c.args.s) c.args.e.now _ c.args.lasting c.args.to c.in-Load.is (leads-Load (spot_of c.args.s) c.in-Load.ty c.in-Load.place c.args.lasting c.args.to)) c.plain_leads.ensures

pub leads-returns-in-Iterator : goal.leads-returns-in-Iterator
leads-returns-in-Iterator t c =
    leads_so c.plain_leads-in-Iterator.result (spot_of c.args.s) c.args.e.now c.args.lasting c.args.to _ (by_slot (spot_of c.args.s) c.args.e.now _ c.args.lasting c.args.to c.in-Iterator.is (leads-Iterator (spot_of c.args.s) c.in-Iterator.ty c.in-Iterator.number c.args.lasting c.args.to)) c.plain_leads-in-Iterator.ensures

pub leads-returns-in-Decay : goal.leads-returns-in-Decay
leads-returns-in-Decay t c =
    leads_so c.place_part_at.result (spot_of c.args.s) c.args.e.now c.args.lasting c.args.to _ (ap (λ (x : TExpr). (coded (spot_of c.args.s) x).leads c.args.lasting c.args.to) c.in-Decay.is ∙ leads-Decay (spot_of c.args.s) c.in-Decay.ty c.in-Decay.place c.args.lasting c.args.to) c.place_part_at.ensures

pub leads-returns-in-Address : goal.leads-returns-in-Address
leads-returns-in-Address t c =
    leads_so c.place_part_at-in-Address.result (spot_of c.args.s) c.args.e.now c.args.lasting c.args.to _ (ap (λ (x : TExpr). (coded (spot_of c.args.s) x).leads c.args.lasting c.args.to) c.in-Address.is ∙ leads-Address (spot_of c.args.s) c.in-Address.ty c.in-Address.place c.args.lasting c.args.to) c.place_part_at-in-Address.ensures

pub place_at-returns-in-Outer : goal.place_at-returns-in-Outer
place_at-returns-in-Outer t c =
    placed_so c.outer_at.result (spot_of c.args.s) c.args.p.now _ _ c.args.lasting c.args.to c.in-Outer.is (placed-Outer (spot_of c.args.s) c.in-Outer.ty c.in-Outer.around c.in-Outer.number) (c.outer_at.ensures c.args.lasting c.args.to)

pub place_at-returns-in-Global : goal.place_at-returns-in-Global
place_at-returns-in-Global t c =
    placed_so c.global_at.result (spot_of c.args.s) c.args.p.now _ _ c.args.lasting c.args.to c.in-Global.is (placed-Global (spot_of c.args.s) c.in-Global.ty c.in-Global.number) (c.global_at.ensures c.args.lasting)

pub place_at-returns-in-Pointed : goal.place_at-returns-in-Pointed
place_at-returns-in-Pointed t c =
    placed_so c.pointed_at.result (spot_of c.args.s) c.args.p.now _ _ c.args.lasting c.args.to c.in-Pointed.is (placed-Pointed (spot_of c.args.s) c.in-Pointed.ty c.in-Pointed.pointer) c.pointed_at.ensures

pub place_at-returns-in-Element : goal.place_at-returns-in-Element
place_at-returns-in-Element t c =
    placed_so c.element_at.result (spot_of c.args.s) c.args.p.now _ _ c.args.lasting c.args.to c.in-Element.is (placed-Element (spot_of c.args.s) c.in-Element.ty c.in-Element.base c.in-Element.index) c.element_at.ensures

pub place_at-returns-in-Member : goal.place_at-returns-in-Member
place_at-returns-in-Member t c =
    placed_so c.member_at.result (spot_of c.args.s) c.args.p.now _ _ c.args.lasting c.args.to c.in-Member.is (placed-Member (spot_of c.args.s) c.in-Member.ty c.in-Member.of c.in-Member.path) c.member_at.ensures

pub place_at-returns-in-PointedMember : goal.place_at-returns-in-PointedMember
place_at-returns-in-PointedMember t c =
    placed_so c.pointed_member_at.result (spot_of c.args.s) c.args.p.now _ _ c.args.lasting c.args.to c.in-PointedMember.is (placed-PointedMember (spot_of c.args.s) c.in-PointedMember.ty c.in-PointedMember.pointer c.in-PointedMember.path) c.pointed_member_at.ensures
