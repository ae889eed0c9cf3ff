use Rattle.std.proofs.Common.{◌≡◌, List, None, [], ◌∷◌, ◌∙◌, sym, subst, refl}
use Rattle.std.specs.Prelude.{slice_index}
use Rattle.al_typed.specs.Capped.{capped}
use Rattle.al_typed.specs.declared.ty.Ty.{Ty}
use Rattle.al_control_values.specs.Reaches.{Finds, places}
use Rattle.al_control_values.proofs.Paths.{no_row, no_body, no_member, a_member, member_place}
use Rattle.al_control_values.proofs.members.member.Goals as goal

pub returns-in-None : goal.returns-in-None
returns-in-None c = subst (Finds None) (sym (no_row c.args.rows.now c.args.ty.now c.args.number (sym c.in-None.ensures))) tt

pub returns-in-None-members : goal.returns-in-None-members
returns-in-None-members c =
    subst (Finds None) (sym (no_body c.args.rows.now c.args.ty.now c.args.number c.in-Some.row.now (sym c.in-Some.ensures) c.in-None-members.is)) tt

pub returns-in-None-get : goal.returns-in-None-get
returns-in-None-get c =
    subst (Finds None)
    (sym (no_member c.args.rows.now c.args.ty.now c.args.number c.in-Some.row.now c.in-Some-members.members (sym c.in-Some.ensures) c.in-Some-members.is (sym c.in-None-get.ensures.value)))
    tt

pub returns-in-Some-get : goal.returns-in-Some-get
returns-in-Some-get c =
    let rows = c.args.rows.now in
    let row = c.in-Some.row.now in
    let members = c.in-Some-members.members in
    let number = c.args.number in
    let there = slice_index (places rows row.is_union members) number in
    a_member rows c.args.ty.now c.in-Some-get.ty.now number there row members (record { ty = c.in-Some-get.ty; at = c.place-at.result }) (sym c.in-Some.ensures) c.in-Some-members.is (sym c.in-Some-get.ensures.value) refl
    (subst (λ (ms : List Ty). c.place-at.result ≡ capped (slice_index (places rows row.is_union ms) number)) c.as_slice.ensures.value c.place-at.ensures)
    (member_place rows row.is_union members number c.in-Some-get.ensures.within)
