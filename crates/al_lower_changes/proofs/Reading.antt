-- Values that are read into slots behind the one that has their address.
use Rattle.std.proofs.Common.{◌≡◌, ℕ, ◌+◌, ◌<◌, List, [], length, refl, sym, ap, subst, inl, arith}
use Rattle.std.specs.Prelude.{Bool, false}
use Rattle.al_typed.specs.declared.ty.Ty.{Ty}
use Rattle.al_typed.specs.Types.{is_array}
use Rattle.al_meaning.specs.Here.{units_in}
use Rattle.al_meaning.specs.Items.{Found, Words, Address, Local, Private, Nowhere}
use Rattle.al_meaning.specs.Tasks.{Still, Env, Rest}
use Rattle.al_meaning.specs.Told.{read, load_units}
use Rattle.al_ir.specs.Control.{Slots}
use Rattle.al_lower_code.specs.Moving.{Where, read_code}
use Rattle.al_lower_steps.specs.Slots.{Holds, Outside}
use Rattle.al_lower_steps.proofs.Steps.{moved, comes_out}
use Rattle.al_lower_claims.proofs.Privates.{NoArrayGlobals}
use Rattle.al_lower_claims.proofs.Variables.{more_room, free}
use Rattle.al_lower_claims.proofs.Claims.{Setting, scene, site, spot, Run, Has, HasVars, HasRoom, UnitsOf, count_of, Leads, own, bound, variable, FoundAt, stored, slotted, kept}
use Rattle.al_lower_claims.proofs.Places.{read_does}
use Rattle.al_lower_claims.proofs.Reading.{load_by_does}

-- the slot of an address lies before those behind it
pub lead_before : (k : Setting) {lasting : Bool} (slot to : ℕ) → Leads k lasting slot to → HasRoom k to → slot < to + 1
lead_before k slot to (own e) room = omega (arith, e)
lead_before k slot to (bound f lt) room = omega (arith, lt, room)
lead_before k slot to (variable j r e y at one) room = let q = k.homes.fits j r y in let a = k.above in omega (arith, q, a, at, one, room)

module _ (k : Setting) (plain : NoArrayGlobals k.ways.program k.ways.program.globals) where
  pub read_behind : (t : Ty) {fd : Found} {at : Where} {lasting : Bool} (to pc : ℕ) (slots last : Slots) (env : Env) (s : Still) (next : List ℕ → Rest) → FoundAt k t lasting to slots at fd → is_array t ≡ false → HasRoom k to → HasVars k env slots → Has k pc (read_code (spot k) t at (to + 1)) → ((v : List ℕ) (s : Still) (now : Slots) → UnitsOf k t v → Outside (to + 1) (count_of k t) now slots → Holds now (to + 1) v → Run k (next v env s) (pc + length (read_code (spot k) t at (to + 1))) now last s) → Run k (read k.ways t fd env s next) pc slots last s
  read_behind t {fd = Address a} {at} {lasting} to pc slots last env s next (stored slot offset word e there is leads) na room vars has go =
      comes_out (site k) (ap (λ a. load_units k.ways a (units_in k.ways.program t) [] env s next) is)
      (load_by_does k t s next env word (to + 1) slot offset pc slots last there na (inl (inl (lead_before k slot to leads room))) (subst (λ q. Has k pc (read_code (spot k) t q (to + 1))) e has) (λ v s now fits o holds.
      moved (site k) (ap (λ q. pc + length (read_code (spot k) t q (to + 1))) (sym e)) (go v s now fits o holds)))
  read_behind t {fd = Local n} {at} {lasting} to pc slots last env s next (slotted l x ty e) na room vars has go =
      read_does k plain t {fd = Local n} {at = at} {lasting = lasting} (to + 1) (to + 1) pc slots last env s next (slotted l x ty e) na (free refl) (more_room (scene k) to 1 room) vars has go
  read_behind t {fd = Private n} {at} {lasting} to pc slots last env s next (kept g row private ty e) na room vars has go =
      read_does k plain t {fd = Private n} {at = at} {lasting = lasting} (to + 1) (to + 1) pc slots last env s next (kept g row private ty e) na (free refl) (more_room (scene k) to 1 room) vars has go
  read_behind t {fd = Words _} to pc slots last env s next x na room vars has go = elim x [ ]
  read_behind t {fd = Nowhere} to pc slots last env s next x na room vars has go = elim x [ ]
