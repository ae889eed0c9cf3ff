use Rattle.std.proofs.Common.{◌≡◌, ◌<◌, ◌+◌, ℕ, map, length, take, subst, arith}
use Rattle.std.specs.Prelude.{fold}
use Rattle.al_typed.specs.Capped.{capped}
use Rattle.al_typed.specs.Layout.{layout, rounded}
use Rattle.al_control_values.proofs.Paths.{placed, member_placed, member_begins}
use Rattle.al_control_values.proofs.members.offset.Goals as goal

pub loop-i-preserved : goal.loop-i-preserved
loop-i-preserved c =
    let room = c.room_of-room.result in
    let moved : c.saturating_add-end.result ≡ capped (capped (rounded c.loop-i.end room.align) + room.size) = omega (arith, c.rounded.ensures, c.saturating_add-end.ensures) in
    let there : c.loop-i.i < length c.args.members.now = omega (arith, c.requires.there, c.loop-i-test.true) in
    member_placed c.args.rows.now c.args.members.now c.loop-i.i c.index-members-i.result c.loop-i.end room.size room.align c.saturating_add-end.result there
    c.index-members-i.is c.loop-i.invariant c.room_of-room.ensures.value.align c.room_of-room.ensures.align c.room_of-room.ensures.value.size moved

pub returns : goal.returns
returns c =
    let ls = map (layout c.args.rows.now) c.args.members.now in
    let at_end : c.loop-i.i ≡ c.args.number = omega arith in
    let so_far : c.loop-i.end ≡ capped (fold placed 0 (take c.args.number ls)) =
    subst (λ (k : ℕ). c.loop-i.end ≡ capped (fold placed 0 (take k ls))) at_end c.loop-i.invariant
    in
    member_begins c.args.rows.now c.args.members.now c.args.number c.index-members-number.result c.loop-i.end c.room_of.result.align c.rounded-2.result
    c.requires.there c.index-members-number.is so_far c.room_of.ensures.value.align c.room_of.ensures.align c.rounded-2.ensures
