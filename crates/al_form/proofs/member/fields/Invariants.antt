use Rattle.std.proofs.Common.{◌≡◌, drop, fold}
use Rattle.al_form.specs.Forms.{with_field}
use Rattle.al_form.proofs.member.fields.Given as goal

abbrev pub invariant-loop-dcl : goal.invariant-loop-dcl
invariant-loop-dcl l = fold (with_field l.names l.inside l.is_intern l.base) l.fn.w l.list ≡ fold (with_field l.names l.inside l.is_intern l.base) l.w (drop l.dcl-index l.list)
