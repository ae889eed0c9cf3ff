use Rattle.std.proofs.Common.{refl, ◌≡◌, ap, Some, sym, subst, Option}
use Rattle.std.specs.Prelude.{slice_get}
use Rattle.al_typed.specs.declared.program.Function.{Function}
use Rattle.al_meaning.specs.Calls as spec
use Rattle.al_walk_calls.specs.Fits.{EndFits}
use Rattle.al_walk_calls.proofs.Onward.{explained, goes, numbered, unnumbered}
use Rattle.al_walk_calls.proofs.ends.default_given.Goals as goal

pub returns-then-is_numbered-clause-given : goal.returns-then-is_numbered-clause-given
returns-then-is_numbered-clause-given c =
    goes c.zero_of.result (λ g. g) _ _
    (ap (spec.default_of c.args.p.now)
    (numbered c.as_slice-functions.result.now c.args.p.now.functions c.args.number c.index-functions-at.result c.as_slice-functions.ensures.value
    (c.if-is_numbered.ensures.0 refl) c.index-functions-at.is))
    c.zero_of.ensures.given

pub returns-then-is_numbered-clause-why : goal.returns-then-is_numbered-clause-why
returns-then-is_numbered-clause-why c =
    let at : Some c.index-functions-at.result ≡ slice_get c.args.p.now.functions c.args.number =
    (numbered c.as_slice-functions.result.now c.args.p.now.functions c.args.number c.index-functions-at.result c.as_slice-functions.ensures.value
    (c.if-is_numbered.ensures.0 refl) c.index-functions-at.is)
    in
    explained c.zero_of.result (EndFits c.args.p.now (Some c.index-functions-at.result)) (EndFits c.args.p.now (slice_get c.args.p.now.functions c.args.number))
    (subst (λ (f : Option Function). EndFits c.args.p.now f) (sym at)) c.zero_of.ensures.why

pub returns-else-is_numbered-clause-given : goal.returns-else-is_numbered-clause-given
returns-else-is_numbered-clause-given c = ap (spec.default_of c.args.p.now) (unnumbered c.args.p.now.functions c.args.number c.if-is_numbered.ensures.1)
