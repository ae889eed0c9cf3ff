use Rattle.std.proofs.Common.{refl, ◌∙◌, Option, ap, subst, sym}
use Rattle.al_typed.specs.declared.program.Function.{Function}
use Rattle.al_meaning.specs.Calls as spec
use Rattle.al_meaning.specs.Places.{locals_of}
use Rattle.al_walk_calls.specs.Fits.{AreSmall}
use Rattle.al_walk_calls.proofs.Onward.{numbered, unnumbered}
use Rattle.al_walk_calls.proofs.begins.begun.Goals as goal

pub begun_function-requires-clause-small : goal.begun_function-requires-clause-small
begun_function-requires-clause-small c =
    subst (λ (f : Option Function). AreSmall c.args.p.now (locals_of f))
    (sym
    (numbered c.as_slice-functions.result.now c.args.p.now.functions c.args.number c.index-functions-at.result c.as_slice-functions.ensures.value
    (c.if-is_numbered.ensures.0 refl) c.index-functions-at.is))
    c.requires.fits

pub returns-in_ok-frame : goal.returns-in_ok-frame
returns-in_ok-frame c =
    c.in_ok-frame.ensures
    ∙ ap (λ f. spec.begun_function c.args.p.now c.args.number f c.args.words.now)
    (numbered c.as_slice-functions.result.now c.args.p.now.functions c.args.number c.index-functions-at.result c.as_slice-functions.ensures.value
    (c.if-is_numbered.ensures.0 refl) c.index-functions-at.is)

pub returns-else-is_numbered : goal.returns-else-is_numbered
returns-else-is_numbered c =
    c.no_function.ensures c.args.p.now c.args.words.now
    ∙ ap (λ f. spec.begun_function c.args.p.now c.args.number f c.args.words.now) (unnumbered c.args.p.now.functions c.args.number c.if-is_numbered.ensures.1)
