use Rattle.std.proofs.Common.{sym, subst}
use Rattle.alef_run.specs.Compiling.{CompilesText}
use Rattle.alef_run.proofs.Compiled.{text_compiles}
use Rattle.alef_run.proofs.compiling.compiled.Goals as goal

pub returns : goal.returns
returns c =
    subst (CompilesText c.args.text.now) (sym c.kept.ensures)
    (text_compiles c.accepted_texts_run_as_meant.ensures.compilable c.args.text.now c.front-found.result c.image_found-image.result c.front-found.ensures.program c.front-found.ensures.refused c.image_found-image.ensures)
