use Rattle.std.proofs.Common.{◌∙◌, ap}
use Rattle.al_meaning.specs.Here.{units_in}
use Rattle.al_meaning.specs.Places.{words_in}
use Rattle.al_meaning.specs.Words.{fitted_to, zero_words}
use Rattle.al_walk_calls.proofs.BegunFrames.{chosen, other}
use Rattle.al_walk_calls.proofs.Onward.{goes}
use Rattle.al_walk_calls.proofs.begins.private_words.Goals as goal

pub returns-then-is_parameter : goal.returns-then-is_parameter
returns-then-is_parameter c =
    goes c.parameter_words.result (λ ws. ws) _ _
    (chosen c.args.is_parameter (fitted_to (units_in c.args.p.now c.args.local.now.ty) c.args.words.now) (zero_words (words_in c.args.p.now c.args.local.now.ty)) c.if-is_parameter.true)
    c.parameter_words.ensures

pub returns-else-is_parameter : goal.returns-else-is_parameter
returns-else-is_parameter c =
    goes c.zero_words.result (λ ws. ws) _ _
    (ap zero_words c.small_words.ensures
    ∙ other c.args.is_parameter (fitted_to (units_in c.args.p.now c.args.local.now.ty) c.args.words.now) (zero_words (words_in c.args.p.now c.args.local.now.ty)) c.if-is_parameter.false)
    c.zero_words.ensures
