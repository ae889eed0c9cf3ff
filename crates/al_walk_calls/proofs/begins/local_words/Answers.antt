use Rattle.std.proofs.Common.{◌∙◌, ℕ, List, [], if◌then◌else◌}
use Rattle.al_meaning.specs.Here.{units_in}
use Rattle.al_meaning.specs.Places.{words_in}
use Rattle.al_meaning.specs.Words.{fitted_to, zero_words}
use Rattle.al_walk_calls.proofs.BegunFrames.{chosen, other}
use Rattle.al_walk_calls.proofs.Onward.{goes}
use Rattle.al_walk_calls.proofs.begins.local_words.Goals as goal

pub returns-then-local : goal.returns-then-local
returns-then-local c =
    let own : List ℕ = if c.args.is_parameter then fitted_to (units_in c.args.p.now c.args.local.now.ty) c.args.words.now else zero_words (words_in c.args.p.now c.args.local.now.ty) in
    c.new.ensures ∙ chosen c.args.local.now.is_shared [] own c.if-local.true

pub returns-else-local : goal.returns-else-local
returns-else-local c =
    let own : List ℕ = if c.args.is_parameter then fitted_to (units_in c.args.p.now c.args.local.now.ty) c.args.words.now else zero_words (words_in c.args.p.now c.args.local.now.ty) in
    goes c.private_words.result (λ ws. ws) _ _ (other c.args.local.now.is_shared [] own c.if-local.false) c.private_words.ensures
