use Rattle.std.proofs.Common.{rules, ◌<◌, ◌^◌, length}
use Rattle.al_value_text.proofs.Cuts.{cut_capped}
use Rattle.al_value_text.proofs.width.cut.Goals as goal

pub returns-clause-capped : goal.returns-clause-capped
returns-clause-capped c n e = let few : length c.args.words.now < 2 ^ 64 = search rules in cut_capped n c.args.count c.args.words.now few e
