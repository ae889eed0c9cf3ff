use Rattle.std.proofs.Common.{sym, ◌∙◌}
use Rattle.al_core.proofs.Finishes.{is_left, acts_done}
use Rattle.al_core.proofs.machinery.Machinery.act.Goals as goal

pub finish-requires : goal.finish-requires
finish-requires c = record {
  left = is_left c.args.image.now c.args.asked c.args.self.now c.prepare.new.self c.home.new.self c.args.pick c.in-Ok.what c.in-Ok.ensures.prepared c.home.ensures c.requires c.in-Some.slot (sym c.first.ensures ∙ c.in-Some.is);
}

pub returns-clause-done : goal.returns-clause-done
returns-clause-done c =
    acts_done c.args.image.now c.args.asked c.args.self.now c.prepare.new.self c.home.new.self c.args.pick c.in-Ok.what c.in-Ok.ensures.prepared c.home.ensures c.in-Some.slot c.finish.result c.finish.new.self (sym c.first.ensures ∙ c.in-Some.is) (c.finish.ensures c.args.image.now _)
