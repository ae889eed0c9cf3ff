use Rattle.std.proofs.Common.{◌≡◌, ◌-◌, true, length, Ok, rules, arith}
use Rattle.std.proofs.lemmas.Grind.{common_steps}
use Rattle.al_tree.specs.Leaves.{leaves_of}
use Rattle.al_tree.specs.Reading.{take_if}
use Rattle.al_parse_stmt.specs.Known.{declared_of}
use Rattle.al_parse_stmt.proofs.NextToken.{some_next}
use Rattle.al_parse_stmt.proofs.reader.Reader.decided_at.Goals as goal

pub returns-in-Ok : goal.returns-in-Ok
returns-in-Ok c =
    let taken : take_if true c.args.tokens.now ≡ Ok (c.in-Ok.t, c.take_if.new.self) = first_of (search rules, grind (arith, common_steps)) in
    let count : c.left_of-left.result ≡ length c.args.all.now - (length c.args.first.now - length c.args.tokens.now) = first_of (search rules, grind (arith, common_steps)) in
    some_next (leaves_of c.args.text.now) c.args.self.now.turns c.args.self.now.depth (declared_of c.args.known.now) c.args.at c.args.scope c.args.all.now c.args.first.now c.args.begun c.args.tokens.now c.take_if.new.self c.in-Ok.t c.left_of-left.result c.in_ok-refused-in-Ok.refused c.fault_behind.result
    taken count c.in_ok-refused-in-Ok.ensures c.fault_behind.ensures
