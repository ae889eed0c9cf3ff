use Rattle.std.proofs.Common.{◌∙◌}
use Rattle.al_walk_values.proofs.CallWorks.{count-Place, count-Value, count-Pointer, count_becomes}
use Rattle.al_walk_values.proofs.calls.receiver_count.Goals as goal

pub returns-in-Place-clause-count : goal.returns-in-Place-clause-count
returns-in-Place-clause-count c =
    c.count_passed.ensures.count ∙ count_becomes c.args.receiver.now _ _ c.in-Place.is (count-Place c.in-Place.place c.in-Place.path c.in-Place.passed)

pub returns-in-Value-clause-count : goal.returns-in-Value-clause-count
returns-in-Value-clause-count c =
    c.count_passed-in-Value.ensures.count ∙ count_becomes c.args.receiver.now _ _ c.in-Value.is (count-Value c.in-Value.value c.in-Value.path c.in-Value.passed)

pub returns-in-Pointer-clause-count : goal.returns-in-Pointer-clause-count
returns-in-Pointer-clause-count c =
    c.count_passed-in-Pointer.ensures.count ∙ count_becomes c.args.receiver.now _ _ c.in-Pointer.is (count-Pointer c.in-Pointer.pointer c.in-Pointer.path c.in-Pointer.passed)
