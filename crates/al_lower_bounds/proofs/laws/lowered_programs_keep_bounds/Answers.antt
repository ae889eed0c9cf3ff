use Rattle.al_ir.specs.Bounds.{IsLine}
use Rattle.al_lower_bounds.proofs.Rooms as rooms
use Rattle.al_lower_bounds.proofs.Ends as ends
use Rattle.al_lower_bounds.proofs.Few as few
use Rattle.al_lower_bounds.proofs.Statements as statements
use Rattle.al_lower_bounds.proofs.laws.lowered_programs_keep_bounds.Goals as goal

pub returns-clause-rooms : goal.returns-clause-rooms
returns-clause-rooms c = rooms.rooms

pub returns-clause-ends : goal.returns-clause-ends
returns-clause-ends c = ends.ends

pub returns-clause-count : goal.returns-clause-count
returns-clause-count c = few.count

pub returns-clause-classes : goal.returns-clause-classes
returns-clause-classes c = few.classes

pub returns-clause-privates : goal.returns-clause-privates
returns-clause-privates c = few.privates

pub returns-clause-main : goal.returns-clause-main
returns-clause-main c = few.main

pub returns-clause-main_words : goal.returns-clause-main_words
returns-clause-main_words c = few.main_words

pub returns-clause-lines : goal.returns-clause-lines
returns-clause-lines c = statements.lines_in IsLine
