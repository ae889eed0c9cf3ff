-- What trees of statements give, by what is known of expressions.
use Rattle.al_sound_operators.proofs.OperandsAre.{operands_are_sound}
use Rattle.al_sound_operators.proofs.CastsAre.{operators_are_sound}
use Rattle.al_sound_nodes.proofs.NodesAre.{nodes_are_sound}
use Rattle.al_sound_expressions.proofs.TreesAre.{expressions_are_sound}
use Rattle.al_sound_statements.specs.Bodies.{BodiesAreSound}
use Rattle.al_sound_statements.specs.Named.{BodiesAreNamed}
use Rattle.al_sound_statements.specs.Statements.{StatementsAreSound}
use Rattle.al_sound_statements.proofs.Known.{Laws}
use Rattle.al_sound_statements.proofs.AnyNames.{bodies_are}
use Rattle.al_sound_statements.proofs.FitStatements as named
use Rattle.al_sound_statements.proofs.StatementTrees.{statements_are}

laws : Laws
laws = record { operands = operands_are_sound; operators = operators_are_sound; nodes = nodes_are_sound; expressions = expressions_are_sound }

pub statements_are_sound : StatementsAreSound
statements_are_sound = statements_are laws

pub bodies_are_named : BodiesAreNamed
bodies_are_named = named.bodies_are_named laws

pub bodies_are_sound : BodiesAreSound
bodies_are_sound = bodies_are bodies_are_named
