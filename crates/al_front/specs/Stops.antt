-- What the parts of the front end stop for, as refusals of a text.
use Rattle.al_lex.specs.declared.fault.LexStop.{LexStop}
use Rattle.al_lex.specs.declared.fault.LexStop.TheVariants as lex
use Rattle.al_tree.specs.declared.fault.ParseStop.{ParseStop}
use Rattle.al_tree.specs.declared.fault.ParseStop.TheVariants as parse
use Rattle.al_type_limits.specs.declared.limit.TypesStop.{TypesStop}
use Rattle.al_type_limits.specs.declared.limit.TypesStop.TheVariants as types
use Rattle.al_rules.specs.declared.fault.TypeStop.{TypeStop}
use Rattle.al_rules.specs.declared.fault.TypeStop.TheVariants as typing
use Rattle.al_rules.specs.Outcome.{fault}
use Rattle.al_poly.specs.declared.fault.PolyFault.{PolyFault}
use Rattle.al_poly.specs.declared.fault.PolyFault.TheVariants as poly
use Rattle.al_poly.specs.declared.fault.PolyStop.{PolyStop}
use Rattle.al_poly.specs.declared.fault.PolyStop.TheVariants as instances
use Rattle.al_typed.specs.declared.limit.Limit.TheVariants as limit
use Rattle.al_front.specs.declared.refused.Refused.{Refused}
use Rattle.al_front.specs.declared.refused.Refused.TheVariants as refused
use Rattle.al_front.specs.declared.refused.FrontStop.{FrontStop}
use Rattle.al_front.specs.declared.refused.FrontStop.TheVariants as stop

abbrev pub of_lex : LexStop → FrontStop
of_lex (lex.Fault f) = stop.Refused (refused.Lex f)
of_lex lex.NoMemory = stop.NoMemory

abbrev pub of_parse : ParseStop → FrontStop
of_parse (parse.Fault f) = stop.Refused (refused.Parse f)
of_parse parse.NoMemory = stop.NoMemory

abbrev pub of_types : TypesStop → FrontStop
of_types (types.Limit l) = stop.Refused (refused.Types l)
of_types types.NoMemory = stop.NoMemory

abbrev pub of_typing : TypeStop → FrontStop
of_typing (typing.Fault f) = stop.Refused (refused.Typing f)
of_typing typing.NoMemory = stop.NoMemory

-- rules 13 and 14
abbrev pub of_uses : PolyFault → Refused
of_uses (poly.UnknownParameter at) = refused.Typing (fault 13 at)
of_uses (poly.WrongCount at) = refused.Typing (fault 14 at)
of_uses poly.Limit = refused.Limit (limit.Instances 257)

abbrev pub of_instances : PolyStop → FrontStop
of_instances (instances.Fault f) = stop.Refused (of_uses f)
of_instances instances.NoMemory = stop.NoMemory
