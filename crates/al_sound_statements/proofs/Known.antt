-- What is known of expressions, and of where statements stand.
use Rattle.std.proofs.Common.{ℕ, List, Option, Some, None}
use Rattle.al_scope.specs.declared.declaration.Declaration.{Declaration}
use Rattle.al_scope.specs.declared.declaration.Declaration.TheVariants as declaration
use Rattle.al_typed.specs.declared.ty.Ty.{Ty}
use Rattle.al_typed.specs.declared.expression.TExpr.TheBlock.{hidden-the_row-TPlace-0, hidden-the_row-TExpr-1, hidden-the_row-TTarget-2, hidden-the_row-TReceiver-4}
use denote.Hole.Carrier.{hidden}
use Rattle.al_typed.specs.declared.expression.TPlace.TheVariants as place
use Rattle.al_typed.specs.WellTyped.{IsLocalOfType, IsPlace, Scope}
use Rattle.al_environment.specs.declared.environment.Environment.{Environment}
use Rattle.al_environment.specs.declared.environment.Here.{Here}
use Rattle.al_environment.specs.declared.environment.Signature.{Signature}
use Rattle.al_environment.specs.declared.numbered.Numbered.{Numbered}
use Rattle.al_sound_operators.specs.Typed.{IsSoundPlace}
use Rattle.al_sound_operators.specs.Operands.{OperandsAreSound}
use Rattle.al_sound_operators.specs.Operators.{OperatorsAreSound}
use Rattle.al_sound_nodes.specs.Nodes.{Calls, IsReached, NodesAreSound, Tells}
use Rattle.al_sound_expressions.specs.Expressions.{ExpressionsAreSound}
use Rattle.al_sound_statements.specs.Statements.{with_count}

pub record Laws : Type 0 where
  pub operands : OperandsAreSound
  pub operators : OperatorsAreSound
  pub nodes : NodesAreSound
  pub expressions : ExpressionsAreSound

-- ---- places, with any number of iterators

pub local_place : (s : Scope) (t : Ty) (n : ℕ) → IsPlace s (place.Local t n) → IsLocalOfType s.names n t
unfolding IsPlace hidden-the_row-TPlace-0 hidden-the_row-TExpr-1 hidden-the_row-TTarget-2 hidden-the_row-TReceiver-4 hidden
local_place s t n h = h

local_with : (s : Scope) (k : ℕ) (t : Ty) (n : ℕ) → IsSoundPlace s (place.Local t n) → IsSoundPlace (with_count s k) (place.Local t n)
unfolding IsPlace hidden-the_row-TPlace-0 hidden-the_row-TExpr-1 hidden-the_row-TTarget-2 hidden-the_row-TReceiver-4 hidden
local_with s k t n h = record { place = h.place; sound = h.sound }

global_with : (s : Scope) (k : ℕ) (t : Ty) (n : ℕ) → IsSoundPlace s (place.Global t n) → IsSoundPlace (with_count s k) (place.Global t n)
unfolding IsPlace hidden-the_row-TPlace-0 hidden-the_row-TExpr-1 hidden-the_row-TTarget-2 hidden-the_row-TReceiver-4 hidden
global_with s k t n h = record { place = h.place; sound = h.sound }

outer_with : (s : Scope) (k : ℕ) (t : Ty) (around n : ℕ) → IsSoundPlace s (place.Outer t around n) → IsSoundPlace (with_count s k) (place.Outer t around n)
unfolding IsPlace hidden-the_row-TPlace-0 hidden-the_row-TExpr-1 hidden-the_row-TTarget-2 hidden-the_row-TReceiver-4 hidden
outer_with s k t around n h = record { place = h.place; sound = h.sound }

pub reached_with : (s : Scope) (k : ℕ) (here : Here) (numbers : List Numbered) (d : Option Declaration) → IsReached s here d
    → IsReached (with_count s k) (record here { iterators = numbers }) d
reached_with s k here numbers None h = tt
reached_with s k here numbers (Some (declaration.Global n)) h = tt
reached_with s k here numbers (Some (declaration.Function n)) h = tt
reached_with s k here numbers (Some (declaration.Constant n)) h = tt
reached_with s k here numbers (Some (declaration.Local n)) h = tt
reached_with s k here numbers (Some (declaration.Outer j n)) h = λ r v p q. outer_with s k v.ty r.number v.number (h r v p q)
reached_with s k here numbers (Some declaration.Print) h = tt
reached_with s k here numbers (Some declaration.Terminate) h = tt

calls_with : (s : Scope) (k : ℕ) (f : Signature) (number : ℕ) (given : List Ty) → Calls s f number given → Calls (with_count s k) f number given
calls_with s k f number given h = record { takes = h.takes; sound = h.sound; whole = h.whole; passed = h.passed }

-- names stand for the same where there are iterators
pub tells_with : (s : Scope) (env : Environment) (here : Here) → Tells s env here → (k : ℕ) (numbers : List Numbered)
    → Tells (with_count s k) env (record here { iterators = numbers })
tells_with s env here t k numbers = record {
  aggregates = t.aggregates;
  globals = λ n v q. let g = t.globals n v q in record { sound = global_with s k v.ty v.number g.sound; open_to = λ p. g.open_to p };
  locals = λ n v q. local_with s k v.ty v.number (t.locals n v q);
  constants = t.constants;
  functions = λ n number f q p. let g = t.functions n number f q p in record { calls = calls_with s k f number _ g.calls; value = g.value };
  members = λ a name m q. let h = t.members a name m q in record { leads = h.leads; stored = h.stored };
  methods = λ a name number f q p. let h = t.methods a name number f q p in record { object = h.object; leads = h.leads; calls = calls_with s k f.signature number _ h.calls };
}
