use Rattle.std.proofs.Common.{◌∙◌, List, ap, map, refl}
use Rattle.al_typed.specs.Typed.{type_of}
use Rattle.al_control.specs.declared.work.Argument.{Argument}
use Rattle.al_control.specs.Models.{argument_of}
use Rattle.al_walk.proofs.Prints.{all_gathered, more_gathered, none_gathered}
use Rattle.al_walk.proofs.gathers.arguments_from.Goals as goal

pub loop-e-preserved : goal.loop-e-preserved
loop-e-preserved c =
    more_gathered c.loop-e.all c.push.new.self (record { ty = c.ty.result; words = c.in-Some-pop.words }) c.loop-e.rest.now c.in-Some.more.now c.in-Some.e.now c.loop-e.values c.pop.new.self c.in-Some-pop.words _
    c.in-Some.ensures.cases.0 c.in-Some-pop.ensures c.ty.ensures refl c.in_ok-push-in-Some-pop.ensures.ok c.loop-e.invariant

pub returns-in-None : goal.returns-in-None
returns-in-None c =
    ap (λ (list : List Argument). map argument_of list) (c.from_vec.ensures ∙ c.into_vec.ensures)
    ∙ none_gathered c.loop-e.all (map type_of c.loop-e.rest.now) c.loop-e.values _ c.in-None.ensures.0 c.loop-e.invariant

pub returns : goal.returns
returns c =
    ap (λ (list : List Argument). map argument_of list) (c.from_vec-2.ensures ∙ c.into_vec-2.ensures)
    ∙ all_gathered c.loop-e.all c.loop-e.rest.now c.loop-e.values _ c.in_default.ensures.cases c.loop-e.invariant
