-- In a body whose jumps keep the rules, they have their targets.
use Rattle.std.proofs.Common.{◌≡◌, List, [], ◌∷◌, refl, sym, ap, ◌∙◌, subst}
use Rattle.std.specs.Prelude.{Contains}
use Rattle.al_rules.specs.declared.fault.TypeFault.{TypeFault}
use Rattle.al_rules.specs.Outcome.{Good, judge}
use Rattle.al_tree.specs.declared.statement.Stmt.{Stmt}
use Rattle.al_tree_walks.specs.Statements.{branches}
use Rattle.al_tree_places.specs.Apart.{AreApart}
use Rattle.al_tree_places.specs.Jumps.{jump_places}
use Rattle.al_flow.specs.declared.target.Target.{Target}
use Rattle.al_flow.specs.Flow.{begun, marks, targets, walk}
use Rattle.al_sound_flow.specs.Flow.{BodiesHaveTargets, HasTargets}
use Rattle.al_sound_flow.specs.Numbers.{NumbersDiffer}
use Rattle.al_sound_flow.proofs.Places.{stand_apart}
use Rattle.al_sound_flow.proofs.Ways.{places, statement_goes}
use Rattle.al_sound_flow.proofs.Facts.{body_facts}
use Rattle.al_sound_flow.proofs.Gathered.{gathered_labels}
use Rattle.al_sound_flow.proofs.NumbersDiffer.{apart_from, below_all}

good_is : {A : Type 0} {a b : A} → Good a ≡ Good b → a ≡ b
good_is e = cc

unbroken : {A : Type 0} (fs : List TypeFault) (a b : A) → judge fs a ≡ Good b → (fs ≡ []) × (a ≡ b)
unbroken [] a b e = (refl, good_is e)
unbroken (f ∷ fs) a b e = absurd (cc)

both : (body : Stmt) (ts : List Target) → targets body ≡ Good ts → AreApart (jump_places body) → HasTargets ts body × ((s : Stmt) → Contains (branches body) s → HasTargets ts s)
unfolding targets
both body ts good apart =
    let u = walk body (marks body) begun in
    let is = unbroken u.faults u.targets ts good in
    let placed : places ts ≡ jump_places body = ap places (sym is.1) ∙ (statement_goes body (marks body) begun).placed is.0 in
    body_facts body ts (stand_apart ts (subst AreApart (sym placed) apart)) is.0 is.1

pub bodies_have_targets : BodiesHaveTargets
bodies_have_targets = record {
  body = λ body ts good apart. (both body ts good apart).0;
  branch = λ body ts good apart b c. (both body ts good apart).1 b c;
}

pub numbers_differ : NumbersDiffer
numbers_differ = record { below = below_all; apart = apart_from 0; gathered = gathered_labels }
