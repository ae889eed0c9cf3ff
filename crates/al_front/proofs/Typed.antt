-- A tree that has a program within the limits is not refused.
use Rattle.std.proofs.Common.{◌≡◌, ℕ, ◌<◌, ◌≤◌, List, [], length, true, Option, Some, None, Ok, Err, Result, refl, sym, ap, ◌∙◌, subst, arith, inl, inr}
use Rattle.std.proofs.lemmas.Bool.{le-ltb}
use Rattle.al_tree.specs.declared.item.Tree.{Tree}
use Rattle.al_rules.specs.declared.fault.TypeStop.TheVariants as typing
use Rattle.al_rules.specs.Outcome.{Outcome, Good, permits}
use Rattle.al_poly.specs.declared.fault.PolyFault.{PolyFault}
use Rattle.al_poly.specs.declared.fault.PolyFault.TheVariants as poly
use Rattle.al_poly.specs.Answers.{IsFault}
use Rattle.al_poly.specs.Instances.{misuses}
use Rattle.al_typed.specs.declared.limit.Limit.{Limit}
use Rattle.al_typed.specs.declared.program.Program.{Program}
use Rattle.al_typed.specs.Measures.{wide, weight, greatest_weight, slots, weighed, IsWithin}
use Rattle.al_type_limits.specs.declared.limit.TypeLimit.{TypeLimit}
use Rattle.al_front.specs.Accepted.{IsTyped, IsTreeRefused}
use Rattle.al_front.specs.declared.refused.Refused.{Refused}
use Rattle.al_front.specs.declared.refused.Refused.TheVariants as refused

no_place : {A : Type 0} (xs : List A) (i : ℕ) → xs ≡ [] → i < length xs → ⊥
no_place xs i none within = let e = ap length none in omega (arith, e, within)

no_fault : (tree : Tree) (p : Program) (f : PolyFault) → IsTyped tree p → IsFault tree.items f → ⊥
no_fault tree p (poly.UnknownParameter at) t is = no_place (misuses tree.items) is.1.0 t.used is.1.1
no_fault tree p (poly.WrongCount at) t is = no_place (misuses tree.items) is.1.0 t.used is.1.1
no_fault tree p poly.Limit t is = let few = t.few in omega (arith, few, is)

none_passed : (w x y z : ℕ) → w ≤ 1024 → x ≤ 65536 → y ≤ 4096 → z ≤ 16384 → weighed w x y z ≡ Ok tt
none_passed w x y z a b c d = rw (le-ltb 1024 w a, le-ltb 65536 x b, le-ltb 4096 y c, le-ltb 16384 z d) refl

pub one_typed : (tree : Tree) (p q : Program) → IsTyped tree p → IsTyped tree q → p ≡ q
one_typed tree p q a b = let both : ◌≡◌ {A = Outcome Program} (Good p) (Good q) = sym a.good ∙ b.good in cc

pub never_both_tree : (tree : Tree) (p : Program) (r : Refused) → IsTyped tree p → IsWithin p → IsTreeRefused tree r → ⊥
never_both_tree tree p (refused.Lex f) t w is = is
never_both_tree tree p (refused.Parse f) t w is = is
never_both_tree tree p (refused.Types l) t w is = let e : ◌≡◌ {A = Option TypeLimit} (Some l) None = sym is ∙ t.small in cc
never_both_tree tree p (refused.Typing f) t w (inl m) = no_fault tree p m.fault t m.is
never_both_tree tree p (refused.Typing f) t w (inr b) =
    let e : permits (Good p) (typing.Fault f) ≡ true = ap (λ (o : Outcome Program). permits o (typing.Fault f)) (sym t.good) ∙ b.broken in cc
never_both_tree tree p (refused.Limit l) t w (inl m) = no_fault tree p m.fault t m.is
never_both_tree tree p (refused.Limit l) t w (inr s) =
    let measured : Program → Result (Unit {0}) Limit = λ p. weighed (wide p) (weight p) (greatest_weight p) (slots p) in
    let same : s.program ≡ p = one_typed tree s.program p s.typed t in
    let e : ◌≡◌ {A = Result (Unit {0}) Limit} (Err l) (Ok tt) = sym s.passed ∙ ap measured same ∙ none_passed (wide p) (weight p) (greatest_weight p) (slots p) w.wide w.weight w.greatest w.slots in
    cc
