use Rattle.std.proofs.Common.{◌≡◌, ◌<◌, ◌≤◌, ◌++◌, ◌+◌, ◌-◌, ◌∷◌, ◌∙◌, [], List, ℕ, suc, Bool, false, append_assoc, map, drop, take, sym, ap, subst, arith, refl, length-take}
use Rattle.std.specs.Prelude.{decimal, replicate}
use Rattle.std.specs.Result.{OnOk}
use Rattle.std.proofs.lemmas.List.{append-nil}
use Rattle.al_typed.specs.declared.ty.Ty.TheVariants as ty
use Rattle.al_typed.proofs.Depths.{deepest-at, depth-Aggregate, depth-Array, depth-Tuple, depth-before}
use Rattle.al_value_text.specs.Values.{Shown, before, shown_in, shown_parts, with_commas, in_parentheses, nothing}
use Rattle.al_value_text.proofs.Shapes.{shown-Void, shown-Function, shown-bodiless, shown-members, shown-none, shown-union}
use Rattle.al_value_text.proofs.value.+put.Goals as goal

abbrev text : List ℕ → Shown → List ℕ
text words s = s.text words

pub put_value-put_elements-requires : goal.put_value-put_elements-requires
put_value-put_elements-requires t c =
    let falls = depth-Array c.args.ty.now c.in-Array.element c.get.result.now c.in-Array.count c.in-Array.is c.get.ensures in
    (omega arith, tt)

pub put_value-put_parts-requires : goal.put_value-put_parts-requires
put_value-put_parts-requires t c =
    let falls = depth-Tuple c.args.ty.now c.in-Tuple.parts c.as_slice.result.now c.in-Tuple.is c.as_slice.ensures.value in
    (omega arith, tt)

pub put_value-put_aggregate-requires : goal.put_value-put_aggregate-requires
put_value-put_aggregate-requires t c =
    let falls = depth-Aggregate c.args.ty.now c.in-Aggregate.number c.in-Aggregate.is in
    (omega arith, tt)

pub put_parts-put_value-requires : goal.put_parts-put_value-requires
put_parts-put_value-requires t c =
    let falls = deepest-at c.args.types.now c.loop-ty.ty-index c.ty-item.result c.loop-ty-test.true c.ty-item.is in
    (omega arith, tt)

pub put_aggregate-put_parts-requires : goal.put_aggregate-put_parts-requires
put_aggregate-put_parts-requires t c =
    let falls =
    depth-before c.args.aggregates.now c.args.number c.in-Some.aggregate.now c.in-Some-members.members c.as_slice.result.now (sym c.in-Some.ensures) c.in-Some-members.is
    c.as_slice.ensures.value in
    (omega arith, tt)

pub put_aggregate-returns-in-None : goal.put_aggregate-returns-in-None
put_aggregate-returns-in-None t c =
    sym (ap (λ s. c.args.out.now ++ text c.args.words.now s) (shown-none c.args.aggregates.now c.args.number (sym c.in-None.ensures)) ∙ append-nil c.args.out.now)

pub put_aggregate-returns-then-aggregate : goal.put_aggregate-returns-then-aggregate
put_aggregate-returns-then-aggregate t c =
    let own : c.cut.result.0.now ≡ take c.in-Some.aggregate.now.units c.args.words.now = c.cut.ensures.own ∙ ap (λ n. take n c.args.words.now) c.from.ensures in
    subst (λ (s : Shown). OnOk c.put_units.result (c.put_units.new.out ≡ c.args.out.now ++ s.text c.args.words.now))
    (sym (shown-union c.args.aggregates.now c.args.number c.in-Some.aggregate.now (sym c.in-Some.ensures) c.if-aggregate.true))
    (subst (λ (ws : List ℕ). OnOk c.put_units.result (c.put_units.new.out ≡ c.args.out.now ++ in_parentheses (map decimal ws))) own c.put_units.ensures)

pub put_aggregate-returns-in-None-members : goal.put_aggregate-returns-in-None-members
put_aggregate-returns-in-None-members t c =
    subst (λ (s : Shown). OnOk c.extend_from_slice.result (c.extend_from_slice.new.self ≡ c.args.out.now ++ s.text c.args.words.now))
    (sym (shown-bodiless c.args.aggregates.now c.args.number c.in-Some.aggregate.now (sym c.in-Some.ensures) c.if-aggregate.false c.in-None-members.is))
    search

pub put_aggregate-returns-in-Some-members : goal.put_aggregate-returns-in-Some-members
put_aggregate-returns-in-Some-members t c =
    subst (λ (s : Shown). OnOk c.put_parts.result (c.put_parts.new.out ≡ c.args.out.now ++ s.text c.args.words.now))
    (sym (shown-members c.args.aggregates.now c.args.number c.in-Some.aggregate.now c.in-Some-members.members c.as_slice.result.now (sym c.in-Some.ensures) c.if-aggregate.false
    c.in-Some-members.is c.as_slice.ensures.value))
    c.put_parts.ensures

pub put_value-returns-in-Void : goal.put_value-returns-in-Void
put_value-returns-in-Void t c =
    let is : shown_in c.args.aggregates.now c.args.ty.now ≡ nothing = ap (shown_in c.args.aggregates.now) c.in-Void.is ∙ shown-Void c.args.aggregates.now in
    sym (ap (λ s. c.args.out.now ++ text c.args.words.now s) is ∙ append-nil c.args.out.now)

pub put_value-returns-in-Function : goal.put_value-returns-in-Function
put_value-returns-in-Function t c =
    let is : shown_in c.args.aggregates.now c.args.ty.now ≡ nothing = ap (shown_in c.args.aggregates.now) c.in-Function.is ∙ shown-Function c.args.aggregates.now _ _ in
    sym (ap (λ s. c.args.out.now ++ text c.args.words.now s) is ∙ append-nil c.args.out.now)

-- one element is at hand while some are left
one_left : (s : Shown) (count i : ℕ) → i < count → replicate (count - i) s ≡ s ∷ replicate (count - (i + 1)) s
one_left s count i h = let e : count - i ≡ suc (count - (i + 1)) = omega arith in ap (λ n. replicate n s) e

element_more :
    (out with_comma after rest own behind : List ℕ) (first : Bool) (s : Shown) (more : List Shown) → with_comma ≡ out ++ before first → after ≡ with_comma ++ s.text own
    → own ≡ take s.words rest → behind ≡ drop s.words rest
    → after ++ with_commas false (shown_parts more behind) ≡ out ++ with_commas first (shown_parts (s ∷ more) rest)
element_more out with_comma after rest own behind first s more comma shows cut left =
    let W = with_commas false (shown_parts more behind) in
    ap (λ l. l ++ W) (shows ∙ ap (λ l. l ++ s.text own) comma ∙ append_assoc out (before first) (s.text own))
    ∙ append_assoc out (before first ++ s.text own) W
    ∙ ap (λ ws. out ++ (before first ++ s.text ws ++ W)) cut
    ∙ ap (λ ws. out ++ (before first ++ s.text (take s.words rest) ++ with_commas false (shown_parts more ws))) left

pub put_elements-loop-preserved : goal.put_elements-loop-preserved
put_elements-loop-preserved t c =
    let s = shown_in c.args.aggregates.now c.args.element.now in
    let cuts = c.cut.ensures.capped s.words c.width-own_width.ensures in
    element_more c.loop.out c.put_comma.new.out c.put_value.new.out c.loop.rest.now c.cut.result.0.now c.cut.result.1.now c.loop.is_first s
    (replicate (c.args.count - (c.loop.counter + 1)) s) c.in_ok-put_comma.ensures c.in_ok-put_value.ensures (c.cut.ensures.own ∙ cuts.0) (c.cut.ensures.rest ∙ cuts.1)
    ∙ ap (λ all. c.loop.out ++ with_commas c.loop.is_first (shown_parts all c.loop.rest.now)) (sym (one_left s c.args.count c.loop.counter c.loop-test.true))
    ∙ c.loop.invariant
