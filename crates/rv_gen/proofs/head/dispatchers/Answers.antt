use Rattle.std.proofs.Common.{◌≡◌, ℕ, ◌+◌, ◌≤◌, ◌^◌, List, [], ◌∷◌, ◌++◌, All, drop, length, map, slice_index, sym, ap, subst, ◌∙◌, arith}
use Rattle.std.proofs.lemmas.List.Elements.{All-push}
use Rattle.al_ir.specs.Control.{function_at, stack_of}
use Rattle.rv_form.specs.Dispatch.{tree, tree_width, tree_code}
use Rattle.rv_form.specs.Program.{places_from, dispatchers_code}
use Rattle.rv_emit_ops.specs.Plans.{Near, layout_in}
use Rattle.rv_gen.proofs.Heads.{DispatchersLeft, one_dispatcher}
use Rattle.rv_gen.proofs.Steps.{from_item}
use Rattle.rv_gen.proofs.head.dispatchers.Goals as goal

pub loop-class-preserved : goal.loop-class-preserved
loop-class-preserved c =
    let ir = c.args.ir.now in
    let classes = ir.classes in
    let l = layout_in ir c.args.plan.now in
    let class = c.class-item.result in
    let i = c.loop-class.class-index in
    let old = c.loop-class.code.items in
    let e : drop i classes ≡ class ∷ drop (i + 1) classes = from_item classes c.as_slice-class-items.result.now i class c.as_slice-class-items.ensures.value c.loop-class-test.true c.class-item.is in
    let left =
    subst (λ (cs : List (List ℕ)). DispatchersLeft l cs old c.loop-class.places
    (c.args.code.now.items ++ dispatchers_code l (length c.args.code.now.items) classes)
    (c.args.places.now ++ places_from (length c.args.code.now.items) (map (λ (class : List ℕ). tree_width (tree class)) classes))) e c.loop-class.invariant.left in
    let code =
    c.in_ok-dispatcher.ensures
    ∙ (ap (λ (es : List ℕ). old ++ tree_code (λ f. slice_index es f) (λ f. stack_of (function_at ir f)) (length old) (tree c.as_slice.result.now)) c.as_slice-entries.ensures.value
    ∙ ap (λ (fs : List ℕ). old ++ tree_code (λ f. slice_index c.args.plan.now.entries f) (λ f. stack_of (function_at ir f)) (length old) (tree fs)) c.as_slice.ensures.value) in
    let places = c.in_ok-push.ensures.ok ∙ ap (λ n. c.loop-class.places ++ n ∷ []) c.in_ok-next_word.ensures.value in
    let near : c.in_ok-next_word.field-0 ≤ 2 ^ 24 = omega (arith, c.in_ok-next_word.ensures.few) in
    record {
      left = one_dispatcher l class (drop (i + 1) classes) old c.dispatcher.new.code.items c.loop-class.places c.push.new.self
          (c.args.code.now.items ++ dispatchers_code l (length c.args.code.now.items) classes)
          (c.args.places.now ++ places_from (length c.args.code.now.items) (map (λ (class : List ℕ). tree_width (tree class)) classes))
          left code places;
      near = subst (λ (ps : List ℕ). All Near ps) (sym c.in_ok-push.ensures.ok) (All-push Near _ _ c.loop-class.invariant.near near);
    }
