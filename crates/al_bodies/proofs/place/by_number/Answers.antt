use Rattle.std.proofs.Common.{◌-◌, ◌++◌, ◌∷◌, [], Some, length, ap, sym, ◌∙◌, append_assoc}
use Rattle.std.specs.Prelude.{nat_le, if◌then◌else◌, slice_set}
use Rattle.std.proofs.lemmas.List.{append-nil}
use Rattle.al_bodies.proofs.Places.{no_branches, put-before}
use Rattle.al_bodies.proofs.place.by_number.Goals as goal

pub loop-branch-init : goal.loop-branch-init
loop-branch-init c = ([], sym (append-nil c.args.branches), c.requires ∙ no_branches c.args.from (length c.args.branches))

pub loop-branch-preserved : goal.loop-branch-preserved
loop-branch-preserved c =
    let placed = c.loop-branch.invariant.0 in
    let b = c.in-Some.branch in (
      b ∷ placed,
      c.loop-branch.invariant.1 ∙ ap (λ l. l ++ placed) c.in-Some.ensures ∙ append_assoc c.pop.new.self (b ∷ []) placed,
      c.put.ensures
          ∙ ap (λ l. if nat_le c.args.from b.number then slice_set l (b.number - c.args.from) (Some b.function) else l) c.loop-branch.invariant.2
          ∙ put-before c.args.from (length c.args.branches) b placed,
    )
