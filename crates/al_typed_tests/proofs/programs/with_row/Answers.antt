use Rattle.std.proofs.Common.{[], ◌∙◌, List, ap, subst}
use Rattle.std.specs.List.{list_all}
use Rattle.al_typed.specs.declared.program.Aggregate.{Aggregate}
use Rattle.al_typed.specs.Layout.{Keeps, aggregate_layout, layouts_after}
use Rattle.al_typed.specs.Types.{is_complete}
use Rattle.al_typed.proofs.Rows.{pushed_laid_out}
use Rattle.al_typed_tests.proofs.programs.with_row.Goals as goal

pub returns : goal.returns
returns c =
    let row : Aggregate = c.in-Some.row in
    pushed_laid_out c.args.rows c.push.new.self row c.args.members c.are_complete.result c.requires
    (
    c.are_complete.ensures
    ∙ ap (λ (l : List Aggregate). list_all (is_complete l) c.as_slice-2.result.now) c.as_slice.ensures.value
    ∙ ap (list_all (is_complete c.args.rows)) c.as_slice-2.ensures.value
    )
    c.if-not-are_complete.false c.in-Some.ensures.members
    (subst (λ (l : List Aggregate). Keeps row (aggregate_layout (layouts_after [] l) row)) c.as_slice-3.ensures.value c.in-Some.ensures.keeps)
    c.in_ok-push.ensures.ok
