use Rattle.std.proofs.Common.{◌≡◌, ◌<◌, ◌≤◌, length, get_or, sym, ap, ◌∙◌, arith}
use Rattle.std.proofs.lemmas.Grind.{common_steps}
use Rattle.al_tree.specs.Leaves.{leaves_of}
use Rattle.al_parse_stmt.specs.Known.{declared_of}
use Rattle.al_parse_stmt.specs.Begun.{begun_as}
use Rattle.al_parse_stmt.proofs.Furthest.{least_kept, least_end}
use Rattle.al_parse_stmt.proofs.reader.Reader.least_of.Goals as goal

pub loop-name-preserved : goal.loop-name-preserved
loop-name-preserved c =
    let same : length c.as_slice-name-items.result.now ≡ length c.args.names.now = ap length c.as_slice-name-items.ensures.value in
    let less : c.loop-name.name-index < length c.args.names.now = first_of (omega (arith, same, c.loop-name-test.true), grind (arith, common_steps)) in
    let q = least_kept (λ d owner. begun_as (leaves_of c.args.text.now) c.args.self.now.turns c.args.self.now.depth d owner c.args.tokens.now) c.args.names.now c.loop-name.name-index _ (declared_of c.args.known.now) _ _ c.args.left c.loop-name.left _
    c.loop-name.invariant.value c.loop-name.invariant.same less (ap (λ l. get_or l c.loop-name.name-index 0) c.as_slice-name-items.ensures.value) c.in_ok-left.ensures.value c.in_ok-left.ensures.same in
    record { value = q.0; same = q.1 }

pub returns-clause-value : goal.returns-clause-value
returns-clause-value c =
    let same : length c.as_slice-name-items.result.now ≡ length c.args.names.now = ap length c.as_slice-name-items.ensures.value in
    let done : length c.args.names.now ≤ c.loop-name.name-index = first_of (omega (arith, same, c.loop-name-test.false), grind (arith, common_steps)) in
    sym (c.loop-name.invariant.value ∙ least_end (λ owner. begun_as (leaves_of c.args.text.now) c.args.self.now.turns c.args.self.now.depth (declared_of c.args.known.now) owner c.args.tokens.now) c.args.names.now c.loop-name.name-index c.loop-name.left done)
