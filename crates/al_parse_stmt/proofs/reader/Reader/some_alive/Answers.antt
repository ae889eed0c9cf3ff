use Rattle.std.proofs.Common.{◌≡◌, ℕ, Option, ◌+◌, ◌<◌, ◌≤◌, Bool, true, if◌then◌else◌, length, get_or, drop, sym, ap, ◌∙◌, arith}
use Rattle.std.proofs.lemmas.Grind.{common_steps}
use Rattle.al_tree.specs.Leaves.{leaves_of}
use Rattle.al_tree.specs.Items.{Declared}
use Rattle.al_parse_stmt.specs.Known.{declared_of}
use Rattle.al_parse_stmt.specs.Begun.{alive, some_alive}
use Rattle.al_parse_stmt.proofs.Furthest.{alive_kept, alive_end}
use Rattle.al_parse_stmt.proofs.reader.Reader.some_alive.Goals as goal

pub returns-then-branch-clause-value : goal.returns-then-branch-clause-value
returns-then-branch-clause-value c =
    let same : length c.as_slice-name-items.result.now ≡ length c.args.names.now = ap length c.as_slice-name-items.ensures.value in
    let less : c.loop-name.name-index < length c.args.names.now = first_of (omega (arith, same, c.loop-name-test.true), grind (arith, common_steps)) in
    let go : Declared → Option ℕ → Bool = λ d. alive (leaves_of c.args.text.now) c.args.self.now.turns c.args.self.now.depth d c.args.tokens.now c.args.left in
    let q = alive_kept go c.args.names.now c.loop-name.name-index _ (declared_of c.args.known.now) _ _ _
    c.loop-name.invariant.value c.loop-name.invariant.same less (ap (λ l. get_or l c.loop-name.name-index 0) c.as_slice-name-items.ensures.value) c.in_ok-alive.ensures.value c.in_ok-alive.ensures.same in
    sym (q.0 ∙ ap (λ (b : Bool). if b then true else some_alive (go (declared_of c.args.known.now)) (drop (c.loop-name.name-index + 1) c.args.names.now)) c.if-branch.true)

pub loop-name-preserved : goal.loop-name-preserved
loop-name-preserved c =
    let same : length c.as_slice-name-items.result.now ≡ length c.args.names.now = ap length c.as_slice-name-items.ensures.value in
    let less : c.loop-name.name-index < length c.args.names.now = first_of (omega (arith, same, c.loop-name-test.true), grind (arith, common_steps)) in
    let go : Declared → Option ℕ → Bool = λ d. alive (leaves_of c.args.text.now) c.args.self.now.turns c.args.self.now.depth d c.args.tokens.now c.args.left in
    let q = alive_kept go c.args.names.now c.loop-name.name-index _ (declared_of c.args.known.now) _ _ _
    c.loop-name.invariant.value c.loop-name.invariant.same less (ap (λ l. get_or l c.loop-name.name-index 0) c.as_slice-name-items.ensures.value) c.in_ok-alive.ensures.value c.in_ok-alive.ensures.same in
    record { value = q.0 ∙ ap (λ (b : Bool). if b then true else some_alive (go (declared_of c.args.known.now)) (drop (c.loop-name.name-index + 1) c.args.names.now)) c.if-branch.false; same = q.1 }

pub returns-clause-value : goal.returns-clause-value
returns-clause-value c =
    let same : length c.as_slice-name-items.result.now ≡ length c.args.names.now = ap length c.as_slice-name-items.ensures.value in
    let done : length c.args.names.now ≤ c.loop-name.name-index = first_of (omega (arith, same, c.loop-name-test.false), grind (arith, common_steps)) in
    sym (c.loop-name.invariant.value ∙ alive_end (alive (leaves_of c.args.text.now) c.args.self.now.turns c.args.self.now.depth (declared_of c.args.known.now) c.args.tokens.now c.args.left) c.args.names.now c.loop-name.name-index done)
