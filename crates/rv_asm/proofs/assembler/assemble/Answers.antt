use Rattle.std.proofs.Common.{◌≡◌, ℕ, ◌+◌, ◌<◌, ◌≤◌, ◌∙◌, ◌++◌, ◌∷◌, [], sym, map, Some, None, drop, get_or, drop-cons, add-one, length, vec_len, arith, refl}
use Rattle.std.proofs.lemmas.List.Elements.{All-head, All-tail, All-same}
use Rattle.rv_isa.specs.Table.{instruction_of, InRange}
use Rattle.rv_asm.specs.Asm.{target_place, line_instruction, instructions_from}
use Rattle.rv_asm.specs.declared.line.AsmLine.TheVariants.{Label}
use Rattle.rv_asm.proofs.Places.{target_same, target_near, rest_some, rest_none, told_some}
use Rattle.rv_asm.proofs.assembler.assemble.Goals as goal
use Rattle.rv_asm.proofs.assembler.assemble.Goals.{in-Some+in_ok-push-in-Some, in-None}

pub line_instruction-requires-clause-there : goal.line_instruction-requires-clause-there
line_instruction-requires-clause-there c =
    let lines = c.args.lines.now in
    let line = get_or lines c.loop-line.line-index (Label 0) in
    let there : c.target-there.result ≡ target_place lines line = c.target-there.ensures ∙ target_same _ lines line c.in_ok-places.ensures in
    omega (arith, there, target_near lines line)

pub encode-requires : goal.encode-requires
encode-requires c =
    let lines = c.args.lines.now in
    let i = c.loop-line.line-index in
    let line = get_or lines i (Label 0) in
    let here = vec_len c.loop-line.words in
    let there : c.target-there.result ≡ target_place lines line = c.target-there.ensures ∙ target_same _ lines line c.in_ok-places.ensures in
    let rest : drop i lines ≡ line ∷ drop (i + 1) lines = rw add-one (drop-cons lines i (Label 0) c.loop-line-test.true) in
    let made : line_instruction here (target_place lines line) line ≡ Some c.in-Some.i =
    rw (← there, ← c.len.ensures) (sym c.line_instruction.ensures ∙ c.in-Some.is) in
    let all = rw (rest_some lines lines here i line rest c.in-Some.i made) at c.loop-line.invariant.ranged in
    All-head InRange c.in-Some.i _ all

pub loop-line-preserved : goal.loop-line-preserved
loop-line-preserved c =
    let lines = c.args.lines.now in
    let i = c.loop-line.line-index in
    let line = get_or lines i (Label 0) in
    let here = vec_len c.loop-line.words in
    let there : c.target-there.result ≡ target_place lines line = c.target-there.ensures ∙ target_same _ lines line c.in_ok-places.ensures in
    let rest : drop i lines ≡ line ∷ drop (i + 1) lines = rw add-one (drop-cons lines i (Label 0) c.loop-line-test.true) in
    elim c.match-line_instruction.branch [
      | in-Some+in_ok-push-in-Some w ↦
          let made : line_instruction here (target_place lines line) line ≡ Some w.in-Some.i =
          rw (← there, ← c.len.ensures) (sym c.line_instruction.ensures ∙ w.in-Some.is) in
          let left = rest_some lines lines here i line rest w.in-Some.i made in
          let pushed = w.in_ok-push-in-Some.ensures in
          rw w.words-is (record {
            told = rw (pushed.items, pushed.len) (told_some instruction_of c.loop-line.words.items w.encode.result w.in-Some.i _ _ w.encode.ensures.round (rw left at c.loop-line.invariant.told));
            ranged = rw pushed.len (All-tail InRange _ _ (rw left at c.loop-line.invariant.ranged));
            near = omega (arith, pushed.len, c.loop-line.invariant.near);
          })
      | in-None w ↦
          let made : line_instruction here (target_place lines line) line ≡ None =
          rw (← there, ← c.len.ensures) (sym c.line_instruction.ensures ∙ w.in-None.is) in
          let left = rest_none lines lines here i line rest made in
          rw w.words-is (record { told = rw left at c.loop-line.invariant.told; ranged = rw left at c.loop-line.invariant.ranged; near = omega (arith, c.loop-line.invariant.near) })
    ]
