use Rattle.std.proofs.Common.{◌≡◌, ◌≢◌, ◌-◌, length, Ok, Err, sym, ap, ap₂, ◌∙◌, subst, arith}
use Rattle.al_tree.specs.Leaves.{leaves_of}
use Rattle.al_tree.specs.Tree.{limit}
use Rattle.al_tree.specs.Parts.{IsPartAt, count}
use Rattle.al_tree.specs.declared.cursor.ParseError.TheVariants.{NoMemory}
use Rattle.al_tree.specs.declared.fault.ParseStop.TheVariants.{Fault}
use Rattle.al_tree.proofs.PartVerdicts.{Sized200}
use Rattle.al_parse_block.specs.Parse.{block_within}
use Rattle.al_parse_block.specs.Calls.{blocks_of}
use Rattle.al_parse_block.proofs.Parts.{block_read, block_only, block_none, block_fault}
use Rattle.al_parse_block.proofs.calls.block.Goals as goal

pub returns-in-Ok-clause-read : goal.returns-in-Ok-clause-read
returns-in-Ok-clause-read c =
    let list = c.tokens_from.result.now in
    let s : Sized200 c.args.toks.now c.args.at list = record { tokens = c.tokens_from.ensures.tokens; within = c.tokens_from.ensures.size; some = omega (arith, c.requires) } in
    let e : block_within (leaves_of c.args.toks.now.text) c.args.types.now (length c.args.toks.now.list) limit list ≡ Ok ((c.in-Ok.x, c.in-Ok.field-0-1), c.block_within.new.tokens) = rw (c.text.ensures, c.len-turns.ensures.value, c.new-tokens.ensures) at c.in-Ok.ensures.reads in
    let behind : c.token_number.result ≡ count c.args.toks.now - length c.block_within.new.tokens = c.token_number.ensures ∙ ap (λ m. count c.args.toks.now - m) c.left.ensures in
    subst (IsPartAt (blocks_of c.args.toks.now c.args.types.now) c.args.toks.now c.args.at c.in-Ok.x) (sym behind) (block_read c.args.toks.now c.args.types.now c.args.at list s c.in-Ok.x c.in-Ok.field-0-1 c.block_within.new.tokens e c.in-Ok.ensures.low)

pub returns-in-Ok-clause-whole : goal.returns-in-Ok-clause-whole
returns-in-Ok-clause-whole c =
    let list = c.tokens_from.result.now in
    let s : Sized200 c.args.toks.now c.args.at list = record { tokens = c.tokens_from.ensures.tokens; within = c.tokens_from.ensures.size; some = omega (arith, c.requires) } in
    let e : block_within (leaves_of c.args.toks.now.text) c.args.types.now (length c.args.toks.now.list) limit list ≡ Ok ((c.in-Ok.x, c.in-Ok.field-0-1), c.block_within.new.tokens) = rw (c.text.ensures, c.len-turns.ensures.value, c.new-tokens.ensures) at c.in-Ok.ensures.reads in
    let behind : c.token_number.result ≡ count c.args.toks.now - length c.block_within.new.tokens = c.token_number.ensures ∙ ap (λ m. count c.args.toks.now - m) c.left.ensures in
    λ x next part some.
    let same = block_only c.args.toks.now c.args.types.now c.args.at list s x c.in-Ok.x c.in-Ok.field-0-1 next c.block_within.new.tokens e part in
    ap₂ (λ y m. Ok (y, m)) same.0 (behind ∙ same.1)

pub returns-in-Err-clause-whole : goal.returns-in-Err-clause-whole
returns-in-Err-clause-whole c =
    let list = c.tokens_from.result.now in
    let s : Sized200 c.args.toks.now c.args.at list = record { tokens = c.tokens_from.ensures.tokens; within = c.tokens_from.ensures.size; some = omega (arith, c.requires) } in
    let reads : c.in-Err.error ≢ NoMemory → block_within (leaves_of c.args.toks.now.text) c.args.types.now (length c.args.toks.now.list) limit list ≡ Err c.in-Err.error = λ some. rw (c.text.ensures, c.len-turns.ensures.value, c.new-tokens.ensures) at (c.in-Err.ensures.reads some) in
    λ x next part some. absurd (block_none c.args.toks.now c.args.types.now c.args.at list s c.in-Err.error reads (λ stops. some (ap Err (c.of.ensures ∙ stops))) x next part)

pub returns-in-Err-clause-fault : goal.returns-in-Err-clause-fault
returns-in-Err-clause-fault c =
    let list = c.tokens_from.result.now in
    let s : Sized200 c.args.toks.now c.args.at list = record { tokens = c.tokens_from.ensures.tokens; within = c.tokens_from.ensures.size; some = omega (arith, c.requires) } in
    let reads : c.in-Err.error ≢ NoMemory → block_within (leaves_of c.args.toks.now.text) c.args.types.now (length c.args.toks.now.list) limit list ≡ Err c.in-Err.error = λ some. rw (c.text.ensures, c.len-turns.ensures.value, c.new-tokens.ensures) at (c.in-Err.ensures.reads some) in
    λ fault is.
    let stops : c.of.result ≡ Fault fault = cc in
    block_fault c.args.toks.now c.args.types.now c.args.at list s c.in-Err.error reads fault (sym c.of.ensures ∙ stops)
