use Rattle.std.proofs.Common.{◌≡◌, ◌≢◌, ◌<◌, [], length, Ok, Err, sym, ap, ap₂, ◌∙◌, arith}
use Rattle.al_tree.specs.Leaves.{leaves_of, names_from}
use Rattle.al_tree.specs.declared.cursor.ParseError.TheVariants.{NoMemory}
use Rattle.al_tree.specs.declared.fault.ParseStop.TheVariants.{Fault}
use Rattle.al_parse_stmt.specs.Parse.{text_items}
use Rattle.al_parse_stmt.proofs.TextIs.{text_is, text_same, text_names, text_none}
use Rattle.al_parse_stmt.proofs.TextFault.{fault_error}
use Rattle.al_parse_stmt.proofs.calls.parse.Goals as goal

pub returns-in-Ok-names_of-clause-tree : goal.returns-in-Ok-names_of-clause-tree
returns-in-Ok-names_of-clause-tree c =
    let toks = c.args.toks.now in
    let list = c.tokens_from-list.result.now in
    let short : length list < length toks.list = omega (arith, c.tokens_from-list.ensures.size, c.len-turns.ensures.some, c.len-turns.ensures.value) in
    let e : text_items (leaves_of toks.text) (length toks.list) 199 list ≡ Ok ((c.in-Ok.items, c.in-Ok.field-0-1), c.text_items.new.tokens) = rw (c.text.ensures, c.len-turns.ensures.value, c.new-tokens.ensures) at c.in-Ok.ensures.reads in
    let names : c.in-Ok-names_of.names ≡ names_from toks.text [] list = rw c.text-in-Ok.ensures at c.in-Ok-names_of.ensures in
    text_is toks list c.tokens_from-list.ensures.tokens (length toks.list) c.in-Ok.items c.in-Ok.field-0-1 c.text_items.new.tokens short e (omega (arith, c.in-Ok.ensures.low)) c.in-Ok-names_of.names names

pub returns-in-Ok-names_of-clause-whole : goal.returns-in-Ok-names_of-clause-whole
returns-in-Ok-names_of-clause-whole c =
    let toks = c.args.toks.now in
    let list = c.tokens_from-list.result.now in
    let short : length list < length toks.list = omega (arith, c.tokens_from-list.ensures.size, c.len-turns.ensures.some, c.len-turns.ensures.value) in
    let e : text_items (leaves_of toks.text) (length toks.list) 199 list ≡ Ok ((c.in-Ok.items, c.in-Ok.field-0-1), c.text_items.new.tokens) = rw (c.text.ensures, c.len-turns.ensures.value, c.new-tokens.ensures) at c.in-Ok.ensures.reads in
    let names : c.in-Ok-names_of.names ≡ names_from toks.text [] list = rw c.text-in-Ok.ensures at c.in-Ok-names_of.ensures in
    λ tree t some. ap₂ (λ xs ns. Ok (record { items = xs; names = ns }))
    (text_same toks list c.tokens_from-list.ensures.tokens (length toks.list) short c.in-Ok.items c.in-Ok.field-0-1 c.text_items.new.tokens e tree t)
    (text_names toks list c.tokens_from-list.ensures.tokens (length toks.list) short c.in-Ok-names_of.names names tree t)

pub returns-in-Err-clause-whole : goal.returns-in-Err-clause-whole
returns-in-Err-clause-whole c =
    let toks = c.args.toks.now in
    let list = c.tokens_from-list.result.now in
    let short : length list < length toks.list = omega (arith, c.tokens_from-list.ensures.size, c.len-turns.ensures.some, c.len-turns.ensures.value) in
    let reads : c.in-Err.error ≢ NoMemory → text_items (leaves_of toks.text) (length toks.list) 199 list ≡ Err c.in-Err.error = λ some. rw (c.text.ensures, c.len-turns.ensures.value, c.new-tokens.ensures) at (c.in-Err.ensures.reads some) in
    λ tree t some. absurd (text_none toks list c.tokens_from-list.ensures.tokens (length toks.list) short c.in-Err.error reads (λ stops. some (ap Err (c.of.ensures ∙ stops))) tree t)

pub returns-in-Err-clause-fault : goal.returns-in-Err-clause-fault
returns-in-Err-clause-fault c =
    let toks = c.args.toks.now in
    let list = c.tokens_from-list.result.now in
    let short : length list < length toks.list = omega (arith, c.tokens_from-list.ensures.size, c.len-turns.ensures.some, c.len-turns.ensures.value) in
    let reads : c.in-Err.error ≢ NoMemory → text_items (leaves_of toks.text) (length toks.list) 199 list ≡ Err c.in-Err.error = λ some. rw (c.text.ensures, c.len-turns.ensures.value, c.new-tokens.ensures) at (c.in-Err.ensures.reads some) in
    λ fault is.
    let stops : c.of.result ≡ Fault fault = cc in
    fault_error toks list c.tokens_from-list.ensures.tokens (length toks.list) short c.in-Err.error reads fault (sym c.of.ensures ∙ stops)
