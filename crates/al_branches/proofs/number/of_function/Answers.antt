use Rattle.std.proofs.Common.{◌≡◌, ℕ, ◌+◌, ◌-◌, ◌^◌, min, ◌∙◌, arith, ap, sym, length, get_or, take, None}
use Rattle.std.proofs.lemmas.List.{get_or_default}
use Rattle.al_declare.specs.declared.function.Defined.{Defined}
use Rattle.al_branches.specs.Numbers.{numbered, numbers_of}
use Rattle.al_branches.proofs.CountsAre.{own_length}
use Rattle.al_branches.proofs.TablesAre.{no_item, places-length, uses-length-of, firsts-length, numbers-are}
use Rattle.al_branches.proofs.number.of_function.Goals as goal

abbrev past : Defined
past = record { item = 0; instance = None }

pub returns-then-item-items : goal.returns-then-item-items
returns-then-item-items c d =
    c.new.ensures
    ∙ sym (no_item c.args.items.now c.args.defined.now c.args.k (get_or c.args.defined.now c.args.k past) c.if-item-items.true)
    ∙ ap (numbers_of c.args.items.now c.args.defined.now c.args.k) (get_or_default c.args.defined.now c.args.k past d c.requires.within)

pub index-requires : goal.index-requires
index-requires c = let l = firsts-length c.args.items.now c.args.defined.now c.args.tables.now c.requires.tables in omega arith

pub bounds-before-item : goal.bounds-before-item
bounds-before-item c = let l = own_length (take c.args.k c.args.defined.now) (length c.args.items.now) c.args.before.now c.requires.before in omega arith

pub index-requires-2 : goal.index-requires-2
index-requires-2 c = let l = uses-length-of c.args.items.now c.args.defined.now c.args.tables.now c.requires.tables in omega arith

pub index-requires-3 : goal.index-requires-3
index-requires-3 c = let l = places-length c.args.items.now c.args.defined.now c.args.tables.now c.requires.tables in omega arith

pub returns : goal.returns
returns c d =
    let item : ℕ = (get_or c.args.defined.now c.args.k past).item in
    let before : ℕ = get_or c.args.before.now item 0 in
    let l = own_length (take c.args.k c.args.defined.now) (length c.args.items.now) c.args.before.now c.requires.before in
    let before-is : before ≡ get_or c.args.before.now item before = get_or_default c.args.before.now item 0 before (omega arith) in
    let are : numbered c.saturating_add-from.result c.index-2.result.now c.as_slice.result.now ≡ numbers_of c.args.items.now c.args.defined.now c.args.k (get_or c.args.defined.now c.args.k d) =
    ap (λ n. numbered n c.index-2.result.now c.as_slice.result.now) c.saturating_add-from.ensures
    ∙ ap (numbered (min (c.index.result.now + before) (2 ^ 64 - 1)) c.index-2.result.now) c.as_slice.ensures.value
    ∙ numbers-are c.args.items.now c.args.defined.now c.args.tables.now c.args.k c.index.result.now before c.index-2.result.now c.args.before.now c.index-3.result.now
    (get_or c.args.defined.now c.args.k past) c.requires.tables c.requires.before c.if-item-items.false c.index.ensures before-is c.index-2.ensures c.index-3.ensures
    ∙ ap (numbers_of c.args.items.now c.args.defined.now c.args.k) (get_or_default c.args.defined.now c.args.k past d c.requires.within) in
    rw (← are) c.numbered.ensures
