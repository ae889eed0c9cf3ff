use Rattle.std.proofs.Common.{ℕ, ◌++◌, ◌∷◌, [], List, ap, sym, ◌∙◌, subst, Err}
use Rattle.al_lex.specs.declared.fault.LexStop.TheVariants as stops
use Rattle.al_lex.specs.declared.token.Token.{Token}
use Rattle.al_lex.specs.Written.{IsCutInto}
use Rattle.al_lex.specs.TokenList.{IsTokenList}
use Rattle.al_lex.proofs.Read.{Read, read_none, read_more, read_all, read_fault, same_tokens, cut_not_stuck, same_fault, stuck_not_cut}
use Rattle.al_lex.proofs.Whole.{token_list}
use Rattle.al_lex.proofs.reading.lex.Goals as goal

pub loop-here-init : goal.loop-here-init
loop-here-init c =
    let start = read_none c.args.text.now c.beginning-here.result c.beginning-here.ensures in
    let named = subst (λ names. Read c.args.text.now names [] c.beginning-here.result) (sym c.new-names.ensures) start in
    subst (λ (list : List Token). Read c.args.text.now c.new-names.result list c.beginning-here.result) (sym c.new-list.ensures.items) named

pub loop-here-preserved : goal.loop-here-preserved
loop-here-preserved c =
    read_more c.args.text.now c.loop-here.names c.note_piece.new.names c.loop-here.list.items c.note_piece.new.list.items c.loop-here.here c.in-Ok.step.1 c.in-Ok.step.0
    c.loop-here.invariant c.in-Ok.ensures.next c.in-Ok.ensures.at c.in_ok-note_piece.ensures.names c.in_ok-note_piece.ensures.list

pub returns-in-Err-clause-stuck : goal.returns-in-Err-clause-stuck
returns-in-Err-clause-stuck c f s other =
    ap (λ x. Err (stops.Fault x)) (same_fault c.args.text.now c.in-Err.fault f (read_fault c.args.text.now c.loop-here.names c.loop-here.list.items c.loop-here.here c.in-Err.fault c.loop-here.invariant c.in-Err.ensures.fault) s)

pub returns-in-Err-clause-cut : goal.returns-in-Err-clause-cut
returns-in-Err-clause-cut c pieces cut other =
    absurd (stuck_not_cut c.args.text.now pieces c.in-Err.fault cut (read_fault c.args.text.now c.loop-here.names c.loop-here.list.items c.loop-here.here c.in-Err.fault c.loop-here.invariant c.in-Err.ensures.fault))

pub new-requires : goal.new-requires
new-requires c =
    let list = c.in_ok-push.ensures.items ∙ ap (λ t. c.loop-here.list.items ++ t ∷ []) c.token_between.ensures in
    let whole = read_all c.args.text.now c.loop-here.names c.loop-here.list.items c.loop-here.here c.loop-here.invariant c.loop-here-test.false in
    let is = subst (λ (l : List Token). IsTokenList (record { list = l; text = c.args.text.now })) (sym list) (token_list c.args.text.now _ whole c.requires) in
    subst (λ (l : List ℕ). IsTokenList (record { list = c.push.new.self.items; text = l })) (sym c.in_ok-from_slice.ensures.items) is

pub returns-clause-tokens : goal.returns-clause-tokens
returns-clause-tokens c =
    let list = c.in_ok-push.ensures.items ∙ ap (λ t. c.loop-here.list.items ++ t ∷ []) c.token_between.ensures in
    let whole = read_all c.args.text.now c.loop-here.names c.loop-here.list.items c.loop-here.here c.loop-here.invariant c.loop-here-test.false in
    subst (IsCutInto c.args.text.now) (sym (c.new.ensures.list ∙ list)) whole

pub returns-clause-only : goal.returns-clause-only
returns-clause-only c pieces cut =
    let list = c.in_ok-push.ensures.items ∙ ap (λ t. c.loop-here.list.items ++ t ∷ []) c.token_between.ensures in
    let whole = read_all c.args.text.now c.loop-here.names c.loop-here.list.items c.loop-here.here c.loop-here.invariant c.loop-here-test.false in
    let into : IsCutInto c.args.text.now c.new.result.list = subst (IsCutInto c.args.text.now) (sym (c.new.ensures.list ∙ list)) whole in
    same_tokens c.args.text.now c.new.result.list pieces into cut

pub returns-clause-stuck : goal.returns-clause-stuck
returns-clause-stuck c f s other =
    let list = c.in_ok-push.ensures.items ∙ ap (λ t. c.loop-here.list.items ++ t ∷ []) c.token_between.ensures in
    let whole = read_all c.args.text.now c.loop-here.names c.loop-here.list.items c.loop-here.here c.loop-here.invariant c.loop-here-test.false in
    let into : IsCutInto c.args.text.now c.new.result.list = subst (IsCutInto c.args.text.now) (sym (c.new.ensures.list ∙ list)) whole in
    absurd (cut_not_stuck c.args.text.now c.new.result.list f into s)
