use Rattle.std.proofs.Common.{◌≡◌, ℕ, suc, ◌+◌, ℤ, pos, List, [], ◌∷◌, ◌++◌, length, ap, ◌∙◌, arith, rules, w32, SFits}
use Rattle.std.proofs.lemmas.Int.{to_z-of_z}
use Rattle.std.proofs.lemmas.Result.{on_ok_weaker}
use Rattle.rv_isa.specs.declared.instr.Instr.{Instr}
use Rattle.rv_isa.specs.declared.instr.Instr.TheVariants.{Jal, Load, Branch, Immediate}
use Rattle.rv_isa.specs.declared.instr.BranchOp.TheVariants.{Beq}
use Rattle.rv_isa.specs.declared.instr.LoadOp.TheVariants.{Lbu}
use Rattle.rv_isa.specs.declared.instr.ImmediateOp.TheVariants.{Addi}
use Rattle.rv_code.specs.declared.home.Home.{Home}
use Rattle.rv_code.specs.Homes.{get_code, get_register, put_code, put_register}
use Rattle.rv_code.specs.Jumps.{distance}
use Rattle.rv_code.specs.Pieces.{call_code}
use Rattle.rv_form.specs.Texts.{text_code}
use Rattle.rv_emit_units.proofs.Rounds.{composes}
use Rattle.rv_emit_units.proofs.texts.put_text.Goals as goal

-- the same code with its numbers as they were found
found : (at : Home) (old : List Instr) (place put get_width put_width : ℕ) (skip back : ℤ) → place ≡ get_register at 11 → put ≡ put_register at 11
    → get_width ≡ length (get_code at 11) → put_width ≡ length (put_code at 11) → skip ≡ distance 0 (4 + (1 + put_width)) → back ≡ distance (get_width + 4 + (1 + put_width)) 0
    → old ++ (get_code at 11 ++ (Load Lbu 10 place (pos 0) ∷ Branch Beq 10 0 skip ∷ (call_code 16 ++ ((Immediate Addi put place (pos 1) ∷ put_code at 11) ++ Jal 0 back ∷ [])))) ≡ old ++ text_code at
found at old place put get_width put_width skip back is_place is_put is_get_width is_put_width is_skip is_back =
    let next : 1 + put_width ≡ suc (length (put_code at 11)) = omega (arith, is_put_width) in
    let skips : skip ≡ distance 0 (4 + suc (length (put_code at 11))) = is_skip ∙ ap (λ n. distance 0 (4 + n)) next in
    let backs : back ≡ distance (length (get_code at 11) + 4 + suc (length (put_code at 11))) 0 =
    is_back ∙ (ap (λ n. distance (n + 4 + (1 + put_width)) 0) is_get_width ∙ ap (λ n. distance (length (get_code at 11) + 4 + n) 0) next) in
    ap (λ p. old ++ (get_code at 11 ++ (Load Lbu 10 p (pos 0) ∷ Branch Beq 10 0 skip ∷ (call_code 16 ++ ((Immediate Addi put p (pos 1) ∷ put_code at 11) ++ Jal 0 back ∷ []))))) is_place
    ∙ (ap (λ p. old ++ (get_code at 11 ++ (Load Lbu 10 (get_register at 11) (pos 0) ∷ Branch Beq 10 0 skip ∷ (call_code 16 ++ ((Immediate Addi p (get_register at 11) (pos 1) ∷ put_code at 11) ++ Jal 0 back ∷ []))))) is_put
    ∙ (ap (λ (d : ℤ). old ++ (get_code at 11 ++ (Load Lbu 10 (get_register at 11) (pos 0) ∷ Branch Beq 10 0 d ∷ (call_code 16 ++ ((Immediate Addi (put_register at 11) (get_register at 11) (pos 1) ∷ put_code at 11) ++ Jal 0 back ∷ []))))) skips
    ∙ ap (λ (d : ℤ). old ++ (get_code at 11 ++ (Load Lbu 10 (get_register at 11) (pos 0) ∷ Branch Beq 10 0 (distance 0 (4 + suc (length (put_code at 11)))) ∷ (call_code 16 ++ ((Immediate Addi (put_register at 11) (get_register at 11) (pos 1) ∷ put_code at 11) ++ Jal 0 d ∷ []))))) backs))

pub returns : goal.returns
returns c =
    let skip_fits : SFits w32 c.distance.result = search rules in
    let back_fits : SFits w32 c.distance-2.result = search rules in
    let skip = to_z-of_z w32 c.distance.result skip_fits in
    let back = to_z-of_z w32 c.distance-2.result back_fits in
    let branches = c.in_ok-branch.ensures ∙ ap (λ (d : ℤ). c.load.new.code.items ++ Branch Beq 10 0 d ∷ []) skip in
    on_ok_weaker c.add.result
    (λ is.
    composes c.args.code.now.items c.get.new.code.items c.load.new.code.items c.branch-code.new.code.items c.call.new.code.items c.immediate.new.code.items c.put.new.code.items c.add.new.code.items
    (get_code c.args.at 11) (call_code 16) (put_code c.args.at 11) (Load Lbu 10 c.get_register-place.result (pos 0)) (Branch Beq 10 0 c.distance.result)
    (Immediate Addi c.put_register.result c.get_register-place.result (pos 1)) (Jal 0 c.distance-2.result)
    c.in_ok-get.ensures c.in_ok-load.ensures branches c.in_ok-call.ensures c.in_ok-immediate.ensures c.in_ok-put.ensures
    (cc (back, is))
    ∙ found c.args.at c.args.code.now.items c.get_register-place.result c.put_register.result c.get_width.result c.put_width-next.result c.distance.result c.distance-2.result
    c.get_register-place.ensures c.put_register.ensures c.get_width.ensures.value c.put_width-next.ensures.value c.distance.ensures c.distance-2.ensures)
    c.add.ensures
