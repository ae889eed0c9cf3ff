use Rattle.std.proofs.Common.{◌≡◌, ℕ, ◌+◌, ◌*◌, List, slice_index, ap, ◌∙◌, arith}
use Rattle.std.proofs.Math.Path.{fun_ext}
use Rattle.std.proofs.lemmas.Bool.Decides.{nat_tests}
use Rattle.std.proofs.lemmas.Grind.{common_steps}
use Rattle.rv_exec.specs.declared.state.Waits.TheVariants.{Done}
use Rattle.rv_exec.specs.Hart.{Hart}
use Rattle.rv_exec.specs.Windows.{put_words}
use Rattle.rv_exec.specs.Seen.{words_of}
use Rattle.rv_exec.proofs.state.State.start.Goals as goal

same_hart : (pc pc' : ℕ) (registers registers' stack stack' : ℕ → ℕ) (text text' : List ℕ) → pc ≡ pc' → registers ≡ registers' → stack ≡ stack' → text ≡ text'
    → ◌≡◌ {A = Hart} (record { pc = pc; registers = registers; stack = stack; text = text; waits = Done; jumps = 0; work = 0 })
    (record { pc = pc'; registers = registers'; stack = stack'; text = text'; waits = Done; jumps = 0; work = 0 })
same_hart pc pc' registers registers' stack stack' text text' a b c d = cc

-- past the end of a list all words are 0
first_words : (words : List ℕ) (n : ℕ) → slice_index words n ≡ put_words (λ n. 0) 0 words n
first_words words n = grind (arith, common_steps, nat_tests)

pub returns : goal.returns
returns c = same_hart _ _ _ _ _ _ _ _ (ap (λ n. 4194304 + 4 * n) c.entry_of-entry.ensures) c.first_registers.ensures
    (ap words_of c.in_ok-stack.ensures.items ∙ fun_ext (first_words c.args.words.now)) c.new.ensures.items
