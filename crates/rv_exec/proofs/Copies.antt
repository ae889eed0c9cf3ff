-- A copy of a task can go on with the same answers.
use Rattle.std.proofs.Common.{◌≡◌, ◌+◌, ◌^◌, ◌<◌, ◌≤◌, ℕ, List, length, slice_index, vec_len, sym, ◌∙◌, subst, subst₂}
use Rattle.rv_exec.specs.Hart.{Hart}
use Rattle.rv_exec.specs.declared.state.State.{State}
use Rattle.rv_exec.specs.Machine.{place_of, FitsWaits}
use Rattle.rv_exec.specs.Seen.{seen}
use Rattle.rv_exec.specs.Answers.{CanGoOn}

pub can_go_on : (s t : State) (words : List ℕ) → seen t ≡ seen s → t.pc ≡ s.pc → t.waits ≡ s.waits → vec_len t.stack ≡ vec_len s.stack → CanGoOn s words → CanGoOn t words
can_go_on s t words same pc waits stack c = record {
  near = subst (λ n. n + 4 < 2 ^ 32) (sym pc) c.near;
  register = subst FitsWaits (sym waits) c.register;
  some = λ w. c.some (sym waits ∙ w);
  room = λ w more. subst₂ (λ (h : Hart) n. place_of h (slice_index words 0) + length words ≤ n + 1) (sym same) (sym stack) (c.room (sym waits ∙ w) more);
}
