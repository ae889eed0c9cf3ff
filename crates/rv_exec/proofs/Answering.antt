-- Tasks that can go on with each answer.
use Rattle.std.proofs.Common.{◌≡◌, ℕ, ◌+◌, ◌^◌, ◌<◌, ◌≤◌, List, [], ◌∷◌, length, slice_get, slice_index, vec_len, arith}
use Rattle.al_base.specs.declared.trap.Trap.{Trap}
use Rattle.al_event.specs.declared.act.Branch.{Branch}
use Rattle.al_event.specs.declared.act.Act.{Act}
use Rattle.al_event.specs.declared.act.Act.TheVariants.{Talk as TalkAct, Trap as Traps}
use Rattle.al_world.specs.Control.{received_by}
use Rattle.rv_exec.specs.declared.state.State.{State}
use Rattle.rv_exec.specs.declared.state.Waits.{Waits}
use Rattle.rv_exec.specs.declared.state.Waits.TheVariants.{Done, Unit as UnitWaits, Word, Talk}
use Rattle.rv_exec.specs.Machine.{place_of, FitsWaits}
use Rattle.rv_exec.specs.Seen.{seen}
use Rattle.rv_exec.specs.Answers.{AnswersTalk, IsReady, HasRoom, IsPlain}

pub ready_trap : (s : State) (trap : Trap) → IsReady s (Traps trap)
ready_trap s trap = record { goes_on = λ words h. absurd h }

fits : (waits : Waits) → IsPlain waits → FitsWaits waits
fits Done h = tt
fits (UnitWaits op rd) h = h
fits Word h = tt
fits Talk h = absurd h

not_talk : (waits : Waits) → IsPlain waits → waits ≡ Talk → ⊥
not_talk Done h e = absurd (cc)
not_talk (UnitWaits op rd) h e = absurd (cc)
not_talk Word h e = absurd (cc)
not_talk Talk h e = h

pub ready_plain : (s : State) (act : Act) → s.pc + 4 < 2 ^ 32 → IsPlain s.waits → IsReady s act
ready_plain s act near plain = record {
  goes_on = λ words h. record {
    near = near;
    register = fits s.waits plain;
    some = λ e. absurd (not_talk s.waits plain e);
    room = λ e. absurd (not_talk s.waits plain e);
  };
}

module _ (s : State) (branches : List Branch) (near : s.pc + 4 < 2 ^ 32) (waits : s.waits ≡ Talk) (room : HasRoom s branches) where
  some_word : (words : List ℕ) → AnswersTalk branches words → 0 < length words
  some_word [] h = absurd h
  some_word (branch ∷ received) h = omega arith

  has_room : (words : List ℕ) → AnswersTalk branches words → 1 < length words
      → place_of (seen s) (slice_index words 0) + length words ≤ vec_len s.stack + 1
  has_room [] h more = absurd h
  has_room (branch ∷ received) h more =
      let some : 0 < received_by (slice_get branches branch) = omega (arith, h) in
      omega (arith, h, room branch some)

  fits_talk : (waits : Waits) → waits ≡ Talk → FitsWaits waits
  fits_talk Done e = tt
  fits_talk (UnitWaits op rd) e = absurd (cc)
  fits_talk Word e = tt
  fits_talk Talk e = tt

  pub ready_talk : IsReady s (TalkAct branches)
  ready_talk = record {
    goes_on = λ words h. record {
      near = near;
      register = fits_talk s.waits waits;
      some = λ e. some_word words h;
      room = λ e more. has_room words h more;
    };
  }

-- what is counted has no part in it
pub ready_counted : (s : State) (act : Act) (jumps work : ℕ) → IsReady s act → IsReady (record s { jumps = jumps; work = work }) act
ready_counted s act jumps work ready = record {
  goes_on = λ words h. let can = ready.goes_on words h in record { near = can.near; register = can.register; some = can.some; room = can.room };
}
