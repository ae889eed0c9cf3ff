-- What hosts and sinks in memory hold, and what their calls do to it.
use Rattle.std.specs.Prelude.{ℕ, ◌+◌, ◌-◌, ◌^◌, ◌==◌, Bool, true, false, ◌&&◌, ◌||◌, nat_lt, if◌then◌else◌, min, List, [], drop, slice_get, Option, Some, None}
use Rattle.std.specs.List.{list_any}
use Rattle.al_host.specs.Outside.{Content}

-- ---- which calls are faults

-- The calls that are to be faults, by their numbers from 1, and how many calls and faults there were. Both counts stop
-- at their last value of 64 bits.
pub record Plan : Type 0 where
  pub fail : List ℕ
  pub calls : ℕ
  pub faults : ℕ

abbrev pub fresh_plan : List ℕ → Plan
fresh_plan fail = record { fail = fail; calls = 0; faults = 0 }

-- one more, but at most the last value
abbrev pub raised : ℕ → ℕ
raised n = min (n + 1) (2 ^ 64 - 1)

-- the next call is to be a fault
abbrev pub is_due : Plan → Bool
is_due plan = list_any (λ number. number == plan.calls + 1) plan.fail

abbrev pub with_fault : Plan → Plan
with_fault plan = record plan { faults = raised plan.faults }

-- after a call that was or was not a fault
abbrev pub after_call : Bool → Plan → Plan
after_call due plan =
    record { fail = plan.fail; calls = raised plan.calls; faults = if due then raised plan.faults else plan.faults }

-- ---- hosts

-- a host's texts with their names, what is left of the one that was found, and its faults
pub record HostState : Type 0 where
  pub texts : List (List ℕ × List ℕ)
  pub left : List ℕ
  pub plan : Plan

-- what a host in memory tells
abbrev pub told : HostState → Content
told host = record { texts = host.texts; left = host.left }

-- the text at a place
abbrev pub text_at : ℕ → List (List ℕ × List ℕ) → List ℕ
text_at at texts = elim (slice_get texts at) [ None ↦ [] | Some text ↦ text.1 ]

-- what is left of the text at a place once a number of bytes was read
abbrev pub left_of : Option ℕ → ℕ → List (List ℕ × List ℕ) → List ℕ
left_of None read texts = []
left_of (Some at) read texts = drop read (text_at at texts)

-- ---- sinks

-- what a sink got, how much more it takes in all and in one call, and its faults
pub record SinkState : Type 0 where
  pub got : List ℕ
  pub room : ℕ
  pub most : ℕ
  pub plan : Plan

-- how much of a piece of some length a sink takes
abbrev pub taken : SinkState → ℕ → ℕ
taken sink len = min (min len sink.most) sink.room

-- a sink refuses a piece of some length: by its plan, or since it would take nothing of one that is not empty
abbrev pub refuses : SinkState → ℕ → Bool
refuses sink len = is_due sink.plan || (taken sink len == 0 && nat_lt 0 len)

-- a sink's plan after a write: where no room is left that is a fault too
abbrev pub plan_after : SinkState → ℕ → Plan
plan_after sink len =
    if is_due sink.plan then after_call true sink.plan
    else if refuses sink len then with_fault (after_call false sink.plan)
    else after_call false sink.plan
