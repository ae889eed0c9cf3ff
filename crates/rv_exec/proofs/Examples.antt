-- Runs that the definitions compute.
use Rattle.std.proofs.Common.{◌≡◌, ℕ, List, [], ◌∷◌, refl}
use Rattle.al_event.specs.declared.act.Act.TheVariants.{End}
use Rattle.rv_isa.specs.declared.image.Contents.{Contents}
use Rattle.rv_exec.specs.Step.{performed}
use Rattle.rv_exec.specs.Machine.{ask, started}

-- an image of these words, which is one function
abbrev of_code : List ℕ → Contents
of_code code = record {
  code = code;
  functions = record { entry = 0; slots = 16; words = 0 } ∷ [];
  globals = [];
  items = [];
  privates = 0;
  main = 0;
  lines = record { word = 1; line = 3 } ∷ [];
}

-- addi x17, x0, 1 and ecall
abbrev ends : Contents
ends = of_code (0x00100893 ∷ 0x00000073 ∷ [])

pub ends_act : (ask ends (started ends 0 []) (λ n. 0)).act ≡ End
unfolding performed
ends_act = refl

pub ends_work : (ask ends (started ends 0 []) (λ n. 0)).work ≡ 2
unfolding performed
ends_work = refl

pub ends_line : (ask ends (started ends 0 []) (λ n. 0)).line ≡ 3
unfolding performed
ends_line = refl
