-- What the public types stand for.
use Rattle.std.specs.Prelude.{ℕ, ◌*◌, List, vec_len}
use Rattle.al_event.specs.declared.act.Act.{Act}
use Rattle.al_world.specs.Control.{Asked as WorldAsked}
use Rattle.rv_isa.specs.declared.image.Contents.{Contents}
use Rattle.rv_exec.specs.declared.run.Hart.{Hart as HartFields}
use Rattle.rv_exec.specs.declared.run.Privates.{Privates as PrivatesFields}
use Rattle.rv_exec.specs.declared.run.Asked.{Asked}
use Rattle.rv_exec.specs.Hart.{Hart}
use Rattle.rv_exec.specs.Calls.{Privates}
use Rattle.rv_exec.specs.Machine.{line_of}
use Rattle.rv_exec.specs.Answers.{CanAnswer, CanGoOn}
use Rattle.rv_exec.specs.Seen.{seen, words_of}

abbrev pub hart_of : HartFields → Hart
hart_of h = seen h.state

abbrev pub privates_of : PrivatesFields → Privates
privates_of p = words_of p.words.items

-- how many bytes of private globals there are
abbrev pub bytes_of : PrivatesFields → ℕ
bytes_of p = 4 * vec_len p.words

abbrev pub asked_of : Contents → Asked → WorldAsked Hart Privates
asked_of image a = record {
  act = a.act;
  line = line_of image (hart_of a.held.hart).pc;
  work = a.work;
  control = hart_of a.held.hart;
  privates = privates_of a.held.privates;
}

-- the task can go on with an answer of these words
abbrev pub CanTake : HartFields → List ℕ → Type 0
CanTake h words = CanGoOn h.state words

-- the task can go on with each answer that the action can have
abbrev pub WaitsFor : HartFields → Act → Type 0
WaitsFor h act = (words : List ℕ) → CanAnswer act words → CanTake h words
