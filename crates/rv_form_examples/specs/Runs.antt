-- What a task asks, as it is told its answers one by one.
use Rattle.std.specs.Prelude.{ℕ, ◌*◌, List, [], ◌∷◌}
use Rattle.al_event.specs.declared.act.Act.{Act}
use Rattle.al_world.specs.Control.{Kind}
use Rattle.rv_isa.specs.declared.image.Contents.{Contents}
use Rattle.rv_code.specs.declared.home.Home.TheVariants.{Frame}
use Rattle.rv_exec.specs.Machine.{machine}
use Rattle.al_ir.specs.Meaning.{tasks, main_start}
use Rattle.al_ir.specs.declared.ir.Ir.{Ir}
use Rattle.rv_form.specs.Program.{Homes, code_of, rows_of, sizes_of, items_of, lines_of}
use Rattle.rv_form_examples.specs.Encoding.{words_of}

-- an action, and the line that asks it
pub record Said : Type 0 where
  pub line : ℕ
  pub act : Act

-- what it asks first, and then after each of these answers
abbrev pub asked : (kind : Kind) → kind.Control → kind.Privates → List (List ℕ) → List Said
asked kind c p [] = record { line = (kind.ask c p).line; act = (kind.ask c p).act } ∷ []
asked kind c p (words ∷ answers) =
    let a = kind.ask c p in
    record { line = a.line; act = a.act } ∷ asked kind (kind.resume a.control words) a.privates answers

-- the image of a program
abbrev pub image_of : Homes → Ir → Contents
image_of homes ir = record {
  code = words_of (code_of homes ir);
  functions = rows_of homes ir;
  globals = sizes_of ir;
  items = items_of ir;
  privates = 4 * ir.privates;
  main = ir.main;
  lines = lines_of homes ir;
}

-- each slot in its word of the frame
abbrev pub plain : Homes
plain f t = Frame t

-- the first task, as operations and as code
abbrev pub by_operations : Ir → List (List ℕ) → List Said
by_operations ir answers = let kind = tasks ir in asked kind (kind.start (main_start ir)) (kind.fresh) answers

abbrev pub by_code : Homes → Ir → List (List ℕ) → List Said
by_code homes ir answers = let kind = machine (image_of homes ir) in asked kind (kind.start (main_start ir)) (kind.fresh) answers
