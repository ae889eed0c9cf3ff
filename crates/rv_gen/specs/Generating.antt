-- What an image that was generated is.
use Rattle.std.specs.Prelude.{◌≡◌, ℕ, ◌*◌, ◌<◌, List, length, map, Some}
use Rattle.al_ir.specs.declared.ir.Ir.{Ir}
use Rattle.rv_isa.specs.declared.image.Contents.{Contents}
use Rattle.rv_code.specs.declared.home.Home.{Home}
use Rattle.rv_regs.specs.Homes.{AreHomes}
use Rattle.rv_isa.specs.Table.{instruction_of}
use Rattle.rv_form.specs.Layout.{Layout}
use Rattle.rv_form.specs.Program.{IsImageOf, code_by, lines_by, rows_from_number, sizes_of, items_of}
use Rattle.rv_emit_ops.specs.Plans.{homes_of}

-- homes of the slots of each function
abbrev pub HaveHomes : Ir → List (List Home) → Type 0
HaveHomes ir homes = (f : ℕ) → f < length homes → AreHomes ir f (homes_of homes f)

-- the parts of an image by a layout
pub record HasCode (l : Layout) (ir : Ir) (image : Contents) : Type 0 where
  pub code : map instruction_of image.code ≡ map Some (code_by l ir)
  pub functions : image.functions ≡ rows_from_number l 0 ir.functions
  pub globals : image.globals ≡ sizes_of ir
  pub items : image.items ≡ items_of ir
  pub privates : image.privates ≡ 4 * ir.privates
  pub main : image.main ≡ ir.main
  pub lines : image.lines ≡ lines_by l ir

-- the image of a program, for some homes of its slots
pub record IsGenerated (ir : Ir) (image : Contents) : Type 0 where
  pub homes : List (List Home)
  pub count : length homes ≡ length ir.functions
  pub are_homes : (f : ℕ) → f < length ir.functions → AreHomes ir f (homes_of homes f)
  pub is_image : IsImageOf (homes_of homes) ir image
