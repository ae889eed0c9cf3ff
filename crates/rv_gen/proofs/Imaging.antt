-- The last of three plans has the layout of a program, and what is emitted by it is its image.
use Rattle.std.proofs.Common.{◌≡◌, List, [], Some, map, ap, ◌∙◌}
use Rattle.rv_isa.specs.declared.image.Contents.{Contents}
use Rattle.al_ir.specs.declared.ir.Ir.{Ir}
use Rattle.rv_code.specs.declared.home.Home.{Home}
use Rattle.rv_code.specs.declared.reach.Reach.{Reach}
use Rattle.rv_form.specs.Layout.{Layout}
use Rattle.rv_form.specs.Program.{Homes, Places, places_by, places_of, reaches, reaches_from, nowhere, layout_with, layout_of, code_by, lines_by, rows_from_number, IsImageOf}
use Rattle.rv_emit_ops.specs.declared.plan.Plan.{Plan}
use Rattle.rv_emit_ops.specs.Plans.{homes_of, places_in, layout_in}
use Rattle.rv_gen.specs.Generating.{HasCode}

pub same_layout : (ir : Ir) (far reaching placed : Plan) → places_in far ≡ nowhere [] → reaching.homes ≡ far.homes
    → places_in reaching ≡ nowhere (reaches_from (layout_in ir far) 0 ir.functions) → placed.homes ≡ reaching.homes
    → places_in placed ≡ places_by (layout_in ir reaching) reaching.reaches ir → layout_in ir placed ≡ layout_of (homes_of far.homes) ir
same_layout ir far reaching placed is_far same_homes is_reaching same_homes_too is_placed =
    let H : Homes = homes_of far.homes in
    let R : List Reach = reaches H ir in
    let places_2 : places_in reaching ≡ nowhere R = is_reaching ∙ ap (λ (p : Places). nowhere (reaches_from (layout_with H ir p) 0 ir.functions)) is_far in
    let reaches_2 : reaching.reaches ≡ R = ap (λ (p : Places). p.reaches) places_2 in
    let layout_2 : layout_in ir reaching ≡ layout_with H ir (nowhere R) =
    ap (λ (hs : List (List Home)). layout_with (homes_of hs) ir (places_in reaching)) same_homes ∙ ap (λ (p : Places). layout_with H ir p) places_2 in
    let places_3 : places_in placed ≡ places_of H ir =
    is_placed ∙ (ap (λ (l : Layout). places_by l reaching.reaches ir) layout_2 ∙ ap (λ (rs : List Reach). places_by (layout_with H ir (nowhere R)) rs ir) reaches_2) in
    ap (λ (hs : List (List Home)). layout_with (homes_of hs) ir (places_in placed)) (same_homes_too ∙ same_homes) ∙ ap (λ (p : Places). layout_with H ir p) places_3

pub image_of : (ir : Ir) (H : Homes) (l : Layout) → l ≡ layout_of H ir → (image : Contents) → HasCode l ir image → IsImageOf H ir image
image_of ir H l same image has = record {
  code = has.code ∙ ap (λ (k : Layout). map Some (code_by k ir)) same;
  functions = has.functions ∙ ap (λ (k : Layout). rows_from_number k 0 ir.functions) same;
  globals = has.globals;
  items = has.items;
  privates = has.privates;
  main = has.main;
  lines = has.lines ∙ ap (λ (k : Layout). lines_by k ir) same;
}
