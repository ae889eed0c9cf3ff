use Rattle.std.proofs.Common.{◌<◌, subst, sym}
use Rattle.rv_isa.specs.declared.image.Contents.{Contents}
use Rattle.rv_form.specs.Program.{IsImageOf}
use Rattle.rv_emit_ops.specs.Plans.{homes_of, layout_in}
use Rattle.rv_gen.proofs.Imaging.{same_layout, image_of}
use Rattle.rv_gen.proofs.image.generate.Goals as goal

pub returns-in-Ok : goal.returns-in-Ok
returns-in-Ok c =
    let ir = c.args.ir.now in
    let far = c.in_ok-far.far in
    let near = c.in_ok-near.near in
    let plan = c.in_ok-plan.plan in
    let same = same_layout ir far near plan c.in_ok-far.ensures.places c.in_ok-near.ensures.homes c.in_ok-near.ensures.places c.in_ok-plan.ensures.homes c.in_ok-plan.ensures.places in
    record {
      homes = far.homes;
      count = c.in_ok-far.ensures.count;
      are_homes = λ f less. c.in_ok-far.ensures.homes f (subst (λ n. f < n) (sym c.in_ok-far.ensures.count) less);
      is_image = subst (λ (image : Contents). IsImageOf (homes_of far.homes) ir image) (sym c.in-Ok.ensures.image) (image_of ir (homes_of far.homes) (layout_in ir plan) same c.in_ok-contents.contents c.in_ok-contents.ensures);
    }
