use Rattle.std.proofs.Common.{[], ◌∷◌, List, length, subst, sym, ap, arith, length-append}
use Rattle.rv_code.specs.declared.home.Home.{Home}
use Rattle.rv_regs.specs.Homes.{AreHomes, home_at}
use Rattle.rv_gen.specs.Generating.{HaveHomes}
use Rattle.rv_gen.proofs.Having.{have_more, have_none}
use Rattle.rv_gen.proofs.image.homes.Goals as goal

pub loop-f-init : goal.loop-f-init
loop-f-init c = record {
  count = ap length c.new-homes.ensures;
  homes = subst (λ (hs : List (List Home)). HaveHomes c.args.ir.now hs) (sym c.new-homes.ensures) (have_none c.args.ir.now);
}

pub loop-f-preserved : goal.loop-f-preserved
loop-f-preserved c =
    let ir = c.args.ir.now in
    let own = c.in_ok-place.field-0 in
    let one = subst (λ n. AreHomes ir n (home_at own)) (sym c.loop-f.invariant.count) c.in_ok-place.ensures in
    record {
      count = omega (arith, ap length c.in_ok-push.ensures.ok, length-append c.loop-f.homes (own ∷ []), c.loop-f.invariant.count);
      homes = subst (λ (hs : List (List Home)). HaveHomes ir hs) (sym c.in_ok-push.ensures.ok) (have_more ir c.loop-f.homes own c.loop-f.invariant.homes one);
    }
