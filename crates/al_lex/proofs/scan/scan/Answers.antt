use Rattle.std.proofs.Common.{◌≡◌, ap, ◌∙◌}
use Rattle.al_lex.specs.Scan.{scan, scan_class}
use Rattle.al_lex.proofs.Bounds.{bounds}
use Rattle.al_lex.proofs.scan.scan.Goals as goal

pub returns : goal.returns
returns c =
    let ts = c.args.rest.now in
    let value : c.scan_class.result ≡ scan c.args.fresh ts = c.scan_class.ensures ∙ ap (λ x. scan_class c.args.fresh x ts) c.class_of.ensures in
    let b = bounds c.args.fresh ts c.requires in
    record { value = value; some = rw value b.some; within = rw value b.within; fault_within = rw value b.fault_within }
