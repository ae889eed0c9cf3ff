use Rattle.std.proofs.Common.{ℕ, List, ap}
use Rattle.al_parse_stmt.specs.Known.{declared_of}
use Rattle.al_parse_stmt.proofs.KeptNames.{kept_names}
use Rattle.al_parse_stmt.proofs.reader.Reader.bracketed.Goals as goal

pub returns-clause-same : goal.returns-clause-same
returns-clause-same c = ap (λ (ts : List ℕ). declared_of (record { types = ts; adts = c.args.known.now.adts })) (kept_names _ c.in_ok-inside.inside _ _ _ c.truncate.ensures c.len-count.ensures c.in_ok-declare_all.ensures)
