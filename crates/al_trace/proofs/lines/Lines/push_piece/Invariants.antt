use Rattle.std.proofs.Common.{◌≡◌, ◌++◌, take}
use Rattle.al_trace.specs.Lines.{IsPart, text_of}
use Rattle.al_trace.proofs.lines.Lines.push_piece.Given as goal

abbrev pub invariant-loop-byte : goal.invariant-loop-byte
invariant-loop-byte l = record { part : IsPart l.self; text : text_of l.self ≡ text_of l.initial.self ++ take l.byte-index l.piece }
