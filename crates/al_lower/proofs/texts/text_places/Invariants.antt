use Rattle.std.proofs.Common.{◌≡◌}
use Rattle.al_typed.specs.Capped.{capped}
use Rattle.al_lower.proofs.TextPlaces.{Found, place_at}
use Rattle.al_lower.proofs.texts.text_places.Given as goal

abbrev pub invariant-loop-text : goal.invariant-loop-text
invariant-loop-text l = record {
  found : Found l.p l.text-index l.it;
  at : l.at ≡ capped (place_at l.p l.text-index);
}
