-- A turn, with whatever comes behind it; at the last one the pause is asked first.
use Rattle.std.proofs.Common.{◌≡◌, ◌≢◌, ℕ, zero, suc, ◌+◌, ◌*◌, ◌^◌, ◌<◌, ◌≤◌, List, length, refl, ap, ◌∙◌, arith}
use Rattle.al_world.specs.Turns.{Turns}
use Rattle.rv_isa.specs.declared.image.Contents.{Contents}
use Rattle.rv_exec.specs.Hart.{Hart, put}
use Rattle.rv_exec.specs.Calls.{Privates}
use Rattle.rv_exec.specs.Machine.{line_of}
use Rattle.rv_exec.specs.declared.state.Waits.{Waits}
use Rattle.rv_exec.specs.declared.state.Waits.TheVariants.{Done}
use Rattle.al_ir.specs.Bounds.{most_jumps}
use Rattle.al_ir.specs.declared.ir.Ir.{Ir}
use Rattle.al_ir.specs.Control.{Slots, Control}
use Rattle.al_ir.specs.Meaning.{resume}
use Rattle.rv_code.specs.Jumps.{place}
use Rattle.rv_code.specs.Pieces.{turn_code}
use Rattle.rv_code.specs.Runs.{Stands, Fine}
use Rattle.rv_code.proofs.Leading.{then_leads}
use Rattle.rv_code.proofs.Slots.{put_other}
use Rattle.rv_code.proofs.Turns.{turns_on, turns_last, paused}
use Rattle.rv_match.specs.Following.{Follows, Nears}
use Rattle.rv_match.specs.Match.{Private, Match}
use Rattle.rv_match.specs.Places.{Places, full, wide}

module _ (ir : Ir) (image : Contents) (l : Places) (live : (f pc unit t : ℕ) → Type 0) (Midway : (f pc unit : ℕ) → Slots → (sp : ℕ) → Hart → Type 0)
    (small : length image.code ≤ 2 ^ 23) (left : ℕ) (c : Control) (u : List ℕ) (h : Hart) (p : Privates) (line at0 before0 : ℕ) (here : h.pc ≡ place at0) (low : at0 < 2 ^ 23)
    (three : h.registers 3 ≡ left) (few : left ≤ full) (some : 1 ≤ left) (waiting : h.waits ≡ Done)
    (counted : h.jumps + wide * left ≤ wide * full + before0 + 4) (fewer : before0 ≤ most_jumps)
    (same : Private ir u p) (fine : Fine h p) (turn : Stands image.code at0 turn_code) (line_is : line_of image (place (at0 + 3)) ≡ line) where
  abbrev pub Behind : ℕ → Hart → Privates → Type 0
  Behind left1 h1 q = Nears image resume (Private ir) (Match ir image l live Midway) left1 c h1 q

  -- what is behind the turn has room for four more counted jumps
  abbrev pub Rest : Type 0
  Rest = (left1 pc1 jumps1 work1 : ℕ) (rs : ℕ → ℕ) (waits1 : Waits) (q : Privates) → pc1 ≡ place (at0 + 4) → ((n : ℕ) → n ≢ 3 → n ≢ 17 → rs n ≡ h.registers n) → rs 3 ≡ left1
      → jumps1 + wide * left1 ≤ wide * full → 1 ≤ left1 → left1 ≤ full → waits1 ≡ Done
      → Fine (record h { pc = pc1; registers = rs; waits = waits1; jumps = jumps1; work = work1 }) q
      → Behind left1 (record h { pc = pc1; registers = rs; waits = waits1; jumps = jumps1; work = work1 }) q

  abbrev again : Hart
  again = record h { pc = h.pc + 4 + 4 + 4 + 4; registers = put (put (put h.registers 3 0) 17 2) 3 4096; waits = Done; jumps = 0; work = 0 }

  pub turn_then : Rest → (n : ℕ) → left ≡ n → Follows image resume (Private ir) (Match ir image l live Midway) full n h p (Turns line c u)
  turn_then rest zero e = absurd (omega (arith, some, e))
  turn_then rest (suc zero) e = record {
    waiting = paused image small h p at0 here low turn;
    privates = p;
    comes = turns_last image small h p at0 here low turn (three ∙ e);
    line_is = ap (line_of image) (omega (arith, here)) ∙ line_is;
    waits = λ answered words. record {
      near = omega (arith, here, low);
      jumps = refl;
      work = refl;
      comes = λ q good. rest full again.pc 0 0 again.registers Done q (omega (arith, here))
          (λ n a b. put_other (put (put h.registers 3 0) 17 2) 3 4096 n a ∙ put_other (put h.registers 3 0) 17 2 n b ∙ put_other h.registers 3 0 n a)
          refl (omega arith) (omega arith) (omega arith) refl good;
    };
    same = same;
  }
  turn_then rest (suc (suc n)) e =
      let on = turns_on image small h p at0 here low turn n (three ∙ e) (omega (arith, few, e)) in
      let r = rest (suc n) (h.pc + 4 + 12) h.jumps (h.work + 1 + 1) (put h.registers 3 (suc n)) h.waits p (omega (arith, here))
      (λ n1 a b. put_other h.registers 3 (suc n) n1 a) refl (omega (arith, counted, fewer, e)) (omega arith) (omega (arith, few, e)) waiting (on.fine fine) in
      record { next = r.there; privates = p; leads = then_leads image on r.leads; match = r.match; same = same }
