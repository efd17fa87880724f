-- What the table tells over a frame.
use Rattle.std.proofs.Common.{◌≡◌, ℕ, suc, pred, ◌<◌, nat_lt, Bool, true, false, List, [], ◌∷◌, ◌++◌, length, Ok, refl, ap, sym, ◌∙◌, arith, append_assoc, subst}
use Rattle.std.proofs.lemmas.List.{append-nil}
use Rattle.std.proofs.lemmas.Bool.{ne_eqb}
use Rattle.cobs.specs.Frames.{NoZero, block, IsBlock, gap, AreRuns, spelled, joined, Frame}
use Rattle.cobs.specs.Feeding.{fed, stands_by}
use Rattle.cobs.specs.DecodingLaws.{data_from, state_from}
use Rattle.cobs.specs.declared.dec.state.DecoderState.{DecoderState}
use Rattle.cobs.specs.declared.dec.state.DecoderState.TheVariants.{Idle}
use Rattle.cobs.specs.declared.dec.state.DecodeResult.TheVariants.{DataComplete}
use Rattle.cobs.proofs.DecodingLemmas.{owes, zero_owed}
use Rattle.cobs.proofs.FeedsLemmas.{code_stands}

-- what is told, and where it ends
record Told (state : DecoderState) (bytes message : List ℕ) (last : DecoderState) : Type 0 where
  tells : (rest : List ℕ) → data_from state (bytes ++ rest) ≡ message ++ data_from last rest
  ends : (rest : List ℕ) → state_from state (bytes ++ rest) ≡ state_from last rest

-- a byte of a block
told_byte : (left : ℕ) (owed : Bool) (x : ℕ) → 0 < x → Told (stands_by (suc left, owed)) (x ∷ []) (x ∷ []) (stands_by (left, owed))
told_byte left true x p = record { tells = λ rest. rw (ne_eqb x 0 (λ e. omega arith)) refl; ends = λ rest. rw (state_from, ne_eqb x 0 (λ e. omega arith)) refl }
told_byte left false x p = record { tells = λ rest. rw (ne_eqb x 0 (λ e. omega arith)) refl; ends = λ rest. rw (state_from, ne_eqb x 0 (λ e. omega arith)) refl }

-- a code
told_code : (owed : Bool) (code : ℕ) → 0 < code → code < 256 → Told (stands_by (0, owed)) (code ∷ []) (zero_owed owed) (stands_by (pred code, nat_lt code 255))
told_code true code p l = record {
  tells = λ rest. rw (ne_eqb code 0 (λ e. omega arith)) (ap (λ z. 0 ∷ data_from z rest) (code_stands code p l));
  ends = λ rest. rw (state_from, ne_eqb code 0 (λ e. omega arith)) (ap (λ z. state_from z rest) (code_stands code p l));
}
told_code false code p l = record {
  tells = λ rest. rw (ne_eqb code 0 (λ e. omega arith)) (ap (λ z. data_from z rest) (code_stands code p l));
  ends = λ rest. rw (state_from, ne_eqb code 0 (λ e. omega arith)) (ap (λ z. state_from z rest) (code_stands code p l));
}

told_then : (a b c : DecoderState) (xs ys d e : List ℕ) → Told a xs d b → Told b ys e c → Told a (xs ++ ys) (d ++ e) c
told_then a b c xs ys d e t u = record {
  tells = λ rest. ap (data_from a) (append_assoc xs ys rest) ∙ t.tells (ys ++ rest) ∙ ap (λ m. d ++ m) (u.tells rest) ∙ sym (append_assoc d e (data_from c rest));
  ends = λ rest. ap (state_from a) (append_assoc xs ys rest) ∙ t.ends (ys ++ rest) ∙ u.ends rest;
}

told_run : (run : List ℕ) (owed : Bool) → NoZero run → Told (stands_by (length run, owed)) run run (stands_by (0, owed))
told_run [] owed h = record { tells = λ rest. refl; ends = λ rest. refl }
told_run (x ∷ run) owed h = told_then (stands_by (suc (length run), owed)) (stands_by (length run, owed)) (stands_by (0, owed)) (x ∷ []) run (x ∷ []) run (told_byte (length run) owed x h.0) (told_run run owed h.1)

told_block : (run : List ℕ) (owed : Bool) → IsBlock run → Told (stands_by (0, owed)) (block run) (zero_owed owed ++ run) (stands_by (0, nat_lt (suc (length run)) 255))
told_block run owed h =
    told_then (stands_by (0, owed)) (stands_by (length run, nat_lt (suc (length run)) 255)) (stands_by (0, nat_lt (suc (length run)) 255)) (suc (length run) ∷ []) run (zero_owed owed) run
    (told_code owed (suc (length run)) (omega arith) (omega (arith, h.0))) (told_run run (nat_lt (suc (length run)) 255) h.1)

-- a frame from a block's end
record Spelled (owed : Bool) (bytes message : List ℕ) : Type 0 where
  owes_last : Bool
  told : Told (stands_by (0, owed)) bytes (zero_owed owed ++ message) (stands_by (0, owes_last))

told_spelled : (run : List ℕ) (runs : List (List ℕ)) (owed : Bool) → AreRuns run runs → Spelled owed (spelled run runs) (joined run runs)
told_spelled run [] owed h = record { owes_last = nat_lt (suc (length run)) 255; told = told_block run owed h }
told_spelled run (later ∷ runs) owed h =
    let t = told_spelled later runs (nat_lt (suc (length run)) 255) h.1 in
    let message : (zero_owed owed ++ run) ++ (zero_owed (nat_lt (suc (length run)) 255) ++ joined later runs) ≡ zero_owed owed ++ (run ++ (gap run ++ joined later runs)) =
    ap (λ z. (zero_owed owed ++ run) ++ (z ++ joined later runs)) (owes run h.0) ∙ append_assoc (zero_owed owed) run (gap run ++ joined later runs) in
    record {
      owes_last = t.owes_last;
      told = subst (λ d. Told (stands_by (0, owed)) (spelled run (later ∷ runs)) d (stands_by (0, t.owes_last))) message
          (told_then (stands_by (0, owed)) (stands_by (0, nat_lt (suc (length run)) 255)) (stands_by (0, t.owes_last)) (block run) (spelled later runs) (zero_owed owed ++ run) _ (told_block run owed h.0) t.told);
    }

-- between frames it goes as behind a full block
from_idle : (code : ℕ) (bytes : List ℕ) → 0 < code → (data_from Idle (code ∷ bytes) ≡ data_from (stands_by (0, false)) (code ∷ bytes)) × (state_from Idle (code ∷ bytes) ≡ state_from (stands_by (0, false)) (code ∷ bytes))
from_idle code bytes p = (rw (ne_eqb code 0 (λ e. omega arith)) refl, rw (ne_eqb code 0 (λ e. omega arith)) refl)

idle_spelled : (run : List ℕ) (runs : List (List ℕ)) (rest : List ℕ) → (data_from Idle (spelled run runs ++ rest) ≡ data_from (stands_by (0, false)) (spelled run runs ++ rest)) × (state_from Idle (spelled run runs ++ rest) ≡ state_from (stands_by (0, false)) (spelled run runs ++ rest))
idle_spelled run [] rest = from_idle (suc (length run)) (run ++ rest) (omega arith)
idle_spelled run (later ∷ runs) rest = from_idle (suc (length run)) ((run ++ spelled later runs) ++ rest) (omega arith)

ends_told : (owed : Bool) → (data_from (stands_by (0, owed)) (0 ∷ []) ≡ []) × (fed (stands_by (0, owed)) 0 ≡ Ok DataComplete)
ends_told true = (refl, refl)
ends_told false = (refl, refl)

pub tells_message : (frame message : List ℕ) → Frame frame message → (data_from Idle (frame ++ 0 ∷ []) ≡ message) × (fed (state_from Idle frame) 0 ≡ Ok DataComplete)
tells_message frame message f =
    let t = told_spelled f.first f.others false f.runs in
    let e = ends_told t.owes_last in (
      ap (λ b. data_from Idle (b ++ 0 ∷ [])) f.spells ∙ (idle_spelled f.first f.others (0 ∷ [])).0 ∙ t.told.tells (0 ∷ []) ∙ ap (λ d. joined f.first f.others ++ d) e.0 ∙ append-nil (joined f.first f.others) ∙ sym f.reads,
      ap (λ b. fed (state_from Idle b) 0) (f.spells ∙ sym (append-nil (spelled f.first f.others))) ∙ ap (λ s. fed s 0) ((idle_spelled f.first f.others []).1 ∙ t.told.ends []) ∙ e.1,
    )
