use Rattle.std.proofs.lemmas.Grind.{common_steps}
use Rattle.std.proofs.Common.{◌≡◌, ◌+◌, ◌-◌, ◌<◌, ◌≤◌, ◌≢◌, ◌^◌, ℕ, List, length, take, drop, get_or, length-drop, ◌∷◌, ◌++◌, [], None, refl, ap, sym, ◌∙◌, subst, arith}
use Rattle.std.proofs.lemmas.List.{take_all}
use Rattle.std.specs.Prelude.{bit_xor}
use Rattle.cobs.specs.Feeding.{placed, told_by, fed, next}
use Rattle.cobs.specs.InPlace.{written_over}
use Rattle.cobs.specs.Sentinel.{masked}
use Rattle.cobs.specs.Taking.{TakesFront}
use Rattle.cobs.specs.declared.dec.progress.Progress.{Progress}
use Rattle.cobs.specs.declared.dec.state.DecoderState.TheVariants.{GrabChain}
use Rattle.cobs.proofs.AtOnceLemmas.{none_in, chain_written}
use Rattle.cobs.proofs.FeedsLemmas.{stays}
use Rattle.cobs.specs.Streaming.{HasStreamed}
use Rattle.cobs.proofs.ShortLemmas.{all_behind, code_then, none_behind}
use Rattle.cobs.proofs.SourcesLemmas.{masked_positive}
use Rattle.cobs.proofs.TakesLemmas.{none_taken, byte_then, byte_fits}
use Rattle.cobs.proofs.dec.progress.Progress.take_some.Goals as goal

-- a full block after a full block
full : (key : ℕ) (p bytes old new : List ℕ) (d : Progress) → HasStreamed d p → d.state ≡ GrabChain 0 → length bytes ≡ 255 → bit_xor key (get_or bytes 0 0) ≡ 255 → ((k : ℕ) → k < length bytes → get_or bytes k 0 ≢ key)
    → d.len + 255 ≤ length old → length old < 2 ^ 63 → new ≡ written_over d.len (masked key (take (length bytes - 1) (drop 1 bytes))) old → TakesFront p (masked key bytes) old 255 (record { state = GrabChain 0; len = d.len + 254 }) new
full key p bytes old new d s g long code clear room small put =
    let rest = take (length bytes - 1) (drop 1 bytes) in
    let count : length rest ≡ 254 = omega (arith, ap length (all_behind bytes), length-drop 1 bytes, long) in
    let told : told_by (fed d.state 255) ≡ None = ap (λ x. told_by (fed x 255)) g in
    let on = stays old d p 255 (omega arith) (omega arith) s told in
    let has : HasStreamed (record { state = GrabChain 254; len = d.len }) (p ++ 255 ∷ []) =
    subst (λ x. HasStreamed (record { state = x; len = d.len }) (p ++ 255 ∷ [])) (ap (λ x. next x 255) g) on.0 in
    let same : masked key rest ≡ masked key (take 254 rest) = ap (masked key) (sym (take_all 254 rest (omega (arith, count)))) in
    let front = chain_written key (p ++ 255 ∷ []) rest old new (record { state = GrabChain 254; len = d.len }) 254 254 has (omega (arith, count))
    (none_in key 254 rest (omega (arith, count)) (none_behind key bytes clear)) (omega (arith, room)) small refl (omega arith) (put ∙ ap (λ m. written_over d.len m old) same) in
    let whole = ap (λ b. b ∷ masked key rest) (sym code) ∙ code_then key bytes (omega (arith, long)) in
    subst (λ m. TakesFront p m old 255 (record { state = GrabChain 0; len = d.len + 254 }) new) whole
    (byte_then p 255 (masked key rest) old old new 254 _ (omega arith) (byte_fits p 255 (length old) d (omega arith) s (omega (arith, room)) (omega (arith, small))) on.2 front)

pub returns-in-GrabChain-eq0-clause-front : goal.returns-in-GrabChain-eq0-clause-front
returns-in-GrabChain-eq0-clause-front g c p s =
    let e = c.in-GrabChain-eq0 in
    let old = c.args.buffer.now in
    let state = e.is ∙ ap (λ k. GrabChain k) (sym e.field-0-is ∙ e.field-0-test) in
    subst (λ x. TakesFront p (masked c.args.sentinel c.args.bytes.now) old 255 (record { state = x; len = c.args.self.now.len + 254 }) c.copy_over.new.buffer) (sym state)
    (full c.args.sentinel p c.args.bytes.now old c.copy_over.new.buffer c.args.self.now s state c.if-bytes-eq255.true c.if-sentinel-bytes.true c.requires.clear (omega (arith, c.requires.room, c.if-bytes-eq255.true)) (omega arith) c.copy_over.ensures)

pub take_clear-taken-requires-clause-room : goal.take_clear-taken-requires-clause-room
take_clear-taken-requires-clause-room g c = omega (arith, c.requires.room, c.if-row-gt0.false, c.take_row-row.ensures.len, c.take_row-row.auto.buffer)

pub take_clear-taken-requires-clause-clear : goal.take_clear-taken-requires-clause-clear
take_clear-taken-requires-clause-clear g c = c.requires.clear

pub by_code-self-requires : goal.by_code-self-requires
by_code-self-requires g c = masked_positive c.args.sentinel (get_or c.args.bytes.now 0 0) (c.requires.clear 0 c.requires.some)

pub take_clear-requires-clause-room : goal.take_clear-requires-clause-room
take_clear-requires-clause-room g c =
    omega (
      arith,
      c.requires.room,
      c.requires.some,
      c.if-row-gt0.false,
      c.if-taken-gt0.false,
      c.take_row-row.ensures.len,
      c.take_row-row.auto.buffer,
      c.take_clear-taken.ensures.len,
      c.take_clear-taken.auto.buffer,
      ap length (all_behind c.args.bytes.now),
      length-drop 1 c.args.bytes.now,
    )

pub take_clear-requires-clause-clear : goal.take_clear-requires-clause-clear
take_clear-requires-clause-clear g c = none_behind c.args.sentinel c.args.bytes.now c.requires.clear

pub returns-then-row-gt0-clause-front : goal.returns-then-row-gt0-clause-front
returns-then-row-gt0-clause-front g c = c.take_row-row.ensures.front

pub returns-then-taken-gt0-clause-front : goal.returns-then-taken-gt0-clause-front
returns-then-taken-gt0-clause-front g c p s =
    let t = c.take_clear-taken in
    let none = none_taken p _ _ _ _ _ (omega (arith, c.if-row-gt0.false)) (c.take_row-row.ensures.front p s) in
    subst (λ b. TakesFront p (masked c.args.sentinel c.args.bytes.now) b t.result t.new.self t.new.buffer) none.1 (t.ensures.front p none.0)

pub returns-clause-front : goal.returns-clause-front
returns-clause-front g c p s =
    let key = c.args.sentinel in
    let bytes = c.args.bytes.now in
    let old = c.args.buffer.now in
    let b = bit_xor key (get_or bytes 0 0) in
    let rest = masked key (take (length bytes - 1) (drop 1 bytes)) in
    let row = none_taken p _ _ _ _ _ (omega (arith, c.if-row-gt0.false)) (c.take_row-row.ensures.front p s) in
    let none = none_taken p _ _ _ _ _ (omega (arith, c.if-taken-gt0.false)) (c.take_clear-taken.ensures.front p row.0) in
    let some : 0 < b = masked_positive key (get_or bytes 0 0) (c.requires.clear 0 c.requires.some) in
    let mid = c.take_clear-taken.new.buffer in
    let d = c.take_clear-taken.new.self in
    let told = c.take_clear-taken.ensures.coded c.requires.some (omega (arith, c.if-taken-gt0.false)) b some in
    let on = stays mid d p b some c.by_code-self.ensures.byte none.0 told.0 in
    let put : mid ≡ placed p b old = on.2 ∙ ap (placed p b) (none.1 ∙ row.1) in
    let has = subst (λ x. HasStreamed (record { state = x; len = d.len }) (p ++ b ∷ [])) (told.1 ∙ sym c.by_code-self.ensures.state) on.0 in
    let fits = byte_fits p b (length old) c.args.self.now some s (omega (arith, c.requires.room, c.requires.some)) (omega arith) in
    let t = c.take_clear in
    subst (λ m. TakesFront p m old (1 + t.result) t.new.self t.new.buffer) (code_then key bytes c.requires.some)
    (byte_then p b rest old mid t.new.buffer t.result t.new.self some fits put (t.ensures.front (p ++ b ∷ []) has))

pub returns-then-row-gt0-clause-within : goal.returns-then-row-gt0-clause-within
returns-then-row-gt0-clause-within g c = grind (arith, common_steps)

pub overflow_add-result : goal.overflow_add-result
overflow_add-result g c = grind (arith, common_steps)
