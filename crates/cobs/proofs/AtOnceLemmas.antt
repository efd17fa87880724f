-- The next bytes of a piece, taken in at once.
use Rattle.std.proofs.Common.{◌≡◌, ◌≢◌, ℕ, ◌+◌, ◌-◌, ◌^◌, ◌<◌, ◌≤◌, false, true, List, length, take, replicate, get_or, length-take, drop, sym, ◌∙◌, ap, arith}
use Rattle.std.proofs.lemmas.List.{length-take-le, length-replicate, get_or-take, get_or-drop}
use Rattle.std.specs.Prelude.{bit_xor}
use Rattle.cobs.specs.Feeding.{stands_by}
use Rattle.cobs.specs.Frames.{part_from, after}
use Rattle.cobs.specs.InPlace.{written_over}
use Rattle.cobs.specs.Sentinel.{masked}
use Rattle.cobs.specs.Streaming.{HasStreamed}
use Rattle.cobs.specs.Taking.{TakesFront}
use Rattle.cobs.specs.declared.dec.progress.Progress.{Progress}
use Rattle.cobs.specs.declared.dec.state.DecoderState.{DecoderState}
use Rattle.cobs.specs.declared.dec.state.DecoderState.TheVariants.{Grab, GrabChain}
use Rattle.cobs.proofs.MaskingLemmas.{xor_twice, masked_length, masked_take, masked_get}
use Rattle.cobs.proofs.SourcesLemmas.{masked_positive}
use Rattle.cobs.proofs.WithinLemmas.{written_part}
use Rattle.cobs.proofs.WindowsLemmas.{one_part, one_after, at_grab, at_chain, of_ones, front_written}

-- codes 01
pub ones_in : (key n : ℕ) (piece : List ℕ) → n ≤ length piece
    → ((k : ℕ) → k < n → get_or piece k 0 ≡ bit_xor key 1) → (k : ℕ) → k < n
    → get_or (masked key piece) k 0 ≡ 1
ones_in key n piece w same k l = masked_get key piece k (omega (arith, l, w))
    ∙ ap (bit_xor key) (same k l) ∙ xor_twice key 1

-- none of a front is the sentinel
pub none_in : (key n : ℕ) (piece : List ℕ) → n ≤ length piece
    → ((k : ℕ) → k < length piece → get_or piece k 0 ≢ key) → (k : ℕ) → k < n
    → get_or piece k 0 ≢ key
none_in key n piece w clear k l = clear k (omega (arith, l, w))

-- none of the bytes of a buffer from a place on up to another one
pub none_ahead : (key read end : ℕ) (buffer : List ℕ)
    → ((k : ℕ) → read ≤ k → k < end → get_or buffer k 0 ≢ key) → (k : ℕ) → k < end - read
    → get_or (take (end - read) (drop read buffer)) k 0 ≢ key
none_ahead key read end buffer clear k l e =
    clear (read + k) (omega arith) (omega (arith, l))
    (sym (get_or-take (end - read) (drop read buffer) k 0 l ∙ get_or-drop read buffer k 0) ∙ e)

pub masked_within : (key n : ℕ) (piece : List ℕ) → n ≤ length piece → n ≤ length (masked key piece)
masked_within key n piece w = omega (arith, w, masked_length key piece)

-- bytes that aren't the sentinel
pub nonzero_in : (key n : ℕ) (piece : List ℕ) → ((k : ℕ) → k < n → get_or piece k 0 ≢ key) → (j : ℕ)
    → j < length (take n piece) → 0 < get_or (masked key (take n piece)) j 0
nonzero_in key n piece none j l =
    let inside : j < n = omega (arith, l, length-take n piece) in
    let byte : get_or (masked key (take n piece)) j 0 ≡ bit_xor key (get_or piece j 0) =
    masked_get key (take n piece) j l ∙ ap (bit_xor key) (get_or-take n piece j 0 inside) in
    omega (arith, byte, masked_positive key (get_or piece j 0) (none j inside))

-- what was copied from the first of them stands there
pub written_there : (key len n k : ℕ) (bytes old mid : List ℕ) → n ≤ length bytes → len + n ≤ length old → mid ≡ written_over len (masked key (take n bytes)) old → k ≡ n → take k (drop len mid) ≡ masked key (take n bytes)
written_there key len n k bytes old mid within room put e =
    ap (λ b. take k (drop len b)) put
    ∙ written_part len k (masked key (take n bytes)) old (e ∙ sym (masked_length key (take n bytes) ∙ length-take-le n bytes within)) (omega (arith, room))

-- a row of them
pub row_written : (p piece old new : List ℕ) (d : Progress) (n : ℕ) → HasStreamed d p
    → d.state ≡ Grab 0 → n ≤ length piece → ((k : ℕ) → k < n → get_or piece k 0 ≡ 1)
    → d.len + n ≤ length old → length old < 2 ^ 63
    → new ≡ written_over d.len (replicate n 0) old
    → TakesFront p piece old n (record { state = d.state; len = d.len + n }) new
row_written p piece old new d n s state within ones room small put =
    let at = at_grab p 0 (sym state ∙ s.state) in
    let long : length (take n piece) ≡ n = length-take-le n piece within in
    let there : (k : ℕ) → k < n → get_or (take n piece) k 0 ≡ 1 = λ k l. get_or-take n piece k 0 l
    ∙ ones k l in
    let zeros = of_ones (take n piece) (λ k l. there k (omega (arith, l, long))) in
    front_written p piece old (replicate n 0) new d n 0 true d.state s at.0 at.1 within
    (λ j l. omega (arith, there j l)) room small
    (ap (λ k. replicate k 0) (sym long) ∙ sym zeros.0) (length-replicate {A = ℕ} n 0) put
    (state ∙ sym (ap stands_by zeros.1))

module _ (key : ℕ) (p piece old new : List ℕ) (d : Progress) (n left : ℕ) (s : HasStreamed d p)
    (within : n ≤ length piece) (none : (k : ℕ) → k < n → get_or piece k 0 ≢ key)
    (room : d.len + n ≤ length old) (small : length old < 2 ^ 63) where
  nonzero : (j : ℕ) → j < n → 0 < get_or (take n (masked key piece)) j 0
  nonzero j l =
      omega (
        arith,
        get_or-take n (masked key piece) j 0 l,
        masked_get key piece j
            (omega (arith, l, within)),
        masked_positive key (get_or piece j 0) (none j l),
      )

  -- a window
  pub window_written : (out : List ℕ) (state : DecoderState) → d.state ≡ Grab left
      → out ≡ part_from left true (masked key (take n piece)) → length out ≡ n
      → new ≡ written_over d.len out old
      → state ≡ stands_by (after left true (masked key (take n piece)))
      → TakesFront p (masked key piece) old n (record { state = state; len = d.len + n }) new
  window_written out state g o long put stands =
      let at = at_grab p left (sym g ∙ s.state) in
      let same = masked_take key n piece in
      front_written p (masked key piece) old out new d n left true state s at.0 at.1
      (masked_within key n piece within) nonzero room small
      (o ∙ ap (part_from left true) (sym same)) long put
      (stands ∙ ap (λ b. stands_by (after left true b)) (sym same))

  -- bytes of a full block
  pub chain_written : d.state ≡ GrabChain left → n ≤ left
      → new ≡ written_over d.len (masked key (take n piece)) old
      → TakesFront p (masked key piece) old n
      (record { state = GrabChain (left - n); len = d.len + n }) new
  chain_written g few put =
      let bytes = masked key piece in
      let at = at_chain p left (sym g ∙ s.state) in
      let long : length (take n bytes) ≡ n = length-take-le n bytes
      (masked_within key n piece within) in
      let one : length (take n bytes) ≤ left = omega (arith, long, few) in
      front_written p bytes old (take n bytes) new d n left false (GrabChain (left - n)) s at.0
      at.1 (masked_within key n piece within) nonzero room small
      (sym (one_part left false (take n bytes) one)) long
      (put ∙ ap (λ m. written_over d.len m old) (sym (masked_take key n piece)))
      (ap (λ k. GrabChain (left - k)) (sym long)
      ∙ sym (ap stands_by (one_after left false (take n bytes) one)))
