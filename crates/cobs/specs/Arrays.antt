-- What the decoders that hold an array keep.
use Rattle.std.specs.Prelude.{List, ℕ}
use Rattle.std.specs.Borrow.{Lends, MutBor, Fml, RattleType, u8, Array}
use Rattle.arrayvec.specs.ArrayVec.{with_items}
use Rattle.cobs.specs.Streaming.{HasStreamed}
use Rattle.cobs.specs.declared.dec.progress.Progress.{Progress}
use Rattle.cobs.specs.declared.dec.heapless.CobsDecoderHeapless.{CobsDecoderHeapless}
use Rattle.cobs.specs.contracts.dec.heapless.CobsDecoderHeapless.{the_row}

module _ {N : ℕ} where
  -- the buffer
  abbrev pub array_buffer : CobsDecoderHeapless N → List ℕ
  array_buffer d = d.array.items

  -- how much of its frame was taken
  abbrev pub array_progress : CobsDecoderHeapless N → Progress
  array_progress d = d.progress

  -- the byte that ends frames on the line, and that every byte of a frame there is XORed with
  abbrev pub array_sentinel : CobsDecoderHeapless N → ℕ
  array_sentinel d = d.sentinel

  -- The bytes of this frame so far, as they are for the sentinel zero, were taken.
  abbrev pub ArrayHas : CobsDecoderHeapless N → List ℕ → Type 0
  ArrayHas d bytes = HasStreamed (array_progress d) bytes

  -- the same decoder with this in its buffer
  abbrev pub with_array_buffer : CobsDecoderHeapless N → List ℕ → CobsDecoderHeapless N
  with_array_buffer d bytes = record d { array = with_items d.array bytes }

-- The buffer is borrowed: it ends as what is left of the result, and nothing else changes.
module _ (N : RattleType) (d : MutBor (the_row N).Denot) where
  -- the clause of a call whose result is that buffer
  abbrev pub LendsArrayBuffer : MutBor (List ℕ) → Fml
  LendsArrayBuffer r = Lends (the_row N) (Array u8 0) d r (with_array_buffer d.now)
