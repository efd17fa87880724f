-- Decoding over the source: how far it has come.
use Rattle.std.proofs.Common.{◌≡◌, ℕ, ◌+◌, ◌-◌, ◌^◌, ◌<◌, ◌≤◌, List, [], ◌∷◌, ◌++◌, length, take, drop, get_or, ◌⊎◌, inl, inr, refl, ap, sym, ◌∙◌, arith, subst}
use Rattle.std.proofs.lemmas.List.{take_all, take-append-drop, length-take-le, drop_more}
use Rattle.std.proofs.lemmas.Bool.{ne_eqb}
use Rattle.std.specs.Prelude.{bit_xor}
use Rattle.std.specs.Int.Bits.{xor_self}
use Rattle.cobs.specs.Frames.{part}
use Rattle.cobs.specs.Feeding.{standing}
use Rattle.cobs.specs.InPlace.{stretch, overwritten}
use Rattle.cobs.specs.Sentinel.{masked}
use Rattle.cobs.specs.declared.dec.progress.Progress.{Progress}
use Rattle.cobs.specs.Streaming.{HasStreamed}
use Rattle.cobs.proofs.DecodingLemmas.{Stretch, part_shorter}
use Rattle.cobs.proofs.MaskingLemmas.{masked_length, masked_get}
use Rattle.cobs.proofs.OverwritingLemmas.{behind, rest}

-- The first bytes of a source are of a frame, and were taken in.
pub record Reads (source : List ℕ) (read : ℕ) (d : Progress) : Type 0 where
  pub within : read ≤ length source
  pub small : length source < 2 ^ 64
  pub clear : Stretch (take read source)
  pub stands : HasStreamed d (take read source)

-- nothing is left, or a zero comes
abbrev pub Ends : List ℕ → ℕ → Type 0
Ends source read = (length source ≤ read) ⊎ ((read < length source) × (get_or source read 0 ≡ 0))

module _ (source : List ℕ) (read : ℕ) (d : Progress) (r : Reads source read d) where
  -- all of the message so far is counted, and is shorter
  pub counted : d.len ≡ length (part (take read source))
  counted = omega (arith, r.stands.len, r.within, r.small, part_shorter (take read source), length-take-le read source r.within)

  pub shorter : d.len ≤ read - 1
  shorter = omega (arith, counted, part_shorter (take read source), length-take-le read source r.within)

-- where the bytes before the first zero end
stretch_all : (bytes : List ℕ) → Stretch bytes → stretch bytes ≡ bytes
stretch_all [] h = refl
stretch_all (byte ∷ bytes) h = rw (ne_eqb byte 0 (λ e. omega (arith, h.0))) (ap (λ b. byte ∷ b) (stretch_all bytes h.1))

stretch_ends : (bytes rest : List ℕ) → Stretch bytes → stretch (bytes ++ 0 ∷ rest) ≡ bytes
stretch_ends [] rest h = refl
stretch_ends (byte ∷ bytes) rest h = rw (ne_eqb byte 0 (λ e. omega (arith, h.0))) (ap (λ b. byte ∷ b) (stretch_ends bytes rest h.1))

stretch_is : (source : List ℕ) (read : ℕ) (d : Progress) → Reads source read d → Ends source read → stretch source ≡ take read source
stretch_is source read d r (inl e) =
    let all : take read source ≡ source = take_all read source e in
    ap stretch (sym all) ∙ stretch_all (take read source) r.clear
stretch_is source read d r (inr e) =
    ap stretch (sym (take-append-drop read source) ∙ ap (λ d. take read source ++ d) (drop_more source read 0 e.0 ∙ ap (λ b. b ∷ drop (read + 1) source) e.1))
    ∙ stretch_ends (take read source) (drop (read + 1) source) r.clear

-- all of the stretch was taken in
pub record Done (source : List ℕ) (read : ℕ) (d : Progress) : Type 0 where
  pub parsed : read ≡ length (stretch source)
  pub stands : d.state ≡ standing (stretch source)
  pub counts : d.len ≡ length (part (stretch source))
  pub clear : Stretch (stretch source)

pub done : (source : List ℕ) (read : ℕ) (d : Progress) → Reads source read d → Ends source read → Done source read d
done source read d r e =
    let s = stretch_is source read d r e in
    record {
      parsed = sym (ap length s ∙ length-take-le read source r.within);
      stands = r.stands.state ∙ ap standing (sym s);
      counts = counted source read d r ∙ ap (λ b. length (part b)) (sym s);
      clear = subst Stretch (sym s) r.clear;
    }

-- The bytes that were read stand in the buffer as what they decode to, and then the source's, which are XORed once they are read.
pub record Reading (sentinel : ℕ) (source buffer : List ℕ) (read : ℕ) (d : Progress) : Type 0 where
  pub reads : Reads (masked sentinel source) read d
  pub holds : buffer ≡ overwritten (part (take read (masked sentinel source))) source
  pub long : length buffer ≡ length source

-- the sentinel comes, or nothing is left
abbrev pub EndsAt : ℕ → List ℕ → ℕ → Type 0
EndsAt sentinel buffer read = (length buffer ≤ read) ⊎ ((read < length buffer) × (get_or buffer read 0 ≡ sentinel))

module _ (sentinel : ℕ) (source buffer : List ℕ) (read : ℕ) (d : Progress) (r : Reading sentinel source buffer read d) where
  abbrev bytes : List ℕ
  bytes = masked sentinel source

  whole_length : length bytes ≡ length source
  whole_length = masked_length sentinel source

  -- what comes next is as it was
  same_byte : read < length source → get_or bytes read 0 ≡ bit_xor sentinel (get_or buffer read 0)
  same_byte l =
      masked_get sentinel source read l
      ∙ ap (bit_xor sentinel) (sym (ap (λ b. get_or b read 0) r.holds ∙ behind (part (take read bytes)) source read (omega (arith, shorter bytes read d r.reads, counted bytes read d r.reads)) l))

  module _ (e : EndsAt sentinel buffer read) where
    -- at the end
    source_ends : Ends bytes read
    source_ends = elim e [
      | inl l ↦ inl (omega (arith, r.long, l, whole_length))
      | inr z ↦
          let inside : read < length source = omega (arith, r.long, z.0) in
          inr (omega (arith, inside, whole_length), same_byte inside ∙ ap (bit_xor sentinel) z.1 ∙ xor_self sentinel)
    ]

    pub reading_done : Done bytes read d
    reading_done = done bytes read d r.reads source_ends

    pub reading_holds : buffer ≡ overwritten (part (stretch bytes)) source
    reading_holds = r.holds ∙ ap (λ b. overwritten (part b) source) (sym (stretch_is bytes read d r.reads source_ends))
