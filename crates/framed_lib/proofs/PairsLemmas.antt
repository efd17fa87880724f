-- What stands in the place of digits, some of which were turned into bytes.
use Rattle.std.proofs.Common.{◌≡◌, ℕ, ◌+◌, ◌*◌, ◌/◌, ◌<◌, ◌≤◌, List, length, take, drop, slice_index, slice_set, Result, Ok, Err, ap, ◌∙◌, arith, refl}
use Rattle.std.specs.Prelude.{IsErr}
use Rattle.std.proofs.lemmas.Grind.{common_steps}
use Rattle.std.proofs.lemmas.List.{append-nil, drop_all}
use Rattle.hex.specs.Hex.{decode_pairs, pair_value}
use Rattle.hex.specs.declared.error.FromHexError.{FromHexError}
use Rattle.hex.proofs.Pairs.{prepend, decode_step, decode_err}

-- the bytes so far, and the digits that are left
pub record Turned (s d : List ℕ) (at : ℕ) : Type 0 where
  pub same : length d ≡ length s
  pub rest : (k : ℕ) → 2 * at ≤ k → slice_index d k ≡ slice_index s k
  pub bytes : decode_pairs 0 s ≡ prepend (take at d) (decode_pairs (2 * at) (drop (2 * at) s))

module _ (s d : List ℕ) (at : ℕ) (p : Turned s d at) where
  abbrev pair : List ℕ → Result ℕ FromHexError
  pair l = pair_value (slice_index l (2 * at)) (slice_index l (2 * at + 1)) (2 * at)

  as_was : {r : Result ℕ FromHexError} → pair d ≡ r → pair s ≡ r
  as_was e = rw (← p.rest (2 * at) (omega arith), ← p.rest (2 * at + 1) (omega arith)) e

  pub turned-more : (byte : ℕ) → at < length d / 2 → pair d ≡ Ok byte
      → Turned s (slice_set d at byte) (at + 1)
  turned-more byte l e = record {
    same = grind (arith, common_steps, p.same);
    rest = λ k m. grind (arith, common_steps, p.rest k);
    bytes =
        decode_step s d at byte (omega (arith, p.same)) (omega (arith, p.same)) (as_was e) p.bytes;
  }

  pub turned-bad : (r : Result ℕ FromHexError) → pair d ≡ r → at < length d / 2 → IsErr r
      → IsErr (decode_pairs 0 s)
  turned-bad (Ok byte) e l h = cc
  turned-bad (Err f) e l h =
      rw (decode_err s d at f (omega (arith, p.same)) (as_was e) p.bytes) refl

  pub turned-all : length s ≤ 2 * at → decode_pairs 0 s ≡ Ok (take at d)
  unfolding decode_pairs
  turned-all l =
      p.bytes ∙ ap (λ x. prepend (take at d) (decode_pairs (2 * at) x)) (drop_all (2 * at) s l)
      ∙ ap Ok (append-nil (take at d))
