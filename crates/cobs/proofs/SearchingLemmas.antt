-- Where a sentinel is sought part by part.
use Rattle.std.proofs.Common.{◌≡◌, ◌≢◌, ◌+◌, ◌-◌, ◌<◌, ◌≤◌, ℕ, List, take, drop, get_or, length, length-take, length-drop, ap, sym, ◌∙◌, inl, inr, arith}
use Rattle.std.proofs.lemmas.Bool.{cases_lt}
use Rattle.std.proofs.lemmas.List.{get_or-take, get_or-drop}
use Rattle.cobs.specs.Codes.{Positive}
use Rattle.cobs.specs.Sentinel.{masked}
use Rattle.cobs.proofs.SourcesLemmas.{clear_byte}

-- none before a place, and none of a part from there on
pub none_on : (s at n m : ℕ) (bytes : List ℕ) → ((k : ℕ) → k < at → get_or bytes k 0 ≢ s) → n ≤ m → ((k : ℕ) → k < n → get_or (take m (drop at bytes)) k 0 ≢ s) → (k : ℕ) → k < at + n → get_or bytes k 0 ≢ s
none_on s at n m bytes before few part k q e = elim (cases_lt k at) [
  | inl a ↦ before k (omega (arith, a)) e
  | inr a ↦ part (k - at) (omega (arith, a, q)) (get_or-take m (drop at bytes) (k - at) 0 (omega (arith, a, q, few)) ∙ get_or-drop at bytes (k - at) 0 ∙ ap (λ j. get_or bytes j 0) (omega (arith, a)) ∙ e)
]

-- nor of 64 bytes, each of which is positive once it is masked
pub none_then : (s at : ℕ) (bytes lanes : List ℕ) → ((k : ℕ) → k < at → get_or bytes k 0 ≢ s) → 64 ≤ length bytes - at → lanes ≡ masked s (take 64 (drop at bytes)) → Positive 64 lanes → (k : ℕ) → k < at + 64 → get_or bytes k 0 ≢ s
none_then s at bytes lanes before room e some =
    let long : 64 ≤ length (take 64 (drop at bytes)) = omega (arith, length-take 64 (drop at bytes), length-drop at bytes, room) in
    none_on s at 64 64 bytes before (omega arith) (λ j q. clear_byte s (take 64 (drop at bytes)) j (omega (arith, q, long)) (rw (← e) (some j q)))

-- the sentinel that a part ends at
pub end_on : (s at n m : ℕ) (bytes : List ℕ) → n < length bytes - at → n < m → (n < length (take m (drop at bytes)) → get_or (take m (drop at bytes)) n 0 ≡ s) → get_or bytes (at + n) 0 ≡ s
end_on s at n m bytes l few end =
    sym (get_or-drop at bytes n 0) ∙ sym (get_or-take m (drop at bytes) n 0 few)
    ∙ end (omega (arith, l, few, length-take m (drop at bytes), length-drop at bytes))
