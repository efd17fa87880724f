-- A thinner message has no longer frame.
use Rattle.std.proofs.Common.{◌≡◌, ℕ, suc, ◌+◌, ◌≤◌, ◌==◌, if◌then◌else◌, List, [], ◌∷◌, length, inl, inr, refl, arith}
use Rattle.std.proofs.lemmas.Bool.{eq-eqb, ne_eqb}
use Rattle.std.proofs.lemmas.Bool.Decides.{eqb_tells}
use Rattle.cobs.specs.Frames.{shortest_frame}
use Rattle.cobs.specs.Thinner.{IsThinner}
use Rattle.cobs.proofs.LengthsLemmas.{length_from, frame_length}

-- how many bytes of the frame come behind an open run
abbrev behind : ℕ → List ℕ → ℕ
behind run [] = 0
behind run (byte ∷ bytes) =
    if run == 254
    then (if byte == 0 then 2 + behind 0 bytes else 2 + behind 1 bytes)
    else (if byte == 0 then 1 + behind 0 bytes else 1 + behind (suc run) bytes)

-- in each case
zero_full : (run byte : ℕ) (bytes : List ℕ) → run ≡ 254 → byte ≡ 0 → behind run (byte ∷ bytes) ≡ 2 + behind 0 bytes
zero_full run byte bytes e z = rw (eq-eqb run 254 e, eq-eqb byte 0 z) refl

zero_other : (run byte : ℕ) (bytes : List ℕ) → (run ≡ 254 → ⊥) → byte ≡ 0 → behind run (byte ∷ bytes) ≡ 1 + behind 0 bytes
zero_other run byte bytes e z = rw (ne_eqb run 254 e, eq-eqb byte 0 z) refl

byte_full : (run byte : ℕ) (bytes : List ℕ) → run ≡ 254 → (byte ≡ 0 → ⊥) → behind run (byte ∷ bytes) ≡ 2 + behind 1 bytes
byte_full run byte bytes e z = rw (eq-eqb run 254 e, ne_eqb byte 0 z) refl

byte_other : (run byte : ℕ) (bytes : List ℕ) → (run ≡ 254 → ⊥) → (byte ≡ 0 → ⊥) → behind run (byte ∷ bytes) ≡ 1 + behind (suc run) bytes
byte_other run byte bytes e z = rw (ne_eqb run 254 e, ne_eqb byte 0 z) refl

length_behind : (run : ℕ) (bytes : List ℕ) → length_from run bytes ≡ behind run bytes + suc run
length_behind run [] = omega arith
length_behind run (byte ∷ bytes) = elim (eqb_tells run 254) [
  | inl t ↦ elim (eqb_tells byte 0) [
    | inl u ↦ rw (t.0, u.0) (omega (arith, length_behind 0 bytes, t.1))
    | inr u ↦ rw (t.0, u.0) (omega (arith, length_behind 1 bytes, t.1))
  ]
  | inr t ↦ elim (eqb_tells byte 0) [
    | inl u ↦ rw (t.0, u.0) (omega (arith, length_behind 0 bytes))
    | inr u ↦ rw (t.0, u.0) (omega (arith, length_behind (suc run) bytes))
  ]
]

-- A thinner rest behind no longer a run brings no more, and behind any run at most one byte more.
record Less (r s : ℕ) (a b : List ℕ) : Type 0 where
  same : r ≤ s → behind r a ≤ behind s b
  any : behind r a ≤ behind s b + 1

less : (b a : List ℕ) → IsThinner a b → (r s : ℕ) → r ≤ 254 → s ≤ 254 → Less r s a b
less b [] w r s p q = record { same = λ _. omega arith; any = omega arith }
less [] (x ∷ a) w r s p q = absurd w
less (y ∷ b) (x ∷ a) (inl (inl w)) r s p q =
    let h : Less 0 0 a b = less b a w.2 0 0 (omega arith) (omega arith) in
    let base : behind 0 a ≤ behind 0 b = h.same (omega arith) in
    elim (eqb_tells r 254) [
      | inl t ↦ elim (eqb_tells s 254) [
        | inl u ↦ record { same = λ _. omega (arith, base, zero_full r x a t.1 w.0, zero_full s y b u.1 w.1); any = omega (arith, base, zero_full r x a t.1 w.0, zero_full s y b u.1 w.1) }
        | inr u ↦ record { same = λ l. absurd (omega arith); any = omega (arith, base, zero_full r x a t.1 w.0, zero_other s y b u.1 w.1) }
      ]
      | inr t ↦ elim (eqb_tells s 254) [
        | inl u ↦ record { same = λ _. omega (arith, base, zero_other r x a t.1 w.0, zero_full s y b u.1 w.1); any = omega (arith, base, zero_other r x a t.1 w.0, zero_full s y b u.1 w.1) }
        | inr u ↦ record { same = λ _. omega (arith, base, zero_other r x a t.1 w.0, zero_other s y b u.1 w.1); any = omega (arith, base, zero_other r x a t.1 w.0, zero_other s y b u.1 w.1) }
      ]
    ]
less (y ∷ b) (x ∷ a) (inl (inr w)) r s p q =
    let nx : x ≡ 0 → ⊥ = λ e. absurd (omega (arith, w.0)) in
    let ny : y ≡ 0 → ⊥ = λ e. absurd (omega (arith, w.1)) in
    elim (eqb_tells r 254) [
      | inl t ↦ elim (eqb_tells s 254) [
        | inl u ↦ let h : Less 1 1 a b = less b a w.2 1 1 (omega arith) (omega arith) in
            let base : behind 1 a ≤ behind 1 b = h.same (omega arith) in
            record { same = λ _. omega (arith, base, byte_full r x a t.1 nx, byte_full s y b u.1 ny); any = omega (arith, base, byte_full r x a t.1 nx, byte_full s y b u.1 ny) }
        | inr u ↦ let h : Less 1 (suc s) a b = less b a w.2 1 (suc s) (omega arith) (omega arith) in
            let base : behind 1 a ≤ behind (suc s) b = h.same (omega arith) in
            record { same = λ l. absurd (omega arith); any = omega (arith, base, byte_full r x a t.1 nx, byte_other s y b u.1 ny) }
      ]
      | inr t ↦ elim (eqb_tells s 254) [
        | inl u ↦ let h : Less (suc r) 1 a b = less b a w.2 (suc r) 1 (omega arith) (omega arith) in
            record { same = λ _. omega (arith, h.any, byte_other r x a t.1 nx, byte_full s y b u.1 ny); any = omega (arith, h.any, byte_other r x a t.1 nx, byte_full s y b u.1 ny) }
        | inr u ↦ let h : Less (suc r) (suc s) a b = less b a w.2 (suc r) (suc s) (omega arith) (omega arith) in
            record { same = λ l. omega (arith, h.same (omega arith), byte_other r x a t.1 nx, byte_other s y b u.1 ny); any = omega (arith, h.any, byte_other r x a t.1 nx, byte_other s y b u.1 ny) }
      ]
    ]
less (y ∷ b) (x ∷ a) (inr w) r s p q =
    elim (eqb_tells s 254) [
      | inl t ↦ elim (eqb_tells y 0) [
        | inl u ↦ let h : Less r 0 (x ∷ a) b = less b (x ∷ a) w r 0 p (omega arith) in
            record { same = λ _. omega (arith, h.any, zero_full s y b t.1 u.1); any = omega (arith, h.any, zero_full s y b t.1 u.1) }
        | inr u ↦ let h : Less r 1 (x ∷ a) b = less b (x ∷ a) w r 1 p (omega arith) in
            record { same = λ _. omega (arith, h.any, byte_full s y b t.1 u.1); any = omega (arith, h.any, byte_full s y b t.1 u.1) }
      ]
      | inr t ↦ elim (eqb_tells y 0) [
        | inl u ↦ let h : Less r 0 (x ∷ a) b = less b (x ∷ a) w r 0 p (omega arith) in
            record { same = λ _. omega (arith, h.any, zero_other s y b t.1 u.1); any = omega (arith, h.any, zero_other s y b t.1 u.1) }
        | inr u ↦ let h : Less r (suc s) (x ∷ a) b = less b (x ∷ a) w r (suc s) p (omega arith) in
            record { same = λ l. omega (arith, h.same (omega arith), byte_other s y b t.1 u.1); any = omega (arith, h.any, byte_other s y b t.1 u.1) }
      ]
    ]

pub thinner_is : (a b : List ℕ) → IsThinner a b → length (shortest_frame a) ≤ length (shortest_frame b)
thinner_is a b w =
    let h : Less 0 0 a b = less b a w 0 0 (omega arith) (omega arith) in
    omega (arith, h.same (omega arith), frame_length a, frame_length b, length_behind 0 a, length_behind 0 b)
