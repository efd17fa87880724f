use Rattle.std.proofs.Common.{◌≡◌, ℕ, ◌+◌, ◌^◌, ◌<◌, ◌≤◌, List, length, take, drop, sym, subst, ap, ◌∙◌, inl, inr, w64, arith}
use Rattle.std.specs.Int.{bit_at}
use Rattle.std.proofs.lemmas.Bool.Decides.{eqb_tells}
use Rattle.std.proofs.lemmas.List.{take_all}
use Rattle.std.proofs.lemmas.Nat.Bits.{bit_at_ones, bit_at-trailing_ones}
use Rattle.cobs.specs.Codes.{Marks, Coded, Stepped}
use Rattle.cobs.specs.InPlace.{written_over}
use Rattle.cobs.specs.Sentinel.{masked}
use Rattle.cobs.proofs.LanesLemmas.{whole_clear}
use Rattle.cobs.proofs.MaskingLemmas.{masked_zero}
use Rattle.cobs.proofs.StandingLemmas.{over_stands}
use Rattle.cobs.proofs.SteppingLemmas.{stepped, stepped_clear}
use Rattle.cobs.proofs.codes.put_some.Goals as goal
use Rattle.cobs.proofs.codes.put_some.Goals.{Joined-this-eq0, then-this-eq0+then-n-eq64+else-is_positive, else-this-eq0}

-- 64 bytes are all of them
all_of : (s at : ℕ) (dest copied bytes : List ℕ) → length bytes ≡ 64 → copied ≡ written_over at (masked s (take 64 (drop 0 bytes))) dest → copied ≡ written_over at (masked s bytes) dest
all_of s at dest copied bytes long e = e ∙ ap (λ b. written_over at (masked s b) dest) (take_all 64 bytes (omega (arith, long)))

pub is_positive-requires : goal.is_positive-requires
is_positive-requires g c = ap length c.copy_64.ensures.lanes ∙ ap length (take_all 64 c.args.bytes.now (omega (arith, c.if-n-eq64.true))) ∙ c.if-n-eq64.true

pub returns-then-is_positive : goal.returns-then-is_positive
returns-then-is_positive g c =
    stepped_clear c.args.sentinel c.args.dest.now c.copy_64.new.to c.args.bytes.now
    c.args.at.code_at c.args.at.len c.requires.block.some c.requires.block.begins c.requires.block.short
    c.requires.block.within (all_of c.args.sentinel c.args.at.len c.args.dest.now c.copy_64.new.to c.args.bytes.now c.if-n-eq64.true c.copy_64.ensures.copied)
    (λ k l. whole_clear c.args.bytes.now c.copy_64.result c.if-n-eq64.true c.copy_64.ensures.lanes (c.is_positive.ensures c.if-is_positive.true) k (omega (arith, l, c.if-n-eq64.true)))

-- what was copied stands there
coded_over : (s at : ℕ) (dest copied bytes : List ℕ) (marks : ℕ) → at + length bytes ≤ length dest → copied ≡ written_over at (masked s bytes) dest → Marks marks 0 (masked 0 bytes)
    → Marks marks 0 (masked s (take (length bytes) (drop at copied)))
coded_over s at dest copied bytes marks room e m = subst (λ b. Marks marks 0 b) (masked_zero bytes ∙ sym (over_stands s at dest copied bytes room e)) m

stepped_over : (s at code last : ℕ) (dest copied new bytes : List ℕ) → 0 < length bytes → at + length bytes ≤ code + 255 → at + length bytes ≤ length dest → copied ≡ written_over at (masked s bytes) dest
    → Coded (masked s copied) code at (masked s (take (length bytes) (drop at copied))) new last → Stepped (masked s dest) code at bytes new last
stepped_over s at code last dest copied new bytes some short room e coded =
    stepped s dest copied new bytes code at last some short room e
    (subst (λ b. Coded (masked s copied) code at b new last) (over_stands s at dest copied bytes room e) coded)

-- what was copied, and the marks of its zeros
copied_here : (g : _) (c : Joined-this-eq0 g) → (c.if-this-eq0.dest ≡ written_over c.args.at.len (masked c.args.sentinel c.args.bytes.now) c.args.dest.now) × Marks c.if-this-eq0.marks 0 (masked 0 c.args.bytes.now) × (c.if-this-eq0.marks < 2 ^ 64)
copied_here g c = elim c.if-this-eq0.branch [
  | then-this-eq0+then-n-eq64+else-is_positive w ↦ (
    w.dest-is ∙ all_of c.args.sentinel c.args.at.len c.args.dest.now w.copy_64.new.to c.args.bytes.now w.if-n-eq64.true w.copy_64.ensures.copied,
    subst (λ m. Marks m 0 (masked 0 c.args.bytes.now)) (sym w.marks-is) w.zeros_of_ends-marks.ensures,
    omega (arith, w.marks-is, w.zeros_of_ends-marks.type_inv),
  )
  | else-this-eq0 w ↦ (
    w.dest-is ∙ w.copy_marked-marks.ensures.copied,
    subst (λ m. Marks m 0 (masked 0 c.args.bytes.now)) (sym w.marks-is) w.copy_marked-marks.ensures.marks,
    omega (arith, w.marks-is, w.copy_marked-marks.type_inv),
  )
]

marks_here : (g : _) (c : Joined-this-eq0 g) → Marks c.if-this-eq0.marks 0 (masked c.args.sentinel (take (length c.args.bytes.now) (drop c.args.at.len c.if-this-eq0.dest)))
marks_here g c = let t = copied_here g c in coded_over c.args.sentinel c.args.at.len c.args.dest.now c.if-this-eq0.dest c.args.bytes.now _ c.requires.block.within t.0 t.1

stepped_here : (g : _) (c : Joined-this-eq0 g) (new : List ℕ) (last : ℕ)
    → Coded (masked c.args.sentinel c.if-this-eq0.dest) c.args.at.code_at c.args.at.len (masked c.args.sentinel (take (length c.args.bytes.now) (drop c.args.at.len c.if-this-eq0.dest))) new last
    → Stepped (masked c.args.sentinel c.args.dest.now) c.args.at.code_at c.args.at.len c.args.bytes.now new last
stepped_here g c new last coded =
    stepped_over c.args.sentinel c.args.at.len c.args.at.code_at last c.args.dest.now c.if-this-eq0.dest new c.args.bytes.now
    c.requires.block.some c.requires.block.short c.requires.block.within (copied_here g c).0 coded

pub put_codes_of_zeros-requires-clause-zeros : goal.put_codes_of_zeros-requires-clause-zeros
put_codes_of_zeros-requires-clause-zeros g c =
    let marks = c.if-this-eq0.marks in
    let small = (copied_here g (goal.at.put_codes_of_zeros-requires-clause-zeros g c).Joined-this-eq0).2 in
    λ k l. (marks_here g (goal.at.put_codes_of_zeros-requires-clause-zeros g c).Joined-this-eq0).zeros k (elim (eqb_tells marks 18446744073709551615) [
      | inl e ↦ ap (λ b. bit_at b k) e.1 ∙ bit_at_ones 64 k (omega (arith, l, c.requires.few))
      | inr e ↦
          let ones = bit_at-trailing_ones w64 marks (omega (arith, small, e.1)) in
          ones.2 k (omega (arith, l, c.if-n-trailing_ones.true, c.trailing_ones.ensures))
    ])

pub returns-then-n-trailing_ones : goal.returns-then-n-trailing_ones
returns-then-n-trailing_ones g c =
    stepped_here g (goal.at.returns-then-n-trailing_ones g c).Joined-this-eq0 (masked c.args.sentinel c.put_codes_of_zeros.new.dest) c.put_codes_of_zeros.result c.put_codes_of_zeros.ensures

pub put_codes_marked-requires-clause-marks : goal.put_codes_marked-requires-clause-marks
put_codes_marked-requires-clause-marks g c = marks_here g (goal.at.put_codes_marked-requires-clause-marks g c).Joined-this-eq0

pub returns : goal.returns
returns g c =
    stepped_here g (goal.at.returns g c).Joined-this-eq0 (masked c.args.sentinel c.put_codes_marked.new.dest) c.put_codes_marked.result c.put_codes_marked.ensures
