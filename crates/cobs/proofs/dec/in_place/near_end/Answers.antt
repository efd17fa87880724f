use Rattle.std.proofs.Common.{◌≡◌, ◌≢◌, ◌<◌, ◌≤◌, ℕ, List, length, take, get_or, length-take, ap, sym, ◌∙◌, arith, rules}
use Rattle.std.proofs.lemmas.List.{get_or-take}
use Rattle.std.specs.Int.Bits.{xor_self}
use Rattle.std.specs.Prelude.{bit_xor}
use Rattle.cobs.proofs.MaskingLemmas.{xor_twice}
use Rattle.cobs.proofs.dec.in_place.near_end.Goals as goal

-- what was searched is a front
none_in : (s n m : ℕ) (bytes : List ℕ) → n ≤ length (take m bytes)
    → ((k : ℕ) → k < n → get_or (take m bytes) k 0 ≢ s) → (k : ℕ) → k < n → get_or bytes k 0 ≢ s
none_in s n m bytes w none k l e =
    none k l (get_or-take m bytes k 0 (omega (arith, l, w, length-take m bytes)) ∙ e)

ends_in : (s n m : ℕ) (bytes : List ℕ) → (n < length (take m bytes) → get_or (take m bytes) n 0 ≡ s)
    → n < m → n < length bytes → get_or bytes n 0 ≡ s
ends_in s n m bytes end l w = sym (get_or-take m bytes n 0 l)
    ∙ end (omega (arith, l, w, length-take m bytes))

-- the code 01 isn't the sentinel
not_key : (s byte : ℕ) → byte ≡ bit_xor s 1 → byte ≢ s
not_key s byte e k =
    let none : 1 ≡ 0 = sym (xor_twice s 1) ∙ ap (bit_xor s) (sym e ∙ k) ∙ xor_self s in
    absurd (omega (arith, none))

pub returns-then-bytes-one-2-clause-begins : goal.returns-then-bytes-one-2-clause-begins
returns-then-bytes-one-2-clause-begins c = λ _. not_key c.args.sentinel _ (search rules)

pub returns-then-bytes-one-2-clause-stops : goal.returns-then-bytes-one-2-clause-stops
returns-then-bytes-one-2-clause-stops c = λ l. absurd (omega (arith, l))

pub returns-clause-begins : goal.returns-clause-begins
returns-clause-begins c = λ e. none_in c.args.sentinel c.before_by_64.result c.min.result c.args.bytes.now
    c.before_by_64.ensures.within c.before_by_64.ensures.none 0 (omega (arith, e))

pub returns-clause-stops : goal.returns-clause-stops
returns-clause-stops c = λ few.
    let e = c.before_by_64.ensures in
    let n = c.before_by_64.result in
    let m = c.min.result in
    record {
      within = omega (arith, e.within, length-take m c.args.bytes.now);
      none = none_in c.args.sentinel n m c.args.bytes.now e.within e.none;
      end = λ l. ends_in c.args.sentinel n m c.args.bytes.now e.end (omega (arith, few, l, c.min.ensures)) l;
    }
