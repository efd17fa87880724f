-- A byte's eight shifts by a table.
use Rattle.std.proofs.Common.{drop, ◌≤◌, ◌≡◌, ℕ, zero, suc, ◌+◌, ◌*◌, ◌/◌, ◌%◌, ◌<◌, Bool, true, false, List, [], ◌∷◌, length, get_or, refl, sym, ap, ◌∙◌, arith}
use Rattle.std.specs.Prelude.{bit_xor, nat_eq, if◌then◌else◌, ◌&&◌}
use Rattle.std.specs.Int.Bits.{xor_assoc, xor_self, xor_zero_l, xor_zero_r}
use Rattle.std.proofs.lemmas.Nat.{xor_shr, xor_mod, xor_block, xor_comm}
use Rattle.std.proofs.lemmas.Bool.{eqb-true}
use Rattle.sealed.specs.Checksum.{polynomial, shifted, shifted_by, behind_byte, behind_bytes}
use Rattle.sealed.specs.declared.table.TheConstants.{SHIFTED, TWICE, THRICE, FOURFOLD}

-- what a shift makes of a half, where the lowest bit was 0 and where it wasn't
abbrev turned : Bool → ℕ → ℕ
turned c h = if c then h else bit_xor h polynomial

turned_above : (c : Bool) (a h : ℕ) → turned c (bit_xor a h) ≡ bit_xor a (turned c h)
turned_above true a h = refl
turned_above false a h = xor_assoc a h polynomial

-- a shift moves what stands above the lowest bit, and no more
shift_above : (a b : ℕ) → shifted (bit_xor (a * 2) b) ≡ bit_xor a (shifted b)
shift_above a b =
    let none : a * 2 % 2 ≡ 0 = omega arith in
    let half : a * 2 / 2 ≡ a = omega arith in
    let low : bit_xor (a * 2) b % 2 ≡ b % 2 = xor_mod (a * 2) b 1 ∙ ap (λ x. bit_xor x (b % 2)) none ∙ xor_zero_l (b % 2) in
    let high : bit_xor (a * 2) b / 2 ≡ bit_xor a (b / 2) = xor_shr (a * 2) b 1 ∙ ap (λ x. bit_xor x (b / 2)) half in
    ap (λ x. turned (nat_eq x 0) (bit_xor (a * 2) b / 2)) low ∙ ap (turned (nat_eq (b % 2) 0)) high ∙ turned_above (nat_eq (b % 2) 0) a (b / 2)

-- a number moved up by so many bits
moved_up : ℕ → ℕ → ℕ
moved_up zero a = a
moved_up (suc k) a = moved_up k a * 2

shifts_above : (k a b : ℕ) → shifted_by k (bit_xor (moved_up k a) b) ≡ bit_xor a (shifted_by k b)
unfolding moved_up
shifts_above zero a b = refl
shifts_above (suc k) a b = ap (shifted_by k) (shift_above (moved_up k a) b) ∙ shifts_above k a (shifted b)

-- a number is what stands above its lowest byte, and that byte
by_bytes : (n : ℕ) → bit_xor (moved_up 8 (n / 256)) (n % 256) ≡ n
unfolding moved_up
by_bytes n =
    let above : moved_up 8 (n / 256) ≡ n / 256 * 256 + 0 = omega arith in
    let byte : n % 256 ≡ 0 * 256 + n % 256 = omega arith in
    let whole : n / 256 * 256 + n % 256 ≡ n = omega arith in
    let apart : bit_xor (n / 256 * 256 + 0) (0 * 256 + n % 256) ≡ bit_xor (n / 256) 0 * 256 + bit_xor 0 (n % 256) = xor_block 8 (n / 256) 0 0 (n % 256) (omega arith) (omega arith) in
    ap (λ x. bit_xor x (n % 256)) above ∙ ap (bit_xor (n / 256 * 256 + 0)) byte ∙ apart ∙ ap (λ x. x * 256 + bit_xor 0 (n % 256)) (xor_zero_r (n / 256)) ∙ ap (λ x. n / 256 * 256 + x) (xor_zero_l (n % 256)) ∙ whole

eight_shifts : (n : ℕ) → shifted_by 8 n ≡ bit_xor (n / 256) (shifted_by 8 (n % 256))
eight_shifts n = ap (shifted_by 8) (sym (by_bytes n)) ∙ shifts_above 8 (n / 256) (n % 256)

-- whether these are what eight shifts make of the bytes from k on
are_shifts : ℕ → List ℕ → Bool
are_shifts k [] = true
are_shifts k (x ∷ xs) = nat_eq x (shifted_by 8 k) && are_shifts (suc k) xs

both : (a b : Bool) → (a && b) ≡ true → (a ≡ true) × (b ≡ true)
both true b h = (refl, h)
both false b h = cc

entry_of : (xs : List ℕ) (k i : ℕ) → are_shifts k xs ≡ true → i < length xs → get_or xs i 0 ≡ shifted_by 8 (k + i)
unfolding are_shifts
entry_of [] k i h lt = omega (arith, lt)
entry_of (x ∷ xs) k zero h lt =
    let there : k ≡ k + 0 = omega arith in
    eqb-true x (shifted_by 8 k) (both _ _ h).0 ∙ ap (shifted_by 8) there
entry_of (x ∷ xs) k (suc i) h lt =
    let there : suc k + i ≡ k + suc i = omega arith in
    entry_of xs (suc k) i (both _ _ h).1 (omega (arith, lt)) ∙ ap (shifted_by 8) there

-- the table is right, entry by entry
table_right : are_shifts 0 SHIFTED ≡ true
unfolding are_shifts
table_right = refl

-- the register behind a byte by the table
pub by_table : (r b : ℕ) → bit_xor (bit_xor r b / 256) (get_or SHIFTED (bit_xor r b % 256) 0) ≡ behind_byte r b
unfolding behind_byte
by_table r b =
    let n = bit_xor r b in
    let byte : 0 + n % 256 ≡ n % 256 = omega arith in
    let entry = entry_of SHIFTED 0 (n % 256) table_right (omega arith) ∙ ap (shifted_by 8) byte in
    ap (bit_xor (n / 256)) entry ∙ sym (eight_shifts n)

-- Four bytes a step: a shift of what is XORed is that of each, XORed

-- the middle of three changes its place
swapped : (a b c : ℕ) → bit_xor (bit_xor a b) c ≡ bit_xor (bit_xor a c) b
swapped a b c = xor_assoc a b c ∙ ap (bit_xor a) (xor_comm b c) ∙ sym (xor_assoc a c b)

twice_gone : (a p : ℕ) → bit_xor (bit_xor a p) p ≡ a
twice_gone a p = xor_assoc a p p ∙ ap (bit_xor a) (xor_self p) ∙ xor_zero_r a

turned_both : (x y h k : ℕ) → x < 2 → y < 2 → turned (nat_eq (bit_xor x y) 0) (bit_xor h k) ≡ bit_xor (turned (nat_eq x 0) h) (turned (nat_eq y 0) k)
turned_both zero zero h k l m = refl
turned_both zero (suc zero) h k l m = xor_assoc h k polynomial
turned_both (suc zero) zero h k l m = swapped h k polynomial
turned_both (suc zero) (suc zero) h k l m =
    sym (sym (xor_assoc (bit_xor h polynomial) k polynomial) ∙ ap (λ x. bit_xor x polynomial) (swapped h polynomial k) ∙ twice_gone (bit_xor h k) polynomial)
turned_both (suc (suc x)) y h k l m = absurd (omega (arith, l))
turned_both x (suc (suc y)) h k l m = absurd (omega (arith, m))

shift_both : (a b : ℕ) → shifted (bit_xor a b) ≡ bit_xor (shifted a) (shifted b)
shift_both a b =
    ap (λ x. turned (nat_eq x 0) (bit_xor a b / 2)) (xor_mod a b 1) ∙ ap (turned (nat_eq (bit_xor (a % 2) (b % 2)) 0)) (xor_shr a b 1)
    ∙ turned_both (a % 2) (b % 2) (a / 2) (b / 2) (omega arith) (omega arith)

shifts_both : (k a b : ℕ) → shifted_by k (bit_xor a b) ≡ bit_xor (shifted_by k a) (shifted_by k b)
shifts_both zero a b = refl
shifts_both (suc k) a b = ap (shifted_by k) (shift_both a b) ∙ shifts_both k (shifted a) (shifted b)

-- eight shifts
abbrev eight : ℕ → ℕ
eight n = shifted_by 8 n

step : (n x : ℕ) → eight (bit_xor n x) ≡ bit_xor (n / 256) (bit_xor (eight (n % 256)) (eight x))
step n x = shifts_both 8 n x ∙ ap (λ y. bit_xor y (eight x)) (eight_shifts n) ∙ xor_assoc (n / 256) (eight (n % 256)) (eight x)

-- the next byte goes to what stands above the lowest one
step_on : (n x b : ℕ) → bit_xor (eight (bit_xor n x)) b ≡ bit_xor (bit_xor (n / 256) b) (bit_xor (eight (n % 256)) (eight x))
step_on n x b = ap (λ y. bit_xor y b) (step n x) ∙ swapped (n / 256) (bit_xor (eight (n % 256)) (eight x)) b

-- entries of the tables
abbrev are_of : (ℕ → ℕ) → ℕ → List ℕ → Bool
are_of f k [] = true
are_of f k (x ∷ xs) = nat_eq x (f k) && are_of f (suc k) xs

entry_by : (f : ℕ → ℕ) (xs : List ℕ) (k i : ℕ) → are_of f k xs ≡ true → i < length xs → get_or xs i 0 ≡ f (k + i)
entry_by f [] k i h lt = omega (arith, lt)
entry_by f (x ∷ xs) k zero h lt =
    let there : k ≡ k + 0 = omega arith in
    eqb-true x (f k) (both _ _ h).0 ∙ ap f there
entry_by f (x ∷ xs) k (suc i) h lt =
    let there : suc k + i ≡ k + suc i = omega arith in
    entry_by f xs (suc k) i (both _ _ h).1 (omega (arith, lt)) ∙ ap f there

abbrev two : ℕ → ℕ
two n = eight (eight n)

abbrev three : ℕ → ℕ
three n = eight (two n)

abbrev four : ℕ → ℕ
four n = eight (three n)

once_at : (n : ℕ) → get_or SHIFTED (n % 256) 0 ≡ eight (n % 256)
once_at n =
    let there : 0 + n % 256 ≡ n % 256 = omega arith in
    entry_by eight SHIFTED 0 (n % 256) refl (omega arith) ∙ ap eight there

twice_at : (n : ℕ) → get_or TWICE (n % 256) 0 ≡ two (n % 256)
twice_at n =
    let there : 0 + n % 256 ≡ n % 256 = omega arith in
    entry_by two TWICE 0 (n % 256) refl (omega arith) ∙ ap two there

thrice_at : (n : ℕ) → get_or THRICE (n % 256) 0 ≡ three (n % 256)
thrice_at n =
    let there : 0 + n % 256 ≡ n % 256 = omega arith in
    entry_by three THRICE 0 (n % 256) refl (omega arith) ∙ ap three there

four_at : (n : ℕ) → get_or FOURFOLD (n % 256) 0 ≡ four (n % 256)
four_at n =
    let there : 0 + n % 256 ≡ n % 256 = omega arith in
    entry_by four FOURFOLD 0 (n % 256) refl (omega arith) ∙ ap four there

module _ (r a b c d : ℕ) where
  abbrev n1 : ℕ
  n1 = bit_xor r a

  abbrev n2 : ℕ
  n2 = bit_xor (n1 / 256) b

  abbrev n3 : ℕ
  n3 = bit_xor (n2 / 256) c

  abbrev n4 : ℕ
  n4 = bit_xor (n3 / 256) d

  -- what comes below
  abbrev w1 : ℕ
  w1 = eight (n1 % 256)

  abbrev w2 : ℕ
  w2 = bit_xor (eight (n2 % 256)) (eight w1)

  abbrev w3 : ℕ
  w3 = bit_xor (eight (n3 % 256)) (eight w2)

  behind_first : bit_xor (eight n1) b ≡ bit_xor n2 w1
  behind_first = ap (λ y. bit_xor y b) (eight_shifts n1) ∙ swapped (n1 / 256) w1 b

  behind_second : bit_xor (eight (bit_xor (eight n1) b)) c ≡ bit_xor n3 w2
  behind_second = ap (λ y. bit_xor (eight y) c) behind_first ∙ step_on n2 w1 c

  behind_third : bit_xor (eight (bit_xor (eight (bit_xor (eight n1) b)) c)) d ≡ bit_xor n4 w3
  behind_third = ap (λ y. bit_xor (eight y) d) behind_second ∙ step_on n3 w2 d

  low : eight w3 ≡ bit_xor (two (n3 % 256)) (bit_xor (three (n2 % 256)) (four (n1 % 256)))
  low =
      shifts_both 8 (eight (n3 % 256)) (eight w2)
      ∙ ap (λ y. bit_xor (two (n3 % 256)) (eight y)) (shifts_both 8 (eight (n2 % 256)) (eight w1))
      ∙ ap (bit_xor (two (n3 % 256))) (shifts_both 8 (two (n2 % 256)) (eight (eight w1)))

  pub by_tables : bit_xor (n4 / 256) (bit_xor (get_or SHIFTED (n4 % 256) 0) (bit_xor (get_or TWICE (n3 % 256) 0) (bit_xor (get_or THRICE (n2 % 256) 0) (get_or FOURFOLD (n1 % 256) 0))))
      ≡ behind_byte (behind_byte (behind_byte (behind_byte r a) b) c) d
  unfolding behind_byte
  by_tables =
      ap (λ y. bit_xor (n4 / 256) (bit_xor y (bit_xor (get_or TWICE (n3 % 256) 0) (bit_xor (get_or THRICE (n2 % 256) 0) (get_or FOURFOLD (n1 % 256) 0))))) (once_at n4)
      ∙ ap (λ y. bit_xor (n4 / 256) (bit_xor (eight (n4 % 256)) (bit_xor y (bit_xor (get_or THRICE (n2 % 256) 0) (get_or FOURFOLD (n1 % 256) 0))))) (twice_at n3)
      ∙ ap (λ y. bit_xor (n4 / 256) (bit_xor (eight (n4 % 256)) (bit_xor (two (n3 % 256)) (bit_xor y (get_or FOURFOLD (n1 % 256) 0))))) (thrice_at n2)
      ∙ ap (λ y. bit_xor (n4 / 256) (bit_xor (eight (n4 % 256)) (bit_xor (two (n3 % 256)) (bit_xor (three (n2 % 256)) y)))) (four_at n1)
      ∙ ap (λ y. bit_xor (n4 / 256) (bit_xor (eight (n4 % 256)) y)) (sym low)
      ∙ sym (step n4 w3)
      ∙ ap eight (sym behind_third)
