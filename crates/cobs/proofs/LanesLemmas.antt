-- The bits of the bytes that are zero.
use Rattle.std.proofs.Common.{◌≡◌, ℕ, zero, suc, ◌+◌, ◌*◌, ◌%◌, ◌^◌, ◌⊎◌, inl, inr, subst, take, length-take, ◌<◌, ◌≤◌, Bool, true, false, cond, eqb, ltb, w8, List, [], ◌∷◌, ◌++◌, ◌-◌, length, drop, map, get_or, set, refl, length-drop, ap, sym, ◌∙◌, arith}
use Rattle.std.proofs.lemmas.List.{length-take-le, get_or-map, length-map, get_or-drop, get_or-take, drop-drop}
use Rattle.std.proofs.lemmas.Bool.{false≢true, eqb-true, eq-eqb, cases_lt, ltb-true, ltb-false}
use Rattle.std.proofs.lemmas.Bool.Decides.{eqb_tells}
use Rattle.std.proofs.lemmas.Nat.{pow_pos, pow-add}
use Rattle.std.proofs.Math.Pow.{pow_mono}
use Rattle.std.proofs.Math.Nat.{mul-lt-mul_of_pos_right}
use Rattle.std.specs.Int.Bits.{bit_or}
use Rattle.std.proofs.lemmas.Simd.{bit_mask_l, mask_l-lt, tops_compared, length-sel_l, get_or-sel_l, get_or-zip2, length-zip2}
use Rattle.std.proofs.lemmas.Nat.Bits.{bit_at-zero, bit_at-lt, bit_at_or, bit_at_ones, bit_at_cat_low, bit_at_cat_high}
use Rattle.std.specs.Int.{bit_at}
use Rattle.std.specs.Simd.Lanes.{mask_l, sel_l, zip2, top}
use mir.Val.{bits, hbits}
use Rattle.cobs.specs.Codes.{Marks, Coding, Positive}
use Rattle.cobs.specs.Sentinel.{masked}
use Rattle.cobs.proofs.CodingLemmas.{is_more, front_at, all_at, zero_at}
use Rattle.cobs.proofs.MaskingLemmas.{masked_drop, masked_take, masked_length}

is_one : (b : Bool) → cond {A = ℕ} b 1 0 ≡ 1 → b ≡ true
is_one true e = refl
is_one false e = absurd (omega arith)

within : (ms : List Bool) (k : ℕ) → get_or ms k false ≡ true → k < length ms
within [] zero e = absurd (false≢true e)
within [] (suc k) e = absurd (false≢true e)
within (m ∷ ms) zero e = omega arith
within (m ∷ ms) (suc k) e = omega (arith, within ms k e)

-- the mask of the lanes that are zero
pub marks_of : (bytes : List ℕ) → Marks (mask_l (map (λ x. eqb x 0) bytes)) 0 bytes
marks_of bytes =
    let ms : List Bool = map (λ x. eqb x 0) bytes in
    let set : (k : ℕ) → bit_at (mask_l ms) k ≡ 1 → get_or ms k false ≡ true = λ k e. is_one _ (sym (bit_mask_l ms k) ∙ e) in
    let inside : (k : ℕ) → bit_at (mask_l ms) k ≡ 1 → k < length bytes = λ k e. omega (arith, within ms k (set k e), length-map bytes (λ x. eqb x 0)) in
    record {
      low = λ k e. omega arith;
      high = inside;
      zeros = λ k e. eqb-true _ _ (sym (get_or-map (λ x. eqb x 0) bytes k 0 false (inside k e)) ∙ set k e);
      all = λ k _ l z. bit_mask_l ms k ∙ ap (λ b. cond b 1 0) (get_or-map (λ x. eqb x 0) bytes k 0 false l ∙ eq-eqb _ _ z);
    }

-- Of bytes in the open block some front is coded, and the bits that are left mark the zeros behind it.
pub record Going (before : List ℕ) (code_before from : ℕ) (bytes dest : List ℕ) (code zeros : ℕ) : Type 0 where
  pub coded : ℕ
  pub within : coded ≤ length bytes
  pub later : code_before ≤ code
  pub begins : code < from + coded
  pub marks : Marks zeros coded bytes
  pub coding : (m more : List ℕ) → Coding before code_before from m (bytes ++ more) → Coding dest code (from + coded) m (drop coded bytes ++ more)

-- no mark is left
pub going_end : (before : List ℕ) (code_before from : ℕ) (bytes dest : List ℕ) (code zeros : ℕ) → zeros ≡ 0 → Going before code_before from bytes dest code zeros
    → (m more : List ℕ) → Coding before code_before from m (bytes ++ more) → Coding dest code (from + length bytes) m more
going_end before code_before from bytes dest code zeros e g m more h =
    let n = g.coded in
    let long : length (drop n bytes) ≡ length bytes - n = length-drop n bytes in
    let none : (k : ℕ) → k < length (drop n bytes) → 0 < get_or (drop n bytes) k 0 = λ k l.
    is_more _ (λ z. let bit : bit_at zeros (n + k) ≡ 1 = g.marks.all (n + k) (omega arith) (omega (arith, long)) (sym (get_or-drop n bytes k 0) ∙ eqb-true _ _ z) in
    let no : bit_at zeros (n + k) ≡ 0 = ap (λ x. bit_at x (n + k)) e ∙ bit_at-zero (n + k) in omega arith) in
    all_at dest code (from + n) (from + length bytes) m (drop n bytes) more none (omega (arith, long, g.within)) (g.coding m more h)

-- the lowest mark
pub going_on : (before : List ℕ) (code_before from : ℕ) (bytes dest : List ℕ) (code zeros n others : ℕ) → length bytes ≤ 64 → bit_at zeros n ≡ 1 → ((k : ℕ) → k < n → bit_at zeros k ≡ 0)
    → ((k : ℕ) → n < k → k < 64 → bit_at others k ≡ bit_at zeros k) → ((k : ℕ) → bit_at others k ≡ 1 → (bit_at zeros k ≡ 1) × (n < k))
    → Going before code_before from bytes dest code zeros → Going before code_before from bytes (set dest code (from + n - code)) (from + n) others
going_on before code_before from bytes dest code zeros n others few set_ below rest no_more g =
    let i = g.coded in
    let low : i ≤ n = g.marks.low n set_ in
    let high : n < length bytes = g.marks.high n set_ in
    let long : length (drop i bytes) ≡ length bytes - i = length-drop i bytes in
    let none : (k : ℕ) → k < n - i → 0 < get_or (drop i bytes) k 0 = λ k l.
    is_more _ (λ z. let bit : bit_at zeros (i + k) ≡ 1 = g.marks.all (i + k) (omega arith) (omega arith) (sym (get_or-drop i bytes k 0) ∙ eqb-true _ _ z) in
    let no : bit_at zeros (i + k) ≡ 0 = below (i + k) (omega arith) in omega arith) in
    let there : drop (n - i) (drop i bytes) ≡ drop n bytes = drop-drop (n - i) i bytes ∙ ap (λ j. drop j bytes) (omega arith) in
    record {
      coded = n + 1;
      within = omega arith;
      later = omega (arith, g.later, g.begins);
      begins = omega arith;
      marks = record {
        low = λ k b. omega (arith, (no_more k b).1);
        high = λ k b. g.marks.high k (no_more k b).0;
        zeros = λ k b. g.marks.zeros k (no_more k b).0;
        all = λ k f l z. rest k (omega arith) (omega arith) ∙ g.marks.all k (omega arith) l z;
      };
      coding = λ m more h.
          let front = front_at dest code (from + i) (from + n) m (drop i bytes) more (n - i) (omega (arith, long)) none (omega arith) (g.coding m more h) in
          zero_at dest code (from + n) (from + (n + 1)) m bytes more n high (g.marks.zeros n set_) (omega arith) (rw there at front);
    }

-- a mask without a gap
pub same_of : (n byte : ℕ) (bytes : List ℕ) → length bytes ≡ n → mask_l (map (λ x. eqb x byte) bytes) ≡ 2 ^ n - 1 → (k : ℕ) → k < n → get_or bytes k 0 ≡ byte
same_of n byte bytes long full k l =
    let ms : List Bool = map (λ x. eqb x byte) bytes in
    let bit : bit_at (mask_l ms) k ≡ 1 = ap (λ x. bit_at x k) full ∙ bit_at_ones n k l in
    let set : get_or ms k false ≡ true = is_one _ (sym (bit_mask_l ms k) ∙ bit) in
    eqb-true _ _ (sym (get_or-map (λ x. eqb x byte) bytes k 0 false (omega (arith, l, long))) ∙ set)

-- the marks of a front and those of an end
module _ (bytes : List ℕ) (w k a b x : ℕ) (long : length bytes ≡ k + w) (meet : k ≤ w) (front : Marks a 0 (take w bytes)) (back : Marks b 0 (drop k bytes)) (e : x ≡ b * 2 ^ k) where
  bit_below : (i : ℕ) → i < k → bit_at x i ≡ 0
  bit_below i l = ap (λ y. bit_at y i) (omega (arith, e)) ∙ bit_at_cat_low b k 0 i l ∙ bit_at-zero i

  bit_behind : (i : ℕ) → k ≤ i → bit_at x i ≡ bit_at b (i - k)
  bit_behind i l = ap (λ y. bit_at y i) (omega (arith, e)) ∙ bit_at_cat_high b k 0 i (pow_pos k) l

  either_bit : (i : ℕ) → bit_at (bit_or a x) i ≡ 1 → (bit_at a i ≡ 1) ⊎ ((k ≤ i) × (bit_at b (i - k) ≡ 1))
  either_bit i h = elim (cases_lt i k) [
    | inl l ↦ inl (omega (arith, h, bit_at_or a x i, bit_below i l))
    | inr l ↦ elim (eqb_tells (bit_at a i) 1) [
      | inl t ↦ inl t.1
      | inr t ↦ inr (l, omega (arith, h, bit_at_or a x i, bit_behind i l, bit_at-lt a i, bit_at-lt b (i - k), t.1))
    ]
  ]

  in_front : (i : ℕ) → bit_at a i ≡ 1 → i < w
  in_front i h = omega (arith, front.high i h, length-take w bytes)

  in_back : (i : ℕ) → k ≤ i → bit_at b (i - k) ≡ 1 → i < k + w
  in_back i l h = omega (arith, back.high (i - k) h, length-drop k bytes, long, l)

  pub ends_marked : Marks (bit_or a x) 0 bytes
  ends_marked = record {
    low = λ i h. omega arith;
    high = λ i h. elim (either_bit i h) [
      | inl t ↦ omega (arith, in_front i t, long)
      | inr t ↦ omega (arith, in_back i t.0 t.1, long)
    ];
    zeros = λ i h. elim (either_bit i h) [
      | inl t ↦ sym (get_or-take w bytes i 0 (in_front i t)) ∙ front.zeros i t
      | inr t ↦ ap (λ j. get_or bytes j 0) (omega (arith, t.0)) ∙ sym (get_or-drop k bytes (i - k) 0) ∙ back.zeros (i - k) t.1
    ];
    all = λ i f l z. elim (cases_lt i w) [
      | inl q ↦
          let bit : bit_at a i ≡ 1 = front.all i (omega arith) (omega (arith, length-take w bytes, long, q)) (get_or-take w bytes i 0 q ∙ z) in
          omega (arith, bit, bit_at_or a x i, bit_at-lt x i)
      | inr q ↦
          let bit : bit_at b (i - k) ≡ 1 = back.all (i - k) (omega arith) (omega (arith, length-drop k bytes, long, l, meet, q)) (get_or-drop k bytes (i - k) 0 ∙ ap (λ j. get_or bytes j 0) (omega (arith, q, meet)) ∙ z) in
          omega (arith, bit, bit_at_or a x i, bit_behind i (omega (arith, q, meet)), bit_at-lt a i)
    ];
  }

-- a shift that loses no bit
pub shifted : (b w k : ℕ) → b < 2 ^ w → w ≤ 32 → k ≤ 32 → b * 2 ^ k % 2 ^ 64 ≡ b * 2 ^ k
shifted b w k l q r =
    let small : b < 2 ^ 32 = omega (arith, l, pow_mono {i = w} {j = 32} q) in
    let less : b * 2 ^ k < 2 ^ 32 * 2 ^ k = mul-lt-mul_of_pos_right small (pow_pos k) in
    let most : 2 ^ (32 + k) ≤ 2 ^ 64 = pow_mono {i = 32 + k} {j = 64} (omega (arith, r)) in
    omega (arith, less, most, pow-add 2 32 k)

-- where no lane is marked none is zero
pub none_marked : (bytes : List ℕ) → mask_l (map (λ x. eqb x 0) bytes) ≡ 0 → (k : ℕ) → k < length bytes → 0 < get_or bytes k 0
none_marked bytes e k l = is_more _ (λ z. let bit : bit_at (mask_l (map (λ x. eqb x 0) bytes)) k ≡ 1 = (marks_of bytes).all k (omega arith) l (eqb-true _ _ z) in
    let no : bit_at (mask_l (map (λ x. eqb x 0) bytes)) k ≡ 0 = ap (λ x. bit_at x k) e ∙ bit_at-zero k in omega arith)

-- the marks of a vector's lanes
pub marked_lanes : (lanes bytes : List ℕ) (w m : ℕ) → length lanes ≡ w → lanes ≡ bytes → m ≡ mask_l (map (λ x. eqb x 0) lanes) → Marks m 0 bytes × (m < 2 ^ w)
marked_lanes lanes bytes w m long same e = (
  subst (λ b. Marks m 0 b) same (subst (λ y. Marks y 0 lanes) (sym e) (marks_of lanes)),
  rw e (subst (λ j. mask_l (map (λ x. eqb x 0) lanes) < 2 ^ j) (length-map lanes (λ x. eqb x 0) ∙ long) (mask_l-lt (map (λ x. eqb x 0) lanes))),
)

-- the lesser ones of two vectors' lanes
abbrev pub lesser_of : List ℕ → List ℕ → List ℕ
lesser_of a b = sel_l (map (top (hbits w8)) (zip2 (λ x y. cond (ltb x y) (2 ^ bits w8 - 1) 0) a b)) a b

lesser_one : (t : Bool) (x y : ℕ) → ltb x y ≡ t → (cond t x y ≤ x) × (cond t x y ≤ y)
lesser_one true x y e = (omega arith, omega (arith, ltb-true x y e))
lesser_one false x y e = (omega (arith, ltb-false x y e), omega arith)

pub lesser_length : (a b : List ℕ) → length a ≡ length b → length (lesser_of a b) ≡ length a
lesser_length a b e =
    let ms = tops_compared w8 ltb a b in
    let long : length (zip2 ltb a b) ≡ length a = length-zip2 ltb a b e in
    ap (λ m. length (sel_l m a b)) ms ∙ length-sel_l (zip2 ltb a b) a b long (long ∙ e) ∙ long

pub lesser_lane : (a b : List ℕ) (k : ℕ) → length a ≡ length b → k < length a → (get_or (lesser_of a b) k 0 ≤ get_or a k 0) × (get_or (lesser_of a b) k 0 ≤ get_or b k 0)
lesser_lane a b k e l =
    let long : length (zip2 ltb a b) ≡ length a = length-zip2 ltb a b e in
    let lane : get_or (lesser_of a b) k 0 ≡ cond (ltb (get_or a k 0) (get_or b k 0)) (get_or a k 0) (get_or b k 0) =
    ap (λ m. get_or (sel_l m a b) k 0) (tops_compared w8 ltb a b)
    ∙ get_or-sel_l (zip2 ltb a b) a b k 0 (omega (arith, long, l)) l (omega (arith, e, l))
    ∙ ap (λ t. cond t (get_or a k 0) (get_or b k 0)) (get_or-zip2 ltb a b k 0 0 false l (omega (arith, e, l))) in
    let both = lesser_one (ltb (get_or a k 0) (get_or b k 0)) (get_or a k 0) (get_or b k 0) refl in
    (omega (arith, lane, both.0), omega (arith, lane, both.1))

-- no lane of a vector is zero of whose halves none of the lesser lanes is marked
pub halves_positive : (lanes low high : List ℕ) → length lanes ≡ 64 → low ≡ take 32 (drop 0 lanes) → high ≡ take 32 (drop 32 lanes) → mask_l (map (λ x. eqb x 0) (lesser_of low high)) ≡ 0 → (j : ℕ) → j < 64 → 0 < get_or lanes j 0
halves_positive lanes low high long el eh e j l =
    let ll : length low ≡ 32 = ap length el ∙ length-take-le 32 (drop 0 lanes) (omega (arith, long)) in
    let lh : length high ≡ 32 = ap length eh ∙ length-take-le 32 (drop 32 lanes) (omega (arith, long, length-drop 32 lanes)) in
    let same : length low ≡ length high = ll ∙ sym lh in
    let some : (k : ℕ) → k < 32 → 0 < get_or (lesser_of low high) k 0 = λ k q. none_marked (lesser_of low high) e k (omega (arith, q, lesser_length low high same, ll)) in
    elim (cases_lt j 32) [
      | inl q ↦ omega (arith, some j q, (lesser_lane low high j same (omega (arith, q, ll))).0, ap (λ x. get_or x j 0) el, get_or-take 32 (drop 0 lanes) j 0 q, get_or-drop 0 lanes j 0)
      | inr q ↦
          let k : ℕ = j - 32 in
          let few : k < 32 = omega (arith, l, q) in
          let there : get_or lanes (32 + k) 0 ≡ get_or lanes j 0 = ap (λ i. get_or lanes i 0) (omega (arith, q)) in
          omega (arith, some k few, (lesser_lane low high k same (omega (arith, few, ll))).1, ap (λ x. get_or x k 0) eh, get_or-take 32 (drop 32 lanes) k 0 few, get_or-drop 32 lanes k 0, there)
    ]

-- 64 bytes from a place on, which aren't zero
part_clear : (at : ℕ) (bytes lanes : List ℕ) → lanes ≡ take 64 (drop at bytes) → Positive 64 lanes → (k : ℕ) → at ≤ k → k < at + 64 → 0 < get_or bytes k 0
part_clear at bytes lanes e some k l q =
    let j : ℕ = k - at in
    let few : j < 64 = omega (arith, l, q) in
    let there : get_or bytes (at + j) 0 ≡ get_or bytes k 0 = ap (λ i. get_or bytes i 0) (omega (arith, l)) in
    omega (arith, some j few, ap (λ x. get_or x j 0) e, get_or-take 64 (drop at bytes) j 0 few, get_or-drop at bytes j 0, there)

-- the same of bytes that are XORed
pub masked_lanes : (s at : ℕ) (bytes : List ℕ) → masked s (take 64 (drop at bytes)) ≡ take 64 (drop at (masked s bytes))
masked_lanes s at bytes = sym (ap (take 64) (masked_drop s at bytes) ∙ masked_take s 64 (drop at bytes))

-- 64 of them
pub lanes_long : (s at : ℕ) (bytes lanes : List ℕ) → at + 64 ≤ length bytes → lanes ≡ masked s (take 64 (drop at bytes)) → length lanes ≡ 64
lanes_long s at bytes lanes l e = ap length e ∙ masked_length s (take 64 (drop at bytes)) ∙ length-take-le 64 (drop at bytes) (omega (arith, length-drop at bytes, l))

-- bytes in four parts that meet, which aren't zero
pub all_clear : (p q r n : ℕ) (bytes a b d e : List ℕ) → p ≤ 64 → q ≤ p + 64 → r ≤ q + 64 → n ≤ r + 64 → Positive 64 a × Positive 64 b × Positive 64 d × Positive 64 e
    → a ≡ take 64 (drop 0 bytes) → b ≡ take 64 (drop p bytes) → d ≡ take 64 (drop q bytes) → e ≡ take 64 (drop r bytes) → Positive n bytes
all_clear p q r n bytes a b d e lp lq lr ln four ha hb hd he k l = elim (cases_lt k 64) [
  | inl x ↦ part_clear 0 bytes a ha four.0 k (omega arith) (omega (arith, x))
  | inr x ↦ elim (cases_lt k (p + 64)) [
    | inl y ↦ part_clear p bytes b hb four.1 k (omega (arith, x, lp)) y
    | inr y ↦ elim (cases_lt k (q + 64)) [
      | inl z ↦ part_clear q bytes d hd four.2 k (omega (arith, y, lq)) z
      | inr z ↦ part_clear r bytes e he four.3 k (omega (arith, z, lr)) (omega (arith, l, ln))
    ]
  ]
]

-- 64 lanes that are all the bytes
pub whole_clear : (bytes lanes : List ℕ) → length bytes ≡ 64 → lanes ≡ take 64 (drop 0 bytes) → Positive 64 lanes → Positive 64 bytes
whole_clear bytes lanes long e some k l = part_clear 0 bytes lanes e some k (omega arith) l
