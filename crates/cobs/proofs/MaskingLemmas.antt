-- Bytes that are XORed with a sentinel, and a slice that is changed byte by byte.
use Rattle.std.proofs.Common.{◌≡◌, ◌≢◌, ℕ, zero, suc, replicate, ◌+◌, ◌<◌, List, [], ◌∷◌, ◌++◌, length, take, drop, set, get_or, map, refl, sym, ◌∙◌, ap, arith, append_assoc}
use Rattle.std.proofs.lemmas.List.{drop_more, set_at, get_or_at, get_or-map, map_more, map-append, map-set, take-map, drop-map, length-map, length-take-le}
use Rattle.std.specs.Prelude.{bit_xor}
use Rattle.std.specs.Int.Bits.{xor_assoc, xor_self}
use Rattle.std.specs.List.{AllByRecursion}
use borrow.Rule.Slice.PartMut.{put_mid}
use Rattle.cobs.specs.Frames.{NoZero}
use Rattle.cobs.specs.Held.{pushed, Laid, GoesOnFromBlock, HoldsFrame}
use Rattle.cobs.specs.Sentinel.{masked, frame_for}
use Rattle.cobs.proofs.HoldingLemmas.{holds_new, opens_next}

pub map_on : (f : ℕ → ℕ) (xs old : List ℕ) (i : ℕ) → i < length old → xs ≡ map f (take i old) ++ drop i old → set xs i (f (get_or xs i 0)) ≡ map f (take (i + 1) old) ++ drop (i + 1) old
map_on f xs old i l e =
    let y = get_or old i 0 in
    let front = map f (take i old) in
    let long : length front ≡ i = length-map (take i old) f ∙ length-take-le i old (omega arith) in
    let split : xs ≡ front ++ y ∷ drop (i + 1) old = e ∙ ap (λ d. front ++ d) (drop_more old i 0 l) in
    let read : get_or xs i 0 ≡ y = ap (λ b. get_or b i 0) split ∙ get_or_at front y (drop (i + 1) old) 0 i long in
    ap (λ v. set xs i (f v)) read ∙ ap (λ b. set b i (f y)) split ∙ set_at front y (drop (i + 1) old) (f y) i long
    ∙ sym (ap (λ m. m ++ drop (i + 1) old) (map_more f old i 0 l) ∙ append_assoc front (f y ∷ []) (drop (i + 1) old))

-- for the sentinel zero nothing is masked
pub masked_zero : (bytes : List ℕ) → masked 0 bytes ≡ bytes
masked_zero [] = refl
masked_zero (b ∷ bytes) = ap (λ x. b ∷ x) (masked_zero bytes)

-- what is masked twice is as it was
pub xor_twice : (sentinel byte : ℕ) → bit_xor sentinel (bit_xor sentinel byte) ≡ byte
xor_twice s b = sym (xor_assoc s s b) ∙ ap (λ z. bit_xor z b) (xor_self s)

pub masked_twice : (sentinel : ℕ) (bytes : List ℕ) → masked sentinel (masked sentinel bytes) ≡ bytes
masked_twice s [] = refl
masked_twice s (b ∷ bytes) = ap (λ x. x ∷ masked s (masked s bytes)) (xor_twice s b) ∙ ap (λ x. b ∷ x) (masked_twice s bytes)

pub masked_length : (sentinel : ℕ) (bytes : List ℕ) → length (masked sentinel bytes) ≡ length bytes
masked_length s bytes = length-map bytes (λ b. bit_xor s b)

pub masked_append : (sentinel : ℕ) (a b : List ℕ) → masked sentinel (a ++ b) ≡ masked sentinel a ++ masked sentinel b
masked_append s a b = map-append (λ b. bit_xor s b) a b

pub masked_take : (sentinel n : ℕ) (bytes : List ℕ) → take n (masked sentinel bytes) ≡ masked sentinel (take n bytes)
masked_take s n bytes = take-map (λ b. bit_xor s b) n bytes

pub masked_drop : (sentinel n : ℕ) (bytes : List ℕ) → drop n (masked sentinel bytes) ≡ masked sentinel (drop n bytes)
masked_drop s n bytes = drop-map (λ b. bit_xor s b) n bytes

pub masked_get : (sentinel : ℕ) (bytes : List ℕ) (i : ℕ) → i < length bytes → get_or (masked sentinel bytes) i 0 ≡ bit_xor sentinel (get_or bytes i 0)
masked_get s bytes i l = get_or-map (λ b. bit_xor s b) bytes i 0 0 l

pub masked_set : (sentinel : ℕ) (bytes : List ℕ) (i byte : ℕ) → masked sentinel (set bytes i byte) ≡ set (masked sentinel bytes) i (bit_xor sentinel byte)
masked_set s bytes i byte = map-set (λ b. bit_xor s b) bytes i byte

-- a byte that is written masked
pub masked_put : (sentinel : ℕ) (bytes : List ℕ) (i byte : ℕ) → masked sentinel (set bytes i (bit_xor sentinel byte)) ≡ set (masked sentinel bytes) i byte
masked_put s bytes i byte = masked_set s bytes i (bit_xor s byte) ∙ ap (set (masked s bytes) i) (xor_twice s byte)

-- a row of one byte that is written masked
pub masked_row : (sentinel n byte : ℕ) → masked sentinel (replicate n (bit_xor sentinel byte)) ≡ replicate n byte
masked_row s zero byte = refl
masked_row s (suc n) byte = ap (λ x. x ∷ masked s (replicate n (bit_xor s byte))) (xor_twice s byte) ∙ ap (λ x. byte ∷ x) (masked_row s n byte)

-- bytes that are written over a part
pub masked_mid : (sentinel at long : ℕ) (bytes new : List ℕ) → masked sentinel (put_mid at long bytes new) ≡ put_mid at long (masked sentinel bytes) (masked sentinel new)
masked_mid s at long bytes new =
    masked_append s (take at bytes) (new ++ drop long (drop at bytes)) ∙ ap (λ x. masked s (take at bytes) ++ x) (masked_append s new (drop long (drop at bytes)))
    ∙ ap (λ x. x ++ (masked s new ++ masked s (drop long (drop at bytes)))) (sym (masked_take s at bytes))
    ∙ ap (λ x. take at (masked s bytes) ++ (masked s new ++ x)) (sym (masked_drop s long (drop at bytes)) ∙ ap (drop long) (sym (masked_drop s at bytes)))

-- a new encoder's buffer
pub begins_masked : (sentinel : ℕ) (bytes : List ℕ) → 0 < length bytes → HoldsFrame (masked sentinel (set bytes 0 (bit_xor sentinel 1))) 0 1 × (pushed (masked sentinel (set bytes 0 (bit_xor sentinel 1))) 1 ≡ [])
begins_masked s bytes h = rw (masked_put s bytes 0 1) (holds_new (masked s bytes) (omega (arith, masked_length s bytes, h)))

-- a block opens behind a full one
pub opens_masked : (sentinel : ℕ) (bytes : List ℕ) (code_at len : ℕ) → Laid (masked sentinel bytes) code_at len → len < length bytes → len ≡ code_at + 255 → GoesOnFromBlock (masked sentinel bytes) code_at len (pushed (masked sentinel bytes) len)
    → Laid (masked sentinel (set bytes len (bit_xor sentinel 1))) len (len + 1) × GoesOnFromBlock (masked sentinel (set bytes len (bit_xor sentinel 1))) len (len + 1) (pushed (masked sentinel bytes) len)
opens_masked s bytes code_at len l r o g = rw (masked_put s bytes len 1) (opens_next (masked s bytes) code_at len l (omega (arith, masked_length s bytes, r)) o g)

-- the buffer's front is the frame for the sentinel
pub front_masked : (sentinel : ℕ) (bytes : List ℕ) (code_at len : ℕ) → HoldsFrame (masked sentinel bytes) code_at len → take len bytes ≡ frame_for sentinel (pushed (masked sentinel bytes) len)
front_masked s bytes code_at len h = sym (ap (masked s) (h.is ∙ masked_take s len bytes) ∙ masked_twice s (take len bytes))

-- only zero becomes the sentinel
becomes_sentinel : (sentinel byte : ℕ) → bit_xor sentinel byte ≡ sentinel → byte ≡ 0
becomes_sentinel s b e = ap (λ z. bit_xor z b) (sym (xor_self s)) ∙ xor_assoc s s b ∙ ap (bit_xor s) e ∙ xor_self s

pub none_is_sentinel : (sentinel : ℕ) (bytes : List ℕ) → NoZero bytes → AllByRecursion (λ b. b ≢ sentinel) (masked sentinel bytes)
none_is_sentinel s [] h = tt
none_is_sentinel s (b ∷ bytes) h = (λ e. let z = becomes_sentinel s b e in omega (arith, h.0), none_is_sentinel s bytes h.1)
