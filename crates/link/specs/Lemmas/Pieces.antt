-- The pieces of a stream, and its stretches: laws on which the proofs of this crate and of `link_laws` stand.
use Rattle.std.proofs.Common.{◌≡◌, ℕ, ◌+◌, ◌<◌, ◌≤◌, false, eqb, List, [], ◌∷◌, ◌++◌, length, map, refl, sym, ap, ◌∙◌, subst, inl, inr, arith, append_assoc, bit_xor, ◌==◌, eq-eqb, ne_eqb, append-nil}
use Rattle.std.specs.List.{slice_split, onto_first, join_with_byte}
use Rattle.std.proofs.lemmas.Bool.{cases_eq}
use Rattle.std.proofs.lemmas.List.{length-map}
use Rattle.std.proofs.lemmas.List.Splits.{slice_split-cons_yes, slice_split-cons_no, length-slice_split, join_with_byte-slice_split}
use Rattle.cobs.specs.Frames.{NoZero}
use Rattle.cobs.specs.Sentinel.{masked}
use Rattle.link.specs.Stream.{pieces, ended_of, unfinished_of, ended, unfinished}
use Rattle.link.specs.Laws.{EndsBetween, sentinels}
use Rattle.link.specs.Lemmas.MaskLaws.{mask_twice, masked_is_sentinel, nonzero as masked_nonzero}

-- the same bytes, masked twice
pub masked_twice : (s : ℕ) (p : List ℕ) → masked s (masked s p) ≡ p
masked_twice s [] = refl
masked_twice s (b ∷ p) = ap (λ x. x ∷ masked s (masked s p)) (mask_twice s b) ∙ ap (λ x. b ∷ x) (masked_twice s p)

-- a byte of a stretch, masked, isn't the sentinel
pub isn't_sentinel : (s b : ℕ) → 0 < b → eqb (bit_xor s b) s ≡ false
isn't_sentinel s b l = ne_eqb (bit_xor s b) s (λ e. let z : b ≡ 0 = masked_is_sentinel s b (sym e) in omega arith)

module _ (s : ℕ) where
  split_at : (p rest : List ℕ) → NoZero p → slice_split (λ b. b == s) (masked s p ++ (s ∷ rest))
      ≡ masked s p ∷ slice_split (λ b. b == s) rest
  split_at [] rest z = slice_split-cons_yes (λ b. b == s) s rest (eq-eqb s s refl)
  split_at (b ∷ p) rest z =
      slice_split-cons_no (λ b. b == s) (bit_xor s b) (masked s p ++ (s ∷ rest)) (isn't_sentinel s b z.0) ∙ ap (onto_first (bit_xor s b)) (split_at p rest z.1)

  split_alone : (p : List ℕ) → NoZero p → slice_split (λ b. b == s) (masked s p) ≡ masked s p ∷ []
  split_alone [] z = refl
  split_alone (b ∷ p) z =
      slice_split-cons_no (λ b. b == s) (bit_xor s b) (masked s p) (isn't_sentinel s b z.0) ∙ ap (onto_first (bit_xor s b)) (split_alone p z.1)

  -- the pieces of a stretch, a sentinel and a stream, and of a stretch alone
  pub pieces_at : (p rest : List ℕ) → NoZero p
      → pieces s (masked s p ++ (s ∷ rest)) ≡ p ∷ pieces s rest
  pieces_at p rest z = ap (map (masked s)) (split_at p rest z) ∙ ap (λ x. x ∷ pieces s rest) (masked_twice s p)

  pub pieces_alone : (p : List ℕ) → NoZero p → pieces s (masked s p) ≡ p ∷ []
  pieces_alone p z = ap (map (masked s)) (split_alone p z) ∙ ap (λ x. x ∷ []) (masked_twice s p)

  -- one more than there are sentinels
  pub pieces_length : (x : List ℕ) → length (pieces s x) ≡ sentinels s x + 1
  pieces_length x = length-map (slice_split (λ b. b == s) x) (masked s) ∙ length-slice_split (λ b. b == s) x

  -- at least one piece
  pub record SomePieces (x : List ℕ) : Type 0 where
    pub first : List ℕ
    pub others : List (List ℕ)
    pub are : pieces s x ≡ first ∷ others

  pub some_pieces : (x : List ℕ) → SomePieces x
  some_pieces x = go (pieces s x) refl
    where
      go : (ps : List (List ℕ)) → pieces s x ≡ ps → SomePieces x
      go [] e = absurd (omega (arith, pieces_length x, ap length e))
      go (p ∷ ps) e = record { first = p; others = ps; are = e }

  -- a stream is a stretch alone, or a piece and a sentinel and a stream
  pub data Parted : List ℕ → Type 0 where
    alone : {x : List ℕ} (p : List ℕ) → NoZero p → x ≡ masked s p → Parted x
    more : {x : List ℕ} (p rest : List ℕ) → NoZero p
        → x ≡ masked s p ++ (s ∷ rest) → Parted rest → Parted x

  longer : {x : List ℕ} (b : ℕ) → (b ≡ s → ⊥) → Parted x → Parted (b ∷ x)
  longer {x} b ne (alone p z e) = alone (bit_xor s b ∷ p) (masked_nonzero s b ne, z) (ap (λ y. b ∷ y) e ∙ ap (λ c. c ∷ masked s p) (sym (mask_twice s b)))
  longer {x} b ne (more p rest z e k) =
      more (bit_xor s b ∷ p) rest (masked_nonzero s b ne, z) (ap (λ y. b ∷ y) e ∙ ap (λ c. c ∷ (masked s p ++ (s ∷ rest))) (sym (mask_twice s b))) k

  pub parted : (x : List ℕ) → Parted x
  parted [] = alone [] tt refl
  parted (b ∷ x) = elim (cases_eq b s) [
    | inl e ↦ more [] x tt (ap (λ c. c ∷ x) e) (parted x)
    | inr ne ↦ longer b ne (parted x)
  ]

  pieces_go_on : (p rest b : List ℕ) → NoZero p
      → pieces s ((masked s p ++ (s ∷ rest)) ++ b) ≡ p ∷ pieces s (rest ++ b)
  pieces_go_on p rest b z = ap (pieces s) (append_assoc (masked s p) (s ∷ rest) b) ∙ pieces_at p (rest ++ b) z

  joined_from : {a : List ℕ} → Parted a
      → (b : List ℕ) → pieces s (a ++ (s ∷ b)) ≡ pieces s a ++ pieces s b
  joined_from {a} (alone p z e) b = ap (λ y. pieces s (y ++ (s ∷ b))) e ∙ pieces_at p b z ∙ sym (ap (λ y. pieces s y ++ pieces s b) e ∙ ap (λ y. y ++ pieces s b) (pieces_alone p z))
  joined_from {a} (more p rest z e k) b =
      ap (λ y. pieces s (y ++ (s ∷ b))) e ∙ pieces_go_on p rest (s ∷ b) z ∙ ap (λ y. p ∷ y) (joined_from k b) ∙ sym (ap (λ y. pieces s y ++ pieces s b) e ∙ ap (λ y. y ++ pieces s b) (pieces_at p rest z))

  -- the pieces of two streams with a sentinel between
  pub pieces_joined : (a b : List ℕ) → pieces s (a ++ (s ∷ b)) ≡ pieces s a ++ pieces s b
  pieces_joined a b = joined_from (parted a) b

  -- the pieces tell the stream
  pub pieces_tell : (x y : List ℕ) → pieces s x ≡ pieces s y → x ≡ y
  pieces_tell x y e =
      let same : slice_split (λ b. b == s) x ≡ slice_split (λ b. b == s) y = sym (all_twice (slice_split (λ b. b == s) x)) ∙ ap (map (masked s)) e ∙ all_twice (slice_split (λ b. b == s) y) in
      sym (join_with_byte-slice_split s x) ∙ ap (join_with_byte s) same ∙ join_with_byte-slice_split s y
    where
      all_twice : (ps : List (List ℕ)) → map (masked s) (map (masked s) ps) ≡ ps
      all_twice [] = refl
      all_twice (p ∷ ps) = ap (λ q. q ∷ map (masked s) (map (masked s) ps)) (masked_twice s p) ∙ ap (λ qs. p ∷ qs) (all_twice ps)

-- stretches of pieces one after another
pub ended_joined : (ps : List (List ℕ)) (q : List ℕ) (qs : List (List ℕ))
    → ended_of (ps ++ (q ∷ qs)) ≡ ended_of (ps ++ ([] ∷ [])) ++ ended_of (q ∷ qs)
ended_joined [] q qs = refl
ended_joined ([] ∷ []) q qs = refl
ended_joined ((b ∷ p) ∷ []) q qs = refl
ended_joined ([] ∷ p ∷ ps) q qs = ended_joined (p ∷ ps) q qs
ended_joined ((b ∷ r) ∷ p ∷ ps) q qs = ap (λ x. (b ∷ r) ∷ x) (ended_joined (p ∷ ps) q qs)

pub unfinished_joined : (ps : List (List ℕ)) (q : List ℕ) (qs : List (List ℕ))
    → unfinished_of (ps ++ (q ∷ qs)) ≡ unfinished_of (q ∷ qs)
unfinished_joined [] q qs = refl
unfinished_joined (p ∷ []) q qs = refl
unfinished_joined (p ∷ r ∷ ps) q qs = unfinished_joined (r ∷ ps) q qs

-- fewer of them end than there are pieces
pub ended_fewer : (ps : List (List ℕ)) → 0 < length ps → length (ended_of ps) + 1 ≤ length ps
ended_fewer [] l = absurd (omega arith)
ended_fewer (p ∷ []) l = omega arith
ended_fewer ([] ∷ q ∷ ps) l = omega (arith, ended_fewer (q ∷ ps) (omega arith))
ended_fewer ((b ∷ p) ∷ q ∷ ps) l = omega (arith, ended_fewer (q ∷ ps) (omega arith))

module _ (s : ℕ) where
  -- a sentinel in front
  pub ended_skip : (stream : List ℕ) → ended s (s ∷ stream) ≡ ended s stream
  ended_skip stream = let k = some_pieces s stream in ap ended_of (pieces_at s [] stream tt ∙ ap (λ x. [] ∷ x) k.are) ∙ ap ended_of (sym k.are)

  pub unfinished_skip : (stream : List ℕ) → unfinished s (s ∷ stream) ≡ unfinished s stream
  unfinished_skip stream = let k = some_pieces s stream in ap unfinished_of (pieces_at s [] stream tt ∙ ap (λ x. [] ∷ x) k.are) ∙ ap unfinished_of (sym k.are)

  -- a stretch and a sentinel in front
  pub ended_at : (b : ℕ) (p stream : List ℕ) → NoZero (b ∷ p)
      → ended s (masked s (b ∷ p) ++ (s ∷ stream)) ≡ (b ∷ p) ∷ ended s stream
  ended_at b p stream z =
      let k = some_pieces s stream in
      ap ended_of (pieces_at s (b ∷ p) stream z ∙ ap (λ x. (b ∷ p) ∷ x) k.are) ∙ ap (λ x. (b ∷ p) ∷ ended_of x) (sym k.are)

  pub unfinished_at : (p stream : List ℕ) → NoZero p
      → unfinished s (masked s p ++ (s ∷ stream)) ≡ unfinished s stream
  unfinished_at p stream z = let k = some_pieces s stream in ap unfinished_of (pieces_at s p stream z ∙ ap (λ x. p ∷ x) k.are) ∙ ap unfinished_of (sym k.are)

  -- a stretch alone
  pub ended_alone : (p : List ℕ) → NoZero p → ended s (masked s p) ≡ []
  ended_alone p z = ap ended_of (pieces_alone s p z)

  pub unfinished_alone : (p : List ℕ) → NoZero p → unfinished s (masked s p) ≡ p
  unfinished_alone p z = ap unfinished_of (pieces_alone s p z)

  -- behind a stream that ends between stretches
  pub ended_behind : (a b : List ℕ) → EndsBetween s a → ended s (a ++ b) ≡ ended s a ++ ended s b
  ended_behind a b (inl e) = ap (λ x. ended s (x ++ b)) e ∙ ap (λ x. ended s x ++ ended s b) (sym e)
  ended_behind a b (inr (x, e)) =
      let k = some_pieces s b in
      let whole : a ++ b ≡ x ++ (s ∷ b) = ap (λ y. y ++ b) e ∙ append_assoc x (s ∷ []) b in
      let front : ended_of (pieces s x ++ ([] ∷ [])) ≡ ended s a = ap ended_of (sym (pieces_joined s x [])) ∙ ap (ended s) (sym e) in
      ap (ended s) whole ∙ ap ended_of (pieces_joined s x b ∙ ap (λ y. pieces s x ++ y) k.are) ∙ ended_joined (pieces s x) k.first k.others
      ∙ ap (λ y. y ++ ended_of (k.first ∷ k.others)) front ∙ ap (λ y. ended s a ++ ended_of y) (sym k.are)

  pub unfinished_behind : (a b : List ℕ) → EndsBetween s a → unfinished s (a ++ b) ≡ unfinished s b
  unfinished_behind a b (inl e) = ap (λ x. unfinished s (x ++ b)) e
  unfinished_behind a b (inr (x, e)) =
      let k = some_pieces s b in
      let whole : a ++ b ≡ x ++ (s ∷ b) = ap (λ y. y ++ b) e ∙ append_assoc x (s ∷ []) b in
      ap (unfinished s) whole ∙ ap unfinished_of (pieces_joined s x b ∙ ap (λ y. pieces s x ++ y) k.are) ∙ unfinished_joined (pieces s x) k.first k.others ∙ ap unfinished_of (sym k.are)

  -- none is unfinished there
  pub none_unfinished : (a : List ℕ) → EndsBetween s a → unfinished s a ≡ []
  none_unfinished a e = ap (unfinished s) (sym (append-nil a)) ∙ unfinished_behind a [] e

  -- no more end than there are sentinels
  pub ended_count : (a : List ℕ) → length (ended s a) ≤ sentinels s a
  ended_count a = omega (arith, ended_fewer (pieces s a) (omega (arith, pieces_length s a)), pieces_length s a)

  -- the bytes of a stream behind its last sentinel are its unfinished stretch
  pub record UpToLast (a : List ℕ) : Type 0 where
    pub front : List ℕ
    pub between : EndsBetween s front
    pub nonzero : NoZero (unfinished s a)
    pub whole : a ≡ front ++ masked s (unfinished s a)

  ended_from : {a : List ℕ} → Parted s a → UpToLast a
  ended_from {a} (alone p z e) =
      let u : unfinished s a ≡ p = ap (unfinished s) e ∙ unfinished_alone p z in
      record { front = []; between = inl refl; nonzero = subst NoZero (sym u) z; whole = e ∙ ap (masked s) (sym u) }
  ended_from {a} (more p rest z e k) =
      let h = ended_from k in
      let u : unfinished s a ≡ unfinished s rest = ap (unfinished s) e ∙ unfinished_at p rest z in
      record {
        front = masked s p ++ (s ∷ h.front);
        between = inr (go p h.front h.between);
        nonzero = subst NoZero (sym u) h.nonzero;
        whole = e ∙ ap (λ y. masked s p ++ (s ∷ y)) h.whole ∙ sym (append_assoc (masked s p) (s ∷ h.front) (masked s (unfinished s rest))) ∙ ap (λ y. (masked s p ++ (s ∷ h.front)) ++ masked s y) (sym u);
      }
    where
      go : (p front : List ℕ) → EndsBetween s front
          → (x : List ℕ) × (masked s p ++ (s ∷ front) ≡ x ++ (s ∷ []))
      go p front (inl e) = (masked s p, ap (λ y. masked s p ++ (s ∷ y)) e)
      go p front (inr (x, e)) = (masked s p ++ (s ∷ x), ap (λ y. masked s p ++ (s ∷ y)) e ∙ sym (append_assoc (masked s p) (s ∷ x) (s ∷ [])))

  pub ends_at : (a : List ℕ) → UpToLast a
  ends_at a = ended_from (parted s a)
