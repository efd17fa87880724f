-- What is read as a leaf.
use Rattle.std.specs.Prelude.{◌≡◌, ℕ, ℤ, ◌<◌, ◌≤◌, List, [], ◌∷◌, ◌++◌, length, refl, Bool, true, string_bytes, if◌then◌else◌}
use Rattle.std.specs.Global.{Global}
use Rattle.std.specs.Int.{w8, cast_unsigned}
use Rattle.std.specs.Str.{IsUtf8}
use Rattle.std.proofs.Common.{sym, ◌∙◌, ap, subst, inr, arith, rules, append_assoc, length-append, Vec}
use Rattle.std.proofs.Math.Seq.{take-append_seam}
use Rattle.std.specs.Prelude.{Box}
use Rattle.postcard_tree.specs.declared.error.Error.TheVariants.{SerdeDeCustom}
use Rattle.postcard_tree.specs.Number.{Number}
use Rattle.postcard_tree.specs.Spelling.{Spells, SpellsAll}
use Rattle.postcard_tree.specs.Tree.{Tree, byte, number, character, sequence, group, Trees, end, part, count_of, text_of, bytes_of, zigzag}
use Rattle.postcard_tree.specs.Reading.{Spelled, TakesBool, ReadsBool, TakesByte, ReadsByte, TakesOctet, ReadsSignedByte, TakesNumber, ReadsNumber, ReadsSigned, TakesCharacter, ReadsCharacter, ReadsAll, ReadsBytes, TakesText, ReadsText, TakesSequence, TakesTextUpTo, RefusesTextUpTo}
use Rattle.postcard_tree.specs.Once.{sequence_taken, byte_taken, numbers_taken}
use Rattle.postcard_tree.specs.Kinds.{bool_taken, signed_byte_taken, signed_taken, character_taken, text_upto_taken}
use Rattle.postcard_de.specs.Source.{SourceState, Reads, Fails, SpelledBytes}
use Rattle.postcard_de.specs.Steps.{refused_here}
use Rattle.postcard_de.specs.Runs.{bytes_read}
use Rattle.postcard_tree.specs.Fixed.{little_endian, big_endian, TakesFixed, ReadsFixed, FixedLaws}
use Rattle.postcard_tree.specs.FixedOnce.{little_laws, big_laws}
use Rattle.schema_table.specs.declared.integer.IntegerType.{IntegerType}
use Rattle.schema_table.specs.declared.integer.Integer.{Integer}
use Rattle.schema_table.specs.Integers.{width_of, type_of, bits_in, little_group, big_group, little_tree_of, big_tree_of}
use Rattle.schema_table.specs.declared.value.Value.{Value, out-Value, Bool as Truth, U8, I8, U16, U32, U64, U128, I16, I32, I64, I128, LE, BE, Char, Text, Bytes, Absent, Present, List as Listed, Group, Variant, the_lemmas}
use Rattle.schema_table.specs.declared.value.Value.TheOpen.{Value-F}
use Rattle.schema_table.specs.Values.{tree_of, trees_in}
use Rattle.schema_table.specs.Schemas.{ReadsBy, AtTop, OfBool, OfU8, OfI8, OfU16, OfU32, OfU64, OfU128, OfI16, OfI32, OfI64, OfI128, OfLE, OfBE, OfChar, OfText, OfBytes, OfOption, OfList, OfGroup, OfVariant}
use Rattle.schema_table.specs.ValueLaws.{tree-Truth, tree-U8, tree-I8, tree-LE, tree-BE, tree-Char, tree-Text, tree-Bytes, top-Truth, top-U8, top-I8, top-LE, top-BE, top-Char, top-Text, top-Bytes}

-- what was read is a value of the tree
pub read_as : {A : Type 0} {R : Tree → A → Type 0} {P : Tree → Type 0} {H : Value → Type 0} {a b : SourceState} {x : A} (v : Value) → ((t : Tree) → R t x → P t × (tree_of v ≡ t) × H v)
    → Reads a b (Spelled R) x → Reads a b (Spelled (ReadsBy P H)) v
read_as {A} {R} {P} {H} {a} {b} {x} v so h = record { taken = h.taken; gave = h.gave; found = record { tree = h.found.tree; spells = h.found.spells; read = so h.found.tree h.found.read } }

-- Leaves

bool_tree : (t : Tree) (v : Bool) → ReadsBool t v → byte (if v then 1 else 0) ≡ t
bool_tree (byte b) v h = ap byte (sym h)
bool_tree _ v h = absurd h

pub bool_by : {a b : SourceState} (v : Bool) → Reads a b (Spelled ReadsBool) v → Reads a b (Spelled (ReadsBy TakesBool (AtTop OfBool))) (Truth v)
bool_by v h = read_as (Truth v) (λ t k. (bool_taken t v k, tree-Truth v ∙ bool_tree t v k, top-Truth v)) h

byte_tree : (t : Tree) (v : ℕ) → ReadsByte t v → byte v ≡ t
byte_tree (byte b) v h = ap byte h
byte_tree _ v h = absurd h

pub byte_by : {a b : SourceState} (v : ℕ) → Reads a b (Spelled ReadsByte) v → Reads a b (Spelled (ReadsBy TakesByte (AtTop OfU8))) (U8 v)
byte_by v h = read_as (U8 v) (λ t k. (byte_taken t v k, tree-U8 v ∙ byte_tree t v k, top-U8 v)) h

signed_byte_tree : (t : Tree) (v : ℤ) → ReadsSignedByte t v → byte (cast_unsigned w8 v) ≡ t
signed_byte_tree (byte b) v h = ap byte (sym h.0)
signed_byte_tree _ v h = absurd h

pub signed_byte_by : {a b : SourceState} {v : ℤ} (m : ℤ) → m ≡ v → Reads a b (Spelled ReadsSignedByte) v → Reads a b (Spelled (ReadsBy TakesOctet (AtTop OfI8))) (I8 m)
signed_byte_by {a} {b} {v} m e h = read_as (I8 m) (λ t k. (signed_byte_taken t v k, tree-I8 m ∙ ap (λ z. byte (cast_unsigned w8 z)) e ∙ signed_byte_tree t v k, top-I8 m)) h

number_tree : (bits : ℕ) (t : Tree) (v : ℕ) → ReadsNumber bits t v → number bits v ≡ t
number_tree bits (number w n) v h = let e : w ≡ bits = h.0 in let f : v ≡ n = h.1 in cc
number_tree bits _ v h = absurd h

-- v is the number
pub number_by : {H : Value → Type 0} {a b : SourceState} {n : ℕ} (bits : ℕ) (v : Value) → tree_of v ≡ number bits n → H v → Reads a b (Spelled (ReadsNumber bits)) n → Reads a b (Spelled (ReadsBy (TakesNumber bits) H)) v
number_by {H} {a} {b} {n} bits v e k h = read_as v (λ t r. (numbers_taken bits t n r, e ∙ number_tree bits t n r, k)) h

signed_tree : (bits : ℕ) (t : Tree) (v : ℤ) → ReadsSigned bits t v → number bits (zigzag v) ≡ t
signed_tree bits (number w n) v h = let e : w ≡ bits = h.0 in let f : zigzag v ≡ n = h.1 in cc
signed_tree bits _ v h = absurd h

-- v is the signed number m, which was read
pub signed_by : {H : Value → Type 0} {a b : SourceState} {z : ℤ} (bits : ℕ) (m : ℤ) (v : Value) → m ≡ z → tree_of v ≡ number bits (zigzag m) → H v → Reads a b (Spelled (ReadsSigned bits)) z → Reads a b (Spelled (ReadsBy (TakesNumber bits) H)) v
signed_by {H} {a} {b} {z} bits m v i e k h = read_as v (λ t r. (signed_taken bits t z r, e ∙ ap (λ x. number bits (zigzag x)) i ∙ signed_tree bits t z r, k)) h

char_tree : (t : Tree) (v : ℕ) → ReadsCharacter t v → character v ≡ t
char_tree (character c) v h = ap character h.0
char_tree _ v h = absurd h

pub char_by : {a b : SourceState} (v : ℕ) → Reads a b (Spelled ReadsCharacter) v → Reads a b (Spelled (ReadsBy TakesCharacter (AtTop OfChar))) (Char v)
char_by v h = read_as (Char v) (λ t k. (character_taken t v k, tree-Char v ∙ char_tree t v k, top-Char v)) h

bytes_tree : (ts : Trees) (s : List ℕ) → ReadsAll ReadsByte ts s → bytes_of s ≡ ts
bytes_tree end [] h = refl
bytes_tree end (x ∷ s) h = absurd h
bytes_tree (part t ts) [] h = absurd h
bytes_tree (part (byte b) ts) (x ∷ s) h = let e : x ≡ b = h.0 in let f : bytes_of s ≡ ts = bytes_tree ts s h.1 in cc
bytes_tree (part _ ts) (x ∷ s) h = absurd h.0

text_tree : (t : Tree) (s : List ℕ) → ReadsBytes t s → text_of s ≡ t
text_tree (sequence ts) s h = ap sequence (bytes_tree ts s h.1)
text_tree _ s h = absurd h

pub bytes_by : {a b : SourceState} (v : _) → Reads a b (SpelledBytes (λ (w : Vec ℕ Global). w.items)) v → Reads a b (Spelled (ReadsBy (TakesSequence TakesByte) (AtTop OfBytes))) (Bytes v)
bytes_by v h = read_as (Bytes v) (λ t k. (sequence_taken TakesByte ReadsByte byte_taken t v.items k, tree-Bytes v ∙ text_tree t v.items k, top-Bytes v)) (bytes_read (λ w. w.items) h)

pub text_by : {a b : SourceState} (s : _) → Reads a b (Spelled (λ t v. ReadsText t (string_bytes v))) s → Reads a b (Spelled (ReadsBy TakesText (AtTop OfText))) (Text s)
text_by s h = read_as (Text s) (λ t k. ((string_bytes s, k.0, k.1), tree-Text s ∙ text_tree t (string_bytes s) k.0, top-Text s)) h

-- Texts with a greatest length

pub text_up_to_by : {a b : SourceState} (most : ℕ) (s : _) → length (string_bytes s) ≤ most → Reads a b (Spelled (λ t v. ReadsText t (string_bytes v))) s
    → Reads a b (Spelled (ReadsBy (TakesTextUpTo most) (AtTop OfText))) (Text s)
text_up_to_by most s l h = read_as (Text s) (λ t k. (text_upto_taken most t (string_bytes s) (k, l), tree-Text s ∙ text_tree t (string_bytes s) k.0, top-Text s)) h

bytes_at : (ts : Trees) (front s : List ℕ) → SpellsAll ts front → ReadsAll ReadsByte ts s → front ≡ s
unfolding Spells SpellsAll
bytes_at end front [] h k = h
bytes_at end front (x ∷ s) h k = absurd k
bytes_at (part t ts) front [] h k = absurd k
bytes_at (part (byte b) ts) front (x ∷ s) (a, v, j, g, h) k =
    let e : x ≡ b = k.0 in
    let f : v ≡ s = bytes_at ts v s h k.1 in
    let w : b ∷ v ≡ x ∷ s = cc in
    j ∙ ap (λ z. z ++ v) g ∙ w
bytes_at (part _ ts) front (x ∷ s) h k = absurd k.0

count_bytes : (ts : Trees) (s : List ℕ) → ReadsAll ReadsByte ts s → count_of ts ≡ length s
count_bytes end [] h = refl
count_bytes end (x ∷ s) h = absurd h
count_bytes (part t ts) [] h = absurd h
count_bytes (part t ts) (x ∷ s) h = omega (arith, count_bytes ts s h.1)

text_past : (most : ℕ) (s : List ℕ) (t : Tree) (taken rest : List ℕ) → most < length s → Spells t taken → ReadsText t s → RefusesTextUpTo most (taken ++ rest) SerdeDeCustom
unfolding Spells
text_past most s (sequence ts) taken rest l (count, front, whole, counted, spells) k =
    let e : front ≡ s = bytes_at ts front s spells k.0.1 in
    inr (record {
      n = length s;
      count = count;
      rest = s ++ rest;
      whole = ap (λ z. z ++ rest) (whole ∙ ap (λ z. count ++ z) e) ∙ append_assoc count s rest;
      counted = subst (λ z. Number 64 z count) (count_bytes ts s k.0.1) counted;
      refused = inr (inr (l, omega (arith, length-append s rest), subst IsUtf8 (sym (take-append_seam s rest)) k.1, refl));
    })
text_past most s _ taken rest l h k = absurd k.0

pub text_too_long : {A : Type 0} {a b : SourceState} (most : ℕ) (bytes : A → List ℕ) (s : A) → most < length (bytes s) → Reads a b (Spelled (λ t v. ReadsText t (bytes v))) s
    → Fails a b (RefusesTextUpTo most) true SerdeDeCustom
text_too_long most bytes s l r = refused_here {s = r.taken} (RefusesTextUpTo most) r.gave (λ rest. text_past most (bytes s) r.found.tree r.taken rest l r.found.spells r.found.read) (λ e. refl)

-- Integers by their bytes

little_group_is : (k n : ℕ) → little_group k n ≡ group (bytes_of (little_endian k n))
unfolding little_group
little_group_is k n = refl

big_group_is : (k n : ℕ) → big_group k n ≡ group (bytes_of (big_endian k n))
unfolding big_group
big_group_is k n = refl

little_tree_as : (k : IntegerType) (i : Integer) (size bits : ℕ) → type_of i ≡ k → width_of k ≡ size → bits_in i ≡ bits → little_tree_of i ≡ little_group size bits
little_tree_as k i size bits e w f = ap (λ z. little_group z (bits_in i)) (ap width_of e ∙ w) ∙ ap (little_group size) f

big_tree_as : (k : IntegerType) (i : Integer) (size bits : ℕ) → type_of i ≡ k → width_of k ≡ size → bits_in i ≡ bits → big_tree_of i ≡ big_group size bits
big_tree_as k i size bits e w f = ap (λ z. big_group z (bits_in i)) (ap width_of e ∙ w) ∙ ap (big_group size) f

module _ {A B : Type 0} {a b : SourceState} {size : ℕ} {in_range : A → Type 0} {bits : A → ℕ} {of_bits : ℕ → A} (laws : FixedLaws size in_range bits of_bits) (k : IntegerType) (i : Integer) (view : B → A) (v : B) where
  pub little_by : width_of k ≡ size → type_of i ≡ k → bits_in i ≡ bits (view v) → Reads a b (Spelled (λ t w. ReadsFixed (λ n. little_endian size (bits n)) in_range t (view w))) v
      → Reads a b (Spelled (ReadsBy (TakesFixed size) (AtTop (OfLE k)))) (LE i)
  little_by w e f h =
      read_as (LE i)
      (λ t r. ((little_laws laws).taken t (view v) r, tree-LE i ∙ (little_tree_as k i size (bits (view v)) e w f ∙ (little_group_is size (bits (view v)) ∙ sym r.0)), top-LE k i e)) h

  pub big_by : width_of k ≡ size → type_of i ≡ k → bits_in i ≡ bits (view v) → Reads a b (Spelled (λ t w. ReadsFixed (λ n. big_endian size (bits n)) in_range t (view w))) v
      → Reads a b (Spelled (ReadsBy (TakesFixed size) (AtTop (OfBE k)))) (BE i)
  big_by w e f h =
      read_as (BE i)
      (λ t r. ((big_laws laws).taken t (view v) r, tree-BE i ∙ (big_tree_as k i size (bits (view v)) e w f ∙ (big_group_is size (bits (view v)) ∙ sym r.0)), top-BE k i e)) h
