-- How a buffer is filled.
use Rattle.std.proofs.Common.{◌≡◌, refl, ℕ, List, [], ◌∷◌, ◌++◌, sym, ◌∙◌, ap, subst, arith, length-append, Option, inl, inr, Result, Ok, Err, OnOk, IfOk, IfErr, IsErrAnd}
use Rattle.std.specs.Prelude.{bit_xor, slice_set}
use Rattle.std.specs.Int.Bits.{xor_self}
use Rattle.cobs.specs.Frames.{longest_frame}
use Rattle.cobs.specs.Kept.{Keeps, applied, SetsWithin}
use Rattle.cobs.specs.Sentinel.{masked}
use Rattle.cobs.specs.declared.enc.state.EncoderState.{EncoderState}
use Rattle.cobs.specs.declared.enc.state.PushResult.{PushResult}
use Rattle.cobs.specs.declared.enc.state.PushResult.TheVariants.{AddSingle, ModifyFromStartAndSkip, ModifyFromStartAndPushAndSkip}
use Rattle.postcard_tree.specs.declared.error.Error.{Error}
use Rattle.postcard_ser.specs.Flavor.{IndexLaws}
use Rattle.postcard.specs.Filled.{Held, FillTook, FillRefused, FillCut, FillEnded, ChangeCut, masked_change, kept_length}
use Rattle.postcard.proofs.MasksLemmas.{masked_length, masked_twice, masked_set, masked_append, xor_twice, unmasked}

-- a push behind a change
pub grown_then : {B : Type 0} {told : B → Option (List ℕ)} {took : B → List ℕ → B → Type 0} {bytes : B → List ℕ} {became : B → List ℕ → B → Type 0} → IndexLaws told took bytes became
    → (s t u : B) (x a : List ℕ) → became s x t → took t a u → became s (x ++ a) u
grown_then {became = became} index s t u x a p q = index.again s t u _ _ p (subst (λ y. became t (y ++ a) u) (index.holds s t x p) (index.grew t u a q))

-- the change, seen through the mask
pub masked_applied : (s : ℕ) (change : PushResult) (buffer : List ℕ) → masked s (applied (masked_change s change) s buffer) ≡ applied change 0 (masked s buffer)
masked_applied s (AddSingle byte) buffer = masked_append s buffer _ ∙ ap (λ x. masked s buffer ++ x ∷ []) (xor_twice s byte)
masked_applied s (ModifyFromStartAndSkip change) buffer =
    masked_append s _ (s ∷ []) ∙ ap (λ x. x ++ bit_xor s s ∷ []) (masked_set s buffer change.0 change.1) ∙ ap (λ x. slice_set (masked s buffer) change.0 change.1 ++ x ∷ []) (xor_self s)
masked_applied s (ModifyFromStartAndPushAndSkip change) buffer =
    masked_append s _ (bit_xor s change.2 ∷ s ∷ []) ∙ ap (λ x. x ++ bit_xor s (bit_xor s change.2) ∷ bit_xor s s ∷ []) (masked_set s buffer change.0 change.1)
    ∙ ap (λ x. slice_set (masked s buffer) change.0 change.1 ++ x ∷ bit_xor s s ∷ []) (xor_twice s change.2) ∙ ap (λ x. slice_set (masked s buffer) change.0 change.1 ++ change.2 ∷ x ∷ []) (xor_self s)

-- what is set lies within the buffer, masked or not
pub sets_within : (s : ℕ) (change : PushResult) (buffer : List ℕ) → SetsWithin change (masked s buffer) → SetsWithin (masked_change s change) buffer
sets_within s (AddSingle byte) buffer p = tt
sets_within s (ModifyFromStartAndSkip change) buffer p = omega (arith, p, masked_length s buffer)
sets_within s (ModifyFromStartAndPushAndSkip change) buffer p = omega (arith, p, masked_length s buffer)

-- a whole change
pub filled : {B : Type 0} {told : B → Option (List ℕ)} {took : B → List ℕ → B → Type 0} {bytes : B → List ℕ} {became : B → List ℕ → B → Type 0} → IndexLaws told took bytes became
    → (s t : B) (old new : EncoderState) (n : ℕ) (m x : List ℕ) → Keeps new (masked n x) m → became s x t → Held bytes became (s, old, n) m (t, new, n)
filled {bytes = bytes} {became = became} index s t old new n m x k p =
    let e = sym (index.holds s t x p) in
    record { keeps = subst (λ y. Keeps new (masked n y) m) e k; grown = subst (λ y. became s y t) e p; same_sentinel = refl }

-- a change that was cut short
pub cut : {B : Type 0} {became : B → List ℕ → B → Type 0} {refused : B → List ℕ → Error → B → Type 0} (s t : B) (new : EncoderState) (n : ℕ) (m x : List ℕ) (e : Error) → Keeps new (masked n x) m → ChangeCut became refused s x e t → FillCut became refused s m e t
cut s t new n m x e k c = record {
  at = c.at;
  before = c.before;
  grown = c.grown;
  short = omega (arith, c.short, masked_length n x, kept_length new (masked n x) m k);
  stops = inl (c.byte, c.stops);
}

-- what the state answered is done with each byte XORed with n
module _ {B : Type 0} {told : B → Option (List ℕ)} {took : B → List ℕ → B → Type 0} {bytes : B → List ℕ} {became : B → List ℕ → B → Type 0} (index : IndexLaws told took bytes became) (s t : B) (old new : EncoderState) (n : ℕ) (a : List ℕ) (change done : PushResult) (was : done ≡ masked_change n change)
    (keeps : (m : List ℕ) → Keeps old (masked n (bytes s)) m → Keeps new (applied change 0 (masked n (bytes s))) (m ++ a)) where
  kept : (m : List ℕ) → Keeps old (masked n (bytes s)) m → Keeps new (masked n (applied done n (bytes s))) (m ++ a)
  kept m k = subst (λ x. Keeps new x (m ++ a)) (sym (ap (λ x. masked n (applied x n (bytes s))) was ∙ masked_applied n change (bytes s))) (keeps m k)

  pub step_ok : {T : Type 0} (r : Result T Error) → OnOk r (became s (applied done n (bytes s)) t) → OnOk r (FillTook bytes became (s, old, n) a (t, new, n))
  step_ok (Ok y) p = λ m h. filled index s t old new n (m ++ a) _ (kept m h) p
  step_ok (Err e) p = tt

  pub step_err : {T : Type 0} (refused : B → List ℕ → Error → B → Type 0) (r : Result T Error) → IfErr r (λ e. SetsWithin done (bytes s) → ChangeCut became refused s (applied done n (bytes s)) e t)
      → ((m : List ℕ) → Keeps old (masked n (bytes s)) m → SetsWithin change (masked n (bytes s))) → IfErr r (λ e. FillRefused bytes became refused (s, old, n) a e (t, new, n))
  step_err refused (Ok y) p w = tt
  step_err refused (Err e) p w = λ m h. cut s t new n (m ++ a) _ e (kept m h) (p (subst (λ x. SetsWithin x (bytes s)) (sym was) (sets_within n change (bytes s) (w m h))))

-- how a frame ends: the last code is set, and n is pushed behind it
module _ {B O : Type 0} {told : B → Option (List ℕ)} {took : B → List ℕ → B → Type 0} {bytes : B → List ℕ} {became : B → List ℕ → B → Type 0} (refused : B → List ℕ → Error → B → Type 0) (ends : B → Result O Error → Type 0) (index : IndexLaws told took bytes became) (s set t : B) (n at code : ℕ) (m : List ℕ)
    (last : slice_set (masked n (bytes s)) at code ≡ longest_frame m) (was : became s (slice_set (bytes s) at (bit_xor n code)) set) where
  whole : became s (masked n (longest_frame m)) set
  whole = subst (λ x. became s x set) (sym (masked_twice n _) ∙ ap (masked n) (masked_set n (bytes s) at code ∙ last)) was

  pub end_refused : (e : Error) (r : Result O Error) → IsErrAnd r (λ y. y ≡ e) → refused set (n ∷ []) e t → FillEnded became refused ends n s m r
  end_refused e (Ok out) i f = absurd i
  end_refused e (Err y) i f = record { ok = tt; err = inl (set, t, whole, subst (λ x. refused set (n ∷ []) x t) (sym i) f) }

  pub end_done : (r : Result O Error) → took set (n ∷ []) t → ends t r → FillEnded became refused ends n s m r
  end_done (Ok out) p e = record { ok = (t, grown_then index s set t _ (n ∷ []) whole p, e); err = tt }
  end_done (Err x) p e = record { ok = tt; err = inr (t, grown_then index s set t _ (n ∷ []) whole p, e) }

-- the second byte of a change is refused
pub second_err : {B T : Type 0} {told : B → Option (List ℕ)} {took : B → List ℕ → B → Type 0} {bytes : B → List ℕ} {became : B → List ℕ → B → Type 0} (refused : B → List ℕ → Error → B → Type 0) → IndexLaws told took bytes became
    → (P : Type 0) (s t u v : B) (x : List ℕ) (byte n : ℕ) (r : Result T Error) → became s x t → took t (byte ∷ []) u → IfErr r (λ e. refused u (n ∷ []) e v) → IfErr r (λ e. P → ChangeCut became refused s (x ++ byte ∷ n ∷ []) e v)
second_err refused index P s t u v x byte n (Ok y) p q f = tt
second_err refused index P s t u v x byte n (Err e) p q f = λ _. record {
  at = x ++ byte ∷ [];
  before = u;
  grown = grown_then index s t u x (byte ∷ []) p q;
  short = omega (arith, length-append x (byte ∷ []), length-append x (byte ∷ n ∷ []));
  byte = n;
  stops = f;
}

pub begun : {B : Type 0} {told : B → Option (List ℕ)} {took : B → List ℕ → B → Type 0} {bytes : B → List ℕ} {became : B → List ℕ → B → Type 0} → IndexLaws told took bytes became
    → (n : ℕ) (s t : B) (state : EncoderState) → bytes s ≡ [] → took s (n ∷ []) t → ((placeholder : ℕ) → Keeps state (placeholder ∷ []) []) → took s (n ∷ []) t × Keeps state (masked n (bytes t)) []
begun {bytes = bytes} index n s t state e p k = (p, subst (λ y. Keeps state (masked n y) []) (sym (index.holds s t _ (index.grew s t (n ∷ []) p) ∙ ap (λ y. y ++ n ∷ []) e)) (k (bit_xor n n)))

-- a frame for zero is the frame as it is
pub begun_plain : {B : Type 0} (took : B → List ℕ → B → Type 0) (bytes : B → List ℕ) (s : B) (r : Result (B × EncoderState × ℕ) Error)
    → IfOk r (λ made. took s (0 ∷ []) made.0 × Keeps made.1 (masked 0 (bytes made.0)) []) → IfOk r (λ made. took s (0 ∷ []) made.0 × Keeps made.1 (bytes made.0) [])
begun_plain took bytes s (Ok made) p = (p.0, subst (λ y. Keeps made.1 y []) (unmasked (bytes made.0)) p.1)
begun_plain took bytes s (Err e) p = tt
