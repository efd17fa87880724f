-- What a push gave, by its numbers.
use Rattle.std.proofs.Common.{◌≡◌, ◌≢◌, ℕ, ◌+◌, ◌<◌, ◌≤◌, List, length, Option, Some, None, Result, Ok, Err, IfOk, OnOk, OnErr, sym, ap, subst, inl, inr, arith}
use Rattle.std.proofs.lemmas.Bool.{cases_eq, eq-eqb}
use Rattle.postcard_tree.specs.Tree.{Tree}
use Rattle.link.specs.Stream.{Begun, kept, over}
use Rattle.link.specs.Pushes.{IsStretchOf}
use Rattle.link.specs.declared.receiver.Answer.{Answer}
use Rattle.link.specs.declared.receiver.NoMemory.{NoMemory}
use Rattle.frames.specs.Standing.{StandsAt, StandsBehind}
use Rattle.frames.specs.Events.{IsInFront, IsInRoom, AnswersAs, answer_in}
use Rattle.frames.specs.declared.receiving.FrameReceiver.{FrameReceiver}
use Rattle.frames.specs.declared.receiving.FrameEvent.{FrameEvent}
use Rattle.frames.specs.declared.receiving.FramePush.{FramePush}
use Rattle.frames.specs.declared.receiving.WrongBuffer.{WrongBuffer}
use Rattle.frames_c.specs.declared.answers.FramesEvent.{FramesEvent}
use Rattle.frames_c.specs.Answers.{IsPushed, push_by, event_by}
use Rattle.frames_c.specs.Status.{message, misused}

-- a receiver that stands somewhere can stand over its buffer
pub within_buffer : (limit s : ℕ) (r : FrameReceiver) (buffer : List ℕ) (b : Begun) → StandsAt limit s r buffer b → r.count ≤ length buffer
within_buffer limit s r buffer (kept p) i = i.begun.1.within
within_buffer limit s r buffer over i = omega (arith, i.begun.1)

pub no_error : (a b : ℕ) (o : Result FramePush WrongBuffer) → OnErr o (b < a) → a ≤ b → OnErr o ⊥
no_error a b (Ok p) k l = tt
no_error a b (Err x) k l = omega (arith, k, l)

-- what is so of a push is so of its numbers
pub of_push : (P : FramePush → Type 0) (o : Result FramePush WrongBuffer) (e : FramesEvent) → IsPushed o e → IfOk o P → OnErr o ⊥ → P (push_by e)
of_push P (Ok p) e h k fine = subst P (sym h.0) k
of_push P (Err x) e h k fine = absurd fine

pub used_within : (n : ℕ) (o : Result FramePush WrongBuffer) (e : FramesEvent) → IsPushed o e → IfOk o (λ p. p.used ≤ n) → e.used ≤ n
used_within n (Ok p) e h k = let u : e.used ≡ p.used = ap (λ (x : FramePush). x.used) h.0 in omega (arith, u, k)
used_within n (Err x) e h k = omega (arith, h.1)

pub goes_forward : (n : ℕ) (o : Result FramePush WrongBuffer) (e : FramesEvent) → IsPushed o e → IfOk o (λ p. 0 < n → 0 < p.used) → e.kind ≢ misused → 0 < n → 0 < e.used
goes_forward n (Ok p) e h k m l = let u : e.used ≡ p.used = ap (λ (x : FramePush). x.used) h.0 in omega (arith, u, k l)
goes_forward n (Err x) e h k m l = absurd (m h.0)

pub not_misused : (a b : ℕ) (o : Result FramePush WrongBuffer) (e : FramesEvent) → IsPushed o e → OnErr o (b < a) → a ≤ b → e.kind ≢ misused
not_misused a b (Ok p) e h k l = h.1
not_misused a b (Err x) e h k l = absurd (omega (arith, k, l))

pub is_misused : {X Y : Type 0} (a b : ℕ) (o : Result FramePush WrongBuffer) (e : FramesEvent) → IsPushed o e → OnOk o (a ≤ b) → OnErr o (X × Y) → b < a
    → (e.kind ≡ misused) × (e.used ≡ 0) × (e.stretch ≡ 0) × X × Y
is_misused a b (Ok p) e h k x l = absurd (omega (arith, k, l))
is_misused a b (Err y) e h k x l = (h.0, h.1, h.2, x.0, x.1)

-- where a message stands
event_is : (o : Result FramePush WrongBuffer) (e : FramesEvent) (P : Option FrameEvent → Type 0) → IsPushed o e → IfOk o (λ p. P p.event) → e.kind ≡ message → P (event_by e.kind e.start e.length)
event_is (Ok p) e P h k q = subst P (sym (ap (λ (x : FramePush). x.event) h.0)) k
event_is (Err x) e P h k q = absurd (omega (arith, q, h.0))

pub in_room : (n : ℕ) (o : Result FramePush WrongBuffer) (e : FramesEvent) → IsPushed o e → (e.kind ≢ message → (e.start ≡ 0) × (e.length ≡ 0)) → IfOk o (λ p. IsInRoom n p.event)
    → e.start + e.length ≤ n
in_room n o e h w k = elim (cases_eq e.kind message) [
  | inl q ↦ (let g = event_is o e (IsInRoom n) h k q in rw (eq-eqb e.kind message q) at g)
  | inr m ↦ (let z = w m in omega (arith, z.0, z.1))
]

pub in_front : (o : Result FramePush WrongBuffer) (e : FramesEvent) → IsPushed o e → (e.kind ≢ message → (e.start ≡ 0) × (e.length ≡ 0)) → IfOk o (λ p. IsInFront p.event) → e.start ≡ 0
in_front o e h w k = elim (cases_eq e.kind message) [
  | inl q ↦ (let g = event_is o e IsInFront h k q in rw (eq-eqb e.kind message q) at g)
  | inr m ↦ (w m).0
]

-- a push of one byte
pub of_byte : (P : Type 0) (o : Result FramePush WrongBuffer) → IfOk o (λ p. P) → OnErr o ⊥ → P
of_byte P (Ok p) k fine = k
of_byte P (Err x) k fine = absurd fine

quiet_stretch : (s : ℕ) (stream piece buffer : List ℕ) (used n : ℕ) (e : Option FrameEvent) → e ≡ None
    → IsStretchOf s stream piece used (let r : Result (Option (Answer (List ℕ))) NoMemory = Ok (answer_in buffer e) in r) n → n ≡ 0
quiet_stretch s stream piece buffer used n None q h = h
quiet_stretch s stream piece buffer used n (Some x) q h = cc

pub byte_answers : (holds : List ℕ → Tree → Type 0) (reads : Tree → List ℕ → Type 0) (r : FrameReceiver) (before : List ℕ) (piece buffer : List ℕ) (o : Result FramePush WrongBuffer) (told : FramePush)
    → IfOk o (λ p. p.used ≡ 1 → (p.event ≡ None → p.stretch ≡ 0) → told ≡ p) → IfOk o (λ p. p.used ≡ 1)
    → IfOk o (λ p. (limit s : ℕ) (stream : List ℕ) → StandsBehind limit s r before stream → AnswersAs holds reads limit s stream piece buffer p) → OnErr o ⊥
    → (limit s : ℕ) (stream : List ℕ) → StandsBehind limit s r before stream → AnswersAs holds reads limit s stream piece buffer told
byte_answers holds reads r before piece buffer (Ok p) told t u k fine limit s stream i =
    let a = k limit s stream i in
    let e = t u (λ n. quiet_stretch s stream piece buffer p.used p.stretch p.event n a.stretch) in
    subst (AnswersAs holds reads limit s stream piece buffer) (sym e) a
byte_answers holds reads r before piece buffer (Err x) told t u k fine limit s stream i = absurd fine

pub byte_can_stand : (a b kind : ℕ) (o : Result FramePush WrongBuffer) → OnOk o (kind < misused) → OnErr o (b < a) → a ≤ b → kind < misused
byte_can_stand a b kind (Ok p) k w l = k
byte_can_stand a b kind (Err x) k w l = absurd (omega (arith, w, l))

pub byte_misused : {X Y Z : Type 0} (a b kind : ℕ) (o : Result FramePush WrongBuffer) → OnErr o (kind ≡ misused) → (kind ≡ misused → Z) → OnOk o (a ≤ b) → OnErr o (X × Y) → b < a
    → (kind ≡ misused) × X × Y × Z
byte_misused a b kind (Ok p) k z w x l = absurd (omega (arith, w, l))
byte_misused a b kind (Err y) k z w x l = (k, x.0, x.1, z k)

-- where nothing has changed
pub as_before : (P : FrameReceiver → List ℕ → Type 0) (r later : FrameReceiver) (buffer after : List ℕ) → (later ≡ r) × (after ≡ buffer) → P later after → P r buffer
as_before P r later buffer after same h = subst (λ x. P x buffer) same.0 (subst (λ y. P later y) same.1 h)
