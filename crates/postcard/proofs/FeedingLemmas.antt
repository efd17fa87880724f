-- What is fed.
use Rattle.std.proofs.Common.{◌≡◌, ℕ, ◌+◌, ◌≤◌, List, [], ◌++◌, length, drop, append-nil, ap, subst, ◌∙◌, arith, ◌≢◌}
use Rattle.cobs.specs.InPlace.{stretch}
use Rattle.cobs.specs.Sentinel.{masked}
use Rattle.postcard.specs.Feeds.{Feeds, FeedsFor}
use Rattle.postcard.proofs.MasksLemmas.{unmasked}
use Rattle.postcard.proofs.StretchesLemmas.{stretch_short}

-- n bytes of the input stand before its first zero, and `count` bytes were held, all of them here
module _ {C : Type 0} {O : List ℕ → Type 0} {A : List ℕ → List ℕ → Type 0} (room n count : ℕ) (held input kept : List ℕ) (before : n ≡ length (stretch input)) (counted : length held ≡ count) (within : count ≤ room) where
  pub feeds_ended : n ≢ length input → count + (n + 1) ≤ room → A (held ++ stretch input) (drop (n + 1) input) → kept ≡ [] → Feeds room held input C O A kept
  feeds_ended e f a k = record {
    nothing = λ z. absurd (e (let s = stretch_short input in omega (arith, before, s, ap length z)));
    ended = λ _ _. (subst (λ m. A (held ++ stretch input) (drop (m + 1) input)) before a, k);
    full_ended = λ _ o. absurd (omega (arith, counted, before, f, o));
    more = λ l. absurd (e (omega (arith, l, before)));
    full = λ l. absurd (e (omega (arith, l, before)));
  }

-- all of an input without a zero was kept
pub feeds_kept : {C : Type 0} {O : List ℕ → Type 0} {A : List ℕ → List ℕ → Type 0} (room : ℕ) (held input kept : List ℕ) → stretch input ≡ input → length held + length input ≤ room → kept ≡ held ++ input → C → Feeds room held input C O A kept
feeds_kept room held input kept e f k c = record {
  nothing = λ z. (c, k ∙ ap (λ x. held ++ x) z ∙ append-nil held);
  ended = λ l. absurd (omega (arith, l, ap length e));
  full_ended = λ l. absurd (omega (arith, l, ap length e));
  more = λ _ _. (c, k);
  full = λ _ o. absurd (omega (arith, f, o));
}

-- the same said of other answers
pub feeds_as : {C D : Type 0} {O P : List ℕ → Type 0} {A B : List ℕ → List ℕ → Type 0} {room : ℕ} {held input kept : List ℕ} → (C → D) → ((rest : List ℕ) → O rest → P rest) → ((f rest : List ℕ) → A f rest → B f rest)
    → Feeds room held input C O A kept → Feeds room held input D P B kept
feeds_as c o a h = record {
  nothing = λ z. let p = h.nothing z in (c p.0, p.1);
  ended = λ l f. let p = h.ended l f in (a _ _ p.0, p.1);
  full_ended = λ l f. let p = h.full_ended l f in (o _ p.0, p.1);
  more = λ l f. let p = h.more l f in (c p.0, p.1);
  full = λ l f. let p = h.full l f in (o _ p.0, p.1);
}

-- for the sentinel zero, feeding is as it reads
pub feeds_plain : {C : Type 0} {O : List ℕ → Type 0} {A : List ℕ → List ℕ → Type 0} {room : ℕ} {held input kept : List ℕ} → FeedsFor 0 room held input C O A kept → Feeds room held input C O A kept
feeds_plain {C} {O} {A} {room} {held} {input} {kept} h =
    feeds_as (λ x. x) (λ rest o. subst O (unmasked rest) o) (λ f rest a. subst (A f) (unmasked rest) a) (subst (λ x. Feeds room held x C (λ rest. O (masked 0 rest)) (λ f rest. A f (masked 0 rest)) kept) (unmasked input) h)
