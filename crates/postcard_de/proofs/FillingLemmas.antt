-- A reader that has filled a buffer.
use Rattle.std.proofs.Common.{◌≡◌, ◌⊎◌, refl, inl, inr, [], ◌∷◌, get_or, ◌<◌, ℕ, ◌+◌, ◌-◌, ◌≤◌, List, length, Bool, true, false, Option, Some, None, ap, ◌∙◌, arith, length-append}
use Rattle.std.proofs.lemmas.Grind.{common_steps}
use Rattle.std.specs.Io.KnownBytes.{Consumes, IsAtEnd}
use Rattle.postcard_tree.specs.declared.error.Error.TheVariants.{DeserializeUnexpectedEnd}
use Rattle.postcard_tree.specs.Reading.{IsShort}
use Rattle.postcard_de.specs.Reader.{GaveLess, reader_state, tells_all}
use Rattle.postcard_de.specs.Source.{SourceGave, Fails, RefusesKnown}
use Rattle.postcard_de.specs.Steps.{gave_none}

fits_room : (s : List ℕ) (room limit : ℕ) → tells_all (Some s) room limit ≡ true → (length s ≤ room) × (length s ≤ limit)
fits_room s room limit e = (grind (arith, common_steps), grind (arith, common_steps))

fits_back : (s : List ℕ) (room limit : ℕ) → length s ≤ room → length s ≤ limit → tells_all (Some s) room limit ≡ true
fits_back s room limit p q = grind (arith, common_steps)

tells_rest : (o p : Option (List ℕ)) (s : List ℕ) (room left limit ct : ℕ) → Consumes o p s → length s ≡ ct → ct ≤ limit → room ≤ left + ct
    → tells_all o room limit ≡ true → tells_all p left (limit - ct) ≡ true
tells_rest None p s room left limit ct c e l r w = absurd cc
tells_rest (Some x) None s room left limit ct c e l r w = absurd c
tells_rest (Some x) (Some y) s room left limit ct c e l r w =
    let k = fits_room x room limit w in
    let n : length x ≡ length s + length y = ap length c ∙ length-append s y in
    fits_back y left (limit - ct) (omega (arith, k.0, n, e, r)) (omega (arith, k.1, n, e, l))

-- the next ct bytes are s, and the buffer has lost no more places than they are
pub gave_filled : (o p : Option (List ℕ)) (failed fails : Bool) (s : List ℕ) (room left limit ct : ℕ) → (fails ≡ failed) × Consumes o p s → length s ≡ ct → ct ≤ limit → room ≤ left + ct → left ≤ room
    → SourceGave (reader_state o failed room limit) (reader_state p fails left (limit - ct)) s
gave_filled o p true true s room left limit ct c e l r k = record { told = c.1; whole = λ w f. w; faults = omega arith; limit = omega (arith, e, l); room = k }
gave_filled o p true false s room left limit ct c e l r k = absurd (let d = c.0 in cc)
gave_filled o p false true s room left limit ct c e l r k = absurd (let d = c.0 in cc)
gave_filled o p false false s room left limit ct c e l r k = record { told = c.1; whole = λ w f. tells_rest o p s room left limit ct c.1 e l r w; faults = omega arith; limit = omega (arith, e, l); room = k }

-- less than ct bytes were left, where it told them
short_of : (o p : Option (List ℕ)) (s : List ℕ) (room limit ct : ℕ) → Consumes o p s → IsAtEnd p → length s < ct → tells_all o room limit ≡ true
    → RefusesKnown (IsShort ct) o DeserializeUnexpectedEnd
short_of None p s room limit ct c z l w = absurd cc
short_of (Some x) None s room limit ct c z l w = absurd c
short_of (Some x) (Some y) s room limit ct c z l w = (omega (arith, l, ap length c ∙ length-append s y, ap length z), refl)

ended_tells : (o p : Option (List ℕ)) (s : List ℕ) (room left limit less : ℕ) → Consumes o p s → IsAtEnd p
    → tells_all o room limit ≡ true → tells_all p left less ≡ true
ended_tells None p s room left limit less c z w = absurd cc
ended_tells (Some x) None s room left limit less c z w = absurd c
ended_tells (Some x) (Some y) s room left limit less c z w = fits_back y left less (omega (arith, ap length z)) (omega (arith, ap length z))

-- ct bytes were wanted, and less came
pub less_came : (o p : Option (List ℕ)) (failed fails : Bool) (room left limit ct n : ℕ) → GaveLess o p failed fails n → n ≡ ct → ct ≤ limit → left ≤ room
    → Fails (reader_state o failed room limit) (reader_state p fails left (limit - ct)) (IsShort ct) false DeserializeUnexpectedEnd
less_came o p true true room left limit ct n h q l k = record { taken = h.taken; gave = record { told = h.gave; whole = λ w f. absurd cc; faults = omega arith; limit = omega (arith, h.within, l, q); room = k }; first = λ w f. absurd cc; memory = λ e. absurd cc }
less_came o p true false room left limit ct n h q l k = absurd (let e = h.noted refl in cc)
less_came o p false true room left limit ct n h q l k = record { taken = h.taken; gave = record { told = h.gave; whole = λ w f. absurd cc; faults = omega arith; limit = omega (arith, h.within, l, q); room = k }; first = λ w f. absurd cc; memory = λ e. absurd cc }
less_came o p false false room left limit ct n h q l k =
    let z = h.ended refl in
    record {
      taken = h.taken;
      gave = record { told = h.gave; whole = λ w f. ended_tells o p h.taken room left limit (limit - ct) h.gave z.0 w; faults = omega arith; limit = omega (arith, h.within, l, q); room = k };
      first = λ w f. inr (short_of o p h.taken room limit ct h.gave z.0 (omega (arith, z.1, q)) w);
      memory = λ e. absurd cc;
    }

-- more is wanted than there is room for, or than may still be given
pub no_room_for : (o : Option (List ℕ)) (failed : Bool) (room limit ct : ℕ) → (room < ct) ⊎ (limit < ct)
    → Fails (reader_state o failed room limit) (reader_state o failed room limit) (IsShort ct) false DeserializeUnexpectedEnd
no_room_for o true room limit ct h = record { taken = []; gave = gave_none _; first = λ w f. absurd cc; memory = λ e. absurd cc }
no_room_for None false room limit ct h = record { taken = []; gave = gave_none _; first = λ w f. absurd cc; memory = λ e. absurd cc }
no_room_for (Some s) false room limit ct h =
    record { taken = []; gave = gave_none _; first = λ w f. let k = fits_room s room limit w in inr (elim h [ inl p ↦ omega (arith, p, k.0) | inr p ↦ omega (arith, p, k.1) ], refl); memory = λ e. absurd cc }

pub one_byte : (s : List ℕ) → length s ≡ 1 → s ≡ get_or s 0 0 ∷ []
one_byte [] e = absurd (omega (arith, e))
one_byte (b ∷ []) e = refl
one_byte (b ∷ d ∷ s) e = absurd (omega (arith, e))
