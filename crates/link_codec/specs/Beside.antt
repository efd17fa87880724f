-- A decoder beside something that decoding leaves as it is.
use Rattle.std.specs.Prelude.{◌≡◌, ℕ, List, ◌++◌, Option, Some, None, Result, Ok, Err}
use Rattle.tokio_util.specs.Codec.Next.{Next, Gives, decoded, partial, at_end, IsStable, PartialHasNoFrame, EndIsPartial}

module _ {C D B T E : Type 0} (decoder_in : C → D) (beside : C → B) where
  -- as its decoder gives, with the rest as it was
  abbrev pub gives_beside : Gives D T E → Gives C T E
  gives_beside gives c xs (decoded r t ys) =
      gives (decoder_in c) xs (decoded r (decoder_in t) ys) × (beside t ≡ beside c)
  gives_beside gives c xs partial = gives (decoder_in c) xs partial
  gives_beside gives c xs (at_end r t ys) =
      gives (decoder_in c) xs (at_end r (decoder_in t) ys) × (beside t ≡ beside c)

  pub stable_beside : (gives : Gives D T E) → IsStable gives → IsStable {D = C} (gives_beside gives)
  stable_beside gives stable c xs r t ys more h = (stable (decoder_in c) xs r (decoder_in t) ys more h.0, h.1)

  pub partial_beside : (gives : Gives D T E) → PartialHasNoFrame gives
      → PartialHasNoFrame {D = C} (gives_beside gives)
  partial_beside gives none c xs x t ys nothing h = none (decoder_in c) xs x (decoder_in t) ys nothing h.0

  pub end_beside : (gives : Gives D T E) → EndIsPartial gives
      → EndIsPartial {D = C} (gives_beside gives)
  end_beside gives ends c xs r t ys h = ends (decoder_in c) xs r (decoder_in t) ys h.0
