-- What a failure says.
use Rattle.std.proofs.Common.{◌≡◌, ◌<◌, ◌⊎◌, inl, inr, ℕ, List, length, sym, subst, string_bytes, arith}
use Rattle.wire_c.specs.declared.terms.WireTerms.{WireTerms}
use Rattle.wire_c.specs.declared.types.WireFailure.{WireFailure}
use Rattle.wire_c.specs.declared.types.WireFailure.TheVariants as failure
use Rattle.wire_c.specs.Status.{refused, wrong}
use Rattle.wire_c.specs.Texts.{RefusesLines, IsOfDeclarations, IsOfLines, IsUnrefused, IsWhyWrong, failure_number, failure_text}

-- the text of a refusal says what is wrong with the lines
pub refuses_lines : (terms : WireTerms) (lines text : List ℕ) (status : ℕ) (e : WireFailure) → IsOfLines terms lines e
    → status ≡ failure_number e → text ≡ failure_text e → status ≡ refused → RefusesLines terms lines text
refuses_lines terms lines text status (failure.Wrong why) o n t r = absurd (omega (arith, n, r))
refuses_lines terms lines text status (failure.Refused why) o n t r = subst (λ xs. RefusesLines terms lines xs) (sym t) o
refuses_lines terms lines text status failure.OutOfMemory o n t r = absurd (omega (arith, n, r))

-- what is no refusal of lines has another number
pub none_refused : (status : ℕ) (e : WireFailure) → IsUnrefused e → status ≡ failure_number e → status ≡ refused → ⊥
none_refused status (failure.Wrong why) u n r = omega (arith, n, r)
none_refused status (failure.Refused why) u n r = u
none_refused status failure.OutOfMemory u n r = omega (arith, n, r)

-- the text of what can't be taken says why
pub why_wrong : (declarations words text : List ℕ) (status : ℕ) (e : WireFailure) → IsOfDeclarations declarations words e
    → status ≡ failure_number e → text ≡ failure_text e → status ≡ wrong → IsWhyWrong declarations words text
why_wrong declarations words text status (failure.Wrong why) o n t r = subst (λ xs. IsWhyWrong declarations words xs) (sym t) o
why_wrong declarations words text status (failure.Refused why) o n t r = absurd (omega (arith, n, r))
why_wrong declarations words text status failure.OutOfMemory o n t r = absurd (omega (arith, n, r))

-- whose length is said of a failure in reading that has more text than there is room
pub read_length : (R : List ℕ → Type 0) (declarations words : List ℕ) (n room : ℕ) (e : WireFailure) → IsUnrefused e
    → IsOfDeclarations declarations words e → n ≡ length (failure_text e) → room < n
    → (text : List ℕ) × (length text ≡ n) × (R text ⊎ IsWhyWrong declarations words text)
read_length R declarations words n room (failure.Wrong why) u o e l = (string_bytes why, sym e, inr o)
read_length R declarations words n room (failure.Refused why) u o e l = absurd u
read_length R declarations words n room failure.OutOfMemory u o e l = absurd (omega (arith, e, l))

-- and in writing
pub write_length : (W : List ℕ → Type 0) (terms : WireTerms) (lines declarations words : List ℕ) (n room : ℕ) (e : WireFailure)
    → IsOfLines terms lines e → IsOfDeclarations declarations words e → n ≡ length (failure_text e) → room < n
    → (text : List ℕ) × (length text ≡ n) × (W text ⊎ (RefusesLines terms lines text ⊎ IsWhyWrong declarations words text))
write_length W terms lines declarations words n room (failure.Wrong why) r o e l = (string_bytes why, sym e, inr (inr o))
write_length W terms lines declarations words n room (failure.Refused why) r o e l = (string_bytes why, sym e, inr (inl r))
write_length W terms lines declarations words n room failure.OutOfMemory r o e l = absurd (omega (arith, e, l))
