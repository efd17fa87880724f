-- What a hearer makes of replies from which notices are taken out: what is said of a request that was passed over.
use Rattle.std.specs.Prelude.{◌≡◌, ℕ, ◌==◌, if◌then◌else◌, Bool, true, List, [], ◌∷◌, ◌++◌, Option, Some, Result, Ok, Err}
use Rattle.std.specs.Option.{is_some}
use Rattle.std.proofs.Common.{refl, sym, ap, ◌∙◌, subst}
use Rattle.link.specs.Each.{HearerLaws}
use Rattle.link.specs.declared.receiver.Answer.{Answer}
use Rattle.link.specs.declared.receiver.Answer.TheVariants.{Value}
use Rattle.calls.specs.Calls.{no_call}
use Rattle.calls.specs.declared.noticing.Noticing.{Noticing}

-- a notice, which came by the greatest number; or another answer
abbrev pub told_apart : {R : Type 0} → Answer (ℕ × R) → Result R (Answer (ℕ × R))
told_apart (Value p) = if p.0 == no_call then Ok p.1 else Err (Value p)
told_apart other = Err other

-- a result that is no notice, in front of others
abbrev pub before : {R : Type 0} → Result R (Answer (ℕ × R)) → List (Answer (ℕ × R)) → List (Answer (ℕ × R))
before (Ok said) answers = answers
before (Err answer) answers = answer ∷ answers

-- the results that are no notices
abbrev pub others : {R : Type 0} → List (Answer (ℕ × R)) → List (Answer (ℕ × R))
others [] = []
others (a ∷ answers) = before (told_apart a) (others answers)

-- a notice in place of an earlier one
abbrev pub later_notice : {R : Type 0} → Option R → Result R (Answer (ℕ × R)) → Option R
later_notice notice (Ok said) = Some said
later_notice notice (Err answer) = notice

-- the last notice
abbrev pub last_notice : {R : Type 0} → Option R → List (Answer (ℕ × R)) → Option R
last_notice notice [] = notice
last_notice notice (a ∷ answers) = last_notice (later_notice notice (told_apart a)) answers

-- what a hearer makes of results from which notices are taken out, of which the last is kept
abbrev pub HearsOthers : {H R : Type 0} → (H → List (Answer (ℕ × R)) → H → Type 0) → Noticing H R → List (Answer (ℕ × R)) → Noticing H R → Type 0
HearsOthers hears old answers new = hears old.hearer (others answers) new.hearer × (new.notice ≡ last_notice old.notice answers)

-- it has enough where a notice was received, or the one after it has
abbrev pub enough_noticed : {R : Type 0} → Option R → Bool → Bool
enough_noticed notice enough = if is_some notice then true else enough

others_then : {R : Type 0} (xs ys : List (Answer (ℕ × R))) → others (xs ++ ys) ≡ others xs ++ others ys
others_then [] ys = refl
others_then {R} (x ∷ xs) ys = by (told_apart x) (others_then xs ys)
  where
    by : (r : Result R (Answer (ℕ × R))) → others (xs ++ ys) ≡ others xs ++ others ys → before r (others (xs ++ ys)) ≡ before r (others xs) ++ others ys
    by (Ok said) e = e
    by (Err answer) e = ap (λ l. answer ∷ l) e

last_then : {R : Type 0} (notice : Option R) (xs ys : List (Answer (ℕ × R))) → last_notice notice (xs ++ ys) ≡ last_notice (last_notice notice xs) ys
last_then notice [] ys = refl
last_then notice (x ∷ xs) ys = last_then (later_notice notice (told_apart x)) xs ys

-- it meets the laws of a hearer, if its own hearer does
pub notices_laws : {H R : Type 0} (hears : H → List (Answer (ℕ × R)) → H → Type 0)
    → HearerLaws hears → HearerLaws {H = Noticing H R} (HearsOthers hears)
notices_laws hears laws = record {
  none = λ h. (laws.none h.hearer, refl);
  more = λ h k m a b p q. (
    subst (λ answers. hears h.hearer answers m.hearer) (sym (others_then a b)) (laws.more h.hearer k.hearer m.hearer (others a) (others b) p.0 q.0),
    q.1 ∙ ap (λ n. last_notice n b) p.1 ∙ sym (last_then h.notice a b),
  );
}
