use Rattle.std.proofs.Common.{◌≡◌, ◌∙◌, ◌∷◌, [], ℕ, Bool, true, false, ap, refl, List, ◌++◌, ◌≤◌, arith}
use Rattle.std.specs.Prelude.{if◌then◌else◌}
use Rattle.postcard_de.specs.Source.{SourceState, Reads, GivesByte, GivesFlag, RefusesFlag}
use Rattle.postcard_de.specs.Steps.{refused_here}
use Rattle.postcard_tree.specs.declared.error.Error.TheVariants.{DeserializeBadOption}
use Rattle.postcard_de.proofs.deserializer.Deserializer.deserialize_option.Goals as goal

-- the byte is the flag
flag : {a b : SourceState} {n : ℕ} (v : Bool) → n ≡ (if v then 1 else 0) → Reads a b GivesByte n → Reads a b GivesFlag v
flag true e h = record { taken = h.taken; gave = h.gave; found = h.found ∙ ap (λ z. z ∷ []) e }
flag false e h = record { taken = h.taken; gave = h.gave; found = h.found ∙ ap (λ z. z ∷ []) e }

pub returns-in-Ok-eq0 : goal.returns-in-Ok-eq0
returns-in-Ok-eq0 g c = flag false c.in-Ok-eq0.field-0-test c.in-Ok-eq0.ensures.reads

pub returns-in-Ok-eq1 : goal.returns-in-Ok-eq1
returns-in-Ok-eq1 g c = flag true c.in-Ok-eq1.field-0-test c.in-Ok-eq1.ensures.reads

refuses_flag : (n : ℕ) (s rest : List ℕ) → 2 ≤ n → s ≡ n ∷ [] → RefusesFlag (s ++ rest) DeserializeBadOption
refuses_flag n [] rest l e = absurd cc
refuses_flag n (b ∷ s) rest l e = (let q : b ≡ n = cc in omega (arith, l, q), refl)

pub returns-in-Ok : goal.returns-in-Ok
returns-in-Ok g c =
    let p = c.in-Ok.ensures.reads in
    refused_here RefusesFlag p.gave (λ rest. refuses_flag c.in-Ok.field-0 p.taken rest (omega arith) p.found) (λ e. absurd cc)
