-- What a list keeps of the answers that it hears, as long as it finds memory.
use Rattle.std.proofs.Common.{sym, ◌∙◌, ap, append_assoc, append-nil, ◌≡◌, ◌≢◌, Bool, true, false, List, [], ◌∷◌, ◌++◌, Option, Some, None, refl}
use Rattle.std.specs.Prelude.{Vec}
use Rattle.link.specs.Listening.{IsFilled}
use Rattle.link.specs.Each.{HearerLaws}
use Rattle.link.specs.declared.receiver.Answer.{Answer}
use Rattle.line_io.specs.declared.transfers.End.{End}
use Rattle.line_io.specs.declared.transfers.End.TheVariants.{NoMemory}

-- The first of these answers were put behind the others: all of them, or those before one for which the list had no place. Behind such a
-- one none is kept.
pub record KeepsFirst {V A : Type 0} (old new : Vec V A)
    (was full : Bool) (answers : List V) : Type 0 where
  -- the results that were kept
  pub kept : List V
  -- and those that weren't
  pub lost : List V
  -- these are all results
  pub parts : answers ≡ kept ++ lost
  -- those kept were appended to the list
  pub items : new.items ≡ old.items ++ kept
  -- a list that isn't full kept all
  pub whole : full ≡ false → (was ≡ false) × (lost ≡ [])
  -- one that was full kept none
  pub later : was ≡ true → kept ≡ []
  -- one that became full lost one at least
  pub missed : full ≡ true → was ≡ false → lost ≢ []
  -- and is full to its allocated capacity
  pub filled : (was ≡ true → IsFilled old) → full ≡ true → IsFilled new

-- how a reception ended, by how its reading did and whether an answer found no memory
abbrev pub listed_end : Option End → Bool → End
listed_end end true = NoMemory
listed_end None false = NoMemory
listed_end (Some end) false = end

pub not_both : (b : Bool) → b ≡ true → b ≡ false → ⊥
not_both b e f = cc

none_left : {V : Type 0} (xs ys : List V) → xs ++ ys ≡ [] → xs ≡ []
none_left [] ys e = refl
none_left (x ∷ xs) ys e = cc

module _ {V A : Type 0} where
  keeps_none : (v : Vec V A) (w : Bool) → KeepsFirst v v w w []
  keeps_none v w = record { kept = []; lost = []; parts = refl; items = sym (append-nil v.items); whole = λ e. (e, refl); later = λ e. refl; missed = λ e f. absurd (not_both w e f); filled = λ f. f }

  module _ (o m n : Vec V A) (w f : Bool) (a b : List V) where
    keeps_then : (x : Bool) → KeepsFirst o m w x a → KeepsFirst m n x f b
        → KeepsFirst o n w f (a ++ b)
    keeps_then true p q = record {
      kept = p.kept;
      lost = p.lost ++ b;
      parts = ap (λ y. y ++ b) p.parts ∙ append_assoc p.kept p.lost b;
      items = q.items ∙ ap (λ y. m.items ++ y) (q.later refl) ∙ append-nil m.items ∙ p.items;
      whole = λ e. absurd (not_both true refl (q.whole e).0);
      later = p.later;
      missed = λ e d z. p.missed refl d (none_left p.lost b z);
      filled = λ g. q.filled (p.filled g);
    }
    keeps_then false p q = let h = p.whole refl in record {
      kept = p.kept ++ q.kept;
      lost = q.lost;
      parts = ap (λ y. y ++ b) (p.parts ∙ ap (λ y. p.kept ++ y) h.1 ∙ append-nil p.kept) ∙ ap (λ y. p.kept ++ y) q.parts ∙ sym (append_assoc p.kept q.kept q.lost);
      items = q.items ∙ ap (λ y. y ++ q.kept) p.items ∙ append_assoc o.items p.kept q.kept;
      whole = λ e. (h.0, (q.whole e).1);
      later = λ e. absurd (not_both w e h.0);
      missed = λ e d. q.missed e refl;
      filled = λ g. q.filled (p.filled g);
    }

-- what has such a list is a hearer
pub keeps_laws : {H V A : Type 0} (list : H → Vec (Answer V) A) (full : H → Bool)
    → HearerLaws (λ h answers k. KeepsFirst (list h) (list k) (full h) (full k) answers)
keeps_laws list full = record {
  none = λ h. keeps_none (list h) (full h);
  more = λ h k m a b p q. keeps_then (list h) (list k) (list m) (full h) (full m) a b (full k) p q;
}
