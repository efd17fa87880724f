-- Reading what was written.
use Rattle.std.proofs.Common.{◌≡◌, ℕ, ◌⊎◌, ◌+◌, ◌<◌, List, ◌++◌, length, Option, Some, None, Result, Ok, Err, IfOk, IfErr, Bool, true, refl, sym, ◌∙◌, ap, subst, inr, Bor, [], append-nil}
use Rattle.postcard_tree.specs.declared.error.Error.{Error}
use Rattle.postcard_tree.specs.declared.error.Error.TheVariants.{OutOfMemory, SerializeBufferFull}
use Rattle.postcard_tree.specs.Tree.{Tree, IsTree}
use Rattle.postcard_tree.specs.Spelling.{Spells, short}
use Rattle.std.proofs.lemmas.List.{append_cancel_left}
use Rattle.postcard_tree.specs.ReadingLaws.{ReadingLaws}
use Rattle.postcard_de.specs.Answer.{ReadsFront, AnswersFronts, first_of}
use Rattle.postcard.specs.Written.{WrittenWhole, UnlessRefused}

-- v was written before more: s is the shortest spelling of what it writes, and more
module _ {A : Type 0} {takes : Tree → Type 0} {reads : Tree → A → Type 0} {refuses : List ℕ → Error → Type 0} {alike : A → A → Type 0} (laws : ReadingLaws takes reads refuses alike) (spells : (t : Tree) → IsTree t → Spells t (short t)) (v : A) (s more : List ℕ) where
  -- a value that is read there was read from these very bytes
  found : (t : Tree) → IsTree t → s ≡ short t ++ more → reads t v → (w : A) (rest : List ℕ) → ReadsFront reads s rest w → alike v w × (rest ≡ more)
  found t i e r w rest h =
      let same = laws.once h.spelled.tree t h.front (short t) rest more (laws.taken h.spelled.tree w h.spelled.read) (laws.taken t v r) h.spelled.spells (spells t i) (sym h.whole ∙ e) in
      (laws.one_value t v w r (subst (λ z. reads z w) same.1 h.spelled.read), append_cancel_left (short t) rest more (ap (λ x. x ++ rest) (sym same.0) ∙ (sym h.whole ∙ e)))

  trip_value : (o : Option Tree) → ((t : Tree) → o ≡ Some t → reads t v) → WrittenWhole o (λ bytes. s ≡ bytes ++ more) → (w : A) (rest : List ℕ) → ReadsFront reads s rest w → alike v w × (rest ≡ more)
  trip_value None back m w rest h = absurd m
  trip_value (Some t) back m w rest h = found t m.0 m.1 (back t refl) w rest h

  pub trip_alike : (o : Option Tree) (r : Result (A × Bor (List ℕ)) Error) → ((t : Tree) → o ≡ Some t → reads t v) → WrittenWhole o (λ bytes. s ≡ bytes ++ more) → IfOk r (λ p. ReadsFront reads s p.1.now p.0) → IfOk r (λ p. alike v p.0)
  trip_alike o (Ok p) back m h = (trip_value o back m p.0 p.1.now h).0
  trip_alike o (Err e) back m h = tt

  pub trip_rest : (o : Option Tree) (r : Result (A × Bor (List ℕ)) Error) → ((t : Tree) → o ≡ Some t → reads t v) → WrittenWhole o (λ bytes. s ≡ bytes ++ more) → IfOk r (λ p. ReadsFront reads s p.1.now p.0) → IfOk r (λ p. p.1.now ≡ more)
  trip_rest o (Ok p) back m h = (trip_value o back m p.0 p.1.now h).1
  trip_rest o (Err e) back m h = tt

  trip_none : (n : ℕ) (g : Bool) (o : Option Tree) (e : Error) → ((t : Tree) → o ≡ Some t → reads t v) → WrittenWhole o (λ bytes. s ≡ bytes ++ more) → AnswersFronts takes reads g s (Err e)
      → UnlessRefused o (λ bytes. ((e ≡ SerializeBufferFull) × (n < length bytes + length more)) ⊎ ((e ≡ OutOfMemory) × (g ≡ true)))
  trip_none n g None e back m only = absurd m
  trip_none n g (Some t) e back m only = inr (only t (short t) more (laws.taken t v (back t refl)) (spells t m.0) m.1)

  pub trip_refused : (n : ℕ) (g : Bool) (o : Option Tree) (r : Result (A × Bor (List ℕ)) Error) → ((t : Tree) → o ≡ Some t → reads t v) → WrittenWhole o (λ bytes. s ≡ bytes ++ more) → AnswersFronts takes reads g s (first_of r)
      → IfErr r (λ e. UnlessRefused o (λ bytes. ((e ≡ SerializeBufferFull) × (n < length bytes + length more)) ⊎ ((e ≡ OutOfMemory) × (g ≡ true))))
  trip_refused n g o (Ok p) back m only = tt
  trip_refused n g o (Err e) back m only = trip_none n g o e back m only

-- the same where nothing was written behind v
module _ {A : Type 0} {takes : Tree → Type 0} {reads : Tree → A → Type 0} {refuses : List ℕ → Error → Type 0} {alike : A → A → Type 0} (laws : ReadingLaws takes reads refuses alike) (spells : (t : Tree) → IsTree t → Spells t (short t)) (v : A) (s : List ℕ) where
  back_value : (o : Option Tree) → ((t : Tree) → o ≡ Some t → reads t v) → WrittenWhole o (λ bytes. s ≡ bytes) → (w : A) (rest : List ℕ) → ReadsFront reads s rest w → alike v w
  back_value None back m w rest h = absurd m
  back_value (Some t) back m w rest h = (found laws spells v s [] t m.0 (m.1 ∙ sym (append-nil (short t))) (back t refl) w rest h).0

  pub back_alike : (o : Option Tree) (r : Result A Error) → ((t : Tree) → o ≡ Some t → reads t v) → WrittenWhole o (λ bytes. s ≡ bytes) → IfOk r (λ w. (rest : List ℕ) × ReadsFront reads s rest w) → IfOk r (λ w. alike v w)
  back_alike o (Ok w) back m h = back_value o back m w h.0 h.1
  back_alike o (Err e) back m h = tt

  none_back : (g : Bool) (o : Option Tree) (e : Error) → ((t : Tree) → o ≡ Some t → reads t v) → WrittenWhole o (λ bytes. s ≡ bytes) → AnswersFronts takes reads g s (Err e) → (e ≡ OutOfMemory) × (g ≡ true)
  none_back g None e back m only = absurd m
  none_back g (Some t) e back m only = only t (short t) [] (laws.taken t v (back t refl)) (spells t m.0) (m.1 ∙ sym (append-nil (short t)))

  pub back_memory : (o : Option Tree) (g : Bool) (r : Result A Error) → ((t : Tree) → o ≡ Some t → reads t v) → WrittenWhole o (λ bytes. s ≡ bytes) → AnswersFronts takes reads g s r → IfErr r (λ e. (e ≡ OutOfMemory) × (g ≡ true))
  back_memory o g (Ok w) back m only = tt
  back_memory o g (Err e) back m only = none_back g o e back m only
