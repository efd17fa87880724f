use Rattle.std.proofs.Common.{◌≡◌, ◌⊎◌, inl, inr, sym, ◌∙◌, Bool, List, ℕ, Option, Some, None}
use Rattle.std.proofs.lemmas.Result.{err_from_is_err_and}
use Rattle.postcard_tree.specs.declared.error.Error.{Error}
use Rattle.postcard_tree.specs.declared.error.Error.TheVariants.{OutOfMemory}
use Rattle.postcard_de.specs.Source.{SourceState, Fails, RefusesKnown}
use Rattle.postcard_de.proofs.shaped.read_shape.Goals as goal

known : {F G : List ℕ → Error → Type 0} → ((s : List ℕ) (e : Error) → F s e → G s e) → (told : Option (List ℕ)) (e : Error) → (e ≡ OutOfMemory) ⊎ RefusesKnown F told e → (e ≡ OutOfMemory) ⊎ RefusesKnown G told e
known h told e (inl m) = inl m
known h None e (inr k) = inr tt
known h (Some s) e (inr k) = inr (h s e k)

-- a failure to read the shape is one to read the type
fails : {a b : SourceState} {F G : List ℕ → Error → Type 0} {f g : Bool} {e : Error} → ((s : List ℕ) (e : Error) → F s e → G s e) → f ≡ g → Fails a b F f e → Fails a b G g e
fails {a = a} {F = F} {G = G} {e = e} h same p = record {
  taken = p.taken;
  gave = p.gave;
  first = λ w q. known {F = F} {G = G} h a.told e (p.first w q);
  memory = λ m. sym same ∙ p.memory m;
}

pub returns-in_err-it : goal.returns-in_err-it
returns-in_err-it g c =
    let p = err_from_is_err_and c.from_residual.result c.from_residual.ensures.1 in
    let shape = g.met.M.MatchesShape.matches in
    rw (p.1, p.2) (fails shape.refused shape.grows c.in_err-it.ensures)
