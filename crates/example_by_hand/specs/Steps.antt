-- Reading a chain.
use Rattle.std.specs.Global.{Global}
use Rattle.std.specs.Prelude.{Box, ◌≡◌, ℕ, ◌≤◌, List, [], ◌∷◌, ◌++◌, refl, true, false, Option, Some, None}
use Rattle.std.proofs.Common.{sym, ◌∙◌, ap, subst, inl, inr, append_assoc}
use Rattle.postcard_tree.specs.declared.error.Error.{Error}
use Rattle.postcard_tree.specs.declared.error.Error.TheVariants.{SerdeDeCustom, OutOfMemory}
use Rattle.postcard_tree.specs.Number.{Number}
use Rattle.postcard_tree.specs.Tree.{Tree, byte}
use Rattle.postcard_tree.specs.Spelling.{Spells, SpellsAll}
use Rattle.postcard_tree.specs.Reading.{Spelled, ReadsNumber, ReadsByte, RefusesByte, RefusesGroups}
use Rattle.postcard_de.specs.Source.{SourceState, Reads, Fails, RefusesKnown}
use Rattle.postcard_de.specs.Steps.{gave_more, fails_after, refused_here, no_memory}
use Rattle.postcard_de.specs.Values.{append_nil}
use Rattle.postcard_de.specs.Parts.{spelled_number}
use Rattle.example_by_hand.specs.declared.chain.Chain.{Chain}
use Rattle.example_by_hand.specs.declared.chain.Chain.TheVariants.{End, More}
use Rattle.example_by_hand.specs.Chain.{end_tree, more_tree, ReadsChain, reads_end, reads_more, RefusesChain, at_index, unknown, at_byte, at_rest}

index_of : {a b : SourceState} {n : ℕ} → (h : Reads a b (Spelled (ReadsNumber 32)) n)
    → Number 32 n h.taken
index_of h = spelled_number 32 _ _ h.found.tree h.found.spells h.found.read

byte_is : (s : List ℕ) (x : ℕ) (t : Tree) → Spells t s → ReadsByte t x → s ≡ x ∷ []
unfolding Spells
byte_is s x (byte b) h k = h ∙ ap (λ z. z ∷ []) (sym k)
byte_is s x _ h k = absurd k

pub end_read : {a b : SourceState} → Reads a b (Spelled (ReadsNumber 32)) 0
    → Reads a b (Spelled ReadsChain) End
unfolding Spells SpellsAll
end_read {a} {b} h = record {
  taken = h.taken;
  gave = h.gave;
  found = record { tree = end_tree; spells = (h.taken, [], sym (append_nil h.taken), index_of h, ([], [], refl, refl, refl)); read = reads_end };
}

pub more_read : {a b c d : SourceState} {x : ℕ} (rest : Box Chain Global)
    → Reads a b (Spelled (ReadsNumber 32)) 1 → Reads b c (Spelled ReadsByte) x
    → Reads c d (Spelled ReadsChain) rest.value
    → Reads a d (Spelled ReadsChain) (More x rest)
unfolding Spells SpellsAll
more_read {a} {b} {c} {d} {x} rest h k l = record {
  taken = (h.taken ++ k.taken) ++ l.taken;
  gave = gave_more (gave_more h.gave k.gave) l.gave;
  found = record {
    tree = more_tree x l.found.tree;
    spells = (
      h.taken,
      k.taken ++ l.taken,
      append_assoc h.taken k.taken l.taken,
      index_of h,
      (
        k.taken ++ l.taken,
        [],
        sym (append_nil (k.taken ++ l.taken)),
        (k.taken, l.taken, refl, byte_is k.taken x k.found.tree k.found.spells k.found.read, (l.taken, [], sym (append_nil l.taken), l.found.spells, refl)),
        refl,
      ),
    );
    read = reads_more x l.found.tree rest l.found.read;
  };
}

known_index : (a : Option (List ℕ)) (e : Error) → RefusesKnown (RefusesGroups 5 15) a e
    → RefusesKnown RefusesChain a e
known_index None e m = tt
known_index (Some s) e m = at_index s e m

pub index_fails : {a b : SourceState} {e : Error} → Fails a b (RefusesGroups 5 15) false e
    → Fails a b RefusesChain true e
index_fails {a} {b} {e} f = record {
  taken = f.taken;
  gave = f.gave;
  first = λ w n. elim (f.first w n) [ inl m ↦ inl m | inr m ↦ inr (known_index a.told e m) ];
  memory = λ m. refl;
}

pub unknown_fails : {a b : SourceState} {n : ℕ} → Reads a b (Spelled (ReadsNumber 32)) n → 2 ≤ n
    → Fails a b RefusesChain true SerdeDeCustom
unknown_fails {a} {b} {n} h k = refused_here RefusesChain h.gave (λ rest. unknown n h.taken rest (index_of h) k) (λ e. refl)

pub byte_fails : {a b c : SourceState} {e : Error} → Reads a b (Spelled (ReadsNumber 32)) 1
    → Fails b c RefusesByte false e → Fails a c RefusesChain true e
byte_fails {a} {b} {c} {e} h f = fails_after RefusesByte RefusesChain h.gave (λ rest k. at_byte h.taken rest e (index_of h) k) (λ _. refl) f

rest_refused : (s r rest : List ℕ) (x : ℕ) (e : Error) → Number 32 1 s → r ≡ x ∷ []
    → RefusesChain rest e → RefusesChain ((s ++ r) ++ rest) e
rest_refused s r rest x e n p k = subst (λ z. RefusesChain z e) (ap (λ z. s ++ (z ++ rest)) (sym p) ∙ sym (append_assoc s r rest)) (at_rest s rest x e n k)

pub rest_fails : {a b c d : SourceState} {x : ℕ} {e : Error}
    → Reads a b (Spelled (ReadsNumber 32)) 1 → Reads b c (Spelled ReadsByte) x
    → Fails c d RefusesChain true e → Fails a d RefusesChain true e
rest_fails {a} {b} {c} {d} {x} {e} h k f =
    fails_after RefusesChain RefusesChain (gave_more h.gave k.gave)
    (λ rest r. rest_refused h.taken k.taken rest x e (index_of h) (byte_is k.taken x k.found.tree k.found.spells k.found.read) r) (λ _. refl) f

pub memory_fails : {a b c d : SourceState} {x : ℕ} {v : Chain}
    → Reads a b (Spelled (ReadsNumber 32)) 1 → Reads b c (Spelled ReadsByte) x
    → Reads c d (Spelled ReadsChain) v → Fails a d RefusesChain true OutOfMemory
memory_fails h k l = no_memory RefusesChain (gave_more (gave_more h.gave k.gave) l.gave)
