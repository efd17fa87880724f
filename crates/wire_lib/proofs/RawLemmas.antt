-- Messages without frames that hold no value.
use Rattle.std.proofs.Common.{◌≡◌, ◌≢◌, ◌⊎◌, ℕ, true, List, ◌++◌, length, codes, inl, inr, sym, ap, ◌∙◌, append_assoc}
use Rattle.postcard_tree.specs.Spelling.{short}
use Rattle.postcard_de.specs.Answer.{ReadsFront}
use Rattle.schema_table.specs.declared.value.Value.{Value}
use Rattle.schema_table.specs.Values.{tree_of}
use Rattle.schemas.specs.SchemaLaws.{schema_laws}
use Rattle.link.specs.Judged.{front_laws}
use Rattle.wire_lib.specs.declared.receive.Reading.{Reading}
use Rattle.wire_lib.specs.Received.{read_by}
use Rattle.wire_lib.specs.Raw.{ReadsNone, ShowsFront, ShowsDamage}
use Rattle.wire_lib.specs.Said.{stretch_line}
use Rattle.wire_lib.specs.Summed.{summed_laws}

-- two values that are read from one message have one tree
one_tree : (r : Reading) (message rest rest' : List ℕ) (v w : Value) → ReadsFront (read_by r) message rest v
    → ReadsFront (read_by r) message rest' w → tree_of w ≡ tree_of v
one_tree r message rest rest' v w h k =
    let laws = summed_laws r.summed (front_laws (schema_laws r.depth r.schema.now.nodes.items r.place)) in
    let i = laws.once h.spelled.tree k.spelled.tree h.front k.front rest rest' (laws.taken h.spelled.tree v h.spelled.read) (laws.taken k.spelled.tree w k.spelled.read) h.spelled.spells k.spelled.spells (sym h.whole ∙ k.whole) in
    k.spelled.read.0.1 ∙ sym i.1 ∙ sym h.spelled.read.0.1

-- strictly, a message that isn't the encoding of the value that is read from it holds none
pub damaged_strictly : (r : Reading) (message rest lines lines' : List ℕ) (v : Value) → ReadsFront (read_by r) message rest v
    → r.strict ≡ true → message ≢ short (tree_of v)
    → lines' ≡ lines ++ stretch_line (codes "damaged") 0 (length message)
    → ShowsFront r message lines lines' ⊎ ShowsDamage r message lines lines'
damaged_strictly r message rest lines lines' v h strict differs said =
    inr (λ rest' w k. (strict, λ e. differs (e ∙ ap short (one_tree r message rest rest' v w h k))), inl said)

-- a message from which none is read holds none
pub damaged : (r : Reading) (message lines lines' what : List ℕ) → ReadsNone r message
    → (what ≡ codes "damaged") ⊎ (what ≡ codes "too_deep")
    → lines' ≡ lines ++ stretch_line what 0 (length message)
    → ShowsFront r message lines lines' ⊎ ShowsDamage r message lines lines'
damaged r message lines lines' what none word said =
    inr (
      λ rest v h. absurd (none rest v h),
      elim word [
        | inl e ↦ inl (said ∙ ap (λ x. lines ++ stretch_line x 0 (length message)) e)
        | inr e ↦ inr (said ∙ ap (λ x. lines ++ stretch_line x 0 (length message)) e)
      ],
    )

-- two lines were appended, one after the other
pub both_said : (lines first both a b : List ℕ) → first ≡ lines ++ a → both ≡ first ++ b → both ≡ lines ++ (a ++ b)
both_said lines first both a b p q = q ∙ ap (λ x. x ++ b) p ∙ append_assoc lines a b
