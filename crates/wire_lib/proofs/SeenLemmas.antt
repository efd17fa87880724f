-- What a table has counted, answer by answer.
use Rattle.std.proofs.Common.{◌≡◌, ◌≢◌, ◌⊎◌, inl, inr, ◌<◌, ◌≤◌, ◌+◌, ◌==◌, ℕ, eqb, leb, true, false, List, [], ◌∷◌, ◌++◌, length, String, string_bytes, Global, EachIndex, slice_index_or, slice_set, length-set, refl, sym, ap, ◌∙◌, subst, arith, Result, Ok, Err, OnOk, append-nil, append_assoc, take, drop, take-append-drop}
use Rattle.std.proofs.lemmas.List.{get_or-set_same, get_or-set_other}
use Rattle.std.proofs.lemmas.Bool.{ne_eqb}
use Rattle.std.proofs.lemmas.Bool.Decides.{eqb_tells, leb_tells, nat_tests}
use Rattle.schema_table.specs.declared.value.Value.{Value}
use Rattle.link.specs.Stream.{Begun, kept, over}
use Rattle.link.specs.Pushes.{finished, begun_length}
use Rattle.link.specs.declared.receiver.Answer.{Answer}
use Rattle.link.specs.declared.receiver.Answer.TheVariants as answer
use Rattle.wire_lib.specs.Received.{are_all_values, as_list}
use Rattle.wire_lib.specs.Rates.{capped}
use Rattle.wire_lib.specs.Kinds.{kind_in}
use Rattle.wire_lib.specs.Seen.{damages_among, messages_among, HaveCounted, HasCounted, CountsToo, KeepsDamage, as_answer}
use Rattle.wire_lib.specs.Fronts.{damage_said}
use Rattle.wire_lib.specs.Tables.{IsNoted, StaysAs, last_of}
use Rattle.wire_lib.specs.declared.watching.table.Row.{Row}
use Rattle.wire_lib.specs.declared.watching.table.Table.{Table}

-- one answer more is counted by itself
damages_then : (xs : List (Answer Value)) (a : Answer Value) → damages_among (xs ++ a ∷ []) ≡ damages_among xs + damages_among (a ∷ [])
damages_then [] a = omega arith
damages_then (answer.Value v ∷ xs) a = damages_then xs a
damages_then (answer.Damaged ∷ xs) a = omega (arith, damages_then xs a)
damages_then (answer.TooLong ∷ xs) a = omega (arith, damages_then xs a)
damages_then (answer.Cut ∷ xs) a = omega (arith, damages_then xs a)

messages_then : (kind : ℕ) (xs : List (Answer Value)) (a : Answer Value) → messages_among kind (xs ++ a ∷ []) ≡ messages_among kind xs + messages_among kind (a ∷ [])
messages_then kind [] a = omega arith
messages_then kind (answer.Value v ∷ xs) a = omega (arith, messages_then kind xs a)
messages_then kind (answer.Damaged ∷ xs) a = messages_then kind xs a
messages_then kind (answer.TooLong ∷ xs) a = messages_then kind xs a
messages_then kind (answer.Cut ∷ xs) a = messages_then kind xs a

-- a cap is put on once
capped_then : (n : ℕ) → capped (capped n + 1) ≡ capped (n + 1)
capped_then n = omega arith

-- a message is counted in the row of its kind, and in no other
here : (kind : ℕ) (v : Value) → kind_in v ≡ kind → messages_among kind (as_answer v ∷ []) ≡ 1
here kind v e = grind (arith, nat_tests, e)

elsewhere : (kind : ℕ) (v : Value) → kind_in v ≢ kind → messages_among kind (as_answer v ∷ []) ≡ 0
elsewhere kind v ne = grind (arith, nat_tests, ne)

-- a row stands as it stood where no message of its kind came
stays : (kind : ℕ) (row : Row) (xs : List (Answer Value)) (a : Answer Value) → messages_among kind (a ∷ []) ≡ 0
    → row.count ≡ capped (messages_among kind xs) → row.count ≡ capped (messages_among kind (xs ++ a ∷ []))
stays kind row xs a none e = e ∙ ap capped (omega (arith, none, messages_then kind xs a))

-- and has one more where one came
grows : (kind : ℕ) (old new : Row) (xs : List (Answer Value)) (a : Answer Value) → messages_among kind (a ∷ []) ≡ 1
    → new.count ≡ capped (old.count + 1) → old.count ≡ capped (messages_among kind xs)
    → new.count ≡ capped (messages_among kind (xs ++ a ∷ []))
grows kind old new xs a one e before =
    e ∙ ap (λ n. capped (n + 1)) before ∙ capped_then (messages_among kind xs) ∙ ap capped (omega (arith, one, messages_then kind xs a))

-- rows of which one was noted
noted_rows : (rows : List Row) (old new : Row) (v : Value) (kind : ℕ) (xs : List (Answer Value)) → kind ≡ kind_in v → kind < length rows
    → old ≡ slice_index_or rows kind old → new.count ≡ capped (old.count + 1)
    → HaveCounted rows xs → HaveCounted (slice_set rows kind new) (xs ++ as_answer v ∷ [])
noted_rows rows old new v kind xs is within at more h k row lt = by (eqb_tells k kind)
  where
    fits : k < length rows
    fits = omega (arith, lt, length-set rows kind new)

    by : ((eqb k kind ≡ true) × (k ≡ kind)) ⊎ ((eqb k kind ≡ false) × (k ≢ kind))
        → (slice_index_or (slice_set rows kind new) k row).count ≡ capped (messages_among k (xs ++ as_answer v ∷ []))
    by (inl (_, e)) =
        subst (λ j. (slice_index_or (slice_set rows kind new) j row).count ≡ capped (messages_among j (xs ++ as_answer v ∷ []))) (sym e)
        (ap (λ r. r.count) (get_or-set_same rows kind new row within)
        ∙ grows kind old new xs (as_answer v) (here kind v (sym is)) more (ap (λ r. r.count) at ∙ h kind old within))
    by (inr (_, ne)) =
        ap (λ r. r.count) (get_or-set_other rows kind k new row ne)
        ∙ stays k (slice_index_or rows k row) xs (as_answer v) (elsewhere k v (λ e. ne (sym e ∙ sym is))) (h k row fits)

-- rows of which none was noted
same_rows : (rows : List Row) (a : Answer Value) (xs : List (Answer Value)) → EachIndex rows (λ k. messages_among k (a ∷ []) ≡ 0)
    → HaveCounted rows xs → HaveCounted rows (xs ++ a ∷ [])
same_rows rows a xs none h k row lt = stays k (slice_index_or rows k row) xs a (none k lt) (h k row lt)

-- a message was noted in a table
pub value_counts : (old new : Table) (v : Value) (kind : ℕ) (text : String Global) (window : ℕ) → kind ≡ kind_in v
    → (kind < length old.rows.items → (before after : Row) × (before ≡ slice_index_or old.rows.items kind before)
    × IsNoted text window before after × (new.rows.items ≡ slice_set old.rows.items kind after))
    → (length old.rows.items ≤ kind → new.rows ≡ old.rows) → new.damaged ≡ old.damaged → CountsToo (as_answer v) old new
value_counts old new v kind text window is noted none damaged xs h = record {
  damaged = damaged ∙ h.damaged ∙ ap capped (omega (arith, damages_then xs (as_answer v)));
  rows = by (leb_tells (length old.rows.items) kind);
}
  where
    by : ((leb (length old.rows.items) kind ≡ true) × (length old.rows.items ≤ kind)) ⊎ ((leb (length old.rows.items) kind ≡ false) × (kind < length old.rows.items))
        → HaveCounted new.rows.items (xs ++ as_answer v ∷ [])
    by (inl (_, past)) =
        subst (λ r. HaveCounted r.items (xs ++ as_answer v ∷ [])) (sym (none past))
        (same_rows old.rows.items (as_answer v) xs (λ k lt. elsewhere k v (λ e. absurd (omega (arith, past, lt, e, is)))) h.rows)
    by (inr (_, within)) =
        let n = noted within in
        subst (λ r. HaveCounted r (xs ++ as_answer v ∷ [])) (sym n.4)
        (noted_rows old.rows.items n.0 n.1 v kind xs is within n.2 n.3.count h.rows)

-- a damage was noted in a table
pub damage_counts : (old new : Table) (a : Answer Value) → damages_among (a ∷ []) ≡ 1 → ((k : ℕ) → messages_among k (a ∷ []) ≡ 0)
    → new.damaged ≡ capped (old.damaged + 1) → new.rows ≡ old.rows → CountsToo a old new
damage_counts old new a one none damaged rows xs h = record {
  damaged = damaged ∙ ap (λ n. capped (n + 1)) h.damaged ∙ capped_then (damages_among xs) ∙ ap capped (omega (arith, one, damages_then xs a));
  rows = subst (λ r. HaveCounted r.items (xs ++ a ∷ [])) (sym rows) (same_rows old.rows.items a xs (λ k _. none k) h.rows);
}

-- where nothing was damaged, all are values
none_damaged : (xs : List (Answer Value)) → damages_among xs ≡ 0 → are_all_values xs ≡ true
none_damaged [] e = refl
none_damaged (answer.Value v ∷ xs) e = none_damaged xs e
none_damaged (answer.Damaged ∷ xs) e = absurd (omega (arith, e))
none_damaged (answer.TooLong ∷ xs) e = absurd (omega (arith, e))
none_damaged (answer.Cut ∷ xs) e = absurd (omega (arith, e))

-- else not
some_damaged : (xs : List (Answer Value)) → 0 < damages_among xs → are_all_values xs ≡ false
some_damaged [] h = absurd (omega (arith, h))
some_damaged (answer.Value v ∷ xs) h = some_damaged xs h
some_damaged (answer.Damaged ∷ xs) h = refl
some_damaged (answer.TooLong ∷ xs) h = refl
some_damaged (answer.Cut ∷ xs) h = refl

-- whether the table knows of a damage
pub good_counted : (t : Table) (xs : List (Answer Value)) → HasCounted t xs → (t.damaged == 0) ≡ are_all_values xs
good_counted t xs h = by (eqb_tells (damages_among xs) 0)
  where
    by : ((eqb (damages_among xs) 0 ≡ true) × (damages_among xs ≡ 0)) ⊎ ((eqb (damages_among xs) 0 ≡ false) × (damages_among xs ≢ 0))
        → (t.damaged == 0) ≡ are_all_values xs
    by (inl (_, e)) = ap (λ n. n == 0) (h.damaged ∙ ap capped e) ∙ sym (none_damaged xs e)
    by (inr (_, ne)) = ne_eqb t.damaged 0 (λ e. absurd (omega (arith, e, h.damaged, ne))) ∙ sym (some_damaged xs (omega (arith, ne)))

-- what the end adds where a stretch is begun, and where none is
pub adds_cut : (b : Begun) → 0 < begun_length b → as_list (finished {V = Value} b) ≡ answer.Cut ∷ []
adds_cut (kept []) h = absurd (omega (arith, h))
adds_cut (kept (x ∷ p)) h = refl
adds_cut over h = absurd (omega (arith, h))

pub adds_none : (b : Begun) → begun_length b ≡ 0 → as_list (finished {V = Value} b) ≡ []
adds_none (kept []) e = refl
adds_none (kept (x ∷ p)) e = absurd (omega (arith, e))
adds_none over e = refl

-- a table that stays as it is has counted what it had
pub counted_still : (old new : Table) (xs : List (Answer Value)) → StaysAs old new → HasCounted old xs → HasCounted new xs
counted_still old new xs s h = record {
  damaged = s.damaged ∙ h.damaged;
  rows = subst (λ r. HaveCounted r.items xs) (sym s.rows) h.rows;
}

-- the same behind a call that may find no memory
pub damage_told : {A E : Type 0} (r : Result A E) (old new : Table) (a : Answer Value) → damages_among (a ∷ []) ≡ 1 → ((k : ℕ) → messages_among k (a ∷ []) ≡ 0)
    → OnOk r (new.damaged ≡ capped (old.damaged + 1)) → new.rows ≡ old.rows → OnOk r (CountsToo a old new)
damage_told (Ok x) old new a one none damaged rows = damage_counts old new a one none damaged rows
damage_told (Err e) old new a one none damaged rows = tt

-- the text of a damage was kept, if there was memory
pub damage_kept : {A E : Type 0} (r : Result A E) (what : List ℕ) (from place count : ℕ) (front bytes : List ℕ) (old new : Table) (text : String Global)
    → from ≡ place → front ≡ bytes → string_bytes text ≡ damage_said what from count front
    → OnOk r (new.damages.items ≡ last_of 3 (old.damages.items ++ text ∷ [])) → OnOk r (KeepsDamage what place count bytes old new)
damage_kept (Ok x) what from place count front bytes old new text at is said holds =
    (text, said ∙ ap (λ n. damage_said what n count front) at ∙ ap (λ b. damage_said what place count b) is, holds)
damage_kept (Err e) what from place count front bytes old new text at is said holds = tt

-- what holds, holds at a success
pub at_ok : {T E P : Type 0} (r : Result T E) → P → OnOk r P
at_ok (Ok x) p = p
at_ok (Err e) p = tt

-- an end in a stretch is no value
pub cut_is_bad : (xs : List (Answer Value)) → false ≡ are_all_values (xs ++ answer.Cut ∷ [])
cut_is_bad [] = refl
cut_is_bad (answer.Value v ∷ xs) = cut_is_bad xs
cut_is_bad (answer.Damaged ∷ xs) = refl
cut_is_bad (answer.TooLong ∷ xs) = refl
cut_is_bad (answer.Cut ∷ xs) = refl

-- nothing is added
pub counted_plain : (t : Table) (xs : List (Answer Value)) (b : Begun) → begun_length b ≡ 0 → HasCounted t xs → HasCounted t (xs ++ as_list (finished b))
counted_plain t xs b e h = subst (λ x. HasCounted t (xs ++ x)) (sym (adds_none b e)) (subst (λ x. HasCounted t x) (sym (append-nil xs)) h)

-- a piece in one part more
pub parts_on : (piece done rest : List ℕ) (used : ℕ) → piece ≡ done ++ rest → piece ≡ (done ++ take used rest) ++ drop used rest
parts_on piece done rest used e = e ∙ sym (append_assoc done (take used rest) (drop used rest) ∙ ap (λ x. done ++ x) (take-append-drop used rest))
