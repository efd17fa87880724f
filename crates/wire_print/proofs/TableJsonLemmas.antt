-- Arrays among the members of an object.
use Rattle.std.proofs.Common.{◌≡◌, ◌⊎◌, inl, inr, ℕ, Option, String, length, refl, arith, Result, OnOk, List, [], ◌∷◌, ◌++◌, flat_map, sym, ap, ◌∙◌, append_assoc}
use Rattle.std.proofs.lemmas.List.{append-nil}
use Rattle.std.proofs.lemmas.Grind.{flat_map-append}
use Rattle.json.specs.Json.{Json, array, object}
use Rattle.json.specs.Token.{Token, begin_object, end_object, begin_array, end_array, key}
use Rattle.json.specs.Tree.{json_tokens, items_tokens, members_tokens}
use Rattle.json.specs.Value.{items_of}
use Rattle.schema_table.specs.declared.node.Node.{Node}
use Rattle.schema_table.specs.declared.schema.Names.{Names}
use Rattle.wire_print.specs.Appended.{member_tokens}
use Rattle.schema_table.specs.Printed.{members_by}
use Rattle.wire_print.specs.TableJson.{parts_json, nodes_json}
use Rattle.wire_print.specs.TokenLaws.{array_tokens, object_tokens}
use Rattle.std.proofs.lemmas.Result.{on_ok_weaker}

-- members behind others
pub members_then : (a b c : List Token) (xs ys : List (List ℕ × Json)) → b ≡ a ++ flat_map member_tokens xs → c ≡ b ++ flat_map member_tokens ys → c ≡ a ++ flat_map member_tokens (xs ++ ys)
members_then a b c xs ys e f = f ∙ ap (λ t. t ++ flat_map member_tokens ys) e ∙ append_assoc a (flat_map member_tokens xs) (flat_map member_tokens ys) ∙ ap (λ t. a ++ t) (sym (flat_map-append member_tokens xs ys))

-- a member that is an array was appended, element by element
pub array_member : {E : Type 0} (r : Result (Unit {0}) E) (old named begun mid ended : List Token) (k : List ℕ) (js left : List Json) → named ≡ old ++ key k ∷ [] → begun ≡ named ++ begin_array ∷ []
    → mid ++ flat_map json_tokens left ≡ begun ++ flat_map json_tokens js → left ≡ [] → OnOk r (ended ≡ mid ++ end_array ∷ []) → OnOk r (ended ≡ old ++ flat_map member_tokens ((k, array (items_of js)) ∷ []))
array_member r old named begun mid ended k js left n b m l h =
    let opened = key k ∷ begin_array ∷ [] in
    let start : begun ≡ old ++ opened = b ∙ ap (λ t. t ++ begin_array ∷ []) n ∙ append_assoc old (key k ∷ []) (begin_array ∷ []) in
    let all : mid ≡ begun ++ flat_map json_tokens js = sym (append-nil mid) ∙ ap (λ js. mid ++ flat_map json_tokens js) (sym l) ∙ m in
    on_ok_weaker r
    (λ e.
    e ∙ ap (λ t. t ++ end_array ∷ []) (all ∙ ap (λ t. t ++ flat_map json_tokens js) start)
    ∙ append_assoc (old ++ opened) (flat_map json_tokens js) (end_array ∷ [])
    ∙ ap (λ t. (old ++ opened) ++ t) (array_tokens js)
    ∙ append_assoc old opened (items_tokens (items_of js))
    ∙ ap (λ t. old ++ t) (sym (append-nil (key k ∷ begin_array ∷ items_tokens (items_of js))))) h

-- an object was appended, member by member
pub object_shown : {E : Type 0} (r : Result (Unit {0}) E) (old begun mid ended : List Token) (ms : List (List ℕ × Json)) → begun ≡ old ++ begin_object ∷ [] → mid ≡ begun ++ flat_map member_tokens ms
    → OnOk r (ended ≡ mid ++ end_object ∷ []) → OnOk r (ended ≡ old ++ json_tokens (object (members_by ms)))
object_shown r old begun mid ended ms b m h =
    on_ok_weaker r
    (λ e.
    e ∙ ap (λ t. t ++ end_object ∷ []) (m ∙ ap (λ t. t ++ flat_map member_tokens ms) b)
    ∙ append_assoc (old ++ begin_object ∷ []) (flat_map member_tokens ms) (end_object ∷ [])
    ∙ ap (λ t. (old ++ begin_object ∷ []) ++ t) (object_tokens ms)
    ∙ append_assoc old (begin_object ∷ []) (members_tokens (members_by ms))) h

-- no part is left where there is no name, or no index
pub parts_end : {A : Type 0} (ss : List (String A)) (ns : List ℕ) → (length ss ≡ 0) ⊎ (length ns ≡ 0) → parts_json ss ns ≡ []
parts_end [] ns h = refl
parts_end (s ∷ ss) [] h = refl
parts_end (s ∷ ss) (n ∷ ns) (inl e) = absurd (omega (arith, e))
parts_end (s ∷ ss) (n ∷ ns) (inr e) = absurd (omega (arith, e))

pub nodes_end : (ns : List Node) (ms : List Names) (ss : List (Option ℕ)) → (length ns ≡ 0) ⊎ ((length ms ≡ 0) ⊎ (length ss ≡ 0)) → nodes_json ns ms ss ≡ []
nodes_end [] ms ss h = refl
nodes_end (n ∷ ns) [] ss h = refl
nodes_end (n ∷ ns) (m ∷ ms) [] h = refl
nodes_end (n ∷ ns) (m ∷ ms) (s ∷ ss) (inl e) = absurd (omega (arith, e))
nodes_end (n ∷ ns) (m ∷ ms) (s ∷ ss) (inr (inl e)) = absurd (omega (arith, e))
nodes_end (n ∷ ns) (m ∷ ms) (s ∷ ss) (inr (inr e)) = absurd (omega (arith, e))
