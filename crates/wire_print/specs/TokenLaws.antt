-- Tokens that are appended one after another, and their texts.
use Rattle.std.specs.Prelude.{◌≡◌, ℕ, List, [], ◌∷◌, ◌++◌, flat_map, refl}
use Rattle.std.specs.Str.{IsUtf8}
use Rattle.std.proofs.Common.{sym, ap, ◌∙◌, subst, append_assoc}
use Rattle.json.specs.Json.{Json}
use Rattle.json.specs.Lex.{tokens}
use Rattle.json.specs.Print.{print}
use Rattle.json.specs.Token.{Token, end_object, end_array}
use Rattle.json.specs.Tree.{json_tokens, items_tokens, members_tokens}
use Rattle.json.specs.Value.{items_of}
use Rattle.wire_print.specs.Appended.{member_tokens}
use Rattle.schema_table.specs.Printed.{members_by}

-- the tokens of elements, up to the bracket
pub array_tokens : (js : List Json) → flat_map json_tokens js ++ end_array ∷ [] ≡ items_tokens (items_of js)
array_tokens [] = refl
array_tokens (j ∷ js) = append_assoc (json_tokens j) (flat_map json_tokens js) (end_array ∷ []) ∙ ap (λ t. json_tokens j ++ t) (array_tokens js)

-- the tokens of members, up to the brace
pub object_tokens : (ms : List (List ℕ × Json)) → flat_map member_tokens ms ++ end_object ∷ [] ≡ members_tokens (members_by ms)
object_tokens [] = refl
object_tokens (m ∷ ms) = append_assoc (member_tokens m) (flat_map member_tokens ms) (end_object ∷ []) ∙ ap (λ t. member_tokens m ++ t) (object_tokens ms)

-- a text that begins with nothing is the text of what was appended
pub text_shown : (text before : List ℕ) (old new ts : List Token) → text ≡ before ++ print new → before ≡ [] → old ≡ [] → new ≡ old ++ ts → text ≡ print ts
text_shown text before old new ts shown nothing none all = shown ∙ ap (λ b. b ++ print new) nothing ∙ ap print (all ∙ ap (λ t. t ++ ts) none)

-- it is read as that
pub text_read : (text : List ℕ) (old new ts : List Token) → tokens (print new) ≡ new → old ≡ [] → new ≡ old ++ ts → text ≡ print ts → tokens text ≡ ts
text_read text old new ts back none all shown = let same = all ∙ ap (λ t. t ++ ts) none in ap tokens (shown ∙ ap print (sym same)) ∙ back ∙ same

-- and it is UTF-8
pub text_utf8 : (text before : List ℕ) (new : List Token) → text ≡ before ++ print new → before ≡ [] → IsUtf8 (print new) → IsUtf8 text
text_utf8 text before new shown nothing utf8 = subst IsUtf8 (sym (shown ∙ ap (λ b. b ++ print new) nothing)) utf8
