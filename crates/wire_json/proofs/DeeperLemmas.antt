-- A value that fits a type fits it to a greater depth too; and how deep the JSON nests that shows a value.
use Rattle.std.specs.Prelude.{◌≡◌, ◌≤◌, ◌&&◌, ℕ, zero, suc, List, [], ◌∷◌, zip, Bool, true, false, Option, Some, None, codes, decimal, from_bits}
use Rattle.std.specs.Fmt.{signed_decimal}
use Rattle.std.specs.Float.{Format, Float, binary32, binary64, float_is_finite}
use Rattle.std.specs.List.{AllZip, slice_get}
use Rattle.std.proofs.Common.{sym, subst, arith}
use Rattle.json.specs.Json.{Json, null, number, string, array, object, no_members, member}
use Rattle.json.specs.Tree.{depth, items_depth, members_depth}
use Rattle.json.specs.Value.{items_of}
use Rattle.json.specs.Word.{after_number}
use Rattle.postcard_tree.specs.Tree.{Tree, Trees, byte, sequence, group, part, end}
use Rattle.postcard_tree.specs.Tree.{number as wire_number}
use Rattle.postcard_tree.specs.Reading.{TakesAll, TakesArray, TakesOption, TakesSequence, TakesVariant, GroupOf}
use Rattle.schema_table.specs.declared.node.Node.{Node}
use Rattle.schema_table.specs.declared.node.Node.TheVariants as node
use Rattle.schema_table.specs.declared.schema.Names.{Names}
use Rattle.schema_table.specs.declared.schema.Names.TheVariants as names
use Rattle.schema_table.specs.declared.schema.Schema.{Schema}
use Rattle.schema_table.specs.Telling.{names_at, node_at}
use Rattle.schema_table.specs.declared.integer.Integer.{Integer}
use Rattle.schema_table.specs.declared.integer.Integer.TheVariants as integers
use Rattle.schema_table.specs.declared.value.Value.{Value, out-Value}
use Rattle.schema_table.specs.declared.value.Value.TheOpen.{Value-F}
use Rattle.schema_table.specs.Schemas.{SchemaTakes, SchemaHas, TakesFields, TakesPayload, TakesNode, TakesPlace, NodeHas, PlaceHas, OfOption, OfList, OfGroup, OfVariant, EachHas, FieldsHave, PayloadHas}
use Rattle.schema_table.specs.Floats.{ShowsFinite}
use Rattle.wire_json.specs.InRange.{Fits}
use Rattle.schema_table.specs.Looks.{IsPresentBy, IsUnder, is_byte_node, is_empty_named, is_float_named, is_map_named, null_within, pair_node, first_is_key, variant_named}
use Rattle.schema_table.specs.Printed.{digits_by, integer_json, byte_items, bytes_json, plain_json, members_by, called, Shows, ShowsAll, ShowsArray, ShowsChosen, ShowsEnum, ShowsField, ShowsFirst, ShowsFixed, ShowsFloat, ShowsHeld, ShowsInteger, ShowsList, ShowsMap, ShowsNamed, ShowsNode, ShowsObject, ShowsOption, ShowsPair, ShowsPart, ShowsStruct, ShowsVariant, two_values}

-- trees

all_more : (takes more : Tree → Type 0) → ((t : Tree) → takes t → more t) → (ts : Trees) → TakesAll takes ts → TakesAll more ts
all_more takes more f end h = tt
all_more takes more f (part t ts) h = (f t h.0, all_more takes more f ts h.1)

option_more : (takes more : Tree → Type 0) → ((t : Tree) → takes t → more t) → (t : Tree) → TakesOption takes t → TakesOption more t
option_more takes more f (byte b) h = h
option_more takes more f (group (part (byte b) (part t end))) h = (h.0, f t h.1)
option_more takes more f _ h = absurd h

sequence_more : (takes more : Tree → Type 0) → ((t : Tree) → takes t → more t) → (t : Tree) → TakesSequence takes t → TakesSequence more t
sequence_more takes more f (sequence ts) h = (h.0, all_more takes more f ts h.1)
sequence_more takes more f _ h = absurd h

array_more : (takes more : Tree → Type 0) → ((t : Tree) → takes t → more t) → (n : ℕ) (t : Tree) → TakesArray n takes t → TakesArray n more t
array_more takes more f n (group ts) h = (all_more takes more f ts h.0, h.1)
array_more takes more f n _ h = absurd h

fields_more : (takes more : ℕ → Tree → Type 0) → ((i : ℕ) (t : Tree) → takes i t → more i t) → (is : List ℕ) (ts : Trees) → TakesFields takes is ts → TakesFields more is ts
fields_more takes more f [] ts h = h
fields_more takes more f (i ∷ is) end h = absurd h
fields_more takes more f (i ∷ is) (part t ts) h = (f i t h.0, fields_more takes more f is ts h.1)

group_more : (takes more : Trees → Type 0) → ((ts : Trees) → takes ts → more ts) → (t : Tree) → GroupOf takes t → GroupOf more t
group_more takes more f (group ts) h = f ts h
group_more takes more f _ h = absurd h

payload_more : (takes more : ℕ → Tree → Type 0) → ((i : ℕ) (t : Tree) → takes i t → more i t) → (is : List ℕ) (n : ℕ) (t : Tree) → TakesPayload takes is n t → TakesPayload more is n t
payload_more takes more f [] n t h = absurd h
payload_more takes more f (i ∷ is) zero t h = f i t h
payload_more takes more f (i ∷ is) (suc n) t h = payload_more takes more f is n t h

variant_more : (takes more : ℕ → Tree → Type 0) → ((n : ℕ) (t : Tree) → takes n t → more n t) → (t : Tree) → TakesVariant takes t → TakesVariant more t
variant_more takes more f (group (part (wire_number w i) (part t end))) h = (h.0, h.1, f i t h.2)
variant_more takes more f _ h = absurd h

node_more : (takes more : ℕ → Tree → Type 0) → ((i : ℕ) (t : Tree) → takes i t → more i t) → (n : Node) (t : Tree) → TakesNode takes n t → TakesNode more n t
node_more takes more f (node.Option i) t h = option_more (takes i) (more i) (f i) t h
node_more takes more f (node.List i) t h = sequence_more (takes i) (more i) (f i) t h
node_more takes more f (node.ListUpTo n i) t h = (sequence_more (takes i) (more i) (f i) t h.0, h.1)
node_more takes more f (node.Array n i) t h = array_more (takes i) (more i) (f i) n t h
node_more takes more f (node.Struct is) t h = group_more (TakesFields takes is.items) (TakesFields more is.items) (fields_more takes more f is.items) t h
node_more takes more f (node.Enum is) t h = variant_more (TakesPayload takes is.items) (TakesPayload more is.items) (payload_more takes more f is.items) t h
node_more takes more f _ t h = h

place_more : (takes more : ℕ → Tree → Type 0) → ((i : ℕ) (t : Tree) → takes i t → more i t) → (o : Option Node) (t : Tree) → TakesPlace takes o t → TakesPlace more o t
place_more takes more f None t h = h
place_more takes more f (Some n) t h = node_more takes more f n t h

takes_deeper : (d f : ℕ) (nodes : List Node) (i : ℕ) (t : Tree) → d ≤ f → SchemaTakes d nodes i t → SchemaTakes f nodes i t
unfolding SchemaTakes
takes_deeper zero f nodes i t l h = absurd h
takes_deeper (suc d) zero nodes i t l h = absurd (omega (arith, l))
takes_deeper (suc d) (suc f) nodes i t l h = place_more (SchemaTakes d nodes) (SchemaTakes f nodes) (λ k u x. takes_deeper d f nodes k u (omega (arith, l)) x) (slice_get nodes i) t h

-- values

each_more : (has more : Value → Type 0) → ((v : Value) → has v → more v) → (vs : List Value) → EachHas has vs → EachHas more vs
each_more has more f [] h = tt
each_more has more f (v ∷ vs) h = (f v h.0, each_more has more f vs h.1)

fields_have_more : (has more : ℕ → Value → Type 0) → ((i : ℕ) (v : Value) → has i v → more i v) → (is : List ℕ) (vs : List Value) → FieldsHave has is vs → FieldsHave more is vs
fields_have_more has more f [] [] h = tt
fields_have_more has more f [] (v ∷ vs) h = absurd h
fields_have_more has more f (i ∷ is) [] h = absurd h
fields_have_more has more f (i ∷ is) (v ∷ vs) h = (f i v h.0, fields_have_more has more f is vs h.1)

payload_has_more : (has more : ℕ → Value → Type 0) → ((i : ℕ) (v : Value) → has i v → more i v) → (is : List ℕ) (n : ℕ) (v : Value) → PayloadHas has is n v → PayloadHas more is n v
payload_has_more has more f [] n v h = absurd h
payload_has_more has more f (i ∷ is) zero v h = f i v h
payload_has_more has more f (i ∷ is) (suc n) v h = payload_has_more has more f is n v h

of_option_more : (has more : Value → Type 0) → ((v : Value) → has v → more v) → (t : Value-F Value) → OfOption has t → OfOption more t
of_option_more has more f Value-F.Absent h = tt
of_option_more has more f (Value-F.Present v) h = f v.value h
of_option_more has more f _ h = absurd h

of_list_more : (have more : List Value → Type 0) → ((vs : List Value) → have vs → more vs) → (t : Value-F Value) → OfList have t → OfList more t
of_list_more have more f (Value-F.List v) h = f v.items h
of_list_more have more f _ h = absurd h

of_group_more : (have more : List Value → Type 0) → ((vs : List Value) → have vs → more vs) → (t : Value-F Value) → OfGroup have t → OfGroup more t
of_group_more have more f (Value-F.Group v) h = f v.items h
of_group_more have more f _ h = absurd h

of_variant_more : (has more : ℕ → Value → Type 0) → ((n : ℕ) (v : Value) → has n v → more n v) → (t : Value-F Value) → OfVariant has t → OfVariant more t
of_variant_more has more f (Value-F.Variant n v) h = f n v.value h
of_variant_more has more f _ h = absurd h

node_has_more : (has more : ℕ → Value → Type 0) → ((i : ℕ) (v : Value) → has i v → more i v) → (n : Node) (t : Value-F Value) → NodeHas has n t → NodeHas more n t
node_has_more has more f (node.Option i) t h = of_option_more (has i) (more i) (f i) t h
node_has_more has more f (node.List i) t h = of_list_more (EachHas (has i)) (EachHas (more i)) (each_more (has i) (more i) (f i)) t h
node_has_more has more f (node.ListUpTo n i) t h = of_list_more (EachHas (has i)) (EachHas (more i)) (each_more (has i) (more i) (f i)) t h
node_has_more has more f (node.Array n i) t h = of_group_more (EachHas (has i)) (EachHas (more i)) (each_more (has i) (more i) (f i)) t h
node_has_more has more f (node.Struct is) t h = of_group_more (FieldsHave has is.items) (FieldsHave more is.items) (fields_have_more has more f is.items) t h
node_has_more has more f (node.Enum is) t h = of_variant_more (PayloadHas has is.items) (PayloadHas more is.items) (payload_has_more has more f is.items) t h
node_has_more has more f _ t h = h

place_has_more : (has more : ℕ → Value → Type 0) → ((i : ℕ) (v : Value) → has i v → more i v) → (o : Option Node) (v : Value) → PlaceHas has o v → PlaceHas more o v
place_has_more has more f None v h = h
place_has_more has more f (Some n) v h = node_has_more has more f n (out-Value v) h

has_deeper : (d f : ℕ) (nodes : List Node) (i : ℕ) (v : Value) → d ≤ f → SchemaHas d nodes i v → SchemaHas f nodes i v
unfolding SchemaHas
has_deeper zero f nodes i v l h = absurd h
has_deeper (suc d) zero nodes i v l h = absurd (omega (arith, l))
has_deeper (suc d) (suc f) nodes i v l h = place_has_more (SchemaHas d nodes) (SchemaHas f nodes) (λ k u x. has_deeper d f nodes k u (omega (arith, l)) x) (slice_get nodes i) v h

pub fits_deeper : (schema : Schema) (d f i : ℕ) (v : Value) → d ≤ f → Fits schema d i v → Fits schema f i v
fits_deeper schema d f i v l h = ((takes_deeper d f schema.nodes.items i _ l h.0.0, h.0.1, has_deeper d f schema.nodes.items i v l h.0.2), h.1)

-- how deep JSON nests

same_depth : (j k : Json) (n : ℕ) → j ≡ k → depth k ≤ n → depth j ≤ n
same_depth j k n e h = subst (λ z. depth z ≤ n) (sym e) h

flat_digits : (o : Option (List ℕ)) (s : List ℕ) → depth (digits_by o s) ≤ 0
flat_digits None s = omega arith
flat_digits (Some []) s = omega arith
flat_digits (Some (c ∷ cs)) s = omega arith

flat_integer : (i : Integer) → depth (integer_json i) ≤ 0
flat_integer (integers.U128 n) = flat_digits (after_number (decimal n)) (decimal n)
flat_integer (integers.I128 z) = flat_digits (after_number (signed_decimal z)) (signed_decimal z)
flat_integer _ = omega arith

flat_items : (bs : List ℕ) → items_depth (byte_items bs) ≤ 0
flat_items [] = omega arith
flat_items (b ∷ bs) = omega (arith, flat_items bs)

flat_bytes : (hex : Bool) (bs : List ℕ) → depth (bytes_json hex bs) ≤ 1
flat_bytes true bs = omega arith
flat_bytes false bs = omega (arith, flat_items bs)

plain_depth : (hex : Bool) (t : Value-F Value) → depth (plain_json hex t) ≤ 1
plain_depth hex (Value-F.U128 n) = omega (arith, flat_digits (after_number (decimal n)) (decimal n))
plain_depth hex (Value-F.I128 z) = omega (arith, flat_digits (after_number (signed_decimal z)) (signed_decimal z))
plain_depth hex (Value-F.LE i) = omega (arith, flat_integer i)
plain_depth hex (Value-F.BE i) = omega (arith, flat_integer i)
plain_depth hex (Value-F.Bytes v) = flat_bytes hex v.items
plain_depth hex _ = omega arith

plainly : (hex : Bool) (t : Value-F Value) (j : Json) (e : ℕ) → j ≡ plain_json hex t → depth j ≤ suc e
plainly hex t j e h = same_depth j (plain_json hex t) (suc e) h (omega (arith, plain_depth hex t))

-- what is shown of each nests so deep at most
abbrev Nests : {A : Type 0} → ℕ → (A → Json → Type 0) → Type 0
Nests {A} e shows = (x : A) (z : Json) → shows x z → depth z ≤ e

items_nest : {A : Type 0} (e : ℕ) (shows : A → Json → Type 0) → Nests e shows → (xs : List A) (js : List Json) → AllZip shows xs js → items_depth (items_of js) ≤ e
items_nest e shows f [] [] h = omega arith
items_nest e shows f [] (j ∷ js) h = absurd h
items_nest e shows f (x ∷ xs) [] h = absurd h
items_nest e shows f (x ∷ xs) (j ∷ js) h = omega (arith, f x j h.0, items_nest e shows f xs js h.1)

members_nest : {A : Type 0} (e : ℕ) (shows : A → List ℕ × Json → Type 0) → ((x : A) (m : List ℕ × Json) → shows x m → depth m.1 ≤ e) → (xs : List A) (ms : List (List ℕ × Json)) → AllZip shows xs ms → members_depth (members_by ms) ≤ e
members_nest e shows f [] [] h = omega arith
members_nest e shows f [] (m ∷ ms) h = absurd h
members_nest e shows f (x ∷ xs) [] h = absurd h
members_nest e shows f (x ∷ xs) (m ∷ ms) h = omega (arith, f x m h.0, members_nest e shows f xs ms h.1)

array_nests : {A : Type 0} (e : ℕ) (shows : A → Json → Type 0) → Nests e shows → (xs : List A) (j : Json) → ShowsArray shows xs j → depth j ≤ suc e
array_nests e shows f xs j h = same_depth j (array (items_of h.0)) (suc e) h.1 (omega (arith, items_nest e shows f xs h.0 h.2))

object_nests : {A : Type 0} (e : ℕ) (shows : A → List ℕ × Json → Type 0) → ((x : A) (m : List ℕ × Json) → shows x m → depth m.1 ≤ e) → (xs : List A) (j : Json) → ShowsObject shows xs j → depth j ≤ suc e
object_nests e shows f xs j h = same_depth j (object (members_by h.0)) (suc e) h.1 (omega (arith, members_nest e shows f xs h.0 h.2))

under_nests : (e : ℕ) (s : List ℕ) (kind : Json → Type 0) → ((z : Json) → kind z → depth z ≤ e) → (j : Json) → IsUnder s kind j → depth j ≤ suc e
under_nests e s kind f j h = same_depth j (object (member s h.0 no_members)) (suc e) h.1 (omega (arith, f h.0 h.2))

present_nests : (b : Bool) (e : ℕ) (kind : Json → Type 0) → ((z : Json) → kind z → depth z ≤ e) → (j : Json) → IsPresentBy b kind j → depth j ≤ suc e
present_nests true e kind f j h = under_nests e (codes "Some") kind f j h
present_nests false e kind f j h = omega (arith, f j h)

all_nest : (b : Bool) (e : ℕ) (shows : Value → Json → Type 0) → Nests e shows → (vs : List Value) (j : Json) → ShowsAll b shows vs j → depth j ≤ suc e
all_nest true e shows f vs j h = same_depth j _ (suc e) h (omega arith)
all_nest false e shows f vs j h = array_nests e shows f vs j h

held_nests : (schema : Schema) (e : ℕ) (shows : ℕ → Value → Json → Type 0) → ((i : ℕ) → Nests e (shows i)) → (p : Option (ℕ × ℕ)) (two : Option (Value × Value)) (m : List ℕ × Json) → ShowsHeld schema shows p two m → depth m.1 ≤ e
held_nests schema e shows f None two m h = same_depth m.1 null e h (omega arith)
held_nests schema e shows f (Some p) None m h = same_depth m.1 null e h (omega arith)
held_nests schema e shows f (Some p) (Some two) m h = f p.1 two.1 m.1 h.1

map_nests : (b hex : Bool) (schema : Schema) (e k : ℕ) (shows : ℕ → Value → Json → Type 0) → ((i : ℕ) → Nests e (shows i)) → (vs : List Value) (j : Json) → ShowsMap b hex schema k shows vs j → depth j ≤ suc e
map_nests true hex schema e k shows f vs j h =
    object_nests e (ShowsPair schema k shows) (λ x m g. held_nests schema e shows f (pair_node (node_at schema k)) (two_values (out-Value x)) m g) vs j h
map_nests false hex schema e k shows f vs j h = all_nest (hex && is_byte_node (node_at schema k)) e (shows k) (f k) vs j h

list_nests : (hex : Bool) (schema : Schema) (e i k : ℕ) (shows : ℕ → Value → Json → Type 0) → ((i : ℕ) → Nests e (shows i)) → (t : Value-F Value) (j : Json) → ShowsList hex schema i k shows t j → depth j ≤ suc e
list_nests hex schema e i k shows f (Value-F.List v) j h = map_nests (is_map_named (names_at schema i) && first_is_key schema (pair_node (node_at schema k))) hex schema e k shows f v.items j h
list_nests hex schema e i k shows f t j h = plainly hex t j e h

option_nests : (hex : Bool) (schema : Schema) (e k : ℕ) (shows : ℕ → Value → Json → Type 0) → ((i : ℕ) → Nests e (shows i)) → (t : Value-F Value) (j : Json) → ShowsOption hex schema k (shows k) t j → depth j ≤ suc e
option_nests hex schema e k shows f (Value-F.Present v) j h = present_nests (null_within _ schema k) e (shows k v.value) (f k v.value) j h
option_nests hex schema e k shows f t j h = plainly hex t j e h

fixed_nests : (hex : Bool) (schema : Schema) (e k : ℕ) (shows : ℕ → Value → Json → Type 0) → ((i : ℕ) → Nests e (shows i)) → (t : Value-F Value) (j : Json) → ShowsFixed hex schema k (shows k) t j → depth j ≤ suc e
fixed_nests hex schema e k shows f (Value-F.Group v) j h = all_nest (hex && is_byte_node (node_at schema k)) e (shows k) (f k) v.items j h
fixed_nests hex schema e k shows f t j h = plainly hex t j e h

first_nests : {A : Type 0} (e : ℕ) (shows : A → Json → Type 0) → Nests e shows → (xs : List A) (j : Json) → ShowsFirst shows xs j → depth j ≤ suc e
first_nests e shows f [] j h = same_depth j null (suc e) h (omega arith)
first_nests e shows f (x ∷ xs) j h = omega (arith, f x j h)

named_nests : (named : Option Names) (e : ℕ) (shows : ℕ → Value → Json → Type 0) → ((i : ℕ) → Nests e (shows i)) → (is : List ℕ) (vs : List Value) (j : Json) → ShowsNamed named is shows vs j → depth j ≤ suc e
named_nests (Some names.Unit) e shows f is vs j h = same_depth j null (suc e) h (omega arith)
named_nests (Some names.Empty) e shows f is vs j h = same_depth j null (suc e) h (omega arith)
named_nests (Some names.Newtype) e shows f is vs j h = first_nests e (ShowsPart shows) (λ p z g. f p.0 p.1 z g) (zip is vs) j h
named_nests (Some (names.Fields ns)) e shows f is vs j h = object_nests e (ShowsField shows) (λ p m g. f p.1.0 p.1.1 m.1 g.1) (called ns.items (zip is vs)) j h
named_nests None e shows f is vs j h = array_nests e (ShowsPart shows) (λ p z g. f p.0 p.1 z g) (zip is vs) j h
named_nests (Some _) e shows f is vs j h = array_nests e (ShowsPart shows) (λ p z g. f p.0 p.1 z g) (zip is vs) j h

struct_nests : (hex : Bool) (named : Option Names) (e : ℕ) (shows : ℕ → Value → Json → Type 0) → ((i : ℕ) → Nests e (shows i)) → (is : List ℕ) (t : Value-F Value) (j : Json) → ShowsStruct hex named is shows t j → depth j ≤ suc e
struct_nests hex named e shows f is (Value-F.Group v) j h = named_nests named e shows f is v.items j h
struct_nests hex named e shows f is t j h = plainly hex t j e h

chosen_nests : (b : Bool) (s : List ℕ) (e : ℕ) (kind : Json → Type 0) → ((z : Json) → kind z → depth z ≤ e) → (j : Json) → ShowsChosen b s kind j → depth j ≤ suc e
chosen_nests true s e kind f j h = same_depth j (string s) (suc e) h (omega arith)
chosen_nests false s e kind f j h = under_nests e s kind f j h

variant_nests : (schema : Schema) (s : Option (List ℕ)) (k : Option ℕ) (n e : ℕ) (shows : ℕ → Value → Json → Type 0) → ((i : ℕ) → Nests e (shows i)) → (v : Value) (j : Json) → ShowsVariant schema s k n shows v j → depth j ≤ suc e
variant_nests schema None k n e shows f v j h = same_depth j (number (decimal n)) (suc e) h (omega arith)
variant_nests schema (Some s) None n e shows f v j h = same_depth j (number (decimal n)) (suc e) h (omega arith)
variant_nests schema (Some s) (Some k) n e shows f v j h = chosen_nests (is_empty_named (names_at schema k)) s e (shows k v) (f k v) j h

enum_nests : (hex : Bool) (schema : Schema) (e i : ℕ) (is : List ℕ) (shows : ℕ → Value → Json → Type 0) → ((i : ℕ) → Nests e (shows i)) → (t : Value-F Value) (j : Json) → ShowsEnum hex schema i is shows t j → depth j ≤ suc e
enum_nests hex schema e i is shows f (Value-F.Variant n v) j h = variant_nests schema (variant_named (names_at schema i) n) (slice_get is n) n e shows f v.value j h
enum_nests hex schema e i is shows f t j h = plainly hex t j e h

finite_nests : (b : Bool) (f : Format) (x : Float) (word : List ℕ) (j : Json) → ShowsFinite b f x word j → depth j ≤ 0
finite_nests true f x word j h = same_depth j (number h.0) 0 h.1 (omega arith)
finite_nests false f x word j h = same_depth j (string word) 0 h (omega arith)

float_nests : (i : Integer) (j : Json) → ShowsFloat i j → depth j ≤ 0
float_nests (integers.U32 n) j h = finite_nests (float_is_finite (from_bits binary32 n)) _ _ _ j h
float_nests (integers.U64 n) j h = finite_nests (float_is_finite (from_bits binary64 n)) _ _ _ j h
float_nests i j h = same_depth j (integer_json i) 0 h (flat_integer i)

integer_nests : (b hex : Bool) (t : Value-F Value) (j : Json) (e : ℕ) → ShowsInteger b hex t j → depth j ≤ suc e
integer_nests true hex (Value-F.LE i) j e h = omega (arith, float_nests i j h)
integer_nests true hex t j e h = plainly hex t j e h
integer_nests false hex t j e h = plainly hex t j e h

node_nests : (hex : Bool) (schema : Schema) (e i : ℕ) (shows : ℕ → Value → Json → Type 0) → ((i : ℕ) → Nests e (shows i)) → (o : Option Node) (t : Value-F Value) (j : Json) → ShowsNode hex schema i shows o t j → depth j ≤ suc e
node_nests hex schema e i shows f (Some (node.Option k)) t j h = option_nests hex schema e k shows f t j h
node_nests hex schema e i shows f (Some (node.List k)) t j h = list_nests hex schema e i k shows f t j h
node_nests hex schema e i shows f (Some (node.ListUpTo n k)) t j h = list_nests hex schema e i k shows f t j h
node_nests hex schema e i shows f (Some (node.Array n k)) t j h = fixed_nests hex schema e k shows f t j h
node_nests hex schema e i shows f (Some (node.Struct is)) t j h = struct_nests hex (names_at schema i) e shows f is.items t j h
node_nests hex schema e i shows f (Some (node.Enum is)) t j h = enum_nests hex schema e i is.items shows f t j h
node_nests hex schema e i shows f (Some (node.LE k)) t j h = integer_nests (is_float_named (names_at schema i)) hex t j e h
node_nests hex schema e i shows f None t j h = plainly hex t j e h
node_nests hex schema e i shows f (Some n) t j h = plainly hex t j e h

-- what is shown of a value nests in a bracket at most for each node
pub shown_nests : (hex : Bool) (schema : Schema) (e i : ℕ) (v : Value) (j : Json) → Shows hex schema e i v j → depth j ≤ e
unfolding Shows
shown_nests hex schema zero i v j h = same_depth j null 0 h (omega arith)
shown_nests hex schema (suc e) i v j h = node_nests hex schema e i (Shows hex schema e) (λ k x z g. shown_nests hex schema e k x z g) (node_at schema i) (out-Value v) j h
