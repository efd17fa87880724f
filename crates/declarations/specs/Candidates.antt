-- The candidates of a name: the items that it can stand for at one step.
use Rattle.std.specs.Prelude.{◌≡◌, ◌≤◌, ◌&&◌, ℕ, Bool, true, false, not, List, [], ◌∷◌, Option, Some, None, filter, length, nat_eq}
use Rattle.std.specs.List.{slice_get}
use Rattle.declarations.specs.declared.names.Item.{Item}
use Rattle.declaration_parser.specs.declared.items.Kind.{Kind}
use Rattle.declaration_parser.specs.declared.items.Kind.TheVariants as kind
use Rattle.declaration_parser.specs.declared.items.Scope.{Scope}
use Rattle.declarations.specs.declared.names.What.{What}
use Rattle.declarations.specs.declared.names.What.TheVariants as what
use Rattle.declarations.specs.declared.names.candidates.Only.{Only}
use Rattle.declarations.specs.declared.names.candidates.Only.TheVariants as only
use Rattle.declarations.specs.declared.names.candidates.Space.{Space}
use Rattle.declarations.specs.declared.names.candidates.Space.TheVariants as space
use Rattle.declarations.specs.declared.names.candidates.Step.{Step}
use Rattle.declarations.specs.declared.names.candidates.Step.TheVariants as step

-- whether a scope is a module, whose names others see
abbrev pub is_module_kind : Kind → Bool
is_module_kind kind.File = true
is_module_kind kind.Module = true
is_module_kind kind.Outline = false
is_module_kind kind.Misnamed = false
is_module_kind kind.Conditional = false
is_module_kind kind.Elsewhere = false
is_module_kind kind.Body = false
is_module_kind kind.Impl = false

-- whether a scope, which is at this place, is one of a step's
abbrev pub is_of_step : Step → ℕ → Scope → Bool
is_of_step (step.Scope own) place scope = nat_eq place own
is_of_step step.All place scope = is_module_kind scope.kind
is_of_step (step.Module name) place scope = is_module_kind scope.kind && nat_eq scope.name name
is_of_step step.Bodies place scope = not (is_module_kind scope.kind)

-- whether there is a scope at a place, and it is one of a step's
abbrev pub is_place_of_step : Step → ℕ → Option Scope → Bool
is_place_of_step step place None = false
is_place_of_step step place (Some scope) = is_of_step step place scope

-- whether an item is a constant
abbrev pub is_constant_item : What → Bool
is_constant_item (what.Constant of value) = true
is_constant_item (what.RefusedConstant why) = true
is_constant_item _ = false

-- whether an item is a type that can be asked for
abbrev pub is_asked_item : What → Bool
is_asked_item (what.Marked place) = true
is_asked_item (what.Alias words) = true
is_asked_item _ = false

-- whether an item is what a name is looked for as
abbrev pub is_item_of : Space → What → Bool
is_item_of space.Types it = not (is_constant_item it)
is_item_of space.Constants it = is_constant_item it
is_item_of space.Asked it = is_asked_item it
is_item_of space.Roots it = not (is_constant_item it)
is_item_of space.Modules it = not (is_constant_item it)

-- whether an item has a name, is what the name is looked for as, and is in one of a step's scopes
abbrev pub is_candidate : List Scope → Step → ℕ → Space → Item → Bool
is_candidate scopes step name space item =
    nat_eq item.name name && is_item_of space item.what
    && is_place_of_step step item.scope (slice_get scopes item.scope)

-- the candidates of a step among items
abbrev pub candidates : List Scope → Step → ℕ → Space → List Item → List Item
candidates scopes step name space items = filter (is_candidate scopes step name space) items

-- what is told of candidates: that there are none, which is the only one, or that there are more
abbrev pub TellsOnly : Only → List Item → Type 0
TellsOnly only.Nothing found = found ≡ []
TellsOnly (only.One item) found = found ≡ item ∷ []
TellsOnly only.Two found = 2 ≤ length found
