-- What event types hold at any depth, through collections and through other event types. A chain of event types without a
-- cycle is at most as long as there are types, so chains of that many steps show all.
use Rattle.std.specs.Prelude.{ℕ, zero, suc, ◌+◌, min, Bool, true, false, ◌||◌, List, Option, Some, None, length, map, ◌&&◌, slice_index_or}
use Rattle.std.specs.List.{list_any, sum_by}
use Rattle.std.specs.Str.{bytes_eq}
use Rattle.epl_tree.specs.declared.unit.EventDecl.{EventDecl}
use Rattle.epl_tree.specs.declared.types.TypeExpr.{TypeExpr, TypeExpr-F, fold-TypeExpr}
use Rattle.epl_tree.specs.declared.types.TypeNode.{TypeNode, TypeNode-F, out-TypeNode}
use Rattle.epl_tree.specs.declared.types.TypeNode.TheOpen as node
use Rattle.type_table.specs.Names.{number_in}
use Rattle.type_table.specs.Kinds.{names_of, event_named}

-- whether a type as it is written is met at any depth of collections: an event type by its name, contexts and listeners by link
module _ (link : Bool) (event : List ℕ → Bool) where
  abbrev pub met_node : TypeNode-F Bool Bool → Bool
  met_node node.Integer = false
  met_node node.Boolean = false
  met_node node.Text = false
  met_node node.Context = link
  met_node node.Listener = link
  met_node (node.Named name) = event name
  met_node (node.Sequence item) = item
  met_node (node.Dictionary key value) = key || value

  abbrev pub met_step : TypeExpr-F Bool Bool → Bool
  met_step t = t.node

  abbrev pub met : TypeExpr → Bool
  met = fold-TypeExpr Bool Bool met_node met_step

-- a fact of the event type of a name, and another one where there is none
abbrev pub at_event : {A : Type 0} → A → (EventDecl → A) → Option EventDecl → A
at_event other f None = other
at_event other f (Some e) = f e

abbrev pub any_field : (TypeExpr → Bool) → EventDecl → Bool
any_field test e = list_any (λ f. test f.shape) e.fields

-- whether a chain of at most so many event types leads from a name to a leaf: to a context or listener by link, to an event
-- type by aim; start stands for what is behind longer chains
module _ (kinds : List EventDecl) (start : Bool) (link : Bool) (aim : List ℕ → Bool) where
  unfoldable pub leads : ℕ → List ℕ → Bool
  leads zero name = at_event false (λ e. start) (event_named kinds name)
  leads (suc steps) name = at_event false (any_field (met link (λ n. aim n || leads steps n))) (event_named kinds name)

module _ (kinds : List EventDecl) where
  -- whether a context or a listener is in a type
  abbrev pub holds : TypeExpr → Bool
  holds = met true (leads kinds false true (λ name. false) (length kinds))

  -- whether the event type of a name contains itself
  abbrev pub contains_itself : List ℕ → Bool
  contains_itself name = leads kinds false false (bytes_eq name) (length kinds) name

abbrev pub nested_layer : (List ℕ → ℕ) → TypeNode-F TypeNode TypeExpr → ℕ
nested_layer width (node.Named name) = width name
nested_layer width n = 0

-- the fields that a field of this type counts for: itself, and those of its event type
abbrev pub field_count : (List ℕ → ℕ) → TypeExpr → ℕ
field_count width t = 1 + nested_layer width (out-TypeNode t.node)

module _ (kinds : List EventDecl) where
  -- the fields of the event type of a name, nested ones counted through; more than 256 count as 257, and so does a cycle
  unfoldable pub width : ℕ → List ℕ → ℕ
  width zero name = at_event 0 (λ e. 257) (event_named kinds name)
  width (suc steps) name = at_event 0 (λ e. min 257 (sum_by (λ f. field_count (width steps) f.shape) e.fields)) (event_named kinds name)

  abbrev pub whole_width : List ℕ → ℕ
  whole_width = width (length kinds)

-- what a table of the event types says of one, by its number
abbrev pub at_number : {A : Type 0} → A → List A → Option ℕ → A
at_number other table None = other
at_number other table (Some n) = slice_index_or table n other

-- a step, so many times
abbrev pub turns : {A : Type 0} → ℕ → (A → A) → A → A
turns zero step x = x
turns (suc n) step x = turns n step (step x)

-- an event type that is aimed at, if one is
abbrev pub aim_of : Bool → List ℕ → List ℕ → Bool
aim_of aims target name = aims && bytes_eq target name

-- whether a chain begins at an event type, where these are the names and this is what is known of each
unfoldable pub begins : Bool → (List ℕ → Bool) → List (List ℕ) → List Bool → EventDecl → Bool
begins link aim names table = any_field (met link (λ n. aim n || at_number false table (number_in names n)))

-- the fields of an event type, where this is known of each
unfoldable pub fields_by : List (List ℕ) → List ℕ → EventDecl → ℕ
fields_by names table e = min 257 (sum_by (λ f. field_count (λ n. at_number 0 table (number_in names n)) f.shape) e.fields)

module _ (kinds : List EventDecl) where
  -- chains of one more event type, from a table of those that are known
  abbrev pub leads_on : Bool → (List ℕ → Bool) → List Bool → List Bool
  leads_on link aim table = map (begins link aim (names_of kinds) table) kinds

  abbrev pub wider : List ℕ → List ℕ
  wider table = map (fields_by (names_of kinds) table) kinds
