-- What goes through a body: the names that are visible, the locals of the body and of its whole action, and the sites.
use Rattle.std.specs.Prelude.{ℕ, ◌+◌, min, Bool, true, false, ◌&&◌, not, nat_le, nat_lt, count_by, List, [], ◌∷◌, ◌++◌, length, map, drop, Option, Some, None, is_some, slice_get, option_copied, if◌then◌else◌, codes}
use Rattle.std.specs.List.{filter, insert}
use Rattle.std.specs.Str.{bytes_eq}
use Rattle.epl_values.specs.declared.shape.Shape.{Shape}
use Rattle.epl_values.specs.declared.shape.Shape.TheVariants as shape
use Rattle.epl_tree.specs.declared.event.EventExpr.{EventExpr}
use Rattle.epl_tree.specs.declared.name.Name.{Name}
use Rattle.typed_program.specs.declared.program.Local.{Local}
use Rattle.typed_program.specs.declared.program.Site.{Site}
use Rattle.typed_program.specs.declared.program.TypedTerm.{TypedTerm}
use Rattle.typed_program.specs.declared.statement.Stmt.{Stmt}
use Rattle.type_table.specs.declared.table.Table.{Table}
use Rattle.type_table.specs.declared.table.MonitorHead.{MonitorHead}
use Rattle.type_table.specs.declared.table.ActionHead.{ActionHead}
use Rattle.type_table.specs.declared.scope.Scope.{Scope}
use Rattle.type_table.specs.declared.scope.Seen.{Seen}
use Rattle.type_table.specs.declared.scope.SeenKind.{SeenKind}
use Rattle.type_table.specs.declared.scope.SeenKind.TheVariants as kind
use Rattle.type_table.specs.Scopes.{with_seen, cut_to}
use Rattle.type_table.specs.Table.{seen_of, action_of}
use Rattle.listener_check.specs.Bound.{inner_of}
use Rattle.stmt_check.specs.declared.body.Body.{Body}
use Rattle.stmt_check.specs.declared.state.State.{State}
use Rattle.stmt_check.specs.Captures.{Names}
use Rattle.stmt_check.specs.Steps.{After, Reads, ◌>>=◌, tells, changes, within}

-- a body: its program, how many actions there are with its own, how many callbacks it stands in, the shape of its result,
-- and whether it is a loop's
pub record Around : Type 0 where
  pub table : Table
  pub bodies : ℕ
  pub callbacks : ℕ
  pub result : Option Shape
  pub looped : Bool

abbrev pub around_of : Body → Around
around_of body = record { table = body.table.now; bodies = body.bodies; callbacks = body.callbacks; result = option_copied body.result; looped = body.looped }

abbrev pub in_loop : Around → Around
in_loop around = record around { looped = true }

-- a code where there is cause for it
abbrev pub when : Bool → ℕ → List ℕ
when true code = code ∷ []
when false code = []

-- a number, where no program that is accepted has one past 65,535
abbrev pub short : ℕ → ℕ
short n = min 65535 n

-- a callback has no result, and is no loop's
abbrev pub in_callback : Around → Around
in_callback around = record around { callbacks = short (around.callbacks + 1); result = None; looped = false }

abbrev pub known_shape : Option Shape → Shape
known_shape (Some s) = s
known_shape None = shape.Integer

-- ---- locals

-- 1 for a name that is visible, 4 for the 257th local of an action with its callbacks
abbrev pub local_codes : State → List ℕ → List ℕ
local_codes s name = when (is_some (seen_of s.scope name)) 1 ++ when (nat_le 256 s.whole) 4

abbrev pub counted : State → State
counted s = record s { whole = short (s.whole + 1) }

-- the name of a new local, which is counted here
abbrev pub name_read : Name → Reads State (Unit {0})
name_read name = tells name.spot (λ s. local_codes s name.text) >>= λ _. changes (λ s. record { part = tt; state = counted s })

abbrev pub seen_local : SeenKind → List ℕ → Option Shape → State → Seen
seen_local kind name shape s = record { name = name; shape = shape; kind = kind; number = s.next }

-- a local more of the body, which is visible from here on
abbrev pub with_local : SeenKind → List ℕ → Option Shape → State → State
with_local kind name shape s = record { scope = with_seen s.scope (seen_local kind name shape s); locals = s.locals ++ known_shape shape ∷ []; next = short (s.next + 1); whole = s.whole; sites = s.sites }

-- the number of a local more
abbrev pub local_read : SeenKind → List ℕ → Option Shape → Reads State ℕ
local_read kind name shape = changes (λ s. record { part = s.next; state = with_local kind name shape s })

-- the names that were visible before
abbrev pub left : State → State → State
left before s = record s { scope = cut_to s.scope (length before.scope.names) }

-- what a part declares is visible in it alone
abbrev pub scoped : {A : Type 0} → Reads State A → Reads State A
scoped m = within (λ s. s) (λ s after. record after { state = left s after.state }) m

-- ---- callbacks

abbrev pub is_global : SeenKind → Bool
is_global kind.Global = true
is_global k = false

-- the visible names, globals aside, that the callback names; they stand in ascending order of their numbers
abbrev pub captured_in : Names → List Seen → List Seen
captured_in named names = filter (λ s. not (is_global s.kind) && named s.name) names

abbrev pub outer_kind : SeenKind → SeenKind
outer_kind kind.Bound = kind.Bound
outer_kind kind.Local = kind.OuterLocal
outer_kind kind.OuterLocal = kind.OuterLocal
outer_kind k = kind.OuterFixed

abbrev pub place_among : List Seen → ℕ → ℕ
place_among captured number = count_by (λ c. nat_lt c.number number) captured

-- an outer name in the callback: its number is its place among the captured ones, or that which it would have
unfoldable pub outer_seen : List Seen → Seen → Seen
outer_seen captured s = if is_global s.kind then s else record s { kind = outer_kind s.kind; number = short (place_among captured s.number) }

-- a bound name, behind the captured ones
abbrev pub bound_seen : List Seen → Seen → Seen
bound_seen captured s = record s { number = short (length captured + s.number) }

-- the names that the event expression binds
abbrev pub bound_in : Table → Scope → EventExpr → List Seen
bound_in table scope event = drop (length scope.names) (inner_of table scope event).names

abbrev pub callback_scope : Scope → List Seen → List Seen → Scope
callback_scope scope captured bound = record scope { names = map (outer_seen captured) scope.names ++ map (bound_seen captured) bound }

-- where a callback begins
abbrev pub callback_start : List Seen → List Seen → State → State
callback_start captured bound s = record { scope = callback_scope s.scope captured bound; locals = []; next = short (length captured + length bound); whole = s.whole; sites = s.sites }

abbrev pub local_of : Seen → Local
local_of s = record { number = s.number; shape = known_shape s.shape }

abbrev pub site_of : TypedTerm → List Seen → State → After State Stmt → Site
site_of term captured s after = record { monitor = s.scope.monitor; term = term.term; operands = term.operands; captured = map local_of captured; bound = term.bound; locals = after.state.locals; body = after.part ∷ [] }

-- the number of the next site: the sites that are made, and those whose callbacks are being read
abbrev pub site_number : Around → State → ℕ
site_number around s = short (around.callbacks + length s.sites)

-- a site stands before those of its callback
abbrev pub with_site : Site → State → State → State
with_site site s after = record s { whole = after.whole; sites = insert after.sites (length s.sites) site }

abbrev pub callback_end : Around → TypedTerm → List Seen → State → After State Stmt → After State ℕ
callback_end around term captured s after = record { part = site_number around s; state = with_site (site_of term captured s after) s after.state }

-- ---- actions

abbrev pub action_in : Option MonitorHead → List ℕ → Option ActionHead
action_in None name = None
action_in (Some monitor) name = elim (action_of monitor name) [ None ↦ None | Some at ↦ slice_get monitor.actions at ]

-- the first action of a name in a monitor
abbrev pub action_named : Table → ℕ → List ℕ → Option ActionHead
action_named table monitor name = action_in (slice_get table.monitors monitor) name

abbrev pub is_special : List ℕ → Bool
is_special name = if bytes_eq name (codes "onload") then true else bytes_eq name (codes "ondie")
