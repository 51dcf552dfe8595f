-- What is visible in a text, and what its body sees by number: kinds, roots of paths, and the actions that aren't called.
use Rattle.program_laws.specs.Common.{ℕ, Bool, true, false, List, Option, Some, None, Scope, Seen, SeenKind, Table, ActionHead, action_named, seen}
use Rattle.std.specs.Prelude.{◌≡◌, ◌&&◌, ◌-◌, ◌==◌}
use Rattle.std.specs.List.{list_any}
use Rattle.typed_program.specs.Mentions.{Mention}
use Rattle.typed_program.specs.Paths.{Kind, Free, Held, Bound, Visible, Root as Begins, Path, visible_at, plain, argument}
use Rattle.type_table.specs.declared.scope.SeenKind.TheVariants as kind
use Rattle.expr_rules.specs.declared.asked.Paths.{Paths}
use Rattle.expr_rules.specs.declared.asked.Paths.TheVariants as paths
use Rattle.expr_rules.specs.declared.placed.Root.{Root}
use Rattle.expr_rules.specs.Calls.{is_callback}
use Rattle.expr_rules.specs.Places.{is_global, is_fixed}
use Rattle.expr_rules.specs.Shapes.{is_known_reference}

-- ---- names

-- how a body sees a name of this kind
abbrev pub kind_seen : SeenKind → Kind
kind_seen kind.Bound = Bound
kind_seen kind.Param = Held
kind_seen kind.Loop = Held
kind_seen k = Free

-- a name of the body around a callback, that isn't a co-assignment
abbrev pub is_outer : SeenKind → Bool
is_outer kind.OuterLocal = true
is_outer kind.OuterFixed = true
is_outer k = false

-- one that a callback may not name
abbrev pub is_barred : Seen → Bool
is_barred s = is_outer s.kind && is_known_reference s.shape

-- a co-assignment is of reference type
abbrev pub bound_refers : SeenKind → Bool → Bool
bound_refers kind.Bound reference = reference
bound_refers k reference = true

-- the body sees this name by its number
pub record SeesName (visible : List Visible) (s : Seen) : Type 0 where
  pub at : Visible
  pub is_at : visible_at visible s.number ≡ Some at
  pub kind : at.kind ≡ kind_seen s.kind
  pub refers : bound_refers s.kind (is_known_reference s.shape) ≡ true

-- of the visible names, globals aside, those that pass a test and may be named
pub record SeesNamed (visible : List Visible) (scope : Scope) (named : List ℕ → Bool) : Type 0 where
  pub sees_at : (name : List ℕ) (s : Seen) → named name ≡ true → seen scope name ≡ Some s → is_global s.kind ≡ false → is_barred s ≡ false → SeesName visible s

-- actions of other names than `onload` and `ondie` have other numbers than those
pub record KeepsSpecial (table : Table) (scope : Scope) (special : List ℕ) : Type 0 where
  pub apart : (name : List ℕ) (head : ActionHead) → action_named table scope name ≡ Some head → is_callback name ≡ false → list_any (λ m. m == head.number) special ≡ false

-- ---- paths

-- where a path begins in the text, and in the typed tree
abbrev pub SameRoot : Option Root → Option Begins → Type 0
SameRoot None None = Unit {0}
SameRoot (Some root) (Some begins) = (begins.stays ≡ is_fixed root) × (begins.global ≡ is_global root.kind) × (root.left ≡ 64 - begins.steps)
SameRoot root begins = ⊥

-- what a place permits, of the typed tree
abbrev pub permitted : Paths → Path → Bool
permitted paths.Free p = p.lawful
permitted paths.NotOfGlobals p = argument p
permitted paths.Refused p = plain p

-- ---- mentions

-- what names these names in the text mentions them by number in the body, and none of them is barred
pub record Mentioned (scope : Scope) (named : List ℕ → Bool) (mention : Mention) : Type 0 where
  pub mentioned : (name : List ℕ) (s : Seen) → named name ≡ true → seen scope name ≡ Some s → is_global s.kind ≡ false → (mention s.number ≡ true) × (is_barred s ≡ false)
